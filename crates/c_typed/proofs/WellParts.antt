-- What stands before a place fits a context, and what holds of the value of a part that breaks no rule.
use Rattle.std.proofs.Common.{◌≡◌, ℕ, ◌<◌, Bool, true, false, List, [], ◌∷◌, ◌++◌, length, Option, Some, None, refl, ap, sym, ◌∙◌, subst}
use Rattle.std.specs.Prelude.{slice_get, nat_eq}
use Rattle.dfi_base.specs.declared.numbers.Line.{Line}
use Rattle.c_typed.specs.Types.{place_of}
use Rattle.c_typed.specs.Marks.{Mark, local, opens, closes, History, Variable, locals_in, result_at, has_tag}
use Rattle.c_typed.specs.Whole.{Whole}
use Rattle.c_typed.specs.Faults.{Rule, Fault}
use Rattle.c_typed.specs.Parts.{Place, Part, marked, tokens, given, joined, behind, both_values, kept_by, ruled_by, obeys, refused, ◌<$>◌}
use Rattle.c_typed.specs.tools.Scopes.{Binding, Scopes, bound, left, scopes_of, find_in, find}
use Rattle.c_typed.specs.IsWell.{Context}
use Rattle.c_typed.proofs.Quiet.{no_marks}

-- Options and lists.
abbrev Is : {A : Type 0} → Option A → Type 0
Is None = ⊥
Is (Some a) = Unit {0}

pub none_some : {A : Type 0} {a : A} → None ≡ Some a → ⊥
none_some {A} {a} e = subst Is (sym e) tt

pub some_is : {A : Type 0} {a b : A} → Some a ≡ Some b → a ≡ b
some_is {A} {a} {b} e = ap (λ o. elim o [ None ↦ a | Some x ↦ x ]) e

abbrev IsEmpty : {A : Type 0} → List A → Type 0
IsEmpty [] = Unit {0}
IsEmpty (x ∷ xs) = ⊥

pub none_first : {A : Type 0} (xs ys : List A) → xs ++ ys ≡ [] → xs ≡ []
none_first [] ys e = refl
none_first (x ∷ xs) ys e = absurd (subst IsEmpty (sym e) tt)

pub none_second : {A : Type 0} (xs ys : List A) → xs ++ ys ≡ [] → ys ≡ []
none_second [] ys e = e
none_second (x ∷ xs) ys e = absurd (subst IsEmpty (sym e) tt)

pub none_each : {A : Type 0} {x : A} {xs : List A} → x ∷ xs ≡ [] → ⊥
none_each e = subst IsEmpty (sym e) tt

-- A variable of a context, in the scopes of a history.
abbrev pub IsBound : Context → Variable → Type 0
IsBound c (Variable.global k t) = slice_get c.globals k ≡ Some t
IsBound c (Variable.local k t) = slice_get c.variables k ≡ Some t

abbrev pub AllBound : Context → List Binding → Type 0
AllBound c [] = Unit {0}
AllBound c (b ∷ bs) = IsBound c b.variable × AllBound c bs

abbrev pub AllScopes : Context → Scopes → Type 0
AllScopes c [] = Unit {0}
AllScopes c (s ∷ ss) = AllBound c s × AllScopes c ss

pub record Stands (w : Whole) (c : Context) (h : History) : Type 0 where
  pub scopes : AllScopes c (scopes_of h)
  pub result : result_at h ≡ c.result
  pub tags : (x : ℕ) → has_tag x h ≡ true → place_of x w.tags < length w.tags

chosen_in : (c : Context) (b : Binding) (o : Option Variable) (v : Variable) (t : Bool) → IsBound c b.variable → (o ≡ Some v → IsBound c v) → elim t [ true ↦ Some b.variable | false ↦ o ] ≡ Some v → IsBound c v
chosen_in c b o v true is rest e = subst (IsBound c) (some_is e) is
chosen_in c b o v false is rest e = rest e

found_in : (c : Context) (x : ℕ) (bs : List Binding) (v : Variable) → AllBound c bs → find_in x bs ≡ Some v → IsBound c v
found_in c x [] v all e = absurd (none_some e)
found_in c x (b ∷ bs) v all e = chosen_in c b (find_in x bs) v (nat_eq x b.name) all.0 (found_in c x bs v all.1) e

else_found : (c : Context) (o p : Option Variable) (v : Variable) → ((u : Variable) → o ≡ Some u → IsBound c u) → (p ≡ Some v → IsBound c v) → elim o [ Some u ↦ Some u | None ↦ p ] ≡ Some v → IsBound c v
else_found c None p v first rest e = rest e
else_found c (Some u) p v first rest e = subst (IsBound c) (some_is e) (first u refl)

pub found_bound : (c : Context) (x : ℕ) (ss : Scopes) (v : Variable) → AllScopes c ss → find x ss ≡ Some v → IsBound c v
found_bound c x [] v all e = absurd (none_some e)
found_bound c x (s ∷ ss) v all e = else_found c (find_in x s) (find x ss) v (λ u is. found_in c x s u all.0 is) (found_bound c x ss v all.1) e

-- The variables that marks declare are those of the context.
abbrev pub Kept : Context → History → List Mark → Type 0
Kept c h [] = Unit {0}
Kept c h (local x t ∷ ms) = (slice_get c.variables (locals_in h) ≡ Some t) × Kept c (local x t ∷ h) ms
Kept c h (opens o ∷ ms) = Kept c (opens o ∷ h) ms
Kept c h (closes ∷ ms) = Kept c (closes ∷ h) ms
Kept c h (_ ∷ ms) = ⊥

pub kept_first : (c : Context) (h : History) (ms ns : List Mark) → Kept c h (ms ++ ns) → Kept c h ms
kept_first c h [] ns is = tt
kept_first c h (local x t ∷ ms) ns is = (is.0, kept_first c (local x t ∷ h) ms ns is.1)
kept_first c h (opens o ∷ ms) ns is = kept_first c (opens o ∷ h) ms ns is
kept_first c h (closes ∷ ms) ns is = kept_first c (closes ∷ h) ms ns is
kept_first c h (_ ∷ ms) ns is = absurd is

pub kept_second : (c : Context) (h : History) (ms ns : List Mark) → Kept c h (ms ++ ns) → Kept c (marked ms h) ns
kept_second c h [] ns is = is
kept_second c h (local x t ∷ ms) ns is = kept_second c (local x t ∷ h) ms ns is.1
kept_second c h (opens o ∷ ms) ns is = kept_second c (opens o ∷ h) ms ns is
kept_second c h (closes ∷ ms) ns is = kept_second c (closes ∷ h) ms ns is
kept_second c h (_ ∷ ms) ns is = absurd is

left_scopes : (c : Context) (ss : Scopes) → AllScopes c ss → AllScopes c (left ss)
left_scopes c [] all = tt
left_scopes c (s ∷ ss) all = all.1

bound_scopes : (c : Context) (b : Binding) (ss : Scopes) → IsBound c b.variable → AllScopes c ss → AllScopes c (bound b ss)
bound_scopes c b [] is all = ((is, tt), tt)
bound_scopes c b (s ∷ ss) is all = ((is, all.0), all.1)

pub stands_behind : (w : Whole) (c : Context) (h : History) (ms : List Mark) → Stands w c h → Kept c h ms → Stands w c (marked ms h)
stands_behind w c h [] is kept = is
stands_behind w c h (local x t ∷ ms) is kept =
    stands_behind w c (local x t ∷ h) ms (record { scopes = bound_scopes c _ (scopes_of h) kept.0 is.scopes; result = is.result; tags = is.tags }) kept.1
stands_behind w c h (opens o ∷ ms) is kept = stands_behind w c (opens o ∷ h) ms (record { scopes = (tt, is.scopes); result = is.result; tags = is.tags }) kept
stands_behind w c h (closes ∷ ms) is kept = stands_behind w c (closes ∷ h) ms (record { scopes = left_scopes c (scopes_of h) is.scopes; result = is.result; tags = is.tags }) kept
stands_behind w c h (_ ∷ ms) is kept = absurd kept

-- Values of two parts.
pub record BothAre {A B C : Type 0} (f : A → B → C) (o : Option A) (p : Option B) (x : C) : Type 0 where
  pub first : A
  pub second : B
  pub left : o ≡ Some first
  pub right : p ≡ Some second
  pub whole : f first second ≡ x

pub both_are : {A B C : Type 0} (f : A → B → C) (o : Option A) (p : Option B) (x : C) → both_values f o p ≡ Some x → BothAre f o p x
both_are f None p x e = absurd (none_some e)
both_are f (Some a) None x e = absurd (none_some e)
both_are f (Some a) (Some b) x e = record { first = a; second = b; left = refl; right = refl; whole = some_is e }

pub record ChangedIs {A B : Type 0} (f : A → B) (o : Option A) (x : B) : Type 0 where
  pub value : A
  pub there : o ≡ Some value
  pub whole : f value ≡ x

pub changed_is : {A B : Type 0} (f : A → B) (o : Option A) (x : B) → elim o as (λ o. Option B) [ None ↦ None | Some a ↦ Some (f a) ] ≡ Some x → ChangedIs f o x
changed_is f None x e = absurd (none_some e)
changed_is f (Some a) x e = record { value = a; there = refl; whole = some_is e }

-- A rule that was kept.
pub record KeptIs {A B : Type 0} (keeps : A → Option B) (o : Option A) (x : B) : Type 0 where
  pub value : A
  pub there : o ≡ Some value
  pub kept : keeps value ≡ Some x

kept_is : {A B : Type 0} (rule : Rule) (line : Line) (keeps : A → Option B) (at : ℕ) (fs : List Fault) (a : A) (k : Option B) (x : B)
    → keeps a ≡ k → (kept_by rule line at fs k).value ≡ Some x → keeps a ≡ Some x
kept_is rule line keeps at fs a None x is e = absurd (none_some e)
kept_is rule line keeps at fs a (Some b) x is e = is ∙ e

pub ruled_is : {A B : Type 0} (rule : Rule) (line : Line) (keeps : A → Option B) (at : ℕ) (fs : List Fault) (o : Option A) (x : B) → (ruled_by rule line keeps at fs o).value ≡ Some x → KeptIs keeps o x
ruled_is rule line keeps at fs None x e = absurd (none_some e)
ruled_is rule line keeps at fs (Some a) x e = record { value = a; there = refl; kept = kept_is rule line keeps at fs a (keeps a) x refl e }

kept_faults : {B : Type 0} (rule : Rule) (line : Line) (at : ℕ) (fs : List Fault) (k : Option B) → (kept_by rule line at fs k).faults ≡ [] → fs ≡ []
kept_faults rule line at fs None e = absurd (none_each e)
kept_faults rule line at fs (Some b) e = e

pub ruled_faults : {A B : Type 0} (rule : Rule) (line : Line) (keeps : A → Option B) (at : ℕ) (fs : List Fault) (o : Option A) → (ruled_by rule line keeps at fs o).faults ≡ [] → fs ≡ []
ruled_faults rule line keeps at fs None e = e
ruled_faults rule line keeps at fs (Some a) e = kept_faults rule line at fs (keeps a) e

-- Parts that leave no marks: their value, if they have one, is so.
pub record Pure (w : Whole) (c : Context) {A : Type 0} (p : Part A) (Q : A → Type 0) : Type 0 where
  pub quiet : p.marks ≡ []
  pub sound : (here : Place) → Stands w c here.before → (a : A) → (p.judge here).value ≡ Some a → Q a

module _ (w : Whole) (c : Context) where
  pub pure_tokens : (n : ℕ) → Pure w c (tokens n) (λ u. Unit {0})
  pure_tokens n = record { quiet = refl; sound = λ here is a e. tt }

  pub pure_given : {A : Type 0} {Q : A → Type 0} (a : A) → Q a → Pure w c (given a) Q
  pure_given {A} {Q} a is = record { quiet = refl; sound = λ here st b e. subst Q (some_is e) is }

  pub pure_joined : {A B C : Type 0} (f : A → B → C) (p : Part A) (q : Part B) {P : A → Type 0} {Q : B → Type 0} {R : C → Type 0}
      → Pure w c p P → Pure w c q Q → ((a : A) (b : B) → P a → Q b → R (f a b)) → Pure w c (joined f p q) R
  pure_joined f p q {P} {Q} {R} is that all = record {
    quiet = no_marks is.quiet that.quiet;
    sound = λ here st x e.
        let v = both_are f (p.judge here).value (q.judge (behind p here)).value x e in
        subst R v.whole (all v.first v.second (is.sound here st v.first v.left)
        (that.sound (behind p here) (subst (λ ms. Stands w c (marked ms here.before)) (sym is.quiet) st) v.second v.right));
  }

  pub pure_map : {A B : Type 0} (f : A → B) (p : Part A) {P : A → Type 0} {Q : B → Type 0} → Pure w c p P → ((a : A) → P a → Q (f a)) → Pure w c (f <$> p) Q
  pure_map f p {P} {Q} is all = record {
    quiet = is.quiet;
    sound = λ here st x e. let v = changed_is f (p.judge here).value x e in subst Q v.whole (all v.value (is.sound here st v.value v.there));
  }

  pub pure_obeys : {A B : Type 0} (rule : Rule) (line : Line) (keeps : History → A → Option B) (p : Part A) {P : A → Type 0} {Q : B → Type 0}
      → Pure w c p P → ((h : History) (a : A) (b : B) → Stands w c h → P a → keeps h a ≡ Some b → Q b) → Pure w c (obeys rule line keeps p) Q
  pure_obeys rule line keeps p {P} {Q} is all = record {
    quiet = is.quiet;
    sound = λ here st x e.
        let v = ruled_is rule line (keeps here.before) here.at (p.judge here).faults (p.judge here).value x e in
        all here.before v.value x st (is.sound here st v.value v.there) v.kept;
  }

  pub pure_refused : {A B : Type 0} (rule : Rule) (line : Line) (p : Part A) {Q : B → Type 0} → p.marks ≡ [] → Pure w c (refused {A = A} {B = B} rule line p) Q
  pure_refused rule line p quiet = record { quiet = quiet; sound = λ here st x e. absurd (none_some e) }

  pub pure_weaker : {A : Type 0} (p : Part A) {P Q : A → Type 0} → Pure w c p P → ((a : A) → P a → Q a) → Pure w c p Q
  pure_weaker p is all = record { quiet = is.quiet; sound = λ here st x e. all x (is.sound here st x e) }
