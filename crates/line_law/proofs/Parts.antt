-- Parts whose faults are so, and how they are put together.
use Rattle.std.proofs.Common.{◌≡◌, ℕ, ◌+◌, ◌<◌, ◌≤◌, ◌⊎◌, inl, inr, Bool, true, false, List, [], ◌∷◌, ◌++◌, map, Option, Some, None, refl, sym, ap, subst, ◌∙◌, arith, true≢false}
use Rattle.std.specs.Prelude.{is_some}
use Rattle.dfi_base.specs.declared.numbers.Line.{Line}
use Rattle.c_typed.specs.Marks.{Mark, History}
use Rattle.c_typed.specs.Faults.{Rule, Fault, unless}
use Rattle.c_typed.specs.Parts.{Place, Part, both_values, tokens, mark, given, joined, behind, kept_by, ruled_by, obeys, refused, with_faults, separated, in_turn, ◌⊗◌, ◌<⊗◌, ◌⊗>◌, ◌<$>◌}
use Rattle.line_law.proofs.Lined.{IsIn, in_append, AreLined, AreCross, IsLined, none, one, wider, together, apart, unless_at, lined_at}

pub none_some : {A : Type 0} {a : A} → None ≡ Some a → ⊥
none_some {A} {a} e = true≢false (sym (ap (λ (o : Option A). is_some o) e))

pub nothing_in : (f : Fault) (fs : List Fault) → fs ≡ [] → IsIn f fs → ⊥
nothing_in f fs e is = subst (λ xs. IsIn f xs) e is

pub record IsInside {A : Type 0} (p : Part A) : Type 0 where
  pub within : (here : Place) → IsLined here.at (here.at + p.tokens) (p.judge here).faults

-- and where it has a value it has no fault
pub record IsClean {A : Type 0} (p : Part A) : Type 0 where
  pub within : (here : Place) → IsLined here.at (here.at + p.tokens) (p.judge here).faults
  pub clean : (here : Place) (a : A) → (p.judge here).value ≡ Some a → (p.judge here).faults ≡ []

-- with at least one token, at which a rule of the whole may be told
pub record IsBounded {A : Type 0} (p : Part A) : Type 0 where
  pub within : (here : Place) → IsLined here.at (here.at + p.tokens) (p.judge here).faults
  pub clean : (here : Place) (a : A) → (p.judge here).value ≡ Some a → (p.judge here).faults ≡ []
  pub more : 0 < p.tokens

pub loose : {A : Type 0} (p : Part A) → IsBounded p → IsClean p
loose p is = record { within = is.within; clean = is.clean }

pub inside : {A : Type 0} (p : Part A) → IsBounded p → IsInside p
inside p is = record { within = is.within }

pub clean_inside : {A : Type 0} (p : Part A) → IsClean p → IsInside p
clean_inside p is = record { within = is.within }

pub clean_tokens : (n : ℕ) → IsClean (tokens n)
clean_tokens n = record { within = λ here. none here.at (here.at + n); clean = λ here a e. refl }

pub clean_given : {A : Type 0} (a : A) → IsClean (given a)
clean_given a = record { within = λ here. none here.at (here.at + 0); clean = λ here b e. refl }

pub inside_tokens : (n : ℕ) → IsInside (tokens n)
inside_tokens n = record { within = λ here. none here.at (here.at + n) }

pub inside_given : {A : Type 0} (a : A) → IsInside (given a)
inside_given a = record { within = λ here. none here.at (here.at + 0) }

pub inside_mark : (m : Mark) → IsInside (mark m)
inside_mark m = record { within = λ here. none here.at (here.at + 0) }

pub inside_joined : {A B C : Type 0} (f : A → B → C) (p : Part A) (q : Part B) → IsInside p → IsInside q → IsInside (joined f p q)
inside_joined f p q is that = record {
  within = λ here.
      apart {middle = here.at + p.tokens} (omega arith) (omega arith) (is.within here)
      (wider {from = here.at + p.tokens} {to = here.at + p.tokens + q.tokens} (omega arith) (omega arith) (that.within (behind p here)));
}

pub inside_map : {A B : Type 0} (f : A → B) (p : Part A) → IsInside p → IsInside (f <$> p)
inside_map f p is = record { within = λ here. is.within here }

both_clean : {A B C : Type 0} (f : A → B → C) (v : Option A) (u : Option B) (fs gs : List Fault)
    → ((a : A) → v ≡ Some a → fs ≡ []) → ((b : B) → u ≡ Some b → gs ≡ []) → (c : C) → both_values f v u ≡ Some c → fs ++ gs ≡ []
both_clean f (Some a) (Some b) fs gs x y c e = ap (λ l. l ++ gs) (x a refl) ∙ y b refl
both_clean f (Some a) None fs gs x y c e = absurd (none_some e)
both_clean f None u fs gs x y c e = absurd (none_some e)

pub clean_joined : {A B C : Type 0} (f : A → B → C) (p : Part A) (q : Part B) → IsClean p → IsClean q → IsClean (joined f p q)
clean_joined f p q is that = record {
  within = (inside_joined f p q (clean_inside p is) (clean_inside q that)).within;
  clean = λ here c e.
      both_clean f (p.judge here).value (q.judge (behind p here)).value (p.judge here).faults (q.judge (behind p here)).faults (is.clean here) (that.clean (behind p here)) c e;
}

mapped_clean : {A B : Type 0} (f : A → B) (v : Option A) (fs : List Fault) → ((a : A) → v ≡ Some a → fs ≡ []) → (b : B)
    → elim v as (λ v. Option B) [ None ↦ None | Some a ↦ Some (f a) ] ≡ Some b → fs ≡ []
mapped_clean f None fs x b e = absurd (none_some e)
mapped_clean f (Some a) fs x b e = x a refl

pub clean_map : {A B : Type 0} (f : A → B) (p : Part A) → IsClean p → IsClean (f <$> p)
clean_map f p is = record {
  within = λ here. is.within here;
  clean = λ here b e. mapped_clean f (p.judge here).value (p.judge here).faults (is.clean here) b e;
}

pub bounded_first : {A B C : Type 0} (f : A → B → C) (p : Part A) (q : Part B) → IsBounded p → IsClean q → IsBounded (joined f p q)
bounded_first f p q is that =
    let c = clean_joined f p q (loose p is) that in
    record { within = c.within; clean = c.clean; more = omega (arith, is.more) }

pub bounded_second : {A B C : Type 0} (f : A → B → C) (p : Part A) (q : Part B) → IsClean p → IsBounded q → IsBounded (joined f p q)
bounded_second f p q is that =
    let c = clean_joined f p q is (loose q that) in
    record { within = c.within; clean = c.clean; more = omega (arith, that.more) }

pub bounded_tokens : {B C : Type 0} (f : (Unit {0}) → B → C) (n : ℕ) (q : Part B) → IsClean q → 0 < n → IsBounded (joined f (tokens n) q)
bounded_tokens f n q that more =
    let c = clean_joined f (tokens n) q (clean_tokens n) that in
    record { within = c.within; clean = c.clean; more = omega (arith, more) }

pub bounded_map : {A B : Type 0} (f : A → B) (p : Part A) → IsBounded p → IsBounded (f <$> p)
bounded_map f p is = let c = clean_map f p (loose p is) in record { within = c.within; clean = c.clean; more = is.more }

-- What a rule that is told at the first token must agree with.
abbrev pub IsStart : Rule → Line → ℕ → List Fault → Type 0
IsStart rule line at fs = (f : Fault) → IsIn f fs → f.at ≡ at → f.rule ≡ rule → f.line ≡ line

pub with_first : (rule : Rule) (line : Line) (at to : ℕ) (fs : List Fault) → at < to → IsStart rule line at fs → IsLined at to fs
    → IsLined at to (record { at = at; rule = rule; line = line } ∷ fs)
with_first rule line at to fs less start is =
    together {fs = record { at = at; rule = rule; line = line } ∷ []} (one at rule line (omega arith) less) is (λ f g h k. by f g h k)
  where
    first : Fault
    first = record { at = at; rule = rule; line = line }

    told : (f g : Fault) → f ≡ first → IsIn g fs → AreLined f g
    told f g e k a r = ap (λ (x : Fault). x.line) e ∙ sym (start g k (sym a ∙ ap (λ (x : Fault). x.at) e) (sym r ∙ ap (λ (x : Fault). x.rule) e))

    by : AreCross (first ∷ []) fs
    by f g (inl e) k = told f g e k
    by f g (inr h) k = absurd h

-- a rule of the whole
kept_lined : {B : Type 0} (rule : Rule) (line : Line) (at to : ℕ) (fs : List Fault) (o : Option B) → at < to → IsStart rule line at fs → IsLined at to fs
    → IsLined at to (kept_by rule line at fs o).faults
kept_lined rule line at to fs None less start is = with_first rule line at to fs less start is
kept_lined rule line at to fs (Some b) less start is = is

ruled_lined : {A B : Type 0} (rule : Rule) (line : Line) (keeps : A → Option B) (at to : ℕ) (fs : List Fault) (o : Option A) → at < to
    → ((a : A) → o ≡ Some a → IsStart rule line at fs) → IsLined at to fs → IsLined at to (ruled_by rule line keeps at fs o).faults
ruled_lined rule line keeps at to fs None less start is = is
ruled_lined rule line keeps at to fs (Some a) less start is = kept_lined rule line at to fs (keeps a) less (start a refl) is

kept_clean : {B : Type 0} (rule : Rule) (line : Line) (at : ℕ) (fs : List Fault) (o : Option B) → fs ≡ [] → (b : B)
    → (kept_by rule line at fs o).value ≡ Some b → (kept_by rule line at fs o).faults ≡ []
kept_clean rule line at fs None x b e = absurd (none_some e)
kept_clean rule line at fs (Some c) x b e = x

ruled_clean : {A B : Type 0} (rule : Rule) (line : Line) (keeps : A → Option B) (at : ℕ) (fs : List Fault) (o : Option A) → ((a : A) → o ≡ Some a → fs ≡ []) → (b : B)
    → (ruled_by rule line keeps at fs o).value ≡ Some b → (ruled_by rule line keeps at fs o).faults ≡ []
ruled_clean rule line keeps at fs None x b e = absurd (none_some e)
ruled_clean rule line keeps at fs (Some a) x b e = kept_clean rule line at fs (keeps a) (x a refl) b e

pub bounded_obeys : {A B : Type 0} (rule : Rule) (line : Line) (keeps : History → A → Option B) (p : Part A) → IsBounded p → IsBounded (obeys rule line keeps p)
bounded_obeys rule line keeps p is = record {
  within = λ here.
      ruled_lined rule line (keeps here.before) here.at (here.at + p.tokens) (p.judge here).faults (p.judge here).value (omega (arith, is.more))
      (λ a e. λ f h. absurd (nothing_in f (p.judge here).faults (is.clean here a e) h)) (is.within here);
  clean = λ here b e. ruled_clean rule line (keeps here.before) here.at (p.judge here).faults (p.judge here).value (is.clean here) b e;
  more = is.more;
}

-- the faults of a part stand so many tokens behind its start
abbrev pub IsBehind : {A : Type 0} → ℕ → Part A → Type 0
IsBehind n p = (here : Place) (f : Fault) → IsIn f (p.judge here).faults → here.at + n ≤ f.at

pub behind_tokens : (n m : ℕ) → IsBehind n (tokens m)
behind_tokens n m here f is = absurd is

pub behind_first : {A B C : Type 0} (f : A → B → C) (n : ℕ) (p : Part A) (q : Part B) → n ≤ p.tokens → IsBehind n p → IsInside q → IsBehind n (joined f p q)
behind_first f n p q low is that here x h = by (in_append x (p.judge here).faults (q.judge (behind p here)).faults h) where
  by : IsIn x (p.judge here).faults ⊎ IsIn x (q.judge (behind p here)).faults → here.at + n ≤ x.at
  by (inl k) = is here x k
  by (inr k) = let s = (that.within (behind p here)).start x k in omega (arith, s, low)

pub bounded_refused : {A B : Type 0} (rule : Rule) (line : Line) (p : Part A) → IsBounded p → IsBehind 1 p → IsBounded (refused {A = A} {B = B} rule line p)
bounded_refused rule line p is far = record {
  within = λ here.
      with_first rule line here.at (here.at + p.tokens) (p.judge here).faults (omega (arith, is.more))
      (λ f h a r. let x = far here f h in absurd (omega (arith, x, a))) (is.within here);
  clean = λ here b e. absurd (none_some e);
  more = is.more;
}

-- Parts that may have faults beside a value.
abbrev pub Begins : {A : Type 0} → Rule → Line → Part A → Type 0
Begins rule line p = (here : Place) → IsStart rule line here.at (p.judge here).faults

pub begins_behind : {A : Type 0} (rule : Rule) (line : Line) (p : Part A) → IsBehind 1 p → Begins rule line p
begins_behind rule line p far here f h a r = let x = far here f h in absurd (omega (arith, x, a))

pub begins_first : {A B C : Type 0} (f : A → B → C) (rule : Rule) (line : Line) (p : Part A) (q : Part B) → 0 < p.tokens → Begins rule line p → IsInside q
    → Begins rule line (joined f p q)
begins_first f rule line p q more is that here x h a r = by (in_append x (p.judge here).faults (q.judge (behind p here)).faults h) where
  by : IsIn x (p.judge here).faults ⊎ IsIn x (q.judge (behind p here)).faults → x.line ≡ line
  by (inl k) = is here x k a r
  by (inr k) = let s = (that.within (behind p here)).start x k in absurd (omega (arith, s, more, a))

pub inside_obeys : {A B : Type 0} (rule : Rule) (line : Line) (keeps : History → A → Option B) (p : Part A) → 0 < p.tokens → Begins rule line p → IsInside p
    → IsInside (obeys rule line keeps p)
inside_obeys rule line keeps p more begins is = record {
  within = λ here.
      ruled_lined rule line (keeps here.before) here.at (here.at + p.tokens) (p.judge here).faults (p.judge here).value (omega (arith, more))
      (λ a e. begins here) (is.within here);
}

kept_start : {B : Type 0} (own rule : Rule) (line : Line) (at : ℕ) (fs : List Fault) (o : Option B) → IsStart rule line at fs → IsStart rule line at (kept_by own line at fs o).faults
kept_start own rule line at fs (Some b) start f h a r = start f h a r
kept_start own rule line at fs None start f (inl e) a r = ap (λ (x : Fault). x.line) e
kept_start own rule line at fs None start f (inr h) a r = start f h a r

ruled_start : {A B : Type 0} (own rule : Rule) (line : Line) (keeps : A → Option B) (at : ℕ) (fs : List Fault) (o : Option A) → IsStart rule line at fs
    → IsStart rule line at (ruled_by own line keeps at fs o).faults
ruled_start own rule line keeps at fs None start = start
ruled_start own rule line keeps at fs (Some a) start = kept_start own rule line at fs (keeps a) start

pub begins_obeys : {A B : Type 0} (own rule : Rule) (line : Line) (keeps : History → A → Option B) (p : Part A) → Begins rule line p → Begins rule line (obeys own line keeps p)
begins_obeys own rule line keeps p is here = ruled_start own rule line (keeps here.before) here.at (p.judge here).faults (p.judge here).value (is here)

-- Faults beside those of a part.
pub inside_with : {A : Type 0} (faults : Place → List Fault) (p : Part A) → ((here : Place) → IsLined here.at (here.at + p.tokens) (faults here))
    → ((here : Place) → AreCross (faults here) (p.judge here).faults) → IsInside p → IsInside (with_faults faults p)
inside_with faults p is cross that = record { within = λ here. together (is here) (that.within here) (cross here) }

-- a rule at the first token
pub inside_unless : {A : Type 0} (test : Place → Bool) (rule : Rule) (line : Line) (p : Part A) → 0 < p.tokens → Begins rule line p → IsInside p
    → IsInside (with_faults (λ here. unless (test here) here.at rule line) p)
inside_unless test rule line p more begins is =
    inside_with (λ here. unless (test here) here.at rule line) p
    (λ here. lined_at (omega arith) (omega (arith, more)) (unless_at (test here) here.at rule line)) (λ here. by here) is
  where
    by : (here : Place) → AreCross (unless (test here) here.at rule line) (p.judge here).faults
    by here f g h k a r = by_test (test here) h where
      by_test : (b : Bool) → IsIn f (unless b here.at rule line) → f.line ≡ g.line
      by_test true h = absurd h
      by_test false (inl e) = ap (λ (x : Fault). x.line) e ∙ sym (begins here g k (sym a ∙ ap (λ (x : Fault). x.at) e) (sym r ∙ ap (λ (x : Fault). x.rule) e))
      by_test false (inr h) = absurd h

-- Parts in a row.
pub beside : {A B : Type 0} {p : Part A} {q : Part B} → IsInside p → IsInside q → IsInside (p ⊗ q)
beside {A} {B} {p} {q} is that = inside_joined (λ a b. (a, b)) p q is that

pub before : {A B : Type 0} {p : Part A} {q : Part B} → IsInside p → IsInside q → IsInside (p <⊗ q)
before {A} {B} {p} {q} is that = inside_joined (λ a b. a) p q is that

pub after : {A B : Type 0} {p : Part A} {q : Part B} → IsInside p → IsInside q → IsInside (p ⊗> q)
after {A} {B} {p} {q} is that = inside_joined (λ a b. b) p q is that

pub first : {A : Type 0} {p : Part A} {q : Part (List A)} → IsInside p → IsInside q → IsInside (joined (λ a rest. a ∷ rest) p q)
first {A} {p} {q} is that = inside_joined (λ a rest. a ∷ rest) p q is that

-- every part of a list
pub data AllInside {A : Type 0} : List (Part A) → Type 0 where
  nil : AllInside []
  each : {p : Part A} {ps : List (Part A)} → IsInside p → AllInside ps → AllInside (p ∷ ps)

pub all_inside : {A B : Type 0} (f : A → Part B) → ((a : A) → IsInside (f a)) → (xs : List A) → AllInside (map f xs)
all_inside f is [] = nil
all_inside f is (x ∷ xs) = each (is x) (all_inside f is xs)

pub inside_in_turn : {A : Type 0} {ps : List (Part A)} → AllInside ps → IsInside (in_turn ps)
inside_in_turn nil = inside_given []
inside_in_turn (each p ps) = first p (inside_in_turn ps)

pub inside_separated : {A : Type 0} {ps : List (Part A)} → AllInside ps → IsInside (separated ps)
inside_separated nil = inside_given []
inside_separated (each p nil) = first p (inside_given [])
inside_separated (each p (each q ps)) = first (before p (inside_tokens 1)) (inside_separated (each q ps))
