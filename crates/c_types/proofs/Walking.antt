-- A walk that goes on from mark to mark: what it tells is what the definition judges, and behind a part a relation R holds of what
-- stands there and what is known there.
use Rattle.std.proofs.Common.{◌≡◌, ℕ, List, [], ◌∷◌, ◌++◌, map, Option, Ok, Err, refl, ap, sym, ◌∙◌, subst}
use Rattle.std.proofs.lemmas.List.{append-nil}
use Rattle.c_typed.specs.declared.fault.TypeFault.{TypeFault}
use Rattle.c_types.specs.declared.known.Known.{Known}
use Rattle.c_typed.specs.Marks.{History}
use Rattle.c_typed.specs.Parts.{Place, Part, marked, tokens, given, joined, behind, separated, in_turn, ◌<⊗◌, ◌⊗>◌, ◌<$>◌}
use Rattle.c_typed.specs.Decls.{joined_lists}
use Rattle.c_types.specs.tools.Steps.{Found, ◌>>=◌, each, every, one, if_some}
use Rattle.c_types.specs.tools.StmtWalk.{same}
use Rattle.c_types.proofs.Bounds.{IsInside, inside_tokens, inside_given, inside_joined}
use Rattle.c_types.proofs.BoundsDecls.{inside_separated, inside_in_turn, all_inside}
use Rattle.c_typed.proofs.Balanced.{marked_append}
use Rattle.c_types.proofs.Tells.{Tells, tells_map, tells_second, tells_first, tells_after, tells_before}

abbrev pub result_of : {A : Type 0} → Found (A × Known) → Found A
result_of (Ok s) = Ok s.0
result_of (Err e) = Err e

abbrev value_in : {A : Type 0} → A → Found A → A
value_in a (Ok b) = b
value_in a (Err e) = a

abbrev pub found : {A : Type 0} → A → Found A
found a = Ok a

abbrev pub failed : {A : Type 0} → TypeFault → Found A
failed e = Err e

pub ok_is : {A : Type 0} {a b : A} → found a ≡ found b → a ≡ b
ok_is {A} {a} {b} e = ap (value_in a) e

abbrev IsOk : {A : Type 0} → Found A → Type 0
IsOk (Ok a) = Unit {0}
IsOk (Err e) = ⊥

pub err_ok : {A : Type 0} {e : TypeFault} {a : A} → failed {A = A} e ≡ found a → ⊥
err_ok {A} {e} {a} is = subst IsOk (sym is) tt

-- one part behind another
abbrev pub then : {A B C : Type 0} → (A → B → C) → Found (A × Known) → (A × Known → Found (B × Known)) → Found (C × Known)
then f r g = r >>= (λ s. g s >>= (λ t. Ok (f s.0 t.0, t.1)))

pub again : {A : Type 0} (r : Found (A × Known)) → (r >>= (λ t. Ok (t.0, t.1))) ≡ r
again (Ok t) = refl
again (Err e) = refl

module _ (R : History → Known → Type 0) where
  pub record Goes {A : Type 0} (p : Part A) (here : Place) (r : Found (A × Known)) : Type 0 where
    pub tells : Tells (p.judge here) (result_of r)
    pub stands : (s : A × Known) → r ≡ Ok s → R (marked p.marks here.before) s.1

  -- a part that leaves no marks
  pub goes_same : {A : Type 0} (p : Part A) (here : Place) (k : Known) (f : Found A) → p.marks ≡ [] → R here.before k → Tells (p.judge here) f → Goes p here (same k f)
  goes_same p here k (Ok a) quiet is tells = record {
    tells = tells;
    stands = λ s e. subst (λ h. R h s.1) (sym (ap (λ ms. marked ms here.before) quiet)) (subst (λ (s : _ × Known). R here.before s.1) (ok_is e) is);
  }
  goes_same p here k (Err x) quiet is tells = record { tells = tells; stands = λ s e. absurd (err_ok e) }

  goes_second : {A B C : Type 0} (f : A → B → C) (p : Part A) (q : Part B) (here : Place) (a : A) (r : Found (B × Known)) → Tells (p.judge here) (Ok a) → Goes q (behind p here) r
      → Goes (joined f p q) here (r >>= (λ t. Ok (f a t.0, t.1)))
  goes_second f p q here a (Ok t) is that = record {
    tells = tells_second f p q here a (Ok t.0) is that.tells;
    stands = λ s e. subst (λ h. R h s.1) (sym (marked_append p.marks q.marks here.before)) (subst (R (marked q.marks (behind p here).before)) (ap (λ s. s.1) (ok_is e)) (that.stands t refl));
  }
  goes_second f p q here a (Err x) is that = record { tells = tells_second f p q here a (Err x) is that.tells; stands = λ s e. absurd (err_ok e) }

  -- behind a part that has rules alone
  pub goes_ruled : {A : Type 0} (p : Part (Unit {0})) (q : Part A) (here : Place) (f : Found (Unit {0})) (g : Found (A × Known)) → IsInside p → IsInside q → Tells (p.judge here) f
      → Goes q (behind p here) g → Goes (p ⊗> q) here (f >>= (λ _. g))
  goes_ruled p q here (Ok u) g inside_p inside_q is that = subst (Goes (p ⊗> q) here) (again g) (goes_second (λ a b. b) p q here u g is that)
  goes_ruled p q here (Err x) g inside_p inside_q is that = record { tells = tells_first (λ a b. b) p q here x inside_p inside_q is; stands = λ s e. absurd (err_ok e) }

  pub goes_joined : {A B C : Type 0} (f : A → B → C) (p : Part A) (q : Part B) (here : Place) (r : Found (A × Known)) (g : A × Known → Found (B × Known)) → IsInside p → IsInside q
      → Goes p here r → ((s : A × Known) → r ≡ Ok s → Goes q (behind p here) (g s)) → Goes (joined f p q) here (then f r g)
  goes_joined f p q here (Ok s) g inside_p inside_q is that = goes_second f p q here s.0 (g s) is.tells (that s refl)
  goes_joined f p q here (Err x) g inside_p inside_q is that = record { tells = tells_first f p q here x inside_p inside_q is.tells; stands = λ s e. absurd (err_ok e) }

  pub goes_map : {A B : Type 0} (f : A → B) (p : Part A) (here : Place) (r : Found (A × Known)) → Goes p here r → Goes (f <$> p) here (r >>= (λ s. Ok (f s.0, s.1)))
  goes_map f p here (Ok t) is = record {
    tells = tells_map f p here (Ok t.0) is.tells;
    stands = λ s e. subst (R (marked p.marks here.before)) (ap (λ s. s.1) (ok_is e)) (is.stands t refl);
  }
  goes_map f p here (Err x) is = record { tells = tells_map f p here (Err x) is.tells; stands = λ s e. absurd (err_ok e) }

  -- tokens before and behind
  pub goes_after : {A : Type 0} (n : ℕ) (p : Part A) (here : Place) (r : Found (A × Known)) → Goes p (behind (tokens n) here) r → Goes (tokens n ⊗> p) here r
  goes_after n p here r is = record { tells = tells_after n p here (result_of r) is.tells; stands = is.stands }

  pub goes_before : {A : Type 0} (n : ℕ) (p : Part A) (here : Place) (r : Found (A × Known)) → Goes p here r → Goes (p <⊗ tokens n) here r
  goes_before n p here r is = record {
    tells = tells_before n p here (result_of r) is.tells;
    stands = λ s e. subst (λ ms. R (marked ms here.before) s.1) (sym (append-nil p.marks)) (is.stands s e);
  }

  -- Parts of a list, in turn.
  pub goes_given : {A : Type 0} (a : A) (here : Place) (k : Known) → R here.before k → Goes (given a) here (Ok (a, k))
  goes_given a here k is = record { tells = (refl, refl); stands = λ s e. subst (R here.before) (ap (λ s. s.1) (ok_is e)) is }

  module _ {X A : Type 0} (f : X → Part A) (step : X → Known → Found (A × Known)) (inside_each : (x : X) → IsInside (f x))
      (each_goes : (x : X) (here : Place) (k : Known) → R here.before k → Goes (f x) here (step x k)) where
    pub goes_separated : (xs : List X) (here : Place) (k : Known) → R here.before k → Goes (separated (map f xs)) here (each one step xs k)
    goes_separated [] here k is = goes_given [] here k is
    goes_separated (x ∷ []) here k is =
        let first = each_goes x here k is in
        goes_joined (λ a rest. a ∷ rest) (f x) (given []) here (step x k) (λ s. each one step [] s.1) (inside_each x) (inside_given []) first (λ s e. goes_given [] (behind (f x) here) s.1 (first.stands s e))
    goes_separated (x ∷ y ∷ xs) here k is =
        let first = goes_before 1 (f x) here (step x k) (each_goes x here k is) in
        goes_joined (λ a rest. a ∷ rest) (f x <⊗ tokens 1) (separated (map f (y ∷ xs))) here (step x k) (λ s. each one step (y ∷ xs) s.1)
        (inside_joined (λ a b. a) (f x) (tokens 1) (inside_each x) (inside_tokens 1)) (inside_separated (all_inside f inside_each (y ∷ xs))) first
        (λ s e. goes_separated (y ∷ xs) (behind (f x <⊗ tokens 1) here) s.1 (first.stands s e))

    pub goes_in_turn : (xs : List X) (here : Place) (k : Known) → R here.before k → Goes (in_turn (map f xs)) here (each one step xs k)
    goes_in_turn [] here k is = goes_given [] here k is
    goes_in_turn (x ∷ xs) here k is =
        let first = each_goes x here k is in
        goes_joined (λ a rest. a ∷ rest) (f x) (in_turn (map f xs)) here (step x k) (λ s. each one step xs s.1) (inside_each x) (inside_in_turn (all_inside f inside_each xs)) first
        (λ s e. goes_in_turn xs (behind (f x) here) s.1 (first.stands s e))

-- A walk without values is one with values that are left out.
abbrev drop_value : {A K : Type 0} → A × K → Found ((Unit {0}) × K)
drop_value s = Ok (tt, s.1)

abbrev pub unvalued : {A K : Type 0} → Found (A × K) → Found ((Unit {0}) × K)
unvalued r = r >>= drop_value

pub unit_unvalued : {K : Type 0} (r : Found ((Unit {0}) × K)) → r ≡ unvalued r
unit_unvalued (Ok s) = refl
unit_unvalued (Err e) = refl

abbrev push_one : {A K : Type 0} → A → List A × K → Found (List A × K)
push_one a t = Ok (one a ++ t.0, t.1)

push_unvalued : {A K : Type 0} (a : A) (r : Found (List A × K)) → unvalued (r >>= push_one a) ≡ unvalued r
push_unvalued a (Ok t) = refl
push_unvalued a (Err e) = refl

every_step : {A K : Type 0} (r : Found (A × K)) (f : K → Found ((Unit {0}) × K)) (g : K → Found (List A × K)) → ((k : K) → f k ≡ unvalued (g k))
    → (unvalued r >>= (λ s. f s.1)) ≡ unvalued (r >>= (λ s. g s.1 >>= push_one s.0))
every_step (Ok s) f g alike = alike s.1 ∙ sym (push_unvalued s.0 (g s.1))
every_step (Err e) f g alike = refl

pub every_as_each : {X A K : Type 0} (step : X → K → Found ((Unit {0}) × K)) (full : X → K → Found (A × K)) → ((x : X) (k : K) → step x k ≡ unvalued (full x k))
    → (xs : List X) (k : K) → every step xs k ≡ unvalued (each one full xs k)
every_as_each step full alike [] k = refl
every_as_each step full alike (x ∷ xs) k =
    ap (λ r. r >>= (λ s. every step xs s.1)) (alike x k) ∙ every_step (full x k) (every step xs) (each one full xs) (every_as_each step full alike xs)

-- What the items of a list give, each with a list of its own, as one list.
abbrev pub in_list : {B K : Type 0} → Option B × K → Found (List B × K)
in_list s = Ok (if_some s.0, s.1)

abbrev pub flat : {B K : Type 0} → Found (List (List B) × K) → Found (List B × K)
flat r = r >>= (λ s. Ok (joined_lists s.0, s.1))

abbrev push_option : {B K : Type 0} → Option B → List B × K → Found (List B × K)
push_option o t = Ok (if_some o ++ t.0, t.1)

flat_rest : {B K : Type 0} (o : Option B) (r : Found (List (List B) × K)) → (flat r >>= push_option o) ≡ flat (r >>= push_one (if_some o))
flat_rest o (Ok t) = refl
flat_rest o (Err e) = refl

flat_step : {B K : Type 0} (r : Found (Option B × K)) (f : K → Found (List B × K)) (g : K → Found (List (List B) × K)) → ((k : K) → f k ≡ flat (g k))
    → (r >>= (λ s. f s.1 >>= push_option s.0)) ≡ flat (r >>= in_list >>= (λ s. g s.1 >>= push_one s.0))
flat_step (Ok s) f g alike = ap (λ r. r >>= push_option s.0) (alike s.1) ∙ flat_rest s.0 (g s.1)
flat_step (Err e) f g alike = refl

pub each_flat : {X B K : Type 0} (step : X → K → Found (Option B × K)) (xs : List X) (k : K) → each if_some step xs k ≡ flat (each one (λ x k. step x k >>= in_list) xs k)
each_flat step [] k = refl
each_flat step (x ∷ xs) k = flat_step (step x k) (each if_some step xs) (each one (λ x k. step x k >>= in_list) xs) (each_flat step xs)
