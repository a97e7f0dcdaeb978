-- What a name has after a change of a tree.
use Rattle.std.proofs.Common.{◌≡◌, ℕ, zero, suc, ◌+◌, ◌*◌, ◌⊎◌, List, [], ◌∷◌, length, Bool, true, false, refl, Option, Some, None, arith, sym, ◌∙◌, ap, subst, inl, inr, ⊎_elim}
use Rattle.std.specs.Prelude.{◌<◌, nat_eq, slice_get}
use Rattle.std.proofs.lemmas.Bool.{eqb-true, eq-eqb}
use Rattle.tac_ir.specs.declared.code.Code.{Code}
use Rattle.tac_thread.specs.Meaning.{Meaning}
use Rattle.tac_thread.specs.Life.{Life}
use Rattle.tac_thread.specs.Threads.{Lives, changed, ended_of, planted, with_branch}
use Rattle.tac_thread.proofs.Trees.{changed_here, changed_other}

pub some_of : {V S : Type 0} → (f : Lives V S) (n k : ℕ) (l : Life V S) → changed f n None k ≡ Some l → f k ≡ Some l
some_of f n k l is = by (nat_eq k n) refl
  where
    by : (b : Bool) → nat_eq k n ≡ b → f k ≡ Some l
    by true same = (let e = eqb-true k n same in let none : None ≡ Some l = sym (changed_here f n None) ∙ subst (λ z. changed f n None z ≡ Some l) e is in cc)
    by false other = sym (changed_other f n None k (λ e. let clash : true ≡ false = sym (ap (λ z. nat_eq z n) e ∙ eq-eqb n n refl) ∙ other in cc)) ∙ is

-- what a name has after a change
pub which : {V S : Type 0} → (f : Lives V S) (n k : ℕ) (q l : Life V S) → changed f n (Some q) k ≡ Some l → ((k ≡ n) × (q ≡ l)) ⊎ ((k ≡ n → ⊥) × (f k ≡ Some l))
which f n k q l is = by (nat_eq k n) refl
  where
    by : (b : Bool) → nat_eq k n ≡ b → ((k ≡ n) × (q ≡ l)) ⊎ ((k ≡ n → ⊥) × (f k ≡ Some l))
    by true same =
        let e = eqb-true k n same in
        let both : Some q ≡ Some l = sym (changed_here f n (Some q)) ∙ subst (λ z. changed f n (Some q) z ≡ Some l) e is in
        let one : q ≡ l = cc in
        inl (e, one)
    by false other =
        let differ : k ≡ n → ⊥ = λ e. (let clash : true ≡ false = sym (ap (λ z. nat_eq z n) e ∙ eq-eqb n n refl) ∙ other in cc) in
        inr (differ, sym (changed_other f n (Some q) k differ) ∙ is)

pub none_of : {V S : Type 0} → (f : Lives V S) (n k : ℕ) (q : Life V S) → changed f n (Some q) k ≡ None → f k ≡ None
none_of f n k q is = by (nat_eq k n) refl
  where
    by : (b : Bool) → nat_eq k n ≡ b → f k ≡ None
    by true same = (let e = eqb-true k n same in let none : Some q ≡ None = sym (changed_here f n (Some q)) ∙ subst (λ z. changed f n (Some q) z ≡ None) e is in cc)
    by false other = sym (changed_other f n (Some q) k (λ e. let clash : true ≡ false = sym (ap (λ z. nat_eq z n) e ∙ eq-eqb n n refl) ∙ other in cc)) ∙ is

-- what a name has after branches were planted
pub record IsPlanted {V S : Type 0} (n i k : ℕ) (branches : List (Life V S)) (l : Life V S) : Type 0 where
  pub at : ℕ
  pub listed : slice_get branches at ≡ Some l
  pub name : k ≡ 16 * n + (i + at)

abbrev or_old : {V S : Type 0} → Option (Option V) → Lives V S → Lives V S → Lives V S
or_old o new old = elim o [ None ↦ new | Some v ↦ old ]

with_one : {V S : Type 0} → (m : Meaning V S) (c : Code) (f : Lives V S) (n k : ℕ) (b l : Life V S) (o : Option (Option V))
    → or_old o (changed f n (Some b)) f k ≡ Some l → ((k ≡ n) × (b ≡ l)) ⊎ (f k ≡ Some l)
with_one m c f n k b l None is = ⊎_elim (λ (a : (k ≡ n) × (b ≡ l)). inl a) (λ (a : (k ≡ n → ⊥) × (f k ≡ Some l)). inr a.1) (which f n k b l is)
with_one m c f n k b l (Some v) is = inr is

pub planted_is : {V S : Type 0} → (m : Meaning V S) (c : Code) (f : Lives V S) (n i k : ℕ) (branches : List (Life V S)) (l : Life V S) → planted m c f n i branches k ≡ Some l → (f k ≡ Some l) ⊎ IsPlanted n i k branches l
planted_is m c f n i k [] l is = inl is
planted_is {V} {S} m c f n i k (b ∷ branches) l is =
    ⊎_elim
    (λ (first : with_branch m c f (16 * n + i) b k ≡ Some l).
    ⊎_elim (λ (a : (k ≡ 16 * n + i) × (b ≡ l)). inr (record { at = 0; listed = ap Some a.1; name = (let x = a.0 in omega (arith, x)) })) (λ (old : f k ≡ Some l). inl old)
    (with_one m c f (16 * n + i) k b l (ended_of m c (Some b)) first))
    (λ (later : IsPlanted n (suc i) k branches l). inr (record { at = suc later.at; listed = later.listed; name = (let x = later.name in omega (arith, x)) }))
    (planted_is m c (with_branch m c f (16 * n + i) b) n (suc i) k branches l is)

abbrev picked : {V S : Type 0} → Option (Option V) → Lives V S → Lives V S → Lives V S
picked o new old = elim o [ None ↦ new | Some v ↦ old ]

kept_none : {V S : Type 0} → (m : Meaning V S) (c : Code) (f : Lives V S) (n k : ℕ) (b : Life V S) → with_branch m c f n b k ≡ None → f k ≡ None
kept_none {V} m c f n k b is = by (ended_of m c (Some b)) is
  where
    by : (o : Option (Option V)) → picked o (changed f n (Some b)) f k ≡ None → f k ≡ None
    by None z = none_of f n k b z
    by (Some v) z = z

pub planted_none : {V S : Type 0} → (m : Meaning V S) (c : Code) (f : Lives V S) (n i k : ℕ) (branches : List (Life V S)) → planted m c f n i branches k ≡ None → f k ≡ None
planted_none m c f n i k [] is = is
planted_none m c f n i k (b ∷ branches) is = kept_none m c f (16 * n + i) k b (planted_none m c (with_branch m c f (16 * n + i) b) n (suc i) k branches is)

-- a branch that was planted and does not live has ended at once
pub ended_at_once : {V S : Type 0} → (m : Meaning V S) (c : Code) (f : Lives V S) (n i at : ℕ) (branches : List (Life V S)) (b : Life V S) → slice_get branches at ≡ Some b → planted m c f n i branches (16 * n + (i + at)) ≡ None
    → (v : Option V) × (ended_of m c (Some b) ≡ Some v)
ended_at_once m c f n i at [] b listed is = cc
ended_at_once {V} m c f n i zero (x ∷ branches) b listed is = by (ended_of m c (Some x)) refl none_here
  where
    none_here : with_branch m c f (16 * n + i) x (16 * n + i) ≡ None
    none_here =
        let name : 16 * n + (i + 0) ≡ 16 * n + i = omega arith in
        planted_none m c (with_branch m c f (16 * n + i) x) n (suc i) (16 * n + i) branches (subst (λ z. planted m c f n i (x ∷ branches) z ≡ None) name is)

    by : (o : Option (Option V)) → ended_of m c (Some x) ≡ o → picked o (changed f (16 * n + i) (Some x)) f (16 * n + i) ≡ None → (v : Option V) × (ended_of m c (Some b) ≡ Some v)
    by None z gone = (let clash : Some x ≡ None = sym (changed_here f (16 * n + i) (Some x)) ∙ gone in cc)
    by (Some v) z gone = (let one : x ≡ b = cc in (v, subst (λ y. ended_of m c (Some y) ≡ Some v) one z))
ended_at_once m c f n i (suc at) (x ∷ branches) b listed is =
    let name : 16 * n + (i + suc at) ≡ 16 * n + (suc i + at) = omega arith in
    ended_at_once m c (with_branch m c f (16 * n + i) x) n (suc i) at branches b listed (subst (λ z. planted m c f n i (x ∷ branches) z ≡ None) name is)

pub some_at : {A : Type 0} (xs : List A) (k : ℕ) → k < length xs → (x : A) × (slice_get xs k ≡ Some x)
some_at [] k within = absurd (omega (arith, within))
some_at (x ∷ xs) zero within = (x, refl)
some_at (x ∷ xs) (suc k) within = some_at xs k (omega (arith, within))
