-- Ascending lists of numbers.
use Rattle.std.proofs.Common.{◌≡◌, ℕ, zero, suc, ◌<◌, ◌≤◌, Bool, true, false, ◌||◌, List, [], ◌∷◌, ◌++◌, length, get_or, take, eqb, nat_lt, inl, inr, refl, ap, ◌∙◌, arith}
use Rattle.std.specs.Prelude.{IsTrue}
use Rattle.std.proofs.lemmas.Bool.{and_from, eqb-true, or_cases, lt-ltb, ne_eqb, or_from, false≢true}
use Rattle.tac_ir.specs.Answers.{has}
use Rattle.tac_ir.specs.Module.{is_chain}
use Rattle.first_module.specs.tools.Readers.{Ascends}

pub ascends-wider : (a b high : ℕ) (xs : List ℕ) → a ≤ b → Ascends b high xs → Ascends a high xs
ascends-wider a b high [] le h = tt
ascends-wider a b high (x ∷ xs) le h = (omega arith, h.1, h.2)

pub ascends-higher : (low a b : ℕ) (xs : List ℕ) → a ≤ b → Ascends low a xs → Ascends low b xs
ascends-higher low a b [] le h = tt
ascends-higher low a b (x ∷ xs) le h = (h.0, omega arith, ascends-higher (suc x) a b xs le h.2)

pub chain-from_ascends : (low high : ℕ) (xs : List ℕ) → Ascends low high xs → IsTrue (is_chain nat_lt xs)
chain-from_ascends low high [] h = refl
chain-from_ascends low high (x ∷ []) h = refl
chain-from_ascends low high (x ∷ y ∷ rest) h =
    and_from _ _ (lt-ltb x y (omega arith)) (chain-from_ascends (suc x) high (y ∷ rest) h.2)

pub ascends-at : (low high : ℕ) (xs : List ℕ) (i : ℕ) → Ascends low high xs → i < length xs → (low ≤ get_or xs i 0) × (get_or xs i 0 < high)
ascends-at low high [] i h l = absurd (omega arith)
ascends-at low high (x ∷ xs) zero h l = (h.0, h.1)
ascends-at low high (x ∷ xs) (suc i) h l =
    let g = ascends-at (suc x) high xs i h.2 (omega arith) in
    (omega arith, g.1)

-- a lesser number is none of them, and no earlier one equals a later one
pub has-below : (low high : ℕ) (xs : List ℕ) (d : ℕ) → Ascends low high xs → d < low → has xs d ≡ false
has-below low high [] d h l = refl
has-below low high (x ∷ xs) d h l = or_from _ _ (ne_eqb x d (λ e. omega arith)) (has-below (suc x) high xs d h.2 (omega arith))

pub has-take : (low high : ℕ) (xs : List ℕ) (i : ℕ) → Ascends low high xs → i < length xs → has (take i xs) (get_or xs i 0) ≡ false
has-take low high [] i h l = absurd (omega arith)
has-take low high (x ∷ xs) zero h l = refl
has-take low high (x ∷ xs) (suc i) h l =
    let g = ascends-at (suc x) high xs i h.2 (omega arith) in
    or_from _ _ (ne_eqb x (get_or xs i 0) (λ e. omega arith)) (has-take (suc x) high xs i h.2 (omega arith))

or_assoc : (a b c : Bool) → (a || (b || c)) ≡ (a || b || c)
or_assoc true b c = refl
or_assoc false b c = refl

pub has-append : (xs ys : List ℕ) (d : ℕ) → has (xs ++ ys) d ≡ (has xs d || has ys d)
has-append [] ys d = refl
has-append (x ∷ xs) ys d = ap (λ b. eqb x d || b) (has-append xs ys d) ∙ or_assoc (eqb x d) (has xs d) (has ys d)

-- a member lies within
pub has-within : (low high : ℕ) (xs : List ℕ) (d : ℕ) → Ascends low high xs → has xs d ≡ true → (low ≤ d) × (d < high)
has-within low high [] d h e = absurd (false≢true e)
has-within low high (x ∷ xs) d h e =
    elim (or_cases _ _ e) [
      | inl p ↦ let same = eqb-true x d p in (omega arith, omega arith)
      | inr q ↦ let later = has-within (suc x) high xs d h.2 q in (omega arith, later.1)
    ]
