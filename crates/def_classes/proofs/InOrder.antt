-- Ascending lists of numbers.
use Rattle.std.proofs.Common.{◌≡◌, ℕ, suc, Bool, true, false, ◌||◌, List, [], ◌∷◌, ◌++◌, eqb, nat_lt, refl, ap, ◌∙◌, arith}
use Rattle.std.specs.Prelude.{IsTrue}
use Rattle.std.proofs.lemmas.Bool.{and_from, lt-ltb}
use Rattle.tac_ir.specs.Answers.{has}
use Rattle.tac_ir.specs.Module.{is_chain}
use Rattle.def_classes.specs.tools.Readers.{Ascends}

pub chain-from_ascends : (low high : ℕ) (xs : List ℕ) → Ascends low high xs → IsTrue (is_chain nat_lt xs)
chain-from_ascends low high [] h = refl
chain-from_ascends low high (x ∷ []) h = refl
chain-from_ascends low high (x ∷ y ∷ rest) h =
    and_from _ _ (lt-ltb x y (omega arith)) (chain-from_ascends (suc x) high (y ∷ rest) h.2)

or_assoc : (a b c : Bool) → (a || (b || c)) ≡ (a || b || c)
or_assoc true b c = refl
or_assoc false b c = refl

pub has-append : (xs ys : List ℕ) (d : ℕ) → has (xs ++ ys) d ≡ (has xs d || has ys d)
has-append [] ys d = refl
has-append (x ∷ xs) ys d = ap (λ b. eqb x d || b) (has-append xs ys d) ∙ or_assoc (eqb x d) (has xs d) (has ys d)
