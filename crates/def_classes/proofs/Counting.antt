-- Numbers of code are counted instruction by instruction.
use Rattle.std.proofs.Common.{◌≡◌, ℕ, suc, ◌+◌, ◌<◌, ◌≤◌, List, [], ◌∷◌, length, get_or, drop, map, Option, Some, None, sym, ap, ◌∙◌, arith}
use Rattle.std.specs.Prelude.{sum}
use Rattle.std.proofs.lemmas.List.{drop_more, length-append}
use Rattle.std.proofs.lemmas.List.Sums.{sum_by-cons}
use Rattle.tac_ir.specs.declared.code.Fun.{Fun}
use Rattle.tac_ir.specs.declared.code.Instr.{Instr}
use Rattle.tac_ir.specs.declared.code.Lined.{Lined}
use Rattle.tac_ir.specs.Numbers.{numbers_in, numbers_in_funs}
use Rattle.def_classes.specs.tools.Counted.{counted}

counted-first : (o : Option ℕ) (rest : List ℕ) → length (elim o as (λ o. List ℕ) [ Some n ↦ n ∷ rest | None ↦ rest ]) ≡ counted o + length rest
counted-first None rest = omega arith
counted-first (Some n) rest = omega arith

module _ (number : Instr → Option ℕ) where
  pub count-line : (code : List Lined) (i : ℕ) (l : Lined) → i < length code → l ≡ get_or code i l
      → length (numbers_in number (drop i code)) ≡ counted (number l.instr) + length (numbers_in number (drop (i + 1) code))
  count-line code i l within is =
      ap (λ xs. length (numbers_in number xs)) (drop_more code i l within ∙ ap (λ x. x ∷ drop (i + 1) code) (sym is))
      ∙ counted-first (number l.instr) (numbers_in number (drop (i + 1) code))

  pub count-fun : (funs : List Fun) (i : ℕ) (f : Fun) → i < length funs → f ≡ get_or funs i f
      → length (numbers_in_funs number (drop i funs)) ≡ length (numbers_in number f.code) + length (numbers_in_funs number (drop (i + 1) funs))
  count-fun funs i f within is =
      ap (λ xs. length (numbers_in_funs number xs)) (drop_more funs i f within ∙ ap (λ x. x ∷ drop (i + 1) funs) (sym is))
      ∙ length-append (numbers_in number f.code) (numbers_in_funs number (drop (i + 1) funs))

  count-code-le : (code : List Lined) → length (numbers_in number code) ≤ length code
  count-code-le [] = omega arith
  count-code-le (l ∷ rest) = by (number l.instr) (count-code-le rest)
    where
      by : (o : Option ℕ) → length (numbers_in number rest) ≤ length rest
          → length (elim o as (λ o. List ℕ) [ Some n ↦ n ∷ numbers_in number rest | None ↦ numbers_in number rest ]) ≤ suc (length rest)
      by None h = omega arith
      by (Some n) h = omega arith

  -- no more numbers than points
  pub count-le : (funs : List Fun) → length (numbers_in_funs number funs) ≤ sum (map (λ fun. length fun.code) funs)
  count-le [] = omega arith
  count-le (f ∷ funs) =
      omega (arith, count-code-le f.code, count-le funs, length-append (numbers_in number f.code) (numbers_in_funs number funs), sum_by-cons (λ n. n) (length f.code) (map (λ fun. length fun.code) funs))
