-- The reads of code of a good form are few, and their numbers go up to how many they are.
use Rattle.std.proofs.Common.{◌≡◌, ℕ, zero, suc, ◌+◌, ◌<◌, ◌≤◌, Option, Some, None, List, [], ◌∷◌, length, refl, sym, subst, arith}
use Rattle.std.specs.Prelude.{slice_get, sum_by}
use Rattle.std.proofs.lemmas.List.{length-append}
use Rattle.std.proofs.lemmas.List.Sums.{sum_by-cons, sum-map}
use Rattle.dfi_base.specs.declared.numbers.Point.{Point}
use Rattle.tac_ir.specs.declared.code.Code.{Code}
use Rattle.tac_ir.specs.declared.code.Fun.{Fun}
use Rattle.tac_ir.specs.declared.code.Lined.{Lined}
use Rattle.tac_ir.specs.GoodForm.{GoodForm}
use Rattle.tac_ir.specs.Layout.{instr_at}
use Rattle.tac_ir.specs.Numbers.{IsCount, new_read, numbers_in, numbers_in_funs, reads_made}
use Rattle.tac_ir.proofs.Numbering.{has_line, in_parts, within_funs, within_lines}

longer : (o : Option ℕ) (xs : List ℕ) (n : ℕ) → length xs ≤ n → length {A = ℕ} (elim o [ Some k ↦ k ∷ xs | None ↦ xs ]) ≤ suc n
longer None xs n h = omega arith
longer (Some k) xs n h = omega arith

few_in : (code : List Lined) → length (numbers_in new_read code) ≤ length code
few_in [] = omega arith
few_in (x ∷ code) = longer (new_read x.instr) (numbers_in new_read code) (length code) (few_in code)

few_in_funs : (funs : List Fun) → length (numbers_in_funs new_read funs) ≤ sum_by (λ fun. length fun.code) funs
few_in_funs [] = omega arith
few_in_funs (x ∷ funs) =
    omega (arith, length-append (numbers_in new_read x.code) (numbers_in_funs new_read funs), few_in x.code, few_in_funs funs, sum_by-cons (λ (y : Fun). length y.code) x funs)

pub few_reads : (c : Code) → GoodForm c → length (reads_made c) ≤ 16384
few_reads c good = omega (arith, few_in_funs c.funs, sum-map (λ (x : Fun). length x.code) c.funs, good.limits.points)

up_to : (first : ℕ) (funs : List Fun) (f : ℕ) (fun : Fun) (at : ℕ) (l : Lined) (r : ℕ) → IsCount first (numbers_in_funs new_read funs)
    → slice_get funs f ≡ Some fun → slice_get fun.code at ≡ Some l → new_read l.instr ≡ Some r → r < first + length (numbers_in_funs new_read funs)
up_to first [] f fun at l r count found there named = cc
up_to first (x ∷ funs) zero fun at l r count found there named =
    let same : x ≡ fun = cc in
    let line = subst (λ (z : Fun). slice_get z.code at ≡ Some l) (sym same) there in
    let low = (within_lines new_read first x.code at l r (in_parts first (numbers_in new_read x.code) (numbers_in_funs new_read funs) count).0 line named).1 in
    omega (arith, low, length-append (numbers_in new_read x.code) (numbers_in_funs new_read funs))
up_to first (x ∷ funs) (suc f) fun at l r count found there named =
    let rest = up_to (first + length (numbers_in new_read x.code)) funs f fun at l r (in_parts first (numbers_in new_read x.code) (numbers_in_funs new_read funs) count).1 found there named in
    omega (arith, rest, length-append (numbers_in new_read x.code) (numbers_in_funs new_read funs))

-- the number of a read
pub record IsRead (c : Code) (r : ℕ) : Type 0 where
  pub low : 1 ≤ r
  pub high : r ≤ length (reads_made c)

pub is_read : (c : Code) → GoodForm c → (p : Point) (r : ℕ) → new_read (instr_at c p) ≡ Some r → IsRead c r
is_read c good p r named =
    let line = has_line new_read c p r refl named in
    let high = up_to 1 c.funs p.fun line.fun p.at line.line r good.numbers.reads line.function line.found line.named in
    record { low = within_funs new_read 1 c.funs p.fun line.fun p.at line.line r good.numbers.reads line.function line.found line.named; high = omega (arith, high) }
