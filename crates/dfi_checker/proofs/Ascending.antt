-- Instructions that stand later in the code stand later in the text.
use Rattle.std.proofs.Common.{◌≡◌, ℕ, zero, suc, ◌+◌, ◌<◌, ◌≤◌, ◌&&◌, Bool, true, false, List, [], ◌∷◌, length, get_or, take, map, sum, refl, sym, ap, ◌∙◌, arith}
use Rattle.std.specs.Prelude.{nat_lt, nat_eq, if◌then◌else◌, Some, None}
use Rattle.std.proofs.lemmas.Bool.{ltb-true, eqb-true}
use Rattle.std.proofs.lemmas.List.Sums.{sum_by-cons}
use Rattle.std.proofs.lemmas.Option.{slice_get-get_or}
use Rattle.dfi_base.specs.declared.numbers.Point.{Point}
use Rattle.tac_ir.specs.Module.{Module}
use Rattle.tac_ir.specs.Layout.{vars_of}
use Rattle.tac_ir.specs.GoodModule.{IsPoint}
use Rattle.flow_rules.proofs.ShapeNodes.{nodes_more}
use Rattle.flow_rules.proofs.PointNumbers.{fun_of}
use Rattle.dfi_checker.specs.TextPlace.{line_of, instruction, function_line, lines_of_function}
use Rattle.dfi_checker.specs.Laws.{LinesAscend}
use Rattle.dfi_checker.proofs.Rows.{false_is}

more_items : {A : Type 0} (f : A → ℕ) (xs : List A) (n k : ℕ) → n ≤ k → sum (map f (take n xs)) ≤ sum (map f (take k xs))
more_items f xs zero k low = omega arith
more_items f [] (suc n) zero low = omega (arith, low)
more_items f [] (suc n) (suc k) low = omega arith
more_items f (x ∷ xs) (suc n) zero low = absurd (omega (arith, low))
more_items f (x ∷ xs) (suc n) (suc k) low =
    let first = sum_by-cons (λ z. z) (f x) (map f (take n xs)) in
    let second = sum_by-cons (λ z. z) (f x) (map f (take k xs)) in
    omega (arith, first, second, more_items f xs n k (omega (arith, low)))

-- a point stands before the function behind its own
within_function : (m : Module) (p : Point) → IsPoint m.code p → line_of m (instruction p) < function_line m (p.fun + 1)
within_function m p is =
    let f = fun_of m.code p is in
    let fun = f.0 in
    let item : get_or m.code.funs p.fun fun ≡ fun = (let here : Some (get_or m.code.funs p.fun fun) ≡ Some fun = sym (slice_get-get_or m.code.funs p.fun fun f.1.exists) ∙ f.1.found in cc) in
    let vars : vars_of m.code p.fun ≡ fun.vars = ap (λ o. elim o as (λ z. List ℕ) [ None ↦ [] | Some fun ↦ fun.vars ]) f.1.found in
    omega (arith, nodes_more lines_of_function m.code.funs p.fun fun f.1.exists, ap lines_of_function item, ap length vars, f.1.low)

pub lines_ascend : LinesAscend
lines_ascend m p q is before = by (nat_lt p.fun q.fun) refl before
  where
    same : (b : Bool) → nat_eq p.fun q.fun ≡ b → (b && nat_lt p.at q.at) ≡ true → line_of m (instruction p) < line_of m (instruction q)
    same false e h = false_is h
    same true e h =
        let one = eqb-true p.fun q.fun e in
        let low = ltb-true p.at q.at h in
        omega (arith, ap (λ f. function_line m f + 1 + length (vars_of m.code f)) one, low)

    by : (b : Bool) → nat_lt p.fun q.fun ≡ b → (if b then true else (nat_eq p.fun q.fun && nat_lt p.at q.at)) ≡ true → line_of m (instruction p) < line_of m (instruction q)
    by true e h = omega (arith, within_function m p is, more_items lines_of_function m.code.funs (p.fun + 1) q.fun (omega (arith, ltb-true p.fun q.fun e)))
    by false e h = same (nat_eq p.fun q.fun) refl h
