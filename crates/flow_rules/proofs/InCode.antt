-- What the instruction at a point names.
use Rattle.std.proofs.Common.{◌≡◌, ℕ, zero, suc, ◌<◌, ◌≤◌, List, [], ◌∷◌, length, get_or, refl, sym, ap, ◌∙◌, subst, arith, Option, Some, None}
use Rattle.std.specs.Prelude.{slice_get}
use Rattle.std.proofs.lemmas.Option.{slice_get_within, slice_get-get_or}
use Rattle.dfi_base.specs.declared.numbers.Point.{Point}
use Rattle.tac_ir.specs.declared.code.Code.{Code}
use Rattle.tac_ir.specs.declared.code.Instr.{Instr}
use Rattle.tac_ir.specs.declared.code.Lined.{Lined}
use Rattle.tac_ir.specs.declared.code.Place.{Place}
use Rattle.tac_ir.specs.Layout.{lines_of, instr_at}
use Rattle.tac_ir.specs.Places.{IsPlace, IsLeafPlace}
use Rattle.tac_ir.specs.GoodForm.{GoodForm, IsGoodInstr, NamesExist}
use Rattle.tac_ir.specs.GoodModule.{IsPoint}
use Rattle.tac_ir.specs.declared.code.Fun.{Fun}
use Rattle.flow_rules.proofs.ShapeNodes.{nodes_with}
use Rattle.flow_rules.proofs.PointNumbers.{fun_of, size}
use Rattle.flow_rules.proofs.Parallels.{lines_are}

-- the form of the instruction at a point that exists
pub good_at : (c : Code) → GoodForm c → (p : Point) → IsPoint c p → IsGoodInstr c p.fun (lines_of c p.fun) p.at (instr_at c p)
good_at c good p point =
    let f = fun_of c p point in
    let lines = lines_are c p.fun f.0 f.1.found in
    let at = slice_get-get_or f.0.code p.at nothing f.1.low in
    let here = (good.code p.fun f.0 f.1.found).instrs p.at (get_or f.0.code p.at nothing) at in
    let instr : instr_at c p ≡ (get_or f.0.code p.at nothing).instr =
    ap (λ (o : Option Lined). elim o as (λ z. Instr) [ None ↦ Instr.End | Some lined ↦ lined.instr ]) (ap (λ xs. slice_get xs p.at) lines ∙ at) in
    subst (λ i. IsGoodInstr c p.fun (lines_of c p.fun) p.at i) (sym instr) (subst (λ xs. IsGoodInstr c p.fun xs p.at (get_or f.0.code p.at nothing).instr) (sym lines) here)
  where
    nothing : Lined
    nothing = record { line = 0; instr = Instr.End }

pub names_at : (c : Code) → GoodForm c → (p : Point) → IsPoint c p → (i : Instr) → i ≡ instr_at c p → NamesExist c p.fun i
names_at c good p point i is = subst (NamesExist c p.fun) (sym is) (good_at c good p point).names

pub leaf_is_place : (c : Code) (f : ℕ) (place : Place) → IsLeafPlace c f place → IsPlace c f place
leaf_is_place c f place h = (h.0, h.1)

pub fun_exists : (c : Code) (p : Point) → IsPoint c p → p.fun < length c.funs
fun_exists c p point = (fun_of c p point).1.exists

pub few_lines : (c : Code) → GoodForm c → (f : ℕ) → length (lines_of c f) ≤ 16384
few_lines c good f = by (slice_get c.funs f) refl
  where
    by : (o : Option Fun) → slice_get c.funs f ≡ o → length (elim o as (λ z. List Lined) [ None ↦ [] | Some fun ↦ fun.code ]) ≤ 16384
    by None is = omega arith
    by (Some fun) is =
        let low = slice_get_within c.funs f fun is in
        let item : get_or c.funs f fun ≡ fun = (let same : Some (get_or c.funs f fun) ≡ Some fun = sym (slice_get-get_or c.funs f fun low) ∙ is in cc) in
        omega (arith, nodes_with size c.funs f fun low, good.limits.points, ap size item)

-- where there is no line there is `End`
pub no_line : (c : Code) (p : Point) → length (lines_of c p.fun) ≤ p.at → instr_at c p ≡ Instr.End
no_line c p high = ap (λ (o : Option Lined). elim o as (λ z. Instr) [ None ↦ Instr.End | Some lined ↦ lined.instr ]) (past (lines_of c p.fun) p.at high)
  where
    past : (xs : List Lined) (n : ℕ) → length xs ≤ n → slice_get xs n ≡ None
    past [] n high = refl
    past (x ∷ xs) zero high = absurd (omega (arith, high))
    past (x ∷ xs) (suc n) high = past xs n (omega (arith, high))
