-- Code of a good form has few reads, and what may be in a set is a read with a definition of the code.
use Rattle.std.proofs.Common.{◌≡◌, ℕ, zero, suc, ◌+◌, ◌<◌, ◌≤◌, Option, Some, None, List, [], ◌∷◌, length, refl, sym, subst, arith}
use Rattle.std.specs.Prelude.{slice_get}
use Rattle.std.proofs.lemmas.List.{length-append}
use Rattle.dfi_base.specs.declared.numbers.Point.{Point}
use Rattle.tac_ir.specs.declared.code.Code.{Code}
use Rattle.tac_ir.specs.declared.code.Fun.{Fun}
use Rattle.tac_ir.specs.declared.code.Instr.{Instr}
use Rattle.tac_ir.specs.declared.code.Lined.{Lined}
use Rattle.tac_ir.specs.GoodForm.{GoodForm}
use Rattle.tac_ir.specs.Layout.{instr_at}
use Rattle.tac_ir.specs.Numbers.{IsCount, defs_in_code, new_def, new_read, numbers_in, numbers_in_funs, reads_made}
use Rattle.tac_ir.proofs.Numbering.{has_line, in_parts, within_funs, within_lines}
use Rattle.flow_rules.specs.InSet.{InSet}
use Rattle.flow_rules.specs.Tables.{AccessTable, ReachTable}
use Rattle.flow_rules.specs.Touches.{DefTouches}
use Rattle.def_classes.proofs.Counting.{count-le}

pub few-reads : (c : Code) → GoodForm c → length (reads_made c) ≤ 16384
few-reads c form = omega (arith, count-le new_read c.funs, form.limits.points)

-- numbers that count up end with the last
up_to : (number : Instr → Option ℕ) (first : ℕ) (funs : List Fun) (f : ℕ) (fun : Fun) (at : ℕ) (l : Lined) (r : ℕ) → IsCount first (numbers_in_funs number funs)
    → slice_get funs f ≡ Some fun → slice_get fun.code at ≡ Some l → number l.instr ≡ Some r → r < first + length (numbers_in_funs number funs)
up_to number first [] f fun at l r count found there named = cc
up_to number first (x ∷ funs) zero fun at l r count found there named =
    let same : x ≡ fun = cc in
    let line = subst (λ (z : Fun). slice_get z.code at ≡ Some l) (sym same) there in
    let low = (within_lines number first x.code at l r (in_parts first (numbers_in number x.code) (numbers_in_funs number funs) count).0 line named).1 in
    omega (arith, low, length-append (numbers_in number x.code) (numbers_in_funs number funs))
up_to number first (x ∷ funs) (suc f) fun at l r count found there named =
    let rest = up_to number (first + length (numbers_in number x.code)) funs f fun at l r (in_parts first (numbers_in number x.code) (numbers_in_funs number funs) count).1 found there named in
    omega (arith, rest, length-append (numbers_in number x.code) (numbers_in_funs number funs))

in_count : (number : Instr → Option ℕ) (c : Code) (first : ℕ) (p : Point) (r : ℕ) → number Instr.End ≡ None → IsCount first (numbers_in_funs number c.funs) → number (instr_at c p) ≡ Some r
    → (first ≤ r) × (r < first + length (numbers_in_funs number c.funs))
in_count number c first p r none count named =
    let line = has_line number c p r none named in (
      within_funs number first c.funs p.fun line.fun p.at line.line r count line.function line.found line.named,
      up_to number first c.funs p.fun line.fun p.at line.line r count line.function line.found line.named,
    )

def_in : (c : Code) → GoodForm c → (acc : AccessTable) (d a : ℕ) → DefTouches c acc d a → (1 ≤ d) × (d ≤ defs_in_code c)
def_in c good acc d a (DefTouches.starting v below is leaf) = (omega (arith, is), omega (arith, is, below))
def_in c good acc d a (DefTouches.made p makes touches) =
    let range = in_count new_def c (length c.globals + 1) p d refl good.numbers.defs makes in
    (omega (arith, range.0), omega (arith, range.1))

-- the read and the definition are of the code
pub in_set_within : (c : Code) → GoodForm c → (acc : AccessTable) (reach : ReachTable) (r d : ℕ) → InSet c acc reach r d
    → ((1 ≤ r) × (r ≤ length (reads_made c))) × ((1 ≤ d) × (d ≤ defs_in_code c))
in_set_within c good acc reach r d set =
    let read = in_count new_read c 1 set.at r refl good.numbers.reads set.read in
    ((read.0, omega (arith, read.1)), def_in c good acc d set.leaf set.writes)
