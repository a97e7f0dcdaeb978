-- Instructions of code of a good form are usable.
use Rattle.std.proofs.Common.{◌≡◌, ℕ, ◌<◌, true, List, [], length, refl, arith, Option, Some, None}
use Rattle.std.specs.Prelude.{nat_lt, IsTrue, slice_get}
use Rattle.tac_ir.specs.declared.code.Code.{Code}
use Rattle.tac_ir.specs.declared.code.Fun.{Fun}
use Rattle.tac_ir.specs.declared.code.Lined.{Lined}
use Rattle.tac_ir.specs.declared.code.Instr.{Instr}
use Rattle.tac_ir.specs.Layout.{lines_of}
use Rattle.tac_ir.specs.Numbers.{new_def, new_read}
use Rattle.tac_ir.specs.GoodForm.{GoodForm, NamesExist, ForksWell}
use Rattle.tac_ir.proofs.FormNumbers.{def_below, read_below, site_below, index_below}
use Rattle.tac_thread.specs.tools.Numbered.{is_numbered}
use Rattle.tac_thread.specs.tools.Fetched.{IsUsable}

test-lt : (a : ℕ) → a < 65536 → nat_lt a 65536 ≡ true
test-lt a h = grind (arith, nat_lt)

numbered : (c : Code) (f at : ℕ) (code : List Lined) (i : Instr) → GoodForm c → NamesExist c f i → ForksWell code at i
    → ((d : ℕ) → new_def i ≡ Some d → d < 65536) → ((r : ℕ) → new_read i ≡ Some r → r < 65536) → IsTrue (is_numbered i)
numbered c f at code (Instr.Get to place r) good names fork defs reads = test-lt r (reads r refl)
numbered c f at code (Instr.Load to a r) good names fork defs reads = test-lt r (reads r refl)
numbered c f at code (Instr.Ret a (Some r)) good names fork defs reads = test-lt r (reads r refl)
numbered c f at code (Instr.Set place a d) good names fork defs reads = test-lt d (defs d refl)
numbered c f at code (Instr.Store a b d) good names fork defs reads = test-lt d (defs d refl)
numbered c f at code (Instr.Call to g d args) good names fork defs reads = test-lt d (defs d refl)
numbered c f at code (Instr.New to a site) good names fork defs reads = test-lt site (site_below c good site names)
numbered c f at code (Instr.Fork join entries) good names fork defs reads = test-lt (length entries) (omega (arith, fork.count))
numbered c f at code i good names fork defs reads = refl

pub usable : (c : Code) → GoodForm c → (f : ℕ) (fun : Fun) (at : ℕ) (l : Lined) → slice_get c.funs f ≡ Some fun → slice_get fun.code at ≡ Some l → IsUsable c f at l.instr
usable c good f fun at l found here =
    let instr = (good.code f fun found).instrs at l here in
    record {
      names = instr.names;
      numbers = numbered c f at fun.code l.instr good instr.names instr.fork (λ d e. def_below c good f fun at l d found here e) (λ r e. read_below c good f fun at l r found here e);
      within = index_below c good f fun at l found here;
    }

-- the same, by the lines of a function that may be none
pub usable_line : (c : Code) → GoodForm c → (f at : ℕ) (l : Lined) → slice_get (lines_of c f) at ≡ Some l → IsUsable c f at l.instr
usable_line c good f at l here = by (slice_get c.funs f) refl here
  where
    by : (o : Option Fun) → slice_get c.funs f ≡ o → slice_get (elim o [ None ↦ [] | Some fun ↦ fun.code ]) at ≡ Some l → IsUsable c f at l.instr
    by None is here = cc
    by (Some fun) is here = usable c good f fun at l is here
