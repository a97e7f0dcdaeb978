use Rattle.std.proofs.Common.{[], ap, ◌∙◌, sym, subst}
use Rattle.std.specs.Prelude.{ℤ, List}
use Rattle.tac_ir.specs.GoodForm.{GoodForm}
use Rattle.heap_desk.specs.Desk.{Desk}
use Rattle.tac_ir.specs.declared.module.Size.{Size}
use Rattle.code_layout.specs.LayoutOf.{IsLayoutOf}
use Rattle.flat_core.proofs.Keeping.{first_store}
use Rattle.flat_core.proofs.store.Store.new.Goals as goal

pub of-requires : goal.of-requires
of-requires c = subst (λ m. GoodForm m.code) (sym c.m.view_is) c.requires.can_run.form

abbrev desk_of : Size → List ℤ → Desk
desk_of size input = record { size = size; blocks = []; rest = input }

pub returns : goal.returns
returns c =
    first_store c.args.m.now c.args.input.now (record { words = c.in_ok-words.words; desk = c.in_ok-desk.desk; layout = c.in_ok-layout.layout }) c.in_ok-words.ensures
    (c.in_ok-desk.ensures ∙ ap (λ m. desk_of m.size c.args.input.now) c.m.view_is)
    (subst (λ m. IsLayoutOf m.code c.in_ok-layout.layout) c.m.view_is c.in_ok-layout.ensures)
