use Rattle.std.proofs.Common.{◌∙◌, ℕ, ◌<◌, ◌/◌, ap, subst}
use Rattle.std.specs.Prelude.{slice_index}
use Rattle.tac_ir.specs.Answers.{class_of}
use Rattle.word_table.specs.tools.BitRows.{AreRows, AreRowsOf}
use Rattle.word_table.proofs.BitRows.{are_rows_of, fits_row}
use Rattle.word_table.proofs.Members.{short, allowed_is}
use Rattle.word_table.proofs.rows.ReadRows.new.Goals as goal

pub rows_of-requires-clause-short : goal.rows_of-requires-clause-short
rows_of-requires-clause-short c = short c.args.m.now c.requires

pub rows_of-requires-clause-wide : goal.rows_of-requires-clause-wide
rows_of-requires-clause-wide c =
    fits_row c.args.m.now c.width_of-width.result
    (subst (λ l. (k : ℕ) → slice_index l k / 64 < c.width_of-width.result) (c.as_slice.ensures ∙ ap (λ m. m.classes) c.m.view_is) c.width_of-width.ensures)

pub returns : goal.returns
returns c =
    let rows : AreRowsOf c.args.m.now c.in_ok-rows.rows.items = are_rows_of c.args.m.now c.in_ok-rows.rows.items
    (subst (λ sets. AreRows c.args.m.now sets c.in_ok-rows.rows.items) (c.as_slice-2.ensures ∙ ap (λ m. m.sets) c.m.view_is) c.in_ok-rows.ensures) in
    record { short = short c.args.m.now c.requires; allowed = λ r last. (rows r (class_of c.args.m.now last.def) ∙ allowed_is c.args.m.now c.requires r last) }
