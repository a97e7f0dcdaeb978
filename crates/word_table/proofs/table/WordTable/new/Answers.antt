use Rattle.std.proofs.Common.{◌∙◌, ℕ, ◌<◌, ◌/◌, ap, sym, subst}
use Rattle.std.specs.Prelude.{slice_index}
use Rattle.tac_ir.specs.Layout.{memory_words, shape_words}
use Rattle.tac_ir.specs.GoodForm.{GoodForm}
use Rattle.word_table.specs.tools.Areas.{memory_of}
use Rattle.word_table.specs.tools.BitRows.{AreRows}
use Rattle.word_table.proofs.BitRows.{are_rows_of, fits_row}
use Rattle.word_table.proofs.Members.{short}
use Rattle.code_layout.proofs.Placed.{laid_out}
use Rattle.word_table.proofs.Initial.{fits, begins}
use Rattle.word_table.proofs.table.WordTable.new.Goals as goal

pub shape_sizes-requires : goal.shape_sizes-requires
shape_sizes-requires c = laid_out c.m.inside.code (subst (λ m. GoodForm m.code) (sym c.m.view_is) c.requires.form)

pub areas_of-requires-clause-short : goal.areas_of-requires-clause-short
areas_of-requires-clause-short c = short c.args.m.now c.requires

pub values_of-requires : goal.values_of-requires
values_of-requires c =
    fits c.args.m.now c.deref.result.now c.deref-2.result.now c.memory_words-size.result c.requires
    (λ s. ap (λ l. slice_index l s) c.deref.ensures.value ∙ (c.in_ok-sizes.ensures).sizes s ∙ ap (λ m. shape_words m.code s) c.m.view_is)
    (c.deref-2.ensures.value ∙ c.in_ok-areas.ensures) (c.memory_words-size.ensures ∙ ap (λ m. memory_words m.size) c.m.view_is)

pub classes_of-requires : goal.classes_of-requires
classes_of-requires c =
    fits c.args.m.now c.deref.result.now c.deref-3.result.now c.memory_words-size.result c.requires
    (λ s. ap (λ l. slice_index l s) c.deref.ensures.value ∙ (c.in_ok-sizes.ensures).sizes s ∙ ap (λ m. shape_words m.code s) c.m.view_is)
    (c.deref-3.ensures.value ∙ c.in_ok-areas.ensures) (c.memory_words-size.ensures ∙ ap (λ m. memory_words m.size) c.m.view_is)

pub returns : goal.returns
returns c =
    begins c.args.m.now c.deref.result.now c.in_ok-areas.areas.items c.memory_words-size.result (record { values = c.in_ok-values.values.items; classes = c.in_ok-classes.classes.items; rows = c.in_ok-rows.rows.items }) c.requires
    (λ s. ap (λ l. slice_index l s) c.deref.ensures.value ∙ (c.in_ok-sizes.ensures).sizes s ∙ ap (λ m. shape_words m.code s) c.m.view_is)
    c.in_ok-areas.ensures (c.memory_words-size.ensures ∙ ap (λ m. memory_words m.size) c.m.view_is)
    (c.in_ok-values.ensures ∙ ap (λ l. memory_of (λ a. a.value) c.memory_words-size.result l) c.deref-2.ensures.value)
    (c.in_ok-classes.ensures ∙ ap (λ l. memory_of (λ a. a.class) c.memory_words-size.result l) c.deref-3.ensures.value)
    (are_rows_of c.args.m.now c.in_ok-rows.rows.items
    (subst (λ sets. AreRows c.args.m.now sets c.in_ok-rows.rows.items) (c.as_slice-2.ensures ∙ ap (λ m. m.sets) c.m.view_is) c.in_ok-rows.ensures))

pub rows_of-requires-clause-short : goal.rows_of-requires-clause-short
rows_of-requires-clause-short c = short c.args.m.now c.requires

pub rows_of-requires-clause-wide : goal.rows_of-requires-clause-wide
rows_of-requires-clause-wide c =
    fits_row c.args.m.now c.width_of-width.result
    (subst (λ l. (k : ℕ) → slice_index l k / 64 < c.width_of-width.result) (c.as_slice.ensures ∙ ap (λ m. m.classes) c.m.view_is) c.width_of-width.ensures)
