-- Tables beside their module.
use Rattle.std.specs.Prelude.{◌≡◌, ℕ, slice_index}
use Rattle.tac_ir.specs.Module.{Module}
use Rattle.tac_ir.specs.Layout.{shape_words}
use Rattle.word_table.specs.Decides.{DecideReads}
use Rattle.stripe_events.specs.declared.tables.Tables.{Tables}

-- the rows decide the reads of the module, and the words of each shape are there, 0 past the last
pub record AreTablesOf (m : Module) (t : Tables) : Type 0 where
  pub decide : DecideReads m t.rows.rows.items
  pub shapes : (s : ℕ) → slice_index t.shapes.items s ≡ shape_words m.code s
