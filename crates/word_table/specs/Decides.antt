-- Rows of bits that decide each read.
use Rattle.std.specs.Prelude.{◌≡◌, ℕ, List}
use Rattle.tac_ir.specs.Module.{Module}
use Rattle.tac_ir.specs.Last.{Written}
use Rattle.tac_ir.specs.Answers.{class_of, is_allowed}
use Rattle.word_table.specs.declared.bits.Bits.{Bits}
use Rattle.word_table.specs.tools.Classes.{AreShort}
use Rattle.word_table.specs.tools.BitRows.{row_has}

-- a read allows a last write where its row has the class of the definition that wrote; and each class has 16 bits
pub record DecideReads (m : Module) (rows : List Bits) : Type 0 where
  pub short : AreShort m
  pub allowed : (r : ℕ) (last : Written) → row_has rows r (class_of m last.def) ≡ is_allowed m r last
