-- The words of a memory with the classes of their last writers.
use Rattle.std.specs.Prelude.{ℕ, List}
use Rattle.word_table.specs.declared.bits.Bits.{Bits}

pub record Words : Type 0 where
  pub values : List ℕ
  -- the class of each word's last writer, 0 where there was none
  pub classes : List ℕ
  -- the classes that each read allows, from read 1 on
  pub rows : List Bits
