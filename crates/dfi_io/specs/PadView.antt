-- What contracts see of a pad.
use Rattle.std.specs.Prelude.{ℕ, List, if◌then◌else◌}
use Rattle.dfi_io.specs.Counted.{counted}
use Rattle.dfi_io.specs.Held.{Held}
use Rattle.dfi_io.specs.Writes.{write_fails, after_write}

-- what a pad tells, and its faults
pub record PadView : Type 0 where
  pub told : Held
  pub faults : ℕ

-- a pad after a write of this piece: a write that fails is a fault
abbrev pub pad_after_write : PadView → List ℕ → PadView
pad_after_write pad piece = record {
  told = after_write pad.told piece;
  faults = if write_fails pad.told piece then counted pad.faults else pad.faults;
}
