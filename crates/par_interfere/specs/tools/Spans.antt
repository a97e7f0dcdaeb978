-- Regions by their parts.
use Rattle.std.specs.Prelude.{ℕ}
use Rattle.tac_ir.specs.Regions.{Region}

abbrev pub region_at : ℕ → ℕ → ℕ → Region
region_at fork entry last = record { fork = fork; entry = entry; last = last }
