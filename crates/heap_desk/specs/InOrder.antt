-- Blocks in the order of places, as every desk has them.
use Rattle.std.specs.Prelude.{ℕ, ◌+◌, ◌<◌, ◌≤◌, List, [], ◌∷◌}
use Rattle.tac_ir.specs.Desk.{Block}

-- each block has a word and ends before the next begins, all between these bounds
abbrev pub IsInOrder : ℕ → ℕ → List Block → Type 0
IsInOrder from limit [] = from ≤ limit
IsInOrder from limit (b ∷ blocks) = (from ≤ b.at) × (0 < b.words) × IsInOrder (b.at + b.words) limit blocks
