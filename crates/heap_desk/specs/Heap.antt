-- Blocks in a heap.
use Rattle.std.specs.Prelude.{ℕ, ◌+◌, ◌<◌, ◌≤◌, List, [], ◌∷◌, All}
use Rattle.tac_ir.specs.Desk.{Block, IsApart, IsFree, without}

-- no two blocks share a word
abbrev pub AreApart : List Block → Type 0
AreApart [] = Unit {0}
AreApart (b ∷ blocks) = All (IsApart b) blocks × AreApart blocks

abbrev pub LiesBetween : ℕ → ℕ → Block → Type 0
LiesBetween from limit b = (from ≤ b.at) × (b.at + b.words ≤ limit)

-- the blocks lie in the heap, between these bounds, each has a word, and no two overlap
pub record AreInHeap (from limit : ℕ) (blocks : List Block) : Type 0 where
  pub inside : All (LiesBetween from limit) blocks
  pub some : All (λ (b : Block). 0 < b.words) blocks
  pub apart : AreApart blocks

-- where one of the blocks is given back, its words are free
abbrev pub IsFreeWithout : ℕ → ℕ → List Block → Block → Type 0
IsFreeWithout from limit blocks b = IsFree (without b.at blocks) from limit b.words b.at
