-- A desk, as every definition sees it.
use Rattle.std.specs.Prelude.{ℕ, ◌*◌, max, true, false, nat_lt, List, [], ◌∷◌, ℤ}
use Rattle.tac_ir.specs.declared.module.Size.{Size}
use Rattle.tac_ir.specs.Desk.{Block}

pub record Desk : Type 0 where
  pub size : Size
  -- the live blocks, in the order of places
  pub blocks : List Block
  -- the numbers of the input that remain
  pub rest : List ℤ

-- the words of room that so many items of so many words take: at least one
abbrev pub room_for_items : ℕ → ℕ → ℕ
room_for_items count words = max 1 (count * words)

-- the blocks and one more, in the order of places
abbrev pub with_block : Block → List Block → List Block
with_block new [] = new ∷ []
with_block new (b ∷ blocks) = elim (nat_lt new.at b.at) [ true ↦ new ∷ b ∷ blocks | false ↦ b ∷ with_block new blocks ]
