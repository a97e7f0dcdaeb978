-- Two lists of the same blocks.
use Rattle.std.specs.Prelude.{◌≡◌, ℕ, List, ◌∷◌, Contains}
use Rattle.tac_ir.specs.Desk.{Block, IsFirstFit, begins_block, without}
use Rattle.heap_desk.specs.Desk.{with_block}

-- the lists have the same blocks, in whatever order
pub record HasSameBlocks (xs ys : List Block) : Type 0 where
  pub to : (b : Block) → Contains xs b → Contains ys b
  pub from : (b : Block) → Contains ys b → Contains xs b

-- Laws: lists of the same blocks serve alike, however each keeps them.

-- a first fit among the ones is a first fit among the others
abbrev pub SameFirstFit : Type 0
SameFirstFit = (xs ys : List Block) (from limit words at : ℕ) → HasSameBlocks xs ys
    → IsFirstFit xs from limit words at → IsFirstFit ys from limit words at

-- and there is no other
abbrev pub OneFirstFit : Type 0
OneFirstFit = (blocks : List Block) (from limit words a b : ℕ) → IsFirstFit blocks from limit words a → IsFirstFit blocks from limit words b → a ≡ b

abbrev pub SameBegins : Type 0
SameBegins = (xs ys : List Block) (w : ℕ) → HasSameBlocks xs ys → begins_block w xs ≡ begins_block w ys

-- one more block, in front of the ones and in the order of places among the others
abbrev pub SameWith : Type 0
SameWith = (new : Block) (xs ys : List Block) → HasSameBlocks xs ys → HasSameBlocks (new ∷ xs) (with_block new ys)

abbrev pub SameWithout : Type 0
SameWithout = (xs ys : List Block) (w : ℕ) → HasSameBlocks xs ys → HasSameBlocks (without w xs) (without w ys)
