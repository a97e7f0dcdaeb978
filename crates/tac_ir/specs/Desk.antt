-- Blocks of the heap, and the input.
use Rattle.std.specs.Prelude.{ℕ, suc, ◌+◌, ◌*◌, ◌<◌, ◌≤◌, true, false, Bool, ◌||◌, nat_eq, max, ◌⊎◌, Some, None, List, [], ◌∷◌, slice_get, All, ℤ, pos, negsuc}
use Rattle.tac_ir.specs.declared.code.Code.{Code}
use Rattle.tac_ir.specs.declared.run.Op.{Op}
use Rattle.tac_ir.specs.declared.run.Answer.{Answer}
use Rattle.tac_ir.specs.declared.run.Entry.{Entry}
use Rattle.tac_ir.specs.Layout.{shape_words}

pub record Block : Type 0 where
  pub at : ℕ
  pub words : ℕ

abbrev pub item_words : Code → ℕ → ℕ
item_words c site = elim (slice_get c.sites site) [ None ↦ 0 | Some s ↦ shape_words c s.shape ]

-- the words of room that so many items of a site take: at least one
abbrev pub room_for : Code → ℕ → ℕ → ℕ
room_for c site count = max 1 (count * item_words c site)

abbrev pub room_of : Code → ℕ → ℤ → ℕ
room_of c site (pos count) = room_for c site count
room_of c site (negsuc n) = 0

-- the blocks that do not begin at word w
abbrev pub without : ℕ → List Block → List Block
without w [] = []
without w (b ∷ blocks) = elim (nat_eq b.at w) [ true ↦ without w blocks | false ↦ b ∷ without w blocks ]

abbrev pub blocks_after : Code → Op → Answer → List Block → List Block
blocks_after c (Op.New site count) (Answer.Value w) blocks = record { at = w; words = room_of c site count } ∷ blocks
blocks_after c (Op.Free w) Answer.Unit blocks = without w blocks
blocks_after c op answer blocks = blocks

-- the live blocks after a history
unfoldable pub live_blocks : Code → List Entry → List Block
live_blocks c [] = []
live_blocks c (e ∷ h) = blocks_after c e.op e.answer (live_blocks c h)

abbrev pub begins_block : ℕ → List Block → Bool
begins_block w [] = false
begins_block w (b ∷ blocks) = nat_eq b.at w || begins_block w blocks

abbrev pub IsApart : Block → Block → Type 0
IsApart a b = (a.at + a.words ≤ b.at) ⊎ (b.at + b.words ≤ a.at)

-- so many words from word `at` on lie in the heap, between these bounds, and in no live block
pub record IsFree (blocks : List Block) (from limit words at : ℕ) : Type 0 where
  pub low : from ≤ at
  pub high : at + words ≤ limit
  pub apart : All (IsApart (record { at = at; words = words })) blocks

-- the least place where this many words are free
pub record IsFirstFit (blocks : List Block) (from limit words at : ℕ) : Type 0 where
  pub free : IsFree blocks from limit words at
  pub least : (other : ℕ) → other < at → IsFree blocks from limit words other → ⊥

abbrev pub takes_input : Op → ℕ → ℕ
takes_input Op.In n = suc n
takes_input op n = n

-- how many numbers of the input were asked for
unfoldable pub inputs_in : List Entry → ℕ
inputs_in [] = 0
inputs_in (e ∷ h) = takes_input e.op (inputs_in h)
