-- What a desk answers, and what it is afterwards.
use Rattle.std.specs.Prelude.{◌≡◌, ℕ, Bool, ◌||◌, nat_eq, Result, Ok, Err, List, [], ◌∷◌, ℤ, pos, negsuc, drop}
use Rattle.tac_ir.specs.Layout.{heap_from, stack_from}
use Rattle.tac_ir.specs.Desk.{IsFree, IsFirstFit, begins_block, without}
use Rattle.heap_desk.specs.declared.fault.TakeFault.{TakeFault}
use Rattle.heap_desk.specs.Desk.{Desk, room_for_items, with_block}

-- A block is taken.

-- So much room is taken at the least place where it is free. `NoRoom` says that there is no such place, and `Memory` that
-- there is one and the list of blocks could not grow.
abbrev pub AnswersRoom : Desk → ℕ → Result ℕ TakeFault → Type 0
AnswersRoom d room (Ok at) = IsFirstFit d.blocks heap_from (stack_from d.size) room at
AnswersRoom d room (Err TakeFault.NoRoom) = (at : ℕ) → IsFree d.blocks heap_from (stack_from d.size) room at → ⊥
AnswersRoom d room (Err TakeFault.Memory) = (at : ℕ) × IsFirstFit d.blocks heap_from (stack_from d.size) room at

abbrev pub after_room : Desk → ℕ → Result ℕ TakeFault → Desk
after_room d room (Ok at) = record { size = d.size; blocks = with_block (record { at = at; words = room }) d.blocks; rest = d.rest }
after_room d room (Err fault) = d

-- a block of so many items of so many words; there is no room for a negative count
abbrev pub AnswersTake : Desk → ℤ → ℕ → Result ℕ TakeFault → Type 0
AnswersTake d (pos count) words answer = AnswersRoom d (room_for_items count words) answer
AnswersTake d (negsuc n) words answer = answer ≡ Err TakeFault.NoRoom

abbrev pub after_take : Desk → ℤ → ℕ → Result ℕ TakeFault → Desk
after_take d (pos count) words answer = after_room d (room_for_items count words) answer
after_take d (negsuc n) words answer = d

-- A block is given back.

-- what may be given back: word 0, or the first word of a live block
abbrev pub can_give : Desk → ℕ → Bool
can_give d word = nat_eq word 0 || begins_block word d.blocks

abbrev pub after_give : Desk → ℕ → Desk
after_give d word = record { size = d.size; blocks = without word d.blocks; rest = d.rest }

-- The input.

-- the first of these numbers, and 0 where there is none
abbrev pub first_of : List ℤ → ℤ
first_of [] = pos 0
first_of (n ∷ numbers) = n

abbrev pub after_next : Desk → Desk
after_next d = record { size = d.size; blocks = d.blocks; rest = drop 1 d.rest }
