-- Answers of short lists, by computation.
use Rattle.std.proofs.Common.{◌≡◌, ℕ, ℤ, pos, negsuc, true, false, List, [], ◌∷◌, reverse, Option, Some, None, refl}
use Rattle.obj_mem.specs.declared.value.Obj.{Obj}
use Rattle.obj_mem.specs.declared.value.Value.{Value}
use Rattle.obj_mem.specs.declared.event.Event.{Event}
use Rattle.obj_mem.specs.declared.event.SrcAnswer.{SrcAnswer}
use Rattle.obj_mem.specs.declared.event.Stamp.{Stamp}
use Rattle.obj_mem.specs.Objects.{whole_of, of_main}
use Rattle.obj_mem.specs.Values.{items_of, moved}
use Rattle.obj_mem.specs.Alive.{made_by, open_frames, live_blocks}
use Rattle.obj_mem.specs.Written.{last_value}
use Rattle.obj_mem.specs.Input.{numbers_left}
use Rattle.obj_mem.specs.Valid.{answer_of}

abbrev by : ℕ → Event → Stamp
by n e = record { name = record { 0 = n }; event = e; answer = SrcAnswer.Unit }

-- what is answered after these events, the oldest first
abbrev after : List Stamp → ℕ → Event → Option SrcAnswer
after stamps n e = answer_of (reverse stamps) n e

abbrev object : ℕ → ℕ → ℕ → ℕ → Obj
object site thread count len = record { site = site; maker = record { thread = record { 0 = thread }; count = count }; len = len }

-- word k of an object with the whole of it as bounds
abbrev word : Obj → ℕ → Value
word o k = Value.Ptr o (pos k) (pos 0) (pos o.len)

abbrev done : Option SrcAnswer
done = Some SrcAnswer.Unit

abbrev says : ℤ → Option SrcAnswer
says k = Some (SrcAnswer.Value (Value.Int k))

-- A block of two words.
abbrev block : Obj
block = object 7 1 1 2

abbrev made : List Stamp
made = by 1 (Event.New 7 (pos 2) 1) ∷ []

new_answer : after [] 1 (Event.New 7 (pos 2) 1) ≡ Some (SrcAnswer.Value (whole_of block))
unfolding made_by
new_answer = refl

past_written : after made 1 (Event.Wr (word block 2) Value.Null) ≡ None
unfolding made_by live_blocks open_frames
past_written = refl

last_written : after made 1 (Event.Wr (word block 1) Value.Null) ≡ done
unfolding made_by live_blocks open_frames
last_written = refl

never_written : after made 1 (Event.Rd (word block 0)) ≡ None
unfolding made_by live_blocks open_frames last_value
never_written = refl

inner_freed : after made 1 (Event.Free (word block 1)) ≡ None
unfolding made_by live_blocks
inner_freed = refl

first_freed : after made 1 (Event.Free (word block 0)) ≡ done
unfolding made_by live_blocks
first_freed = refl

negative_count : after [] 1 (Event.New 7 (negsuc 2) 2) ≡ Some (SrcAnswer.Value (whole_of (object 7 1 1 0)))
unfolding made_by
negative_count = refl

great_count : after [] 1 (Event.New 7 (pos 2147483647) 4) ≡ Some (SrcAnswer.Value (whole_of (object 7 1 1 4294967295)))
unfolding made_by
great_count = refl

-- Another name frees it, and nobody reads it again.
elsewhere_freed : after (by 1 (Event.New 7 (pos 2) 1) ∷ by 1 (Event.Wr (word block 0) Value.Null) ∷ by 17 (Event.Free (word block 0)) ∷ []) 1 (Event.Rd (word block 0)) ≡ None
unfolding made_by live_blocks open_frames last_value
elsewhere_freed = refl

-- Comparisons of a block of a word, one of none, and another of a word.
abbrev blocks : List Stamp
blocks = by 1 (Event.New 7 (pos 1) 1) ∷ by 1 (Event.New 7 (pos 0) 1) ∷ by 1 (Event.New 7 (pos 1) 1) ∷ []

abbrev first_block : Obj
first_block = object 7 1 1 1

abbrev empty : Obj
empty = object 7 1 2 0

abbrev third : Obj
third = object 7 1 3 1

past_to_other : after blocks 1 (Event.Same (word first_block 1) (word empty 0) false) ≡ None
unfolding made_by live_blocks open_frames
past_to_other = refl

empty_to_other : after blocks 1 (Event.Same (word first_block 0) (word empty 0) false) ≡ None
unfolding made_by live_blocks open_frames
empty_to_other = refl

past_to_own : after blocks 1 (Event.Same (word first_block 1) (word first_block 0) false) ≡ says (pos 0)
unfolding made_by live_blocks open_frames
past_to_own = refl

empty_to_null : after blocks 1 (Event.Same (word empty 0) Value.Null false) ≡ says (pos 0)
unfolding made_by live_blocks open_frames
empty_to_null = refl

empty_freed : after blocks 1 (Event.Free (word empty 0)) ≡ done
unfolding made_by live_blocks
empty_freed = refl

others_equal : after blocks 1 (Event.Same (word first_block 0) (word third 0) false) ≡ says (pos 0)
unfolding made_by live_blocks open_frames
others_equal = refl

others_differ : after blocks 1 (Event.Same (word first_block 0) (word third 0) true) ≡ says (pos 1)
unfolding made_by live_blocks open_frames
others_differ = refl

-- Frames.
abbrev calls : List Stamp
calls = by 1 (Event.Call 2) ∷ by 1 (Event.Call 2) ∷ by 1 Event.Ret ∷ []

outer_lives : after calls 1 (Event.Wr (word (object 3 1 1 1) 0) Value.Null) ≡ done
unfolding made_by live_blocks open_frames
outer_lives = refl

inner_has_gone : after calls 1 (Event.Wr (word (object 3 1 2 1) 0) Value.Null) ≡ None
unfolding made_by live_blocks open_frames
inner_has_gone = refl

main_lives : after calls 1 (Event.Wr (word (record { site = 0; maker = of_main; len = 1 }) 0) Value.Null) ≡ done
unfolding made_by live_blocks open_frames
main_lives = refl

next_call : after calls 1 (Event.Call 2) ≡ Some (SrcAnswer.Frame (record { thread = record { 0 = 1 }; count = 3 }))
unfolding made_by
next_call = refl

abbrev branch_calls : List Stamp
branch_calls = by 1 (Event.Call 2) ∷ by 17 (Event.Call 2) ∷ by 17 Event.Ret ∷ []

own_lives : after branch_calls 17 (Event.Wr (word (object 3 1 1 1) 0) Value.Null) ≡ done
unfolding made_by live_blocks open_frames
own_lives = refl

branch_has_gone : after branch_calls 1 (Event.Wr (word (object 3 17 1 1) 0) Value.Null) ≡ None
unfolding made_by live_blocks open_frames
branch_has_gone = refl

-- The input.
abbrev given : List Stamp
given = by 0 (Event.Given (pos 5)) ∷ by 0 (Event.Given (pos 6)) ∷ []

two_left : after given 1 Event.Left ≡ says (pos 2)
unfolding numbers_left
two_left = refl

five_first : after given 1 Event.In ≡ says (pos 5)
unfolding numbers_left
five_first = refl

six_next : after (by 0 (Event.Given (pos 5)) ∷ by 0 (Event.Given (pos 6)) ∷ by 1 Event.In ∷ []) 17 Event.In ≡ says (pos 6)
unfolding numbers_left
six_next = refl

none_left : after (by 0 (Event.Given (pos 5)) ∷ by 1 Event.In ∷ by 1 Event.In ∷ []) 1 Event.In ≡ says (pos 0)
unfolding numbers_left
none_left = refl

-- Pointers that are moved.
to_the_end : moved 1 (Value.Int (pos 2)) (word block 0) ≡ Some (word block 2)
to_the_end = refl

beyond : moved 1 (Value.Int (pos 3)) (word block 0) ≡ None
beyond = refl

before_the_first : moved 1 (Value.Int (negsuc 0)) (word block 0) ≡ None
before_the_first = refl

null_moved : moved 1 (Value.Int (pos 0)) Value.Null ≡ None
null_moved = refl

too_few_for_items : items_of 4 (Value.Ptr (object 7 1 1 8) (pos 8) (pos 0) (pos 8)) ≡ None
too_few_for_items = refl
