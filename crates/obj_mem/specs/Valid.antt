-- Validity: what a thread's event is answered by the stamps before it, the newest first; none where the event is invalid.
use Rattle.std.specs.Prelude.{ℕ, ℤ, pos, int_le, int_lt, Bool, true, false, not, ◌&&◌, ◌||◌, Option, Some, None, List, length}
use Rattle.std.specs.Ordering.{int_eq}
use Rattle.obj_mem.specs.declared.value.Obj.{Obj}
use Rattle.obj_mem.specs.declared.value.Value.{Value}
use Rattle.obj_mem.specs.declared.event.Event.{Event}
use Rattle.obj_mem.specs.declared.event.SrcAnswer.{SrcAnswer}
use Rattle.obj_mem.specs.declared.event.Stamp.{Stamp}
use Rattle.obj_mem.specs.Objects.{same_obj, whole_of}
use Rattle.obj_mem.specs.Alive.{next_maker, next_block, is_live, is_block, live_blocks}
use Rattle.obj_mem.specs.Written.{last_value}
use Rattle.obj_mem.specs.Input.{numbers_left, first_or_0}

abbrev pub where_so : Bool → SrcAnswer → Option SrcAnswer
where_so true a = Some a
where_so false a = None

-- Words: a pointer within its bounds, to a live object.

abbrev pub is_usable : List Stamp → Obj → ℤ → ℤ → ℤ → Bool
is_usable h o off lo hi = int_le lo off && int_lt off hi && is_live h o

abbrev pub the_value : Option Value → Option SrcAnswer
the_value None = None
the_value (Some v) = Some (SrcAnswer.Value v)

-- what is read must have been written
abbrev pub read_at : List Stamp → Value → Option SrcAnswer
read_at h (Value.Ptr o off lo hi) = elim (is_usable h o off lo hi) [ true ↦ the_value (last_value o off h) | false ↦ None ]
read_at h v = None

abbrev pub write_at : List Stamp → Value → Option SrcAnswer
write_at h (Value.Ptr o off lo hi) = where_so (is_usable h o off lo hi) SrcAnswer.Unit
write_at h v = None

-- Comparisons (C99 6.5.9p6): null, or a pointer to a live object; one past the end of its bounds is compared within its object alone.

abbrev pub number : Bool → SrcAnswer
number true = SrcAnswer.Value (Value.Int (pos 1))
number false = SrcAnswer.Value (Value.Int (pos 0))

abbrev pub differs_or_not : Bool → Bool → SrcAnswer
differs_or_not true same = number (not same)
differs_or_not false same = number same

abbrev pub compared : List Stamp → Value → Value → Bool → Option SrcAnswer
compared h Value.Null Value.Null ne = Some (differs_or_not ne true)
compared h (Value.Ptr o off lo hi) Value.Null ne = where_so (is_live h o) (differs_or_not ne false)
compared h Value.Null (Value.Ptr o off lo hi) ne = where_so (is_live h o) (differs_or_not ne false)
compared h (Value.Ptr o off lo hi) (Value.Ptr p at from to) ne =
    where_so (is_live h o && is_live h p && (same_obj o p || (not (int_eq off hi) && not (int_eq at to)))) (differs_or_not ne (same_obj o p && int_eq off at))
compared h v w ne = None

-- null, or the first word of a live block
abbrev pub freed : List Stamp → Value → Option SrcAnswer
freed h Value.Null = Some SrcAnswer.Unit
freed h (Value.Ptr o off lo hi) = where_so (int_eq off (pos 0) && is_block o (live_blocks h)) SrcAnswer.Unit
freed h v = None

-- The answer of an event of the thread of this name.
abbrev pub answer_of : List Stamp → ℕ → Event → Option SrcAnswer
answer_of h n (Event.Rd p) = read_at h p
answer_of h n (Event.Wr p v) = write_at h p
answer_of h n (Event.Same p q ne) = compared h p q ne
answer_of h n (Event.New site count words) = Some (SrcAnswer.Value (whole_of (next_block n h site count words)))
answer_of h n (Event.Free p) = freed h p
answer_of h n Event.In = Some (SrcAnswer.Value (Value.Int (first_or_0 (numbers_left h))))
answer_of h n Event.Left = Some (SrcAnswer.Value (Value.Int (pos (length (numbers_left h)))))
answer_of h n (Event.Call f) = Some (SrcAnswer.Frame (next_maker n h))
answer_of h n (Event.Out v) = Some SrcAnswer.Unit
answer_of h n Event.Ret = Some SrcAnswer.Unit
answer_of h n Event.Turn = Some SrcAnswer.Unit
answer_of h n (Event.Fork branches) = Some SrcAnswer.Unit
answer_of h n Event.Zero = Some SrcAnswer.Unit
answer_of h n Event.Bad = None
answer_of h n (Event.Given v) = None
