-- Rows: what definitions compute.
use Rattle.std.proofs.Common.{sym, ap}
use Rattle.std.specs.Prelude.{◌≡◌, refl, ℕ, pos, true, false, nat_eq, ◌&&◌, Some, None, [], ◌∷◌, map}
use Rattle.obj_mem.specs.declared.value.Obj.{Obj}
use Rattle.obj_mem.specs.declared.value.Value.{Value}
use Rattle.obj_mem.specs.declared.event.Event.{Event}
use Rattle.obj_mem.specs.declared.event.SrcAnswer.{SrcAnswer}
use Rattle.obj_mem.specs.Objects.{of_program, of_main, whole_of}
use Rattle.tac_ir.specs.declared.code.Code.{Code}
use Rattle.tac_ir.specs.declared.code.Shape.{Shape}
use Rattle.tac_ir.specs.declared.code.Place.{Place}
use Rattle.tac_ir.specs.Layout.{words_in}
use Rattle.tac_thread.specs.declared.want.Want.{Want}
use Rattle.obj_run.specs.Objects.{object_meaning, main_stack}
use Rattle.obj_run.specs.Asked.{event_of}
use Rattle.obj_run.specs.Entries.{Entry, last_def, found_by, AreCovered}
use Rattle.obj_run.specs.Starts.{values_in, first_entries}

abbrev array : Obj
array = record { site = 0; maker = of_program; len = 4 }

abbrev at : ℕ → Value
at k = Value.Ptr array (pos k) (pos 0) (pos 4)

abbrev write : ℕ → ℕ → Entry
write k d = record { stamp = record { name = record { 0 = 1 }; event = Event.Wr (at k) (Value.Int (pos 7)); answer = SrcAnswer.Unit }; number = d }

-- one past the last item is moved to, and no further
one_past : object_meaning.index (whole_of array) (Value.Int (pos 4)) 1 ≡ Some (at 4)
one_past = refl

two_past : object_meaning.index (whole_of array) (Value.Int (pos 5)) 1 ≡ None
two_past = refl

-- a read finds the definition that wrote its word last
newest : found_by (write 1 5 ∷ write 0 4 ∷ write 1 3 ∷ []) (Event.Rd (at 0)) ≡ Some 4
unfolding last_def
newest = refl

overwritten : found_by (write 1 5 ∷ write 0 4 ∷ write 1 3 ∷ []) (Event.Rd (at 1)) ≡ Some 5
unfolding last_def
overwritten = refl

-- A global of two words, a number and a pointer; a global number that starts with 5; main with one such struct; and a heap site for it.
abbrev code : Code
code = record {
  shapes = Shape.Int ∷ Shape.Ptr ∷ Shape.Struct (0 ∷ 1 ∷ []) ∷ Shape.Array 2 2 ∷ [];
  globals = record { shape = 2; start = pos 0; line = 1 } ∷ record { shape = 0; start = pos 5; line = 2 } ∷ [];
  sites = record { shape = 2; line = 4 } ∷ [];
  main = 0;
  funs = record { params = 0; vars = 3 ∷ []; code = []; line = 3 } ∷ [];
}

-- the second part of a global's struct: a word of its own, by its bounds
part : object_meaning.place code 0 main_stack (Place.Global 0 (1 ∷ [])) ≡ Value.Ptr (record { site = 0; maker = of_program; len = 2 }) (pos 1) (pos 1) (pos 2)
unfolding words_in
part = refl

-- variables have their sites behind those of globals
variable : object_meaning.place code 0 main_stack (Place.Local 0 []) ≡ Value.Ptr (record { site = 2; maker = of_main; len = 4 }) (pos 0) (pos 0) (pos 4)
unfolding words_in
variable = refl

-- and heap sites theirs behind those of variables
block : event_of code (Want.New 0 (Value.Int (pos 3))) ≡ Some (Event.New 3 (pos 3) 2)
unfolding words_in
block = refl

-- the count of a block must be a number
no_number : event_of code (Want.New 0 Value.Null) ≡ Some Event.Bad
no_number = refl

-- the words of an array of two structs
words : values_in (Value.Int (pos 0)) (Shape.Array 2 2 ∷ Shape.Struct (0 ∷ 1 ∷ []) ∷ Shape.Ptr ∷ Shape.Int ∷ []) 3 ≡ Value.Int (pos 0) ∷ Value.Null ∷ Value.Int (pos 0) ∷ Value.Null ∷ []
unfolding values_in
words = refl

-- a run begins with the words of globals, by their starting definitions, and the input
begins : map (λ (e : Entry). e.number) (first_entries code (pos 9 ∷ [])) ≡ 0 ∷ 2 ∷ 1 ∷ 1 ∷ []
unfolding values_in
begins = refl

starts : found_by (first_entries code (pos 9 ∷ [])) (Event.Rd (Value.Ptr (record { site = 1; maker = of_program; len = 1 }) (pos 0) (pos 0) (pos 1))) ≡ Some 2
unfolding values_in last_def
starts = refl

-- a read is covered where the definition that it finds is in its set, and not where it is not
abbrev read : ℕ → ℕ → Entry
read k r = record { stamp = record { name = record { 0 = 1 }; event = Event.Rd (at k); answer = SrcAnswer.Value (Value.Int (pos 7)) }; number = r }

covered : AreCovered (λ r d. nat_eq r 2 && nat_eq d 5) [] (read 1 2 ∷ write 1 5 ∷ write 1 4 ∷ [])
unfolding last_def AreCovered
covered = (λ d is. (let same : 5 ≡ d = cc in ap (λ k. nat_eq k 5) (sym same)), (λ d is. cc, (λ d is. cc, tt)))

uncovered : AreCovered (λ r d. nat_eq r 2 && nat_eq d 4) [] (read 1 2 ∷ write 1 5 ∷ write 1 4 ∷ []) → ⊥
unfolding last_def AreCovered
uncovered covers = (let clash : false ≡ true = covers.0 5 refl in cc)
