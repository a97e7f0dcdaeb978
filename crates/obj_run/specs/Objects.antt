-- Values over objects as the values of threads, and frames named by their makers as the stacks. Every stack has a frame, no frame has a
-- link, and the branches of a thread share its frame.
use Rattle.std.specs.Prelude.{ℕ, ◌+◌, pos, true, Option, Some, None, take, length, List, slice_index}
use Rattle.obj_mem.specs.declared.Maker.{Maker}
use Rattle.obj_mem.specs.declared.value.Value.{Value}
use Rattle.obj_mem.specs.Objects.{of_program, of_main}
use Rattle.obj_mem.specs.Values.{truth_of, on_word, on_words, part_of, items_of, moved}
use Rattle.tac_ir.specs.declared.code.Code.{Code}
use Rattle.tac_ir.specs.declared.code.Place.{Place}
use Rattle.tac_ir.specs.Words.{un_of, bin_of}
use Rattle.tac_ir.specs.Layout.{shape_words, words_before, parts_of, along, vars_of, shapes_of_globals}
use Rattle.tac_ir.specs.Counts.{vars_in_funs}
use Rattle.tac_ir.specs.Places.{end_of_path}
use Rattle.tac_thread.specs.Meaning.{Meaning}
use Rattle.obj_run.specs.declared.values.ObjStack.{ObjStack}

-- Sites: the globals come first, then the variables of each function, then the heap sites.

abbrev pub first_variable : Code → ℕ → ℕ
first_variable c f = length c.globals + length (vars_in_funs (take f c.funs))

abbrev pub first_heap_site : Code → ℕ
first_heap_site c = length c.globals + length (vars_in_funs c.funs)

-- Places.

-- the words of what a path of fields comes to
abbrev pub words_at : Code → Option ℕ → ℕ
words_at c None = 0
words_at c (Some shape) = shape_words c shape

-- the pointer to a part of an object of this shape, with the part as its bounds
abbrev pub part_at : Code → ℕ → Maker → ℕ → List ℕ → Value
part_at c site maker shape path =
    Value.Ptr (record { site = site; maker = maker; len = shape_words c shape })
    (pos (along c shape path)) (pos (along c shape path)) (pos (along c shape path + words_at c (end_of_path c shape path)))

abbrev pub place_of : Code → ℕ → ObjStack → Place → Value
place_of c f s (Place.Global v path) = part_at c v of_program (slice_index (shapes_of_globals c) v) path
place_of c f s (Place.Local v path) = part_at c (first_variable c f + v) s.maker (slice_index (vars_of c f) v) path

-- What each operation answers.

abbrev pub field_of : Code → Value → ℕ → ℕ → Option Value
field_of c a shape k = part_of (shape_words c shape) (words_before c (parts_of c shape) k) (shape_words c (slice_index (parts_of c shape) k)) a

abbrev pub object_meaning : Meaning Value ObjStack
object_meaning = record {
  int = Value.Int;
  null = Value.Null;
  truth = truth_of;
  un = λ op a. on_word (un_of op) a;
  bin = λ op a b. on_words (bin_of op) a b;
  place = place_of;
  field = field_of;
  decay = λ c a shape. items_of (shape_words c shape) a;
  index = λ a i words. moved words i a;
  enter = λ c s f maker. Some (record { maker = maker });
  share = λ s n i. Some s;
  link = λ s. None;
  has_frame = λ c f s. true;
}

-- thread 1 begins with main's frame
abbrev pub main_stack : ObjStack
main_stack = record { maker = of_main }
