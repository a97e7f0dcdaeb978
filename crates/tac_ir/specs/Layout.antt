-- Where things stand in code and in memory.
use Rattle.std.specs.Prelude.{ℕ, ◌+◌, ◌*◌, true, false, Some, None, List, [], ◌∷◌, slice_get, slice_index, sum, take, map, reverse, length, nat_eq}
use Rattle.dfi_base.specs.declared.numbers.Point.{Point}
use Rattle.dfi_base.specs.MemoryMap.{small_stack_from, small_memory_words, large_stack_from, large_memory_words}
pub use Rattle.dfi_base.specs.MemoryMap.{globals_from, heap_from}
use Rattle.tac_ir.specs.declared.code.Code.{Code}
use Rattle.tac_ir.specs.declared.code.Shape.{Shape}
use Rattle.tac_ir.specs.declared.code.Place.{Place}
use Rattle.tac_ir.specs.declared.code.Instr.{Instr}
use Rattle.tac_ir.specs.declared.code.Lined.{Lined}
use Rattle.tac_ir.specs.declared.module.Size.{Size}

-- Code.

abbrev pub vars_of : Code → ℕ → List ℕ
vars_of c f = elim (slice_get c.funs f) [ None ↦ [] | Some fun ↦ fun.vars ]

abbrev pub lines_of : Code → ℕ → List Lined
lines_of c f = elim (slice_get c.funs f) [ None ↦ [] | Some fun ↦ fun.code ]

-- the instruction at a point, and End where there is none
abbrev pub instr_at : Code → Point → Instr
instr_at c p = elim (slice_get (lines_of c p.fun) p.at) [ None ↦ Instr.End | Some lined ↦ lined.instr ]

-- the line of a point
abbrev pub line_at : Code → Point → ℕ
line_at c p = elim (slice_get (lines_of c p.fun) p.at) [ None ↦ 0 | Some lined ↦ lined.line ]

-- Shapes.

-- the words of a shape, by those of the shapes that it names
abbrev pub words_by : (ℕ → ℕ) → Shape → ℕ
words_by words Shape.Int = 1
words_by words Shape.Ptr = 1
words_by words (Shape.Array len item) = len * words item
words_by words (Shape.Struct parts) = sum (map words parts)

-- the words of shape s, among shapes listed with the last one first; a shape names earlier ones alone
unfoldable pub words_in : List Shape → ℕ → ℕ
words_in [] s = 0
words_in (shape ∷ earlier) s =
    elim (nat_eq s (length earlier)) [ true ↦ words_by (words_in earlier) shape | false ↦ words_in earlier s ]

abbrev pub shape_words : Code → ℕ → ℕ
shape_words c s = words_in (reverse c.shapes) s

-- the words of variables of these shapes, the first n of them
abbrev pub words_before : Code → List ℕ → ℕ → ℕ
words_before c shapes n = sum (map (shape_words c) (take n shapes))

-- the parts of a shape, where it is a struct
abbrev pub parts_of : Code → ℕ → List ℕ
parts_of c s = elim (slice_get c.shapes s) [ Some (Shape.Struct parts) ↦ parts | _ ↦ [] ]

-- how far the part at the end of a path of fields stands behind the first word of a shape
abbrev pub along : Code → ℕ → List ℕ → ℕ
along c s [] = 0
along c s (k ∷ path) = words_before c (parts_of c s) k + along c (slice_index (parts_of c s) k) path

-- Memory: reserved words, the globals, the heap, the stacks.

abbrev pub stack_from : Size → ℕ
stack_from Size.Small = small_stack_from
stack_from Size.Large = large_stack_from

abbrev pub memory_words : Size → ℕ
memory_words Size.Small = small_memory_words
memory_words Size.Large = large_memory_words

abbrev pub shapes_of_globals : Code → List ℕ
shapes_of_globals c = map (λ g. g.shape) c.globals

-- a frame is one link word, the parameters, then the locals
abbrev pub frame_words : Code → ℕ → ℕ
frame_words c f = 1 + sum (map (shape_words c) (vars_of c f))

-- the first word of a place, in function f whose frame stands at base
abbrev pub place_word : Code → ℕ → ℕ → Place → ℕ
place_word c f base (Place.Global v path) =
    globals_from + words_before c (shapes_of_globals c) v + along c (slice_index (shapes_of_globals c) v) path
place_word c f base (Place.Local v path) =
    base + 1 + words_before c (vars_of c f) v + along c (slice_index (vars_of c f) v) path
