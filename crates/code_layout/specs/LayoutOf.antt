-- What the tables of a layout say of a code.
use Rattle.std.specs.Prelude.{◌≡◌, ℕ, ◌+◌, ◌<◌, ◌≤◌, MatchOption, Some, None, List, length, slice_get, slice_index}
use Rattle.tac_ir.specs.declared.code.Code.{Code}
use Rattle.tac_ir.specs.Layout.{shape_words, words_before, parts_of, vars_of, frame_words}
use Rattle.tac_ir.specs.Counts.{temps_of}
use Rattle.code_layout.specs.declared.frames.Frame.{Frame}
use Rattle.code_layout.specs.declared.layout.Layout.{Layout}
use Rattle.code_layout.specs.LaidOut.{global_start}

-- item k of row s; 0 where there is none
abbrev pub item_of : List (List ℕ) → ℕ → ℕ → ℕ
item_of rows s k = elim (slice_get rows s) [ None ↦ 0 | Some row ↦ slice_index row k ]

-- this is the frame of function f: its link stands before the variables
pub record IsFrameOf (c : Code) (f : ℕ) (frame : Frame) : Type 0 where
  pub words : frame.words ≡ frame_words c f
  pub vars : (v : ℕ) → v < length (vars_of c f) → slice_index frame.vars v ≡ 1 + words_before c (vars_of c f) v
  pub temps : frame.temps ≡ temps_of c f

-- the tables hold the numbers of this code
pub record IsLayoutOf (c : Code) (l : Layout) : Type 0 where
  -- the words of each shape; there are none past the last
  pub shapes : (s : ℕ) → slice_index l.shapes s ≡ shape_words c s
  -- how far each field stands behind the first word of its struct
  pub fields : (s k : ℕ) → k < length (parts_of c s) → item_of l.fields s k ≡ words_before c (parts_of c s) k
  -- the first word of each global
  pub globals : (v : ℕ) → v < length c.globals → slice_index l.globals v ≡ global_start c v
  pub frames : (f : ℕ) → MatchOption (slice_get l.frames f) (length c.funs ≤ f) (IsFrameOf c f)
