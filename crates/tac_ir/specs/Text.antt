-- What a run prints: its numbers, and then its end.
use Rattle.std.specs.Prelude.{ℕ, ◌-◌, Bool, true, false, nat_eq, Option, Some, None, List, [], ◌∷◌, ◌++◌, reverse, length, map, filter, slice_get, codes}
use Rattle.std.specs.List.{flat_map, range_with_len}
use Rattle.std.specs.Fmt.{decimal, signed_decimal}
use Rattle.tac_ir.specs.declared.code.Code.{Code}
use Rattle.tac_ir.specs.declared.code.Fun.{Fun}
use Rattle.tac_ir.specs.declared.code.Lined.{Lined}
use Rattle.tac_ir.specs.declared.code.Instr.{Instr}
use Rattle.tac_ir.specs.declared.run.Op.{Op}
use Rattle.tac_ir.specs.declared.run.Stop.{Stop}
use Rattle.tac_ir.specs.declared.run.Answer.{Answer}
use Rattle.tac_ir.specs.declared.run.Entry.{Entry}
use Rattle.tac_ir.specs.declared.run.End.{End}
use Rattle.tac_ir.specs.declared.run.Limit.{Limit}
use Rattle.tac_ir.specs.declared.run.Journal.{Journal}
use Rattle.tac_ir.specs.Module.{Module}
use Rattle.tac_ir.specs.Layout.{line_at}
use Rattle.tac_ir.specs.Last.{last_write}
use Rattle.tac_ir.specs.Answers.{has, set_of, class_of}

abbrev pub line_of_text : List ℕ → List ℕ
line_of_text bytes = bytes ++ 10 ∷ []

-- each number that was put out, on a line of its own
abbrev pub output_of : Op → List ℕ
output_of (Op.Out v) = line_of_text (signed_decimal v)
output_of op = []

-- Lines of definitions.

abbrev pub defines : ℕ → Instr → Bool
defines d (Instr.Set place a def) = nat_eq def d
defines d (Instr.Store a b def) = nat_eq def d
defines d (Instr.Call to f def args) = nat_eq def d
defines d i = false

-- the line of the first instruction that is definition d
abbrev pub line_among : List Lined → ℕ → Option ℕ
line_among [] d = None
line_among (l ∷ rest) d = elim (defines d l.instr) [ true ↦ Some l.line | false ↦ line_among rest d ]

abbrev pub line_in : List Fun → ℕ → ℕ
line_in [] d = 0
line_in (f ∷ funs) d = elim (line_among f.code d) [ Some line ↦ line | None ↦ line_in funs d ]

-- the line of a definition: a starting definition has its global's, any other that of its instruction
abbrev pub line_of_def : Code → ℕ → ℕ
line_of_def c d = elim (slice_get c.globals (d - 1)) [ Some g ↦ g.line | None ↦ line_in c.funs d ]

-- Alarms.

-- the last writer of the word that was read
abbrev pub found_line : Module → ℕ → List ℕ
found_line m d =
    elim (nat_eq d 0) [
      | true ↦ line_of_text (codes "found class 0 no definition")
      | false ↦ line_of_text (codes "found class " ++ decimal (class_of m d) ++ codes " definition " ++ decimal d ++ codes " line " ++ decimal (line_of_def m.code d))
    ]

-- the classes of a set, ascending, each once
abbrev pub classes_of_set : Module → List ℕ → List ℕ
classes_of_set m set = filter (has (map (class_of m) set)) (range_with_len 1 (length m.classes))

abbrev pub allowed_words : List ℕ → List ℕ
allowed_words [] = codes " none"
allowed_words (k ∷ classes) = flat_map (λ class. 32 ∷ decimal class) (k ∷ classes)

abbrev pub allowed_line : Module → List ℕ → List ℕ
allowed_line m set = line_of_text (codes "allowed" ++ allowed_words (classes_of_set m set))

-- the three lines of an alarm, after the history h
abbrev pub alarm_lines : Module → List Entry → Entry → Op → List ℕ
alarm_lines m h e (Op.Read r w) =
    line_of_text (codes "alarm read " ++ decimal r.0 ++ codes " line " ++ decimal (line_at m.code e.point) ++ codes " word " ++ decimal w)
    ++ found_line m (last_write m.code h w).def ++ allowed_line m (set_of m r.0)
alarm_lines m h e op = []

-- Traps.

abbrev pub at_line : Module → Entry → List ℕ
at_line m e = codes " line " ++ decimal (line_at m.code e.point)

abbrev pub at_word : Op → List ℕ
at_word (Op.Read r w) = codes " word " ++ decimal w
at_word (Op.Write d w v) = codes " word " ++ decimal w
at_word (Op.Free w) = codes " word " ++ decimal w
at_word op = []

abbrev pub trap_lines : Module → Entry → Answer → List ℕ
trap_lines m e (Answer.Stop Stop.Divide) = line_of_text (codes "trap divide" ++ at_line m e)
trap_lines m e (Answer.Stop Stop.Address) = line_of_text (codes "trap address" ++ at_line m e ++ at_word e.op)
trap_lines m e (Answer.Stop Stop.Free) = line_of_text (codes "trap free" ++ at_line m e ++ at_word e.op)
trap_lines m e answer = []

abbrev pub limit_name : Limit → List ℕ
limit_name Limit.Stack = codes "stack"
limit_name Limit.Heap = codes "heap"
limit_name Limit.Depth = codes "depth"
limit_name Limit.Share = codes "share"
limit_name Limit.Budget = codes "budget"

-- the lines of an end, by the history, the newest first
abbrev pub end_lines : Module → List Entry → End → List ℕ
end_lines m h (End.Done v) = line_of_text (codes "end " ++ signed_decimal v)
end_lines m [] End.Alarm = []
end_lines m (e ∷ h) End.Alarm = alarm_lines m h e e.op
end_lines m [] End.Trap = []
end_lines m (e ∷ h) End.Trap = trap_lines m e e.answer
end_lines m h (End.Limit limit) = line_of_text (codes "limit " ++ limit_name limit)
end_lines m h End.Cut = line_of_text (codes "cut " ++ decimal (length h))
end_lines m h End.NoRun = []

-- the text of a run
unfoldable pub text_of : Module → Journal → List ℕ
text_of m j = flat_map (λ e. output_of e.op) j.entries ++ end_lines m (reverse j.entries) j.end
