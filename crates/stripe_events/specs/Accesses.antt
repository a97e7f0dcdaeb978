-- The events that a memory serves, and their kinds of answers.
use Rattle.std.specs.Prelude.{◌<◌}
use Rattle.tac_ir.specs.declared.run.Op.{Op}
use Rattle.tac_ir.specs.declared.run.Answer.{Answer}
use Rattle.tac_ir.specs.declared.run.Stop.{Stop}
use Rattle.tac_ir.specs.Layout.{memory_words}
use Rattle.stripe_rule.specs.declared.plan.Terms.{Terms}

-- an event of the heap or the input, or a read or write of a word of memory
abbrev pub IsAccess : Terms → Op → Type 0
IsAccess p (Op.Read r w) = w < memory_words p.md.size
IsAccess p (Op.Write d w v) = w < memory_words p.md.size
IsAccess p (Op.New site count) = Unit {0}
IsAccess p (Op.Free w) = Unit {0}
IsAccess p Op.In = Unit {0}
IsAccess p Op.Left = Unit {0}
IsAccess p op = ⊥

-- an event that takes a block
abbrev pub TakesBlock : Op → Type 0
TakesBlock (Op.New site count) = Unit {0}
TakesBlock op = ⊥

-- an answer of the event's kind: a value, or where the event may stop the run, its stop
abbrev pub IsKind : Op → Answer → Type 0
IsKind (Op.Read r w) (Answer.Value v) = Unit {0}
IsKind (Op.Read r w) (Answer.Stop (Stop.Alarm found)) = Unit {0}
IsKind (Op.Write d w v) Answer.Unit = Unit {0}
IsKind (Op.New site count) (Answer.Value at) = Unit {0}
IsKind (Op.New site count) (Answer.Stop Stop.Heap) = Unit {0}
IsKind (Op.Free w) Answer.Unit = Unit {0}
IsKind (Op.Free w) (Answer.Stop Stop.Free) = Unit {0}
IsKind Op.In (Answer.Value v) = Unit {0}
IsKind Op.Left (Answer.Value v) = Unit {0}
IsKind op answer = ⊥
