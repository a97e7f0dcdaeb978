-- Each read is an alarm or has the last value, by a definition in the read's set.
use Rattle.std.specs.Prelude.{◌≡◌, ◌<◌, ◌≤◌, true, List, [], ◌∷◌, reverse}
use Rattle.tac_ir.specs.declared.run.Op.{Op}
use Rattle.tac_ir.specs.declared.run.Stop.{Stop}
use Rattle.tac_ir.specs.declared.run.Answer.{Answer}
use Rattle.tac_ir.specs.declared.run.Entry.{Entry}
use Rattle.tac_ir.specs.declared.run.Journal.{Journal}
use Rattle.tac_ir.specs.Module.{Module}
use Rattle.tac_ir.specs.Layout.{memory_words}
use Rattle.tac_ir.specs.Last.{last_write}
use Rattle.tac_ir.specs.Answers.{is_allowed}

-- a read of a word of memory, checked or not
abbrev pub IsLawfulRead : Module → List Entry → Op → Answer → Type 0
IsLawfulRead m h (Op.Read r w) (Answer.Stop (Stop.Alarm found)) = Unit {0}
IsLawfulRead m h (Op.Read r w) answer =
    w < memory_words m.size → (answer ≡ Answer.Value (last_write m.code h w).value) × (is_allowed m r.0 (last_write m.code h w) ≡ true)
IsLawfulRead m h op answer = Unit {0}

-- no alarm at a word of memory
abbrev pub IsNoAlarm : Module → Op → Answer → Type 0
IsNoAlarm m (Op.Read r w) (Answer.Stop (Stop.Alarm found)) = memory_words m.size ≤ w
IsNoAlarm m op answer = Unit {0}

abbrev pub EndsWithoutAlarm : Module → List Entry → Type 0
EndsWithoutAlarm m [] = Unit {0}
EndsWithoutAlarm m (e ∷ h) = IsNoAlarm m e.op e.answer

-- so is each read, and an alarm ends the history; the newest first
unfoldable pub IsLawful : Module → List Entry → Type 0
IsLawful m [] = Unit {0}
IsLawful m (e ∷ h) = IsLawfulRead m h e.op e.answer × EndsWithoutAlarm m h × IsLawful m h

abbrev pub Lawful : Module → Journal → Type 0
Lawful m j = IsLawful m (reverse j.entries)
