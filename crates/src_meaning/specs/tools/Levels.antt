-- What the code keeps of a program and of what stands round a part, and what it makes of a part.
use Rattle.std.specs.Prelude.{◌-◌, List, Result}
use Rattle.c_typed.specs.Typed.{Typed}
use Rattle.src_law.specs.Acts.{Kind, Result as Made, Act}
use Rattle.src_law.specs.Exprs.{Around}
use Rattle.src_law.specs.Program.{around}
use Rattle.src_law.specs.declared.heard.Heard.{Heard}
use Rattle.src_meaning.specs.declared.heard.Pause.{Pause}
use Rattle.src_meaning.specs.declared.level.Level.{Level}
use Rattle.src_meaning.specs.declared.level.Program.{Program}
use Rattle.src_meaning.specs.tools.Follows.{ReadsAt}

abbrev pub program_of : Program → Typed
program_of p = record { structs = p.structs.now; globals = p.globals.now; functions = p.functions.now; main = p.main }

abbrev pub seen : Level → Around
seen l = around (program_of l.program) l.number l.function.now l.maker

abbrev pub ReadsIn : Level → (k : Kind) → Act k → List Heard → Result (Made k) Pause → List Heard → Type 0
ReadsIn l k act old r left = ReadsAt (program_of l.program) l.fuel k act old r left

-- with a call or a turn less
abbrev pub lower : Level → Level
lower l = record l { fuel = l.fuel - 1 }
