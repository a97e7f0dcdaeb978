-- A function of the code does what a reading says, unless memory is wanted.
use Rattle.std.specs.Prelude.{◌≡◌, ℕ, List, Result, Ok, Err}
use Rattle.c_typed.specs.Typed.{Typed}
use Rattle.src_meaning.specs.declared.heard.Pause.{Pause}
use Rattle.src_law.specs.Acts.{Kind, Result as Made, Act}
use Rattle.src_law.specs.Program.{body}
use Rattle.src_law.specs.tools.Reader.{reads}
use Rattle.src_law.specs.declared.heard.Heard.{Heard}
use Rattle.src_law.specs.tools.Heard.{Res, got, wants, over, ended, off}

abbrev pub Pauses : {A : Type 0} → Res A → Pause → Type 0
Pauses r Pause.Memory = Unit {0}
Pauses r (Pause.Wants e) = r ≡ wants e
Pauses r Pause.Over = r ≡ over
Pauses r Pause.Ended = r ≡ ended
Pauses r Pause.Off = r ≡ off

abbrev pub Follows : {A : Type 0} → Res A → Result A Pause → List Heard → Type 0
Follows r (Ok x) left = r ≡ got x left
Follows r (Err p) left = Pauses r p

-- a part of a program, with so many calls and turns in one another
abbrev pub ReadsAt : Typed → ℕ → (k : Kind) → Act k → List Heard → Result (Made k) Pause → List Heard → Type 0
ReadsAt t n k a old r left = Follows (reads (body t) n k a old) r left
