-- What a reader of bytes gives of those that are left. A tool of proof.
use Rattle.std.specs.Prelude.{◌≡◌, ◌≤◌, ℕ, Bool, List, [], Option, Some, None, Result, Ok, Err}
use Rattle.line_format.specs.tools.Format.{Next, more, last, Answer, done, fault}
use Rattle.line_format.specs.tools.Number.{byte_end}
use Rattle.line_format.specs.tools.Members.{member_end}
use Rattle.line_format.specs.declared.cursor.Failure.{Failure}
use Rattle.line_format.specs.declared.numbers.Turn.{Turn}
use Rattle.line_format.specs.declared.numbers.End.{End}

abbrev pub Fails : {A : Type 0} → Answer A → Failure → Type 0
Fails answer Failure.Memory = Unit {0}
Fails answer (Failure.At n) = answer ≡ fault n

-- the value and the bytes behind it, or the faulty byte; want of memory is free
abbrev pub Reads : {A : Type 0} → Answer A → Result A Failure → List ℕ → Type 0
Reads answer (Ok a) new = answer ≡ done a new
Reads answer (Err e) new = Fails answer e

-- the same where the value is told by another
abbrev pub ReadsAs : {A B : Type 0} → (B → A) → Answer A → Result B Failure → List ℕ → Type 0
ReadsAs from answer (Ok b) new = answer ≡ done (from b) new
ReadsAs from answer (Err e) new = Fails answer e

abbrev pub ReadsAll : {A : Type 0} → Answer A → Result A Failure → Type 0
ReadsAll answer (Ok a) = answer ≡ done a []
ReadsAll answer (Err e) = Fails answer e

-- which byte may end a number, and whether it ends the line
abbrev pub end_of : End → ℕ → ℕ → Option Bool
end_of (End.Byte c) = byte_end c
end_of (End.Member between end rising) = member_end between end rising

abbrev pub turn_of : Turn → Next ℕ (ℕ × Bool)
turn_of (Turn.More n) = more n
turn_of (Turn.Last n ended) = last (n, ended)

abbrev pub turn_some : Option Turn → Option (Next ℕ (ℕ × Bool))
turn_some None = None
turn_some (Some t) = Some (turn_of t)

abbrev pub Turns : Answer (Next ℕ (ℕ × Bool)) → Result Turn Failure → List ℕ → Type 0
Turns answer (Ok t) new = answer ≡ done (turn_of t) new
Turns answer (Err e) new = Fails answer e

-- the number of a turn is at most the greatest of the range
abbrev pub IsWithin : Turn → ℕ → Type 0
IsWithin (Turn.More n) high = n ≤ high
IsWithin (Turn.Last n ended) high = n ≤ high
