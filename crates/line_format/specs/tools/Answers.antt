-- What a reader's answer says of all the bytes. A tool of proof.
use Rattle.std.specs.Prelude.{ℕ, suc, ◌-◌, ◌≤◌, List, [], ◌∷◌, length}
use Rattle.line_format.specs.FirstFault.{IsAt}
use Rattle.line_format.specs.tools.Format.{Format, Answer, done, fault, read}

module _ {A : Type 0} (IsText : List ℕ → A → Type 0) where
  abbrev pub Tells : List ℕ → Answer A → Type 0
  Tells bytes (done a rest) = IsText bytes a
  Tells bytes (fault n) = (n ≤ length bytes) × IsAt IsText bytes (length bytes - n)

-- nothing may follow
abbrev pub whole : {A : Type 0} → Answer A → Answer A
whole (done a []) = done a []
whole (done a (b ∷ r)) = fault (suc (length r))
whole (fault n) = fault n

abbrev pub read_all : {A : Type 0} → Format A → List ℕ → Answer A
read_all f bytes = whole (read f bytes)
