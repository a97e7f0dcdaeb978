-- What a parser's answer says of a whole list of tokens.
use Rattle.std.specs.Prelude.{◌≡◌, ℕ, ◌-◌, ◌≤◌, List, [], length}
use Rattle.parse_law.specs.Nesting.{Grammar}
use Rattle.parse_law.specs.FirstFault.{IsParsed, IsUnexpected, IsDeep}
use Rattle.parse_law.specs.tools.Parsing.{Answer, done, fault, unexpected, deep}

module _ {T A : Type 0} (D : Grammar T A) (limit : ℕ) where
  abbrev pub Tells : List T → Answer T A → Type 0
  Tells ts (done a rest) = IsParsed D limit ts a × (rest ≡ [])
  Tells ts (fault unexpected n) = (n ≤ length ts) × IsUnexpected D limit ts (length ts - n)
  Tells ts (fault deep n) = (n ≤ length ts) × IsDeep D limit ts (length ts - n)

  -- one answer is right, and no other
  abbrev pub HasOneAnswer : List T → Type 0
  HasOneAnswer ts = (o : Answer T A) × Tells ts o × ((other : Answer T A) → Tells ts other → o ≡ other)
