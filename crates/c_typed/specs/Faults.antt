-- Broken rules, each at its token.
use Rattle.std.specs.Prelude.{◌≡◌, ℕ, ◌<◌, ◌≤◌, Bool, true, false, List, [], ◌∷◌}
use Rattle.std.specs.List.{Contains}
use Rattle.dfi_base.specs.declared.numbers.Line.{Line}
use Rattle.c_typed.specs.declared.fault.BigWhat.{BigWhat}
use Rattle.c_typed.specs.declared.fault.TypeFault.{TypeFault}

pub data Rule : Type 0 where
  unknown : Rule
  twice : Rule
  mismatch : Rule
  not_lvalue : Rule
  escape : Rule
  branches : Rule
  big : BigWhat → Rule
  no_main : Rule

-- a rule that is broken at a token: the number of tokens before it, and its line
pub record Fault : Type 0 where
  pub at : ℕ
  pub rule : Rule
  pub line : Line

-- The order at one token. A type's words are told before those of the globals or the frame.
abbrev pub big_order : BigWhat → ℕ
big_order BigWhat.Functions = 6
big_order BigWhat.Shape = 7
big_order BigWhat.Globals = 8
big_order BigWhat.Frame = 9

abbrev pub order : Rule → ℕ
order unknown = 0
order twice = 1
order mismatch = 2
order not_lvalue = 3
order escape = 4
order branches = 5
order (big what) = big_order what
order no_main = 10

-- f is told before g
pub data Precedes (f g : Fault) : Type 0 where
  earlier : f.at < g.at → Precedes f g
  together : f.at ≡ g.at → order f.rule ≤ order g.rule → Precedes f g

-- the fault of the earliest token, and at one token the first in the order
pub record IsFirst (f : Fault) (faults : List Fault) : Type 0 where
  pub broken : Contains faults f
  pub first : (g : Fault) → Contains faults g → Precedes f g

abbrev pub told_by : Rule → Line → TypeFault
told_by unknown line = TypeFault.Unknown line
told_by twice line = TypeFault.Twice line
told_by mismatch line = TypeFault.Mismatch line
told_by not_lvalue line = TypeFault.NotLvalue line
told_by escape line = TypeFault.Escape line
told_by branches line = TypeFault.Branches line
told_by (big what) line = TypeFault.Big what line
told_by no_main line = TypeFault.NoMain line

abbrev pub told : Fault → TypeFault
told f = told_by f.rule f.line

-- a rule that is kept where the test holds
abbrev pub unless : Bool → ℕ → Rule → Line → List Fault
unless test at rule line = elim test [ true ↦ [] | false ↦ record { at = at; rule = rule; line = line } ∷ [] ]
