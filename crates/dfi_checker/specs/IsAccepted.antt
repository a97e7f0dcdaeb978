-- What asking whether a module is accepted answers.
use Rattle.std.specs.Prelude.{◌≡◌, ℕ, ◌<◌, ◌≤◌, Result, Ok, Err}
use Rattle.tac_ir.specs.Module.{Module}
use Rattle.flow_rules.specs.Accepted.{Accepted}
use Rattle.flow_rules.specs.declared.rule.Rule.{Rule}
use Rattle.dfi_checker.specs.declared.fault.AcceptFault.{AcceptFault}
use Rattle.dfi_checker.specs.Breaks.{IsBrokenAt}

-- the place of a rule among the rules
abbrev pub rank : Rule → ℕ
rank Rule.Form = 0
rank Rule.Points = 1
rank Rule.Reach = 2
rank Rule.Sets = 3
rank Rule.Classes = 4
rank Rule.Removed = 5

-- the rule is broken at this line and at none before, and no earlier rule is broken
pub record IsFirstBroken (m : Module) (rule : Rule) (line : ℕ) : Type 0 where
  pub broken : IsBrokenAt m rule line
  pub first : (n : ℕ) → IsBrokenAt m rule n → line ≤ n
  pub earlier : (other : Rule) (n : ℕ) → rank other < rank rule → IsBrokenAt m other n → ⊥

-- the module, which is accepted, or the first broken rule and its first line; want of memory is free
abbrev pub IsAccepted : Module → Result Module AcceptFault → Type 0
IsAccepted m (Ok accepted) = (accepted ≡ m) × Accepted m
IsAccepted m (Err (AcceptFault.Refused rule line)) = IsFirstBroken m rule line
IsAccepted m (Err AcceptFault.Memory) = Unit {0}
