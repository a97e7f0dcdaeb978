-- Laws of what is accepted and what is refused, and of lines.
use Rattle.std.specs.Prelude.{◌≡◌, ℕ, ◌<◌, true}
use Rattle.dfi_base.specs.declared.numbers.Point.{Point}
use Rattle.tac_ir.specs.Module.{Module, point_before}
use Rattle.tac_ir.specs.GoodModule.{IsPoint}
use Rattle.flow_rules.specs.Accepted.{Accepted}
use Rattle.flow_rules.specs.declared.rule.Rule.{Rule}
use Rattle.dfi_checker.specs.TextPlace.{line_of, instruction}
use Rattle.dfi_checker.specs.Breaks.{IsBrokenAt}
use Rattle.dfi_checker.specs.IsAccepted.{IsFirstBroken}

-- a module that is accepted breaks no rule at any line
abbrev pub AcceptedBreaksNone : Type 0
AcceptedBreaksNone = (m : Module) (rule : Rule) (line : ℕ) → Accepted m → IsBrokenAt m rule line → ⊥

-- one rule is the first that is broken, at one line
abbrev pub OneFault : Type 0
OneFault = (m : Module) (rule other : Rule) (line n : ℕ) → IsFirstBroken m rule line → IsFirstBroken m other n → (rule ≡ other) × (line ≡ n)

-- instructions that stand later in the code stand later in the text
abbrev pub LinesAscend : Type 0
LinesAscend = (m : Module) (p q : Point) → IsPoint m.code p → point_before p q ≡ true → line_of m (instruction p) < line_of m (instruction q)
