-- A module that is accepted breaks no rule.
use Rattle.std.proofs.Common.{suc}
use Rattle.tac_ir.specs.Module.{Module}
use Rattle.flow_rules.specs.Accepted.{Accepted}
use Rattle.flow_rules.specs.declared.rule.Rule.{Rule}
use Rattle.dfi_checker.specs.TextPlace.{TextPlace}
use Rattle.dfi_checker.specs.Breaks.{Breaks, form, points, reach, sets, classes, removed}
use Rattle.dfi_checker.specs.Laws.{AcceptedBreaksNone}
use Rattle.dfi_checker.proofs.FormKept.{form_kept}

kept : (m : Module) → Accepted m → (rule : Rule) (place : TextPlace) → Breaks m rule place → ⊥
kept m is rule place (form at broken) = form_kept m is.form at broken
kept m is rule place (points p there open_at) = open_at (record { values = is.points.values.each p; accesses = is.points.accesses.each p })
kept m is rule place (reach p there open_at) = open_at (λ a. (is.reach a).each p)
kept m is rule place (sets r d low other) = other (is.sets.each (suc r) d)
kept m is rule place (classes d there other) = other (is.classes.each d there)
kept m is rule place (removed r unchecked forbidden) = forbidden (is.removed r unchecked)

pub accepted_breaks_none : AcceptedBreaksNone
accepted_breaks_none m rule line is broken = kept m is rule broken.place broken.broken
