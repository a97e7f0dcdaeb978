-- One rule is the first that is broken, at one line.
use Rattle.std.proofs.Common.{◌≡◌, ℕ, zero, suc, ◌<◌, ◌≤◌, ◌⊎◌, inl, inr, refl, sym, ap, subst, ◌∙◌, arith}
use Rattle.std.proofs.lemmas.Bool.{cases_lt}
use Rattle.tac_ir.specs.Module.{Module}
use Rattle.flow_rules.specs.declared.rule.Rule.{Rule}
use Rattle.dfi_checker.specs.Breaks.{IsBrokenAt}
use Rattle.dfi_checker.specs.IsAccepted.{IsFirstBroken, rank}
use Rattle.dfi_checker.specs.Laws.{OneFault}

-- the rule of a place among the rules
abbrev rule_at : ℕ → Rule
rule_at zero = Rule.Form
rule_at (suc zero) = Rule.Points
rule_at (suc (suc zero)) = Rule.Reach
rule_at (suc (suc (suc zero))) = Rule.Sets
rule_at (suc (suc (suc (suc zero)))) = Rule.Classes
rule_at (suc (suc (suc (suc (suc n))))) = Rule.Removed

at_rank : (rule : Rule) → rule_at (rank rule) ≡ rule
at_rank Rule.Form = refl
at_rank Rule.Points = refl
at_rank Rule.Reach = refl
at_rank Rule.Sets = refl
at_rank Rule.Classes = refl
at_rank Rule.Removed = refl

one_line : (m : Module) (rule other : Rule) (line n : ℕ) → rule ≡ other → IsFirstBroken m rule line → IsFirstBroken m other n → line ≡ n
one_line m rule other line n e a b =
    let low = a.first n (subst (λ r. IsBrokenAt m r n) (sym e) b.broken) in
    let high = b.first line (subst (λ r. IsBrokenAt m r line) e a.broken) in
    omega (arith, low, high)

pub one_fault : OneFault
one_fault m rule other line n a b = by (cases_lt (rank rule) (rank other)) (cases_lt (rank other) (rank rule))
  where
    by : (rank rule < rank other) ⊎ (rank other ≤ rank rule) → (rank other < rank rule) ⊎ (rank rule ≤ rank other) → (rule ≡ other) × (line ≡ n)
    by (inl h) k = absurd (b.earlier rule line h a.broken)
    by (inr h) (inl k) = absurd (a.earlier other n k b.broken)
    by (inr h) (inr k) =
        let same : rank rule ≡ rank other = omega (arith, h, k) in
        let e : rule ≡ other = sym (at_rank rule) ∙ (ap rule_at same ∙ at_rank other) in
        (e, one_line m rule other line n e a b)
