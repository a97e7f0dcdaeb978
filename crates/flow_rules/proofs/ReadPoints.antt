-- Whether a read may go unchecked where it stands.
use Rattle.std.proofs.Common.{◌≡◌, ℕ, sym, ap, ◌∙◌, subst, Some}
use Rattle.dfi_base.specs.declared.numbers.Point.{Point}
use Rattle.tac_ir.specs.declared.code.Instr.{Instr}
use Rattle.tac_ir.specs.declared.code.Place.{Place}
use Rattle.tac_ir.specs.Module.{Module}
use Rattle.tac_ir.specs.Layout.{instr_at}
use Rattle.tac_ir.specs.Numbers.{new_read}
use Rattle.tac_ir.specs.Bodies.{Parallel}
use Rattle.tac_ir.specs.GoodForm.{GoodForm}
use Rattle.tac_ir.proofs.Numbering.{one_instruction_a_read}
use Rattle.flow_rules.specs.Removed.{Removed, IsCovered}

-- Removed reads.

pub removed_at : (m : Module) → GoodForm m.code → (p : Point) (r : ℕ) → new_read (instr_at m.code p) ≡ Some r → (removed : Removed m r) → removed.at ≡ p
removed_at m good p r read removed = one_instruction_a_read m.code good removed.at p r (ap new_read removed.read) read

pub record IsRemovedAt (m : Module) (p : Point) (place : Place) (r : ℕ) : Type 0 where
  pub alone : (q : Point) → Parallel m.code p q → ⊥
  pub covered : IsCovered m p.fun p.at r place

pub removed_here : (m : Module) → GoodForm m.code → (p : Point) (to r : ℕ) (place : Place) → instr_at m.code p ≡ Instr.Get to place r → Removed m r → IsRemovedAt m p place r
removed_here m good p to r place is removed =
    let same = removed_at m good p r (ap new_read is) removed in
    let both : Instr.Get removed.to removed.place r ≡ Instr.Get to place r = sym removed.read ∙ ap (instr_at m.code) same ∙ is in
    let equal : removed.place ≡ place = cc in
    subst (λ q. IsRemovedAt m q place r) same (subst (λ z. IsRemovedAt m removed.at z r) equal (record { alone = removed.alone; covered = removed.covered }))

pub never_removed : (m : Module) → GoodForm m.code → (p : Point) (r : ℕ) → new_read (instr_at m.code p) ≡ Some r → ((to s : ℕ) (place : Place) → instr_at m.code p ≡ Instr.Get to place s → ⊥) → Removed m r → ⊥
never_removed m good p r read other removed = other removed.to r removed.place (ap (instr_at m.code) (sym (removed_at m good p r read removed)) ∙ removed.read)
