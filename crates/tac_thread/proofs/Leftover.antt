-- Kinds of instructions, as a default arm knows them.
use Rattle.std.proofs.Common.{◌≡◌, ℕ, Bool, false, List, Option, None, refl}
use Rattle.std.specs.Prelude.{ℤ}
use Rattle.tac_ir.specs.declared.code.Code.{Code}
use Rattle.tac_ir.specs.declared.code.BinOp.{BinOp}
use Rattle.tac_ir.specs.declared.code.Instr.{Instr}
use Rattle.tac_ir.specs.declared.code.Place.{Place}
use Rattle.tac_ir.specs.declared.code.UnOp.{UnOp}
use Rattle.tac_thread.specs.declared.doing.Doing.{Doing}
use Rattle.tac_thread.specs.declared.guest.Activation.{Activation}
use Rattle.tac_thread.specs.declared.want.Want.{Want}
use Rattle.tac_thread.specs.Meaning.{Meaning}
use Rattle.tac_thread.specs.Doing.{doing}
use Rattle.tac_thread.specs.tools.Left.{is_silent}

-- what is none of those that go on by themselves
pub not_silent : (i : Instr) → ((to : ℕ) (k : ℤ) → i ≡ Instr.Const to k → ⊥) → ((to : ℕ) → i ≡ Instr.Null to → ⊥) → ((to : ℕ) (op : UnOp) (a : ℕ) → i ≡ Instr.Un to op a → ⊥)
    → ((to : ℕ) (op : BinOp) (a b : ℕ) → i ≡ Instr.Bin to op a b → ⊥) → ((to : ℕ) (place : Place) → i ≡ Instr.Addr to place → ⊥) → ((to a shape k : ℕ) → i ≡ Instr.Field to a shape k → ⊥)
    → ((to a shape : ℕ) → i ≡ Instr.Decay to a shape → ⊥) → ((to a b words : ℕ) → i ≡ Instr.Index to a b words → ⊥) → ((t : ℕ) → i ≡ Instr.Jump t → ⊥)
    → ((a yes_at no_at : ℕ) → i ≡ Instr.Test a yes_at no_at → ⊥) → is_silent i ≡ false
not_silent (Instr.Const to k) const null un bin addr field decay index jump test = absurd (const to k refl)
not_silent (Instr.Null to) const null un bin addr field decay index jump test = absurd (null to refl)
not_silent (Instr.Un to op a) const null un bin addr field decay index jump test = absurd (un to op a refl)
not_silent (Instr.Bin to op a b) const null un bin addr field decay index jump test = absurd (bin to op a b refl)
not_silent (Instr.Addr to place) const null un bin addr field decay index jump test = absurd (addr to place refl)
not_silent (Instr.Field to a shape k) const null un bin addr field decay index jump test = absurd (field to a shape k refl)
not_silent (Instr.Decay to a shape) const null un bin addr field decay index jump test = absurd (decay to a shape refl)
not_silent (Instr.Index to a b words) const null un bin addr field decay index jump test = absurd (index to a b words refl)
not_silent (Instr.Jump t) const null un bin addr field decay index jump test = absurd (jump t refl)
not_silent (Instr.Test a yes_at no_at) const null un bin addr field decay index jump test = absurd (test a yes_at no_at refl)
not_silent i const null un bin addr field decay index jump test = refl

-- what is none of those that ask for an event
abbrev pub AsksNothing : Instr → Type 0
AsksNothing i = ((to : ℕ) (place : Place) (r : ℕ) → i ≡ Instr.Get to place r → ⊥) × ((to a r : ℕ) → i ≡ Instr.Load to a r → ⊥) × ((place : Place) (a d : ℕ) → i ≡ Instr.Set place a d → ⊥)
    × ((a b d : ℕ) → i ≡ Instr.Store a b d → ⊥) × ((to : ℕ) (ne : Bool) (a b : ℕ) → i ≡ Instr.Same to ne a b → ⊥) × ((to a site : ℕ) → i ≡ Instr.New to a site → ⊥)
    × ((a : ℕ) → i ≡ Instr.Free a → ⊥) × ((to : ℕ) → i ≡ Instr.In to → ⊥) × ((to : ℕ) → i ≡ Instr.Left to → ⊥) × ((a : ℕ) → i ≡ Instr.Out a → ⊥)
    × ((to f def : ℕ) (args : List ℕ) → i ≡ Instr.Call to f def args → ⊥) × ((a : ℕ) (r : Option ℕ) → i ≡ Instr.Ret a r → ⊥) × (i ≡ Instr.Turn → ⊥)
    × ((join : ℕ) (entries : List ℕ) → i ≡ Instr.Fork join entries → ⊥)

-- ends its thread
pub ends_thread : {V S : Type 0} (m : Meaning V S) (c : Code) (x : Activation V S) (i : Instr) → is_silent i ≡ false → AsksNothing i → Doing.Asks (Want.Ended None) ≡ doing m c x i
ends_thread m c x (Instr.Get to place r) loud none = absurd (none.0 to place r refl)
ends_thread m c x (Instr.Load to a r) loud none = absurd (none.1 to a r refl)
ends_thread m c x (Instr.Set place a d) loud none = absurd (none.2 place a d refl)
ends_thread m c x (Instr.Store a b d) loud none = absurd (none.3 a b d refl)
ends_thread m c x (Instr.Same to ne a b) loud none = absurd (none.4 to ne a b refl)
ends_thread m c x (Instr.New to a site) loud none = absurd (none.5 to a site refl)
ends_thread m c x (Instr.Free a) loud none = absurd (none.6 a refl)
ends_thread m c x (Instr.In to) loud none = absurd (none.7 to refl)
ends_thread m c x (Instr.Left to) loud none = absurd (none.8 to refl)
ends_thread m c x (Instr.Out a) loud none = absurd (none.9 a refl)
ends_thread m c x (Instr.Call to f def args) loud none = absurd (none.10 to f def args refl)
ends_thread m c x (Instr.Ret a r) loud none = absurd (none.11 a r refl)
ends_thread m c x Instr.Turn loud none = absurd (none.12 refl)
ends_thread m c x (Instr.Fork join entries) loud none = absurd (none.13 join entries refl)
ends_thread m c x Instr.End loud none = refl
ends_thread m c x i loud none = cc
