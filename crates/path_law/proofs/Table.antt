-- What a life does at an instruction is what the path's table of effects says.
use Rattle.std.proofs.Common.{◌≡◌, ℕ, Bool, true, false, refl, ap, ◌∙◌, Option, Some, None}
use Rattle.std.specs.Prelude.{nat_eq, ◌&&◌, not, if◌then◌else◌, slice_get}
use Rattle.tac_ir.specs.declared.code.Code.{Code}
use Rattle.tac_ir.specs.declared.code.Instr.{Instr}
use Rattle.tac_ir.specs.declared.code.Place.{Place}
use Rattle.tac_ir.specs.Layout.{place_word}
use Rattle.tac_ir.specs.declared.run.Op.{Op}
use Rattle.tac_ir.specs.declared.run.Answer.{Answer}
use Rattle.tac_ir.specs.Words.{bin_of}
use Rattle.tac_ir.specs.Effect.{Here, Effect, effect_of, after, spot_at, divides, is_last, calls, writes_link, reads_link, returns}
use Rattle.tac_ir.specs.Path.{callee}
use Rattle.tac_ir.specs.Counts.{temps_named}
use Rattle.tac_thread.specs.declared.doing.Doing.{Doing}
use Rattle.tac_thread.specs.declared.want.Want.{Want}
use Rattle.tac_thread.specs.Life.{temp}
use Rattle.tac_thread.specs.Doing.{doing, given, tested}
use Rattle.tac_thread.specs.Flat.{flat_meaning}
use Rattle.path_law.specs.Asked.{op_of}
use Rattle.path_law.specs.Wants.{ended_with}
use Rattle.path_law.specs.Standing.{FlatActivation}

-- the write of a value to a temporary of an activation
abbrev pub writes_one : ℕ → ℕ → ℕ → ℕ → ℕ → Option ℕ
writes_one act to v b t = elim (nat_eq b act && nat_eq t to) [ true ↦ Some v | false ↦ None ]

-- the event is that of a want, and the life ends exactly before a last instruction
abbrev pub AsksAs : (ℕ → ℕ) → Instr → Option Op → Want ℕ → Type 0
AsksAs val i event (Want.Ended v) = (is_last i ≡ true) × (v ≡ ended_with val i)
AsksAs val i event Want.Bad = ⊥
AsksAs val i event Want.Waits = ⊥
AsksAs val i event w = (is_last i ≡ false) × (event ≡ op_of w)

-- the first step of an instruction has the effect of what the life does
-- an instruction that is not last, and calls nothing
abbrev pub IsPlain : Instr → Type 0
IsPlain i = (is_last i ≡ false) × (callee false i ≡ None)

abbrev pub DoesAs : Here → (ℕ → ℕ) → Instr → Effect → Doing ℕ → Type 0
DoesAs here val i f (Doing.Gives to v) =
    IsPlain i × (slice_get (temps_named i) 0 ≡ Some to) × (f.event val ≡ None) × (f.next val ≡ after here.spot) × ((b t : ℕ) → f.wrote val Answer.Unit b t ≡ writes_one here.spot.act to v b t)
DoesAs here val i f (Doing.Goes at) =
    IsPlain i × (f.event val ≡ None) × (f.next val ≡ spot_at here.spot at) × ((b t : ℕ) → f.wrote val Answer.Unit b t ≡ None)
DoesAs here val i f (Doing.Asks w) = AsksAs val i (f.event val) w

tests : (c : Code) (here : Here) (val : ℕ → ℕ) (x at_other at_zero : ℕ) (b : Bool) → nat_eq (val x) 0 ≡ b
    → DoesAs here val (Instr.Test x at_other at_zero) (effect_of c here (Instr.Test x at_other at_zero)) (tested at_other at_zero (Some (not b)))
tests c here val x at_other at_zero true is = ((refl, refl), refl, ap (λ b. spot_at here.spot (elim b [ true ↦ at_zero | false ↦ at_other ])) is, λ b t. refl)
tests c here val x at_other at_zero false is = ((refl, refl), refl, ap (λ b. spot_at here.spot (elim b [ true ↦ at_zero | false ↦ at_other ])) is, λ b t. refl)

abbrev pub is_zero : Option Bool → Bool
is_zero o = elim o [ Some false ↦ true | _ ↦ false ]

abbrev pub divided_by : Bool → Bool → ℕ → ℕ → Doing ℕ
divided_by d z to v = elim (d && is_zero (Some (not z))) [ true ↦ Doing.Asks Want.Zero | false ↦ given to (Some v) ]

abbrev zero_by : Bool → Bool → Option Op
zero_by d z = if (d && z) then Some Op.Zero else None

divides_as : (here : Here) (val : ℕ → ℕ) (i : Instr) (f : Effect) (to v : ℕ) (d z : Bool) → IsPlain i → slice_get (temps_named i) 0 ≡ Some to → f.event val ≡ zero_by d z → f.next val ≡ after here.spot
    → ((b t : ℕ) → f.wrote val Answer.Unit b t ≡ writes_one here.spot.act to v b t) → DoesAs here val i f (divided_by d z to v)
divides_as here val i f to v true true plain named event next wrote = (plain.0, event)
divides_as here val i f to v true false plain named event next wrote = (plain, named, event, next, wrote)
divides_as here val i f to v false true plain named event next wrote = (plain, named, event, next, wrote)
divides_as here val i f to v false false plain named event next wrote = (plain, named, event, next, wrote)

place_is : (c : Code) (here : Here) (x : FlatActivation) (place : Place) → here.spot.point.fun ≡ x.fun → here.base ≡ x.stack.base
    → place_word c here.spot.point.fun here.base place ≡ place_word c x.fun x.stack.base place
place_is c here x place fun base = ap (λ f. place_word c f here.base place) fun ∙ ap (λ b. place_word c x.fun b place) base

-- by whether it is the second step of its point
abbrev pub first_or : Bool → Effect → Effect → Effect
first_or second a b = elim second [ false ↦ a | true ↦ b ]

-- the first step of each instruction, over the values and the frame of an activation
pub first_does : (c : Code) (here : Here) (x : FlatActivation) (i : Instr) → here.spot.second ≡ false → here.spot.point.fun ≡ x.fun → here.base ≡ x.stack.base
    → DoesAs here (temp flat_meaning x) i (effect_of c here i) (doing flat_meaning c x i)
first_does c here x (Instr.Const to k) first fun base = ((refl, refl), refl, refl, refl, λ b t. refl)
first_does c here x (Instr.Null to) first fun base = ((refl, refl), refl, refl, refl, λ b t. refl)
first_does c here x (Instr.Un to op a) first fun base = ((refl, refl), refl, refl, refl, λ b t. refl)
first_does c here x (Instr.Bin to op a b) first fun base =
    divides_as here (temp flat_meaning x) (Instr.Bin to op a b) (effect_of c here (Instr.Bin to op a b)) to (bin_of op (temp flat_meaning x a) (temp flat_meaning x b))
    (divides op) (nat_eq (temp flat_meaning x b) 0) (refl, refl) refl refl refl (λ k t. refl)
first_does c here x (Instr.Addr to place) first fun base =
    ((refl, refl), refl, refl, refl, λ b t. ap (λ w. writes_one here.spot.act to w b t) (place_is c here x place fun base))
first_does c here x (Instr.Field to a shape k) first fun base = ((refl, refl), refl, refl, refl, λ b t. refl)
first_does c here x (Instr.Decay to a shape) first fun base = ((refl, refl), refl, refl, refl, λ b t. refl)
first_does c here x (Instr.Index to a b words) first fun base = ((refl, refl), refl, refl, refl, λ k t. refl)
first_does c here x (Instr.Get to place r) first fun base =
    (refl, ap (λ w. Some (Op.Read (record { 0 = r }) w)) (place_is c here x place fun base))
first_does c here x (Instr.Load to a r) first fun base = (refl, refl)
first_does c here x (Instr.Set place a d) first fun base =
    (refl, ap (λ w. Some (Op.Write (record { 0 = d }) w (temp flat_meaning x a))) (place_is c here x place fun base))
first_does c here x (Instr.Store a b d) first fun base = (refl, refl)
first_does c here x (Instr.Same to ne a b) first fun base = (refl, refl)
first_does c here x (Instr.New to a site) first fun base = (refl, refl)
first_does c here x (Instr.Free a) first fun base = (refl, refl)
first_does c here x (Instr.In to) first fun base = (refl, refl)
first_does c here x (Instr.Left to) first fun base = (refl, refl)
first_does c here x (Instr.Out a) first fun base = (refl, refl)
first_does c here x (Instr.Call to f def args) first fun base =
    (refl, ap (λ b. (first_or b (calls here f args) (writes_link here f def)).event (temp flat_meaning x)) first)
first_does c here x (Instr.Ret v (Some r)) first fun base =
    (refl, ap (λ b. (first_or b (reads_link here r) (returns c here v)).event (temp flat_meaning x)) first ∙ ap (λ w. Some (Op.Read (record { 0 = r }) w)) base)
first_does c here x (Instr.Ret v None) first fun base = (refl, refl)
first_does c here x (Instr.Jump target) first fun base = ((refl, refl), refl, refl, λ b t. refl)
first_does c here x (Instr.Test a at_other at_zero) first fun base = tests c here (temp flat_meaning x) a at_other at_zero (nat_eq (temp flat_meaning x a) 0) refl
first_does c here x Instr.Turn first fun base = (refl, refl)
first_does c here x (Instr.Fork join entries) first fun base = (refl, refl)
first_does c here x Instr.End first fun base = (refl, refl)
