-- One step of a path: where it leads, and what it makes of the activations.
use Rattle.std.proofs.Common.{◌≡◌, ℕ, ◌<◌, List, ◌∷◌, length, Bool, false, refl, Some, None, arith, sym, ◌∙◌, ap, subst}
use Rattle.tac_ir.specs.declared.code.Code.{Code}
use Rattle.tac_ir.specs.declared.run.Op.{Op}
use Rattle.tac_ir.specs.declared.run.Answer.{Answer}
use Rattle.tac_ir.specs.declared.run.Entry.{Entry}
use Rattle.tac_ir.specs.Counts.{temps_of}
use Rattle.tac_ir.specs.Effect.{Spot, Effect, effect_of, is_last}
use Rattle.tac_ir.specs.Path.{Step, Start, callee, calls_in, here_at, temp_of, next_spot, event_at, stops, Takes, IsPath}
use Rattle.tac_thread.specs.Life.{instr_of, temp}
use Rattle.tac_thread.specs.Flat.{flat_meaning}
use Rattle.path_law.specs.Standing.{FlatActivation, point_of, IsStack}
use Rattle.path_law.proofs.Frames.{left_in, wrote_at, own_step, calls_same, stays_fresh}

-- before the first or the second step of an activation's instruction
abbrev pub spot_in : Bool → ℕ → FlatActivation → Spot
spot_in second a x = record { act = a; point = point_of x; second = second }

abbrev pub step_in : Bool → ℕ → FlatActivation → Answer → Step
step_in second a x answer = record { spot = spot_in second a x; answer = answer }

abbrev pub effect_in : Code → Start → List Step → Bool → ℕ → FlatActivation → Effect
effect_in c s steps second a x = effect_of c (here_at c s steps (spot_in second a x)) (instr_of c x)

-- activations to come have no values
abbrev pub IsFresh : Code → Start → List Step → Type 0
IsFresh c s steps = (a t : ℕ) → calls_in c steps < a → temp_of c s steps a t ≡ 0

-- Where the step leads.

pub leads_to : (c : Code) (s : Start) (steps : List Step) (second : Bool) (a : ℕ) (x : FlatActivation) (answer : Answer) → temp_of c s steps a ≡ temp flat_meaning x
    → next_spot c s (step_in second a x answer ∷ steps) ≡ (effect_in c s steps second a x).next (temp flat_meaning x)
unfolding next_spot
leads_to c s steps second a x answer values = ap (λ v. (effect_in c s steps second a x).next v) values

pub writes_there : (c : Code) (s : Start) (steps : List Step) (second : Bool) (a : ℕ) (x : FlatActivation) (answer : Answer) (b t : ℕ) → temp_of c s steps a ≡ temp flat_meaning x
    → wrote_at c s steps (step_in second a x answer) b t ≡ (effect_in c s steps second a x).wrote (temp flat_meaning x) answer b t
writes_there c s steps second a x answer b t values = ap (λ v. (effect_in c s steps second a x).wrote v answer b t) values

pub asks_there : (c : Code) (s : Start) (steps : List Step) (second : Bool) (a : ℕ) (x : FlatActivation) → temp_of c s steps a ≡ temp flat_meaning x
    → event_at c s steps (spot_in second a x) ≡ (effect_in c s steps second a x).event (temp flat_meaning x)
unfolding event_at
asks_there c s steps second a x values = ap (λ v. (effect_in c s steps second a x).event v) values

-- The path.

-- with a step without an event
pub quiet_path : (c : Code) (s : Start) (steps : List Step) (own : List Entry) (second : Bool) (a : ℕ) (x : FlatActivation) → temp_of c s steps a ≡ temp flat_meaning x
    → next_spot c s steps ≡ spot_in second a x → is_last (instr_of c x) ≡ false → (effect_in c s steps second a x).event (temp flat_meaning x) ≡ None
    → IsPath c s steps own → IsPath c s (step_in second a x Answer.Unit ∷ steps) own
unfolding IsPath
quiet_path c s steps own second a x values spot last event path =
    let none : event_at c s steps (spot_in second a x) ≡ None = asks_there c s steps second a x values ∙ event in
    (sym spot, last, subst (λ o. Takes o (step_in second a x Answer.Unit) (IsPath c s steps) own) (sym none) (refl, path))

-- with a step that has the event of an entry
pub event_path : (c : Code) (s : Start) (steps : List Step) (own : List Entry) (second : Bool) (a : ℕ) (x : FlatActivation) (op : Op) (answer : Answer) (e : Entry) → temp_of c s steps a ≡ temp flat_meaning x
    → next_spot c s steps ≡ spot_in second a x → is_last (instr_of c x) ≡ false → (effect_in c s steps second a x).event (temp flat_meaning x) ≡ Some op
    → e.point ≡ point_of x → e.op ≡ op → e.answer ≡ answer → stops answer ≡ false → IsPath c s steps own → IsPath c s (step_in second a x answer ∷ steps) (e ∷ own)
unfolding IsPath
event_path c s steps own second a x op answer e values spot last event at is told goes path =
    let some : event_at c s steps (spot_in second a x) ≡ Some op = asks_there c s steps second a x values ∙ event in
    (sym spot, last, subst (λ o. Takes o (step_in second a x answer) (IsPath c s steps) (e ∷ own)) (sym some) (at, is, told, path, ap stops told ∙ goes))

-- The activations.

-- where a step has led, in activation a with its callers
pub record IsMoved (c : Code) (s : Start) (steps : List Step) (spot : Spot) (a : ℕ) (x : FlatActivation) (callers : List FlatActivation) : Type 0 where
  pub leads : next_spot c s steps ≡ spot
  pub stack : IsStack c s steps a x callers
  pub fresh : IsFresh c s steps

-- a step of activation a that writes temporaries of its own alone: x becomes y
pub own_moves : (c : Code) (s : Start) (steps : List Step) (second : Bool) (a : ℕ) (x y : FlatActivation) (callers : List FlatActivation) (answer : Answer) (spot : Spot)
    → callee second (instr_of c x) ≡ None
    → ((b t : ℕ) → (b ≡ a → ⊥) → (effect_in c s steps second a x).wrote (temp flat_meaning x) answer b t ≡ None)
    → ((t : ℕ) → left_in ((effect_in c s steps second a x).wrote (temp flat_meaning x) answer a t) (temp flat_meaning x t) ≡ temp flat_meaning y t)
    → length y.temps ≡ temps_of c y.fun → y.stack ≡ x.stack → (effect_in c s steps second a x).next (temp flat_meaning x) ≡ spot
    → IsStack c s steps a x callers → IsFresh c s steps → IsMoved c s (step_in second a x answer ∷ steps) spot a y callers
own_moves c s steps second a x y callers answer spot none others wrote size stack next h fresh =
    let values = h.own.temps in
    let step = step_in second a x answer in
    let n = calls_same c steps step none in
    let others_at : (b t : ℕ) → (b ≡ a → ⊥) → wrote_at c s steps step b t ≡ None = λ b t e. writes_there c s steps second a x answer b t values ∙ others b t e in
    record {
      leads = leads_to c s steps second a x answer values ∙ next;
      stack = own_step c s steps step a x y callers none others_at
          (λ t. ap (λ o. left_in o (temp flat_meaning x t)) (writes_there c s steps second a x answer a t values) ∙ wrote t) size stack h;
      fresh = stays_fresh c s steps step (omega (arith, n)) (λ b t l. others_at b t (λ e. omega (arith, e, l, n, h.own.made))) fresh;
    }
