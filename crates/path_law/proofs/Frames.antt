-- How one step more changes the activations of a path.
use Rattle.std.proofs.Common.{◌≡◌, ℕ, suc, ◌+◌, ◌≤◌, ◌<◌, List, [], ◌∷◌, length, Bool, true, false, refl, Option, Some, None, arith, sym, ◌∙◌, ap}
use Rattle.std.specs.Prelude.{nat_eq}
use Rattle.std.proofs.lemmas.Bool.{eq-eqb, ne_eqb}
use Rattle.tac_ir.specs.declared.code.Code.{Code}
use Rattle.tac_ir.specs.Layout.{frame_words}
use Rattle.tac_ir.specs.Counts.{temps_of}
use Rattle.tac_ir.specs.Effect.{Spot}
use Rattle.tac_ir.specs.Path.{Step, Start, called_by, calls_in, makes, call_of, frame_end, base_of, effect_at, temp_of}
use Rattle.tac_thread.specs.Life.{instr_of, temp}
use Rattle.tac_thread.specs.Flat.{flat_meaning}
use Rattle.path_law.specs.Standing.{FlatActivation, first_spot, IsActivation, IsCall, AreCallers, IsStack}

-- what a step leaves in a temporary
abbrev pub left_in : Option ℕ → ℕ → ℕ
left_in o old = elim o [ Some v ↦ v | None ↦ old ]

-- what a step writes to a temporary of an activation
abbrev pub wrote_at : Code → Start → List Step → Step → ℕ → ℕ → Option ℕ
wrote_at c s steps x b t = (effect_at c s steps x.spot).wrote (temp_of c s steps x.spot.act) x.answer b t

pub temp_next : (c : Code) (s : Start) (steps : List Step) (x : Step) (b t : ℕ) → temp_of c s (x ∷ steps) b t ≡ left_in (wrote_at c s steps x b t) (temp_of c s steps b t)
unfolding temp_of
temp_next c s steps x b t = refl

-- Activations that a step leaves as they are.

-- the numbers of one activation
pub record IsKept (c : Code) (s : Start) (steps more : List Step) (b : ℕ) : Type 0 where
  pub temps : temp_of c s more b ≡ temp_of c s steps b
  pub base : base_of c s more b ≡ base_of c s steps b
  pub top : frame_end c s more b ≡ frame_end c s steps b
  pub call : call_of c more b ≡ call_of c steps b

pub activation_kept : (c : Code) (s : Start) (steps more : List Step) (b : ℕ) (x : FlatActivation) → IsKept c s steps more b → calls_in c steps ≤ calls_in c more
    → IsActivation c s steps b x → IsActivation c s more b x
activation_kept c s steps more b x k n h = record {
  temps = k.temps ∙ h.temps;
  size = h.size;
  base = k.base ∙ h.base;
  top = k.top ∙ h.top;
  limit = h.limit;
  made = omega (arith, h.made, n);
}

pub callers_kept : (c : Code) (s : Start) (steps more : List Step) (a : ℕ) (callers : List FlatActivation) → call_of c more a ≡ call_of c steps a
    → ((b : ℕ) → b < a → IsKept c s steps more b) → calls_in c steps ≤ calls_in c more → AreCallers c s steps a callers → AreCallers c s more a callers
unfolding AreCallers
callers_kept c s steps more a [] call kept n h = call ∙ h
callers_kept c s steps more a (y ∷ callers) call kept n h =
    let k = kept h.0 h.1 in (
      h.0,
      h.1,
      call ∙ h.2,
      h.3,
      activation_kept c s steps more h.0 y k n h.4,
      callers_kept c s steps more h.0 callers k.call (λ b l. kept b (omega (arith, l, h.1))) n h.5,
    )

-- Steps that make no activation.

by_call : {A : Type 0} → Option ℕ → A → A → A
by_call o made same = elim o [ Some f ↦ made | None ↦ same ]

pub none_made : (c : Code) (steps : List Step) (x : Step) (a : ℕ) → called_by c x ≡ None → makes c steps x a ≡ None
none_made c steps x a none = ap (λ o. gate (nat_eq a (suc (calls_in c steps))) o) none ∙ both (nat_eq a (suc (calls_in c steps)))
  where
    gate : Bool → Option ℕ → Option ℕ
    gate b o = elim b [ true ↦ o | false ↦ None ]

    both : (b : Bool) → gate b None ≡ None
    both true = refl
    both false = refl

pub made_other : (c : Code) (steps : List Step) (x : Step) (a : ℕ) → (a ≡ suc (calls_in c steps) → ⊥) → makes c steps x a ≡ None
made_other c steps x a other = ap (λ b. elim b [ true ↦ called_by c x | false ↦ None ]) (ne_eqb a _ other)

pub made_new : (c : Code) (steps : List Step) (x : Step) (f : ℕ) → called_by c x ≡ Some f → makes c steps x (suc (calls_in c steps)) ≡ Some f
made_new c steps x f call = ap (λ b. elim b [ true ↦ called_by c x | false ↦ None ]) (eq-eqb (suc (calls_in c steps)) _ refl) ∙ call

pub calls_same : (c : Code) (steps : List Step) (x : Step) → called_by c x ≡ None → calls_in c (x ∷ steps) ≡ calls_in c steps
unfolding calls_in
calls_same c steps x none = ap (λ o. counted o (calls_in c steps)) none
  where
    counted : Option ℕ → ℕ → ℕ
    counted o n = elim o [ None ↦ n | Some f ↦ suc n ]

pub calls_more : (c : Code) (steps : List Step) (x : Step) (f : ℕ) → called_by c x ≡ Some f → calls_in c (x ∷ steps) ≡ suc (calls_in c steps)
unfolding calls_in
calls_more c steps x f call = ap (λ o. counted o (calls_in c steps)) call
  where
    counted : Option ℕ → ℕ → ℕ
    counted o n = elim o [ None ↦ n | Some f ↦ suc n ]

-- the frame of an activation that a step does not make
pub record HasFrame (c : Code) (s : Start) (steps more : List Step) (a : ℕ) : Type 0 where
  pub base : base_of c s more a ≡ base_of c s steps a
  pub top : frame_end c s more a ≡ frame_end c s steps a
  pub call : call_of c more a ≡ call_of c steps a

pub frame_same : (c : Code) (s : Start) (steps : List Step) (x : Step) (a : ℕ) → makes c steps x a ≡ None → HasFrame c s steps (x ∷ steps) a
unfolding base_of frame_end call_of
frame_same c s steps x a none = record {
  base = ap (λ o. based o) none;
  top = ap (λ o. topped o) none;
  call = ap (λ o. called o) none;
}
  where
    based : Option ℕ → ℕ
    based o = elim o [ Some f ↦ frame_end c s steps x.spot.act | None ↦ base_of c s steps a ]

    topped : Option ℕ → ℕ
    topped o = elim o [ Some f ↦ frame_end c s steps x.spot.act + frame_words c f | None ↦ frame_end c s steps a ]

    called : Option ℕ → Option Spot
    called o = elim o [ Some f ↦ Some x.spot | None ↦ call_of c steps a ]

-- the frame of one that it makes
pub record IsNewFrame (c : Code) (s : Start) (steps : List Step) (x : Step) (f k : ℕ) : Type 0 where
  pub base : base_of c s (x ∷ steps) k ≡ frame_end c s steps x.spot.act
  pub top : frame_end c s (x ∷ steps) k ≡ frame_end c s steps x.spot.act + frame_words c f
  pub call : call_of c (x ∷ steps) k ≡ Some x.spot

pub frame_new : (c : Code) (s : Start) (steps : List Step) (x : Step) (f k : ℕ) → makes c steps x k ≡ Some f → IsNewFrame c s steps x f k
unfolding base_of frame_end call_of
frame_new c s steps x f k some = record {
  base = ap (λ o. based o) some;
  top = ap (λ o. topped o) some;
  call = ap (λ o. called o) some;
}
  where
    based : Option ℕ → ℕ
    based o = elim o [ Some g ↦ frame_end c s steps x.spot.act | None ↦ base_of c s steps k ]

    topped : Option ℕ → ℕ
    topped o = elim o [ Some g ↦ frame_end c s steps x.spot.act + frame_words c g | None ↦ frame_end c s steps k ]

    called : Option ℕ → Option Spot
    called o = elim o [ Some g ↦ Some x.spot | None ↦ call_of c steps k ]

-- a step that writes nothing there, and does not make it, keeps an activation
pub is_kept : (c : Code) (s : Start) (steps : List Step) (x : Step) (b : ℕ) → makes c steps x b ≡ None → ((t : ℕ) → wrote_at c s steps x b t ≡ None) → IsKept c s steps (x ∷ steps) b
is_kept c s steps x b none wrote =
    let f = frame_same c s steps x b none in record {
      temps = λ d. λ t. (temp_next c s steps x b t ∙ ap (λ o. left_in o (temp_of c s steps b t)) (wrote t)) d;
      base = f.base;
      top = f.top;
      call = f.call;
    }

-- A step that makes no activation, and writes temporaries of activation a alone: x becomes y.
pub own_step : (c : Code) (s : Start) (steps : List Step) (step : Step) (a : ℕ) (x y : FlatActivation) (callers : List FlatActivation)
    → called_by c step ≡ None → ((b t : ℕ) → (b ≡ a → ⊥) → wrote_at c s steps step b t ≡ None)
    → ((t : ℕ) → left_in (wrote_at c s steps step a t) (temp flat_meaning x t) ≡ temp flat_meaning y t)
    → length y.temps ≡ temps_of c y.fun → y.stack ≡ x.stack → IsStack c s steps a x callers → IsStack c s (step ∷ steps) a y callers
own_step c s steps step a x y callers none others wrote size stack h =
    let f = frame_same c s steps step a (none_made c steps step a none) in
    let n = calls_same c steps step none in record {
      own = record {
        temps = λ d. λ t. (temp_next c s steps step a t ∙ ap (λ v. left_in (wrote_at c s steps step a t) (v t)) h.own.temps ∙ wrote t) d;
        size = size;
        base = f.base ∙ h.own.base ∙ ap (λ z. z.base) (sym stack);
        top = f.top ∙ h.own.top ∙ ap (λ z. z.top) (sym stack);
        limit = h.own.limit ∙ ap (λ z. z.«end») (sym stack);
        made = omega (arith, h.own.made, n);
      };
      below = callers_kept c s steps (step ∷ steps) a callers f.call
          (λ b l. is_kept c s steps step b (none_made c steps step b none) (λ t. others b t (λ e. omega (arith, e, l)))) (omega (arith, n)) h.below;
    }

-- a step that writes nothing and makes no activation
pub still_step : (c : Code) (s : Start) (steps : List Step) (step : Step) (a : ℕ) (x : FlatActivation) (callers : List FlatActivation)
    → called_by c step ≡ None → ((b t : ℕ) → wrote_at c s steps step b t ≡ None) → IsStack c s steps a x callers → IsStack c s (step ∷ steps) a x callers
still_step c s steps step a x callers none wrote h =
    own_step c s steps step a x x callers none (λ b t e. wrote b t) (λ t. ap (λ o. left_in o (temp flat_meaning x t)) (wrote a t)) h.own.size refl h

-- a call by activation a, which makes the newest: z
pub call_step : (c : Code) (s : Start) (steps : List Step) (step : Step) (a f : ℕ) (x z : FlatActivation) (callers : List FlatActivation)
    → called_by c step ≡ Some f → step.spot ≡ first_spot a x → IsCall (instr_of c x)
    → ((b t : ℕ) → (b ≡ suc (calls_in c steps) → ⊥) → wrote_at c s steps step b t ≡ None)
    → ((t : ℕ) → left_in (wrote_at c s steps step (suc (calls_in c steps)) t) 0 ≡ temp flat_meaning z t)
    → ((t : ℕ) → temp_of c s steps (suc (calls_in c steps)) t ≡ 0)
    → length z.temps ≡ temps_of c z.fun → z.stack.base ≡ x.stack.top → z.stack.top ≡ x.stack.top + frame_words c f → z.stack.«end» ≡ x.stack.«end»
    → IsStack c s steps a x callers → IsStack c s (step ∷ steps) (suc (calls_in c steps)) z (x ∷ callers)
unfolding AreCallers
call_step c s steps step a f x z callers call spot is_call others wrote fresh size base top limit h =
    let k = suc (calls_in c steps) in
    let n = calls_more c steps step f call in
    let new = frame_new c s steps step f k (made_new c steps step f call) in
    let act : step.spot.act ≡ a = ap (λ q. q.act) spot in
    let low : a < k = omega (arith, h.own.made) in
    let kept : (b : ℕ) → b ≤ a → IsKept c s steps (step ∷ steps) b = λ b l. is_kept c s steps step b (made_other c steps step b (λ e. omega (arith, l, low, e))) (λ t. others b t (λ e. omega (arith, l, low, e))) in
    let caller : frame_end c s steps step.spot.act ≡ x.stack.top = ap (frame_end c s steps) act ∙ h.own.top in
    record {
      own = record {
        temps = λ d. λ t. (temp_next c s steps step k t ∙ ap (left_in (wrote_at c s steps step k t)) (fresh t) ∙ wrote t) d;
        size = size;
        base = new.base ∙ caller ∙ sym base;
        top = new.top ∙ ap (λ v. v + frame_words c f) caller ∙ sym top;
        limit = h.own.limit ∙ sym limit;
        made = omega (arith, n);
      };
      below = (
        a,
        low,
        new.call ∙ ap Some spot,
        is_call,
        activation_kept c s steps (step ∷ steps) a x (kept a (omega arith)) (omega (arith, n)) h.own,
        callers_kept c s steps (step ∷ steps) a callers (kept a (omega arith)).call (λ b l. kept b (omega (arith, l))) (omega (arith, n)) h.below,
      );
    }

-- activations to come stay without values
pub stays_fresh : (c : Code) (s : Start) (steps : List Step) (step : Step) → calls_in c steps ≤ calls_in c (step ∷ steps)
    → ((b t : ℕ) → calls_in c (step ∷ steps) < b → wrote_at c s steps step b t ≡ None)
    → ((b t : ℕ) → calls_in c steps < b → temp_of c s steps b t ≡ 0) → (b t : ℕ) → calls_in c (step ∷ steps) < b → temp_of c s (step ∷ steps) b t ≡ 0
stays_fresh c s steps step n wrote fresh b t l =
    temp_next c s steps step b t ∙ ap (λ o. left_in o (temp_of c s steps b t)) (wrote b t l) ∙ fresh b t (omega (arith, l, n))
