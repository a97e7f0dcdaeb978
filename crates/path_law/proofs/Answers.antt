-- A life that is answered stands behind the step that has its entry.
use Rattle.std.proofs.Common.{◌≡◌, ℕ, ◌+◌, List, ◌∷◌, length, false, refl, Some, None, sym, ◌∙◌, ap, subst}
use Rattle.std.specs.Prelude.{slice_get}
use Rattle.std.proofs.lemmas.List.{length-set}
use Rattle.tac_ir.specs.declared.code.Code.{Code}
use Rattle.tac_ir.specs.declared.code.Instr.{Instr}
use Rattle.tac_ir.specs.declared.run.Op.{Op}
use Rattle.tac_ir.specs.declared.run.Answer.{Answer}
use Rattle.tac_ir.specs.declared.run.Entry.{Entry}
use Rattle.tac_ir.specs.Counts.{temps_named, temps_of}
use Rattle.tac_ir.specs.Effect.{Spot, Here, effect_of, is_last}
use Rattle.tac_ir.specs.Path.{Step, Start, here_at, callee, stops, IsPath}
use Rattle.tac_thread.specs.Life.{instr_of, temp, with_temp, at_index, with_top}
use Rattle.tac_thread.specs.Flat.{flat_meaning}
use Rattle.path_law.specs.Standing.{FlatActivation, FlatLife, point_of, first_spot, IsBefore, IsAt}
use Rattle.path_law.proofs.Table.{writes_one}
use Rattle.path_law.proofs.Frames.{left_in}
use Rattle.path_law.proofs.Moves.{step_in, effect_in, IsFresh, event_path, IsMoved, own_moves}
use Rattle.path_law.proofs.Silent.{target_below, one_write, no_other_write}

-- the entry of an event of an activation, with an answer that does not stop
pub record IsEntryOf (e : Entry) (x : FlatActivation) (op : Op) (told : Answer) : Type 0 where
  pub point : e.point ≡ point_of x
  pub event : e.op ≡ op
  pub answer : e.answer ≡ told
  pub goes : stops told ≡ false

-- what the first step of an instruction makes of the activation that runs it
pub record Makes (c : Code) (here : Here) (i : Instr) (x y : FlatActivation) (answer : Answer) (spot : Spot) : Type 0 where
  pub none : callee false i ≡ None
  pub others : (b t : ℕ) → (b ≡ here.spot.act → ⊥) → (effect_of c here i).wrote (temp flat_meaning x) answer b t ≡ None
  pub wrote : (t : ℕ) → left_in ((effect_of c here i).wrote (temp flat_meaning x) answer here.spot.act t) (temp flat_meaning x t) ≡ temp flat_meaning y t
  pub next : (effect_of c here i).next (temp flat_meaning x) ≡ spot

-- a life before the first step of an instruction that asks, and the entry of its event
pub record IsAsking (c : Code) (s : Start) (own : List Entry) (l : FlatLife) (e : Entry) (answer : Answer) : Type 0 where
  pub steps : List Step
  pub path : IsPath c s steps own
  pub before : IsBefore c s steps l.top l.callers
  pub fresh : IsFresh c s steps
  pub op : Op
  pub last : is_last (instr_of c l.top) ≡ false
  pub event : (effect_in c s steps false before.act l.top).event (temp flat_meaning l.top) ≡ Some op
  pub entry : IsEntryOf e l.top op answer

-- where the step leads
pub record IsGone (c : Code) (s : Start) (own : List Entry) (steps : List Step) (spot : Spot) (a : ℕ) (x : FlatActivation) (callers : List FlatActivation) : Type 0 where
  pub path : IsPath c s steps own
  pub moved : IsMoved c s steps spot a x callers

abbrev pub here_of : (c : Code) (s : Start) (own : List Entry) (l : FlatLife) (e : Entry) (answer : Answer) → IsAsking c s own l e answer → Here
here_of c s own l e answer now = here_at c s now.steps (first_spot now.before.act l.top)

pub own_answer : (c : Code) (s : Start) (own : List Entry) (l : FlatLife) (e : Entry) (answer : Answer) (now : IsAsking c s own l e answer)
    → (i : Instr) (y : FlatActivation) (spot : Spot) → instr_of c l.top ≡ i → Makes c (here_of c s own l e answer now) i l.top y answer spot
    → length y.temps ≡ temps_of c y.fun → y.stack ≡ l.top.stack → IsGone c s (e ∷ own) (step_in false now.before.act l.top answer ∷ now.steps) spot now.before.act y l.callers
unfolding here_at
own_answer c s own l e answer now i y spot is makes size stack =
    let x = l.top in
    let a = now.before.act in
    let here = here_of c s own l e answer now in
    let m : Makes c here (instr_of c x) x y answer spot = subst (λ j. Makes c here j x y answer spot) (sym is) makes in
    record {
      path = event_path c s now.steps own false a x now.op answer e now.before.stack.own.temps now.before.spot now.last now.event now.entry.point now.entry.event
          now.entry.answer now.entry.goes now.path;
      moved = own_moves c s now.steps false a x y l.callers answer spot m.none m.others m.wrote size stack m.next now.before.stack now.fresh;
    }

-- an instruction that writes the value of its answer
pub value_answer : (c : Code) (s : Start) (own : List Entry) (l : FlatLife) (e : Entry) (v : ℕ) (now : IsAsking c s own l e (Answer.Value v)) (i : Instr) (to : ℕ)
    → instr_of c l.top ≡ i → slice_get (temps_named i) 0 ≡ Some to
    → (let y : FlatActivation = at_index (with_temp l.top to v) (l.top.at + 1) in
    callee false i ≡ None
    → ((b t : ℕ) → (effect_of c (here_of c s own l e (Answer.Value v) now) i).wrote (temp flat_meaning l.top) (Answer.Value v) b t ≡ writes_one now.before.act to v b t)
    → (effect_of c (here_of c s own l e (Answer.Value v) now) i).next (temp flat_meaning l.top) ≡ first_spot now.before.act y
    → IsAt c s (e ∷ own) (with_top l y))
unfolding here_at
value_answer c s own l e v now i to is named none wrote next =
    let x = l.top in
    let a = now.before.act in
    let size = now.before.stack.own.size in
    let y : FlatActivation = at_index (with_temp x to v) (x.at + 1) in
    let low = target_below c x x.at to size (ap (λ j. slice_get (temps_named j) 0) is ∙ named) in
    let gone = own_answer c s own l e (Answer.Value v) now i y (first_spot a y) is (record {
      none = none;
      others = λ b t k. wrote b t ∙ no_other_write a to v b t k;
      wrote = λ t. ap (λ o. left_in o (temp flat_meaning x t)) (wrote a t) ∙ one_write a to v x t low;
      next = next;
    }) (length-set x.temps to v ∙ size) refl in
    record { steps = step_in false a l.top (Answer.Value v) ∷ now.steps; path = gone.path; stands = record { spot = record { act = a; spot = gone.moved.leads; stack = gone.moved.stack }; fresh = gone.moved.fresh } }

-- one that writes nothing
pub unit_answer : (c : Code) (s : Start) (own : List Entry) (l : FlatLife) (e : Entry) (answer : Answer) (now : IsAsking c s own l e answer) (i : Instr) (spot : Spot)
    → (at : ℕ) → instr_of c l.top ≡ i → callee false i ≡ None
    → ((b t : ℕ) → (effect_of c (here_of c s own l e answer now) i).wrote (temp flat_meaning l.top) answer b t ≡ None)
    → (effect_of c (here_of c s own l e answer now) i).next (temp flat_meaning l.top) ≡ spot
    → IsGone c s (e ∷ own) (step_in false now.before.act l.top answer ∷ now.steps) spot now.before.act (at_index l.top at) l.callers
unfolding here_at
unit_answer c s own l e answer now i spot at is none wrote next =
    own_answer c s own l e answer now i (at_index l.top at) spot is (record {
      none = none;
      others = λ b t k. wrote b t;
      wrote = λ t. ap (λ o. left_in o (temp flat_meaning l.top t)) (wrote now.before.act t);
      next = next;
    }) now.before.stack.own.size refl

-- goes on behind it
pub told_next : (c : Code) (s : Start) (own : List Entry) (l : FlatLife) (e : Entry) (answer : Answer) (now : IsAsking c s own l e answer) (i : Instr)
    → instr_of c l.top ≡ i → callee false i ≡ None
    → ((b t : ℕ) → (effect_of c (here_of c s own l e answer now) i).wrote (temp flat_meaning l.top) answer b t ≡ None)
    → (effect_of c (here_of c s own l e answer now) i).next (temp flat_meaning l.top) ≡ first_spot now.before.act (at_index l.top (l.top.at + 1))
    → IsAt c s (e ∷ own) (with_top l (at_index l.top (l.top.at + 1)))
told_next c s own l e answer now i is none wrote next =
    let a = now.before.act in
    let gone = unit_answer c s own l e answer now i (first_spot a (at_index l.top (l.top.at + 1))) (l.top.at + 1) is none wrote next in
    record { steps = step_in false a l.top answer ∷ now.steps; path = gone.path; stands = record { spot = record { act = a; spot = gone.moved.leads; stack = gone.moved.stack }; fresh = gone.moved.fresh } }
