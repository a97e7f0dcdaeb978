-- Forks, calls and returns: a life that is answered stands behind the step that has its entry.
use Rattle.std.proofs.Common.{◌≡◌, ℕ, suc, ◌+◌, ◌-◌, ◌≤◌, ◌<◌, List, [], ◌∷◌, length, Bool, true, false, refl, Option, Some, None, arith, sym, ◌∙◌, ap, subst}
use Rattle.std.specs.Prelude.{nat_eq, nat_lt, ◌&&◌, slice_get, slice_index, map, replicate}
use Rattle.std.proofs.lemmas.Bool.{eq-eqb, ne_eqb}
use Rattle.std.proofs.lemmas.List.{length-set, length-append, length-map, length-replicate}
use Rattle.dfi_base.specs.declared.numbers.Point.{Point}
use Rattle.tac_ir.specs.declared.code.Code.{Code}
use Rattle.tac_ir.specs.declared.code.Instr.{Instr}
use Rattle.tac_ir.specs.declared.run.Op.{Op}
use Rattle.tac_ir.specs.declared.run.Answer.{Answer}
use Rattle.tac_ir.specs.declared.run.Entry.{Entry}
use Rattle.tac_ir.specs.Counts.{temps_named, temps_of}
use Rattle.tac_ir.specs.GoodForm.{GoodForm}
use Rattle.tac_ir.specs.Layout.{lines_of, frame_words}
use Rattle.tac_ir.specs.Effect.{Spot, effect_of, is_last, target_of_call}
use Rattle.tac_ir.specs.Path.{Step, Start, here_at, calls_in, call_of, callee, resumed, back_of, IsPath}
use Rattle.tac_thread.specs.declared.flat.FlatStack.{FlatStack}
use Rattle.tac_thread.specs.declared.guest.Stage.{Stage}
use Rattle.tac_thread.specs.tools.Fetched.{instr_in}
use Rattle.tac_thread.specs.Life.{instr_of, temp, with_temp, at_index, with_stage}
use Rattle.tac_thread.specs.Answered
use Rattle.tac_thread.specs.Answered.{temps_from, called, entered, resumed_at, behind_call}
use Rattle.tac_thread.specs.Flat.{flat_meaning}
use Rattle.path_law.specs.Standing.{FlatActivation, FlatLife, point_of, first_spot, second_spot, IsCall, AreCallers, IsStack, IsBefore, IsEntering, IsLeaving, IsAt}
use Rattle.path_law.proofs.Table.{writes_one}
use Rattle.path_law.proofs.Frames.{left_in, wrote_at, still_step, call_step, own_step, calls_same, calls_more, stays_fresh, frame_same, none_made, frame_new, made_new}
use Rattle.path_law.proofs.Temps.{value_given}
use Rattle.path_law.proofs.Moves.{step_in, effect_in, IsFresh, leads_to, writes_there, event_path}
use Rattle.path_law.proofs.Silent.{target_below, one_write, no_other_write}
use Rattle.path_law.proofs.Wants.{caller_is}
use Rattle.path_law.proofs.Returns.{goes_back, back_is_call}
use Rattle.path_law.proofs.Replies.{IsFramedBy}
use Rattle.path_law.proofs.Backs.{back_by, written_by, next_by}
use Rattle.path_law.proofs.Answers.{IsEntryOf, IsAsking, own_answer, unit_answer}

-- Forks.

pub fork_told : (c : Code) (s : Start) (own : List Entry) (l : FlatLife) (e : Entry) (now : IsAsking c s own l e Answer.Unit) (join : ℕ) (entries : List ℕ)
    → instr_of c l.top ≡ Instr.Fork join entries → IsAt c s (e ∷ own) (with_stage l Stage.Waiting)
unfolding here_at
fork_told c s own l e now join entries is =
    let x = l.top in
    let a = now.before.act in
    let y : FlatActivation = at_index x join in
    let gone = unit_answer c s own l e Answer.Unit now (Instr.Fork join entries) (first_spot a y) join is refl (λ b t. refl) refl in
    let steps = step_in false a x Answer.Unit ∷ now.steps in
    let there : IsBefore c s steps y l.callers = record { act = a; spot = gone.moved.leads; stack = gone.moved.stack } in
    record {
      steps = steps;
      path = gone.path;
      stands = record {
        spot = record { join = join; entries = entries; fork = is; before = there };
        fresh = gone.moved.fresh;
      };
    }

-- Calls.

-- the temporaries of a callee
pub given_size : (c : Code) (f : ℕ) (values : List ℕ) → length values ≤ temps_of c f → length (temps_from flat_meaning c f values) ≡ temps_of c f
given_size c f values h =
    let none : ℕ = 0 in
    omega (arith, length-append values (replicate (temps_of c f - length values) none), length-replicate (temps_of c f - length values) none, h)

-- the event of a call was told: the callee is made
pub call_told : (c : Code) (s : Start) (own : List Entry) (l : FlatLife) (e : Entry) (now : IsAsking c s own l e Answer.Unit) (to f def : ℕ) (args : List ℕ) (t : FlatStack)
    → instr_of c l.top ≡ Instr.Call to f def args → length args ≤ temps_of c f → IsFramedBy (frame_words c f) l.top.stack t
    → IsAt c s (e ∷ own) (with_stage l (Stage.Entering (called flat_meaning c l.top f args t)))
unfolding here_at
call_told c s own l e now to f def args t is count framed =
    let x = l.top in
    let a = now.before.act in
    let steps = now.steps in
    let k = suc (calls_in c steps) in
    let z = called flat_meaning c x f args t in
    let step = step_in false a x Answer.Unit in
    let here = here_at c s steps (first_spot a x) in
    let values = now.before.stack.own.temps in
    let val = temp flat_meaning x in
    let makes_one : callee false (instr_of c x) ≡ Some f = ap (callee false) is in
    let n = calls_more c steps step f makes_one in
    let writes : (b u : ℕ) → wrote_at c s steps step b u ≡ (effect_of c here (Instr.Call to f def args)).wrote val Answer.Unit b u =
    λ b u. writes_there c s steps false a x Answer.Unit b u values ∙ ap (λ i. (effect_of c here i).wrote val Answer.Unit b u) is in
    let others : (b u : ℕ) → (b ≡ k → ⊥) → wrote_at c s steps step b u ≡ None = λ b u d. writes b u
    ∙ ap (λ q. given_if (q && nat_lt u (length args)) (val (slice_index args u))) (ne_eqb b k d) in
    let mapped : List ℕ = map val args in
    let short : length mapped ≤ temps_of c f = omega (arith, length-map args val, count) in
    let stack = call_step c s steps step a f x z l.callers makes_one refl (subst IsCall (sym is) tt) others
    (λ u. ap (λ o. left_in o 0) (writes k u) ∙ ap (λ q. left_in (given_if (q && nat_lt u (length args)) (val (slice_index args u))) 0) (eq-eqb k k refl)
    ∙ value_given val args (temps_of c f - length mapped) u)
    (λ u. now.fresh k u (omega arith)) (given_size c f mapped short) framed.base framed.top framed.limit now.before.stack in
    record {
      steps = step ∷ steps;
      path = event_path c s steps own false a x now.op Answer.Unit e values now.before.spot now.last now.event now.entry.point now.entry.event now.entry.answer now.entry.goes now.path;
      stands = record {
        spot = record {
          act = a;
          spot = leads_to c s steps false a x Answer.Unit values ∙ ap (λ i. (effect_of c here i).next val) is;
          stack = subst (λ b. IsStack c s (step ∷ steps) b z (x ∷ l.callers)) (sym n) stack;
          made = ap (call_of c (step ∷ steps)) n ∙ (frame_new c s steps step f k (made_new c steps step f makes_one)).call;
          to = to;
          def = def;
          args = args;
          call = is;
          entry = refl;
        };
        fresh = stays_fresh c s steps step (omega (arith, n)) (λ b u low. others b u (λ d. omega (arith, d, low, n))) now.fresh;
      };
    }
  where
    given_if : Bool → ℕ → Option ℕ
    given_if b v = elim b [ true ↦ Some v | false ↦ None ]

-- The link of the callee's frame was written: the life stands at its entry.
pub entering_told : (c : Code) (s : Start) (own : List Entry) (l : FlatLife) (e : Entry) (z : FlatActivation) (steps : List Step) (op : Op)
    → IsPath c s steps own → IsFresh c s steps → (b : IsEntering c s steps z l.top l.callers)
    → (effect_in c s steps true b.act l.top).event (temp flat_meaning l.top) ≡ Some op → IsEntryOf e l.top op Answer.Unit → IsAt c s (e ∷ own) (entered l z)
unfolding here_at
entering_told c s own l e z steps op path fresh b event entry =
    let x = l.top in
    let a = b.act in
    let k = calls_in c steps in
    let step = step_in true a x Answer.Unit in
    let here = here_at c s steps (second_spot a x) in
    let values = (caller_is c s steps k a x l.callers b.stack.below b.made).own.temps in
    let val = temp flat_meaning x in
    let none : callee_of (instr_of c x) ≡ None = ap callee_of b.call in
    let n = calls_same c steps step none in
    let writes : (d u : ℕ) → wrote_at c s steps step d u ≡ None =
    λ d u. writes_there c s steps true a x Answer.Unit d u values ∙ ap (λ i. (effect_of c here i).wrote val Answer.Unit d u) b.call in
    let entry_at : Spot = record { act = k; point = record { fun = z.fun; at = 0 }; second = false } in
    record {
      steps = step ∷ steps;
      path = event_path c s steps own true a x op Answer.Unit e values b.spot (ap is_last b.call) event entry.point entry.event entry.answer entry.goes path;
      stands = record {
        spot = record {
          act = k;
          spot = leads_to c s steps true a x Answer.Unit values ∙ ap (λ i. (effect_of c here i).next val) b.call
              ∙ ap (λ at. at_entry k z.fun at) (sym b.entry);
          stack = still_step c s steps step k z (x ∷ l.callers) none writes b.stack;
        };
        fresh = stays_fresh c s steps step (omega (arith, n)) (λ d u low. writes d u) fresh;
      };
    }
  where
    callee_of : Instr → Option ℕ
    callee_of i = callee true i

    at_entry : ℕ → ℕ → ℕ → Spot
    at_entry k f at = record { act = k; point = record { fun = f; at = at }; second = false }

-- Returns.

-- a caller behind the call that a link names
abbrev pub behind : Code → FlatActivation → ℕ → ℕ → FlatActivation
behind c y link v = Answered.resumed c y (resumed_at flat_meaning (lines_of c y.fun) y.at link) v

abbrev spot_of : ℕ → Point → Spot
spot_of up p = record { act = up; point = p; second = false }

abbrev spot_back : ℕ → ℕ → ℕ → Spot
spot_back up f at = record { act = up; point = record { fun = f; at = at }; second = false }

-- the parts of a call
pub record IsCallTo (i : Instr) : Type 0 where
  pub to : ℕ
  pub fun : ℕ
  pub def : ℕ
  pub args : List ℕ
  pub is : i ≡ Instr.Call to fun def args

call_is : (i : Instr) → IsCall i → IsCallTo i
call_is (Instr.Call to f def args) h = record { to = to; fun = f; def = def; args = args; is = refl }
call_is i h = absurd h

abbrev written_to : Option ℕ → ℕ → ℕ → ℕ → ℕ → Option ℕ
written_to target up v d u = elim (nat_eq d up && elim target [ None ↦ false | Some to ↦ nat_eq u to ]) [ true ↦ Some v | false ↦ None ]

-- The link was read.
pub link_told : (c : Code) (s : Start) (own : List Entry) (l : FlatLife) (e : Entry) (v : ℕ) (now : IsAsking c s own l e (Answer.Value v)) (x r : ℕ)
    → instr_of c l.top ≡ Instr.Ret x (Some r) → IsAt c s (e ∷ own) (with_stage l (Stage.Leaving v))
unfolding here_at
link_told c s own l e v now x r is =
    let a = now.before.act in
    let gone = own_answer c s own l e (Answer.Value v) now (Instr.Ret x (Some r)) l.top (second_spot a l.top) is (record {
      none = refl;
      others = λ b t k. refl;
      wrote = λ t. refl;
      next = refl;
    }) now.before.stack.own.size refl in
    record {
      steps = step_in false a l.top (Answer.Value v) ∷ now.steps;
      path = gone.path;
      stands = record {
        spot = record { act = a; spot = gone.moved.leads; stack = gone.moved.stack; value = x; read = r; ret = is; found = λ q made. refl };
        fresh = gone.moved.fresh;
      };
    }

-- A return without a caller to go back to: the life and the path stand still.
pub return_alone : (c : Code) (s : Start) (own : List Entry) (l : FlatLife) (e : Entry) (link : ℕ) (steps : List Step) (op : Op)
    → IsPath c s steps own → IsFresh c s steps → (b : IsLeaving c s steps link l.top [])
    → (effect_in c s steps true b.act l.top).event (temp flat_meaning l.top) ≡ Some op → IsEntryOf e l.top op Answer.Unit
    → l.callers ≡ [] → IsAt c s (e ∷ own) (with_stage l (Stage.Leaving link))
unfolding here_at AreCallers
return_alone c s own l e link steps op path fresh b event entry empty =
    let alone : call_of c steps b.act ≡ None = b.stack.below in
    let x = l.top in
    let a = b.act in
    let step = step_in true a x Answer.Unit in
    let here = here_at c s steps (second_spot a x) in
    let values = b.stack.own.temps in
    let val = temp flat_meaning x in
    let none : callee true (instr_of c x) ≡ None = ap (callee true) b.ret in
    let n = calls_same c steps step none in
    let back : back_of c steps a ≡ None = ap (λ o. back_by c steps o) alone in
    let writes : (d u : ℕ) → wrote_at c s steps step d u ≡ None =
    λ d u. writes_there c s steps true a x Answer.Unit d u values ∙ ap (λ i. (effect_of c here i).wrote val Answer.Unit d u) b.ret
    ∙ ap (λ o. written_by c o d u (val b.value)) back in
    record {
      steps = step ∷ steps;
      path = event_path c s steps own true a x op Answer.Unit e values b.spot (ap is_last b.ret) event entry.point entry.event entry.answer entry.goes path;
      stands = record {
        spot = record {
          act = a;
          spot = leads_to c s steps true a x Answer.Unit values ∙ ap (λ i. (effect_of c here i).next val) b.ret ∙ ap (λ o. next_by o (second_spot a x)) back;
          stack = subst (IsStack c s (step ∷ steps) a x) (sym empty) (still_step c s steps step a x [] none writes b.stack);
          value = b.value;
          read = b.read;
          ret = b.ret;
          found = λ q made. absurd (clash q (sym alone ∙ sym (frame_same c s steps step a (none_made c steps step a none)).call ∙ made));
        };
        fresh = stays_fresh c s steps step (omega (arith, n)) (λ d u low. writes d u) fresh;
      };
    }
  where
    clash : (q : Spot) → None ≡ Some q → ⊥
    clash q e = cc

-- A return into a caller.
pub return_told : (c : Code) → GoodForm c → (s : Start) (own : List Entry) (l : FlatLife) (e : Entry) (link : ℕ) (y : FlatActivation) (callers : List FlatActivation) (steps : List Step) (op : Op)
    → IsPath c s steps own → IsFresh c s steps → (b : IsLeaving c s steps link l.top (y ∷ callers))
    → (effect_in c s steps true b.act l.top).event (temp flat_meaning l.top) ≡ Some op → IsEntryOf e l.top op Answer.Unit
    → IsAt c s (e ∷ own) (record { top = behind c y link (temp flat_meaning l.top b.value); callers = callers; stage = Stage.Ready })
unfolding here_at AreCallers
return_told c good s own l e link y callers steps op path fresh b event entry =
    let x = l.top in
    let a = b.act in
    let h = b.stack.below in
    let up = h.0 in
    let step = step_in true a x Answer.Unit in
    let here = here_at c s steps (second_spot a x) in
    let values = b.stack.own.temps in
    let val = temp flat_meaning x in
    let v = val b.value in
    let at = resumed_at flat_meaning (lines_of c y.fun) y.at link in
    let none : callee true (instr_of c x) ≡ None = ap (callee true) b.ret in
    let n = calls_same c steps step none in
    let goes : back_of c steps a ≡ Some (spot_back up y.fun at) =
    ap (λ o. back_by c steps o) h.2 ∙ ap (λ k. Some (spot_of up (resumed c (point_of y) k))) (b.found (first_spot up y) h.2)
    ∙ ap (λ p. Some (spot_of up p)) (goes_back c good y link) in
    let call = call_is (instr_in (lines_of c y.fun) at) (back_is_call c good y link h.3) in
    let to = call.to in
    let z : FlatActivation = at_index (with_temp y to v) (at + 1) in
    let becomes : behind c y link v ≡ z = ap (λ i. behind_call y at v i) call.is in
    let low : to < length y.temps = target_below c y at to h.4.size (ap (λ i. slice_get (temps_named i) 0) call.is) in
    let writes : (d u : ℕ) → wrote_at c s steps step d u ≡ writes_one up to v d u =
    λ d u. writes_there c s steps true a x Answer.Unit d u values ∙ ap (λ i. (effect_of c here i).wrote val Answer.Unit d u) b.ret
    ∙ ap (λ o. written_by c o d u v) goes ∙ ap (λ i. written_to (target_of_call i) up v d u) call.is in
    let stack = own_step c s steps step up y z callers none
    (λ d u k. writes d u ∙ no_other_write up to v d u k)
    (λ u. ap (λ o. left_in o (temp flat_meaning y u)) (writes up u) ∙ one_write up to v y u low)
    (length-set y.temps to v ∙ h.4.size) refl (record { own = h.4; below = h.5 }) in
    record {
      steps = step ∷ steps;
      path = event_path c s steps own true a x op Answer.Unit e values b.spot (ap is_last b.ret) event entry.point entry.event entry.answer entry.goes path;
      stands = record {
        spot = subst (λ (w : FlatActivation). IsBefore c s (step ∷ steps) w callers) (sym becomes) (record {
          act = up;
          spot = leads_to c s steps true a x Answer.Unit values ∙ ap (λ i. (effect_of c here i).next val) b.ret ∙ ap (λ o. next_by o (second_spot a x)) goes;
          stack = stack;
        });
        fresh = stays_fresh c s steps step (omega (arith, n)) (λ d u k. writes d u ∙ no_other_write up to v d u (λ q. omega (arith, q, k, n, h.1, b.stack.own.made))) fresh;
      };
    }
