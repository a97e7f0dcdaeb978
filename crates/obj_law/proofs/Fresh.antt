-- Makers are fresh: each activation is on a frame that was made, and what is made next is new.
use Rattle.std.proofs.Common.{◌≡◌, ℕ, suc, ℤ, List, [], ◌∷◌, ◌++◌, map, true, false, refl, Option, Some, None, arith, sym, ◌∙◌, ap, subst, inl, inr, ⊎_elim}
use Rattle.std.specs.Prelude.{nat_eq, nat_le, ◌&&◌}
use Rattle.std.proofs.lemmas.Bool.{eq-eqb, ne_eqb}
use Rattle.obj_mem.specs.declared.Maker.{Maker}
use Rattle.obj_mem.specs.declared.value.Obj.{Obj}
use Rattle.obj_mem.specs.declared.value.Value.{Value}
use Rattle.obj_mem.specs.declared.event.Event.{Event}
use Rattle.obj_mem.specs.declared.event.SrcAnswer.{SrcAnswer}
use Rattle.obj_mem.specs.declared.event.Stamp.{Stamp}
use Rattle.obj_mem.specs.Alive.{makes, made_by, next_maker, is_lasting}
use Rattle.obj_mem.specs.Written.{last_value}
use Rattle.obj_mem.specs.Laws.{IsMade}
use Rattle.obj_mem.proofs.Makers.{more_made}
use Rattle.obj_mem.proofs.Over.{written_made}
use Rattle.tac_ir.specs.declared.code.Code.{Code}
use Rattle.tac_ir.specs.declared.code.Instr.{Instr}
use Rattle.tac_ir.specs.GoodForm.{GoodForm}
use Rattle.tac_thread.specs.declared.guest.Stage.{Stage}
use Rattle.tac_thread.specs.declared.want.Want.{Want}
use Rattle.tac_thread.specs.Life.{instr_of}
use Rattle.tac_thread.specs.Doing.{want_at}
use Rattle.tac_thread.specs.Threads.{is_waiting}
use Rattle.tree_law.specs.Chain.IsTreeAfter.{begins}
use Rattle.tree_law.proofs.trees.Along.{begun_holds}
use Rattle.obj_run.specs.declared.values.ObjStack.{ObjStack}
use Rattle.obj_run.specs.Objects.{object_meaning, main_stack}
use Rattle.obj_run.specs.Asked.{event_of}
use Rattle.obj_run.specs.Entries.{Entry, stamps_of}
use Rattle.obj_run.specs.Starts.{opening, global_values}
use Rattle.obj_run.specs.Runs.{ObjLife, ObjLives, IsAsked, IsObjTree}
use Rattle.obj_law.specs.Did.{ObjActivation, Did}
use Rattle.obj_law.specs.Did.Did.{gets, loads, sets, stores, compares, news, frees, ins, lefts, outs, calls, rets, turns, forks, traps}
use Rattle.obj_law.specs.Frames.{IsActive}
use Rattle.obj_law.proofs.Seeing.{seen}
use Rattle.obj_law.proofs.Valid.{valid}
use Rattle.obj_law.proofs.Firsts.{first_words}
use Rattle.obj_law.proofs.Steady.{steady}
use Rattle.obj_law.proofs.One.{step}
use Rattle.obj_law.proofs.Aging.{Root, Branch, Nothing, acts_rule, of_held, old_activations}

still_made : (s : Stamp) (h : List Stamp) (m : Maker) → IsMade h m → IsMade (s ∷ h) m
still_made s h m (inl lasts) = inl lasts
still_made s h m (inr made) = inr (made.0, (let more = more_made m.thread.0 s h in let high = made.1 in omega (arith, more, high)))

now_made : (s : Stamp) (h : List Stamp) (m : Maker) → m ≡ next_maker s.name.0 h → makes s.event ≡ true → IsMade (s ∷ h) m
unfolding made_by
now_made s h m is event =
    subst (IsMade (s ∷ h)) (sym is) (inr (omega arith, (let one : made_by s.name.0 (s ∷ h) ≡ suc (made_by s.name.0 h) = ap (λ b. elim b as (λ z. ℕ) [ true ↦ suc (made_by s.name.0 h) | false ↦ made_by s.name.0 h ]) guard in omega (arith, one))))
  where
    guard : (nat_eq s.name.0 s.name.0 && makes s.event) ≡ true
    guard = ap (λ b. b && makes s.event) (eq-eqb s.name.0 s.name.0 refl) ∙ event

-- a frame is the answer of a call
frame_of_call : (c : Code) (h : List Stamp) (n : ℕ) (x : ObjActivation) (i : Instr) (e : Event) (a : SrcAnswer) (m : Maker) → Did c h n x i e a → a ≡ SrcAnswer.Frame m → (m ≡ next_maker n h) × (makes e ≡ true)
frame_of_call c h n x i e a m (calls to g def args) is = (let same : next_maker n h ≡ m = cc in (sym same, refl))
frame_of_call c h n x i e a m (gets to r place v was) is = cc
frame_of_call c h n x i e a m (loads to y r v was) is = cc
frame_of_call c h n x i e a m (sets place y d was) is = cc
frame_of_call c h n x i e a m (stores y z d was) is = cc
frame_of_call c h n x i e a m (compares to y z ne true was) is = cc
frame_of_call c h n x i e a m (compares to y z ne false was) is = cc
frame_of_call c h n x i e a m (news to y site k int) is = cc
frame_of_call c h n x i e a m (frees y was) is = cc
frame_of_call c h n x i e a m (ins to) is = cc
frame_of_call c h n x i e a m (lefts to) is = cc
frame_of_call c h n x i e a m (outs y k int) is = cc
frame_of_call c h n x i e a m (rets y r) is = cc
frame_of_call c h n x i e a m turns is = cc
frame_of_call c h n x i e a m (forks join entries) is = cc
frame_of_call c h n x i e a m (traps to y z op stops) is = cc

-- who asks for an event does not wait
pub awake_asked : (c : Code) (first h : List Stamp) (n : ℕ) (l : ObjLife) (e : Entry) → IsAsked c first h n l e → is_waiting l.stage ≡ false
awake_asked c first h n l e asked = by l.stage asked.wants
  where
    by : (s : Stage Value ObjStack) → want_at object_meaning c l.top s ≡ Some asked.want → is_waiting s ≡ false
    by Stage.Ready is = refl
    by (Stage.Entering callee) is = refl
    by (Stage.Leaving link) is = refl
    by Stage.Waiting is = (let same : Want.Waits ≡ asked.want = cc in let none : None ≡ Some e.stamp.event = ap (event_of c) same ∙ asked.event in cc)

module _ (c : Code) (input : List ℤ) (good : GoodForm c) where
  abbrev all : List Entry → List Stamp
  all h = stamps_of h ++ opening c input

  pub activations_made : (h : List Entry) (f : ObjLives) (d : Option Value) → IsObjTree c input h f d → (k : ℕ) (s : ObjStack) → IsActive f k s → IsMade (all h) s.maker
  activations_made [] f d (begins f2 d2 tree b) k s active =
      let Q : ℕ → ObjStack → Type 0 = λ g t. t ≡ main_stack in
      let held = begun_holds object_meaning c (Root Q) (Branch Q) Nothing good (acts_rule c good Q) main_stack f d b refl in
      inl (ap (λ (t : ObjStack). is_lasting t.maker) (of_held c good f Q tree held k s active))
  activations_made (e ∷ h) g b chain k s active =
      let x = step c input good e h g b chain in
      ⊎_elim (λ (old : IsActive x.f k s). still_made e.stamp (all h) s.maker (activations_made h x.f x.d x.chain k s old))
      (λ (new : e.stamp.answer ≡ SrcAnswer.Frame s.maker).
      let n = e.stamp.name.0 in
      let ready = steady c input good h x.f x.d x.chain n x.l x.lives (awake_asked c (opening c input) (stamps_of h) n x.l e x.asked) in
      let did = (seen c (opening c input) (stamps_of h) n x.l e ready x.asked).0 in
      let made = frame_of_call c (all h) n x.l.top (instr_of c x.l.top) e.stamp.event e.stamp.answer s.maker did new in
      now_made e.stamp (all h) s.maker made.0 made.1)
      (old_activations c input good e h x.f g x.d b x.chain chain k s active)

  next_new : (h : List Stamp) (n : ℕ) (m : Maker) → IsMade h m → m ≡ next_maker n h → ⊥
  next_new h n m (inl lasts) is = (let clash : true ≡ false = sym lasts ∙ ap is_lasting is ∙ ap (λ b. b && nat_le n 1) (ne_eqb (suc (made_by n h)) 0 (λ e. omega (arith, e))) in cc)
  next_new h n m (inr made) is =
      let count : m.count ≡ suc (made_by n h) = ap (λ (x : Maker). x.count) is in
      let thread : made_by m.thread.0 h ≡ made_by n h = ap (λ (x : Maker). made_by x.thread.0 h) is in
      let high = made.1 in
      omega (arith, count, thread, high)

  pub makers_fresh : (h : List Entry) (f : ObjLives) (d : Option Value) → IsObjTree c input h f d → (n : ℕ)
      → ((k : ℕ) (s : ObjStack) → IsActive f k s → s.maker ≡ next_maker n (all h) → ⊥) × ((o : Obj) (off : ℤ) (v : Value) → last_value o off (all h) ≡ Some v → o.maker ≡ next_maker n (all h) → ⊥)
  makers_fresh h f d chain n = (
    λ k s active is. next_new (all h) n s.maker (activations_made h f d chain k s active) is,
    λ o off v was is. next_new (all h) n o.maker (written_made (opening c input) (stamps_of h) (valid c input h f d chain) (first_words (map (global_values c) c.globals) input) o off v was) is,
  )
