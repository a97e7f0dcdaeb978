-- The threads of a module do one thing: a branch begins in one way, a life wants one thing, and what has come to its end wants nothing.
use Rattle.std.proofs.Common.{◌≡◌, ℕ, ◌%◌, List, [], ◌∷◌, true, false, refl, Some, None, arith, sym, ◌∙◌, ap, subst, inl, inr}
use Rattle.std.specs.Prelude.{Option}
use Rattle.dfi_base.specs.Lives.{own, Begins, Ended, IsNext}
use Rattle.dfi_base.specs.Lives.EndedIn.{ended}
use Rattle.dfi_base.specs.Alike.{IsDeterministic}
use Rattle.dfi_base.proofs.OneLife
use Rattle.dfi_base.proofs.Entries
use Rattle.tac_ir.specs.declared.code.Code.{Code}
use Rattle.tac_ir.specs.declared.code.Instr.{Instr}
use Rattle.tac_ir.specs.declared.run.Op.{Op}
use Rattle.tac_ir.specs.declared.run.Entry.{Entry}
use Rattle.tac_ir.specs.Module.{Module}
use Rattle.tac_ir.specs.Layout.{instr_at}
use Rattle.tac_ir.specs.Effect.{Spot, Here, effect_of, is_last}
use Rattle.tac_ir.specs.Path.{Step, Start, here_at, temp_of, next_spot, event_at, IsPath, Takes, stops}
use Rattle.tac_ir.specs.Threads.{Want, root_start, IsForked, IsForkedAt, IsWanted, ended_with, EndsWith, IsAtEnd, threads_of, room_at}
use Rattle.tac_ir.proofs.Unique.{Halts, unique}

-- where branches begin, an event is asked for
fork_asks : (c : Code) (s : Start) (steps : List Step) (here : Here) (spot : Spot) (val : ℕ → ℕ) (i : ℕ) (instr : Instr) (branch : Start)
    → IsForkedAt c s steps spot i instr branch → (op : Op) × ((effect_of c here instr).event val ≡ Some op)
fork_asks c s steps here spot val i (Instr.Fork join entries) branch f = (_, refl)
fork_asks c s steps here spot val i instr branch f = absurd f

-- the branches of an instruction begin in one way
fork_one : (c : Code) (s : Start) (steps : List Step) (spot : Spot) (i : ℕ) (instr : Instr) (a b : Start) → IsForkedAt c s steps spot i instr a → IsForkedAt c s steps spot i instr b → a ≡ b
fork_one c s steps spot i (Instr.Fork join entries) a b f g = f ∙ sym g
fork_one c s steps spot i instr a b f g = absurd f

-- a life halts where branches begin
fork_halts : (c : Code) (s : Start) (i : ℕ) (branch : Start) (steps : List Step)
    → IsForkedAt c s steps (next_spot c s steps) i (instr_at c (next_spot c s steps).point) branch → Halts c s steps
unfolding event_at
fork_halts c s i branch steps f =
    let spot = next_spot c s steps in
    inr (fork_asks c s steps (here_at c s steps spot) spot (temp_of c s steps spot.act) i _ branch f)

-- branch i of a life begins in one way
forked_one : (c : Code) (s : Start) (own : List Entry) (i : ℕ) (a b : Start) → IsForked c s own i a → IsForked c s own i b → a ≡ b
forked_one c s own i a b f g =
    let steps = unique c s f.0 g.0 own (fork_halts c s i a f.0 f.2) (fork_halts c s i b g.0 g.2) f.1 g.1 in
    let here = subst (λ xs. IsForkedAt c s xs (next_spot c s xs) i (instr_at c (next_spot c s xs).point) a) steps f.2 in
    fork_one c s g.0 (next_spot c s g.0) i _ a b here g.2

-- a life wants one thing
wants_one : (c : Code) (s : Start) (own : List Entry) (w v : Want) → IsWanted c s own w → IsWanted c s own v → w ≡ v
wants_one c s own w v x y =
    let steps = unique c s x.steps y.steps own (inr (w.op, x.event)) (inr (v.op, y.event)) x.path y.path in
    let points = sym x.point ∙ ap (λ l. (next_spot c s l).point) steps ∙ y.point in
    let events : Some w.op ≡ Some v.op = sym x.event ∙ ap (λ l. event_at c s l (next_spot c s l)) steps ∙ y.event in
    let ops : w.op ≡ v.op = cc in
    let rooms = sym x.room ∙ ap (λ l. room_at c s l (next_spot c s l).act) steps ∙ y.room in
    λ i. record { point = points i; op = ops i; room = rooms i }

-- a life ends with one value
pub ends_one : (c : Code) (s : Start) (own : List Entry) (v w : Option ℕ) → EndsWith c s own v → EndsWith c s own w → v ≡ w
ends_one c s own v w a b =
    let steps = unique c s a.steps b.steps own (inl a.last) (inl b.last) a.path b.path in
    a.value ∙ ap (λ l. ended_with (temp_of c s l (next_spot c s l).act) (instr_at c (next_spot c s l).point)) steps ∙ sym b.value

-- at the end of a life there is no event
pub last_is_silent : (c : Code) (here : Here) (val : ℕ → ℕ) (instr : Instr) → is_last instr ≡ true → (effect_of c here instr).event val ≡ None
last_is_silent c here val Instr.End h = refl
last_is_silent c here val (Instr.Ret v None) h = refl
last_is_silent c here val instr h = cc

-- what is at its end wants nothing
end_wants_nothing : (c : Code) (s : Start) (own : List Entry) (w : Want) → IsAtEnd c s own → IsWanted c s own w → ⊥
unfolding event_at
end_wants_nothing c s own w z x =
    let steps = unique c s z.1.steps x.steps own (inl z.1.last) (inr (w.op, x.event)) z.1.path x.path in
    let last = subst (λ l. is_last (instr_at c (next_spot c s l).point) ≡ true) steps z.1.last in
    let spot = next_spot c s x.steps in
    let none = last_is_silent c (here_at c s x.steps spot) (temp_of c s x.steps spot.act) _ last in
    let clash : None ≡ Some w.op = sym none ∙ x.event in
    cc

-- The threads of a module do one thing.
pub deterministic : (m : Module) → IsDeterministic (threads_of m)
deterministic m = record {
  branch = λ s own n a b. forked_one m.code s own (n % 16) a b;
  wants = wants_one m.code;
  ends = end_wants_nothing m.code;
}

-- So, in a run of it, a life begins in one way,
pub begins_one : (m : Module) (h : List Entry) (n : ℕ) (s t : Start) → Begins (threads_of m) h n s → Begins (threads_of m) h n t → s ≡ t
begins_one m h n s t a b = OneLife.begins_one (threads_of m) (deterministic m) 1 (root_start m) h n s t a b

-- and wants one thing,
pub wanted_one : (m : Module) (h : List Entry) (n : ℕ) (s t : Start) (w v : Want) → IsNext (threads_of m) h n s w → IsNext (threads_of m) h n t v → (s ≡ t) × (w ≡ v)
wanted_one m h n s t w v a b = OneLife.next_one (threads_of m) (deterministic m) 1 (root_start m) h n s t w v a b

-- what wants something next has not ended,
pub next_not_ended : (m : Module) (h : List Entry) (n : ℕ) (s : Start) (w : Want) → IsNext (threads_of m) h n s w → Ended (threads_of m) h n → ⊥
next_not_ended m h n s w next over = OneLife.next_not_ended (threads_of m) (deterministic m) 1 (root_start m) h n s w next over

-- and no thread has the name 0.
pub never_zero : (m : Module) (h : List Entry) (s : Start) → Begins (threads_of m) h 0 s → ⊥
never_zero m h s b = Entries.never_zero (threads_of m) 1 (root_start m) (omega arith) h s b

-- a life that was stopped has no path
stopped_has_none : (c : Code) (s : Start) (steps : List Step) (e : Entry) (own : List Entry) → stops e.answer ≡ true → IsPath c s steps (e ∷ own) → ⊥
unfolding IsPath
stopped_has_none c s [] e own stop path = cc
stopped_has_none c s (x ∷ earlier) e own stop path = by (event_at c s earlier x.spot) path.2 (stopped_has_none c s earlier e own stop)
  where
    by : (event : Option Op) → Takes event x (IsPath c s earlier) (e ∷ own) → (IsPath c s earlier (e ∷ own) → ⊥) → ⊥
    by None t before = before t.1
    by (Some op) t before = let clash : true ≡ false = sym stop ∙ t.4 in cc

-- nor has a thread ended whose newest entry stopped it
pub stopped_not_ended : (m : Module) (h : List Entry) (n : ℕ) (e : Entry) (rest : List Entry) → own (threads_of m) n h ≡ e ∷ rest → stops e.answer ≡ true → Ended (threads_of m) h n → ⊥
stopped_not_ended m h n e rest newest stop (ended k s begins at_end joined) =
    stopped_has_none m.code s at_end.1.steps e rest stop (subst (IsPath m.code s at_end.1.steps) newest at_end.1.path)
