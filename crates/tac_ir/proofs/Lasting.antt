-- What each history of a run keeps: its memory answers, and the entries of each life are those of a path or stop it.
use Rattle.std.proofs.Common.{◌≡◌, ℕ, List, [], ◌∷◌, Bool, true, false, refl, Some, None, sym, ◌∙◌, subst}
use Rattle.std.specs.Prelude.{ℤ, nat_eq}
use Rattle.std.proofs.lemmas.Bool.{eqb-true}
use Rattle.dfi_base.specs.Lives.{is_start_of, own, Begins, BeginsIn, IsNext}
use Rattle.tac_ir.specs.declared.code.Code.{Code}
use Rattle.tac_ir.specs.declared.run.Op.{Op}
use Rattle.tac_ir.specs.declared.run.Answer.{Answer}
use Rattle.tac_ir.specs.declared.run.Entry.{Entry}
use Rattle.tac_ir.specs.Module.{Module}
use Rattle.tac_ir.specs.Layout.{instr_at}
use Rattle.tac_ir.specs.Effect.{is_last}
use Rattle.tac_ir.specs.Path.{Step, Start, here_at, temp_of, next_spot, event_at, IsPath, Takes, stops}
use Rattle.tac_ir.specs.Threads.{Want, IsWanted, root_start, threads_of}
use Rattle.tac_ir.specs.Answers.{IsAnswer}
use Rattle.tac_ir.specs.CoreRun.{Follows, IsHistory}
use Rattle.tac_ir.specs.Served.{is_served, AreServed}
use Rattle.tac_ir.specs.Stopped.{AreOfLife}
use Rattle.tac_ir.specs.Stopped.AreOfLife.{goes, stopped}
use Rattle.dfi_base.proofs.Entries.{begins_by}
use Rattle.tac_ir.proofs.Living.{begins_one, last_is_silent}

-- Memory.

-- what a memory answers depends on no thread
any_thread : (m : Module) (input : List ℤ) (h : List Entry) (n room k place : ℕ) (op : Op) (answer : Answer) → is_served op ≡ true → IsAnswer m input h n room op answer → IsAnswer m input h k place op answer
any_thread m input h n room k place (Op.Read r w) answer is given = given
any_thread m input h n room k place (Op.Write d w v) answer is given = given
any_thread m input h n room k place (Op.New site count) answer is given = given
any_thread m input h n room k place (Op.Free w) answer is given = given
any_thread m input h n room k place Op.In answer is given = given
any_thread m input h n room k place Op.Left answer is given = given
any_thread m input h n room k place op answer is given = cc

pub history_served : (m : Module) (input : List ℤ) (h : List Entry) → IsHistory m input h → AreServed m input h
unfolding IsHistory AreServed
history_served m input [] run = tt
history_served m input (e ∷ h) run =
    (λ is n room. any_thread m input h e.name.0 run.0.want.room n room e.op e.answer is run.0.answer, history_served m input h run.1)

-- Lives.

-- an instruction with an event is not the last
asks_on : (c : Code) (s : Start) (steps : List Step) (op : Op) → event_at c s steps (next_spot c s steps) ≡ Some op → is_last (instr_at c (next_spot c s steps).point) ≡ false
unfolding event_at
asks_on c s steps op event = by (is_last (instr_at c (next_spot c s steps).point)) refl
  where
    by : (b : Bool) → is_last (instr_at c (next_spot c s steps).point) ≡ b → b ≡ false
    by false is = refl
    by true is =
        let spot = next_spot c s steps in
        let none = last_is_silent c (here_at c s steps spot) (temp_of c s steps spot.act) (instr_at c spot.point) is in
        let clash : None ≡ Some op = sym none ∙ event in cc

-- an answer that does not stop makes the path longer
path_grows : (c : Code) (s : Start) (own : List Entry) (w : Want) (e : Entry) → IsWanted c s own w → e.point ≡ w.point → e.op ≡ w.op → stops e.answer ≡ false
    → (steps : List Step) × IsPath c s steps (e ∷ own)
unfolding IsPath
path_grows c s own w e wanted point op going =
    let spot = next_spot c s wanted.steps in
    let step : Step = record { spot = spot; answer = e.answer } in
    let takes : Takes (Some w.op) step (IsPath c s wanted.steps) (e ∷ own) = (point ∙ sym wanted.point, op, refl, wanted.path, going) in (
      step ∷ wanted.steps,
      (
        refl,
        asks_on c s wanted.steps w.op wanted.event,
        subst (λ o. Takes o step (IsPath c s wanted.steps) (e ∷ own)) (sym wanted.event) takes,
      ),
    )

-- an entry that a life wanted, in front of its own
own_entry : (c : Code) (s : Start) (own : List Entry) (w : Want) (e : Entry) → IsWanted c s own w → e.point ≡ w.point → e.op ≡ w.op → AreOfLife c s (e ∷ own)
own_entry c s own w e wanted point op = by (stops e.answer) refl
  where
    by : (b : Bool) → stops e.answer ≡ b → AreOfLife c s (e ∷ own)
    by true is = stopped w e own wanted (record { point = point; op = op; stop = is })
    by false is = (let p = path_grows c s own w e wanted point op is in goes p.0 (e ∷ own) p.1)

-- the entries of each life of a run, stopped or not
pub entries_of_life : (m : Module) (input : List ℤ) (h : List Entry) (n : ℕ) (s : Start) → IsHistory m input h → Begins (threads_of m) h n s → AreOfLife m.code s (own (threads_of m) n h)
unfolding IsHistory BeginsIn own IsPath
entries_of_life m input [] n s run begins = goes [] [] refl
entries_of_life m input (e ∷ h) n s run begins = by (is_start_of (threads_of m) n e) begins (nat_eq e.name.0 n) refl (λ b. entries_of_life m input h n s run.1 b)
  where
    follows : Follows m input h e
    follows = run.0

    by : (started : Bool) → begins_by (threads_of m) 1 (root_start m) h n s started → (mine : Bool) → nat_eq e.name.0 n ≡ mine → (Begins (threads_of m) h n s → AreOfLife m.code s (own (threads_of m) n h))
        → AreOfLife m.code s (elim started [ true ↦ [] | false ↦ elim mine [ true ↦ e ∷ own (threads_of m) n h | false ↦ own (threads_of m) n h ] ])
    by true b mine is rest = goes [] [] refl
    by false b false is rest = rest b
    by false b true is rest =
        let same = eqb-true e.name.0 n is in
        let next = subst (λ k. IsNext (threads_of m) h k follows.start follows.want) same follows.next in
        let start = begins_one m h n follows.start s next.begins b in
        let wants = subst (λ z. IsWanted m.code z (own (threads_of m) n h) follows.want) start next.wants in
        own_entry m.code s (own (threads_of m) n h) follows.want e wants follows.point follows.op
