-- Where a life stands, and what it makes of its next entry.
use Rattle.std.proofs.Common.{◌≡◌, ℕ, ◌≤◌, List, ◌∷◌, Bool, true, false, refl, Option, Some, None, arith, sym, ◌∙◌, ap, subst}
use Rattle.dfi_base.specs.Lives.{branches_after}
use Rattle.obj_mem.specs.declared.value.Value.{Value}
use Rattle.obj_mem.specs.declared.event.Event.{Event}
use Rattle.tac_ir.specs.declared.code.Code.{Code}
use Rattle.tac_ir.specs.declared.code.Instr.{Instr}
use Rattle.tac_thread.specs.Life.{instr_of}
use Rattle.tac_thread.specs.Answered.{joined, joined_at}
use Rattle.tac_thread.specs.RunsOn.{RunsOn}
use Rattle.tac_thread.specs.Threads.{is_waiting, at_fork, ended_of}
use Rattle.tree_law.proofs.trees.Waking.{runs_awake}
use Rattle.obj_run.specs.Objects.{object_meaning}
use Rattle.obj_run.specs.Entries.{Entry}
use Rattle.obj_run.specs.tools.SoFar.{fork_in}
use Rattle.obj_run.specs.Runs.{ObjLife, is_zero, is_too_deep}
use Rattle.obj_threads.specs.Threads.{starts_by, starts_of, LeadsTo, HasStopped, obj_threads}
use Rattle.obj_threads.specs.Threads.LeadsTo.{begins, told, joins, sticks, traps}
use Rattle.obj_threads.specs.InPlace.{IsAt}
use Rattle.obj_threads.specs.InPlace.IsAt.{rests, waits}

-- Entries by kinds.

pub deep_fork : (n : ℕ) (e : Event) → is_too_deep n e ≡ true → (k : ℕ) × (fork_in e ≡ Some k)
deep_fork n (Event.Fork k) deep = (k, refl)
deep_fork n e deep = cc

pub zero_none : (e : Event) → is_zero e ≡ true → fork_in e ≡ None
zero_none Event.Zero is = refl
zero_none (Event.Fork k) is = cc
zero_none e is = refl

pub starts_none : (e : Entry) → fork_in e.stamp.event ≡ None → starts_of e ≡ 0
starts_none e none = ap (starts_by (is_too_deep e.stamp.name.0 e.stamp.event)) none ∙ by (is_too_deep e.stamp.name.0 e.stamp.event)
  where
    by : (b : Bool) → starts_by b None ≡ 0
    by true = refl
    by false = refl

pub starts_deep : (e : Entry) → is_too_deep e.stamp.name.0 e.stamp.event ≡ true → starts_of e ≡ 0
starts_deep e deep = ap (λ b. starts_by b (fork_in e.stamp.event)) deep

pub starts_all : (e : Entry) (k : ℕ) → fork_in e.stamp.event ≡ Some k → is_too_deep e.stamp.name.0 e.stamp.event ≡ false → starts_of e ≡ k
starts_all e k fork shallow = ap (λ b. starts_by b (fork_in e.stamp.event)) shallow ∙ ap (starts_by false) fork

pub starts_zero : (e : Entry) → is_zero e.stamp.event ≡ true → starts_of e ≡ 0
starts_zero e is = starts_none e (zero_none e.stamp.event is)

-- Lives.

asleep : (k : ObjLife) → is_waiting (at_fork k).stage ≡ true
asleep k = refl

-- who stands somewhere and does not wait has come there
pub comes_to : (c : Code) (s : ObjLife) (own : List Entry) (l : ObjLife) → IsAt c s own l → is_waiting l.stage ≡ false → LeadsTo c s own l
comes_to c s own l (rests h) awake = h
comes_to c s own l (waits e rest k branches join entries is h up fork shallow instr same) awake =
    let clash : true ≡ false = ap (λ (x : ObjLife). is_waiting x.stage) (sym same) ∙ awake in cc

-- who has ended has stopped
pub stopped : (c : Code) (s : ObjLife) (own : List Entry) (l : ObjLife) (v : Option Value) → IsAt c s own l → ended_of object_meaning c (Some l) ≡ Some v → is_waiting l.stage ≡ false → HasStopped c s own
stopped c s own l v at ends awake = record { life = l; leads = comes_to c s own l at awake; value = v; ended = ends }

joined_is : (c : Code) (k : ObjLife) (join : ℕ) (entries : List ℕ) → instr_of c k.top ≡ Instr.Fork join entries → joined c (at_fork k) ≡ joined c k
joined_is c k join entries is = ap (joined_at (at_fork k)) is ∙ sym (ap (joined_at k) is)

joined_ready : (c : Code) (k : ObjLife) (join : ℕ) (entries : List ℕ) → instr_of c k.top ≡ Instr.Fork join entries → is_waiting (joined c k).stage ≡ false
joined_ready c k join entries is = ap (λ (x : ObjLife). is_waiting x.stage) (ap (joined_at k) is)

-- who waits at a fork that started branches goes on behind its join
pub record Joins (c : Code) (s : ObjLife) (own : List Entry) (l q : ObjLife) : Type 0 where
  pub stands : IsAt c s own q
  pub awake : is_waiting (joined c l).stage ≡ false

pub joins_on : (c : Code) (s : ObjLife) (own : List Entry) (l q : ObjLife) → IsAt c s own l → is_waiting l.stage ≡ true → 1 ≤ branches_after (obj_threads c) own → RunsOn object_meaning c (joined c l) q → Joins c s own l q
joins_on c s own l q (waits e rest k branches join entries is h up fork shallow instr same) asleep some on =
    let one : joined c l ≡ joined c k = ap (joined c) same ∙ joined_is c k join entries instr in
    record {
      stands = rests (subst (λ o. LeadsTo c s o q) (sym is) (joins e rest k q branches join entries h up fork shallow instr (subst (λ x. RunsOn object_meaning c x q) one on)));
      awake = ap (λ (x : ObjLife). is_waiting x.stage) one ∙ joined_ready c k join entries instr;
    }
joins_on c s own l q (rests h) asleep some on = absurd (by own l h asleep some)
  where
    by : (own : List Entry) (l : ObjLife) → LeadsTo c s own l → is_waiting l.stage ≡ true → 1 ≤ branches_after (obj_threads c) own → ⊥
    by own l (begins l2 on) asleep some = omega (arith, some)
    by own l (told e rest k l2 h up zero_no fork on) asleep some = omega (arith, some, starts_none e fork)
    by own l (joins e rest k l2 branches join entries h up fork shallow instr on) asleep some =
        let clash : true ≡ false = sym asleep ∙ runs_awake object_meaning c (joined c k) l (joined_ready c k join entries instr) on in cc
    by own l (sticks e rest k h up deep) asleep some = omega (arith, some, starts_deep e deep)
    by own l (traps e rest k h up stops) asleep some = omega (arith, some, starts_zero e stops)

-- a life whose newest entry was a fork that was too deep waits
pub stuck_waits : (c : Code) (s : ObjLife) (e : Entry) (rest : List Entry) (l : ObjLife) → LeadsTo c s (e ∷ rest) l → is_too_deep e.stamp.name.0 e.stamp.event ≡ true → is_waiting l.stage ≡ true
stuck_waits c s e rest l h deep = by (e ∷ rest) refl l h
  where
    by : (own : List Entry) → own ≡ e ∷ rest → (l : ObjLife) → LeadsTo c s own l → is_waiting l.stage ≡ true
    by own is l (begins l2 on) = cc
    by own is l (told e2 rest2 k l2 h up zero_no fork on) =
        let one : e2 ≡ e = cc in
        let d = deep_fork e.stamp.name.0 e.stamp.event deep in
        let clash : None ≡ Some d.0 = sym fork ∙ ap (λ (x : Entry). fork_in x.stamp.event) one ∙ d.1 in cc
    by own is l (joins e2 rest2 k l2 branches join entries h up fork shallow instr on) =
        let one : e2 ≡ e = cc in
        let clash : true ≡ false = sym deep ∙ ap (λ (x : Entry). is_too_deep x.stamp.name.0 x.stamp.event) (sym one) ∙ shallow in cc
    by own is l (sticks e2 rest2 k h up deep2) = refl
    by own is l (traps e2 rest2 k h up stops) =
        let one : e2 ≡ e = cc in
        let d = deep_fork e.stamp.name.0 e.stamp.event deep in
        let clash : None ≡ Some d.0 = sym (zero_none e2.stamp.event stops) ∙ ap (λ (x : Entry). fork_in x.stamp.event) one ∙ d.1 in cc
