-- Who waits was told that it has forked, and who wants to fork stands at a fork.
use Rattle.std.proofs.Common.{◌≡◌, ℕ, Bool, true, false, List, [], ◌∷◌, length, refl, sym, ap, Option, Some, None}
use Rattle.tac_ir.specs.declared.code.Code.{Code}
use Rattle.tac_ir.specs.declared.code.Instr.{Instr}
use Rattle.tac_thread.specs.declared.guest.Activation.{Activation}
use Rattle.tac_thread.specs.declared.guest.Stage.{Stage}
use Rattle.tac_thread.specs.declared.doing.Doing.{Doing}
use Rattle.tac_thread.specs.declared.want.Want.{Want}
use Rattle.tac_thread.specs.declared.want.ReplyOf.{ReplyOf}
use Rattle.tac_thread.specs.Meaning.{Meaning, divides_by_zero}
use Rattle.tac_thread.specs.Life.{Life, instr_of, temp}
use Rattle.tac_thread.specs.RunsOn.{RunsOn}
use Rattle.tac_thread.specs.Doing.{doing, done, silent_at, silent_next, asked, given, tested, leaves, link_write, want_at, want_of}
use Rattle.tac_thread.specs.Threads.{is_waiting}
use Rattle.tac_thread.specs.Answered.{calls, called, returned, returns, with_none, with_value, with_stack, answered_first, answered_at, answered}

-- Who waits was told that it has forked.

silent_awake : {V S : Type 0} (m : Meaning V S) (c : Code) (l k : Life V S) → silent_next m c l ≡ Some k → is_waiting k.stage ≡ false
silent_awake {V} {S} m c l k silent = by l.stage silent
  where
    goes : (d : Doing V) → done l d ≡ Some k → is_waiting k.stage ≡ false
    goes (Doing.Gives to v) e = let stage : Stage.Ready ≡ k.stage = cc in ap is_waiting (sym stage)
    goes (Doing.Goes at) e = let stage : Stage.Ready ≡ k.stage = cc in ap is_waiting (sym stage)
    goes (Doing.Asks w) e = cc

    by : (stage : Stage V S) → silent_at m c l stage ≡ Some k → is_waiting k.stage ≡ false
    by Stage.Ready e = goes (doing m c l.top (instr_of c l.top)) e
    by stage e = cc

-- who runs on does not wait
pub runs_awake : {V S : Type 0} (m : Meaning V S) (c : Code) (l k : Life V S) → is_waiting l.stage ≡ false → RunsOn m c l k → is_waiting k.stage ≡ false
runs_awake m c l k awake (RunsOn.rests one rest) = awake
runs_awake m c l k awake (RunsOn.runs first next last step on) = runs_awake m c next k (silent_awake m c l next step) on

returned_awake : {V S : Type 0} (m : Meaning V S) (c : Code) (l : Life V S) (callers : List (Activation V S)) (link : Option V) (v : V) → is_waiting l.stage ≡ false → is_waiting (returned m c l callers link v).stage ≡ false
returned_awake m c l [] link v awake = awake
returned_awake m c l (y ∷ callers) link v awake = refl

returns_awake : {V S : Type 0} (m : Meaning V S) (c : Code) (l : Life V S) (link : Option V) (i : Instr) → is_waiting l.stage ≡ false → is_waiting (returns m c l link i).stage ≡ false
returns_awake m c l link (Instr.Ret x r) awake = returned_awake m c l l.callers link (temp m l.top x) awake
returns_awake m c l link i awake = awake

none_awake : {V S : Type 0} (m : Meaning V S) (c : Code) (l : Life V S) (i : Instr) → ((n : ℕ) → asked (doing m c l.top i) ≡ Some (Want.Fork n) → ⊥) → is_waiting l.stage ≡ false → is_waiting (with_none m c l i).stage ≡ false
none_awake m c l (Instr.Set place x d) no_fork awake = refl
none_awake m c l (Instr.Store x y d) no_fork awake = refl
none_awake m c l (Instr.Free x) no_fork awake = refl
none_awake m c l (Instr.Out x) no_fork awake = refl
none_awake m c l Instr.Turn no_fork awake = refl
none_awake m c l (Instr.Fork join entries) no_fork awake = absurd (no_fork _ refl)
none_awake m c l (Instr.Ret x r) no_fork awake = returned_awake m c l l.callers None (temp m l.top x) awake
none_awake m c l i no_fork awake = awake

value_awake : {V S : Type 0} (l : Life V S) (v : V) (i : Instr) → is_waiting l.stage ≡ false → is_waiting (with_value l v i).stage ≡ false
value_awake l v (Instr.Ret x r) awake = refl
value_awake l v (Instr.Get to place r) awake = refl
value_awake l v (Instr.Load to a r) awake = refl
value_awake l v (Instr.Same to ne a b) awake = refl
value_awake l v (Instr.New to a site) awake = refl
value_awake l v (Instr.In to) awake = refl
value_awake l v (Instr.Left to) awake = refl
value_awake l v i awake = awake

stack_awake : {V S : Type 0} (m : Meaning V S) (c : Code) (l : Life V S) (t : S) (i : Instr) → is_waiting l.stage ≡ false → is_waiting (with_stack m c l t i).stage ≡ false
stack_awake m c l t (Instr.Call to f def args) awake = by (m.link t)
  where
    by : (o : Option ℕ) → is_waiting (calls l (called m c l.top f args t) o).stage ≡ false
    by None = refl
    by (Some w) = refl
stack_awake m c l t i awake = awake

pub answered_awake : {V S : Type 0} (m : Meaning V S) (c : Code) (l : Life V S) (reply : ReplyOf V S) → ((n : ℕ) → want_of m c l ≡ Some (Want.Fork n) → ⊥) → is_waiting l.stage ≡ false
    → is_waiting (answered m c l reply).stage ≡ false
answered_awake {V} {S} m c l reply no_fork awake = by l.stage no_fork
  where
    first : (reply : ReplyOf V S) → ((n : ℕ) → asked (doing m c l.top (instr_of c l.top)) ≡ Some (Want.Fork n) → ⊥)
        → is_waiting (answered_first m c l (instr_of c l.top) reply).stage ≡ false
    first ReplyOf.Unit none = none_awake m c l (instr_of c l.top) none awake
    first (ReplyOf.Value v) none = value_awake l v (instr_of c l.top) awake
    first (ReplyOf.Stack t) none = stack_awake m c l t (instr_of c l.top) awake

    by : (stage : Stage V S) → ((n : ℕ) → want_at m c l.top stage ≡ Some (Want.Fork n) → ⊥) → is_waiting (answered_at m c l stage reply).stage ≡ false
    by Stage.Ready none = first reply none
    by (Stage.Entering z) none = refl
    by (Stage.Leaving link) none = returns_awake m c l (Some link) (instr_of c l.top) awake
    by Stage.Waiting none = awake

-- Who wants to fork stands at a fork.

pub record IsFork (i : Instr) (n : ℕ) : Type 0 where
  pub join : ℕ
  pub entries : List ℕ
  pub is : i ≡ Instr.Fork join entries
  pub count : length entries ≡ n

given_no : {V : Type 0} (to n : ℕ) (o : Option V) → asked (given to o) ≡ Some (Want.Fork n) → ⊥
given_no to n None e = cc
given_no to n (Some v) e = cc

pub fork_is : {V S : Type 0} (m : Meaning V S) (c : Code) (x : Activation V S) (n : ℕ) (i : Instr) → asked (doing m c x i) ≡ Some (Want.Fork n) → IsFork i n
fork_is m c x n (Instr.Fork join entries) want = record { join = join; entries = entries; is = refl; count = cc }
fork_is m c x n (Instr.Un to o a) want = absurd (given_no to n (m.un o (temp m x a)) want)
fork_is {V} {S} m c x n (Instr.Bin to o a b) want = absurd (by (divides_by_zero m o (temp m x b)) want)
  where
    by : (z : Bool) → asked (elim z [ true ↦ Doing.Asks Want.Zero | false ↦ given to (m.bin o (temp m x a) (temp m x b)) ]) ≡ Some (Want.Fork n) → ⊥
    by true e = cc
    by false e = given_no to n (m.bin o (temp m x a) (temp m x b)) e
fork_is m c x n (Instr.Field to a shape k) want = absurd (given_no to n (m.field c (temp m x a) shape k) want)
fork_is m c x n (Instr.Decay to a shape) want = absurd (given_no to n (m.decay c (temp m x a) shape) want)
fork_is m c x n (Instr.Index to a b words) want = absurd (given_no to n (m.index (temp m x a) (temp m x b) words) want)
fork_is {V} {S} m c x n (Instr.Test a one other) want = absurd (by (m.truth (temp m x a)) want)
  where
    by : (o : Option Bool) → asked (tested {V = V} one other o) ≡ Some (Want.Fork n) → ⊥
    by None e = cc
    by (Some true) e = cc
    by (Some false) e = cc
fork_is {V} {S} m c x n (Instr.Ret a (Some r)) want = absurd (by (m.link x.stack) want)
  where
    by : (o : Option ℕ) → asked (leaves {V = V} r o) ≡ Some (Want.Fork n) → ⊥
    by None e = cc
    by (Some w) e = cc
fork_is m c x n i want = cc

pub at_fork_is : {V S : Type 0} (m : Meaning V S) (c : Code) (l : Life V S) (n : ℕ) → want_of m c l ≡ Some (Want.Fork n) → IsFork (instr_of c l.top) n
at_fork_is {V} {S} m c l n want = by l.stage want
  where
    link : (i : Instr) (o : Option ℕ) → link_write {V = V} i o ≡ Some (Want.Fork n) → ⊥
    link (Instr.Call to f d args) (Some w) e = cc
    link (Instr.Call to f d args) None e = cc
    link i o e = cc

    by : (s : Stage V S) → want_at m c l.top s ≡ Some (Want.Fork n) → IsFork (instr_of c l.top) n
    by Stage.Ready e = fork_is m c l.top n (instr_of c l.top) e
    by (Stage.Entering callee) e = absurd (link (instr_of c l.top) (m.link callee.stack) e)
    by (Stage.Leaving v) e = cc
    by Stage.Waiting e = cc
