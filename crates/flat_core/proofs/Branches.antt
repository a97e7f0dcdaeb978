-- Forks: the stacks of branches.
use Rattle.std.proofs.Common.{◌≡◌, ℕ, zero, suc, ◌++◌, ◌⊎◌, inl, inr, ◌+◌, ◌/◌, ◌≤◌, List, [], ◌∷◌, length, get_or, true, false, refl, Option, Some, None, arith, sym, ◌∙◌, ap, subst}
use Rattle.std.specs.Prelude.{ℤ, slice_get, nat_le, nat_eq, IsTrue, if◌then◌else◌}
use Rattle.std.proofs.lemmas.Bool.{leb-true, eq-eqb}
use Rattle.std.proofs.lemmas.List.{length-append}
use Rattle.std.proofs.lemmas.Option.{slice_get-get_or}
use Rattle.tac_ir.specs.declared.code.Code.{Code}
use Rattle.tac_ir.specs.declared.code.Fun.{Fun}
use Rattle.tac_ir.specs.declared.code.Lined.{Lined}
use Rattle.tac_ir.specs.declared.code.Instr.{Instr}
use Rattle.tac_ir.specs.declared.run.Op.{Op}
use Rattle.tac_ir.specs.declared.run.Stop.{Stop}
use Rattle.tac_ir.specs.declared.run.Answer.{Answer}
use Rattle.tac_ir.specs.declared.run.Entry.{Entry}
use Rattle.tac_ir.specs.Module.{Module}
use Rattle.tac_ir.specs.Layout.{lines_of}
use Rattle.tac_ir.specs.GoodForm.{GoodForm, ForksWell}
use Rattle.tac_ir.specs.Answers.{IsAnswer, depth_of, fork_answer}
use Rattle.tac_thread.specs.declared.flat.FlatStack.{FlatStack}
use Rattle.tac_thread.specs.declared.want.Want.{Want}
use Rattle.tac_thread.specs.declared.want.ReplyOf.{ReplyOf}
use Rattle.tac_thread.specs.tools.Fetched.{instr_in}
use Rattle.tac_thread.specs.Doing.{want_of}
use Rattle.tac_thread.specs.Flat.{flat_meaning, with_share}
use Rattle.tac_thread.specs.Threads.{life_in, running, want_of_life, next_in, IsTree, Forks, ForksBy, TakesStacks}
use Rattle.tac_thread.proofs.Trees.{running_is}
use Rattle.path_law.specs.Standing.{FlatLife}
use Rattle.path_law.specs.Wants.{room_in}
use Rattle.path_law.specs.Fits.{answer_by}
use Rattle.path_law.specs.Alive.{AreAlive, AreShares, IsNextTold}
use Rattle.path_law.specs.Asked.{Tells}
use Rattle.tac_thread.specs.Answered.{IsReplyTo}
use Rattle.path_law.specs.InPlace.{FlatLives}
use Rattle.path_law.proofs.Begins.{shared, forking}
use Rattle.path_law.proofs.Fitting.{forks_fit}
use Rattle.path_law.proofs.Forks.{tree_forked}
use Rattle.heap_desk.specs.Laws.{changes_desk}
use Rattle.word_table.specs.Tables.{CanRun}
use Rattle.flat_core.specs.declared.ask.Asked.{Asked}
use Rattle.flat_core.specs.declared.store.Store.{Store}
use Rattle.flat_core.specs.tools.Asked.{entry_of}
use Rattle.flat_core.specs.Serves.{FlatThreads, Serves, Asks, IsPerformed}
use Rattle.flat_core.proofs.Asking.{IsAskedBy, asked_by}
use Rattle.path_law.proofs.Telling.{wants_fork}
use Rattle.flat_core.proofs.Keeping.{is_write, after_other}
use Rattle.flat_core.proofs.Performing.{stopped}

-- A fork has branches.

some_entries : (c : Code) → GoodForm c → (f at join : ℕ) (entries : List ℕ) → instr_in (lines_of c f) at ≡ Instr.Fork join entries → 2 ≤ length entries
some_entries c good f at join entries is = by (slice_get c.funs f) refl is
  where
    here : (fun : Fun) → slice_get c.funs f ≡ Some fun → (o : Option Lined) → slice_get fun.code at ≡ o → (elim o as (λ x. Instr) [ None ↦ Instr.End | Some l ↦ l.instr ]) ≡ Instr.Fork join entries → 2 ≤ length entries
    here fun found None line is = cc
    here fun found (Some l) line is = (subst (ForksWell fun.code at) is ((good.code f fun found).instrs at l line).fork).some

    by : (o : Option Fun) → slice_get c.funs f ≡ o → instr_in (elim o as (λ x. List Lined) [ None ↦ [] | Some fun ↦ fun.code ]) at ≡ Instr.Fork join entries → 2 ≤ length entries
    by None found is = cc
    by (Some fun) found is = here fun found (slice_get fun.code at) refl is

some_branches : (m : Module) (h : List Entry) (f : FlatLives) (d : Option ℕ) (n k : ℕ) (l : FlatLife) → GoodForm m.code → AreAlive m h f d → f n ≡ Some l → want_of flat_meaning m.code l ≡ Some (Want.Fork k) → 1 ≤ k
some_branches m h f d n k l good alive lives want =
    let p = alive.place.settled.threads.lives n l lives in
    let fork = (forking m.code p.start _ l k p.stands want).fork in
    omega (arith, some_entries m.code good l.top.fun l.top.at fork.join fork.entries fork.is, fork.count)

-- what a thread asks for, where it forks
forks : (m : Module) (t : FlatThreads) (n k : ℕ) (a : Asked) (by : IsAskedBy m.code (running (life_in t n)) a) → a.op ≡ Op.Fork k → by.want ≡ Want.Fork k
forks m t n k a by op = wants_fork by.want k (by.event ∙ ap Some op)

le_true : (a b : ℕ) → a ≤ b → nat_le a b ≡ true
le_true a b e = grind (arith, nat_le)

-- the tree may fork into branches with these shares
pub takes_shares : (m : Module) (t : FlatThreads) (n k : ℕ) (a : Asked) (stacks : List FlatStack) (c : Code) → c ≡ m.code → IsTree flat_meaning m.code (life_in t) → Asks m t n a → a.op ≡ Op.Fork k
    → length stacks ≡ k → AreShares a.stack stacks → TakesStacks flat_meaning c (life_in t) n stacks
takes_shares m t n k a stacks c code tree asks op count shares = subst (λ x. TakesStacks flat_meaning x (life_in t) n stacks) (sym code) (record { wants = wants; framed = framed })
  where
    by : IsAskedBy m.code (running (life_in t n)) a
    by = asked_by m.code (running (life_in t n)) a asks

    wants : next_in flat_meaning m.code (life_in t) n ≡ Some (Want.Fork (length stacks))
    wants = ap (want_of_life flat_meaning m.code) by.runs ∙ by.wants ∙ ap Some (forks m t n k a by op ∙ ap Want.Fork (sym count))

    framed : (l : FlatLife) (i : ℕ) (s : FlatStack) → life_in t n ≡ Some l → slice_get stacks i ≡ Some s → IsTrue (flat_meaning.has_frame m.code l.top.fun s)
    framed l i s lives found =
        let both : Some by.life ≡ Some l = sym (running_is (life_in t n) by.life by.runs).0 ∙ lives in
        let same : by.life ≡ l = cc in
        let stack : a.stack ≡ l.top.stack = by.stack ∙ ap (λ x. x.top.stack) same in
        let share = shared (room_in a.stack / length stacks) (suc i) a.stack s (shares i s found) in
        let frame = leb-true _ _ (tree.threads.guests n l lives).held.top.frame in
        le_true _ _ (omega (arith, frame, share.base, share.top, ap (λ (x : FlatStack). x.base) stack, ap (λ (x : FlatStack). x.top) stack))

-- Answers.

pub too_deep : (m : Module) (input : List ℤ) (h : List Entry) (u : FlatThreads) (r : Store) (n k : ℕ) (a : Asked) → a.op ≡ Op.Fork k → nat_le 14 (depth_of n) ≡ true → IsPerformed m input h n a (Answer.Stop Stop.Depth) u r
too_deep m input h u r n k a op deep =
    stopped m input h u r n a (Answer.Stop Stop.Depth)
    (subst (λ o. IsAnswer m input h n (room_in a.stack) o (Answer.Stop Stop.Depth)) (sym op)
    (ap (λ b. if b then Answer.Stop Stop.Depth else (if nat_eq (room_in a.stack / k) 0 then Answer.Stop Stop.Share else Answer.Unit)) (sym deep))) refl

pub no_share : (m : Module) (input : List ℤ) (h : List Entry) (u : FlatThreads) (r : Store) (n k : ℕ) (a : Asked) → a.op ≡ Op.Fork k → nat_le 14 (depth_of n) ≡ false → room_in a.stack / k ≡ 0
    → IsPerformed m input h n a (Answer.Stop Stop.Share) u r
no_share m input h u r n k a op shallow none =
    let zero_is : nat_eq (room_in a.stack / k) 0 ≡ true = eq-eqb _ _ none in
    let is : fork_answer n (room_in a.stack) k ≡ Answer.Stop Stop.Share =
    ap (λ b. if b then Answer.Stop Stop.Depth else (if nat_eq (room_in a.stack / k) 0 then Answer.Stop Stop.Share else Answer.Unit)) shallow
    ∙ ap (λ b. if b then Answer.Stop Stop.Share else Answer.Unit) zero_is in
    stopped m input h u r n a (Answer.Stop Stop.Share) (subst (λ o. IsAnswer m input h n (room_in a.stack) o (Answer.Stop Stop.Share)) (sym op) (sym is)) refl

pub forked : (m : Module) (input : List ℤ) (h : List Entry) (t u : FlatThreads) (r : Store) (n k : ℕ) (a : Asked) (stacks : List FlatStack) (c : Code) → c ≡ m.code → CanRun m → Serves m input h t r → Asks m t n a
    → a.op ≡ Op.Fork k → nat_le 14 (depth_of n) ≡ false → length stacks ≡ k → AreShares a.stack stacks
    → Forks flat_meaning c (life_in t) t.done n stacks (life_in u) u.done → IsTree flat_meaning c (life_in u) → IsPerformed m input h n a Answer.Unit u r
forked m input h t u r n k a stacks c code can serves asks op shallow count shares fork tree = record {
  answers = subst (λ o. IsAnswer m input h n (room_in a.stack) o Answer.Unit) (sym op) (sym fits);
  goes_on = λ goes. record {
    threads = record {
      place = tree_forked m h (life_in t) (life_in u) t.done u.done (entry_of n a Answer.Unit) stacks can.form serves.threads now (op ∙ ap Op.Fork (sym count)) (subst (λ s. AreShares s stacks) by.stack shares)
          (subst (λ b. ForksBy flat_meaning m.code (life_in t) t.done n stacks (life_in u) u.done b) shallow (subst (λ x. Forks flat_meaning x (life_in t) t.done n stacks (life_in u) u.done) code fork));
      tree = subst (λ x. IsTree flat_meaning x (life_in u)) code tree;
    };
    store = after_other m input h r (entry_of n a Answer.Unit) (ap is_write op) (ap changes_desk op) serves.store;
  };
}
  where
    by : IsAskedBy m.code (running (life_in t n)) a
    by = asked_by m.code (running (life_in t n)) a asks

    fork_want : by.want ≡ Want.Fork k
    fork_want = forks m t n k a by op

    some : 1 ≤ k
    some = some_branches m h (life_in t) t.done n k by.life can.form serves.threads (running_is (life_in t n) by.life by.runs).0 (by.wants ∙ ap Some fork_want)

    fits : fork_answer n (room_in a.stack) k ≡ Answer.Unit
    fits =
        let first = shares 0 (get_or stacks 0 a.stack) (slice_get-get_or stacks 0 a.stack (omega (arith, some, count))) in
        forks_fit n k 1 a.stack shallow ∙ ap (answer_by Stop.Share) (ap (λ x. with_share (room_in a.stack / x) a.stack 1) (sym count) ∙ first)

    now : IsNextTold m (life_in t) (entry_of n a Answer.Unit) ReplyOf.Unit
    now = record {
      life = by.life;
      runs = by.runs;
      told = record {
        want = by.want;
        wants = by.wants;
        point = by.point;
        event = by.event;
        kind = subst (λ w. IsReplyTo flat_meaning m.code w ReplyOf.Unit) (sym fork_want) tt;
        tells = subst (λ o. Tells m.code by.life.top.stack o Answer.Unit ReplyOf.Unit) (sym op) tt;
      };
    }

-- Shares that are made one by one.

appended : (xs : List FlatStack) (x t : FlatStack) (k : ℕ) → slice_get (xs ++ x ∷ []) k ≡ Some t → (slice_get xs k ≡ Some t) ⊎ ((k ≡ length xs) × (x ≡ t))
appended [] x t zero found = let same : x ≡ t = cc in inr (refl, same)
appended [] x t (suc k) found = cc
appended (y ∷ xs) x t zero found = inl found
appended (y ∷ xs) x t (suc k) found = by (appended xs x t k found)
  where
    by : (slice_get xs k ≡ Some t) ⊎ ((k ≡ length xs) × (x ≡ t)) → (slice_get (y ∷ xs) (suc k) ≡ Some t) ⊎ ((suc k ≡ length (y ∷ xs)) × (x ≡ t))
    by (inl here) = inl here
    by (inr last) = inr (omega (arith, last.0), last.1)

-- the first i of n shares of a stack
pub record AreSoMany (s : FlatStack) (n i : ℕ) (stacks : List FlatStack) : Type 0 where
  pub count : length stacks ≡ i
  pub shares : (k : ℕ) (t : FlatStack) → slice_get stacks k ≡ Some t → with_share (room_in s / n) s (suc k) ≡ Some t

pub shares_more : (s : FlatStack) (n i : ℕ) (stacks new : List FlatStack) (t : FlatStack) → AreSoMany s n i stacks → new ≡ stacks ++ t ∷ [] → with_share (room_in s / n) s (i + 1) ≡ Some t → AreSoMany s n (i + 1) new
shares_more s n i stacks new t so_far is share = subst (AreSoMany s n (i + 1)) (sym is) (record {
  count = omega (arith, length-append stacks (t ∷ []), so_far.count);
  shares = λ k u found. by k u (appended stacks t u k found);
})
  where
    by : (k : ℕ) (u : FlatStack) → (slice_get stacks k ≡ Some u) ⊎ ((k ≡ length stacks) × (t ≡ u)) → with_share (room_in s / n) s (suc k) ≡ Some u
    by k u (inl here) = so_far.shares k u here
    by k u (inr last) =
        let at : suc k ≡ i + 1 = omega (arith, last.0, so_far.count) in
        ap (with_share (room_in s / n) s) at ∙ share ∙ ap Some last.1

pub shares_done : (s : FlatStack) (n i : ℕ) (stacks : List FlatStack) → AreSoMany s n i stacks → i ≤ n → n ≤ i → (length stacks ≡ n) × AreShares s stacks
shares_done s n i stacks so_far low high =
    let count : length stacks ≡ n = omega (arith, so_far.count, low, high) in
    (count, λ k t found. ap (λ x. with_share (room_in s / x) s (suc k)) count ∙ so_far.shares k t found)
