-- Silent steps, joins, and threads that know nothing.
use Rattle.std.proofs.Common.{◌≡◌, ℕ, zero, suc, ◌+◌, ◌≤◌, ◌<◌, ◌⊎◌, inl, inr, ⊎_elim, List, [], ◌∷◌, ◌++◌, length, Bool, true, false, refl, Option, Some, None, arith, sym, ◌∙◌, ap, subst}
use Rattle.std.specs.Prelude.{slice_get}
use Rattle.std.proofs.lemmas.Bool.{cases_eq}
use Rattle.dfi_base.specs.declared.numbers.Point.{Point}
use Rattle.tac_ir.specs.declared.code.Code.{Code}
use Rattle.tac_ir.specs.declared.code.Instr.{Instr}
use Rattle.tac_ir.specs.declared.code.Place.{Place}
use Rattle.tac_ir.specs.declared.run.Entry.{Entry}
use Rattle.tac_ir.specs.Module.{Module}
use Rattle.tac_ir.specs.Layout.{lines_of, place_word}
use Rattle.tac_ir.specs.Last.{last_write}
use Rattle.tac_ir.specs.Bodies.{Parallel}
use Rattle.tac_ir.specs.Answers.{is_allowed}
use Rattle.tac_ir.specs.GoodForm.{GoodForm, targets_of, fork_targets_of, all_targets_of}
use Rattle.tac_ir.proofs.regions.Outside.{front_is}
use Rattle.tac_thread.specs.declared.guest.Activation.{Activation}
use Rattle.tac_thread.specs.declared.guest.Stage.{Stage}
use Rattle.tac_thread.specs.declared.doing.Doing.{Doing}
use Rattle.tac_thread.specs.Meaning.{Meaning}
use Rattle.tac_thread.specs.tools.Fetched.{instr_in}
use Rattle.tac_thread.specs.Life.{instr_of, with_temp, at_index, with_top}
use Rattle.tac_thread.specs.Doing.{doing, done, silent_at, silent_next}
use Rattle.tac_thread.specs.RunsOn.{RunsOn}
use Rattle.tac_thread.specs.Answered.{joined, joined_at}
use Rattle.tac_thread.specs.Flat.{flat_meaning}
use Rattle.tac_thread.specs.Threads.{is_waiting}
use Rattle.tac_thread.specs.declared.flat.FlatStack.{FlatStack}
use Rattle.path_law.specs.Standing.{FlatLife}
use Rattle.tree_law.proofs.lives.Lines.{Leads, leads}
use Rattle.lawful_law.specs.Covered.{Breaks, IsNamed, IsLoud, Covers, IsCovered}
use Rattle.lawful_law.specs.tools.Knows.{Knows, LifeKnows, Keeps}
use Rattle.lawful_law.proofs.Knowing.{at_target, behind_silent, nobody_else}

-- who waits stands still
runs_asleep : (c : Code) (l k : FlatLife) → is_waiting l.stage ≡ true → RunsOn flat_meaning c l k → k ≡ l
runs_asleep c l k waits (RunsOn.rests same rest) = refl
runs_asleep c l k waits (RunsOn.runs first next last step on) = absurd (by l.stage waits step)
  where
    by : (s : Stage ℕ FlatStack) → is_waiting s ≡ true → silent_at flat_meaning c l s ≡ Some next → ⊥
    by Stage.Ready w z = cc
    by (Stage.Entering callee) w z = cc
    by (Stage.Leaving link) w z = cc
    by Stage.Waiting w z = cc

-- where another thread runs at a parallel point, there is nothing to know, whatever the history
pub idle : (m : Module) (h : List Entry) → GoodForm m.code → (l : FlatLife) (q : Point) → Parallel m.code (record { fun = l.top.fun; at = l.top.at }) q → LifeKnows m h l
idle m h good l q p b at r place e low high = absurd (nobody_else m good l.top.fun b at r place e l.top.at low high q p)

abbrev is_access : Instr → Bool
is_access (Instr.Get to place r) = true
is_access (Instr.Set place a d) = true
is_access i = false

cover_access : (m : Module) (place : Place) (r : ℕ) (i : Instr) → Covers m place r i → is_access i ≡ true
cover_access m place r (Instr.Get to other r2) c = refl
cover_access m place r (Instr.Set other a d) c = refl
cover_access m place r i c = absurd c

access_asks : {V S : Type 0} → (m : Meaning V S) (c : Code) (x : Activation V S) (i : Instr) (to : ℕ) (v : V) → doing m c x i ≡ Doing.Gives to v → is_access i ≡ true → ⊥
access_asks m c x (Instr.Get t place r) to v is a = cc
access_asks m c x (Instr.Set place t d) to v is a = cc
access_asks m c x i to v is a = cc

done_knows : (m : Module) (h : List Entry) (l k : FlatLife) (d : Doing ℕ) → doing flat_meaning m.code l.top (instr_of m.code l.top) ≡ d → Leads (instr_of m.code l.top) d → LifeKnows m h l → done l d ≡ Some k → LifeKnows m h k
done_knows m h l k (Doing.Gives to v) does goes knows is =
    let y = at_index (with_temp l.top to v) (l.top.at + 1) in
    let same : with_top l y ≡ k = cc in
    subst (LifeKnows m h) same (behind_silent m h l.top.fun l.top.stack.base l.top.at
    (λ place r c. access_asks flat_meaning m.code l.top (instr_of m.code l.top) to v does (cover_access m place r (instr_of m.code l.top) c)) knows)
done_knows m h l k (Doing.Goes t) does goes knows is =
    let y = at_index l.top t in
    let same : with_top l y ≡ k = cc in
    let named : IsNamed (lines_of m.code l.top.fun) t = (l.top.at, (goes.1.0, front_is (targets_of (instr_of m.code l.top)) (fork_targets_of (instr_of m.code l.top)) goes.1.0 t goes.1.1)) in
    subst (LifeKnows m h) same (at_target m h l.top.fun l.top.stack.base t named)
done_knows m h l k (Doing.Asks w) does goes knows is = cc

silent_knows : (m : Module) (h : List Entry) (l k : FlatLife) → LifeKnows m h l → silent_next flat_meaning m.code l ≡ Some k → LifeKnows m h k
silent_knows m h l k knows is = by l.stage is
  where
    by : (s : Stage ℕ FlatStack) → silent_at flat_meaning m.code l s ≡ Some k → LifeKnows m h k
    by Stage.Ready is = done_knows m h l k (doing flat_meaning m.code l.top (instr_of m.code l.top)) refl (leads flat_meaning m.code l.top (instr_of m.code l.top)) knows is
    by (Stage.Entering callee) is = cc
    by (Stage.Leaving link) is = cc
    by Stage.Waiting is = cc

runs_know : (m : Module) (h : List Entry) (l k : FlatLife) → LifeKnows m h l → RunsOn flat_meaning m.code l k → LifeKnows m h k
runs_know m h l k knows (RunsOn.rests one rest) = knows
runs_know m h l k knows (RunsOn.runs first next last step on) = runs_know m h next k (silent_knows m h l next knows step) on

join_at : (xs : List ℕ) (join : ℕ) → slice_get (xs ++ join ∷ []) (length xs) ≡ Some join
join_at [] join = refl
join_at (x ∷ xs) join = join_at xs join

-- A thread that stands at a call, a return or a fork knows nothing.

abbrev pub Stuck : Instr → Type 0
Stuck (Instr.Call to g def args) = Unit {0}
Stuck (Instr.Ret x r) = Unit {0}
Stuck (Instr.Fork join entries) = Unit {0}
Stuck i = ⊥

stuck_or : (i : Instr) → Stuck i → IsLoud i ⊎ Breaks i
stuck_or (Instr.Call to g def args) s = inl tt
stuck_or (Instr.Ret x r) s = inr tt
stuck_or (Instr.Fork join entries) s = inl tt
stuck_or i s = absurd s

pub stuck_knows : (m : Module) (h : List Entry) (f base now : ℕ) → Stuck (instr_in (lines_of m.code f) now) → Knows m h f base now
stuck_knows m h f base now stuck b at r place e low high = ⊎_elim
    (λ (same : now ≡ at). absurd (subst Stuck (ap (instr_in (lines_of m.code f)) same ∙ e.read) stuck))
    (λ (other : now ≡ at → ⊥). by (stuck_or (instr_in (lines_of m.code f) now) stuck) other)
    (cases_eq now at)
  where
    by : IsLoud (instr_in (lines_of m.code f) now) ⊎ Breaks (instr_in (lines_of m.code f) now) → (now ≡ at → ⊥) → is_allowed m r (last_write m.code h (place_word m.code f base place)) ≡ true
    by (inl loud) other = absurd (e.quiet now low (omega (arith, high, other)) loud)
    by (inr ends) other = absurd (e.straight.broken now (omega (arith, low)) (omega (arith, high, other)) ends)

-- Who waits need not know.

pub runs_keep : (m : Module) (h : List Entry) (l k : FlatLife) → Keeps m h l → RunsOn flat_meaning m.code l k → Keeps m h k
runs_keep m h l k keeps on awake = by (is_waiting l.stage) refl
  where
    by : (b : Bool) → is_waiting l.stage ≡ b → LifeKnows m h k
    by false is = runs_know m h l k (keeps is) on
    by true is = (let same = runs_asleep m.code l k is on in let clash : true ≡ false = sym is ∙ ap (λ (z : FlatLife). is_waiting z.stage) (sym same) ∙ awake in cc)

pub join_keep : (m : Module) (h : List Entry) (l : FlatLife) → Keeps m h l → Keeps m h (joined m.code l)
join_keep m h l keeps = by (instr_of m.code l.top) refl
  where
    by : (i : Instr) → instr_of m.code l.top ≡ i → Keeps m h (joined_at l i)
    by (Instr.Fork join entries) is = λ awake. at_target m h l.top.fun l.top.stack.base join (l.top.at, (length entries, subst (λ z. slice_get (all_targets_of z) (length entries) ≡ Some join) (sym is) (join_at entries join)))
    by i is = keeps
