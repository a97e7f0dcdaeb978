-- Lives keep their regions, whatever they are answered and whatever a link said.
use Rattle.std.proofs.Common.{◌≡◌, ℕ, suc, ◌+◌, ◌-◌, ⊎_elim, List, [], ◌∷◌, length, true, refl, Option, Some, None, arith, sym, ◌∙◌, ap, subst}
use Rattle.std.specs.Prelude.{slice_get}
use Rattle.std.proofs.lemmas.Option.{slice_get_within}
use Rattle.tac_ir.specs.declared.code.Code.{Code}
use Rattle.tac_ir.specs.declared.code.Instr.{Instr}
use Rattle.tac_ir.specs.declared.code.Lined.{Lined}
use Rattle.tac_ir.specs.Layout.{lines_of}
use Rattle.tac_ir.specs.Path.{region_in}
use Rattle.tac_ir.specs.Edges.{calls_fun}
use Rattle.tac_ir.specs.GoodForm.{GoodForm}
use Rattle.tac_thread.specs.declared.guest.Activation.{Activation}
use Rattle.tac_thread.specs.declared.guest.Stage.{Stage}
use Rattle.tac_thread.specs.declared.want.ReplyOf.{ReplyOf}
use Rattle.tac_thread.specs.Meaning.{Meaning}
use Rattle.tac_thread.specs.Life.{Life, instr_of}
use Rattle.tac_thread.specs.Answered.{answered, joined}
use Rattle.tac_thread.specs.RunsOn.{RunsOn}
use Rattle.tac_thread.specs.Begun.{root_of, branch_of, entry_of}
use Rattle.tac_thread.specs.Threads.{Lives, at_fork, is_waiting}
use Rattle.tree_law.specs.Placed.{AreStanding, EntersWell, IsPlaced, IsBranchOf, ArePlaced}
use Rattle.tree_law.specs.Moves.{IsPlain, IsOnward, GoesOn, Moves}
use Rattle.tree_law.specs.Moves.Moves.{goes_on, to_enter, enters_now, enters, leaves, stays}
use Rattle.tree_law.specs.Chain.{Saying, IsTreeAfter}
use Rattle.tree_law.specs.tools.Held.{HoldsOn}
use Rattle.tree_law.specs.tools.Kept.{HoldsUnder, IsKeptAlong}
use Rattle.tac_ir.proofs.regions.Leads.{entry_own}
use Rattle.tree_law.proofs.lives.Edges.{entry_line, branch_line}
use Rattle.tree_law.proofs.lives.Lines.{good_code, IsThere, there, enters_at}
use Rattle.tree_law.proofs.lives.Silent.{runs_keep, joined_is}
use Rattle.tree_law.proofs.lives.Moving.{answered_moves}
use Rattle.tree_law.proofs.trees.Changed.{some_at}
use Rattle.tree_law.proofs.trees.Along.{kept_along}

-- only the newest activation's function, region and line count
moved : {V S : Type 0} → (c : Code) (f r : ℕ) (x y : Activation V S) (callers : List (Activation V S)) → IsOnward c x y → AreStanding c f r x callers → AreStanding c f r y callers
unfolding AreStanding
moved c f r x y [] on h = (on.fun ∙ h.0, on.region ∙ h.1, on.line h.2)
moved c f r x y (z ∷ callers) on h = (on.region ∙ h.0, subst (λ n. calls_fun n (instr_of c z) ≡ true) (sym on.fun) h.1, on.line h.2, h.3)

stand_as : {V S : Type 0} → (c : Code) (f r : ℕ) (k : Life V S) (x : Activation V S) (callers : List (Activation V S)) → k.top ≡ x → k.callers ≡ callers → AreStanding c f r x callers → AreStanding c f r k.top k.callers
stand_as c f r k x callers top below h = subst (λ z. AreStanding c f r z k.callers) (sym top) (subst (AreStanding c f r x) (sym below) h)

plain_well : {V S : Type 0} → (c : Code) (x : Activation V S) (s : Stage V S) → IsPlain s → EntersWell c x s
plain_well c x (Stage.Entering callee) plain = absurd plain
plain_well c x s plain = tt

pub ready_plain : {V S : Type 0} → (s : Stage V S) → s ≡ Stage.Ready → IsPlain s
ready_plain Stage.Ready is = tt
ready_plain (Stage.Entering callee) is = cc
ready_plain (Stage.Leaving link) is = tt
ready_plain Stage.Waiting is = tt

goes_placed : {V S : Type 0} → (c : Code) (f r : ℕ) (l k : Life V S) → GoesOn c l k → IsPlaced c f r l → IsPlaced c f r k
goes_placed c f r l k goes p = record {
  stands = subst (AreStanding c f r k.top) (sym goes.callers) (moved c f r l.top k.top l.callers goes.onward p.stands);
  enters = plain_well c k.top k.stage (ready_plain k.stage goes.stage);
}

pub runs_placed : {V S : Type 0} → (m : Meaning V S) (c : Code) → GoodForm c → (f r : ℕ) (l k : Life V S) → IsPlaced c f r l → RunsOn m c l k → IsPlaced c f r k
runs_placed m c good f r l k p on = runs_keep m c good (IsPlaced c f r) (goes_placed c f r) l k p on

on_callee : {V S : Type 0} → (c : Code) (f r : ℕ) (x callee : Activation V S) (callers : List (Activation V S)) → EntersWell c x (Stage.Entering callee) → AreStanding c f r x callers → AreStanding c f r callee (x ∷ callers)
unfolding AreStanding
on_callee c f r x callee callers e h = (e.0, e.1, e.2, h)

below_top : {V S : Type 0} → (c : Code) (f r : ℕ) (x y : Activation V S) (callers : List (Activation V S)) → AreStanding c f r x (y ∷ callers) → AreStanding c f r y callers
unfolding AreStanding
below_top c f r x y callers h = h.3

moves_placed : {V S : Type 0} → (m : Meaning V S) (c : Code) (f r : ℕ) (reply : ReplyOf V S) (l k : Life V S) → Moves m c reply l k → IsPlaced c f r l → IsPlaced c f r k
moves_placed m c f r reply l k (goes_on k2 goes) p = goes_placed c f r l k goes p
moves_placed m c f r reply l k (to_enter k2 callee is top below stage) p = record {
  stands = stand_as c f r k l.top l.callers top below p.stands;
  enters = subst (EntersWell c k.top) (sym stage) (subst (λ z. EntersWell c z (Stage.Entering callee)) (sym top) (is.region, is.call, is.line));
}
moves_placed m c f r reply l k (enters_now k2 callee is top below stage) p = record {
  stands = stand_as c f r k callee (l.top ∷ l.callers) top below (on_callee c f r l.top callee l.callers (is.region, is.call, is.line) p.stands);
  enters = plain_well c k.top k.stage (ready_plain k.stage stage);
}
moves_placed m c f r reply l k (enters k2 callee stage top below ready) p = record {
  stands = stand_as c f r k callee (l.top ∷ l.callers) top below (on_callee c f r l.top callee l.callers (subst (EntersWell c l.top) stage p.enters) p.stands);
  enters = plain_well c k.top k.stage (ready_plain k.stage ready);
}
moves_placed m c f r reply l k (leaves k2 y callers left) p = record {
  stands = subst (AreStanding c f r k.top) (sym left.below)
      (moved c f r y k.top callers left.onward (below_top c f r l.top y callers (subst (AreStanding c f r l.top) left.called_by p.stands)));
  enters = plain_well c k.top k.stage (ready_plain k.stage left.stage);
}
moves_placed m c f r reply l k (stays k2 top below how) p = record {
  stands = stand_as c f r k l.top l.callers top below p.stands;
  enters = ⊎_elim (λ (same : k.stage ≡ l.stage). subst (EntersWell c k.top) (sym same) (subst (λ z. EntersWell c z l.stage) (sym top) p.enters)) (λ (plain : IsPlain k.stage). plain_well c k.top k.stage plain) how;
}

pub answered_placed : {V S : Type 0} → (m : Meaning V S) (c : Code) → GoodForm c → (f r : ℕ) (l : Life V S) (reply : ReplyOf V S) → IsPlaced c f r l → IsPlaced c f r (answered m c l reply)
answered_placed m c good f r l reply p = moves_placed m c f r reply l (answered m c l reply) (answered_moves m c good l reply) p

pub joined_placed : {V S : Type 0} → (c : Code) → GoodForm c → (f r : ℕ) (l : Life V S) → IsPlaced c f r l → is_waiting l.stage ≡ true → IsPlaced c f r (joined c l)
joined_placed {V} {S} c good f r l p waits = (let j = joined_is c good l in record {
  stands = subst (AreStanding c f r (joined c l).top) (sym j.callers) (moved c f r l.top (joined c l).top l.callers j.onward p.stands);
  enters = plain_well c (joined c l).top (joined c l).stage (⊎_elim (λ (same : (joined c l).stage ≡ l.stage). subst IsPlain (sym same) (waiting_plain l.stage waits)) (λ (ready : (joined c l).stage ≡ Stage.Ready). ready_plain (joined c l).stage ready) j.stage);
})
  where
    waiting_plain : (s : Stage V S) → is_waiting s ≡ true → IsPlain s
    waiting_plain Stage.Ready is = tt
    waiting_plain (Stage.Entering callee) is = cc
    waiting_plain (Stage.Leaving link) is = tt
    waiting_plain Stage.Waiting is = tt

-- Beginnings.

pub root_placed : {V S : Type 0} → (m : Meaning V S) (c : Code) → GoodForm c → (s : S) → IsPlaced c c.main 0 (root_of m c s)
unfolding AreStanding
root_placed m c good s = record { stands = (refl, enters_at c good c.main, entry_line c good c.main good.funs.main); enters = tt }

pub branch_placed : {V S : Type 0} → (m : Meaning V S) (c : Code) → GoodForm c → (p : Life V S) (i join e : ℕ) (entries : List ℕ) (s : S) → instr_of c p.top ≡ Instr.Fork join entries → slice_get entries (i - 1) ≡ Some e
    → IsPlaced c p.top.fun (suc e) (branch_of m c p i s)
unfolding AreStanding
branch_placed m c good p i join e entries s is listed = record { stands = (refl, ap (region_in code) at_e ∙ own, line); enters = tt }
  where
    code : List Lined
    code = lines_of c p.top.fun

    t : IsThere code p.top.at (Instr.Fork join entries)
    t = there code p.top.at (Instr.Fork join entries) is (λ z. cc)

    own : region_in code e ≡ suc e
    own = entry_own c p.top.fun code (good_code c good p.top.fun p.top.at t.line t.found) p.top.at (i - 1) e join
        (record { line = t.line; here = t.found; entries = entries; fork = t.is; entry = listed })

    entry_at : (o : Option ℕ) → o ≡ Some e → elim o [ None ↦ 0 | Some x ↦ x ] ≡ e
    entry_at None z = cc
    entry_at (Some x) z = cc

    at_e : entry_of (instr_of c p.top) i ≡ e
    at_e = ap (λ z. entry_of z i) is ∙ entry_at (slice_get entries (i - 1)) listed

    line : (l : Lined) × (slice_get (lines_of c p.top.fun) (entry_of (instr_of c p.top) i) ≡ Some l)
    line = subst (λ z. (l : Lined) × (slice_get (lines_of c p.top.fun) z ≡ Some l)) (sym at_e) (branch_line c good p.top.fun p.top.at join entries (i - 1) e is listed)

-- Along a chain.

-- nothing is said of branches that have ended
abbrev pub Nothing : {V S : Type 0} → Life V S → ℕ → Type 0
Nothing p i = Unit {0}

with_place : {V S : Type 0} → (c : Code) (p l k : Life V S) (i : ℕ) → ((f r : ℕ) → IsPlaced c f r l → IsPlaced c f r k) → IsBranchOf c p i l → IsBranchOf c p i k
with_place c p l k i goes b = record { waits = b.waits; join = b.join; entries = b.entries; fork = b.fork; entry = b.entry; listed = b.listed; placed = goes p.top.fun (suc b.entry) b.placed }

pub placed_rule : {V S : Type 0} → (m : Meaning V S) (c : Code) → GoodForm c → HoldsOn m c (IsPlaced {V = V} {S = S} c c.main 0) (IsBranchOf c) Nothing
placed_rule m c good = record {
  root_runs = λ l k. runs_placed m c good c.main 0 l k;
  branch_runs = λ p l k i b on. with_place c p l k i (λ f r q. runs_placed m c good f r l k q on) b;
  root_joins = λ l p waits ended. joined_placed c good c.main 0 l p waits;
  branch_joins = λ p l i b waits ended. with_place c p l (joined c l) i (λ f r q. joined_placed c good f r l q waits) b;
  branch_ends = λ p l i v b ends. tt;
  waits = λ p l i b. b.waits;
  awake = λ p i awake. tt;
  rested = λ p q waits on i all. tt;
}

placed_under : {V S : Type 0} → (c : Code) (l k : Life V S) → ((f r : ℕ) → IsPlaced c f r l → IsPlaced c f r k) → HoldsUnder (IsPlaced c c.main 0) (IsBranchOf c) l k
placed_under c l k goes = record { root = goes c.main 0; branch = λ p i b. with_place c p l k i goes b }

placed_waits : {V S : Type 0} → (c : Code) (l : Life V S) (f r : ℕ) → IsPlaced c f r l → IsPlaced c f r (at_fork l)
placed_waits c l f r p = record { stands = p.stands; enters = tt }

pub placed_kept : {V S E : Type 0} → (m : Meaning V S) (c : Code) → GoodForm c → (s : S) (say : Saying V S E) → IsKeptAlong m c s say (IsPlaced c c.main 0) (IsBranchOf c) Nothing
placed_kept {V} {S} {E} m c good s say = record {
  rule = placed_rule m c good;
  begins = root_placed m c good s;
  answers = λ h e n l reply told awake moved. placed_under c l (answered m c l reply) (λ f r p. answered_placed m c good f r l reply p);
  forks = λ h e n l stacks told shares awake join entries is count few. record {
    waits = placed_under c l (at_fork l) (placed_waits c l);
    begins = begin l stacks join entries is count;
    beyond = λ i past. tt;
  };
  sticks = λ h e n l stuck awake. (placed_under c l (at_fork l) (placed_waits c l), λ i. tt);
}
  where
    begin : (l : Life V S) (stacks : List S) (join : ℕ) (entries : List ℕ) → instr_of c l.top ≡ Instr.Fork join entries → length entries ≡ length stacks
        → (i : ℕ) (t : S) (b : Life V S) → slice_get stacks i ≡ Some t → RunsOn m c (branch_of m c l (i + 1) t) b → IsBranchOf c (at_fork l) (suc i) b
    begin l stacks join entries is count i t b listed on =
        let within = slice_get_within stacks i t listed in
        let e = some_at entries i (omega (arith, within, count)) in
        let back : (i + 1) - 1 ≡ i = omega arith in
        let same : suc i - 1 ≡ i = omega arith in
        let first = branch_placed m c good l (i + 1) join e.0 entries t is (ap (slice_get entries) back ∙ e.1) in
        record { waits = refl; join = join; entries = entries; fork = is; entry = e.0; listed = ap (slice_get entries) same ∙ e.1; placed = runs_placed m c good l.top.fun (suc e.0) (branch_of m c l (i + 1) t) b first on }

-- the threads of each tree of a chain stand where they began, whatever the entries say
pub places_along : {V S E : Type 0} → (m : Meaning V S) (c : Code) → GoodForm c → (s : S) (say : Saying V S E) (h : List E) (f : Lives V S) (d : Option V) → IsTreeAfter m c s say h f d → ArePlaced c f
places_along m c good s say h f d chain =
    let held = kept_along m c good s say (IsPlaced c c.main 0) (IsBranchOf c) Nothing (placed_kept m c good s say) h f d chain in
    record { root = held.root; branches = held.branches }
