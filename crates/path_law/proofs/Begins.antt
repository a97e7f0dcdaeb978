-- Lives begin where their paths begin.
use Rattle.std.proofs.Common.{◌≡◌, ℕ, suc, ◌+◌, ◌-◌, ◌*◌, ◌/◌, ◌≤◌, List, [], length, Bool, true, false, refl, Some, None, arith, sym, ◌∙◌, ap, subst}
use Rattle.std.specs.Prelude.{nat_eq, slice_index, if◌then◌else◌}
use Rattle.dfi_base.specs.declared.numbers.Point.{Point}
use Rattle.tac_ir.specs.declared.code.Code.{Code}
use Rattle.tac_ir.specs.declared.run.Entry.{Entry}
use Rattle.tac_ir.specs.Module.{Module}
use Rattle.tac_ir.specs.Counts.{temps_of}
use Rattle.tac_ir.specs.Effect.{Spot}
use Rattle.tac_ir.specs.Layout.{instr_at}
use Rattle.tac_ir.specs.Path.{Step, Start, calls_in, call_of, frame_end, base_of, temp_of, next_spot, IsPath}
use Rattle.tac_ir.specs.Threads.{root_start, room_at, share_start, IsForkedAt}
use Rattle.tac_thread.specs.declared.flat.FlatStack.{FlatStack}
use Rattle.tac_thread.specs.declared.guest.Stage.{Stage}
use Rattle.tac_thread.specs.declared.want.Want.{Want}
use Rattle.tac_thread.specs.Life.{instr_of}
use Rattle.tac_thread.specs.Doing.{link_write, want_at, want_of}
use Rattle.tac_thread.specs.Begun.{begun, root_of, entry_of, branch_of}
use Rattle.tac_thread.specs.Flat.{flat_meaning, with_share}
use Rattle.path_law.specs.Standing.{FlatLife, first_spot, AreCallers, IsBefore, StandsIn, IsAt}
use Rattle.path_law.specs.Begins.{root_stack, IsBranchAt}
use Rattle.path_law.proofs.Temps.{zeros, value_index}
use Rattle.path_law.proofs.Calls.{given_size}
use Rattle.tree_law.proofs.trees.Waking.{IsFork, fork_is}

-- a stack that is the frame and the region of a beginning
pub record IsStartOf (s : Start) (f at : ℕ) (stack : FlatStack) : Type 0 where
  pub point : s.point ≡ record { fun = f; at = at }
  pub base : s.base ≡ stack.base
  pub region : s.region ≡ stack.top
  pub limit : s.region_end ≡ stack.«end»

pub begun_at : (c : Code) (s : Start) (f at : ℕ) (stack : FlatStack) → IsStartOf s f at stack → IsAt c s [] (begun flat_meaning c f at stack)
unfolding IsPath next_spot temp_of base_of frame_end call_of calls_in AreCallers
begun_at c s f at stack h = record {
  steps = [];
  path = refl;
  stands = record {
    spot = record {
      act = 0;
      spot = ap (λ p. first_at p) h.point;
      stack = record {
        own = record {
          temps = λ d. λ t. (sym (zeros (temps_of c f - 0) t)) d;
          size = given_size c f [] (omega arith);
          base = h.base;
          top = h.region;
          limit = h.limit;
          made = omega arith;
        };
        below = refl;
      };
    };
    fresh = λ a t low. refl;
  };
}
  where
    first_at : Point → Spot
    first_at p = record { act = 0; point = p; second = false }

-- thread 1
pub root_at : (m : Module) → IsAt m.code (root_start m) [] (root_of flat_meaning m.code (root_stack m))
root_at m = begun_at m.code (root_start m) m.code.main 0 (root_stack m) (record { point = refl; base = refl; region = refl; limit = refl })

-- Branches.

-- a life that wants to fork stands before a fork
pub record IsForking (c : Code) (s : Start) (own : List Entry) (l : FlatLife) (n : ℕ) : Type 0 where
  pub steps : List Step
  pub path : IsPath c s steps own
  pub before : IsBefore c s steps l.top l.callers
  pub fork : IsFork (instr_of c l.top) n

pub forking : (c : Code) (s : Start) (own : List Entry) (l : FlatLife) (n : ℕ) → IsAt c s own l → want_of flat_meaning c l ≡ Some (Want.Fork n) → IsForking c s own l n
forking c s own l n now want = by l.stage now.stands.spot want
  where
    by : (stage : Stage ℕ FlatStack) → StandsIn c s now.steps l stage → want_at flat_meaning c l.top stage ≡ Some (Want.Fork n) → IsForking c s own l n
    by Stage.Ready b want = record { steps = now.steps; path = now.path; before = b; fork = fork_is flat_meaning c l.top n (instr_of c l.top) want }
    by (Stage.Entering z) b want =
        let pushes : Some (Want.Push (record { 0 = b.def }) z.stack.base) ≡ Some (Want.Fork n) = ap (λ i. link_write i (Some z.stack.base)) (sym b.call) ∙ want in cc
    by (Stage.Leaving link) b want = cc
    by Stage.Waiting b want = cc

-- the i-th of equal shares
pub record IsShareOf (words i : ℕ) (s t : FlatStack) : Type 0 where
  pub base : t.base ≡ s.base
  pub top : t.top ≡ s.top + (i - 1) * words
  pub limit : t.«end» ≡ s.top + i * words

pub shared : (words i : ℕ) (s t : FlatStack) → with_share words s i ≡ Some t → IsShareOf words i s t
shared words i s t e = by (nat_eq words 0) e
  where
    by : (b : Bool) → (if b then None else Some (record { base = s.base; top = s.top + (i - 1) * words; «end» = s.top + i * words })) ≡ Some t → IsShareOf words i s t
    by true e = cc
    by false e =
        let base : s.base ≡ t.base = cc in
        let top : s.top + (i - 1) * words ≡ t.top = cc in
        let limit : s.top + i * words ≡ t.«end» = cc in
        record { base = sym base; top = sym top; limit = sym limit }

one_more : (top w i : ℕ) → 1 ≤ i → top + (i - 1) * w + w ≡ top + i * w
one_more top w i h = by i h
  where
    by : (i : ℕ) → 1 ≤ i → top + (i - 1) * w + w ≡ top + i * w
    by i h = omega (arith, expand (i - 1), again i h)
      where
        expand : (j : ℕ) → suc j * w ≡ j * w + w
        expand j = omega arith

        again : (i : ℕ) → 1 ≤ i → i * w ≡ suc (i - 1) * w
        again i h = let e : i ≡ suc (i - 1) = omega (arith, h) in ap (λ k. k * w) e

pub branch_at : (c : Code) (s : Start) (own : List Entry) (l : FlatLife) (n i : ℕ) (stack : FlatStack) → IsAt c s own l → want_of flat_meaning c l ≡ Some (Want.Fork n) → 1 ≤ i
    → with_share ((l.top.stack.«end» - l.top.stack.top) / n) l.top.stack i ≡ Some stack → IsBranchAt c s own i (branch_of flat_meaning c l i stack)
branch_at c s own l n i stack now want from share =
    let x = l.top in
    let f = forking c s own l n now want in
    let a = f.before.act in
    let act = f.before.stack.own in
    let entries = f.fork.entries in
    let given = shared ((x.stack.«end» - x.stack.top) / n) i x.stack stack share in
    let start = share_start c s f.steps (first_spot a x) entries i in
    let words : room_at c s f.steps a / length entries ≡ (x.stack.«end» - x.stack.top) / n =
    ap (λ k. (k - frame_end c s f.steps a) / length entries) act.limit ∙ ap (λ k. (x.stack.«end» - k) / length entries) act.top
    ∙ ap (λ k. (x.stack.«end» - x.stack.top) / k) f.fork.count in
    let w = (x.stack.«end» - x.stack.top) / n in
    let top : start.region ≡ stack.top =
    ap (λ k. k + (i - 1) * (room_at c s f.steps a / length entries)) act.top ∙ ap (λ k. x.stack.top + (i - 1) * k) words ∙ sym given.top in
    let entry : slice_index entries (i - 1) ≡ entry_of (instr_of c x) i = sym (value_index entries (i - 1)) ∙ ap (λ j. entry_of j i) (sym f.fork.is) in
    record {
      start = start;
      forked = (
        f.steps,
        f.path,
        subst (λ (q : Spot). IsForkedAt c s f.steps q i (instr_at c q.point) start) (sym f.before.spot)
            (subst (λ j. IsForkedAt c s f.steps (first_spot a x) i j start) (sym f.fork.is) refl),
      );
      stands = begun_at c start x.fun (entry_of (instr_of c x) i) stack (record {
        point = ap (λ k. point_in x.fun k) entry;
        base = act.base ∙ sym given.base;
        region = top;
        limit = ap (λ k. k + (room_at c s f.steps a / length entries)) (top ∙ given.top) ∙ ap (λ k. x.stack.top + (i - 1) * w + k) words ∙ one_more x.stack.top w i from ∙ sym given.limit;
      });
    }
  where
    point_in : ℕ → ℕ → Point
    point_in f at = record { fun = f; at = at }
