-- Along each chain of trees in which links that are read go home, each activation is reached by its own call, over any values.
use Rattle.std.proofs.Common.{◌≡◌, ℕ, suc, ◌+◌, ◌-◌, ◌<◌, ◌⊎◌, inl, inr, List, [], ◌∷◌, length, true, false, refl, Option, Some, None, arith, sym, ◌∙◌, ap, subst}
use Rattle.std.specs.Prelude.{slice_get, Contains}
use Rattle.std.proofs.lemmas.Bool.{cases_eq}
use Rattle.std.proofs.lemmas.Option.{slice_get_within}
use Rattle.dfi_base.specs.declared.numbers.Point.{Point}
use Rattle.tac_ir.specs.declared.code.Code.{Code}
use Rattle.tac_ir.specs.declared.code.Instr.{Instr}
use Rattle.tac_ir.specs.Edges.{edges_of}
use Rattle.tac_ir.specs.Regions.{regions_of}
use Rattle.tac_ir.specs.NumberLaws.{new_call}
use Rattle.tac_ir.specs.GoodForm.{GoodForm}
use Rattle.tac_thread.specs.declared.guest.Activation.{Activation}
use Rattle.tac_thread.specs.declared.guest.Stage.{Stage}
use Rattle.tac_thread.specs.declared.want.ReplyOf.{ReplyOf}
use Rattle.tac_thread.specs.Meaning.{Meaning}
use Rattle.tac_thread.specs.Life.{Life, instr_of}
use Rattle.tac_thread.specs.Doing.{silent_at}
use Rattle.tac_thread.specs.RunsOn.{RunsOn}
use Rattle.tac_thread.specs.Answered.{answered, joined, joined_at}
use Rattle.tac_thread.specs.Begun.{root_of, branch_of, entry_of}
use Rattle.tac_thread.specs.Threads.{Lives, at_fork, is_waiting}
use Rattle.tree_law.specs.Placed.{IsPlaced}
use Rattle.tree_law.specs.Chain.{Saying, IsTreeAfter}
use Rattle.tree_law.specs.tools.Held.{AreHeld, HoldsOn}
use Rattle.tree_law.specs.tools.Kept.{HoldsUnder, IsKeptAlong}
use Rattle.tree_law.proofs.lives.Edges.{fork_edge, regions_count}
use Rattle.tree_law.proofs.lives.Placing.{runs_placed, joined_placed, answered_placed, root_placed, branch_placed}
use Rattle.tree_law.proofs.trees.Waking.{runs_awake}
use Rattle.tree_law.proofs.trees.Along.{kept_along}
use Rattle.tree_law.proofs.trees.Ancestors.{HaveParents}
use Rattle.tree_law.proofs.trees.Changed.{some_at}
use Rattle.link_law.specs.Linked.{IsBelow, IsLinkClosed}
use Rattle.link_law.specs.tools.Reached.{spot, any_point, AreReached, EntersAtEntry, ReadsHome, IsReached, IsRootReached, IsReachedIn, IsReachedAt}
use Rattle.link_law.proofs.reach.Moving.{Rises, runs_reached, answered_reached, joined_reached, ready_home}
use Rattle.link_law.proofs.reach.Ending.{branch_ended}

no_waiting : {V S : Type 0} → (R : Point → ℕ → ℕ → Type 0) (c : Code) (p : Life V S) (i : ℕ) → is_waiting p.stage ≡ false → IsReachedAt R c p i
no_waiting R c p i awake waits join entries r fork region = (let clash : true ≡ false = sym waits ∙ awake in cc)

-- who waits stands still
runs_asleep : {V S : Type 0} → (m : Meaning V S) (c : Code) (l k : Life V S) → is_waiting l.stage ≡ true → RunsOn m c l k → k ≡ l
runs_asleep m c l k waits (RunsOn.rests same rest) = refl
runs_asleep {V} {S} m c l k waits (RunsOn.runs first next last step on) = absurd (by l.stage waits step)
  where
    by : (s : Stage V S) → is_waiting s ≡ true → silent_at m c l s ≡ Some next → ⊥
    by Stage.Ready w z = cc
    by (Stage.Entering callee) w z = cc
    by (Stage.Leaving link) w z = cc
    by Stage.Waiting w z = cc

rested : {V S : Type 0} → (m : Meaning V S) (R : Point → ℕ → ℕ → Type 0) (c : Code) → GoodForm c → (p q : Life V S) → is_waiting p.stage ≡ true → RunsOn m c (joined c p) q → (i : ℕ) → IsReachedAt R c q i
rested {V} {S} m R c good p q waits on i = by (instr_of c p.top) refl on
  where
    stays : (j : Instr) → instr_of c p.top ≡ j → ((join : ℕ) (entries : List ℕ) → j ≡ Instr.Fork join entries → ⊥) → RunsOn m c p q → IsReachedAt R c q i
    stays j is none still waiting join entries r fork region =
        let same = runs_asleep m c p q waits still in
        absurd (none join entries (sym is ∙ ap (λ (z : Life V S). instr_of c z.top) (sym same) ∙ fork))

    by : (j : Instr) → instr_of c p.top ≡ j → RunsOn m c (joined_at p j) q → IsReachedAt R c q i
    by (Instr.Fork join entries) is z = no_waiting R c q i (runs_awake m c (joined_at p (Instr.Fork join entries)) q refl z)
    by j is z = stays j is (λ join entries e. cc) z

module _ {V S : Type 0} (m : Meaning V S) (R : Point → ℕ → ℕ → Type 0) (c : Code) (good : GoodForm c) (closed : IsLinkClosed c R) where
  rises_below : (p : Point) → Rises R (IsBelow R p)
  rises_below p a b up before d f w = up d f (before d f w)

  rises_any : Rises R any_point
  rises_any a b up w = tt

  with_life : (p l k : Life V S) (i : ℕ) → ((f r : ℕ) → IsPlaced c f r l → IsPlaced c f r k) → ((f r : ℕ) → IsPlaced c f r l → IsReached m R c (IsBelow R (spot p.top)) l → IsReached m R c (IsBelow R (spot p.top)) k)
      → IsReachedIn m R c p i l → IsReachedIn m R c p i k
  with_life p l k i goes reaches b = record {
    branch = record { waits = b.branch.waits; join = b.branch.join; entries = b.branch.entries; fork = b.branch.fork; entry = b.branch.entry; listed = b.branch.listed; placed = goes p.top.fun (suc b.branch.entry) b.branch.placed };
    reached = reaches p.top.fun (suc b.branch.entry) b.branch.placed b.reached;
  }

  reached_rule : HoldsOn m c (IsRootReached m R c) (IsReachedIn m R c) (IsReachedAt R c)
  reached_rule = record {
    root_runs = λ l k h on. record { placed = runs_placed m c good c.main 0 l k h.placed on; reached = runs_reached m R c any_point rises_any good closed l k h.reached on };
    branch_runs = λ p l k i b on. with_life p l k i (λ f r q. runs_placed m c good f r l k q on) (λ f r q h. runs_reached m R c (IsBelow R (spot p.top)) (rises_below (spot p.top)) good closed l k h on) b;
    root_joins = λ l h waits all. record { placed = joined_placed c good c.main 0 l h.placed waits; reached = joined_reached m R c any_point rises_any good closed l waits all h.reached };
    branch_joins = λ p l i b waits all. with_life p l (joined c l) i (λ f r q. joined_placed c good f r l q waits)
        (λ f r q h. joined_reached m R c (IsBelow R (spot p.top)) (rises_below (spot p.top)) good closed l waits all h) b;
    branch_ends = λ p l i v b ends. branch_ended m R c good p l i v b ends;
    waits = λ p l i b. b.branch.waits;
    awake = λ p i awake. no_waiting R c p i awake;
    rested = λ p q waits on i all. rested m R c good p q waits on i;
  }

  under : (l k : Life V S) → ((f r : ℕ) → IsPlaced c f r l → IsPlaced c f r k) → ((f r : ℕ) (P : Point → Type 0) → Rises R P → IsPlaced c f r l → IsReached m R c P l → IsReached m R c P k)
      → HoldsUnder (IsRootReached m R c) (IsReachedIn m R c) l k
  under l k goes reaches = record {
    root = λ h. record { placed = goes c.main 0 h.placed; reached = reaches c.main 0 any_point rises_any h.placed h.reached };
    branch = λ p i b. with_life p l k i goes (λ f r q h. reaches f r (IsBelow R (spot p.top)) (rises_below (spot p.top)) q h) b;
  }

  asleep : (l : Life V S) → HoldsUnder (IsRootReached m R c) (IsReachedIn m R c) l (at_fork l)
  asleep l = under l (at_fork l) (λ f r q. record { stands = q.stands; enters = tt }) (λ f r P rises q h. record { stands = h.stands; enters = tt; home = λ link y callers is below. cc })

  first_reached : (P : Point → Type 0) (l : Life V S) → l.callers ≡ [] → l.stage ≡ Stage.Ready → P (spot l.top) → IsReached m R c P l
  unfolding AreReached
  first_reached P l none ready here = record {
    stands = subst (AreReached R c P l.top) (sym none) here;
    enters = subst EntersAtEntry (sym ready) tt;
    home = ready_home m c l ready;
  }

  begins_reached : (l : Life V S) (stacks : List S) (join : ℕ) (entries : List ℕ) → instr_of c l.top ≡ Instr.Fork join entries → length entries ≡ length stacks
      → (i : ℕ) (t : S) (b : Life V S) → slice_get stacks i ≡ Some t → RunsOn m c (branch_of m c l (i + 1) t) b → IsReachedIn m R c (at_fork l) (suc i) b
  begins_reached l stacks join entries is count i t b listed on =
      let within = slice_get_within stacks i t listed in
      let e = some_at entries i (omega (arith, within, count)) in
      let back : (i + 1) - 1 ≡ i = omega arith in
      let same : suc i - 1 ≡ i = omega arith in
      let first = branch_placed m c good l (i + 1) join e.0 entries t is (ap (slice_get entries) back ∙ e.1) in
      let entry_is : entry_of (instr_of c l.top) (i + 1) ≡ e.0 = ap (λ z. entry_of z (i + 1)) is ∙ ap (λ o. elim o [ None ↦ 0 | Some x ↦ x ]) (ap (slice_get entries) back ∙ e.1) in
      let to : spot (branch_of m c l (i + 1) t).top ≡ record { fun = l.top.fun; at = e.0 } = ap (λ z. record { fun = l.top.fun; at = z }) entry_is in
      let below : IsBelow R (spot l.top) (record { fun = l.top.fun; at = e.0 }) =
      closed.edges (spot l.top) (record { fun = l.top.fun; at = e.0 }) (subst (λ z. Contains (edges_of c (spot l.top) z) (record { fun = l.top.fun; at = e.0 })) (sym is) (fork_edge c (spot l.top) join entries i e.0 e.1)) in
      let began = first_reached (IsBelow R (spot l.top)) (branch_of m c l (i + 1) t) refl refl (subst (IsBelow R (spot l.top)) (sym to) below) in
      record {
        branch = record { waits = refl; join = join; entries = entries; fork = is; entry = e.0; listed = ap (slice_get entries) same ∙ e.1; placed = runs_placed m c good l.top.fun (suc e.0) (branch_of m c l (i + 1) t) b first on };
        reached = runs_reached m R c (IsBelow R (spot l.top)) (rises_below (spot l.top)) good closed (branch_of m c l (i + 1) t) b began on;
      }

  beyond_reached : (l : Life V S) (stacks : List S) (join : ℕ) (entries : List ℕ) → instr_of c l.top ≡ Instr.Fork join entries → length entries ≡ length stacks → (i : ℕ) → length stacks < i → IsReachedAt R c (at_fork l) i
  beyond_reached l stacks join entries is count i past waits join2 entries2 r fork region =
      let both : Instr.Fork join entries ≡ Instr.Fork join2 entries2 = sym is ∙ fork in
      let same : entries ≡ entries2 = cc in
      let within = slice_get_within (regions_of l.top.at join2 entries2) (i - 1) r region in
      let long = regions_count l.top.at join2 entries2 in
      let as_many = ap length same in
      absurd (omega (arith, past, within, long, as_many, count))

  reached_kept : {E : Type 0} → (s : S) (say : Saying V S E) → ((h : List E) (n : ℕ) (l : Life V S) (e : E) (reply : ReplyOf V S) → say.Tells h n l e reply → ReadsHome m c l reply)
      → ((h : List E) (n : ℕ) (l : Life V S) (e : E) → say.Sticks h n l e → ⊥) → IsKeptAlong m c s say (IsRootReached m R c) (IsReachedIn m R c) (IsReachedAt R c)
  reached_kept s say reads never = record {
    rule = reached_rule;
    begins = record { placed = root_placed m c good s; reached = first_reached any_point (root_of m c s) refl refl tt };
    answers = λ h e n l reply told awake moved. under l (answered m c l reply) (λ f r q. answered_placed m c good f r l reply q)
        (λ f r P rises q reached. answered_reached m R c P rises good closed f r l reply (reads h n l e reply told) q reached);
    forks = λ h e n l stacks told shares awake join entries is count few. record {
      waits = asleep l;
      begins = begins_reached l stacks join entries is count;
      beyond = beyond_reached l stacks join entries is count;
    };
    sticks = λ h e n l stuck awake. absurd (never h n l e stuck);
  }

  -- where each link that is read goes home
  pub reached_along : {E : Type 0} → (s : S) (say : Saying V S E) → ((h : List E) (n : ℕ) (l : Life V S) (e : E) (reply : ReplyOf V S) → say.Tells h n l e reply → ReadsHome m c l reply)
      → ((h : List E) (n : ℕ) (l : Life V S) (e : E) → say.Sticks h n l e → ⊥) → (h : List E) (f : Lives V S) (d : Option V) → IsTreeAfter m c s say h f d → AreHeld (IsRootReached m R c) (IsReachedIn m R c) (IsReachedAt R c) f
  reached_along s say reads never h f d chain = kept_along m c good s say (IsRootReached m R c) (IsReachedIn m R c) (IsReachedAt R c) (reached_kept s say reads never) h f d chain

-- Of one life.

pub record IsReachedLife {V S : Type 0} (m : Meaning V S) (R : Point → ℕ → ℕ → Type 0) (c : Code) (l : Life V S) : Type 1 where
  pub P : Point → Type 0
  pub reached : IsReached m R c P l

pub reached_of : {V S : Type 0} → (m : Meaning V S) (R : Point → ℕ → ℕ → Type 0) (c : Code) (f : Lives V S) → HaveParents f → AreHeld (IsRootReached m R c) (IsReachedIn m R c) (IsReachedAt R c) f → (n : ℕ) (l : Life V S) → f n ≡ Some l
    → IsReachedLife m R c l
reached_of m R c f parents held n l lives = by (cases_eq n 1)
  where
    by : (n ≡ 1) ⊎ (n ≡ 1 → ⊥) → IsReachedLife m R c l
    by (inl one) = record { P = any_point; reached = (held.root l (ap f (sym one) ∙ lives)).reached }
    by (inr other) = (let up = parents n l lives other in record { P = IsBelow R (spot up.1.0.top); reached = (held.branches n up.1.0 l up.0 other lives up.1.1).reached })

-- its caller's call reaches where it stands
own_in : {V S : Type 0} → (R : Point → ℕ → ℕ → Type 0) (c : Code) (P : Point → Type 0) (x y : Activation V S) (callers : List (Activation V S)) → AreReached R c P x (y ∷ callers) → (d : ℕ) → new_call (instr_of c y) ≡ Some d → R (spot x) d x.fun
unfolding AreReached
own_in R c P x y callers h = h.1

pub own_call_reaches : {V S : Type 0} → (m : Meaning V S) (R : Point → ℕ → ℕ → Type 0) (c : Code) (l : Life V S) → IsReachedLife m R c l → (y : Activation V S) (callers : List (Activation V S)) → l.callers ≡ y ∷ callers
    → (d : ℕ) → new_call (instr_of c y) ≡ Some d → R (spot l.top) d l.top.fun
own_call_reaches m R c l h y callers below = own_in R c h.P l.top y callers (subst (AreReached R c h.P l.top) below h.reached.stands)
