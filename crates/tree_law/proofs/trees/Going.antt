-- A tree can always go on: silent instructions come to rest, threads settle, forks have their branches.
use Rattle.std.proofs.Common.{◌≡◌, ℕ, zero, suc, ◌+◌, ◌*◌, ◌/◌, ◌<◌, ◌≤◌, ◌⊎◌, inl, inr, false, List, [], ◌∷◌, length, refl, sym, ap, ◌∙◌, subst, arith, Option, Some, None, ⊎_elim}
use Rattle.std.specs.Prelude.{IsTrue, slice_get, nat_le}
use Rattle.std.proofs.lemmas.Bool.{cases_eq}
use Rattle.std.proofs.Math.ListN.{length-set}
use Rattle.tac_ir.specs.declared.code.Code.{Code}
use Rattle.tac_ir.specs.declared.code.Instr.{Instr}
use Rattle.tac_ir.specs.GoodForm.{GoodForm}
use Rattle.tac_thread.specs.declared.guest.Stage.{Stage}
use Rattle.tac_thread.specs.declared.doing.Doing.{Doing}
use Rattle.tac_thread.specs.declared.want.Want.{Want}
use Rattle.tac_thread.specs.declared.want.ReplyOf.{ReplyOf}
use Rattle.tac_thread.specs.Meaning.{Meaning}
use Rattle.tac_thread.specs.Life.{Life, instr_of}
use Rattle.tac_thread.specs.tools.Left.{left_of}
use Rattle.tac_thread.specs.Doing.{doing, done, silent_at, silent_next}
use Rattle.tac_thread.specs.RunsOn.{RunsOn}
use Rattle.tac_thread.specs.RunsOn.RunsOn.{rests, runs}
use Rattle.tac_thread.specs.Answered.{answered, joined, joined_at}
use Rattle.tac_thread.specs.Begun.{begun, root_of, branch_of, entry_of}
use Rattle.tac_thread.specs.Guests.{IsHeld, IsGuestOf}
use Rattle.tac_thread.specs.Threads.{Lives, is_waiting, running, changed, HasBranch, end_in, ended_of, main_value, Settles, Resumes, IsFed, IsForked, IsBegun, AreGuests, IsTree, IsSettling, Takes, TakesStacks, AreBranches, planted, at_fork, nobody}
use Rattle.tac_thread.specs.Threads.Settles.{goes_on, main_ends, others_live, joins}
use Rattle.tac_thread.specs.Threads.Resumes.{some_live, none_lives}
use Rattle.tac_thread.specs.tools.Settling.{IsStepped, IsWaiting, IsJoined, ArePlantable}
use Rattle.tac_thread.proofs.Silent.{falls}
use Rattle.tac_thread.proofs.Held.{guest_at_rest, held_answered, all_temps}
use Rattle.tac_thread.proofs.Trees.{taking, changed_here, changed_other, waits_for, removed_tree, parent_waits, joined_settling, stepped_settling}
use Rattle.tac_thread.proofs.Forking.{IsForking, free_for, forked_tree, forking_waits}

-- A silent stretch.

pub record Rests {V S : Type 0} (m : Meaning V S) (c : Code) (l : Life V S) : Type 0 where
  pub next : Life V S
  pub runs : RunsOn m c l next
  pub guest : IsGuestOf m c next

held_step : {V S : Type 0} (m : Meaning V S) (c : Code) (l k : Life V S) → IsHeld m c l → silent_next m c l ≡ Some k → IsHeld m c k
held_step {V} {S} m c l k held step = by l.stage step
  where
    go : (d : Doing V) → done l d ≡ Some k → IsHeld m c k
    go (Doing.Gives to v) z =
        let same : done l (Doing.Gives to v) ≡ Some k = z in
        let given : IsHeld m c (record { top = record l.top { temps = Rattle.std.specs.Prelude.slice_set l.top.temps to v; at = l.top.at + 1 }; callers = l.callers; stage = Stage.Ready }) =
        record { top = record { frame = held.top.frame; temps = length-set l.top.temps to v ∙ held.top.temps }; callers = held.callers; entering = tt } in
        moved (record { top = record l.top { temps = Rattle.std.specs.Prelude.slice_set l.top.temps to v; at = l.top.at + 1 }; callers = l.callers; stage = Stage.Ready }) z given
      where
        moved : (n : Life V S) → Some n ≡ Some k → IsHeld m c n → IsHeld m c k
        moved n e h = (let is : n ≡ k = cc in subst (λ x. IsHeld m c x) is h)
    go (Doing.Goes t) z =
        let gone : IsHeld m c (record { top = record l.top { at = t }; callers = l.callers; stage = Stage.Ready }) =
        record { top = record { frame = held.top.frame; temps = held.top.temps }; callers = held.callers; entering = tt } in
        moved (record { top = record l.top { at = t }; callers = l.callers; stage = Stage.Ready }) z gone
      where
        moved : (n : Life V S) → Some n ≡ Some k → IsHeld m c n → IsHeld m c k
        moved n e h = (let is : n ≡ k = cc in subst (λ x. IsHeld m c x) is h)
    go (Doing.Asks w) z = cc

    by : (s : Stage V S) → silent_at m c l s ≡ Some k → IsHeld m c k
    by Stage.Ready z = go (doing m c l.top (instr_of c l.top)) z
    by (Stage.Entering callee) z = cc
    by (Stage.Leaving link) z = cc
    by Stage.Waiting z = cc

rests_in : {V S : Type 0} (m : Meaning V S) (c : Code) → GoodForm c → (fuel : ℕ) (l : Life V S) → left_of c l < fuel → IsHeld m c l → (k : Life V S) × (RunsOn m c l k × IsHeld m c k)
rests_in m c good zero l low held = absurd (omega (arith, low))
rests_in {V} {S} m c good (suc fuel) l low held = by (silent_next m c l) refl (λ k less there. rests_in m c good fuel k less there)
  where
    by : (o : Option (Life V S)) → silent_next m c l ≡ o → ((k : Life V S) → left_of c k < fuel → IsHeld m c k → (n : Life V S) × (RunsOn m c k n × IsHeld m c n)) → (k : Life V S) × (RunsOn m c l k × IsHeld m c k)
    by None is rec = (l, (rests l is, held))
    by (Some k) is rec =
        let less = falls m c l k good is in
        let there = rec k (omega (arith, less, low)) (held_step m c l k held is) in
        (there.0, (runs l k there.0 is there.1.0, there.1.1))

pub comes_to_rest : {V S : Type 0} (m : Meaning V S) (c : Code) → GoodForm c → (l : Life V S) → IsHeld m c l → Rests m c l
comes_to_rest m c good l held =
    let there = rests_in m c good (suc (left_of c l)) l (omega arith) held in
    record { next = there.0; runs = there.1.0; guest = guest_at_rest m c l there.0 there.1.1 there.1.0 }

-- Beginnings and joins.

held_begun : {V S : Type 0} (m : Meaning V S) (c : Code) (f at : ℕ) (s : S) → IsTrue (m.has_frame c f s) → IsHeld m c (begun m c f at s)
held_begun m c f at s frame = record { top = record { frame = frame; temps = all_temps m c f [] (omega arith) }; callers = tt; entering = tt }

held_joined : {V S : Type 0} (m : Meaning V S) (c : Code) (l : Life V S) → IsHeld m c l → IsHeld m c (joined c l)
held_joined {V} {S} m c l held = by (instr_of c l.top)
  where
    by : (i : Instr) → IsHeld m c (joined_at l i)
    by (Instr.Fork join entries) = record { top = record { frame = held.top.frame; temps = held.top.temps }; callers = held.callers; entering = tt }
    by i = held

-- Whether a branch lives.

branch_within : {V S : Type 0} (f : Lives V S) (n : ℕ) (k : ℕ) → k ≤ 15 → ((i : ℕ) × (1 ≤ i) × (i ≤ k) × ((l : Life V S) × (f (16 * n + i) ≡ Some l))) ⊎ (((i : ℕ) → 1 ≤ i → i ≤ k → f (16 * n + i) ≡ None))
branch_within f n zero high = inr (λ i low up. absurd (omega (arith, low, up)))
branch_within {V} {S} f n (suc k) high = by (f (16 * n + suc k)) refl (branch_within f n k (omega (arith, high)))
  where
    by : (o : Option (Life V S)) → f (16 * n + suc k) ≡ o → ((i : ℕ) × (1 ≤ i) × (i ≤ k) × ((l : Life V S) × (f (16 * n + i) ≡ Some l))) ⊎ (((i : ℕ) → 1 ≤ i → i ≤ k → f (16 * n + i) ≡ None))
        → ((i : ℕ) × (1 ≤ i) × (i ≤ suc k) × ((l : Life V S) × (f (16 * n + i) ≡ Some l))) ⊎ (((i : ℕ) → 1 ≤ i → i ≤ suc k → f (16 * n + i) ≡ None))
    by (Some l) is rest = inl (suc k, omega arith, omega arith, (l, is))
    by None is (inl there) = inl (there.0, there.1, (let up = there.2 in omega (arith, up)), there.3)
    by None is (inr none) = inr (λ i low up. ⊎_elim
        (λ (same : i ≡ suc k). ap (λ j. f (16 * n + j)) same ∙ is)
        (λ (other : i ≡ suc k → ⊥). none i low (omega (arith, up, other)))
        (cases_eq i (suc k)))

pub branch_or_none : {V S : Type 0} (f : Lives V S) (n : ℕ) → HasBranch f n ⊎ (HasBranch f n → ⊥)
branch_or_none {V} {S} f n = ⊎_elim
    (λ (there : (i : ℕ) × (1 ≤ i) × (i ≤ 15) × ((l : Life V S) × (f (16 * n + i) ≡ Some l))). inl there)
    (λ (none : (i : ℕ) → 1 ≤ i → i ≤ 15 → f (16 * n + i) ≡ None). inr (λ (b : HasBranch f n). (let e : None ≡ Some b.3.0 = sym (none b.0 b.1 b.2) ∙ b.3.1 in cc)))
    (branch_within f n 15 (omega arith))

-- Settling.

pub record SettlesTo {V S : Type 0} (m : Meaning V S) (c : Code) (n : ℕ) (f : Lives V S) (d : Option V) : Type 0 where
  pub lives : Lives V S
  pub value : Option V
  pub settles : Settles m c n f d lives value
  pub tree : IsTree m c lives

joins_on : {V S : Type 0} (m : Meaning V S) (c : Code) → GoodForm c → (p : ℕ) (g : Lives V S) → IsWaiting m c (g p) → (h : Lives V S) × IsJoined m c g p h
joins_on m c good p g waits =
    let rest = comes_to_rest m c good (joined c waits.0) (held_joined m c waits.0 waits.3.held) in
    (changed g p (Some rest.next), record { life = waits.0; lived = waits.1; next = rest.next; runs = rest.runs; guest = rest.guest; changes = λ k. refl })

settles_in : {V S : Type 0} (m : Meaning V S) (c : Code) → GoodForm c → (fuel n : ℕ) (f : Lives V S) (d : Option V) → n < fuel → IsSettling m c n f → SettlesTo m c n f d
settles_in m c good zero n f d small all = absurd (omega (arith, small))
settles_in {V} {S} m c good (suc fuel) n f d small all = by (ended_of m c (f n)) refl (λ k g less there. settles_in m c good fuel k g d less there)
  where
    by : (o : Option (Option V)) → ended_of m c (f n) ≡ o → ((k : ℕ) (g : Lives V S) → k < fuel → IsSettling m c k g → SettlesTo m c k g d) → SettlesTo m c n f d
    by None is rec = record {
      lives = f;
      value = d;
      settles = goes_on n f d is;
      tree = record { threads = all.threads; going = λ k. ⊎_elim (λ (same : k ≡ n). ap (λ j. ended_of m c (f j)) same ∙ is) (λ (other : k ≡ n → ⊥). all.going k other) (cases_eq k n) };
    }
    by (Some v) ends rec = ⊎_elim (λ (one : n ≡ 1). main one) (λ (other : n ≡ 1 → ⊥). branch other (branch_or_none g (n / 16))) (cases_eq n 1)
      where
        g : Lives V S
        g = changed f n None

        tree : IsTree m c g
        tree = removed_tree m c n f g v all ends (λ k. refl)

        main : n ≡ 1 → SettlesTo m c n f d
        main one = record {
          lives = g;
          value = Some (main_value m v);
          settles = subst (λ k. Settles m c k f d (changed f n None) (Some (main_value m v))) (sym one)
              (main_ends f (changed f n None) d v (subst (λ k. ended_of m c (f k) ≡ Some v) one ends) (λ k. ap (λ j. changed f j None k) one));
          tree = tree;
        }

        branch : (n ≡ 1 → ⊥) → HasBranch g (n / 16) ⊎ (HasBranch g (n / 16) → ⊥) → SettlesTo m c n f d
        branch other (inl some) = record { lives = g; value = d; settles = others_live n f g d v other ends (λ k. refl) some; tree = tree }
        branch other (inr none) =
            let waits = parent_waits m c n f g v all other ends (λ k. refl) in
            let j = joins_on m c good (n / 16) g waits in
            let up = n_up other in
            let rest = rec (n / 16) j.0 (omega (arith, up, small)) (joined_settling m c (n / 16) g j.0 tree j.1 none) in
            record {
              lives = rest.lives;
              value = rest.value;
              tree = rest.tree;
              settles = joins n f g j.0 rest.lives d v rest.value j.1.life j.1.next other ends (λ k. refl) none j.1.lived j.1.runs j.1.changes rest.settles;
            }
          where
            n_up : (n ≡ 1 → ⊥) → n / 16 < n
            n_up other = by_life (f n) refl ends
              where
                by_life : (o : Option (Life V S)) → f n ≡ o → ended_of m c o ≡ Some v → n / 16 < n
                by_life None is e = cc
                by_life (Some l) is e = (let h = (all.threads.parents n l is other).0 in omega (arith, h))

pub settles_to : {V S : Type 0} (m : Meaning V S) (c : Code) → GoodForm c → (n : ℕ) (f : Lives V S) (d : Option V) → IsSettling m c n f → SettlesTo m c n f d
settles_to m c good n f d all = settles_in m c good (suc n) n f d (omega arith) all

-- An answer.

pub record FeedsTo {V S : Type 0} (m : Meaning V S) (c : Code) (f : Lives V S) (d : Option V) (n : ℕ) (reply : ReplyOf V S) : Type 0 where
  pub lives : Lives V S
  pub value : Option V
  pub fed : IsFed m c f d n reply lives value
  pub tree : IsTree m c lives

pub feeds_to : {V S : Type 0} (m : Meaning V S) (c : Code) → GoodForm c → (f : Lives V S) (d : Option V) (n : ℕ) (reply : ReplyOf V S) → IsTree m c f → Takes m c f n reply → FeedsTo m c f d n reply
feeds_to m c good f d n reply tree kind =
    let t = taking m c f n reply kind in
    let rest = comes_to_rest m c good (answered m c t.0 reply) (held_answered m c good t.0 reply t.3 (tree.threads.guests n t.0 t.1).held) in
    let step : IsStepped m c f n reply (changed f n (Some rest.next)) = record { life = t.0; lived = t.1; next = rest.next; runs = rest.runs; guest = rest.guest; changes = λ k. refl } in
    let on = settles_to m c good n (changed f n (Some rest.next)) d (stepped_settling m c n reply f (changed f n (Some rest.next)) tree kind step) in
    record {
      lives = on.lives;
      value = on.value;
      tree = on.tree;
      fed = record { life = t.0; lived = t.1; next = rest.next; runs = rest.runs; lives = changed f n (Some rest.next); changes = λ k. refl; settles = on.settles };
    }

-- A fork.

branches_for : {V S : Type 0} (m : Meaning V S) (c : Code) → GoodForm c → (l : Life V S) (i : ℕ) (stacks : List S) → ((k : ℕ) (s : S) → slice_get stacks k ≡ Some s → IsTrue (m.has_frame c l.top.fun s))
    → (branches : List (Life V S)) × ((length branches ≡ length stacks)
    × (((k : ℕ) (s : S) (b : Life V S) → slice_get stacks k ≡ Some s → slice_get branches k ≡ Some b → RunsOn m c (branch_of m c l (i + k + 1) s) b)
    × ((k : ℕ) (b : Life V S) → slice_get branches k ≡ Some b → IsGuestOf m c b)))
branches_for m c good l i [] framed = ([], (refl, (λ k s b e g. cc, λ k b e. cc)))
branches_for {V} {S} m c good l i (s ∷ stacks) framed =
    let rest = branches_for m c good l (suc i) stacks (λ k t e. framed (suc k) t e) in
    let b = comes_to_rest m c good (branch_of m c l (i + 0 + 1) s) (held_begun m c l.top.fun (entry_of (instr_of c l.top) (i + 0 + 1)) s (framed 0 s refl)) in
    (b.next ∷ rest.0, (ap suc rest.1.0, (each b rest.0 rest.1.1.0, guests b rest.0 rest.1.1.1)))
  where
    each : (b : Rests m c (branch_of m c l (i + 0 + 1) s)) (more : List (Life V S)) → ((k : ℕ) (t : S) (x : Life V S) → slice_get stacks k ≡ Some t → slice_get more k ≡ Some x → RunsOn m c (branch_of m c l (suc i + k + 1) t) x)
        → (k : ℕ) (t : S) (x : Life V S) → slice_get (s ∷ stacks) k ≡ Some t → slice_get (b.next ∷ more) k ≡ Some x → RunsOn m c (branch_of m c l (i + k + 1) t) x
    each b more rest zero t x e g =
        let st : s ≡ t = cc in
        let bx : b.next ≡ x = cc in
        subst (λ z. RunsOn m c (branch_of m c l (i + 0 + 1) z) x) st (subst (λ z. RunsOn m c (branch_of m c l (i + 0 + 1) s) z) bx b.runs)
    each b more rest (suc k) t x e g =
        let at : suc i + k + 1 ≡ i + suc k + 1 = omega arith in
        subst (λ z. RunsOn m c (branch_of m c l z t) x) at (rest k t x e g)

    guests : (b : Rests m c (branch_of m c l (i + 0 + 1) s)) (more : List (Life V S)) → ((k : ℕ) (x : Life V S) → slice_get more k ≡ Some x → IsGuestOf m c x) → (k : ℕ) (x : Life V S) → slice_get (b.next ∷ more) k ≡ Some x → IsGuestOf m c x
    guests b more rest zero x g = (let bx : b.next ≡ x = cc in subst (λ z. IsGuestOf m c z) bx b.guest)
    guests b more rest (suc k) x g = rest k x g

plantable : {V S : Type 0} (m : Meaning V S) (c : Code) → GoodForm c → (f : Lives V S) (n : ℕ) (stacks : List S) (l : Life V S) → f n ≡ Some l → TakesStacks m c f n stacks → (branches : List (Life V S)) × ArePlantable m c (f n) stacks branches
plantable m c good f n stacks l lives takes =
    let b = branches_for m c good l 0 stacks (λ k s e. takes.framed l k s lives e) in (
      b.0,
      record {
        life = l;
        lived = lives;
        begin = record { count = b.1.0; each = λ i s x e g. (let at : 0 + i + 1 ≡ i + 1 = omega arith in subst (λ z. RunsOn m c (branch_of m c l z s) x) at (b.1.1.0 i s x e g)) };
        guests = b.1.1.1;
      },
    )

pub record ForksTo {V S : Type 0} (m : Meaning V S) (c : Code) (f : Lives V S) (d : Option V) (n : ℕ) (stacks : List S) : Type 0 where
  pub lives : Lives V S
  pub value : Option V
  pub forked : IsForked m c f d n stacks lives value
  pub tree : IsTree m c lives

resumes_to : {V S : Type 0} (m : Meaning V S) (c : Code) → GoodForm c → (n : ℕ) (f : Lives V S) (d : Option V) → IsTree m c f → IsWaiting m c (f n) → (last : Lives V S) × ((e : Option V) × (Resumes m c n f d last e × IsTree m c last))
resumes_to {V} {S} m c good n f d tree waits = by (branch_or_none f n)
  where
    by : HasBranch f n ⊎ (HasBranch f n → ⊥) → (last : Lives V S) × ((e : Option V) × (Resumes m c n f d last e × IsTree m c last))
    by (inl some) = (f, (d, (some_live n f d some, tree)))
    by (inr none) =
        let j = joins_on m c good n f waits in
        let on = settles_to m c good n j.0 d (joined_settling m c n f j.0 tree j.1 none) in
        (on.lives, (on.value, (none_lives n f j.0 on.lives d on.value j.1.life j.1.next none j.1.lived j.1.runs j.1.changes on.settles, on.tree)))

pub runs_of : {V S : Type 0} (m : Meaning V S) (c : Code) (f : Lives V S) (n : ℕ) (stacks : List S) → TakesStacks m c f n stacks → (l : Life V S) × ((f n ≡ Some l) × (is_waiting l.stage ≡ false))
runs_of {V} {S} m c f n stacks takes = by (running (f n)) refl takes.wants
  where
    by : (o : Option (Life V S)) → running (f n) ≡ o → Rattle.tac_thread.specs.Threads.want_of_life m c o ≡ Some (Want.Fork (length stacks)) → (l : Life V S) × ((f n ≡ Some l) × (is_waiting l.stage ≡ false))
    by None is e = cc
    by (Some l) is e = (l, Rattle.tac_thread.proofs.Trees.running_is (f n) l is)

pub forks_to : {V S : Type 0} (m : Meaning V S) (c : Code) → GoodForm c → (f : Lives V S) (d : Option V) (n : ℕ) (stacks : List S) → IsTree m c f → TakesStacks m c f n stacks → ForksTo m c f d n stacks
forks_to m c good f d n stacks tree takes =
    let r = runs_of m c f n stacks takes in
    let p = plantable m c good f n stacks r.0 r.1.0 takes in
    let free = free_for m c f n stacks p.0 good tree takes p.1 in
    let g = changed (planted m c f n 1 p.0) n (Some (at_fork r.0)) in
    let here : IsForking m c f n r.0 p.0 g = record { tree = tree; lived = r.1.0; alone = free.free; few = free.few; runs_now = r.1.1; guests = free.guests; changes = λ k. refl } in
    let on = resumes_to m c good n g d (forked_tree m c f n r.0 p.0 g here) (forking_waits m c f n r.0 p.0 g here) in
    record {
      lives = on.0;
      value = on.1.0;
      tree = on.1.1.1;
      forked = record { life = r.0; lived = r.1.0; branches = p.0; begin = begin_of p.1.life p.1.lived p.1.begin; lives = g; changes = λ k. refl; resumes = on.1.1.0 };
    }
  where
    begin_of : (k : Life _ _) → f n ≡ Some k → AreBranches m c k stacks (plantable m c good f n stacks (runs_of m c f n stacks takes).0 (runs_of m c f n stacks takes).1.0 takes).0
        → AreBranches m c (runs_of m c f n stacks takes).0 stacks (plantable m c good f n stacks (runs_of m c f n stacks takes).0 (runs_of m c f n stacks takes).1.0 takes).0
    begin_of k is b = (let e : Some k ≡ Some (runs_of m c f n stacks takes).0 = sym is ∙ (runs_of m c f n stacks takes).1.0 in let same : k ≡ (runs_of m c f n stacks takes).0 = cc in
        subst (λ z. AreBranches m c z stacks (plantable m c good f n stacks (runs_of m c f n stacks takes).0 (runs_of m c f n stacks takes).1.0 takes).0) same b)

-- The beginning.

pub record BeginsAs {V S : Type 0} (m : Meaning V S) (c : Code) (s : S) : Type 0 where
  pub lives : Lives V S
  pub value : Option V
  pub begun : IsBegun m c s lives value
  pub tree : IsTree m c lives

pub begins_as : {V S : Type 0} (m : Meaning V S) (c : Code) → GoodForm c → (s : S) → IsTrue (m.has_frame c c.main s) → BeginsAs m c s
begins_as {V} {S} m c good s frame =
    let rest = comes_to_rest m c good (root_of m c s) (held_begun m c c.main 0 s frame) in
    let on = settles_to m c good 1 (changed nobody 1 (Some rest.next)) None (alone rest) in
    record { lives = on.lives; value = on.value; tree = on.tree; begun = record { root = rest.next; runs = rest.runs; lives = changed nobody 1 (Some rest.next); changes = λ k. refl; settles = on.settles } }
  where
    is_root : (rest : Rests m c (root_of m c s)) (k : ℕ) (l : Life V S) → changed nobody 1 (Some rest.next) k ≡ Some l → (k ≡ 1) × (rest.next ≡ l)
    is_root rest k l e = ⊎_elim
        (λ (same : k ≡ 1). (let both : Some rest.next ≡ Some l = sym (changed_here nobody 1 (Some rest.next)) ∙ ap (changed nobody 1 (Some rest.next)) (sym same) ∙ e in let is : rest.next ≡ l = cc in (same, is)))
        (λ (other : k ≡ 1 → ⊥). (let none : None ≡ Some l = sym (changed_other nobody 1 (Some rest.next) k other) ∙ e in absurd (cc)))
        (cases_eq k 1)

    alone : (rest : Rests m c (root_of m c s)) → IsSettling m c 1 (changed nobody 1 (Some rest.next))
    alone rest = record {
      threads = record {
        guests = λ k l e. subst (λ z. IsGuestOf m c z) (is_root rest k l e).1 rest.guest;
        parents = λ k l e other. absurd (other (is_root rest k l e).0);
      };
      going = λ k other. ap (ended_of m c) (changed_other nobody 1 (Some rest.next) k other);
    }
