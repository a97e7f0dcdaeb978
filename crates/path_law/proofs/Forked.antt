-- A tree whose thread forks is in place.
use Rattle.std.proofs.Common.{◌≡◌, ℕ, ◌+◌, ◌*◌, ◌/◌, ◌%◌, ◌≤◌, List, [], ◌∷◌, Bool, true, false, refl, Option, Some, None, arith, sym, ◌∙◌, ap, subst, ⊎_elim}
use Rattle.std.proofs.lemmas.Bool.{cases_eq}
use Rattle.dfi_base.specs.Lives.{own, Begins, branches_after, Ended}
use Rattle.dfi_base.specs.Lives.EndedIn.{ended}
use Rattle.tac_ir.specs.declared.code.Code.{Code}
use Rattle.tac_ir.specs.declared.run.Entry.{Entry}
use Rattle.tac_ir.specs.Module.{Module}
use Rattle.tac_ir.specs.Path.{Start}
use Rattle.tac_ir.specs.Threads.{root_start, forked_by, threads_of, IsForked}
use Rattle.tac_thread.specs.declared.want.Want.{Want}
use Rattle.tac_thread.specs.Doing.{want_of}
use Rattle.tac_thread.specs.Threads.{is_waiting, HasBranch, HasParent, ended_of, at_fork, Resumes}
use Rattle.tac_thread.specs.Threads.Resumes.{some_live, none_lives}
use Rattle.tac_thread.specs.Flat.{flat_meaning}
use Rattle.path_law.specs.Standing.{FlatLife, IsAt}
use Rattle.path_law.specs.Begins.{IsBranchAt}
use Rattle.path_law.specs.InPlace.{FlatLives, started, IsInPlace, BranchesAre, AreThreads, Waits, AreSettled, IsDone, AreInPlace}
use Rattle.path_law.proofs.Wants.{ends}
use Rattle.path_law.proofs.Histories.{Starts, is_started, not_started, not_itself, own_started, own_mine, own_other, begins_same, begun_same, begins_branch, ended_same}
use Rattle.path_law.proofs.Placed.{AreLiving, alive_not_ended, no_zero}
use Rattle.path_law.proofs.Main.{main_lives, main_other, main_more, resumed_main}
use Rattle.path_law.proofs.Settled.{has_ended, HasPlace, went_on, settled}
use Rattle.path_law.proofs.Planted.{kept_by, kept, Which, which}
use Rattle.path_law.proofs.Planted.Which.{itself, branch, other}

-- branch j of a fork, where it has come to
pub record IsSprout (m : Module) (h : List Entry) (s : Start) (n j : ℕ) (g : FlatLives) : Type 0 where
  pub life : FlatLife
  pub stands : IsBranchAt m.code s (own (threads_of m) n h) j life
  pub awake : is_waiting life.stage ≡ false
  pub lives : g (16 * n + j) ≡ kept m.code life None

-- a thread forked by an entry, and its branches live
pub record HasForked (m : Module) (h : List Entry) (f : FlatLives) (e : Entry) (n count : ℕ) (life : FlatLife) (g : FlatLives) : Type 0 where
  pub name : e.name.0 ≡ n
  pub forks : forked_by e.op e.answer ≡ count
  pub few : count ≤ 15
  pub lived : f n ≡ Some life
  pub awake : is_waiting life.stage ≡ false
  pub start : Start
  pub begins : Begins (threads_of m) h n start
  pub stands : IsAt m.code start (e ∷ own (threads_of m) n h) (at_fork life)
  pub here : g n ≡ Some (at_fork life)
  pub sprouts : (j : ℕ) → 1 ≤ j → j ≤ count → IsSprout m h start n j g
  pub others : (k : ℕ) → (k ≡ n → ⊥) → ((j : ℕ) → 1 ≤ j → j ≤ count → k ≡ 16 * n + j → ⊥) → g k ≡ f k
  -- it had no branches before
  pub alone : HasBranch f n → ⊥

-- Who is started.

abbrev Apart : ℕ → ℕ → ℕ → Type 0
Apart n count k = (j : ℕ) → 1 ≤ j → j ≤ count → k ≡ 16 * n + j → ⊥

starts_branch : (m : Module) (h : List Entry) (f g : FlatLives) (e : Entry) (n count : ℕ) (life : FlatLife) → HasForked m h f e n count life g → (k j : ℕ) → 1 ≤ j → j ≤ count → k ≡ 16 * n + j → Starts m k e ≡ true
starts_branch m h f g e n count life fork k j low high same = is_started m k e (record {
  parent = omega (arith, fork.name, same, high, fork.few);
  from = omega (arith, same, low, high, fork.few);
  to = omega (arith, same, high, fork.few, fork.forks);
})

starts_other : (m : Module) (h : List Entry) (f g : FlatLives) (e : Entry) (n count : ℕ) (life : FlatLife) → HasForked m h f e n count life g → (k : ℕ) → Apart n count k → Starts m k e ≡ false
starts_other m h f g e n count life fork k apart = not_started m k e (λ s. apart (k % 16) (omega (arith, s.from)) (omega (arith, s.to, fork.forks)) (omega (arith, s.parent, fork.name)))

-- names about names of branches
branch_apart : (n count k i : ℕ) → count ≤ 15 → (k ≡ n → ⊥) → i ≤ 15 → Apart n count (16 * k + i)
branch_apart n count k i few apart high j low within same = apart (omega (arith, same, high, within, few))

-- Where the threads stand.

kept_life : (c : Code) (b l : FlatLife) → kept c b None ≡ Some l → b ≡ l
kept_life c b l e = by (ended_of flat_meaning c (Some b)) e
  where
    by : (o : Option (Option ℕ)) → kept_by o b None ≡ Some l → b ≡ l
    by None e = cc
    by (Some v) e = cc

place_of : (m : Module) (h : List Entry) (f g : FlatLives) (e : Entry) (n count : ℕ) (life : FlatLife) → AreThreads m h f → HasForked m h f e n count life g
    → (k : ℕ) (l : FlatLife) → g k ≡ Some l → Which n count k → IsInPlace m (e ∷ h) k l
place_of m h f g e n count life threads fork k l there (itself same) =
    let found : Some (at_fork life) ≡ Some l = sym fork.here ∙ ap g (sym same) ∙ there in
    let both : at_fork life ≡ l = cc in
    let name : e.name.0 ≡ k = fork.name ∙ sym same in
    subst (IsInPlace m (e ∷ h) k) both (record {
      start = fork.start;
      begins = begins_same m e h k fork.start (not_itself m k e name) (subst (λ i. Begins (threads_of m) h i fork.start) (sym same) fork.begins);
      stands = subst (λ o. IsAt m.code fork.start o (at_fork life)) (sym (own_mine m e h k name ∙ ap (λ i. e ∷ own (threads_of m) i h) same)) fork.stands;
    })
place_of m h f g e n count life threads fork k l there (branch j low high same) =
    let sprout = fork.sprouts j low high in
    let started_here = starts_branch m h f g e n count life fork k j low high same in
    let found : kept m.code sprout.life None ≡ Some l = sym sprout.lives ∙ ap g (sym same) ∙ there in
    let both = kept_life m.code sprout.life l found in
    let parent : k / 16 ≡ n = omega (arith, same, high, fork.few) in
    let index : k % 16 ≡ j = omega (arith, same, high, fork.few) in
    subst (IsInPlace m (e ∷ h) k) both (record {
      start = sprout.stands.start;
      begins = begins_branch m e h k sprout.stands.start fork.start started_here
          (subst (λ i. Begins (threads_of m) h i fork.start) (sym parent) fork.begins)
          (subst (λ i. IsForked m.code fork.start (own (threads_of m) (k / 16) h) i sprout.stands.start) (sym index)
          (subst (λ i. IsForked m.code fork.start (own (threads_of m) i h) j sprout.stands.start) (sym parent) sprout.stands.forked));
      stands = subst (λ o. IsAt m.code sprout.stands.start o sprout.life) (sym (own_started m e h k started_here)) sprout.stands.stands;
    })
place_of m h f g e n count life threads fork k l there (other apart_from apart) =
    let p = threads.lives k l (sym (fork.others k apart_from apart) ∙ there) in
    let none = starts_other m h f g e n count life fork k apart in
    record {
      start = p.start;
      begins = begins_same m e h k p.start none p.begins;
      stands = subst (λ o. IsAt m.code p.start o l) (sym (own_other m e h k none (λ same. apart_from (sym same ∙ fork.name)))) p.stands;
    }

-- how many branches the newest entry of each started
started_here : (m : Module) (h : List Entry) (f g : FlatLives) (e : Entry) (n count : ℕ) (life : FlatLife) → HasForked m h f e n count life g → started m (e ∷ h) n ≡ count
started_here m h f g e n count life fork = ap (λ o. branches_after (threads_of m) o) (own_mine m e h n fork.name) ∙ fork.forks

started_branch : (m : Module) (h : List Entry) (f g : FlatLives) (e : Entry) (n count : ℕ) (life : FlatLife) → HasForked m h f e n count life g
    → (k j : ℕ) → 1 ≤ j → j ≤ count → k ≡ 16 * n + j → started m (e ∷ h) k ≡ 0
started_branch m h f g e n count life fork k j low high same =
    ap (λ o. branches_after (threads_of m) o) (own_started m e h k (starts_branch m h f g e n count life fork k j low high same))

started_other : (m : Module) (h : List Entry) (f g : FlatLives) (e : Entry) (n count : ℕ) (life : FlatLife) → HasForked m h f e n count life g
    → (k : ℕ) → (k ≡ n → ⊥) → Apart n count k → started m (e ∷ h) k ≡ started m h k
started_other m h f g e n count life fork k apart_from apart =
    ap (λ o. branches_after (threads_of m) o) (own_other m e h k (starts_other m h f g e n count life fork k apart) (λ same. apart_from (sym same ∙ fork.name)))

-- Who has ended.

-- a branch that came to its end at once
ended_branch : (m : Module) (h : List Entry) (e : Entry) (k : ℕ) (b : FlatLife) (s : Start) → Begins (threads_of m) (e ∷ h) k s → own (threads_of m) k (e ∷ h) ≡ [] → IsAt m.code s [] b
    → kept m.code b None ≡ None → Ended (threads_of m) (e ∷ h) k
ended_branch m h e k b s begins none stands gone = by (ended_of flat_meaning m.code (Some b)) refl gone
  where
    now : IsAt m.code s (own (threads_of m) k (e ∷ h)) b
    now = subst (λ o. IsAt m.code s o b) (sym none) stands

    by : (o : Option (Option ℕ)) → ended_of flat_meaning m.code (Some b) ≡ o → kept_by o b None ≡ None → Ended (threads_of m) (e ∷ h) k
    by None is gone = cc
    by (Some v) is gone =
        let over = has_ended m (λ i. Some b) k v is in
        let both : Some over.life ≡ Some b = sym over.lived in
        let same : over.life ≡ b = cc in
        let want = subst (λ z. want_of flat_meaning m.code z ≡ Some (Want.Ended v)) same over.want in
        let last = ends m.code s (own (threads_of m) k (e ∷ h)) b v now want in
        ended k s begins (v, last)
        (λ i low high. absurd (let nobody : branches_after (threads_of m) (own (threads_of m) k (e ∷ h)) ≡ 0 = ap (λ o. branches_after (threads_of m) o) none in omega (arith, low, high, nobody)))

gone_of : (m : Module) (h : List Entry) (f g : FlatLives) (e : Entry) (n count : ℕ) (life : FlatLife) → AreThreads m h f → (Ended (threads_of m) h n → ⊥) → HasForked m h f e n count life g
    → (k : ℕ) (s : Start) → g k ≡ None → Begins (threads_of m) (e ∷ h) k s → Which n count k → Ended (threads_of m) (e ∷ h) k
gone_of m h f g e n count life threads lived fork k s away begins (itself same) = let clash : None ≡ Some (at_fork life) = sym away ∙ ap g same ∙ fork.here in cc
gone_of m h f g e n count life threads lived fork k s away begins (branch j low high same) =
    let sprout = fork.sprouts j low high in
    let start = starts_branch m h f g e n count life fork k j low high same in
    let parent : k / 16 ≡ n = omega (arith, same, high, fork.few) in
    let index : k % 16 ≡ j = omega (arith, same, high, fork.few) in
    ended_branch m h e k sprout.life sprout.stands.start
    (begins_branch m e h k sprout.stands.start fork.start start (subst (λ i. Begins (threads_of m) h i fork.start) (sym parent) fork.begins)
    (subst (λ i. IsForked m.code fork.start (own (threads_of m) (k / 16) h) i sprout.stands.start) (sym index)
    (subst (λ i. IsForked m.code fork.start (own (threads_of m) i h) j sprout.stands.start) (sym parent) sprout.stands.forked)))
    (own_started m e h k start) sprout.stands.stands (sym sprout.lives ∙ ap g (sym same) ∙ away)
gone_of m h f g e n count life threads lived fork k s away begins (other apart_from apart) =
    let none = starts_other m h f g e n count life fork k apart in
    ended_same m e h (λ over. lived (subst (Ended (threads_of m) h) fork.name over)) threads.few k none
    (threads.gone k s (sym (fork.others k apart_from apart) ∙ away) (begun_same m e h k s none begins))

-- Branches and parents.

branches_of : (m : Module) (h : List Entry) (f g : FlatLives) (e : Entry) (n count : ℕ) (life : FlatLife) → AreThreads m h f → (Ended (threads_of m) h n → ⊥) → HasForked m h f e n count life g
    → (k : ℕ) (l : FlatLife) → g k ≡ Some l → Which n count k → BranchesAre m (e ∷ h) k (is_waiting l.stage)
branches_of m h f g e n count life threads lived fork k l there (itself same) =
    let found : Some (at_fork life) ≡ Some l = sym fork.here ∙ ap g (sym same) ∙ there in
    let both : at_fork life ≡ l = cc in
    subst (λ (z : FlatLife). BranchesAre m (e ∷ h) k (is_waiting z.stage)) both (λ i low high.
    (let within : i ≤ count = omega (arith, high, ap (started m (e ∷ h)) same, started_here m h f g e n count life fork) in
    let sprout = fork.sprouts i low within in
    let at : 16 * k + i ≡ 16 * n + i = omega (arith, same) in
    let parent : (16 * k + i) / 16 ≡ n = omega (arith, same, within, fork.few) in
    let index : (16 * k + i) % 16 ≡ i = omega (arith, same, within, fork.few) in (
      sprout.stands.start,
      begins_branch m e h (16 * k + i) sprout.stands.start fork.start (starts_branch m h f g e n count life fork (16 * k + i) i low within at)
          (subst (λ q. Begins (threads_of m) h q fork.start) (sym parent) fork.begins)
          (subst (λ q. IsForked m.code fork.start (own (threads_of m) ((16 * k + i) / 16) h) q sprout.stands.start) (sym index)
          (subst (λ q. IsForked m.code fork.start (own (threads_of m) q h) i sprout.stands.start) (sym parent) sprout.stands.forked)),
    )))
branches_of m h f g e n count life threads lived fork k l there (branch j low high same) = by (is_waiting l.stage)
  where
    none : started m (e ∷ h) k ≡ 0
    none = started_branch m h f g e n count life fork k j low high same

    by : (b : Bool) → BranchesAre m (e ∷ h) k b
    by true = λ i from to. absurd (omega (arith, from, to, none))
    by false = λ i from to. absurd (omega (arith, from, to, none))
branches_of m h f g e n count life threads lived fork k l there (other apart_from apart) =
    by (is_waiting l.stage) (threads.branches k l (sym (fork.others k apart_from apart) ∙ there))
  where
    same_count : started m (e ∷ h) k ≡ started m h k
    same_count = started_other m h f g e n count life fork k apart_from apart

    by : (b : Bool) → BranchesAre m h k b → BranchesAre m (e ∷ h) k b
    by true are = λ i low high.
        (let begun = are i low (omega (arith, high, same_count)) in (
          begun.0,
          begins_same m e h (16 * k + i) begun.0
              (starts_other m h f g e n count life fork (16 * k + i) (branch_apart n count k i fork.few apart_from (omega (arith, high, same_count, threads.few k)))) begun.1,
        ))
    by false are = λ i low high.
        ended_same m e h (λ over. lived (subst (Ended (threads_of m) h) fork.name over)) threads.few (16 * k + i)
        (starts_other m h f g e n count life fork (16 * k + i) (branch_apart n count k i fork.few apart_from (omega (arith, high, same_count, threads.few k))))
        (are i low (omega (arith, high, same_count)))

parents_of : (m : Module) (h : List Entry) (f g : FlatLives) (e : Entry) (n count : ℕ) (life : FlatLife) → AreThreads m h f → HasForked m h f e n count life g
    → (k : ℕ) (l : FlatLife) → f k ≡ Some l → HasPlace m (e ∷ h) g k l
parents_of m h f g e n count life threads fork k l there one = by (which n count (k / 16) fork.few)
  where
    p : HasParent f k × (k % 16 ≤ started m h (k / 16))
    p = threads.parents k l there one

    by : Which n count (k / 16) → HasParent g k × (k % 16 ≤ started m (e ∷ h) (k / 16))
    by (itself same) =
        let low = p.0.0 in
        let whole : 16 * n + k % 16 ≡ k = omega (arith, same) in
        absurd (fork.alone (k % 16, omega (arith, low), omega arith, (l, ap f whole ∙ there)))
    by (branch j low high same) =
        absurd (fork.alone (j, low, omega (arith, high, fork.few), (p.0.1.0, ap f (sym same) ∙ p.0.1.1)))
    by (other apart_from apart) =
        ((p.0.0, (p.0.1.0, fork.others (k / 16) apart_from apart ∙ p.0.1.1, p.0.1.2)), omega (arith, p.1, started_other m h f g e n count life fork (k / 16) apart_from apart))

parents_by : (m : Module) (h : List Entry) (f g : FlatLives) (e : Entry) (n count : ℕ) (life : FlatLife) → AreThreads m h f → HasForked m h f e n count life g
    → (k : ℕ) (l : FlatLife) → g k ≡ Some l → Which n count k → HasPlace m (e ∷ h) g k l
parents_by m h f g e n count life threads fork k l there (itself same) = parents_of m h f g e n count life threads fork k life (ap f same ∙ fork.lived)
parents_by m h f g e n count life threads fork k l there (branch j low high same) = λ one.
    (let parent : k / 16 ≡ n = omega (arith, same, high, fork.few) in
    let index : k % 16 ≡ j = omega (arith, same, high, fork.few) in
    ((omega (arith, index, low), (at_fork life, ap g parent ∙ fork.here, refl)), omega (arith, index, high, ap (started m (e ∷ h)) parent, started_here m h f g e n count life fork)))
parents_by m h f g e n count life threads fork k l there (other apart_from apart) = parents_of m h f g e n count life threads fork k l (sym (fork.others k apart_from apart) ∙ there)

few_of : (m : Module) (h : List Entry) (f g : FlatLives) (e : Entry) (n count : ℕ) (life : FlatLife) → AreThreads m h f → HasForked m h f e n count life g → (k : ℕ) → Which n count k
    → started m (e ∷ h) k ≤ 15
few_of m h f g e n count life threads fork k (itself same) = omega (arith, ap (started m (e ∷ h)) same, started_here m h f g e n count life fork, fork.few)
few_of m h f g e n count life threads fork k (branch j low high same) = omega (arith, started_branch m h f g e n count life fork k j low high same)
few_of m h f g e n count life threads fork k (other apart_from apart) = omega (arith, started_other m h f g e n count life fork k apart_from apart, threads.few k)

-- all of it
pub forked_threads : (m : Module) (h : List Entry) (f g : FlatLives) (e : Entry) (n count : ℕ) (life : FlatLife) → AreThreads m h f → (Ended (threads_of m) h n → ⊥) → HasForked m h f e n count life g
    → AreThreads m (e ∷ h) g
forked_threads m h f g e n count life threads lived fork =
    let some = no_zero m h f n life threads fork.lived in
    record {
      lives = λ k l there. place_of m h f g e n count life threads fork k l there (which n count k fork.few);
      gone = λ k s away begins. gone_of m h f g e n count life threads lived fork k s away begins (which n count k fork.few);
      root = begins_same m e h 1 (root_start m) (starts_other m h f g e n count life fork 1 (λ j low high same. omega (arith, same, some))) threads.root;
      branches = λ k l there. branches_of m h f g e n count life threads lived fork k l there (which n count k fork.few);
      parents = λ k l there. parents_by m h f g e n count life threads fork k l there (which n count k fork.few);
      few = λ k. few_of m h f g e n count life threads fork k (which n count k fork.few);
    }

-- who waits but the thread itself has a branch that lives
forked_waits : (m : Module) (h : List Entry) (f g : FlatLives) (e : Entry) (n count : ℕ) (life : FlatLife) → AreSettled m h f → HasForked m h f e n count life g
    → (k : ℕ) → (k ≡ n → ⊥) → Waits g k
forked_waits m h f g e n count life place fork k apart_from l there is = by (which n count k fork.few)
  where
    lives_on : (i : ℕ) → 1 ≤ i → i ≤ 15 → (b : FlatLife) → f (16 * k + i) ≡ Some b → Which n count (16 * k + i) → HasBranch g k
    lives_on i low high b lives (itself same) = (i, low, high, (at_fork life, ap g same ∙ fork.here))
    lives_on i low high b lives (branch j from to same) = absurd (apart_from (omega (arith, same, high, to, fork.few)))
    lives_on i low high b lives (other not_it apart) = (i, low, high, (b, fork.others (16 * k + i) not_it apart ∙ lives))

    awake_branch : (j : ℕ) (low : 1 ≤ j) (high : j ≤ count) → k ≡ 16 * n + j → HasBranch g k
    awake_branch j low high same =
        let sprout = fork.sprouts j low high in
        let found : kept m.code sprout.life None ≡ Some l = sym sprout.lives ∙ ap g (sym same) ∙ there in
        let clash : true ≡ false = sym is ∙ ap (λ (z : FlatLife). is_waiting z.stage) (sym (kept_life m.code sprout.life l found)) ∙ sprout.awake in cc

    by : Which n count k → HasBranch g k
    by (itself same) = absurd (apart_from same)
    by (branch j low high same) = awake_branch j low high same
    by (other not_it apart) =
        let old = place.waits k l (sym (fork.others k not_it apart) ∙ there) is in
        lives_on old.0 old.1 old.2 old.3.0 old.3.1 (which n count (16 * k + old.0) fork.few)

-- a thread that waited at its fork goes on where none of its branches lives
resumes_on : (m : Module) (h : List Entry) (n : ℕ) (g last : FlatLives) (d b : Option ℕ) (life : FlatLife) → AreThreads m h g → ((k : ℕ) → (k ≡ n → ⊥) → Waits g k) → g n ≡ Some (at_fork life)
    → Resumes flat_meaning m.code n g d last b → AreSettled m h last
resumes_on m h n g last d b life threads waits here (some_live k f d0 has) = record {
  threads = threads;
  waits = λ k l there is. ⊎_elim (λ (same : k ≡ n). subst (HasBranch g) (sym same) has) (λ (apart : k ≡ n → ⊥). waits k apart l there is) (cases_eq k n);
}
resumes_on m h n g last d b life threads waits here (none_lives k f h2 last0 d0 b0 p q alone there ran changes rest) =
    let found : Some p ≡ Some (at_fork life) = sym there ∙ here in
    let both : p ≡ at_fork life = cc in
    settled m h n h2 last d b rest
    (went_on m h g h2 n q threads waits (record { life = p; lived = there; waits = ap (λ (z : FlatLife). is_waiting z.stage) both; runs = ran; alone = alone }) changes)

-- A thread that forked waits, or goes on.
pub resumed : (m : Module) (h : List Entry) (f g last : FlatLives) (e : Entry) (n count : ℕ) (life : FlatLife) (d b : Option ℕ) → AreLiving m h f → IsDone m h f d → HasForked m h f e n count life g
    → Resumes flat_meaning m.code n g d last b → AreInPlace m (e ∷ h) last b
resumed m h f g last e n count life d b alive main fork on =
    let threads = forked_threads m h f g e n count life alive.place.threads (alive_not_ended m h f alive n life fork.lived) fork in
    let waits = forked_waits m h f g e n count life alive.place fork in
    let some = no_zero m h f n life alive.place.threads fork.lived in
    let no_branch : Apart n count 1 = λ j low high same. omega (arith, same, some) in
    let more = main_more m h e f d life (ap f fork.name ∙ fork.lived) (starts_other m h f g e n count life fork 1 no_branch) main in
    let at_fork_main = ⊎_elim (λ (same : 1 ≡ n). main_lives m (e ∷ h) g d (at_fork life) (ap g same ∙ fork.here) (more.lives life (ap f same ∙ fork.lived)))
    (λ (apart : 1 ≡ n → ⊥). main_other m (e ∷ h) f g d (fork.others 1 apart no_branch) more) (cases_eq 1 n) in
    record {
      settled = resumes_on m (e ∷ h) n g last d b life threads waits fork.here on;
      main = resumed_main m (e ∷ h) n g last d b life threads waits fork.here on at_fork_main;
    }
