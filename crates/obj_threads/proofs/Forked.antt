-- A tree whose thread forks is in place.
use Rattle.std.proofs.Common.{◌≡◌, ℕ, ◌+◌, ◌*◌, ◌/◌, ◌%◌, ◌≤◌, ◌⊎◌, inl, inr, List, [], ◌∷◌, Bool, true, false, refl, Option, Some, None, arith, sym, ◌∙◌, ap, subst, ⊎_elim}
use Rattle.std.proofs.lemmas.Bool.{cases_eq}
use Rattle.tac_thread.specs.declared.want.Want.{Want}
use Rattle.tac_thread.specs.Doing.{want_of}
use Rattle.tac_thread.specs.Threads.{is_waiting, HasBranch, HasParent, ended_of, at_fork, Resumes}
use Rattle.tac_thread.specs.Threads.Resumes.{some_live, none_lives}
use Rattle.obj_threads.proofs.Standing.{stopped}
use Rattle.obj_threads.proofs.Histories.{Starts, is_started, not_started, not_itself, own_started, own_mine, own_other, begins_same, begun_same, begins_branch, ended_same}
use Rattle.obj_threads.proofs.Placed.{AreLiving, alive_not_ended, nobody_zero}
use Rattle.obj_threads.proofs.Settled.{has_ended, HasPlace, went_on, settled}
use Rattle.obj_threads.proofs.Planted.{kept_by, kept, Which, which}
use Rattle.obj_threads.proofs.Planted.Which.{itself, branch, other}
use Rattle.dfi_base.specs.Lives.{own, Begins, branches_after, Ended}
use Rattle.dfi_base.specs.Lives.EndedIn.{ended}
use Rattle.obj_mem.specs.declared.value.Value.{Value}
use Rattle.tac_ir.specs.declared.code.Code.{Code}
use Rattle.tac_thread.specs.Begun.{root_of}
use Rattle.obj_run.specs.Objects.{object_meaning, main_stack}
use Rattle.obj_run.specs.Entries.{Entry}
use Rattle.obj_run.specs.Runs.{ObjLife, ObjLives}
use Rattle.obj_threads.specs.Threads.{starts_of, IsBranch, obj_threads}
use Rattle.obj_threads.specs.InPlace.{started, IsAt, IsInPlace, BranchesAre, AreThreads, Waits, AreSettled, HasStuck}

-- a life that stands where branch i begins
pub record IsBranchAt (c : Code) (s : ObjLife) (own : List Entry) (i : ℕ) (l : ObjLife) : Type 0 where
  pub start : ObjLife
  pub forked : IsBranch c s own i start
  pub stands : IsAt c start [] l

-- branch j of a fork, where it has come to
pub record IsSprout (c : Code) (h : List Entry) (s : ObjLife) (n j : ℕ) (g : ObjLives) : Type 0 where
  pub life : ObjLife
  pub stands : IsBranchAt c s (own (obj_threads c) n h) j life
  pub awake : is_waiting life.stage ≡ false
  pub lives : g (16 * n + j) ≡ kept c life None

-- a thread forked by an entry, and its branches live
pub record HasForked (c : Code) (h : List Entry) (f : ObjLives) (e : Entry) (n count : ℕ) (life : ObjLife) (g : ObjLives) : Type 0 where
  pub name : e.stamp.name.0 ≡ n
  pub forks : starts_of e ≡ count
  pub few : count ≤ 15
  pub lived : f n ≡ Some life
  pub awake : is_waiting life.stage ≡ false
  pub start : ObjLife
  pub begins : Begins (obj_threads c) h n start
  pub stands : IsAt c start (e ∷ own (obj_threads c) n h) (at_fork life)
  pub here : g n ≡ Some (at_fork life)
  pub sprouts : (j : ℕ) → 1 ≤ j → j ≤ count → IsSprout c h start n j g
  pub others : (k : ℕ) → (k ≡ n → ⊥) → ((j : ℕ) → 1 ≤ j → j ≤ count → k ≡ 16 * n + j → ⊥) → g k ≡ f k
  -- it had no branches before
  pub alone : HasBranch f n → ⊥

-- Who is started.

abbrev Apart : ℕ → ℕ → ℕ → Type 0
Apart n count k = (j : ℕ) → 1 ≤ j → j ≤ count → k ≡ 16 * n + j → ⊥

starts_branch : (c : Code) (h : List Entry) (f g : ObjLives) (e : Entry) (n count : ℕ) (life : ObjLife) → HasForked c h f e n count life g → (k j : ℕ) → 1 ≤ j → j ≤ count → k ≡ 16 * n + j → Starts c k e ≡ true
starts_branch c h f g e n count life fork k j low high same = is_started c k e (record {
  parent = omega (arith, fork.name, same, high, fork.few);
  from = omega (arith, same, low, high, fork.few);
  to = omega (arith, same, high, fork.few, fork.forks);
})

starts_other : (c : Code) (h : List Entry) (f g : ObjLives) (e : Entry) (n count : ℕ) (life : ObjLife) → HasForked c h f e n count life g → (k : ℕ) → Apart n count k → Starts c k e ≡ false
starts_other c h f g e n count life fork k apart = not_started c k e (λ s. apart (k % 16) (omega (arith, s.from)) (omega (arith, s.to, fork.forks)) (omega (arith, s.parent, fork.name)))

-- names about names of branches
branch_apart : (n count k i : ℕ) → count ≤ 15 → (k ≡ n → ⊥) → i ≤ 15 → Apart n count (16 * k + i)
branch_apart n count k i few apart high j low within same = apart (omega (arith, same, high, within, few))

-- Where the threads stand.

kept_life : (c : Code) (b l : ObjLife) → kept c b None ≡ Some l → b ≡ l
kept_life c b l e = by (ended_of object_meaning c (Some b)) e
  where
    by : (o : Option (Option Value)) → kept_by o b None ≡ Some l → b ≡ l
    by None e = cc
    by (Some v) e = cc

place_of : (c : Code) (h : List Entry) (f g : ObjLives) (e : Entry) (n count : ℕ) (life : ObjLife) → AreThreads c h f → HasForked c h f e n count life g
    → (k : ℕ) (l : ObjLife) → g k ≡ Some l → Which n count k → IsInPlace c (e ∷ h) k l
place_of c h f g e n count life threads fork k l there (itself same) =
    let found : Some (at_fork life) ≡ Some l = sym fork.here ∙ ap g (sym same) ∙ there in
    let both : at_fork life ≡ l = cc in
    let name : e.stamp.name.0 ≡ k = fork.name ∙ sym same in
    subst (IsInPlace c (e ∷ h) k) both (record {
      start = fork.start;
      begins = begins_same c e h k fork.start (not_itself c k e name) (subst (λ i. Begins (obj_threads c) h i fork.start) (sym same) fork.begins);
      stands = subst (λ o. IsAt c fork.start o (at_fork life)) (sym (own_mine c e h k name ∙ ap (λ i. e ∷ own (obj_threads c) i h) same)) fork.stands;
    })
place_of c h f g e n count life threads fork k l there (branch j low high same) =
    let sprout = fork.sprouts j low high in
    let started_here = starts_branch c h f g e n count life fork k j low high same in
    let found : kept c sprout.life None ≡ Some l = sym sprout.lives ∙ ap g (sym same) ∙ there in
    let both = kept_life c sprout.life l found in
    let parent : k / 16 ≡ n = omega (arith, same, high, fork.few) in
    let index : k % 16 ≡ j = omega (arith, same, high, fork.few) in
    subst (IsInPlace c (e ∷ h) k) both (record {
      start = sprout.stands.start;
      begins = begins_branch c e h k sprout.stands.start fork.start started_here
          (subst (λ i. Begins (obj_threads c) h i fork.start) (sym parent) fork.begins)
          (subst (λ i. IsBranch c fork.start (own (obj_threads c) (k / 16) h) i sprout.stands.start) (sym index)
          (subst (λ i. IsBranch c fork.start (own (obj_threads c) i h) j sprout.stands.start) (sym parent) sprout.stands.forked));
      stands = subst (λ o. IsAt c sprout.stands.start o sprout.life) (sym (own_started c e h k started_here)) sprout.stands.stands;
    })
place_of c h f g e n count life threads fork k l there (other apart_from apart) =
    let p = threads.lives k l (sym (fork.others k apart_from apart) ∙ there) in
    let none = starts_other c h f g e n count life fork k apart in
    record {
      start = p.start;
      begins = begins_same c e h k p.start none p.begins;
      stands = subst (λ o. IsAt c p.start o l) (sym (own_other c e h k none (λ same. apart_from (sym same ∙ fork.name)))) p.stands;
    }

-- how many branches the newest entry of each started
started_here : (c : Code) (h : List Entry) (f g : ObjLives) (e : Entry) (n count : ℕ) (life : ObjLife) → HasForked c h f e n count life g → started c (e ∷ h) n ≡ count
started_here c h f g e n count life fork = ap (λ o. branches_after (obj_threads c) o) (own_mine c e h n fork.name) ∙ fork.forks

started_branch : (c : Code) (h : List Entry) (f g : ObjLives) (e : Entry) (n count : ℕ) (life : ObjLife) → HasForked c h f e n count life g
    → (k j : ℕ) → 1 ≤ j → j ≤ count → k ≡ 16 * n + j → started c (e ∷ h) k ≡ 0
started_branch c h f g e n count life fork k j low high same =
    ap (λ o. branches_after (obj_threads c) o) (own_started c e h k (starts_branch c h f g e n count life fork k j low high same))

started_other : (c : Code) (h : List Entry) (f g : ObjLives) (e : Entry) (n count : ℕ) (life : ObjLife) → HasForked c h f e n count life g
    → (k : ℕ) → (k ≡ n → ⊥) → Apart n count k → started c (e ∷ h) k ≡ started c h k
started_other c h f g e n count life fork k apart_from apart =
    ap (λ o. branches_after (obj_threads c) o) (own_other c e h k (starts_other c h f g e n count life fork k apart) (λ same. apart_from (sym same ∙ fork.name)))

-- Who has ended.

-- a branch that came to its end at once
ended_branch : (c : Code) (h : List Entry) (e : Entry) (k : ℕ) (b : ObjLife) (s : ObjLife) → Begins (obj_threads c) (e ∷ h) k s → own (obj_threads c) k (e ∷ h) ≡ [] → IsAt c s [] b
    → kept c b None ≡ None → Ended (obj_threads c) (e ∷ h) k
ended_branch c h e k b s begins none stands gone = by (ended_of object_meaning c (Some b)) refl gone
  where
    now : IsAt c s (own (obj_threads c) k (e ∷ h)) b
    now = subst (λ o. IsAt c s o b) (sym none) stands

    by : (o : Option (Option Value)) → ended_of object_meaning c (Some b) ≡ o → kept_by o b None ≡ None → Ended (obj_threads c) (e ∷ h) k
    by None is gone = cc
    by (Some v) is gone =
        let over = has_ended c (λ i. Some b) k v is in
        let both : Some over.life ≡ Some b = sym over.lived in
        let same : over.life ≡ b = cc in
        let want = subst (λ z. want_of object_meaning c z ≡ Some (Want.Ended v)) same over.want in
        let last = stopped c s (own (obj_threads c) k (e ∷ h)) b v now is (ap (λ (z : ObjLife). is_waiting z.stage) (sym same) ∙ over.awake) in
        ended k s begins last
        (λ i low high. absurd (let nobody : branches_after (obj_threads c) (own (obj_threads c) k (e ∷ h)) ≡ 0 = ap (λ o. branches_after (obj_threads c) o) none in omega (arith, low, high, nobody)))

gone_of : (c : Code) (h : List Entry) (f g : ObjLives) (e : Entry) (n count : ℕ) (life : ObjLife) → AreThreads c h f → (Ended (obj_threads c) h n → ⊥) → HasForked c h f e n count life g
    → (k : ℕ) (s : ObjLife) → g k ≡ None → Begins (obj_threads c) (e ∷ h) k s → Which n count k → Ended (obj_threads c) (e ∷ h) k
gone_of c h f g e n count life threads lived fork k s away begins (itself same) = let clash : None ≡ Some (at_fork life) = sym away ∙ ap g same ∙ fork.here in cc
gone_of c h f g e n count life threads lived fork k s away begins (branch j low high same) =
    let sprout = fork.sprouts j low high in
    let start = starts_branch c h f g e n count life fork k j low high same in
    let parent : k / 16 ≡ n = omega (arith, same, high, fork.few) in
    let index : k % 16 ≡ j = omega (arith, same, high, fork.few) in
    ended_branch c h e k sprout.life sprout.stands.start
    (begins_branch c e h k sprout.stands.start fork.start start (subst (λ i. Begins (obj_threads c) h i fork.start) (sym parent) fork.begins)
    (subst (λ i. IsBranch c fork.start (own (obj_threads c) (k / 16) h) i sprout.stands.start) (sym index)
    (subst (λ i. IsBranch c fork.start (own (obj_threads c) i h) j sprout.stands.start) (sym parent) sprout.stands.forked)))
    (own_started c e h k start) sprout.stands.stands (sym sprout.lives ∙ ap g (sym same) ∙ away)
gone_of c h f g e n count life threads lived fork k s away begins (other apart_from apart) =
    let none = starts_other c h f g e n count life fork k apart in
    ended_same c e h (λ over. lived (subst (Ended (obj_threads c) h) fork.name over)) threads.few k none
    (threads.gone k s (sym (fork.others k apart_from apart) ∙ away) (begun_same c e h k s none begins))

-- Branches and parents.

branches_of : (c : Code) (h : List Entry) (f g : ObjLives) (e : Entry) (n count : ℕ) (life : ObjLife) → AreThreads c h f → (Ended (obj_threads c) h n → ⊥) → HasForked c h f e n count life g
    → (k : ℕ) (l : ObjLife) → g k ≡ Some l → Which n count k → BranchesAre c (e ∷ h) k (is_waiting l.stage)
branches_of c h f g e n count life threads lived fork k l there (itself same) =
    let found : Some (at_fork life) ≡ Some l = sym fork.here ∙ ap g (sym same) ∙ there in
    let both : at_fork life ≡ l = cc in
    subst (λ (z : ObjLife). BranchesAre c (e ∷ h) k (is_waiting z.stage)) both (λ i low high.
    (let within : i ≤ count = omega (arith, high, ap (started c (e ∷ h)) same, started_here c h f g e n count life fork) in
    let sprout = fork.sprouts i low within in
    let at : 16 * k + i ≡ 16 * n + i = omega (arith, same) in
    let parent : (16 * k + i) / 16 ≡ n = omega (arith, same, within, fork.few) in
    let index : (16 * k + i) % 16 ≡ i = omega (arith, same, within, fork.few) in (
      sprout.stands.start,
      begins_branch c e h (16 * k + i) sprout.stands.start fork.start (starts_branch c h f g e n count life fork (16 * k + i) i low within at)
          (subst (λ q. Begins (obj_threads c) h q fork.start) (sym parent) fork.begins)
          (subst (λ q. IsBranch c fork.start (own (obj_threads c) ((16 * k + i) / 16) h) q sprout.stands.start) (sym index)
          (subst (λ q. IsBranch c fork.start (own (obj_threads c) q h) i sprout.stands.start) (sym parent) sprout.stands.forked)),
    )))
branches_of c h f g e n count life threads lived fork k l there (branch j low high same) = by (is_waiting l.stage)
  where
    none : started c (e ∷ h) k ≡ 0
    none = started_branch c h f g e n count life fork k j low high same

    by : (b : Bool) → BranchesAre c (e ∷ h) k b
    by true = λ i from to. absurd (omega (arith, from, to, none))
    by false = λ i from to. absurd (omega (arith, from, to, none))
branches_of c h f g e n count life threads lived fork k l there (other apart_from apart) =
    by (is_waiting l.stage) (threads.branches k l (sym (fork.others k apart_from apart) ∙ there))
  where
    same_count : started c (e ∷ h) k ≡ started c h k
    same_count = started_other c h f g e n count life fork k apart_from apart

    by : (b : Bool) → BranchesAre c h k b → BranchesAre c (e ∷ h) k b
    by true are = λ i low high.
        (let begun = are i low (omega (arith, high, same_count)) in (
          begun.0,
          begins_same c e h (16 * k + i) begun.0
              (starts_other c h f g e n count life fork (16 * k + i) (branch_apart n count k i fork.few apart_from (omega (arith, high, same_count, threads.few k)))) begun.1,
        ))
    by false are = λ i low high.
        ended_same c e h (λ over. lived (subst (Ended (obj_threads c) h) fork.name over)) threads.few (16 * k + i)
        (starts_other c h f g e n count life fork (16 * k + i) (branch_apart n count k i fork.few apart_from (omega (arith, high, same_count, threads.few k))))
        (are i low (omega (arith, high, same_count)))

parents_of : (c : Code) (h : List Entry) (f g : ObjLives) (e : Entry) (n count : ℕ) (life : ObjLife) → AreThreads c h f → HasForked c h f e n count life g
    → (k : ℕ) (l : ObjLife) → f k ≡ Some l → HasPlace c (e ∷ h) g k l
parents_of c h f g e n count life threads fork k l there one = by (which n count (k / 16) fork.few)
  where
    p : HasParent f k × (k % 16 ≤ started c h (k / 16))
    p = threads.parents k l there one

    by : Which n count (k / 16) → HasParent g k × (k % 16 ≤ started c (e ∷ h) (k / 16))
    by (itself same) =
        let low = p.0.0 in
        let whole : 16 * n + k % 16 ≡ k = omega (arith, same) in
        absurd (fork.alone (k % 16, omega (arith, low), omega arith, (l, ap f whole ∙ there)))
    by (branch j low high same) =
        absurd (fork.alone (j, low, omega (arith, high, fork.few), (p.0.1.0, ap f (sym same) ∙ p.0.1.1)))
    by (other apart_from apart) =
        ((p.0.0, (p.0.1.0, fork.others (k / 16) apart_from apart ∙ p.0.1.1, p.0.1.2)), omega (arith, p.1, started_other c h f g e n count life fork (k / 16) apart_from apart))

parents_by : (c : Code) (h : List Entry) (f g : ObjLives) (e : Entry) (n count : ℕ) (life : ObjLife) → AreThreads c h f → HasForked c h f e n count life g
    → (k : ℕ) (l : ObjLife) → g k ≡ Some l → Which n count k → HasPlace c (e ∷ h) g k l
parents_by c h f g e n count life threads fork k l there (itself same) = parents_of c h f g e n count life threads fork k life (ap f same ∙ fork.lived)
parents_by c h f g e n count life threads fork k l there (branch j low high same) = λ one.
    (let parent : k / 16 ≡ n = omega (arith, same, high, fork.few) in
    let index : k % 16 ≡ j = omega (arith, same, high, fork.few) in
    ((omega (arith, index, low), (at_fork life, ap g parent ∙ fork.here, refl)), omega (arith, index, high, ap (started c (e ∷ h)) parent, started_here c h f g e n count life fork)))
parents_by c h f g e n count life threads fork k l there (other apart_from apart) = parents_of c h f g e n count life threads fork k l (sym (fork.others k apart_from apart) ∙ there)

few_of : (c : Code) (h : List Entry) (f g : ObjLives) (e : Entry) (n count : ℕ) (life : ObjLife) → AreThreads c h f → HasForked c h f e n count life g → (k : ℕ) → Which n count k
    → started c (e ∷ h) k ≤ 15
few_of c h f g e n count life threads fork k (itself same) = omega (arith, ap (started c (e ∷ h)) same, started_here c h f g e n count life fork, fork.few)
few_of c h f g e n count life threads fork k (branch j low high same) = omega (arith, started_branch c h f g e n count life fork k j low high same)
few_of c h f g e n count life threads fork k (other apart_from apart) = omega (arith, started_other c h f g e n count life fork k apart_from apart, threads.few k)

-- all of it
pub forked_threads : (c : Code) (h : List Entry) (f g : ObjLives) (e : Entry) (n count : ℕ) (life : ObjLife) → AreThreads c h f → (Ended (obj_threads c) h n → ⊥) → HasForked c h f e n count life g
    → AreThreads c (e ∷ h) g
forked_threads c h f g e n count life threads lived fork =
    let some = nobody_zero c h f n life threads fork.lived in
    record {
      lives = λ k l there. place_of c h f g e n count life threads fork k l there (which n count k fork.few);
      gone = λ k s away begins. gone_of c h f g e n count life threads lived fork k s away begins (which n count k fork.few);
      root = begins_same c e h 1 (root_of object_meaning c main_stack) (starts_other c h f g e n count life fork 1 (λ j low high same. omega (arith, same, some))) threads.root;
      branches = λ k l there. branches_of c h f g e n count life threads lived fork k l there (which n count k fork.few);
      parents = λ k l there. parents_by c h f g e n count life threads fork k l there (which n count k fork.few);
      few = λ k. few_of c h f g e n count life threads fork k (which n count k fork.few);
    }

-- who waits but the thread itself has a branch that lives
forked_waits : (c : Code) (h : List Entry) (f g : ObjLives) (e : Entry) (n count : ℕ) (life : ObjLife) → AreSettled c h f → HasForked c h f e n count life g
    → (k : ℕ) → (k ≡ n → ⊥) → Waits c (e ∷ h) g k
forked_waits c h f g e n count life place fork k apart_from l there is = by (which n count k fork.few)
  where
    lives_on : (i : ℕ) → 1 ≤ i → i ≤ 15 → (b : ObjLife) → f (16 * k + i) ≡ Some b → Which n count (16 * k + i) → HasBranch g k
    lives_on i low high b lives (itself same) = (i, low, high, (at_fork life, ap g same ∙ fork.here))
    lives_on i low high b lives (branch j from to same) = absurd (apart_from (omega (arith, same, high, to, fork.few)))
    lives_on i low high b lives (other not_it apart) = (i, low, high, (b, fork.others (16 * k + i) not_it apart ∙ lives))

    awake_branch : (j : ℕ) (low : 1 ≤ j) (high : j ≤ count) → k ≡ 16 * n + j → HasBranch g k
    awake_branch j low high same =
        let sprout = fork.sprouts j low high in
        let found : kept c sprout.life None ≡ Some l = sym sprout.lives ∙ ap g (sym same) ∙ there in
        let clash : true ≡ false = sym is ∙ ap (λ (z : ObjLife). is_waiting z.stage) (sym (kept_life c sprout.life l found)) ∙ sprout.awake in cc

    by : Which n count k → HasBranch g k ⊎ HasStuck c (e ∷ h) k
    by (itself same) = absurd (apart_from same)
    by (branch j low high same) = inl (awake_branch j low high same)
    by (other not_it apart) = ⊎_elim
        (λ (old : HasBranch f k). inl (lives_on old.0 old.1 old.2 old.3.0 old.3.1 (which n count (16 * k + old.0) fork.few)))
        (λ (old : HasStuck c h k). inr (old.0, (old.1.0, own_other c e h k (starts_other c h f g e n count life fork k apart) (λ same. not_it (sym same ∙ fork.name)) ∙ old.1.1, old.1.2)))
        (place.waits k l (sym (fork.others k not_it apart) ∙ there) is)

-- a thread that waited at its fork goes on where none of its branches lives
resumes_on : (c : Code) (h : List Entry) (n : ℕ) (g last : ObjLives) (d b : Option Value) (life : ObjLife) → AreThreads c h g → ((k : ℕ) → (k ≡ n → ⊥) → Waits c h g k) → 1 ≤ started c h n → g n ≡ Some (at_fork life)
    → Resumes object_meaning c n g d last b → AreSettled c h last
resumes_on c h n g last d b life threads others some here (some_live k f d0 has) = record {
  threads = threads;
  waits = λ k l there is. ⊎_elim (λ (same : k ≡ n). inl (subst (HasBranch g) (sym same) has)) (λ (apart : k ≡ n → ⊥). others k apart l there is) (cases_eq k n);
}
resumes_on c h n g last d b life threads others some here (none_lives k f h2 last0 d0 b0 p q alone there ran changes rest) =
    let found : Some p ≡ Some (at_fork life) = sym there ∙ here in
    let both : p ≡ at_fork life = cc in
    settled c h n h2 last d b rest
    (went_on c h g h2 n q threads others (record { life = p; lived = there; waits = ap (λ (z : ObjLife). is_waiting z.stage) both; runs = ran; alone = alone; some = some }) changes)

-- A thread that forked waits, or goes on.
pub resumed : (c : Code) (h : List Entry) (f g last : ObjLives) (e : Entry) (n count : ℕ) (life : ObjLife) (d b : Option Value) → AreLiving c h f → 1 ≤ count → HasForked c h f e n count life g
    → Resumes object_meaning c n g d last b → AreSettled c (e ∷ h) last
resumed c h f g last e n count life d b alive some fork on =
    let threads = forked_threads c h f g e n count life alive.place.threads (alive_not_ended c h f alive n life fork.lived) fork in
    resumes_on c (e ∷ h) n g last d b life threads (forked_waits c h f g e n count life alive.place fork) (omega (arith, some, started_here c h f g e n count life fork)) fork.here on
