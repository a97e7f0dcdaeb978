-- A tree that begins, and one whose thread takes an answer, are in place.
use Rattle.std.proofs.Common.{◌≡◌, ℕ, ◌+◌, ◌*◌, ◌/◌, ◌≤◌, List, [], ◌∷◌, Bool, true, false, refl, Option, Some, None, arith, sym, ◌∙◌, ap, subst, ⊎_elim}
use Rattle.std.proofs.lemmas.Bool.{cases_eq}
use Rattle.dfi_base.specs.Lives.{BeginsIn, own, branches_after, Ended}
use Rattle.tac_ir.specs.declared.run.Op.{Op}
use Rattle.tac_ir.specs.declared.run.Answer.{Answer}
use Rattle.tac_ir.specs.declared.run.Entry.{Entry}
use Rattle.tac_ir.specs.Module.{Module}
use Rattle.tac_ir.specs.GoodForm.{GoodForm}
use Rattle.tac_ir.specs.Threads.{root_start, forked_by, threads_of}
use Rattle.tac_thread.specs.declared.flat.FlatStack.{FlatStack}
use Rattle.tac_thread.specs.declared.want.Want.{Want}
use Rattle.tac_thread.specs.declared.want.ReplyOf.{ReplyOf}
use Rattle.tac_thread.specs.RunsOn.{RunsOn}
use Rattle.tac_thread.specs.Begun.{root_of}
use Rattle.tac_thread.specs.Answered.{answered}
use Rattle.tac_thread.specs.Threads.{is_waiting, IsFed, nobody, IsBegun}
use Rattle.tac_thread.specs.Flat.{flat_meaning}
use Rattle.tac_thread.proofs.Trees.{running_is}
use Rattle.path_law.specs.Asked.{op_of}
use Rattle.path_law.specs.Standing.{FlatLife, IsAt}
use Rattle.path_law.specs.Begins.{root_stack}
use Rattle.path_law.specs.Alive.{AreAlive, IsNextTold}
use Rattle.path_law.specs.InPlace.{FlatLives, started, IsInPlace, BranchesAre, AreSettled, AreInPlace}
use Rattle.path_law.proofs.Laws
use Rattle.tree_law.proofs.trees.Waking.{runs_awake, answered_awake}
use Rattle.path_law.proofs.Histories.{Starts, not_started, own_mine, own_other, begins_same, begun_same, ended_same}
use Rattle.path_law.proofs.Placed.{AreLiving, alive_not_ended}
use Rattle.path_law.proofs.Main.{main_lives, main_on, main_more, settled_main}
use Rattle.path_law.proofs.Settled.{IsChanged, here_is, other_is, by_name, still_lives, HasPlace, waits_apart, settled}

-- The beginning.

begun_threads : (m : Module) (root : FlatLife) (f : FlatLives) → RunsOn flat_meaning m.code (root_of flat_meaning m.code (root_stack m)) root → IsChanged nobody 1 (Some root) f → AreSettled m [] f
unfolding BeginsIn own
begun_threads m root f ran changes =
    let awake = runs_awake flat_meaning m.code (root_of flat_meaning m.code (root_stack m)) root refl ran in
    let nobody_else : (P : ℕ → FlatLife → Type 0) → P 1 root → (k : ℕ) (l : FlatLife) → f k ≡ Some l → P k l =
    λ P here. by_name nobody f 1 root P changes here (λ k l other there. (let clash : None ≡ Some l = there in absurd (none_is l clash))) in
    record {
      threads = record {
        lives = nobody_else (IsInPlace m []) (record { start = root_start m; begins = (refl, refl); stands = Laws.thread_one m root ran });
        gone = λ k s away begins. absurd (none_is root (sym away ∙ ap f begins.0 ∙ here_is nobody f 1 (Some root) changes));
        root = (refl, refl);
        branches = nobody_else (λ k l. BranchesAre m [] k (is_waiting l.stage)) (subst (BranchesAre m [] 1) (sym awake) (λ i low high. absurd (omega (arith, low, high))));
        parents = nobody_else (HasPlace m [] f) (λ one. absurd (one refl));
        few = λ k. omega arith;
      };
      waits = λ k l there is. absurd (nobody_else (λ i z. is_waiting z.stage ≡ true → ⊥) (λ w. clash_of (sym w ∙ awake)) k l there is);
    }
  where
    none_is : (l : FlatLife) → None ≡ Some l → ⊥
    none_is l e = cc

    clash_of : true ≡ false → ⊥
    clash_of e = cc

pub tree_begins : (m : Module) (g : FlatLives) (d : Option ℕ) → IsBegun flat_meaning m.code (root_stack m) g d → AreInPlace m [] g d
tree_begins m g d begun =
    let first = begun_threads m begun.root begun.lives begun.runs begun.changes in
    let main = main_lives m [] begun.lives None begun.root (here_is nobody begun.lives 1 (Some begun.root) begun.changes) refl in
    record { settled = settled m [] 1 begun.lives g None d begun.settles first; main = settled_main m [] 1 begun.lives g None d begun.settles first main }

-- An answer.

-- what is no fork starts nobody
no_fork : (w : Want ℕ) (op : Op) (answer : Answer) → op_of w ≡ Some op → ((n : ℕ) → w ≡ Want.Fork n → ⊥) → forked_by op answer ≡ 0
no_fork w (Op.Fork n) answer is none = by w is none
  where
    by : (w : Want ℕ) → op_of w ≡ Some (Op.Fork n) → ((k : ℕ) → w ≡ Want.Fork k → ⊥) → forked_by (Op.Fork n) answer ≡ 0
    by (Want.Fork k) is none = absurd (none k refl)
    by w is none = cc
no_fork w op answer is none = refl

-- an entry that starts nobody, of a thread that had not ended
pub record IsPlain (m : Module) (h : List Entry) (e : Entry) : Type 0 where
  pub forks : forked_by e.op e.answer ≡ 0
  pub lived : Ended (threads_of m) h e.name.0 → ⊥

pub starts_none : (m : Module) (h : List Entry) (e : Entry) → IsPlain m h e → (k : ℕ) → Starts m k e ≡ false
starts_none m h e plain k = not_started m k e (λ s. omega (arith, s.from, s.to, plain.forks))

pub own_same : (m : Module) (h : List Entry) (e : Entry) → IsPlain m h e → (k : ℕ) → (k ≡ e.name.0 → ⊥) → own (threads_of m) k (e ∷ h) ≡ own (threads_of m) k h
own_same m h e plain k other = own_other m e h k (starts_none m h e plain k) (λ same. other (sym same))

pub started_same : (m : Module) (h : List Entry) (e : Entry) → IsPlain m h e → (k : ℕ) → (k ≡ e.name.0 → ⊥) → started m (e ∷ h) k ≡ started m h k
started_same m h e plain k other = ap (λ o. branches_after (threads_of m) o) (own_same m h e plain k other)

started_here : (m : Module) (h : List Entry) (e : Entry) → started m (e ∷ h) e.name.0 ≡ forked_by e.op e.answer
started_here m h e = ap (λ o. branches_after (threads_of m) o) (own_mine m e h e.name.0 refl)

abbrev pub AreFew : Module → List Entry → Type 0
AreFew m h = (k : ℕ) → started m h k ≤ 15

branches_same : (m : Module) (h : List Entry) (e : Entry) → AreFew m h → IsPlain m h e → (k : ℕ) → (k ≡ e.name.0 → ⊥) → (b : Bool) → BranchesAre m h k b → BranchesAre m (e ∷ h) k b
branches_same m h e few plain k other true are = λ i low high.
    (let begun = are i low (omega (arith, high, started_same m h e plain k other)) in (begun.0, begins_same m e h (16 * k + i) begun.0 (starts_none m h e plain (16 * k + i)) begun.1))
branches_same m h e few plain k other false are = λ i low high.
    ended_same m e h plain.lived few (16 * k + i) (starts_none m h e plain (16 * k + i)) (are i low (omega (arith, high, started_same m h e plain k other)))

-- thread n took an answer, and runs on
pub record HasGone (m : Module) (h : List Entry) (f : FlatLives) (e : Entry) (n : ℕ) (next : FlatLife) : Type 0 where
  pub name : e.name.0 ≡ n
  pub plain : IsPlain m h e
  pub life : FlatLife
  pub lived : f n ≡ Some life
  pub awake : is_waiting life.stage ≡ false
  pub place : IsInPlace m (e ∷ h) n next
  pub still_awake : is_waiting next.stage ≡ false

gone_threads : (m : Module) (h : List Entry) (f g : FlatLives) (e : Entry) (n : ℕ) (next : FlatLife) → AreSettled m h f → HasGone m h f e n next → IsChanged f n (Some next) g → AreSettled m (e ∷ h) g
gone_threads m h f g e n next place gone changes =
    let threads = place.threads in
    let plain = gone.plain in
    let none_starts = starts_none m h e plain in
    let apart : (k : ℕ) → (k ≡ n → ⊥) → k ≡ e.name.0 → ⊥ = λ k other same. other (same ∙ gone.name) in
    let mine : started m (e ∷ h) n ≡ 0 = ap (started m (e ∷ h)) (sym gone.name) ∙ started_here m h e ∙ plain.forks in
    let parent_of : (k : ℕ) (l : FlatLife) → f k ≡ Some l → HasPlace m (e ∷ h) g k l = λ k l there one.
    (let p = threads.parents k l there one in
    let other = waits_apart f n (k / 16) gone.life p.0.1.0 gone.lived gone.awake p.0.1.1 p.0.1.2 in
    ((p.0.0, (p.0.1.0, other_is f g n (Some next) changes (k / 16) other ∙ p.0.1.1, p.0.1.2)), omega (arith, p.1, started_same m h e plain (k / 16) (apart (k / 16) other)))) in
    record {
      threads = record {
        lives = by_name f g n next (IsInPlace m (e ∷ h)) changes gone.place (λ k l other there.
            (let p = threads.lives k l there in
            record { start = p.start; begins = begins_same m e h k p.start (none_starts k) p.begins; stands = subst (λ o. IsAt m.code p.start o l) (sym (own_same m h e plain k (apart k other))) p.stands }));
        gone = λ k s away begins. ended_same m e h plain.lived threads.few k (none_starts k)
            (threads.gone k s (sym (other_is f g n (Some next) changes k (λ same. (
            let clash : None ≡ Some next = sym away ∙ ap g same ∙ here_is f g n (Some next) changes in cc))) ∙ away) (begun_same m e h k s (none_starts k) begins));
        root = begins_same m e h 1 (root_start m) (none_starts 1) threads.root;
        branches = by_name f g n next (λ k l. BranchesAre m (e ∷ h) k (is_waiting l.stage)) changes
            (subst (BranchesAre m (e ∷ h) n) (sym gone.still_awake) (λ i low high. absurd (omega (arith, low, high, mine))))
            (λ k l other there. branches_same m h e threads.few plain k (apart k other) (is_waiting l.stage) (threads.branches k l there));
        parents = by_name f g n next (HasPlace m (e ∷ h) g) changes (parent_of n gone.life gone.lived) (λ k l other there. parent_of k l there);
        few = λ k. ⊎_elim (λ (same : k ≡ n). omega (arith, ap (started m (e ∷ h)) same, mine))
            (λ (other : k ≡ n → ⊥). omega (arith, started_same m h e plain k (apart k other), threads.few k)) (cases_eq k n);
      };
      waits = λ k l there is.
          ⊎_elim (λ (same : k ≡ n). absurd (by_name f g n next (λ i z. i ≡ n → is_waiting z.stage ≡ true → ⊥) changes
          (λ q w. (let clash : true ≡ false = sym w ∙ gone.still_awake in cc)) (λ i z other lives q w. other q) k l there same is))
          (λ (other : k ≡ n → ⊥). still_lives f g n next changes k (place.waits k l (sym (other_is f g n (Some next) changes k other) ∙ there) is)) (cases_eq k n);
    }

pub tree_fed : (m : Module) (h : List Entry) (f g : FlatLives) (d b : Option ℕ) (e : Entry) (reply : ReplyOf ℕ FlatStack) → GoodForm m.code → AreAlive m h f d → IsNextTold m f e reply
    → ((n : ℕ) → e.op ≡ Op.Fork n → ⊥) → IsFed flat_meaning m.code f d e.name.0 reply g b → AreInPlace m (e ∷ h) g b
tree_fed m h f g d b e reply good tree now none fed =
    let alive : AreLiving m h f = record { place = tree.place.settled; tree = tree.tree } in
    let n = e.name.0 in
    let c = m.code in
    let life = now.life in
    let found = running_is (f n) life now.runs in
    let lives = found.0 in
    let p = alive.place.threads.lives n life lives in
    let same : fed.life ≡ life = (let both : Some fed.life ≡ Some life = sym fed.lived ∙ lives in cc) in
    let ran = subst (λ z. RunsOn flat_meaning c (answered flat_meaning c z reply) fed.next) same fed.runs in
    let not_fork : (k : ℕ) → now.told.want ≡ Want.Fork k → ⊥ = λ k is. none k (let both : Some e.op ≡ Some (Op.Fork k) = sym now.told.event ∙ ap op_of is in cc) in
    let plain : IsPlain m h e = record { forks = no_fork now.told.want e.op e.answer now.told.event not_fork; lived = alive_not_ended m h f alive n life lives } in
    let mine = own_mine m e h n refl in
    let awake = runs_awake flat_meaning c (answered flat_meaning c life reply) fed.next (answered_awake flat_meaning c life reply
    (λ k want. not_fork k (let both : Some now.told.want ≡ Some (Want.Fork k) = sym now.told.wants ∙ want in cc)) found.1) ran in
    let stepped = gone_threads m h f fed.lives e n fed.next alive.place (record {
      name = refl;
      plain = plain;
      life = life;
      lived = lives;
      awake = found.1;
      place = record {
        start = p.start;
        begins = begins_same m e h n p.start (starts_none m h e plain n) p.begins;
        stands = subst (λ o. IsAt c p.start o fed.next) (sym mine) (Laws.answers c p.start (own (threads_of m) n h) life fed.next e reply good p.stands now.told ran);
      };
      still_awake = awake;
    }) fed.changes in
    let main = main_on m (e ∷ h) f fed.lives n life fed.next d lives fed.changes (main_more m h e f d life lives (starts_none m h e plain 1) tree.place.main) in
    record { settled = settled m (e ∷ h) n fed.lives g d b fed.settles stepped; main = settled_main m (e ∷ h) n fed.lives g d b fed.settles stepped main }
