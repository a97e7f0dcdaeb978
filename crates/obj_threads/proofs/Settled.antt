-- Threads that end and parents that go on stay in place.
use Rattle.dfi_base.specs.Lives.{own, Ended}
use Rattle.dfi_base.specs.Lives.EndedIn.{ended}
use Rattle.obj_mem.specs.declared.value.Value.{Value}
use Rattle.tac_ir.specs.declared.code.Code.{Code}
use Rattle.obj_run.specs.Objects.{object_meaning}
use Rattle.obj_run.specs.Entries.{Entry}
use Rattle.obj_run.specs.Runs.{ObjLife, ObjLives}
use Rattle.obj_threads.specs.Threads.{obj_threads}
use Rattle.obj_threads.specs.InPlace.{started, IsInPlace, BranchesAre, AreThreads, Waits, AreSettled, HasStuck}
use Rattle.obj_threads.proofs.Placed.{nobody_zero}
use Rattle.obj_threads.proofs.Standing.{stopped, joins_on}
use Rattle.std.proofs.Common.{◌≡◌, ℕ, ◌+◌, ◌*◌, ◌/◌, ◌%◌, ◌≤◌, ◌<◌, List, Bool, true, false, refl, Option, Some, None, arith, sym, ◌∙◌, ap, subst, ⊎_elim, ◌⊎◌, inl, inr}
use Rattle.std.proofs.lemmas.Bool.{cases_eq}
use Rattle.tac_thread.specs.declared.want.Want.{Want}
use Rattle.tac_thread.specs.Doing.{want_of}
use Rattle.tac_thread.specs.RunsOn.{RunsOn}
use Rattle.tac_thread.specs.Answered.{joined}
use Rattle.tac_thread.specs.Threads.{is_waiting, changed, HasBranch, HasParent, end_in, ended_of, Settles}
use Rattle.tac_thread.specs.Threads.Settles.{goes_on, main_ends, others_live, joins}
use Rattle.tac_thread.proofs.Trees.{waits_for, changed_here, changed_other}
use Rattle.tree_law.proofs.trees.Waking.{runs_awake}

-- a thread that has ended
pub record HasEnded (c : Code) (f : ObjLives) (n : ℕ) (value : Option Value) : Type 0 where
  pub life : ObjLife
  pub lived : f n ≡ Some life
  pub want : want_of object_meaning c life ≡ Some (Want.Ended value)
  pub awake : is_waiting life.stage ≡ false

pub has_ended : (c : Code) (f : ObjLives) (n : ℕ) (v : Option Value) → ended_of object_meaning c (f n) ≡ Some v → HasEnded c f n v
has_ended c f n v e = by (f n) refl e
  where
    awake : (l : ObjLife) → want_of object_meaning c l ≡ Some (Want.Ended v) → (b : Bool) → is_waiting l.stage ≡ b → b ≡ false
    awake l want false is = refl
    awake l want true is = let clash : Some Want.Waits ≡ Some (Want.Ended v) = sym (waits_for object_meaning c l is) ∙ want in cc

    ended_want : (o : Option (Want Value)) → end_in o ≡ Some v → o ≡ Some (Want.Ended v)
    ended_want None e = cc
    ended_want (Some (Want.Ended u)) e = let same : u ≡ v = cc in ap (λ w. Some (Want.Ended w)) same
    ended_want (Some w) e = cc

    by : (o : Option ObjLife) → f n ≡ o → ended_of object_meaning c o ≡ Some v → HasEnded c f n v
    by None is e = cc
    by (Some l) is e =
        let want = ended_want (want_of object_meaning c l) e in
        record { life = l; lived = is; want = want; awake = awake l want (is_waiting l.stage) refl }

-- its end, with those of its branches
pub end_of : (c : Code) (h : List Entry) (f : ObjLives) (n : ℕ) (v : Option Value) → AreThreads c h f → HasEnded c f n v → Ended (obj_threads c) h n
end_of c h f n v threads e =
    let p = threads.lives n e.life e.lived in
    let last = stopped c p.start (own (obj_threads c) n h) e.life v p.stands (ap end_in e.want) e.awake in
    ended n p.start p.begins last (subst (BranchesAre c h n) e.awake (threads.branches n e.life e.lived))

-- Changes of one thread.

abbrev pub IsChanged : ObjLives → ℕ → Option ObjLife → ObjLives → Type 0
IsChanged f n l g = (k : ℕ) → g k ≡ changed f n l k

pub here_is : (f g : ObjLives) (n : ℕ) (l : Option ObjLife) → IsChanged f n l g → g n ≡ l
here_is f g n l changes = changes n ∙ changed_here f n l

pub other_is : (f g : ObjLives) (n : ℕ) (l : Option ObjLife) → IsChanged f n l g → (k : ℕ) → (k ≡ n → ⊥) → g k ≡ f k
other_is f g n l changes k other = changes k ∙ changed_other f n l k other

-- who does not live is another than who does
pub lives_apart : (g : ObjLives) (n k : ℕ) (l : ObjLife) → g n ≡ None → g k ≡ Some l → k ≡ n → ⊥
lives_apart g n k l none lives same = let clash : None ≡ Some l = sym none ∙ ap g (sym same) ∙ lives in cc

-- who waits is another than who does not
pub waits_apart : (f : ObjLives) (n k : ℕ) (l p : ObjLife) → f n ≡ Some l → is_waiting l.stage ≡ false → f k ≡ Some p → is_waiting p.stage ≡ true → k ≡ n → ⊥
waits_apart f n k l p lives awake there waits same =
    let one : Some p ≡ Some l = sym there ∙ ap f same ∙ lives in
    let both : p ≡ l = cc in
    let clash : true ≡ false = sym waits ∙ ap (λ (z : ObjLife). is_waiting z.stage) both ∙ awake in cc

-- without a thread that has ended
pub removed : (c : Code) (h : List Entry) (f g : ObjLives) (n : ℕ) (v : Option Value) → AreThreads c h f → HasEnded c f n v → IsChanged f n None g → AreThreads c h g
removed c h f g n v threads e changes =
    let none = here_is f g n None changes in
    let before : (k : ℕ) (l : ObjLife) → g k ≡ Some l → f k ≡ Some l = λ k l there. sym (other_is f g n None changes k (lives_apart g n k l none there)) ∙ there in
    record {
      lives = λ k l there. threads.lives k l (before k l there);
      gone = λ k s away begins.
          ⊎_elim (λ (same : k ≡ n). subst (Ended (obj_threads c) h) (sym same) (end_of c h f n v threads e))
          (λ (other : k ≡ n → ⊥). threads.gone k s (sym (other_is f g n None changes k other) ∙ away) begins) (cases_eq k n);
      root = threads.root;
      branches = λ k l there. threads.branches k l (before k l there);
      parents = λ k l there one.
          (let p = threads.parents k l (before k l there) one in
          let apart = waits_apart f n (k / 16) e.life p.0.1.0 e.lived e.awake p.0.1.1 p.0.1.2 in
          ((p.0.0, (p.0.1.0, other_is f g n None changes (k / 16) apart ∙ p.0.1.1, p.0.1.2)), p.1));
      few = threads.few;
    }

-- its absence leaves a branch to each other thread that waits
pub others_wait : (c : Code) (h : List Entry) (f g : ObjLives) (n : ℕ) (v : Option Value) → AreSettled c h f → HasEnded c f n v → IsChanged f n None g → (k : ℕ) → (k ≡ n / 16 → ⊥) → Waits c h g k
others_wait c h f g n v place e changes k other l there waits =
    let none = here_is f g n None changes in
    let lived : f k ≡ Some l = sym (other_is f g n None changes k (lives_apart g n k l none there)) ∙ there in
    by lived (place.waits k l lived waits)
  where
    by : f k ≡ Some l → HasBranch f k ⊎ HasStuck c h k → HasBranch g k ⊎ HasStuck c h k
    by lived (inl branch) =
        let apart : 16 * k + branch.0 ≡ n → ⊥ = λ same. other (omega (arith, same, branch.2)) in
        inl (branch.0, branch.1, branch.2, (branch.3.0, other_is f g n None changes (16 * k + branch.0) apart ∙ branch.3.1))
    by lived (inr stuck) = inr stuck

-- Joins.

-- a thread whose branches have all ended goes on
pub record GoesOn (c : Code) (h : List Entry) (g : ObjLives) (n : ℕ) (q : ObjLife) : Type 0 where
  pub life : ObjLife
  pub lived : g n ≡ Some life
  pub waits : is_waiting life.stage ≡ true
  pub runs : RunsOn object_meaning c (joined c life) q
  pub alone : HasBranch g n → ⊥
  pub some : 1 ≤ started c h n

-- the branches of a thread that goes on have ended
all_ended : (c : Code) (h : List Entry) (g : ObjLives) (n : ℕ) (q : ObjLife) → AreThreads c h g → GoesOn c h g n q → (i : ℕ) → 0 < i → i ≤ started c h n → Ended (obj_threads c) h (16 * n + i)
all_ended c h g n q threads on i low high = by (g (16 * n + i)) refl
  where
    few : i ≤ 15
    few = omega (arith, high, threads.few n)

    by : (o : Option ObjLife) → g (16 * n + i) ≡ o → Ended (obj_threads c) h (16 * n + i)
    by (Some b) lives = absurd (on.alone (i, low, few, (b, lives)))
    by None none =
        let begun = subst (BranchesAre c h n) on.waits (threads.branches n on.life on.lived) i low high in
        threads.gone (16 * n + i) begun.0 none begun.1

-- it waits no more, and stands where its path stands
pub record IsOn (c : Code) (h : List Entry) (n : ℕ) (q : ObjLife) : Type 0 where
  pub place : IsInPlace c h n q
  pub awake : is_waiting q.stage ≡ false

is_on : (c : Code) (h : List Entry) (g : ObjLives) (n : ℕ) (q : ObjLife) → AreThreads c h g → GoesOn c h g n q → IsOn c h n q
is_on c h g n q threads on =
    let p = threads.lives n on.life on.lived in
    let j = joins_on c p.start (own (obj_threads c) n h) on.life q p.stands on.waits on.some on.runs in
    record { place = record { start = p.start; begins = p.begins; stands = j.stands }; awake = runs_awake object_meaning c (joined c on.life) q j.awake on.runs }

-- by name
pub by_name : (f g : ObjLives) (n : ℕ) (q : ObjLife) (P : ℕ → ObjLife → Type 0) → IsChanged f n (Some q) g → P n q → ((k : ℕ) (l : ObjLife) → (k ≡ n → ⊥) → f k ≡ Some l → P k l)
    → (k : ℕ) (l : ObjLife) → g k ≡ Some l → P k l
by_name f g n q P changes here there k l lives =
    ⊎_elim (λ (same : k ≡ n). (
    let found : Some q ≡ Some l = sym (here_is f g n (Some q) changes) ∙ ap g (sym same) ∙ lives in
    let both : q ≡ l = cc in
    subst (λ z. P k z) both (subst (λ i. P i q) (sym same) here)))
    (λ (other : k ≡ n → ⊥). there k l other (sym (other_is f g n (Some q) changes k other) ∙ lives)) (cases_eq k n)

-- a branch that lives still does
pub still_lives : (f g : ObjLives) (n : ℕ) (q : ObjLife) → IsChanged f n (Some q) g → (k : ℕ) → HasBranch f k → HasBranch g k
still_lives f g n q changes k branch =
    let at = 16 * k + branch.0 in
    ⊎_elim (λ (same : at ≡ n). (branch.0, branch.1, branch.2, (q, ap g same ∙ here_is f g n (Some q) changes)))
    (λ (other : at ≡ n → ⊥). (branch.0, branch.1, branch.2, (branch.3.0, other_is f g n (Some q) changes at other ∙ branch.3.1))) (cases_eq at n)

abbrev pub HasPlace : Code → List Entry → ObjLives → ℕ → ObjLife → Type 0
HasPlace c h g k l = (k ≡ 1 → ⊥) → HasParent g k × (k % 16 ≤ started c h (k / 16))

pub went_on : (c : Code) (h : List Entry) (g h2 : ObjLives) (n : ℕ) (q : ObjLife) → AreThreads c h g → ((k : ℕ) → (k ≡ n → ⊥) → Waits c h g k) → GoesOn c h g n q → IsChanged g n (Some q) h2
    → AreSettled c h h2
went_on c h g h2 n q threads waits on changes =
    let stands = is_on c h g n q threads on in
    let parent_of : (k : ℕ) (l : ObjLife) → g k ≡ Some l → HasPlace c h h2 k l = λ k l there one.
    (let p = threads.parents k l there one in
    let apart : k / 16 ≡ n → ⊥ = λ same. on.alone (k % 16, omega (arith, p.0.0), omega arith, (l, ap g (let whole : 16 * n + k % 16 ≡ k = omega (arith, same) in whole) ∙ there)) in
    ((p.0.0, (p.0.1.0, other_is g h2 n (Some q) changes (k / 16) apart ∙ p.0.1.1, p.0.1.2)), p.1)) in
    record {
      threads = record {
        lives = by_name g h2 n q (IsInPlace c h) changes stands.place (λ k l other there. threads.lives k l there);
        gone = λ k s away begins. threads.gone k s (sym (other_is g h2 n (Some q) changes k (λ same. (
            let clash : None ≡ Some q = sym away ∙ ap h2 same ∙ here_is g h2 n (Some q) changes in cc))) ∙ away) begins;
        root = threads.root;
        branches = by_name g h2 n q (λ k l. BranchesAre c h k (is_waiting l.stage)) changes
            (subst (BranchesAre c h n) (sym stands.awake) (all_ended c h g n q threads on)) (λ k l other there. threads.branches k l there);
        parents = by_name g h2 n q (HasPlace c h h2) changes (parent_of n on.life on.lived) (λ k l other there. parent_of k l there);
        few = threads.few;
      };
      waits = λ k l there is.
          ⊎_elim (λ (same : k ≡ n). absurd (by_name g h2 n q (λ i z. i ≡ n → is_waiting z.stage ≡ true → ⊥) changes
          (λ e w. (let clash : true ≡ false = sym w ∙ stands.awake in cc)) (λ i z other lives e w. other e) k l there same is))
          (λ (other : k ≡ n → ⊥). ⊎_elim (λ (b : HasBranch g k). inl (still_lives g h2 n q changes k b)) (λ (s : HasStuck c h k). inr s) (waits k other l (sym (other_is g h2 n (Some q) changes k other) ∙ there) is)) (cases_eq k n);
    }

-- the parent of a thread that has ended goes on
pub parent_on : (c : Code) (h : List Entry) (n : ℕ) (f g h2 : ObjLives) (v : Option Value) (p q : ObjLife) → AreSettled c h f → (n ≡ 1 → ⊥) → ended_of object_meaning c (f n) ≡ Some v → IsChanged f n None g
    → (HasBranch g (n / 16) → ⊥) → g (n / 16) ≡ Some p → RunsOn object_meaning c (joined c p) q → IsChanged g (n / 16) (Some q) h2 → AreSettled c h h2
parent_on c h n f g h2 v p q place one over changes alone there ran on =
    let e1 = has_ended c f n v over in
    let parent = (place.threads.parents n e1.life e1.lived one).0 in
    let apart : n / 16 ≡ n → ⊥ = λ same. omega (arith, same, parent.0) in
    let found : Some p ≡ Some parent.1.0 = sym there ∙ other_is f g n None changes (n / 16) apart ∙ parent.1.1 in
    let both : p ≡ parent.1.0 = cc in
    went_on c h g h2 (n / 16) q (removed c h f g n v place.threads e1 changes) (others_wait c h f g n v place e1 changes)
    (record { life = p; lived = there; waits = ap (λ (z : ObjLife). is_waiting z.stage) both ∙ parent.1.2; runs = ran; alone = alone; some = (let x = (place.threads.parents n e1.life e1.lived one).1 in let low = parent.0 in omega (arith, x, low)) }) on

-- Who ends, and who goes on.

pub settled : (c : Code) (h : List Entry) (n : ℕ) (f last : ObjLives) (d e : Option Value) → Settles object_meaning c n f d last e → AreSettled c h f → AreSettled c h last
settled c h n f last d e (goes_on k g v none) place = place
settled c h n f last d e (main_ends f0 g d0 v over changes) place =
    let e1 = has_ended c f 1 v over in
    record {
      threads = removed c h f g 1 v place.threads e1 changes;
      waits = λ k l there is. others_wait c h f g 1 v place e1 changes k (λ zero. (
          let low = nobody_zero c h g k l (removed c h f g 1 v place.threads e1 changes) there in omega (arith, zero, low))) l there is;
    }
settled c h n f last d e (others_live k f0 g d0 v one over changes branch) place =
    let e1 = has_ended c f n v over in
    record {
      threads = removed c h f g n v place.threads e1 changes;
      waits = λ k l there is. ⊎_elim (λ (same : k ≡ n / 16). inl (subst (HasBranch g) (sym same) branch)) (λ (other : k ≡ n / 16 → ⊥). others_wait c h f g n v place e1 changes k other l there is) (cases_eq k (n / 16));
    }
settled c h n f last d e (joins k f0 g h2 last0 d0 v e0 p q one over changes alone there ran on rest) place =
    settled c h (n / 16) h2 last d e rest (parent_on c h n f g h2 v p q place one over changes alone there ran on)
