-- What a tree of threads keeps is kept by all that answers, forks, ends and joins do to it.
use Rattle.std.proofs.Common.{◌≡◌, ℕ, zero, suc, ◌+◌, ◌-◌, ◌*◌, ◌/◌, ◌%◌, ◌≤◌, ◌<◌, ◌⊎◌, List, length, Bool, true, false, refl, Option, Some, None, arith, sym, ◌∙◌, ap, subst, inl, inr, ⊎_elim}
use Rattle.std.specs.Prelude.{nat_eq, nat_le, slice_get}
use Rattle.std.proofs.lemmas.Bool.{eqb-true, eq-eqb, leb-true, leb-false}
use Rattle.std.proofs.lemmas.Option.{slice_get_within}
use Rattle.tac_ir.specs.declared.code.Code.{Code}
use Rattle.tac_thread.specs.declared.want.ReplyOf.{ReplyOf}
use Rattle.tac_thread.specs.Meaning.{Meaning}
use Rattle.tac_thread.specs.Life.{Life}
use Rattle.tac_thread.specs.Answered.{answered, joined}
use Rattle.tac_thread.specs.RunsOn.{RunsOn}
use Rattle.tac_thread.specs.Threads.{Lives, changed, HasBranch, HasParent, ended_of, Settles, IsFed, Resumes, IsForked, at_fork, planted, is_waiting}
use Rattle.tac_thread.specs.Threads.Settles.{goes_on, main_ends, others_live, joins}
use Rattle.tac_thread.specs.Threads.Resumes.{some_live, none_lives}
use Rattle.tac_thread.proofs.Trees.{changed_here, changed_other}
use Rattle.tree_law.specs.tools.Held.{EndedAll, AreHeld, HoldsOn, HoldsIn}
use Rattle.tree_law.proofs.trees.Changed.{which, some_of, none_of, planted_is, planted_none, ended_at_once, some_at, IsPlanted}

-- thread n, which has ended or has no parent, lives no more
dropped : {V S : Type 0} → (R : Life V S → Type 0) (B : Life V S → ℕ → Life V S → Type 0) (E : Life V S → ℕ → Type 0) (f g : Lives V S) (n : ℕ) → ((k : ℕ) → g k ≡ changed f n None k)
    → ((p : Life V S) (i : ℕ) (m : ℕ) → 1 ≤ m → 1 ≤ i → i ≤ 15 → 16 * m + i ≡ n → f m ≡ Some p → E p i) → AreHeld R B E f → AreHeld R B E g
dropped {V} {S} R B E f g n is last held = record {
  root = λ l lives. held.root l (some_of f n 1 l (sym (is 1) ∙ lives));
  branches = λ k p l low other lives parent. held.branches k p l low other (some_of f n k l (sym (is k) ∙ lives)) (some_of f n (k / 16) p (sym (is (k / 16)) ∙ parent));
  ended = gone;
  named = λ k l lives other. held.named k l (some_of f n k l (sym (is k) ∙ lives)) other;
}
  where
    gone : EndedAll E g
    gone k p i some low high lives none = by (nat_eq (16 * k + i) n) refl
      where
        was : f k ≡ Some p
        was = some_of f n k p (sym (is k) ∙ lives)

        by : (b : Bool) → nat_eq (16 * k + i) n ≡ b → E p i
        by true same = last p i k some low high (eqb-true _ _ same) was
        by false other =
            let differ : 16 * k + i ≡ n → ⊥ = λ e. (let clash : true ≡ false = sym (ap (λ z. nat_eq z n) e ∙ eq-eqb n n refl) ∙ other in cc) in
            held.ended k p i some low high was (sym (changed_other f n None (16 * k + i) differ) ∙ sym (is (16 * k + i)) ∙ none)

pub replaced : {V S : Type 0} → (R : Life V S → Type 0) (B : Life V S → ℕ → Life V S → Type 0) (E : Life V S → ℕ → Type 0) (f g : Lives V S) (n : ℕ) (p q : Life V S) → f n ≡ Some p → (HasBranch f n → ⊥) → HoldsIn R B E p q
    → ((k : ℕ) → g k ≡ changed f n (Some q) k) → AreHeld R B E f → AreHeld R B E g
replaced {V} {S} R B E f g n p q was no_branch change is held = record { root = λ l lives. at_root l (which f n 1 q l (sym (is 1) ∙ lives)); branches = branch; ended = gone; named = name }
  where
    at_root : (l : Life V S) → ((1 ≡ n) × (q ≡ l)) ⊎ ((1 ≡ n → ⊥) × (f 1 ≡ Some l)) → R l
    at_root l (inl same) = subst R same.1 (change.root (held.root p (ap f same.0 ∙ was)))
    at_root l (inr other) = held.root l other.1

    gone : EndedAll E g
    gone k pp i some low high lives none =
        ⊎_elim (λ (a : (k ≡ n) × (q ≡ pp)). subst (λ z. E z i) a.1 (change.ended i))
        (λ (a : (k ≡ n → ⊥) × (f k ≡ Some pp)). held.ended k pp i some low high a.1 (none_of f n (16 * k + i) q (sym (is (16 * k + i)) ∙ none)))
        (which f n k q pp (sym (is k) ∙ lives))

    name : (k : ℕ) (l : Life V S) → g k ≡ Some l → (k ≡ 1 → ⊥) → 0 < k % 16
    name k l lives other = ⊎_elim (λ (a : (k ≡ n) × (q ≡ l)). held.named k p (ap f a.0 ∙ was) other) (λ (a : (k ≡ n → ⊥) × (f k ≡ Some l)). held.named k l a.1 other) (which f n k q l (sym (is k) ∙ lives))

    branch : (k : ℕ) (pp l : Life V S) → 0 < k % 16 → (k ≡ 1 → ⊥) → g k ≡ Some l → g (k / 16) ≡ Some pp → B pp (k % 16) l
    branch k pp l low other lives parent = by (which f n k q l (sym (is k) ∙ lives)) (which f n (k / 16) q pp (sym (is (k / 16)) ∙ parent))
      where
        by : ((k ≡ n) × (q ≡ l)) ⊎ ((k ≡ n → ⊥) × (f k ≡ Some l)) → ((k / 16 ≡ n) × (q ≡ pp)) ⊎ ((k / 16 ≡ n → ⊥) × (f (k / 16) ≡ Some pp)) → B pp (k % 16) l
        by (inl a) (inl b) = (let x = a.0 in let y = b.0 in absurd (omega (arith, x, y, low)))
        by (inr a) (inl b) =
            let y = b.0 in
            let name : 16 * n + k % 16 ≡ k = omega (arith, y) in
            absurd (no_branch (k % 16, omega (arith, low), omega arith, (l, ap f name ∙ a.1)))
        by (inl a) (inr b) = subst (B pp (k % 16)) a.1 (change.branch pp (k % 16) (held.branches k pp p low other (ap f a.0 ∙ was) b.1))
        by (inr a) (inr b) = held.branches k pp l low other a.1 b.1

-- a thread without branches has ended ones alone
all_ended : {V S : Type 0} → (R : Life V S → Type 0) (B : Life V S → ℕ → Life V S → Type 0) (E : Life V S → ℕ → Type 0) (f : Lives V S) (n : ℕ) (p : Life V S) → 1 ≤ n → f n ≡ Some p → (HasBranch f n → ⊥) → AreHeld R B E f
    → (i : ℕ) → 1 ≤ i → i ≤ 15 → E p i
all_ended {V} {S} R B E f n p some lives none held i low high = by (f (16 * n + i)) refl
  where
    by : (o : Option (Life V S)) → f (16 * n + i) ≡ o → E p i
    by None is = held.ended n p i some low high lives is
    by (Some l) is = absurd (none (i, low, high, (l, is)))

joins_hold : {V S : Type 0} → (m : Meaning V S) (c : Code) (R : Life V S → Type 0) (B : Life V S → ℕ → Life V S → Type 0) (E : Life V S → ℕ → Type 0) → HoldsOn m c R B E → (p q : Life V S) → is_waiting p.stage ≡ true
    → ((i : ℕ) → 1 ≤ i → i ≤ 15 → E p i) → RunsOn m c (joined c p) q → HoldsIn R B E p q
joins_hold m c R B E rule p q waits all on = record {
  root = λ r. rule.root_runs (joined c p) q (rule.root_joins p r waits all) on;
  branch = λ pp i b. rule.branch_runs pp (joined c p) q i (rule.branch_joins pp p i b waits all) on;
  ended = λ i. rule.rested p q waits on i all;
}

-- a thread other than 1 has a last life, and its parent waited for it
ends_told : {V S : Type 0} → (m : Meaning V S) (c : Code) (R : Life V S → Type 0) (B : Life V S → ℕ → Life V S → Type 0) (E : Life V S → ℕ → Type 0) → HoldsOn m c R B E → (f : Lives V S) (n : ℕ) (v : Option V)
    → (n ≡ 1 → ⊥) → ended_of m c (f n) ≡ Some v → AreHeld R B E f → (p : Life V S) (i k : ℕ) → 1 ≤ k → 1 ≤ i → i ≤ 15 → 16 * k + i ≡ n → f k ≡ Some p → E p i
ends_told {V} {S} m c R B E rule f n v other ends held p i k some low high name lives = by (f n) refl ends
  where
    up : n / 16 ≡ k
    up = omega (arith, name, high)

    place : n % 16 ≡ i
    place = omega (arith, name, high)

    by : (o : Option (Life V S)) → f n ≡ o → ended_of m c o ≡ Some v → E p i
    by None is ended = cc
    by (Some l) is ended = rule.branch_ends p l i v (subst (λ z. B p z l) place (held.branches n p l (omega (arith, place, low)) other is (ap f up ∙ lives))) ended

parent_waits : {V S : Type 0} → (m : Meaning V S) (c : Code) (R : Life V S → Type 0) (B : Life V S → ℕ → Life V S → Type 0) (E : Life V S → ℕ → Type 0) → HoldsOn m c R B E → (f : Lives V S) (n : ℕ) (v : Option V)
    → (n ≡ 1 → ⊥) → ended_of m c (f n) ≡ Some v → AreHeld R B E f → (p : Life V S) → f (n / 16) ≡ Some p → is_waiting p.stage ≡ true
parent_waits {V} {S} m c R B E rule f n v other ends held p lives = by (f n) refl ends
  where
    by : (o : Option (Life V S)) → f n ≡ o → ended_of m c o ≡ Some v → is_waiting p.stage ≡ true
    by None is ended = cc
    by (Some l) is ended = rule.waits p l (n % 16) (held.branches n p l (held.named n l is other) other is lives)

pub settles_hold : {V S : Type 0} → (m : Meaning V S) (c : Code) (R : Life V S → Type 0) (B : Life V S → ℕ → Life V S → Type 0) (E : Life V S → ℕ → Type 0) → HoldsOn m c R B E → (n : ℕ) (f g : Lives V S) (d e : Option V)
    → (f 0 ≡ None) → Settles m c n f d g e → AreHeld R B E f → AreHeld R B E g
settles_hold m c R B E rule n f g d e zero_none (goes_on n2 f2 d2 going) held = held
settles_hold m c R B E rule n f g d e zero_none (main_ends f2 g2 d2 v ends is) held =
    dropped R B E f g 1 is (λ p i k some low high name lives. absurd (omega (arith, some, name))) held
settles_hold m c R B E rule n f g d e zero_none (others_live n2 f2 g2 d2 v other ends is more) held = dropped R B E f g n is (ends_told m c R B E rule f n v other ends held) held
settles_hold m c R B E rule n f last d e zero_none (joins n2 f2 g h last2 d2 v e2 p q other ends is none lives on changes settles) held =
    let waits = parent_waits m c R B E rule f n v other ends held p (some_of f n (n / 16) p (sym (is (n / 16)) ∙ lives)) in
    let left = dropped R B E f g n is (ends_told m c R B E rule f n v other ends held) held in
    let some : 1 ≤ n / 16 = lives_above (n / 16) p lives in
    settles_hold m c R B E rule (n / 16) h last d e (zero_stays some) settles
    (replaced R B E g h (n / 16) p q lives none (joins_hold m c R B E rule p q waits (all_ended R B E g (n / 16) p some lives none left) on) changes left)
  where
    g_zero : g 0 ≡ None
    g_zero = by (g 0) refl
      where
        by : (o : Option (Life _ _)) → g 0 ≡ o → g 0 ≡ None
        by None z = z
        by (Some l) z = (let clash : None ≡ Some l = sym zero_none ∙ some_of f n 0 l (sym (is 0) ∙ z) in cc)

    lives_above : (k : ℕ) (l : Life _ _) → g k ≡ Some l → 1 ≤ k
    lives_above zero l z = (let clash : None ≡ Some l = sym g_zero ∙ z in cc)
    lives_above (suc k) l z = omega arith

    zero_stays : 1 ≤ n / 16 → h 0 ≡ None
    zero_stays some = changes 0 ∙ changed_other g (n / 16) (Some q) 0 (λ z. omega (arith, z, some)) ∙ g_zero

pub resumes_hold : {V S : Type 0} → (m : Meaning V S) (c : Code) (R : Life V S → Type 0) (B : Life V S → ℕ → Life V S → Type 0) (E : Life V S → ℕ → Type 0) → HoldsOn m c R B E → (n : ℕ) (f g : Lives V S) (d e : Option V)
    → (f 0 ≡ None) → 1 ≤ n → ((p : Life V S) → f n ≡ Some p → is_waiting p.stage ≡ true) → Resumes m c n f d g e → AreHeld R B E f → AreHeld R B E g
resumes_hold m c R B E rule n f g d e zero_none one waits (some_live n2 f2 d2 more) held = held
resumes_hold m c R B E rule n f last d e zero_none one waits (none_lives n2 f2 h last2 d2 e2 p q none lives on changes settles) held =
    settles_hold m c R B E rule n h last d e (changes 0 ∙ changed_other f n (Some q) 0 (λ z. omega (arith, z, one)) ∙ zero_none) settles
    (replaced R B E f h n p q lives none (joins_hold m c R B E rule p q (waits p lives) (all_ended R B E f n p one lives none held) on) changes held)

-- an answer
pub fed_holds : {V S : Type 0} → (m : Meaning V S) (c : Code) (R : Life V S → Type 0) (B : Life V S → ℕ → Life V S → Type 0) (E : Life V S → ℕ → Type 0) → HoldsOn m c R B E → (n : ℕ) (f g : Lives V S) (d e : Option V) (reply : ReplyOf V S)
    → f 0 ≡ None → 1 ≤ n → (fed : IsFed m c f d n reply g e) → (HasBranch f n → ⊥) → HoldsIn R B E fed.life (answered m c fed.life reply) → ((i : ℕ) → E fed.next i) → AreHeld R B E f → AreHeld R B E g
fed_holds m c R B E rule n f g d e reply zero_none one fed none change rests held =
    settles_hold m c R B E rule n fed.lives g d e (fed.changes 0 ∙ changed_other f n (Some fed.next) 0 (λ z. omega (arith, z, one)) ∙ zero_none) fed.settles (replaced R B E f fed.lives n fed.life fed.next fed.lived none (record {
      root = λ r. rule.root_runs (answered m c fed.life reply) fed.next (change.root r) fed.runs;
      branch = λ p i b. rule.branch_runs p (answered m c fed.life reply) fed.next i (change.branch p i b) fed.runs;
      ended = rests;
    }) fed.changes held)

-- A fork.

pub forked_holds : {V S : Type 0} → (m : Meaning V S) (c : Code) (R : Life V S → Type 0) (B : Life V S → ℕ → Life V S → Type 0) (E : Life V S → ℕ → Type 0) → HoldsOn m c R B E → (n : ℕ) (f g : Lives V S) (d e : Option V) (stacks : List S)
    → f 0 ≡ None → (forked : IsForked m c f d n stacks g e) → (HasBranch f n → ⊥) → ((k : ℕ) (l : Life V S) → f k ≡ Some l → (k ≡ 1 → ⊥) → HasParent f k) → 1 ≤ n → length stacks ≤ 15
    → (R forked.life → R (at_fork forked.life)) → ((p : Life V S) (i : ℕ) → B p i forked.life → B p i (at_fork forked.life))
    → ((i : ℕ) (b : Life V S) → slice_get forked.branches i ≡ Some b → B (at_fork forked.life) (suc i) b) → ((i : ℕ) → length forked.branches < i → E (at_fork forked.life) i)
    → ((i j : ℕ) (b : Life V S) → slice_get forked.branches i ≡ Some b → E b j) → AreHeld R B E f → AreHeld R B E g
forked_holds {V} {S} m c R B E rule n f g d e stacks zero_none forked none parents some few root_forks branch_forks begins beyond fresh held =
    resumes_hold m c R B E rule n forked.lives g d e lives_zero some waits forked.resumes
    (record { root = λ l lives. at_root l (which now n 1 (at_fork forked.life) l (sym (forked.changes 1) ∙ lives)); branches = branch; ended = gone; named = name })
  where
    now : Lives V S
    now = planted m c f n 1 forked.branches

    waits : (p : Life V S) → forked.lives n ≡ Some p → is_waiting p.stage ≡ true
    waits p lives =
        let both : Some (at_fork forked.life) ≡ Some p = sym (changed_here now n (Some (at_fork forked.life))) ∙ sym (forked.changes n) ∙ lives in
        let one : at_fork forked.life ≡ p = cc in
        subst (λ (z : Life V S). is_waiting z.stage ≡ true) one refl

    now_zero : (o : Option (Life V S)) → now 0 ≡ o → now 0 ≡ None
    now_zero None z = z
    now_zero (Some l) z = ⊎_elim (λ (old : f 0 ≡ Some l). let clash : None ≡ Some l = sym zero_none ∙ old in cc)
        (λ (new : IsPlanted n 1 0 forked.branches l). let x = new.name in absurd (omega (arith, x))) (planted_is m c f n 1 0 forked.branches l z)

    lives_zero : forked.lives 0 ≡ None
    lives_zero = forked.changes 0 ∙ changed_other now n (Some (at_fork forked.life)) 0 (λ z. omega (arith, z, some)) ∙ now_zero (now 0) refl

    small : (i : ℕ) (b : Life V S) → slice_get forked.branches i ≡ Some b → i < 15
    small i b listed = (let within = slice_get_within forked.branches i b listed in let count = forked.begin.count in omega (arith, within, count, few))

    at_root : (l : Life V S) → ((1 ≡ n) × (at_fork forked.life ≡ l)) ⊎ ((1 ≡ n → ⊥) × (now 1 ≡ Some l)) → R l
    at_root l (inl same) = subst R same.1 (root_forks (held.root forked.life (ap f same.0 ∙ forked.lived)))
    at_root l (inr other) = ⊎_elim (λ (old : f 1 ≡ Some l). held.root l old) (λ (new : IsPlanted n 1 1 forked.branches l). let x = new.name in absurd (omega (arith, x, some))) (planted_is m c f n 1 1 forked.branches l other.1)

    name : (k : ℕ) (l : Life V S) → forked.lives k ≡ Some l → (k ≡ 1 → ⊥) → 0 < k % 16
    name k l lives other = ⊎_elim (λ (a : (k ≡ n) × (at_fork forked.life ≡ l)). held.named k forked.life (ap f a.0 ∙ forked.lived) other)
        (λ (a : (k ≡ n → ⊥) × (now k ≡ Some l)). ⊎_elim (λ (old : f k ≡ Some l). held.named k l old other)
        (λ (new : IsPlanted n 1 k forked.branches l). let s = small new.at l new.listed in let x = new.name in omega (arith, x, s)) (planted_is m c f n 1 k forked.branches l a.1))
        (which now n k (at_fork forked.life) l (sym (forked.changes k) ∙ lives))

    own_ended : (i : ℕ) → 1 ≤ i → now (16 * n + i) ≡ None → (b : Bool) → nat_le i (length forked.branches) ≡ b → E (at_fork forked.life) i
    own_ended i low gone_now true within =
        let x = some_at forked.branches (i - 1) (let w = leb-true _ _ within in omega (arith, w, low)) in
        let name_is : 16 * n + i ≡ 16 * n + (1 + (i - 1)) = omega (arith, low) in
        let place : suc (i - 1) ≡ i = omega (arith, low) in
        let v = ended_at_once m c f n 1 (i - 1) forked.branches x.0 x.1 (subst (λ z. now z ≡ None) name_is gone_now) in
        rule.branch_ends (at_fork forked.life) x.0 i v.0 (subst (λ z. B (at_fork forked.life) z x.0) place (begins (i - 1) x.0 x.1)) v.1
    own_ended i low gone_now false past = beyond i (let w = leb-false _ _ past in omega (arith, w))

    gone : EndedAll E forked.lives
    gone k p i one low high lives none_there =
        let gone_now = none_of now n (16 * k + i) (at_fork forked.life) (sym (forked.changes (16 * k + i)) ∙ none_there) in
        ⊎_elim
        (λ (a : (k ≡ n) × (at_fork forked.life ≡ p)). subst (λ z. E z i) a.1 (own_ended i low (subst (λ z. now (16 * z + i) ≡ None) a.0 gone_now) (nat_le i (length forked.branches)) refl))
        (λ (a : (k ≡ n → ⊥) × (now k ≡ Some p)). ⊎_elim
        (λ (old : f k ≡ Some p). held.ended k p i one low high old (planted_none m c f n 1 (16 * k + i) forked.branches gone_now))
        (λ (new : IsPlanted n 1 k forked.branches p). fresh new.at i p new.listed)
        (planted_is m c f n 1 k forked.branches p a.1))
        (which now n k (at_fork forked.life) p (sym (forked.changes k) ∙ lives))

    old_branch : (k : ℕ) (l : Life V S) → 0 < k % 16 → f k ≡ Some l → k / 16 ≡ n → ⊥
    old_branch k l low lives up = (let name_is : 16 * n + k % 16 ≡ k = omega (arith, up) in none (k % 16, omega (arith, low), omega arith, (l, ap f name_is ∙ lives)))

    branch : (k : ℕ) (p l : Life V S) → 0 < k % 16 → (k ≡ 1 → ⊥) → forked.lives k ≡ Some l → forked.lives (k / 16) ≡ Some p → B p (k % 16) l
    branch k p l low other lives parent =
        by (which now n k (at_fork forked.life) l (sym (forked.changes k) ∙ lives)) (which now n (k / 16) (at_fork forked.life) p (sym (forked.changes (k / 16)) ∙ parent))
      where
        -- the parent is an old thread, or a new branch
        old_parent : f k ≡ Some l → now (k / 16) ≡ Some p → f (k / 16) ≡ Some p
        old_parent was now_p = ⊎_elim (λ (old : f (k / 16) ≡ Some p). old)
            (λ (new : IsPlanted n 1 (k / 16) forked.branches p).
            let h = parents k l was other in
            let s = small new.at p new.listed in
            let x = new.name in
            absurd (old_branch (k / 16) h.1.0 (omega (arith, x, s)) h.1.1 (omega (arith, x, s))))
            (planted_is m c f n 1 (k / 16) forked.branches p now_p)

        by : ((k ≡ n) × (at_fork forked.life ≡ l)) ⊎ ((k ≡ n → ⊥) × (now k ≡ Some l)) → ((k / 16 ≡ n) × (at_fork forked.life ≡ p)) ⊎ ((k / 16 ≡ n → ⊥) × (now (k / 16) ≡ Some p)) → B p (k % 16) l
        by (inl a) (inl b) = (let x = a.0 in let y = b.0 in absurd (omega (arith, x, y, low)))
        by (inl a) (inr b) =
            let was : f k ≡ Some forked.life = ap f a.0 ∙ forked.lived in
            let up : f (k / 16) ≡ Some p = ⊎_elim (λ (old : f (k / 16) ≡ Some p). old)
            (λ (new : IsPlanted n 1 (k / 16) forked.branches p). let x = new.name in let y = a.0 in absurd (omega (arith, x, y, some))) (planted_is m c f n 1 (k / 16) forked.branches p b.1) in
            subst (B p (k % 16)) a.1 (branch_forks p (k % 16) (held.branches k p forked.life low other was up))
        by (inr a) (inl b) = ⊎_elim (λ (old : f k ≡ Some l). absurd (old_branch k l low old b.0))
            (λ (new : IsPlanted n 1 k forked.branches l).
            let s = small new.at l new.listed in
            let x = new.name in
            let place : suc new.at ≡ k % 16 = omega (arith, x, s) in
            subst (λ z. B z (k % 16) l) b.1 (subst (λ z. B (at_fork forked.life) z l) place (begins new.at l new.listed)))
            (planted_is m c f n 1 k forked.branches l a.1)
        by (inr a) (inr b) = ⊎_elim (λ (old : f k ≡ Some l). held.branches k p l low other old (old_parent old b.1))
            (λ (new : IsPlanted n 1 k forked.branches l). let s = small new.at l new.listed in let x = new.name in absurd (b.0 (omega (arith, x, s))))
            (planted_is m c f n 1 k forked.branches l a.1)
