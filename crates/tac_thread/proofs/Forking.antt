-- Forks: how many branches there are, and where they live.
use Rattle.std.proofs.Common.{◌≡◌, ℕ, zero, suc, ◌+◌, ◌*◌, ◌/◌, ◌%◌, ◌<◌, ◌≤◌, ◌^◌, Bool, true, false, List, [], ◌∷◌, ◌++◌, length, get_or, refl, sym, ap, ◌∙◌, subst, arith, Option, Some, None, cond, ⊎_elim, ◌⊎◌, inl, inr, add-one, drop, lit≤}
use Rattle.std.specs.Prelude.{slice_get, nat_le, nat_lt, IsSome}
use Rattle.std.proofs.lemmas.Bool.{cases_eq}
use Rattle.std.proofs.lemmas.List.{length_push}
use Rattle.std.proofs.lemmas.Option.{slice_get-get_or}
use Rattle.tac_ir.specs.declared.code.Code.{Code}
use Rattle.tac_ir.specs.declared.code.Fun.{Fun}
use Rattle.tac_ir.specs.declared.code.Lined.{Lined}
use Rattle.tac_ir.specs.declared.code.Instr.{Instr}
use Rattle.tac_ir.specs.Layout.{lines_of}
use Rattle.tac_ir.specs.GoodForm.{GoodForm, ForksWell}
use Rattle.tac_ir.specs.Answers.{depth_within, depth_of}
use Rattle.tac_thread.specs.declared.guest.Activation.{Activation}
use Rattle.tac_thread.specs.declared.guest.Stage.{Stage}
use Rattle.tac_thread.specs.declared.doing.Doing.{Doing}
use Rattle.tac_thread.specs.declared.want.Want.{Want}
use Rattle.tac_thread.specs.Meaning.{Meaning}
use Rattle.tac_thread.specs.tools.Fetched.{instr_in}
use Rattle.tac_thread.specs.Life.{Life, instr_of}
use Rattle.tac_thread.specs.Doing.{doing, asked, given, tested, leaves, link_write, want_at, want_of}
use Rattle.tac_thread.specs.RunsOn.{RunsOn}
use Rattle.tac_thread.specs.Begun.{branch_of}
use Rattle.tac_thread.specs.Guests.{IsGuestOf}
use Rattle.tac_thread.specs.Threads.{Threads, Lives, life_in, is_waiting, running, want_of_life, changed, HasBranch, ended_of, Resumes, HasParent, AreGuests, IsTree, at_fork, with_branch, planted, IsStuck, TakesStacks, IsSame, Forks, ForksBy}
use Rattle.tac_thread.specs.tools.Settling.{IsWaiting, ArePlantable, IsFreeFor, IsApart, IsPlanting}
use Rattle.std.specs.Ordering.{nat_cmp}
use Rattle.std.specs.BTreeMap.{is_at}
use Rattle.tac_thread.proofs.Trees.{changed_here, changed_other, running_is, some_is}

-- How many branches a fork has.

abbrev fork_in : {X : Type 0} → Option (Want X) → Option ℕ
fork_in (Some (Want.Fork n)) = Some n
fork_in want = None

abbrev fork_at : Instr → Option ℕ
fork_at (Instr.Fork join entries) = Some (length entries)
fork_at i = None

given-forks : {X : Type 0} (to : ℕ) (v : Option X) → fork_in (asked (given to v)) ≡ None
given-forks to None = refl
given-forks to (Some v) = refl

divided-forks : {X : Type 0} (to : ℕ) (v : Option X) (b : Bool) → fork_in (asked {V = X} (elim b [ true ↦ Doing.Asks Want.Zero | false ↦ given to v ])) ≡ None
divided-forks to v true = refl
divided-forks to v false = given-forks to v

tested-forks : (X : Type 0) (y z : ℕ) (b : Option Bool) → fork_in (asked {V = X} (tested y z b)) ≡ None
tested-forks X y z None = refl
tested-forks X y z (Some true) = refl
tested-forks X y z (Some false) = refl

leaves-forks : (X : Type 0) (r : ℕ) (link : Option ℕ) → fork_in (asked {V = X} (leaves r link)) ≡ None
leaves-forks X r None = refl
leaves-forks X r (Some w) = refl

doing-forks : {X T : Type 0} (m : Meaning X T) (c : Code) (a : Activation X T) (i : Instr) → fork_in (asked (doing m c a i)) ≡ fork_at i
doing-forks m c a (Instr.Un to op x) = given-forks to _
doing-forks m c a (Instr.Bin to op x y) = divided-forks to _ _
doing-forks m c a (Instr.Field to x shape k) = given-forks to _
doing-forks m c a (Instr.Decay to x shape) = given-forks to _
doing-forks m c a (Instr.Index to x y words) = given-forks to _
doing-forks m c a (Instr.Ret x (Some r)) = leaves-forks _ r _
doing-forks m c a (Instr.Test x y z) = tested-forks _ y z _
doing-forks m c a (Instr.Fork join entries) = refl
doing-forks m c a i = refl

link-forks : (X : Type 0) (i : Instr) (link : Option ℕ) → fork_in {X = X} (link_write i link) ≡ None
link-forks X (Instr.Call to f d args) (Some w) = refl
link-forks X (Instr.Call to f d args) None = refl
link-forks X i link = refl

few_entries : (c : Code) → GoodForm c → (f at n : ℕ) → fork_at (instr_in (lines_of c f) at) ≡ Some n → n ≤ 15
few_entries c good f at n is = by (slice_get c.funs f) refl is
  where
    at_fork_of : (fun : Fun) (l : Lined) (i : Instr) → i ≡ l.instr → ForksWell fun.code at l.instr → fork_at i ≡ Some n → n ≤ 15
    at_fork_of fun l (Instr.Fork join entries) same well is =
        let w = subst (λ j. ForksWell fun.code at j) (sym same) well in
        let count : length entries ≡ n = cc in omega (arith, w.count, count)
    at_fork_of fun l i same well is = cc

    here : (fun : Fun) → slice_get c.funs f ≡ Some fun → (o : Option Lined) → slice_get fun.code at ≡ o → fork_at (elim o [ None ↦ Instr.End | Some l ↦ l.instr ]) ≡ Some n → n ≤ 15
    here fun found None line is = cc
    here fun found (Some l) line is = at_fork_of fun l l.instr refl ((good.code f fun found).instrs at l line).fork is

    by : (o : Option Fun) → slice_get c.funs f ≡ o → fork_at (instr_in (elim o [ None ↦ [] | Some fun ↦ fun.code ]) at) ≡ Some n → n ≤ 15
    by None found is = cc
    by (Some fun) found is = here fun found (slice_get fun.code at) refl is

-- a thread forks into 15 branches at most
pub few_branches : {X T : Type 0} (m : Meaning X T) (c : Code) (l : Life X T) (n : ℕ) → GoodForm c → want_of m c l ≡ Some (Want.Fork n) → n ≤ 15
few_branches {X} {T} m c l n good want = by l.stage (ap fork_in want)
  where
    by : (s : Stage X T) → fork_in (want_at m c l.top s) ≡ Some n → n ≤ 15
    by Stage.Ready is = few_entries c good l.top.fun l.top.at n (sym (doing-forks m c l.top (instr_of c l.top)) ∙ is)
    by (Stage.Entering callee) is = let clash : None ≡ Some n = sym (link-forks X (instr_of c l.top) (m.link callee.stack)) ∙ is in cc
    by (Stage.Leaving v) is = cc
    by Stage.Waiting is = cc

-- The branches so far.

pub record AreSoFar {V S : Type 0} (m : Meaning V S) (c : Code) (l : Life V S) (stacks : List S) (n : ℕ) (branches : List (Life V S)) : Type 0 where
  pub count : length branches ≡ n
  pub each : (i : ℕ) (s : S) (b : Life V S) → slice_get stacks i ≡ Some s → slice_get branches i ≡ Some b → RunsOn m c (branch_of m c l (i + 1) s) b
  pub guests : (i : ℕ) (b : Life V S) → slice_get branches i ≡ Some b → IsGuestOf m c b

-- what stands in a list with one more at its end
pushed : {A : Type 0} (xs : List A) (y : A) (i : ℕ) (x : A) → slice_get (xs ++ y ∷ []) i ≡ Some x → (slice_get xs i ≡ Some x) ⊎ ((i ≡ length xs) × (y ≡ x))
pushed [] y zero x e = inr (refl, (cc))
pushed [] y (suc i) x e = cc
pushed (z ∷ xs) y zero x e = inl e
pushed (z ∷ xs) y (suc i) x e = ⊎_elim (λ h. inl h) (λ h. inr (ap suc h.0, h.1)) (pushed xs y i x e)

pub so_far_more : {X T : Type 0} (m : Meaning X T) (c : Code) (l : Life X T) (stacks : List T) (n i : ℕ) (branches : List (Life X T)) (s : T) (b : Life X T)
    → AreSoFar m c l stacks n branches → i ≡ n + 1 → s ≡ get_or stacks n s → n < length stacks → RunsOn m c (branch_of m c l i s) b → IsGuestOf m c b
    → AreSoFar m c l stacks (n + 1) (branches ++ b ∷ [])
so_far_more {X} {T} m c l stacks n i branches s b so_far next at inside run guest = record {
  count = omega (arith, length_push branches b, so_far.count);
  each = λ k t x given here. ⊎_elim
      (λ (old : slice_get branches k ≡ Some x). so_far.each k t x given old)
      (λ (new : (k ≡ length branches) × (b ≡ x)). (let at_n : k ≡ n = new.0 ∙ so_far.count in
      let stack : Some t ≡ Some s = sym given ∙ ap (slice_get stacks) at_n ∙ slice_get-get_or stacks n s inside ∙ ap Some (sym at) in
      let same : t ≡ s = cc in
      let index : i ≡ k + 1 = omega arith in
      subst (λ z. RunsOn m c (branch_of m c l (k + 1) t) z) new.1
      (subst (λ z. RunsOn m c (branch_of m c l (k + 1) z) b) (sym same) (subst (λ j. RunsOn m c (branch_of m c l j s) b) index run))))
      (pushed branches b k x here);
  guests = λ k x here. ⊎_elim
      (λ (old : slice_get branches k ≡ Some x). so_far.guests k x old)
      (λ (new : (k ≡ length branches) × (b ≡ x)). subst (λ z. IsGuestOf m c z) new.1 guest)
      (pushed branches b k x here);
}

-- the thread that forks
pub forking : {X T : Type 0} (m : Meaning X T) (c : Code) (f : Lives X T) (n : ℕ) (stacks : List T) (l : Life X T) → f n ≡ Some l → TakesStacks m c f n stacks → want_of m c l ≡ Some (Want.Fork (length stacks))
forking {X} {T} m c f n stacks l lived takes = by (running (f n)) refl takes.wants
  where
    by : (o : Option (Life X T)) → running (f n) ≡ o → want_of_life m c o ≡ Some (Want.Fork (length stacks)) → want_of m c l ≡ Some (Want.Fork (length stacks))
    by None is want = cc
    by (Some k) is want =
        let here = running_is (f n) k is in
        let e : Some k ≡ Some l = sym here.0 ∙ lived in
        let same : k ≡ l = cc in
        sym (ap (want_of m c) same) ∙ want

pub few_stacks : {X T : Type 0} (m : Meaning X T) (c : Code) (f : Lives X T) (n : ℕ) (stacks : List T) (l : Life X T) → GoodForm c → f n ≡ Some l → TakesStacks m c f n stacks → length stacks ≤ 15
few_stacks m c f n stacks l good lived takes = few_branches m c l (length stacks) good (forking m c f n stacks l lived takes)

-- One more branch is planted.

with_branch_other : {X T : Type 0} (m : Meaning X T) (c : Code) (g : Lives X T) (p : ℕ) (b : Life X T) (k : ℕ) → (k ≡ p → ⊥) → with_branch m c g p b k ≡ g k
with_branch_other {X} {T} m c g p b k other = by (ended_of m c (Some b))
  where
    by : (o : Option (Option X)) → elim o as (λ z. Lives X T) [ None ↦ changed g p (Some b) | Some v ↦ g ] k ≡ g k
    by None = changed_other g p (Some b) k other
    by (Some v) = refl

pub planting_more : {X T : Type 0} (m : Meaning X T) (c : Code) (f g h : Lives X T) (n i : ℕ) (all old rest : List (Life X T)) (b : Life X T) → length all ≤ 15 → old ≡ b ∷ rest
    → IsPlanting m c f n all i old g → ((k : ℕ) → h k ≡ with_branch m c g (16 * n + i) b k) → IsPlanting m c f n all (i + 1) rest h
planting_more {X} {T} m c f g h n i all old rest b few is so_far changes =
    let whole : h ≡ with_branch m c g (16 * n + i) b = λ j k. changes k j in
    let longer : length old ≡ suc (length rest) = ap length is in
    record {
      low = omega arith;
      count = omega (arith, so_far.count, longer);
      planted_is = λ k. rw add-one (ap (λ z. planted m c z n (suc i) rest k) whole ∙ sym (ap (λ bs. planted m c g n i bs k) is) ∙ so_far.planted_is k);
      others = λ k apart. changes k ∙ with_branch_other m c g (16 * n + i) b k (apart i so_far.low (omega (arith, so_far.count, longer))) ∙ so_far.others k apart;
      guests = λ j x e. so_far.guests (suc j) x (ap (λ bs. slice_get bs (suc j)) is ∙ e);
    }

pub next_guest : {X T : Type 0} (m : Meaning X T) (c : Code) (f g : Lives X T) (n i : ℕ) (all old rest : List (Life X T)) (b : Life X T) → old ≡ b ∷ rest → IsPlanting m c f n all i old g → IsGuestOf m c b
next_guest m c f g n i all old rest b is so_far = so_far.guests 0 b (ap (λ bs. slice_get bs 0) is)

pub planted_all : {X T : Type 0} (m : Meaning X T) (c : Code) (f g : Lives X T) (n i : ℕ) (all rest : List (Life X T)) → rest ≡ [] → IsPlanting m c f n all i rest g → (k : ℕ) → g k ≡ planted m c f n 1 all k
planted_all m c f g n i all rest none so_far k = sym (ap (λ bs. planted m c g n i bs k) none) ∙ so_far.planted_is k

-- without its branches the threads are those of the beginning
pub uprooted : {X T : Type 0} (m : Meaning X T) (c : Code) (s t u : Threads X T) (n i : ℕ) (all rest : List (Life X T)) (w : Threads X T) → (HasBranch (life_in s) n → ⊥) → IsPlanting m c (life_in s) n all i rest (life_in t)
    → IsSame t u → ((j : ℕ) → 1 ≤ j → j ≤ 15 → life_in w (16 * n + j) ≡ None) → ((k : ℕ) → IsApart n k → life_in w k ≡ life_in u k) → t.done ≡ s.done → w.done ≡ u.done → IsSame s w
uprooted {X} {T} m c s t u n i all rest w free so_far kept none others done last = record {
  lives = λ k. ⊎_elim
      (λ (here : k / 16 ≡ n). ⊎_elim
      (λ (first : k % 16 ≡ 0). apart_case k (λ j low high e. omega arith))
      (λ (branch : k % 16 ≡ 0 → ⊥). (let is : k ≡ 16 * n + k % 16 = omega (arith, here) in
      ap (life_in w) is ∙ none (k % 16) (omega arith) (omega arith) ∙ sym (nobody_there (k % 16) (omega arith) (omega arith)) ∙ ap (life_in s) (sym is)))
      (cases_eq (k % 16) 0))
      (λ (far : k / 16 ≡ n → ⊥). apart_case k (λ j low high e. far (omega arith)))
      (cases_eq (k / 16) n);
  done = last ∙ kept.done ∙ done;
}
  where
    apart_case : (k : ℕ) → IsApart n k → life_in w k ≡ life_in s k
    apart_case k apart = others k apart ∙ kept.lives k ∙ so_far.others k apart

    nobody_there : (j : ℕ) → 1 ≤ j → j ≤ 15 → life_in s (16 * n + j) ≡ None
    nobody_there j low high = by (life_in s (16 * n + j)) refl
      where
        by : (o : Option (Life X T)) → life_in s (16 * n + j) ≡ o → o ≡ None
        by None e = refl
        by (Some l) e = absurd (free (j, low, high, (l, e)))

pub all_plantable : {X T : Type 0} (m : Meaning X T) (c : Code) (o : Option (Life X T)) (stacks : List T) (n : ℕ) (branches : List (Life X T)) (l : Life X T) → o ≡ Some l
    → AreSoFar m c l stacks n branches → length stacks ≤ n → n ≤ length stacks → ArePlantable m c o stacks branches
all_plantable m c o stacks n branches l lived so_far past within = record {
  life = l;
  lived = lived;
  begin = record { count = omega (arith, so_far.count); each = so_far.each };
  guests = so_far.guests;
}

-- a list that loses nothing has nothing
pub nothing_left : {A : Type 0} (old new : List A) → old ≡ new → new ≡ drop 1 old → old ≡ []
nothing_left [] new same rest = refl
nothing_left (x ∷ old) new same rest = let e : x ∷ old ≡ old = same ∙ rest in absurd (omega (arith, ap length e))

-- The depth of a thread.

abbrev pow16 : ℕ → ℕ
pow16 zero = 1
pow16 (suc e) = 16 * pow16 e

pow16-some : (e : ℕ) → 1 ≤ pow16 e
pow16-some zero = omega arith
pow16-some (suc e) = omega (arith, pow16-some e)

lt-true : (a b : ℕ) → a < b → nat_lt a b ≡ true
lt-true a b h = grind (arith, nat_lt)

lt-false : (a b : ℕ) → b ≤ a → nat_lt a b ≡ false
lt-false a b h = grind (arith, nat_lt)

deep_enough : (t d n : ℕ) → d ≤ t → pow16 d ≤ n → d ≤ depth_within t n
deep_enough t zero n h p = omega arith
deep_enough zero (suc d) n h p = absurd (omega arith)
deep_enough (suc t) (suc d) n h p =
    let big : nat_lt n 16 ≡ false = lt-false n 16 (omega (arith, pow16-some d)) in
    let deeper : d ≤ depth_within t (n / 16) = deep_enough t d (n / 16) (omega arith) (omega arith) in
    let here : depth_within (suc t) n ≡ suc (depth_within t (n / 16)) = ap (λ b. elim b [ true ↦ 0 | false ↦ suc (depth_within t (n / 16)) ]) big in
    omega (arith, here, deeper)

not_deep : (t d n : ℕ) → n < pow16 (suc d) → depth_within t n ≤ d
not_deep zero d n h = omega arith
not_deep (suc t) d n h = by (nat_lt n 16) refl d h (λ e. not_deep t e (n / 16))
  where
    by : (b : Bool) → nat_lt n 16 ≡ b → (e : ℕ) → n < 16 * pow16 e → ((e : ℕ) → n / 16 < 16 * pow16 e → depth_within t (n / 16) ≤ e)
        → elim b [ true ↦ 0 | false ↦ suc (depth_within t (n / 16)) ] ≤ e
    by true is e h rest = omega arith
    by false is zero h rest = (let clash : true ≡ false = sym (lt-true n 16 (omega arith)) ∙ is in absurd (cc))
    by false is (suc e) h rest = omega (arith, rest e (omega arith))

le-true : (a b : ℕ) → a ≤ b → nat_le a b ≡ true
le-true a b h = grind (arith, nat_le)

le-false : (a b : ℕ) → b < a → nat_le a b ≡ false
le-false a b h = grind (arith, nat_le)

pub deep_is : (n : ℕ) → 2 ^ 56 ≤ n → nat_le 14 (depth_of n) ≡ true
deep_is n h = le-true 14 (depth_of n) (deep_enough 16 14 n (lit≤ tt) h)

pub not_deep_is : (n : ℕ) → n < 2 ^ 56 → nat_le 14 (depth_of n) ≡ false
not_deep_is n h = le-false 14 (depth_of n) (omega (arith, not_deep 16 13 n h))

-- Threads after a fork.

-- no thread is named 0
pub no_zero : {X T : Type 0} (m : Meaning X T) (c : Code) (f : Lives X T) (n : ℕ) (l : Life X T) → AreGuests m c f → f n ≡ Some l → 1 ≤ n
no_zero m c f n l all lived = ⊎_elim
    (λ (zero_is : n ≡ 0). absurd (let parent = all.parents n l lived (λ e. omega arith) in omega (arith, parent.0)))
    (λ (other : n ≡ 0 → ⊥). omega arith)
    (cases_eq n 0)

-- a thread that runs has no branches
pub runs_alone : {X T : Type 0} (m : Meaning X T) (c : Code) (f : Lives X T) (n : ℕ) (l : Life X T) → IsTree m c f → f n ≡ Some l → is_waiting l.stage ≡ false → HasBranch f n → ⊥
runs_alone {X} {T} m c f n l tree lived runs_now branch =
    let i = branch.0 in
    let k = 16 * n + i in
    let some = no_zero m c f n l tree.threads lived in
    let parent = tree.threads.parents k branch.3.0 branch.3.1 (λ e. omega arith) in
    let above : k / 16 ≡ n = omega (arith, branch.1, branch.2) in
    let e : Some parent.1.0 ≡ Some l = sym parent.1.1 ∙ ap f above ∙ lived in
    let same : parent.1.0 ≡ l = cc in
    let clash : true ≡ false = sym parent.1.2 ∙ ap (λ (z : Life X T). is_waiting z.stage) same ∙ runs_now in
    cc

planted_other : {X T : Type 0} (m : Meaning X T) (c : Code) (n : ℕ) (branches : List (Life X T)) (f : Lives X T) (i k : ℕ) → ((j : ℕ) → i ≤ j → j < i + length branches → k ≡ 16 * n + j → ⊥) → planted m c f n i branches k ≡ f k
planted_other m c n [] f i k apart = refl
planted_other m c n (b ∷ branches) f i k apart =
    planted_other m c n branches (with_branch m c f (16 * n + i) b) (suc i) k (λ j low high e. apart j (omega arith) (omega arith) e)
    ∙ with_branch_other m c f (16 * n + i) b k (λ e. apart i (omega arith) (omega arith) e)

-- a branch that was planted
pub record IsSprout {V S : Type 0} (m : Meaning V S) (c : Code) (n i count k : ℕ) (x : Life V S) : Type 0 where
  pub index : ℕ
  pub low : i ≤ index
  pub high : index < i + count
  pub name : k ≡ 16 * n + index
  pub guest : IsGuestOf m c x
  pub going : ended_of m c (Some x) ≡ None

planted_cases : {X T : Type 0} (m : Meaning X T) (c : Code) (n : ℕ) (branches : List (Life X T)) (f : Lives X T) (i k : ℕ) (x : Life X T)
    → ((j : ℕ) (b : Life X T) → slice_get branches j ≡ Some b → IsGuestOf m c b) → planted m c f n i branches k ≡ Some x → (f k ≡ Some x) ⊎ IsSprout m c n i (length branches) k x
planted_cases m c n [] f i k x guests e = inl e
planted_cases {X} {T} m c n (b ∷ branches) f i k x guests e = ⊎_elim
    (λ (here : with_branch m c f (16 * n + i) b k ≡ Some x). by (ended_of m c (Some b)) refl here)
    (λ (later : IsSprout m c n (suc i) (length branches) k x). inr (record { index = later.index; low = omega (arith, later.low); high = omega (arith, later.high); name = later.name; guest = later.guest; going = later.going }))
    (planted_cases m c n branches (with_branch m c f (16 * n + i) b) (suc i) k x (λ j y g. guests (suc j) y g) e)
  where
    by : (o : Option (Option X)) → ended_of m c (Some b) ≡ o → elim o as (λ z. Lives X T) [ None ↦ changed f (16 * n + i) (Some b) | Some v ↦ f ] k ≡ Some x
        → (f k ≡ Some x) ⊎ IsSprout m c n i (suc (length branches)) k x
    by (Some v) ends here = inl here
    by None going here = ⊎_elim
        (λ (same : k ≡ 16 * n + i). (let new : Some b ≡ Some x = sym (changed_here f (16 * n + i) (Some b)) ∙ ap (changed f (16 * n + i) (Some b)) (sym same) ∙ here in
        let is : b ≡ x = cc in
        inr (record {
          index = i;
          low = omega arith;
          high = omega arith;
          name = same;
          guest = subst (λ z. IsGuestOf m c z) is (guests 0 b refl);
          going = subst (λ z. ended_of m c (Some z) ≡ None) is going;
        })))
        (λ (other : k ≡ 16 * n + i → ⊥). inl (sym (changed_other f (16 * n + i) (Some b) k other) ∙ here))
        (cases_eq k (16 * n + i))

-- a guest at its fork may wait
pub fork_guest : {X T : Type 0} (m : Meaning X T) (c : Code) (l : Life X T) → IsGuestOf m c l → IsGuestOf m c (at_fork l)
fork_guest m c l guest = record {
  held = record { top = guest.held.top; callers = guest.held.callers; entering = tt };
  want = Want.Waits;
  wants = refl;
}

-- threads of which one waits at its fork, with branches that were planted
pub record IsForking {V S : Type 0} (m : Meaning V S) (c : Code) (f : Lives V S) (n : ℕ) (l : Life V S) (branches : List (Life V S)) (g : Lives V S) : Type 0 where
  pub tree : IsTree m c f
  pub lived : f n ≡ Some l
  pub alone : HasBranch f n → ⊥
  pub few : length branches ≤ 15
  pub runs_now : is_waiting l.stage ≡ false
  pub guests : (j : ℕ) (b : Life V S) → slice_get branches j ≡ Some b → IsGuestOf m c b
  pub changes : (k : ℕ) → g k ≡ changed (planted m c f n 1 branches) n (Some (at_fork l)) k

-- a thread that is no branch of n is as it was
unplanted : {X T : Type 0} (m : Meaning X T) (c : Code) (f : Lives X T) (n : ℕ) (l : Life X T) (branches : List (Life X T)) (g : Lives X T) (k : ℕ) → IsForking m c f n l branches g
    → (k ≡ n → ⊥) → ((j : ℕ) → 1 ≤ j → j ≤ 15 → k ≡ 16 * n + j → ⊥) → g k ≡ f k
unplanted m c f n l branches g k here other apart =
    here.changes k ∙ changed_other (planted m c f n 1 branches) n (Some (at_fork l)) k other
    ∙ planted_other m c n branches f 1 k (λ j low high e. apart j low (omega (arith, here.few)) e)

-- a parent stays as it was
parent_kept : {X T : Type 0} (m : Meaning X T) (c : Code) (f : Lives X T) (n : ℕ) (l : Life X T) (branches : List (Life X T)) (g : Lives X T) (k : ℕ) → IsForking m c f n l branches g → HasParent f k → HasParent g k
parent_kept {X} {T} m c f n l branches g k here parent =
    let p = parent.1.0 in
    let other : k / 16 ≡ n → ⊥ = λ same. (let e : Some p ≡ Some l = sym parent.1.1 ∙ ap f same ∙ here.lived in
    let is : p ≡ l = cc in
    let clash : true ≡ false = sym parent.1.2 ∙ ap (λ (z : Life X T). is_waiting z.stage) is ∙ here.runs_now in cc) in
    let apart : (j : ℕ) → 1 ≤ j → j ≤ 15 → k / 16 ≡ 16 * n + j → ⊥ = λ j low high e. here.alone (j, low, high, (p, ap f (sym e) ∙ parent.1.1)) in
    (parent.0, (p, unplanted m c f n l branches g (k / 16) here other apart ∙ parent.1.1, parent.1.2))

pub forked_tree : {X T : Type 0} (m : Meaning X T) (c : Code) (f : Lives X T) (n : ℕ) (l : Life X T) (branches : List (Life X T)) (g : Lives X T) → IsForking m c f n l branches g → IsTree m c g
forked_tree {X} {T} m c f n l branches g here = record {
  threads = record {
    guests = λ k x e. ⊎_elim
        (λ (same : k ≡ n). (let new : Some (at_fork l) ≡ Some x = sym (at_n k same) ∙ e in let is : at_fork l ≡ x = cc in
        subst (λ z. IsGuestOf m c z) is (fork_guest m c l (here.tree.threads.guests n l here.lived))))
        (λ (other : k ≡ n → ⊥). ⊎_elim
        (λ (old : f k ≡ Some x). here.tree.threads.guests k x old)
        (λ (new : IsSprout m c n 1 (length branches) k x). new.guest)
        (found k x other e))
        (cases_eq k n);
    parents = λ k x e first. ⊎_elim
        (λ (same : k ≡ n). parent_kept m c f n l branches g k here (here.tree.threads.parents k l (ap f same ∙ here.lived) first))
        (λ (other : k ≡ n → ⊥). ⊎_elim
        (λ (old : f k ≡ Some x). parent_kept m c f n l branches g k here (here.tree.threads.parents k x old first))
        (λ (new : IsSprout m c n 1 (length branches) k x). (let above : k / 16 ≡ n = omega (arith, new.name, new.high, new.low, here.few) in
        (omega (arith, new.name, new.high, new.low, here.few), (at_fork l, at_n (k / 16) above, refl))))
        (found k x other e))
        (cases_eq k n);
  };
  going = λ k. ⊎_elim
      (λ (same : k ≡ n). ap (ended_of m c) (at_n k same))
      (λ (other : k ≡ n → ⊥). going_at k other (g k) refl)
      (cases_eq k n);
}
  where
    at_n : (k : ℕ) → k ≡ n → g k ≡ Some (at_fork l)
    at_n k same = ap g same ∙ here.changes n ∙ changed_here (planted m c f n 1 branches) n (Some (at_fork l))

    found : (k : ℕ) (x : Life X T) → (k ≡ n → ⊥) → g k ≡ Some x → (f k ≡ Some x) ⊎ IsSprout m c n 1 (length branches) k x
    found k x other e = planted_cases m c n branches f 1 k x here.guests (sym (here.changes k ∙ changed_other (planted m c f n 1 branches) n (Some (at_fork l)) k other) ∙ e)

    going_at : (k : ℕ) → (k ≡ n → ⊥) → (o : Option (Life X T)) → g k ≡ o → ended_of m c (g k) ≡ None
    going_at k other None e = ap (ended_of m c) e
    going_at k other (Some x) e = ⊎_elim
        (λ (old : f k ≡ Some x). ap (ended_of m c) e ∙ ap (ended_of m c) (sym old) ∙ here.tree.going k)
        (λ (new : IsSprout m c n 1 (length branches) k x). ap (ended_of m c) e ∙ new.going)
        (found k x other e)

-- The call of a fork.

-- the thread that forks runs
forks_running : {X T : Type 0} (m : Meaning X T) (c : Code) (f : Lives X T) (n : ℕ) (stacks : List T) (l : Life X T) → f n ≡ Some l → TakesStacks m c f n stacks → is_waiting l.stage ≡ false
forks_running {X} {T} m c f n stacks l lived takes = by (running (f n)) refl takes.wants
  where
    by : (o : Option (Life X T)) → running (f n) ≡ o → want_of_life m c o ≡ Some (Want.Fork (length stacks)) → is_waiting l.stage ≡ false
    by None is want = cc
    by (Some k) is want =
        let here = running_is (f n) k is in
        let e : Some k ≡ Some l = sym here.0 ∙ lived in
        let same : k ≡ l = cc in
        sym (ap (λ (z : Life X T). is_waiting z.stage) same) ∙ here.1

pub free_for : {X T : Type 0} (m : Meaning X T) (c : Code) (f : Lives X T) (n : ℕ) (stacks : List T) (branches : List (Life X T)) → GoodForm c → IsTree m c f → TakesStacks m c f n stacks
    → ArePlantable m c (f n) stacks branches → IsFreeFor m c f n branches
free_for m c f n stacks branches good tree takes made = record {
  few = omega (arith, made.begin.count, few_stacks m c f n stacks made.life good made.lived takes);
  free = runs_alone m c f n made.life tree made.lived (forks_running m c f n stacks made.life made.lived takes);
  guests = made.guests;
}

-- planting leaves the thread that forks as it was
parent_planted : {X T : Type 0} (m : Meaning X T) (c : Code) (f : Lives X T) (n : ℕ) (l : Life X T) (branches : List (Life X T)) → IsTree m c f → f n ≡ Some l → planted m c f n 1 branches n ≡ Some l
parent_planted m c f n l branches tree lived =
    let some = no_zero m c f n l tree.threads lived in
    planted_other m c n branches f 1 n (λ j low high e. omega arith) ∙ lived

pub planted_lives : {X T : Type 0} (m : Meaning X T) (c : Code) (f p : Lives X T) (n : ℕ) (stacks : List T) (branches : List (Life X T)) → IsTree m c f → ArePlantable m c (f n) stacks branches
    → ((k : ℕ) → p k ≡ planted m c f n 1 branches k) → IsSome (p n)
planted_lives m c f p n stacks branches tree made is = some_is (p n) made.life (sym (is n ∙ parent_planted m c f n made.life branches tree made.lived))

pub forking_is : {X T : Type 0} (m : Meaning X T) (c : Code) (f p g : Lives X T) (d e : Option X) (n : ℕ) (stacks : List T) (branches : List (Life X T)) (made : ArePlantable m c (f n) stacks branches)
    → GoodForm c → IsTree m c f → TakesStacks m c f n stacks → ((k : ℕ) → p k ≡ planted m c f n 1 branches k) → IsStuck p d n g e → IsForking m c f n made.life branches g
forking_is {X} {T} m c f p g d e n stacks branches made good tree takes is stuck =
    let free = free_for m c f n stacks branches good tree takes made in
    let both : Some stuck.life ≡ Some made.life = sym stuck.lived ∙ is n ∙ parent_planted m c f n made.life branches tree made.lived in
    let same : stuck.life ≡ made.life = cc in
    record {
      tree = tree;
      lived = made.lived;
      alone = free.free;
      few = free.few;
      runs_now = forks_running m c f n stacks made.life made.lived takes;
      guests = made.guests;
      changes = λ k. stuck.changes k ∙ ap (λ z. changed p n (Some (at_fork z)) k) same ∙ ap (λ o. cond (is_at (nat_cmp n) k) (Some (at_fork made.life)) o) (is k);
    }

pub stuck_tree : {X T : Type 0} (m : Meaning X T) (c : Code) (f g : Lives X T) (d e : Option X) (n : ℕ) (stacks : List T) → IsTree m c f → TakesStacks m c f n stacks → IsStuck f d n g e → IsTree m c g
stuck_tree m c f g d e n stacks tree takes stuck =
    let runs_now = forks_running m c f n stacks stuck.life stuck.lived takes in
    forked_tree m c f n stuck.life [] g (record {
      tree = tree;
      lived = stuck.lived;
      alone = runs_alone m c f n stuck.life tree stuck.lived runs_now;
      few = omega arith;
      runs_now = runs_now;
      guests = λ j b e. cc;
      changes = stuck.changes;
    })

pub forking_waits : {X T : Type 0} (m : Meaning X T) (c : Code) (f : Lives X T) (n : ℕ) (l : Life X T) (branches : List (Life X T)) (g : Lives X T) → IsForking m c f n l branches g → IsWaiting m c (g n)
forking_waits m c f n l branches g here =
    (at_fork l, here.changes n ∙ changed_here (planted m c f n 1 branches) n (Some (at_fork l)), refl, fork_guest m c l (here.tree.threads.guests n l here.lived))

pub forked_is : {X T : Type 0} (m : Meaning X T) (c : Code) (f g last : Lives X T) (d b e : Option X) (n : ℕ) (stacks : List T) (branches : List (Life X T)) (made : ArePlantable m c (f n) stacks branches)
    → IsForking m c f n made.life branches g → n < 2 ^ 56 → b ≡ d → Resumes m c n g b last e → Forks m c f d n stacks last e
forked_is {X} {T} m c f g last d b e n stacks branches made here small same rest =
    subst (ForksBy m c f d n stacks last e) (sym (not_deep_is n small)) (record {
      life = made.life;
      lived = made.lived;
      branches = branches;
      begin = made.begin;
      lives = g;
      changes = here.changes;
      resumes = subst (λ z. Resumes m c n g z last e) same rest;
    })
