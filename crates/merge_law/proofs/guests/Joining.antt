-- Logs of branches joined into their parent's.
use Rattle.std.proofs.Common.{◌≡◌, ℕ, suc, ◌+◌, ◌*◌, ◌≤◌, ◌<◌, List, [], ◌∷◌, ◌++◌, length, true, refl, arith, sym, ap, subst, ◌⊎◌, inl, inr}
use Rattle.std.specs.List.{All}
use Rattle.std.proofs.lemmas.Bool.{cases_eq}
use Rattle.std.proofs.lemmas.List.Elements.{All-nil, All-cons, All-head, All-tail, All-weaker}
use Rattle.dfi_base.specs.Names.{Below}
use Rattle.dfi_base.specs.Lives.{own, EndedIn}
use Rattle.dfi_base.specs.Joined.{IsJoined}
use Rattle.dfi_base.specs.Joined.IsJoined.{forked, child, other}
use Rattle.dfi_base.proofs.Names.{low_below, siblings}
use Rattle.dfi_base.proofs.Entries.{few_branches}
use Rattle.dfi_base.proofs.Joining.{own_beside, ended_child, ended_beside, next_child, next_beside, join, few_joined}
use Rattle.dfi_base.proofs.FirstLives.{first_lives}
use Rattle.tac_ir.specs.declared.run.Entry.{Entry}
use Rattle.tac_ir.specs.Module.{Module}
use Rattle.tac_ir.specs.Path.{Start}
use Rattle.tac_ir.specs.Threads.{threads_of, root_start}
use Rattle.tac_ir.proofs.Living.{deterministic}
use Rattle.path_law.specs.Standing.{IsAt}
use Rattle.path_law.proofs.Laws
use Rattle.merge_law.specs.Logs.{FitsWant, IsLogOf}
use Rattle.merge_law.specs.Stops.{has_stop}
use Rattle.merge_law.specs.Guests.{IsOfBranch, IsBranchOf}
use Rattle.merge_law.specs.GuestLaws.{JoinsOne, JoinedAll, StaysLeft, LeftLives, StopsStay}
use Rattle.merge_law.proofs.runs.Stops.{stop_more, stop_under}

-- the whole log
whole_log : (m : Module) (n q : ℕ) (s sq : Start) (tail rest whole part : List Entry) → IsBranchOf m n s tail q sq → IsLogOf m n s rest → IsLogOf m q sq part
    → IsJoined (threads_of m) q tail whole rest part → IsLogOf m n s whole
whole_log m n q s sq tail rest whole part branch log below j = record {
  grown = join (threads_of m) n q s sq tail branch.begins branch.none (FitsWant m) whole rest part j log.few log.grown below.grown;
  few = few_joined (threads_of m) q tail whole rest part j log.few below.few;
}

long : (m : Module) (q : ℕ) (tail whole rest part : List Entry) → IsJoined (threads_of m) q tail whole rest part → length tail ≤ length rest
long m q tail whole rest part forked = omega arith
long m q tail whole rest part (child e w o p below j) = long m q tail w o p j
long m q tail whole rest part (other e w o p apart j) = let l = long m q tail w o p j in omega (arith, l)

newer_of : (m : Module) (q : ℕ) (P : Entry → Type 0) (tail whole rest part : List Entry) → IsJoined (threads_of m) q tail whole rest part → ((e : Entry) → Below q e.name.0 → P e)
    → (newer : List Entry) → rest ≡ newer ++ tail → All P newer → (all : List Entry) × (whole ≡ all ++ tail) × All P all
newer_of m q P tail whole rest part forked mine newer is all = ([], refl, All-nil P)
newer_of m q P tail whole rest part (child e w o p below j) mine newer is all =
    let r = newer_of m q P tail w o p j mine newer is all in
    (e ∷ r.0, ap (λ l. e ∷ l) r.1, All-cons P e r.0 (mine e below) r.2)
newer_of m q P tail whole rest part (other e w o p apart j) mine [] is all = absurd (let l = long m q tail w o p j in omega (arith, l, ap length is))
newer_of m q P tail whole rest part (other e w o p apart j) mine (y ∷ newer) is all =
    let same : y ≡ e = cc in
    let behind : o ≡ newer ++ tail = cc in
    let r = newer_of m q P tail w o p j mine newer behind (All-tail P y newer all) in
    (e ∷ r.0, ap (λ l. e ∷ l) r.1, All-cons P e r.0 (subst P same (All-head P y newer all)) r.2)

not_above : (n j : ℕ) → Below (16 * n + suc j) n → ⊥
not_above n j b = let low = low_below (16 * n + suc j) n b in omega (arith, low)

pub joins_one : JoinsOne
joins_one m n s sq tail rest whole part l j few now branch log over shuffled =
    let k = threads_of m in
    let q = 16 * n + suc j in
    let r = newer_of m q (IsOfBranch n (suc j)) tail whole rest part shuffled (λ e below. (suc j, omega arith, omega arith, below)) now.newer now.is
    (All-weaker (IsOfBranch n j) (IsOfBranch n (suc j)) (λ e x. (x.0, x.1, let high = x.2 in omega (arith, high), x.3)) now.newer now.names) in
    let same = own_beside k n q s sq tail branch.begins branch.none whole rest part shuffled n (not_above n j) in
    record {
      log = whole_log m n q s sq tail rest whole part branch now.log log shuffled;
      stands = subst (λ o. IsAt m.code s o l) (sym same) now.stands;
      newer = r.0;
      is = r.1;
      names = r.2;
      gone = λ i low high. by i low high (cases_eq i (suc j));
    }
  where
    by : (i : ℕ) → 0 < i → i ≤ suc j → (i ≡ suc j) ⊎ (i ≡ suc j → ⊥) → EndedIn (threads_of m) n s whole (16 * n + i)
    by i low high (inl this) =
        subst (λ x. EndedIn (threads_of m) n s whole (16 * n + x)) (sym this)
        (ended_child (threads_of m) n (16 * n + suc j) s sq tail branch.begins branch.none whole rest part shuffled (16 * n + suc j) over)
    by i low high (inr differs) =
        ended_beside (threads_of m) n (16 * n + suc j) s sq tail branch.begins branch.none whole rest part shuffled (few_branches (threads_of m) rest now.log.few) (16 * n + i)
        (siblings n (suc j) i (λ same. differs (sym same)) (omega arith) few low (omega (arith, few, high))) (now.gone i low (omega (arith, high, differs)))

pub joined_all : JoinedAll
joined_all m n s tail h l next j now all waits run = record {
  log = now.log;
  stands = Laws.joins m.code s (own (threads_of m) n h) l next now.stands waits run;
  joined = λ i low high. now.gone i low (omega (arith, high, all));
}

pub stays_left : StaysLeft
stays_left m n q s sq tail rest whole part branch log below shuffled = (
  whole_log m n q s sq tail rest whole part branch log below shuffled,
  λ left. (left.0, (left.1.0, left.1.1, next_child (threads_of m) n q s sq tail branch.begins branch.none whole rest part shuffled left.0 left.1.0 left.1.1 left.1.2)),
  λ left apart. (
    left.0,
    (
      left.1.0,
      left.1.1,
      next_beside (threads_of m) n q s sq tail branch.begins branch.none whole rest part shuffled (few_branches (threads_of m) rest log.few) left.0 left.1.0 left.1.1 apart left.1.2,
    ),
  ),
)

pub left_lives : LeftLives
left_lives m h log left over =
    first_lives (threads_of m) (λ past. FitsWant m) (deterministic m) 1 (root_start m) h log.grown log.few left.0 left.1.0 left.1.1 left.1.2 over

stop_of_part : (m : Module) (q : ℕ) (tail whole rest part : List Entry) → IsJoined (threads_of m) q tail whole rest part → has_stop part ≡ true → has_stop whole ≡ true
stop_of_part m q tail whole rest part forked some = cc
stop_of_part m q tail whole rest part (child e w o p below j) some = stop_under e p w (stop_of_part m q tail w o p j) some
stop_of_part m q tail whole rest part (other e w o p apart j) some = stop_more e w (stop_of_part m q tail w o p j some)

stop_of_rest : (m : Module) (q : ℕ) (tail whole rest part : List Entry) → IsJoined (threads_of m) q tail whole rest part → has_stop rest ≡ true → has_stop whole ≡ true
stop_of_rest m q tail whole rest part forked some = some
stop_of_rest m q tail whole rest part (child e w o p below j) some = stop_more e w (stop_of_rest m q tail w o p j some)
stop_of_rest m q tail whole rest part (other e w o p apart j) some = stop_under e o w (stop_of_rest m q tail w o p j) some

pub stops_stay : StopsStay
stops_stay m q tail whole rest part j = (stop_of_part m q tail whole rest part j, stop_of_rest m q tail whole rest part j)
