-- Logs whose tickets rise. (Exported.)
use Rattle.std.proofs.Common.{◌≡◌, ℕ, ◌<◌, List, [], ◌∷◌, ◌++◌, ap, subst, sym, arith, refl}
use Rattle.std.specs.List.{All}
use Rattle.std.proofs.lemmas.List.Elements.{All-nil, All-cons, All-head, All-tail, All-weaker, All-push}
use Rattle.guest_log.specs.declared.stamped.Stamped.{Stamped}
use Rattle.guest_log.specs.Tickets.{IsRising, IsShuffle}
use Rattle.guest_log.specs.Tickets.IsShuffle.{first}

-- what holds of the elements of two lists holds of those of both
pub all_before : (P : Stamped → Type 0) (a b : List Stamped) → All P (a ++ b) → All P a
all_before P [] b all = All-nil P
all_before P (s ∷ a) b all = All-cons P s a (All-head P s (a ++ b) all) (all_before P a b (All-tail P s (a ++ b) all))

pub all_behind : (P : Stamped → Type 0) (a b : List Stamped) → All P (a ++ b) → All P b
all_behind P [] b all = all
all_behind P (s ∷ a) b all = all_behind P a b (All-tail P s (a ++ b) all)

pub all_both : (P : Stamped → Type 0) (a b : List Stamped) → All P a → All P b → All P (a ++ b)
all_both P [] b x y = y
all_both P (s ∷ a) b x y = All-cons P s (a ++ b) (All-head P s a x) (all_both P a b (All-tail P s a x) y)

-- an empty log rises
pub none_rises : IsRising []
unfolding IsRising
none_rises = tt

-- and so does a log with a newer entry behind it
pub rises_on : (log : List Stamped) (s : Stamped) → IsRising log → All (λ (older : Stamped). older.ticket < s.ticket) log → IsRising (log ++ s ∷ [])
unfolding IsRising
rises_on [] s rising older = (All-nil (λ (newer : Stamped). s.ticket < newer.ticket), tt)
rises_on (x ∷ log) s rising older = (
  All-push (λ (newer : Stamped). x.ticket < newer.ticket) log s rising.0 (All-head (λ (o : Stamped). o.ticket < s.ticket) x log older),
  rises_on log s rising.1 (All-tail (λ (o : Stamped). o.ticket < s.ticket) x log older),
)

-- the back of a log rises
pub rising_behind : (a b : List Stamped) → IsRising (a ++ b) → IsRising b
unfolding IsRising
rising_behind [] b rising = rising
rising_behind (s ∷ a) b rising = rising_behind a b rising.1

pub rising_rest : (s : Stamped) (b : List Stamped) → IsRising (s ∷ b) → IsRising b
unfolding IsRising
rising_rest s b rising = rising.1

-- An entry newer than the last of the front, and older than the back, goes between the two.
pub between : (a b : List Stamped) (y x : Stamped) → IsRising (a ++ y ∷ b) → IsRising (x ∷ b) → y.ticket < x.ticket → IsRising (a ++ y ∷ x ∷ b)
unfolding IsRising
between [] b y x front back newer = (All-cons (λ (s : Stamped). y.ticket < s.ticket) x b newer front.0, back)
between (z ∷ a) b y x front back newer =
    let P : Stamped → Type 0 = λ s. z.ticket < s.ticket in
    let behind : All P (y ∷ b) = all_behind P a (y ∷ b) front.0 in
    let older : z.ticket < y.ticket = All-head P y b behind in (
      all_both P a (y ∷ x ∷ b) (all_before P a (y ∷ b) front.0) (All-cons P y (x ∷ b) older (All-cons P x b (omega (arith, older, newer)) (All-tail P y b behind))),
      between a b y x front.1 back newer,
    )

-- a front that only the one log has
pub shuffled_behind : (front whole a b : List Stamped) → IsShuffle whole a b → IsShuffle (front ++ whole) (front ++ a) b
shuffled_behind [] whole a b s = s
shuffled_behind (x ∷ front) whole a b s = first x (front ++ whole) (front ++ a) b (shuffled_behind front whole a b s)
