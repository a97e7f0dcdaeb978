-- The union by tickets of a parent's log and a branch's is the branch's log joined into the parent's.
use Rattle.std.proofs.Common.{◌≡◌, ℕ, ◌≤◌, ◌<◌, List, [], ◌∷◌, ◌++◌, map, reverse, refl, arith, sym, ◌∙◌, ap, subst}
use Rattle.std.specs.List.{All}
use Rattle.std.proofs.lemmas.List.{reverse-append, append_assoc}
use Rattle.std.proofs.lemmas.List.Elements.{All-cons, All-head, All-tail}
use Rattle.dfi_base.specs.Names.{Below, IsApart}
use Rattle.dfi_base.specs.Joined.{IsJoined}
use Rattle.dfi_base.specs.Joined.IsJoined.{forked, child, other}
use Rattle.tac_ir.specs.declared.run.Entry.{Entry}
use Rattle.tac_ir.specs.Module.{Module}
use Rattle.tac_ir.specs.Threads.{threads_of}
use Rattle.guest_log.specs.declared.stamped.Stamped.{Stamped}
use Rattle.guest_log.specs.Tickets.{IsRising, IsShuffle}
use Rattle.guest_log.specs.Tickets.IsShuffle.{none, first, second}
use Rattle.guest_log.specs.Shared.{history_of}
use Rattle.merge_law.specs.GuestLaws.{JoinsByTickets}

-- Histories of logs.

entries_both : (a b : List Stamped) → map (λ (s : Stamped). s.entry) (a ++ b) ≡ map (λ (s : Stamped). s.entry) a ++ map (λ (s : Stamped). s.entry) b
entries_both [] b = refl
entries_both (s ∷ a) b = ap (λ l. s.entry ∷ l) (entries_both a b)

both : (a b : List Stamped) → history_of (a ++ b) ≡ history_of b ++ history_of a
both a b = ap reverse (entries_both a b) ∙ reverse-append (map (λ (s : Stamped). s.entry) a) (map (λ (s : Stamped). s.entry) b)

one_on : (s : Stamped) (log : List Stamped) (older : List Entry) → history_of log ++ s.entry ∷ older ≡ history_of (s ∷ log) ++ older
one_on s log older = sym (ap (λ l. l ++ older) (both (s ∷ []) log) ∙ append_assoc (history_of log) (s.entry ∷ []) older)

nothing_more : (l : List Entry) → l ++ [] ≡ l
nothing_more [] = refl
nothing_more (e ∷ l) = ap (λ r. e ∷ r) (nothing_more l)

-- what holds of a shuffle holds of the first list
all_of_first : (P : Stamped → Type 0) (whole a b : List Stamped) → IsShuffle whole a b → All P whole → All P a
all_of_first P whole a b none all = all
all_of_first P whole a b (first x w o p s) all = All-cons P x o (All-head P x w all) (all_of_first P w o p s (All-tail P x w all))
all_of_first P whole a b (second x w o p s) all = all_of_first P w o p s (All-tail P x w all)

-- The tail stands still.
record IsUnder (tail newer part whole : List Stamped) : Type 0 where
  mixed : List Stamped
  is : whole ≡ tail ++ mixed
  shuffle : IsShuffle mixed newer part

module _ (fork : ℕ) where
  abbrev AtMost : Stamped → Type 0
  AtMost s = s.ticket ≤ fork

  abbrev Above : Stamped → Type 0
  Above s = fork < s.ticket

  under : (tail newer part whole a : List Stamped) → IsShuffle whole a part → a ≡ tail ++ newer → IsRising whole → All AtMost tail → All Above part → IsUnder tail newer part whole
  unfolding IsRising
  under [] newer part whole a s is rising low high = record { mixed = whole; is = refl; shuffle = subst (λ l. IsShuffle whole l part) is s }
  under (t ∷ tail) newer part whole a none is rising low high = absurd (cc)
  under (t ∷ tail) newer part whole a (first x w o p s) is rising low high =
      let same : x ≡ t = cc in
      let behind : o ≡ tail ++ newer = cc in
      let u = under tail newer p w o s behind rising.1 (All-tail AtMost t tail low) high in
      record { mixed = u.mixed; is = ap (λ y. y ∷ w) same ∙ ap (λ l. t ∷ l) u.is; shuffle = u.shuffle }
  under (t ∷ tail) newer part whole a (second x w o p s) is rising low high =
      let later : All (λ (y : Stamped). x.ticket < y.ticket) (t ∷ (tail ++ newer)) =
      subst (All (λ (y : Stamped). x.ticket < y.ticket)) is (all_of_first (λ (y : Stamped). x.ticket < y.ticket) w o p s rising.0) in
      absurd (omega (arith, All-head (λ (y : Stamped). x.ticket < y.ticket) t (tail ++ newer) later, All-head AtMost t tail low, All-head Above x p high))

-- The newer entries are put before what was joined, the oldest first.
module _ (m : Module) (q : ℕ) (tail : List Entry) where
  abbrev IsBeside : Stamped → Type 0
  IsBeside s = IsApart q s.entry.name.0

  abbrev IsWithin : Stamped → Type 0
  IsWithin s = Below q s.entry.name.0

  mixing : (whole newer part : List Stamped) → IsShuffle whole newer part → All IsBeside newer → All IsWithin part → (w o p : List Entry) → IsJoined (threads_of m) q tail w o p
      → IsJoined (threads_of m) q tail (history_of whole ++ w) (history_of newer ++ o) (history_of part ++ p)
  mixing whole newer part none beside within w o p j = j
  mixing whole newer part (first x u v y s) beside within w o p j =
      subst (λ l. IsJoined (threads_of m) q tail l (history_of (x ∷ v) ++ o) (history_of y ++ p)) (one_on x u w)
      (subst (λ l. IsJoined (threads_of m) q tail (history_of u ++ x.entry ∷ w) l (history_of y ++ p)) (one_on x v o)
      (mixing u v y s (All-tail IsBeside x v beside) within (x.entry ∷ w) (x.entry ∷ o) p (other x.entry w o p (All-head IsBeside x v beside) j)))
  mixing whole newer part (second x u v y s) beside within w o p j =
      subst (λ l. IsJoined (threads_of m) q tail l (history_of v ++ o) (history_of (x ∷ y) ++ p)) (one_on x u w)
      (subst (λ l. IsJoined (threads_of m) q tail (history_of u ++ x.entry ∷ w) (history_of v ++ o) l) (one_on x y p)
      (mixing u v y s beside (All-tail IsWithin x y within) (x.entry ∷ w) o (x.entry ∷ p) (child x.entry w o p (All-head IsWithin x y within) j)))

pub joins_by_tickets : JoinsByTickets
joins_by_tickets m q fork tail newer part whole union low high beside within =
    let u = under fork tail newer part whole (tail ++ newer) union.shuffle refl union.rising low high in
    let t : List Entry = history_of tail in
    let j = mixing m q t u.mixed newer part u.shuffle beside within t t [] forked in
    subst (λ l. IsJoined (threads_of m) q t l (history_of (tail ++ newer)) (history_of part)) (sym (ap history_of u.is ∙ both tail u.mixed))
    (subst (λ l. IsJoined (threads_of m) q t (history_of u.mixed ++ t) l (history_of part)) (sym (both tail newer))
    (subst (λ l. IsJoined (threads_of m) q t (history_of u.mixed ++ t) (history_of newer ++ t) l) (nothing_more (history_of part)) j))
