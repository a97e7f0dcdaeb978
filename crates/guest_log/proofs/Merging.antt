-- Merging two logs from the back, in the room of the one.
use Rattle.std.proofs.Common.{◌≡◌, ℕ, zero, suc, ◌+◌, ◌-◌, ◌<◌, ◌≤◌, List, [], ◌∷◌, ◌++◌, length, get_or, set, take, drop, refl, sym, ap, ◌∙◌, subst, arith, length-set}
use Rattle.std.specs.List.{All}
use Rattle.std.proofs.Math.Seq.{take-suc}
use Rattle.std.proofs.lemmas.List.{take-append-drop, drop-set, drop_more, take-set-le, take-take, take-append-le, drop_all, append_assoc}
use Rattle.std.proofs.lemmas.List.Elements.{All-get_or}
use Rattle.guest_log.specs.declared.stamped.Stamped.{Stamped}
use Rattle.guest_log.specs.Tickets.{IsRising, Differ, IsShuffle, IsUnion}
use Rattle.guest_log.specs.Tickets.IsShuffle.{none, first, second}
use Rattle.guest_log.proofs.Tickets.{rising_behind, between, shuffled_behind}

-- The first entries of the one log stand still, and so many of the other are to be placed: behind the room that they need stands what was merged.
pub record IsMerging (o ot log : List Stamped) (left more : ℕ) : Type 0 where
  pub size : length log ≡ length o + length ot
  pub left_in : left ≤ length o
  pub more_in : more ≤ length ot
  pub same : take left log ≡ take left o
  pub back : IsShuffle (drop (left + more) log) (drop left o) (drop more ot)
  pub ones : IsRising (take left o ++ drop (left + more) log)
  pub others : IsRising (take more ot ++ drop (left + more) log)

-- the first of a list, with what is behind
one_more : (l b : List Stamped) (k : ℕ) (d : Stamped) → k < length l → take (suc k) l ++ b ≡ take k l ++ get_or l k d ∷ b
one_more l b k d lt = ap (λ x. x ++ b) (take-suc l k d lt) ∙ append_assoc (take k l) (get_or l k d ∷ []) b

at_drop : (l : List Stamped) (k : ℕ) (d : Stamped) → k < length l → drop k l ≡ get_or l k d ∷ drop (suc k) l
at_drop l k d lt = let next : k + 1 ≡ suc k = omega arith in drop_more l k d lt ∙ ap (λ n. get_or l k d ∷ drop n l) next

put : (l : List Stamped) (k : ℕ) (x : Stamped) → k < length l → drop k (set l k x) ≡ x ∷ drop (suc k) l
put l k x lt = let next : k + 1 ≡ suc k = omega arith in drop-set l k x lt ∙ ap (λ n. x ∷ drop n l) next

shorter : (k : ℕ) (a b : List Stamped) → take (suc k) a ≡ take (suc k) b → take k a ≡ take k b
shorter k a b e = sym (take-take k (suc k) a (omega arith)) ∙ ap (take k) e ∙ take-take k (suc k) b (omega arith)

step_left : (o ot log : List Stamped) (k j : ℕ) (d : Stamped) → IsMerging o ot log (suc k) (suc j) → (get_or ot j d).ticket < (get_or o k d).ticket
    → IsMerging o ot (set log (k + suc j) (get_or o k d)) k (suc j)
step_left o ot log k j d i newer =
    let x : Stamped = get_or o k d in
    let y : Stamped = get_or ot j d in
    let rest : List Stamped = drop (suc k + suc j) log in
    let in_o : k < length o = omega (arith, i.left_in) in
    let in_ot : j < length ot = omega (arith, i.more_in) in
    let inside : k + suc j < length log = omega (arith, i.size, i.left_in, i.more_in) in
    let past : suc (k + suc j) ≡ suc k + suc j = omega arith in
    let placed : x ∷ rest ≡ drop (k + suc j) (set log (k + suc j) x) = ap (λ n. x ∷ drop n log) (sym past) ∙ sym (put log (k + suc j) x inside) in
    let ones : IsRising (take k o ++ x ∷ rest) = subst IsRising (one_more o rest k d in_o) i.ones in
    let others : IsRising (take j ot ++ y ∷ rest) = subst IsRising (one_more ot rest j d in_ot) i.others in
    record {
      size = length-set log (k + suc j) x ∙ i.size;
      left_in = omega (arith, i.left_in);
      more_in = i.more_in;
      same = take-set-le k log (k + suc j) x (omega arith) ∙ shorter k log o i.same;
      back = subst (λ l. IsShuffle l (drop k o) (drop (suc j) ot)) placed
          (subst (λ l. IsShuffle (x ∷ rest) l (drop (suc j) ot)) (sym (at_drop o k d in_o)) (first x rest (drop (suc k) o) (drop (suc j) ot) i.back));
      ones = subst (λ l. IsRising (take k o ++ l)) placed ones;
      others = subst (λ l. IsRising (take (suc j) ot ++ l)) placed
          (subst IsRising (sym (one_more ot (x ∷ rest) j d in_ot)) (between (take j ot) rest y x others (rising_behind (take k o) (x ∷ rest) ones) newer));
    }

-- with an entry before it that is older, where there is one
older_front : (o rest : List Stamped) (n : ℕ) (y d : Stamped) → n ≤ length o → ((k : ℕ) → n ≡ suc k → (get_or o k d).ticket < y.ticket)
    → IsRising (take n o ++ rest) → IsRising (y ∷ rest) → IsRising (take n o ++ y ∷ rest)
older_front o rest zero y d within older front back = back
older_front o rest (suc k) y d within older front back =
    let in_o : k < length o = omega (arith, within) in
    subst IsRising (sym (one_more o (y ∷ rest) k d in_o))
    (between (take k o) rest (get_or o k d) y (subst IsRising (one_more o rest k d in_o) front) back (older k refl))

step_right : (o ot log : List Stamped) (left j : ℕ) (d : Stamped) → IsMerging o ot log left (suc j) → ((k : ℕ) → left ≡ suc k → (get_or o k d).ticket < (get_or ot j d).ticket)
    → IsMerging o ot (set log (left + j) (get_or ot j d)) left j
step_right o ot log left j d i older =
    let y : Stamped = get_or ot j d in
    let rest : List Stamped = drop (left + suc j) log in
    let in_ot : j < length ot = omega (arith, i.more_in) in
    let inside : left + j < length log = omega (arith, i.size, i.left_in, i.more_in) in
    let past : suc (left + j) ≡ left + suc j = omega arith in
    let placed : y ∷ rest ≡ drop (left + j) (set log (left + j) y) = ap (λ n. y ∷ drop n log) (sym past) ∙ sym (put log (left + j) y inside) in
    let others : IsRising (take j ot ++ y ∷ rest) = subst IsRising (one_more ot rest j d in_ot) i.others in
    record {
      size = length-set log (left + j) y ∙ i.size;
      left_in = i.left_in;
      more_in = omega (arith, i.more_in);
      same = take-set-le left log (left + j) y (omega arith) ∙ i.same;
      back = subst (λ l. IsShuffle l (drop left o) (drop j ot)) placed
          (subst (λ l. IsShuffle (y ∷ rest) (drop left o) l) (sym (at_drop ot j d in_ot)) (second y rest (drop left o) (drop (suc j) ot) i.back));
      ones = subst (λ l. IsRising (take left o ++ l)) placed (older_front o rest left y d i.left_in older i.ones (rising_behind (take j ot) (y ∷ rest) others));
      others = subst (λ l. IsRising (take j ot ++ l)) placed others;
    }

all_taken : (l : List Stamped) → take (length l) l ≡ l
all_taken [] = refl
all_taken (s ∷ l) = ap (λ r. s ∷ r) (all_taken l)

none_behind : (l : List Stamped) → l ++ [] ≡ l
none_behind [] = refl
none_behind (s ∷ l) = ap (λ r. s ∷ r) (none_behind l)

pub both_long : (a b : List Stamped) → length (a ++ b) ≡ length a + length b
both_long [] b = omega arith
both_long (s ∷ a) b = omega (arith, both_long a b)

-- at first all of the other's are to be placed
pub starts : (o ot : List Stamped) → IsRising o → IsRising ot → IsMerging o ot (o ++ ot) (length o) (length ot)
starts o ot rising risen =
    let gone : (l : List Stamped) → drop (length l) l ≡ [] = λ l. drop_all (length l) l (omega arith) in
    let past : drop (length o + length ot) (o ++ ot) ≡ [] = drop_all (length o + length ot) (o ++ ot) (omega (arith, both_long o ot)) in
    record {
      size = both_long o ot;
      left_in = omega arith;
      more_in = omega arith;
      same = take-append-le (length o) o ot (omega arith);
      back = subst (λ l. IsShuffle l (drop (length o) o) (drop (length ot) ot)) (sym past)
          (subst (λ l. IsShuffle [] l (drop (length ot) ot)) (sym (gone o)) (subst (λ l. IsShuffle [] [] l) (sym (gone ot)) none));
      ones = subst IsRising (sym (ap (λ l. take (length o) o ++ l) past ∙ none_behind (take (length o) o) ∙ all_taken o)) rising;
      others = subst IsRising (sym (ap (λ l. take (length ot) ot ++ l) past ∙ none_behind (take (length ot) ot) ∙ all_taken ot)) risen;
    }

-- and where all are placed, the logs are merged
pub merged : (o ot log : List Stamped) (left : ℕ) → IsMerging o ot log left 0 → IsUnion o ot log
merged o ot log left i =
    let at : left + 0 ≡ left = omega arith in
    let whole : take left o ++ drop (left + 0) log ≡ log = ap (λ n. take left o ++ drop n log) at ∙ ap (λ l. l ++ drop left log) (sym i.same) ∙ take-append-drop left log in
    record {
      shuffle = subst (λ l. IsShuffle l o ot) whole
          (subst (λ l. IsShuffle (take left o ++ drop (left + 0) log) l ot) (take-append-drop left o) (shuffled_behind (take left o) (drop (left + 0) log) (drop left o) ot i.back));
      rising = subst IsRising whole i.ones;
    }

get_or_any : (l : List Stamped) (k : ℕ) (d e : Stamped) → k < length l → get_or l k d ≡ get_or l k e
get_or_any [] k d e lt = absurd (omega (arith, lt))
get_or_any (s ∷ l) zero d e lt = refl
get_or_any (s ∷ l) (suc k) d e lt = get_or_any l k d e (omega (arith, lt))

get_or_take : (n k : ℕ) (l : List Stamped) (d : Stamped) → k < n → get_or (take n l) k d ≡ get_or l k d
get_or_take zero k l d lt = absurd (omega (arith, lt))
get_or_take (suc n) k [] d lt = refl
get_or_take (suc n) zero (s ∷ l) d lt = refl
get_or_take (suc n) (suc k) (s ∷ l) d lt = get_or_take n k l d (omega (arith, lt))

same_there : (o ot log : List Stamped) (left more k : ℕ) (d : Stamped) → IsMerging o ot log left more → k < left → get_or log k d ≡ get_or o k d
same_there o ot log left more k d i lt = sym (get_or_take left k log d lt) ∙ ap (λ l. get_or l k d) i.same ∙ get_or_take left k o d lt

-- The turns of the loop, as it reads the two lists: x and z are its own log's last, read twice.
pub turn_left : (o ot log : List Stamped) (left more : ℕ) (x z dy : Stamped) → IsMerging o ot log left more → 0 < left → 0 < more
    → x ≡ get_or log (left - 1) x → z ≡ get_or log (left - 1) z → (get_or ot (more - 1) dy).ticket < z.ticket → IsMerging o ot (set log (left + more - 1) x) (left - 1) more
turn_left o ot log zero more x z dy i some others ex ez lt = absurd (omega (arith, some))
turn_left o ot log (suc k) zero x z dy i some others ex ez lt = absurd (omega (arith, others))
turn_left o ot log (suc k) (suc j) x z dy i some others ex ez lt =
    let k1 : suc k - 1 ≡ k = omega arith in
    let j1 : suc j - 1 ≡ j = omega arith in
    let at : suc k + suc j - 1 ≡ k + suc j = omega arith in
    let in_o : k < length o = omega (arith, i.left_in) in
    let in_ot : j < length ot = omega (arith, i.more_in) in
    let o_is : (d : Stamped) → d ≡ get_or log (suc k - 1) d → d ≡ get_or o k x = λ d e. e ∙ ap (λ n. get_or log n d) k1 ∙ same_there o ot log (suc k) (suc j) k d i (omega arith) ∙ get_or_any o k d x in_o in
    let y_is : get_or ot (suc j - 1) dy ≡ get_or ot j x = ap (λ n. get_or ot n dy) j1 ∙ get_or_any ot j dy x in_ot in
    let less : (get_or ot j x).ticket < (get_or o k x).ticket = omega (arith, lt, ap (λ (s : Stamped). s.ticket) y_is, ap (λ (s : Stamped). s.ticket) (o_is z ez)) in
    subst (λ n. IsMerging o ot (set log (suc k + suc j - 1) x) n (suc j)) (sym k1)
    (subst (λ n. IsMerging o ot (set log n x) k (suc j)) (sym at)
    (subst (λ s. IsMerging o ot (set log (k + suc j) s) k (suc j)) (sym (o_is x ex)) (step_left o ot log k j x i less)))

pub turn_right : (o ot log : List Stamped) (left more : ℕ) (dy : Stamped) → Differ o ot → IsMerging o ot log left more → 0 < more
    → (0 < left → (z : Stamped) × (z ≡ get_or log (left - 1) z) × (z.ticket ≤ (get_or ot (more - 1) dy).ticket)) → IsMerging o ot (set log (left + more - 1) (get_or ot (more - 1) dy)) left (more - 1)
turn_right o ot log left zero dy apart i others old = absurd (omega (arith, others))
turn_right o ot log left (suc j) dy apart i others old =
    let j1 : suc j - 1 ≡ j = omega arith in
    let at : left + suc j - 1 ≡ left + j = omega arith in
    let in_ot : j < length ot = omega (arith, i.more_in) in
    subst (λ n. IsMerging o ot (set log (left + suc j - 1) (get_or ot n dy)) left n) (sym j1)
    (subst (λ n. IsMerging o ot (set log n (get_or ot j dy)) left j) (sym at)
    (step_right o ot log left j dy i (λ k is.
    let f = old (omega (arith, is)) in
    let z : Stamped = f.0 in
    let k1 : left - 1 ≡ k = omega (arith, is) in
    let in_o : k < length o = omega (arith, is, i.left_in) in
    let z_is : z ≡ get_or o k dy = f.1 ∙ ap (λ n. get_or log n z) k1 ∙ same_there o ot log left (suc j) k z i (omega (arith, is)) ∙ get_or_any o k z dy in_o in
    let differs : (get_or o k dy).ticket ≡ (get_or ot j dy).ticket → ⊥ =
    All-get_or (λ (t : Stamped). (get_or o k dy).ticket ≡ t.ticket → ⊥) ot j dy in_ot (All-get_or (λ (s : Stamped). All (λ (t : Stamped). s.ticket ≡ t.ticket → ⊥) ot) o k dy in_o apart) in
    omega (arith, f.2, differs, ap (λ (s : Stamped). s.ticket) z_is, ap (λ n. (get_or ot n dy).ticket) j1))))
