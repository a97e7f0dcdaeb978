-- Rows whose keys rise are their text, and each choice leaves room for those that are owed.
use Rattle.std.proofs.Common.{◌≡◌, ℕ, zero, suc, ◌+◌, ◌<◌, ◌≤◌, true, List, [], ◌∷◌, ◌++◌, length, refl, sym, ap, subst, ◌∙◌, append_assoc, length-append, arith}
use Rattle.std.specs.Fmt.{decimal}
use Rattle.line_format.specs.Lines.{greatest, numbers_text, Fit}
use Rattle.line_format.specs.tools.Format.{Next, more, last, Format, give, chain, loop, Loop, again, stop, Has, read, done}
use Rattle.line_format.specs.tools.Members.{AreMarks, members}
use Rattle.line_format.specs.tools.Rows as form
use Rattle.line_format.proofs.Laws.{Completes, Done, Judge, Law}
use Rattle.line_format.proofs.Formats.{more_last, last_is, Good, GoodTurns, exact}
use Rattle.line_format.proofs.Digits.{more_is}
use Rattle.line_format.proofs.Listing.{members_good, members_has, members_is}
use Rattle.line_format.proofs.Spells.{Spells}

spaced : AreMarks 32 10
spaced = record { apart = refl; between_no_digit = refl; end_no_digit = refl }

-- one number or more, rising
abbrev pub AreSome : List ℕ → Type 0
AreSome [] = ⊥
AreSome (x ∷ xs) = Fit true 0 (x ∷ xs)

abbrev pub some_text : List ℕ → List ℕ → List ℕ
some_text [] r = r
some_text (x ∷ xs) r = decimal x ++ numbers_text [] 32 10 xs r

pub some_members : Spells (members [] 32 10 true) AreSome some_text
some_members = record { good = members_good 32 10 true spaced []; has = some_has; is = some_is }
  where
    some_has : (ms : List ℕ) → AreSome ms → (r : List ℕ) → Has (members [] 32 10 true) (some_text ms r) ms r
    some_has [] i r = absurd i
    some_has (x ∷ xs) i r = members_has 32 10 true spaced [] x xs i r

    some_is : (ts ms r : List ℕ) → Has (members [] 32 10 true) ts ms r → AreSome ms × (ts ≡ some_text ms r)
    some_is ts ms r h =
        let (x, xs, e, fit, w) = members_is 32 10 true spaced [] ts ms r h in
        subst (λ z. AreSome z × (ts ≡ some_text z r)) (sym e) (fit, w)

module _ {K S : Type 0} (key : S → ℕ → Format K) (next : K → S) (Open : S → ℕ → Type 0) (From : S → K → Type 0) (Room : K → ℕ → Type 0) (put : K → List ℕ → List ℕ) where
  -- what keys must keep
  pub record AreKeys : Type 1 where
    pub spells : (s : S) (owed : ℕ) → Open s owed → Spells (key s owed) (λ k. From s k × Room k owed) put
    pub next_open : (s : S) (k : K) (n : ℕ) → Open s (suc n) → From s k → Room k (suc n) → Open (next k) n
    pub takes : (k : K) (r : List ℕ) → length r < length (put k r)
    pub none_owed : (s : S) (k : K) → From s k → Room k 0
    -- a key before one that leaves room leaves room for one more
    pub room_before : (s : S) (k j : K) (n : ℕ) → n < greatest → From s k → From (next k) j → Room j n → Room k (suc n)

  abbrev pub Row : Type 0
  Row = K × List ℕ

  abbrev pub row_text : Row → List ℕ → List ℕ
  row_text x r = put x.0 (some_text x.1 r)

  abbrev pub rows_text : List Row → List ℕ → List ℕ
  rows_text [] r = r
  rows_text (x ∷ xs) r = row_text x (rows_text xs r)

  abbrev pub AreRows : S → List Row → Type 0
  AreRows s [] = Unit {0}
  AreRows s (x ∷ xs) = From s x.0 × AreSome x.1 × AreRows (next x.0) xs

  module _ (keys : AreKeys) where
    row_spells : (s : S) (owed : ℕ) → Open s owed → Spells {A = Row} (form.row key next s owed) (λ x. (From s x.0 × Room x.0 owed) × AreSome x.1) row_text
    row_spells s owed way =
        let k = keys.spells s owed way in
        record {
          good = (k.good, λ a g. (some_members.good, λ b h. tt));
          has = λ x (i, j) r. (x.0, some_text x.1 r, k.has x.0 i (some_text x.1 r), (x.1, r, some_members.has x.1 j r, (refl, refl)));
          is = λ ts x r (a, m, h, (b, n, g, (e, w))).
              let (i, t) = k.is ts a m h in
              let (j, u) = some_members.is m b n g in
              subst (λ z. ((From s z.0 × Room z.0 owed) × AreSome z.1) × (ts ≡ row_text z r)) e ((i, j), t ∙ ap (λ z. put a z) (u ∙ ap (λ z. some_text b z) w));
        }

    abbrev State : Type 0
    State = List Row × (S × ℕ)

    abbrev Many : State → List ℕ → List Row → List ℕ → Type 0
    Many t ts xs r = Has (loop (form.next_row key next) t) ts xs r

    -- keys that rise leave room for those behind
    room_of : (s : S) (x : Row) (xs : List Row) → From s x.0 → AreRows (next x.0) xs → length xs ≤ greatest → Room x.0 (length xs)
    room_of s x [] i is few = keys.none_owed s x.0 i
    room_of s x (y ∷ ys) i (j, some, js) few = keys.room_before s x.0 y.0 (length ys) (omega arith) i j (room_of (next x.0) y ys j js (omega arith))

    many_has : (xs found : List Row) (x : Row) (s : S) (n : ℕ) → length xs ≡ n → n ≤ greatest → Open s n → From s x.0 → AreSome x.1 → AreRows (next x.0) xs → (r : List ℕ)
        → Many (found, (s, n)) (row_text x (rows_text xs r)) (found ++ x ∷ xs) r
    many_has [] found x s zero count few way i some is r = stop (x, r, (row_spells s 0 way).has x ((i, keys.none_owed s x.0 i), some) r, (refl, refl))
    many_has [] found x s (suc n) count few way i some is r = absurd (omega arith)
    many_has (y ∷ ys) found x s zero count few way i some is r = absurd (omega arith)
    many_has (y ∷ ys) found x s (suc n) count few way i some (j, more_some, js) r =
        let room : Room x.0 (suc n) = subst (λ z. Room x.0 z) count (room_of s x (y ∷ ys) i (j, more_some, js) (omega arith)) in
        subst (λ z. Many (found, (s, suc n)) (row_text x (rows_text (y ∷ ys) r)) z r) (append_assoc found (x ∷ []) (y ∷ ys))
        (again (x, rows_text (y ∷ ys) r, (row_spells s (suc n) way).has x ((i, room), some) (rows_text (y ∷ ys) r), (refl, refl))
        (many_has ys (found ++ x ∷ []) y (next x.0) n (omega arith) (omega arith) (keys.next_open s x.0 n way i room) j more_some js r))

    -- ---- what was read

    OneRow : S → ℕ → List ℕ → Row → List ℕ → Type 0
    OneRow s n ts x r = (From s x.0 × Room x.0 n) × AreSome x.1 × (ts ≡ row_text x r)

    row_more : (found : List Row) (s : S) (n : ℕ) → Open s n → (y : State) (ts r : List ℕ) → Has (form.next_row key next (found, (s, n))) ts (more y) r
        → (x : Row) × (k : ℕ) × (n ≡ suc k) × OneRow s n ts x r × (◌≡◌ {A = State} (found ++ x ∷ [], (next x.0, k)) y)
    unfolding OneRow
    row_more found s zero way y ts r (x, m, h, (e, w)) = absurd (more_last (sym e))
    row_more found s (suc k) way y ts r (x, m, h, (e, w)) =
        let ((i, some), t) = (row_spells s (suc k) way).is ts x m h in
        (x, k, refl, (i, some, t ∙ ap (λ z. row_text x z) w), more_is (found ++ x ∷ [], (next x.0, k)) e)

    row_last : (found : List Row) (s : S) (n : ℕ) → Open s n → (xs : List Row) (ts r : List ℕ) → Has (form.next_row key next (found, (s, n))) ts (last xs) r
        → (x : Row) × (n ≡ 0) × OneRow s n ts x r × (found ++ x ∷ [] ≡ xs)
    unfolding OneRow
    row_last found s (suc k) way xs ts r (x, m, h, (e, w)) = absurd (more_last e)
    row_last found s zero way xs ts r (x, m, h, (e, w)) =
        let ((i, some), t) = (row_spells s 0 way).is ts x m h in
        (x, refl, (i, some, t ∙ ap (λ z. row_text x z) w), last_is (found ++ x ∷ []) e)

    AreMany : State → List ℕ → List Row → List ℕ → Type 0
    AreMany t ts all r = (x : Row) × (xs : List Row) × (all ≡ t.0 ++ x ∷ xs) × (length xs ≡ t.1.1) × From t.1.0 x.0 × AreSome x.1 × AreRows (next x.0) xs × (ts ≡ row_text x (rows_text xs r))

    many_are : {t : State} {ts : List ℕ} {all : List Row} {r : List ℕ} → Open t.1.0 t.1.1 → Many t ts all r → AreMany t ts all r
    unfolding AreMany OneRow
    many_are way (stop {x = t} {ts = ts} {r = r} {a = all} h) =
        let (x, zero_owed, (i, some, w), same) = row_last t.0 t.1.0 t.1.1 way all ts r h in
        (x, [], sym same, sym zero_owed, i.0, some, tt, w)
    many_are way (again {x = t} {y = u} {ts = ts} {m = m} {r = r} {a = all} h rest) =
        let (x, k, owed, (i, some, w), same) = row_more t.0 t.1.0 t.1.1 way u ts m h in
        let way' : Open u.1.0 u.1.1 = subst (λ z. Open z.1.0 z.1.1) same (keys.next_open t.1.0 x.0 k (subst (λ z. Open t.1.0 z) owed way) i.0 (subst (λ z. Room x.0 z) owed i.1)) in
        let (y, ys, e, count, j, more_some, js, v) = many_are way' rest in
        let left : k ≡ u.1.1 = ap (λ p. p.1.1) same in (
          x,
          y ∷ ys,
          e ∙ (ap (λ p. p.0 ++ y ∷ ys) (sym same) ∙ append_assoc t.0 (x ∷ []) (y ∷ ys)),
          omega arith,
          i.0,
          some,
          (subst (λ p. From p y.0) (sym (ap (λ p. p.1.0) same)) j, more_some, js),
          w ∙ ap (λ z. row_text x z) v,
        )

    -- ---- good

    first : (s : S) (n : ℕ) → Open s n → Completes (Has (form.row key next s n)) []
    first s n way = (exact (form.row key next s n) (row_spells s n way).good).alive

    many_alive : (n : ℕ) (s : S) (found : List Row) → Open s n → Completes (Many (found, (s, n))) []
    many_alive zero s found way =
        let f = first s 0 way in
        record { bytes = f.bytes; value = found ++ f.value ∷ []; holds = λ x. stop (f.value, x, f.holds x, (refl, refl)) }
    many_alive (suc n) s found way =
        let f = first s (suc n) way in
        let ((i, some), t) = (row_spells s (suc n) way).is (f.bytes ++ []) f.value [] (f.holds []) in
        let c : Completes (Many (found ++ f.value ∷ [], (next f.value.0, n))) [] = many_alive n (next f.value.0) (found ++ f.value ∷ []) (keys.next_open s f.value.0 n way i.0 i.1) in
        record {
          bytes = f.bytes ++ c.bytes;
          value = c.value;
          holds = λ x.
              subst (λ z. Many (found, (s, suc n)) z c.value x) (sym (append_assoc f.bytes c.bytes x))
              (again (f.value, c.bytes ++ x, f.holds (c.bytes ++ x), (refl, refl)) (c.holds x));
        }

    some_takes : (ms r : List ℕ) → length r ≤ length (some_text ms r)
    some_takes [] r = omega arith
    some_takes (x ∷ xs) r = omega (arith, length-append (decimal x) (numbers_text [] 32 10 xs r), list_takes xs r)
      where
        list_takes : (xs r : List ℕ) → length r < length (numbers_text [] 32 10 xs r)
        list_takes [] r = omega arith
        list_takes (x ∷ xs) r = omega (arith, length-append (decimal x) (numbers_text [] 32 10 xs r), list_takes xs r)

    keeps_by : (t : State) → Open t.1.0 t.1.1 → (x : Row) (k : ℕ) → t.1.1 ≡ suc k → (ts r : List ℕ) → OneRow t.1.0 t.1.1 ts x r → Open (next x.0) k
    unfolding OneRow
    keeps_by t way x k owed ts r (i, some, w) = keys.next_open t.1.0 x.0 k (subst (λ z. Open t.1.0 z) owed way) i.0 (subst (λ z. Room x.0 z) owed i.1)

    many_turns : GoodTurns (form.next_row key next) (λ t. Open t.1.0 t.1.1)
    many_turns = record {
      keeps = λ t y ts r way h.
          let (x, k, owed, one, same) = row_more t.0 t.1.0 t.1.1 way y ts r h in
          subst (λ z. Open z.1.0 z.1.1) same (keeps_by t way x k owed ts r one);
      takes = λ t ts r v way (x, m, h, (e, w)).
          let (i, u) = (row_spells t.1.0 t.1.1 way).is ts x m h in
          omega (arith, keys.takes x.0 (some_text x.1 m), some_takes x.1 m, ap length u, ap length w);
      alive = λ t way. many_alive t.1.1 t.1.0 t.0 way;
    }

    rows_good : (s : S) (n : ℕ) → ((k : ℕ) → n ≡ suc k → Open s k) → Good (form.rows key next s n)
    rows_good s zero way = tt
    rows_good s (suc n) way = ((λ t. Open t.1.0 t.1.1), way n refl, many_turns, λ t w. ((row_spells t.1.0 t.1.1 w).good, λ x g. tt))

    rows_has : (s : S) (n : ℕ) → ((k : ℕ) → n ≡ suc k → Open s k) → n ≤ greatest → (xs : List Row) → (length xs ≡ n) × AreRows s xs → (r : List ℕ) → Has (form.rows key next s n) (rows_text xs r) xs r
    rows_has s zero way few [] i r = (refl, refl)
    rows_has s zero way few (x ∷ xs) i r = absurd (omega (arith, i.0))
    rows_has s (suc n) way few [] i r = absurd (omega (arith, i.0))
    rows_has s (suc n) way few (x ∷ xs) (count, (i, some, is)) r = many_has xs [] x s n (omega arith) (omega arith) (way n refl) i some is r

    rows_is : (s : S) (n : ℕ) → ((k : ℕ) → n ≡ suc k → Open s k) → (ts : List ℕ) (xs : List Row) (r : List ℕ) → Has (form.rows key next s n) ts xs r → ((length xs ≡ n) × AreRows s xs) × (ts ≡ rows_text xs r)
    unfolding AreMany
    rows_is s zero way ts xs r (e, w) = subst (λ z. ((length z ≡ 0) × AreRows s z) × (ts ≡ rows_text z r)) e ((refl, tt), w)
    rows_is s (suc n) way ts xs r h =
        let (y, ys, e, count, i, some, is, v) = many_are (way n refl) h in
        subst (λ z. ((length z ≡ suc n) × AreRows s z) × (ts ≡ rows_text z r)) (sym e) ((ap suc count, (i, some, is)), v)

    -- so many rows
    pub keyed : (s : S) (n : ℕ) → ((k : ℕ) → n ≡ suc k → Open s k) → n ≤ greatest → Spells (form.rows key next s n) (λ xs. (length xs ≡ n) × AreRows s xs) rows_text
    keyed s n way few = record { good = rows_good s n way; has = rows_has s n way few; is = rows_is s n way }
