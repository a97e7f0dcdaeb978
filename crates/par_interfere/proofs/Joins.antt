-- Rows that are joined of others, one after the other.
use Rattle.std.proofs.Common.{◌≡◌, ℕ, ◌+◌, ◌<◌, ◌≤◌, ◌⊎◌, ◌↔◌, inl, inr, Bool, true, false, List, [], ◌∷◌, ◌++◌, length, get_or, set, replicate, refl, sym, ap, subst, ◌∙◌, arith, Some, true≢false, slice_index_or}
use Rattle.std.specs.Prelude.{slice_get, ◌||◌}
use Rattle.std.proofs.lemmas.List.{length-replicate, length-set, length_push, get_or_push, get_or_append_left}
use Rattle.std.proofs.lemmas.List.Elements.{All-get_or, All-push}
use Rattle.std.proofs.lemmas.Option.{slice_get_within, slice_get-get_or}
use Rattle.dfi_base.specs.Bits.{has, joined}
use Rattle.dfi_base.proofs.RowLaws.{has_joined, length_joined, no_bits, has_put_same, has_put_other}
use Rattle.dfi_base.specs.declared.numbers.Point.{Point}
use Rattle.par_interfere.specs.declared.branches.Branch.{Branch}
use Rattle.par_interfere.specs.tools.Branches.{has_point, is_around}
use Rattle.par_interfere.specs.tools.Calls.{AreRows}
use Rattle.par_interfere.specs.tools.Rows.{HasSome, IsJoinOf, IsRowOf}
use Rattle.par_interfere.proofs.Closures.{below_or}
use Rattle.par_interfere.proofs.Listed.{item, one_item, either, or_first, or_second}

-- Rows, one for each number.

abbrev pub EachRow : (ℕ → List Bool → Type 0) → ℕ → List (List Bool) → Type 0
EachRow P n rows = (i : ℕ) → i < n → P i (slice_index_or rows i [])

-- what a row is to be for the item of its number
abbrev pub IsAt : {X : Type 0} → (X → List Bool → Type 0) → List X → ℕ → List Bool → Type 0
IsAt Q items i row = (x : _) → slice_get items i ≡ Some x → Q x row

pub each_push : (P : ℕ → List Bool → Type 0) (n : ℕ) (rows : List (List Bool)) (row : List Bool) → length rows ≡ n → EachRow P n rows → P n row → EachRow P (n + 1) (rows ++ row ∷ [])
each_push P n rows row long each here i low = elim (below_or i n low) [
  | inl less ↦ subst (P i) (sym (get_or_append_left rows (row ∷ []) [] i (omega (arith, less, long)))) (each i less)
  | inr same ↦ subst (λ k. P k (slice_index_or (rows ++ row ∷ []) k [])) (sym same) (subst (P n) (sym (get_or_push rows row [] n long)) here)
]

pub rows_push : (n w : ℕ) (rows : List (List Bool)) (row : List Bool) → AreRows n w rows → length row ≡ w → AreRows (n + 1) w (rows ++ row ∷ [])
rows_push n w rows row h long = record { height = (let height = h.height in omega (arith, height, length_push rows row)); wide = All-push (λ r. length r ≡ w) rows row h.wide long }

pub row_long : (n w : ℕ) (rows : List (List Bool)) (i : ℕ) → AreRows n w rows → i < n → length (slice_index_or rows i []) ≡ w
row_long n w rows i h low = All-get_or (λ r. length r ≡ w) rows i [] (let height = h.height in omega (arith, low, height)) h.wide

pub row_at : (n w : ℕ) (rows : List (List Bool)) (i : ℕ) (row : List Bool) → AreRows n w rows → i < n → row ≡ get_or rows i row → row ≡ slice_index_or rows i []
row_at n w rows i row h low is = is ∙ item rows i row [] (let height = h.height in omega (arith, low, height))

-- Rows joined of the first ones.

module _ {X : Type 0} (test : X → Bool) (items : List X) (rows : List (List Bool)) where
  none_some : (k : ℕ) → HasSome test items rows 0 k → ⊥
  none_some k h = (let low = h.low in omega (arith, low))

  some_later : (n k : ℕ) → HasSome test items rows n k → HasSome test items rows (n + 1) k
  some_later n k h = record { number = h.number; item = h.item; low = (let low = h.low in omega (arith, low)); listed = h.listed; passes = h.passes; here = h.here }

  pub join_first : (row : List Bool) → IsJoinOf test items rows 0 row row
  join_first row = record { long = refl; each = λ k. (λ h. inl h, λ o. elim o [ inl h ↦ h | inr some ↦ absurd (none_some k some) ]) }

  pub join_more : (n : ℕ) (x : X) (first row more new : List Bool) → slice_get items n ≡ Some x → test x ≡ true → more ≡ slice_index_or rows n [] → length row ≡ length more
      → new ≡ joined row more → IsJoinOf test items rows n first row → IsJoinOf test items rows (n + 1) first new
  join_more n x first row more new listed passes is long made h = record {
    long = ap length made ∙ length_joined row more long ∙ h.long;
    each = λ k. (there k, back k);
  }
    where
      by : (k : ℕ) → has new k ≡ (has row k || has more k)
      by k = ap (λ r. has r k) made ∙ has_joined row more k long

      there : (k : ℕ) → has new k ≡ true → (has first k ≡ true) ⊎ HasSome test items rows (n + 1) k
      there k had = elim (either (has row k) (has more k) (sym (by k) ∙ had)) [
        | inl old ↦ elim ((h.each k).0 old) [ inl f ↦ inl f | inr some ↦ inr (some_later n k some) ]
        | inr here ↦ inr (record { number = n; item = x; low = omega arith; listed = listed; passes = passes; here = ap (λ r. has r k) (sym is) ∙ here })
      ]

      back : (k : ℕ) → (has first k ≡ true) ⊎ HasSome test items rows (n + 1) k → has new k ≡ true
      back k (inl f) = by k ∙ or_first (has row k) (has more k) ((h.each k).1 (inl f))
      back k (inr some) = elim (below_or some.number n some.low) [
        | inl less ↦ by k ∙ or_first (has row k) (has more k) ((h.each k).1 (inr (record { number = some.number; item = some.item; low = less; listed = some.listed; passes = some.passes; here = some.here })))
        | inr same ↦ by k ∙ or_second (has row k) (has more k) (ap (λ r. has r k) is ∙ ap (λ m. has (slice_index_or rows m []) k) (sym same) ∙ some.here)
      ]

  pub join_skip : (n : ℕ) (x : X) (first row : List Bool) → slice_get items n ≡ Some x → test x ≡ false → IsJoinOf test items rows n first row → IsJoinOf test items rows (n + 1) first row
  join_skip n x first row listed fails h = record { long = h.long; each = λ k. (there k, back k) }
    where
      there : (k : ℕ) → has row k ≡ true → (has first k ≡ true) ⊎ HasSome test items rows (n + 1) k
      there k had = elim ((h.each k).0 had) [ inl f ↦ inl f | inr some ↦ inr (some_later n k some) ]

      back : (k : ℕ) → (has first k ≡ true) ⊎ HasSome test items rows (n + 1) k → has row k ≡ true
      back k (inl f) = (h.each k).1 (inl f)
      back k (inr some) = elim (below_or some.number n some.low) [
        | inl less ↦ (h.each k).1 (inr (record { number = some.number; item = some.item; low = less; listed = some.listed; passes = some.passes; here = some.here }))
        | inr same ↦
            let one = one_item items some.number n some.item x some.listed listed same in
            absurd (true≢false (sym some.passes ∙ ap test one ∙ fails))
      ]

  -- from a row without members
  pub join_none : (n w : ℕ) (row : List Bool) → IsJoinOf test items rows n (replicate w false) row → (k : ℕ) → (has row k ≡ true) ↔ HasSome test items rows n k
  join_none n w row h k = (
    λ had. elim ((h.each k).0 had) [ inl f ↦ absurd (true≢false (sym f ∙ no_bits w k)) | inr some ↦ some ],
    λ some. (h.each k).1 (inr some),
  )

-- A turn of a loop over the items.
module _ {X : Type 0} (test : X → Bool) (items : List X) (rows : List (List Bool)) (n : ℕ) (x : X) (first row new : List Bool) where
  pub join_turn : (w : ℕ) (more : List Bool) → n < length items → x ≡ get_or items n x → test x ≡ true → AreRows (length items) w rows → more ≡ get_or rows n more → length first ≡ w
      → new ≡ joined row more → IsJoinOf test items rows n first row → IsJoinOf test items rows (n + 1) first new
  join_turn w more low at passes shape is long made h =
      let height = shape.height in
      let here : more ≡ slice_index_or rows n [] = is ∙ item rows n more [] (omega (arith, low, height)) in
      let wide : length row ≡ length more = h.long ∙ long ∙ sym (ap length here ∙ row_long (length items) w rows n shape low) in
      join_more test items rows n x first row more new (slice_get-get_or items n x low ∙ ap Some (sym at)) passes here wide made h

  pub skip_turn : n < length items → x ≡ get_or items n x → test x ≡ false → new ≡ row → IsJoinOf test items rows n first row → IsJoinOf test items rows (n + 1) first new
  skip_turn low at fails same h =
      subst (IsJoinOf test items rows (n + 1) first) (sym same) (join_skip test items rows n x first row (slice_get-get_or items n x low ∙ ap Some (sym at)) fails h)

-- The row of the first items that pass a test.

pub record IsRowTo {X : Type 0} (test : X → Bool) (items : List X) (n : ℕ) (row : List Bool) : Type 0 where
  pub long : length row ≡ length items
  pub done : (k : ℕ) (x : X) → k < n → slice_get items k ≡ Some x → has row k ≡ test x
  pub rest : (k : ℕ) → n ≤ k → has row k ≡ false

module _ {X : Type 0} (test : X → Bool) (items : List X) where
  pub row_none : IsRowTo test items 0 (replicate (length items) false)
  row_none = record { long = length-replicate (length items) false; done = λ k x low. absurd (omega (arith, low)); rest = λ k low. no_bits (length items) k }

  pub row_put : (n : ℕ) (x : X) (row new : List Bool) → n < length items → slice_get items n ≡ Some x → test x ≡ true → new ≡ set row n true → IsRowTo test items n row → IsRowTo test items (n + 1) new
  row_put n x row new within is passes made h = record {
    long = ap length made ∙ length-set row n true ∙ h.long;
    done = λ k y low at. elim (below_or k n low) [
      | inl less ↦ off k (omega (arith, less)) ∙ h.done k y less at
      | inr same ↦ ap (λ r. has r k) made ∙ ap (has (set row n true)) same ∙ has_put_same row n true (let long = h.long in omega (arith, within, long)) ∙ sym passes ∙ ap test (one_item items n k x y is at (sym same))
    ];
    rest = λ k low. off k (omega (arith, low)) ∙ h.rest k (omega (arith, low));
  }
    where
      off : (k : ℕ) → (k ≡ n → ⊥) → has new k ≡ has row k
      off k other = ap (λ r. has r k) made ∙ has_put_other row n k true other

  pub row_pass : (n : ℕ) (x : X) (row new : List Bool) → slice_get items n ≡ Some x → test x ≡ false → new ≡ row → IsRowTo test items n row → IsRowTo test items (n + 1) new
  row_pass n x row new is fails same h = subst (IsRowTo test items (n + 1)) (sym same) (record {
    long = h.long;
    done = λ k y low at. elim (below_or k n low) [
      | inl less ↦ h.done k y less at
      | inr now ↦ h.rest k (omega (arith, now)) ∙ sym fails ∙ ap test (one_item items n k x y is at (sym now))
    ];
    rest = λ k low. h.rest k (omega (arith, low));
  })

  pub row_whole : (n : ℕ) (row : List Bool) → length items ≤ n → IsRowTo test items n row → IsRowOf test items row
  row_whole n row whole h = record { long = h.long; each = λ k x is. h.done k x (let low = slice_get_within items k x is in omega (arith, low, whole)) is }

pub no_rows : (w : ℕ) → AreRows 0 w []
no_rows w = record { height = refl; wide = λ k d low. absurd (omega (arith, low)) }

-- What is beside a point.

abbrev pub IsBesidePoint : List Branch → List (List Bool) → Point → List Bool → Type 0
IsBesidePoint branches others p row = (k : ℕ) → (has row k ≡ true) ↔ HasSome (λ b. has_point b p) branches others (length branches) k

pub beside_point : (branches : List Branch) (others : List (List Bool)) (p : Point) (first row : List Bool)
    → ((k : ℕ) → (has first k ≡ true) ↔ HasSome (λ b. has b.called p.fun) branches others (length branches) k)
    → IsJoinOf (λ b. is_around b p) branches others (length branches) first row → IsBesidePoint branches others p row
beside_point branches others p first row fun h k = (there, back)
  where
    as_called : HasSome (λ b. has b.called p.fun) branches others (length branches) k → HasSome (λ b. has_point b p) branches others (length branches) k
    as_called s = record { number = s.number; item = s.item; low = s.low; listed = s.listed; passes = or_second (is_around s.item p) (has s.item.called p.fun) s.passes; here = s.here }

    as_around : HasSome (λ b. is_around b p) branches others (length branches) k → HasSome (λ b. has_point b p) branches others (length branches) k
    as_around s = record { number = s.number; item = s.item; low = s.low; listed = s.listed; passes = or_first (is_around s.item p) (has s.item.called p.fun) s.passes; here = s.here }

    there : has row k ≡ true → HasSome (λ b. has_point b p) branches others (length branches) k
    there had = elim ((h.each k).0 had) [ inl f ↦ as_called ((fun k).0 f) | inr some ↦ as_around some ]

    back : HasSome (λ b. has_point b p) branches others (length branches) k → has row k ≡ true
    back s = elim (either (is_around s.item p) (has s.item.called p.fun) s.passes) [
      | inl around ↦ (h.each k).1 (inr (record { number = s.number; item = s.item; low = s.low; listed = s.listed; passes = around; here = s.here }))
      | inr called ↦ (h.each k).1 (inl ((fun k).1 (record { number = s.number; item = s.item; low = s.low; listed = s.listed; passes = called; here = s.here })))
    ]
