-- The readers of definitions.
use Rattle.std.proofs.Common.{◌≡◌, ℕ, zero, suc, ◌+◌, ◌-◌, ◌<◌, ◌≤◌, Bool, true, false, cond, ◌||◌, List, [], ◌∷◌, ◌++◌, length, map, get_or, set, take, replicate, eqb, inl, inr, refl, sym, ap, subst, ◌∙◌, arith}
use Rattle.std.specs.List.{range_with_len}
use Rattle.std.proofs.lemmas.Bool.{cases_eq, cases_lt, eq-eqb, false≢true, ne_eqb, or_from, or_left, or_right}
use Rattle.std.proofs.lemmas.List.{append-nil, ext_get_or, get_or-replicate, get_or-set_same, get_or-set_other, get_or_past, length-replicate, length-take-le, length_push, take_more}
use Rattle.std.proofs.Math.Seq.{get_or-append_seam}
use Rattle.std.specs.Prelude.{nat_eq}
use Rattle.std.proofs.lemmas.List.FromFn.{get_or-map-range_with_len, length-map-range_with_len}
use Rattle.tac_ir.specs.Answers.{has}
use Rattle.def_classes.specs.tools.Readers.{readers_from, readers_of}
use Rattle.def_classes.specs.tools.Readers.{AddsReader, HasReaders, ends_in, with_last}
use Rattle.def_classes.specs.IsWithin.{IsWithin}
use Rattle.def_classes.proofs.InOrder.{has-append}

begun : (b : Bool) (r : ℕ) (xs ys zs : List ℕ) → xs ≡ ys ++ zs
    → (elim b as (λ b. List ℕ) [ true ↦ r ∷ xs | false ↦ xs ]) ≡ (elim b as (λ b. List ℕ) [ true ↦ r ∷ ys | false ↦ ys ]) ++ zs
begun true r xs ys zs e = ap (λ xs. r ∷ xs) e
begun false r xs ys zs e = e

readers_from-push : (r : ℕ) (sets : List (List ℕ)) (set : List ℕ) (d : ℕ) → readers_from r (sets ++ set ∷ []) d ≡ readers_from r sets d ++ cond (has set d) ((r + length sets) ∷ []) []
readers_from-push r [] set d =
    let same : r ≡ r + 0 = omega arith in
    elim (has set d) as (λ b. (elim b as (λ b. List ℕ) [ true ↦ r ∷ [] | false ↦ [] ]) ≡ cond b ((r + 0) ∷ []) []) [ true ↦ ap (λ k. k ∷ []) same | false ↦ refl ]
readers_from-push r (x ∷ sets) set d =
    let same : suc r + length sets ≡ r + suc (length sets) = omega arith in
    begun (has x d) r _ _ _ (readers_from-push (suc r) sets set d ∙ ap (λ m. readers_from (suc r) sets d ++ cond (has set d) (m ∷ []) []) same)

-- one more set
pub has_readers-push : (n r : ℕ) (sets : List (List ℕ)) (set : List ℕ) (old new : List (List ℕ)) → r ≡ suc (length sets)
    → HasReaders n sets old → length new ≡ length old → AddsReader set r old new → HasReaders n (sets ++ set ∷ []) new
has_readers-push n r sets set old new number h long added = record {
  count = long ∙ h.count;
  each = λ k below.
      let inside : k < length old = omega (arith, h.count) in
      let same : r ≡ 1 + length sets = omega arith in
      added k inside ∙ ap (λ ys. ys ++ cond (has set (suc k)) (r ∷ []) []) (h.each k below)
      ∙ ap (λ m. readers_of sets (suc k) ++ cond (has set (suc k)) (m ∷ []) []) same
      ∙ sym (readers_from-push 1 sets set (suc k));
}

pub has_readers-none : (n : ℕ) → HasReaders n [] (replicate n [])
has_readers-none n = record { count = length-replicate n []; each = λ k below. get_or-replicate n k [] [] below }

-- the whole list of rows
pub rows-has_readers : (n : ℕ) (sets rows : List (List ℕ)) → HasReaders n sets rows → rows ≡ map (readers_of sets) (range_with_len 1 n)
rows-has_readers n sets rows h =
    ext_get_or [] rows (map (readers_of sets) (range_with_len 1 n)) (h.count ∙ sym (length-map-range_with_len (readers_of sets) 1 n))
    (λ k inside.
    let below : k < n = omega (arith, h.count) in
    h.each k below ∙ sym (get_or-map-range_with_len (readers_of sets) 1 n k (suc k) [] below (omega arith)))

-- no read is a reader after its time
readers-past : (r k : ℕ) (sets : List (List ℕ)) (d : ℕ) → r + length sets ≤ k → has (readers_from r sets d) k ≡ false
readers-past r k [] d le = refl
readers-past r k (x ∷ sets) d le =
    let later = readers-past (suc r) k sets d (omega (arith, le)) in
    elim (has x d) as (λ b. has (elim b as (λ b. List ℕ) [ true ↦ r ∷ readers_from (suc r) sets d | false ↦ readers_from (suc r) sets d ]) k ≡ false) [
      | true ↦ or_from _ _ (ne_eqb r k (λ e. omega (arith, le, e))) later
      | false ↦ later
    ]

-- the next read is in no row
pub new_read : (n r i : ℕ) (sets rows : List (List ℕ)) → i ≤ length sets → r ≡ suc i → HasReaders n (take i sets) rows → (k : ℕ) → has (get_or rows k []) r ≡ false
new_read n r i sets rows le number h k = elim (cases_lt k n) [
  | inl below ↦ ap (λ row. has row r) (h.each k below) ∙ readers-past 1 r (take i sets) (suc k) (omega (arith, number, length-take-le i sets le))
  | inr past ↦ ap (λ row. has row r) (get_or_past rows k [] (omega (arith, past, h.count)))
]

at_place : (xs : List ℕ) (i r : ℕ) → i < length xs → nat_eq (get_or xs i 0) r ≡ true → has xs r ≡ true
at_place [] i r less is = absurd (omega (arith, less))
at_place (x ∷ xs) zero r less is = or_left (nat_eq x r) (has xs r) is
at_place (x ∷ xs) (suc i) r less is = or_right (nat_eq x r) (has xs r) (at_place xs i r (omega (arith, less)) is)

ends-not : (xs : List ℕ) (r : ℕ) → 1 ≤ r → has xs r ≡ false → ends_in xs r ≡ false
ends-not [] r low none = ne_eqb 0 r (λ e. omega (arith, low, e))
ends-not (x ∷ xs) r low none = by (ends_in (x ∷ xs) r) refl where
  by : (b : Bool) → ends_in (x ∷ xs) r ≡ b → ends_in (x ∷ xs) r ≡ false
  by false is = is
  by true is = absurd (false≢true (sym none ∙ at_place (x ∷ xs) (length (x ∷ xs) - 1) r (omega arith) is))

ends-last : (xs : List ℕ) (r : ℕ) → ends_in (xs ++ r ∷ []) r ≡ true
ends-last xs r =
    let place : length (xs ++ r ∷ []) - 1 ≡ length xs = omega (arith, length_push xs r) in
    eq-eqb _ r (ap (λ i. get_or (xs ++ r ∷ []) i 0) place ∙ get_or-append_seam xs r [] 0)

-- a row that has the read or not has it in the end
last_once : (b : Bool) (row : List ℕ) (r : ℕ) → 1 ≤ r → has row r ≡ false → with_last (row ++ cond b (r ∷ []) []) r ≡ row ++ r ∷ []
last_once true row r low none = ap (λ e. cond e (row ++ r ∷ []) ((row ++ r ∷ []) ++ r ∷ [])) (ends-last row r)
last_once false row r low none =
    ap (λ xs. with_last xs r) (append-nil row) ∙ ap (λ e. cond e row (row ++ r ∷ [])) (ends-not row r low none)

or_false : (b : Bool) → (b || false) ≡ b
or_false true = refl
or_false false = refl

-- one more member of a set
pub adds_reader-more : (members : List ℕ) (read i : ℕ) (old rows new : List (List ℕ)) → i < length members → IsWithin (length old) (get_or members i 0) → length rows ≡ length old
    → 1 ≤ read → ((k : ℕ) → has (get_or old k []) read ≡ false) → AddsReader (take i members) read old rows
    → new ≡ set rows (get_or members i 0 - 1) (with_last (get_or rows (get_or members i 0 - 1) []) read)
    → AddsReader (take (i + 1) members) read old new
adds_reader-more members read i old rows new within bounds long low fresh added is k inside =
    let d = get_or members i 0 in
    let from = bounds.0 in
    let to = bounds.1 in
    let more : has (take (i + 1) members) (suc k) ≡ (has (take i members) (suc k) || (eqb d (suc k) || false))
    = ap (λ xs. has xs (suc k)) (take_more members i 0 within) ∙ has-append (take i members) (d ∷ []) (suc k) in
    ap (λ xs. get_or xs k []) is ∙
    elim (cases_eq k (d - 1)) [
      | inl same ↦
          let next : suc k ≡ d = omega (arith, from, same) in
          let room : d - 1 < length rows = omega (arith, from, to, long) in
          let one : has (take (i + 1) members) (suc k) ≡ true = more ∙ or_right (has (take i members) (suc k)) _ (or_left _ false (eq-eqb d (suc k) (sym next))) in
          ap (λ j. get_or (set rows (d - 1) (with_last (get_or rows (d - 1) []) read)) j []) same
          ∙ get_or-set_same rows (d - 1) _ [] room
          ∙ ap (λ j. with_last (get_or rows j []) read) (sym same)
          ∙ ap (λ ys. with_last ys read) (added k inside)
          ∙ last_once (has (take i members) (suc k)) (get_or old k []) read low (fresh k)
          ∙ ap (λ b. get_or old k [] ++ cond b (read ∷ []) []) (sym one)
      | inr other ↦
          let differ : eqb d (suc k) ≡ false = ne_eqb d (suc k) (λ e. other (omega arith)) in
          let same : has (take (i + 1) members) (suc k) ≡ has (take i members) (suc k)
          = more ∙ ap (λ b. has (take i members) (suc k) || (b || false)) differ ∙ or_false (has (take i members) (suc k)) in
          get_or-set_other rows (d - 1) k _ [] other
          ∙ added k inside
          ∙ ap (λ b. get_or old k [] ++ cond b (read ∷ []) []) (sym same)
    ]

-- one more set of a list
pub has_readers-more : (n r i : ℕ) (sets : List (List ℕ)) (set : List ℕ) (old new : List (List ℕ)) → i < length sets → set ≡ get_or sets i set → r ≡ suc i
    → HasReaders n (take i sets) old → length new ≡ length old → AddsReader set r old new → HasReaders n (take (i + 1) sets) new
has_readers-more n r i sets set old new within is number h long added =
    let count : length (take i sets) ≡ i = length-take-le i sets (omega arith) in
    let P : List (List ℕ) → Type 0 = λ xs. HasReaders n xs new in
    let same : take i sets ++ set ∷ [] ≡ take (i + 1) sets = ap (λ s. take i sets ++ s ∷ []) is ∙ sym (take_more sets i set within) in
    subst P same (has_readers-push n r (take i sets) set old new (omega arith) h long added)
