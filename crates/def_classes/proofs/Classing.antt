-- Rows that are numbered by their first places, each once, have their definitions' classes as numbers.
use Rattle.std.proofs.Common.{◌≡◌, ℕ, zero, suc, ◌+◌, ◌-◌, ◌<◌, ◌≤◌, Bool, true, false, not, cond, ◌||◌, List, [], ◌∷◌, ◌++◌, length, map, get_or, refl, sym, ap, ◌∙◌, subst, arith}
use Rattle.std.specs.Prelude.{count_by}
use Rattle.std.specs.List.{list_any, range_with_len}
use Rattle.std.specs.Cmp.Lexicographic.{bytes_decides}
use Rattle.std.proofs.lemmas.Bool.{false≢true}
use Rattle.std.proofs.lemmas.List.{get_or-map, length_push}
use Rattle.std.proofs.lemmas.List.FromFn.{get_or-map-range_with_len, length-map-range_with_len, map-range_with_len_more}
use Rattle.std.proofs.lemmas.List.Sums.{sum_by_push}
use Rattle.flow_rules.specs.ClassOf.{ClassOf, are_alike, is_least}
use Rattle.def_classes.specs.tools.EachOnce.{each_once, place_of, with_member}
use Rattle.def_classes.specs.tools.Readers.{readers_of, same_list}
use Rattle.def_classes.proofs.Alike.{alike_readers}
use Rattle.def_classes.proofs.Once.{each_once-push, each_once-any, place_absent, place_kept, place_added, has_member, kept_member}
use Rattle.def_classes.proofs.Numbering.{same_itself}

-- a number of a range passes
pub record IsFound (test : ℕ → Bool) (k n : ℕ) : Type 0 where
  pub i : ℕ
  pub low : k ≤ i
  pub high : i < k + n
  pub passes : test i ≡ true

found_in : (test : ℕ → Bool) (k n : ℕ) → list_any test (range_with_len k n) ≡ true → IsFound test k n
found_in test k zero h = absurd (false≢true h)
found_in test k (suc n) h = by (λ g. found_in test (k + 1) n g) (test k) refl h where
  by : (list_any test (range_with_len (k + 1) n) ≡ true → IsFound test (k + 1) n) → (b : Bool) → test k ≡ b → (b || list_any test (range_with_len (k + 1) n)) ≡ true → IsFound test k (suc n)
  by further true is h = record { i = k; low = omega arith; high = omega arith; passes = is }
  by further false is h =
      let later = further h in
      let low = later.low in
      let high = later.high in
      record { i = later.i; low = omega (arith, low); high = omega (arith, high); passes = later.passes }

module _ (sets : List (List ℕ)) where
  abbrev pub rows : ℕ → List (List ℕ)
  rows n = map (readers_of sets) (range_with_len 1 n)

  abbrev pub place : ℕ → ℕ → ℕ
  place n d = place_of same_list (each_once same_list (rows n)) (readers_of sets d)

  rows-more : (n : ℕ) → rows (suc n) ≡ rows n ++ readers_of sets (suc n) ∷ []
  rows-more n = (let next : suc n ≡ n + 1 = omega arith in ap rows next) ∙ map-range_with_len_more (readers_of sets) 1 n (suc n) (omega arith)

  once-more : (n : ℕ) → each_once same_list (rows (suc n)) ≡ with_member same_list (each_once same_list (rows n)) (readers_of sets (suc n))
  once-more n = ap (each_once same_list) (rows-more n) ∙ each_once-push same_list (rows n) (readers_of sets (suc n))

  exact : (xs ys : List ℕ) → same_list xs ys ≡ true → xs ≡ ys
  exact xs ys h = (bytes_decides xs ys).0 h

  pub same_readers : (d e : ℕ) → are_alike sets d e ≡ true → readers_of sets d ≡ readers_of sets e
  same_readers d e h = exact (readers_of sets d) (readers_of sets e) (sym (alike_readers sets d e) ∙ h)

  pub alike_by : (d e : ℕ) → readers_of sets d ≡ readers_of sets e → are_alike sets d e ≡ true
  alike_by d e h = alike_readers sets d e ∙ ap (same_list (readers_of sets d)) (sym h) ∙ same_itself (readers_of sets d)

  -- a row equals an earlier one just where its definition is alike to an earlier one
  any_row : (d k n : ℕ) → list_any (same_list (readers_of sets d)) (map (readers_of sets) (range_with_len k n)) ≡ list_any (are_alike sets d) (range_with_len k n)
  any_row d k zero = refl
  any_row d k (suc n) = (λ j. sym (alike_readers sets d k) j || any_row d (k + 1) n j)

  known : (n : ℕ) → list_any (same_list (readers_of sets (suc n))) (each_once same_list (rows n)) ≡ not (is_least sets (suc n))
  known n = each_once-any same_list same_itself exact (rows n) (readers_of sets (suc n)) ∙ any_row (suc n) 1 n ∙ twice (list_any (are_alike sets (suc n)) (range_with_len 1 n))
      ∙ (let less : n ≡ suc n - 1 = omega arith in ap (λ k. not (not (list_any (are_alike sets (suc n)) (range_with_len 1 k)))) less)
    where
      twice : (b : Bool) → b ≡ not (not b)
      twice true = refl
      twice false = refl

  pub numbers_more : (n : ℕ) → count_by (is_least sets) (range_with_len 1 (suc n)) ≡ count_by (is_least sets) (range_with_len 1 n) + cond (is_least sets (suc n)) 1 0
  numbers_more n =
      let next : 1 + n ≡ suc n = omega arith in
      ap (count_by (is_least sets)) (range_more 1 n ∙ ap (λ k. range_with_len 1 n ++ k ∷ []) next) ∙ sum_by_push (λ d. cond (is_least sets d) 1 0) (range_with_len 1 n) (suc n)
    where
      range_more : (a n : ℕ) → range_with_len a (suc n) ≡ range_with_len a n ++ (a + n) ∷ []
      range_more a zero = let same : a ≡ a + 0 = omega arith in ap (λ x. x ∷ []) same
      range_more a (suc n) = let same : (a + 1) + n ≡ a + suc n = omega arith in ap (λ xs. a ∷ xs) (range_more (a + 1) n ∙ ap (λ x. range_with_len (a + 1) n ++ x ∷ []) same)

  -- as many rows, each once, as there are least members
  once-count : (n : ℕ) → length (each_once same_list (rows n)) ≡ count_by (is_least sets) (range_with_len 1 n)
  once-count zero = refl
  once-count (suc n) =
      ap length (once-more n) ∙ by (is_least sets (suc n)) (known n) ∙ ap (λ k. k + cond (is_least sets (suc n)) 1 0) (once-count n) ∙ sym (numbers_more n)
    where
      old : List (List ℕ)
      old = each_once same_list (rows n)

      row : List ℕ
      row = readers_of sets (suc n)

      by : (b : Bool) → list_any (same_list row) old ≡ not b → length (with_member same_list old row) ≡ length old + cond b 1 0
      by true is = ap (λ b. length (cond b old (old ++ row ∷ []))) is ∙ length_push old row ∙ omega arith
      by false is = ap (λ b. length (cond b old (old ++ row ∷ []))) is ∙ omega arith

  -- the row of a least member comes behind those before it
  place-least : (n : ℕ) → is_least sets (suc n) ≡ true → place (suc n) (suc n) ≡ count_by (is_least sets) (range_with_len 1 n)
  place-least n first =
      ap (λ xs. place_of same_list xs (readers_of sets (suc n))) (once-more n)
      ∙ place_added same_list same_itself (readers_of sets (suc n)) (each_once same_list (rows n))
      ∙ place_absent same_list (readers_of sets (suc n)) (each_once same_list (rows n)) (known n ∙ ap not first)
      ∙ once-count n

  member-own : (n : ℕ) → list_any (same_list (readers_of sets (suc n))) (each_once same_list (rows (suc n))) ≡ true
  member-own n = ap (list_any (same_list (readers_of sets (suc n)))) (once-more n) ∙ has_member same_list same_itself (each_once same_list (rows n)) (readers_of sets (suc n))

  -- a row that is there keeps its place
  place-stays : (row : List ℕ) (n m : ℕ) → list_any (same_list row) (each_once same_list (rows n)) ≡ true
      → (place_of same_list (each_once same_list (rows (m + n))) row ≡ place_of same_list (each_once same_list (rows n)) row)
      × (list_any (same_list row) (each_once same_list (rows (m + n))) ≡ true)
  place-stays row n zero there =
      let same : 0 + n ≡ n = omega arith in
      (ap (λ k. place_of same_list (each_once same_list (rows k)) row) same, ap (λ k. list_any (same_list row) (each_once same_list (rows k))) same ∙ there)
  place-stays row n (suc m) there =
      let before = place-stays row n m there in
      let ks = each_once same_list (rows (m + n)) in
      let next : suc m + n ≡ suc (m + n) = omega arith in (
        ap (λ k. place_of same_list (each_once same_list (rows k)) row) next ∙ ap (λ xs. place_of same_list xs row) (once-more (m + n)) ∙ place_kept same_list (readers_of sets (suc (m + n))) row ks before.1 ∙ before.0,
        ap (λ k. list_any (same_list row) (each_once same_list (rows k))) next ∙ ap (list_any (same_list row)) (once-more (m + n)) ∙ kept_member same_list (readers_of sets (suc (m + n))) row ks before.1,
      )

  -- the least member of the class of a definition
  pub record IsLeastOf (d : ℕ) : Type 0 where
    pub least : ℕ
    pub low : 1 ≤ least
    pub high : least ≤ d
    pub same : readers_of sets least ≡ readers_of sets d
    pub first : is_least sets least ≡ true

  least_of : (room d : ℕ) → d ≤ room → 1 ≤ d → IsLeastOf d
  least_of zero d le low = absurd (omega (arith, le, low))
  least_of (suc room) d le low = by (λ e. least_of room e) (list_any (are_alike sets d) (range_with_len 1 (d - 1))) refl where
    by : ((e : ℕ) → e ≤ room → 1 ≤ e → IsLeastOf e) → (b : Bool) → list_any (are_alike sets d) (range_with_len 1 (d - 1)) ≡ b → IsLeastOf d
    by earlier false none = record { least = d; low = low; high = omega arith; same = refl; first = ap not none }
    by earlier true some =
        let found = found_in (are_alike sets d) 1 (d - 1) some in
        let from = found.low in
        let below = found.high in
        let further = earlier found.i (omega (arith, below, le, low)) from in
        let high = further.high in
        record {
          least = further.least;
          low = further.low;
          high = omega (arith, high, below, low);
          same = further.same ∙ sym (same_readers d found.i found.passes);
          first = further.first;
        }

  class_by : (n d e : ℕ) → d ≤ n → (l : IsLeastOf d) → suc e ≡ l.least → ClassOf sets d (suc (place n d))
  class_by n d e within l is =
      let high = l.high in
      let first : is_least sets (suc e) ≡ true = ap (is_least sets) is ∙ l.first in
      let same : readers_of sets (suc e) ≡ readers_of sets d = ap (readers_of sets) is ∙ l.same in
      let more : (n - suc e) + suc e ≡ n = omega (arith, is, high, within) in
      let number : place n d ≡ count_by (is_least sets) (range_with_len 1 e) =
      ap (place_of same_list (each_once same_list (rows n))) (sym same)
      ∙ ap (λ k. place k (suc e)) (sym more)
      ∙ (place-stays (readers_of sets (suc e)) (suc e) (n - suc e) (member-own e)).0
      ∙ place-least e first in
      let next : count_by (is_least sets) (range_with_len 1 (suc e)) ≡ count_by (is_least sets) (range_with_len 1 e) + 1 =
      numbers_more e ∙ ap (λ b. count_by (is_least sets) (range_with_len 1 e) + cond b 1 0) first in
      record {
        least = l.least;
        low = l.low;
        high = l.high;
        alike = alike_by l.least d l.same;
        first = l.first;
        number = ap suc number ∙ omega arith ∙ sym next ∙ ap (λ k. count_by (is_least sets) (range_with_len 1 k)) is;
      }

  -- the place of a row tells the class of its definition
  pub class-place : (n d : ℕ) → 1 ≤ d → d ≤ n → ClassOf sets d (suc (place n d))
  class-place n d low high =
      let l = least_of d d (omega arith) low in
      let from = l.low in
      class_by n d (l.least - 1) high l (omega (arith, from))

  pub class-number : (n d : ℕ) (numbers : List ℕ) → numbers ≡ map (λ row. suc (place_of same_list (each_once same_list (rows n)) row)) (rows n) → 1 ≤ d → d ≤ n → ClassOf sets d (get_or numbers (d - 1) 0)
  class-number n d numbers is low high =
      let number : List ℕ → ℕ = λ row. suc (place_of same_list (each_once same_list (rows n)) row) in
      let inside : d - 1 < length (rows n) = omega (arith, length-map-range_with_len (readers_of sets) 1 n, low, high) in
      let value : get_or numbers (d - 1) 0 ≡ suc (place n d) =
      ap (λ xs. get_or xs (d - 1) 0) is
      ∙ get_or-map number (rows n) (d - 1) [] 0 inside
      ∙ ap number (get_or-map-range_with_len (readers_of sets) 1 n (d - 1) d [] (omega (arith, low, high)) (omega (arith, low))) in
      subst (ClassOf sets d) (sym value) (class-place n d low high)
