-- What is read from the entries of a table.
use Rattle.std.proofs.Common.{◌≡◌, ℕ, zero, suc, ◌+◌, ◌<◌, Bool, true, false, ◌&&◌, ◌||◌, Option, Some, None, List, [], ◌∷◌, ◌++◌, length, map, get_or, All, Contains, refl, sym, ap, ap₂, ◌∙◌, subst, arith, true≢false, inl, inr, ◌⊎◌}
use Rattle.std.specs.Prelude.{nat_eq, slice_get}
use Rattle.std.specs.List.{flat_map, range_with_len}
use Rattle.std.proofs.lemmas.Bool.{eqb-true, eq-eqb}
use Rattle.std.proofs.lemmas.List.{append_assoc, append-nil}
use Rattle.std.proofs.lemmas.Grind.{flat_map-append}
use Rattle.std.proofs.lemmas.List.Elements.{All-nil, All-append, All-head, All-tail, Contains-append_left, Contains-append_right}
use Rattle.std.proofs.lemmas.List.FromFn.{map-range_with_len_more, length-map-range_with_len, get_or-map-range_with_len}
use Rattle.std.proofs.lemmas.Option.{slice_get_within}
use Rattle.dfi_base.specs.Bits as bits
use Rattle.dfi_base.specs.Bits.{members}
use Rattle.dfi_base.proofs.RowLaws.{has_member, member_has}
use Rattle.tac_ir.specs.declared.code.Code.{Code}
use Rattle.tac_ir.specs.declared.code.Fun.{Fun}
use Rattle.tac_ir.specs.declared.module.Key.{Key}
use Rattle.tac_ir.specs.declared.module.PointsRow.{PointsRow}
use Rattle.tac_ir.specs.Accesses.{is_same_key, nodes_for}
use Rattle.tac_ir.specs.Answers.{has}
use Rattle.tac_ir.specs.Counts.{temps_of, temps_of_fun, nodes_in_code}
use Rattle.tac_ir.specs.GoodModule.{IsKey}
use Rattle.least_rows.specs.Rules.{Table, row_of, row_has}
use Rattle.flow_rules.specs.Tables.{points_by}
use Rattle.points_to.specs.Rows.{row_of_key, row_number}
use Rattle.points_to.specs.tools.Entries.{entry_by, entry, entry_in, keys_before, keys_of}
use Rattle.points_to.proofs.Numbers.{lt_or}

-- Lists of numbers.

contains_has : (xs : List ℕ) (n : ℕ) → Contains xs n → has xs n ≡ true
contains_has [] n one = absurd (omega (arith, one.1))
contains_has (x ∷ xs) n one = go one.0 one.1 one.2 (contains_has xs n)
  where
    by : (b : Bool) → has xs n ≡ true → (b || has xs n) ≡ true
    by true h = refl
    by false h = h

    go : (i : ℕ) → i < length (x ∷ xs) → get_or (x ∷ xs) i n ≡ n → (Contains xs n → has xs n ≡ true) → has (x ∷ xs) n ≡ true
    go zero low is rest = ap (λ b. b || has xs n) (eq-eqb x n is)
    go (suc i) low is rest = by (nat_eq x n) (rest (i, omega (arith, low), is))

has_contains : (xs : List ℕ) (n : ℕ) → has xs n ≡ true → Contains xs n
has_contains [] n h = cc
has_contains (x ∷ xs) n h = by (nat_eq x n) refl h (has_contains xs n)
  where
    by : (b : Bool) → nat_eq x n ≡ b → (b || has xs n) ≡ true → (has xs n ≡ true → Contains xs n) → Contains (x ∷ xs) n
    by true same h' rest = (0, omega arith, eqb-true x n same)
    by false other h' rest = (let one = rest h' in (suc one.0, omega (arith, one.1), one.2))

members_are : (row : List Bool) (n : ℕ) → has (members row) n ≡ bits.has row n
members_are row n = by (has (members row) n) (bits.has row n) refl refl
  where
    by : (a b : Bool) → has (members row) n ≡ a → bits.has row n ≡ b → has (members row) n ≡ bits.has row n
    by true b one two = one ∙ sym (member_has row n (has_contains (members row) n one))
    by false true one two = contains_has (members row) n (has_member row n two) ∙ sym two
    by false false one two = one ∙ sym two

-- Keys.

same_key : (k key : Key) → is_same_key k key ≡ true → k ≡ key
same_key (Key.Temp f t) (Key.Temp g u) is = by (nat_eq f g) (nat_eq t u) refl refl is
  where
    by : (a b : Bool) → nat_eq f g ≡ a → nat_eq t u ≡ b → (a && b) ≡ true → Key.Temp f t ≡ Key.Temp g u
    by true true one two h = ap₂ Key.Temp (eqb-true f g one) (eqb-true t u two)
    by true false one two h = absurd (true≢false (sym h))
    by false b one two h = absurd (true≢false (sym h))
same_key (Key.Temp f t) (Key.Node n) is = absurd (true≢false (sym is))
same_key (Key.Node n) (Key.Temp f t) is = absurd (true≢false (sym is))
same_key (Key.Node n) (Key.Node m) is = ap Key.Node (eqb-true n m is)

key_itself : (key : Key) → is_same_key key key ≡ true
key_itself (Key.Temp f t) = ap₂ (λ a b. a && b) (eq-eqb f f refl) (eq-eqb t t refl)
key_itself (Key.Node n) = eq-eqb n n refl

module _ (row : Key → List ℕ) where
  abbrev read : List Key → List PointsRow
  read ks = flat_map (λ k. entry_by k (row k)) ks

  -- one entry in front
  front : (k key : Key) (nodes : List ℕ) (rest : List PointsRow)
      → nodes_for (entry_by k nodes ++ rest) key ≡ elim (is_same_key k key) as (λ z. List ℕ) [
        | true ↦ elim nodes as (λ z. List ℕ) [ [] ↦ nodes_for rest key | m ∷ ms ↦ m ∷ ms ]
        | false ↦ nodes_for rest key
      ]
  front k key [] rest = by (is_same_key k key)
    where
      by : (b : Bool) → nodes_for rest key ≡ elim b as (λ z. List ℕ) [ true ↦ nodes_for rest key | false ↦ nodes_for rest key ]
      by true = refl
      by false = refl
  front k key (m ∷ ms) rest = refl

  none_read : (key : Key) → row key ≡ [] → (ks : List Key) → nodes_for (read ks) key ≡ []
  none_read key empty [] = refl
  none_read key empty (k ∷ ks) = front k key (row k) (read ks) ∙ by (is_same_key k key) refl (none_read key empty ks)
    where
      by : (b : Bool) → is_same_key k key ≡ b → nodes_for (read ks) key ≡ [] → elim b as (λ z. List ℕ) [
        | true ↦ elim (row k) as (λ z. List ℕ) [ [] ↦ nodes_for (read ks) key | m ∷ ms ↦ m ∷ ms ]
        | false ↦ nodes_for (read ks) key
      ] ≡ []
      by true same rest =
          ap (λ l. elim l as (λ z. List ℕ) [ [] ↦ nodes_for (read ks) key | m ∷ ms ↦ m ∷ ms ]) (ap row (same_key k key same) ∙ empty) ∙ rest
      by false other rest = rest

  all_read : (key : Key) (ks : List Key) → Contains ks key → nodes_for (read ks) key ≡ row key
  all_read key [] one = absurd (omega (arith, one.1))
  all_read key (k ∷ ks) one = front k key (row k) (read ks) ∙ by (is_same_key k key) refl (all_read key ks)
    where
      full : (nodes : List ℕ) → row key ≡ nodes → elim nodes as (λ z. List ℕ) [ [] ↦ nodes_for (read ks) key | m ∷ ms ↦ m ∷ ms ] ≡ nodes
      full [] is = none_read key is ks
      full (m ∷ ms) is = refl

      later : (i : ℕ) → i < length (k ∷ ks) → get_or (k ∷ ks) i key ≡ key → is_same_key k key ≡ false → Contains ks key
      later zero low is other = absurd (true≢false (sym (key_itself key) ∙ ap (λ x. is_same_key x key) (sym is) ∙ other))
      later (suc i) low is other = (i, omega (arith, low), is)

      by : (b : Bool) → is_same_key k key ≡ b → (Contains ks key → nodes_for (read ks) key ≡ row key) → elim b as (λ z. List ℕ) [
        | true ↦ elim (row k) as (λ z. List ℕ) [ [] ↦ nodes_for (read ks) key | m ∷ ms ↦ m ∷ ms ]
        | false ↦ nodes_for (read ks) key
      ] ≡ row key
      by true same rest = ap (λ l. elim l as (λ z. List ℕ) [ [] ↦ nodes_for (read ks) key | m ∷ ms ↦ m ∷ ms ]) (ap row (same_key k key same)) ∙ full (row key) refl
      by false other rest = rest (later one.0 one.1 one.2 other)

  -- a key that is none of them
  other_read : (P : Key → Type 0) (key : Key) → (P key → ⊥) → (ks : List Key) → All P ks → nodes_for (read ks) key ≡ []
  other_read P key not [] all = refl
  other_read P key not (k ∷ ks) all =
      front k key (row k) (read ks) ∙ by (is_same_key k key) refl (other_read P key not ks (All-tail P k ks all))
    where
      by : (b : Bool) → is_same_key k key ≡ b → nodes_for (read ks) key ≡ [] → elim b as (λ z. List ℕ) [
        | true ↦ elim (row k) as (λ z. List ℕ) [ [] ↦ nodes_for (read ks) key | m ∷ ms ↦ m ∷ ms ]
        | false ↦ nodes_for (read ks) key
      ] ≡ []
      by true same rest = absurd (not (subst P (same_key k key same) (All-head P k ks all)))
      by false other rest = rest

-- The keys of a code.

ranged : (f : ℕ → Key) (n i : ℕ) → i < n → Contains (map f (range_with_len 0 n)) (f i)
ranged f n i low = (i, omega (arith, low, length-map-range_with_len f 0 n), get_or-map-range_with_len f 0 n i i (f i) low (omega arith))

pub all_ranged : (P : Key → Type 0) (f : ℕ → Key) (n : ℕ) → ((i : ℕ) → i < n → P (f i)) → All P (map f (range_with_len 0 n))
all_ranged P f n each k d low =
    let within : k < n = omega (arith, low, length-map-range_with_len f 0 n) in
    subst P (sym (get_or-map-range_with_len f 0 n k k d within (omega arith))) (each k within)

temp_key : (c : Code) (f t n : ℕ) → t < temps_of c f → f < n → Contains (keys_before c n) (Key.Temp f t)
temp_key c f t zero low less = absurd (omega (arith, less))
temp_key c f t (suc n) low less = elim (lt_or f n) [
  | inl early ↦ Contains-append_left (keys_before c n) (map (Key.Temp n) (range_with_len 0 (temps_of c n))) (Key.Temp f t) (temp_key c f t n low early)
  | inr late ↦
      let same : n ≡ f = omega (arith, late, less) in
      subst (λ m. Contains (keys_before c n ++ map (Key.Temp m) (range_with_len 0 (temps_of c m))) (Key.Temp f t)) (sym same)
      (Contains-append_right (keys_before c n) (map (Key.Temp f) (range_with_len 0 (temps_of c f))) (Key.Temp f t) (ranged (Key.Temp f) (temps_of c f) t low))
]

temps_exist : (c : Code) (n : ℕ) → All (IsKey c) (keys_before c n)
temps_exist c zero = All-nil (IsKey c)
temps_exist c (suc n) =
    All-append (IsKey c) (keys_before c n) (map (Key.Temp n) (range_with_len 0 (temps_of c n))) (temps_exist c n)
    (all_ranged (IsKey c) (Key.Temp n) (temps_of c n) (λ i low. low))

fun_exists : (c : Code) (f t : ℕ) → t < temps_of c f → f < length c.funs
fun_exists c f t low = by (slice_get c.funs f) refl low
  where
    by : (o : Option Fun) → slice_get c.funs f ≡ o → t < elim o as (λ z. ℕ) [ None ↦ 0 | Some fun ↦ temps_of_fun fun ] → f < length c.funs
    by None is h = absurd (omega (arith, h))
    by (Some fun) is h = slice_get_within c.funs f fun is

has_key : (c : Code) (key : Key) → IsKey c key → Contains (keys_of c) key
has_key c (Key.Temp f t) low =
    Contains-append_left (keys_before c (length c.funs)) (map Key.Node (range_with_len 0 (nodes_in_code c))) (Key.Temp f t)
    (temp_key c f t (length c.funs) low (fun_exists c f t low))
has_key c (Key.Node n) low =
    Contains-append_right (keys_before c (length c.funs)) (map Key.Node (range_with_len 0 (nodes_in_code c))) (Key.Node n)
    (ranged Key.Node (nodes_in_code c) n low)

pub keys_exist : (c : Code) → All (IsKey c) (keys_of c)
keys_exist c =
    All-append (IsKey c) (keys_before c (length c.funs)) (map Key.Node (range_with_len 0 (nodes_in_code c))) (temps_exist c (length c.funs))
    (all_ranged (IsKey c) Key.Node (nodes_in_code c) (λ i low. low))

-- the entries of a table say what its rows have
abbrev pub row_in : Code → Table → Key → List ℕ
row_in c t key = members (row_of t (row_number c (row_of_key key)))

pub entries_have : (c : Code) (t : Table) (key : Key) (n : ℕ) → IsKey c key
    → points_by (flat_map (entry_in c t) (keys_of c)) key n ≡ row_has t (row_number c (row_of_key key)) n
entries_have c t key n exists =
    ap (λ l. has l n) (all_read (row_in c t) key (keys_of c) (has_key c key exists)) ∙ members_are (row_of t (row_number c (row_of_key key))) n

pub entries_lack : (c : Code) (t : Table) (key : Key) (n : ℕ) → (IsKey c key → ⊥) → points_by (flat_map (entry_in c t) (keys_of c)) key n ≡ false
entries_lack c t key n none = ap (λ l. has l n) (other_read (row_in c t) (IsKey c) key none (keys_of c) (keys_exist c))

pub key_or : (c : Code) (key : Key) → IsKey c key ⊎ (IsKey c key → ⊥)
key_or c (Key.Temp f t) = elim (lt_or t (temps_of c f)) [ inl low ↦ inl low | inr high ↦ inr (λ low. omega (arith, low, high)) ]
key_or c (Key.Node n) = elim (lt_or n (nodes_in_code c)) [ inl low ↦ inl low | inr high ↦ inr (λ low. omega (arith, low, high)) ]

-- Entries, one more at a time.

pub entries_turn : (c : Code) (t : Table) (f : ℕ → Key) (n : ℕ) (old now new : List PointsRow) (row : List Bool)
    → row_of t (row_number c (row_of_key (f n))) ≡ row → now ≡ old ++ flat_map (entry_in c t) (map f (range_with_len 0 n)) → new ≡ now ++ entry (f n) row
    → new ≡ old ++ flat_map (entry_in c t) (map f (range_with_len 0 (n + 1)))
entries_turn c t f n old now new row at before is =
    let done = flat_map (entry_in c t) (map f (range_with_len 0 n)) in
    is ∙ ap (λ r. now ++ entry (f n) r) (sym at) ∙ ap (λ l. l ++ entry_in c t (f n)) before ∙ append_assoc old done (entry_in c t (f n))
    ∙ ap (λ l. old ++ (done ++ l)) (sym (append-nil (entry_in c t (f n))))
    ∙ ap (λ l. old ++ l) (sym (flat_map-append (entry_in c t) (map f (range_with_len 0 n)) (f n ∷ [])))
    ∙ ap (λ ks. old ++ flat_map (entry_in c t) ks) (sym (map-range_with_len_more f 0 n n (omega arith)))

pub funs_turn : (c : Code) (t : Table) (f : ℕ) (now new : List PointsRow) → now ≡ flat_map (entry_in c t) (keys_before c f)
    → new ≡ now ++ flat_map (entry_in c t) (map (Key.Temp f) (range_with_len 0 (temps_of c f))) → new ≡ flat_map (entry_in c t) (keys_before c (f + 1))
funs_turn c t f now new before is =
    let next : suc f ≡ f + 1 = omega arith in
    is ∙ ap (λ l. l ++ flat_map (entry_in c t) (map (Key.Temp f) (range_with_len 0 (temps_of c f)))) before
    ∙ sym (flat_map-append (entry_in c t) (keys_before c f) (map (Key.Temp f) (range_with_len 0 (temps_of c f))))
    ∙ ap (λ n. flat_map (entry_in c t) (keys_before c n)) next
