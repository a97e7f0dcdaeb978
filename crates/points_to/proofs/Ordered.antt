-- The entries of a table stand in the order of their keys; each has members, which ascend, and whose nodes exist.
use Rattle.std.proofs.Common.{◌≡◌, ℕ, zero, suc, ◌+◌, ◌<◌, ◌≤◌, Bool, true, false, ◌&&◌, List, [], ◌∷◌, ◌++◌, length, map, All, refl, sym, ap, ◌∙◌, subst, arith}
use Rattle.std.specs.Prelude.{nat_eq, nat_lt, if◌then◌else◌}
use Rattle.std.specs.List.{flat_map, range_with_len, list_all, AllByRecursion}
use Rattle.std.proofs.lemmas.Bool.{eq-eqb, le-ltb, lt-ltb}
use Rattle.std.proofs.lemmas.List.Elements.{All-nil, All-append, All-head, All-tail, All-from_recursion}
use Rattle.std.proofs.lemmas.List.FromFn.{map-range_with_len_more}
use Rattle.dfi_base.specs.Bits.{members_from}
use Rattle.tac_ir.specs.declared.code.Code.{Code}
use Rattle.tac_ir.specs.declared.module.Key.{Key}
use Rattle.tac_ir.specs.declared.module.PointsRow.{PointsRow}
use Rattle.tac_ir.specs.Counts.{temps_of, nodes_in_code}
use Rattle.tac_ir.specs.GoodModule.{IsGoodPointsRow, IsKey, IsNode}
use Rattle.tac_ir.specs.Module.{is_chain, is_row, key_before}
use Rattle.least_rows.specs.Rules.{Table, row_of}
use Rattle.flow_rules.specs.ReachRows.{ArePointsOf}
use Rattle.points_to.specs.Rows.{row_of_key, row_number}
use Rattle.points_to.specs.tools.Entries.{entry_by, entry_in, keys_before, keys_of}
use Rattle.points_to.proofs.Reading.{all_ranged, keys_exist, row_in}

-- Members of a row ascend, and are below its length.

members_below : (x at : ℕ) (row : List Bool) → x < at → is_chain nat_lt (x ∷ members_from at row) ≡ true
members_below x at [] low = refl
members_below x at (true ∷ row) low = ap (λ b. b && is_chain nat_lt (at ∷ members_from (suc at) row)) (lt-ltb x at low) ∙ members_below at (suc at) row (omega arith)
members_below x at (false ∷ row) low = members_below x (suc at) row (omega (arith, low))

members_chain : (at : ℕ) (row : List Bool) → is_chain nat_lt (members_from at row) ≡ true
members_chain at [] = refl
members_chain at (true ∷ row) = members_below at (suc at) row (omega arith)
members_chain at (false ∷ row) = members_chain (suc at) row

members_within : (at n : ℕ) (row : List Bool) → at + length row ≤ n → AllByRecursion (λ x. x < n) (members_from at row)
members_within at n [] room = tt
members_within at n (true ∷ row) room = (omega (arith, room), members_within (suc at) n row (omega (arith, room)))
members_within at n (false ∷ row) room = members_within (suc at) n row (omega (arith, room))

-- Keys ascend.

abbrev AllBehind : Key → List Key → Type 0
AllBehind k = All (λ x. key_before k x ≡ true)

abbrev Ascend : List Key → Type 0
Ascend [] = Unit {0}
Ascend (k ∷ ks) = AllBehind k ks × Ascend ks

ascend_append : (xs ys : List Key) → Ascend xs → Ascend ys → All (λ x. AllBehind x ys) xs → Ascend (xs ++ ys)
ascend_append [] ys one two cross = two
ascend_append (x ∷ xs) ys one two cross = (
  All-append (λ y. key_before x y ≡ true) xs ys one.0 (All-head (λ z. AllBehind z ys) x xs cross),
  ascend_append xs ys one.1 two (All-tail (λ z. AllBehind z ys) x xs cross),
)

ranged_ascend : (f : ℕ → Key) → ((i j : ℕ) → i < j → key_before (f i) (f j) ≡ true) → (n : ℕ) → Ascend (map f (range_with_len 0 n))
ranged_ascend f before zero = tt
ranged_ascend f before (suc n) =
    let next : n + 1 ≡ suc n = omega arith in
    subst (λ m. Ascend (map f (range_with_len 0 m))) next
    (subst Ascend (sym (map-range_with_len_more f 0 n n (omega arith)))
    (ascend_append (map f (range_with_len 0 n)) (f n ∷ []) (ranged_ascend f before n) (All-nil (λ x. key_before (f n) x ≡ true), tt)
    (all_ranged (λ x. AllBehind x (f n ∷ [])) f n (λ i low. one_behind (f i) (f n) (before i n low)))))
  where
    one_behind : (k x : Key) → key_before k x ≡ true → AllBehind k (x ∷ [])
    one_behind k x h = All-from_recursion (λ y. key_before k y ≡ true) (x ∷ []) (h, tt)

temp_earlier : (f t g u : ℕ) → f < g → key_before (Key.Temp f t) (Key.Temp g u) ≡ true
temp_earlier f t g u low = ap (λ b. if b then true else (nat_eq f g && nat_lt t u)) (lt-ltb f g low)

temp_next : (f i j : ℕ) → i < j → key_before (Key.Temp f i) (Key.Temp f j) ≡ true
temp_next f i j low =
    ap (λ b. if b then true else (nat_eq f f && nat_lt i j)) (le-ltb f f (omega arith)) ∙ ap (λ b. b && nat_lt i j) (eq-eqb f f refl) ∙ lt-ltb i j low

temps_behind : (c : Code) (f n m : ℕ) → n ≤ f → All (λ x. AllBehind x (map (Key.Temp f) (range_with_len 0 m))) (keys_before c n)
temps_behind c f zero m low = All-nil (λ x. AllBehind x (map (Key.Temp f) (range_with_len 0 m)))
temps_behind c f (suc n) m low =
    All-append (λ x. AllBehind x (map (Key.Temp f) (range_with_len 0 m))) (keys_before c n) (map (Key.Temp n) (range_with_len 0 (temps_of c n)))
    (temps_behind c f n m (omega (arith, low)))
    (all_ranged (λ x. AllBehind x (map (Key.Temp f) (range_with_len 0 m))) (Key.Temp n) (temps_of c n)
    (λ i within. all_ranged (λ y. key_before (Key.Temp n i) y ≡ true) (Key.Temp f) m (λ j within'. temp_earlier n i f j (omega (arith, low)))))

nodes_behind : (c : Code) (n m : ℕ) → All (λ x. AllBehind x (map Key.Node (range_with_len 0 m))) (keys_before c n)
nodes_behind c zero m = All-nil (λ x. AllBehind x (map Key.Node (range_with_len 0 m)))
nodes_behind c (suc n) m =
    All-append (λ x. AllBehind x (map Key.Node (range_with_len 0 m))) (keys_before c n) (map (Key.Temp n) (range_with_len 0 (temps_of c n)))
    (nodes_behind c n m)
    (all_ranged (λ x. AllBehind x (map Key.Node (range_with_len 0 m))) (Key.Temp n) (temps_of c n)
    (λ i within. all_ranged (λ y. key_before (Key.Temp n i) y ≡ true) Key.Node m (λ j within'. refl)))

temps_ascend : (c : Code) (n : ℕ) → Ascend (keys_before c n)
temps_ascend c zero = tt
temps_ascend c (suc n) =
    ascend_append (keys_before c n) (map (Key.Temp n) (range_with_len 0 (temps_of c n))) (temps_ascend c n)
    (ranged_ascend (Key.Temp n) (temp_next n) (temps_of c n)) (temps_behind c n n (temps_of c n) (omega arith))

keys_ascend : (c : Code) → Ascend (keys_of c)
keys_ascend c =
    ascend_append (keys_before c (length c.funs)) (map Key.Node (range_with_len 0 (nodes_in_code c))) (temps_ascend c (length c.funs))
    (ranged_ascend Key.Node lt-ltb (nodes_in_code c)) (nodes_behind c (length c.funs) (nodes_in_code c))

-- Entries of ascending keys.

abbrev by_keys : List PointsRow → Bool
by_keys = is_chain (λ a b. key_before a.key b.key)

chain_first : (r : PointsRow) (rows : List PointsRow) → All (λ s. key_before r.key s.key ≡ true) rows → by_keys rows ≡ true → by_keys (r ∷ rows) ≡ true
chain_first r [] behind chain = refl
chain_first r (s ∷ rows) behind chain = ap (λ b. b && by_keys (s ∷ rows)) (All-head (λ x. key_before r.key x.key ≡ true) s rows behind) ∙ chain

module _ (row : Key → List ℕ) where
  abbrev made : List Key → List PointsRow
  made ks = flat_map (λ k. entry_by k (row k)) ks

  -- what an entry of each key keeps, all keep
  all_made : (K : Key → Type 0) (P : PointsRow → Type 0) → ((k : Key) (nodes : List ℕ) → K k → row k ≡ nodes → P (record { key = k; nodes = nodes }))
      → (ks : List Key) → All K ks → All P (made ks)
  all_made K P each [] all = All-nil P
  all_made K P each (k ∷ ks) all =
      All-append P (entry_by k (row k)) (made ks) (by (row k) refl) (all_made K P each ks (All-tail K k ks all))
    where
      by : (nodes : List ℕ) → row k ≡ nodes → All P (entry_by k nodes)
      by [] is = All-nil P
      by (n ∷ nodes) is = All-from_recursion P (record { key = k; nodes = n ∷ nodes } ∷ []) (each k (n ∷ nodes) (All-head K k ks all) is, tt)

  made_ordered : (ks : List Key) → Ascend ks → by_keys (made ks) ≡ true
  made_ordered [] ascend = refl
  made_ordered (k ∷ ks) ascend = by (row k) (made_ordered ks ascend.1)
    where
      by : (nodes : List ℕ) → by_keys (made ks) ≡ true → by_keys (entry_by k nodes ++ made ks) ≡ true
      by [] rest = rest
      by (n ∷ nodes) rest =
          chain_first (record { key = k; nodes = n ∷ nodes }) (made ks)
          (all_made (λ x. key_before k x ≡ true) (λ s. key_before k s.key ≡ true) (λ x nodes' low is. low) ks ascend.0) rest

  made_full : ((k : Key) → is_chain nat_lt (row k) ≡ true) → (ks : List Key) → list_all (λ r. is_row r.nodes) (made ks) ≡ true
  made_full chain [] = refl
  made_full chain (k ∷ ks) = by (row k) (chain k) (made_full chain ks)
    where
      by : (nodes : List ℕ) → is_chain nat_lt nodes ≡ true → list_all (λ r. is_row r.nodes) (made ks) ≡ true → list_all (λ r. is_row r.nodes) (entry_by k nodes ++ made ks) ≡ true
      by [] own rest = rest
      by (n ∷ nodes) own rest = ap (λ b. b && list_all (λ r. is_row r.nodes) (made ks)) own ∙ rest

-- The entries of a table.

row_most : (n : ℕ) (t : Table) → AllByRecursion (λ row. length row ≡ n) t → (r : ℕ) → length (row_of t r) ≤ n
row_most n [] wide r = omega arith
row_most n (row ∷ t) wide zero = (let own = wide.0 in omega (arith, own))
row_most n (row ∷ t) wide (suc r) = row_most n t wide.1 r

module _ (c : Code) (t : Table) (wide : AllByRecursion (λ row. length row ≡ nodes_in_code c) t) where
  good_entry : (k : Key) (nodes : List ℕ) → IsKey c k → row_in c t k ≡ nodes → IsGoodPointsRow c (record { key = k; nodes = nodes })
  good_entry k nodes exists is =
      let most = row_most (nodes_in_code c) t wide (row_number c (row_of_key k)) in
      record {
        key = exists;
        nodes = subst (All (IsNode c)) is
            (All-from_recursion (IsNode c) (row_in c t k) (members_within 0 (nodes_in_code c) (row_of t (row_number c (row_of_key k))) (omega (arith, most))));
      }

  pub entries_ordered : ArePointsOf c (flat_map (entry_in c t) (keys_of c))
  entries_ordered = record {
    good = all_made (row_in c t) (IsKey c) (IsGoodPointsRow c) good_entry (keys_of c) (keys_exist c);
    members = made_full (row_in c t) (λ k. members_chain 0 (row_of t (row_number c (row_of_key k)))) (keys_of c);
    order = made_ordered (row_in c t) (keys_of c) (keys_ascend c);
  }
