-- A node more is marked.
use Rattle.std.proofs.Common.{◌≡◌, ℕ, zero, suc, ◌+◌, ◌<◌, ◌≤◌, ◌↔◌, Bool, true, false, Option, Some, None, List, [], length, length-set, get_or, set, replicate, All, IsTrue, refl, sym, ap, ◌∙◌, subst, arith, true≢false, inl, inr}
use Rattle.std.proofs.lemmas.Bool.{cases_eq}
use Rattle.std.proofs.lemmas.List.{length-replicate, get_or-set_same, get_or-set_other}
use Rattle.std.proofs.lemmas.List.Elements.{All-set, All-get_or}
use Rattle.std.proofs.lemmas.Option.{slice_get-get_or, get_or_from_slice_get}
use Rattle.dfi_base.specs.Bits.{has}
use Rattle.dfi_base.proofs.RowLaws.{no_bits, has_put_same, has_put_other}
use Rattle.tac_ir.specs.declared.code.Code.{Code}
use Rattle.tac_ir.specs.Counts.{nodes_in_code}
use Rattle.tac_ir.specs.Nodes.{is_leaf_node}
use Rattle.tac_ir.specs.Places.{is_leaf}
use Rattle.least_rows.specs.Rules.{Table, row_of, row_has}
use Rattle.flow_rules.specs.PointsClosed.{HasShape}
use Rattle.points_to.specs.Systems.{AreMasks, leaf_mask}
use Rattle.points_to.specs.tools.Marked.{AreMarked}
use Rattle.points_to.proofs.Inside.{node_low}
use Rattle.points_to.proofs.Sound.{leaf_low}

pub leaf_is : (c : Code) (n s : ℕ) → HasShape c n s → is_leaf_node c n ≡ is_leaf c s
leaf_is c n s is = ap (λ (o : Option ℕ). elim o as (λ z. Bool) [ None ↦ false | Some x ↦ is_leaf c x ]) is

one_shape : (c : Code) (n s r : ℕ) → HasShape c n s → HasShape c n r → r ≡ s
one_shape c n s r one two = (let same : Some r ≡ Some s = sym two ∙ one in cc)

-- a row with one place more
abbrev marked : Table → ℕ → ℕ → Table
marked masks s n = set masks s (set (row_of masks s) n true)

pub at_row : (masks : Table) (s : ℕ) (row : List Bool) → s < length masks → row ≡ get_or masks s row → row_of masks s ≡ row
at_row masks s row low at = get_or_from_slice_get masks s row [] (slice_get-get_or masks s row low ∙ ap Some (sym at))

module _ (masks : Table) (s n : ℕ) (low : s < length masks) (within : n < length (row_of masks s)) where
  mark_same : row_has (marked masks s n) s n ≡ true
  mark_same = ap (λ l. has l n) (get_or-set_same masks s (set (row_of masks s) n true) [] low) ∙ has_put_same (row_of masks s) n true within

  mark_other : (k : ℕ) → (k ≡ n → ⊥) → row_has (marked masks s n) s k ≡ row_has masks s k
  mark_other k apart =
      ap (λ l. has l k) (get_or-set_same masks s (set (row_of masks s) n true) [] low) ∙ has_put_other (row_of masks s) n k true apart

  mark_else : (r k : ℕ) → (r ≡ s → ⊥) → row_has (marked masks s n) r k ≡ row_has masks r k
  mark_else r k apart = ap (λ l. has l k) (get_or-set_other masks s r (set (row_of masks s) n true) [] apart)

  mark_wide : (wide : ℕ) → All (λ mask. length mask ≡ wide) masks → All (λ mask. length mask ≡ wide) (marked masks s n)
  mark_wide wide all =
      All-set (λ mask. length mask ≡ wide) masks s (set (row_of masks s) n true)
      (length-set (row_of masks s) n true ∙ All-get_or (λ mask. length mask ≡ wide) masks s [] low all) all

pub row_wide : (c : Code) (n m s : ℕ) (masks : Table) → AreMarked c n m masks → s < length masks → length (row_of masks s) ≡ nodes_in_code c
row_wide c n m s masks is low = All-get_or (λ mask. length mask ≡ nodes_in_code c) masks s [] low is.wide

pub shape_marked : (c : Code) (n m s : ℕ) (masks : Table) → AreMarked c n m masks → HasShape c n s → s < length c.shapes → AreMarked c (n + 1) m (marked masks s n)
shape_marked c n m s masks is shape low = record {
  count = length-set masks s (set (row_of masks s) n true) ∙ is.count;
  wide = mark_wide masks s n inside within (nodes_in_code c) is.wide;
  shapes = by;
  leaves = λ k. subst (λ b. IsTrue b ↔ ((k < m) × (is_leaf_node c k ≡ true))) (sym (mark_else masks s n inside within (leaf_mask c) k (λ same. omega (arith, same, low)))) (is.leaves k);
}
  where
    inside : s < length masks
    inside = omega (arith, low, is.count)

    within : n < length (row_of masks s)
    within = (let few = node_low c n s shape in let wide = row_wide c n m s masks is inside in omega (arith, few, wide))

    more : (r k : ℕ) → r < length c.shapes → (k ≡ n → HasShape c k r → ⊥) → IsTrue (row_has masks r k) ↔ ((k < n + 1) × HasShape c k r)
    more r k low' apart = (
      λ had. let old = (is.shapes r k low').0 had in (omega (arith, old.0), old.1),
      λ one. (is.shapes r k low').1 (below one, one.1),
    )
      where
        below : (k < n + 1) × HasShape c k r → k < n
        below one = elim (cases_eq k n) [ inl same ↦ absurd (apart same one.1) | inr other ↦ omega (arith, one.0, other) ]

    by : (r k : ℕ) → r < length c.shapes → IsTrue (row_has (marked masks s n) r k) ↔ ((k < n + 1) × HasShape c k r)
    by r k low' = elim (cases_eq r s) [
      | inl same ↦ elim (cases_eq k n) [
        | inl here ↦ (
          λ had. (omega (arith, here), subst (λ x. HasShape c x r) (sym here) (subst (HasShape c n) (sym same) shape)),
          λ one. subst (λ x. IsTrue (row_has (marked masks s n) x k)) (sym same) (subst (λ x. IsTrue (row_has (marked masks s n) s x)) (sym here) (mark_same masks s n inside within)),
        )
        | inr away ↦
            subst (λ b. IsTrue b ↔ ((k < n + 1) × HasShape c k r))
            (sym (ap (λ x. row_has (marked masks s n) x k) same ∙ mark_other masks s n inside within k away ∙ ap (λ x. row_has masks x k) (sym same)))
            (more r k low' (λ here had. away here))
      ]
      | inr other ↦
          subst (λ b. IsTrue b ↔ ((k < n + 1) × HasShape c k r)) (sym (mark_else masks s n inside within r k other))
          (more r k low' (λ here had. other (one_shape c n s r shape (subst (λ x. HasShape c x r) here had))))
    ]

pub leaf_marked : (c : Code) (n s : ℕ) (masks : Table) → AreMarked c (n + 1) n masks → HasShape c n s → is_leaf c s ≡ true
    → AreMarked c (n + 1) (n + 1) (marked masks (length c.shapes) n)
leaf_marked c n s masks is shape leaf = record {
  count = length-set masks (length c.shapes) (set (row_of masks (length c.shapes)) n true) ∙ is.count;
  wide = mark_wide masks (length c.shapes) n inside within (nodes_in_code c) is.wide;
  shapes = λ r k low. subst (λ b. IsTrue b ↔ ((k < n + 1) × HasShape c k r)) (sym (mark_else masks (length c.shapes) n inside within r k (λ same. omega (arith, same, low)))) (is.shapes r k low);
  leaves = λ k. elim (cases_eq k n) [
    | inl here ↦ (
      λ had. (omega (arith, here), ap (is_leaf_node c) here ∙ leaf_is c n s shape ∙ leaf),
      λ one. subst (λ x. IsTrue (row_has (marked masks (length c.shapes) n) (length c.shapes) x)) (sym here) (mark_same masks (length c.shapes) n inside within),
    )
    | inr away ↦ (
      λ had.
          let old = (is.leaves k).0 (sym (mark_other masks (length c.shapes) n inside within k away) ∙ had) in
          (omega (arith, old.0), old.1),
      λ one. mark_other masks (length c.shapes) n inside within k away ∙ (is.leaves k).1 (omega (arith, one.0, away), one.1),
    )
  ];
}
  where
    inside : length c.shapes < length masks
    inside = omega (arith, is.count)

    within : n < length (row_of masks (length c.shapes))
    within = (let few = node_low c n s shape in let wide = row_wide c (n + 1) n (length c.shapes) masks is inside in omega (arith, few, wide))

pub leaf_not : (c : Code) (n s : ℕ) (masks : Table) → AreMarked c (n + 1) n masks → HasShape c n s → is_leaf c s ≡ false → AreMarked c (n + 1) (n + 1) masks
leaf_not c n s masks is shape none = record {
  count = is.count;
  wide = is.wide;
  shapes = is.shapes;
  leaves = λ k. (
    λ had. let old = (is.leaves k).0 had in (omega (arith, old.0), old.1),
    λ one. (is.leaves k).1 (below k one, one.1),
  );
}
  where
    below : (k : ℕ) → (k < n + 1) × (is_leaf_node c k ≡ true) → k < n
    below k one = elim (cases_eq k n) [
      | inl here ↦ absurd (true≢false (sym one.1 ∙ ap (is_leaf_node c) here ∙ leaf_is c n s shape ∙ none))
      | inr away ↦ omega (arith, one.0, away)
    ]

pub none_marked : (c : Code) (masks : Table) → masks ≡ replicate (length c.shapes + 1) (replicate (nodes_in_code c) false) → AreMarked c 0 0 masks
none_marked c masks is = subst (AreMarked c 0 0) (sym is) (record {
  count = length-replicate (length c.shapes + 1) (replicate (nodes_in_code c) false);
  wide = rows_wide (length c.shapes + 1);
  shapes = λ s k low. (λ had. absurd (true≢false (sym had ∙ nothing (length c.shapes + 1) s k)), λ one. absurd (omega (arith, one.0)));
  leaves = λ k. (λ had. absurd (true≢false (sym had ∙ nothing (length c.shapes + 1) (length c.shapes) k)), λ one. absurd (omega (arith, one.0)));
})
  where
    nothing : (count s k : ℕ) → row_has (replicate count (replicate (nodes_in_code c) false)) s k ≡ false
    nothing zero s zero = refl
    nothing zero s (suc k) = refl
    nothing (suc count) zero k = no_bits (nodes_in_code c) k
    nothing (suc count) (suc s) k = nothing count s k

    rows_wide : (count : ℕ) → All (λ mask. length mask ≡ nodes_in_code c) (replicate count (replicate (nodes_in_code c) false))
    rows_wide zero k d low = absurd (omega (arith, low))
    rows_wide (suc count) zero d low = length-replicate (nodes_in_code c) false
    rows_wide (suc count) (suc k) d low = rows_wide count k d (omega (arith, low))

pub all_marked : (c : Code) (n : ℕ) (masks : Table) → nodes_in_code c ≤ n → AreMarked c n n masks → AreMasks c masks
all_marked c n masks high is = record {
  count = is.count;
  wide = is.wide;
  shapes = λ s k low. (
    λ had. ((is.shapes s k low).0 had).1,
    λ one. (is.shapes s k low).1 (let low' = node_low c k s one in omega (arith, low', high), one),
  );
  leaves = λ k. by k (row_has masks (leaf_mask c) k) (is_leaf_node c k) refl refl;
}
  where
    by : (k : ℕ) (a b : Bool) → row_has masks (leaf_mask c) k ≡ a → is_leaf_node c k ≡ b → row_has masks (leaf_mask c) k ≡ is_leaf_node c k
    by k true b one two = one ∙ sym ((is.leaves k).0 one).1
    by k false true one two = (let low = leaf_low c k two in (is.leaves k).1 (omega (arith, low, high), two) ∙ sym two)
    by k false false one two = one ∙ sym two
