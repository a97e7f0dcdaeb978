-- Masks of shapes.
use Rattle.std.proofs.Common.{◌≡◌, ℕ, zero, suc, ◌<◌, ◌≤◌, Bool, true, false, ◌||◌, Some, List, [], ◌∷◌, length, get_or, refl, sym, ap, ◌∙◌, arith, true≢false}
use Rattle.std.specs.Prelude.{nat_eq, slice_get}
use Rattle.std.specs.List.{list_any}
use Rattle.std.proofs.lemmas.Bool.{eqb-true, eq-eqb}
use Rattle.std.proofs.lemmas.Option.{slice_get-get_or, get_or_from_slice_get}
use Rattle.dfi_base.specs.Bits.{has}
use Rattle.tac_ir.specs.declared.code.Code.{Code}
use Rattle.tac_ir.specs.Counts.{shape_nodes}
use Rattle.tac_ir.specs.GoodForm.{GoodForm}
use Rattle.tac_ir.specs.Nodes.{node_shapes}
use Rattle.least_rows.specs.Rules.{Table, row_of}
use Rattle.points_to.specs.Systems.{AreMasks, has_node}
use Rattle.points_to.proofs.Inside.{shape_fits}

pub any_at : (xs : List ℕ) (n s : ℕ) → slice_get xs n ≡ Some s → list_any (λ x. nat_eq x s) xs ≡ true
any_at [] n s found = cc
any_at (x ∷ xs) zero s found = (let same : x ≡ s = cc in ap (λ b. b || list_any (λ y. nat_eq y s) xs) (eq-eqb x s same))
any_at (x ∷ xs) (suc n) s found = by (nat_eq x s) (any_at xs n s found)
  where
    by : (b : Bool) → list_any (λ y. nat_eq y s) xs ≡ true → (b || list_any (λ y. nat_eq y s) xs) ≡ true
    by true is = refl
    by false is = is

-- some index has the shape
pub any_where : (xs : List ℕ) (s : ℕ) → list_any (λ x. nat_eq x s) xs ≡ true → (n : ℕ) × (slice_get xs n ≡ Some s)
any_where [] s is = cc
any_where (x ∷ xs) s is = by (nat_eq x s) refl is (any_where xs s)
  where
    by : (b : Bool) → nat_eq x s ≡ b → (b || list_any (λ y. nat_eq y s) xs) ≡ true
        → (list_any (λ y. nat_eq y s) xs ≡ true → (n : ℕ) × (slice_get xs n ≡ Some s)) → (n : ℕ) × (slice_get (x ∷ xs) n ≡ Some s)
    by true same h rest = (0, ap Some (eqb-true x s same))
    by false other h rest = (let one = rest h in (suc one.0, one.1))

module _ (c : Code) (masks : Table) (is : AreMasks c masks) (s : ℕ) (low : s < length c.shapes) (row : List Bool) (at : row ≡ get_or masks s row) where
  this_row : row_of masks s ≡ row
  this_row = get_or_from_slice_get masks s row [] (slice_get-get_or masks s row (omega (arith, low, is.count)) ∙ ap Some (sym at))

  pub node_found : (n : ℕ) → has row n ≡ true → has_node c s ≡ true
  node_found n had = any_at (node_shapes c) n s ((is.shapes s n low).0 (ap (λ l. has l n) this_row ∙ had))

  pub node_missed : ((k : ℕ) → 0 ≤ k → has row k ≡ false) → has_node c s ≡ false
  node_missed none = by (has_node c s) refl
    where
      by : (b : Bool) → has_node c s ≡ b → has_node c s ≡ false
      by false none' = none'
      by true some =
          let one = any_where (node_shapes c) s some in
          absurd (true≢false (sym ((is.shapes s one.0 low).1 one.1) ∙ ap (λ l. has l one.0) this_row ∙ none one.0 (omega arith)))

pub few_parts : (c : Code) → GoodForm c → (s : ℕ) → has_node c s ≡ true → shape_nodes c s ≤ 16384
few_parts c good s some =
    let one = any_where (node_shapes c) s some in
    let fits = shape_fits c one.0 s one.1 in
    let few = good.limits.nodes in
    omega (arith, fits, few)
