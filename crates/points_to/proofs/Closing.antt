-- The entries of a table that has what may point to what say exactly that, and such entries are closed.
use Rattle.std.proofs.Common.{◌≡◌, ℕ, Bool, true, false, [], ◌∷◌, refl, sym, ap, ◌∙◌, subst, true≢false, inl, inr}
use Rattle.std.proofs.lemmas.Bool.{eqb-true}
use Rattle.std.specs.Prelude.{◌↔◌, ◌&&◌, ◌||◌, IsTrue, List, nat_eq}
use Rattle.std.specs.List.{flat_map}
use Rattle.dfi_base.specs.declared.numbers.Point.{Point}
use Rattle.tac_ir.specs.declared.code.Code.{Code}
use Rattle.tac_ir.specs.declared.code.Instr.{Instr}
use Rattle.tac_ir.specs.declared.module.Key.{Key}
use Rattle.tac_ir.specs.declared.module.PointsRow.{PointsRow}
use Rattle.tac_ir.specs.Layout.{instr_at}
use Rattle.tac_ir.specs.Nodes.{is_leaf_node, place_node}
use Rattle.tac_ir.specs.Answers.{has}
use Rattle.tac_ir.specs.GoodForm.{GoodForm}
use Rattle.tac_ir.specs.GoodModule.{IsKey}
use Rattle.least_rows.specs.Rules.{Table, row_has}
use Rattle.flow_rules.specs.Tables.{points_by}
use Rattle.flow_rules.specs.Touches.{leaves_touched}
use Rattle.flow_rules.specs.PointsClosed.{ValueRule, AccessRule}
use Rattle.flow_rules.specs.PointsTo.{PointsTo}
use Rattle.flow_rules.specs.PointsTo.PointsTo.{addr, field, decay, index, new, call, ret, get, load, set, store}
use Rattle.flow_rules.specs.Laws.{AreClosed}
use Rattle.flow_rules.proofs.Least.{leaf_of, leaf_before}
use Rattle.points_to.specs.Rows.{row_of_key, row_number}
use Rattle.points_to.specs.tools.Entries.{entry_in, keys_of}
use Rattle.points_to.proofs.Reading.{entries_have, entries_lack, key_or}
use Rattle.points_to.proofs.Keyed.{keyed}

pub entries_are : (c : Code) (t : Table) (rows : List PointsRow) → GoodForm c → rows ≡ flat_map (entry_in c t) (keys_of c)
    → ((key : Key) (n : ℕ) → IsKey c key → IsTrue (row_has t (row_number c (row_of_key key)) n) ↔ PointsTo c key n)
    → (key : Key) (n : ℕ) → (points_by rows key n ≡ true) ↔ PointsTo c key n
entries_are c t rows good list points key n = elim (key_or c key) [
  | inl exists ↦
      let have = ap (λ l. points_by l key n) list ∙ entries_have c t key n exists in
      let told = points key n exists in (
        λ h. told.0 (sym have ∙ h),
        λ to. have ∙ told.1 to,
      )
  | inr none ↦ (
    λ h. absurd (true≢false (sym h ∙ ap (λ l. points_by l key n) list ∙ entries_lack c t key n none)),
    λ to. absurd (none (keyed c good key n to)),
  )
]

-- Closed.

-- the one leaf of a place
only_leaf : (n a : ℕ) → has (n ∷ []) a ≡ true → n ≡ a
only_leaf n a h = by (nat_eq n a) refl h
  where
    by : (b : Bool) → nat_eq n a ≡ b → (b || false) ≡ true → n ≡ a
    by true same h = eqb-true n a same
    by false same h = cc

split : (a b : Bool) → (a && b) ≡ true → (a ≡ true) × (b ≡ true)
split true b h = (refl, h)
split false b h = cc

module _ (c : Code) (rows : List PointsRow) (are : (key : Key) (n : ℕ) → (points_by rows key n ≡ true) ↔ PointsTo c key n) where
  from : (key : Key) (n : ℕ) → points_by rows key n ≡ true → PointsTo c key n
  from key n = (are key n).0

  back : (key : Key) (n : ℕ) → PointsTo c key n → points_by rows key n ≡ true
  back key n = (are key n).1

  values : (p : Point) (i : Instr) → instr_at c p ≡ i → ValueRule c (points_by rows) p.fun i
  values p (Instr.Addr to place) is = back (Key.Temp p.fun to) (place_node c p.fun place) (addr p to place is)
  values p (Instr.Field to x s k) is = λ n h shape. back (Key.Temp p.fun to) _ (field p to x s k n is (from (Key.Temp p.fun x) n h) shape)
  values p (Instr.Decay to x s) is = λ n h shape. back (Key.Temp p.fun to) _ (decay p to x s n is (from (Key.Temp p.fun x) n h) shape)
  values p (Instr.Index to x y words) is = λ n h. back (Key.Temp p.fun to) n (index p to x y words n is (from (Key.Temp p.fun x) n h))
  values p (Instr.New to x site) is = back (Key.Temp p.fun to) _ (new p to x site is)
  values p (Instr.Call to g d args) is = λ i x here n h. back (Key.Temp g i) n (call p to g d i x n args is here (from (Key.Temp p.fun x) n h))
  values p (Instr.Ret x r) is = λ q to d args called n h. back (Key.Temp q.fun to) n (ret p q x to d n r args is called (from (Key.Temp p.fun x) n h))
  values p i is = tt

  accesses : (p : Point) (i : Instr) → instr_at c p ≡ i → AccessRule (has (leaves_touched c rows p.fun i)) (points_by rows) p.fun i
  accesses p (Instr.Get to place r) is = λ a touched n h. back (Key.Temp p.fun to) n
      (get p to r n place is (subst (λ b. PointsTo c (Key.Node b) n) (sym (only_leaf (place_node c p.fun place) a touched)) (from (Key.Node a) n h)))
  accesses p (Instr.Load to x r) is = λ a touched n h.
      let parts = split (points_by rows (Key.Temp p.fun x) a) (is_leaf_node c a) (sym (leaf_of c rows p.fun x a) ∙ touched) in
      back (Key.Temp p.fun to) n (load p to x r a n is (from (Key.Temp p.fun x) a parts.0) parts.1 (from (Key.Node a) n h))
  accesses p (Instr.Set place x d) is = λ a touched n h.
      subst (λ b. points_by rows (Key.Node b) n ≡ true) (only_leaf (place_node c p.fun place) a touched)
      (back (Key.Node (place_node c p.fun place)) n (set p x d n place is (from (Key.Temp p.fun x) n h)))
  accesses p (Instr.Store x y d) is = λ a touched n h.
      let parts = split (points_by rows (Key.Temp p.fun x) a) (is_leaf_node c a) (sym (leaf_before c rows p.fun x a) ∙ touched) in
      back (Key.Node a) n (store p x y d a n is (from (Key.Temp p.fun x) a parts.0) parts.1 (from (Key.Temp p.fun y) n h))
  accesses p i is = tt

  pub closed : AreClosed c rows
  closed = record {
    values = record { each = λ p. values p (instr_at c p) refl };
    accesses = record { each = λ p. accesses p (instr_at c p) refl };
  }
