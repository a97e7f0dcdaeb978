-- The code of a well-formed expression holds where it stands.
use Rattle.std.proofs.Common.{◌≡◌, ℕ, suc, ◌+◌, ◌<◌, ◌≤◌, Bool, true, false, pos, List, [], ◌∷◌, map, length, Some, None, refl, ap, sym, ◌∙◌, subst, arith}
use Rattle.std.specs.Prelude.{◌&&◌}
use Rattle.std.proofs.lemmas.List.{length-map}
use Rattle.c_ast.specs.declared.expr.BinaryOp.{BinaryOp}
use Rattle.c_typed.specs.declared.types.ObjectType.{ObjectType}
use Rattle.c_typed.specs.declared.types.ExprType.{ExprType}
use Rattle.c_typed.specs.declared.expr.Expr.{Expr}
use Rattle.c_typed.specs.declared.expr.Form.{Form, out-Form}
use Rattle.c_typed.specs.declared.expr.Form.TheOpen.{Form-F}
use Rattle.c_typed.specs.Types.{words_of, scalar_type, accepts}
use Rattle.c_typed.specs.Exprs.{all_fit}
use Rattle.c_typed.specs.IsWell.{Context, IsObject, IsTyping, IsField, IsCallOf, IsLayer, IsExpr, AreExprs, known, none, each, operands_of}
use Rattle.tac_ir.specs.declared.code.Place.{Place}
use Rattle.tac_ir.specs.Places.{is_array, IsLeafPlace}
use Rattle.tac_ir.specs.Layout.{parts_of}
use Rattle.tac_lower.specs.declared.draft.Ends.{Ends}
use Rattle.c_typed.specs.Elaboration as elaboration
use Rattle.c_typed.specs.Elaboration.{object_of, truth_of, Skips, skips}
use Rattle.tac_lower.specs.Parts.{chained, given, gathered, ◌▷◌}
use Rattle.tac_lower.specs.Instrs.{constant, address, field, decay, index, get, load, new, call}
use Rattle.tac_lower.specs.Values.{Yield, direct, left, value, part_of, read, pointer_to, truth_by, truth, prefix, carried, binary_by, form_step, expr}
use Rattle.tac_lower.proofs.pieces.Levels.{mapped, typing_is}
use Rattle.tac_lower.proofs.emitted.Chains.{truth_counts, prefix_counts, carried_counts}
use Rattle.tac_lower.proofs.form.Holds.{holds_given, World, Known, IsDeclared, Anywhere, holds_seq, holds_then}
use Rattle.tac_lower.proofs.form.Parted.{Parted, PartedTyping, no_arrays, scalar_parted, decay_parted, called_parted, binary_parted}
use Rattle.tac_lower.proofs.form.Names.{Shaped, IsPlaceOf, field_there, field_place, global_place, local_place}
use Rattle.tac_lower.proofs.form.Fits.{constant_holds, null_holds, address_holds, field_holds, decay_holds, index_holds, get_holds, load_holds, new_holds, call_holds, in_holds, left_holds}
use Rattle.tac_lower.proofs.form.ExprParts.{gathered_length, operation_items, Piece, YieldHolds, onward_holds, temp_holds, truth_as_holds, prefix_holds, carried_holds, both_holds, either_holds, AllHold, gathered_holds}
use Rattle.tac_lower.proofs.form.RunExprs.{yield_of}

place_is : {s t : ObjectType} → ExprType.Place s ≡ ExprType.Place t → s ≡ t
place_is e = cc

-- a scalar place is a leaf
pub leaf_of : (w : World) (c : Context) (sizes : List ℕ) → Shaped w c sizes → (p : Place) (t : ObjectType) (v : ExprType) → scalar_type t ≡ Some v → IsPlaceOf w p t → IsLeafPlace w.code w.fun p
leaf_of w c sizes names p t v scalar is = (w.shape t, is.shape, names.scalars t v scalar)

fits_length : (es : List Expr) (ts : List ObjectType) → all_fit es ts ≡ true → length es ≡ length ts
fits_length [] [] h = refl
fits_length [] (t ∷ ts) h = cc
fits_length (e ∷ es) [] h = cc
fits_length (e ∷ es) (t ∷ ts) h = ap suc (fits_length es ts (second (accepts e.typing t) (all_fit es ts) h))
  where
    second : (p q : Bool) → (p && q) ≡ true → q ≡ true
    second true q h = h
    second false q h = cc

module _ (w : World) (b : Bool) (outs : Ends → ℕ → Type 0) (c : Context) (sizes : List ℕ) (names : Shaped w c sizes) where
  abbrev Outs : Ends → ℕ → ℕ → Type 0
  Outs = Anywhere outs

  -- an expression at every line, with the type that it has
  pub record ExprHolds (e : Expr) : Type 0 where
    pub typing : IsTyping c.structs e.typing
    pub parted : PartedTyping w.types e.typing
    pub yield : (line : ℕ) → YieldHolds w b outs e.typing ((expr sizes e).yield line)

  pub value_holds : (line : ℕ) (e : Expr) → ExprHolds e → Piece w b outs (value line (expr sizes e))
  value_holds line e is = temp_holds w b outs e.typing ((expr sizes e).yield line) (is.yield line)

  pub truth_holds : (line : ℕ) (e : Expr) → ExprHolds e → Piece w b outs (truth line (expr sizes e))
  truth_holds line e is =
      let t = (expr sizes e).typing in
      holds_then w b outs (value line (expr sizes e)) (λ a. truth_by line t a) (value_holds line e is) (λ a. truth_as_holds w b outs line (truth_of t) a) (λ a. truth_counts line (truth_of t) a)

  object_is : (e : Expr) (t : ObjectType) (s : ExprType) → e.typing ≡ s → object_of s ≡ t → object_of (expr sizes e).typing ≡ t
  object_is e t s is same = ap object_of (typing_is sizes e ∙ is) ∙ same

  pub typed : (e : Expr) → IsTyping c.structs e.typing → IsTyping c.structs (expr sizes e).typing
  typed e is = subst (IsTyping c.structs) (sym (typing_is sizes e)) is

  -- the type of a piece's draft is declared
  declared : (t : ObjectType) → IsObject c.structs t → Parted w.types t → IsDeclared w t
  declared t is parted = (subst (λ ss. IsObject ss t) names.structs is, parted)

  declared_of : (e : Expr) (t : ObjectType) → object_of (expr sizes e).typing ≡ t → IsDeclared w t → IsDeclared w (object_of (expr sizes e).typing)
  declared_of e t same is = subst (IsDeclared w) (sym same) is

  -- what stands at a place, and behind a pointer
  at_place : (e : Expr) (t : ObjectType) → e.typing ≡ ExprType.Place t → ExprHolds e → IsDeclared w t
  at_place e t is holds = declared t (subst (IsTyping c.structs) is holds.typing) (subst (PartedTyping w.types) is holds.parted)

  behind : (e : Expr) (t : ObjectType) → e.typing ≡ ExprType.Pointer t → ExprHolds e → IsDeclared w t
  behind e t is holds = declared t (subst (IsTyping c.structs) is holds.typing) (subst (PartedTyping w.types) is holds.parted)

  -- a place is of the type that it is known to have
  place_as : (p : Place) (e : ExprType) (t u : ObjectType) → e ≡ ExprType.Place t → e ≡ ExprType.Place u → IsPlaceOf w p u → IsPlaceOf w p t
  place_as p e t u is that at = subst (IsPlaceOf w p) (place_is (sym that ∙ is)) at

  part_holds : (line : ℕ) (e : Expr) (t : ObjectType) (k : ℕ) (s : ExprType) → IsDeclared w t → e.typing ≡ ExprType.Place t → IsField c.structs t k s → (y : Yield) → YieldHolds w b outs e.typing y
      → YieldHolds w b outs s (part_of line (object_of (expr sizes e).typing) k y)
  part_holds line e t k s object is f (direct p) at = (f.field, f.typing, field_place w c sizes names t k s f p (place_as p e.typing t at.0 is at.1 at.2))
  part_holds line e t k s object is f (left p) at =
      let struct = object_of (expr sizes e).typing in
      let same = object_is e t (ExprType.Place t) is refl in
      holds_then w b outs p (λ a. field line struct k a) at
      (λ a. field_holds w b Outs line struct k a (declared_of e t same object) (λ known. subst (λ u. k < length (parts_of w.code (w.shape u))) (sym same)
      (field_there w c sizes names t k s f (subst (Known w) same known)))) (λ a. refl)

  pub read_holds : (line : ℕ) (s : ExprType) (t : ObjectType) (v : ExprType) → s ≡ ExprType.Place t → scalar_type t ≡ Some v → (y : Yield) → YieldHolds w b outs s y → Piece w b outs (read line y)
  read_holds line s t v is scalar y at =
      onward_holds w b outs s y (get line) (load line) at
      (λ p u e place. get_holds w b Outs line p (leaf_of w c sizes names p t v scalar (place_as p s t u is e place))) (λ a. load_holds w b Outs line a) (λ a. refl)

  pointer_holds : (line : ℕ) (s : ExprType) (y : Yield) → YieldHolds w b outs s y → Piece w b outs (pointer_to line y)
  pointer_holds line s y at =
      onward_holds w b outs s y (address line) given at (λ p u e place. address_holds w b Outs line p (w.shape u, place.shape))
      (λ a. holds_given w b Outs a) (λ a. refl)

  binary_holds : (l : Skips) (op : BinaryOp) (line : ℕ) (e f : Expr) → ExprHolds e → ExprHolds f → Piece w b outs (binary_by l sizes op (expr sizes e) (expr sizes f) line)
  binary_holds Skips.where_false op line e f is that = both_holds w b outs line (truth line (expr sizes e)) (truth line (expr sizes f)) (truth_holds line e is) (truth_holds line f that)
  binary_holds Skips.where_true op line e f is that = either_holds w b outs line (truth line (expr sizes e)) (truth line (expr sizes f)) (truth_holds line e is) (truth_holds line f that)
  binary_holds Skips.never op line e f is that =
      let p = elaboration.operation sizes op (expr sizes e).typing (expr sizes f).typing in
      let good = operation_items c.structs sizes (λ t o. names.words t o.base o.lengths) op (expr sizes e).typing (expr sizes f).typing (typed e is.typing) (typed f that.typing) in
      holds_then w b outs (value line (expr sizes e)) (λ x. value line (expr sizes f) ▷ λ y. carried line p x y) (value_holds line e is)
      (λ x. holds_then w b outs (value line (expr sizes f)) (λ y. carried line p x y) (value_holds line f that) (λ y. carried_holds w b outs line p x y good)
      (λ y. carried_counts line p x y x 0))
      (λ x. ap (λ k. (value line (expr sizes f)).points + k) (carried_counts line p x 0 0 0))

  item_declared : (s : ExprType) (item : ObjectType) → IsTyping c.structs s → item.lengths ≡ [] → s ≡ ExprType.Pointer item → IsDeclared w item
  item_declared s item t plain is = declared item (subst (IsTyping c.structs) is t) (no_arrays w.types item plain)

  -- An expression by its operands.
  abbrev AreHolds : List Expr → Type 0
  AreHolds [] = Unit {0}
  AreHolds (e ∷ es) = ExprHolds e × AreHolds es

  values_hold : (line : ℕ) (es : List Expr) → AreHolds es → AllHold w b outs (map (value line) (map (expr sizes) es))
  values_hold line [] all = tt
  values_hold line (e ∷ es) all = (value_holds line e all.0, values_hold line es all.1)

  call_of : (line k : ℕ) (es : List Expr) (s : ExprType) → IsCallOf c k es s → AreHolds es
      → Piece w b outs (chained [] (gathered [] (map (value line) (map (expr sizes) es))) (λ temps. call line k temps))
  call_of line k es s is all =
      let vs = map (value line) (map (expr sizes) es) in
      let count : length vs ≡ length es = length-map (map (expr sizes) es) (value line) ∙ length-map es (expr sizes) in
      holds_seq w b outs [] (gathered [] vs) (λ temps. call line k temps) (gathered_holds w b outs [] vs (values_hold line es all))
      (λ ends n. call_holds w b Outs line k ((gathered [] vs).make ends n).result (names.calls k is.callee ((gathered [] vs).make ends n).result is.there is.other
      (let size = gathered_length ends n [] vs in let fit = fits_length es is.callee.parameters is.fit in omega arith)))
      (λ ends n. refl)

  level_holds : (s : ExprType) (x : Form-F Form Expr) (line : ℕ) → IsTyping c.structs s → IsLayer c s x → AreHolds (operands_of x) → YieldHolds w b outs s (form_step sizes (mapped sizes x) line)
  level_holds s (Form-F.Global k) line t l all = (l.0, l.2, global_place w c sizes names k l.0 l.1)
  level_holds s (Form-F.Local k) line t l all = (l.0, l.2, local_place w c sizes names k l.0 l.1)
  level_holds s (Form-F.Deref e) line t l all = value_holds line e all.0
  level_holds s (Form-F.Index e i) line t l all =
      let words = words_of sizes (object_of (expr sizes e).typing) in
      let object : IsObject c.structs l.0 = subst (IsTyping c.structs) l.3 t in
      let good : 1 ≤ words = subst (λ u. 1 ≤ words_of sizes u) (sym (object_is e l.0 (ExprType.Pointer l.0) l.1 refl)) (names.words l.0 object.base object.lengths) in
      holds_then w b outs (value line (expr sizes e)) (λ x. value line (expr sizes i) ▷ λ y. index line words x y) (value_holds line e all.0)
      (λ x. holds_then w b outs (value line (expr sizes i)) (λ y. index line words x y) (value_holds line i all.1.0) (λ y. index_holds w b Outs line words x y good) (λ y. refl)) (λ x. refl)
  level_holds s (Form-F.Field e k) line t l all = part_holds line e l.0 k s (at_place e l.0 l.1 all.0) l.1 l.2 ((expr sizes e).yield line) (all.0.yield line)
  level_holds s (Form-F.Arrow e k) line t l all =
      let struct = object_of (expr sizes e).typing in
      let same = object_is e l.0 (ExprType.Pointer l.0) l.1 refl in
      holds_then w b outs (value line (expr sizes e)) (λ a. field line struct k a) (value_holds line e all.0)
      (λ a. field_holds w b Outs line struct k a (declared_of e l.0 same (behind e l.0 l.1 all.0)) (λ known. subst (λ u. k < length (parts_of w.code (w.shape u))) (sym same)
      (field_there w c sizes names l.0 k s l.2 (subst (Known w) same known)))) (λ a. refl)
  level_holds s (Form-F.Number k) line t l all = constant_holds w b Outs line k
  level_holds s Form-F.Null line t l all = null_holds w b Outs line
  level_holds s (Form-F.Read e) line t l all = read_holds line e.typing l.0 s l.1 l.3 ((expr sizes e).yield line) (all.0.yield line)
  level_holds s (Form-F.Decay e) line t l all =
      let array = object_of (expr sizes e).typing in
      let same = object_is e l.0 (ExprType.Place l.0) l.3 refl in
      holds_then w b outs (pointer_to line ((expr sizes e).yield line)) (λ a. decay line array a) (pointer_holds line e.typing ((expr sizes e).yield line) (all.0.yield line))
      (λ a. decay_holds w b Outs line array a (declared_of e l.0 same (at_place e l.0 l.3 all.0)) (λ known. subst (λ u. is_array w.code (w.shape u) ≡ true) (sym same)
      (names.arrays l.0 l.1 l.2 l.4 (subst (Known w) same known)))) (λ a. refl)
  level_holds s (Form-F.Address e) line t l all = pointer_holds line e.typing ((expr sizes e).yield line) (all.0.yield line)
  level_holds s (Form-F.Prefix op e) line t l all =
      holds_then w b outs (value line (expr sizes e)) (λ a. prefix line op (expr sizes e).typing a) (value_holds line e all.0) (λ a. prefix_holds w b outs line op (expr sizes e).typing a)
      (λ a. prefix_counts line op (expr sizes e).typing a)
  level_holds s (Form-F.Binary e op f) line t l all = binary_holds (skips op) op line e f all.0 all.1.0
  level_holds s (Form-F.Call k es) line t l all = call_of line k es s l all
  level_holds s Form-F.GetInt line t l all = in_holds w b Outs line
  level_holds s Form-F.Left line t l all = left_holds w b Outs line
  level_holds s (Form-F.New site item None) line t l all =
      holds_then w b outs (constant line (pos 1)) (λ a. new line site item a) (constant_holds w b Outs line (pos 1)) (λ a. new_holds w b Outs line site item a (item_declared s item t l.1 l.2)) (λ a. refl)
  level_holds s (Form-F.New site item (Some e)) line t l all =
      holds_then w b outs (value line (expr sizes e)) (λ a. new line site item a) (value_holds line e all.0) (λ a. new_holds w b Outs line site item a (item_declared s item t l.1 l.2)) (λ a. refl)

  -- Its type is a part of what is declared.
  abbrev Fine : ExprType → Type 0
  Fine s = PartedTyping w.types s

  as_place : (s : ExprType) (t : ObjectType) → s ≡ ExprType.Place t → Parted w.types t → Fine s
  as_place s t is parted = subst Fine (sym is) parted

  field_fine : (t : ObjectType) (k : ℕ) (s : ExprType) → IsField c.structs t k s → Fine s
  field_fine t k s is = as_place s is.field is.typing (names.field_types is.number is.whole k is.field is.there is.has)

  level_fine : (s : ExprType) (x : Form-F Form Expr) → IsLayer c s x → AreHolds (operands_of x) → Fine s
  level_fine s (Form-F.Global k) l all = as_place s l.0 l.2 (names.global_types k l.0 l.1)
  level_fine s (Form-F.Local k) l all = as_place s l.0 l.2 (names.variable_types k l.0 l.1)
  level_fine s (Form-F.Deref e) l all = as_place s l.0 l.2 (behind e l.0 l.1 all.0).1
  level_fine s (Form-F.Index e i) l all = as_place s l.0 l.3 (behind e l.0 l.1 all.0).1
  level_fine s (Form-F.Field e k) l all = field_fine l.0 k s l.2
  level_fine s (Form-F.Arrow e k) l all = field_fine l.0 k s l.2
  level_fine s (Form-F.Number k) l all = subst Fine (sym l) tt
  level_fine s Form-F.Null l all = subst Fine (sym l) tt
  level_fine s (Form-F.Read e) l all = scalar_parted w.types l.0 s l.3
  level_fine s (Form-F.Decay e) l all = decay_parted w.types l.0 l.1 l.2 s l.4 l.5 (at_place e l.0 l.3 all.0).1
  level_fine s (Form-F.Address e) l all = subst Fine (sym l.3) (no_arrays w.types l.0 l.2)
  level_fine s (Form-F.Prefix op e) l all = subst Fine (sym l.1) tt
  level_fine s (Form-F.Binary e op f) l all = binary_parted w.types op e.typing f.typing s l all.0.parted all.1.0.parted
  level_fine s (Form-F.Call k es) l all = subst Fine (sym l.typing) (called_parted w.types l.callee.result)
  level_fine s Form-F.GetInt l all = subst Fine (sym l) tt
  level_fine s Form-F.Left l all = subst Fine (sym l) tt
  level_fine s (Form-F.New site item count) l all = subst Fine (sym l.2) (no_arrays w.types item l.1)

  mutual
    pub expr_holds : {e : Expr} → IsExpr c e → ExprHolds e
    expr_holds (known e t l ops) = record {
      typing = t;
      parted = level_fine e.typing (out-Form e.form) l (are_hold ops);
      yield = λ line. subst (λ y. YieldHolds w b outs e.typing (y line)) (sym (yield_of sizes e)) (level_holds e.typing (out-Form e.form) line t l (are_hold ops));
    }

    are_hold : {es : List Expr} → AreExprs c es → AreHolds es
    are_hold none = tt
    are_hold (each e es is rest) = (expr_holds is, are_hold rest)
