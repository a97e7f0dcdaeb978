-- The places, shapes and functions that a well-formed expression names exist in the code.
use Rattle.std.proofs.Common.{◌≡◌, ◌≢◌, ℕ, ◌<◌, ◌≤◌, true, List, [], ◌∷◌, ◌++◌, map, length, Option, Some, None, ap, ◌∙◌}
use Rattle.std.specs.Prelude.{slice_get, option_map, All}
use Rattle.std.proofs.lemmas.Option.{slice_get-map, slice_get_within}
use Rattle.c_typed.specs.declared.types.ObjectType.{ObjectType}
use Rattle.c_typed.specs.declared.types.ExprType.{ExprType}
use Rattle.c_typed.specs.declared.program.Struct.{Struct}
use Rattle.c_typed.specs.Types.{words_of, scalar_type}
use Rattle.c_typed.specs.Exprs.{struct_of}
use Rattle.c_typed.specs.IsWell.{Context, Callee, IsBase, IsField}
use Rattle.tac_ir.specs.declared.code.Code.{Code}
use Rattle.tac_ir.specs.declared.code.Place.{Place}
use Rattle.tac_ir.specs.Layout.{parts_of, vars_of, shapes_of_globals}
use Rattle.tac_ir.specs.Places.{end_of_path, end_from, shape_of_place, is_leaf, is_array}
use Rattle.tac_ir.specs.GoodForm.{IsGoodCall}
use Rattle.tac_lower.specs.Values.{deeper}
use Rattle.tac_lower.proofs.form.Parted.{Parted}
use Rattle.tac_lower.proofs.form.Holds.{World, Known}

-- How the types of a context stand among the shapes of the code.
pub record Shaped (w : World) (c : Context) (sizes : List ℕ) : Type 0 where
  pub structs : c.structs ≡ w.structs
  pub globals : (k : ℕ) (t : ObjectType) → slice_get c.globals k ≡ Some t → (slice_get (shapes_of_globals w.code) k ≡ Some (w.shape t)) × Known w t
  pub variables : (k : ℕ) (t : ObjectType) → slice_get c.variables k ≡ Some t → (slice_get (vars_of w.code w.fun) k ≡ Some (w.shape t)) × Known w t
  pub parts : (t : ObjectType) (j : ℕ) (d : Struct) → struct_of t ≡ Some j → slice_get c.structs j ≡ Some d → Known w t → parts_of w.code (w.shape t) ≡ map w.shape d.fields
  pub fields : (t : ObjectType) (j : ℕ) (d : Struct) (k : ℕ) (u : ObjectType) → struct_of t ≡ Some j → slice_get c.structs j ≡ Some d → slice_get d.fields k ≡ Some u → Known w t → Known w u
  pub global_types : (k : ℕ) (t : ObjectType) → slice_get c.globals k ≡ Some t → Parted w.types t
  pub variable_types : (k : ℕ) (t : ObjectType) → slice_get c.variables k ≡ Some t → Parted w.types t
  pub field_types : (j : ℕ) (d : Struct) (k : ℕ) (u : ObjectType) → slice_get c.structs j ≡ Some d → slice_get d.fields k ≡ Some u → Parted w.types u
  pub arrays : (t : ObjectType) (n : ℕ) (ns : List ℕ) → t.lengths ≡ n ∷ ns → Known w t → is_array w.code (w.shape t) ≡ true
  pub scalars : (t : ObjectType) (s : ExprType) → scalar_type t ≡ Some s → is_leaf w.code (w.shape t) ≡ true
  pub words : (t : ObjectType) → IsBase c.structs t.base → All (λ n. 0 < n) t.lengths → 1 ≤ words_of sizes t
  pub calls : (k : ℕ) (callee : Callee) (args : List ℕ) → slice_get c.functions k ≡ Some callee → k ≢ c.main → length args ≡ length callee.parameters → IsGoodCall w.code k args

-- a place of this type
pub record IsPlaceOf (w : World) (p : Place) (t : ObjectType) : Type 0 where
  pub shape : shape_of_place w.code w.fun p ≡ Some (w.shape t)
  pub known : Known w t

path_deeper : (c : Code) (s : ℕ) (path : List ℕ) (e k part : ℕ) → end_of_path c s path ≡ Some e → slice_get (parts_of c e) k ≡ Some part → end_of_path c s (path ++ k ∷ []) ≡ Some part
path_deeper c s [] e k part is there =
    let same : s ≡ e = cc in
    ap (λ o. elim o as (λ o. Option ℕ) [ None ↦ None | Some part ↦ Some part ]) (ap (λ x. slice_get (parts_of c x) k) same ∙ there)
path_deeper c s (j ∷ path) e k part is there = by (slice_get (parts_of c s) j) is (λ next. path_deeper c next path e k part)
  where
    by : (o : Option ℕ) → elim o as (λ o. Option ℕ) [ None ↦ None | Some next ↦ end_of_path c next path ] ≡ Some e
        → ((next : ℕ) → end_of_path c next path ≡ Some e → slice_get (parts_of c e) k ≡ Some part → end_of_path c next (path ++ k ∷ []) ≡ Some part)
        → elim o as (λ o. Option ℕ) [ None ↦ None | Some next ↦ end_of_path c next (path ++ k ∷ []) ] ≡ Some part
    by None is rest = cc
    by (Some next) is rest = rest next is there

from_deeper : (c : Code) (o : Option ℕ) (path : List ℕ) (e k part : ℕ) → end_from c o path ≡ Some e → slice_get (parts_of c e) k ≡ Some part → end_from c o (path ++ k ∷ []) ≡ Some part
from_deeper c None path e k part is there = cc
from_deeper c (Some s) path e k part is there = path_deeper c s path e k part is there

place_deeper : (c : Code) (f : ℕ) (p : Place) (e k part : ℕ) → shape_of_place c f p ≡ Some e → slice_get (parts_of c e) k ≡ Some part → shape_of_place c f (deeper p k) ≡ Some part
place_deeper c f (Place.Global v path) e k part is there = from_deeper c (slice_get (shapes_of_globals c) v) path e k part is there
place_deeper c f (Place.Local v path) e k part is there = from_deeper c (slice_get (vars_of c f) v) path e k part is there

-- the shape of a field
part_there : (w : World) (c : Context) (sizes : List ℕ) → Shaped w c sizes → (t : ObjectType) (k : ℕ) (s : ExprType) (is : IsField c.structs t k s) → Known w t
    → slice_get (parts_of w.code (w.shape t)) k ≡ Some (w.shape is.field)
part_there w c sizes names t k s is known =
    ap (λ xs. slice_get xs k) (names.parts t is.number is.whole is.struct is.there known) ∙ slice_get-map w.shape is.whole.fields k ∙ ap (λ o. option_map w.shape o) is.has

pub field_there : (w : World) (c : Context) (sizes : List ℕ) → Shaped w c sizes → (t : ObjectType) (k : ℕ) (s : ExprType) → IsField c.structs t k s → Known w t → k < length (parts_of w.code (w.shape t))
field_there w c sizes names t k s is known = slice_get_within (parts_of w.code (w.shape t)) k (w.shape is.field) (part_there w c sizes names t k s is known)

pub field_place : (w : World) (c : Context) (sizes : List ℕ) → Shaped w c sizes → (t : ObjectType) (k : ℕ) (s : ExprType) (is : IsField c.structs t k s) (p : Place) → IsPlaceOf w p t → IsPlaceOf w (deeper p k) is.field
field_place w c sizes names t k s is p place = record {
  shape = place_deeper w.code w.fun p (w.shape t) k (w.shape is.field) place.shape (part_there w c sizes names t k s is place.known);
  known = names.fields t is.number is.whole k is.field is.struct is.there is.has place.known;
}

pub global_place : (w : World) (c : Context) (sizes : List ℕ) → Shaped w c sizes → (k : ℕ) (t : ObjectType) → slice_get c.globals k ≡ Some t → IsPlaceOf w (Place.Global k []) t
global_place w c sizes names k t found = record { shape = ap (λ o. end_from w.code o []) (names.globals k t found).0; known = (names.globals k t found).1 }

pub local_place : (w : World) (c : Context) (sizes : List ℕ) → Shaped w c sizes → (k : ℕ) (t : ObjectType) → slice_get c.variables k ≡ Some t → IsPlaceOf w (Place.Local k []) t
local_place w c sizes names k t found = record { shape = ap (λ o. end_from w.code o []) (names.variables k t found).0; known = (names.variables k t found).1 }
