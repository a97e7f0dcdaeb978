-- The node of a place is that of one variable.
use Rattle.std.proofs.Common.{◌≡◌, ℕ, zero, suc, ◌+◌, ◌-◌, ◌<◌, ◌≤◌, Bool, true, false, List, [], ◌∷◌, length, get_or, slice_index, take, map, sum, refl, sym, ap, ◌∙◌, subst, arith, Option, Some, None}
use Rattle.std.specs.Prelude.{nat_lt, not, slice_get, pos, ◌↔◌, IsTrue}
use Rattle.std.proofs.lemmas.Bool.{ltb-true, ltb-false}
use Rattle.std.proofs.lemmas.List.{length-map, take-take}
use Rattle.std.proofs.lemmas.Option.{slice_get_within, slice_get-get_or}
use Rattle.tac_ir.specs.declared.code.Code.{Code}
use Rattle.tac_ir.specs.declared.code.Fun.{Fun}
use Rattle.tac_ir.specs.declared.code.Global.{Global}
use Rattle.tac_ir.specs.declared.code.Instr.{Instr}
use Rattle.tac_ir.specs.declared.code.Place.{Place}
use Rattle.tac_ir.specs.declared.code.Shape.{Shape}
use Rattle.tac_ir.specs.Counts.{nodes_by, shape_nodes, shapes_used}
use Rattle.tac_ir.specs.GoodForm.{GoodForm}
use Rattle.tac_ir.specs.Layout.{parts_of, vars_of, shapes_of_globals}
use Rattle.tac_ir.specs.Nodes.{var_node, nodes_before, nodes_along, place_node}
use Rattle.tac_ir.specs.Places.{IsLeafPlace, end_of_path, end_from, is_leaf}
use Rattle.flow_rules.specs.tools.EndsSomewhere.{EndsSomewhere}
use Rattle.flow_rules.specs.CanCall.{CanCall, HasOneFrame}
use Rattle.flow_rules.specs.PointNumber.{entry}
use Rattle.tac_ir.specs.Bodies.{Parallel}
use Rattle.flow_rules.specs.Single.{IsOfOneVariable}
use Rattle.flow_rules.specs.tools.Killed.{IsKilled, IsKilledBySet}
use Rattle.flow_rules.proofs.InCode.{leaf_is_place}
use Rattle.flow_rules.proofs.ShapeNodes.{shape_nodes_at, nodes_le, nodes_with}
use Rattle.flow_rules.proofs.VarNodes.{global_more, var_more, fun_more, first_var}
use Rattle.flow_rules.proofs.PathNodes.{step_of, global_place, local_place}

-- a shape that exists has a node
some_nodes : (c : Code) → GoodForm c → (s : ℕ) → s < length c.shapes → 0 < shape_nodes c s
some_nodes c good s low = (let shape = get_or c.shapes s Shape.Int in by shape (shape_nodes_at c good s shape (slice_get-get_or c.shapes s Shape.Int low)))
  where
    by : (shape : Shape) → shape_nodes c s ≡ nodes_by (shape_nodes c) shape → 0 < shape_nodes c s
    by Shape.Int is = omega (arith, is)
    by Shape.Ptr is = omega (arith, is)
    by (Shape.Array len item) is = omega (arith, is)
    by (Shape.Struct parts) is = omega (arith, is)

-- a shape with nodes exists, so the path of a place ends within its root
along_less : (c : Code) → GoodForm c → (s : ℕ) (path : List ℕ) → EndsSomewhere c s path → 0 < shape_nodes c s → ((e : ℕ) → end_of_path c s path ≡ Some e → 0 < shape_nodes c e) → nodes_along c s path < shape_nodes c s
along_less c good s [] ends some last = some
along_less c good s (k ∷ path) ends some last =
    let step = step_of c good s k path ends in
    let part = slice_index (parts_of c s) k in
    let fits = step.fits in
    let found = slice_get-get_or (parts_of c s) k 0 step.low in
    let onward : (e : ℕ) → end_of_path c part path ≡ Some e → 0 < shape_nodes c e = λ e is. last e (ap (λ (o : Option ℕ). elim o as (λ z. Option ℕ) [ None ↦ None | Some p ↦ end_of_path c p path ]) found ∙ is) in
    omega (arith, fits, along_less c good part path step.rest (first_some path step.rest onward part refl) onward)
  where
    first_some : (path : List ℕ) → EndsSomewhere c (slice_index (parts_of c s) k) path → ((e : ℕ) → end_of_path c (slice_index (parts_of c s) k) path ≡ Some e → 0 < shape_nodes c e) → (part : ℕ) → part ≡ slice_index (parts_of c s) k
        → 0 < shape_nodes c (slice_index (parts_of c s) k)
    first_some [] rest onward part is = onward (slice_index (parts_of c s) k) refl
    first_some (j ∷ path) rest onward part is = (let step = step_of c good (slice_index (parts_of c s) k) j path rest in let fits = step.fits in omega (arith, fits))

leaf_some : (c : Code) → GoodForm c → (e : ℕ) → is_leaf c e ≡ true → 0 < shape_nodes c e
leaf_some c good e leaf = by (slice_get c.shapes e) refl leaf
  where
    by : (o : Option Shape) → slice_get c.shapes e ≡ o → elim o as (λ z. Bool) [ Some Shape.Int ↦ true | Some Shape.Ptr ↦ true | _ ↦ false ] ≡ true → 0 < shape_nodes c e
    by None is leaf = cc
    by (Some shape) is leaf = some_nodes c good e (slice_get_within c.shapes e shape is)

-- Where the variables of a function begin and end.

sum_le : (c : Code) (xs : List ℕ) (m n : ℕ) → m ≤ n → nodes_before c xs m ≤ nodes_before c xs n
sum_le c xs m n low = omega (arith, nodes_le (shape_nodes c) (take n xs) m, ap (λ ys. sum (map (shape_nodes c) ys)) (take-take m n xs low))

fun_le : (c : Code) (m k : ℕ) → m + k ≤ length c.funs → var_node c m 0 ≤ var_node c (m + k) 0
fun_le c m zero low = (let same : m + 0 ≡ m = omega arith in omega (arith, ap (λ n. var_node c n 0) same))
fun_le c m (suc k) low =
    let next : m + suc k ≡ m + k + 1 = omega arith in
    let fun = get_or c.funs (m + k) nothing in
    let more = fun_more c (m + k) fun (slice_get-get_or c.funs (m + k) nothing (omega (arith, low))) in
    omega (arith, fun_le c m k (omega (arith, low)), more, ap (λ n. var_node c n 0) next)
  where
    nothing : Fun
    nothing = record { params = 0; vars = []; code = []; line = 0 }

record IsWithinFun (c : Code) (f node : ℕ) : Type 0 where
  exists : f < length c.funs
  low : var_node c f 0 ≤ node
  high : node < var_node c (f + 1) 0

local_within : (c : Code) → GoodForm c → (f v : ℕ) (path : List ℕ) → IsLeafPlace c f (Place.Local v path) → IsWithinFun c f (place_node c f (Place.Local v path))
local_within c good f v path h =
    let p = local_place c good f v path (leaf_is_place c f (Place.Local v path) h) in
    let fun = get_or c.funs f nothing in
    let found = slice_get-get_or c.funs f nothing p.exists in
    let vars = p.vars fun found in
    let root = slice_index (vars_of c f) v in
    let last : (e : ℕ) → end_of_path c root path ≡ Some e → 0 < shape_nodes c e = λ e is.
    (let same : Some e ≡ Some h.0 = sym is ∙ sym (ap (λ (o : Option ℕ). end_from c o path) (slice_get-get_or (vars_of c f) v 0 p.low)) ∙ h.1 in
    let equal : h.0 ≡ e = cc in leaf_some c good e (ap (is_leaf c) (sym equal) ∙ h.2)) in
    let long = ap length vars in
    let low = p.low in
    let first = var_more c f v fun found (omega (arith, low, long)) in
    let whole = fun_more c f fun found in
    let item = ap (λ xs. shape_nodes c (slice_index xs v)) vars in
    let some : 0 < shape_nodes c root = root_some path p.root.ends last in
    record {
      exists = p.exists;
      low = omega (arith, first);
      high = omega (arith, first, whole, item, nodes_with (shape_nodes c) fun.vars v 0 (omega (arith, low, long)), along_less c good root path p.root.ends some last);
    }
  where
    nothing : Fun
    nothing = record { params = 0; vars = []; code = []; line = 0 }

    root_some : (path : List ℕ) → EndsSomewhere c (slice_index (vars_of c f) v) path → ((e : ℕ) → end_of_path c (slice_index (vars_of c f) v) path ≡ Some e → 0 < shape_nodes c e) → 0 < shape_nodes c (slice_index (vars_of c f) v)
    root_some [] ends last = last (slice_index (vars_of c f) v) refl
    root_some (k ∷ path) ends last = (let fits = (step_of c good (slice_index (vars_of c f) v) k path ends).fits in omega (arith, fits))

global_within : (c : Code) → GoodForm c → (f v : ℕ) (path : List ℕ) → IsLeafPlace c f (Place.Global v path) → place_node c f (Place.Global v path) < var_node c 0 0
global_within c good f v path h =
    let p = global_place c good f v path (leaf_is_place c f (Place.Global v path) h) in
    let root = slice_index (shapes_of_globals c) v in
    let shape = p.shape nothing in
    let ends = subst (λ s. EndsSomewhere c s path) shape (p.root nothing).ends in
    let low : v < length (shapes_of_globals c) = (let low = p.low in omega (arith, low, length-map c.globals (λ (g : Global). g.shape))) in
    let last : (e : ℕ) → end_of_path c root path ≡ Some e → 0 < shape_nodes c e = λ e is.
    (let same : Some e ≡ Some h.0 = sym is ∙ sym (ap (λ (o : Option ℕ). end_from c o path) (slice_get-get_or (shapes_of_globals c) v 0 low)) ∙ h.1 in
    let equal : h.0 ≡ e = cc in leaf_some c good e (ap (is_leaf c) (sym equal) ∙ h.2)) in
    let some : 0 < shape_nodes c root = root_some path ends last in
    let next = global_more c v nothing p.low in
    let exists = p.low in
    omega (
      arith,
      along_less c good root path ends some last,
      next,
      ap (shape_nodes c) shape,
      sum_le c (shapes_used c) (v + 1) (length c.globals) (omega (arith, exists)),
      first_var c,
    )
  where
    nothing : Global
    nothing = record { shape = 0; start = pos 0; line = 0 }

    root_some : (path : List ℕ) → EndsSomewhere c (slice_index (shapes_of_globals c) v) path → ((e : ℕ) → end_of_path c (slice_index (shapes_of_globals c) v) path ≡ Some e → 0 < shape_nodes c e) → 0 < shape_nodes c (slice_index (shapes_of_globals c) v)
    root_some [] ends last = last (slice_index (shapes_of_globals c) v) refl
    root_some (k ∷ path) ends last = (let fits = (step_of c good (slice_index (shapes_of_globals c) v) k path ends).fits in omega (arith, fits))

-- a node is that of one function's variables
one_fun : (c : Code) (f g a b : ℕ) → IsWithinFun c f a → IsWithinFun c g b → a ≡ b → f ≡ g
one_fun c f g a b h k same = by (nat_lt f g) refl (nat_lt g f) refl
  where
    before : (f g a b : ℕ) → IsWithinFun c f a → IsWithinFun c g b → a ≡ b → f < g → ⊥
    before f g a b h k same less =
        let low = k.low in
        let high = h.high in
        let exists = k.exists in
        let split : f + 1 + (g - (f + 1)) ≡ g = omega (arith, less) in
        omega (arith, low, high, same, fun_le c (f + 1) (g - (f + 1)) (omega (arith, exists, split)), ap (λ n. var_node c n 0) split)

    by : (x : Bool) → nat_lt f g ≡ x → (y : Bool) → nat_lt g f ≡ y → f ≡ g
    by true is y other = absurd (before f g a b h k same (ltb-true f g is))
    by false is true other = absurd (before g f b a k h (sym same) (ltb-true g f other))
    by false is false other = omega (arith, ltb-false f g is, ltb-false g f other)

one_variable : (c : Code) → GoodForm c → (f g : ℕ) (p q : Place) → IsLeafPlace c f p → IsLeafPlace c g q → place_node c g q ≡ place_node c f p → IsOfOneVariable c g q → IsOfOneVariable c f p
one_variable c good f g (Place.Global v path) q h k same one = tt
one_variable c good f g (Place.Local v path) (Place.Global w other) h k same one =
    let within = local_within c good f v path h in
    let low = within.low in
    let exists = within.exists in
    let whole : 0 + f ≡ f = omega arith in
    absurd (omega (arith, low, same, global_within c good g w other k, fun_le c 0 f (omega (arith, exists)), ap (λ n. var_node c n 0) whole))
one_variable c good f g (Place.Local v path) (Place.Local w other) h k same one =
    subst (HasOneFrame c) (one_fun c g f (place_node c g (Place.Local w other)) (place_node c f (Place.Local v path)) (local_within c good g w other k) (local_within c good f v path h) same) one

pub killed_some : (c : Code) (f : ℕ) (place : Place) → IsLeafPlace c f place → IsOfOneVariable c f place → IsKilledBySet c f place (Some (place_node c f place))
killed_some c f place leaf one = record {
  each = λ a. (λ h. ap Some h.0, λ is. (let same : place_node c f place ≡ a = cc in (same, record { fun = f; place = place; leaf = leaf; node = same; variable = one })));
}

pub killed_none : (c : Code) → GoodForm c → (f : ℕ) (place : Place) → IsLeafPlace c f place → (IsOfOneVariable c f place → ⊥) → IsKilledBySet c f place None
killed_none c good f place leaf many = record {
  each = λ a. (λ h. absurd (many (one_variable c good f h.1.fun place h.1.place leaf h.1.leaf (h.1.node ∙ sym h.0) h.1.variable)), λ is. cc);
}

pub kills_nothing : (c : Code) (f : ℕ) (i : Instr) → ((place : Place) (x d : ℕ) → i ≡ Instr.Set place x d → ⊥) → IsKilled c f i None
kills_nothing c f (Instr.Set place x d) other = absurd (other place x d refl)
kills_nothing c f i other = record { each = λ a. (λ h. absurd h, λ is. cc) }

-- One frame.

pub one_frame : (c : Code) (f : ℕ) (beside itself : Bool) → beside ≡ false → (IsTrue beside ↔ Parallel c (entry f) (entry f)) → (IsTrue itself ↔ CanCall c f f) → IsTrue (not itself) ↔ HasOneFrame c f
one_frame c f beside itself none parallel calls = (λ h. record { once = λ call. clash itself h (calls.1 call); alone = λ h. (let there = sym none ∙ parallel.1 h in cc) }, λ h. by itself h calls)
  where
    clash : (b : Bool) → not b ≡ true → b ≡ true → ⊥
    clash true h k = cc
    clash false h k = cc

    by : (b : Bool) → HasOneFrame c f → (IsTrue b ↔ CanCall c f f) → not b ≡ true
    by true h calls = absurd (h.once (calls.0 refl))
    by false h calls = refl

pub more_frames : (c : Code) (f : ℕ) (beside : Bool) → beside ≡ true → (IsTrue beside ↔ Parallel c (entry f) (entry f)) → IsTrue (not beside) ↔ HasOneFrame c f
more_frames c f beside is parallel = (λ h. (let there = ap not (sym is) ∙ h in cc), λ h. absurd (h.alone (parallel.0 is)))
