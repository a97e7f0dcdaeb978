-- Nodes along a path of fields.
use Rattle.std.proofs.Common.{◌≡◌, ℕ, zero, suc, ◌+◌, ◌<◌, ◌≤◌, List, [], ◌∷◌, length, get_or, slice_index, take, drop, map, sum, refl, sym, ap, ◌∙◌, subst, arith, Option, Some, None}
use Rattle.std.specs.Prelude.{slice_get, option_map}
use Rattle.std.proofs.lemmas.List.{length-map, drop_all}
use Rattle.std.proofs.lemmas.Option.{slice_get_within, slice_get-get_or, slice_get-map}
use Rattle.tac_ir.specs.declared.code.Code.{Code}
use Rattle.tac_ir.specs.declared.code.Shape.{Shape}
use Rattle.tac_ir.specs.declared.code.Fun.{Fun}
use Rattle.tac_ir.specs.declared.code.Global.{Global}
use Rattle.tac_ir.specs.declared.code.Place.{Place}
use Rattle.tac_ir.specs.Layout.{parts_of, vars_of, shapes_of_globals}
use Rattle.tac_ir.specs.Counts.{shape_nodes, vars_in_funs}
use Rattle.tac_ir.specs.Places.{end_of_path, end_from, IsPlace}
use Rattle.tac_ir.specs.GoodForm.{GoodForm}
use Rattle.tac_ir.specs.Nodes.{nodes_along, global_node, var_node}
use Rattle.tac_ir.proofs.ShapeWords.{parts_of-struct}
use Rattle.flow_rules.specs.tools.EndsSomewhere.{EndsSomewhere}
use Rattle.flow_rules.proofs.ShapeNodes.{shape_nodes_at, nodes_more, nodes_with}
use Rattle.flow_rules.proofs.VarNodes.{global_more, nodes_below, var_more}

index_is : (xs : List ℕ) (k x : ℕ) → slice_get xs k ≡ Some x → slice_index xs k ≡ x
index_is xs k x found = (let here : Some (slice_index xs k) ≡ Some x = sym (slice_get-get_or xs k 0 (slice_get_within xs k x found)) ∙ found in cc)

-- one field taken
pub record IsStep (c : Code) (s k : ℕ) (path : List ℕ) : Type 0 where
  pub low : k < length (parts_of c s)
  pub rest : EndsSomewhere c (slice_index (parts_of c s) k) path
  pub fits : 1 + sum (map (shape_nodes c) (take k (parts_of c s))) + shape_nodes c (slice_index (parts_of c s) k) ≤ shape_nodes c s

pub step_of : (c : Code) → GoodForm c → (s k : ℕ) (path : List ℕ) → EndsSomewhere c s (k ∷ path) → IsStep c s k path
step_of c good s k path ends = by (slice_get (parts_of c s) k) refl ends.leads
  where
    by : (o : Option ℕ) → slice_get (parts_of c s) k ≡ o → elim o as (λ z. Option ℕ) [ None ↦ None | Some part ↦ end_of_path c part path ] ≡ Some ends.end → IsStep c s k path
    by None is leads = cc
    by (Some part) is leads =
        let same = index_is (parts_of c s) k part is in
        let low = slice_get_within (parts_of c s) k part is in
        let struct = shape_nodes_at c good s (Shape.Struct (parts_of c s)) (parts_of-struct c s k part is) in
        record {
          low = low;
          rest = record { end = ends.end; leads = ap (λ p. end_of_path c p path) same ∙ leads };
          fits = omega (arith, struct, nodes_with (shape_nodes c) (parts_of c s) k 0 low);
        }

pub along_fits : (c : Code) → GoodForm c → (s : ℕ) (path : List ℕ) → EndsSomewhere c s path → nodes_along c s path ≤ shape_nodes c s
along_fits c good s [] ends = omega arith
along_fits c good s (k ∷ path) ends =
    let step = step_of c good s k path ends in
    let fits = step.fits in
    omega (arith, fits, along_fits c good (slice_index (parts_of c s) k) path step.rest)

-- Places.

pub record IsRoot (c : Code) (node s : ℕ) (path : List ℕ) : Type 0 where
  pub ends : EndsSomewhere c s path
  pub fits : node + shape_nodes c s ≤ 16384
  pub along : nodes_along c s path ≤ shape_nodes c s

pub record IsGlobalPlace (c : Code) (v : ℕ) (path : List ℕ) : Type 0 where
  pub low : v < length c.globals
  pub root : (d : Global) → IsRoot c (global_node c v) (get_or c.globals v d).shape path
  pub shape : (d : Global) → (get_or c.globals v d).shape ≡ slice_index (shapes_of_globals c) v

pub global_place : (c : Code) → GoodForm c → (f v : ℕ) (path : List ℕ) → IsPlace c f (Place.Global v path) → IsGlobalPlace c v path
global_place c good f v path place = by (slice_get (shapes_of_globals c) v) refl place.1
  where
    by : (o : Option ℕ) → slice_get (shapes_of_globals c) v ≡ o → end_from c o path ≡ Some place.0 → IsGlobalPlace c v path
    by None is leads = cc
    by (Some s) is leads = record {
      low = low;
      shape = λ d. same d ∙ sym (index_is (shapes_of_globals c) v s is);
      root = λ d. (let ends : EndsSomewhere c (get_or c.globals v d).shape path = record { end = place.0; leads = ap (λ z. end_of_path c z path) (same d) ∙ leads } in
          record { ends = ends; fits = omega (arith, global_more c v d low, nodes_below c good (v + 1)); along = along_fits c good (get_or c.globals v d).shape path ends });
    }
      where
        low : v < length c.globals
        low = (let within = slice_get_within (shapes_of_globals c) v s is in omega (arith, within, length-map c.globals (λ (g : Global). g.shape)))

        same : (d : Global) → (get_or c.globals v d).shape ≡ s
        same d = (let here : Some (get_or c.globals v d).shape ≡ Some s = sym (ap (option_map (λ (g : Global). g.shape)) (slice_get-get_or c.globals v d low)) ∙ sym (slice_get-map (λ (g : Global). g.shape) c.globals v) ∙ is in cc)

pub record IsLocalPlace (c : Code) (f v : ℕ) (path : List ℕ) : Type 0 where
  pub exists : f < length c.funs
  pub low : v < length (vars_of c f)
  pub root : IsRoot c (var_node c f v) (slice_index (vars_of c f) v) path
  pub vars : (x : Fun) → slice_get c.funs f ≡ Some x → vars_of c f ≡ x.vars

pub local_place : (c : Code) → GoodForm c → (f v : ℕ) (path : List ℕ) → IsPlace c f (Place.Local v path) → IsLocalPlace c f v path
local_place c good f v path place = by (slice_get c.funs f) refl (slice_get (vars_of c f) v) refl place.1
  where
    vars : (x : Fun) → slice_get c.funs f ≡ Some x → vars_of c f ≡ x.vars
    vars x is = ap (λ (o : Option Fun). elim o as (λ z. List ℕ) [ None ↦ [] | Some fun ↦ fun.vars ]) is

    none : slice_get c.funs f ≡ None → vars_of c f ≡ []
    none is = ap (λ (o : Option Fun). elim o as (λ z. List ℕ) [ None ↦ [] | Some fun ↦ fun.vars ]) is

    by : (q : Option Fun) → slice_get c.funs f ≡ q → (o : Option ℕ) → slice_get (vars_of c f) v ≡ o → end_from c o path ≡ Some place.0 → IsLocalPlace c f v path
    by q function None is leads = cc
    by None function (Some s) is leads = (let empty = ap (λ xs. slice_get xs v) (none function) in cc)
    by (Some fun) function (Some s) is leads =
        let low = slice_get_within (vars_of c f) v s is in
        let same = index_is (vars_of c f) v s is in
        let rows = vars fun function in
        let count = ap length rows in
        let ends : EndsSomewhere c (slice_index (vars_of c f) v) path = record { end = place.0; leads = ap (λ z. end_of_path c z path) same ∙ leads } in
        let here = var_more c f v fun function (omega (arith, low, count)) in
        let next = var_more c f (v + 1) fun function (omega (arith, low, count)) in
        let more = nodes_more (shape_nodes c) fun.vars v 0 (omega (arith, low, count)) in
        let at : slice_index fun.vars v ≡ slice_index (vars_of c f) v = ap (λ xs. slice_index xs v) (sym rows) in
        record {
          exists = slice_get_within c.funs f fun function;
          low = low;
          root = record {
            ends = ends;
            fits = omega (arith, here, next, more, ap (shape_nodes c) at, nodes_below c good (length c.globals + (length (vars_in_funs (take f c.funs)) + (v + 1))));
            along = along_fits c good (slice_index (vars_of c f) v) path ends;
          };
          vars = vars;
        }

-- A loop along a path: at field i the node stands so far behind that of the shape, and what is left leads on from here.
pub record IsAlong (c : Code) (s : ℕ) (path : List ℕ) (i node here : ℕ) : Type 0 where
  pub node_is : node + nodes_along c here (drop i path) ≡ nodes_along c s path
  pub ends : EndsSomewhere c here (drop i path)
  pub fits : node + shape_nodes c here ≤ shape_nodes c s

drop_next : (path : List ℕ) (i : ℕ) → i < length path → drop i path ≡ slice_index path i ∷ drop (i + 1) path
drop_next [] i low = absurd (omega (arith, low))
drop_next (k ∷ path) zero low = refl
drop_next (k ∷ path) (suc i) low = drop_next path i (omega (arith, low)) ∙ (let more : suc i + 1 ≡ suc (i + 1) = omega arith in ap (λ n. slice_index path i ∷ drop n (k ∷ path)) (sym more))

pub record IsAlongStep (c : Code) (s : ℕ) (path : List ℕ) (i node here : ℕ) (parts : List ℕ) : Type 0 where
  pub low : slice_index path i < length parts
  pub fits : node + (1 + sum (map (shape_nodes c) (take (slice_index path i) parts))) ≤ shape_nodes c s
  pub next : IsAlong c s path (i + 1) (node + (1 + sum (map (shape_nodes c) (take (slice_index path i) parts)))) (slice_index parts (slice_index path i))

pub along_step : (c : Code) → GoodForm c → (s : ℕ) (path : List ℕ) (i node here : ℕ) (parts : List ℕ) → parts ≡ parts_of c here → IsAlong c s path i node here → i < length path
    → IsAlongStep c s path i node here parts
along_step c good s path i node here parts same h low = subst (IsAlongStep c s path i node here) (sym same) (record {
  low = step.low;
  fits = omega (arith, fits, h.fits);
  next = record { node_is = omega (arith, nodes, h.node_is); ends = step.rest; fits = omega (arith, fits, h.fits) };
})
  where
    k : ℕ
    k = slice_index path i

    whole : drop i path ≡ k ∷ drop (i + 1) path
    whole = drop_next path i low

    step : IsStep c here k (drop (i + 1) path)
    step = step_of c good here k (drop (i + 1) path) (subst (EndsSomewhere c here) whole h.ends)

    fits : 1 + sum (map (shape_nodes c) (take k (parts_of c here))) + shape_nodes c (slice_index (parts_of c here) k) ≤ shape_nodes c here
    fits = step.fits

    nodes : nodes_along c here (drop i path) ≡ 1 + sum (map (shape_nodes c) (take k (parts_of c here))) + nodes_along c (slice_index (parts_of c here) k) (drop (i + 1) path)
    nodes = ap (nodes_along c here) whole

pub along_start : (c : Code) (s : ℕ) (path : List ℕ) → EndsSomewhere c s path → IsAlong c s path 0 0 s
along_start c s path ends = record { node_is = omega arith; ends = ends; fits = omega arith }

pub along_end : (c : Code) (s : ℕ) (path : List ℕ) (i node here : ℕ) → IsAlong c s path i node here → length path ≤ i → node ≡ nodes_along c s path
along_end c s path i node here h past = (let none : drop i path ≡ [] = drop_all i path past in let left = ap (nodes_along c here) none in omega (arith, h.node_is, left))
