-- The code of a well-formed program: its types stand among its shapes, and its functions are good.
use Rattle.std.proofs.Common.{◌≡◌, ◌≢◌, ℕ, zero, suc, ◌<◌, ◌≤◌, Bool, true, false, List, [], ◌∷◌, ◌++◌, map, length, Option, Some, None, refl, ap, sym, ◌∙◌, arith, get_or}
use Rattle.std.specs.Prelude.{slice_get, All}
use Rattle.std.proofs.lemmas.List.{length-map, length-take-le}
use Rattle.std.proofs.lemmas.Option.{slice_get_within, slice_get-get_or, get_or_from_slice_get}
use Rattle.c_typed.specs.Typed.{Typed}
use Rattle.c_typed.specs.declared.types.BaseType.{BaseType}
use Rattle.c_typed.specs.declared.types.ObjectType.{ObjectType}
use Rattle.c_typed.specs.declared.types.ExprType.{ExprType}
use Rattle.c_typed.specs.declared.program.Struct.{Struct}
use Rattle.c_typed.specs.declared.program.Function.{Function}
use Rattle.c_typed.specs.declared.program.Variable.{Variable}
use Rattle.c_typed.specs.declared.program.Global.{Global}
use Rattle.c_typed.specs.Types.{words_of, item_words, scalar_type}
use Rattle.c_typed.specs.Exprs.{struct_of}
use Rattle.c_typed.specs.IsWell.{IsBase, Callee, callee_of, context_of, objects_of, placed, IsFunction, IsEarlier, IsWell, AreStmts}
use Rattle.tac_ir.specs.declared.code.Lined.{Lined}
use Rattle.tac_ir.specs.declared.code.Shape.{Shape}
use Rattle.tac_ir.specs.declared.code.Global.{Global as CodeGlobal}
use Rattle.tac_ir.specs.Places.{is_leaf}
use Rattle.tac_ir.specs.GoodForm.{params_of, IsGoodCall}
use Rattle.tac_lower.specs.declared.draft.Draft.{Draft}
use Rattle.tac_lower.specs.Shapes.{entry, shape_number}
use Rattle.tac_lower.specs.CodeOf.{sites_in, needs_in, variables_in, types_needed, all_of, global_of, sizes_of, first_numbers, drafts_of, code_of}
use Rattle.tac_lower.proofs.form.Lists.{map_get, get_mapped}
use Rattle.tac_lower.proofs.form.Each.{Each, each_by, each_first, each_second, each_get, each_all}
use Rattle.tac_lower.proofs.interned.Interns.{shapes_from-grow}
use Rattle.tac_lower.proofs.form.RunStmts.{body_steps}
use Rattle.tac_lower.proofs.form.Numbers.{IsSteady}
use Rattle.tac_lower.proofs.form.Holds.{World}
use Rattle.tac_lower.proofs.form.Names.{Shaped}
use Rattle.tac_lower.proofs.interned.DraftLaws.{objects}
use Rattle.tac_lower.proofs.form.Worlds.{FunAt, fun_at, funs_length, There, AllThere, drafts_there, all_parts, variables_get, times_some}
use Rattle.tac_lower.proofs.form.Parted.{Parted}
use Rattle.tac_lower.proofs.form.Declared.{declared_types, structs_listed, globals_parted, variables_parted}
use Rattle.tac_lower.proofs.form.Known.{needed_known, StructKnown, struct_known, array_known, IsBasic, int, pointer, unknown, basic}

-- the bodies of its functions
pub bodies_of : (t : Typed) → IsWell t → Each (λ f. AreStmts (context_of t f) (placed (record { looped = false; branched = false }) f.body)) t.functions
bodies_of t well =
    each_by (IsFunction t) (λ f. AreStmts (context_of t f) (placed (record { looped = false; branched = false }) f.body)) t.functions (λ f is. is.body) (each_all (IsFunction t) t.functions well.functions)

-- The program.
module _ (t : Typed) (well : IsWell t) (bodies : Each (λ f. AreStmts (context_of t f) (placed (record { looped = false; branched = false }) f.body)) t.functions) where
  abbrev pub shape : ObjectType → ℕ
  shape o = shape_number t.structs (code_of t).shapes o

  -- the type adds no shape
  abbrev pub Stands : ObjectType → Type 0
  Stands o = (entry t.structs o (code_of t).shapes).shapes ≡ (code_of t).shapes

  abbrev pub all_drafts : List Draft
  all_drafts = all_of (drafts_of t)

  pub each_steady : Each IsSteady t.functions
  each_steady = steady t.functions (each_all (IsFunction t) t.functions well.functions) bodies
    where
      steady : (fs : List Function) → Each (IsFunction t) fs → Each (λ f. AreStmts (context_of t f) (placed (record { looped = false; branched = false }) f.body)) fs → Each IsSteady fs
      steady [] is that = tt
      steady (f ∷ fs) is that =
          (record { few = is.0.parameters; body = λ a. body_steps a (context_of t f) (record { looped = false; branched = false }) f.body that.0 }, steady fs is.1 that.1)

  pub words_some : (o : ObjectType) → IsBase t.structs o.base → All (λ n. 0 < n) o.lengths → 1 ≤ words_of (sizes_of t) o
  words_some o is some = times_some o.lengths (item_words (sizes_of t) o.base o.stars) (each_all (λ n. 0 < n) o.lengths some) (by o.base o.stars is)
    where
      by : (base : BaseType) (stars : ℕ) → IsBase t.structs base → 1 ≤ item_words (sizes_of t) base stars
      by base (suc n) is = omega arith
      by BaseType.Int zero is = omega arith
      by BaseType.Unknown zero is = absurd is
      by (BaseType.Struct k) zero is =
          let d = slice_get-get_or t.structs k (record { fields = []; words = 0 }) is in
          let struct = get_or t.structs k (record { fields = []; words = 0 }) in
          let some = (well.structs k struct d).some_words in
          let size : get_or (sizes_of t) k 0 ≡ struct.words = get_or_from_slice_get (sizes_of t) k struct.words 0 (map_get (λ (s : Struct). s.words) t.structs k struct d) in
          omega arith

  -- Every type that is needed is known.
  pub needs : Each Stands (types_needed t all_drafts)
  needs = needed_known t.structs (Shape.Int ∷ Shape.Ptr ∷ []) (types_needed t all_drafts)

  abbrev pub globals : List ObjectType
  globals = map (λ (g : Global). g.object) t.globals

  abbrev pub sites : List ObjectType
  sites = objects (sites_in all_drafts)

  abbrev pub wants : List ObjectType
  wants = objects (needs_in all_drafts)

  pub globals_stand : Each Stands globals
  globals_stand = each_first Stands globals (variables_in t.functions) (each_first Stands (globals ++ variables_in t.functions) sites (each_first Stands (globals ++ variables_in t.functions ++ sites) wants needs))

  pub variables_stand : Each Stands (variables_in t.functions)
  variables_stand = each_second Stands globals (variables_in t.functions) (each_first Stands (globals ++ variables_in t.functions) sites (each_first Stands (globals ++ variables_in t.functions ++ sites) wants needs))

  pub sites_stand : Each Stands sites
  sites_stand = each_second Stands (globals ++ variables_in t.functions) sites (each_first Stands (globals ++ variables_in t.functions ++ sites) wants needs)

  pub drafts_stand : Each (λ ds. AllThere Stands ds) (drafts_of t)
  drafts_stand = all_parts (λ (d : Draft). There Stands d.object) (drafts_of t) (drafts_there Stands all_drafts sites_stand (each_second Stands (globals ++ variables_in t.functions ++ sites) wants needs))

  -- The first two shapes.
  pub first_shapes : (slice_get (code_of t).shapes 0 ≡ Some Shape.Int) × (slice_get (code_of t).shapes 1 ≡ Some Shape.Ptr)
  first_shapes =
      let grown = shapes_from-grow t.structs (Shape.Int ∷ Shape.Ptr ∷ []) (types_needed t all_drafts) in
      (ap (λ xs. slice_get xs 0) grown.1, ap (λ xs. slice_get xs 1) grown.1)

  leaf_small : (k : ℕ) → k ≤ 1 → is_leaf (code_of t) k ≡ true
  leaf_small zero le = ap (λ x. elim x as (λ x. Bool) [ Some Shape.Int ↦ true | Some Shape.Ptr ↦ true | _ ↦ false ]) first_shapes.0
  leaf_small (suc zero) le = ap (λ x. elim x as (λ x. Bool) [ Some Shape.Int ↦ true | Some Shape.Ptr ↦ true | _ ↦ false ]) first_shapes.1
  leaf_small (suc (suc k)) le = absurd (omega (arith, le))

  leaf_by : (o : ObjectType) (v : Option ExprType) → IsBasic (entry t.structs o (code_of t).shapes) v → is_leaf (code_of t) (shape o) ≡ true
  leaf_by o None basic = elim basic [ ]
  leaf_by o (Some (ExprType.Place p)) basic = elim basic [ ]
  leaf_by o (Some ExprType.Null) basic = elim basic [ ]
  leaf_by o (Some ExprType.Void) basic = elim basic [ ]
  leaf_by o (Some ExprType.Unknown) (unknown e) = leaf_small (shape o) e
  leaf_by o (Some ExprType.Int) (int e) =
      ap (λ x. elim x as (λ x. Bool) [ Some Shape.Int ↦ true | Some Shape.Ptr ↦ true | _ ↦ false ]) (ap (λ k. slice_get (code_of t).shapes k) e ∙ first_shapes.0)
  leaf_by o (Some (ExprType.Pointer p)) (pointer q e) =
      ap (λ x. elim x as (λ x. Bool) [ Some Shape.Int ↦ true | Some Shape.Ptr ↦ true | _ ↦ false ]) (ap (λ k. slice_get (code_of t).shapes k) e ∙ first_shapes.1)

  -- A struct's fields.
  pub struct_stands : (o : ObjectType) (j : ℕ) (d : Struct) → struct_of o ≡ Some j → slice_get t.structs j ≡ Some d → Stands o → StructKnown t.structs (code_of t).shapes o d
  struct_stands o j d is found stands =
      struct_known t.structs (code_of t).shapes o j d is found (each_all (λ u. IsEarlier j u.base u.stars) d.fields (well.structs j d found).earlier) stands

  -- Functions in the code.
  abbrev pub At : ℕ → Function → Type 0
  At k f = FunAt shape (sizes_of t) t.main 0 (first_numbers t) t.functions k f

  pub at : (k : ℕ) (f : Function) → slice_get t.functions k ≡ Some f → At k f
  at k f found = fun_at shape (sizes_of t) t.main 0 (first_numbers t) t.functions k f found

  pub function_well : (k : ℕ) (f : Function) → slice_get t.functions k ≡ Some f → IsFunction t f
  function_well k f found = each_get (IsFunction t) t.functions k f (each_all (IsFunction t) t.functions well.functions) found

  pub parameters_are : (k : ℕ) (f : Function) → slice_get t.functions k ≡ Some f → params_of (code_of t) k ≡ f.parameters
  parameters_are k f found = ap (λ o. elim o as (λ o. ℕ) [ None ↦ 0 | Some fun ↦ fun.params ]) (at k f found).fun

  calls_good : (f : Function) (k : ℕ) (callee : Callee) (args : List ℕ) → slice_get (context_of t f).functions k ≡ Some callee → k ≢ t.main → length args ≡ length callee.parameters → IsGoodCall (code_of t) k args
  calls_good f k callee args found other count =
      let m = get_mapped callee_of t.functions k callee found in
      let few = (function_well k m.of m.there).parameters in
      let size : length callee.parameters ≡ m.of.parameters =
      ap (λ (x : Callee). length x.parameters) (sym m.is) ∙ length-take-le m.of.parameters (objects_of m.of.variables) (omega (arith, length-map m.of.variables (λ (v : Variable). v.object))) in
      record {
        exists = omega (arith, slice_get_within t.functions k m.of m.there, funs_length shape (sizes_of t) t.main 0 (first_numbers t) t.functions);
        count = count ∙ size ∙ sym (parameters_are k m.of m.there);
        not_main = other;
      }

  -- one function in the code of all
  abbrev pub world : ℕ → List Lined → World
  world k lines = record { structs = t.structs; types = declared_types t; code = code_of t; fun = k; lines = lines; shape = shape }

  pub shaped : (k : ℕ) (f : Function) (lines : List Lined) → slice_get t.functions k ≡ Some f → Shaped (world k lines) (context_of t f) (sizes_of t)
  shaped k f lines found = record {
    structs = refl;
    globals = λ i o has.
        (let m = get_mapped (λ (g : Global). g.object) t.globals i o has in (
          map_get (λ (g : CodeGlobal). g.shape) (map (global_of shape) t.globals) i (global_of shape m.of) (map_get (global_of shape) t.globals i m.of m.there) ∙ ap (λ x. Some (shape x)) m.is,
          each_get Stands globals i o globals_stand has,
        ));
    variables = λ i o has.
        (let m = get_mapped (λ (v : Variable). v.object) f.variables i o has in (
          ap (λ x. slice_get (elim x as (λ x. List ℕ) [ None ↦ [] | Some fun ↦ fun.vars ]) i) (at k f found).fun ∙ map_get (λ (v : Variable). shape v.object) f.variables i m.of m.there ∙ ap (λ x. Some (shape x)) m.is,
          each_get Stands (objects_of f.variables) i o (variables_get Stands t.functions k f variables_stand found) has,
        ));
    parts = λ o j d is there stands.
        ap (λ x. elim x as (λ x. List ℕ) [ Some (Shape.Struct parts) ↦ parts | _ ↦ [] ]) (struct_stands o j d is there stands).there;
    fields = λ o j d i u is there has stands. each_get Stands d.fields i u (struct_stands o j d is there stands).fields has;
    global_types = λ i o has. each_get (Parted (declared_types t)) globals i o (globals_parted t) has;
    variable_types = λ i o has. each_get (Parted (declared_types t)) (objects_of f.variables) i o (variables_get (Parted (declared_types t)) t.functions k f (variables_parted t) found) has;
    field_types = λ j d i u there has. each_get (Parted (declared_types t)) d.fields i u (structs_listed t j d there).fields has;
    arrays = λ o n ns is stands.
        (let there = array_known t.structs (code_of t).shapes o n ns is stands in
        ap (λ x. elim x as (λ x. Bool) [ Some (Shape.Array len item) ↦ true | _ ↦ false ]) there.1);
    scalars = λ o s is. leaf_by o (scalar_type o) (basic t.structs (code_of t).shapes o s is);
    words = words_some;
    calls = calls_good f;
  }
