-- The laws of the code of typed programs.
use Rattle.std.proofs.Common.{◌≡◌, ℕ, zero, suc, ◌≤◌, List, [], ◌∷◌, map, take, false, Some, None, refl, ap, sym, ◌∙◌, subst, arith}
use Rattle.std.specs.Prelude.{slice_get}
use Rattle.std.specs.List.{sum_by}
use Rattle.std.proofs.lemmas.List.Sums.{sum_by-cons, sum-map}
use Rattle.c_typed.specs.Typed.{Typed}
use Rattle.c_typed.specs.declared.types.ObjectType.{ObjectType}
use Rattle.c_typed.specs.declared.types.ExprType.{ExprType}
use Rattle.c_typed.specs.declared.expr.Expr.{Expr}
use Rattle.c_typed.specs.declared.expr.Form.{Form, out-Form}
use Rattle.c_typed.specs.declared.expr.Form.TheOpen.{Form-F}
use Rattle.c_typed.specs.declared.program.Struct.{Struct}
use Rattle.c_typed.specs.declared.program.Global.{Global}
use Rattle.c_typed.specs.declared.program.Variable.{Variable}
use Rattle.c_typed.specs.declared.program.Function.{Function}
use Rattle.c_typed.specs.Types.{words_of}
use Rattle.c_typed.specs.Exprs.{struct_of}
use Rattle.c_typed.specs.IsWell.{Context, IsObject, IsTyping, IsLayer, IsExpr, known, IsGlobal, objects_of, words_in, context_of, IsWell}
use Rattle.tac_ir.specs.declared.code.Global.{Global as CodeGlobal}
use Rattle.tac_ir.specs.declared.code.Instr.{Instr}
use Rattle.tac_ir.specs.declared.code.Lined.{Lined}
use Rattle.tac_ir.specs.declared.code.Place.{Place}
use Rattle.tac_ir.specs.declared.code.Shape.{Shape}
use Rattle.tac_ir.specs.Layout.{shape_words, words_before, parts_of, shapes_of_globals}
use Rattle.tac_ir.specs.Counts.{temps_of_fun, temps_of}
use Rattle.tac_ir.specs.Places.{shape_of_place}
use Rattle.tac_lower.specs.declared.draft.Draft.{Draft}
use Rattle.tac_lower.specs.declared.draft.Ends.{Ends}
use Rattle.tac_lower.specs.Values.{direct, form_step, expr}
use Rattle.tac_lower.specs.Stmts.{stmt}
use Rattle.tac_lower.specs.Functions.{around}
use Rattle.tac_lower.specs.CodeOf.{Item, sites_in, all_of, fun_of, global_of, site_of, sizes_of, first_numbers, drafts_of, code_of}
use Rattle.tac_lower.specs.Laws.{PiecesAreCounted, PiecesAreTyped, shape_in, made_of, FunctionsStandInCode, StructShape, HasShape, ShapesOf, TypesHaveShapes}
use Rattle.tac_lower.proofs.pieces.Levels.{mapped, typing_is}
use Rattle.tac_lower.proofs.pieces.Sized.{sized_in_turn, value_sized, truth_sized, expr_sized}
use Rattle.tac_lower.proofs.pieces.SizedStmts.{stmt_sized, all_sized, function_sized}
use Rattle.tac_lower.proofs.pieces.Sited.{new_site}
use Rattle.tac_lower.proofs.pieces.NumberedSites.{site_of_draft}
use Rattle.tac_lower.proofs.form.Lists.{map_get}
use Rattle.tac_lower.proofs.form.Each.{Each, each_get, each_all}
use Rattle.tac_lower.proofs.form.RunExprs.{yield_of}
use Rattle.tac_lower.proofs.form.Tally.{run_reach}
use Rattle.tac_lower.proofs.form.Numbers.{IsSteady, function_run}
use Rattle.tac_lower.proofs.form.Holds.{World}
use Rattle.tac_lower.proofs.form.ExprParts.{YieldHolds}
use Rattle.tac_lower.proofs.form.Exprs.{expr_holds}
use Rattle.tac_lower.proofs.form.Worlds.{fun_at, There, AllThere, variables_get}
use Rattle.tac_lower.proofs.form.Code as code
use Rattle.tac_lower.proofs.form.Program as program

pub counted : PiecesAreCounted
counted = record {
  values = λ sizes line e. value_sized line (expr sizes e) (expr_sized sizes e);
  truths = λ sizes line e. truth_sized line (expr sizes e) (expr_sized sizes e);
  stmts = stmt_sized;
  bodies = λ c ss. sized_in_turn (map (stmt c) ss) (all_sized c ss);
  functions = function_sized;
}

-- what has no code is a place
direct_layer : (c : Context) (sizes : List ℕ) (s : ExprType) (x : Form-F Form Expr) (line : ℕ) (p : Place) → IsLayer c s x → form_step sizes (mapped sizes x) line ≡ direct p
    → (t : ObjectType) × (s ≡ ExprType.Place t)
direct_layer c sizes s (Form-F.Global k) line p l is = (l.0, l.2)
direct_layer c sizes s (Form-F.Local k) line p l is = (l.0, l.2)
direct_layer c sizes s (Form-F.Field e k) line p l is = (l.2.field, l.2.typing)
direct_layer c sizes s x line p l is = cc

direct_place : (c : Context) (sizes : List ℕ) (line : ℕ) (p : Place) {e : Expr} → IsExpr c e → (expr sizes e).yield line ≡ direct p → (t : ObjectType) × (e.typing ≡ ExprType.Place t)
direct_place c sizes line p (known e t l ops) is = direct_layer c sizes e.typing (out-Form e.form) line p l (ap (λ y. y line) (sym (yield_of sizes e)) ∙ is)

pub typed : PiecesAreTyped
typed = record { typings = typing_is; places = λ c sizes e line p here is. direct_place c sizes line p here is }

pub functions_stand : FunctionsStandInCode
functions_stand t well k f found =
    let bodies = code.bodies_of t well in
    let a = fun_at (shape_in t) (sizes_of t) t.main 0 (first_numbers t) t.functions k f found in
    let n = a.numbers in
    let same : a.index ≡ k = (let is = a.index_is in omega arith) in
    let drafts : slice_get (drafts_of t) k ≡ Some (made_of t k f n).drafts = subst (λ j. slice_get (drafts_of t) k ≡ Some (made_of t j f n).drafts) same a.drafts in
    let fun : slice_get (code_of t).funs k ≡ Some (fun_of (shape_in t) f (made_of t k f n).drafts) = subst (λ j. slice_get (code_of t).funs k ≡ Some (fun_of (shape_in t) f (made_of t j f n).drafts)) same a.fun in
    let steady = each_get IsSteady t.functions k f (code.each_steady t well bodies) found in
    let made = made_of t k f n in
    let reach : made.next.temp ≤ temps_of_fun (fun_of (shape_in t) f made.drafts) =
    run_reach (shape_in t) f.parameters _ made.drafts made.next (function_run (around (sizes_of t) t.main k) f n steady) (omega arith) in
    let temps : temps_of (code_of t) k ≡ temps_of_fun (fun_of (shape_in t) f made.drafts) = ap (λ o. elim o as (λ o. ℕ) [ None ↦ 0 | Some fun ↦ temps_of_fun fun ]) fun in
    record {
      numbers = n;
      drafts = drafts;
      lines = ap (λ o. elim o as (λ o. List Lined) [ None ↦ [] | Some fun ↦ fun.code ]) fun;
      temps = omega arith;
      params = ap (λ o. elim o as (λ o. ℕ) [ None ↦ 0 | Some fun ↦ fun.params ]) fun;
      vars = ap (λ o. elim o as (λ o. List ℕ) [ None ↦ [] | Some fun ↦ fun.vars ]) fun;
    }

module _ (t : Typed) (well : IsWell t) where
  abbrev Stands : ObjectType → Type 0
  Stands o = code.Stands t well (code.bodies_of t well) o

  words_are : (o : ObjectType) → IsObject t.structs o → Stands o → shape_words (code_of t) (shape_in t o) ≡ words_of (sizes_of t) o
  words_are o is stands = program.words_are t well (code.bodies_of t well) o is stands

  -- the words of the first fields
  words_first : (k : ℕ) (os : List ObjectType) → Each (IsObject t.structs) os → Each Stands os → sum_by (shape_words (code_of t)) (take k (map (shape_in t) os)) ≡ words_in (sizes_of t) (take k os)
  words_first zero os is stands = refl
  words_first (suc k) [] is stands = refl
  words_first (suc k) (o ∷ os) is stands =
      let rest = words_first k os is.1 stands.1 in
      let here = words_are o is.0 stands.0 in
      omega (arith, sum_by-cons (shape_words (code_of t)) (shape_in t o) (take k (map (shape_in t) os)))

  struct_shape : (o : ObjectType) (j : ℕ) (d : Struct) → Stands o → struct_of o ≡ Some j → slice_get t.structs j ≡ Some d → StructShape t o d
  struct_shape o j d stands is there =
      let known = code.struct_stands t well (code.bodies_of t well) o j d is there stands in
      let objects = each_all (IsObject t.structs) d.fields (well.structs j d there).fields in
      let parts : parts_of (code_of t) (shape_in t o) ≡ map (shape_in t) d.fields = ap (λ x. elim x as (λ x. List ℕ) [ Some (Shape.Struct parts) ↦ parts | _ ↦ [] ]) known.there in
      record {
        parts = parts;
        words = λ k u at. words_are u (each_get (IsObject t.structs) d.fields k u objects at) (each_get Stands d.fields k u known.fields at);
        offsets = λ k. ap (λ ps. words_before (code_of t) ps k) parts ∙ sum-map (shape_words (code_of t)) (take k (map (shape_in t) d.fields)) ∙ words_first k d.fields objects known.fields;
      }

  has_shape : (o : ObjectType) → IsObject t.structs o → Stands o → HasShape t o
  has_shape o is stands = record { words = words_are o is stands; struct = λ j d of there. struct_shape o j d stands of there }

  globals : (k : ℕ) (g : Global) → slice_get t.globals k ≡ Some g → (slice_get (shapes_of_globals (code_of t)) k ≡ Some (shape_in t g.object)) × HasShape t g.object
  globals k g found =
      let stands = each_get Stands (map (λ (g : Global). g.object) t.globals) k g.object (code.globals_stand t well (code.bodies_of t well)) (map_get (λ (g : Global). g.object) t.globals k g found) in
      let is = (each_get (IsGlobal t.structs) t.globals k g (each_all (IsGlobal t.structs) t.globals well.globals) found).object in (
        map_get (λ (g : CodeGlobal). g.shape) (map (global_of (shape_in t)) t.globals) k (global_of (shape_in t) g) (map_get (global_of (shape_in t)) t.globals k g found),
        has_shape g.object is stands,
      )

  variables : (k i : ℕ) (f : Function) (v : Variable) → slice_get t.functions k ≡ Some f → slice_get f.variables i ≡ Some v → HasShape t v.object
  variables k i f v found there =
      let at : slice_get (objects_of f.variables) i ≡ Some v.object = map_get (λ (v : Variable). v.object) f.variables i v there in
      let objects = each_all (IsObject t.structs) (objects_of f.variables) (code.function_well t well (code.bodies_of t well) k f found).objects in
      let stand = variables_get Stands t.functions k f (code.variables_stand t well (code.bodies_of t well)) found in
      has_shape v.object (each_get (IsObject t.structs) (objects_of f.variables) i v.object objects at) (each_get Stands (objects_of f.variables) i v.object stand at)

  drafts : (k i : ℕ) (ds : List Draft) (d : Draft) (o : ObjectType) → slice_get (drafts_of t) k ≡ Some ds → slice_get ds i ≡ Some d → d.object ≡ Some o → HasShape t o
  drafts k i ds d o at there is =
      let objects = each_get (λ (d : Draft). There (IsObject t.structs) d.object) ds i d (each_get (λ ds. AllThere (IsObject t.structs) ds) (drafts_of t) k ds (program.drafts_objects t well (code.bodies_of t well)) at) there in
      let stand = each_get (λ (d : Draft). There Stands d.object) ds i d (each_get (λ ds. AllThere Stands ds) (drafts_of t) k ds (code.drafts_stand t well (code.bodies_of t well)) at) there in
      has_shape o (subst (There (IsObject t.structs)) is objects) (subst (There Stands) is stand)

  sites : (k i : ℕ) (ds : List Draft) (d : Draft) (to a s : ℕ) → slice_get (drafts_of t) k ≡ Some ds → slice_get ds i ≡ Some d → d.instr ≡ Instr.New to a s
      → (o : ObjectType) × (d.object ≡ Some o) × (slice_get (code_of t).sites s ≡ Some (record { shape = shape_in t o; line = d.line }))
  sites k i ds d to a s at there is =
      let of = site_of_draft t well k i ds d s at there (ap new_site is) in
      let item : Item = record { line = d.line; object = of.object } in
      (of.object, of.of, map_get (site_of (shape_in t)) (sites_in (all_of (drafts_of t))) s item of.there)

  places : (k line : ℕ) (f : Function) (e : Expr) (p : Place) → slice_get t.functions k ≡ Some f → IsExpr (context_of t f) e → (expr (sizes_of t) e).yield line ≡ direct p
      → (o : ObjectType) × (e.typing ≡ ExprType.Place o) × (shape_of_place (code_of t) k p ≡ Some (shape_in t o)) × HasShape t o
  places k line f e p found here is =
      let w : World = code.world t well (code.bodies_of t well) k [] in
      let outs : Ends → ℕ → Type 0 = λ ends n. ⊥ in
      let holds = expr_holds w false outs (context_of t f) (sizes_of t) (code.shaped t well (code.bodies_of t well) k f [] found) here in
      let at = subst (λ y. YieldHolds w false outs e.typing y) is (holds.yield line) in
      let object : IsObject t.structs at.0 = subst (IsTyping t.structs) at.1 holds.typing in
      (at.0, at.1, at.2.shape, has_shape at.0 object at.2.known)

  shapes_of : ShapesOf t
  shapes_of = record { globals = globals; variables = variables; drafts = drafts; sites = sites; places = places }

pub shapes_stand : TypesHaveShapes
shapes_stand t well = shapes_of t well
