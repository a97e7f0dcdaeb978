-- The code of a well-formed program that passes no limit is of good form.
use Rattle.std.proofs.Common.{◌≡◌, ℕ, zero, suc, ◌+◌, ◌<◌, ◌≤◌, Bool, true, false, List, [], ◌∷◌, map, take, length, Some, None, refl, ap, sym, ◌∙◌, subst, arith}
use Rattle.std.specs.Prelude.{slice_get, pos}
use Rattle.std.proofs.lemmas.List.{length-map}
use Rattle.std.proofs.lemmas.Option.{slice_get_within}
use Rattle.c_typed.specs.Typed.{Typed}
use Rattle.c_typed.specs.declared.types.ObjectType.{ObjectType}
use Rattle.c_typed.specs.declared.types.ExprType.{ExprType}
use Rattle.c_typed.specs.declared.program.Function.{Function}
use Rattle.c_typed.specs.declared.program.Variable.{Variable}
use Rattle.c_typed.specs.declared.program.Global.{Global}
use Rattle.c_typed.specs.Types.{scalar_type}
use Rattle.c_typed.specs.Decls.{is_scalar}
use Rattle.c_typed.specs.IsWell.{sizes_in, IsObject, context_of, objects_of, placed, IsFunction, IsWell, AreStmts}
use Rattle.tac_ir.specs.declared.code.Code.{Code}
use Rattle.tac_ir.specs.declared.code.Fun.{Fun}
use Rattle.tac_ir.specs.declared.code.Shape.{Shape}
use Rattle.tac_ir.specs.declared.code.Global.{Global as CodeGlobal}
use Rattle.tac_ir.specs.Layout.{vars_of, shapes_of_globals}
use Rattle.tac_ir.specs.GoodForm.{IsGoodCode}
use Rattle.tac_lower.specs.declared.draft.Draft.{Draft}
use Rattle.tac_lower.specs.Shapes.{entry}
use Rattle.tac_lower.specs.CodeOf.{Item, sites_in, all_of, fun_of, global_of, site_of, sizes_of, first_numbers, drafts_of, code_of}
use Rattle.tac_lower.proofs.form.Lists.{map_get, get_mapped}
use Rattle.tac_lower.proofs.form.Each.{each_map, map_each, each_both, Each, each_get, each_all}
use Rattle.tac_lower.proofs.form.Functions.{scalar_some}
use Rattle.tac_lower.proofs.interned.DraftLaws.{objects}
use Rattle.tac_lower.proofs.form.Worlds.{fun_from, funs_length, There, sites_each, parts_all, variables_get}
use Rattle.tac_lower.proofs.form.Known.{basic}
use Rattle.std.specs.List.{sum_by}
use Rattle.std.proofs.lemmas.List.Sums.{sum-map}
use Rattle.std.proofs.Common.{sum, inl, inr, ◌⊎◌}
use Rattle.std.proofs.lemmas.List.{take_all}
use Rattle.c_typed.specs.IsWell as well_formed
use Rattle.c_typed.specs.IsWell.{IsGlobal, is_int}
use Rattle.tac_ir.specs.Layout.{shape_words, words_before, frame_words}
use Rattle.tac_ir.specs.declared.code.Site.{Site}
use Rattle.tac_ir.specs.GoodForm.{IsGoodGlobal, GoodGlobals, IsGoodFrame, GoodFuns, GoodForm}
use Rattle.tac_lower.specs.Limits.{first_passed}
use Rattle.tac_lower.proofs.form.Each.{all_each}
use Rattle.tac_lower.proofs.form.Numbers.{numbered, limited}
use Rattle.tac_lower.proofs.form.Code as code
use Rattle.tac_lower.proofs.form.Program as program
use Rattle.tac_lower.proofs.form.Program.{int_is, number_of_int, number_small}

module _ (t : Typed) (well : IsWell t) (bodies : Each (λ f. AreStmts (context_of t f) (placed (record { looped = false; branched = false }) f.body)) t.functions) where
  abbrev shape : ObjectType → ℕ
  shape o = code.shape t well bodies o

  abbrev Stands : ObjectType → Type 0
  Stands o = code.Stands t well bodies o

  abbrev c : Code
  c = code_of t

  -- Globals and heap sites.
  start_of : (g : Global) → IsGlobal t.structs g → (b : Bool) → is_int g.object ≡ b → (g.start ≡ pos 0) ⊎ (slice_get c.shapes (shape g.object) ≡ Some Shape.Int)
  start_of g is false e = inl (is.start e)
  start_of g is true e =
      let scalar : scalar_type g.object ≡ Some ExprType.Int = int_is (scalar_type g.object) e in
      let zero : shape g.object ≡ 0 = number_of_int (entry t.structs g.object c.shapes) (scalar_type g.object) scalar (basic t.structs c.shapes g.object ExprType.Int scalar) in
      inr (ap (λ k. slice_get c.shapes k) zero ∙ (program.fair t well bodies).first)

  globals_stand : Each (λ (g : Global). Stands g.object) t.globals
  globals_stand = map_each Stands (λ (g : Global). g.object) t.globals (code.globals_stand t well bodies)

  sites_below : (items : List Item) → Each (IsObject t.structs) (objects items) → Each Stands (objects items) → Each (λ (s : Site). s.shape < length c.shapes) (map (site_of shape) items)
  sites_below [] is stands = tt
  sites_below (i ∷ items) is stands = (program.below_of t well bodies i.object is.0 stands.0, sites_below items is.1 stands.1)

  shapes_are : (gs : List Global) → map (λ (g : CodeGlobal). g.shape) (map (global_of shape) gs) ≡ map (λ (g : Global). shape g.object) gs
  shapes_are [] = refl
  shapes_are (g ∷ gs) = ap (λ xs. shape g.object ∷ xs) (shapes_are gs)

  globals_good : GoodGlobals c
  globals_good = record {
    each = all_each (IsGoodGlobal c) c.globals
        (each_map (IsGoodGlobal c) (global_of shape) t.globals
        (each_both (IsGlobal t.structs) (λ (g : Global). Stands g.object) (λ g. IsGoodGlobal c (global_of shape g)) t.globals
        (λ g is stands. record { shape = program.below_of t well bodies g.object is.object stands; start = start_of g is (is_int g.object) refl }) (each_all (IsGlobal t.structs) t.globals well.globals) globals_stand));
    words =
        let xs = shapes_of_globals c in
        let size : length c.globals ≡ length xs = sym (length-map c.globals (λ (g : CodeGlobal). g.shape)) in
        let all : take (length c.globals) xs ≡ xs = ap (λ k. take k xs) size ∙ take_all (length xs) xs (omega arith) in
        let total : sum_by (shape_words c) xs ≡ well_formed.words_in (sizes_of t) (code.globals t well bodies) =
        ap (sum_by (shape_words c)) (shapes_are t.globals) ∙ program.words_sum t well bodies (λ (g : Global). g.object) t.globals (program.globals_objects t well bodies) (code.globals_stand t well bodies) in
        let limit : well_formed.words_in (sizes_of t) (code.globals t well bodies) ≤ 8176 = well.global_words in
        let before : words_before c xs (length c.globals) ≡ sum_by (shape_words c) xs = ap (λ ys. sum (map (shape_words c) ys)) all ∙ sum-map (shape_words c) xs in
        omega arith;
    sites = all_each (λ (s : Site). s.shape < length c.shapes) c.sites
        (sites_below (sites_in (all_of (drafts_of t)))
        (sites_each (IsObject t.structs) (all_of (drafts_of t)) (parts_all (λ (d : Draft). There (IsObject t.structs) d.object) (drafts_of t) (program.drafts_objects t well bodies))) (code.sites_stand t well bodies));
  }

  -- Frames.
  variables_stand : (k : ℕ) (f : Function) → slice_get t.functions k ≡ Some f → Each Stands (objects_of f.variables)
  variables_stand k f found = variables_get Stands t.functions k f (code.variables_stand t well bodies) found

  params_basic : (k : ℕ) (f : Function) → slice_get t.functions k ≡ Some f → (v s : ℕ) → v < f.parameters → slice_get (map (λ (x : Variable). shape x.object) f.variables) v ≡ Some s → s < 2
  params_basic k f found v s less there =
      let m = get_mapped (λ (x : Variable). shape x.object) f.variables v s there in
      let object : slice_get (objects_of f.variables) v ≡ Some m.of.object = map_get (λ (x : Variable). x.object) f.variables v m.of m.there in
      let scalar = scalar_some (scalar_type m.of.object) (each_get (λ o. is_scalar o ≡ true) (take f.parameters (objects_of f.variables)) v m.of.object (program.scalars_of t well bodies k f found) (take_get (objects_of f.variables) f.parameters v m.of.object less object)) in
      let small = number_small (entry t.structs m.of.object c.shapes) (scalar_type m.of.object) (basic t.structs c.shapes m.of.object scalar.0 scalar.1) in
      subst (λ n. n < 2) m.is small
    where
      take_get : (xs : List ObjectType) (n i : ℕ) (x : ObjectType) → i < n → slice_get xs i ≡ Some x → slice_get (take n xs) i ≡ Some x
      take_get [] n i x h e = cc
      take_get (y ∷ xs) zero i x h e = absurd (omega arith)
      take_get (y ∷ xs) (suc n) zero x h e = e
      take_get (y ∷ xs) (suc n) (suc i) x h e = take_get xs n i x (omega arith) e

  frame_good : (k : ℕ) (f : Function) (found : slice_get t.functions k ≡ Some f) → IsGoodFrame c k (fun_of shape f (program.made t well bodies k f found))
  frame_good k f found =
      let is = code.function_well t well bodies k f found in
      let objects = each_all (IsObject t.structs) (objects_of f.variables) is.objects in
      let stands = variables_stand k f found in
      let vars = map (λ (v : Variable). shape v.object) f.variables in
      let there : vars_of c k ≡ vars = ap (λ o. elim o as (λ o. List ℕ) [ None ↦ [] | Some fun ↦ fun.vars ]) (code.at t well bodies k f found).fun in
      record {
        vars = all_each (λ s. s < length c.shapes) vars
            (each_map (λ s. s < length c.shapes) (λ (v : Variable). shape v.object) f.variables
            (each_both (λ (v : Variable). IsObject t.structs v.object) (λ (v : Variable). Stands v.object) (λ (v : Variable). shape v.object < length c.shapes) f.variables (λ v x y. program.below_of t well bodies v.object x y)
            (map_each (IsObject t.structs) (λ (v : Variable). v.object) f.variables objects) (map_each Stands (λ (v : Variable). v.object) f.variables stands)));
        params = (let few = is.parameters in omega (arith, length-map f.variables (λ (v : Variable). shape v.object)));
        params_are_basic = params_basic k f found;
        words =
            let total : sum_by (shape_words c) vars ≡ well_formed.words_in (sizes_of t) (objects_of f.variables) = program.words_sum t well bodies (λ (v : Variable). v.object) f.variables objects stands in
            let limit : suc (well_formed.words_in (sizes_of t) (objects_of f.variables)) ≤ 4096 = is.frame in
            let frame : frame_words c k ≡ 1 + sum_by (shape_words c) vars = ap (λ xs. 1 + sum (map (shape_words c) xs)) there ∙ ap (λ n. 1 + n) (sum-map (shape_words c) vars) in
            omega arith;
      }

  -- a function of the code is that of one of the program
  fun_is : (k : ℕ) (fun : Fun) → slice_get c.funs k ≡ Some fun → (P : Fun → Type 0) → ((f : Function) (found : slice_get t.functions k ≡ Some f) → P (fun_of shape f (program.made t well bodies k f found))) → P fun
  fun_is k fun there P all =
      let from = fun_from shape (sizes_of t) t.main 0 (first_numbers t) t.functions k fun there in
      let f = from.0 in
      let found = from.1 in
      let mine = fun_of shape f (program.made t well bodies k f found) in
      let same : mine ≡ fun = (let e : Some mine ≡ Some fun = sym (code.at t well bodies k f found).fun ∙ there in cc) in
      subst P same (all f found)

  funs_good : GoodFuns c
  funs_good =
      let size = funs_length shape (sizes_of t) t.main 0 (first_numbers t) t.functions in
      let main = well.main in
      let few = well.few_functions in
      let within = slice_get_within t.functions t.main main.0 main.1 in
      record {
        some = omega arith;
        count = omega arith;
        main = omega arith;
        main_params = code.parameters_are t well bodies t.main main.0 main.1 ∙ main.2;
        frames = λ k fun there. fun_is k fun there (IsGoodFrame c k) (λ f found. frame_good k f found);
      }

  -- The whole.
  pub good : first_passed c ≡ None → GoodForm c
  good within = record {
    shapes = program.shapes_good t well bodies;
    globals = globals_good;
    funs = funs_good;
    limits = limited t (code.each_steady t well bodies) within;
    numbers = numbered t (code.each_steady t well bodies);
    code = λ k fun there. fun_is k fun there (λ fun. IsGoodCode c k fun.code) (λ f found. program.code_good t well bodies k f found);
  }

pub good_form : (t : Typed) → IsWell t → first_passed (code_of t) ≡ None → GoodForm (code_of t)
good_form t well within = good t well (code.bodies_of t well) within

pub few_shapes : (t : Typed) → IsWell t → length (code_of t).shapes < 2147483648
few_shapes t well = program.few t well (code.bodies_of t well)
