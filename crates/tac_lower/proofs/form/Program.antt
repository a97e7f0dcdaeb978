-- The functions and the shapes of a well-formed program are of good form.
use Rattle.std.proofs.Common.{◌≡◌, ℕ, ◌+◌, ◌<◌, Bool, true, false, nat_eq, List, [], ◌∷◌, ◌++◌, map, take, length, Option, Some, None, refl, sym, ◌∙◌, subst, arith}
use Rattle.std.specs.Prelude.{slice_get}
use Rattle.std.proofs.lemmas.List.{length-map}
use Rattle.std.proofs.lemmas.Option.{slice_get_within}
use Rattle.c_typed.specs.Typed.{Typed}
use Rattle.c_typed.specs.declared.types.ObjectType.{ObjectType}
use Rattle.c_typed.specs.declared.types.ExprType.{ExprType}
use Rattle.c_typed.specs.declared.program.Function.{Function}
use Rattle.c_typed.specs.declared.program.Variable.{Variable}
use Rattle.c_typed.specs.declared.program.Global.{Global}
use Rattle.c_typed.specs.Types.{words_of}
use Rattle.c_typed.specs.Decls.{is_scalar}
use Rattle.c_typed.specs.IsWell.{sizes_in, IsObject, context_of, objects_of, placed, IsFunction, IsWell, AreStmts}
use Rattle.tac_ir.specs.declared.code.Code.{Code}
use Rattle.tac_ir.specs.declared.code.Shape.{Shape}
use Rattle.tac_ir.specs.GoodForm.{IsGoodCode}
use Rattle.tac_lower.specs.declared.draft.Draft.{Draft}
use Rattle.tac_lower.specs.Functions.{function, no_loop, first_of, around}
use Rattle.tac_lower.specs.Shapes.{Entry, entry}
use Rattle.tac_lower.specs.CodeOf.{sites_in, needs_in, variables_in, types_needed, all_of, finished, site_of, sizes_of, first_numbers, drafts_of, code_of}
use Rattle.tac_lower.proofs.form.Lists.{eq_is, eq_not, map_get}
use Rattle.tac_lower.proofs.form.Each.{each_here, each_map, Each, each_append, each_by, each_get, each_all}
use Rattle.tac_lower.proofs.pieces.NumberedSites.{site_of_draft}
use Rattle.tac_lower.proofs.form.Holds.{World, KnownThere, IsDeclaredThere}
use Rattle.tac_lower.proofs.form.Fits.{IsMainBy}
use Rattle.tac_lower.proofs.form.Functions.{function_good, function_objects}
use Rattle.tac_lower.proofs.interned.DraftLaws.{objects}
use Rattle.tac_lower.proofs.form.Worlds.{drafts_get, There, AllThere, sites_each, needs_each, parts_all, variables_each}
use Rattle.tac_lower.proofs.form.Parted.{Parted}
use Rattle.tac_lower.proofs.form.Declared.{declared_types, few_types, structs_listed, globals_parted, variables_parted}
use Rattle.tac_lower.proofs.form.Potential.{few_shapes}
use Rattle.tac_lower.proofs.form.Shapes.{Fair}
use Rattle.tac_lower.proofs.form.Known.{IsBasic, int, pointer, unknown, basic}
use Rattle.std.specs.List.{sum_by}
use Rattle.std.proofs.lemmas.List.Sums.{sum_by-cons}
use Rattle.c_typed.specs.IsWell as well_formed
use Rattle.c_typed.specs.IsWell.{IsGlobal, is_int}
use Rattle.tac_ir.specs.Layout.{shape_words}
use Rattle.tac_ir.specs.GoodForm.{GoodShapes, shapes_named}
use Rattle.tac_lower.proofs.form.Each.{all_each}
use Rattle.tac_lower.proofs.form.Shapes.{words_at}
use Rattle.tac_lower.proofs.form.Structs.{enters_type, fair_shapes}
use Rattle.tac_lower.proofs.form.Code as code

main_by : (w : World) (index main : ℕ) → index ≡ w.fun → w.code.main ≡ main → (b : Bool) → nat_eq index main ≡ b → IsMainBy w b
main_by w index main at is true e = (let same = eq_is index main e in omega arith)
main_by w index main at is false e = λ same. eq_not index main e (omega arith)

pub int_is : (o : Option ExprType) → elim o as (λ o. Bool) [ Some ExprType.Int ↦ true | _ ↦ false ] ≡ true → o ≡ Some ExprType.Int
int_is (Some ExprType.Int) h = refl
int_is o h = cc

pub number_of_int : (e : Entry) (v : Option ExprType) → v ≡ Some ExprType.Int → IsBasic e v → e.number ≡ 0
number_of_int e (Some ExprType.Int) is (int h) = h
number_of_int e (Some (ExprType.Pointer t)) is (pointer q h) = cc
number_of_int e None is basic = elim basic [ ]
number_of_int e (Some (ExprType.Place t)) is basic = elim basic [ ]
number_of_int e (Some ExprType.Null) is basic = elim basic [ ]
number_of_int e (Some ExprType.Void) is basic = elim basic [ ]
number_of_int e (Some ExprType.Unknown) is (unknown h) = cc

pub number_small : (e : Entry) (v : Option ExprType) → IsBasic e v → e.number < 2
number_small e (Some ExprType.Int) (int h) = omega arith
number_small e (Some (ExprType.Pointer t)) (pointer q h) = omega arith
number_small e None basic = elim basic [ ]
number_small e (Some (ExprType.Place t)) basic = elim basic [ ]
number_small e (Some ExprType.Null) basic = elim basic [ ]
number_small e (Some ExprType.Void) basic = elim basic [ ]
number_small e (Some ExprType.Unknown) (unknown h) = omega arith

module _ (t : Typed) (well : IsWell t) (bodies : Each (λ f. AreStmts (context_of t f) (placed (record { looped = false; branched = false }) f.body)) t.functions) where
  abbrev shape : ObjectType → ℕ
  shape o = code.shape t well bodies o

  abbrev Stands : ObjectType → Type 0
  Stands o = code.Stands t well bodies o

  abbrev c : Code
  c = code_of t

  -- Functions.
  abbrev pub made : (k : ℕ) (f : Function) → slice_get t.functions k ≡ Some f → List Draft
  made k f found = (let a = code.at t well bodies k f found in ((function (around (sizes_of t) t.main a.index) f).make no_loop (first_of f a.numbers)).drafts)

  abbrev pub world : (k : ℕ) (f : Function) → slice_get t.functions k ≡ Some f → World
  world k f found = code.world t well bodies k (map (finished shape) (made k f found))

  main_of : (k : ℕ) (f : Function) (found : slice_get t.functions k ≡ Some f) → IsMainBy (world k f found) (nat_eq (code.at t well bodies k f found).index t.main)
  main_of k f found = (let a = code.at t well bodies k f found in let is = a.index_is in main_by (world k f found) a.index t.main (omega arith) refl (nat_eq a.index t.main) refl)

  variable_there : (f : Function) (i : ℕ) (v : Variable) → slice_get f.variables i ≡ Some v → slice_get (context_of t f).variables (0 + i) ≡ Some v.object
  variable_there f i v e = (let here : i ≡ 0 + i = omega arith in subst (λ j. slice_get (objects_of f.variables) j ≡ Some v.object) here (map_get (λ (v : Variable). v.object) f.variables i v e))

  pub scalars_of : (k : ℕ) (f : Function) → slice_get t.functions k ≡ Some f → Each (λ o. is_scalar o ≡ true) (take f.parameters (objects_of f.variables))
  scalars_of k f found = each_all (λ o. is_scalar o ≡ true) (take f.parameters (objects_of f.variables)) (code.function_well t well bodies k f found).scalars

  body_of : (k : ℕ) (f : Function) → slice_get t.functions k ≡ Some f → AreStmts (context_of t f) (placed (record { looped = false; branched = false }) f.body)
  body_of k f found = each_get (λ f. AreStmts (context_of t f) (placed (record { looped = false; branched = false }) f.body)) t.functions k f bodies found

  known_there : (w : World) → w.structs ≡ t.structs → w.code ≡ code_of t → (o : Option ObjectType) → There Stands o → KnownThere w o
  known_there w s d None is = tt
  known_there w s d (Some o) is = subst (λ ss. (entry ss o w.code.shapes).shapes ≡ w.code.shapes) (sym s) (subst (λ (x : Code). (entry t.structs o x.shapes).shapes ≡ x.shapes) (sym d) is)

  pub code_good : (k : ℕ) (f : Function) (found : slice_get t.functions k ≡ Some f) → IsGoodCode c k (map (finished shape) (made k f found))
  code_good k f found =
      let a = code.at t well bodies k f found in
      let w = world k f found in
      let ds = made k f found in
      let known = each_get (λ ds. AllThere Stands ds) (drafts_of t) k ds (code.drafts_stand t well bodies) a.drafts in
      function_good w (context_of t f) (around (sizes_of t) t.main a.index) (code.shaped t well bodies k f (map (finished shape) ds) found) f a.numbers (main_of k f found)
      (variable_there f) (scalars_of k f found) (body_of k f found) refl
      (each_by (λ (d : Draft). There Stands d.object) (λ (d : Draft). KnownThere w d.object) ds (λ d is. known_there w refl refl d.object is) known)
      (λ i d s there has.
      (let sites = sites_in (all_of (drafts_of t)) in
      let is = site_of_draft t well k i ds d s a.drafts there has in
      let less = slice_get_within sites s (record { line = d.line; object = is.object }) is.there in
      omega (arith, length-map sites (site_of shape))))

  -- The types of all drafts are declared.
  declared_there : (P : ObjectType → Type 0) → ((o : ObjectType) → IsObject t.structs o → Parted (declared_types t) o → P o) → (o : Option ObjectType) (w : World) → w.structs ≡ t.structs → w.types ≡ declared_types t
      → IsDeclaredThere w o → There P o
  declared_there P all None w s u is = tt
  declared_there P all (Some o) w s u is = all o (subst (λ ss. IsObject ss o) s is.0) (subst (λ us. Parted us o) u is.1)

  drafts_each : (P : ObjectType → Type 0) → ((o : ObjectType) → IsObject t.structs o → Parted (declared_types t) o → P o) → Each (λ ds. AllThere P ds) (drafts_of t)
  drafts_each P all = each_here (λ ds. AllThere P ds) (drafts_of t) (λ k ds there. by k ds there (drafts_get (sizes_of t) t.main 0 (first_numbers t) t.functions k ds there))
    where
      by : (k : ℕ) (ds : List Draft) → slice_get (drafts_of t) k ≡ Some ds → (f : Function) × (slice_get t.functions k ≡ Some f) → AllThere P ds
      by k ds there (f, found) =
          let a = code.at t well bodies k f found in
          let w = world k f found in
          let mine = made k f found in
          let same : mine ≡ ds = (let e : Some mine ≡ Some ds = sym a.drafts ∙ there in cc) in
          subst (λ ds. AllThere P ds) same
          (each_by (λ (d : Draft). IsDeclaredThere w d.object) (λ (d : Draft). There P d.object) mine (λ d is. declared_there P all d.object w refl refl is)
          (function_objects w (context_of t f) (around (sizes_of t) t.main a.index) (code.shaped t well bodies k f (map (finished shape) mine) found) f a.numbers (main_of k f found) (variable_there f) (scalars_of k f found) (body_of k f found)))

  pub drafts_objects : Each (λ ds. AllThere (IsObject t.structs) ds) (drafts_of t)
  drafts_objects = drafts_each (IsObject t.structs) (λ o is parted. is)

  drafts_parted : Each (λ ds. AllThere (Parted (declared_types t)) ds) (drafts_of t)
  drafts_parted = drafts_each (Parted (declared_types t)) (λ o is parted. parted)

  pub globals_objects : Each (IsObject t.structs) (code.globals t well bodies)
  globals_objects = each_map (IsObject t.structs) (λ (g : Global). g.object) t.globals (each_by (IsGlobal t.structs) (λ g. IsObject t.structs g.object) t.globals (λ g is. is.object) (each_all (IsGlobal t.structs) t.globals well.globals))

  variables_objects : Each (IsObject t.structs) (variables_in t.functions)
  variables_objects =
      variables_each (IsObject t.structs) t.functions
      (each_by (IsFunction t) (λ (f : Function). Each (IsObject t.structs) (objects_of f.variables)) t.functions (λ f is. each_all (IsObject t.structs) (objects_of f.variables) is.objects)
      (each_all (IsFunction t) t.functions well.functions))

  -- what holds of globals, variables and drafts holds of all that is needed
  needed_each : (P : ObjectType → Type 0) → Each P (code.globals t well bodies) → Each P (variables_in t.functions) → Each (λ ds. AllThere P ds) (drafts_of t) → Each P (types_needed t (all_of (drafts_of t)))
  needed_each P of_globals of_variables of_drafts =
      let ds = all_of (drafts_of t) in
      let all = parts_all (λ (d : Draft). There P d.object) (drafts_of t) of_drafts in
      let globals = code.globals t well bodies in
      let sites = objects (sites_in ds) in
      each_append P (globals ++ variables_in t.functions ++ sites) (objects (needs_in ds))
      (each_append P (globals ++ variables_in t.functions) sites (each_append P globals (variables_in t.functions) of_globals of_variables) (sites_each P ds all)) (needs_each P ds all)

  needed_objects : Each (IsObject t.structs) (types_needed t (all_of (drafts_of t)))
  needed_objects = needed_each (IsObject t.structs) globals_objects variables_objects drafts_objects

  needed_parted : Each (Parted (declared_types t)) (types_needed t (all_of (drafts_of t)))
  needed_parted = needed_each (Parted (declared_types t)) (globals_parted t) (variables_parted t) drafts_parted

  -- Each shape but the first two is that of a struct or an array that is declared.
  pub few : length c.shapes < 2147483648
  few =
      let all = few_shapes t.structs (declared_types t) (structs_listed t) well.structs (types_needed t (all_of (drafts_of t))) needed_objects needed_parted in
      let types = few_types t well in
      omega (arith, all, types)

  pub fair : Fair c.shapes
  fair = fair_shapes t.structs well.structs (types_needed t (all_of (drafts_of t))) needed_objects

  -- The shape of a type that stands among them.
  pub below_of : (o : ObjectType) → IsObject t.structs o → Stands o → shape o < length c.shapes
  below_of o is stands = (let e = enters_type t.structs well.structs o is c.shapes fair in subst (λ (xs : List Shape). shape o < length xs) stands e.below)

  pub words_are : (o : ObjectType) → IsObject t.structs o → Stands o → shape_words c (shape o) ≡ words_of (sizes_of t) o
  words_are o is stands = (let e = enters_type t.structs well.structs o is c.shapes fair in subst (λ (xs : List Shape). words_at xs (shape o) ≡ words_of (sizes_of t) o) stands e.words_are)

  pub words_sum : {A : Type 0} (object : A → ObjectType) (xs : List A) → Each (IsObject t.structs) (map object xs) → Each Stands (map object xs)
      → sum_by (shape_words c) (map (λ x. shape (object x)) xs) ≡ well_formed.words_in (sizes_of t) (map object xs)
  words_sum object [] is stands = refl
  words_sum object (x ∷ xs) is stands =
      let rest = words_sum object xs is.1 stands.1 in
      let here = words_are (object x) is.0 stands.0 in
      omega (arith, sum_by-cons (shape_words c) (shape (object x)) (map (λ x. shape (object x)) xs))

  pub shapes_good : GoodShapes c
  shapes_good = record {
    each = λ s x there.
        (let is = fair.each s x there in record { earlier = all_each (λ named. named < s) (shapes_named x) is.earlier; some = is.some; words = is.words });
    first = fair.first;
    second = fair.second;
    count = few;
  }
