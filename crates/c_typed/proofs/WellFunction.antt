-- A function that breaks no rule is well-formed, where the tables of its program are.
use Rattle.std.proofs.Common.{◌≡◌, ℕ, suc, ◌<◌, ◌≤◌, Bool, true, false, ◌&&◌, ◌||◌, not, List, [], ◌∷◌, ◌++◌, map, take, length, get_or, Option, Some, refl, ap, sym, ◌∙◌, subst, arith}
use Rattle.std.specs.Prelude.{slice_get, nat_eq, nat_lt, All}
use Rattle.std.proofs.lemmas.List.{append-nil}
use Rattle.c_ast.specs.declared.decl.Param.{Param}
use Rattle.c_ast.specs.declared.decl.Params.{Params}
use Rattle.c_ast.specs.declared.decl.ResultType.{ResultType}
use Rattle.c_ast.specs.declared.program.Function.{Function as SourceFunction}
use Rattle.c_typed.specs.declared.fault.BigWhat.{BigWhat}
use Rattle.c_typed.specs.declared.types.ObjectType.{ObjectType}
use Rattle.c_typed.specs.declared.stmt.Stmt.{Stmt}
use Rattle.c_typed.specs.declared.program.Struct.{Struct}
use Rattle.c_typed.specs.declared.program.Function.{Function}
use Rattle.c_typed.specs.Types.{result_type, base_type}
use Rattle.c_typed.specs.Marks as marks
use Rattle.c_typed.specs.Marks.{Mark, closes, function, History, frame_words}
use Rattle.c_typed.specs.Whole.{Whole, Signature, parameter_type, parameter_types, is_main}
use Rattle.c_typed.specs.Faults as faults
use Rattle.c_typed.specs.Faults.{unless}
use Rattle.c_typed.specs.Parts.{Place, Part, marked, tokens, mark, behind, with_faults, ◌<⊗◌, ◌⊗>◌}
use Rattle.c_typed.specs.tools.Scopes.{scopes_of}
use Rattle.c_typed.specs.Tags.{base}
use Rattle.c_typed.specs.Decls as decls
use Rattle.c_typed.specs.Decls.{is_scalar, type_limit, frame_limit, parameter, parameter_base}
use Rattle.c_typed.specs.Programs as programs
use Rattle.c_typed.specs.Programs.{variables_in, main_number, result_base, function_body, function_text, has_scalar_result}
use Rattle.c_typed.specs.Typed.{Typed}
use Rattle.c_typed.specs.IsWell.{IsBase, IsObject, sizes_in, Context, words_in, objects_of, callee_of, context_of, IsResult, IsFunction, placed, AreStmts}
use Rattle.c_typed.proofs.Quiet.{quiet_base, no_marks}
use Rattle.c_typed.proofs.Balanced.{Balanced}
use Rattle.c_typed.proofs.BalancedStmts.{balanced_parameters, balanced_function_body, join}
use Rattle.c_typed.proofs.WellParts.{Stands, Kept, AllScopes, kept_first, kept_second, stands_behind, none_first, none_second, both_are}
use Rattle.c_typed.proofs.WellTypes.{IsLinked}
use Rattle.c_typed.proofs.WellStmts.{round, round_behind, unless_none}
use Rattle.c_typed.proofs.WellLevels.{body_sound}
use Rattle.c_typed.proofs.WellMarks.{IsShaped, Tagged, Declared, declared_append, tagged_behind, declares_parameters, function_body_declares, base_known, scalar_words}
use Rattle.c_typed.proofs.WellFunctions

-- The tables of a program.
pub record IsTabled (w : Whole) (t : Typed) : Type 0 where
  pub shaped : IsShaped w t.structs
  pub fields : (k : ℕ) → k < length t.structs → (d : Struct) × (slice_get t.structs k ≡ Some d) × (d.fields ≡ map (λ m. m.object) (get_or w.structs k []))
  pub members : (k n : ℕ) (d : Struct) (o : ObjectType) → slice_get t.structs k ≡ Some d → slice_get d.fields n ≡ Some o → IsObject t.structs o
  pub words : (k : ℕ) → get_or (sizes_in t.structs) k 0 ≤ type_limit
  pub functions : (k : ℕ) (s : Signature) → slice_get w.functions k ≡ Some s → slice_get (map callee_of t.functions) k ≡ Some (record { result = s.result; parameters = s.parameters })
  pub results : (k : ℕ) (s : Signature) (o : ObjectType) → slice_get w.functions k ≡ Some s → s.result ≡ Some o → IsBase t.structs o.base × (is_scalar o ≡ true)
  pub main : t.main ≡ main_number w
  pub globals : (k : ℕ) (o : ObjectType) → slice_get (map (λ g. g.object) t.globals) k ≡ Some o → IsObject t.structs o

-- what stands before an item of a program
pub record IsOuter (w : Whole) (t : Typed) (h : History) : Type 0 where
  pub scopes : (c : Context) → c.globals ≡ map (λ g. g.object) t.globals → AllScopes c (scopes_of h)
  pub tags : Tagged w h

both_first : (a b : Bool) → a && b ≡ true → a ≡ true
both_first true b e = refl
both_first false b e = e

take_front : {A : Type 0} (xs ys : List A) → take (length xs) (xs ++ ys) ≡ xs
take_front [] ys = refl
take_front (x ∷ xs) ys = ap (λ xs. x ∷ xs) (take_front xs ys)

length_front : {A : Type 0} (xs ys : List A) → length xs ≤ length (xs ++ ys)
length_front [] ys = omega arith
length_front (x ∷ xs) ys = let rest = length_front xs ys in omega (arith, rest)

length_map : {A B : Type 0} (f : A → B) (xs : List A) → length (map f xs) ≡ length xs
length_map f [] = refl
length_map f (x ∷ xs) = ap suc (length_map f xs)

pub quiet_result : (w : Whole) (r : ResultType) → (result_base w r).marks ≡ []
quiet_result w (ResultType.Void line) = refl
quiet_result w (ResultType.Type b stars) = no_marks (quiet_base w (nat_eq stars 0) b) refl

-- Parameters are scalars.
parameter_scalar : (w : Whole) (p : Param) (here : Place) → ((parameter w p).judge here).faults ≡ [] → is_scalar (parameter_type w.tags p) ≡ true
parameter_scalar w p here e =
    let t = parameter_type w.tags p in
    let q = parameter_base w p.base p.stars p.brackets in
    let there = behind q here in
    let ps = decls.parameter_faults p.name t there in
    let ks = decls.frame_faults w p.name t there.before there.at in
    let twice_faults = unless (not (marks.is_declared p.name.name 0 there.before)) there.at faults.twice p.name.line in
    let scalar_faults = unless (is_scalar t) there.at faults.mismatch p.name.line in
    let all = none_first ((q.judge here).faults ++ (ps ++ ks ++ [])) [] e in
    let own = none_first (ps ++ ks) [] (none_second (q.judge here).faults (ps ++ ks ++ []) all) in
    unless_none (is_scalar t) there.at faults.mismatch p.name.line (none_second twice_faults scalar_faults (none_first ps ks own))

abbrev IsScalar : ObjectType → Type 0
IsScalar t = is_scalar t ≡ true

scalars_in : (w : Whole) (ps : List Param) (here : Place) → ((programs.parameters w (Params.List ps)).judge here).faults ≡ [] → WellFunctions.AllOf IsScalar (map (parameter_type w.tags) ps)
scalars_in w [] here e = tt
scalars_in w (p ∷ []) here e = (parameter_scalar w p here (none_first ((parameter w p).judge here).faults [] e), tt)
scalars_in w (p ∷ q ∷ ps) here e =
    let rest = programs.parameters w (Params.List (q ∷ ps)) in
    let there = behind (parameter w p <⊗ tokens 1) here in
    let own = none_first (((parameter w p).judge here).faults ++ []) ((rest.judge there).faults) e in
    (parameter_scalar w p here (none_first ((parameter w p).judge here).faults [] own), scalars_in w (q ∷ ps) there (none_second (((parameter w p).judge here).faults ++ []) ((rest.judge there).faults) e))

scalar_parameters : (w : Whole) (ps : Params) (here : Place) → ((programs.parameters w ps).judge here).faults ≡ [] → WellFunctions.AllOf IsScalar (parameter_types w.tags ps)
scalar_parameters w Params.Empty here e = tt
scalar_parameters w (Params.Void line) here e = tt
scalar_parameters w (Params.List ps) here e = scalars_in w ps here e

-- The result.
result_known : (w : Whole) (structs : List Struct) (shaped : IsShaped w structs) (r : ResultType) (here : Place) → Tagged w here.before → ((result_base w r).judge here).faults ≡ []
    → has_scalar_result (result_type w.tags r) ≡ true → IsResult structs (result_type w.tags r)
result_known w structs shaped (ResultType.Void line) here tagged e scalar = tt
result_known w structs shaped (ResultType.Type b stars) here tagged e scalar =
    let bs = base w (nat_eq stars 0) b in
    (scalar_words w structs shaped (base_type w.tags b) stars (base_known w structs shaped (nat_eq stars 0) b here tagged (none_first (bs.judge here).faults [] e)) scalar, scalar)

module _ (w : Whole) (t : Typed) (tabled : IsTabled w t) (f : SourceFunction) where
  abbrev pub typed_function : List Stmt → Function
  typed_function ss = record {
    line = f.name.line;
    result = result_type w.tags f.result;
    parameters = length (parameter_types w.tags f.params);
    variables = variables_in (function_text w f (result_type w.tags f.result)).marks;
    body = ss;
    close = f.body.close;
  }

  abbrev pub result : Option ObjectType
  result = result_type w.tags f.result

  abbrev pub head : Part (Unit {0})
  head = result_base w f.result ⊗> with_faults (programs.function_faults w f f.name result) (tokens 1 <⊗ mark (function f.name.name result)) ⊗> tokens 1

  abbrev pub params : Part (List (Unit {0}))
  params = programs.parameters w f.params

  abbrev pub upto : Part (Unit {0})
  upto = head ⊗> params ⊗> tokens 1

  abbrev pub bodied : Part (List Stmt)
  bodied = function_body w f.body

  abbrev pub within : List Mark
  within = params.marks ++ [] ++ bodied.marks ++ (closes ∷ [])

  abbrev started : History → History
  started h = function f.name.name result ∷ h

  head_marks : head.marks ≡ function f.name.name result ∷ []
  head_marks = ap (λ ms. ms ++ (function f.name.name result ∷ []) ++ []) (quiet_result w f.result)

  upto_marks : upto.marks ≡ function f.name.name result ∷ (params.marks ++ [])
  upto_marks = ap (λ ms. ms ++ params.marks ++ []) head_marks

  pub text_marks : (function_text w f result).marks ≡ function f.name.name result ∷ within
  text_marks = ap (λ ms. ms ++ params.marks ++ [] ++ bodied.marks ++ (closes ∷ [])) head_marks

  inner : WellFunctions.Inner within
  inner = WellFunctions.balanced_inner_closed params.marks bodied.marks (balanced_parameters w f.params) (balanced_function_body w f.body)

  pub objects_are : objects_of (variables_in (function_text w f result).marks) ≡ parameter_types w.tags f.params ++ WellFunctions.locals_of bodied.marks
  objects_are =
      ap WellFunctions.locals_of text_marks ∙ WellFunctions.locals_append (params.marks ++ [] ++ bodied.marks) (closes ∷ [])
      ∙ append-nil (WellFunctions.locals_of (params.marks ++ [] ++ bodied.marks))
      ∙ WellFunctions.locals_append (params.marks ++ []) bodied.marks
      ∙ ap (λ ts. ts ++ WellFunctions.locals_of bodied.marks) (WellFunctions.locals_append params.marks [] ∙ append-nil (WellFunctions.locals_of params.marks) ∙ WellFunctions.parameters_local w f.params)

  -- the parts of a function's judgement
  record Judgements (here : Place) (ss : List Stmt) : Type 0 where
    base_none : ((result_base w f.result).judge here).faults ≡ []
    own_none : programs.function_faults w f f.name result (behind (result_base w f.result) here) ≡ []
    params_none : (params.judge (behind head here)).faults ≡ []
    body_none : (bodied.judge (behind upto here)).faults ≡ []
    body_value : (bodied.judge (behind upto here)).value ≡ Some ss

  judgements : (here : Place) (ss : List Stmt) → ((function_text w f result).judge here).faults ≡ [] → ((function_text w f result).judge here).value ≡ Some ss → Judgements here ss
  judgements here ss e has =
      let rb = result_base w f.result in
      let own = programs.function_faults w f f.name result (behind rb here) in
      let five = upto ⊗> bodied in
      let all = none_first (five.judge here).faults [] e in
      let four = none_first (upto.judge here).faults (bodied.judge (behind upto here)).faults all in
      let three = none_first ((head ⊗> params).judge here).faults [] four in
      let two = none_first (head.judge here).faults (params.judge (behind head here)).faults three in
      let one = none_first ((rb.judge here).faults ++ (own ++ [])) [] two in
      let v = both_are (λ a b. a) (five.judge here).value (Some (tt {0})) ss has in
      let u = both_are (λ a b. b) (upto.judge here).value (bodied.judge (behind upto here)).value v.first v.left in
      record {
        base_none = none_first (rb.judge here).faults (own ++ []) one;
        own_none = none_first own [] (none_second (rb.judge here).faults (own ++ []) one);
        params_none = none_second (head.judge here).faults (params.judge (behind head here)).faults three;
        body_none = none_second (upto.judge here).faults (bodied.judge (behind upto here)).faults all;
        body_value = u.right ∙ ap (λ s. Some s) (u.whole ∙ v.whole);
      }

  abbrev context : List Stmt → Context
  context ss = context_of t (typed_function ss)

  module _ (here : Place) (ss : List Stmt) (outer : IsOuter w t here.before) (j : Judgements here ss) where
    head_before : (behind head here).before ≡ started here.before
    head_before = ap (λ ms. marked ms here.before) head_marks

    upto_before : (behind upto here).before ≡ marked (params.marks ++ []) (started here.before)
    upto_before = ap (λ ms. marked ms here.before) upto_marks

    tagged_head : Tagged w (behind head here).before
    tagged_head = subst (Tagged w) (sym head_before) outer.tags

    tagged_upto : Tagged w (behind upto here).before
    tagged_upto = subst (Tagged w) (sym upto_before) (tagged_behind w t.structs tabled.shaped (started here.before) (join (balanced_parameters w f.params) Balanced.none) outer.tags)

    declared : Declared w t.structs tabled.shaped (started here.before) within
    declared =
        let h = started here.before in
        let s = tabled.shaped in
        let ps = subst (λ h. Declared w t.structs s h params.marks) head_before ((declares_parameters w t.structs s f.params).holds (behind head here) tagged_head j.params_none) in
        let bs = subst (λ h. Declared w t.structs s h bodied.marks) upto_before ((function_body_declares w t.structs s f.body).holds (behind upto here) tagged_upto j.body_none) in
        declared_append w t.structs s h (params.marks ++ [] ++ bodied.marks) (closes ∷ []) (declared_append w t.structs s h (params.marks ++ []) bodied.marks (declared_append w t.structs s h params.marks [] ps tt) bs) tt

    objects_at : (k : ℕ) (o : ObjectType) → slice_get (objects_of (typed_function ss).variables) k ≡ Some o → IsObject t.structs o
    objects_at k o e =
        WellFunctions.all_at (IsObject t.structs) (WellFunctions.locals_of within) (WellFunctions.objects_known w t.structs tabled.shaped (started here.before) within inner declared) k o
        (ap (λ ms. slice_get (WellFunctions.locals_of ms) k) (sym text_marks) ∙ e)

    linked : IsLinked w (context ss)
    linked = record {
      tags = tabled.shaped.count;
      fields = tabled.fields;
      members = tabled.members;
      words = tabled.words;
      functions = tabled.functions;
      results = tabled.results;
      main = tabled.main;
      globals = tabled.globals;
      variables = objects_at;
    }

    kept : Kept (context ss) (started here.before) within
    kept = WellFunctions.kept_inner (context ss) (started here.before) within [] inner (ap WellFunctions.locals_of text_marks) refl

    stands : Stands w (context ss) (started here.before)
    stands = record { scopes = (tt, outer.scopes (context ss) refl); result = refl; tags = outer.tags }

    body_known : AreStmts (context ss) (placed (record { looped = false; branched = false }) ss)
    body_known =
        let c = context ss in
        let h = started here.before in
        let front = kept_first c h (params.marks ++ [] ++ bodied.marks) (closes ∷ []) kept in
        let before_body = stands_behind w c h (params.marks ++ []) stands (kept_first c h (params.marks ++ []) bodied.marks front) in
        let known = (body_sound w c linked f.body).holds (behind upto here) (subst (Stands w c) (sym upto_before) before_body)
        (subst (λ h. Kept c h bodied.marks) (sym upto_before) (kept_second c h (params.marks ++ []) bodied.marks front)) j.body_none ss j.body_value in
        subst (λ r. AreStmts c (placed r ss)) (ap round upto_before ∙ round_behind h (join (balanced_parameters w f.params) Balanced.none)) known

    frame : suc (words_in (sizes_in t.structs) (objects_of (typed_function ss).variables)) ≤ frame_limit
    frame =
        let h = started here.before in
        let le = WellFunctions.frame_kept w t.structs tabled.shaped h within inner declared (omega arith) in
        let total = WellFunctions.frame_sum w.sizes h within inner in
        let within_limit : suc (words_in w.sizes (WellFunctions.locals_of within)) ≤ frame_limit = omega (arith, le, total) in
        subst (λ ms. suc (words_in (sizes_in t.structs) (WellFunctions.locals_of ms)) ≤ frame_limit) (sym text_marks)
        (subst (λ sizes. suc (words_in sizes (WellFunctions.locals_of within)) ≤ frame_limit) (sym tabled.shaped.sizes) within_limit)

    parameter_objects : take (typed_function ss).parameters (objects_of (typed_function ss).variables) ≡ parameter_types w.tags f.params
    parameter_objects = ap (take (length (parameter_types w.tags f.params))) objects_are ∙ take_front (parameter_types w.tags f.params) (WellFunctions.locals_of bodied.marks)

    result_scalar : has_scalar_result result ≡ true
    result_scalar =
        let there = behind (result_base w f.result) here in
        let x = f.name in
        let one = unless (not (marks.has_global x.name there.before || marks.has_function x.name there.before || programs.is_builtin w x.name)) there.at faults.twice x.line in
        let test = has_scalar_result result && (not (is_main w x.name) || (programs.is_int f.result && programs.no_parameters f.params)) in
        let two = unless test there.at faults.mismatch x.line in
        let three = unless (nat_lt (marks.functions_in there.before) programs.function_limit) there.at (faults.big BigWhat.Functions) x.line in
        both_first (has_scalar_result result) _ (unless_none test there.at faults.mismatch x.line (none_second one two (none_first (one ++ two) three j.own_none)))

    function_known : IsFunction t (typed_function ss)
    function_known = record {
      result = result_known w t.structs tabled.shaped f.result here outer.tags j.base_none result_scalar;
      parameters = subst (λ n. length (parameter_types w.tags f.params) ≤ n) (sym (ap length objects_are) ∙ length_map (λ v. v.object) (typed_function ss).variables) (length_front (parameter_types w.tags f.params) (WellFunctions.locals_of bodied.marks));
      scalars = subst (All IsScalar) (sym parameter_objects)
          (WellFunctions.all_from IsScalar (parameter_types w.tags f.params) (WellFunctions.all_at IsScalar (parameter_types w.tags f.params) (scalar_parameters w f.params (behind head here) j.params_none)));
      objects = WellFunctions.all_from (IsObject t.structs) (objects_of (typed_function ss).variables) objects_at;
      frame = frame;
      body = body_known;
    }

  -- A function at its place.
  pub function_well : (here : Place) (ss : List Stmt) → IsOuter w t here.before → ((function_text w f result).judge here).faults ≡ [] → ((function_text w f result).judge here).value ≡ Some ss
      → IsFunction t (typed_function ss)
  function_well here ss outer e has = function_known here ss outer (judgements here ss e has)
