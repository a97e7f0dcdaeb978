-- What the walk finds of a function is what the definition judges of it.
use Rattle.std.proofs.Common.{◌≡◌, ℕ, List, [], ◌∷◌, ◌++◌, length, Option, Ok, Err, refl, ap, sym, ◌∙◌, subst}
use Rattle.std.proofs.lemmas.List.{length-map}
use Rattle.c_ast.specs.declared.decl.Params.{Params}
use Rattle.c_ast.specs.declared.program.Function.{Function as SourceFunction}
use Rattle.c_typed.specs.declared.types.ObjectType.{ObjectType}
use Rattle.c_typed.specs.declared.stmt.Stmt.{Stmt}
use Rattle.c_typed.specs.declared.program.Variable.{Variable}
use Rattle.c_typed.specs.declared.program.Function.{Function}
use Rattle.c_types.specs.declared.outline.Outline.{Outline}
use Rattle.c_types.specs.declared.known.Known.{Known}
use Rattle.c_typed.specs.Types as types
use Rattle.c_typed.specs.Marks.{function, closes, History}
use Rattle.c_typed.specs.Whole.{Whole, parameter_type, parameter_types}
use Rattle.c_typed.specs.Parts.{Place, marked}
use Rattle.c_typed.specs.Programs.{variables_in, function_text, function_item}
use Rattle.c_types.specs.tools.Steps.{Found, ◌>>=◌}
use Rattle.c_types.specs.tools.Outlines as outlines
use Rattle.c_types.specs.tools.KnownSteps.{exited}
use Rattle.c_types.specs.tools.ProgramSteps.{function_begun}
use Rattle.c_types.specs.tools.DeclWalk.{params_walk}
use Rattle.c_types.specs.tools.ProgramWalk.{result_walk, around_body, parameter_count, function_of, function_name_walk, function_body_walk, function_text_walk, function_walk}
use Rattle.c_typed.proofs.Balanced.{marked_append}
use Rattle.c_types.proofs.Tells.{Tells, tells_map, tells_before_mark}
use Rattle.c_types.proofs.Outlined.{IsOutline, tagged}
use Rattle.c_types.proofs.Standing.{variables_of}
use Rattle.c_typed.proofs.WellFunctions.{balanced_inner}
use Rattle.c_types.proofs.Walking.{ok_is, err_ok}
use Rattle.c_types.proofs.WalkAnswers.{Within, Walks}
use Rattle.c_types.proofs.KeptWalk.{Keeps, keeps_then, keeps_found, keeps_parameters, keeps_source_items}
use Rattle.c_types.proofs.OuterStands.{Outer, Passes}
use Rattle.c_types.proofs.OutlineIs.{result_same}
use Rattle.c_types.proofs.FunctionText.{whole_text, body_of, text_walks, all_inner, text_marks, all_balanced}
use Rattle.c_types.proofs.FunctionStands.{function_ends, variables_behind, variables_closed}

parameters_same : (tags : List ℕ) (p : Params) → parameter_count p ≡ length (parameter_types tags p)
parameters_same tags Params.Empty = refl
parameters_same tags (Params.Void line) = refl
parameters_same tags (Params.List ps) = sym (length-map ps (parameter_type tags))

module _ (w : Whole) (o : Outline) (is_outline : IsOutline w o) where
  -- What the program has declared behind it.
  body_keeps : (f : SourceFunction) (t : Option ObjectType) (k : Known) → Keeps (function_begun f.name.name t k) (function_body_walk o f t k)
  body_keeps f t k =
      let l = function_begun f.name.name t k in
      keeps_then l (params_walk o f.params l) (λ s. body_of o f s.1) (keeps_parameters o f.params l) (λ s. keeps_source_items o around_body f.body.items s.1)

  text_keeps : (f : SourceFunction) (t : Option ObjectType) (k : Known) → Keeps (function_begun f.name.name t k) (function_text_walk o f t k)
  text_keeps f t k =
      let l = function_begun f.name.name t k in
      keeps_found l (result_walk o k f.result) _ (λ _. keeps_found l (function_name_walk o k f t) _ (λ _. body_keeps f t k))

  -- Its variables, and what stands behind it.
  variables_same : (f : SourceFunction) (t : Option ObjectType) (h : History) → variables_of (marked (whole_text w f t).marks h) ≡ variables_in (function_text w f t).marks
  variables_same f t h =
      ap (λ ms. variables_of (marked ms h)) (text_marks w f t) ∙ variables_behind (function f.name.name t ∷ h) (all_inner w f) (balanced_inner (all_balanced w f))
      ∙ sym (ap (λ ms. variables_in (ms ++ (closes ∷ []))) (text_marks w f t) ∙ variables_closed (all_inner w f))

  closed_behind : (f : SourceFunction) (t : Option ObjectType) (here : Place) (k l : Known) → Outer w here.before k → Within w (marked (whole_text w f t).marks here.before) l
      → l.declared ≡ (function_begun f.name.name t k).declared → Outer w (marked (function_text w f t).marks here.before) (exited l)
  closed_behind f t here k l was is declared =
      let h = here.before in
      let inner = subst (λ ms. Within w (marked ms h) l) (text_marks w f t) is in
      subst (λ h. Outer w h (exited l)) (sym (marked_append (whole_text w f t).marks (closes ∷ []) h))
      (subst (λ ms. Outer w (closes ∷ marked ms h) (exited l)) (sym (text_marks w f t)) (function_ends w f.name.name t h k l (all_balanced w f) was inner declared))

  -- The function of what is found.
  abbrev made_of : SourceFunction → Option ObjectType → List Stmt → Function
  made_of f t ss = record {
    line = f.name.line;
    result = t;
    parameters = length (parameter_types w.tags f.params);
    variables = variables_in (function_text w f t).marks;
    body = ss;
    close = f.body.close;
  }

  abbrev function_with : SourceFunction → Option ObjectType → ℕ → List Variable → List Stmt → Function
  function_with f t n vs ss = record { line = f.name.line; result = t; parameters = n; variables = vs; body = ss; close = f.body.close }

  function_same : (f : SourceFunction) (here : Place) (s : List Stmt × Known) → Within w (marked (whole_text w f (types.result_type w.tags f.result)).marks here.before) s.1
      → made_of f (types.result_type w.tags f.result) s.0 ≡ function_of o f s.0 s.1
  function_same f here s is =
      let t = types.result_type w.tags f.result in
      sym (ap (λ t. function_with f t (parameter_count f.params) s.1.frame.variables s.0) (result_same w.tags o (tagged w o is_outline) f.result)
      ∙ ap (λ n. function_with f t n s.1.frame.variables s.0) (parameters_same w.tags f.params)
      ∙ ap (λ vs. function_with f t (length (parameter_types w.tags f.params)) vs s.0) (is.framed.variables ∙ variables_same f t here.before))

  abbrev item_of : SourceFunction → List Stmt × Known → Found (List Function × Known)
  item_of f s = Ok (function_of o f s.0 s.1 ∷ [], exited s.1)

  by_text : (f : SourceFunction) (here : Place) (k : Known) (r : Found (List Stmt × Known)) → Outer w here.before k → Keeps (function_begun f.name.name (types.result_type w.tags f.result) k) r
      → Walks w (whole_text w f (types.result_type w.tags f.result)) here r → Passes w (function_item w f) here (r >>= item_of f)
  by_text f here k (Ok s) was keeps is =
      let t = types.result_type w.tags f.result in
      let within = is.stands s refl in
      record {
        tells = subst (λ x. Tells ((function_item w f).judge here) (Ok (x ∷ []))) (function_same f here s within)
            (tells_map (λ ss. made_of f t ss ∷ []) (function_text w f t) here (Ok s.0) (tells_before_mark closes (whole_text w f t) here (Ok s.0) is.tells));
        stands = λ u e. subst (Outer w (marked (function_text w f t).marks here.before)) (ap (λ s. s.1) (ok_is e)) (closed_behind f t here k s.1 was within keeps);
      }
  by_text f here k (Err x) was keeps is =
      let t = types.result_type w.tags f.result in
      record {
        tells = tells_map (λ ss. made_of f t ss ∷ []) (function_text w f t) here (Err x) (tells_before_mark closes (whole_text w f t) here (Err x) is.tells);
        stands = λ u e. absurd (err_ok e);
      }

  abbrev closed_of : SourceFunction → List Stmt × Known → Found (Function × Known)
  closed_of f s = Ok (function_of o f s.0 s.1, exited s.1)

  abbrev listed : Function × Known → Found (List Function × Known)
  listed s = Ok (s.0 ∷ [], s.1)

  item_found : (f : SourceFunction) (r : Found (List Stmt × Known)) → (r >>= item_of f) ≡ (r >>= closed_of f >>= listed)
  item_found f (Ok s) = refl
  item_found f (Err e) = refl

  pub function_passes : (f : SourceFunction) (here : Place) (k : Known) → Outer w here.before k → Passes w (function_item w f) here (function_walk o f k >>= (λ s. Ok (s.0 ∷ [], s.1)))
  function_passes f here k was =
      let t = types.result_type w.tags f.result in
      subst (λ u. Passes w (function_item w f) here (function_text_walk o f u k >>= closed_of f >>= listed)) (sym (result_same w.tags o (tagged w o is_outline) f.result))
      (subst (Passes w (function_item w f) here) (item_found f (function_text_walk o f t k))
      (by_text f here k (function_text_walk o f t k) was (text_keeps f t k) (text_walks w o is_outline f t here k was)))

  declares_by : (f : SourceFunction) (k : Known) (r : Found (List Stmt × Known)) (s : Function × Known) → Keeps k r → (r >>= closed_of f) ≡ Ok s → s.1.declared ≡ k.declared
  declares_by f k (Ok u) s keeps e = sym (ap (λ (s : Function × Known). s.1.declared) (ok_is e)) ∙ keeps
  declares_by f k (Err x) s keeps e = absurd (err_ok e)

  pub function_declares : (f : SourceFunction) (k : Known) (s : Function × Known) → function_walk o f k ≡ Ok s → s.1.declared ≡ (function_begun f.name.name (outlines.result_type o f.result) k).declared
  function_declares f k s e =
      let t = outlines.result_type o f.result in
      declares_by f (function_begun f.name.name t k) (function_text_walk o f t k) s (text_keeps f t k) e
