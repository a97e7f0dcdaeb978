-- What the walk finds of the text of a function, from its result to its body, is what the definition judges of it.
use Rattle.std.proofs.Common.{◌≡◌, Bool, ◌&&◌, ◌||◌, not, List, [], ◌∷◌, ◌++◌, Option, Ok, Err, is_some, nat_eq, nat_lt, refl, ap, sym, ◌∙◌, subst}
use Rattle.c_ast.specs.declared.decl.ResultType.{ResultType}
use Rattle.c_ast.specs.declared.program.Function.{Function as SourceFunction}
use Rattle.c_typed.specs.declared.fault.BigWhat.{BigWhat}
use Rattle.c_typed.specs.declared.types.ObjectType.{ObjectType}
use Rattle.c_typed.specs.declared.stmt.Stmt.{Stmt}
use Rattle.c_types.specs.declared.outline.Outline.{Outline}
use Rattle.c_types.specs.declared.known.Known.{Known}
use Rattle.c_typed.specs.Marks as marks
use Rattle.c_typed.specs.Marks.{Mark, function, History}
use Rattle.c_typed.specs.Whole as whole
use Rattle.c_typed.specs.Whole.{Whole}
use Rattle.c_typed.specs.Faults.{twice, mismatch, big}
use Rattle.c_typed.specs.Parts.{Place, Part, marked, tokens, mark, behind, with_faults, ◌<⊗◌, ◌⊗>◌}
use Rattle.c_typed.specs.Tags.{base}
use Rattle.c_typed.specs.Programs as programs
use Rattle.c_typed.specs.Programs.{function_limit, has_scalar_result, is_int, no_parameters, result_base, function_faults, parameters, function_body, function_text, function_item}
use Rattle.c_types.specs.tools.Steps.{Found, ◌>>=◌}
use Rattle.c_types.specs.tools.Tables.{looked}
use Rattle.c_types.specs.tools.Outlines as outlines
use Rattle.c_types.specs.tools.Outlines.{spelled, base_walk}
use Rattle.c_types.specs.tools.ProgramSteps.{function_begun}
use Rattle.c_types.specs.tools.StmtWalk.{source_items_walk}
use Rattle.c_types.specs.tools.ProgramWalk as walk
use Rattle.c_types.specs.tools.ProgramWalk.{result_walk, around_body, function_of, function_name_walk, function_body_walk, function_text_walk, function_walk}
use Rattle.c_types.proofs.Bounds.{IsInside, inside, inside_tokens}
use Rattle.c_types.proofs.BoundsExprs.{bounded_base}
use Rattle.c_types.proofs.BoundsDecls.{before, after, inside_mark, inside_with}
use Rattle.c_types.proofs.BoundsPrograms.{inside_result_base, inside_parameters, inside_function_body, function_within}
use Rattle.c_typed.proofs.Quiet.{before_same}
use Rattle.c_typed.proofs.Balanced.{Balanced, around_behind}
use Rattle.c_typed.proofs.BalancedStmts.{join, balanced_parameters, balanced_function_body}
use Rattle.c_types.proofs.Tells.{Tells, answers_tell}
use Rattle.c_types.proofs.Outlined.{IsOutline, Names}
use Rattle.c_types.proofs.ExprAnswers.{base_answers}
use Rattle.c_types.proofs.Standing.{names_of}
use Rattle.c_types.proofs.Walking.{again, then, unvalued, goes_joined, goes_ruled, ok_is}
use Rattle.c_types.proofs.WalkAnswers.{Within, Walks}
use Rattle.c_types.proofs.LeaveAnswers.{IsAround}
use Rattle.c_types.proofs.TokenRules.{Test, first_at, one_token}
use Rattle.c_types.proofs.NoteAnswers.{goes_noted}
use Rattle.c_types.proofs.ParamAnswers.{told_before, kept_in_turn, told_in_turn, units_walk, units_unvalued, parameters_walk}
use Rattle.c_types.proofs.StmtAnswers.{function_body_walks}
use Rattle.c_types.proofs.OuterStands.{Outer}
use Rattle.c_types.proofs.NameTests.{builtin_same, main_same}
use Rattle.c_typed.proofs.WellFunction.{quiet_result}
use Rattle.c_types.proofs.FunctionStands.{function_begins}

-- From what is found of its parts to what is found of a function.
abbrev second : {A B : Type 0} → A → B → B
second a b = b

abbrev begun : Found (Unit {0}) → Found (Unit {0}) → Known → Found ((Unit {0}) × Known)
begun f g k = f >>= (λ _. g >>= (λ _. Ok (tt, k)))

abbrev past_token : {A : Type 0} → Found (A × Known) → Found ((Unit {0}) × Known)
past_token r = then second r (λ s. Ok (tt, s.1))

abbrev with_parameters : Found ((Unit {0}) × Known) → (Known → Found (List (Unit {0}) × Known)) → Found (List (Unit {0}) × Known)
with_parameters r ps = then second r (λ s. ps s.1)

abbrev with_body : Found ((Unit {0}) × Known) → (Known → Found (List Stmt × Known)) → Found (List Stmt × Known)
with_body r body = then second r (λ s. body s.1)

units_found : (r : Found (List (Unit {0}) × Known)) (body : Known → Found (List Stmt × Known))
    → with_body (past_token (r >>= (λ t. Ok (t.0, t.1)))) body ≡ (unvalued r >>= (λ s. body s.1))
units_found (Ok t) body = again (body t.1)
units_found (Err e) body = refl

text_found : (f g : Found (Unit {0})) (k : Known) (ps : Known → Found (List (Unit {0}) × Known)) (body : Known → Found (List Stmt × Known))
    → with_body (past_token (with_parameters (past_token (begun f g k)) ps)) body ≡ (f >>= (λ _. g >>= (λ _. unvalued (ps k) >>= (λ s. body s.1))))
text_found (Ok u) (Ok v) k ps body = units_found (ps k) body
text_found (Ok u) (Err e) k ps body = refl
text_found (Err e) g k ps body = refl

abbrev pub body_of : Outline → SourceFunction → Known → Found (List Stmt × Known)
body_of o f l = source_items_walk o around_body f.body.items l

-- The rules of its name.
abbrev name_tests : Bool → Bool → Bool → List Test
name_tests new fit few = (new, twice) ∷ (fit, mismatch) ∷ (few, big BigWhat.Functions) ∷ []

abbrev told_so : SourceFunction → Bool → Bool → Bool → Found (Unit {0})
told_so f new fit few = kept_in_turn f.name.line (name_tests new fit few)

-- The parts of a function, one behind the other, and the marks of all.
module _ (w : Whole) where
  abbrev named : SourceFunction → Option ObjectType → Part (Unit {0})
  named f t = with_faults (function_faults w f f.name t) (tokens 1 <⊗ mark (function f.name.name t))

  abbrev headed : SourceFunction → Option ObjectType → Part (Unit {0})
  headed f t = result_base w f.result ⊗> named f t

  abbrev with_units : SourceFunction → Option ObjectType → Part (List (Unit {0}))
  with_units f t = headed f t ⊗> tokens 1 ⊗> parameters w f.params

  abbrev pub whole_text : SourceFunction → Option ObjectType → Part (List Stmt)
  whole_text f t = with_units f t ⊗> tokens 1 ⊗> function_body w f.body

  named_inside : (f : SourceFunction) (t : Option ObjectType) → IsInside (named f t)
  named_inside f t = inside_with (function_faults w f f.name t) _ (function_within w f t) (before (inside_tokens 1) (inside_mark _))

  headed_inside : (f : SourceFunction) (t : Option ObjectType) → IsInside (headed f t)
  headed_inside f t = after (inside_result_base w f.result) (named_inside f t)

  units_inside : (f : SourceFunction) (t : Option ObjectType) → IsInside (with_units f t)
  units_inside f t = after (after (headed_inside f t) (inside_tokens 1)) (inside_parameters w f.params)

  -- a token behind a part
  token_walks : {A : Type 0} (p : Part A) (here : Place) (r : Found (A × Known)) → IsInside p → Walks w p here r → Walks w (p ⊗> tokens 1) here (past_token r)
  token_walks p here r inside_p is =
      goes_joined (Within w) second p (tokens 1) here r (λ s. Ok (tt, s.1)) inside_p (inside_tokens 1) is
      (λ s e. record { tells = (refl, refl); stands = λ t same. subst (Within w (behind p here).before) (ap (λ s. s.1) (ok_is same)) (is.stands s e) })

  -- the marks up to the body
  abbrev inner_marks : SourceFunction → List Mark
  inner_marks f = (parameters w f.params).marks ++ []

  head_marks : (f : SourceFunction) (t : Option ObjectType) → (with_units f t ⊗> tokens 1).marks ≡ function f.name.name t ∷ inner_marks f
  head_marks f t = ap (λ ms. (((ms ++ ([] ++ (function f.name.name t ∷ []))) ++ []) ++ (parameters w f.params).marks) ++ []) (quiet_result w f.result)

  inner_balanced : (f : SourceFunction) → Balanced (inner_marks f)
  inner_balanced f = join (balanced_parameters w f.params) Balanced.none

  body_round : (f : SourceFunction) (t : Option ObjectType) (h : History) → IsAround (marked (with_units f t ⊗> tokens 1).marks h) around_body
  body_round f t h =
      subst (λ ms. IsAround (marked ms h) around_body) (sym (head_marks f t))
      (record {
        loops = sym (ap marks.in_loop (around_behind 0 (function f.name.name t ∷ h) (inner_balanced f)));
        branches = sym (ap marks.in_branch (around_behind 0 (function f.name.name t ∷ h) (inner_balanced f)));
      })

  abbrev pub all_inner : SourceFunction → List Mark
  all_inner f = inner_marks f ++ (function_body w f.body).marks

  pub text_marks : (f : SourceFunction) (t : Option ObjectType) → (whole_text f t).marks ≡ function f.name.name t ∷ all_inner f
  text_marks f t = ap (λ ms. ms ++ (function_body w f.body).marks) (head_marks f t)

  pub all_balanced : (f : SourceFunction) → Balanced (all_inner f)
  all_balanced f = join (inner_balanced f) (balanced_function_body w f.body)

module _ (w : Whole) (o : Outline) (is_outline : IsOutline w o) where
  -- What stands before the name.
  pub result_told : (r : ResultType) (here : Place) (k : Known) → Names here.before k → Tells ((result_base w r).judge here) (result_walk o k r)
  result_told (ResultType.Void line) here k names = (refl, refl)
  result_told (ResultType.Type b stars) here k names =
      let v = nat_eq stars 0 in
      told_before stars (base w v b) here (base_walk o k v b) (inside _ (bounded_base w v b))
      (answers_tell ((base w v b).judge here) (base_walk o k v b) (base_answers w o here.before k is_outline names v b here refl))

  -- The name.
  abbrev is_new : SourceFunction → History → Bool
  is_new f h = not (marks.has_global f.name.name h || marks.has_function f.name.name h || programs.is_builtin w f.name.name)

  abbrev is_fit : SourceFunction → Option ObjectType → Bool
  is_fit f t = has_scalar_result t && (not (whole.is_main w f.name.name) || (is_int f.result && no_parameters f.params))

  abbrev are_few : History → Bool
  are_few h = nat_lt (marks.functions_in h) function_limit

  abbrev tests_of : SourceFunction → Option ObjectType → History → List Test
  tests_of f t h = name_tests (is_new f h) (is_fit f t) (are_few h)

  new_same : (f : SourceFunction) (h : History) (k : Known) → Outer w h k → not (walk.is_defined o k f.name.name) ≡ is_new f h
  new_same f h k was =
      let x = f.name.name in
      ap (λ b. not (b || is_some (looked k.declared.function_names x) || outlines.is_builtin (spelled o x))) (was.global_names x)
      ∙ ap (λ b. not (marks.has_global x h || b || outlines.is_builtin (spelled o x))) (was.function_names x)
      ∙ ap (λ b. not (marks.has_global x h || marks.has_function x h || b)) (builtin_same w o is_outline x)

  name_found : (f : SourceFunction) (t : Option ObjectType) (h : History) (k : Known) → Outer w h k → function_name_walk o k f t ≡ kept_in_turn f.name.line (tests_of f t h)
  name_found f t h k was =
      ap (λ a. told_so f a (walk.function_fits o f t) (nat_lt k.declared.functions 256)) (new_same f h k was)
      ∙ ap (λ b. told_so f (is_new f h) (has_scalar_result t && (not b || walk.is_plain f)) (nat_lt k.declared.functions 256)) (main_same w o is_outline f.name.name)
      ∙ ap (λ n. told_so f (is_new f h) (is_fit f t) (nat_lt n 256)) was.functions

  named_walks : (f : SourceFunction) (t : Option ObjectType) (here : Place) (k : Known) → Outer w here.before k
      → Walks w (named w f t) here (function_name_walk o k f t >>= (λ _. Ok (tt, function_begun f.name.name t k)))
  named_walks f t here k was =
      let h = here.before in
      let x = f.name in
      subst (λ r. Walks w (named w f t) here (r >>= (λ _. Ok (tt, function_begun x.name t k)))) (sym (name_found f t h k was))
      (goes_noted (Within w) (function_faults w f x t) 1 (function x.name t) here (first_at here.at x.line (tests_of f t h)) (kept_in_turn x.line (tests_of f t h)) (function_begun x.name t k)
      (one_token here.at x.line (is_new f h, twice) ((is_fit f t, mismatch) ∷ (are_few h, big BigWhat.Functions) ∷ []) (refl, (refl, tt)))
      (told_in_turn here.at x.line (tests_of f t h)) (function_begins w x.name t h k was))

  headed_walks : (f : SourceFunction) (t : Option ObjectType) (here : Place) (k : Known) → Outer w here.before k
      → Walks w (headed w f t) here (begun (result_walk o k f.result) (function_name_walk o k f t) (function_begun f.name.name t k))
  headed_walks f t here k was =
      let b = result_base w f.result in
      goes_ruled (Within w) b (named w f t) here (result_walk o k f.result) _ (inside_result_base w f.result) (named_inside w f t) (result_told f.result here k (names_of was.stands))
      (named_walks f t (behind b here) k (subst (λ h. Outer w h k) (sym (before_same b here (quiet_result w f.result))) was))

  abbrev units_found_of : SourceFunction → Option ObjectType → Known → Found (List (Unit {0}) × Known)
  units_found_of f t k =
      with_parameters (past_token (begun (result_walk o k f.result) (function_name_walk o k f t) (function_begun f.name.name t k))) (units_walk o f.params)

  units_walks : (f : SourceFunction) (t : Option ObjectType) (here : Place) (k : Known) → Outer w here.before k → Walks w (with_units w f t) here (units_found_of f t k)
  units_walks f t here k was =
      let p = headed w f t ⊗> tokens 1 in
      let begins = token_walks w (headed w f t) here _ (headed_inside w f t) (headed_walks f t here k was) in
      goes_joined (Within w) second p (parameters w f.params) here _ (λ s. units_walk o f.params s.1) (after (headed_inside w f t) (inside_tokens 1)) (inside_parameters w f.params) begins
      (λ s e. parameters_walk w o is_outline f.params (behind p here) s.1 (begins.stands s e))

  text_as : (f : SourceFunction) (t : Option ObjectType) (k : Known) → with_body (past_token (units_found_of f t k)) (body_of o f) ≡ function_text_walk o f t k
  text_as f t k =
      let l = function_begun f.name.name t k in
      text_found (result_walk o k f.result) (function_name_walk o k f t) l (units_walk o f.params) (body_of o f)
      ∙ ap (λ r. result_walk o k f.result >>= (λ _. function_name_walk o k f t >>= (λ _. r >>= (λ s. body_of o f s.1)))) (sym (units_unvalued o f.params l))

  pub text_walks : (f : SourceFunction) (t : Option ObjectType) (here : Place) (k : Known) → Outer w here.before k → Walks w (whole_text w f t) here (function_text_walk o f t k)
  text_walks f t here k was =
      let p = with_units w f t ⊗> tokens 1 in
      let begins = token_walks w (with_units w f t) here _ (units_inside w f t) (units_walks f t here k was) in
      subst (Walks w (whole_text w f t) here) (text_as f t k)
      (goes_joined (Within w) second p (function_body w f.body) here _ (λ s. body_of o f s.1) (after (units_inside w f t) (inside_tokens 1)) (inside_function_body w f.body) begins
      (λ s e. function_body_walks w o is_outline f.body (behind p here) s.1 around_body (begins.stands s e) (body_round w f t here.before)))
