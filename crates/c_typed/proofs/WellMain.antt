-- `main` of a program that breaks no rule is defined, has no parameters, and its result is `int`.
use Rattle.std.proofs.Common.{◌≡◌, ℕ, zero, suc, ◌<◌, ◌≤◌, Bool, true, false, ◌&&◌, ◌||◌, not, List, [], ◌∷◌, ◌++◌, map, take, length, Some, refl, ap, sym, ◌∙◌, subst, arith}
use Rattle.std.specs.Prelude.{slice_get, nat_lt}
use Rattle.std.proofs.lemmas.Bool.Decides.{nat_tests}
use Rattle.c_ast.specs.declared.decl.Base.{Base}
use Rattle.c_ast.specs.declared.decl.Params.{Params}
use Rattle.c_ast.specs.declared.decl.ResultType.{ResultType}
use Rattle.c_ast.specs.declared.program.Function.{Function as SourceFunction}
use Rattle.c_ast.specs.declared.program.Item.{Item}
use Rattle.c_typed.specs.declared.fault.BigWhat.{BigWhat}
use Rattle.c_typed.specs.declared.program.Struct.{Struct}
use Rattle.c_typed.specs.declared.program.Function.{Function}
use Rattle.c_typed.specs.Types.{result_type}
use Rattle.c_typed.specs.Marks as marks
use Rattle.c_typed.specs.Marks.{functions_in}
use Rattle.c_typed.specs.Whole.{Whole, Signature, signature, signatures, parameter_types, is_main}
use Rattle.c_typed.specs.Faults as faults
use Rattle.c_typed.specs.Faults.{unless}
use Rattle.c_typed.specs.Parts.{Place, behind}
use Rattle.c_typed.specs.Programs as programs
use Rattle.c_typed.specs.Programs.{function_text, item, result_base, main_number, function_limit}
use Rattle.c_typed.specs.Typed.{Typed}
use Rattle.c_typed.specs.IsWell.{Callee, callee_of, objects_of, IsIntResult}
use Rattle.c_typed.proofs.WellParts.{none_first, none_second, none_some, some_is, none_each}
use Rattle.c_typed.proofs.WellStmts.{unless_none}
use Rattle.c_typed.proofs.WellForms.{main_found}
use Rattle.c_typed.proofs.WellMarks.{IsShaped, false_true}
use Rattle.c_typed.proofs.WellFunctions.{AllOf, all_at}
use Rattle.c_typed.proofs.WellTexts.{AllClean}
use Rattle.c_typed.proofs.WellCounts.{own_faults}

plain_when : (scalar main int plain : Bool) → scalar && (not main || (int && plain)) ≡ true → main ≡ true → plain ≡ true
plain_when true true true plain e is = e
plain_when true true false plain e is = absurd (false_true e)
plain_when true false int plain e is = absurd (false_true is)
plain_when false main int plain e is = absurd (false_true e)

int_when : (scalar main int plain : Bool) → scalar && (not main || (int && plain)) ≡ true → main ≡ true → int ≡ true
int_when true true true plain e is = refl
int_when true true false plain e is = absurd (false_true e)
int_when true false int plain e is = absurd (false_true is)
int_when false main int plain e is = absurd (false_true e)

int_result : (tags : List ℕ) (r : ResultType) → programs.is_int r ≡ true → IsIntResult (result_type tags r)
int_result tags (ResultType.Type (Base.Int line) zero) e = refl
int_result tags (ResultType.Type (Base.Int line) (suc n)) e = absurd (grind (arith, nat_tests, e))
int_result tags (ResultType.Type (Base.Struct line tag) n) e = absurd (false_true e)
int_result tags (ResultType.Void line) e = absurd (false_true e)

no_types : (tags : List ℕ) (ps : Params) → programs.no_parameters ps ≡ true → parameter_types tags ps ≡ []
no_types tags Params.Empty e = refl
no_types tags (Params.Void line) e = refl
no_types tags (Params.List ps) e = absurd (false_true e)

abbrev IsPlain : Whole → Signature → Type 0
IsPlain w s = is_main w s.name ≡ true → (s.parameters ≡ []) × IsIntResult s.result

get_there : {A : Type 0} (xs : List A) (k : ℕ) → k < length xs → (x : A) × (slice_get xs k ≡ Some x)
get_there [] k less = absurd (omega (arith, less))
get_there (x ∷ xs) zero less = (x, refl)
get_there (x ∷ xs) (suc k) less = get_there xs k (omega (arith, less))

function_there : (fs : List Function) (k : ℕ) (c : Callee) → slice_get (map callee_of fs) k ≡ Some c → (f : Function) × (slice_get fs k ≡ Some f) × (callee_of f ≡ c)
function_there [] k c e = absurd (none_some e)
function_there (f ∷ fs) zero c e = (f, refl, some_is e)
function_there (f ∷ fs) (suc k) c e = function_there fs k c e

length_map : {A B : Type 0} (f : A → B) (xs : List A) → length (map f xs) ≡ length xs
length_map f [] = refl
length_map f (x ∷ xs) = ap suc (length_map f xs)

none_taken : {A : Type 0} (n : ℕ) (xs : List A) → n ≤ length xs → take n xs ≡ [] → n ≡ 0
none_taken zero xs le e = refl
none_taken (suc n) [] le e = absurd (omega (arith, le))
none_taken (suc n) (x ∷ xs) le e = absurd (none_each e)

module _ (w : Whole) (structs : List Struct) (shaped : IsShaped w structs) where
  function_plain : (f : SourceFunction) (here : Place) → ((function_text w f (result_type w.tags f.result)).judge here).faults ≡ [] → IsPlain w (signature w.tags f)
  function_plain f here e main =
      let there = behind (result_base w f.result) here in
      let x = f.name in
      let result = result_type w.tags f.result in
      let test = programs.has_scalar_result result && (not (is_main w x.name) || (programs.is_int f.result && programs.no_parameters f.params)) in
      let one = unless (not (marks.has_global x.name there.before || marks.has_function x.name there.before || programs.is_builtin w x.name)) there.at faults.twice x.line in
      let two = unless test there.at faults.mismatch x.line in
      let three = unless (nat_lt (functions_in there.before) function_limit) there.at (faults.big BigWhat.Functions) x.line in
      let kept = unless_none test there.at faults.mismatch x.line (none_second one two (none_first (one ++ two) three (own_faults w structs shaped f here e))) in
      let scalar = programs.has_scalar_result result in (
        no_types w.tags f.params (plain_when scalar (is_main w x.name) (programs.is_int f.result) (programs.no_parameters f.params) kept main),
        int_result w.tags f.result (int_when scalar (is_main w x.name) (programs.is_int f.result) (programs.no_parameters f.params) kept main),
      )

  pub mains_plain : (is : List Item) (here : Place) → AllClean w is here → AllOf (IsPlain w) (signatures w.tags is)
  mains_plain [] here clean = tt
  mains_plain (Item.Struct d ∷ is) here clean = mains_plain is (behind (item w (Item.Struct d)) here) clean.1
  mains_plain (Item.Decl d ∷ is) here clean = mains_plain is (behind (item w (Item.Decl d)) here) clean.1
  mains_plain (Item.Function f ∷ is) here clean = (function_plain f here clean.0, mains_plain is (behind (item w (Item.Function f)) here) clean.1)
  mains_plain (Item.Proto p ∷ is) here clean = mains_plain is (behind (item w (Item.Proto p)) here) clean.1

-- the function of the number of `main`
pub main_there : (w : Whole) (t : Typed) → AllOf (IsPlain w) w.functions → t.main ≡ main_number w → main_number w < length w.functions
    → ((k : ℕ) (s : Signature) → slice_get w.functions k ≡ Some s → slice_get (map callee_of t.functions) k ≡ Some (record { result = s.result; parameters = s.parameters }))
    → ((f : Function) → slice_get t.functions t.main ≡ Some f → f.parameters ≤ length f.variables)
    → (f : Function) × (slice_get t.functions t.main ≡ Some f) × (f.parameters ≡ 0) × IsIntResult f.result
main_there w t plain same less callees few =
    let s = get_there w.functions (main_number w) less in
    let none = all_at (IsPlain w) w.functions plain (main_number w) s.0 s.1 (main_found w w.functions s.0 s.1) in
    let f = function_there t.functions (main_number w) (record { result = s.0.result; parameters = s.0.parameters }) (callees (main_number w) s.0 s.1) in
    let there : slice_get t.functions t.main ≡ Some f.0 = ap (slice_get t.functions) same ∙ f.1 in
    let le : f.0.parameters ≤ length (objects_of f.0.variables) =
    subst (λ n. f.0.parameters ≤ n) (sym (length_map (λ (v : Rattle.c_typed.specs.declared.program.Variable.Variable). v.object) f.0.variables)) (few f.0 there) in
    (f.0, there, none_taken f.0.parameters (objects_of f.0.variables) le (ap (λ (c : Callee). c.parameters) f.2 ∙ none.0), subst IsIntResult (sym (ap (λ (c : Callee). c.result) f.2)) none.1)
