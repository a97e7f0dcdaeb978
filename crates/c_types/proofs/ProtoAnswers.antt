-- What the walk finds of a prototype is what the definition judges of it.
use Rattle.std.proofs.Common.{◌≡◌, ℕ, Bool, true, false, ◌&&◌, ◌||◌, not, List, [], ◌∷◌, ◌++◌, map, length, Option, Some, None, Ok, Err, is_some, slice_get, nat_lt, refl, ap, sym, ◌∙◌, subst, arith}
use Rattle.std.proofs.lemmas.List.{append-nil}
use Rattle.std.proofs.lemmas.Option.{slice_get_past}
use Rattle.std.proofs.lemmas.Bool.Decides.{nat_tests}
use Rattle.dfi_base.specs.declared.numbers.Line.{Line}
use Rattle.c_ast.specs.declared.decl.ProtoParam.{ProtoParam}
use Rattle.c_ast.specs.declared.decl.ProtoParams.{ProtoParams}
use Rattle.c_ast.specs.declared.program.Proto.{Proto}
use Rattle.c_typed.specs.declared.types.BaseType.{BaseType}
use Rattle.c_typed.specs.declared.types.ObjectType.{ObjectType}
use Rattle.c_types.specs.declared.outline.Signature.{Signature as OutlineSignature}
use Rattle.c_types.specs.declared.outline.Outline.{Outline}
use Rattle.c_types.specs.declared.known.Known.{Known}
use Rattle.c_typed.specs.Types as types
use Rattle.c_typed.specs.Types.{place_of, parameter_stars}
use Rattle.c_typed.specs.Marks as marks
use Rattle.c_typed.specs.Marks.{Mark, prototype, opens, closes, block, History}
use Rattle.c_typed.specs.Whole as whole
use Rattle.c_typed.specs.Whole.{Whole, Signature}
use Rattle.c_typed.specs.Faults.{unknown, twice, mismatch}
use Rattle.c_typed.specs.Parts.{Place, Part, marked, tokens, mark, behind, with_faults, ◌<⊗◌, ◌⊗>◌}
use Rattle.c_typed.specs.Programs as programs
use Rattle.c_typed.specs.Programs.{has_scalar_result, is_int, no_proto_parameters, same_objects, same_result, types_in, result_base, proto_faults, proto_parameters, proto}
use Rattle.c_types.specs.tools.Steps.{Found, ◌>>=◌, unless_kept}
use Rattle.c_types.specs.tools.Outlines as outlines
use Rattle.c_types.specs.tools.DeclWalk.{no_fault, proto_params_walk}
use Rattle.c_types.specs.tools.KnownSteps.{entered, exited}
use Rattle.c_types.specs.tools.ProgramSteps.{prototype_declared}
use Rattle.c_types.specs.tools.ProgramWalk as walk
use Rattle.c_types.specs.tools.ProgramWalk.{result_walk, defined_at, defined, is_plain_proto, proto_name_walk, proto_walk}
use Rattle.c_types.proofs.Bounds.{IsInside, inside_tokens, inside_joined}
use Rattle.c_types.proofs.BoundsDecls.{before, inside_mark, inside_with, within_append, within_unless}
use Rattle.c_types.proofs.BoundsPrograms.{inside_result_base, inside_proto_parameters}
use Rattle.c_typed.proofs.Balanced.{marked_append}
use Rattle.c_types.proofs.Tells.{Tells, tells_joined, tells_first, tells_before, tells_before_mark}
use Rattle.c_types.proofs.Outlined.{IsOutline, tagged, number_below, signature_of, signature_at, pointers_by}
use Rattle.c_types.proofs.OutlineIs.{result_same}
use Rattle.c_typed.proofs.WellFunction.{quiet_result}
use Rattle.c_typed.proofs.WellOuter.{balanced_proto_parameters}
use Rattle.c_types.proofs.Standing.{names_of}
use Rattle.c_types.proofs.FunctionText.{result_told}
use Rattle.c_types.proofs.LocalAnswers.{told_there}
use Rattle.c_types.proofs.TokenRules.{Test, first_at, one_token, told_first}
use Rattle.c_types.proofs.Walking.{Goes, result_of, ok_is, err_ok, goes_ruled, unvalued}
use Rattle.c_types.proofs.NoteAnswers.{goes_noted}
use Rattle.c_types.proofs.OuterStands.{Outer}
use Rattle.c_types.proofs.ItemStands.{AtItem, Opened, at_prototype, opened_there, closed_there}
use Rattle.c_types.proofs.NameTests.{main_same, otherwise_same}
use Rattle.c_types.proofs.ProtoParams.{params_found, params_go, params_unvalued}

-- Two parts with rules alone.
tells_then : (p q : Part (Unit {0})) (here : Place) (f g : Found (Unit {0})) → IsInside p → IsInside q → Tells (p.judge here) f → Tells (q.judge (behind p here)) g → Tells ((p ⊗> q).judge here) (f >>= (λ _. g))
tells_then p q here (Ok u) (Ok v) inside_p inside_q is that = tells_joined (λ a b. b) p q here (Ok u) (Ok v) inside_p inside_q is (λ a e. that)
tells_then p q here (Ok u) (Err e) inside_p inside_q is that = tells_joined (λ a b. b) p q here (Ok u) (Err e) inside_p inside_q is (λ a e. that)
tells_then p q here (Err e) g inside_p inside_q is that = tells_first (λ a b. b) p q here e inside_p inside_q is

-- the second without any
tells_past : (p q : Part (Unit {0})) (here : Place) (f : Found (Unit {0})) → IsInside p → IsInside q → ((here : Place) → Tells (q.judge here) (Ok (tt {0}))) → Tells (p.judge here) f → Tells ((p ⊗> q).judge here) f
tells_past p q here (Ok u) inside_p inside_q none is = tells_then p q here (Ok u) (Ok tt) inside_p inside_q is (none (behind p here))
tells_past p q here (Err e) inside_p inside_q none is = tells_then p q here (Err e) (Ok tt) inside_p inside_q is (none (behind p here))

-- What the walk finds of a prototype, with what its parameters give.
abbrev begun : Proto → Known → Known
begun p k = prototype_declared p.name.name k

abbrev head_found : Outline → Proto → Known → Found (Unit {0})
head_found o p k = result_walk o k p.result >>= (λ _. proto_name_walk o k p (defined o p.name.name))

abbrev inner_found : Outline → Proto → Known → Found (List (Unit {0}) × Known)
inner_found o p k = head_found o p k >>= (λ _. params_found o p.params (entered (begun p k)))

abbrev out : List (Unit {0}) × Known → Found (List (Unit {0}) × Known)
out s = Ok (s.0, exited s.1)

abbrev pub proto_found : Outline → Proto → Known → Found (List (Unit {0}) × Known)
proto_found o p k = inner_found o p k >>= out

abbrev done : (Unit {0}) × Known → Found ((Unit {0}) × Known)
done s = Ok (tt, exited s.1)

out_unvalued : (r : Found (List (Unit {0}) × Known)) → (unvalued r >>= done) ≡ unvalued (r >>= out)
out_unvalued (Ok s) = refl
out_unvalued (Err e) = refl

in_turn_found : (f g : Found (Unit {0})) (h : Found ((Unit {0}) × Known)) (r : Found (List (Unit {0}) × Known)) → h ≡ unvalued r
    → (f >>= (λ _. g >>= (λ _. h >>= done))) ≡ unvalued (f >>= (λ _. g) >>= (λ _. r) >>= out)
in_turn_found (Ok u) (Ok v) h r same = ap (λ h. h >>= done) same ∙ out_unvalued r
in_turn_found (Ok u) (Err e) h r same = refl
in_turn_found (Err e) g h r same = refl

pub proto_unvalued : (o : Outline) (p : Proto) (k : Known) → proto_walk o p k ≡ unvalued (proto_found o p k)
proto_unvalued o p k =
    in_turn_found (result_walk o k p.result) (proto_name_walk o k p (defined o p.name.name)) (proto_params_walk o p.params (entered (begun p k))) (params_found o p.params (entered (begun p k)))
    (params_unvalued o p.params (entered (begun p k)))

out_result : (r : Found (List (Unit {0}) × Known)) → result_of r ≡ result_of (r >>= out)
out_result (Ok s) = refl
out_result (Err e) = refl

out_known : (r : Found (List (Unit {0}) × Known)) (s : List (Unit {0}) × Known) → (r >>= out) ≡ Ok s → (t : List (Unit {0}) × Known) × (r ≡ Ok t) × (exited t.1 ≡ s.1)
out_known (Ok t) s e = (t, refl, ap (λ s. s.1) (ok_is e))
out_known (Err x) s e = absurd (err_ok e)

-- The function that is meant.
module _ (w : Whole) (o : Outline) (is : IsOutline w o) (counted : length w.structs ≡ length w.tags) where
  meant : (n : ℕ) → signature_at (defined_at o (number_below n (length w.functions))) ≡ slice_get w.functions n
  meant n = by (nat_lt n (length w.functions)) refl where
    by : (b : Bool) → nat_lt n (length w.functions) ≡ b → signature_at (defined_at o (elim b [ true ↦ Some n | false ↦ None ])) ≡ slice_get w.functions n
    by true less = is.functions n
    by false past = sym (slice_get_past w.functions n (grind (arith, nat_tests, past)))

  function_same : (x : ℕ) → signature_at (defined o x) ≡ programs.function_of w x
  function_same x = ap (λ l. signature_at (defined_at o l)) (is.numbers x) ∙ meant (place_of x (map (λ s. s.name) w.functions))

  list_types : (ps : List ProtoParam) → walk.proto_types o (ProtoParams.List ps) ≡ programs.proto_types w.tags (ProtoParams.List ps)
  list_types [] = refl
  list_types (p ∷ ps) =
      ap (λ t. t ∷ walk.proto_types o (ProtoParams.List ps)) (pointers_by w.tags o (tagged w o is) p.base (parameter_stars p.stars p.brackets))
      ∙ ap (λ ts. types.pointers_to w.tags p.base (parameter_stars p.stars p.brackets) ∷ ts) (list_types ps)

  types_same : (ps : ProtoParams) → walk.proto_types o ps ≡ programs.proto_types w.tags ps
  types_same ProtoParams.Empty = refl
  types_same (ProtoParams.Void line) = refl
  types_same (ProtoParams.List ps) = list_types ps

  abbrev fits : Proto → Option Signature → Bool
  fits p s =
      let result = types.result_type w.tags p.result in
      has_scalar_result result && programs.agrees result (programs.proto_types w.tags p.params) s
      && (not (whole.is_main w p.name.name) || (is_int p.result && no_proto_parameters p.params))

  fits_same : (p : Proto) (s : OutlineSignature) → walk.proto_fits o p (outlines.result_type o p.result) (walk.proto_types o p.params) s ≡ fits p (Some (signature_of s))
  fits_same p s =
      let result = types.result_type w.tags p.result in
      ap (λ r. walk.proto_fits o p r (walk.proto_types o p.params) s) (result_same w.tags o (tagged w o is) p.result)
      ∙ ap (λ ts. walk.proto_fits o p result ts s) (types_same p.params)
      ∙ ap (λ b. has_scalar_result result && programs.agrees result (programs.proto_types w.tags p.params) (Some (signature_of s)) && (not b || is_plain_proto p)) (main_same w o is p.name.name)

  -- The rules of its name.
  abbrev name_tests : Proto → History → Option Signature → List Test
  name_tests p h s = (is_some s, unknown) ∷ (not (marks.has_global p.name.name h || programs.is_builtin w p.name.name), twice) ∷ (fits p s, mismatch) ∷ []

  abbrev rest_by : Line → Bool → Bool → Found (Unit {0})
  rest_by line otherwise fitting = unless_kept (not otherwise) twice line (unless_kept fitting mismatch line (Ok tt))

  rest_as : (n : ℕ) (line : Line) (otherwise fitting : Bool) → rest_by line otherwise fitting ≡ no_fault (told_there (first_at n line ((not otherwise, twice) ∷ (fitting, mismatch) ∷ [])))
  rest_as n line true fitting = refl
  rest_as n line false true = refl
  rest_as n line false false = refl

  name_by : (p : Proto) (n : ℕ) (h : History) (k : Known) (s : Option OutlineSignature) → Outer w h k
      → proto_name_walk o k p s ≡ no_fault (told_there (first_at n p.name.line (name_tests p h (signature_at s))))
  name_by p n h k None was = refl
  name_by p n h k (Some s) was =
      let fitting = walk.proto_fits o p (outlines.result_type o p.result) (walk.proto_types o p.params) s in
      let otherwise = marks.has_global p.name.name h || programs.is_builtin w p.name.name in
      ap (λ b. rest_by p.name.line b fitting) (otherwise_same w o is p.name.name h k was) ∙ ap (rest_by p.name.line otherwise) (fits_same p s)
      ∙ rest_as n p.name.line otherwise (fits p (Some (signature_of s)))

  name_found : (p : Proto) (n : ℕ) (h : History) (k : Known) → Outer w h k
      → proto_name_walk o k p (defined o p.name.name) ≡ no_fault (told_there (first_at n p.name.line (name_tests p h (programs.function_of w p.name.name))))
  name_found p n h k was =
      name_by p n h k (defined o p.name.name) was ∙ ap (λ s. no_fault (told_there (first_at n p.name.line (name_tests p h s)))) (function_same p.name.name)

  abbrev name_part : Proto → Part (Unit {0})
  name_part p = with_faults (proto_faults w p p.name (types.result_type w.tags p.result)) (tokens 1 <⊗ mark (prototype p.name.name))

  name_tells : (p : Proto) (here : Place) (k : Known) → AtItem w here.before k → Tells ((name_part p).judge here) (proto_name_walk o k p (defined o p.name.name))
  name_tells p here k was =
      let s = programs.function_of w p.name.name in
      let first = first_at here.at p.name.line (name_tests p here.before s) in
      subst (Tells ((name_part p).judge here)) (sym (name_found p here.at here.before k was.outer))
      (alone (no_fault (told_there first)) (prototype_declared p.name.name k)
      (goes_noted (AtItem w) (proto_faults w p p.name (types.result_type w.tags p.result)) 1 (prototype p.name.name) here first (no_fault (told_there first)) (prototype_declared p.name.name k)
      (one_token here.at p.name.line (is_some s, unknown) ((not (marks.has_global p.name.name here.before || programs.is_builtin w p.name.name), twice) ∷ (fits p s, mismatch) ∷ []) (refl, (refl, tt)))
      (told_first first) (at_prototype w p.name.name here.before k was)).tells) where
        alone : (r : Found (Unit {0})) (l : Known) → Tells ((name_part p).judge here) (result_of (r >>= (λ _. Ok (tt {0}, l)))) → Tells ((name_part p).judge here) r
        alone (Ok u) l is = is
        alone (Err e) l is = is

  name_inside : (p : Proto) → IsInside (name_part p)
  name_inside p =
      inside_with (proto_faults w p p.name (types.result_type w.tags p.result)) (tokens 1 <⊗ mark (prototype p.name.name))
      (λ here. within_append (within_append (within_unless _ here.at _ _ (omega arith) (omega arith)) (within_unless _ here.at _ _ (omega arith) (omega arith))) (within_unless _ here.at _ _ (omega arith) (omega arith)))
      (before (inside_tokens 1) (inside_mark _))

  -- A whole prototype: up to its parameters it has rules alone.
  module _ (p : Proto) where
    abbrev titled : Part (Unit {0})
    titled = result_base w p.result ⊗> name_part p

    abbrev head : Part (Unit {0})
    head = titled ⊗> tokens 1 ⊗> mark (opens block)

    abbrev params : Part (List (Unit {0}))
    params = proto_parameters w p.params

    titled_inside : IsInside titled
    titled_inside = inside_joined (λ a b. b) (result_base w p.result) (name_part p) (inside_result_base w p.result) (name_inside p)

    head_tells : (here : Place) (k : Known) → AtItem w here.before k → Tells (head.judge here) (head_found o p k)
    head_tells here k was =
        let there = subst (λ h. AtItem w h k) (sym (ap (λ ms. marked ms here.before) (quiet_result w p.result))) was in
        let both = tells_then (result_base w p.result) (name_part p) here (result_walk o k p.result) (proto_name_walk o k p (defined o p.name.name)) (inside_result_base w p.result) (name_inside p)
        (result_told w o is p.result here k (names_of was.outer.stands)) (name_tells p (behind (result_base w p.result) here) k there) in
        tells_past (titled ⊗> tokens 1) (mark (opens block)) here (head_found o p k) (inside_joined (λ a b. b) titled (tokens 1) titled_inside (inside_tokens 1)) (inside_mark (opens block)) (λ here. (refl, refl))
        (tells_past titled (tokens 1) here (head_found o p k) titled_inside (inside_tokens 1) (λ here. (refl, refl)) both)

    head_marks : head.marks ≡ prototype p.name.name ∷ opens block ∷ []
    head_marks = ap (λ (ms : List Mark). ms ++ (prototype p.name.name ∷ []) ++ [] ++ (opens block ∷ [])) (quiet_result w p.result)

    inner_goes : (here : Place) (k : Known) → AtItem w here.before k → Goes (Opened w (begun p k).declared) (head ⊗> params) here (inner_found o p k)
    inner_goes here k was =
        goes_ruled (Opened w (begun p k).declared) head params here (head_found o p k) (params_found o p.params (entered (begun p k)))
        (inside_joined (λ a b. b) (titled ⊗> tokens 1) (mark (opens block)) (inside_joined (λ a b. b) titled (tokens 1) titled_inside (inside_tokens 1)) (inside_mark (opens block)))
        (inside_proto_parameters w p.params) (head_tells here k was)
        (params_go w o is (begun p k).declared p.params (behind head here) (entered (begun p k))
        (subst (λ ms. Opened w (begun p k).declared (marked ms here.before) (entered (begun p k))) (sym head_marks)
        (opened_there w block (prototype p.name.name ∷ here.before) (begun p k) (at_prototype w p.name.name here.before k was))))

    proto_marks : (h : History) → marked (proto w p).marks h ≡ closes ∷ marked params.marks (opens block ∷ prototype p.name.name ∷ h)
    proto_marks h =
        ap (λ ms. marked ms h) (append-nil ((head.marks ++ params.marks) ++ (closes ∷ [])) ∙ ap (λ (ms : List Mark). (ms ++ params.marks) ++ (closes ∷ [])) head_marks)
        ∙ marked_append params.marks (closes ∷ []) (opens block ∷ prototype p.name.name ∷ h)

    pub proto_goes : (here : Place) (k : Known) → AtItem w here.before k → Goes (AtItem w) (proto w p) here (proto_found o p k)
    proto_goes here k was =
        let go = inner_goes here k was in
        let r = inner_found o p k in
        let h = prototype p.name.name ∷ here.before in
        record {
          tells = subst (Tells ((proto w p).judge here)) (out_result r)
              (tells_before 2 (head ⊗> params <⊗ mark closes) here (result_of r) (tells_before_mark closes (head ⊗> params) here (result_of r) go.tells));
          stands = λ s e.
              let t = out_known r s e in
              subst (AtItem w (marked (proto w p).marks here.before)) t.2
              (subst (λ h. AtItem w h (exited t.0.1)) (sym (proto_marks here.before))
              (closed_there w block h (begun p k) t.0.1 (balanced_proto_parameters w p.params) (at_prototype w p.name.name here.before k was)
              (subst (λ h. Opened w (begun p k).declared h t.0.1) (inner_marks here.before) (go.stands t.0 t.1))));
        } where
          inner_marks : (h : History) → marked (head ⊗> params).marks h ≡ marked params.marks (opens block ∷ prototype p.name.name ∷ h)
          inner_marks h = ap (λ (ms : List Mark). marked (ms ++ params.marks) h) head_marks
