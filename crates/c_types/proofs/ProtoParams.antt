-- What the walk finds of the parameters of a prototype is what the definition judges of them.
use Rattle.std.proofs.Common.{◌≡◌, ℕ, suc, Bool, true, false, not, List, [], ◌∷◌, ◌++◌, Option, Some, None, Ok, Err, nat_eq, refl, ap, sym, ◌∙◌, subst, arith}
use Rattle.dfi_base.specs.declared.numbers.Line.{Line}
use Rattle.c_ast.specs.LineOf.{line_of_base}
use Rattle.c_ast.specs.declared.ident.Ident.{Ident}
use Rattle.c_ast.specs.declared.decl.Base.{Base}
use Rattle.c_ast.specs.declared.decl.Brackets.{Brackets}
use Rattle.c_ast.specs.declared.decl.ProtoParam.{ProtoParam}
use Rattle.c_ast.specs.declared.decl.ProtoParams.{ProtoParams}
use Rattle.c_typed.specs.declared.fault.TypeFault.{TypeFault}
use Rattle.c_typed.specs.declared.types.BaseType.{BaseType}
use Rattle.c_typed.specs.declared.types.ObjectType.{ObjectType}
use Rattle.c_types.specs.declared.outline.Outline.{Outline}
use Rattle.c_types.specs.declared.known.Declared.{Declared}
use Rattle.c_types.specs.declared.known.Known.{Known}
use Rattle.c_typed.specs.Types as types
use Rattle.c_typed.specs.Types.{parameter_stars}
use Rattle.c_typed.specs.Marks.{History, local, is_declared}
use Rattle.c_typed.specs.Whole.{Whole}
use Rattle.c_typed.specs.Faults.{Rule, Fault, twice, mismatch, unless, told_by}
use Rattle.c_typed.specs.Parts.{Place, Judged, Part, marked, tokens, mark, behind, with_faults, kept_by, ruled_by, ruled, ◌<⊗◌, ◌⊗>◌}
use Rattle.c_typed.specs.Tags.{base}
use Rattle.c_typed.specs.Decls.{bracket_items, bracket_tokens, is_scalar, parameter_base, parameter_faults, nameless, named, proto_parameter}
use Rattle.c_typed.specs.Programs.{proto_parameters}
use Rattle.c_types.specs.tools.Answers.{least, Answers, Rules}
use Rattle.c_types.specs.tools.Steps.{Found, ◌>>=◌, unless_kept, each, one}
use Rattle.c_types.specs.tools.Outlines.{base_walk}
use Rattle.c_types.specs.tools.KnownSteps.{declare_local}
use Rattle.c_types.specs.tools.DeclWalk.{first_rule, no_fault, parameter_fault, nameless_walk, named_walk, proto_parameter_walk, proto_params_walk}
use Rattle.c_types.specs.tools.StmtWalk.{same}
use Rattle.c_types.proofs.AnswerLaws.{ruled_ok, ruled_err}
use Rattle.c_types.proofs.Bounds.{IsInside, inside, inside_tokens}
use Rattle.c_types.proofs.BoundsExprs.{bounded_base}
use Rattle.c_types.proofs.BoundsDecls.{before, inside_mark, inside_with, within_append, within_unless, inside_proto_parameter}
use Rattle.c_types.proofs.Tells.{Tells, answers_tell}
use Rattle.c_types.proofs.Outlined.{IsOutline, pointers_same}
use Rattle.c_types.proofs.Standing.{names_of, declared_here}
use Rattle.c_types.proofs.ExprAnswers.{base_answers, joined_answers}
use Rattle.c_types.proofs.ValuedAnswers.{within_local}
use Rattle.c_typed.proofs.WellMarks.{false_true}
use Rattle.c_types.proofs.ParamAnswers.{parameter_base_inside, parameter_base_quiet, first_rule_told}
use Rattle.c_types.proofs.TokenRules.{Test, first_at, one_token, told_first}
use Rattle.c_types.proofs.LocalAnswers.{told_there}
use Rattle.c_types.proofs.Walking.{Goes, ok_is, goes_same, goes_ruled, goes_before, goes_separated, goes_given, unvalued, unit_unvalued, every_as_each}
use Rattle.c_types.proofs.NoteAnswers.{goes_noted}
use Rattle.c_types.proofs.ItemStands.{Opened}

-- A pointer is a scalar.
pointer_scalar : (b : BaseType) (n : ℕ) → is_scalar (record { base = b; stars = suc n; lengths = [] }) ≡ true
pointer_scalar BaseType.Int n = refl
pointer_scalar (BaseType.Struct k) n = refl
pointer_scalar BaseType.Unknown n = refl

-- so is a parameter whose brackets have no item
bracket_scalar : (b : BaseType) (stars : ℕ) (brackets : Brackets) → bracket_items brackets ≡ false → is_scalar (record { base = b; stars = parameter_stars stars brackets; lengths = [] }) ≡ true
bracket_scalar b stars Brackets.Absent e = absurd (false_true (sym e))
bracket_scalar b stars Brackets.Empty e = pointer_scalar b stars
bracket_scalar b stars (Brackets.Length k) e = pointer_scalar b stars

-- A rule over a part that is kept whatever it has.
abbrev if_kept : Bool → Unit {0} → Option (Unit {0})
if_kept b u = elim b [ true ↦ Some u | false ↦ None ]

kept_faults : (rule : Rule) (line : Line) (at : ℕ) (fs : List Fault) (v : Option (Unit {0})) (b : Bool) → b ≡ true → (ruled_by rule line (if_kept b) at fs v).faults ≡ fs
kept_faults rule line at fs None b e = refl
kept_faults rule line at fs (Some u) b e = ap (λ b. (kept_by rule line at fs (if_kept b u)).faults) e

rules_kept : (rule : Rule) (line : Line) (b : Bool) → Rules rule line (if_kept b tt) (unless_kept b rule line (Ok (tt {0})))
rules_kept rule line true = refl
rules_kept rule line false = λ wanted. (refl, refl)

-- The rule of a parameter without a name, at its first token.
abbrev scalar_kept : ℕ → Bool → Line → Judged (Unit {0}) → Judged (Unit {0})
scalar_kept at scalar line j = ruled_by mismatch line (if_kept scalar) at j.faults j.value

abbrev bracketed : Bool → ℕ → Line → Judged (Unit {0}) → Judged (Unit {0})
bracketed items at line j = record { faults = unless items at mismatch line ++ j.faults; value = j.value }

nameless_kept : (scalar : Bool) (line : Line) (here : Place) (j : Judged (Unit {0})) (f : Found (Unit {0})) → Answers j f
    → Answers (ruled mismatch line (if_kept scalar) here j) (f >>= (λ _. unless_kept scalar mismatch line (Ok (tt {0}))))
nameless_kept scalar line here j (Ok u) is = ruled_ok mismatch line (if_kept scalar) here j u (unless_kept scalar mismatch line (Ok (tt {0}))) is (rules_kept mismatch line scalar)
nameless_kept scalar line here j (Err e) is = ruled_err mismatch line (if_kept scalar) here j e is

nameless_by : (items scalar : Bool) (line : Line) (here : Place) (j : Judged (Unit {0})) (f : Found (Unit {0})) → (items ≡ false → scalar ≡ true) → Answers j f
    → Tells (bracketed items here.at line j) (unless_kept items mismatch line f)
    → Tells (ruled mismatch line (if_kept scalar) here (bracketed items here.at line j)) (unless_kept items mismatch line f >>= (λ _. unless_kept scalar mismatch line (Ok (tt {0}))))
nameless_by true scalar line here j f pointer is tells = answers_tell _ _ (nameless_kept scalar line here j f is)
nameless_by false scalar line here j f pointer is tells = λ wanted.
    let o = tells wanted in
    record { fault = o.fault; first = ap least (kept_faults mismatch line here.at (bracketed false here.at line j).faults j.value scalar (pointer refl)) ∙ o.first; told = o.told }

starred : (n : ℕ) (p : Part (Unit {0})) (here : Place) (r : Found (Unit {0})) → IsInside p → Answers (p.judge here) r → Answers ((p ⊗> tokens n).judge here) r
starred n p here (Ok u) inside_p is = joined_answers (λ a b. b) p (tokens n) here (Ok u) (Ok (tt {0})) inside_p (inside_tokens n) is (refl, refl)
starred n p here (Err e) inside_p is = joined_answers (λ a b. b) p (tokens n) here (Err e) (Ok (tt {0})) inside_p (inside_tokens n) is (refl, refl)

-- The rules of a name.
abbrev name_tests : Bool → Bool → List Test
name_tests declared scalar = (not declared, twice) ∷ (scalar, mismatch) ∷ []

abbrev fault_by : Line → Bool → Bool → Option TypeFault
fault_by line declared scalar =
    elim declared as (λ b. Option TypeFault) [
      | true ↦ Some (told_by twice line)
      | false ↦ elim scalar as (λ b. Option TypeFault) [ true ↦ None | false ↦ Some (told_by mismatch line) ]
    ]

fault_as : (n : ℕ) (line : Line) (declared scalar : Bool) → fault_by line declared scalar ≡ told_there (first_at n line (name_tests declared scalar))
fault_as n line true scalar = refl
fault_as n line false true = refl
fault_as n line false false = refl

-- what the walk finds of all of them, with what each gives
abbrev pub params_found : Outline → ProtoParams → Known → Found (List (Unit {0}) × Known)
params_found o (ProtoParams.List ps) k = each one (proto_parameter_walk o) ps k
params_found o _ k = Ok ([], k)

pub params_unvalued : (o : Outline) (p : ProtoParams) (k : Known) → proto_params_walk o p k ≡ unvalued (params_found o p k)
params_unvalued o ProtoParams.Empty k = refl
params_unvalued o (ProtoParams.Void line) k = refl
params_unvalued o (ProtoParams.List ps) k = every_as_each (proto_parameter_walk o) (proto_parameter_walk o) (λ p k. unit_unvalued (proto_parameter_walk o p k)) ps k

module _ (w : Whole) (o : Outline) (is_outline : IsOutline w o) (d : Declared) where
  abbrev R : History → Known → Type 0
  R = Opened w d

  name_goes : (x : Ident) (t : ObjectType) (here : Place) (k : Known) → R here.before k
      → Goes R (with_faults (λ here. parameter_faults x t here) (tokens 1 <⊗ mark (local x t))) here (no_fault (parameter_fault k x t) >>= (λ _. Ok (tt, declare_local o x t k)))
  name_goes x t here k is =
      let declared = is_declared x.name 0 here.before in
      let first = first_at here.at x.line (name_tests declared (is_scalar t)) in
      let fault : parameter_fault k x t ≡ told_there first =
      ap (λ b. fault_by x.line b (is_scalar t)) (declared_here is.within.stands is.within.inner x.name) ∙ fault_as here.at x.line declared (is_scalar t) in
      subst (λ f. Goes R (with_faults (λ here. parameter_faults x t here) (tokens 1 <⊗ mark (local x t))) here (no_fault f >>= (λ _. Ok (tt, declare_local o x t k)))) (sym fault)
      (goes_noted R (λ here. parameter_faults x t here) 1 (local x t) here first (no_fault (told_there first)) (declare_local o x t k)
      (one_token here.at x.line (not declared, twice) ((is_scalar t, mismatch) ∷ []) (refl, tt)) (told_first first)
      (record { within = within_local w o is_outline x t here.before k is.within; declared = is.declared }))

  name_inside : (x : Ident) (t : ObjectType) → IsInside (with_faults (λ here. parameter_faults x t here) (tokens 1 <⊗ mark (local x t)))
  name_inside x t =
      inside_with (λ here. parameter_faults x t here) (tokens 1 <⊗ mark (local x t))
      (λ here. within_append (within_unless _ here.at _ _ (omega arith) (omega arith)) (within_unless _ here.at _ _ (omega arith) (omega arith))) (before (inside_tokens 1) (inside_mark _))

  same_place : (b : Base) (stars : ℕ) (brackets : Brackets) (here : Place) → (behind (parameter_base w b stars brackets) here).before ≡ here.before
  same_place b stars brackets here = ap (λ ms. marked ms here.before) (parameter_base_quiet w o is_outline b stars brackets)

  named_goes : (p : ProtoParam) (t : ObjectType) (x : Ident) (here : Place) (k : Known) → R here.before k → Goes R (named w p t x) here (named_walk o k p t x)
  named_goes p t x here k is =
      let b = parameter_base w p.base p.stars p.brackets in
      goes_ruled R b (with_faults (λ here. parameter_faults x t here) (tokens 1 <⊗ mark (local x t))) here (first_rule o k p.base p.stars p.brackets)
      (no_fault (parameter_fault k x t) >>= (λ _. Ok (tt, declare_local o x t k)))
      (parameter_base_inside w o is_outline p.base p.stars p.brackets) (name_inside x t) (first_rule_told w o is_outline p.base p.stars p.brackets here k is.within)
      (name_goes x t (behind b here) k (subst (λ h. R h k) (sym (same_place p.base p.stars p.brackets here)) is))

  unnamed : (f : Found (Unit {0})) (b : Bool) (line : Line) (k : Known)
      → same k (f >>= (λ _. unless_kept b mismatch line (Ok (tt {0})))) ≡ (f >>= (λ _. unless_kept b mismatch line (Ok (tt, k))))
  unnamed (Ok u) true line k = refl
  unnamed (Ok u) false line k = refl
  unnamed (Err e) b line k = refl

  nameless_goes : (p : ProtoParam) (t : ObjectType) (here : Place) (k : Known) → t ≡ types.pointers_to w.tags p.base (parameter_stars p.stars p.brackets) → R here.before k
      → Goes R (nameless w p t) here (nameless_walk o k p t)
  nameless_goes p t here k e is =
      let v = nat_eq (parameter_stars p.stars p.brackets) 0 in
      let line = line_of_base p.base in
      let s = base w v p.base ⊗> tokens p.stars in
      let f = base_walk o k v p.base in
      let answers = starred p.stars (base w v p.base) here f (inside _ (bounded_base w v p.base)) (base_answers w o here.before k is_outline (names_of is.within.stands) v p.base here refl) in
      let tells = nameless_by (bracket_items p.brackets) (is_scalar t) line here (s.judge here) f
      (λ none. ap is_scalar e ∙ bracket_scalar (types.base_type w.tags p.base) p.stars p.brackets none) answers (first_rule_told w o is_outline p.base p.stars p.brackets here k is.within) in
      subst (Goes R (nameless w p t) here) (unnamed (first_rule o k p.base p.stars p.brackets) (is_scalar t) line k)
      (goes_same R (nameless w p t) here k (first_rule o k p.base p.stars p.brackets >>= (λ _. unless_kept (is_scalar t) mismatch line (Ok (tt {0}))))
      (parameter_base_quiet w o is_outline p.base p.stars p.brackets) is tells)

  by_name : (p : ProtoParam) (t : ObjectType) (x : Option Ident) (here : Place) (k : Known) → t ≡ types.pointers_to w.tags p.base (parameter_stars p.stars p.brackets) → R here.before k
      → Goes R (elim x as (λ x. Part (Unit {0})) [ None ↦ nameless w p t | Some x ↦ named w p t x ]) here
      (elim x as (λ x. Found ((Unit {0}) × Known)) [ None ↦ nameless_walk o k p t | Some x ↦ named_walk o k p t x ])
  by_name p t None here k e is = nameless_goes p t here k e is
  by_name p t (Some x) here k e is = named_goes p t x here k is

  abbrev found_of : ProtoParam → Known → ObjectType → Found ((Unit {0}) × Known)
  found_of p k t = elim p.name as (λ x. Found ((Unit {0}) × Known)) [ None ↦ nameless_walk o k p t | Some x ↦ named_walk o k p t x ]

  parameter_goes : (p : ProtoParam) (here : Place) (k : Known) → R here.before k → Goes R (proto_parameter w p) here (proto_parameter_walk o p k)
  parameter_goes p here k is =
      let t = types.pointers_to w.tags p.base (parameter_stars p.stars p.brackets) in
      subst (λ t. Goes R (proto_parameter w p) here (found_of p k t)) (sym (pointers_same w o is_outline p.base (parameter_stars p.stars p.brackets)))
      (goes_before R (bracket_tokens p.brackets) (elim p.name as (λ x. Part (Unit {0})) [ None ↦ nameless w p t | Some x ↦ named w p t x ]) here (found_of p k t)
      (by_name p t p.name here k refl is))

  pub params_go : (p : ProtoParams) (here : Place) (k : Known) → R here.before k → Goes R (proto_parameters w p) here (params_found o p k)
  params_go ProtoParams.Empty here k is = goes_given R [] here k is
  params_go (ProtoParams.Void line) here k is = record { tells = (refl, refl); stands = λ s e. subst (R here.before) (ap (λ s. s.1) (ok_is e)) is }
  params_go (ProtoParams.List ps) here k is = goes_separated R (proto_parameter w) (proto_parameter_walk o) (inside_proto_parameter w) parameter_goes ps here k is
