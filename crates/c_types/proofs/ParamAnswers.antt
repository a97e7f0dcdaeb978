-- What the walk finds of the parameters of a function is what the definition judges of them.
use Rattle.std.proofs.Common.{◌≡◌, ℕ, ◌+◌, Bool, true, false, not, List, [], ◌∷◌, ◌++◌, Option, Some, None, Ok, Err, nat_eq, nat_le, refl, ap, sym, ◌∙◌, subst, arith}
use Rattle.dfi_base.specs.declared.numbers.Line.{Line}
use Rattle.c_ast.specs.LineOf.{line_of_base}
use Rattle.c_ast.specs.declared.ident.Ident.{Ident}
use Rattle.c_ast.specs.declared.decl.Base.{Base}
use Rattle.c_ast.specs.declared.decl.Brackets.{Brackets}
use Rattle.c_ast.specs.declared.decl.Param.{Param}
use Rattle.c_ast.specs.declared.decl.Params.{Params}
use Rattle.c_typed.specs.declared.fault.BigWhat.{BigWhat}
use Rattle.c_typed.specs.declared.fault.TypeFault.{TypeFault}
use Rattle.c_typed.specs.declared.types.ObjectType.{ObjectType}
use Rattle.c_types.specs.declared.outline.Outline.{Outline}
use Rattle.c_types.specs.declared.known.Known.{Known}
use Rattle.c_typed.specs.Types as types
use Rattle.c_typed.specs.Types.{parameter_stars}
use Rattle.c_typed.specs.Marks.{History, local, is_declared, frame_words}
use Rattle.c_typed.specs.Whole.{Whole}
use Rattle.c_typed.specs.Faults.{Fault, unknown, twice, mismatch, big, unless, told_by}
use Rattle.c_typed.specs.Parts.{Place, Part, tokens, mark, behind, kept_by, with_faults, ◌<⊗◌, ◌⊗>◌}
use Rattle.c_typed.specs.Tags.{base, is_tag}
use Rattle.c_typed.specs.Decls.{bracket_items, bracket_tokens, is_scalar, frame_limit, frame_faults, parameter_base, parameter_faults, parameter}
use Rattle.c_typed.specs.Programs.{parameters}
use Rattle.c_types.specs.tools.Steps.{Found, ◌>>=◌, unless_kept, each, one}
use Rattle.c_types.specs.tools.Outlines as outlines
use Rattle.c_types.specs.tools.Outlines.{capped, base_walk}
use Rattle.c_types.specs.tools.KnownSteps.{declare_local}
use Rattle.c_types.specs.tools.DeclWalk.{first_rule, no_fault, parameter_fault, framed, parameter_walk, params_walk}
use Rattle.c_types.proofs.AnswerLaws.{AllFrom}
use Rattle.c_types.proofs.Bounds.{IsInside, inside, inside_tokens, from_append}
use Rattle.c_types.proofs.BoundsExprs.{bounded_base}
use Rattle.c_types.proofs.BoundsDecls.{before, inside_mark, inside_with, within_append, within_unless, inside_parameter_base, inside_parameter}
use Rattle.c_typed.proofs.Quiet.{quiet_base, no_marks, before_same}
use Rattle.c_types.proofs.Tells.{Tells, answers_tell, tells_joined, tells_first, tells_with_none, tells_with_some}
use Rattle.c_types.proofs.Outlined.{IsOutline, pointers_same}
use Rattle.c_types.proofs.OutlineWords.{words_same, capped_sum, capped_le}
use Rattle.c_types.proofs.Standing.{names_of, declared_here}
use Rattle.c_types.proofs.ExprAnswers.{base_answers}
use Rattle.c_types.proofs.Walking.{ok_is, goes_given, goes_ruled, goes_before, goes_separated, unvalued, unit_unvalued, every_as_each}
use Rattle.c_types.proofs.WalkAnswers.{Within, Walks}
use Rattle.c_types.proofs.ValuedAnswers.{within_local}
use Rattle.c_types.proofs.TokenRules.{Test, first_at, one_token}
use Rattle.c_types.proofs.LocalAnswers.{IsFirstTold}
use Rattle.c_types.proofs.NoteAnswers.{goes_noted}

-- tokens behind a part with rules alone
pub told_before : (n : ℕ) (p : Part (Unit {0})) (here : Place) (f : Found (Unit {0})) → IsInside p → Tells (p.judge here) f → Tells ((p ⊗> tokens n).judge here) f
told_before n p here (Ok u) inside_p is = tells_joined (λ a b. b) p (tokens n) here (Ok u) (Ok (tt {0})) inside_p (inside_tokens n) is (λ a e. (refl, refl))
told_before n p here (Err e) inside_p is = tells_first (λ a b. b) p (tokens n) here e inside_p (inside_tokens n) is

-- Rules of one token, as a walk tells them.
abbrev pub kept_in_turn : Line → List Test → Found (Unit {0})
kept_in_turn line [] = Ok tt
kept_in_turn line (t ∷ ts) = unless_kept t.0 t.1 line (kept_in_turn line ts)

pub told_in_turn : (n : ℕ) (line : Line) (ts : List Test) → IsFirstTold (first_at n line ts) (kept_in_turn line ts)
told_in_turn n line [] = refl
told_in_turn n line (t ∷ ts) = by t.0 (told_in_turn n line ts) where
  by : (b : Bool) → IsFirstTold (first_at n line ts) (kept_in_turn line ts)
      → IsFirstTold (elim b [ true ↦ first_at n line ts | false ↦ Some (record { at = n; rule = t.1; line = line }) ]) (unless_kept b t.1 line (kept_in_turn line ts))
  by true is = is
  by false is = refl

-- What is told of a name.
abbrev name_told : Line → Bool → Bool → Bool → Found (Unit {0})
name_told line declared scalar frame =
    no_fault (elim declared as (λ b. Option TypeFault) [
      | true ↦ Some (told_by twice line)
      | false ↦ elim scalar as (λ b. Option TypeFault) [ true ↦ None | false ↦ Some (told_by mismatch line) ]
    ]) >>= (λ _. unless_kept frame (big BigWhat.Frame) line (Ok tt))

abbrev name_tests : Bool → Bool → Bool → List Test
name_tests new scalar frame = (new, twice) ∷ (scalar, mismatch) ∷ (frame, big BigWhat.Frame) ∷ []

told_as_tests : (line : Line) (declared scalar frame : Bool) → name_told line declared scalar frame ≡ kept_in_turn line (name_tests (not declared) scalar frame)
told_as_tests line true scalar frame = refl
told_as_tests line false true frame = refl
told_as_tests line false false frame = refl

-- The walk of all parameters, with what each gives.
abbrev pub units_walk : Outline → Params → Known → Found (List (Unit {0}) × Known)
units_walk o (Params.List ps) k = each one (parameter_walk o) ps k
units_walk o _ k = Ok ([], k)

pub units_unvalued : (o : Outline) (p : Params) (k : Known) → params_walk o p k ≡ unvalued (units_walk o p k)
units_unvalued o Params.Empty k = refl
units_unvalued o (Params.Void line) k = refl
units_unvalued o (Params.List ps) k = every_as_each (parameter_walk o) (parameter_walk o) (λ p k. unit_unvalued (parameter_walk o p k)) ps k

module _ (w : Whole) (o : Outline) (is_outline : IsOutline w o) where
  -- What stands before the name.
  abbrev by_value : ℕ → Brackets → Bool
  by_value stars brackets = nat_eq (parameter_stars stars brackets) 0

  abbrev starred_base : Base → ℕ → Brackets → Part (Unit {0})
  starred_base b stars brackets = base w (by_value stars brackets) b ⊗> tokens stars

  base_inside : (b : Base) (stars : ℕ) (brackets : Brackets) → IsInside (base w (by_value stars brackets) b)
  base_inside b stars brackets = inside _ (bounded_base w (by_value stars brackets) b)

  pub parameter_base_inside : (b : Base) (stars : ℕ) (brackets : Brackets) → IsInside (parameter_base w b stars brackets)
  parameter_base_inside b stars brackets = inside _ (inside_parameter_base w b stars brackets)

  pub parameter_base_quiet : (b : Base) (stars : ℕ) (brackets : Brackets) → (parameter_base w b stars brackets).marks ≡ []
  parameter_base_quiet b stars brackets = no_marks (quiet_base w (by_value stars brackets) b) refl

  -- a base is one token, and its rule is that of the next
  base_from : (b : Base) (value : Bool) (here : Place) → AllFrom (here.at + 1) ((base w value b).judge here).faults
  base_from (Base.Int line) value here = tt
  base_from (Base.Struct line tag) value here = tag_from (is_tag w here.before value tag.name) where
    tag_from : (b : Bool) → AllFrom (here.at + 1) (kept_by unknown tag.line (here.at + 1) [] (elim b as (λ b. Option (Unit {0})) [ true ↦ Some tt | false ↦ None ])).faults
    tag_from true = tt
    tag_from false = (omega arith, tt)

  starred_from : (b : Base) (stars : ℕ) (brackets : Brackets) (here : Place) → AllFrom (here.at + 1) ((starred_base b stars brackets).judge here).faults
  starred_from b stars brackets here = from_append (here.at + 1) ((base w (by_value stars brackets) b).judge here).faults [] (base_from b (by_value stars brackets) here) tt

  first_told : (test : Bool) (line : Line) (p : Part (Unit {0})) (here : Place) (f : Found (Unit {0})) → AllFrom (here.at + 1) (p.judge here).faults → Tells (p.judge here) f
      → Tells ((with_faults (λ here. unless test here.at mismatch line) p).judge here) (unless_kept test mismatch line f)
  first_told true line p here f from is = tells_with_none (λ here. unless true here.at mismatch line) p here f refl is
  first_told false line p here f from is =
      tells_with_some (here.at + 1) (λ here. unless false here.at mismatch line) p here (record { at = here.at; rule = mismatch; line = line }) refl (omega arith, tt) from

  pub first_rule_told : (b : Base) (stars : ℕ) (brackets : Brackets) (here : Place) (k : Known) → Within w here.before k
      → Tells ((parameter_base w b stars brackets).judge here) (first_rule o k b stars brackets)
  first_rule_told b stars brackets here k is =
      let v = by_value stars brackets in
      first_told (bracket_items brackets) (line_of_base b) (starred_base b stars brackets) here (base_walk o k v b) (starred_from b stars brackets here)
      (told_before stars (base w v b) here (base_walk o k v b) (base_inside b stars brackets)
      (answers_tell ((base w v b).judge here) (base_walk o k v b) (base_answers w o here.before k is_outline (names_of is.stands) v b here refl)))

  -- The name.
  abbrev small_frame : Ident → ObjectType → History → Bool
  small_frame x t h = nat_le (frame_words w.sizes (local x t ∷ h)) frame_limit

  frame_same : (x : Ident) (t : ObjectType) (h : History) (k : Known) → Within w h k → nat_le (capped (outlines.words_of o t + k.frame.words)) 4096 ≡ small_frame x t h
  frame_same x t h k is =
      ap (λ n. nat_le (capped (n + k.frame.words)) 4096) (words_same w o is_outline t)
      ∙ ap (λ n. nat_le (capped (capped (types.words_of w.sizes t) + n)) 4096) is.framed.words
      ∙ ap (λ n. nat_le n 4096) (capped_sum (types.words_of w.sizes t) (frame_words w.sizes h))
      ∙ capped_le 4096 (frame_words w.sizes (local x t ∷ h)) (omega arith)

  abbrev rules_of : Known → Ident → ObjectType → Found (Unit {0})
  rules_of k x t = no_fault (parameter_fault k x t) >>= (λ _. framed o k x t)

  abbrev tests_of : Ident → ObjectType → History → List Test
  tests_of x t h = name_tests (not (is_declared x.name 0 h)) (is_scalar t) (small_frame x t h)

  rules_as_tests : (x : Ident) (t : ObjectType) (h : History) (k : Known) → Within w h k → rules_of k x t ≡ kept_in_turn x.line (tests_of x t h)
  rules_as_tests x t h k is =
      ap (λ b. name_told x.line b (is_scalar t) (nat_le (capped (outlines.words_of o t + k.frame.words)) 4096)) (declared_here is.stands is.inner x.name)
      ∙ ap (name_told x.line (is_declared x.name 0 h) (is_scalar t)) (frame_same x t h k is)
      ∙ told_as_tests x.line (is_declared x.name 0 h) (is_scalar t) (small_frame x t h)

  abbrev name_faults : Ident → ObjectType → Place → List Fault
  name_faults x t here = parameter_faults x t here ++ frame_faults w x t here.before here.at

  abbrev name_part : Ident → ObjectType → Part (Unit {0})
  name_part x t = with_faults (name_faults x t) (tokens 1 <⊗ mark (local x t))

  name_walks : (x : Ident) (t : ObjectType) (here : Place) (k : Known) → Within w here.before k → Walks w (name_part x t) here (rules_of k x t >>= (λ _. Ok (tt, declare_local o x t k)))
  name_walks x t here k is =
      let h = here.before in
      subst (λ r. Walks w (name_part x t) here (r >>= (λ _. Ok (tt, declare_local o x t k)))) (sym (rules_as_tests x t h k is))
      (goes_noted (Within w) (name_faults x t) 1 (local x t) here (first_at here.at x.line (tests_of x t h)) (kept_in_turn x.line (tests_of x t h)) (declare_local o x t k)
      (one_token here.at x.line (not (is_declared x.name 0 h), twice) ((is_scalar t, mismatch) ∷ (small_frame x t h, big BigWhat.Frame) ∷ []) (refl, (refl, tt)))
      (told_in_turn here.at x.line (tests_of x t h)) (within_local w o is_outline x t h k is))

  name_inside : (x : Ident) (t : ObjectType) → IsInside (name_part x t)
  name_inside x t =
      inside_with (name_faults x t) (tokens 1 <⊗ mark (local x t))
      (λ here. within_append (within_append (within_unless _ here.at _ _ (omega arith) (omega arith)) (within_unless _ here.at _ _ (omega arith) (omega arith))) (within_unless _ here.at _ _ (omega arith) (omega arith)))
      (before (inside_tokens 1) (inside_mark _))

  -- A parameter, and all of them.
  parameter_typed : (p : Param) (t : ObjectType) (here : Place) (k : Known) → Within w here.before k
      → Walks w (parameter_base w p.base p.stars p.brackets ⊗> name_part p.name t <⊗ tokens (bracket_tokens p.brackets)) here
      (first_rule o k p.base p.stars p.brackets >>= (λ _. rules_of k p.name t >>= (λ _. Ok (tt, declare_local o p.name t k))))
  parameter_typed p t here k is =
      let b = parameter_base w p.base p.stars p.brackets in
      goes_before (Within w) (bracket_tokens p.brackets) (b ⊗> name_part p.name t) here _
      (goes_ruled (Within w) b (name_part p.name t) here (first_rule o k p.base p.stars p.brackets) (rules_of k p.name t >>= (λ _. Ok (tt, declare_local o p.name t k)))
      (parameter_base_inside p.base p.stars p.brackets) (name_inside p.name t) (first_rule_told p.base p.stars p.brackets here k is)
      (name_walks p.name t (behind b here) k (subst (λ h. Within w h k) (sym (before_same b here (parameter_base_quiet p.base p.stars p.brackets))) is)))

  pub parameter_walks : (p : Param) (here : Place) (k : Known) → Within w here.before k → Walks w (parameter w p) here (parameter_walk o p k)
  parameter_walks p here k is =
      let t = types.pointers_to w.tags p.base (parameter_stars p.stars p.brackets) in
      subst (λ u. Walks w (parameter w p) here (first_rule o k p.base p.stars p.brackets >>= (λ _. rules_of k p.name u >>= (λ _. Ok (tt, declare_local o p.name u k)))))
      (sym (pointers_same w o is_outline p.base (parameter_stars p.stars p.brackets))) (parameter_typed p t here k is)

  pub parameters_walk : (p : Params) (here : Place) (k : Known) → Within w here.before k → Walks w (parameters w p) here (units_walk o p k)
  parameters_walk Params.Empty here k is = goes_given (Within w) [] here k is
  parameters_walk (Params.Void line) here k is = record { tells = (refl, refl); stands = λ s e. subst (Within w here.before) (ap (λ s. s.1) (ok_is e)) is }
  parameters_walk (Params.List ps) here k is = goes_separated (Within w) (parameter w) (parameter_walk o) (inside_parameter w) parameter_walks ps here k is
