-- What the walk finds of a struct is what the definition judges of it.
use Rattle.std.proofs.Common.{◌≡◌, ℕ, ◌+◌, Bool, true, false, ◌&&◌, not, List, [], ◌∷◌, ◌++◌, map, nat_abs, Option, Some, None, Ok, Err, is_some, nat_eq, nat_le, refl, ap, sym, ◌∙◌, subst, arith}
use Rattle.std.proofs.lemmas.List.{append-nil}
use Rattle.dfi_base.specs.declared.numbers.Line.{Line}
use Rattle.c_ast.specs.declared.decl.Base.{Base}
use Rattle.c_ast.specs.declared.decl.Declarator.{Declarator}
use Rattle.c_ast.specs.declared.program.Field.{Field}
use Rattle.c_ast.specs.declared.program.StructDef.{StructDef}
use Rattle.c_typed.specs.declared.fault.BigWhat.{BigWhat}
use Rattle.c_typed.specs.declared.fault.TypeFault.{TypeFault}
use Rattle.c_typed.specs.declared.types.ObjectType.{ObjectType}
use Rattle.c_types.specs.declared.outline.Outline.{Outline}
use Rattle.c_types.specs.declared.known.Known.{Known}
use Rattle.c_typed.specs.Types as types
use Rattle.c_typed.specs.Marks as marks
use Rattle.c_typed.specs.Marks.{field, opens, closes, tag, History, has_field, field_words}
use Rattle.c_typed.specs.Whole.{Whole}
use Rattle.c_typed.specs.Faults.{Fault, twice, big, unless, told_by}
use Rattle.c_typed.specs.Parts.{Place, Part, marked, tokens, mark, with_faults, behind, in_turn, ◌<⊗◌, ◌⊗>◌}
use Rattle.c_typed.specs.Decls.{has_items, type_limit, name_at, by_value, declarator_tokens, field_faults, field_item, fields}
use Rattle.c_typed.specs.Programs.{struct}
use Rattle.c_types.specs.tools.Answers.{least}
use Rattle.c_types.specs.tools.Steps.{Found, ◌>>=◌, each, one, every, unless_kept}
use Rattle.c_types.specs.tools.Outlines as outlines
use Rattle.c_types.specs.tools.Outlines.{capped}
use Rattle.c_types.specs.tools.Tables.{looked}
use Rattle.c_types.specs.tools.DeclWalk.{declarator_rule}
use Rattle.c_types.specs.tools.ProgramSteps.{struct_begun, field_declared, struct_ended}
use Rattle.c_types.specs.tools.ProgramWalk.{field_first, field_fault, field_by, field_item_walk, field_line_walk, fields_walk, struct_walk}
use Rattle.c_types.proofs.AnswerLaws.{AllBefore, AllFrom}
use Rattle.c_types.proofs.BoundsDecls.{inside_field_item, inside_fields, inside_in_turn, all_inside}
use Rattle.c_typed.proofs.Balanced.{marked_append}
use Rattle.c_types.proofs.Tells.{Tells, tells_second, tells_before, tells_before_mark, tells_with_none, tells_with_some}
use Rattle.c_types.proofs.Outlined.{IsOutline, base_same}
use Rattle.c_types.proofs.OutlineWords.{words_same, capped_sum, capped_le}
use Rattle.c_types.proofs.LocalAnswers.{IsFirstTold, told_there}
use Rattle.c_types.proofs.TokenRules.{Test, first_at, first_with, least_declared, declarator_told}
use Rattle.c_types.proofs.Walking.{Goes, result_of, ok_is, err_ok, goes_in_turn, unvalued, unit_unvalued, every_as_each}
use Rattle.c_types.proofs.NoteAnswers.{goes_noted, listed, goes_listed, listed_unvalued, twice_not}
use Rattle.c_types.proofs.ItemStands.{AtItem}
use Rattle.c_types.proofs.FieldStands.{Inside, inside_begun, field_names, inside_field, inside_ended}

-- The rules of a field's name.
abbrev field_tests : Bool → Bool → List Test
field_tests has small = (not has, twice) ∷ (small, big BigWhat.Shape) ∷ []

abbrev fault_by : Line → Bool → Bool → Option TypeFault
fault_by line has small =
    elim has as (λ b. Option TypeFault) [
      | true ↦ Some (told_by twice line)
      | false ↦ elim small as (λ b. Option TypeFault) [ true ↦ None | false ↦ Some (told_by (big BigWhat.Shape) line) ]
    ]

fault_as : (n : ℕ) (line : Line) (has small : Bool) → fault_by line has small ≡ told_there (first_at n line (field_tests has small))
fault_as n line true small = refl
fault_as n line false true = refl
fault_as n line false false = refl

abbrev pub line_found : Outline → Field → Known → Found (List (Unit {0}) × Known)
line_found o f k = listed o (by_value f.items) f.base (field_item_walk o f.base) f.items k

module _ (w : Whole) (o : Outline) (is_outline : IsOutline w o) (g : History) (l : Known) (was : AtItem w g l) where
  abbrev R : History → Known → Type 0
  R = Inside w g l

  abbrev small_with : Declarator → ObjectType → History → Bool
  small_with d t h = nat_le (field_words w.sizes (field d.name.name t ∷ h)) type_limit

  field_told : (d : Declarator) (t : ObjectType) (here : Place) (k : Known) → R here.before k
      → IsFirstTold (first_with here.at d.line (has_items t.lengths) (first_at (name_at d here) d.name.line (field_tests (has_field d.name.name here.before) (small_with d t here.before))))
      (declarator_rule (field_first k d) d.line (has_items t.lengths) (field_fault o k d.name t))
  field_told d t here k is =
      let has = has_field d.name.name here.before in
      let small = small_with d t here.before in
      let words : nat_le (capped (outlines.words_of o t + k.declared.field_words)) 24576 ≡ small =
      ap (λ n. nat_le (capped (n + k.declared.field_words)) 24576) (words_same w o is_outline t)
      ∙ ap (λ n. nat_le (capped (capped (types.words_of w.sizes t) + n)) 24576) is.words
      ∙ ap (λ n. nat_le n 24576) (capped_sum (types.words_of w.sizes t) (field_words w.sizes here.before))
      ∙ capped_le 24576 (field_words w.sizes (field d.name.name t ∷ here.before)) (omega arith) in
      let fault : field_fault o k d.name t ≡ told_there (first_at (name_at d here) d.name.line (field_tests has small)) =
      ap (λ b. fault_by d.name.line b (nat_le (capped (outlines.words_of o t + k.declared.field_words)) 24576)) (is.named d.name.name)
      ∙ ap (fault_by d.name.line has) words ∙ fault_as (name_at d here) d.name.line has small in
      let first : field_first k d ≡ (nat_eq d.stars 0 && not (not has)) = ap (λ b. nat_eq d.stars 0 && b) (is.named d.name.name ∙ sym (twice_not has)) in
      subst (IsFirstTold (first_with here.at d.line (has_items t.lengths) (first_at (name_at d here) d.name.line (field_tests has small))))
      (sym (ap (λ b. declarator_rule b d.line (has_items t.lengths) (field_fault o k d.name t)) first ∙ ap (declarator_rule (nat_eq d.stars 0 && not (not has)) d.line (has_items t.lengths)) fault))
      (declarator_told here.at d.stars d.line d.name.line (has_items t.lengths) (not has) ((small, big BigWhat.Shape) ∷ []) (refl, tt))

  field_goes : (d : Declarator) (t : ObjectType) (here : Place) (k : Known) → R here.before k
      → Goes R (with_faults (field_faults w d t) (tokens (declarator_tokens d) <⊗ mark (field d.name.name t))) here (field_by o d t k)
  field_goes d t here k is =
      let tests = field_tests (has_field d.name.name here.before) (small_with d t here.before) in
      goes_noted R (field_faults w d t) (declarator_tokens d) (field d.name.name t) here
      (first_with here.at d.line (has_items t.lengths) (first_at (name_at d here) d.name.line tests))
      (declarator_rule (field_first k d) d.line (has_items t.lengths) (field_fault o k d.name t)) (field_declared o d.name t k)
      (least_declared here.at (name_at d here) d.line d.name.line (has_items t.lengths) tests 1 (refl, (refl, tt)))
      (field_told d t here k is) (inside_field w o is_outline g l d.name t here.before k is)

  field_item_goes : (b : Base) (d : Declarator) (here : Place) (k : Known) → R here.before k → Goes R (field_item w b d) here (field_item_walk o b d k)
  field_item_goes b d here k is =
      subst (λ t. Goes R (field_item w b d) here (field_by o d t k))
      (sym (ap (λ b. record { base = b; stars = d.stars; lengths = map nat_abs d.lengths }) (base_same w o is_outline b)))
      (field_goes d (types.declared_type w.tags b d) here k is)

  line_goes : (f : Field) (here : Place) (k : Known) → R here.before k → Goes R (fields w f) here (line_found o f k)
  line_goes f here k is =
      goes_listed R w o is_outline (by_value f.items) f.base (field_item w f.base) (field_item_walk o f.base) (inside_field_item w f.base) (field_item_goes f.base) f.items here k
      (field_names w g l was here.before k is) is

  lines_go : (fs : List Field) (here : Place) (k : Known) → R here.before k → Goes R (in_turn (map (fields w) fs)) here (each one (line_found o) fs k)
  lines_go fs here k is = goes_in_turn R (fields w) (line_found o) (inside_fields w) line_goes fs here k is

-- the walk over them without values
line_unvalued : (o : Outline) (f : Field) (k : Known) → field_line_walk o f k ≡ unvalued (line_found o f k)
line_unvalued o f k =
    listed_unvalued o (by_value f.items) f.base (field_item_walk o f.base) f.items k (every (field_item_walk o f.base) f.items k)
    (every_as_each (field_item_walk o f.base) (field_item_walk o f.base) (λ d k. unit_unvalued (field_item_walk o f.base d k)) f.items k)

lines_unvalued : (o : Outline) (fs : List Field) (k : Known) → fields_walk o fs k ≡ unvalued (each one (line_found o) fs k)
lines_unvalued o fs k = every_as_each (field_line_walk o) (line_found o) (line_unvalued o) fs k

-- what the walk finds of a struct, with what its fields give
abbrev ended : StructDef → List (List (Unit {0})) × Known → Found (List (List (Unit {0})) × Known)
ended d s = Ok (s.0, struct_ended d.tag.name s.1)

abbrev pub struct_found : Outline → StructDef → Known → Found (List (List (Unit {0})) × Known)
struct_found o d k = unless_kept (not (is_some (looked k.declared.tags d.tag.name))) twice d.tag.line (each one (line_found o) d.fields (struct_begun k) >>= ended d)

abbrev done : StructDef → (Unit {0}) × Known → Found ((Unit {0}) × Known)
done d s = Ok (tt, struct_ended d.tag.name s.1)

ended_unvalued : (d : StructDef) (b : Bool) (r : Found (List (List (Unit {0})) × Known)) (f : Found ((Unit {0}) × Known)) → f ≡ unvalued r
    → unless_kept b twice d.tag.line (f >>= done d) ≡ unvalued (unless_kept b twice d.tag.line (r >>= ended d))
ended_unvalued d true (Ok s) f is = ap (λ f. f >>= done d) is
ended_unvalued d true (Err e) f is = ap (λ f. f >>= done d) is
ended_unvalued d false r f is = refl

pub struct_unvalued : (o : Outline) (d : StructDef) (k : Known) → struct_walk o d k ≡ unvalued (struct_found o d k)
struct_unvalued o d k =
    ended_unvalued d (not (is_some (looked k.declared.tags d.tag.name))) (each one (line_found o) d.fields (struct_begun k)) (fields_walk o d.fields (struct_begun k)) (lines_unvalued o d.fields (struct_begun k))

-- A whole struct.
module _ (w : Whole) (o : Outline) (is_outline : IsOutline w o) (d : StructDef) where
  abbrev head : Part (Unit {0})
  head = tokens 3 ⊗> mark (opens marks.fields)

  abbrev lines : Part (List (List (Unit {0})))
  lines = in_turn (map (fields w) d.fields)

  abbrev braced : Part (List (List (Unit {0})))
  braced = head ⊗> lines <⊗ tokens 2 <⊗ mark closes <⊗ mark (tag d.tag.name)

  abbrev own_fault : Place → List Fault
  own_fault here = unless (not (marks.has_tag d.tag.name here.before)) (here.at + 1) twice d.tag.line

  behind_head : (here : Place) (r : Found (List (List (Unit {0})))) → Tells (lines.judge (behind head here)) r → Tells ((head ⊗> lines).judge here) r
  behind_head here (Ok a) is = tells_second (λ u a. a) head lines here (tt {0}) (Ok a) (refl, refl) is
  behind_head here (Err e) is = tells_second (λ u a. a) head lines here (tt {0}) (Err e) (refl, refl) is

  braced_tells : (here : Place) (r : Found (List (List (Unit {0})))) → Tells (lines.judge (behind head here)) r → Tells (braced.judge here) r
  braced_tells here r is =
      tells_before_mark (tag d.tag.name) (head ⊗> lines <⊗ tokens 2 <⊗ mark closes) here r
      (tells_before_mark closes (head ⊗> lines <⊗ tokens 2) here r (tells_before 2 (head ⊗> lines) here r (behind_head here r is)))

  braced_marks : (h : History) → marked braced.marks h ≡ tag d.tag.name ∷ closes ∷ marked lines.marks (opens marks.fields ∷ h)
  braced_marks h =
      let fs = opens marks.fields ∷ (lines.marks ++ []) in
      marked_append (fs ++ (closes ∷ [])) (tag d.tag.name ∷ []) h ∙ ap (λ h. tag d.tag.name ∷ h) (marked_append fs (closes ∷ []) h)
      ∙ ap (λ ms. tag d.tag.name ∷ closes ∷ marked ms (opens marks.fields ∷ h)) (append-nil lines.marks)

  inner_faults : (here : Place) → AllFrom (here.at + 3) (braced.judge here).faults
  inner_faults here =
      let fs = (lines.judge (behind head here)).faults in
      let from : AllFrom (here.at + 3) fs = ((inside_in_turn (all_inside (fields w) (inside_fields w) d.fields)).within (behind head here)).start in
      subst (AllFrom (here.at + 3)) (sym (append-nil (fs ++ [] ++ []) ∙ append-nil (fs ++ []) ∙ append-nil fs)) from

  ended_result : (r : Found (List (List (Unit {0})) × Known)) → result_of r ≡ result_of (r >>= ended d)
  ended_result (Ok s) = refl
  ended_result (Err e) = refl

  ended_known : (r : Found (List (List (Unit {0})) × Known)) (s : List (List (Unit {0})) × Known) → (r >>= ended d) ≡ Ok s → (t : List (List (Unit {0})) × Known) × (r ≡ Ok t) × (struct_ended d.tag.name t.1 ≡ s.1)
  ended_known (Ok t) s e = (t, refl, ap (λ s. s.1) (ok_is e))
  ended_known (Err x) s e = absurd (err_ok e)

  abbrev Kept : Place → Found (List (List (Unit {0})) × Known) → Type 0
  Kept here r = Goes (AtItem w) (struct w d) here r

  -- its tag is new, or not
  by_tag : (here : Place) (k : Known) (new : Bool) → AtItem w here.before k → not (marks.has_tag d.tag.name here.before) ≡ new
      → Kept here (unless_kept new twice d.tag.line (each one (line_found o) d.fields (struct_begun k) >>= ended d))
  by_tag here k true was new =
      let r = each one (line_found o) d.fields (struct_begun k) in
      let go = lines_go w o is_outline here.before k was d.fields (behind head here) (struct_begun k) (inside_begun w here.before k was) in
      record {
        tells = tells_with_none own_fault braced here (result_of (r >>= ended d)) (ap (λ b. unless b (here.at + 1) twice d.tag.line) new)
            (subst (Tells (braced.judge here)) (ended_result r) (braced_tells here (result_of r) go.tells));
        stands = λ s e.
            let t = ended_known r s e in
            subst (AtItem w (marked braced.marks here.before)) t.2
            (subst (λ h. AtItem w h (struct_ended d.tag.name t.0.1)) (sym (braced_marks here.before))
            (inside_ended w here.before k d.tag.name (marked lines.marks (opens marks.fields ∷ here.before)) t.0.1 was (go.stands t.0 t.1)));
      }
  by_tag here k false was old =
      let f : Fault = record { at = here.at + 1; rule = twice; line = d.tag.line } in
      let one_fault : own_fault here ≡ f ∷ [] = ap (λ b. unless b (here.at + 1) twice d.tag.line) old in
      record {
        tells = tells_with_some (here.at + 3) own_fault braced here f (ap least one_fault) (subst (AllBefore (here.at + 3)) (sym one_fault) (omega arith, tt)) (inner_faults here);
        stands = λ s e. absurd (err_ok e);
      }

  pub struct_goes : (here : Place) (k : Known) → AtItem w here.before k → Goes (AtItem w) (struct w d) here (struct_found o d k)
  struct_goes here k was =
      subst (λ b. Kept here (unless_kept b twice d.tag.line (each one (line_found o) d.fields (struct_begun k) >>= ended d))) (sym (ap not (was.outer.stands.tags d.tag.name)))
      (by_tag here k (not (marks.has_tag d.tag.name here.before)) was refl)
