-- What the walk finds of globals is what the definition judges of them.
use Rattle.std.proofs.Common.{◌≡◌, ℕ, ◌+◌, ℤ, pos, Bool, true, false, ◌&&◌, not, List, [], ◌∷◌, map, nat_abs, Option, Some, None, Ok, Err, is_some, nat_eq, nat_le, refl, ap, sym, ◌∙◌, subst, arith}
use Rattle.std.proofs.Math.Bool.{and-true}
use Rattle.dfi_base.specs.declared.numbers.Line.{Line}
use Rattle.c_ast.specs.declared.decl.Base.{Base}
use Rattle.c_ast.specs.declared.decl.Decl.{Decl}
use Rattle.c_ast.specs.declared.decl.DeclItem.{DeclItem}
use Rattle.c_ast.specs.declared.decl.Declarator.{Declarator}
use Rattle.c_typed.specs.declared.fault.BigWhat.{BigWhat}
use Rattle.c_typed.specs.declared.fault.TypeFault.{TypeFault}
use Rattle.c_typed.specs.declared.types.ObjectType.{ObjectType}
use Rattle.c_types.specs.declared.outline.Outline.{Outline}
use Rattle.c_types.specs.declared.known.Known.{Known}
use Rattle.c_typed.specs.Types as types
use Rattle.c_typed.specs.Marks as marks
use Rattle.c_typed.specs.Marks.{global, History}
use Rattle.c_typed.specs.Whole as whole
use Rattle.c_typed.specs.Whole.{Whole}
use Rattle.c_typed.specs.Faults.{twice, mismatch, big, told_by}
use Rattle.c_typed.specs.Parts.{Place, tokens, mark, with_faults, ◌<⊗◌}
use Rattle.c_typed.specs.Decls.{has_items, type_limit, name_at, by_value, declarator_tokens}
use Rattle.c_typed.specs.Programs as programs
use Rattle.c_typed.specs.Programs.{start_of, global_limit, global_faults, value_tokens, global_item, global_decl}
use Rattle.c_types.specs.tools.Steps.{Found, ◌>>=◌, every}
use Rattle.c_types.specs.tools.Outlines as outlines
use Rattle.c_types.specs.tools.Outlines.{capped, spelled}
use Rattle.c_types.specs.tools.DeclWalk.{declarator_rule}
use Rattle.c_types.specs.tools.ProgramSteps.{global_declared}
use Rattle.c_types.specs.tools.ProgramWalk.{global_first, global_fault, started, global_by, global_item_walk, global_decl_walk}
use Rattle.c_types.proofs.BoundsPrograms.{inside_global_item}
use Rattle.c_typed.proofs.TypesSame.{and_false}
use Rattle.c_types.proofs.Outlined.{IsOutline, base_same}
use Rattle.c_types.proofs.OutlineWords.{words_same, capped_sum, capped_le}
use Rattle.c_types.proofs.Standing.{names_of}
use Rattle.c_types.proofs.LocalAnswers.{IsFirstTold, told_there}
use Rattle.c_types.proofs.TokenRules.{Test, first_at, first_with, least_declared, declarator_told}
use Rattle.c_types.proofs.Walking.{Goes, goes_before, unvalued, unit_unvalued, every_as_each}
use Rattle.c_types.proofs.NoteAnswers.{leaving, goes_noted, listed, goes_listed, listed_unvalued, twice_not}
use Rattle.c_types.proofs.ItemStands.{AtItem, at_global}
use Rattle.c_types.proofs.NameTests.{main_same, taken_same}

-- The rules of a global's name.
abbrev global_tests : Bool → Bool → Bool → Bool → List Test
global_tests taken main small all = (not taken, twice) ∷ (not main, mismatch) ∷ (small, big BigWhat.Shape) ∷ (all, big BigWhat.Globals) ∷ []

abbrev fault_by : Line → Bool → Bool → Bool → Bool → Option TypeFault
fault_by line taken main small all =
    elim taken as (λ b. Option TypeFault) [
      | true ↦ Some (told_by twice line)
      | false ↦ elim main as (λ b. Option TypeFault) [
        | true ↦ Some (told_by mismatch line)
        | false ↦ elim small as (λ b. Option TypeFault) [
          | false ↦ Some (told_by (big BigWhat.Shape) line)
          | true ↦ elim all as (λ b. Option TypeFault) [ true ↦ None | false ↦ Some (told_by (big BigWhat.Globals) line) ]
        ]
      ]
    ]

fault_as : (n : ℕ) (line : Line) (taken main small all : Bool) → fault_by line taken main small all ≡ told_there (first_at n line (global_tests taken main small all))
fault_as n line true main small all = refl
fault_as n line false true small all = refl
fault_as n line false false false all = refl
fault_as n line false false true true = refl
fault_as n line false false true false = refl

-- What it starts with: a value that is none breaks the declarator's rule.
abbrev pub or_zero : Option ℤ → ℤ
or_zero None = pos 0
or_zero (Some n) = n

with_start : (r : Found (Unit {0})) (n : ℤ) (g : ℤ → Known) → (r >>= (λ _. Ok n) >>= (λ n. Ok (tt {0}, g n))) ≡ leaving r (g n)
with_start (Ok u) n g = refl
with_start (Err e) n g = refl

never_kept : (first : Bool) (line : Line) (fault : Option TypeFault) (f : Found ℤ) (l : Known) (g : ℤ → Known)
    → (declarator_rule first line false fault >>= (λ _. f) >>= (λ n. Ok (tt {0}, g n))) ≡ leaving (declarator_rule first line false fault) l
never_kept true line None f l g = refl
never_kept true line (Some e) f l g = refl
never_kept false line fault f l g = refl

started_as : (first : Bool) (line : Line) (holds : Bool) (v : Option ℤ) (fault : Option TypeFault) (g : ℤ → Known)
    → (started first line holds v fault >>= (λ n. Ok (tt {0}, g n))) ≡ leaving (declarator_rule first line (holds && is_some v) fault) (g (or_zero v))
started_as first line holds None fault g =
    never_kept first line fault (Err (told_by mismatch line)) (g (pos 0)) g ∙ ap (λ b. leaving (declarator_rule first line b fault) (g (pos 0))) (sym (and_false holds))
started_as first line holds (Some n) fault g =
    with_start (declarator_rule first line holds fault) n g ∙ ap (λ b. leaving (declarator_rule first line b fault) (g n)) (sym (and-true holds))

-- what the walk finds of a declaration, with what its items give
abbrev pub decl_found : Outline → Decl → Known → Found (List (Unit {0}) × Known)
decl_found o d k = listed o (by_value (map (λ i. i.declarator) d.items)) d.base (global_item_walk o d.base) d.items k

pub decl_unvalued : (o : Outline) (d : Decl) (k : Known) → global_decl_walk o d k ≡ unvalued (decl_found o d k)
decl_unvalued o d k =
    listed_unvalued o (by_value (map (λ i. i.declarator) d.items)) d.base (global_item_walk o d.base) d.items k (every (global_item_walk o d.base) d.items k)
    (every_as_each (global_item_walk o d.base) (global_item_walk o d.base) (λ i k. unit_unvalued (global_item_walk o d.base i k)) d.items k)

module _ (w : Whole) (o : Outline) (is_outline : IsOutline w o) where
  abbrev R : History → Known → Type 0
  R = AtItem w

  abbrev tests_of : Declarator → ObjectType → History → List Test
  tests_of d t h =
      global_tests (programs.is_taken w d.name.name h) (whole.is_main w d.name.name) (nat_le (types.words_of w.sizes t) type_limit)
      (nat_le (marks.global_words w.sizes (global d.name.name t ∷ h)) global_limit)

  fault_told : (d : Declarator) (t : ObjectType) (n : ℕ) (h : History) (k : Known) → AtItem w h k → global_fault o k d.name t ≡ told_there (first_at n d.name.line (tests_of d t h))
  fault_told d t n h k was =
      let x = d.name.name in
      let words = words_same w o is_outline t in
      let sum = capped (outlines.words_of o t + k.declared.global_words) in
      let small = nat_le (types.words_of w.sizes t) type_limit in
      let shape : nat_le (outlines.words_of o t) 24576 ≡ small = ap (λ n. nat_le n 24576) words ∙ capped_le 24576 (types.words_of w.sizes t) (omega arith) in
      let all : nat_le sum 8176 ≡ nat_le (marks.global_words w.sizes (global x t ∷ h)) global_limit =
      ap (λ n. nat_le (capped (n + k.declared.global_words)) 8176) words
      ∙ ap (λ n. nat_le (capped (capped (types.words_of w.sizes t) + n)) 8176) was.outer.global_words
      ∙ ap (λ n. nat_le n 8176) (capped_sum (types.words_of w.sizes t) (marks.global_words w.sizes h))
      ∙ capped_le 8176 (marks.global_words w.sizes (global x t ∷ h)) (omega arith) in
      ap (λ b. fault_by d.name.line b (outlines.is_main (spelled o x)) (nat_le (outlines.words_of o t) 24576) (nat_le sum 8176)) (taken_same w o is_outline x h k was.outer)
      ∙ ap (λ b. fault_by d.name.line (programs.is_taken w x h) b (nat_le (outlines.words_of o t) 24576) (nat_le sum 8176)) (main_same w o is_outline x)
      ∙ ap (λ b. fault_by d.name.line (programs.is_taken w x h) (whole.is_main w x) b (nat_le sum 8176)) shape
      ∙ ap (fault_by d.name.line (programs.is_taken w x h) (whole.is_main w x) small) all
      ∙ fault_as n d.name.line (programs.is_taken w x h) (whole.is_main w x) small (nat_le (marks.global_words w.sizes (global x t ∷ h)) global_limit)

  rule_told : (d : Declarator) (t : ObjectType) (kept : Bool) (here : Place) (k : Known) → AtItem w here.before k
      → IsFirstTold (first_with here.at d.line kept (first_at (name_at d here) d.name.line (tests_of d t here.before)))
      (declarator_rule (global_first o k d) d.line kept (global_fault o k d.name t))
  rule_told d t kept here k was =
      let taken = programs.is_taken w d.name.name here.before in
      let first : global_first o k d ≡ (nat_eq d.stars 0 && not (not taken)) =
      ap (λ b. nat_eq d.stars 0 && b) (taken_same w o is_outline d.name.name here.before k was.outer ∙ sym (twice_not taken)) in
      let tests = tests_of d t here.before in
      subst (IsFirstTold (first_with here.at d.line kept (first_at (name_at d here) d.name.line tests)))
      (sym (ap (λ b. declarator_rule b d.line kept (global_fault o k d.name t)) first
      ∙ ap (declarator_rule (nat_eq d.stars 0 && not (not taken)) d.line kept) (fault_told d t (name_at d here) here.before k was)))
      (declarator_told here.at d.stars d.line d.name.line kept (not taken)
      ((not (whole.is_main w d.name.name), mismatch) ∷ (nat_le (types.words_of w.sizes t) type_limit, big BigWhat.Shape)
      ∷ (nat_le (marks.global_words w.sizes (global d.name.name t ∷ here.before)) global_limit, big BigWhat.Globals) ∷ []) (refl, (refl, (refl, tt))))

  global_goes : (i : DeclItem) (d : Declarator) (t : ObjectType) (here : Place) (k : Known) → AtItem w here.before k
      → Goes R (with_faults (global_faults w i d t) (tokens (declarator_tokens d) <⊗ mark (global d.name.name t))) here (global_by o i d t k)
  global_goes i d t here k was =
      let v = start_of t i.value in
      let kept = has_items t.lengths && is_some v in
      let tests = tests_of d t here.before in
      let r = declarator_rule (global_first o k d) d.line kept (global_fault o k d.name t) in
      subst (Goes R (with_faults (global_faults w i d t) (tokens (declarator_tokens d) <⊗ mark (global d.name.name t))) here)
      (sym (started_as (global_first o k d) d.line (has_items t.lengths) v (global_fault o k d.name t) (λ n. global_declared o d.name t n k)))
      (goes_noted R (global_faults w i d t) (declarator_tokens d) (global d.name.name t) here
      (first_with here.at d.line kept (first_at (name_at d here) d.name.line tests)) r (global_declared o d.name t (or_zero v) k)
      (least_declared here.at (name_at d here) d.line d.name.line kept tests 1 (refl, (refl, (refl, (refl, tt)))))
      (rule_told d t kept here k was) (at_global w o is_outline d.name t (or_zero v) here.before k was))

  global_item_goes : (b : Base) (i : DeclItem) (here : Place) (k : Known) → AtItem w here.before k → Goes R (global_item w b i) here (global_item_walk o b i k)
  global_item_goes b i here k was =
      let d = i.declarator in
      let t = types.declared_type w.tags b d in
      subst (λ t. Goes R (global_item w b i) here (global_by o i d t k))
      (sym (ap (λ b. record { base = b; stars = d.stars; lengths = map nat_abs d.lengths }) (base_same w o is_outline b)))
      (goes_before R (value_tokens w i.value) (with_faults (global_faults w i d t) (tokens (declarator_tokens d) <⊗ mark (global d.name.name t))) here (global_by o i d t k)
      (global_goes i d t here k was))

  pub decl_goes : (d : Decl) (here : Place) (k : Known) → AtItem w here.before k → Goes R (global_decl w d) here (decl_found o d k)
  decl_goes d here k was =
      goes_listed R w o is_outline (by_value (map (λ i. i.declarator) d.items)) d.base (global_item w d.base) (global_item_walk o d.base) (inside_global_item w d.base) (global_item_goes d.base)
      d.items here k (names_of was.outer.stands) was
