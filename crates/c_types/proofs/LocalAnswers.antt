-- What the walk finds of the declarations of a function is what the definition judges of them.
use Rattle.std.proofs.Common.{◌≡◌, ℕ, zero, suc, ◌+◌, Bool, true, false, ◌&&◌, ◌||◌, not, List, ◌++◌, Option, Some, None, Ok, Err, nat_eq, nat_lt, nat_le, refl, ap, sym, ◌∙◌, subst, arith}
use Rattle.std.proofs.lemmas.Bool.Decides.{nat_tests}
use Rattle.dfi_base.specs.declared.numbers.Line.{Line}
use Rattle.c_typed.specs.declared.fault.BigWhat.{BigWhat}
use Rattle.c_typed.specs.declared.fault.TypeFault.{TypeFault}
use Rattle.c_typed.specs.Faults.{Fault, twice, mismatch, big, unless, told}
use Rattle.c_types.specs.tools.Answers.{precedes, earlier, least}
use Rattle.c_types.specs.tools.Steps.{Found}
use Rattle.c_types.specs.tools.DeclWalk.{declarator_rule}

-- The faults of a name, in their order.
abbrev pub name_faults : ℕ → Line → Bool → Bool → Bool → List Fault
name_faults n line new shape frame = unless new n twice line ++ unless shape n (big BigWhat.Shape) line ++ unless frame n (big BigWhat.Frame) line

abbrev pub first_of : ℕ → Line → Bool → Bool → Bool → Option Fault
first_of n line false shape frame = Some (record { at = n; rule = twice; line = line })
first_of n line true false frame = Some (record { at = n; rule = big BigWhat.Shape; line = line })
first_of n line true true false = Some (record { at = n; rule = big BigWhat.Frame; line = line })
first_of n line true true true = None

not_less : (n : ℕ) → nat_lt n n ≡ false
not_less n = grind (arith, nat_tests)

own : (n : ℕ) → nat_eq n n ≡ true
own n = grind (arith, nat_tests)

-- of two at one token the first in the order
abbrev at_token : Bool → Bool → Fault → Fault → Bool
at_token less same f g = less || same && nat_le (Rattle.c_typed.specs.Faults.order f.rule) (Rattle.c_typed.specs.Faults.order g.rule)

pub together : (f g : Fault) → f.at ≡ g.at → precedes f g ≡ nat_le (Rattle.c_typed.specs.Faults.order f.rule) (Rattle.c_typed.specs.Faults.order g.rule)
together f g same =
    ap (λ n. at_token (nat_lt n g.at) (nat_eq n g.at) f g) same ∙ ap (λ b. at_token b (nat_eq g.at g.at) f g) (not_less g.at) ∙ ap (λ b. at_token false b f g) (own g.at)

abbrev chosen : Fault → Fault → Bool → Option Fault
chosen f g b = elim b [ true ↦ Some f | false ↦ Some g ]

pub first_stays : (f g : Fault) → f.at ≡ g.at → nat_le (Rattle.c_typed.specs.Faults.order f.rule) (Rattle.c_typed.specs.Faults.order g.rule) ≡ true → earlier f (Some g) ≡ Some f
first_stays f g same le = ap (chosen f g) (together f g same ∙ le)

abbrev twice_at : ℕ → Line → Fault
twice_at n line = record { at = n; rule = twice; line = line }

abbrev shape_at : ℕ → Line → Fault
shape_at n line = record { at = n; rule = big BigWhat.Shape; line = line }

abbrev frame_at : ℕ → Line → Fault
frame_at n line = record { at = n; rule = big BigWhat.Frame; line = line }

two_left : (n : ℕ) (line : Line) → least (name_faults n line true false false) ≡ first_of n line true false false
two_left n line = first_stays (shape_at n line) (frame_at n line) refl refl

pub first_name : (n : ℕ) (line : Line) (new shape frame : Bool) → least (name_faults n line new shape frame) ≡ first_of n line new shape frame
first_name n line true true true = refl
first_name n line true true false = refl
first_name n line true false true = refl
first_name n line true false false = two_left n line
first_name n line false true true = refl
first_name n line false true false = first_stays (twice_at n line) (frame_at n line) refl refl
first_name n line false false true = first_stays (twice_at n line) (shape_at n line) refl refl
first_name n line false false false = ap (earlier (twice_at n line)) (two_left n line) ∙ first_stays (twice_at n line) (shape_at n line) refl refl

-- A rule of the declarator beside those of its name: it stands at the first token, s tokens before the name.
abbrev pub head : ℕ → Line → Fault
head at line = record { at = at; rule = mismatch; line = line }

abbrev pub told_there : Option Fault → Option TypeFault
told_there None = None
told_there (Some f) = Some (told f)

abbrev pub told_at : ℕ → Line → Bool → Bool → Bool → Option TypeFault
told_at n line new shape frame = told_there (first_of n line new shape frame)

before_name : (at s : ℕ) (line : Line) (g : Fault) → g.at ≡ at + suc s → precedes (head at line) g ≡ true
before_name at s line g is = grind (arith, nat_tests, is)

at_name : (at s : ℕ) → nat_eq s 0 ≡ true → at ≡ at + s
at_name at s e = grind (arith, nat_tests, e)

later_than : (at s : ℕ) (line name : Line) (new shape frame : Bool) → earlier (head at line) (first_of (at + suc s) name new shape frame) ≡ Some (head at line)
later_than at s line name false shape frame = ap (chosen _ _) (before_name at s line (record { at = at + suc s; rule = twice; line = name }) refl)
later_than at s line name true false frame = ap (chosen _ _) (before_name at s line (record { at = at + suc s; rule = big BigWhat.Shape; line = name }) refl)
later_than at s line name true true false = ap (chosen _ _) (before_name at s line (record { at = at + suc s; rule = big BigWhat.Frame; line = name }) refl)
later_than at s line name true true true = refl

same_token : (at : ℕ) (line name : Line) (shape frame : Bool) → earlier (head at line) (first_of (at + 0) name true shape frame) ≡ Some (head at line)
same_token at line name false frame = ap (chosen _ _) (together (head at line) (record { at = at + 0; rule = big BigWhat.Shape; line = name }) (omega arith))
same_token at line name true false = ap (chosen _ _) (together (head at line) (record { at = at + 0; rule = big BigWhat.Frame; line = name }) (omega arith))
same_token at line name true true = refl

twice_first : (at : ℕ) (line name : Line) (shape frame : Bool) → earlier (head at line) (first_of (at + 0) name false shape frame) ≡ Some (record { at = at + 0; rule = twice; line = name })
twice_first at line name shape frame = ap (chosen _ _) (together (head at line) (record { at = at + 0; rule = twice; line = name }) (omega arith))

-- what the walk tells of it
abbrev pub IsFirstTold : Option Fault → Found (Unit {0}) → Type 0
IsFirstTold None r = r ≡ Ok (tt {0})
IsFirstTold (Some f) r = r ≡ Err (told f)

pub rule_kept : (first : Bool) (line : Line) (n : ℕ) (name : Line) (new shape frame : Bool) → IsFirstTold (first_of n name new shape frame) (declarator_rule first line true (told_at n name new shape frame))
rule_kept first line n name false shape frame = refl
rule_kept first line n name true false frame = refl
rule_kept first line n name true true false = refl
rule_kept first line n name true true true = refl

-- broken: the name's fault is first where it stands twice at the first token
pub rule_broken : (at s : ℕ) (line name : Line) (new shape frame : Bool)
    → IsFirstTold (earlier (head at line) (first_of (at + s) name new shape frame)) (declarator_rule (nat_eq s 0 && not new) line false (told_at (at + s) name new shape frame))
rule_broken at zero line name true shape frame =
    subst (λ o. IsFirstTold o (declarator_rule false line false (told_at (at + 0) name true shape frame))) (sym (same_token at line name shape frame)) refl
rule_broken at zero line name false shape frame =
    subst (λ o. IsFirstTold o (declarator_rule true line false (told_at (at + 0) name false shape frame))) (sym (twice_first at line name shape frame)) refl
rule_broken at (suc s) line name new shape frame =
    subst (λ b. IsFirstTold (earlier (head at line) (first_of (at + suc s) name new shape frame)) (declarator_rule (b && not new) line false (told_at (at + suc s) name new shape frame))) (sym (not_zero s))
    (subst (λ o. IsFirstTold o (declarator_rule false line false (told_at (at + suc s) name new shape frame))) (sym (later_than at s line name new shape frame)) refl) where
      not_zero : (s : ℕ) → nat_eq (suc s) 0 ≡ false
      not_zero s = grind (arith, nat_tests)
