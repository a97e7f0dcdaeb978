-- Rules of one token, in their order: the first that is broken is told.
use Rattle.std.proofs.Common.{◌≡◌, ℕ, zero, suc, ◌+◌, Bool, true, false, ◌&&◌, ◌||◌, not, List, [], ◌∷◌, ◌++◌, Option, Some, None, nat_eq, nat_lt, nat_le, refl, ap, sym, ◌∙◌, subst, append_assoc, arith}
use Rattle.std.proofs.lemmas.Bool.Decides.{nat_tests}
use Rattle.std.proofs.lemmas.List.{append-nil}
use Rattle.dfi_base.specs.declared.numbers.Line.{Line}
use Rattle.c_typed.specs.Faults.{Rule, Fault, twice, mismatch, unless, told, order}
use Rattle.c_types.specs.tools.Answers.{earlier, least}
use Rattle.c_types.specs.tools.DeclWalk.{declarator_rule, no_fault}
use Rattle.c_typed.proofs.TypesSame.{and_false}
use Rattle.c_types.proofs.LocalAnswers.{head, told_there, IsFirstTold, together}

-- whether a rule is kept, and the rule
abbrev pub Test : Type 0
Test = Bool × Rule

abbrev pub fault_of : ℕ → Line → Test → List Fault
fault_of n line t = unless t.0 n t.1 line

abbrev pub faults_at : ℕ → Line → List Test → List Fault
faults_at n line [] = []
faults_at n line (t ∷ ts) = fault_of n line t ++ faults_at n line ts

-- behind those that are there
abbrev pub faults_behind : List Fault → ℕ → Line → List Test → List Fault
faults_behind fs n line [] = fs
faults_behind fs n line (t ∷ ts) = faults_behind (fs ++ fault_of n line t) n line ts

pub behind_is : (fs : List Fault) (n : ℕ) (line : Line) (ts : List Test) → faults_behind fs n line ts ≡ fs ++ faults_at n line ts
behind_is fs n line [] = sym (append-nil fs)
behind_is fs n line (t ∷ ts) = behind_is (fs ++ fault_of n line t) n line ts ∙ append_assoc fs (fault_of n line t) (faults_at n line ts)

abbrev pub first_at : ℕ → Line → List Test → Option Fault
first_at n line [] = None
first_at n line (t ∷ ts) = elim t.0 [ true ↦ first_at n line ts | false ↦ Some (record { at = n; rule = t.1; line = line }) ]

-- their orders rise, from m on
abbrev pub Rise : ℕ → List Test → Type 0
Rise m [] = Unit {0}
Rise m (t ∷ ts) = (nat_le m (order t.1) ≡ true) × Rise (order t.1) ts

-- it stands at n, and is no earlier in the order than m
abbrev pub StandsAt : ℕ → ℕ → Option Fault → Type 0
StandsAt n m None = Unit {0}
StandsAt n m (Some f) = (f.at ≡ n) × (nat_le m (order f.rule) ≡ true)

le_le : (l m n : ℕ) → nat_le l m ≡ true → nat_le m n ≡ true → nat_le l n ≡ true
le_le l m n is that = grind (arith, nat_tests, is, that)

le_itself : (n : ℕ) → nat_le n n ≡ true
le_itself n = grind (arith, nat_tests)

later_in : (n l m : ℕ) (o : Option Fault) → nat_le l m ≡ true → StandsAt n m o → StandsAt n l o
later_in n l m None le is = tt
later_in n l m (Some f) le is = (is.0, le_le l m (order f.rule) le is.1)

pub first_stands : (n m : ℕ) (line : Line) (ts : List Test) → Rise m ts → StandsAt n m (first_at n line ts)
first_stands n m line [] rise = tt
first_stands n m line (t ∷ ts) rise = by t.0 (later_in n m (order t.1) (first_at n line ts) rise.0 (first_stands n (order t.1) line ts rise.1)) where
  by : (b : Bool) → StandsAt n m (first_at n line ts) → StandsAt n m (elim b [ true ↦ first_at n line ts | false ↦ Some (record { at = n; rule = t.1; line = line }) ])
  by true rest = rest
  by false rest = (refl, rise.0)

abbrev chosen : Fault → Fault → Bool → Option Fault
chosen f g b = elim b [ true ↦ Some f | false ↦ Some g ]

stays : (f : Fault) (o : Option Fault) → StandsAt f.at (order f.rule) o → earlier f o ≡ Some f
stays f None is = refl
stays f (Some g) is = ap (chosen f g) (together f g (sym is.0) ∙ is.1)

pub first_is : (n m : ℕ) (line : Line) (ts : List Test) → Rise m ts → least (faults_at n line ts) ≡ first_at n line ts
first_is n m line [] rise = refl
first_is n m line (t ∷ ts) rise = by t.0 (first_is n (order t.1) line ts rise.1) where
  by : (b : Bool) → least (faults_at n line ts) ≡ first_at n line ts → least (unless b n t.1 line ++ faults_at n line ts) ≡ elim b [ true ↦ first_at n line ts | false ↦ Some (record { at = n; rule = t.1; line = line }) ]
  by true rest = rest
  by false rest =
      ap (earlier (record { at = n; rule = t.1; line = line })) rest
      ∙ stays (record { at = n; rule = t.1; line = line }) (first_at n line ts) (first_stands n (order t.1) line ts rise.1)

-- the first of them alone
pub one_token : (n : ℕ) (line : Line) (t : Test) (ts : List Test) → Rise (order t.1) ts → least (faults_behind (fault_of n line t) n line ts) ≡ first_at n line (t ∷ ts)
one_token n line t ts rise = ap least (behind_is (fault_of n line t) n line ts) ∙ first_is n (order t.1) line (t ∷ ts) (le_itself (order t.1), rise)

pub told_first : (o : Option Fault) → IsFirstTold o (no_fault (told_there o))
told_first None = refl
told_first (Some f) = refl

-- A declarator's rule at its first token, s tokens before its name, and the rules of the name.
abbrev pub first_with : ℕ → Line → Bool → Option Fault → Option Fault
first_with at line true o = o
first_with at line false o = earlier (head at line) o

pub least_with : (at : ℕ) (line : Line) (kept : Bool) (fs : List Fault) (o : Option Fault) → least fs ≡ o → least (unless kept at mismatch line ++ fs) ≡ first_with at line kept o
least_with at line true fs o is = is
least_with at line false fs o is = ap (earlier (head at line)) is

pub least_declared : (at n : ℕ) (line name : Line) (kept : Bool) (ts : List Test) (m : ℕ) → Rise m ts
    → least (faults_behind (unless kept at mismatch line) n name ts) ≡ first_with at line kept (first_at n name ts)
least_declared at n line name kept ts m rise =
    ap least (behind_is (unless kept at mismatch line) n name ts) ∙ least_with at line kept (faults_at n name ts) (first_at n name ts) (first_is n m name ts rise)

head_first : (at s : ℕ) (line : Line) (o : Option Fault) → StandsAt (at + s) 2 o → earlier (head at line) o ≡ Some (head at line)
head_first at s line None is = refl
head_first at s line (Some g) is = ap (chosen (head at line) g) (before (nat_le 2 (order g.rule)) is.1) where
  before : (b : Bool) → b ≡ true → nat_lt at g.at || nat_eq at g.at && b ≡ true
  before b e = let at_name = is.0 in grind (arith, nat_tests, at_name, e)

twice_first : (at : ℕ) (line name : Line) → earlier (head at line) (Some (record { at = at + 0; rule = twice; line = name })) ≡ Some (record { at = at + 0; rule = twice; line = name })
twice_first at line name = ap (chosen _ _) (together (head at line) (record { at = at + 0; rule = twice; line = name }) (omega arith))

later_name : (at s : ℕ) (line name : Line) → earlier (head at line) (Some (record { at = at + suc s; rule = twice; line = name })) ≡ Some (head at line)
later_name at s line name = ap (chosen _ _) (before (nat_le 2 1)) where
  before : (b : Bool) → nat_lt at (at + suc s) || nat_eq at (at + suc s) && b ≡ true
  before b = grind (arith, nat_tests)

not_zero : (s : ℕ) → nat_eq (suc s) 0 ≡ false
not_zero s = grind (arith, nat_tests)

broken_new : (at s : ℕ) (line : Line) (o : Option Fault) → StandsAt (at + s) 2 o → IsFirstTold (earlier (head at line) o) (declarator_rule (nat_eq s 0 && false) line false (told_there o))
broken_new at s line o is =
    subst (λ b. IsFirstTold (earlier (head at line) o) (declarator_rule b line false (told_there o))) (sym (and_false (nat_eq s 0)))
    (subst (λ p. IsFirstTold p (declarator_rule false line false (told_there o))) (sym (head_first at s line o is)) refl)

broken_twice : (at s : ℕ) (line name : Line)
    → IsFirstTold (earlier (head at line) (Some (record { at = at + s; rule = twice; line = name }))) (declarator_rule (nat_eq s 0 && true) line false (Some (told (record { at = at + s; rule = twice; line = name }))))
broken_twice at zero line name =
    subst (λ p. IsFirstTold p (declarator_rule true line false (Some (told (record { at = at + 0; rule = twice; line = name }))))) (sym (twice_first at line name)) refl
broken_twice at (suc s) line name =
    subst (λ b. IsFirstTold (earlier (head at line) (Some (record { at = at + suc s; rule = twice; line = name }))) (declarator_rule (b && true) line false (Some (told (record { at = at + suc s; rule = twice; line = name }))))) (sym (not_zero s))
    (subst (λ p. IsFirstTold p (declarator_rule false line false (Some (told (record { at = at + suc s; rule = twice; line = name }))))) (sym (later_name at s line name)) refl)

-- what the walk tells of a declarator whose name has these rules: it is new, and others that are no earlier than its own rule
pub declarator_told : (at s : ℕ) (line name : Line) (kept new : Bool) (ts : List Test) → Rise 2 ts
    → IsFirstTold (first_with at line kept (first_at (at + s) name ((new, twice) ∷ ts))) (declarator_rule (nat_eq s 0 && not new) line kept (told_there (first_at (at + s) name ((new, twice) ∷ ts))))
declarator_told at s line name true new ts rise = told_first (first_at (at + s) name ((new, twice) ∷ ts))
declarator_told at s line name false true ts rise = broken_new at s line (first_at (at + s) name ts) (first_stands (at + s) 2 name ts rise)
declarator_told at s line name false false ts rise = broken_twice at s line name
