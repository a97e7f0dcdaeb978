-- The numbers that words write, and those that a state is in the middle of.
use Rattle.std.proofs.Common.{◌≡◌, ℕ, ◌+◌, ◌-◌, ◌*◌, ◌≤◌, Bool, true, false, nat_eq, List, [], ◌∷◌, ◌++◌, Option, Some, is_some, refl, sym, subst, arith, true≢false}
use Rattle.std.specs.Char.{is_ascii_digit}
use Rattle.std.specs.List.{fold}
use Rattle.std.proofs.lemmas.List.Sums.{fold-append}
use Rattle.std.proofs.lemmas.Bool.Decides.{nat_tests}
use Rattle.number_lists.specs.declared.scan.Form.{Form}
use Rattle.number_lists.specs.declared.scan.Number.{Number}
use Rattle.number_lists.specs.Lists.{is_blank, is_filled, value_of}
use Rattle.number_lists.specs.tools.Scanning.{most_of}
use Rattle.number_lists.proofs.Words.{IsWord}

pub with_digit : ℕ → ℕ → ℕ
with_digit n d = n * 10 + (d - 48)

-- digits with a minus sign or none
abbrev pub signed : Bool → List ℕ → List ℕ
signed true digits = 45 ∷ digits
signed false digits = digits

abbrev pub AreDigits : List ℕ → Type 0
AreDigits [] = Unit {0}
AreDigits (d ∷ digits) = (is_ascii_digit d ≡ true) × AreDigits digits

-- a minus sign stands only where the form has one
abbrev pub MayBe : Form → Bool → Type 0
MayBe form true = is_some form.most_below ≡ true
MayBe form false = Unit {0}

-- a word writes these digits within the form
pub record IsSpelled (form : Form) (negative : Bool) (digits word : List ℕ) : Type 0 where
  pub written : word ≡ signed negative digits
  pub some : is_filled digits ≡ true
  pub decimal : AreDigits digits
  pub within : value_of digits ≤ most_of form negative
  pub sign : MayBe form negative

-- the words that are numbers of a form, and what they make
pub record Makes {A : Type 0} (form : Form) (number : List ℕ → Option A) (make : Number → A) : Type 0 where
  pub gives : (negative : Bool) (digits word : List ℕ) → IsSpelled form negative digits word
      → number word ≡ Some (make (record { negative = negative; magnitude = value_of digits }))
  pub only : (word : List ℕ) (a : A) → number word ≡ Some a → (negative : Bool) × (digits : List ℕ) × IsSpelled form negative digits word

pub digit_is_no_blank : (d : ℕ) → is_ascii_digit d ≡ true → is_blank d ≡ false
digit_is_no_blank d is = grind (arith, nat_tests)

pub digit_is_no_sign : (d : ℕ) → is_ascii_digit d ≡ true → nat_eq d 45 ≡ false
digit_is_no_sign d is = grind (arith, nat_tests)

pub digits_are_word : (digits : List ℕ) → AreDigits digits → IsWord digits
digits_are_word [] are = tt
digits_are_word (d ∷ digits) are = (digit_is_no_blank d are.0, digits_are_word digits are.1)

pub spelled_is_word : (negative : Bool) (digits : List ℕ) → AreDigits digits → IsWord (signed negative digits)
spelled_is_word true digits are = (refl, digits_are_word digits are)
spelled_is_word false digits are = digits_are_word digits are

pub digits_before : (digits more : List ℕ) → AreDigits (digits ++ more) → AreDigits digits × AreDigits more
digits_before [] more are = (tt, are)
digits_before (d ∷ digits) more are = let rest = digits_before digits more are.1 in ((are.0, rest.0), rest.1)

pub digits_behind : (digits : List ℕ) (d : ℕ) → AreDigits digits → is_ascii_digit d ≡ true → AreDigits (digits ++ d ∷ [])
digits_behind [] d are is = (is, tt)
digits_behind (c ∷ digits) d are is = (are.0, digits_behind digits d are.1 is)

abbrev step_of : ℕ → ℕ → ℕ
step_of n d = n * 10 + (d - 48)

-- more digits make no number less
pub grows : (n : ℕ) (digits : List ℕ) → n ≤ fold step_of n digits
grows n [] = omega arith
grows n (d ∷ digits) = let more = grows (step_of n d) digits in omega (arith, more)

pub value_behind : (digits : List ℕ) (d : ℕ) → value_of (digits ++ d ∷ []) ≡ value_of digits * 10 + (d - 48)
value_behind digits d = fold-append step_of 0 digits (d ∷ [])

pub value_grows : (digits : List ℕ) (d : ℕ) (more : List ℕ) → value_of digits * 10 + (d - 48) ≤ value_of (digits ++ d ∷ more)
value_grows digits d more =
    subst (λ v. value_of digits * 10 + (d - 48) ≤ v) (sym (fold-append step_of 0 digits (d ∷ more))) (grows (step_of (value_of digits) d) more)

pub filled_behind : (digits more : List ℕ) → is_filled digits ≡ true → is_filled (digits ++ more) ≡ true
filled_behind [] more is = absurd (true≢false (sym is))
filled_behind (d ∷ digits) more is = refl
