-- The two forms of numbers.
use Rattle.std.proofs.Common.{◌≡◌, ℕ, zero, suc, ◌≤◌, Bool, true, false, ◌&&◌, nat_eq, nat_le, ℤ, pos, List, [], ◌∷◌, Option, Some, None, refl, sym, ap, subst, ◌∙◌, arith, true≢false, if◌then◌else◌}
use Rattle.std.specs.Prelude.{option_map, neg_ℤ, FitsSigned}
use Rattle.std.proofs.Common.{w32}
use Rattle.std.specs.Char.{is_ascii_digit}
use Rattle.std.specs.List.{list_all}
use Rattle.std.proofs.lemmas.Bool.Decides.{nat_tests}
use Rattle.dfi_base.specs.declared.numbers.Name.{Name}
use Rattle.number_lists.specs.declared.scan.Form.{Form}
use Rattle.number_lists.specs.declared.scan.Number.{Number}
use Rattle.number_lists.specs.declared.scan.State.{State}
use Rattle.number_lists.specs.Lists.{is_filled, value_of, number_up_to, int_of, name_of}
use Rattle.number_lists.specs.tools.Scanning.{Fits, ended, most_of, int_form, name_form, int_value, name_value}
use Rattle.number_lists.proofs.Numbers.{AreDigits, IsSpelled, Makes}
use Rattle.number_lists.proofs.Walk.{none_some, some_none, is_sign}

all_digits : (digits : List ℕ) → AreDigits digits → list_all is_ascii_digit digits ≡ true
all_digits [] are = refl
all_digits (d ∷ digits) are = ap (λ t. t && list_all is_ascii_digit digits) are.0 ∙ all_digits digits are.1

both_true : (a b : Bool) → (a && b) ≡ true → (a ≡ true) × (b ≡ true)
both_true true b is = (refl, is)
both_true false b is = absurd (true≢false (sym is))

each_digit : (digits : List ℕ) → list_all is_ascii_digit digits ≡ true → AreDigits digits
each_digit [] all = tt
each_digit (d ∷ digits) all = let both = both_true (is_ascii_digit d) (list_all is_ascii_digit digits) all in (both.0, each_digit digits both.1)

-- digits at least one, of a value within the limit
record IsUpTo (most : ℕ) (digits : List ℕ) : Type 0 where
  some : is_filled digits ≡ true
  decimal : AreDigits digits
  within : value_of digits ≤ most

low : (n most : ℕ) → n ≤ most → nat_le n most ≡ true
low n most le = grind (arith, nat_tests)

up_to_gives : (most : ℕ) (digits : List ℕ) → is_filled digits ≡ true → AreDigits digits → value_of digits ≤ most → number_up_to most digits ≡ Some (value_of digits)
up_to_gives most digits some are le =
    ap (λ t. if t && (list_all is_ascii_digit digits && nat_le (value_of digits) most) then Some (value_of digits) else None) some
    ∙ ap (λ t. if t && nat_le (value_of digits) most then Some (value_of digits) else None) (all_digits digits are)
    ∙ ap (λ t. if t then Some (value_of digits) else None) (low (value_of digits) most le)

up_to_by : (most : ℕ) (digits : List ℕ) (n : ℕ) (f d w : Bool) → is_filled digits ≡ f → list_all is_ascii_digit digits ≡ d → nat_le (value_of digits) most ≡ w
    → (if f && (d && w) then Some (value_of digits) else None) ≡ Some n → IsUpTo most digits
up_to_by most digits n true true true f d w is = record { some = f; decimal = each_digit digits d; within = grind (arith, nat_tests) }
up_to_by most digits n true true false f d w is = absurd (none_some is)
up_to_by most digits n true false w f d e is = absurd (none_some is)
up_to_by most digits n false d w f e g is = absurd (none_some is)

up_to_only : (most : ℕ) (digits : List ℕ) (n : ℕ) → number_up_to most digits ≡ Some n → IsUpTo most digits
up_to_only most digits n is =
    up_to_by most digits n (is_filled digits) (list_all is_ascii_digit digits) (nat_le (value_of digits) most) refl refl refl is

-- a value that some number makes
mapped : {A B : Type 0} (f : A → B) (o : Option A) (b : B) → option_map f o ≡ Some b → (a : A) × (o ≡ Some a)
mapped f None b is = absurd (none_some is)
mapped f (Some a) b is = (a, refl)

int_gives : (negative : Bool) (digits word : List ℕ) → IsSpelled int_form negative digits word
    → int_of word ≡ Some (int_value (record { negative = negative; magnitude = value_of digits }))
int_gives true digits word is =
    ap int_of is.written ∙ ap (option_map (λ n. neg_ℤ (pos n))) (up_to_gives 2147483648 digits is.some is.decimal is.within)
int_gives false [] word is = absurd (true≢false (sym is.some))
int_gives false (d ∷ digits) word is =
    ap int_of is.written
    ∙ ap (λ t. elim t [ true ↦ option_map (λ n. neg_ℤ (pos n)) (number_up_to 2147483648 digits) | false ↦ option_map pos (number_up_to 2147483647 (d ∷ digits)) ])
    (no_sign d is.decimal.0)
    ∙ ap (option_map pos) (up_to_gives 2147483647 (d ∷ digits) is.some is.decimal is.within)
  where
    no_sign : (d : ℕ) → is_ascii_digit d ≡ true → nat_eq d 45 ≡ false
    no_sign d is = grind (arith, nat_tests)

int_only_by : (b : ℕ) (word : List ℕ) (a : ℤ) (sign : Bool) → nat_eq b 45 ≡ sign
    → elim sign [ true ↦ option_map (λ n. neg_ℤ (pos n)) (number_up_to 2147483648 word) | false ↦ option_map pos (number_up_to 2147483647 (b ∷ word)) ] ≡ Some a
    → (negative : Bool) × (digits : List ℕ) × IsSpelled int_form negative digits (b ∷ word)
int_only_by b word a true sign is =
    let number = mapped (λ n. neg_ℤ (pos n)) (number_up_to 2147483648 word) a is in
    let digits = up_to_only 2147483648 word number.0 number.1 in
    (true, word, record { written = ap (λ c. c ∷ word) (is_sign b sign); some = digits.some; decimal = digits.decimal; within = digits.within; sign = refl })
int_only_by b word a false sign is =
    let number = mapped pos (number_up_to 2147483647 (b ∷ word)) a is in
    let digits = up_to_only 2147483647 (b ∷ word) number.0 number.1 in
    (false, b ∷ word, record { written = refl; some = digits.some; decimal = digits.decimal; within = digits.within; sign = tt })

int_only : (word : List ℕ) (a : ℤ) → int_of word ≡ Some a → (negative : Bool) × (digits : List ℕ) × IsSpelled int_form negative digits word
int_only [] a is = absurd (none_some is)
int_only (b ∷ word) a is = int_only_by b word a (nat_eq b 45) refl is

pub ints_make : Makes int_form int_of int_value
ints_make = record { gives = int_gives; only = int_only }

name_gives : (negative : Bool) (digits word : List ℕ) → IsSpelled name_form negative digits word
    → name_of word ≡ Some (name_value (record { negative = negative; magnitude = value_of digits }))
name_gives true digits word is = absurd (true≢false (sym is.sign))
name_gives false digits word is =
    ap name_of is.written ∙ ap (option_map (λ n. record { 0 = n })) (up_to_gives 18446744073709551615 digits is.some is.decimal is.within)

name_only : (word : List ℕ) (a : Name) → name_of word ≡ Some a → (negative : Bool) × (digits : List ℕ) × IsSpelled name_form negative digits word
name_only word a is =
    let number = mapped (λ n. record { 0 = n }) (number_up_to 18446744073709551615 word) a is in
    let digits = up_to_only 18446744073709551615 word number.0 number.1 in
    (false, word, record { written = refl; some = digits.some; decimal = digits.decimal; within = digits.within; sign = tt })

pub names_make : Makes name_form name_of name_value
names_make = record { gives = name_gives; only = name_only }

-- a number of the form is an `int`
pub int_fits : (n : Number) → n.magnitude ≤ most_of int_form n.negative → FitsSigned w32 (int_value n)
int_fits n le = by_sign n.negative n.magnitude le
  where
    by_sign : (negative : Bool) (m : ℕ) → m ≤ (if negative then 2147483648 else 2147483647) → FitsSigned w32 (if negative then neg_ℤ (pos m) else pos m)
    by_sign true zero le = grind arith
    by_sign true (suc m) le = grind arith
    by_sign false m le = grind arith

-- the number that ends fits where the state does
pub ended_fits : (form : Form) (s next : State) (n : Number) → Fits form s → Some n ≡ ended s next → n.magnitude ≤ most_of form n.negative
ended_fits form State.Between next n fits is = absurd (some_none is)
ended_fits form State.Signed next n fits is = absurd (some_none is)
ended_fits form (State.Within k) State.Between n fits is =
    let same : n ≡ k = ap (λ o. elim o [ Some x ↦ x | None ↦ k ]) is in subst (λ x. x.magnitude ≤ most_of form x.negative) (sym same) fits
ended_fits form (State.Within k) State.Signed n fits is = absurd (some_none is)
ended_fits form (State.Within k) (State.Within m) n fits is = absurd (some_none is)
