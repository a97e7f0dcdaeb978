-- Going through the bytes of a list finds its numbers, or where they stop being one.
use Rattle.std.proofs.Common.{◌≡◌, ℕ, ◌+◌, ◌-◌, ◌*◌, ◌≤◌, Bool, true, false, nat_eq, nat_le, List, [], ◌∷◌, ◌++◌, Option, Some, None, is_some, refl, sym, ap, subst, ◌∙◌, arith, true≢false, if◌then◌else◌}
use Rattle.std.specs.Char.{is_ascii_digit}
use Rattle.std.proofs.lemmas.Bool.Decides.{nat_tests}
use Rattle.number_lists.specs.declared.scan.Form.{Form}
use Rattle.number_lists.specs.declared.scan.Number.{Number}
use Rattle.number_lists.specs.declared.scan.State.{State}
use Rattle.number_lists.specs.Lists.{is_blank, is_filled, value_of}
use Rattle.number_lists.specs.tools.Scanning.{most_of, nought, magnitude_with, begun, step, ended}
use Rattle.number_lists.specs.tools.Scanning as scanning
use Rattle.number_lists.proofs.Numbers.{signed, AreDigits, MayBe, IsSpelled, digit_is_no_blank, digit_is_no_sign, digits_before, digits_behind, value_behind, value_grows}

-- the bytes since the last blank, by the state that they lead to
abbrev pub Pending : Form → State → List ℕ → Type 0
Pending form State.Between word = word ≡ []
Pending form State.Signed word = (word ≡ 45 ∷ []) × (is_some form.most_below ≡ true)
Pending form (State.Within n) word = (digits : List ℕ) × IsSpelled form n.negative digits word × (value_of digits ≡ n.magnitude)

-- a digit within the limit
record IsDigit (most : ℕ) (n : Number) (b : ℕ) (next : State) : Type 0 where
  decimal : is_ascii_digit b ≡ true
  within : magnitude_with n b ≤ most
  is : next ≡ State.Within (record { negative = n.negative; magnitude = magnitude_with n b })

pub none_some : {A : Type 0} {a : A} → Option.None ≡ Some a → ⊥
none_some is = true≢false (sym (ap is_some is))

pub some_none : {A : Type 0} {a : A} → Some a ≡ Option.None → ⊥
some_none is = true≢false (ap is_some is)

abbrev or_this : State → Option State → State
or_this s None = s
or_this s (Some next) = next

abbrev within : Number → ℕ → State
within n b = State.Within (record { negative = n.negative; magnitude = magnitude_with n b })

digit_by : (most : ℕ) (n : Number) (b : ℕ) (next : State) (d w : Bool) → is_ascii_digit b ≡ d → nat_le (magnitude_with n b) most ≡ w
    → (if d then (if w then Some (within n b) else None) else None) ≡ Some next → IsDigit most n b next
digit_by most n b next true true d w is = record { decimal = d; within = grind (arith, nat_tests); is = sym (ap (or_this State.Between) is) }
digit_by most n b next true false d w is = absurd (none_some is)
digit_by most n b next false w d e is = absurd (none_some is)

digit_of : (most : ℕ) (n : Number) (b : ℕ) (next : State) → scanning.with_digit most n b ≡ Some next → IsDigit most n b next
digit_of most n b next is = digit_by most n b next (is_ascii_digit b) (nat_le (magnitude_with n b) most) refl refl is

-- a digit within the limit is taken
no_digit_by : (most : ℕ) (n : Number) (b : ℕ) (w : Bool) → nat_le (magnitude_with n b) most ≡ w → magnitude_with n b ≤ most
    → (d : Bool) → d ≡ true → (if d then (if w then Some (within n b) else None) else None) ≡ None → ⊥
no_digit_by most n b true e le true d is = some_none is
no_digit_by most n b false e le true d is = grind (arith, nat_tests)
no_digit_by most n b w e le false d is = true≢false (sym d)

no_digit : (most : ℕ) (n : Number) (b : ℕ) → is_ascii_digit b ≡ true → magnitude_with n b ≤ most → scanning.with_digit most n b ≡ None → ⊥
no_digit most n b d le is = no_digit_by most n b (nat_le (magnitude_with n b) most) refl le (is_ascii_digit b) d is

-- Taking a byte that is no blank.
pub record Taken (form : Form) (next : State) (word : List ℕ) : Type 0 where
  pub pending : Pending form next word
  pub none_ends : (s : State) → ended s next ≡ None

ends_nothing : (n : Number) (s : State) → ended s (State.Within n) ≡ None
ends_nothing n State.Between = refl
ends_nothing n State.Signed = refl
ends_nothing n (State.Within k) = refl

signed_ends_nothing : (s : State) → ended s State.Signed ≡ None
signed_ends_nothing State.Between = refl
signed_ends_nothing State.Signed = refl
signed_ends_nothing (State.Within k) = refl

-- digits, and one more within the limit
more_digits : (form : Form) (n : Number) (b : ℕ) (next : State) (digits word : List ℕ) → word ≡ signed n.negative digits → AreDigits digits
    → value_of digits ≡ n.magnitude → MayBe form n.negative → IsDigit (most_of form n.negative) n b next
    → (signed n.negative digits ++ b ∷ [] ≡ signed n.negative (digits ++ b ∷ [])) → Taken form next (word ++ b ∷ [])
more_digits form n b next digits word is are value sign d moved =
    let value_is : value_of (digits ++ b ∷ []) ≡ magnitude_with n b = value_behind digits b ∙ ap (λ v. v * 10 + (b - 48)) value in
    subst (λ s. Taken form s (word ++ b ∷ [])) (sym d.is) (record {
      pending = (
        digits ++ b ∷ [],
        record {
          written = ap (λ w. w ++ b ∷ []) is ∙ moved;
          some = some_behind digits;
          decimal = digits_behind digits b are d.decimal;
          within = subst (λ v. v ≤ most_of form n.negative) (sym value_is) d.within;
          sign = sign;
        },
        value_is,
      );
      none_ends = ends_nothing (record { negative = n.negative; magnitude = magnitude_with n b });
    })
  where
    some_behind : (ds : List ℕ) → is_filled (ds ++ b ∷ []) ≡ true
    some_behind [] = refl
    some_behind (c ∷ ds) = refl

signed_behind : (negative : Bool) (digits : List ℕ) (b : ℕ) → signed negative digits ++ b ∷ [] ≡ signed negative (digits ++ b ∷ [])
signed_behind true digits b = refl
signed_behind false digits b = refl

pub is_sign : (b : ℕ) → nat_eq b 45 ≡ true → b ≡ 45
is_sign b e = grind (arith, nat_tests)

sign_taken : (form : Form) (b : ℕ) → nat_eq b 45 ≡ true → is_some form.most_below ≡ true → Taken form State.Signed (b ∷ [])
sign_taken form b sign some = record { pending = (ap (λ c. c ∷ []) (is_sign b sign), some); none_ends = signed_ends_nothing }

begun_by : (form : Form) (b : ℕ) (next : State) (sign some : Bool) → nat_eq b 45 ≡ sign → is_some form.most_below ≡ some
    → (if sign then (if some then Some State.Signed else None) else scanning.with_digit form.most (nought false) b) ≡ Some next
    → Taken form next (b ∷ [])
begun_by form b next true true sign some is = subst (λ s. Taken form s (b ∷ [])) (ap (or_this State.Between) is) (sign_taken form b sign some)
begun_by form b next true false sign some is = absurd (none_some is)
begun_by form b next false some sign e is =
    more_digits form (nought false) b next [] [] refl tt refl tt (digit_of form.most (nought false) b next is) refl

pub taken : (form : Form) (s : State) (word : List ℕ) (b : ℕ) (next : State) → Pending form s word → is_blank b ≡ false → step form s b ≡ Some next
    → Taken form next (word ++ b ∷ [])
taken form State.Between word b next p blank is =
    subst (λ w. Taken form next (w ++ b ∷ [])) (sym p)
    (begun_by form b next (nat_eq b 45) (is_some form.most_below) refl refl (sym (ap (λ t. if t then Some State.Between else begun form b) blank) ∙ is))
taken form State.Signed word b next p blank is =
    more_digits form (nought true) b next [] word p.0 tt refl p.1 (digit_of (most_of form true) (nought true) b next is) refl
taken form (State.Within n) word b next p blank is =
    more_digits form n b next p.0 word p.1.written p.1.decimal p.2 p.1.sign
    (digit_of (most_of form n.negative) n b next (sym (ap (λ t. if t then Some State.Between else scanning.with_digit (most_of form n.negative) n b) blank) ∙ is))
    (signed_behind n.negative p.0 b)

-- What a state refuses.

-- digits that go on with this byte are within the limit only where it is a digit that is
goes_within : (form : Form) (n : Number) (b : ℕ) (before more digits : List ℕ) → digits ≡ before ++ b ∷ more → AreDigits digits
    → value_of digits ≤ most_of form n.negative → value_of before ≡ n.magnitude → scanning.with_digit (most_of form n.negative) n b ≡ None → ⊥
goes_within form n b before more digits is are le value none =
    let parts = digits_before before (b ∷ more) (subst AreDigits is are) in
    let least = value_grows before b more in
    let most : value_of (before ++ b ∷ more) ≤ most_of form n.negative = subst (λ d. value_of d ≤ most_of form n.negative) is le in
    let within : magnitude_with n b ≤ most_of form n.negative = subst (λ v. v * 10 + (b - 48) ≤ most_of form n.negative) value (omega (arith, least, most)) in
    no_digit (most_of form n.negative) n b parts.1.0 within none

abbrev head_of : List ℕ → ℕ
head_of [] = 0
head_of (b ∷ bytes) = b

abbrev pub rest_of : List ℕ → List ℕ
rest_of [] = []
rest_of (b ∷ bytes) = bytes

-- digits have no minus sign
pub sign_is_no_digit : (more : List ℕ) → AreDigits (45 ∷ more) → ⊥
sign_is_no_digit more are = true≢false (sym are.0)

begins_no_number : (form : Form) (b : ℕ) (more : List ℕ) (sign some : Bool) → nat_eq b 45 ≡ sign → is_some form.most_below ≡ some
    → (if sign then (if some then Some State.Signed else None) else scanning.with_digit form.most (nought false) b) ≡ None
    → (negative : Bool) (digits : List ℕ) → IsSpelled form negative digits (b ∷ more) → ⊥
begins_no_number form b more true true e f none negative digits is = some_none none
begins_no_number form b more true false e f none true digits is = true≢false (sym is.sign ∙ f)
begins_no_number form b more true false e f none false digits is =
    let are = subst AreDigits (sym is.written) is.decimal in true≢false (sym e ∙ digit_is_no_sign b are.0)
begins_no_number form b more false some e f none true digits is = true≢false (ap (λ c. nat_eq c 45) (sym (ap head_of is.written)) ∙ e)
begins_no_number form b more false some e f none false digits is =
    goes_within form (nought false) b [] more digits (sym is.written) is.decimal is.within refl none

no_sign : (before : List ℕ) (b : ℕ) (more digits : List ℕ) → is_filled before ≡ true → AreDigits before → before ++ b ∷ more ≡ 45 ∷ digits → ⊥
no_sign [] b more digits some are same = true≢false (sym some)
no_sign (c ∷ before) b more digits some are same = true≢false (ap (λ x. nat_eq x 45) (sym (ap head_of same)) ∙ digit_is_no_sign c are.0)

-- the sign is the same, and so the digits go on with the byte
same_digits : (was negative : Bool) (before digits : List ℕ) (b : ℕ) (more : List ℕ) → is_filled before ≡ true → AreDigits before → AreDigits digits
    → signed was before ++ b ∷ more ≡ signed negative digits → (was ≡ negative) × (digits ≡ before ++ b ∷ more)
same_digits true true before digits b more some are be same = (refl, sym (ap rest_of same))
same_digits true false before digits b more some are be same = absurd (sign_is_no_digit (before ++ b ∷ more) (subst AreDigits (sym same) be))
same_digits false true before digits b more some are be same = absurd (no_sign before b more digits some are same)
same_digits false false before digits b more some are be same = (refl, sym same)

pub refuses : (form : Form) (s : State) (word : List ℕ) (b : ℕ) (more : List ℕ) → Pending form s word → is_blank b ≡ false → step form s b ≡ None
    → (negative : Bool) (digits : List ℕ) → IsSpelled form negative digits (word ++ b ∷ more) → ⊥
refuses form State.Between word b more p blank none negative digits is =
    begins_no_number form b more (nat_eq b 45) (is_some form.most_below) refl refl (sym (ap (λ t. if t then Some State.Between else begun form b) blank) ∙ none)
    negative digits (subst (λ w. IsSpelled form negative digits (w ++ b ∷ more)) p is)
refuses form State.Signed word b more p blank none true digits is =
    goes_within form (nought true) b [] more digits (sym (ap rest_of is.written) ∙ ap (λ w. rest_of (w ++ b ∷ more)) p.0) is.decimal is.within refl none
refuses form State.Signed word b more p blank none false digits is =
    sign_is_no_digit (b ∷ more) (subst AreDigits (sym is.written ∙ ap (λ w. w ++ b ∷ more) p.0) is.decimal)
refuses form (State.Within n) word b more p blank none negative digits is =
    let here = same_digits n.negative negative p.0 digits b more p.1.some p.1.decimal is.decimal (sym (ap (λ w. w ++ b ∷ more) p.1.written) ∙ is.written) in
    goes_within form n b p.0 more digits here.1 is.decimal (subst (λ s. value_of digits ≤ most_of form s) (sym here.0) is.within) p.2
    (sym (ap (λ t. if t then Some State.Between else scanning.with_digit (most_of form n.negative) n b) blank) ∙ none)

-- no state but those between numbers and within one takes a blank
pub blank_is_no_digit : (most : ℕ) (n : Number) (b : ℕ) (next : State) → is_blank b ≡ true → scanning.with_digit most n b ≡ Some next → ⊥
blank_is_no_digit most n b next blank is = true≢false (sym blank ∙ digit_is_no_blank b (digit_of most n b next is).decimal)
