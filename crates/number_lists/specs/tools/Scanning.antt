-- One byte of a list after the other, as the code takes them. A tool of proof.
use Rattle.std.specs.Prelude.{ℕ, suc, ◌+◌, ◌-◌, ◌*◌, ◌≤◌, Bool, true, false, nat_eq, nat_le, if◌then◌else◌, List, [], ◌∷◌, ◌++◌, Option, Some, None, is_some, Result, Ok, Err, ℤ, pos, neg_ℤ}
use Rattle.std.specs.Char.{is_ascii_digit}
use Rattle.dfi_base.specs.declared.numbers.Name.{Name}
use Rattle.number_lists.specs.declared.scan.Form.{Form}
use Rattle.number_lists.specs.declared.scan.Number.{Number}
use Rattle.number_lists.specs.declared.scan.State.{State}
use Rattle.number_lists.specs.Lists as lists

abbrev pub is_blank : ℕ → Bool
is_blank = lists.is_blank

-- a number with one more digit
abbrev pub magnitude_with : Number → ℕ → ℕ
magnitude_with n b = n.magnitude * 10 + (b - 48)

abbrev pub with_digit : ℕ → Number → ℕ → Option State
with_digit most n b =
    if is_ascii_digit b
    then (if nat_le (magnitude_with n b) most then Some (State.Within (record { negative = n.negative; magnitude = magnitude_with n b })) else None)
    else None

abbrev pub most_of : Form → Bool → ℕ
most_of form negative = if negative then elim form.most_below [ Some most ↦ most | None ↦ 0 ] else form.most

abbrev pub nought : Bool → Number
nought negative = record { negative = negative; magnitude = 0 }

abbrev pub begun : Form → ℕ → Option State
begun form b =
    if nat_eq b 45
    then (if is_some form.most_below then Some State.Signed else None)
    else with_digit form.most (nought false) b

abbrev pub step : Form → State → ℕ → Option State
step form State.Between b = if is_blank b then Some State.Between else begun form b
step form State.Signed b = with_digit (most_of form true) (nought true) b
step form (State.Within n) b = if is_blank b then Some State.Between else with_digit (most_of form n.negative) n b

-- a number is within the form
abbrev pub Fits : Form → State → Type 0
Fits form State.Between = Unit {0}
Fits form State.Signed = Unit {0}
Fits form (State.Within n) = n.magnitude ≤ most_of form n.negative

abbrev pub int_form : Form
int_form = record { most = 2147483647; most_below = Some 2147483648 }

abbrev pub name_form : Form
name_form = record { most = 18446744073709551615; most_below = None }

abbrev pub ended : State → State → Option Number
ended (State.Within n) State.Between = Some n
ended _ _ = None

abbrev pub given : {A : Type 0} → (Number → A) → State → State → List A → List A
given make state next numbers = elim (ended state next) [ Some n ↦ numbers ++ make n ∷ [] | None ↦ numbers ]

-- the list ends in a state, at this place
abbrev pub last : {A : Type 0} → (Number → A) → ℕ → State → List A → Result (List A) ℕ
last make at State.Between numbers = Ok numbers
last make at State.Signed numbers = Err at
last make at (State.Within n) numbers = Ok (numbers ++ make n ∷ [])

-- from a place on, with the numbers found before
abbrev pub scan : {A : Type 0} → Form → (Number → A) → ℕ → State → List A → List ℕ → Result (List A) ℕ
scan form make at state numbers [] = last make at state numbers
scan form make at state numbers (b ∷ bytes) =
    elim (step form state b) [ None ↦ Err at | Some next ↦ scan form make (suc at) next (given make state next numbers) bytes ]

abbrev pub int_value : Number → ℤ
int_value n = if n.negative then neg_ℤ (pos n.magnitude) else pos n.magnitude

abbrev pub name_value : Number → Name
name_value n = record { 0 = n.magnitude }
