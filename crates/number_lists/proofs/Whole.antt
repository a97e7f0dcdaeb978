-- Going through all bytes.
use Rattle.std.proofs.Common.{◌≡◌, ℕ, suc, ◌+◌, ◌<◌, ◌⊎◌, inl, inr, Bool, true, false, List, [], ◌∷◌, ◌++◌, length, take, Option, Some, None, is_some, Result, Ok, Err, refl, sym, ap, subst, ◌∙◌, arith, true≢false, if◌then◌else◌}
use Rattle.std.proofs.lemmas.List.{append-nil, append_assoc}
use Rattle.number_lists.specs.declared.scan.Form.{Form}
use Rattle.number_lists.specs.declared.scan.Number.{Number}
use Rattle.number_lists.specs.declared.scan.State.{State}
use Rattle.number_lists.specs.Lists.{is_blank, is_filled, list_of, with_number, Continues, IsRefusedAt}
use Rattle.number_lists.specs.tools.Scanning.{most_of, nought, begun, step, given, last, scan}
use Rattle.number_lists.specs.tools.Scanning as scanning
use Rattle.number_lists.proofs.Words.{IsWord}
use Rattle.number_lists.proofs.Numbers.{AreDigits, IsSpelled, Makes}
use Rattle.number_lists.proofs.Walk.{Pending, taken, blank_is_no_digit, sign_is_no_digit, rest_of}
use Rattle.number_lists.proofs.Stopping.{list_of_word, list_behind_word, list_behind_blank, none_with, some_with, word_of_spelled, continues, stops}

-- behind a word that is pending, the bytes stop being a list at this place
pub record Stops {A : Type 0} (number : List ℕ → Option A) (word bytes : List ℕ) (i : ℕ) : Type 0 where
  pub before : Continues number (word ++ take i bytes)
  pub here : ((i < length bytes) × (Continues number (word ++ take (suc i) bytes) → ⊥)) ⊎ ((i ≡ length bytes) × (list_of number (word ++ bytes) ≡ None))

pub record Finds {A : Type 0} (number : List ℕ → Option A) (word bytes : List ℕ) (before found : List A) : Type 0 where
  pub new : List A
  pub gathered : found ≡ before ++ new
  pub are : list_of number (word ++ bytes) ≡ Some new

pub record StopsFrom {A : Type 0} (number : List ℕ → Option A) (word bytes : List ℕ) (at k : ℕ) : Type 0 where
  pub i : ℕ
  pub place : k ≡ at + i
  pub stops : Stops number word bytes i

abbrev pub Scanned : {A : Type 0} → (List ℕ → Option A) → List ℕ → List A → ℕ → List ℕ → Result (List A) ℕ → Type 0
Scanned number word before at bytes (Ok found) = Finds number word bytes before found
Scanned number word before at bytes (Err k) = StopsFrom number word bytes at k

pending_is_word : (form : Form) (s : State) (word : List ℕ) → Pending form s word → IsWord word
pending_is_word form State.Between word p = subst IsWord (sym p) tt
pending_is_word form State.Signed word p = subst IsWord (sym p.0) (refl, tt)
pending_is_word form (State.Within n) word p = (word_of_spelled word p.1).0

-- a sign alone is no number
sign_alone : (form : Form) (negative : Bool) (digits : List ℕ) → IsSpelled form negative digits (45 ∷ []) → ⊥
sign_alone form true [] is = true≢false (sym is.some)
sign_alone form true (d ∷ digits) is = true≢false (sym (ap (λ w. is_filled (rest_of w)) is.written))
sign_alone form false digits is = sign_is_no_digit [] (subst AreDigits (sym is.written) is.decimal)

sign_ends_list : {A : Type 0} (form : Form) (number : List ℕ → Option A) (make : Number → A) → Makes form number make → (a : A) → number (45 ∷ []) ≡ Some a → ⊥
sign_ends_list form number make makes a e = let is = makes.only (45 ∷ []) a e in sign_alone form is.0 is.1 is.2

sign_makes_none : {A : Type 0} (form : Form) (number : List ℕ → Option A) (make : Number → A) → Makes form number make → number (45 ∷ []) ≡ None
sign_makes_none {A} form number make makes = by_number (number (45 ∷ [])) refl
  where
    by_number : (n : Option A) → number (45 ∷ []) ≡ n → number (45 ∷ []) ≡ None
    by_number None e = e
    by_number (Some a) e = absurd (sign_ends_list form number make makes a e)

-- The bytes have ended.
ended_list : {A : Type 0} (form : Form) (number : List ℕ → Option A) (make : Number → A) → Makes form number make → (s : State) (word : List ℕ)
    → Pending form s word → (at : ℕ) (numbers : List A) → Scanned number word numbers at [] (last make at s numbers)
ended_list form number make makes State.Between word p at numbers =
    record { new = []; gathered = sym (append-nil numbers); are = ap (λ w. list_of number (w ++ [])) p }
ended_list form number make makes State.Signed word p at numbers =
    let moved : word ++ [] ≡ 45 ∷ [] = append-nil word ∙ p.0 in
    record {
      i = 0;
      place = omega arith;
      stops = record {
        before = subst (Continues number) (sym (append-nil word)) (continues form number make makes State.Signed word p);
        here = inr (refl, ap (list_of number) moved ∙ ap (λ n. with_number n (Some [])) (sign_makes_none form number make makes));
      };
    }
ended_list form number make makes (State.Within n) word p at numbers =
    let is = word_of_spelled word p.1 in
    let value = makes.gives n.negative p.0 word p.1 ∙ ap (λ v. Some (make (record { negative = n.negative; magnitude = v }))) p.2 in
    record { new = make n ∷ []; gathered = refl; are = ap (list_of number) (append-nil word) ∙ list_of_word number word (make n) is.0 is.1 value }

-- A list goes on behind a blank.
lifts : {A : Type 0} (number : List ℕ → Option A) (word : List ℕ) (b : ℕ) (a : A) → IsWord word → is_filled word ≡ true → is_blank b ≡ true → number word ≡ Some a
    → (bytes : List ℕ) → (Continues number bytes → Continues number (word ++ b ∷ bytes)) × (Continues number (word ++ b ∷ bytes) → Continues number bytes)
lifts number word b a is some blank makes bytes =
    (λ c. (c.0, same c.0 ∙ c.1), λ c. (c.0, sym (same c.0) ∙ c.1))
  where
    same : (more : List ℕ) → is_some (list_of number ((word ++ b ∷ bytes) ++ more)) ≡ is_some (list_of number (bytes ++ more))
    same more =
        ap (λ w. is_some (list_of number w)) (append_assoc word (b ∷ bytes) more)
        ∙ ap is_some (list_behind_word number word b (bytes ++ more) (Some a) is some blank makes) ∙ some_with a (list_of number (bytes ++ more))

lifts_blank : {A : Type 0} (number : List ℕ → Option A) (b : ℕ) → is_blank b ≡ true
    → (bytes : List ℕ) → (Continues number bytes → Continues number (b ∷ bytes)) × (Continues number (b ∷ bytes) → Continues number bytes)
lifts_blank number b blank bytes =
    (λ c. (c.0, ap is_some (list_behind_blank number b (bytes ++ c.0) blank) ∙ c.1), λ c. (c.0, sym (ap is_some (list_behind_blank number b (bytes ++ c.0) blank)) ∙ c.1))

-- one byte more, behind which the bytes stop one place later
later : {A : Type 0} (number : List ℕ → Option A) (word : List ℕ) (b : ℕ) (bytes : List ℕ)
    → ((rest : List ℕ) → (Continues number rest → Continues number (word ++ b ∷ rest)) × (Continues number (word ++ b ∷ rest) → Continues number rest))
    → (list_of number bytes ≡ None → list_of number (word ++ b ∷ bytes) ≡ None)
    → (at k : ℕ) → StopsFrom number [] bytes (suc at) k → StopsFrom number word (b ∷ bytes) at k
later number word b bytes moves none at k s =
    record { i = suc s.i; place = s.place ∙ omega arith; stops = record { before = (moves (take s.i bytes)).0 s.stops.before; here = by s.stops.here } }
  where
    by : ((s.i < length bytes) × (Continues number (take (suc s.i) bytes) → ⊥)) ⊎ ((s.i ≡ length bytes) × (list_of number bytes ≡ None))
        → ((suc s.i < length (b ∷ bytes)) × (Continues number (word ++ b ∷ take (suc s.i) bytes) → ⊥)) ⊎ ((suc s.i ≡ length (b ∷ bytes)) × (list_of number (word ++ b ∷ bytes) ≡ None))
    by (inl (low, no_more)) = inl (omega (arith, low), λ c. no_more ((moves (take (suc s.i) bytes)).1 c))
    by (inr (end, is)) = inr (omega (arith, end), none is)

-- a blank behind a number
number_ends : {A : Type 0} (number : List ℕ → Option A) (word : List ℕ) (b : ℕ) (a : A) → IsWord word → is_filled word ≡ true → is_blank b ≡ true → number word ≡ Some a
    → (bytes : List ℕ) (at : ℕ) (numbers : List A) (result : Result (List A) ℕ)
    → Scanned number [] (numbers ++ a ∷ []) (suc at) bytes result → Scanned number word numbers at (b ∷ bytes) result
number_ends number word b a is some blank makes bytes at numbers (Ok found) s =
    record {
      new = a ∷ s.new;
      gathered = s.gathered ∙ append_assoc numbers (a ∷ []) s.new;
      are = list_behind_word number word b bytes (Some a) is some blank makes ∙ ap (with_number (Some a)) s.are;
    }
number_ends number word b a is some blank makes bytes at numbers (Err k) s =
    later number word b bytes (lifts number word b a is some blank makes)
    (λ e. list_behind_word number word b bytes (Some a) is some blank makes ∙ ap (with_number (Some a)) e) at k s

blank_passes : {A : Type 0} (number : List ℕ → Option A) (b : ℕ) → is_blank b ≡ true → (bytes : List ℕ) (at : ℕ) (numbers : List A) (result : Result (List A) ℕ)
    → Scanned number [] numbers (suc at) bytes result → Scanned number [] numbers at (b ∷ bytes) result
blank_passes number b blank bytes at numbers (Ok found) s =
    record { new = s.new; gathered = s.gathered; are = list_behind_blank number b bytes blank ∙ s.are }
blank_passes number b blank bytes at numbers (Err k) s =
    later number [] b bytes (lifts_blank number b blank) (λ e. list_behind_blank number b bytes blank ∙ e) at k s

-- a byte of a word
byte_passes : {A : Type 0} (number : List ℕ → Option A) (word : List ℕ) (b : ℕ) (bytes : List ℕ) (at : ℕ) (numbers : List A) (result : Result (List A) ℕ)
    → Scanned number (word ++ b ∷ []) numbers (suc at) bytes result → Scanned number word numbers at (b ∷ bytes) result
byte_passes number word b bytes at numbers (Ok found) s =
    record { new = s.new; gathered = s.gathered; are = ap (list_of number) (sym (append_assoc word (b ∷ []) bytes)) ∙ s.are }
byte_passes {A} number word b bytes at numbers (Err k) s =
    record {
      i = suc s.i;
      place = s.place ∙ omega arith;
      stops = record { before = subst (Continues number) (append_assoc word (b ∷ []) (take s.i bytes)) s.stops.before; here = by s.stops.here };
    }
  where
    by : ((s.i < length bytes) × (Continues number ((word ++ b ∷ []) ++ take (suc s.i) bytes) → ⊥)) ⊎ ((s.i ≡ length bytes) × (list_of number ((word ++ b ∷ []) ++ bytes) ≡ None))
        → ((suc s.i < length (b ∷ bytes)) × (Continues number (word ++ b ∷ take (suc s.i) bytes) → ⊥)) ⊎ ((suc s.i ≡ length (b ∷ bytes)) × (list_of number (word ++ b ∷ bytes) ≡ None))
    by (inl (low, no_more)) = inl (omega (arith, low), λ c. no_more (subst (Continues number) (sym (append_assoc word (b ∷ []) (take (suc s.i) bytes))) c))
    by (inr (end, is)) = inr (omega (arith, end), ap (list_of number) (sym (append_assoc word (b ∷ []) bytes)) ∙ is)

-- a byte that is refused
byte_stops : {A : Type 0} (form : Form) (number : List ℕ → Option A) (make : Number → A) → Makes form number make → (s : State) (word : List ℕ) → Pending form s word
    → (b : ℕ) (bytes : List ℕ) (at : ℕ) → (Continues number (word ++ b ∷ []) → ⊥) → StopsFrom number word (b ∷ bytes) at at
byte_stops form number make makes s word p b bytes at no_more =
    record {
      i = 0;
      place = omega arith;
      stops = record {
        before = subst (Continues number) (sym (append-nil word)) (continues form number make makes s word p);
        here = inl (omega arith, no_more);
      };
    }

-- no list has a sign with a blank behind it
sign_stops : {A : Type 0} (form : Form) (number : List ℕ → Option A) (make : Number → A) → Makes form number make → (b : ℕ) → is_blank b ≡ true
    → Continues number (45 ∷ b ∷ []) → ⊥
sign_stops form number make makes b blank c =
    let is = list_behind_word number (45 ∷ []) b c.0 None (refl, tt) refl blank (sign_makes_none form number make makes) in
    true≢false (sym c.1 ∙ ap is_some (is ∙ none_with (list_of number c.0)))

-- what is found from the next byte on, in whatever state
abbrev Onward : {A : Type 0} → Form → (List ℕ → Option A) → (Number → A) → List ℕ → Type 0
Onward {A} form number make bytes =
    (s : State) (word : List ℕ) → Pending form s word → (at : ℕ) (numbers : List A) → Scanned number word numbers at bytes (scan form make at s numbers bytes)

abbrev next_scan : {A : Type 0} → Form → (Number → A) → ℕ → State → List A → List ℕ → Option State → Result (List A) ℕ
next_scan form make at s numbers bytes next = elim next [ None ↦ Err at | Some n ↦ scan form make (suc at) n (given make s n numbers) bytes ]

at_blank : {A : Type 0} (form : Form) (number : List ℕ → Option A) (make : Number → A) → Makes form number make → (b : ℕ) (bytes : List ℕ)
    → Onward form number make bytes → is_blank b ≡ true → (s : State) (word : List ℕ) → Pending form s word → (at : ℕ) (numbers : List A)
    → Scanned number word numbers at (b ∷ bytes) (next_scan form make at s numbers bytes (step form s b))
at_blank {A} form number make makes b bytes onward blank State.Between word p at numbers =
    let passed = blank_passes number b blank bytes at numbers _ (onward State.Between [] refl (suc at) numbers) in
    let P : Option State → Type 0 = λ next. Scanned number word numbers at (b ∷ bytes) (next_scan form make at State.Between numbers bytes next) in
    subst P (sym (ap (λ t. if t then Some State.Between else begun form b) blank))
    (subst (λ w. Scanned number w numbers at (b ∷ bytes) (scan form make (suc at) State.Between numbers bytes)) (sym p) passed)
at_blank {A} form number make makes b bytes onward blank State.Signed word p at numbers =
    by_step (step form State.Signed b) refl
  where
    by_step : (next : Option State) → step form State.Signed b ≡ next → Scanned number word numbers at (b ∷ bytes) (next_scan form make at State.Signed numbers bytes next)
    by_step None is =
        byte_stops form number make makes State.Signed word p b bytes at
        (λ c. sign_stops form number make makes b blank (subst (λ w. Continues number (w ++ b ∷ [])) p.0 c))
    by_step (Some next) is = absurd (blank_is_no_digit (most_of form true) (nought true) b next blank is)
at_blank {A} form number make makes b bytes onward blank (State.Within n) word p at numbers =
    let is = word_of_spelled word p.1 in
    let value = makes.gives n.negative p.0 word p.1 ∙ ap (λ v. Some (make (record { negative = n.negative; magnitude = v }))) p.2 in
    let passed = number_ends number word b (make n) is.0 is.1 blank value bytes at numbers _ (onward State.Between [] refl (suc at) (numbers ++ make n ∷ [])) in
    let P : Option State → Type 0 = λ next. Scanned number word numbers at (b ∷ bytes) (next_scan form make at (State.Within n) numbers bytes next) in
    subst P (sym (ap (λ t. if t then Some State.Between else scanning.with_digit (most_of form n.negative) n b) blank)) passed

at_byte : {A : Type 0} (form : Form) (number : List ℕ → Option A) (make : Number → A) → Makes form number make → (b : ℕ) (bytes : List ℕ)
    → Onward form number make bytes → is_blank b ≡ false → (s : State) (word : List ℕ) → Pending form s word → (at : ℕ) (numbers : List A)
    → (next : Option State) → step form s b ≡ next → Scanned number word numbers at (b ∷ bytes) (next_scan form make at s numbers bytes next)
at_byte form number make makes b bytes onward blank s word p at numbers None is =
    byte_stops form number make makes s word p b bytes at (stops form number make makes s word b p (pending_is_word form s word p) blank is)
at_byte form number make makes b bytes onward blank s word p at numbers (Some next) is =
    let t = taken form s word b next p blank is in
    let R : Option Number → Type 0 = λ e. Scanned number word numbers at (b ∷ bytes) (scan form make (suc at) next (elim e [ Some n ↦ numbers ++ make n ∷ [] | None ↦ numbers ]) bytes) in
    subst R (sym (t.none_ends s)) (byte_passes number word b bytes at numbers _ (onward next (word ++ b ∷ []) t.pending (suc at) numbers))

one_byte : {A : Type 0} (form : Form) (number : List ℕ → Option A) (make : Number → A) → Makes form number make → (b : ℕ) (bytes : List ℕ)
    → Onward form number make bytes → (blank : Bool) → is_blank b ≡ blank → (s : State) (word : List ℕ) → Pending form s word → (at : ℕ) (numbers : List A)
    → Scanned number word numbers at (b ∷ bytes) (next_scan form make at s numbers bytes (step form s b))
one_byte form number make makes b bytes onward true blank s word p at numbers = at_blank form number make makes b bytes onward blank s word p at numbers
one_byte form number make makes b bytes onward false blank s word p at numbers =
    at_byte form number make makes b bytes onward blank s word p at numbers (step form s b) refl

pub all_bytes : {A : Type 0} (form : Form) (number : List ℕ → Option A) (make : Number → A) → Makes form number make → (bytes : List ℕ) → Onward form number make bytes
all_bytes form number make makes [] s word p at numbers = ended_list form number make makes s word p at numbers
all_bytes form number make makes (b ∷ bytes) s word p at numbers =
    one_byte form number make makes b bytes (all_bytes form number make makes bytes) (is_blank b) refl s word p at numbers

-- From the first byte on: the numbers of the list, or where it is refused.
abbrev pub Reads : {A : Type 0} → (List ℕ → Option A) → List ℕ → Result (List A) ℕ → Type 0
Reads number bytes (Ok found) = list_of number bytes ≡ Some found
Reads number bytes (Err at) = IsRefusedAt number bytes at

pub reads : {A : Type 0} (form : Form) (number : List ℕ → Option A) (make : Number → A) → Makes form number make → (bytes : List ℕ)
    → Reads number bytes (scan form make 0 State.Between [] bytes)
reads {A} form number make makes bytes =
    by_result (scan form make 0 State.Between [] bytes) (all_bytes form number make makes bytes State.Between [] refl 0 [])
  where
    by_result : (r : Result (List A) ℕ) → Scanned number [] [] 0 bytes r → Reads number bytes r
    by_result (Ok found) s = s.are ∙ ap Some (sym s.gathered)
    by_result (Err k) s =
        let place : s.i ≡ k = sym (s.place ∙ omega arith) in
        subst (IsRefusedAt number bytes) place (record { before = s.stops.before; here = s.stops.here })
