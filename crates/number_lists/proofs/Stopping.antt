-- The numbers of bytes that begin with a word, and how they go on.
use Rattle.std.proofs.Common.{◌≡◌, ℕ, Bool, true, false, List, [], ◌∷◌, ◌++◌, Option, Some, None, is_some, IsTrue, refl, sym, ap, subst, ◌∙◌, true≢false, arith}
use Rattle.std.proofs.lemmas.List.{append-nil, append_assoc}
use Rattle.number_lists.specs.declared.scan.Form.{Form}
use Rattle.number_lists.specs.declared.scan.Number.{Number}
use Rattle.number_lists.specs.declared.scan.State.{State}
use Rattle.number_lists.specs.Lists.{is_blank, is_filled, words_of, numbers_of, with_number, list_of, Continues}
use Rattle.number_lists.specs.tools.Scanning.{step}
use Rattle.number_lists.proofs.Words.{IsWord, words_behind_blank, words_behind_word, words_of_word, goes_on, word_with}
use Rattle.number_lists.proofs.Numbers.{signed, IsSpelled, Makes, spelled_is_word}
use Rattle.number_lists.proofs.Walk.{Pending, refuses}

pub list_of_word : {A : Type 0} (number : List ℕ → Option A) (word : List ℕ) (a : A) → IsWord word → is_filled word ≡ true → number word ≡ Some a
    → list_of number word ≡ Some (a ∷ [])
list_of_word number word a is some makes = ap (numbers_of number) (words_of_word word is some) ∙ ap (λ n. with_number n (Some [])) makes

pub list_behind_word : {A : Type 0} (number : List ℕ → Option A) (word : List ℕ) (b : ℕ) (bytes : List ℕ) (a : Option A) → IsWord word
    → is_filled word ≡ true → is_blank b ≡ true → number word ≡ a → list_of number (word ++ b ∷ bytes) ≡ with_number a (list_of number bytes)
list_behind_word number word b bytes a is some blank makes =
    ap (numbers_of number) (words_behind_word word b bytes is some blank) ∙ ap (λ n. with_number n (list_of number bytes)) makes

pub list_behind_blank : {A : Type 0} (number : List ℕ → Option A) (b : ℕ) (bytes : List ℕ) → is_blank b ≡ true → list_of number (b ∷ bytes) ≡ list_of number bytes
list_behind_blank number b bytes blank = ap (numbers_of number) (words_behind_blank b bytes blank)

pub none_with : {A : Type 0} (numbers : Option (List A)) → with_number None numbers ≡ None
none_with None = refl
none_with (Some numbers) = refl

pub some_with : {A : Type 0} (a : A) (numbers : Option (List A)) → is_some (with_number (Some a) numbers) ≡ is_some numbers
some_with a None = refl
some_with a (Some numbers) = refl

-- digits with their sign are a word
filled_signed : (negative : Bool) (digits : List ℕ) → is_filled digits ≡ true → is_filled (signed negative digits) ≡ true
filled_signed true digits some = refl
filled_signed false digits some = some

pub word_of_spelled : {form : Form} {negative : Bool} {digits : List ℕ} (word : List ℕ) → IsSpelled form negative digits word → IsWord word × (is_filled word ≡ true)
word_of_spelled {form} {negative} {digits} word is = (
  subst IsWord (sym is.written) (spelled_is_word negative digits is.decimal),
  subst (λ w. is_filled w ≡ true) (sym is.written) (filled_signed negative digits is.some),
)

-- A word that is no number ends each list that goes on with it.
pub no_list : {A : Type 0} (number : List ℕ → Option A) (word b_more : List ℕ) (others : List (List ℕ)) (bytes : List ℕ)
    → words_of bytes ≡ (word ++ b_more) ∷ others → ((a : A) → number (word ++ b_more) ≡ Some a → ⊥) → list_of number bytes ≡ None
no_list {A} number word more others bytes are none =
    ap (numbers_of number) are ∙ by_number (number (word ++ more)) refl
  where
    by_number : (n : Option A) → number (word ++ more) ≡ n → with_number (number (word ++ more)) (numbers_of number others) ≡ None
    by_number None is = ap (λ n. with_number n (numbers_of number others)) is ∙ none_with (numbers_of number others)
    by_number (Some a) is = absurd (none a is)

-- the state is in the middle of some list
pub continues : {A : Type 0} (form : Form) (number : List ℕ → Option A) (make : Number → A) → Makes form number make → (s : State) (word : List ℕ)
    → Pending form s word → Continues number word
continues form number make makes State.Between word p = ([], subst (λ w. IsTrue (is_some (list_of number (w ++ [])))) (sym p) refl)
continues form number make makes State.Signed word p =
    let zero_is : IsSpelled form true (48 ∷ []) (45 ∷ 48 ∷ []) =
    record { written = refl; some = refl; decimal = (refl, tt); within = omega arith; sign = p.1 } in
    let is = list_of_word number (45 ∷ 48 ∷ []) _ (refl, (refl, tt)) refl (makes.gives true (48 ∷ []) (45 ∷ 48 ∷ []) zero_is) in
    (48 ∷ [], subst (λ w. IsTrue (is_some (list_of number (w ++ 48 ∷ [])))) (sym p.0) (ap is_some is))
continues form number make makes (State.Within n) word p =
    let word_is = word_of_spelled word p.1 in
    let is = list_of_word number word _ word_is.0 word_is.1 (makes.gives n.negative p.0 word p.1) in
    ([], subst (λ w. IsTrue (is_some (list_of number w))) (sym (append-nil word)) (ap is_some is))

-- and no list goes on with a byte that it refuses
pub stops : {A : Type 0} (form : Form) (number : List ℕ → Option A) (make : Number → A) → Makes form number make → (s : State) (word : List ℕ) (b : ℕ)
    → Pending form s word → IsWord word → is_blank b ≡ false → step form s b ≡ None → Continues number (word ++ b ∷ []) → ⊥
stops form number make makes s word b p is blank none c =
    let on = goes_on (word ++ b ∷ []) c.0 (word_with word b is blank) (behind word) in
    let no = no_list number (word ++ b ∷ []) on.more on.others ((word ++ b ∷ []) ++ c.0) on.words
    (λ a. λ e. let spelled = makes.only ((word ++ b ∷ []) ++ on.more) a e in
    refuses form s word b on.more p blank none spelled.0 spelled.1 (subst (IsSpelled form spelled.0 spelled.1) (append_assoc word (b ∷ []) on.more) spelled.2)) in
    true≢false (sym c.1 ∙ ap is_some no)
  where
    behind : (w : List ℕ) → is_filled (w ++ b ∷ []) ≡ true
    behind [] = refl
    behind (d ∷ w) = refl
