-- A list has no more numbers than bytes.
use Rattle.std.proofs.Common.{◌≡◌, ℕ, suc, ◌≤◌, Bool, true, false, List, [], ◌∷◌, length, Option, Some, None, refl, sym, ap, subst, ◌∙◌, arith}
use Rattle.std.specs.List.{filter}
use Rattle.number_lists.specs.Lists.{is_blank, pieces_of, words_of, is_filled, with_first, with_number, numbers_of, list_of}
use Rattle.number_lists.proofs.Walk.{none_some}

-- one byte more is at most one word more
first_adds : (b : ℕ) (pieces : List (List ℕ)) → length (filter is_filled (with_first b pieces)) ≤ suc (length (filter is_filled pieces))
first_adds b [] = omega arith
first_adds b ([] ∷ pieces) = omega arith
first_adds b ((c ∷ piece) ∷ pieces) = omega arith

few_by : (b : ℕ) (bytes : List ℕ) (blank : Bool) → length (words_of bytes) ≤ length bytes
    → length (filter is_filled (elim blank [ true ↦ [] ∷ pieces_of bytes | false ↦ with_first b (pieces_of bytes) ])) ≤ suc (length bytes)
few_by b bytes true few = omega (arith, few)
few_by b bytes false few = let one = first_adds b (pieces_of bytes) in omega (arith, few, one)

few_words : (bytes : List ℕ) → length (words_of bytes) ≤ length bytes
few_words [] = omega arith
few_words (b ∷ bytes) = few_by b bytes (is_blank b) (few_words bytes)

count_by : {A : Type 0} (n : Option A) (rest : Option (List A)) (words : List (List ℕ)) (numbers : List A) → ((ns : List A) → rest ≡ Some ns → length ns ≡ length words)
    → with_number n rest ≡ Some numbers → length numbers ≡ suc (length words)
count_by None rest words numbers same is = absurd (none_some is)
count_by (Some n) None words numbers same is = absurd (none_some is)
count_by {A} (Some n) (Some ns) words numbers same is =
    let here : numbers ≡ n ∷ ns = sym (ap (λ o. elim o [ Some xs ↦ xs | None ↦ [] ]) is) in
    ap (length {A = A}) here ∙ ap suc (same ns refl)

count : {A : Type 0} (number : List ℕ → Option A) (words : List (List ℕ)) (numbers : List A) → numbers_of number words ≡ Some numbers → length numbers ≡ length words
count {A} number [] numbers is = ap (length {A = A}) (sym (ap (λ o. elim o [ Some xs ↦ xs | None ↦ [] ]) is))
count number (word ∷ words) numbers is = count_by (number word) (numbers_of number words) words numbers (λ ns e. count number words ns e) is

pub few_numbers : {A : Type 0} (number : List ℕ → Option A) (bytes : List ℕ) (numbers : List A) → list_of number bytes ≡ Some numbers → length numbers ≤ length bytes
few_numbers number bytes numbers is = subst (λ n. n ≤ length bytes) (sym (count number (words_of bytes) numbers is)) (few_words bytes)
