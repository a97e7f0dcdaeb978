-- The words of bytes that begin with a word.
use Rattle.std.proofs.Common.{◌≡◌, ℕ, Bool, true, false, List, [], ◌∷◌, ◌++◌, refl, sym, ap, ◌∙◌, true≢false}
use Rattle.std.specs.List.{filter}
use Rattle.std.proofs.lemmas.List.{append-nil}
use Rattle.number_lists.specs.Lists.{is_blank, pieces_of, words_of, is_filled, with_first}

-- no byte of it is a blank
abbrev pub IsWord : List ℕ → Type 0
IsWord [] = Unit {0}
IsWord (b ∷ word) = (is_blank b ≡ false) × IsWord word

pub word_with : (word : List ℕ) (b : ℕ) → IsWord word → is_blank b ≡ false → IsWord (word ++ b ∷ [])
word_with [] b is here = (here, tt)
word_with (c ∷ word) b is here = (is.0, word_with word b is.1 here)

-- the first piece, and the others
record Pieces (bytes : List ℕ) : Type 0 where
  first : List ℕ
  others : List (List ℕ)
  are : pieces_of bytes ≡ first ∷ others

one_more : (b : ℕ) (bytes : List ℕ) (blank : Bool) → is_blank b ≡ blank → Pieces bytes → Pieces (b ∷ bytes)
one_more b bytes true is rest =
    record { first = []; others = pieces_of bytes; are = ap (λ t. elim t [ true ↦ [] ∷ pieces_of bytes | false ↦ with_first b (pieces_of bytes) ]) is }
one_more b bytes false is rest =
    record {
      first = b ∷ rest.first;
      others = rest.others;
      are = ap (λ t. elim t [ true ↦ [] ∷ pieces_of bytes | false ↦ with_first b (pieces_of bytes) ]) is ∙ ap (with_first b) rest.are;
    }

some_pieces : (bytes : List ℕ) → Pieces bytes
some_pieces [] = record { first = []; others = []; are = refl }
some_pieces (b ∷ bytes) = one_more b bytes (is_blank b) refl (some_pieces bytes)

behind_word : (word bytes first : List ℕ) (others : List (List ℕ)) → IsWord word → pieces_of bytes ≡ first ∷ others
    → pieces_of (word ++ bytes) ≡ (word ++ first) ∷ others
behind_word [] bytes first others is are = are
behind_word (b ∷ word) bytes first others is are =
    ap (λ t. elim t [ true ↦ [] ∷ pieces_of (word ++ bytes) | false ↦ with_first b (pieces_of (word ++ bytes)) ]) is.0
    ∙ ap (with_first b) (behind_word word bytes first others is.1 are)

filled : (word : List ℕ) (words : List (List ℕ)) → is_filled word ≡ true → filter is_filled (word ∷ words) ≡ word ∷ filter is_filled words
filled (b ∷ word) words is = refl
filled [] words is = absurd (true≢false (sym is))

-- behind a blank the words are those that come then
pub words_behind_blank : (b : ℕ) (bytes : List ℕ) → is_blank b ≡ true → words_of (b ∷ bytes) ≡ words_of bytes
words_behind_blank b bytes blank = ap (λ t. filter is_filled (elim t [ true ↦ [] ∷ pieces_of bytes | false ↦ with_first b (pieces_of bytes) ])) blank

-- a word that a blank ends
pub words_behind_word : (word : List ℕ) (b : ℕ) (bytes : List ℕ) → IsWord word → is_filled word ≡ true → is_blank b ≡ true
    → words_of (word ++ b ∷ bytes) ≡ word ∷ words_of bytes
words_behind_word word b bytes is some blank =
    let here : pieces_of (b ∷ bytes) ≡ [] ∷ pieces_of bytes = ap (λ t. elim t [ true ↦ [] ∷ pieces_of bytes | false ↦ with_first b (pieces_of bytes) ]) blank in
    ap (filter is_filled) (behind_word word (b ∷ bytes) [] (pieces_of bytes) is here ∙ ap (λ w. w ∷ pieces_of bytes) (append-nil word))
    ∙ filled word (pieces_of bytes) some

-- a word that the bytes end
pub words_of_word : (word : List ℕ) → IsWord word → is_filled word ≡ true → words_of word ≡ word ∷ []
words_of_word word is some =
    ap (λ w. words_of w) (sym (append-nil word))
    ∙ ap (filter is_filled) (behind_word word [] [] [] is refl ∙ ap (λ w. w ∷ []) (append-nil word)) ∙ filled word [] some

-- a word that goes on somehow
pub record GoesOn (word bytes : List ℕ) : Type 0 where
  pub more : List ℕ
  pub others : List (List ℕ)
  pub words : words_of (word ++ bytes) ≡ (word ++ more) ∷ others

pub goes_on : (word bytes : List ℕ) → IsWord word → is_filled word ≡ true → GoesOn word bytes
goes_on [] bytes is some = absurd (true≢false (sym some))
goes_on (b ∷ word) bytes is some =
    let rest = some_pieces bytes in
    record {
      more = rest.first;
      others = filter is_filled rest.others;
      words = ap (filter is_filled) (behind_word (b ∷ word) bytes rest.first rest.others is rest.are);
    }
