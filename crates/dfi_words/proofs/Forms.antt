-- How the words of a command line look to `clap`.
use Rattle.std.proofs.Common.{◌≡◌, ◌≢◌, ℕ, zero, suc, ◌==◌, Bool, true, false, [], ◌∷◌, ◌++◌, length, Option, Some, None, refl, sym, ap, subst, ◌∙◌, arith, bytes_eq, chars, slice_get, IsUtf8, encode_utf8_all}
use Rattle.std.specs.List.{AllByRecursion as Each}
use Rattle.std.proofs.lemmas.Bool.Decides.{nat_tests}
use Rattle.std.proofs.lemmas.Str.{IsUtf8-past_char, encodes-chars}
use Rattle.clap.specs.Lexer.{long_of, short_of, name_and_value}
use Rattle.clap.proofs.CutLemmas.{Lacks}
use Rattle.clap.proofs.LexerLemmas.{name_and_value-at, name_and_value-without}
use Rattle.dfi_words.specs.Split.{Text, IsPlain, IsOptionName}

abbrev pub NoEquals : Text → Type 0
NoEquals = Each (λ byte. byte ≢ 61)

lacks : (name : Text) → NoEquals name → Lacks 61 name
lacks [] h i below = absurd (omega arith)
lacks (b ∷ name) h zero below = h.0
lacks (b ∷ name) h (suc i) below = lacks name h.1 i (omega arith)

abbrev pub is_dashes : Text → Bool
is_dashes word = bytes_eq word (45 ∷ 45 ∷ [])

-- the word is an option of this name, with the value that is in it
pub record LooksLong (word name : Text) (value : Option Text) : Type 0 where
  pub dashes : is_dashes word ≡ false
  pub long : long_of word ≡ Some (name, value)

-- the word is no option
pub record LooksPlain (word : Text) : Type 0 where
  pub dashes : is_dashes word ≡ false
  pub long : long_of word ≡ None
  pub short : short_of word ≡ None

pub apart_looks : (name : Text) → IsOptionName name → LooksLong (45 ∷ 45 ∷ name) name None
apart_looks [] h = absurd (h.0 refl)
apart_looks (b ∷ name) h = record { dashes = refl; long = ap Some (name_and_value-without (b ∷ name) (lacks (b ∷ name) h.1)) }

pub joined_looks : (name value : Text) → IsOptionName name → LooksLong (45 ∷ 45 ∷ (name ++ 61 ∷ value)) name (Some value)
joined_looks [] value h = absurd (h.0 refl)
joined_looks (b ∷ name) value h = record { dashes = refl; long = ap Some (name_and_value-at (b ∷ name) value (lacks (b ∷ name) h.1)) }

first_dash : (b : ℕ) (word : Text) (t : Bool) → (b == 45) ≡ t → IsPlain (b ∷ word) → LooksPlain (b ∷ word)
first_dash b word true e plain =
    let dash : b ≡ 45 = grind (arith, nat_tests) in
    let alone : word ≡ [] = plain word (ap (λ x. x ∷ word) dash) in
    rw (dash, alone) (record { dashes = refl; long = refl; short = refl })
first_dash b word false e plain = record { dashes = rw e refl; long = rw e refl; short = rw e refl }

pub plain_looks : (word : Text) → IsPlain word → LooksPlain word
plain_looks [] plain = record { dashes = refl; long = refl; short = refl }
plain_looks (b ∷ word) plain = first_dash b word (b == 45) refl plain

after_dash : (c : ℕ) (cs : Text) (t : Bool) → (c == 45) ≡ t → LooksPlain (45 ∷ c ∷ cs) → ⊥
after_dash c cs false e looks = let s : short_of (45 ∷ c ∷ cs) ≡ Some (c ∷ cs) = rw e refl in cc
after_dash c [] true e looks = let d : is_dashes (45 ∷ c ∷ []) ≡ true = rw e refl in cc
after_dash c (d ∷ ds) true e looks = let l : long_of (45 ∷ c ∷ d ∷ ds) ≡ Some (name_and_value (d ∷ ds)) = rw e refl in cc

nothing_after : (word more : Text) → LooksPlain word → word ≡ 45 ∷ more → more ≡ []
nothing_after word [] looks e = refl
nothing_after word (c ∷ cs) looks e = absurd (after_dash c cs (c == 45) refl (subst LooksPlain e looks))

pub looks_plain : (word : Text) → LooksPlain word → IsPlain word
looks_plain word looks more e = nothing_after word more looks e

-- a text with its first `=`, or without one
pub data Cut (text : Text) : Type 0 where
  lacking : NoEquals text → Cut text
  parted : (name value : Text) → NoEquals name → text ≡ name ++ 61 ∷ value → Cut text

cut_more : (b : ℕ) (text : Text) → b ≢ 61 → Cut text → Cut (b ∷ text)
cut_more b text other (lacking h) = lacking (other, h)
cut_more b text other (parted name value h e) = parted (b ∷ name) value (other, h) (ap (λ t. b ∷ t) e)

cut_first : (b : ℕ) (text : Text) (t : Bool) → (b == 61) ≡ t → Cut text → Cut (b ∷ text)
cut_first b text true e rest = parted [] text tt (let same : b ≡ 61 = grind (arith, nat_tests) in ap (λ x. x ∷ text) same)
cut_first b text false e rest = let other : b ≢ 61 = grind (arith, nat_tests) in cut_more b text other rest

cut : (text : Text) → Cut text
cut [] = lacking tt
cut (b ∷ text) = cut_first b text (b == 61) refl (cut text)

-- an option is a word of one of these forms
pub data LongForm (word name : Text) : Option Text → Type 0 where
  bare : word ≡ 45 ∷ 45 ∷ name → NoEquals name → LongForm word name None
  valued : (value : Text) → word ≡ 45 ∷ 45 ∷ (name ++ 61 ∷ value) → NoEquals name → LongForm word name (Some value)

same_long : (p q : Text × Option Text) → Some p ≡ Some q → p ≡ q
same_long p q e = cc

some_pair : (p q : Text × Option Text) → Some p ≡ Some q → (p.0 ≡ q.0) × (p.1 ≡ q.1)
some_pair p q e = (ap (λ x. x.0) (same_long p q e), ap (λ x. x.1) (same_long p q e))

cut_form : (word text name : Text) (value : Option Text) → word ≡ 45 ∷ 45 ∷ text → Some (name_and_value text) ≡ Some (name, value) → Cut text → LongForm word name value
cut_form word text name value is e (lacking h) =
    let p = some_pair (text, None) (name, value) (ap Some (sym (name_and_value-without text (lacks text h))) ∙ e) in
    subst (λ v. LongForm word name v) p.1 (bare (is ∙ ap (λ t. 45 ∷ 45 ∷ t) p.0) (subst NoEquals p.0 h))
cut_form word text name value is e (parted before after h parts) =
    let named : name_and_value text ≡ (before, Some after) = ap name_and_value parts ∙ name_and_value-at before after (lacks before h) in
    let p = some_pair (before, Some after) (name, value) (ap Some (sym named) ∙ e) in
    subst (λ v. LongForm word name v) p.1 (valued after (is ∙ ap (λ t. 45 ∷ 45 ∷ t) parts ∙ ap (λ n. 45 ∷ 45 ∷ (n ++ 61 ∷ after)) p.0) (subst NoEquals p.0 h))

second_form : (c : ℕ) (word name : Text) (value : Option Text) (t : Bool) → (c == 45) ≡ t → long_of (45 ∷ c ∷ word) ≡ Some (name, value) → LongForm (45 ∷ c ∷ word) name value
second_form c word name value false t e = let none : long_of (45 ∷ c ∷ word) ≡ None = rw t refl in absurd cc
second_form c [] name value true t e = let none : long_of (45 ∷ c ∷ []) ≡ None = rw t refl in absurd cc
second_form c (d ∷ word) name value true t e =
    let same : c ≡ 45 = grind (arith, nat_tests) in
    let some : long_of (45 ∷ c ∷ d ∷ word) ≡ Some (name_and_value (d ∷ word)) = rw t refl in
    cut_form (45 ∷ c ∷ d ∷ word) (d ∷ word) name value (ap (λ x. 45 ∷ x ∷ d ∷ word) same) (sym some ∙ e) (cut (d ∷ word))

first_form : (b : ℕ) (word name : Text) (value : Option Text) (t : Bool) → (b == 45) ≡ t → long_of (b ∷ word) ≡ Some (name, value) → LongForm (b ∷ word) name value
first_form b word name value false t e = let none : long_of (b ∷ word) ≡ None = rw t refl in absurd cc
first_form b [] name value true t e = let none : long_of (b ∷ []) ≡ None = rw t refl in absurd cc
first_form b (c ∷ word) name value true t e =
    let same : 45 ≡ b = grind (arith, nat_tests) in
    subst (λ x. LongForm (x ∷ c ∷ word) name value) same (second_form c word name value (c == 45) refl (ap (λ x. long_of (x ∷ c ∷ word)) same ∙ e))

pub long_form : (word name : Text) (value : Option Text) → long_of word ≡ Some (name, value) → LongForm word name value
long_form [] name value e = absurd cc
long_form (b ∷ word) name value e = first_form b word name value (b == 45) refl e

-- what follows the hyphen of a short option has a first character
pub record ShortForm (flags : Text) : Type 0 where
  pub first : ℕ
  pub starts : slice_get (chars flags) 0 ≡ Some first
  pub more : ℕ
  pub length_is : length flags ≡ suc more

first_char : (flags cs : Text) → encode_utf8_all cs ≡ flags → chars flags ≡ cs → (more : ℕ) → length flags ≡ suc more → ShortForm flags
first_char flags [] e c more l = let none : flags ≡ [] = sym e in absurd (omega (arith, ap length none, l))
first_char flags (x ∷ cs) e c more l = record { first = x; starts = ap (λ l. slice_get l 0) c; more = more; length_is = l }

short_second : (c : ℕ) (cs flags : Text) (t : Bool) → (c == 45) ≡ t → short_of (45 ∷ c ∷ cs) ≡ Some flags → IsUtf8 (45 ∷ c ∷ cs) → ShortForm flags
unfolding lib.Utf8.encode
short_second c cs flags true t e u = let none : short_of (45 ∷ c ∷ cs) ≡ None = rw t refl in absurd cc
short_second c cs flags false t e u =
    let some : short_of (45 ∷ c ∷ cs) ≡ Some (c ∷ cs) = rw t refl in
    let same : c ∷ cs ≡ flags = cc in
    let later : IsUtf8 (c ∷ cs) = IsUtf8-past_char (45 ∷ c ∷ cs) (c ∷ cs) 45 u refl in
    subst ShortForm same (first_char (c ∷ cs) (chars (c ∷ cs)) (encodes-chars (c ∷ cs) later) refl (length cs) refl)

short_first : (b : ℕ) (word flags : Text) (t : Bool) → (b == 45) ≡ t → short_of (b ∷ word) ≡ Some flags → IsUtf8 (b ∷ word) → ShortForm flags
short_first b word flags false t e u = let none : short_of (b ∷ word) ≡ None = rw t refl in absurd cc
short_first b [] flags true t e u = let none : short_of (b ∷ []) ≡ None = rw t refl in absurd cc
short_first b (c ∷ cs) flags true t e u =
    let same : b ≡ 45 = grind (arith, nat_tests) in
    short_second c cs flags (c == 45) refl (ap (λ x. short_of (x ∷ c ∷ cs)) (sym same) ∙ e) (subst (λ x. IsUtf8 (x ∷ c ∷ cs)) same u)

pub short_form : (word flags : Text) → short_of word ≡ Some flags → IsUtf8 word → ShortForm flags
short_form [] flags e u = absurd cc
short_form (b ∷ word) flags e u = short_first b word flags (b == 45) refl e u
