-- Words are taken apart in one way.
use Rattle.std.proofs.Common.{◌≡◌, Bool, true, false, List, [], ◌∷◌, Option, Some, None, option_map, refl, sym, ap, subst, ◌∙◌}
use Rattle.clap.specs.Lexer.{long_of}
use Rattle.dfi_words.specs.Split.{Text, Options, Split, nothing, plain, apart, joined, dashes}
use Rattle.dfi_words.proofs.Forms.{is_dashes, LooksLong, LooksPlain, apart_looks, joined_looks, plain_looks}

abbrev Parts : Type 0
Parts = Options × List Text

abbrev with_plain : Text → Option Parts → Option Parts
with_plain word = option_map (λ parts. (parts.0, word ∷ parts.1))

abbrev with_option : Text → Text → Option Parts → Option Parts
with_option name value = option_map (λ parts. ((name, value) ∷ parts.0, parts.1))

-- by what the word is: plain, an option with its value in it, or one whose value comes next
abbrev by_option : Text → Option (Text × Option Text) → Option Parts → (Text → Option Parts) → Option Parts
by_option word None here next = with_plain word here
by_option word (Some (name, Some value)) here next = with_option name value here
by_option word (Some (name, None)) here next = next name

abbrev by_dashes : Bool → Text → List Text → Option (Text × Option Text) → Option Parts → (Text → Option Parts) → Option Parts
by_dashes true word words long here next = Some ([], words)
by_dashes false word words long here next = by_option word long here next

parts_of : List Text → Option Parts
parts_of [] = Some ([], [])
parts_of (word ∷ []) = by_dashes (is_dashes word) word [] (long_of word) (Some ([], [])) (λ _. None)
parts_of (word ∷ value ∷ words) =
    by_dashes (is_dashes word) word (value ∷ words) (long_of word) (parts_of (value ∷ words)) (λ name. with_option name value (parts_of words))

abbrev Next : Type 0
Next = Text → Option Parts

at_option : (word name : Text) (words : List Text) (value : Option Text) (here : Option Parts) (next : Next) → LooksLong word name value
    → by_dashes (is_dashes word) word words (long_of word) here next ≡ by_option word (Some (name, value)) here next
at_option word name words value here next looks = rw (looks.dashes, looks.long) refl

at_plain : (word : Text) (words : List Text) (here : Option Parts) (next : Next) → LooksPlain word
    → by_dashes (is_dashes word) word words (long_of word) here next ≡ with_plain word here
at_plain word words here next looks = rw (looks.dashes, looks.long) refl

after_joined : (word name value : Text) (words : List Text) → LooksLong word name (Some value) → parts_of (word ∷ words) ≡ with_option name value (parts_of words)
unfolding parts_of
after_joined word name value [] looks = at_option word name [] (Some value) _ _ looks
after_joined word name value (x ∷ words) looks = at_option word name (x ∷ words) (Some value) _ _ looks

after_plain : (word : Text) (words : List Text) → LooksPlain word → parts_of (word ∷ words) ≡ with_plain word (parts_of words)
unfolding parts_of
after_plain word [] looks = at_plain word [] _ _ looks
after_plain word (x ∷ words) looks = at_plain word (x ∷ words) _ _ looks

after_apart : (word name value : Text) (words : List Text) → LooksLong word name None → parts_of (word ∷ value ∷ words) ≡ with_option name value (parts_of words)
unfolding parts_of
after_apart word name value words looks = at_option word name (value ∷ words) None _ _ looks

after_dashes : (words : List Text) → parts_of ((45 ∷ 45 ∷ []) ∷ words) ≡ Some ([], words)
unfolding parts_of
after_dashes [] = refl
after_dashes (x ∷ words) = refl

splits_to : (words : List Text) (options : Options) (others : List Text) → Split words options others → parts_of words ≡ Some (options, others)
unfolding parts_of
splits_to _ _ _ nothing = refl
splits_to _ _ _ (plain word words options others is_plain rest) = after_plain word words (plain_looks word is_plain) ∙ ap (with_plain word) (splits_to words options others rest)
splits_to _ _ _ (apart word name value words options others is named rest) =
    after_apart word name value words (subst (λ w. LooksLong w name None) (sym is) (apart_looks name named)) ∙ ap (with_option name value) (splits_to words options others rest)
splits_to _ _ _ (joined word name value words options others is named rest) =
    after_joined word name value words (subst (λ w. LooksLong w name (Some value)) (sym is) (joined_looks name value named))
    ∙ ap (with_option name value) (splits_to words options others rest)
splits_to _ _ _ (dashes word others is) = ap (λ w. parts_of (w ∷ others)) is ∙ after_dashes others

same_some : (x : Option Parts) (p q : Parts) → x ≡ Some p → x ≡ Some q → p ≡ q
same_some x p q e f = let both : Some p ≡ Some q = sym e ∙ f in cc

pub split_once : (words : List Text) (a c : Options) (b d : List Text) → Split words a b → Split words c d → (a ≡ c) × (b ≡ d)
split_once words a c b d one other =
    let same = same_some (parts_of words) (a, b) (c, d) (splits_to words a b one) (splits_to words c d other) in
    (ap (λ p. p.0) same, ap (λ p. p.1) same)
