-- Runs of letters, digits and '_', and where they end.
use Rattle.std.proofs.Common.{◌≡◌, ℕ, zero, suc, ◌+◌, ◌-◌, ◌*◌, ◌<◌, ◌≤◌, ◌||◌, ◌&&◌, Bool, true, false, cond, not, leb, ltb, eqb, List, [], ◌∷◌, ◌++◌, length, get_or, take, Option, Some, None, refl, sym, ap, subst, ◌∙◌, append_assoc, length-append, arith, rules}
use Rattle.std.specs.Prelude.{codes, decimal, pos}
use Rattle.std.specs.Char.{is_ascii_digit}
use Rattle.std.specs.List.{list_all, fold}
use Rattle.std.specs.Option.{option_map}
use Rattle.c_lex.specs.Marks.{mark_of}
use Rattle.std.proofs.lemmas.Bool.{and_parts, and_from, le-leb, lt-ltb, ne_eqb}
use Rattle.std.proofs.lemmas.Bool.Decides.{nat_tests}
use Rattle.std.proofs.lemmas.List.{append-nil}
use Rattle.std.proofs.lemmas.List.Sums.{sum_by-append}
use Rattle.std.proofs.Math.Seq.{take-append_seam, take-append-add}
use Rattle.std.proofs.lemmas.Str.Parse.{IsNumeralModel, numerals_by_fold}
use Rattle.std.proofs.lemmas.Fmt.{decimal_digit, decimal_nonempty, digits_decimal, digits_value-decimal, first_decimal}
use Rattle.c_lex.specs.declared.piece.Piece.{Piece}
use Rattle.c_lex.specs.declared.piece.Piece.TheVariants.{Gap, Name, Number, OpenComment, Mark}
use Rattle.c_lex.specs.Bytes.{is_white, is_word_byte, is_newline, newlines}
use Rattle.c_lex.specs.Constant.{constant_of, digit_value, is_digit_in, number_in}
use Rattle.c_lex.specs.PieceOf.{begins, piece_of, when}
use Rattle.c_lex.proofs.LongestPiece.{IsFront, piece_white, piece_run, piece_line, piece_block, piece_mark, piece_nil, two_at}
use Rattle.c_lex.proofs.Closed.{closed}

pub record IsRun (text : List ℕ) : Type 0 where
  pub head : ℕ
  pub tail : List ℕ
  pub is : text ≡ head ∷ tail
  pub word : is_word_byte head ≡ true
  pub all : list_all is_word_byte tail ≡ true

word_not_white : (b : ℕ) → is_word_byte b ≡ true → is_white b ≡ false
word_not_white b e = grind (arith, nat_tests)

word_not_newline : (b : ℕ) → is_word_byte b ≡ true → is_newline b ≡ false
word_not_newline b e = grind (arith, nat_tests)

and_false : (b : Bool) → b && false ≡ false
and_false true = refl
and_false false = refl

last_fails : (p : ℕ → Bool) (xs : List ℕ) (y : ℕ) → p y ≡ false → list_all p (xs ++ y ∷ []) ≡ false
last_fails p [] y e = rw e refl
last_fails p (x ∷ xs) y e = rw (last_fails p xs y e) (and_false (p x))

-- a space ends a run
pub run_ends : (text : List ℕ) → IsRun text → piece_of (text ++ 32 ∷ []) ≡ None
run_ends text r =
    ap (λ (xs : List ℕ). piece_of (xs ++ 32 ∷ [])) r.is
    ∙ piece_run r.head (r.tail ++ 32 ∷ []) (word_not_white r.head r.word) r.word ∙ rw (last_fails is_word_byte r.tail 32 refl) refl

one_line : (b : ℕ) (bs : List ℕ) → is_newline b ≡ false → newlines bs ≡ 0 → newlines (b ∷ bs) ≡ 0
one_line b bs e h = sum_by-append (λ c. cond (is_newline c) 1 0) (b ∷ []) bs ∙ rw (e, h) refl

words_line : (bs : List ℕ) → list_all is_word_byte bs ≡ true → newlines bs ≡ 0
words_line [] e = refl
words_line (b ∷ bs) e = let p = and_parts (is_word_byte b) (list_all is_word_byte bs) e in one_line b bs (word_not_newline b p.0) (words_line bs p.1)

pub run_line : (text : List ℕ) → IsRun text → newlines text ≡ 0
run_line text r = ap newlines r.is ∙ one_line r.head r.tail (word_not_newline r.head r.word) (words_line r.tail r.all)

-- ---- names

when_some : (b : Bool) (p q : Piece) → when b p ≡ Some q → (b ≡ true) × (p ≡ q)
when_some true p q e = (refl, cc)
when_some false p q e = absurd cc

no_comment : (b : Bool) → cond b Gap OpenComment ≡ Name → ⊥
no_comment true e = cc
no_comment false e = cc

no_mark : {M : Type 0} (of : M → Piece) (never : (m : M) → of m ≡ Name → ⊥) (r : Option M) → option_map of r ≡ Some Name → ⊥
no_mark of never None e = cc
no_mark of never (Some m) e = let h : of m ≡ Name = cc in never m h

name_by : (b : ℕ) (bs : List ℕ) → piece_of (b ∷ bs) ≡ Some Name → (w r l s : Bool) → is_white b ≡ w → is_word_byte b ≡ r
    → begins (b ∷ bs) (codes "//") ≡ l → begins (b ∷ bs) (codes "/*") ≡ s → IsRun (b ∷ bs)
name_by b bs e true r l s white word line block = absurd (let p = (when_some _ _ _ (sym (piece_white b bs white) ∙ e)).1 in cc)
name_by b bs e false true l s white word line block =
    record { head = b; tail = bs; is = refl; word = word; all = (when_some _ _ _ (sym (piece_run b bs white word) ∙ e)).0 }
name_by b bs e false false true s white word line block =
    absurd (let two = two_at b bs 47 47 line in
    let p = (when_some _ _ _ (sym (piece_line two.0) ∙ sym (ap piece_of two.1) ∙ e)).1 in cc)
name_by b bs e false false false true white word line block =
    absurd (let two = two_at b bs 47 42 block in
    let p = (when_some _ _ _ (sym (piece_block two.0) ∙ sym (ap piece_of two.1) ∙ e)).1 in no_comment _ p)
name_by b bs e false false false false white word line block = absurd (no_mark Mark (λ m h. cc) (mark_of (b ∷ bs)) (sym (piece_mark b bs white word line block) ∙ e))

pub name_run : (text : List ℕ) → piece_of text ≡ Some Name → IsRun text
name_run [] e = absurd (let n = piece_nil in cc)
name_run (b ∷ bs) e = name_by b bs e (is_white b) (is_word_byte b) (begins (b ∷ bs) (codes "//")) (begins (b ∷ bs) (codes "/*")) refl refl refl refl

-- ---- numbers

abbrev value_after : ℕ → List ℕ → ℕ
value_after n [] = n
value_after n (d ∷ ds) = value_after (n * 10 + (d - 48)) ds

digits_model : IsNumeralModel (λ ds. list_all is_ascii_digit ds ≡ true) (value_after 0)
digits_model = numerals_by_fold _ (search rules) value_after (search rules)

digit_word : (d : ℕ) → is_ascii_digit d ≡ true → is_word_byte d ≡ true
digit_word d e = grind (arith, nat_tests)

digits_word : (ds : List ℕ) → list_all is_ascii_digit ds ≡ true → list_all is_word_byte ds ≡ true
digits_word [] e = refl
digits_word (d ∷ ds) e =
    let p = and_parts (is_ascii_digit d) (list_all is_ascii_digit ds) e in and_from (is_word_byte d) _ (digit_word d p.0) (digits_word ds p.1)

digit_in : (d : ℕ) → is_ascii_digit d ≡ true → (is_digit_in 10 d ≡ true) × (digit_value d ≡ d - 48)
digit_in d e = (grind (arith, nat_tests), grind (arith, nat_tests))

digits_in : (n : ℕ) (ds : List ℕ) → list_all is_ascii_digit ds ≡ true
    → (list_all (is_digit_in 10) ds ≡ true) × (fold (λ k d. k * 10 + digit_value d) n ds ≡ value_after n ds)
digits_in n [] e = (refl, refl)
digits_in n (d ∷ ds) e =
    let p = and_parts (is_ascii_digit d) (list_all is_ascii_digit ds) e in
    let q = digit_in d p.0 in
    let r = digits_in (n * 10 + (d - 48)) ds p.1 in
    (and_from (is_digit_in 10 d) _ q.0 r.0, rw q.1 r.1)

number_of_digits : (d : ℕ) (ds : List ℕ) (n : ℕ) → list_all is_ascii_digit (d ∷ ds) ≡ true → value_after 0 (d ∷ ds) ≡ n → number_in 10 (d ∷ ds) ≡ Some n
number_of_digits d ds n e v =
    let p = digits_in 0 (d ∷ ds) e in
    let filled : ltb 0 (length (d ∷ ds)) ≡ true = lt-ltb _ _ (omega arith) in
    rw (filled, p.0) (ap Some (p.1 ∙ v))

first_not_zero : (n d c : ℕ) (ds : List ℕ) → n ≤ 2147483647 → d ∷ c ∷ ds ≡ decimal n → eqb d 48 ≡ false
first_not_zero zero d c ds small e = absurd (let one = e ∙ decimal_digit 0 (omega arith) in cc)
first_not_zero (suc n) d c ds small e =
    let above : 48 < get_or (d ∷ c ∷ ds) 0 0 = subst (λ (xs : List ℕ). 48 < get_or xs 0 0) (sym e) (first_decimal (suc n) (omega arith) (omega arith)) in
    ne_eqb _ _ (λ h. omega (arith, above, h))

either_way : (b : Bool) (r : Option ℕ) → cond (b || true) r None ≡ r
either_way true r = refl
either_way false r = refl

record IsNumber (n : ℕ) (ds : List ℕ) : Type 0 where
  digits : list_all is_ascii_digit ds ≡ true
  run : IsRun ds
  constant : constant_of ds ≡ Some n

number_by : (n : ℕ) (ds : List ℕ) → n ≤ 2147483647 → ds ≡ decimal n → IsNumber n ds
unfolding constant_of
number_by n [] small e = absurd (let some = decimal_nonempty n (omega arith) in omega (arith, ap length e))
number_by n (d ∷ []) small e =
    let digits : list_all is_ascii_digit (d ∷ []) ≡ true = subst (λ (xs : List ℕ). list_all is_ascii_digit xs ≡ true) (sym e) (digits_decimal digits_model n (omega arith)) in
    let value : value_after 0 (d ∷ []) ≡ n = ap (value_after 0) e ∙ digits_value-decimal digits_model n (omega arith) in
    let p = and_parts (is_ascii_digit d) true digits in
    record { digits = digits; run = record { head = d; tail = []; is = refl; word = digit_word d p.0; all = refl }; constant = either_way (not (eqb d 48)) (number_in 10 (d ∷ [])) ∙ number_of_digits d [] n digits value }
number_by n (d ∷ c ∷ ds) small e =
    let digits : list_all is_ascii_digit (d ∷ c ∷ ds) ≡ true = subst (λ (xs : List ℕ). list_all is_ascii_digit xs ≡ true) (sym e) (digits_decimal digits_model n (omega arith)) in
    let value : value_after 0 (d ∷ c ∷ ds) ≡ n = ap (value_after 0) e ∙ digits_value-decimal digits_model n (omega arith) in
    let p = and_parts (is_ascii_digit d) (list_all is_ascii_digit (c ∷ ds)) digits in
    let f = first_not_zero n d c ds small e in
    record {
      digits = digits;
      run = record { head = d; tail = c ∷ ds; is = refl; word = digit_word d p.0; all = digits_word (c ∷ ds) p.1 };
      constant = rw f (number_of_digits d (c ∷ ds) n digits value);
    }

number_piece_by : (n : ℕ) (ds : List ℕ) → n ≤ 2147483647 → IsNumber n ds → piece_of ds ≡ Some (Number (pos n))
number_piece_by n [] small i = absurd (let r = i.run in let e = r.is in cc)
number_piece_by n (d ∷ ds) small i =
    let p = and_parts (is_ascii_digit d) (list_all is_ascii_digit ds) i.digits in
    let w = digit_word d p.0 in
    let fits : leb n 2147483647 ≡ true = le-leb _ _ small in
    piece_run d ds (word_not_white d w) w ∙ rw (digits_word ds p.1, p.0, i.constant, fits) refl

-- a number is read from its digits
pub decimal_run : (n : ℕ) → n ≤ 2147483647 → IsRun (decimal n)
decimal_run n small = let i = number_by n (decimal n) small refl in i.run

pub decimal_piece : (n : ℕ) → n ≤ 2147483647 → piece_of (decimal n) ≡ Some (Number (pos n))
decimal_piece n small = number_piece_by n (decimal n) small (number_by n (decimal n) small refl)

-- ---- the longest piece

still_none : (text more : List ℕ) → 0 < length text → piece_of text ≡ None → piece_of (text ++ more) ≡ None
still_none text [] some e = ap piece_of (append-nil text) ∙ e
still_none text (c ∷ more) some e =
    let longer : 0 < length (text ++ c ∷ []) = omega (arith, length-append text (c ∷ [])) in
    ap piece_of (sym (append_assoc text (c ∷ []) more)) ∙ still_none (text ++ c ∷ []) more longer (closed text c some e)

pub at_end : (text : List ℕ) (p : Piece) → piece_of text ≡ Some p → IsFront (text ++ []) (length text) p
at_end text p e =
    record {
      within = omega (arith, length-append text []);
      is = ap piece_of (take-append_seam text []) ∙ e;
      longest = λ m past within. absurd (omega (arith, length-append text []));
    }

front_none : (text more : List ℕ) (j : ℕ) → piece_of (text ++ 32 ∷ []) ≡ None → piece_of (take (length text + suc j) (text ++ 32 ∷ more)) ≡ None
front_none text more j e =
    let some : 0 < length (text ++ 32 ∷ []) = omega (arith, length-append text (32 ∷ [])) in
    ap piece_of (take-append-add text (32 ∷ more) (suc j) ∙ sym (append_assoc text (32 ∷ []) (take j more))) ∙ still_none (text ++ 32 ∷ []) (take j more) some e

pub before_space : (text : List ℕ) (p : Piece) → piece_of text ≡ Some p → piece_of (text ++ 32 ∷ []) ≡ None → (more : List ℕ) → IsFront (text ++ 32 ∷ more) (length text) p
before_space text p e none more =
    record {
      within = omega (arith, length-append text (32 ∷ more));
      is = ap piece_of (take-append_seam text (32 ∷ more)) ∙ e;
      longest = λ m past within.
          let sum : length text + suc (m - length text - 1) ≡ m = omega arith in
          subst (λ k. piece_of (take k (text ++ 32 ∷ more)) ≡ None) sum (front_none text more (m - length text - 1) none);
    }
