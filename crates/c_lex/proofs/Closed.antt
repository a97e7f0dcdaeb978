-- What no piece is stays none with more bytes behind it, and where a slash ends a piece, a space does.
use Rattle.std.proofs.Common.{◌≡◌, ℕ, zero, suc, ◌-◌, ◌<◌, ◌&&◌, ◌||◌, Bool, true, false, cond, not, leb, eqb, List, [], ◌∷◌, ◌++◌, length, take, get_or, Option, Some, None, refl, sym, ap, subst, ◌∙◌, length-append, arith}
use Rattle.std.specs.Prelude.{bytes_eq, codes, is_some}
use Rattle.std.specs.List.{list_all, list_any}
use Rattle.std.specs.Option.{option_map}
use Rattle.std.proofs.lemmas.Bool.{and_from, and_parts, eq-eqb, false≢true, lt-leb, ne_eqb, or_left, or_right}
use Rattle.std.proofs.Math.Bool.{and-false}
use Rattle.std.proofs.lemmas.List.{take_at}
use Rattle.std.proofs.lemmas.Option.{same_Some}
use Rattle.std.proofs.lemmas.Slice.Eq.{bytes_eq-Decides}
use Rattle.c_lex.specs.declared.piece.Piece.{Piece}
use Rattle.c_lex.specs.declared.piece.Piece.TheVariants.{Gap, Mark, OpenComment}
use Rattle.c_lex.specs.declared.token.Mark as marks
use Rattle.c_lex.specs.Bytes.{is_white, is_word_byte, is_newline}
use Rattle.c_lex.specs.Marks.{mark_of, spellings}
use Rattle.c_lex.specs.PieceOf.{begins, block_piece, but_last, has_close, piece_of, run_piece, when}
use Rattle.c_lex.specs.Words.{look_up}
use Rattle.c_lex.proofs.LongestPiece.{map_none, piece_block, piece_line, piece_mark, piece_nil, piece_run, piece_white, two_at}
use Rattle.c_lex.proofs.MarkTable.{begins-more}

-- ---- rows of a table

-- a row that is found passes what all rows pass
row_of : (rows : List (List ℕ × marks.Mark)) (text : List ℕ) (m : marks.Mark) (p : List ℕ → Bool) → list_all (λ row. p row.0) rows ≡ true → look_up (λ row. bytes_eq text row.0) (λ row. row.1) rows ≡ Some m → p text ≡ true
row_of [] text m p all e = absurd cc
row_of (row ∷ rows) text m p all e =
    let parts = and_parts (p row.0) (list_all (λ row. p row.0) rows) all in
    by (bytes_eq text row.0) refl e parts.0 (row_of rows text m p parts.1)
  where
    by : (b : Bool) → bytes_eq text row.0 ≡ b → cond b (Some row.1) (look_up (λ row. bytes_eq text row.0) (λ row. row.1) rows) ≡ Some m → p row.0 ≡ true → (look_up (λ row. bytes_eq text row.0) (λ row. row.1) rows ≡ Some m → p text ≡ true) → p text ≡ true
    by true t e here later = ap p ((bytes_eq-Decides text row.0).0 t) ∙ here
    by false t e here later = later e

-- the texts of marks have no space, and each is one byte or a mark and a byte
abbrev fits_mark : List ℕ → Bool
fits_mark text = not (list_any (eqb 32) text) && (leb (length text) 1 || is_some (mark_of (but_last text)))

marks_fit : list_all (λ row. fits_mark row.0) spellings ≡ true
unfolding spellings mark_of
marks_fit = refl

mark_fits : (text : List ℕ) (m : marks.Mark) → mark_of text ≡ Some m → fits_mark text ≡ true
unfolding mark_of
mark_fits text m e = row_of spellings text m fits_mark marks_fit e

any_last : (text : List ℕ) (b : ℕ) → list_any (eqb b) (text ++ b ∷ []) ≡ true
any_last [] b = or_left (eqb b b) false (eq-eqb b b refl)
any_last (c ∷ text) b = or_right (eqb b c) (list_any (eqb b) (text ++ b ∷ [])) (any_last text b)

no_mark_by : (text : List ℕ) (r : Option marks.Mark) → mark_of text ≡ r → (fits_mark text ≡ true → ⊥) → r ≡ None
no_mark_by text None e never = refl
no_mark_by text (Some m) e never = absurd (never (mark_fits text m e))

-- no mark ends with a space
space_no_mark : (text : List ℕ) → mark_of (text ++ 32 ∷ []) ≡ None
space_no_mark text =
    no_mark_by (text ++ 32 ∷ []) (mark_of (text ++ 32 ∷ [])) refl
    (λ t. let p = and_parts (not (list_any (eqb 32) (text ++ 32 ∷ []))) _ t in let e : not true ≡ true = subst (λ b. not b ≡ true) (any_last text 32) p.0 in false≢true e)

but_last_push : (text : List ℕ) (b : ℕ) → but_last (text ++ b ∷ []) ≡ text
but_last_push text b = let long : length text ≡ length (text ++ b ∷ []) - 1 = omega (arith, length-append text (b ∷ [])) in take_at text (b ∷ []) (length (text ++ b ∷ []) - 1) long

-- what is no mark is none with one byte more
more_no_mark : (b : ℕ) (bs : List ℕ) (c : ℕ) → mark_of (b ∷ bs) ≡ None → mark_of (b ∷ bs ++ c ∷ []) ≡ None
more_no_mark b bs c e =
    no_mark_by (b ∷ bs ++ c ∷ []) (mark_of (b ∷ bs ++ c ∷ [])) refl
    (λ t.
    let p = and_parts (not (list_any (eqb 32) (b ∷ bs ++ c ∷ []))) (leb (length (b ∷ bs ++ c ∷ [])) 1 || is_some (mark_of (but_last (b ∷ bs ++ c ∷ [])))) t in
    let long : leb (length (b ∷ bs ++ c ∷ [])) 1 ≡ false = lt-leb _ _ (omega (arith, length-append bs (c ∷ []))) in
    let gone : is_some (mark_of (but_last (b ∷ bs ++ c ∷ []))) ≡ false = ap (λ (x : List ℕ). is_some (mark_of x)) (but_last_push (b ∷ bs) c) ∙ ap (λ (o : Option marks.Mark). is_some o) e in
    let both : false || false ≡ true = subst (λ x. x || false ≡ true) long (subst (λ x. leb (length (b ∷ bs ++ c ∷ [])) 1 || x ≡ true) gone p.1) in
    false≢true both)

-- ---- one byte more

fails_push : (p : ℕ → Bool) (xs : List ℕ) (y : ℕ) → list_all p xs ≡ false → list_all p (xs ++ y ∷ []) ≡ false
fails_push p [] y e = absurd (false≢true (sym e))
fails_push p (x ∷ xs) y e = by (p x) refl e (fails_push p xs y)
  where
    by : (b : Bool) → p x ≡ b → b && list_all p xs ≡ false → (list_all p xs ≡ false → list_all p (xs ++ y ∷ []) ≡ false) → p x && list_all p (xs ++ y ∷ []) ≡ false
    by true t e h = rw t (h e)
    by false t e h = rw t refl

last_fails : (p : ℕ → Bool) (xs : List ℕ) (y : ℕ) → p y ≡ false → list_all p (xs ++ y ∷ []) ≡ false
last_fails p [] y e = rw e refl
last_fails p (x ∷ xs) y e = rw (last_fails p xs y e) (and-false (p x))

all_push : (p : ℕ → Bool) (xs : List ℕ) (y : ℕ) → list_all p xs ≡ true → p y ≡ true → list_all p (xs ++ y ∷ []) ≡ true
all_push p [] y e h = rw h refl
all_push p (x ∷ xs) y e h = let q = and_parts (p x) (list_all p xs) e in and_from (p x) _ q.0 (all_push p xs y q.1 h)

when_none : (b : Bool) (piece : Piece) → when b piece ≡ None → b ≡ false
when_none true piece e = absurd cc
when_none false piece e = refl

when_some : (b : Bool) (p q : Piece) → when b p ≡ Some q → (b ≡ true) × (p ≡ q)
when_some true p q e = (refl, same_Some p q e)
when_some false p q e = absurd cc

closes_more : (m : ℕ) (xs : List ℕ) → has_close (take m xs) ≡ true → has_close xs ≡ true
closes_more zero xs e = absurd (false≢true e)
closes_more (suc m) [] e = e
closes_more (suc m) (x ∷ xs) e = by (begins (x ∷ take m xs) (codes "*/")) refl e (closes_more m xs)
  where
    by : (b : Bool) → begins (x ∷ take m xs) (codes "*/") ≡ b → b || has_close (take m xs) ≡ true → (has_close (take m xs) ≡ true → has_close xs ≡ true) → begins (x ∷ xs) (codes "*/") || has_close xs ≡ true
    by true t e h = or_left (begins (x ∷ xs) (codes "*/")) (has_close xs) (begins-more (suc m) (x ∷ xs) (codes "*/") t)
    by false t e h = or_right (begins (x ∷ xs) (codes "*/")) (has_close xs) (h e)

one_slash : piece_of (47 ∷ []) ≡ None → ⊥
unfolding piece_of mark_of spellings
one_slash e = cc

closed_line : (rest : List ℕ) (c : ℕ) → piece_of (47 ∷ 47 ∷ rest) ≡ None → piece_of (47 ∷ 47 ∷ (rest ++ c ∷ [])) ≡ None
closed_line rest c e =
    let q : ℕ → Bool = λ c. not (is_newline c) in
    let fails = when_none (list_all q (47 ∷ rest)) Gap (sym (piece_line rest) ∙ e) in
    piece_line (rest ++ c ∷ []) ∙ rw (fails_push q (47 ∷ rest) c fails) refl

not_false : (b : Bool) → not b ≡ false → b ≡ true
not_false true e = refl
not_false false e = sym e

closed_block : (rest : List ℕ) (c : ℕ) → piece_of (47 ∷ 42 ∷ rest) ≡ None → piece_of (47 ∷ 42 ∷ (rest ++ c ∷ [])) ≡ None
closed_block rest c e =
    let early = not_false (has_close (but_last rest)) (when_none (not (has_close (but_last rest))) (block_piece rest) (sym (piece_block rest) ∙ e)) in
    let closes : has_close (but_last (rest ++ c ∷ [])) ≡ true = ap has_close (but_last_push rest c) ∙ closes_more (length rest - 1) rest early in
    piece_block (rest ++ c ∷ []) ∙ rw closes refl

module _ (b : ℕ) (white : is_white b ≡ false) (word : is_word_byte b ≡ false) where
  alone : (x : ℕ) → eqb x b && false ≡ false
  alone x = and-false (eqb x b)

  closed_one : (c : ℕ) → piece_of (b ∷ []) ≡ None → (l s : Bool) → begins (b ∷ c ∷ []) (codes "//") ≡ l → begins (b ∷ c ∷ []) (codes "/*") ≡ s → piece_of (b ∷ c ∷ []) ≡ None
  closed_one c e true s line block = absurd (let two = two_at b (c ∷ []) 47 47 line in let same : b ≡ 47 = ap (λ (xs : List ℕ). get_or xs 0 0) two.1 in one_slash (subst (λ k. piece_of (k ∷ []) ≡ None) same e))
  closed_one c e false true line block = absurd (let two = two_at b (c ∷ []) 47 42 block in let same : b ≡ 47 = ap (λ (xs : List ℕ). get_or xs 0 0) two.1 in one_slash (subst (λ k. piece_of (k ∷ []) ≡ None) same e))
  closed_one c e false false line block =
      let before = map_none Mark (mark_of (b ∷ [])) (sym (piece_mark b [] white word (alone 47) (alone 47)) ∙ e) in
      piece_mark b (c ∷ []) white word line block ∙ ap (option_map Mark) (more_no_mark b [] c before)

  closed_two : (d : ℕ) (ds : List ℕ) (c : ℕ) → piece_of (b ∷ d ∷ ds) ≡ None → (l s : Bool) → begins (b ∷ d ∷ ds) (codes "//") ≡ l → begins (b ∷ d ∷ ds) (codes "/*") ≡ s → piece_of (b ∷ d ∷ (ds ++ c ∷ [])) ≡ None
  closed_two d ds c e true s line block =
      let two = two_at b (d ∷ ds) 47 47 line in
      subst (λ (xs : List ℕ). piece_of (xs ++ c ∷ []) ≡ None) (sym two.1) (closed_line two.0 c (subst (λ (xs : List ℕ). piece_of xs ≡ None) two.1 e))
  closed_two d ds c e false true line block =
      let two = two_at b (d ∷ ds) 47 42 block in
      subst (λ (xs : List ℕ). piece_of (xs ++ c ∷ []) ≡ None) (sym two.1) (closed_block two.0 c (subst (λ (xs : List ℕ). piece_of xs ≡ None) two.1 e))
  closed_two d ds c e false false line block =
      let before = map_none Mark (mark_of (b ∷ d ∷ ds)) (sym (piece_mark b (d ∷ ds) white word line block) ∙ e) in
      piece_mark b (d ∷ (ds ++ c ∷ [])) white word line block ∙ ap (option_map Mark) (more_no_mark b (d ∷ ds) c before)

  closed_mark : (bs : List ℕ) (c : ℕ) → piece_of (b ∷ bs) ≡ None → piece_of (b ∷ (bs ++ c ∷ [])) ≡ None
  closed_mark [] c e = closed_one c e (begins (b ∷ c ∷ []) (codes "//")) (begins (b ∷ c ∷ []) (codes "/*")) refl refl
  closed_mark (d ∷ ds) c e = closed_two d ds c e (begins (b ∷ d ∷ ds) (codes "//")) (begins (b ∷ d ∷ ds) (codes "/*")) refl refl

long_push : (xs : List ℕ) (y : ℕ) → eqb (length (xs ++ y ∷ [])) 0 ≡ false
long_push xs y = ne_eqb _ _ (λ e. omega (arith, length-append xs (y ∷ [])))

closed_by : (b : ℕ) (bs : List ℕ) (c : ℕ) (w r : Bool) → is_white b ≡ w → is_word_byte b ≡ r → piece_of (b ∷ bs) ≡ None → piece_of (b ∷ (bs ++ c ∷ [])) ≡ None
closed_by b bs c true r white word e = piece_white b (bs ++ c ∷ []) white ∙ rw (long_push bs c) refl
closed_by b bs c false true white word e =
    let fails = when_none (list_all is_word_byte bs) (run_piece (b ∷ bs)) (sym (piece_run b bs white word) ∙ e) in
    piece_run b (bs ++ c ∷ []) white word ∙ rw (fails_push is_word_byte bs c fails) refl
closed_by b bs c false false white word e = closed_mark b white word bs c e

-- what is no piece is none with one byte more
pub closed : (text : List ℕ) (c : ℕ) → 0 < length text → piece_of text ≡ None → piece_of (text ++ c ∷ []) ≡ None
closed [] c some e = absurd (omega arith)
closed (b ∷ bs) c some e = closed_by b bs c (is_white b) (is_word_byte b) refl refl e

-- ---- a space

space_line : (rest : List ℕ) (p : Piece) → piece_of (47 ∷ 47 ∷ rest) ≡ Some p → piece_of (47 ∷ 47 ∷ (rest ++ 47 ∷ [])) ≡ None → ⊥
space_line rest p e slash =
    let q : ℕ → Bool = λ c. not (is_newline c) in
    let all = (when_some (list_all q (47 ∷ rest)) Gap p (sym (piece_line rest) ∙ e)).0 in
    let fails = when_none (list_all q (47 ∷ (rest ++ 47 ∷ []))) Gap (sym (piece_line (rest ++ 47 ∷ [])) ∙ slash) in
    false≢true (sym fails ∙ all_push q (47 ∷ rest) 47 all refl)

shut : (b : Bool) (p : Piece) → cond b Gap OpenComment ≡ p → (p ≡ OpenComment → ⊥) → b ≡ true
shut true p e ends = refl
shut false p e ends = absurd (ends (sym e))

space_block : (rest : List ℕ) (p : Piece) → piece_of (47 ∷ 42 ∷ rest) ≡ Some p → (p ≡ OpenComment → ⊥) → piece_of (47 ∷ 42 ∷ (rest ++ 32 ∷ [])) ≡ None
space_block rest p e ends =
    let is = (when_some (not (has_close (but_last rest))) (block_piece rest) p (sym (piece_block rest) ∙ e)).1 in
    let closes : has_close (but_last (rest ++ 32 ∷ [])) ≡ true = ap has_close (but_last_push rest 32) ∙ shut (has_close rest) p is ends in
    piece_block (rest ++ 32 ∷ []) ∙ rw closes refl

module _ (b : ℕ) (white : is_white b ≡ false) (word : is_word_byte b ≡ false) (p : Piece) (ends : p ≡ OpenComment → ⊥) where
  space_two : (d : ℕ) (ds : List ℕ) → piece_of (b ∷ d ∷ ds) ≡ Some p → piece_of (b ∷ d ∷ (ds ++ 47 ∷ [])) ≡ None → (l s : Bool) → begins (b ∷ d ∷ ds) (codes "//") ≡ l → begins (b ∷ d ∷ ds) (codes "/*") ≡ s
      → piece_of (b ∷ d ∷ (ds ++ 32 ∷ [])) ≡ None
  space_two d ds e slash true s line block =
      let two = two_at b (d ∷ ds) 47 47 line in
      absurd (space_line two.0 p (subst (λ (xs : List ℕ). piece_of xs ≡ Some p) two.1 e) (subst (λ (xs : List ℕ). piece_of (xs ++ 47 ∷ []) ≡ None) two.1 slash))
  space_two d ds e slash false true line block =
      let two = two_at b (d ∷ ds) 47 42 block in
      subst (λ (xs : List ℕ). piece_of (xs ++ 32 ∷ []) ≡ None) (sym two.1) (space_block two.0 p (subst (λ (xs : List ℕ). piece_of xs ≡ Some p) two.1 e) ends)
  space_two d ds e slash false false line block = piece_mark b (d ∷ (ds ++ 32 ∷ [])) white word line block ∙ ap (option_map Mark) (space_no_mark (b ∷ d ∷ ds))

  space_mark : (bs : List ℕ) → piece_of (b ∷ bs) ≡ Some p → piece_of (b ∷ (bs ++ 47 ∷ [])) ≡ None → piece_of (b ∷ (bs ++ 32 ∷ [])) ≡ None
  space_mark [] e slash = piece_mark b (32 ∷ []) white word (and-false (eqb 47 b)) (and-false (eqb 47 b)) ∙ ap (option_map Mark) (space_no_mark (b ∷ []))
  space_mark (d ∷ ds) e slash = space_two d ds e slash (begins (b ∷ d ∷ ds) (codes "//")) (begins (b ∷ d ∷ ds) (codes "/*")) refl refl

space_by : (b : ℕ) (bs : List ℕ) (p : Piece) (w r : Bool) → is_white b ≡ w → is_word_byte b ≡ r → piece_of (b ∷ bs) ≡ Some p → (p ≡ OpenComment → ⊥) → piece_of (b ∷ (bs ++ 47 ∷ [])) ≡ None → piece_of (b ∷ (bs ++ 32 ∷ [])) ≡ None
space_by b bs p true r white word e ends slash = piece_white b (bs ++ 32 ∷ []) white ∙ rw (long_push bs 32) refl
space_by b bs p false true white word e ends slash = piece_run b (bs ++ 32 ∷ []) white word ∙ rw (last_fails is_word_byte bs 32 refl) refl
space_by b bs p false false white word e ends slash = space_mark b white word p ends bs e slash

pub no_empty : (p : Piece) → piece_of [] ≡ Some p → ⊥
no_empty p e = let gone = piece_nil in cc

-- where a slash ends a piece that is no open comment, a space ends it
pub spaced : (text : List ℕ) (p : Piece) → piece_of text ≡ Some p → (p ≡ OpenComment → ⊥) → piece_of (text ++ 47 ∷ []) ≡ None → piece_of (text ++ 32 ∷ []) ≡ None
spaced [] p e ends slash = absurd (no_empty p e)
spaced (b ∷ bs) p e ends slash = space_by b bs p (is_white b) (is_word_byte b) refl refl e ends slash
