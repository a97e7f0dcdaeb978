-- The piece that is read at the front of bytes is the longest there.
use Rattle.std.proofs.Common.{◌≡◌, ℕ, zero, suc, ◌+◌, ◌-◌, ◌<◌, ◌≤◌, ◌&&◌, ◌||◌, Bool, true, false, cond, not, leb, eqb, List, [], ◌∷◌, length, take, Option, Some, None, refl, sym, ap, subst, ◌∙◌, arith}
use Rattle.std.specs.Prelude.{codes}
use Rattle.std.specs.List.{list_all, prefix_len}
use Rattle.std.specs.Option.{option_map}
use Rattle.std.proofs.lemmas.Bool.{and_parts, eqb-true, false_from_ne_true, false≢true, le-leb, lt-leb, ne_eqb}
use Rattle.std.proofs.lemmas.Bool.Decides.{nat_tests}
use Rattle.std.proofs.lemmas.List.{length-take-le}
use Rattle.std.proofs.lemmas.Option.{same_Some}
use Rattle.std.proofs.Math.Seq.{take-length, take-take}
use Rattle.std.proofs.lemmas.List.Sums.{prefix_len-le-length}
use Rattle.c_lex.specs.declared.piece.Piece.{Piece}
use Rattle.c_lex.specs.declared.piece.Piece.TheVariants.{Gap, Mark, OpenComment}
use Rattle.c_lex.specs.declared.token.Mark as marks
use Rattle.c_lex.specs.Bytes.{is_white, is_word_byte, is_newline}
use Rattle.c_lex.specs.Marks.{mark_of, spellings}
use Rattle.c_lex.specs.PieceOf.{begins, block_piece, but_last, has_close, piece_of, run_piece, when}
use Rattle.c_lex.specs.tools.Scanning.{block_comment, close_at, line_comment_length, mark_at, piece_at}
use Rattle.c_lex.proofs.MarkTable.{begins-more, exact, first, first-exact, is_falling, longer-exact, none-exact}

-- ---- a piece by how it begins

pub piece_white : (b : ℕ) (bs : List ℕ) → is_white b ≡ true → piece_of (b ∷ bs) ≡ when (eqb (length bs) 0) Gap
unfolding piece_of
piece_white b bs white = rw white refl

pub piece_run : (b : ℕ) (bs : List ℕ) → is_white b ≡ false → is_word_byte b ≡ true → piece_of (b ∷ bs) ≡ when (list_all is_word_byte bs) (run_piece (b ∷ bs))
unfolding piece_of
piece_run b bs white word = rw (white, word) refl

pub piece_line : (bs : List ℕ) → piece_of (47 ∷ 47 ∷ bs) ≡ when (list_all (λ c. not (is_newline c)) (47 ∷ bs)) Gap
unfolding piece_of
piece_line bs = refl

pub piece_block : (bs : List ℕ) → piece_of (47 ∷ 42 ∷ bs) ≡ when (not (has_close (but_last bs))) (block_piece bs)
unfolding piece_of
piece_block bs = refl

pub piece_mark : (b : ℕ) (bs : List ℕ) → is_white b ≡ false → is_word_byte b ≡ false → begins (b ∷ bs) (codes "//") ≡ false → begins (b ∷ bs) (codes "/*") ≡ false → piece_of (b ∷ bs) ≡ option_map Mark (mark_of (b ∷ bs))
unfolding piece_of
piece_mark b bs white word line block = rw (white, word, line, block) refl

-- ---- the longest piece

-- the first n bytes are the piece, and no longer front is one
pub record IsFront (bytes : List ℕ) (n : ℕ) (piece : Piece) : Type 0 where
  pub within : n ≤ length bytes
  pub is : piece_of (take n bytes) ≡ Some piece
  pub longest : (m : ℕ) → n < m → m ≤ length bytes → piece_of (take m bytes) ≡ None

-- what is read at the front is the longest piece there, and nothing is read where no front is one
abbrev pub IsRight : List ℕ → Option (ℕ × Piece) → Type 0
IsRight bytes None = (m : ℕ) → m ≤ length bytes → piece_of (take m bytes) ≡ None
IsRight bytes (Some x) = IsFront bytes x.0 x.1

pub piece_nil : piece_of [] ≡ None
unfolding piece_of
piece_nil = refl

nonempty : (n : ℕ) → eqb (suc n) 0 ≡ false
nonempty n = ne_eqb (suc n) 0 (λ e. omega arith)

-- ---- white space

pub white_right : (b : ℕ) (bs : List ℕ) → is_white b ≡ true → IsFront (b ∷ bs) 1 Gap
white_right b bs white = record { within = omega arith; is = piece_white b [] white; longest = longer bs }
  where
    longer : (bs : List ℕ) (m : ℕ) → 1 < m → m ≤ length (b ∷ bs) → piece_of (take m (b ∷ bs)) ≡ None
    longer bs zero more within = absurd (omega arith)
    longer bs (suc zero) more within = absurd (omega arith)
    longer [] (suc (suc k)) more within = absurd (omega arith)
    longer (c ∷ cs) (suc (suc k)) more within = piece_white b (c ∷ take k cs) white ∙ rw (nonempty (length (take k cs))) refl

-- ---- runs

-- so many elements from the front on pass, and no more
passes_step : (p : ℕ → Bool) (x : ℕ) (xs : List ℕ) (b : Bool) → p x ≡ b → list_all p (take (prefix_len p xs) xs) ≡ true → list_all p (take (cond b (1 + prefix_len p xs) 0) (x ∷ xs)) ≡ true
passes_step p x xs true e h = let one : 1 + prefix_len p xs ≡ suc (prefix_len p xs) = omega arith in rw (one, e) h
passes_step p x xs false e h = refl

prefix_passes : (p : ℕ → Bool) (xs : List ℕ) → list_all p (take (prefix_len p xs) xs) ≡ true
prefix_passes p [] = refl
prefix_passes p (x ∷ xs) = passes_step p x xs (p x) refl (prefix_passes p xs)

fails_step : (p : ℕ → Bool) (x : ℕ) (xs : List ℕ) (m : ℕ) (b : Bool) → p x ≡ b → (prefix_len p xs < m → list_all p (take m xs) ≡ false) → cond b (1 + prefix_len p xs) 0 < suc m → p x && list_all p (take m xs) ≡ false
fails_step p x xs m true e h more = rw e (h (omega arith))
fails_step p x xs m false e h more = rw e refl

longer_fails : (p : ℕ → Bool) (xs : List ℕ) (m : ℕ) → prefix_len p xs < m → m ≤ length xs → list_all p (take m xs) ≡ false
longer_fails p xs zero more within = absurd (omega arith)
longer_fails p [] (suc m) more within = absurd (omega arith)
longer_fails p (x ∷ xs) (suc m) more within = fails_step p x xs m (p x) refl (λ h. longer_fails p xs m h (omega arith)) more

prefix_within : (p : ℕ → Bool) (xs : List ℕ) → prefix_len p xs ≤ length xs
prefix_within p xs = prefix_len-le-length p xs

run_right : (b : ℕ) (bs : List ℕ) → is_white b ≡ false → is_word_byte b ≡ true → IsFront (b ∷ bs) (prefix_len is_word_byte (b ∷ bs)) (run_piece (take (prefix_len is_word_byte (b ∷ bs)) (b ∷ bs)))
run_right b bs white word =
    let n = prefix_len is_word_byte bs in
    let long : prefix_len is_word_byte (b ∷ bs) ≡ suc n = rw word (omega arith) in
    rw long (record {
      within = omega (arith, prefix_within is_word_byte bs);
      is = piece_run b (take n bs) white word ∙ rw (prefix_passes is_word_byte bs) refl;
      longest = longer;
    })
  where
    longer : (m : ℕ) → suc (prefix_len is_word_byte bs) < m → m ≤ length (b ∷ bs) → piece_of (take m (b ∷ bs)) ≡ None
    longer zero more within = absurd (omega arith)
    longer (suc m) more within = piece_run b (take m bs) white word ∙ rw (longer_fails is_word_byte bs m (omega arith) (omega arith)) refl

-- ---- comments

line_right : (bs : List ℕ) → IsFront (47 ∷ 47 ∷ bs) (line_comment_length (47 ∷ 47 ∷ bs)) Gap
line_right bs =
    let q : ℕ → Bool = λ c. not (is_newline c) in
    let n = prefix_len q bs in
    let long : line_comment_length (47 ∷ 47 ∷ bs) ≡ suc (suc n) = omega arith in
    rw long (record {
      within = omega (arith, prefix_within q bs);
      is = piece_line (take n bs) ∙ rw (prefix_passes q bs) refl;
      longest = longer;
    })
  where
    longer : (m : ℕ) → suc (suc (prefix_len (λ c. not (is_newline c)) bs)) < m → m ≤ length (47 ∷ 47 ∷ bs) → piece_of (take m (47 ∷ 47 ∷ bs)) ≡ None
    longer zero more within = absurd (omega arith)
    longer (suc zero) more within = absurd (omega arith)
    longer (suc (suc m)) more within = piece_line (take m bs) ∙ rw (longer_fails (λ c. not (is_newline c)) bs m (omega arith) (omega arith)) refl

front_begins : (b : ℕ) (bs : List ℕ) (m : ℕ) (front : List ℕ) → begins (b ∷ bs) front ≡ false → begins (b ∷ take m bs) front ≡ false
front_begins b bs m front e = false_from_ne_true _ (λ t. false≢true (sym e ∙ begins-more (suc m) (b ∷ bs) front t))

-- two bytes that bytes begin with
pub two_at : (b : ℕ) (bs : List ℕ) (x y : ℕ) → begins (b ∷ bs) (x ∷ y ∷ []) ≡ true → (rest : List ℕ) × (b ∷ bs ≡ x ∷ y ∷ rest)
two_at b [] x y e = absurd (let h = and_parts (eqb x b) false e in false≢true h.1)
two_at b (c ∷ cs) x y e =
    let h = and_parts (eqb x b) (eqb y c && true) e in
    let g = and_parts (eqb y c) true h.1 in
    (cs, λ i. sym (eqb-true _ _ h.0) i ∷ sym (eqb-true _ _ g.0) i ∷ cs)

-- no front has a close where none is found
pub map_none : {A B : Type 0} (f : A → B) (r : Option A) → option_map f r ≡ None → r ≡ None
map_none f None e = refl
map_none f (Some n) e = absurd cc

none_step : (b : ℕ) (bs : List ℕ) (m : ℕ) (t : Bool) → begins (b ∷ bs) (codes "*/") ≡ t → cond t (Some 2) (option_map suc (close_at bs)) ≡ None → (close_at bs ≡ None → has_close (take m bs) ≡ false)
    → begins (b ∷ take m bs) (codes "*/") || has_close (take m bs) ≡ false
none_step b bs m true t e h = absurd cc
none_step b bs m false t e h = rw (front_begins b bs m (codes "*/") t) (h (map_none suc (close_at bs) e))

none_closes : (bs : List ℕ) (m : ℕ) → close_at bs ≡ None → has_close (take m bs) ≡ false
unfolding close_at
none_closes bs zero e = refl
none_closes [] (suc m) e = refl
none_closes (b ∷ bs) (suc m) e = none_step b bs m (begins (b ∷ bs) (codes "*/")) refl e (none_closes bs m)

-- the end of the first close tells which fronts have one
two_closes : (m : ℕ) (rest : List ℕ) → has_close (take m (42 ∷ 47 ∷ rest)) ≡ leb 2 m
two_closes zero rest = refl
two_closes (suc zero) rest = refl
two_closes (suc (suc m)) rest = sym (le-leb 2 (suc (suc m)) (omega arith))

later_closes : (b : ℕ) (bs : List ℕ) (n m : ℕ) → begins (b ∷ bs) (codes "*/") ≡ false → ((j : ℕ) → has_close (take j bs) ≡ leb n j) → has_close (take m (b ∷ bs)) ≡ leb (suc n) m
later_closes b bs n zero t h = sym (lt-leb (suc n) 0 (omega arith))
later_closes b bs n (suc m) t h =
    let next : leb n m ≡ leb (suc n) (suc m) = grind (arith, nat_tests) in
    rw (front_begins b bs m (codes "*/") t) (h m ∙ next)

-- what the first close is: here, or one further than in the rest
data Closes (b : ℕ) (bs : List ℕ) : ℕ → Type 0 where
  here : (rest : List ℕ) → b ∷ bs ≡ 42 ∷ 47 ∷ rest → Closes b bs 2
  later : (n : ℕ) → begins (b ∷ bs) (codes "*/") ≡ false → close_at bs ≡ Some n → Closes b bs (suc n)

closes_step : (b : ℕ) (bs : List ℕ) (n : ℕ) (t : Bool) → begins (b ∷ bs) (codes "*/") ≡ t → (r : Option ℕ) → close_at bs ≡ r → cond t (Some 2) (option_map suc r) ≡ Some n → Closes b bs n
closes_step b bs n true t r c e = let two = two_at b bs 42 47 t in subst (Closes b bs) (same_Some _ _ e) (here two.0 two.1)
closes_step b bs n false t None c e = absurd cc
closes_step b bs n false t (Some k) c e = subst (Closes b bs) (same_Some _ _ e) (later k t c)

closes : (b : ℕ) (bs : List ℕ) (n : ℕ) → close_at (b ∷ bs) ≡ Some n → Closes b bs n
unfolding close_at
closes b bs n e = closes_step b bs n (begins (b ∷ bs) (codes "*/")) refl (close_at bs) refl e

close_nil : (n : ℕ) → close_at [] ≡ Some n → ⊥
unfolding close_at
close_nil n e = cc

some_by : (b : ℕ) (bs : List ℕ) (n : ℕ) → Closes b bs n → ((k : ℕ) → close_at bs ≡ Some k → (j : ℕ) → has_close (take j bs) ≡ leb k j) → (m : ℕ) → has_close (take m (b ∷ bs)) ≡ leb n m
some_by b bs n (here rest e) h m = subst (λ (xs : List ℕ). has_close (take m xs) ≡ leb 2 m) (sym e) (two_closes m rest)
some_by b bs n (later k t c) h m = later_closes b bs k m t (h k c)

some_closes : (bs : List ℕ) (n : ℕ) → close_at bs ≡ Some n → (m : ℕ) → has_close (take m bs) ≡ leb n m
some_closes [] n e m = absurd (close_nil n e)
some_closes (b ∷ bs) n e m = some_by b bs n (closes b bs n e) (λ k c. some_closes bs k c) m

within_by : (b : ℕ) (bs : List ℕ) (n : ℕ) → Closes b bs n → ((k : ℕ) → close_at bs ≡ Some k → (2 ≤ k) × (k ≤ length bs)) → (2 ≤ n) × (n ≤ length (b ∷ bs))
within_by b bs n (here rest e) h = (omega arith, subst (λ (xs : List ℕ). 2 ≤ length xs) (sym e) (omega arith))
within_by b bs n (later k t c) h = let w = h k c in (omega (arith, w.0), omega (arith, w.1))

close_within : (bs : List ℕ) (n : ℕ) → close_at bs ≡ Some n → (2 ≤ n) × (n ≤ length bs)
close_within [] n e = absurd (close_nil n e)
close_within (b ∷ bs) n e = within_by b bs n (closes b bs n e) (close_within bs)

but_last_take : (n : ℕ) (xs : List ℕ) → n ≤ length xs → but_last (take n xs) ≡ take (n - 1) xs
but_last_take n xs within = rw (length-take-le n xs within) (take-take (n - 1) n xs (omega arith))

open_right : (bs : List ℕ) → close_at bs ≡ None → IsFront (47 ∷ 42 ∷ bs) (length (47 ∷ 42 ∷ bs)) OpenComment
open_right bs none =
    let whole : has_close bs ≡ false = subst (λ (xs : List ℕ). has_close xs ≡ false) (take-length bs) (none_closes bs (length bs) none) in
    let front : has_close (but_last bs) ≡ false = none_closes bs (length bs - 1) none in
    record {
      within = omega arith;
      is = ap piece_of (take-length (47 ∷ 42 ∷ bs)) ∙ piece_block bs ∙ rw (front, whole) refl;
      longest = λ m more within. absurd (omega arith);
    }

closed_right : (bs : List ℕ) (n : ℕ) → close_at bs ≡ Some n → IsFront (47 ∷ 42 ∷ bs) (n + 2) Gap
closed_right bs n some =
    let w = close_within bs n some in
    let long : n + 2 ≡ suc (suc n) = omega arith in
    let whole : has_close (take n bs) ≡ true = some_closes bs n some n ∙ le-leb n n (omega arith) in
    let front : has_close (but_last (take n bs)) ≡ false = ap has_close (but_last_take n bs w.1) ∙ some_closes bs n some (n - 1) ∙ lt-leb n (n - 1) (omega (arith, w.0)) in
    rw long (record { within = omega (arith, w.1); is = piece_block (take n bs) ∙ rw (front, whole) refl; longest = longer })
  where
    longer : (m : ℕ) → suc (suc n) < m → m ≤ length (47 ∷ 42 ∷ bs) → piece_of (take m (47 ∷ 42 ∷ bs)) ≡ None
    longer zero more within = absurd (omega arith)
    longer (suc zero) more within = absurd (omega arith)
    longer (suc (suc m)) more within =
        let early : has_close (but_last (take m bs)) ≡ true = ap has_close (but_last_take m bs (omega arith)) ∙ some_closes bs n some (m - 1) ∙ le-leb n (m - 1) (omega arith) in
        piece_block (take m bs) ∙ rw early refl

block_right : (bs : List ℕ) → IsFront (47 ∷ 42 ∷ bs) (block_comment (47 ∷ 42 ∷ bs)).0 (block_comment (47 ∷ 42 ∷ bs)).1
unfolding block_comment
block_right bs = by (close_at bs) refl
  where
    by : (r : Option ℕ) → close_at bs ≡ r → (let x : ℕ × Piece = elim r [ None ↦ (length (47 ∷ 42 ∷ bs), OpenComment) | Some n ↦ (n + 2, Gap) ] in IsFront (47 ∷ 42 ∷ bs) x.0 x.1)
    by None e = open_right bs e
    by (Some n) e = closed_right bs n e

-- ---- marks

marks_fall : is_falling spellings ≡ true
unfolding spellings
marks_fall = refl

no_empty_mark : mark_of [] ≡ None
unfolding mark_of spellings
no_empty_mark = refl

mark_is : (text : List ℕ) → mark_of text ≡ exact spellings text
unfolding mark_of
mark_is text = refl

found_is : (bytes : List ℕ) → mark_at bytes ≡ first spellings bytes
unfolding mark_at
found_is bytes = refl

module _ (b : ℕ) (bs : List ℕ) (white : is_white b ≡ false) (word : is_word_byte b ≡ false) (line : begins (b ∷ bs) (codes "//") ≡ false) (block : begins (b ∷ bs) (codes "/*") ≡ false) where
  front_mark : (k : ℕ) → piece_of (b ∷ take k bs) ≡ option_map Mark (mark_of (b ∷ take k bs))
  front_mark k = piece_mark b (take k bs) white word (front_begins b bs k (codes "//") line) (front_begins b bs k (codes "/*") block)

  no_mark : mark_at (b ∷ bs) ≡ None → (m : ℕ) → m ≤ length (b ∷ bs) → piece_of (take m (b ∷ bs)) ≡ None
  no_mark none zero within = piece_nil
  no_mark none (suc k) within = front_mark k ∙ ap (option_map Mark) (mark_is _ ∙ none-exact spellings (b ∷ bs) (suc k) (sym (found_is _) ∙ none))

  some_mark : (n : ℕ) (a : marks.Mark) → mark_at (b ∷ bs) ≡ Some (n, a) → IsFront (b ∷ bs) n (Mark a)
  some_mark zero a found =
      let h = first-exact spellings (b ∷ bs) zero a (sym (found_is _) ∙ found) in
      absurd (let e = sym no_empty_mark ∙ mark_is [] ∙ h.1 in cc)
  some_mark (suc k) a found =
      let h = first-exact spellings (b ∷ bs) (suc k) a (sym (found_is _) ∙ found) in
      record { within = h.0; is = front_mark k ∙ ap (option_map Mark) (mark_is _ ∙ h.1); longest = longer }
    where
      longer : (m : ℕ) → suc k < m → m ≤ length (b ∷ bs) → piece_of (take m (b ∷ bs)) ≡ None
      longer zero more within = absurd (omega arith)
      longer (suc j) more within = front_mark j ∙ ap (option_map Mark) (mark_is _ ∙ longer-exact spellings (b ∷ bs) (suc k) a (suc j) marks_fall (sym (found_is _) ∙ found) more within)

  mark_right : (r : Option (ℕ × marks.Mark)) → mark_at (b ∷ bs) ≡ r → IsRight (b ∷ bs) (option_map (λ m. (m.0, Mark m.1)) r)
  mark_right None e = no_mark e
  mark_right (Some x) e = some_mark x.0 x.1 e

-- ---- all

nil_right : (m : ℕ) → piece_of (take m []) ≡ None
nil_right zero = piece_nil
nil_right (suc m) = piece_nil

pub piece_right : (bytes : List ℕ) → IsRight bytes (piece_at bytes)
unfolding piece_at
piece_right [] = λ m within. nil_right m
piece_right (b ∷ bs) = by (is_white b) (is_word_byte b) (begins (b ∷ bs) (codes "//")) (begins (b ∷ bs) (codes "/*")) refl refl refl refl
  where
    by : (w r l s : Bool) → is_white b ≡ w → is_word_byte b ≡ r → begins (b ∷ bs) (codes "//") ≡ l → begins (b ∷ bs) (codes "/*") ≡ s
        → IsRight (b ∷ bs)
        (cond w (Some (1, Gap)) (cond r (Some (prefix_len is_word_byte (b ∷ bs), run_piece (take (prefix_len is_word_byte (b ∷ bs)) (b ∷ bs))))
        (cond l (Some (line_comment_length (b ∷ bs), Gap)) (cond s (Some (block_comment (b ∷ bs))) (option_map (λ m. (m.0, Mark m.1)) (mark_at (b ∷ bs)))))))
    by true r l s white word line block = white_right b bs white
    by false true l s white word line block = run_right b bs white word
    by false false true s white word line block = let two = two_at b bs 47 47 line in subst (λ (xs : List ℕ). IsFront xs (line_comment_length xs) Gap) (sym two.1) (line_right two.0)
    by false false false true white word line block = let two = two_at b bs 47 42 block in subst (λ (xs : List ℕ). IsFront xs (block_comment xs).0 (block_comment xs).1) (sym two.1) (block_right two.0)
    by false false false false white word line block = mark_right b bs white word line block (mark_at (b ∷ bs)) refl

-- nothing is read where nothing is left
pub no_piece : option_map (λ (x : ℕ × Piece). x.1) (piece_at []) ≡ None
unfolding piece_at
no_piece = refl
