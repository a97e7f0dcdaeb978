-- The first word of a table that comes next is the one that is read.
use Rattle.std.proofs.Common.{◌≡◌, ℕ, zero, suc, ◌+◌, ◌-◌, ◌<◌, ◌≤◌, Bool, true, false, ◌⊎◌, inl, inr, ◌&&◌, List, [], ◌∷◌, ◌++◌, length, take, drop, map, get_or, refl, sym, ap, subst, ◌∙◌, arith}
use Rattle.std.specs.Prelude.{nat_eq, max, min, if◌then◌else◌}
use Rattle.std.specs.Cmp.Lexicographic.{pointwise, same_text, other_text}
use Rattle.std.proofs.lemmas.Bool.{cases_lt}
use Rattle.std.proofs.lemmas.List.{take-append-drop, drop_more, drop_all}
use Rattle.std.proofs.Math.Seq.{take-append_seam}
use Rattle.line_format.specs.tools.Format.{Format, read, Answer, done, fault}
use Rattle.line_format.specs.tools.Words.{Table, one_of, are_distinct, are_filled, is_table, comes, look, furthest, common}
use Rattle.line_format.proofs.Tables.{Begins, In, here, there}
use Rattle.line_format.proofs.OneWord.{both, Filled, word_read, word_fault}
use Rattle.line_format.proofs.Digits.{false_true}

come : (w ts : List ℕ) → comes w ts ≡ true → ts ≡ w ++ drop (length w) ts
come w ts e =
    let same : take (length w) ts ≡ w = same_text (take (length w) ts) w (sym e) in
    sym (take-append-drop (length w) ts) ∙ ap (λ z. z ++ drop (length w) ts) same

come_not : (w ts r : List ℕ) → comes w ts ≡ false → ts ≡ w ++ r → ⊥
come_not w ts r e t = other_text (take (length w) ts) w (sym e) (ap (take (length w)) t ∙ take-append_seam w r)

-- ---- where the shorter ends, no more is common

none_left : (w : List ℕ) → common w [] ≡ 0
none_left [] = refl
none_left (c ∷ w) = refl

no_more : (w ts : List ℕ) (i : ℕ) → (length w ≤ i) ⊎ (length ts ≤ i) → common (drop i w) (drop i ts) ≡ 0
no_more w ts i (inl h) = ap (λ z. common z (drop i ts)) (drop_all i w h)
no_more w ts i (inr h) = ap (λ z. common (drop i w) z) (drop_all i ts h) ∙ none_left (drop i w)

shorter : (a b i : ℕ) → min a b ≤ i → (i < a) ⊎ (a ≤ i) → (a ≤ i) ⊎ (b ≤ i)
shorter a b i h (inl l) = inr (omega arith)
shorter a b i h (inr l) = inl l

pub common_ends : (w ts : List ℕ) (i : ℕ) → common w ts ≡ i + common (drop i w) (drop i ts) → min (length w) (length ts) ≤ i → common w ts ≡ i
common_ends w ts i e h =
    let none : common (drop i w) (drop i ts) ≡ 0 = no_more w ts i (shorter (length w) (length ts) i h (cases_lt i (length w))) in
    omega arith

module _ {A : Type 0} where
  filled : (t : Table A) → are_filled t ≡ true → Filled t
  filled [] e w a i = elim i [ ]
  filled (([], b) ∷ rows) e w a i = false_true e
  filled ((c ∷ v, b) ∷ rows) e w a here = omega arith
  filled ((c ∷ v, b) ∷ rows) e w a (there i) = filled rows e w a i

  begun : (t : Table A) → is_table t ≡ true → Begins t
  begun [] e = false_true e
  begun (([], a) ∷ rows) e = false_true e
  begun ((c ∷ w, a) ∷ rows) e = tt

  parts : (t : Table A) → is_table t ≡ true → (are_filled t ≡ true) × (are_distinct t ≡ true)
  parts [] e = false_true e
  parts (row ∷ rows) e = both (are_filled (row ∷ rows)) (are_distinct (row ∷ rows)) e

  not_first : (w v : List ℕ) (a b : A) (rows : Table A) (ts r : List ℕ) → comes w ts ≡ false → ts ≡ v ++ r → In v b ((w, a) ∷ rows) → In v b rows
  not_first w v a b rows ts r e t here = absurd (come_not w ts r e t)
  not_first w v a b rows ts r e t (there i) = i

  module _ (t : Table A) (is : is_table t ≡ true) (ts : List ℕ) where
    Same : Table A → Type 0
    Same rows = ((w : List ℕ) (a : A) → In w a rows → In w a t) → ((w : List ℕ) (a : A) (r : List ℕ) → In w a t → ts ≡ w ++ r → In w a rows)
        → read (one_of t) ts ≡ look t rows ts

    same_by : (w : List ℕ) (a : A) (rows : Table A) (b : Bool) → comes w ts ≡ b → Same rows
        → ((v : List ℕ) (c : A) → In v c ((w, a) ∷ rows) → In v c t) → ((v : List ℕ) (c : A) (r : List ℕ) → In v c t → ts ≡ v ++ r → In v c ((w, a) ∷ rows))
        → read (one_of t) ts ≡ (if b then done a (drop (length w) ts) else look t rows ts)
    unfolding Same
    same_by w a rows true e go sub rest =
        let p = parts t is in
        ap (read (one_of t)) (come w ts e) ∙ word_read t (begun t is) p.1 (filled t p.0) w a (sub w a here) (drop (length w) ts)
    same_by w a rows false e go sub rest =
        go (λ v c i. sub v c (there i)) (λ v c r i q. not_first w v a c rows ts r e q (rest v c r i q))

    same : (rows : Table A) → Same rows
    unfolding Same
    same [] sub rest =
        let p = parts t is in
        word_fault t (begun t is) p.1 (filled t p.0) ts (λ w a r i q. none w a (rest w a r i q))
      where
        none : (w : List ℕ) (a : A) → In w a [] → ⊥
        none w a i = elim i [ ]
    same ((w, a) ∷ rows) sub rest = same_by w a rows (comes w ts) refl (same rows) sub rest

    pub looked : read (one_of t) ts ≡ look t t ts
    unfolding Same
    looked = same t (λ w a i. i) (λ w a r i q. i)
