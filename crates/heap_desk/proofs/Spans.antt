-- A span says of its blocks what a search asks.
use Rattle.std.proofs.Common.{◌≡◌, ℕ, zero, suc, ◌+◌, ◌-◌, ◌<◌, ◌≤◌, Bool, true, false, not, ◌&&◌, ◌||◌, nat_eq, nat_le, max, Some, List, [], ◌∷◌, ◌++◌, refl, sym, ap, subst, ◌∙◌, arith, append_assoc, append-nil, ◌⊎◌, inl, inr, if◌then◌else◌}
use Rattle.std.proofs.lemmas.Bool.Decides.{nat_tests}
use Rattle.tac_ir.specs.Desk.{Block}
use Rattle.heap_desk.specs.declared.span.Span.{Span}
use Rattle.heap_desk.specs.tools.Spans.{block_at, gather, gap_before, reach, place_in, no_span, word_span, has_gap, behind, with_next, joined, IsSpanOf}

-- Blocks and more blocks.

pub gap_append : (from words : ℕ) (xs ys : List Block) → gap_before from words (xs ++ ys) ≡ (gap_before from words xs || gap_before (reach from xs) words ys)
gap_append from words [] ys = refl
gap_append from words (b ∷ xs) ys =
    ap (λ r. nat_le words (b.at - from) || r) (gap_append (b.at + b.words) words xs ys)
    ∙ assoc (nat_le words (b.at - from)) (gap_before (b.at + b.words) words xs) (gap_before (reach (b.at + b.words) xs) words ys)
  where
    assoc : (p q r : Bool) → (p || (q || r)) ≡ ((p || q) || r)
    assoc true q r = refl
    assoc false q r = refl

pub reach_append : (from : ℕ) (xs ys : List Block) → reach from (xs ++ ys) ≡ reach (reach from xs) ys
reach_append from [] ys = refl
reach_append from (b ∷ xs) ys = reach_append (b.at + b.words) xs ys

-- where there is a gap before one of the first blocks, the place is there; else it is behind them
pub place_here : (from limit words other : ℕ) (xs ys zs : List Block) → gap_before from words xs ≡ true
    → place_in from limit words (xs ++ ys) ≡ place_in from other words (xs ++ zs)
place_here from limit words other [] ys zs gap = absurd (cc)
place_here from limit words other (b ∷ xs) ys zs gap = go (nat_le words (b.at - from)) (place_here (b.at + b.words) limit words other xs ys zs) gap
  where
    go : (t : Bool) → (gap_before (b.at + b.words) words xs ≡ true → place_in (b.at + b.words) limit words (xs ++ ys) ≡ place_in (b.at + b.words) other words (xs ++ zs))
        → (t || gap_before (b.at + b.words) words xs) ≡ true
        → (if t then Some from else place_in (b.at + b.words) limit words (xs ++ ys)) ≡ (if t then Some from else place_in (b.at + b.words) other words (xs ++ zs))
    go true rest h = refl
    go false rest h = rest h

pub place_behind : (from limit words : ℕ) (xs ys : List Block) → gap_before from words xs ≡ false
    → place_in from limit words (xs ++ ys) ≡ place_in (reach from xs) limit words ys
place_behind from limit words [] ys gap = refl
place_behind from limit words (b ∷ xs) ys gap = go (nat_le words (b.at - from)) (place_behind (b.at + b.words) limit words xs ys) gap
  where
    go : (t : Bool) → (gap_before (b.at + b.words) words xs ≡ false → place_in (b.at + b.words) limit words (xs ++ ys) ≡ place_in (reach (b.at + b.words) xs) limit words ys)
        → (t || gap_before (b.at + b.words) words xs) ≡ false
        → (if t then Some from else place_in (b.at + b.words) limit words (xs ++ ys)) ≡ place_in (reach (b.at + b.words) xs) limit words ys
    go true rest h = absurd (cc)
    go false rest h = rest h

-- Spans.

pub span_of_none : IsSpanOf no_span []
span_of_none = record { gap = λ from words some. refl; reach = λ from. refl }

pub span_of_word : (at end : ℕ) → (end ≡ 0) ⊎ (at < end) → IsSpanOf (word_span at end) (block_at at end)
span_of_word at end (inl none) =
    let P : ℕ → Type 0 = λ e. IsSpanOf (word_span at e) (block_at at e) in
    subst P (sym none) (record { gap = λ from words some. refl; reach = λ from. refl })
span_of_word at end (inr some) =
    let e : nat_eq end 0 ≡ false = grind (arith, nat_tests, some) in
    let block : List Block = record { at = at; words = end - at } ∷ [] in
    record {
      gap = λ from words wide.
          ap (λ t. not t && (nat_le words (at - from) || nat_le words 0)) e
          ∙ ap (λ t. nat_le words (at - from) || t) (never words wide)
          ∙ sym (ap (λ t. gap_before from words (if t then [] else block)) e);
      reach = λ from. ap (λ t. if t then from else end) e ∙ ends some ∙ sym (ap (λ t. reach from (if t then [] else block)) e);
    }
  where
    never : (words : ℕ) → 0 < words → nat_le words 0 ≡ false
    never words wide = grind (arith, nat_tests, wide)

    ends : at < end → end ≡ at + (end - at)
    ends less = omega (arith, less)

abbrev wide_enough : Span → ℕ → ℕ → Bool
wide_enough s from words = nat_le words (s.first - from) || nat_le words s.widest

abbrev both : Span → Span → Span
both s next = record { first = s.first; end = next.end; widest = max (max s.widest next.widest) (next.first - s.end) }

with_last : (s next : Span) → nat_eq next.end 0 ≡ true → with_next s next ≡ s
with_last s next e = ap (λ t. if t then s else (if nat_eq s.end 0 then next else both s next)) e

with_first : (s next : Span) → nat_eq next.end 0 ≡ false → nat_eq s.end 0 ≡ true → with_next s next ≡ next
with_first s next e g = ap (λ t. if t then s else (if nat_eq s.end 0 then next else both s next)) e ∙ ap (λ t. if t then next else both s next) g

with_both : (s next : Span) → nat_eq next.end 0 ≡ false → nat_eq s.end 0 ≡ false → with_next s next ≡ both s next
with_both s next e g = ap (λ t. if t then s else (if nat_eq s.end 0 then next else both s next)) e ∙ ap (λ t. if t then next else both s next) g

gap_of : (s : Span) (from words : ℕ) (t : Bool) → nat_eq s.end 0 ≡ t → has_gap s from words ≡ (not t && wide_enough s from words)
gap_of s from words t e = ap (λ u. not u && wide_enough s from words) e

behind_of : (s : Span) (from : ℕ) (t : Bool) → nat_eq s.end 0 ≡ t → behind s from ≡ (if t then from else s.end)
behind_of s from t e = ap (λ u. if u then from else s.end) e

-- the tests of two spans together
gap_next : (s next : Span) (from words : ℕ) → has_gap (with_next s next) from words ≡ (has_gap s from words || has_gap next (behind s from) words)
gap_next s next from words = go (nat_eq next.end 0) (nat_eq s.end 0) refl refl
  where
    widest : (n a b c : ℕ) → nat_le n (max (max a b) c) ≡ ((nat_le n a || nat_le n b) || nat_le n c)
    widest n a b c = grind (arith, nat_tests)

    either : (p : Bool) → p ≡ (p || false)
    either true = refl
    either false = refl

    turned : (p q r o : Bool) → (p || ((q || r) || o)) ≡ ((p || q) || (o || r))
    turned true q r o = refl
    turned false true r o = refl
    turned false false true true = refl
    turned false false true false = refl
    turned false false false true = refl
    turned false false false false = refl

    go : (last first : Bool) → nat_eq next.end 0 ≡ last → nat_eq s.end 0 ≡ first
        → has_gap (with_next s next) from words ≡ (has_gap s from words || has_gap next (behind s from) words)
    go true first e g =
        ap (λ x. has_gap x from words) (with_last s next e)
        ∙ either (has_gap s from words)
        ∙ sym (ap (λ t. has_gap s from words || t) (gap_of next (behind s from) words true e))
    go false true e g =
        ap (λ x. has_gap x from words) (with_first s next e g)
        ∙ sym (ap (λ i. has_gap next i words) (behind_of s from true g))
        ∙ sym (ap (λ t. t || has_gap next (behind s from) words) (gap_of s from words true g))
    go false false e g =
        ap (λ x. has_gap x from words) (with_both s next e g)
        ∙ ap (λ u. not u && wide_enough (both s next) from words) e
        ∙ ap (λ t. nat_le words (s.first - from) || t) (widest words s.widest next.widest (next.first - s.end))
        ∙ turned (nat_le words (s.first - from)) (nat_le words s.widest) (nat_le words next.widest) (nat_le words (next.first - s.end))
        ∙ sym (ap (λ t. wide_enough s from words || t) (gap_of next s.end words false e))
        ∙ sym (ap (λ i. wide_enough s from words || has_gap next i words) (behind_of s from false g))
        ∙ sym (ap (λ t. t || has_gap next (behind s from) words) (gap_of s from words false g))

behind_next : (s next : Span) (from : ℕ) → behind (with_next s next) from ≡ behind next (behind s from)
behind_next s next from = go (nat_eq next.end 0) (nat_eq s.end 0) refl refl
  where
    go : (last first : Bool) → nat_eq next.end 0 ≡ last → nat_eq s.end 0 ≡ first → behind (with_next s next) from ≡ behind next (behind s from)
    go true first e g = ap (λ x. behind x from) (with_last s next e) ∙ sym (behind_of next (behind s from) true e)
    go false true e g = ap (λ x. behind x from) (with_first s next e g) ∙ sym (ap (λ i. behind next i) (behind_of s from true g))
    go false false e g = ap (λ x. behind x from) (with_both s next e g) ∙ ap (λ u. if u then from else next.end) e ∙ sym (behind_of next (behind s from) false e)

pub span_of_both : (s next : Span) (xs ys : List Block) → IsSpanOf s xs → IsSpanOf next ys → IsSpanOf (with_next s next) (xs ++ ys)
span_of_both s next xs ys is js =
    record {
      gap = λ from words some.
          gap_next s next from words
          ∙ ap (λ t. t || has_gap next (behind s from) words) (is.gap from words some)
          ∙ ap (λ t. gap_before from words xs || t) (js.gap (behind s from) words some)
          ∙ ap (λ f. gap_before from words xs || gap_before f words ys) (is.reach from)
          ∙ sym (gap_append from words xs ys);
      reach = λ from. behind_next s next from ∙ js.reach (behind s from) ∙ ap (λ f. reach f ys) (is.reach from) ∙ sym (reach_append from xs ys);
    }

pub span_of_all : (f : ℕ → Span) (g : ℕ → List Block) (k n : ℕ) (all : Span) (xs : List Block) → IsSpanOf all xs
    → ((i : ℕ) → k ≤ i → i < k + n → IsSpanOf (f i) (g i)) → IsSpanOf (joined f k n all) (xs ++ gather g k n)
span_of_all f g k zero all xs is each = let P : List Block → Type 0 = λ bs. IsSpanOf all bs in subst P (sym (append-nil xs)) is
span_of_all f g k (suc n) all xs is each =
    let P : List Block → Type 0 = λ bs. IsSpanOf (joined f (suc k) n (with_next all (f k))) bs in
    subst P (append_assoc xs (g k) (gather g (suc k) n))
    (span_of_all f g (suc k) n (with_next all (f k)) (xs ++ g k) (span_of_both all (f k) xs (g k) is (each k (omega arith) (omega arith))) (λ i low high. each i (omega arith) (omega arith)))
