-- From each level of spans to the one below it, and after a change.
use Rattle.std.proofs.Common.{◌≡◌, ℕ, zero, suc, ◌+◌, ◌*◌, ◌<◌, ◌≤◌, Bool, true, false, ◌||◌, List, [], ◌++◌, refl, sym, ap, ◌∙◌, arith, append_assoc, append-nil, if◌then◌else◌}
use Rattle.tac_ir.specs.Desk.{Block}
use Rattle.heap_desk.specs.declared.span.Span.{Span}
use Rattle.heap_desk.specs.declared.scan.Found.{Found}
use Rattle.heap_desk.specs.tools.Spans.{gather, gap_before, reach, place_in, has_gap, behind, first_gap, IsSpanOf}
use Rattle.heap_desk.proofs.Spans.{gap_append, reach_append, place_here, place_behind}

-- n parts and m more
pub gather_more : (f : ℕ → List Block) (k n m : ℕ) → gather f k (n + m) ≡ gather f k n ++ gather f (k + n) m
gather_more f k zero m =
    let none : 0 + m ≡ m = omega arith in
    let here : k ≡ k + 0 = omega arith in
    ap (gather f k) none ∙ ap (λ i. gather f i m) here
gather_more f k (suc n) m =
    let one : suc n + m ≡ suc (n + m) = omega arith in
    let next : suc k + n ≡ k + suc n = omega arith in
    ap (gather f k) one
    ∙ ap (λ bs. f k ++ bs) (gather_more f (suc k) n m ∙ ap (λ i. gather f (suc k) n ++ gather f i m) next)
    ∙ sym (append_assoc (f k) (gather f (suc k) n) (gather f (k + suc n) m))

-- parts of parts
pub gather_parts : (f : ℕ → List Block) (size k n : ℕ) → gather (λ i. gather f (size * i) size) k n ≡ gather f (size * k) (size * n)
gather_parts f size k zero = let none : 0 ≡ size * 0 = grind arith in ap (gather f (size * k)) none
gather_parts f size k (suc n) =
    ap (λ bs. gather f (size * k) size ++ bs) (gather_parts f size (suc k) n ∙ ap (λ i. gather f i (size * n)) (next size k))
    ∙ sym (gather_more f (size * k) size (size * n))
    ∙ ap (λ i. gather f (size * k) i) (less size n)
  where
    next : (size k : ℕ) → size * suc k ≡ size * k + size
    next size k = grind arith

    less : (size n : ℕ) → size + size * n ≡ size * suc n
    less size n = grind arith

-- parts that are equal
pub gather_same : (f g : ℕ → List Block) (k n : ℕ) → ((i : ℕ) → k ≤ i → i < k + n → f i ≡ g i) → gather f k n ≡ gather g k n
gather_same f g k zero same = refl
gather_same f g k (suc n) same =
    ap (λ bs. bs ++ gather f (suc k) n) (same k (omega arith) (omega arith))
    ∙ ap (λ bs. g k ++ bs) (gather_same f g (suc k) n (λ i low high. same i (omega arith) (omega arith)))

-- a search among the ones goes on among the others, from another word: there is a gap before one of them, and it is the first
pub record Leads (from words : ℕ) (xs : List Block) (next : ℕ) (ys : List Block) : Type 0 where
  pub gap : gap_before next words ys ≡ true
  pub place : (limit other : ℕ) → place_in from limit words xs ≡ place_in next other words ys

-- what a search among n spans has come to: a span with a gap, or none, and then how far the blocks reach
pub record HasFound (from words : ℕ) (g : ℕ → List Block) (k n : ℕ) (r : Found) : Type 0 where
  pub from_first : k ≤ r.index
  pub at_most : r.index ≤ k + n
  pub hit : r.index < k + n → Leads from words (gather g k n) r.from (g r.index)
  pub miss : k + n ≤ r.index → (gap_before from words (gather g k n) ≡ false) × (r.from ≡ reach from (gather g k n))

leads_here : (from words : ℕ) (xs ys : List Block) → gap_before from words xs ≡ true → Leads from words (xs ++ ys) from xs
leads_here from words xs ys gap =
    record { gap = gap; place = λ limit other. place_here from limit words other xs ys [] gap ∙ ap (place_in from other words) (append-nil xs) }

leads_on : (from words : ℕ) (xs ys : List Block) (mid next : ℕ) (zs : List Block) → gap_before from words xs ≡ false → mid ≡ reach from xs
    → Leads mid words ys next zs → Leads from words (xs ++ ys) next zs
leads_on from words xs ys mid next zs none far leads =
    record {
      gap = leads.gap;
      place = λ limit other. place_behind from limit words xs ys none ∙ ap (λ i. place_in i limit words ys) (sym far) ∙ leads.place limit other;
    }

misses : (from words : ℕ) (xs ys : List Block) (mid next : ℕ) → gap_before from words xs ≡ false → mid ≡ reach from xs
    → (gap_before mid words ys ≡ false) × (next ≡ reach mid ys) → (gap_before from words (xs ++ ys) ≡ false) × (next ≡ reach from (xs ++ ys))
misses from words xs ys mid next none far rest = (
  gap_append from words xs ys ∙ ap (λ t. t || gap_before (reach from xs) words ys) none ∙ ap (λ i. gap_before i words ys) (sym far) ∙ rest.0,
  rest.1 ∙ ap (λ i. reach i ys) far ∙ sym (reach_append from xs ys),
)

pub has_found : (f : ℕ → Span) (g : ℕ → List Block) (k n from words : ℕ) → 0 < words
    → ((i : ℕ) → k ≤ i → i < k + n → IsSpanOf (f i) (g i)) → HasFound from words g k n (first_gap f k n from words)
has_found f g k zero from words some each =
    record { from_first = omega arith; at_most = omega arith; hit = λ less. absurd (omega (arith, less)); miss = λ le. (refl, refl) }
has_found f g k (suc n) from words some each =
    let is = each k (omega arith) (omega arith) in
    let rest = has_found f g (suc k) n (behind (f k) from) words some (λ i low high. each i (omega arith) (omega arith)) in
    go (has_gap (f k) from words) (sym (is.gap from words some)) (is.reach from) rest
  where
    go : (t : Bool) → gap_before from words (g k) ≡ t → behind (f k) from ≡ reach from (g k)
        → HasFound (behind (f k) from) words g (suc k) n (first_gap f (suc k) n (behind (f k) from) words)
        → HasFound from words g k (suc n) (if t then record { index = k; from = from } else first_gap f (suc k) n (behind (f k) from) words)
    go true gap far rest =
        record {
          from_first = omega arith;
          at_most = omega arith;
          hit = λ less. leads_here from words (g k) (gather g (suc k) n) gap;
          miss = λ le. absurd (omega (arith, le));
        }
    go false gap far rest =
        record {
          from_first = (let low = rest.from_first in omega arith);
          at_most = (let high = rest.at_most in omega arith);
          hit = λ less. leads_on from words (g k) (gather g (suc k) n) (behind (f k) from) _ _ gap far (rest.hit (omega (arith, less)));
          miss = λ le. misses from words (g k) (gather g (suc k) n) (behind (f k) from) _ gap far (rest.miss (omega (arith, le)));
        }
