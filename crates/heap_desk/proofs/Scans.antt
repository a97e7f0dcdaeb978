-- A scan goes on with the spans that are left.
use Rattle.std.proofs.Common.{◌≡◌, ℕ, suc, ◌+◌, ◌-◌, ◌<◌, ◌≤◌, ap, ◌∙◌, arith, if◌then◌else◌}
use Rattle.heap_desk.specs.declared.span.Span.{Span}
use Rattle.heap_desk.specs.tools.Spans.{has_gap, behind, with_next, joined, first_gap}

pub join_step : (f : ℕ → Span) (k end : ℕ) (all : Span) → k < end → joined f k (end - k) all ≡ joined f (k + 1) (end - (k + 1)) (with_next all (f k))
join_step f k end all less =
    let left : end - k ≡ suc (end - (k + 1)) = omega (arith, less) in
    let next : suc k ≡ k + 1 = omega arith in
    ap (λ n. joined f k n all) left ∙ ap (λ i. joined f i (end - (k + 1)) (with_next all (f k))) next

pub join_end : (f : ℕ → Span) (k end : ℕ) (all : Span) → end ≤ k → joined f k (end - k) all ≡ all
join_end f k end all past = let none : end - k ≡ 0 = omega (arith, past) in ap (λ n. joined f k n all) none

pub gap_step : (f : ℕ → Span) (k end from words : ℕ) → k < end
    → first_gap f k (end - k) from words ≡ (if has_gap (f k) from words then record { index = k; from = from } else first_gap f (k + 1) (end - (k + 1)) (behind (f k) from) words)
gap_step f k end from words less =
    let left : end - k ≡ suc (end - (k + 1)) = omega (arith, less) in
    let next : suc k ≡ k + 1 = omega arith in
    ap (λ n. first_gap f k n from words) left
    ∙ ap (λ i. if has_gap (f k) from words then record { index = k; from = from } else first_gap f i (end - (k + 1)) (behind (f k) from) words) next

pub gap_end : (f : ℕ → Span) (k end from words : ℕ) → end ≤ k → first_gap f k (end - k) from words ≡ record { index = k; from = from }
gap_end f k end from words past = let none : end - k ≡ 0 = omega (arith, past) in ap (λ n. first_gap f k n from words) none
