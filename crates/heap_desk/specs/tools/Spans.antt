-- Blocks by their places, and spans of them: what the code of a search computes.
use Rattle.std.specs.Prelude.{◌≡◌, ℕ, zero, suc, ◌+◌, ◌-◌, ◌*◌, ◌<◌, Bool, false, not, ◌&&◌, ◌||◌, nat_eq, nat_le, max, Option, Some, None, List, [], ◌∷◌, ◌++◌, length, slice_index, slice_index_or, if◌then◌else◌}
use Rattle.tac_ir.specs.Layout.{heap_from}
use Rattle.tac_ir.specs.Desk.{Block}
use Rattle.heap_desk.specs.declared.span.Span.{Span}
use Rattle.heap_desk.specs.declared.scan.Found.{Found}

-- Blocks.

-- the block that begins at a word and ends before word `end`; none where that is 0
abbrev pub block_at : ℕ → ℕ → List Block
block_at at end = if nat_eq end 0 then [] else record { at = at; words = end - at } ∷ []

-- the block that begins at the word of index k in the heap
abbrev pub begun_at : List ℕ → ℕ → List Block
begun_at ends k = block_at (heap_from + k) (slice_index ends k)

-- those of n parts that follow one another, from part k on
abbrev pub gather : (ℕ → List Block) → ℕ → ℕ → List Block
gather f k zero = []
gather f k (suc n) = f k ++ gather f (suc k) n

unfoldable pub blocks_of : List ℕ → List Block
blocks_of ends = gather (begun_at ends) 0 (length ends)

-- those that begin in the k-th part of so many words
abbrev pub part : List ℕ → ℕ → ℕ → List Block
part ends size k = gather (begun_at ends) (size * k) size

-- whether there are so many words before one of the blocks, from word `from` on
abbrev pub gap_before : ℕ → ℕ → List Block → Bool
gap_before from words [] = false
gap_before from words (b ∷ blocks) = nat_le words (b.at - from) || gap_before (b.at + b.words) words blocks

-- where the last block ends, and `from` where there is none
abbrev pub reach : ℕ → List Block → ℕ
reach from [] = from
reach from (b ∷ blocks) = reach (b.at + b.words) blocks

-- the first place with so many words before a block, or before the limit
abbrev pub place_in : ℕ → ℕ → ℕ → List Block → Option ℕ
place_in from limit words [] = if nat_le words (limit - from) then Some from else None
place_in from limit words (b ∷ blocks) =
    if nat_le words (b.at - from) then Some from else place_in (b.at + b.words) limit words blocks

-- Spans.

abbrev pub no_span : Span
no_span = record { first = 0; end = 0; widest = 0 }

abbrev pub word_span : ℕ → ℕ → Span
word_span at end = record { first = at; end = end; widest = 0 }

abbrev pub has_gap : Span → ℕ → ℕ → Bool
has_gap s from words = not (nat_eq s.end 0) && (nat_le words (s.first - from) || nat_le words s.widest)

abbrev pub behind : Span → ℕ → ℕ
behind s from = if nat_eq s.end 0 then from else s.end

abbrev pub with_next : Span → Span → Span
with_next s next =
    if nat_eq next.end 0 then s
    else (if nat_eq s.end 0 then next
    else record { first = s.first; end = next.end; widest = max (max s.widest next.widest) (next.first - s.end) })

-- the span at an index, and that of a word of the heap
abbrev pub span_at : List Span → ℕ → Span
span_at spans k = slice_index_or spans k no_span

abbrev pub word_at : List ℕ → ℕ → Span
word_at ends k = word_span (heap_from + k) (slice_index ends k)

-- n spans together, from the k-th on
abbrev pub joined : (ℕ → Span) → ℕ → ℕ → Span → Span
joined f k zero all = all
joined f k (suc n) all = joined f (suc k) n (with_next all (f k))

-- the first of them with a gap, and where the blocks before it end
abbrev pub first_gap : (ℕ → Span) → ℕ → ℕ → ℕ → ℕ → Found
first_gap f k zero from words = record { index = k; from = from }
first_gap f k (suc n) from words =
    if has_gap (f k) from words then record { index = k; from = from } else first_gap f (suc k) n (behind (f k) from) words

-- what a span says of blocks
pub record IsSpanOf (s : Span) (blocks : List Block) : Type 0 where
  pub gap : (from words : ℕ) → 0 < words → has_gap s from words ≡ gap_before from words blocks
  pub reach : (from : ℕ) → behind s from ≡ reach from blocks
