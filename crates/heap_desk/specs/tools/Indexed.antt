-- Places whose spans are those of their blocks.
use Rattle.std.specs.Prelude.{◌≡◌, ℕ, ◌+◌, ◌*◌, ◌/◌, ◌<◌, ◌^◌, ◌⊎◌, Option, Some, None, List, length, slice_index, slice_set, replicate}
use Rattle.tac_ir.specs.Layout.{heap_from}
use Rattle.heap_desk.specs.declared.span.Span.{Span}
use Rattle.heap_desk.specs.declared.places.Places.{Places}
use Rattle.heap_desk.specs.InOrder.{IsInOrder}
use Rattle.heap_desk.specs.tools.Spans.{IsSpanOf, part, blocks_of, span_at, word_at, joined, no_span}

-- a block ends behind its first word
abbrev pub AreEnds : List ℕ → Type 0
AreEnds ends = (k : ℕ) → (slice_index ends k ≡ 0) ⊎ (heap_from + k < slice_index ends k)

-- the spans are those of parts of so many words
pub record AreSpans (ends : List ℕ) (size : ℕ) (spans : List Span) : Type 0 where
  pub all : size * length spans ≡ length ends
  pub each : (k : ℕ) → k < length spans → IsSpanOf (span_at spans k) (part ends size k)

pub record IsIndexed (p : Places) : Type 0 where
  pub ends : AreEnds p.ends.items
  pub few : length p.ends.items < 2 ^ 31
  pub pages : AreSpans p.ends.items 16 p.pages.items
  pub rows : AreSpans p.ends.items 256 p.rows.items
  pub tops : AreSpans p.ends.items 8192 p.tops.items

-- blocks in order up to the heap's limit, with their spans
pub record IsHeapOf (limit : ℕ) (p : Places) : Type 0 where
  pub indexed : IsIndexed p
  pub whole : heap_from + length p.ends.items ≡ limit
  pub order : IsInOrder heap_from limit (blocks_of p.ends.items)

-- what a desk keeps of its places, under a name that a search does not open
unfoldable pub IsKept : ℕ → Places → Type 0
IsKept limit p = IsHeapOf limit p

-- the index of word w, where a block begins at it
abbrev pub IsIndexOf : List ℕ → ℕ → Option ℕ → Type 0
IsIndexOf ends w None = (k : ℕ) → heap_from + k ≡ w → slice_index ends k ≡ 0
IsIndexOf ends w (Some k) = (k < length ends) × (heap_from + k ≡ w) × (0 < slice_index ends k)

-- no block begins at any of so many words
pub record IsEmpty (words : ℕ) (p : Places) : Type 0 where
  pub indexed : IsIndexed p
  pub ends : p.ends.items ≡ replicate words 0

-- the places with another end at the word of this index, and new spans above it
pub record IsPut (old : Places) (word end : ℕ) (new : Places) : Type 0 where
  pub ends : new.ends.items ≡ slice_set old.ends.items word end
  pub pages : new.pages.items ≡ slice_set old.pages.items (word / 16) (joined (word_at new.ends.items) (16 * (word / 16)) 16 no_span)
  pub rows : new.rows.items ≡ slice_set old.rows.items (word / 16 / 16) (joined (span_at new.pages.items) (16 * (word / 16 / 16)) 16 no_span)
  pub tops : new.tops.items ≡ slice_set old.tops.items (word / 16 / 16 / 32) (joined (span_at new.rows.items) (32 * (word / 16 / 16 / 32)) 32 no_span)
