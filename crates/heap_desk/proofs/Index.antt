-- A search goes down from the tops to the words, and a change goes up from a word.
use Rattle.std.proofs.Common.{◌≡◌, ℕ, zero, suc, ◌+◌, ◌-◌, ◌*◌, ◌/◌, ◌^◌, ◌<◌, ◌≤◌, Bool, true, false, ◌||◌, nat_eq, nat_le, Option, Some, List, [], ◌∷◌, length, slice_set, replicate, refl, sym, ap, subst, ◌∙◌, arith, append-nil, length-set, get_or-set_same, get_or-set_other, ◌⊎◌, inl, inr, if◌then◌else◌}
use Rattle.std.specs.Prelude.{slice_index}
use Rattle.std.proofs.lemmas.Bool.{cases_lt, cases_eq}
use Rattle.std.proofs.lemmas.List.{length-replicate, get_or-replicate}
use Rattle.tac_ir.specs.declared.module.Size.{Size}
use Rattle.tac_ir.specs.Layout.{heap_from, stack_from}
use Rattle.tac_ir.specs.Desk.{Block}
use Rattle.heap_desk.specs.declared.span.Span.{Span}
use Rattle.heap_desk.specs.declared.scan.Found.{Found}
use Rattle.heap_desk.specs.declared.places.Places.{Places}
use Rattle.heap_desk.specs.tools.Spans.{block_at, begun_at, gather, blocks_of, part, gap_before, reach, place_in, no_span, span_at, word_at, joined, first_gap, IsSpanOf}
use Rattle.heap_desk.specs.tools.Indexed.{AreEnds, AreSpans, IsIndexed, IsEmpty, IsPut}
use Rattle.heap_desk.proofs.Spans.{place_behind, span_of_none, span_of_word, span_of_all}
use Rattle.heap_desk.proofs.Blocks.{gather_none}
use Rattle.heap_desk.proofs.Levels.{gather_parts, gather_same, Leads, HasFound, has_found}

-- Parts.

times : (size w k : ℕ) → size * (w * k) ≡ (size * w) * k
times size w k = grind arith

-- w parts of one level are one of the level above
pub part_of_parts : (ends : List ℕ) (size w k : ℕ) → gather (part ends size) (w * k) w ≡ part ends (size * w) k
part_of_parts ends size w k = gather_parts (begun_at ends) size (w * k) w ∙ ap (λ i. gather (begun_at ends) i (size * w)) (times size w k)

pub all_parts : (ends : List ℕ) (size : ℕ) (spans : List Span) → AreSpans ends size spans → gather (part ends size) 0 (length spans) ≡ blocks_of ends
unfolding blocks_of
all_parts ends size spans are =
    gather_parts (begun_at ends) size 0 (length spans)
    ∙ ap (λ i. gather (begun_at ends) i (size * length spans)) (none size)
    ∙ ap (λ n. gather (begun_at ends) 0 n) are.all
  where
    none : (size : ℕ) → size * 0 ≡ 0
    none size = grind arith

-- The way down.

-- a search that must find something
must_hit : (from words : ℕ) (g : ℕ → List Block) (k n : ℕ) (r : Found) (xs : List Block) → HasFound from words g k n r → gather g k n ≡ xs
    → gap_before from words xs ≡ true → (r.index < k + n) × Leads from words xs r.from (g r.index)
must_hit from words g k n r xs found is gap = elim (cases_lt r.index (k + n)) [
  | inl less ↦ (less, (let P : List Block → Type 0 = λ bs. Leads from words bs r.from (g r.index) in subst P is (found.hit less)))
  | inr le ↦ absurd (let none = (found.miss le).0 in let all = ap (gap_before from words) is in cc)
]

pub down : (ends : List ℕ) (size w k : ℕ) (spans : List Span) (from words : ℕ) (r : Found) → 0 < words → AreSpans ends size spans
    → w * k + w ≤ length spans → gap_before from words (part ends (size * w) k) ≡ true → r ≡ first_gap (span_at spans) (w * k) w from words
    → (r.index < w * k + w) × Leads from words (part ends (size * w) k) r.from (part ends size r.index)
down ends size w k spans from words r some are within gap is =
    let P : Found → Type 0 = λ f. HasFound from words (part ends size) (w * k) w f in
    must_hit from words (part ends size) (w * k) w r (part ends (size * w) k)
    (subst P (sym is) (has_found (span_at spans) (part ends size) (w * k) w from words some (λ i low high. are.each i (omega (arith, high, within)))))
    (part_of_parts ends size w k) gap

spans_of_words : (ends : List ℕ) → AreEnds ends → (i : ℕ) → IsSpanOf (word_at ends i) (begun_at ends i)
spans_of_words ends are i = span_of_word (heap_from + i) (slice_index ends i) (are i)

place_one : (from limit words at end : ℕ) → gap_before from words (block_at at end) ≡ true → place_in from limit words (block_at at end) ≡ Some from
place_one from limit words at end gap = go (nat_eq end 0) gap
  where
    one : (t : Bool) (other : Option ℕ) → (t || false) ≡ true → (if t then Some from else other) ≡ Some from
    one true other h = refl
    one false other h = absurd (cc)

    go : (none : Bool) → gap_before from words (if none then [] else record { at = at; words = end - at } ∷ []) ≡ true
        → place_in from limit words (if none then [] else record { at = at; words = end - at } ∷ []) ≡ Some from
    go true h = absurd (cc)
    go false h = one (nat_le words (at - from)) (place_in (at + (end - at)) limit words []) h

pub down_words : (ends : List ℕ) (w k from limit words : ℕ) (r : Found) → 0 < words → AreEnds ends
    → gap_before from words (part ends w k) ≡ true → r ≡ first_gap (word_at ends) (w * k) w from words
    → place_in from limit words (part ends w k) ≡ Some r.from
down_words ends w k from limit words r some are gap is =
    let P : Found → Type 0 = λ f. HasFound from words (begun_at ends) (w * k) w f in
    let hit = must_hit from words (begun_at ends) (w * k) w r (part ends w k)
    (subst P (sym is) (has_found (word_at ends) (begun_at ends) (w * k) w from words some (λ i low high. spans_of_words ends are i))) refl gap in
    hit.1.place limit limit ∙ place_one r.from limit words (heap_from + r.index) (slice_index ends r.index) hit.1.gap

-- what the search among the tops has come to
pub at_top : (p : Places) (words : ℕ) (r : Found) → 0 < words → IsIndexed p → r ≡ first_gap (span_at p.tops.items) 0 (length p.tops.items) heap_from words
    → HasFound heap_from words (part p.ends.items 8192) 0 (length p.tops.items) r
at_top p words r some is found =
    let P : Found → Type 0 = λ f. HasFound heap_from words (part p.ends.items 8192) 0 (length p.tops.items) f in
    subst P (sym found) (has_found (span_at p.tops.items) (part p.ends.items 8192) 0 (length p.tops.items) heap_from words some (λ i low high. is.tops.each i (omega (arith, high))))

pub top_hit : (p : Places) (words : ℕ) (r : Found) → 0 < words → IsIndexed p → r ≡ first_gap (span_at p.tops.items) 0 (length p.tops.items) heap_from words
    → (r.index ≡ length p.tops.items → ⊥) → (r.index < length p.tops.items) × Leads heap_from words (blocks_of p.ends.items) r.from (part p.ends.items 8192 r.index)
top_hit p words r some is found other =
    let at = at_top p words r some is found in
    let less : r.index < length p.tops.items = (let high = at.at_most in omega (arith, high, other)) in
    let P : List Block → Type 0 = λ bs. Leads heap_from words bs r.from (part p.ends.items 8192 r.index) in
    (less, subst P (all_parts p.ends.items 8192 p.tops.items is.tops) (at.hit (omega (arith, less))))

pub top_miss : (p : Places) (words limit : ℕ) (r : Found) → 0 < words → IsIndexed p → r ≡ first_gap (span_at p.tops.items) 0 (length p.tops.items) heap_from words
    → r.index ≡ length p.tops.items → place_in heap_from limit words (blocks_of p.ends.items) ≡ place_in r.from limit words []
top_miss p words limit r some is found last =
    let at = at_top p words r some is found in
    let miss = at.miss (omega (arith, last)) in
    let all = all_parts p.ends.items 8192 p.tops.items is.tops in
    ap (place_in heap_from limit words) (sym (append-nil (blocks_of p.ends.items)))
    ∙ place_behind heap_from limit words (blocks_of p.ends.items) [] (ap (gap_before heap_from words) (sym all) ∙ miss.0)
    ∙ ap (λ i. place_in i limit words []) (ap (reach heap_from) (sym all) ∙ sym miss.1)

-- a search that goes on and on
leads_leads : (from words next last : ℕ) (xs ys zs : List Block) → Leads from words xs next ys → Leads next words ys last zs → Leads from words xs last zs
leads_leads from words next last xs ys zs one two = record { gap = two.gap; place = λ limit other. one.place limit limit ∙ two.place limit other }

-- where a search stands that has come down to a part of so many words
abbrev pub HasCome : Places → ℕ → ℕ → ℕ → Found → Type 0
HasCome p words size count r = (r.index < count) × Leads heap_from words (blocks_of p.ends.items) r.from (part p.ends.items size r.index)

pub row_hit : (p : Places) (words : ℕ) (top row : Found) → 0 < words → IsIndexed p → HasCome p words 8192 (length p.tops.items) top
    → row ≡ first_gap (span_at p.rows.items) (32 * top.index) 32 top.from words → HasCome p words 256 (length p.rows.items) row
row_hit p words top row some is come found =
    let within : 32 * top.index + 32 ≤ length p.rows.items = omega (arith, come.0, is.rows.all, is.tops.all) in
    let hit = down p.ends.items 256 32 top.index p.rows.items top.from words row some is.rows within come.1.gap found in
    (omega (arith, hit.0, within), leads_leads heap_from words top.from row.from _ _ _ come.1 hit.1)

pub page_hit : (p : Places) (words : ℕ) (row page : Found) → 0 < words → IsIndexed p → HasCome p words 256 (length p.rows.items) row
    → page ≡ first_gap (span_at p.pages.items) (16 * row.index) 16 row.from words → HasCome p words 16 (length p.pages.items) page
page_hit p words row page some is come found =
    let within : 16 * row.index + 16 ≤ length p.pages.items = omega (arith, come.0, is.rows.all, is.pages.all) in
    let hit = down p.ends.items 16 16 row.index p.pages.items row.from words page some is.pages within come.1.gap found in
    (omega (arith, hit.0, within), leads_leads heap_from words row.from page.from _ _ _ come.1 hit.1)

pub word_hit : (p : Places) (words limit : ℕ) (page word : Found) → 0 < words → IsIndexed p → HasCome p words 16 (length p.pages.items) page
    → word ≡ first_gap (word_at p.ends.items) (16 * page.index) 16 page.from words → Some word.from ≡ place_in heap_from limit words (blocks_of p.ends.items)
word_hit p words limit page word some is come found =
    sym (come.1.place limit limit ∙ down_words p.ends.items 16 page.index page.from limit words word some is.ends come.1.gap found)

-- The way up.

apart : (size i k : ℕ) → i < k → size * i + size ≤ size * k
apart size i k less = grind arith

-- the spans of a level with a new one above the word that has changed
pub level_put : (ends new : List ℕ) (size word k : ℕ) (spans : List Span) (s : Span) → length new ≡ length ends
    → ((i : ℕ) → (i ≡ word → ⊥) → slice_index new i ≡ slice_index ends i) → AreSpans ends size spans
    → size * k ≤ word → word < size * k + size → IsSpanOf s (part new size k) → AreSpans new size (slice_set spans k s)
level_put ends new size word k spans s same others are low high is =
    record { all = ap (λ n. size * n) (length-set spans k s) ∙ are.all ∙ sym same; each = λ i within. each i (omega (arith, within, length-set spans k s)) (cases_eq i k) }
  where
    each : (i : ℕ) → i < length spans → (i ≡ k) ⊎ (i ≡ k → ⊥) → IsSpanOf (span_at (slice_set spans k s) i) (part new size i)
    each i within (inl here) =
        let P : ℕ → Type 0 = λ j. IsSpanOf (span_at (slice_set spans k s) j) (part new size j) in
        let Q : Span → Type 0 = λ t. IsSpanOf t (part new size k) in
        subst P (sym here) (subst Q (sym (get_or-set_same spans k s no_span (omega (arith, within, here)))) is)
    each i within (inr there) =
        let Q : Span → Type 0 = λ t. IsSpanOf t (part new size i) in
        let R : List Block → Type 0 = λ bs. IsSpanOf (span_at spans i) bs in
        subst Q (sym (get_or-set_other spans k i s no_span there))
        (subst R (gather_same (begun_at ends) (begun_at new) (size * i) size
        (λ j from to. ap (block_at (heap_from + j)) (sym (others j (λ same. elim (cases_lt i k) [
          | inl before ↦ (let far = apart size i k before in omega (arith, far, to, low, same))
          | inr behind ↦ (let far = apart size k i (omega (arith, behind, there)) in omega (arith, far, from, high, same))
        ])))))
        (are.each i within))

-- the span of a part is that of the parts below it together
pub up : (ends : List ℕ) (size w k : ℕ) (spans : List Span) → AreSpans ends size spans → w * k + w ≤ length spans
    → IsSpanOf (joined (span_at spans) (w * k) w no_span) (part ends (size * w) k)
up ends size w k spans are within =
    let P : List Block → Type 0 = λ bs. IsSpanOf (joined (span_at spans) (w * k) w no_span) bs in
    subst P (part_of_parts ends size w k)
    (span_of_all (span_at spans) (part ends size) (w * k) w no_span [] span_of_none (λ i low high. are.each i (omega (arith, high, within))))

pub up_words : (ends : List ℕ) (w k : ℕ) → AreEnds ends → IsSpanOf (joined (word_at ends) (w * k) w no_span) (part ends w k)
up_words ends w k are = span_of_all (word_at ends) (begun_at ends) (w * k) w no_span [] span_of_none (λ i low high. spans_of_words ends are i)

ends_put : (ends : List ℕ) (word end : ℕ) → word < length ends → (end ≡ 0) ⊎ (heap_from + word < end) → AreEnds ends → AreEnds (slice_set ends word end)
ends_put ends word end within new are = λ k. go k (cases_eq k word)
  where
    go : (k : ℕ) → (k ≡ word) ⊎ (k ≡ word → ⊥) → (slice_index (slice_set ends word end) k ≡ 0) ⊎ (heap_from + k < slice_index (slice_set ends word end) k)
    go k (inl here) =
        let P : ℕ → Type 0 = λ j. (slice_index (slice_set ends word end) j ≡ 0) ⊎ (heap_from + j < slice_index (slice_set ends word end) j) in
        let Q : ℕ → Type 0 = λ e. (e ≡ 0) ⊎ (heap_from + word < e) in
        subst P (sym here) (subst Q (sym (get_or-set_same ends word end 0 within)) new)
    go k (inr there) =
        let Q : ℕ → Type 0 = λ e. (e ≡ 0) ⊎ (heap_from + k < e) in
        subst Q (sym (get_or-set_other ends word k end 0 there)) (are k)

-- the spans stay those of the blocks
pub put_indexed : (old new : Places) (word end : ℕ) → IsIndexed old → word < length old.ends.items → (end ≡ 0) ⊎ (heap_from + word < end)
    → IsPut old word end new → IsIndexed new
put_indexed old new word end is within good put =
    let P : List ℕ → Type 0 = λ l. AreEnds l in
    let Q : List Span → Type 0 = λ l. AreSpans new.ends.items 16 l in
    let R : List Span → Type 0 = λ l. AreSpans new.ends.items 256 l in
    let S : List Span → Type 0 = λ l. AreSpans new.ends.items 8192 l in
    let ends : AreEnds new.ends.items = subst P (sym put.ends) (ends_put old.ends.items word end within good is.ends) in
    let same : length new.ends.items ≡ length old.ends.items = ap length put.ends ∙ length-set old.ends.items word end in
    let others : (i : ℕ) → (i ≡ word → ⊥) → slice_index new.ends.items i ≡ slice_index old.ends.items i
    = (λ i there. ap (λ l. slice_index l i) put.ends ∙ get_or-set_other old.ends.items word i end 0 there) in
    let pages : AreSpans new.ends.items 16 new.pages.items = subst Q (sym put.pages)
    (level_put old.ends.items new.ends.items 16 word (word / 16) old.pages.items _ same others is.pages (omega arith) (omega arith) (up_words new.ends.items 16 (word / 16) ends)) in
    let page_all = pages.all in
    let rows : AreSpans new.ends.items 256 new.rows.items = subst R (sym put.rows)
    (level_put old.ends.items new.ends.items 256 word (word / 16 / 16) old.rows.items _ same others is.rows (omega arith) (omega arith)
    (up new.ends.items 16 16 (word / 16 / 16) new.pages.items pages (omega (arith, page_all, same, within, is.rows.all)))) in
    let row_all = rows.all in
    let tops : AreSpans new.ends.items 8192 new.tops.items = subst S (sym put.tops)
    (level_put old.ends.items new.ends.items 8192 word (word / 16 / 16 / 32) old.tops.items _ same others is.tops (omega arith) (omega arith)
    (up new.ends.items 256 32 (word / 16 / 16 / 32) new.rows.items rows (omega (arith, row_all, same, within, is.tops.all)))) in
    record { ends = ends; few = omega (arith, same, is.few); pages = pages; rows = rows; tops = tops }

-- No block.

pub zeros : (n i : ℕ) → slice_index (replicate n 0) i ≡ 0
zeros zero i = refl
zeros (suc n) zero = refl
zeros (suc n) (suc i) = zeros n i

spans_empty : (ends : List ℕ) (size n : ℕ) (spans : List Span) → spans ≡ replicate n no_span → size * n ≡ length ends → ((i : ℕ) → slice_index ends i ≡ 0)
    → AreSpans ends size spans
spans_empty ends size n spans is all none =
    let count : length spans ≡ n = ap length is ∙ length-replicate n no_span in
    record {
      all = ap (λ k. size * k) count ∙ all;
      each = λ k within. each k (omega (arith, within, count));
    }
  where
    each : (k : ℕ) → k < n → IsSpanOf (span_at spans k) (part ends size k)
    each k within =
        let P : Span → Type 0 = λ s. IsSpanOf s (part ends size k) in
        let Q : List Block → Type 0 = λ bs. IsSpanOf no_span bs in
        subst P (sym (ap (λ l. span_at l k) is ∙ get_or-replicate n k no_span no_span within))
        (subst Q (sym (gather_none ends (size * k) size none)) span_of_none)

pub empty : (size : Size) (p : Places) (words : ℕ) → words ≡ stack_from size - heap_from → p.ends.items ≡ replicate words 0
    → p.pages.items ≡ replicate (words / 16) no_span → p.rows.items ≡ replicate (words / 16 / 16) no_span → p.tops.items ≡ replicate (words / 16 / 16 / 32) no_span
    → IsEmpty (stack_from size - heap_from) p
empty size p words is ends pages rows tops =
    let whole = whole_tops size words is in
    let count : length p.ends.items ≡ words = ap length ends ∙ length-replicate words 0 in
    let none : (i : ℕ) → slice_index p.ends.items i ≡ 0 = (λ i. ap (λ l. slice_index l i) ends ∙ zeros words i) in
    record {
      indexed = record {
        ends = λ k. inl (none k);
        few = omega (arith, count, whole.1);
        pages = spans_empty p.ends.items 16 (words / 16) p.pages.items pages (omega (arith, count, whole.0)) none;
        rows = spans_empty p.ends.items 256 (words / 16 / 16) p.rows.items rows (omega (arith, count, whole.0)) none;
        tops = spans_empty p.ends.items 8192 (words / 16 / 16 / 32) p.tops.items tops (omega (arith, count, whole.0)) none;
      };
      ends = ends ∙ ap (λ n. replicate n 0) is;
    }
  where
    whole_tops : (size : Size) (words : ℕ) → words ≡ stack_from size - heap_from → (8192 * (words / 8192) ≡ words) × (words < 2 ^ 31)
    whole_tops Size.Small words is = (omega (arith, is), omega (arith, is))
    whole_tops Size.Large words is = (omega (arith, is), omega (arith, is))
