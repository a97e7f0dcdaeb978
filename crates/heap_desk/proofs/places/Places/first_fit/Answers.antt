use Rattle.std.proofs.Common.{◌+◌, ◌*◌, length, ap, ◌∙◌, sym, arith}
use Rattle.tac_ir.specs.Layout.{heap_from}
use Rattle.heap_desk.specs.tools.Spans.{span_at, word_at, first_gap}
use Rattle.heap_desk.proofs.Index.{top_hit, top_miss, row_hit, page_hit, word_hit}
use Rattle.heap_desk.proofs.places.Places.first_fit.Goals as goal

pub returns-then-top-tops : goal.returns-then-top-tops
returns-then-top-tops c =
    let p = c.args.self.now in
    let limit = heap_from + length p.ends.items in
    let found = c.first_gap-top.ensures ∙ ap (λ l. first_gap (span_at l) 0 (length l) heap_from c.args.words) c.as_slice-tops.ensures.value in
    let last = c.if-top-tops.true ∙ ap length c.as_slice-tops.ensures.value in
    c.last_gap.ensures ∙ sym (top_miss p c.args.words limit c.first_gap-top.result c.requires.some c.requires.indexed found last)

pub overflow_mul-top : goal.overflow_mul-top
overflow_mul-top c =
    let p = c.args.self.now in
    let found = c.first_gap-top.ensures ∙ ap (λ l. first_gap (span_at l) 0 (length l) heap_from c.args.words) c.as_slice-tops.ensures.value in
    let come = top_hit p c.args.words c.first_gap-top.result c.requires.some c.requires.indexed found (λ same. c.if-top-tops.false (same ∙ sym (ap length c.as_slice-tops.ensures.value))) in
    omega (arith, come.0, c.requires.indexed.tops.all, c.requires.indexed.few)

pub first_gap-row-requires : goal.first_gap-row-requires
first_gap-row-requires c =
    let p = c.args.self.now in
    let found = c.first_gap-top.ensures ∙ ap (λ l. first_gap (span_at l) 0 (length l) heap_from c.args.words) c.as_slice-tops.ensures.value in
    let come = top_hit p c.args.words c.first_gap-top.result c.requires.some c.requires.indexed found (λ same. c.if-top-tops.false (same ∙ sym (ap length c.as_slice-tops.ensures.value))) in
    omega (arith, come.0, c.requires.indexed.tops.all, c.requires.indexed.rows.all, ap length c.deref.ensures.value)

pub overflow_mul-row : goal.overflow_mul-row
overflow_mul-row c =
    let p = c.args.self.now in
    let found = c.first_gap-top.ensures ∙ ap (λ l. first_gap (span_at l) 0 (length l) heap_from c.args.words) c.as_slice-tops.ensures.value in
    let come = top_hit p c.args.words c.first_gap-top.result c.requires.some c.requires.indexed found (λ same. c.if-top-tops.false (same ∙ sym (ap length c.as_slice-tops.ensures.value))) in
    let row = row_hit p c.args.words c.first_gap-top.result c.first_gap-row.result c.requires.some c.requires.indexed come
    (c.first_gap-row.ensures ∙ ap (λ l. first_gap (span_at l) (32 * c.first_gap-top.result.index) 32 c.first_gap-top.result.from c.args.words) c.deref.ensures.value) in
    omega (arith, row.0, c.requires.indexed.rows.all, c.requires.indexed.few)

pub first_gap-page-requires : goal.first_gap-page-requires
first_gap-page-requires c =
    let p = c.args.self.now in
    let found = c.first_gap-top.ensures ∙ ap (λ l. first_gap (span_at l) 0 (length l) heap_from c.args.words) c.as_slice-tops.ensures.value in
    let come = top_hit p c.args.words c.first_gap-top.result c.requires.some c.requires.indexed found (λ same. c.if-top-tops.false (same ∙ sym (ap length c.as_slice-tops.ensures.value))) in
    let row = row_hit p c.args.words c.first_gap-top.result c.first_gap-row.result c.requires.some c.requires.indexed come
    (c.first_gap-row.ensures ∙ ap (λ l. first_gap (span_at l) (32 * c.first_gap-top.result.index) 32 c.first_gap-top.result.from c.args.words) c.deref.ensures.value) in
    omega (arith, row.0, c.requires.indexed.rows.all, c.requires.indexed.pages.all, ap length c.deref-2.ensures.value)

pub overflow_mul-page : goal.overflow_mul-page
overflow_mul-page c =
    let p = c.args.self.now in
    let found = c.first_gap-top.ensures ∙ ap (λ l. first_gap (span_at l) 0 (length l) heap_from c.args.words) c.as_slice-tops.ensures.value in
    let come = top_hit p c.args.words c.first_gap-top.result c.requires.some c.requires.indexed found (λ same. c.if-top-tops.false (same ∙ sym (ap length c.as_slice-tops.ensures.value))) in
    let row = row_hit p c.args.words c.first_gap-top.result c.first_gap-row.result c.requires.some c.requires.indexed come
    (c.first_gap-row.ensures ∙ ap (λ l. first_gap (span_at l) (32 * c.first_gap-top.result.index) 32 c.first_gap-top.result.from c.args.words) c.deref.ensures.value) in
    let page = page_hit p c.args.words c.first_gap-row.result c.first_gap-page.result c.requires.some c.requires.indexed row
    (c.first_gap-page.ensures ∙ ap (λ l. first_gap (span_at l) (16 * c.first_gap-row.result.index) 16 c.first_gap-row.result.from c.args.words) c.deref-2.ensures.value) in
    omega (arith, page.0, c.requires.indexed.pages.all, c.requires.indexed.few)

pub first_word-word-requires-clause-within : goal.first_word-word-requires-clause-within
first_word-word-requires-clause-within c =
    let p = c.args.self.now in
    let found = c.first_gap-top.ensures ∙ ap (λ l. first_gap (span_at l) 0 (length l) heap_from c.args.words) c.as_slice-tops.ensures.value in
    let come = top_hit p c.args.words c.first_gap-top.result c.requires.some c.requires.indexed found (λ same. c.if-top-tops.false (same ∙ sym (ap length c.as_slice-tops.ensures.value))) in
    let row = row_hit p c.args.words c.first_gap-top.result c.first_gap-row.result c.requires.some c.requires.indexed come
    (c.first_gap-row.ensures ∙ ap (λ l. first_gap (span_at l) (32 * c.first_gap-top.result.index) 32 c.first_gap-top.result.from c.args.words) c.deref.ensures.value) in
    let page = page_hit p c.args.words c.first_gap-row.result c.first_gap-page.result c.requires.some c.requires.indexed row
    (c.first_gap-page.ensures ∙ ap (λ l. first_gap (span_at l) (16 * c.first_gap-row.result.index) 16 c.first_gap-row.result.from c.args.words) c.deref-2.ensures.value) in
    omega (arith, page.0, c.requires.indexed.pages.all, ap length c.deref-3.ensures.value)

pub returns : goal.returns
returns c =
    let p = c.args.self.now in
    let limit = heap_from + length p.ends.items in
    let found = c.first_gap-top.ensures ∙ ap (λ l. first_gap (span_at l) 0 (length l) heap_from c.args.words) c.as_slice-tops.ensures.value in
    let come = top_hit p c.args.words c.first_gap-top.result c.requires.some c.requires.indexed found (λ same. c.if-top-tops.false (same ∙ sym (ap length c.as_slice-tops.ensures.value))) in
    let row = row_hit p c.args.words c.first_gap-top.result c.first_gap-row.result c.requires.some c.requires.indexed come
    (c.first_gap-row.ensures ∙ ap (λ l. first_gap (span_at l) (32 * c.first_gap-top.result.index) 32 c.first_gap-top.result.from c.args.words) c.deref.ensures.value) in
    let page = page_hit p c.args.words c.first_gap-row.result c.first_gap-page.result c.requires.some c.requires.indexed row
    (c.first_gap-page.ensures ∙ ap (λ l. first_gap (span_at l) (16 * c.first_gap-row.result.index) 16 c.first_gap-row.result.from c.args.words) c.deref-2.ensures.value) in
    word_hit p c.args.words limit c.first_gap-page.result c.first_word-word.result c.requires.some c.requires.indexed page
    (c.first_word-word.ensures ∙ ap (λ l. first_gap (word_at l) (16 * c.first_gap-page.result.index) 16 c.first_gap-page.result.from c.args.words) c.deref-3.ensures.value)
