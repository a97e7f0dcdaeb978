use Rattle.std.proofs.Common.{◌*◌, ◌/◌, ap, ◌∙◌, refl, slice_set}
use Rattle.heap_desk.specs.tools.Spans.{no_span, span_at, word_at, joined}
use Rattle.heap_desk.proofs.places.Places.put.Goals as goal

pub returns : goal.returns
returns c =
    let p = c.args.self.now in
    let page = c.args.word / 16 in
    let row = page / 16 in
    let top = row / 32 in
    record {
      ends = refl;
      pages = ap (slice_set p.pages.items page) (c.join_words.ensures ∙ ap (λ l. joined (word_at l) (16 * page) 16 no_span) c.deref.ensures.value);
      rows = ap (slice_set p.rows.items row) (c.join.ensures ∙ ap (λ l. joined (span_at l) (16 * row) 16 no_span) c.deref-2.ensures.value);
      tops = ap (slice_set p.tops.items top) (c.join-2.ensures ∙ ap (λ l. joined (span_at l) (32 * top) 32 no_span) c.deref-3.ensures.value);
    }
