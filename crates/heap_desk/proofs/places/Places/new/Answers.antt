use Rattle.std.proofs.Common.{◌-◌, ◌/◌, ap, replicate, ◌∙◌}
use Rattle.heap_desk.proofs.Index.{empty}
use Rattle.heap_desk.proofs.places.Places.new.Goals as goal

pub returns : goal.returns
returns c =
    let words = c.stack_from.result - 8192 in
    empty c.args.size _ words (ap (λ n. n - 8192) c.stack_from.ensures) c.in_ok-ends.ensures
    (c.in_ok-pages.ensures ∙ ap (replicate (words / 16)) c.none-none.ensures)
    (c.in_ok-rows.ensures ∙ ap (replicate (words / 16 / 16)) c.none-none.ensures)
    (c.in_ok-tops.ensures ∙ ap (replicate (words / 16 / 16 / 32)) c.none-none.ensures)
