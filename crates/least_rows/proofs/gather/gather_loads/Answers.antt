use Rattle.std.proofs.Common.{◌≡◌, ℕ, ◌+◌, ◌<◌, ◌≤◌, ◌||◌, [], length, ap, sym, ◌∙◌, ltb-true, ltb-false}
use Rattle.std.proofs.lemmas.List.Elements.{All-get_or}
use Rattle.dfi_base.specs.Bits.{has}
use Rattle.dfi_base.proofs.RowLaws.{has_joined, length_joined}
use Rattle.least_rows.specs.Rules.{row_of, row_has}
use Rattle.least_rows.proofs.Gathering.{row_is, past, or_none, LoadedBelow, loaded_more}
use Rattle.least_rows.proofs.gather.gather_loads.Goals as goal
use Rattle.least_rows.proofs.gather.gather_loads.Goals.{in-Some-get, in_default-get}

turn : (c : goal.Joined-get) → ((k : ℕ) → has c.match-get.asked k ≡ (has c.loop-at.asked k || row_has c.args.rows.now c.in-Some.from k))
    → LoadedBelow c.args.rows.now c.args.sources (c.in-Some.from + 1) c.match-get.asked
turn c made =
    let t = c.args.rows.now in
    let row : c.index-rows-sources.result ≡ row_of t c.args.sources = row_is t c.args.sources c.index-rows-sources.result c.requires.sources c.index-rows-sources.is in
    let found = c.in-Some.ensures in
    loaded_more t c.args.sources c.loop-at.at c.in-Some.from c.loop-at.asked c.match-get.asked found.0 (sym (ap (λ r. has r c.in-Some.from) row) ∙ found.1)
    (λ k low less. sym (ap (λ r. has r k) row) ∙ found.2 k low less) made c.loop-at.invariant.asked

pub loop-at-preserved : goal.loop-at-preserved
loop-at-preserved c =
    let t = c.args.rows.now in
    let from = c.in-Some.from in
    elim c.match-get.branch [
      | in-Some-get w ↦
          let found = w.in-Some-get.row.now in
          let inside : from < length t = ltb-true from (length t) (sym w.in-Some-get.ensures.lookup.0) in
          let row : found ≡ row_of t from = row_is t from found inside w.in-Some-get.ensures.lookup.1 in
          let wide : length found ≡ length c.args.asked.now =
          ap length row ∙ All-get_or (λ r. length r ≡ length c.args.asked.now) t from [] inside c.requires.rows in
          let long : length c.loop-at.asked ≡ length found = c.loop-at.invariant.long ∙ sym wide in
          record {
            long = ap length w.asked-is ∙ ap length w.or.ensures.row ∙ length_joined c.loop-at.asked found long ∙ c.loop-at.invariant.long;
            asked = turn c (λ k.
                ap (λ r. has r k) w.asked-is ∙ ap (λ r. has r k) w.or.ensures.row ∙ has_joined c.loop-at.asked found k long
                ∙ ap (λ r. has c.loop-at.asked k || has r k) row);
          }
      | in_default-get w ↦
          let behind : length t ≤ from = ltb-false from (length t) (sym w.in_default-get.ensures.lookup.0) in
          record {
            long = ap length w.asked-is ∙ c.loop-at.invariant.long;
            asked = turn c (λ k. ap (λ r. has r k) w.asked-is ∙ or_none (has c.loop-at.asked k) (row_has t from k) (ap (λ r. has r k) (past t from [] behind)));
          }
    ]
