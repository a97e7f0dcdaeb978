use Rattle.std.proofs.Common.{◌≡◌, ◌<◌, ◌&&◌, ◌∷◌, [], length, take_all, ap, sym, ◌∙◌, subst}
use Rattle.std.proofs.lemmas.List.Elements.{All-get_or}
use Rattle.dfi_base.specs.Bits.{has}
use Rattle.dfi_base.proofs.RowLaws.{has_met, length_met}
use Rattle.std.specs.Prelude.{slice_index}
use Rattle.least_rows.specs.Rules.{row_of}
use Rattle.least_rows.proofs.Gathering.{item, row_is, InAll, meet_turn}
use Rattle.least_rows.proofs.gather.gather_meet.Goals as goal

pub loop-from-preserved : goal.loop-from-preserved
loop-from-preserved c =
    let t = c.args.rows.now in
    let rest = c.args.rest.now in
    let i = c.loop-from.from-index in
    let from = slice_index rest i in
    let inside : from < length t = All-get_or (λ x. x < length t) rest i 0 c.loop-from-test.true c.requires.rest in
    let row : c.index-rows-from.result ≡ row_of t from = row_is t from c.index-rows-from.result inside c.index-rows-from.is in
    let wide : length (row_of t from) ≡ length c.args.asked.now = All-get_or (λ r. length r ≡ length c.args.asked.now) t from [] inside c.requires.rows in
    let long : length c.loop-from.asked ≡ length c.index-rows-from.result = c.loop-from.invariant.long ∙ sym (ap length row ∙ wide) in
    record {
      long = ap length c.and.ensures ∙ length_met c.loop-from.asked c.index-rows-from.result long ∙ c.loop-from.invariant.long;
      asked = meet_turn t c.args.first i from rest c.loop-from.asked c.and.new.self c.loop-from-test.true (item rest i 0 from c.loop-from-test.true)
          (λ k. ap (λ r. has r k) c.and.ensures ∙ has_met c.loop-from.asked c.index-rows-from.result k long ∙ ap (λ r. has c.loop-from.asked k && has r k) row)
          c.loop-from.invariant.asked;
    }

pub returns-clause-asked : goal.returns-clause-asked
returns-clause-asked c =
    subst (λ l. InAll c.args.rows.now (c.args.first ∷ l) c.loop-from.asked) (take_all c.loop-from.from-index c.args.rest.now c.loop-from-test.false) c.loop-from.invariant.asked
