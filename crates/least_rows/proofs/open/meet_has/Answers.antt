use Rattle.std.proofs.Common.{◌≡◌, suc, ◌<◌, length, ap, sym, ◌∙◌, arith, true≢false}
use Rattle.std.proofs.lemmas.List.Elements.{All-get_or, Contains-get_or}
use Rattle.std.specs.Prelude.{slice_index}
use Rattle.dfi_base.specs.Bits.{has}
use Rattle.least_rows.specs.Rules.{row_of}
use Rattle.least_rows.proofs.Gathering.{row_is}
use Rattle.least_rows.proofs.open.meet_has.Goals as goal

pub returns-then-not-has_member-2 : goal.returns-then-not-has_member-2
returns-then-not-has_member-2 c =
    let t = c.args.rows.now in
    let rest = c.args.rest.now in
    let from = slice_index rest c.loop-from.from-index in
    let inside : from < length t = All-get_or (λ x. x < length t) rest c.loop-from.from-index 0 c.loop-from-test.true c.requires.rest in
    let row : c.index-rows-from.result ≡ row_of t from = row_is t from c.index-rows-from.result inside c.index-rows-from.is in
    let among = Contains-get_or rest c.loop-from.from-index 0 c.loop-from-test.true in (
      λ none. absurd (true≢false (sym none)),
      λ all.
          absurd (true≢false
          (sym (all from (suc among.0, omega (arith, among.1), among.2)) ∙ sym (ap (λ r. has r c.args.k) row) ∙ sym c.has_member-in-loop-from.ensures
          ∙ c.if-not-has_member-2.true)),
    )
