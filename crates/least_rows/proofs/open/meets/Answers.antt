use Rattle.std.proofs.Common.{◌≡◌, length, ap, refl, arith}
use Rattle.least_rows.specs.Rules.{row_of}
use Rattle.least_rows.proofs.Asking.{first_one}
use Rattle.least_rows.proofs.Gathering.{row_is}
use Rattle.least_rows.proofs.Visiting.{had_within}
use Rattle.least_rows.proofs.open.meets.Goals as goal

pub returns : goal.returns
returns c =
    let t = c.args.rows.now in
    let row : c.index-rows-first.result ≡ row_of t c.args.first = row_is t c.args.first c.index-rows-first.result c.requires.first c.index-rows-first.is in (
      λ is k all.
          let inside = had_within (row_of t c.args.first) k (all c.args.first (first_one c.args.first c.args.rest.now)) in
          c.loop-k.invariant k (omega (arith, inside, ap length row, c.len-k-end.ensures, c.loop-k-test.false)) all,
      λ all. refl,
    )
