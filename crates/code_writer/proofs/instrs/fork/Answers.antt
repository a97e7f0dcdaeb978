use Rattle.std.proofs.Common.{[], ◌∷◌, arith}
use Rattle.std.specs.Prelude.{codes}
use Rattle.std.specs.Fmt.{decimal}
use Rattle.line_writer.proofs.Lining.{joined, listed_line}
use Rattle.code_writer.proofs.instrs.fork.Goals as goal

pub returns : goal.returns
returns c = (
  joined (decimal c.args.at ∷ codes " fork " ∷ []) _ (decimal c.args.join) _ _ _ _
      c.in_ok-write.ensures.bytes c.in_ok-numbers_to_end.ensures.text (listed_line decimal (decimal c.args.join) c.args.entries.now),
  (omega (arith, c.ranges.at), (omega (arith, c.ranges.join), c.in_ok-numbers_to_end.ensures.fit)),
)
