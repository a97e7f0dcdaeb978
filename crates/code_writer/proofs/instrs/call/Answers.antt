use Rattle.std.proofs.Common.{[], ◌∷◌, arith}
use Rattle.std.specs.Prelude.{codes}
use Rattle.std.specs.Fmt.{decimal}
use Rattle.text_law.specs.ModuleText.{temp}
use Rattle.line_writer.proofs.Lining.{joined, listed_line}
use Rattle.code_writer.proofs.instrs.call.Goals as goal

pub returns : goal.returns
returns c = (
  joined (decimal c.args.at ∷ codes " call t" ∷ decimal c.args.to ∷ codes " " ∷ decimal c.args.fun ∷ codes " " ∷ []) _ (decimal c.args.def) _ _ _ _
      c.in_ok-write.ensures.bytes c.in_ok-numbers_to_end.ensures.text (listed_line temp (decimal c.args.def) c.args.args.now),
  (omega (arith, c.ranges.at), (omega (arith, c.ranges.to), (omega (arith, c.ranges.fun), (omega (arith, c.ranges.def), c.in_ok-numbers_to_end.ensures.fit)))),
)
