use Rattle.std.proofs.Common.{rules, ◌+◌, ◌≤◌, [], length, drop, subst, ap, length-append, arith}
use Rattle.std.specs.List.{All}
use Rattle.std.specs.String.{string_bytes}
use Rattle.std.proofs.lemmas.List.{take_all}
use Rattle.line_format.specs.Lines.{line, lines}
use Rattle.line_writer.specs.Writes.{Passes}
use Rattle.line_writer.proofs.Lining.{line_more, line_some, longer, fit_more}
use Rattle.line_writer.proofs.rows.lines.Goals as goal

pub returns-in_err-within_limit-clause-long : goal.returns-in_err-within_limit-clause-long
returns-in_err-within_limit-clause-long g c =
    let past : Passes (lines g.L.Line.words c.args.values.now) (string_bytes c.args.text.now) = λ rest.
    longer _ (lines g.L.Line.words (drop (c.loop-value.value-index + 1) c.args.values.now) rest) _
    (line_more g.L.Line.words c.args.values.now c.loop-value.value-index c.value-item.result _ _ _ c.loop-value-test.true c.value-item.is c.loop-value.invariant.0 c.in_ok-write.ensures.text rest)
    (omega (arith, ap length c.deref.ensures, c.in_err-within_limit.ensures)) in
    search rules

pub loop-value-preserved : goal.loop-value-preserved
loop-value-preserved g c =
    let words = g.L.Line.words c.value-item.result in
    let more : c.loop-value.value-index + 1 ≤ length (string_bytes c.write.new.text) =
    omega (arith, c.loop-value.invariant.2, ap length c.in_ok-write.ensures.text, length-append (string_bytes c.loop-value.text) (line words []), line_some words []) in (
      line_more g.L.Line.words c.args.values.now c.loop-value.value-index c.value-item.result _ _ _ c.loop-value-test.true c.value-item.is c.loop-value.invariant.0 c.in_ok-write.ensures.text,
      fit_more g.L.Line.fits c.args.values.now c.loop-value.value-index c.value-item.result c.loop-value-test.true c.value-item.is c.loop-value.invariant.1 c.in_ok-write.ensures.fit,
      more,
      omega (arith, more, ap length c.deref.ensures, c.in_ok-within_limit.ensures),
    )

pub returns-clause-fit : goal.returns-clause-fit
returns-clause-fit g c = subst (All g.L.Line.fits) (take_all c.loop-value.value-index c.args.values.now c.loop-value-test.false) c.loop-value.invariant.1
