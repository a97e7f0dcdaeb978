use Rattle.std.proofs.Common.{rules, ◌≡◌, ◌+◌, ◌≤◌, length, drop, subst, ap, arith}
use Rattle.std.specs.List.{All}
use Rattle.std.specs.String.{string_bytes}
use Rattle.std.proofs.lemmas.List.{take_all}
use Rattle.line_writer.specs.declared.fault.WriteFault.TheVariants.{Long}
use Rattle.line_writer.specs.Writes.{Passes}
use Rattle.line_writer.proofs.Lining.{longer, fit_more}
use Rattle.text_law.specs.ModuleText.{funs_text}
use Rattle.text_law.specs.IsModule.{IsFun}
use Rattle.text_law.proofs.Basics.{each_of}
use Rattle.code_writer.proofs.Joining.{fun_more, fun_fails, fun_grows}
use Rattle.code_writer.proofs.functions.all_funs.Goals as goal

pub returns-in_err-fun-clause-long : goal.returns-in_err-fun-clause-long
returns-in_err-fun-clause-long c =
    let past : c.in_err-fun.field-0.0 ≡ Long → Passes (funs_text c.args.funs.now) (string_bytes c.args.text.now) = λ e.
    fun_fails c.args.funs.now c.loop-each.each-index c.each-item.result _ _ c.loop-each-test.true c.each-item.is c.loop-each.invariant.0 (c.in_err-fun.ensures.long e) in
    search rules

pub returns-in_err-within_limit-clause-long : goal.returns-in_err-within_limit-clause-long
returns-in_err-within_limit-clause-long c =
    let past : Passes (funs_text c.args.funs.now) (string_bytes c.args.text.now) = λ rest.
    longer _ (funs_text (drop (c.loop-each.each-index + 1) c.args.funs.now) rest) _
    (fun_more c.args.funs.now c.loop-each.each-index c.each-item.result _ _ _ c.loop-each-test.true c.each-item.is c.loop-each.invariant.0 c.in_ok-fun.ensures.text rest)
    (omega (arith, ap length c.deref.ensures, c.in_err-within_limit.ensures)) in
    search rules

pub loop-each-preserved : goal.loop-each-preserved
loop-each-preserved c =
    let more : c.loop-each.each-index + 1 ≤ length (string_bytes c.fun.new.text) =
    omega (arith, c.loop-each.invariant.2, fun_grows c.each-item.result _ _ c.in_ok-fun.ensures.text) in (
      fun_more c.args.funs.now c.loop-each.each-index c.each-item.result _ _ _ c.loop-each-test.true c.each-item.is c.loop-each.invariant.0 c.in_ok-fun.ensures.text,
      fit_more IsFun c.args.funs.now c.loop-each.each-index c.each-item.result c.loop-each-test.true c.each-item.is c.loop-each.invariant.1 c.in_ok-fun.ensures.fit,
      more,
      omega (arith, more, ap length c.deref.ensures, c.in_ok-within_limit.ensures),
    )

pub returns-clause-fit : goal.returns-clause-fit
returns-clause-fit c = (
  omega (arith, c.loop-each.invariant.3, c.loop-each-test.false),
  each_of IsFun c.args.funs.now (subst (All IsFun) (take_all c.loop-each.each-index c.args.funs.now c.loop-each-test.false) c.loop-each.invariant.1),
)
