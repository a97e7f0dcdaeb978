use Rattle.std.proofs.Common.{◌≡◌, ◌∙◌, ◌<◌, ◌-◌, ◌+◌, arith, ap, sym, subst, length, get_or, false}
use Rattle.tac_ir.specs.declared.code.Lined.{Lined}
use Rattle.tac_ir.specs.Module.{Module}
use Rattle.tac_ir.specs.Layout.{lines_of, instr_at}
use Rattle.flow_rules.specs.PointNumber.{point_at}
use Rattle.flow_rules.specs.Removed.{breaks, is_loud, is_named, Covers}
use Rattle.flow_rules.proofs.Covering.{IsOpen, open_next}
use Rattle.flow_rules.proofs.MadePoints.{line_is}
use Rattle.flow_rules.proofs.cover.is_covered.Goals as goal

pub loop-at-preserved : goal.loop-at-preserved
loop-at-preserved c =
    let m = c.args.md.now in
    let f = c.args.p.fun in
    let i = c.loop-at.at - 1 in
    let x : Lined = get_or c.lines_of-code.result.now i c.index-code-at.result in
    let lines : c.lines_of-code.result.now ≡ lines_of m.code f = c.lines_of-code.ensures ∙ ap (λ (z : Module). lines_of z.code f) c.md.view_is in
    let within = c.loop-at.invariant.within in
    let low : i < length c.lines_of-code.result.now = omega (arith, c.requires, within, c.loop-at-test.true, ap length lines) in
    let at : instr_at m.code (point_at f i) ≡ x.instr = line_is m.code f c.lines_of-code.result.now i x lines low (ap (get_or c.lines_of-code.result.now i) c.index-code-at.is) in
    let step : c.loop-at.at ≡ i + 1 = omega (arith, c.loop-at-test.true) in
    let named : is_named (lines_of m.code f) (i + 1) ≡ false = ap (is_named (lines_of m.code f)) (sym step) ∙ ap (λ xs. is_named xs c.loop-at.at) (sym lines) ∙ sym c.is_named.ensures ∙ c.if-is_named.false in
    let broken : breaks (instr_at m.code (point_at f i)) ≡ false = ap breaks at ∙ sym c.breaks.ensures ∙ c.if-breaks.false in
    let quiet : is_loud (instr_at m.code (point_at f i)) ≡ false = ap is_loud at ∙ sym c.is_loud.ensures ∙ c.if-is_loud.false in
    open_next m f c.args.p.at c.args.read c.args.place.now i (subst (IsOpen m f c.args.p.at c.args.read c.args.place.now) step c.loop-at.invariant) named broken quiet
    (λ covers. (let yes = c.covers.ensures.1 (subst (Covers m c.args.place.now c.args.read) at covers) in let clash = sym yes ∙ c.if-covers.false in cc))
