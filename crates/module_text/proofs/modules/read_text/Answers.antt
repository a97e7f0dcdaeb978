use Rattle.std.proofs.Common.{◌≡◌, ◌-◌, length, sym, subst, arith}
use Rattle.line_format.specs.FirstFault.{IsAt}
use Rattle.line_format.specs.tools.Format.{read, done, fault}
use Rattle.line_format.specs.tools.Reads.{Fails}
use Rattle.text_law.specs.IsText.{IsText}
use Rattle.text_law.specs.tools.Whole.{whole}
use Rattle.module_text.proofs.Telling.{text_told, rest_told, fault_told}
use Rattle.module_text.proofs.modules.read_text.Goals as goal

pub overflow_sub-result : goal.overflow_sub-result
overflow_sub-result c =
    let e = subst (λ b. read whole b ≡ done c.in-Ok.module c.whole_module.new.cursor) c.new-cursor.ensures c.in-Ok.ensures in
    let t = rest_told c.args.bytes.now c.in-Ok.module c.whole_module.new.cursor e (omega (arith, c.left-left.ensures.count, c.if-left-eq0.false)) in
    omega (arith, t.0, c.left-left.ensures.count)

pub overflow_sub-result-in-Err-At : goal.overflow_sub-result-in-Err-At
overflow_sub-result-in-Err-At c =
    let f : read whole c.new-cursor.result ≡ fault c.in-Err-At.left = subst (λ x. Fails (read whole c.new-cursor.result) x) c.in-Err-At.field-0-is c.in-Err-At.ensures in
    let e = subst (λ b. read whole b ≡ fault c.in-Err-At.left) c.new-cursor.ensures f in
    let t = fault_told c.args.bytes.now c.in-Err-At.left e in
    omega (arith, t.0, c.in-Err-At.left-is)

pub returns-then-left-eq0 : goal.returns-then-left-eq0
returns-then-left-eq0 c =
    let e = subst (λ b. read whole b ≡ done c.in-Ok.module c.whole_module.new.cursor) c.new-cursor.ensures c.in-Ok.ensures in
    text_told c.args.bytes.now c.in-Ok.module c.whole_module.new.cursor e (omega (arith, c.left-left.ensures.count, c.if-left-eq0.true))

pub returns-else-left-eq0 : goal.returns-else-left-eq0
returns-else-left-eq0 c =
    let e = subst (λ b. read whole b ≡ done c.in-Ok.module c.whole_module.new.cursor) c.new-cursor.ensures c.in-Ok.ensures in
    let t = rest_told c.args.bytes.now c.in-Ok.module c.whole_module.new.cursor e (omega (arith, c.left-left.ensures.count, c.if-left-eq0.false)) in
    subst (λ n. IsAt IsText c.args.bytes.now (length c.args.bytes.now - n)) (sym c.left-left.ensures.count) t.1

pub returns-in-Err-At : goal.returns-in-Err-At
returns-in-Err-At c =
    let f : read whole c.new-cursor.result ≡ fault c.in-Err-At.left = subst (λ x. Fails (read whole c.new-cursor.result) x) c.in-Err-At.field-0-is c.in-Err-At.ensures in
    let e = subst (λ b. read whole b ≡ fault c.in-Err-At.left) c.new-cursor.ensures f in
    subst (λ n. IsAt IsText c.args.bytes.now (length c.args.bytes.now - n)) (sym c.in-Err-At.left-is) (fault_told c.args.bytes.now c.in-Err-At.left e).1
