use Rattle.std.proofs.Common.{◌≡◌, ◌∙◌, Err, None, ap, arith, rules, subst, sym}
use Rattle.std.proofs.lemmas.Result.{err_from_is_err_and}
use Rattle.tac_lower.specs.declared.fault.LowerFault.{LowerFault}
use Rattle.tac_ir.specs.GoodForm.{GoodForm}
use Rattle.tac_lower.specs.CodeOf.{code_of, code_with}
use Rattle.tac_lower.specs.Limits.{first_passed}
use Rattle.tac_lower.specs.tools.Interning.{AreFew}
use Rattle.tac_lower.specs.Lowers.{Lowers}
use Rattle.tac_lower.proofs.form.Good.{few_shapes, good_form}
use Rattle.tac_lower.proofs.counted.LowerLaws.{emitted_fault, no_memory, points_within}
use Rattle.tac_lower.proofs.lowering.lower.Goals as goal

pub finish-requires : goal.finish-requires
finish-requires c =
    let t = c.args.program.now in
    let few = few_shapes t c.known.ensures in
    subst (λ drafts. AreFew (code_with t drafts).shapes) (sym c.in_ok-drafts.ensures.drafts) (omega (arith, few))

pub passed-requires : goal.passed-requires
passed-requires c = (points_within c.args.program.now c.in_ok-drafts.drafts c.in_ok-code.code c.in_ok-drafts.ensures c.in_ok-code.ensures).1

pub returns-in_err-drafts : goal.returns-in_err-drafts
returns-in_err-drafts c =
    let told : c.from_residual.result ≡ Err c.in_err-drafts.field-0.0 = search rules in
    subst (Lowers c.args.program.now) (sym told) (emitted_fault c.args.program.now c.in_err-drafts.field-0.0 c.in_err-drafts.ensures)

pub returns-in_err-code : goal.returns-in_err-code
returns-in_err-code c =
    let given = err_from_is_err_and c.from_residual-in_err-code.result c.from_residual-in_err-code.ensures.1 in
    let told : c.from_residual-in_err-code.result ≡ Err LowerFault.Memory = given.1 ∙ ap Err given.2 in
    subst (Lowers c.args.program.now) (sym told) (no_memory c.args.program.now)

pub returns-in_err-passed : goal.returns-in_err-passed
returns-in_err-passed c =
    let given = err_from_is_err_and c.from_residual-in_err-passed.result c.from_residual-in_err-passed.ensures.1 in
    let told : c.from_residual-in_err-passed.result ≡ Err LowerFault.Memory = given.1 ∙ ap Err given.2 in
    subst (Lowers c.args.program.now) (sym told) (no_memory c.args.program.now)

pub returns-in-Some : goal.returns-in-Some
returns-in-Some c = λ told.
    let same = (points_within c.args.program.now c.in_ok-drafts.drafts c.in_ok-code.code c.in_ok-drafts.ensures c.in_ok-code.ensures).0 in
    ap first_passed (sym same) ∙ sym c.in_ok-passed.ensures ∙ c.in-Some.is

pub returns-in-None : goal.returns-in-None
returns-in-None c =
    let t = c.args.program.now in
    let same = (points_within t c.in_ok-drafts.drafts c.in_ok-code.code c.in_ok-drafts.ensures c.in_ok-code.ensures).0 in
    let within : first_passed (code_of t) ≡ None = ap first_passed (sym same) ∙ sym c.in_ok-passed.ensures ∙ c.in-None.is in
    record { code = same; within = within; good = subst GoodForm (sym same) (good_form t c.known.ensures within) }
