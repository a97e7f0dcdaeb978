use Rattle.std.proofs.Common.{rules, ◌≡◌, ◌<◌, length, subst, ap, ◌∙◌, arith}
use Rattle.std.specs.String.{string_bytes}
use Rattle.dfi_base.specs.Limits.{file_limit}
use Rattle.line_writer.specs.declared.fault.WriteFault.TheVariants.{Long}
use Rattle.text_law.specs.ModuleText.{module_text}
use Rattle.module_text.proofs.Ended.{whole_written, whole_passes}
use Rattle.module_text.proofs.writing.write_module.Goals as goal

pub returns-in_err-whole_module-clause-long : goal.returns-in_err-whole_module-clause-long
returns-in_err-whole_module-clause-long c =
    let past : c.in_err-whole_module.field-0.0 ≡ Long → file_limit < length (module_text c.args.m.now) = λ e. whole_passes c.args.m.now _ c.new-text.ensures.bytes (c.in_err-whole_module.ensures.long e) in
    search rules

pub returns-in_err-within_limit-clause-long : goal.returns-in_err-within_limit-clause-long
returns-in_err-within_limit-clause-long c =
    let h : file_limit < length (string_bytes c.whole_module.new.text) = omega (arith, ap length c.deref.ensures, c.in_err-within_limit.ensures) in
    let past : file_limit < length (module_text c.args.m.now) = subst (λ t. file_limit < length t) (whole_written c.args.m.now _ _ c.new-text.ensures.bytes c.in_ok-whole_module.ensures.text) h in
    search rules

pub returns-clause-text : goal.returns-clause-text
returns-clause-text c = (c.in_ok-whole_module.ensures.fit, ap (λ v. v.items) c.into_bytes.ensures.value ∙ whole_written c.args.m.now _ _ c.new-text.ensures.bytes c.in_ok-whole_module.ensures.text)

pub returns-clause-short : goal.returns-clause-short
returns-clause-short c = omega (arith, ap (λ v. length v.items) c.into_bytes.ensures.value, ap length c.deref.ensures, c.in_ok-within_limit.ensures)
