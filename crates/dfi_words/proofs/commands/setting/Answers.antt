use Rattle.std.proofs.Common.{◌∙◌, ap, sym, subst, refl, option_map}
use Rattle.clap.proofs.WalkLemmas.{first_value-rows}
use Rattle.clap.specs.Words.{found_of}
use Rattle.dfi_words.specs.Answers.{AnswersTo}
use Rattle.dfi_words.specs.Number.{up_to}
use Rattle.dfi_words.specs.Options.{GivesNumber}
use Rattle.dfi_words.proofs.commands.setting.Goals as goal

pub returns-in-Some : goal.returns-in-Some
returns-in-Some c =
    let value = ap (option_map (λ s. s.now)) (sym c.in-Some.is) ∙ c.get_str.ensures ∙ first_value-rows (found_of c.args.line.now) c.args.name.now in
    subst (λ v. AnswersTo (GivesNumber (record { range = up_to c.args.most; default = c.args.default }) v) c.number_up_to.result) value c.number_up_to.ensures

pub returns-in-None : goal.returns-in-None
returns-in-None c =
    let value = ap (option_map (λ s. s.now)) (sym c.in-None.is) ∙ c.get_str.ensures ∙ first_value-rows (found_of c.args.line.now) c.args.name.now in
    subst (λ v. GivesNumber (record { range = up_to c.args.most; default = c.args.default }) v c.args.default) value refl
