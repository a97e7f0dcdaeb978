use Rattle.std.proofs.Common.{◌∷◌, ◌∙◌, ap, sym, subst}
use Rattle.tac_ir.specs.Answers.{class_of}
use Rattle.word_table.specs.Holds.{HoldsAfter}
use Rattle.word_table.specs.tools.Deciding.{written}
use Rattle.word_table.proofs.Members.{short}
use Rattle.word_table.proofs.Writes.{after_write}
use Rattle.word_table.proofs.table.WordTable.write.Goals as goal

pub class_of-class-requires : goal.class_of-class-requires
class_of-class-requires c = short c.args.m.now c.requires

pub returns : goal.returns
returns c = λ h e holds op answer.
    let is = c.put.ensures ∙ ap (λ k. written c.args.self.now k c.args.word c.args.value) (c.class_of-class.ensures ∙ ap (class_of c.args.m.now) c.from.ensures) in
    subst (HoldsAfter c.args.m.now (e ∷ h)) (sym is) (after_write c.args.m.now e h c.args.self.now c.args.def.0 c.args.word c.args.value holds op answer)
