use Rattle.std.proofs.Common.{ap, ◌∙◌}
use Rattle.c_parse.specs.Symbol.{symbols_of}
use Rattle.c_parse.proofs.CodeAnswers.{told_of}
use Rattle.c_parse.proofs.parser.read.Goals as goal

pub returns : goal.returns
returns c =
    told_of c.args.lexed.now _ _ _
    (c.new-cursor.ensures ∙ (ap symbols_of c.as_slice.ensures ∙ ap (λ l. symbols_of l.tokens) c.lexed.view_is)) c.program.ensures
