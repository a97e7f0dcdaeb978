use Rattle.std.proofs.Common.{sym, subst}
use Rattle.c_lex.specs.IsLexed.{Lexed}
use Rattle.c_parse.specs.Symbol.{symbols_of}
use Rattle.c_parse.specs.Parsed.{IsProgram}
use Rattle.c_parse.proofs.Built.{built}
use Rattle.c_parse.proofs.parser.tree.Goals as goal

pub invariant_of-result : goal.invariant_of-result
invariant_of-result c =
    built (record { tokens = c.lexed.inside.tokens; names = c.lexed.inside.names; last = c.lexed.inside.last }) c.args.items c.lexed.invariant
    (subst (λ (l : Lexed). IsProgram (symbols_of l.tokens) c.args.items) (sym c.lexed.view_is) c.requires)
