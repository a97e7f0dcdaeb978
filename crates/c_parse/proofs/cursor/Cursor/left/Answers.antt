use Rattle.std.proofs.Common.{ap, sym, ◌∙◌, length}
use Rattle.c_parse.proofs.Symbols.{length_symbols}
use Rattle.c_parse.proofs.cursor.Cursor.left.Goals as goal

pub returns-clause-count : goal.returns-clause-count
returns-clause-count c = sym (length_symbols c.self.inside.rest.now) ∙ ap length c.self.view_is
