use Rattle.std.proofs.Common.{ap, sym, ◌∙◌}
use Rattle.parse_law.specs.tools.Parsing.{skip, done}
use Rattle.c_parse.proofs.Symbols.{skip_none, skip_one}
use Rattle.c_parse.proofs.cursor.Cursor.skip.Goals as goal

pub returns-in_default : goal.returns-in_default
returns-in_default c = ap skip (sym c.self.view_is) ∙ (skip_none c.self.inside.rest.now c.in_default.len_below ∙ ap (done tt) c.self.view_is)

pub returns-in-len1-up : goal.returns-in-len1-up
returns-in-len1-up c = ap skip (sym c.self.view_is) ∙ skip_one c.self.inside.rest.now c.in-len1-up.len_at_least
