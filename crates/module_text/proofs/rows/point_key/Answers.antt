use Rattle.std.proofs.Common.{subst}
use Rattle.line_format.specs.tools.Format.{read}
use Rattle.line_format.specs.tools.Reads.{Reads}
use Rattle.text_law.specs.tools.Keys.{point_key}
use Rattle.module_text.proofs.rows.point_key.Goals as goal

pub returns : goal.returns
returns c = subst (λ l. Reads (read (point_key l c.args.owed) c.args.cursor.now) c.point_from.result c.point_from.new.cursor) c.least_point.ensures.answer c.point_from.ensures
