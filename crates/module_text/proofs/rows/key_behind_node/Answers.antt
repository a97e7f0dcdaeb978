use Rattle.std.proofs.Common.{◌≡◌, suc, ◌+◌, subst, arith}
use Rattle.line_format.specs.tools.Format.{read}
use Rattle.line_format.specs.tools.Reads.{Reads}
use Rattle.text_law.specs.tools.Keys.{key, nodes}
use Rattle.module_text.proofs.rows.key_behind_node.Goals as goal

pub returns : goal.returns
returns c =
    let e : c.from.result + 1 ≡ suc c.args.node = omega (arith, c.from.ensures) in
    subst (λ n. Reads (read (key (nodes n) c.args.owed) c.args.cursor.now) c.node_from.result c.node_from.new.cursor) e c.node_from.ensures
