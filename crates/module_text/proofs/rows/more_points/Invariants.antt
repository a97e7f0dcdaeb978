use Rattle.std.proofs.Common.{◌≡◌, ◌-◌, [], map}
use Rattle.line_format.specs.tools.Format.{read, loop, turns}
use Rattle.line_format.specs.tools.Rows.{next_row}
use Rattle.text_law.specs.tools.Keys.{key, next_key, behind_key, temps}
use Rattle.module_text.proofs.rows.more_points.Given as goal

abbrev pub invariant-loop : goal.invariant-loop
invariant-loop l =
    (read (loop (next_row key next_key) ([], (temps (0, 0), l.fn.behind))) l.fn.cursor
    ≡ turns (λ t r. read ((next_row key next_key) t) r) (l.end - l.counter) (map (λ r. (r.key, r.nodes)) l.found, (behind_key l.last, l.owed)) l.cursor)
