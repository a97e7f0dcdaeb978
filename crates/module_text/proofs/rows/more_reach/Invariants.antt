use Rattle.std.proofs.Common.{◌≡◌, ◌-◌, ◌≤◌, [], map}
use Rattle.line_format.specs.tools.Format.{read, loop, turns}
use Rattle.line_format.specs.tools.Rows.{next_row}
use Rattle.text_law.specs.tools.Keys.{point_key, next_point, behind_point}
use Rattle.module_text.proofs.rows.more_reach.Given as goal

abbrev pub invariant-loop : goal.invariant-loop
invariant-loop l =
    (read (loop (next_row point_key next_point) ([], ((0, 0), l.fn.behind))) l.fn.cursor
    ≡ turns (λ t r. read ((next_row point_key next_point) t) r) (l.end - l.counter) (map (λ r. (r.point, r.facts)) l.found, (behind_point l.last, l.owed)) l.cursor) × (l.owed ≤ l.fn.behind)
