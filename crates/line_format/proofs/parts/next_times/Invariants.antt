use Rattle.std.proofs.Common.{◌≡◌, ◌-◌, []}
use Rattle.line_format.specs.tools.Format.{read, loop, turns}
use Rattle.line_format.specs.tools.Times.{next_one}
use Rattle.line_format.proofs.parts.next_times.Given as goal

abbrev pub invariant-loop : goal.invariant-loop
invariant-loop g l =
    read (loop (next_one g.P.Part.format) ([], l.fn.behind)) l.fn.cursor
    ≡ turns (λ s r. read (next_one g.P.Part.format s) r) (l.end - l.counter) (l.found, l.owed) l.cursor
