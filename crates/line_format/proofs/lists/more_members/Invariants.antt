use Rattle.std.proofs.Common.{◌≡◌, ◌≤◌, ◌-◌}
use Rattle.line_format.specs.tools.Format.{read, loop, turns}
use Rattle.line_format.specs.tools.Members.{member}
use Rattle.line_format.proofs.lists.more_members.Given as goal

abbrev pub invariant-loop : goal.invariant-loop
invariant-loop l =
    (
    read (loop (member l.fn.lead l.fn.between l.fn.end l.fn.rising) (l.fn.found, 0)) l.fn.cursor
    ≡ turns (λ s r. read (member l.fn.lead l.fn.between l.fn.end l.fn.rising s) r) (l.end - l.counter) (l.found, l.least) l.cursor
    ) × (l.least ≤ 4294967295)
