use Rattle.std.proofs.Common.{◌≡◌, ◌≤◌, ◌-◌}
use Rattle.line_format.specs.tools.Format.{read, byte, loop, turns}
use Rattle.line_format.specs.tools.Number.{next_digit}
use Rattle.line_format.specs.tools.Reads.{end_of}
use Rattle.line_format.proofs.numbers.more_digits.Given as goal

abbrev pub invariant-loop : goal.invariant-loop
invariant-loop l =
    (read (loop (λ v. byte (next_digit l.fn.low l.fn.high (end_of l.fn.end) v)) l.fn.first) l.fn.cursor
    ≡ turns (λ v r. read (byte (next_digit l.fn.low l.fn.high (end_of l.fn.end) v)) r) (l.end - l.counter) l.value l.cursor) × (l.value ≤ l.fn.high)
