use Rattle.std.proofs.Common.{◌≡◌, ◌≤◌, ◌<◌, ◌^◌, ℕ, ◌+◌, ◌-◌, ◌*◌, length}
use Rattle.line_format.specs.tools.Number.{can, meets}
use Rattle.line_format.proofs.numbers.can_follow.Given as goal

abbrev pub invariant-loop : goal.invariant-loop
invariant-loop l =
    (can l.fn.low l.fn.high l.fn.value ≡ meets l.fn.low l.fn.high (l.end - l.counter) l.least l.most) × (l.least < 2 ^ 60) × (l.most < 2 ^ 60) × (l.end ≡ l.fn.high + 1) × (l.fn.value ≤ l.least)
