use Rattle.std.proofs.Common.{◌≡◌, drop, []}
use Rattle.number_lists.specs.declared.scan.State.{State}
use Rattle.number_lists.specs.tools.Scanning.{Fits, int_form, int_value, scan}
use Rattle.number_lists.proofs.lists.read_input.Given as goal

-- what is left goes on as the whole began, and the number at hand is an `int`
abbrev pub invariant-loop-at : goal.invariant-loop-at
invariant-loop-at l =
    Fits int_form l.state
    × (scan int_form int_value 0 State.Between [] l.bytes ≡ scan int_form int_value l.at l.state l.numbers.items (drop l.at l.bytes))
