use Rattle.std.proofs.Common.{◌≡◌, drop, []}
use Rattle.number_lists.specs.declared.scan.State.{State}
use Rattle.number_lists.specs.tools.Scanning.{Fits, name_form, name_value, scan}
use Rattle.number_lists.proofs.lists.read_names.Given as goal

-- what is left goes on as the whole began, and the number at hand is an `int`
abbrev pub invariant-loop-at : goal.invariant-loop-at
invariant-loop-at l =
    Fits name_form l.state
    × (scan name_form name_value 0 State.Between [] l.bytes ≡ scan name_form name_value l.at l.state l.names.items (drop l.at l.bytes))
