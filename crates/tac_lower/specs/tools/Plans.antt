-- What the code calls the answers of the elaboration. (A tool of proof: no public clause names it.)
use Rattle.std.specs.Prelude.{Bool, true, false}
use Rattle.c_typed.specs.Elaboration.{Truth, Operation, Skips}
use Rattle.tac_lower.specs.declared.plan.Plan.{Plan}
use Rattle.tac_lower.specs.declared.plan.Logic.{Logic}

abbrev pub operation_of : Plan → Operation
operation_of (Plan.Words op) = Operation.words op
operation_of (Plan.MoveUp words) = Operation.move_up words
operation_of (Plan.MoveRightUp words) = Operation.move_right_up words
operation_of (Plan.MoveDown words) = Operation.move_down words
operation_of Plan.SamePointers = Operation.same_pointers
operation_of Plan.OtherPointers = Operation.other_pointers

abbrev pub skips_of : Logic → Skips
skips_of Logic.Both = Skips.where_false
skips_of Logic.Either = Skips.where_true
skips_of Logic.Neither = Skips.never

-- whether it is that of an int
abbrev pub truth_by_int : Bool → Truth
truth_by_int true = Truth.not_zero
truth_by_int false = Truth.not_null
