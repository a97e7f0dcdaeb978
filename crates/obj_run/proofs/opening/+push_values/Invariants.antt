use Rattle.std.proofs.Common.{◌≡◌, ◌++◌, ◌-◌, drop, reverse}
use Rattle.std.specs.List.{flat_map}
use Rattle.obj_run.specs.Starts.{values_in, times}
use Rattle.obj_run.proofs.opening.+push_values.Given as goal

abbrev pub decreases-push_values : goal.decreases-push_values
decreases-push_values l = l.shape

abbrev pub invariant-loop : goal.invariant-loop
invariant-loop l = l.words.items ++ times (l.«end» - l.counter) (values_in l.int (reverse l.c.shapes) l.item) ≡ l.fn.words.items ++ times l.«end» (values_in l.int (reverse l.c.shapes) l.item)

abbrev pub invariant-loop-part : goal.invariant-loop-part
invariant-loop-part l =
    l.words.items ++ flat_map (values_in l.int (reverse l.c.shapes)) (drop l.part-index l.part-items) ≡ l.fn.words.items ++ flat_map (values_in l.int (reverse l.c.shapes)) l.part-items
