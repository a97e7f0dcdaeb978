use Rattle.std.proofs.Common.{◌≤◌, [], ap, ◌∙◌, arith}
use Rattle.tac_ir.specs.declared.module.Size.{Size}
use Rattle.tac_ir.specs.Layout.{heap_from, stack_from}
use Rattle.heap_desk.proofs.Heaps.{closed, heap_empty}
use Rattle.heap_desk.proofs.desk.Desk.new.Goals as goal

low : (size : Size) → heap_from ≤ stack_from size
low Size.Small = omega arith
low Size.Large = omega arith

pub invariant_of-result : goal.invariant_of-result
invariant_of-result c =
    let empty = heap_empty (stack_from c.args.size) c.in_ok-new.field-0 (low c.args.size) c.in_ok-new.ensures in
    (closed empty.1, omega arith, rw c.in_ok-from_slice.ensures.items c.requires)

pub returns : goal.returns
returns c =
    let empty = heap_empty (stack_from c.args.size) c.in_ok-new.field-0 (low c.args.size) c.in_ok-new.ensures in
    ap (λ bs. record { size = c.args.size; blocks = bs; rest = c.in_ok-from_slice.field-0.items }) empty.0
    ∙ ap (λ ns. record { size = c.args.size; blocks = []; rest = ns }) c.in_ok-from_slice.ensures.items
