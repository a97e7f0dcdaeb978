use Rattle.std.proofs.Common.{Some, None, ap, drop}
use Rattle.tac_ir.specs.Layout.{stack_from}
use Rattle.heap_desk.specs.Desk.{Desk}
use Rattle.heap_desk.specs.tools.Spans.{blocks_of}
use Rattle.heap_desk.proofs.Heaps.{opened, closed, heap_less, blocks_less, begun, may_give, may_not_give, given_nothing}
use Rattle.heap_desk.proofs.desk.Desk.give.Goals as goal

pub invariant_of-self : goal.invariant_of-self
invariant_of-self c =
    let inside = c.self.inside in
    (closed (heap_less (stack_from inside.size) c.args.word c.in-Some.index inside.places c.put.new.self (opened c.self.invariant.0) c.in-Some.ensures c.put.ensures), c.self.invariant.1, c.self.invariant.2)

pub returns-in-Some-clause-answer : goal.returns-in-Some-clause-answer
returns-in-Some-clause-answer c =
    let inside = c.self.inside in
    let desk : Desk = record { size = inside.size; blocks = blocks_of inside.places.ends.items; rest = drop inside.read inside.input.items } in
    rw (← c.self.view_is) (may_give desk c.args.word (begun inside.places c.args.word (Some c.in-Some.index) c.in-Some.ensures))

pub returns-in-Some-clause-after : goal.returns-in-Some-clause-after
returns-in-Some-clause-after c =
    let inside = c.self.inside in
    rw (← c.self.view_is)
    (ap (λ bs. record { size = inside.size; blocks = bs; rest = drop inside.read inside.input.items }) (blocks_less inside.places c.put.new.self c.args.word c.in-Some.index c.in-Some.ensures c.put.ensures))

pub returns-in-None-clause-after : goal.returns-in-None-clause-after
returns-in-None-clause-after c =
    let inside = c.self.inside in
    let desk : Desk = record { size = inside.size; blocks = blocks_of inside.places.ends.items; rest = drop inside.read inside.input.items } in
    rw (← c.self.view_is) (given_nothing desk c.args.word (begun inside.places c.args.word None c.in-None.ensures))

pub returns-in-None-2-clause-answer : goal.returns-in-None-2-clause-answer
returns-in-None-2-clause-answer c =
    let inside = c.self.inside in
    let none = begun inside.places c.args.word None c.in-None-2.ensures in
    let desk : Desk = record { size = inside.size; blocks = blocks_of inside.places.ends.items; rest = drop inside.read inside.input.items } in
    rw (← c.self.view_is) (may_not_give desk c.args.word c.if-word-eq0.false none)

pub returns-in-None-2-clause-after : goal.returns-in-None-2-clause-after
returns-in-None-2-clause-after c =
    let inside = c.self.inside in
    let desk : Desk = record { size = inside.size; blocks = blocks_of inside.places.ends.items; rest = drop inside.read inside.input.items } in
    rw (← c.self.view_is) (given_nothing desk c.args.word (begun inside.places c.args.word None c.in-None-2.ensures))

pub put-requires-clause-indexed : goal.put-requires-clause-indexed
put-requires-clause-indexed c = (opened c.self.invariant.0).indexed
