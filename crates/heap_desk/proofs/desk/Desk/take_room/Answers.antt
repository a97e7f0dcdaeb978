use Rattle.std.proofs.Common.{◌+◌, ◌-◌, ◌^◌, ◌<◌, arith, ap, refl, drop}
use Rattle.tac_ir.specs.declared.module.Size.{Size}
use Rattle.tac_ir.specs.Layout.{stack_from}
use Rattle.heap_desk.proofs.Heaps.{opened, closed, place_found, no_place, blocks_with, heap_with}
use Rattle.heap_desk.proofs.desk.Desk.take_room.Goals as goal

short : (size : Size) → stack_from size < 2 ^ 32
short Size.Small = omega arith
short Size.Large = omega arith

pub returns-in_default-clause-answer : goal.returns-in_default-clause-answer
returns-in_default-clause-answer c = rw (← c.self.view_is) (no_place (stack_from c.self.inside.size) c.args.words c.self.inside.places c.requires (opened c.self.invariant.0) c.in_default.ensures)

pub overflow_sub-at : goal.overflow_sub-at
overflow_sub-at c =
    let place = place_found (stack_from c.self.inside.size) c.args.words c.in-Some.at c.self.inside.places c.requires (opened c.self.invariant.0) c.in-Some.ensures in
    place.first.free.low

pub overflow_cast-words : goal.overflow_cast-words
overflow_cast-words c =
    let place = place_found (stack_from c.self.inside.size) c.args.words c.in-Some.at c.self.inside.places c.requires (opened c.self.invariant.0) c.in-Some.ensures in
    omega (arith, place.first.free.high, short c.self.inside.size)

pub overflow_add-at : goal.overflow_add-at
overflow_add-at c =
    let place = place_found (stack_from c.self.inside.size) c.args.words c.in-Some.at c.self.inside.places c.requires (opened c.self.invariant.0) c.in-Some.ensures in
    omega (arith, place.first.free.high, short c.self.inside.size)

pub put-requires-clause-within : goal.put-requires-clause-within
put-requires-clause-within c =
    let place = place_found (stack_from c.self.inside.size) c.args.words c.in-Some.at c.self.inside.places c.requires (opened c.self.invariant.0) c.in-Some.ensures in
    omega (arith, place.first.free.low, place.first.free.high, c.requires, (opened c.self.invariant.0).whole)

pub invariant_of-self : goal.invariant_of-self
invariant_of-self c =
    let limit = stack_from c.self.inside.size in
    let place = place_found limit c.args.words c.in-Some.at c.self.inside.places c.requires (opened c.self.invariant.0) c.in-Some.ensures in
    let heap = heap_with limit c.args.words c.in-Some.at (c.in-Some.at - 8192) (c.in-Some.at + c.args.words) c.self.inside.places c.put.new.self c.requires (opened c.self.invariant.0) place
    (omega (arith, place.first.free.low)) refl c.put.ensures in
    (closed heap, c.self.invariant.1, c.self.invariant.2)

pub returns-clause-answer : goal.returns-clause-answer
returns-clause-answer c =
    let place = place_found (stack_from c.self.inside.size) c.args.words c.in-Some.at c.self.inside.places c.requires (opened c.self.invariant.0) c.in-Some.ensures in
    rw (← c.self.view_is) place.first

pub returns-clause-after : goal.returns-clause-after
returns-clause-after c =
    let inside = c.self.inside in
    let limit = stack_from inside.size in
    let place = place_found limit c.args.words c.in-Some.at inside.places c.requires (opened c.self.invariant.0) c.in-Some.ensures in
    rw (← c.self.view_is)
    (ap (λ bs. record { size = inside.size; blocks = bs; rest = drop inside.read inside.input.items })
    (blocks_with limit c.args.words c.in-Some.at (c.in-Some.at - 8192) (c.in-Some.at + c.args.words) inside.places c.put.new.self c.requires (opened c.self.invariant.0) place
    (omega (arith, place.first.free.low)) refl c.put.ensures))

pub first_fit-requires-clause-indexed : goal.first_fit-requires-clause-indexed
first_fit-requires-clause-indexed c = (opened c.self.invariant.0).indexed

pub put-requires-clause-indexed : goal.put-requires-clause-indexed
put-requires-clause-indexed c = (opened c.self.invariant.0).indexed
