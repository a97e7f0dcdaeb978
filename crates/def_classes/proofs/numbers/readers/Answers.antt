use Rattle.std.proofs.Common.{◌≡◌, ◌∙◌, ap, arith, get_or, subst, sym, take}
use Rattle.std.proofs.lemmas.List.{take_all}
use Rattle.def_classes.specs.tools.Readers.{HasReaders}
use Rattle.def_classes.proofs.Reading.{has_readers-more, new_read, rows-has_readers}
use Rattle.def_classes.proofs.numbers.readers.Goals as goal

pub add_set-requires-clause-new : goal.add_set-requires-clause-new
add_set-requires-clause-new c = new_read c.args.definitions c.loop-set.read c.loop-set.set-index c.args.sets.now c.loop-set.rows.items (omega (arith, c.loop-set-test.true)) c.loop-set.invariant.read c.loop-set.invariant.rows

pub loop-set-preserved : goal.loop-set-preserved
loop-set-preserved c = record {
  read = omega (arith, c.loop-set.invariant.read);
  rows = has_readers-more c.args.definitions c.loop-set.read c.loop-set.set-index c.args.sets.now c.as_slice.result.now c.loop-set.rows.items c.add_set.new.rows.items
      c.loop-set-test.true (c.as_slice.ensures ∙ c.set-item.is ∙ ap (get_or c.args.sets.now c.loop-set.set-index) (sym c.as_slice.ensures)) c.loop-set.invariant.read c.loop-set.invariant.rows c.in_ok-add_set.ensures.count c.in_ok-add_set.ensures.added;
}

pub returns : goal.returns
returns c =
    let sets = c.args.sets.now in
    let whole : take c.loop-set.set-index sets ≡ sets = take_all c.loop-set.set-index sets (omega arith) in
    rows-has_readers c.args.definitions sets c.loop-set.rows.items (subst (λ xs. HasReaders c.args.definitions xs c.loop-set.rows.items) whole c.loop-set.invariant.rows)
