use Rattle.std.proofs.Common.{◌≡◌, ◌∙◌, ap, arith, length}
use Rattle.std.proofs.lemmas.List.FromFn.{length-map-range_with_len}
use Rattle.first_module.specs.ClassesOf.{readers_of}
use Rattle.first_module.proofs.classes.make_classes.Goals as goal

pub number_rows-requires : goal.number_rows-requires
number_rows-requires c =
    let count : length c.in_ok-rows.rows.items ≡ c.args.definitions = ap length c.in_ok-rows.ensures ∙ length-map-range_with_len (readers_of c.args.sets.now) 1 c.args.definitions in
    omega (arith, ap length c.deref.ensures.value)
