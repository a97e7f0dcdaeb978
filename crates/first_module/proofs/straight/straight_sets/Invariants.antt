use Rattle.std.proofs.Common.{◌≡◌, [], ◌++◌, drop, reverse, take}
use Rattle.first_module.specs.StraightLine.{is_straight_behind}
use Rattle.first_module.specs.SetsOf.{sets_behind}
use Rattle.first_module.specs.tools.Trail.{HasTrail}
use Rattle.first_module.proofs.straight.straight_sets.Given as goal

abbrev pub invariant-loop-lined : goal.invariant-loop-lined
invariant-loop-lined l =
    let earlier = reverse (take l.lined-index l.code) in
    let rest = drop l.lined-index l.code in
    record {
      trail : HasTrail l.globals earlier l.behind.items l.definitions.items;
      straight : is_straight_behind earlier rest ≡ is_straight_behind [] l.code;
      told : l.sets ++ sets_behind earlier rest ≡ sets_behind [] l.code;
    }
