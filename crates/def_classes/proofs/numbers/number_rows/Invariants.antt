use Rattle.std.proofs.Common.{◌≡◌, suc, map, take}
use Rattle.def_classes.specs.tools.Readers.{same_list}
use Rattle.def_classes.specs.tools.EachOnce.{each_once, place_of}
use Rattle.def_classes.proofs.numbers.number_rows.Given as goal

abbrev pub invariant-loop-row : goal.invariant-loop-row
invariant-loop-row l =
    let rows = take l.row-index l.rows in
    record {
      distinct : map (λ key. key.now) l.distinct.keys ≡ each_once same_list rows;
      numbers : l.numbers ≡ map (λ row. suc (place_of same_list (each_once same_list rows) row)) rows;
    }
