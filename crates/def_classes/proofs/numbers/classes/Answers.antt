use Rattle.std.proofs.Common.{◌≡◌, ◌∙◌, ap, arith, length, map, rules, ℕ, suc, List}
use Rattle.std.specs.List.{range_with_len}
use Rattle.std.proofs.lemmas.List.{length-map}
use Rattle.std.proofs.lemmas.List.FromFn.{length-map-range_with_len}
use Rattle.def_classes.specs.tools.EachOnce.{each_once, place_of}
use Rattle.def_classes.specs.tools.Readers.{readers_of, same_list}
use Rattle.def_classes.proofs.Classing.{class-number}
use Rattle.def_classes.proofs.numbers.classes.Goals as goal

abbrev numbers_of : List (List ℕ) → List ℕ
numbers_of rows = map (λ row. suc (place_of same_list (each_once same_list rows) row)) rows

pub number_rows-requires : goal.number_rows-requires
number_rows-requires c =
    let sets = c.args.s.now.lists in
    let rows : c.deref.result.now ≡ map (readers_of sets) (range_with_len 1 c.args.defs) = search rules in
    omega (arith, ap length rows, length-map-range_with_len (readers_of sets) 1 c.args.defs, c.ranges.defs.fits)

pub returns-clause-count : goal.returns-clause-count
returns-clause-count c =
    let sets = c.args.s.now.lists in
    let rows = map (readers_of sets) (range_with_len 1 c.args.defs) in
    let is : c.deref.result.now ≡ rows = search rules in
    let numbers : c.in_ok-list.list ≡ numbers_of rows = c.in_ok-list.ensures ∙ ap numbers_of is in
    ap length numbers ∙ length-map rows (λ row. suc (place_of same_list (each_once same_list rows) row)) ∙ length-map-range_with_len (readers_of sets) 1 c.args.defs

pub returns-clause-each : goal.returns-clause-each
returns-clause-each c =
    let sets = c.args.s.now.lists in
    let rows = map (readers_of sets) (range_with_len 1 c.args.defs) in
    let is : c.deref.result.now ≡ rows = search rules in
    let numbers : c.in_ok-list.list ≡ numbers_of rows = c.in_ok-list.ensures ∙ ap numbers_of is in
    λ d. λ low. λ high. class-number sets c.args.defs d c.in_ok-list.list numbers low high
