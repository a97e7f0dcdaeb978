use Rattle.std.proofs.Common.{◌∙◌, ap, arith, map, sym}
use Rattle.tac_lower.specs.tools.Keys.{shape_of}
use Rattle.tac_lower.specs.Shapes.{entered}
use Rattle.tac_lower.proofs.interned.KeyLaws.{entered_is}
use Rattle.tac_lower.proofs.interned.FewShapes.{number_fits}
use Rattle.tac_lower.proofs.shapes.Shapes.number.Goals as goal

pub overflow_cast-result : goal.overflow_cast-result
overflow_cast-result c =
    let keys = c.self.inside.keys.keys in
    let new = c.insert_full.new.self.keys in
    let s = shape_of c.args.key in
    let same = ap (λ shapes. entered shapes s) (sym c.self.view_is) in
    let few = number_fits c.args.self.now (map shape_of new) s c.in_ok-place.place
    (same ∙ entered_is keys new c.args.key c.in_ok-place.place c.in_ok-place.ensures.keys c.in_ok-place.ensures.index) c.requires in
    omega (arith, few)

pub returns : goal.returns
returns c =
    ap (λ shapes. entered shapes (shape_of c.args.key)) (sym c.self.view_is)
    ∙ entered_is c.self.inside.keys.keys c.insert_full.new.self.keys c.args.key c.in_ok-place.place c.in_ok-place.ensures.keys c.in_ok-place.ensures.index
