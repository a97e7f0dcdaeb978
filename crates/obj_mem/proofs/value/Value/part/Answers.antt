use Rattle.std.proofs.Common.{rules, FitsSigned, pos, ◌+◌}
use Rattle.std.proofs.lemmas.Int.{ints}
use mir.Syntax.{w64}
use Rattle.obj_mem.proofs.Offsets.{part_at}
use Rattle.obj_mem.proofs.value.Value.part.Goals as goal

pub returns-in-Ptr : goal.returns-in-Ptr
returns-in-Ptr c =
    let fits_off : FitsSigned w64 c.in-Ptr.off = search rules in
    let fits_lo : FitsSigned w64 c.in-Ptr.lo = search rules in
    let fits_hi : FitsSigned w64 c.in-Ptr.hi = search rules in
    let fits_before : FitsSigned w64 (pos c.args.before) = search (rules, ints, c.requires) in
    let fits_more : FitsSigned w64 (pos (c.args.before + c.args.words)) = search (rules, ints, c.requires) in
    part_at c.args.self c.in-Ptr.obj c.in-Ptr.off c.in-Ptr.lo c.in-Ptr.hi c.from.result c.from-in-Ptr.result c.args.whole c.args.before c.args.words c.has_room.result c.in-Ptr.is
    fits_off fits_lo fits_hi fits_before fits_more c.has_room.ensures c.if-has_room.true c.requires c.from.ensures c.from-in-Ptr.ensures
