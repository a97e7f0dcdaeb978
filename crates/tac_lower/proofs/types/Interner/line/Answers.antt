use Rattle.std.proofs.Common.{◌∙◌, map, subst, sym}
use Rattle.tac_lower.specs.CodeOf.{finished, need_by}
use Rattle.tac_lower.specs.tools.Interning.{Interned, with_shape}
use Rattle.tac_lower.proofs.interned.DraftLaws.{line_of_some}
use Rattle.tac_lower.proofs.types.Interner.line.Goals as goal

pub returns-in_ok-shape-in-Some : goal.returns-in_ok-shape-in-Some
returns-in_ok-shape-in-Some c =
    let structs = c.args.structs.now in
    let line = c.args.draft.line in
    let i = c.args.draft.instr in
    let old = c.args.self.now in
    let new = c.number.new.self in
    let n = c.in_ok-shape-in-Some.shape in
    subst (λ j. Interned structs (map (λ i. i.object) (need_by line c.args.draft.object i)) (λ shape. finished shape c.args.draft) old new (record { line = line; instr = j })) (sym c.with_shape-instr.ensures)
    (subst (λ o. Interned structs (map (λ i. i.object) (need_by line o i)) (λ shape. finished shape (record { line = line; instr = i; object = o })) old new (record { line = line; instr = with_shape n i })) (sym c.in-Some.is)
    (line_of_some structs line i c.in-Some.object old new n (sym c.is_new.ensures ∙ c.if-not-is_new.true) c.in_ok-shape-in-Some.ensures))
