use Rattle.std.proofs.Common.{rules, ◌≡◌, None, replicate}
use Rattle.tac_lower.proofs.interned.InternedLists.{kept-none}
use Rattle.tac_lower.proofs.types.Interner.new.Goals as goal

pub returns-clause-kept : goal.returns-clause-kept
returns-clause-kept c =
    let made : c.in_ok-known.known.items ≡ replicate c.len.result None = search rules in
    kept-none c.args.structs.now c.in_ok-known.known.items c.in_ok-shapes.shapes c.len.result c.len.ensures made
