use Rattle.std.proofs.Common.{◌+◌, [], ◌∷◌, ◌++◌, drop, ap, sym, ◌∙◌, append_assoc, append-nil}
use Rattle.dfi_base.specs.Bits.{members_from}
use Rattle.dfi_base.proofs.RowLaws.{members_end, members_next}
use Rattle.dfi_base.proofs.bits.Bits.members.Goals as goal

pub returns-in_default : goal.returns-in_default
returns-in_default c =
    let list = c.loop-from.list.items in
    sym (append-nil list) ∙ sym (ap (λ l. list ++ l) (members_end c.args.self.now c.loop-from.from (c.in_default.ensures))) ∙ c.loop-from.invariant

pub loop-from-preserved : goal.loop-from-preserved
loop-from-preserved c =
    let row = c.args.self.now in
    let list = c.loop-from.list.items in
    let from = c.loop-from.from in
    let m = c.in-Some.member in
    let found = c.in-Some.ensures in
    ap (λ l. l ++ members_from (m + 1) (drop (m + 1) row)) c.in_ok-push.ensures.items
    ∙ append_assoc list (m ∷ []) (members_from (m + 1) (drop (m + 1) row))
    ∙ sym (ap (λ l. list ++ l) (members_next row from m found.0 found.1 found.2))
    ∙ c.loop-from.invariant
