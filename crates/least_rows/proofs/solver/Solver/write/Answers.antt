use Rattle.std.proofs.lemmas.List.Elements.{All-get_or}
use Rattle.dfi_base.proofs.RowLaws.{length_joined}
use Rattle.least_rows.proofs.Writing.{alike_set}
use Rattle.least_rows.proofs.Gathering.{write_done, row_is, list_is}
use Rattle.std.proofs.Common.{◌≡◌, ◌<◌, [], length, ap, sym, ◌∙◌, subst, IsTrue, Contains}
use Rattle.least_rows.specs.Rules.{row_of, row_has}
use Rattle.dfi_base.specs.Bits.{joined}
use Rattle.least_rows.proofs.solver.Solver.write.Goals as goal

pub returns-then-changed-clause-alike : goal.returns-then-changed-clause-alike
returns-then-changed-clause-alike c =
    let t = c.args.self.now.rows.items in
    let to = c.args.to in
    let row : c.index_mut.result.now ≡ row_of t to = row_is t to c.index_mut.result.now c.requires.to c.index_mut.ensures.value in
    let long : length (row_of t to) ≡ length c.args.more.now = All-get_or (λ r. length r ≡ length c.args.more.now) t to [] c.requires.to c.requires.more in
    alike_set t to c.or-changed.new.self
    (ap length (c.or-changed.ensures.row ∙ ap (λ r. joined r c.args.more.now) row) ∙ length_joined (row_of t to) c.args.more.now long)

pub returns-then-changed-clause-written : goal.returns-then-changed-clause-written
returns-then-changed-clause-written c s index =
    let self = c.args.self.now in
    let t = self.rows.items in
    let to = c.args.to in
    let row : c.index_mut.result.now ≡ row_of t to = row_is t to c.index_mut.result.now c.requires.to c.index_mut.ensures.value in
    let lists = self.index.readers.items in
    let inside : to < length lists = subst (λ n. to < n) (sym c.requires.index.long) c.requires.to in
    write_done s t self.waiting c.wake_loads.new.waiting to c.args.more.now c.or-changed.new.self lists self.index.loads.items c.or-changed.result index
    c.requires.to (c.or-changed.ensures.row ∙ ap (λ r. joined r c.args.more.now) row) (λ same. c.or-changed.ensures.changed.1 (same ∙ sym row)) c.if-changed.true
    (c.wake_loads.ensures.long ∙ c.wake_readers.ensures.long) (λ i is. c.wake_loads.ensures.kept i (c.wake_readers.ensures.kept i is))
    (λ i among.
    c.wake_loads.ensures.kept i
    (c.wake_readers.ensures.woken i (subst (λ l. Contains l i) (sym (c.as_slice.ensures ∙ list_is lists to c.index.result.now inside c.index.ensures)) among)))
    (λ i sources among had.
    c.wake_loads.ensures.woken i sources (subst (λ l. Contains l (record { rule = i; sources = sources })) (sym c.deref.ensures.value) among)
    (subst (λ u. IsTrue (row_has u sources to)) (sym c.deref-then-changed.ensures.value) had))
