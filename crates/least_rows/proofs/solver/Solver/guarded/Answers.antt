use Rattle.std.proofs.Common.{◌≡◌, [], true, length, ap, sym, ◌∙◌, refl}
use Rattle.std.proofs.lemmas.List.Elements.{All-get_or}
use Rattle.dfi_base.specs.Bits.{has}
use Rattle.least_rows.specs.declared.rules.Rule.{Rule}
use Rattle.least_rows.specs.Rules.{row_of, row_has}
use Rattle.least_rows.proofs.Gathering.{row_is}
use Rattle.least_rows.proofs.Writing.{written_applied}
use Rattle.least_rows.proofs.solver.Solver.guarded.Goals as goal

pub returns-clause-applied : goal.returns-clause-applied
returns-clause-applied c s index one =
    let t = c.args.self.now.rows.items in
    let more = c.copy_from.new.self in
    let test : c.index.result.now ≡ row_of t c.args.test = row_is t c.args.test c.index.result.now c.requires.test c.index.ensures in
    let row : more ≡ row_of t c.args.from = c.copy_from.ensures ∙ row_is t c.args.from c.index-2.result.now c.requires.from c.index-2.ensures in
    let passes : row_has t c.args.test c.args.member ≡ true = ap (λ r. has r c.args.member) (sym test) ∙ sym c.has_member.ensures ∙ c.if-not-has_member.false in
    let wide : length (row_of t c.args.to) ≡ length more =
    All-get_or (λ r. length r ≡ length c.args.asked.now) t c.args.to [] c.requires.to c.requires.rows
    ∙ sym (ap length row ∙ All-get_or (λ r. length r ≡ length c.args.asked.now) t c.args.from [] c.requires.from c.requires.rows) in
    written_applied s t c.args.self.now.waiting c.args.to more c.write.new.self.rows.items c.write.new.self.waiting c.write.result c.requires.to wide
    (c.write.ensures.written s index) (Rule.Guard c.args.test c.args.member c.args.from c.args.to) one
    (λ k had. (refl, passes, sym (ap (λ r. has r k) row) ∙ had)) (λ r k asks. (asks.0, ap (λ l. has l k) row ∙ asks.2))
