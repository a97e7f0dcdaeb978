use Rattle.std.proofs.Common.{◌≡◌, ◌<◌, Some, length, ap, sym, ◌∙◌, subst, Contains, arith}
use Rattle.std.proofs.lemmas.Option.{slice_get-get_or}
use Rattle.std.specs.Prelude.{slice_get}
use Rattle.least_rows.proofs.Indexing.{readers_more}
use Rattle.least_rows.proofs.index.readers_of.Goals as goal

pub loop-i-preserved : goal.loop-i-preserved
loop-i-preserved c =
    let s = c.args.system.now in
    let items = c.as_slice-rule-items.result.now in
    let i = c.loop-i.i in
    let rule = c.rule-item.result in
    let at : slice_get s.rules i ≡ Some rule =
    ap (λ l. slice_get l i) (sym c.as_slice-rule-items.ensures) ∙ slice_get-get_or items i rule c.loop-i-test.true ∙ ap Some (sym c.rule-item.is) in
    let within : i < length s.rules = subst (λ l. i < length l) c.as_slice-rule-items.ensures c.loop-i-test.true in
    record {
      long = c.add_reader.ensures.long ∙ c.loop-i.invariant.long;
      within = c.add_reader.ensures.within (length s.rules) within c.loop-i.invariant.within;
      are = readers_more s i rule c.loop-i.readers.items c.add_reader.new.readers.items at c.in_ok-add_reader.ensures.kept
          (λ r one. c.in_ok-add_reader.ensures.added r (subst (λ l. Contains l r) (sym (c.deref.ensures.value ∙ c.in_ok-reads.ensures)) one)) c.loop-i.invariant.are;
    }

pub returns-clause-readers : goal.returns-clause-readers
returns-clause-readers c i rule r early at one =
    c.loop-i.invariant.are i rule r (omega (arith, early, c.loop-i-test.false, ap length c.as_slice-rule-items.ensures)) at one
