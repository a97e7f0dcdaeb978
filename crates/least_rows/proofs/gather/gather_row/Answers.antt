use Rattle.std.proofs.Common.{◌≡◌, [], length, ap, sym, ◌∙◌, subst}
use Rattle.std.proofs.lemmas.List.Elements.{All-get_or}
use Rattle.dfi_base.specs.Bits.{has}
use Rattle.dfi_base.proofs.RowLaws.{has_met, length_met, and_parts}
use Rattle.least_rows.specs.Rules.{row_of, Passes}
use Rattle.least_rows.proofs.Gathering.{row_is, both_true}
use Rattle.least_rows.proofs.gather.gather_row.Goals as goal

source : (c : goal.After-and) → c.copy_from.new.self ≡ row_of c.args.rows.now c.args.from
source c = c.copy_from.ensures ∙ row_is c.args.rows.now c.args.from c.index-rows-from.result c.requires.from c.index-rows-from.is

mask : (c : goal.After-and) → c.index-masks-mask.result ≡ row_of c.args.masks.now c.in-Some.mask
mask c = row_is c.args.masks.now c.in-Some.mask c.index-masks-mask.result (c.requires.mask c.in-Some.mask c.in-Some.is) c.index-masks-mask.is

source_long : (c : goal.After-and) → length c.copy_from.new.self ≡ length c.args.asked.now
source_long c =
    ap length (source c) ∙ All-get_or (λ row. length row ≡ length c.args.asked.now) c.args.rows.now c.args.from [] c.requires.from c.requires.rows

long : (c : goal.After-and) → length c.copy_from.new.self ≡ length c.index-masks-mask.result
long c =
    source_long c
    ∙ sym (ap length (mask c) ∙ All-get_or (λ row. length row ≡ length c.args.asked.now) c.args.masks.now c.in-Some.mask [] (c.requires.mask c.in-Some.mask c.in-Some.is) c.requires.masks)

pub returns-in-Some-clause-long : goal.returns-in-Some-clause-long
returns-in-Some-clause-long c = ap length c.and.ensures ∙ length_met c.copy_from.new.self c.index-masks-mask.result (long c) ∙ source_long c

pub returns-in-Some-clause-asked : goal.returns-in-Some-clause-asked
returns-in-Some-clause-asked c k =
    let made = ap (λ r. has r k) c.and.ensures ∙ has_met c.copy_from.new.self c.index-masks-mask.result k (long c) in
    let one = ap (λ r. has r k) (source c) in
    let two = ap (λ r. has r k) (mask c) in (
      λ had.
          let both = and_parts (has c.copy_from.new.self k) (has c.index-masks-mask.result k) (sym made ∙ had) in
          (sym one ∙ both.0, subst (λ m. Passes c.args.masks.now m k) (sym c.in-Some.is) (sym two ∙ both.1)),
      λ asks.
          let passes = subst (λ m. Passes c.args.masks.now m k) c.in-Some.is asks.1 in
          made ∙ both_true (has c.copy_from.new.self k) (has c.index-masks-mask.result k) (one ∙ asks.0) (two ∙ passes),
    )
