use Rattle.std.proofs.Common.{◌≡◌, [], length, ap, sym, ◌∙◌, subst}
use Rattle.std.proofs.lemmas.List.Elements.{All-get_or}
use Rattle.dfi_base.specs.Bits.{has}
use Rattle.dfi_base.proofs.RowLaws.{has_met, and_parts}
use Rattle.least_rows.specs.Rules.{row_of, Passes}
use Rattle.least_rows.proofs.Gathering.{row_is, both_true}
use Rattle.least_rows.proofs.open.flows.Goals as goal

pub returns-in-Some : goal.returns-in-Some
returns-in-Some c =
    let t = c.args.rows.now in
    let width = length (row_of t c.args.to) in
    let one = c.index-rows-from.result in
    let two = c.index-masks-mask.result in
    let inside = c.requires.mask c.in-Some.mask c.in-Some.is in
    let from : one ≡ row_of t c.args.from = row_is t c.args.from one c.requires.from c.index-rows-from.is in
    let to : c.index-rows-to.result ≡ row_of t c.args.to = row_is t c.args.to c.index-rows-to.result c.requires.to c.index-rows-to.is in
    let mask : two ≡ row_of c.args.masks.now c.in-Some.mask = row_is c.args.masks.now c.in-Some.mask two inside c.index-masks-mask.is in
    let long : length one ≡ length two =
    ap length from ∙ All-get_or (λ row. length row ≡ width) t c.args.from [] c.requires.from c.requires.rows
    ∙ sym (ap length mask ∙ All-get_or (λ row. length row ≡ width) c.args.masks.now c.in-Some.mask [] inside c.requires.masks) in (
      λ is k had passes.
          let passes' = subst (λ m. Passes c.args.masks.now m k) c.in-Some.is passes in
          sym (ap (λ r. has r k) to)
          ∙ c.is_within_masked.ensures.0 is k
          (has_met one two k long ∙ both_true (has one k) (has two k) (ap (λ r. has r k) from ∙ had) (ap (λ r. has r k) mask ∙ passes')),
      λ all. c.is_within_masked.ensures.1 (λ k both.
          let parts = and_parts (has one k) (has two k) (sym (has_met one two k long) ∙ both) in
          ap (λ r. has r k) to
          ∙ all k (sym (ap (λ r. has r k) from) ∙ parts.0)
          (subst (λ m. Passes c.args.masks.now m k) (sym c.in-Some.is) (sym (ap (λ r. has r k) mask) ∙ parts.1))),
    )
