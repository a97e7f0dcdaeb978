use Rattle.std.proofs.Common.{◌≡◌, ℕ, ◌∷◌, true, length, ap, sym, ◌∙◌, subst, refl, IsTrue, Contains, ◌↔◌}
use Rattle.dfi_base.specs.Bits.{has}
use Rattle.least_rows.specs.declared.rules.Rule.{Rule}
use Rattle.least_rows.specs.Rules.{row_has, IsClosed, IsFittingRule}
use Rattle.least_rows.proofs.Gathering.{row_is}
use Rattle.least_rows.proofs.open.is_closed.Goals as goal

pub returns-in-Has : goal.returns-in-Has
returns-in-Has c =
    let s = c.args.system.now in
    let t = c.args.rows.now in
    let row = c.in-Has.row in
    let member = c.in-Has.member in
    let fits : IsFittingRule s.width (length s.masks) (length t) (Rule.Has row member) = subst (IsFittingRule s.width (length s.masks) (length t)) c.in-Has.is c.requires.rule in
    let here : c.has_member.result ≡ row_has t row member = c.has_member.ensures ∙ ap (λ r. has r member) (row_is t row c.index-rows-row.result fits.0 c.index-rows-row.is) in
    subst (λ rule. IsTrue c.has_member.result ↔ IsClosed s t rule) (sym c.in-Has.is) (
      λ is r k asks. subst (λ x. row_has t x k ≡ true) (sym asks.0) (subst (λ x. row_has t row x ≡ true) (sym asks.1) (sym here ∙ is)),
      λ closed. here ∙ closed row member (refl, refl),
    )

pub returns-in-Meet : goal.returns-in-Meet
returns-in-Meet c =
    let s = c.args.system.now in
    let t = c.args.rows.now in
    let to = c.in-Meet.to in
    let says = subst (λ l. IsTrue c.meets.result ↔ ((k : ℕ) → ((from : ℕ) → Contains (c.in-Meet.first ∷ l) from → IsTrue (row_has t from k)) → IsTrue (row_has t to k)))
    c.as_slice-in-Meet.ensures c.meets.ensures in
    subst (λ rule. IsTrue c.meets.result ↔ IsClosed s t rule) (sym c.in-Meet.is) (
      λ is r k asks. subst (λ x. row_has t x k ≡ true) (sym asks.0) (says.0 is k asks.1),
      λ closed. says.1 (λ k all. closed to k (refl, all)),
    )

pub returns-else-not-has_member : goal.returns-else-not-has_member
returns-else-not-has_member c =
    let s = c.args.system.now in
    let t = c.args.rows.now in
    let test = c.in-Guard.test in
    let member = c.in-Guard.member in
    let from = c.in-Guard.from in
    let to = c.in-Guard.to in
    let fits : IsFittingRule s.width (length s.masks) (length t) (Rule.Guard test member from to) =
    subst (IsFittingRule s.width (length s.masks) (length t)) c.in-Guard.is c.requires.rule in
    let tested : row_has t test member ≡ true =
    sym (ap (λ r. has r member) (row_is t test c.index-rows-test.result fits.0 c.index-rows-test.is)) ∙ sym c.has_member-in-Guard.ensures ∙ c.if-not-has_member.false in
    let one = row_is t from c.index-rows-from.result fits.2 c.index-rows-from.is in
    let two = row_is t to c.index-rows-to.result fits.3 c.index-rows-to.is in
    subst (λ rule. IsTrue c.is_within.result ↔ IsClosed s t rule) (sym c.in-Guard.is) (
      λ is r k asks.
          subst (λ x. row_has t x k ≡ true) (sym asks.0)
          (sym (ap (λ l. has l k) two) ∙ c.is_within.ensures.0 is k (ap (λ l. has l k) one ∙ asks.2)),
      λ closed. c.is_within.ensures.1 (λ k had. ap (λ l. has l k) two ∙ closed to k (refl, tested, sym (ap (λ l. has l k) one) ∙ had)),
    )
