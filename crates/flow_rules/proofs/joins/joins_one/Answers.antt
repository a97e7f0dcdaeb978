use Rattle.std.proofs.Common.{◌≡◌, ◌<◌, ◌∙◌, ap, arith, length, refl, sym, subst, slice_index_or, Some}
use Rattle.std.proofs.lemmas.Option.{slice_get-get_or}
use Rattle.dfi_base.specs.Bits.{has}
use Rattle.tac_ir.specs.declared.module.Fact.{Fact}
use Rattle.flow_rules.specs.PointNumber.{point_at}
use Rattle.flow_rules.specs.tools.Branches.{IsMadeWithin}
use Rattle.flow_rules.specs.tools.ReachRules.{JoinsOne}
use Rattle.flow_rules.proofs.ReachRules.{row_long}
use Rattle.flow_rules.proofs.Branches.{one_next}
use Rattle.flow_rules.proofs.joins.joins_one.Goals as goal

pub get-requires : goal.get-requires
get-requires c =
    omega (
      arith,
      c.loop-k-test.true,
      c.len-k-end.ensures,
      ap length c.row_at-from.ensures,
      ap length c.row_at-to.ensures,
      row_long c.args.c.now c.args.r.now c.requires.rows (point_at c.args.p.fun c.args.last) c.requires.last,
      row_long c.args.c.now c.args.r.now c.requires.rows (point_at c.args.p.fun c.args.join) c.requires.join,
    )

pub returns-then-not-holds_where : goal.returns-then-not-holds_where
returns-then-not-holds_where c =
    let d : Fact = record { def = 0; leaf = 0 } in
    let facts = c.args.r.now.facts.pairs in
    let low : c.loop-k.k < length facts = omega (arith, c.loop-k-test.true, c.len-k-end.ensures, ap length c.row_at-to.ensures, row_long c.args.c.now c.args.r.now c.requires.rows (point_at c.args.p.fun c.args.join) c.requires.join) in
    let item : slice_index_or c.as_slice-facts.result.now c.loop-k.k d ≡ slice_index_or facts c.loop-k.k d = ap (λ xs. slice_index_or xs c.loop-k.k d) c.as_slice-facts.ensures in
    let from = c.get.ensures ∙ ap (λ xs. has xs c.loop-k.k) c.row_at-from.ensures in
    let to = c.get-in-loop-k.ensures ∙ ap (λ xs. has xs c.loop-k.k) c.row_at-to.ensures in (
      λ h. cc,
      λ h. (let holds = c.holds_where.ensures.1 (λ comes. (let w = c.comes_from-comes.ensures.0 comes in
          to ∙ h.each c.loop-k.k (slice_index_or facts c.loop-k.k d) w.1.at low (slice_get-get_or facts c.loop-k.k d low) w.1.body (w.1.def ∙ ap (λ (x : Fact). Some x.def) item) (sym from ∙ w.0))) in
          sym c.if-not-holds_where.true ∙ holds),
    )

pub loop-k-preserved : goal.loop-k-preserved
loop-k-preserved c =
    let d : Fact = record { def = 0; leaf = 0 } in
    let facts = c.args.r.now.facts.pairs in
    let low : c.loop-k.k < length facts = omega (arith, c.loop-k-test.true, c.len-k-end.ensures, ap length c.row_at-to.ensures, row_long c.args.c.now c.args.r.now c.requires.rows (point_at c.args.p.fun c.args.join) c.requires.join) in
    let item : slice_index_or c.as_slice-facts.result.now c.loop-k.k d ≡ slice_index_or facts c.loop-k.k d = ap (λ xs. slice_index_or xs c.loop-k.k d) c.as_slice-facts.ensures in
    let from = c.get.ensures ∙ ap (λ xs. has xs c.loop-k.k) c.row_at-from.ensures in
    let to = c.get-in-loop-k.ensures ∙ ap (λ xs. has xs c.loop-k.k) c.row_at-to.ensures in
    one_next c.args.c.now c.args.r.now c.args.p.fun c.args.join (record { fork = c.args.p.at; entry = c.args.entry; last = c.args.last }) c.loop-k.k (slice_index_or facts c.loop-k.k d) c.loop-k.invariant (slice_get-get_or facts c.loop-k.k d low)
    (λ w. sym to ∙ c.holds_where.ensures.0 c.if-not-holds_where.false
    (c.comes_from-comes.ensures.1 (from ∙ w.0, subst (λ n. IsMadeWithin c.args.c.now c.args.p.fun (record { fork = c.args.p.at; entry = c.args.entry; last = c.args.last }) n) (ap (λ (x : Fact). x.def) (sym item)) w.1)))

pub returns : goal.returns
returns c =
    let facts = c.args.r.now.facts.pairs in
    let end : c.loop-k.k ≡ length facts = omega (arith, c.loop-k-test.false, c.loop-k.auto.k-end, c.len-k-end.ensures, ap length c.row_at-to.ensures, row_long c.args.c.now c.args.r.now c.requires.rows (point_at c.args.p.fun c.args.join) c.requires.join) in
    (λ h. subst (JoinsOne c.args.c.now c.args.r.now c.args.p.fun c.args.join (record { fork = c.args.p.at; entry = c.args.entry; last = c.args.last })) end c.loop-k.invariant, λ h. refl)
