use Rattle.std.proofs.Common.{◌≡◌, ◌<◌, ◌∙◌, ap, arith, length, refl, sym, subst, slice_index_or}
use Rattle.std.proofs.lemmas.Option.{slice_get-get_or}
use Rattle.dfi_base.specs.Bits.{has}
use Rattle.tac_ir.specs.declared.module.Fact.{Fact}
use Rattle.flow_rules.specs.tools.ReachRules.{StartsHold}
use Rattle.flow_rules.proofs.ReachRules.{row_long, start_next}
use Rattle.flow_rules.proofs.flows.starts_hold.Goals as goal

pub returns-then-not-start_reaches : goal.returns-then-not-start_reaches
returns-then-not-start_reaches c =
    let d : Fact = record { def = 0; leaf = 0 } in
    let facts = c.args.r.now.facts.pairs in
    let low : c.loop-k.k < length facts = omega (arith, c.loop-k-test.true, c.len-k-end.ensures, ap length c.row_at-row.ensures, row_long c.args.c.now c.args.r.now c.requires.rows c.args.p c.requires.point) in
    let item : slice_index_or c.as_slice-facts.result.now c.loop-k.k d ≡ slice_index_or facts c.loop-k.k d = ap (λ xs. slice_index_or xs c.loop-k.k d) c.as_slice-facts.ensures in
    let to = c.get.ensures ∙ ap (λ xs. has xs c.loop-k.k) c.row_at-row.ensures in (
      λ h. cc,
      λ h. (let holds = c.start_reaches.ensures.1 (λ few. to ∙ h.each c.loop-k.k (slice_index_or facts c.loop-k.k d) low (slice_get-get_or facts c.loop-k.k d low) (omega (arith, few, ap (λ (x : Fact). x.def) item))) in
          sym c.if-not-start_reaches.true ∙ holds),
    )

pub loop-k-preserved : goal.loop-k-preserved
loop-k-preserved c =
    let d : Fact = record { def = 0; leaf = 0 } in
    let facts = c.args.r.now.facts.pairs in
    let low : c.loop-k.k < length facts = omega (arith, c.loop-k-test.true, c.len-k-end.ensures, ap length c.row_at-row.ensures, row_long c.args.c.now c.args.r.now c.requires.rows c.args.p c.requires.point) in
    let item : slice_index_or c.as_slice-facts.result.now c.loop-k.k d ≡ slice_index_or facts c.loop-k.k d = ap (λ xs. slice_index_or xs c.loop-k.k d) c.as_slice-facts.ensures in
    let to = c.get.ensures ∙ ap (λ xs. has xs c.loop-k.k) c.row_at-row.ensures in
    start_next c.args.c.now c.args.r.now c.args.p c.loop-k.k (slice_index_or facts c.loop-k.k d) c.loop-k.invariant (slice_get-get_or facts c.loop-k.k d low)
    (λ few. sym to ∙ c.start_reaches.ensures.0 c.if-not-start_reaches.false (omega (arith, few, ap (λ (x : Fact). x.def) item)))

pub returns : goal.returns
returns c =
    let facts = c.args.r.now.facts.pairs in
    let end : c.loop-k.k ≡ length facts = omega (arith, c.loop-k-test.false, c.loop-k.auto.k-end, c.len-k-end.ensures, ap length c.row_at-row.ensures, row_long c.args.c.now c.args.r.now c.requires.rows c.args.p c.requires.point) in
    (λ h. subst (StartsHold c.args.c.now c.args.r.now c.args.p) end c.loop-k.invariant, λ h. refl)
