use Rattle.std.proofs.Common.{◌≡◌, ◌<◌, ◌∙◌, ap, arith, length, refl, sym, subst, slice_index_or}
use Rattle.std.proofs.lemmas.Option.{slice_get-get_or}
use Rattle.dfi_base.specs.Bits.{has}
use Rattle.tac_ir.specs.declared.module.Fact.{Fact}
use Rattle.tac_ir.specs.Layout.{instr_at}
use Rattle.flow_rules.specs.tools.ReachRules.{FlowsTo, GoesOn}
use Rattle.flow_rules.proofs.ReachRules.{row_long, flow_next, goes_to}
use Rattle.flow_rules.proofs.flows.flows.Goals as goal

pub get-requires : goal.get-requires
get-requires c =
    omega (
      arith,
      c.loop-k-test.true,
      c.len-k-end.ensures,
      ap length c.row_at-from.ensures,
      ap length c.row_at-to.ensures,
      row_long c.args.c.now c.args.r.now c.requires.rows c.args.p c.requires.p,
      row_long c.args.c.now c.args.r.now c.requires.rows c.args.q c.requires.q,
    )

pub returns-then-not-fact_flows : goal.returns-then-not-fact_flows
returns-then-not-fact_flows c =
    let d : Fact = record { def = 0; leaf = 0 } in
    let facts = c.args.r.now.facts.pairs in
    let low : c.loop-k.k < length facts = omega (arith, c.loop-k-test.true, c.len-k-end.ensures, ap length c.row_at-to.ensures, row_long c.args.c.now c.args.r.now c.requires.rows c.args.q c.requires.q) in
    let item : slice_index_or c.as_slice-facts.result.now c.loop-k.k d ≡ slice_index_or facts c.loop-k.k d = ap (λ xs. slice_index_or xs c.loop-k.k d) c.as_slice-facts.ensures in
    let from = c.get.ensures ∙ ap (λ xs. has xs c.loop-k.k) c.row_at-from.ensures in
    let to = c.get-in-loop-k.ensures ∙ ap (λ xs. has xs c.loop-k.k) c.row_at-to.ensures in (
      λ h. cc,
      λ h. (let holds = c.fact_flows.ensures.1 (λ goes. to
          ∙ goes_to c.args.c.now c.args.r.now c.args.killed c.args.p c.args.q (length facts) c.loop-k.k (slice_index_or facts c.loop-k.k d) h low (slice_get-get_or facts c.loop-k.k d low)
          (subst (λ b. GoesOn (instr_at c.args.c.now c.args.p) c.args.killed (slice_index_or facts c.loop-k.k d) b) from
          (subst (λ i. GoesOn i c.args.killed (slice_index_or facts c.loop-k.k d) c.get.result) c.instr_at-instr.ensures (subst (λ x. GoesOn c.instr_at-instr.result.now c.args.killed x c.get.result) item goes)))) in
          sym c.if-not-fact_flows.true ∙ holds),
    )

pub loop-k-preserved : goal.loop-k-preserved
loop-k-preserved c =
    let d : Fact = record { def = 0; leaf = 0 } in
    let facts = c.args.r.now.facts.pairs in
    let low : c.loop-k.k < length facts = omega (arith, c.loop-k-test.true, c.len-k-end.ensures, ap length c.row_at-to.ensures, row_long c.args.c.now c.args.r.now c.requires.rows c.args.q c.requires.q) in
    let item : slice_index_or c.as_slice-facts.result.now c.loop-k.k d ≡ slice_index_or facts c.loop-k.k d = ap (λ xs. slice_index_or xs c.loop-k.k d) c.as_slice-facts.ensures in
    let from = c.get.ensures ∙ ap (λ xs. has xs c.loop-k.k) c.row_at-from.ensures in
    let to = c.get-in-loop-k.ensures ∙ ap (λ xs. has xs c.loop-k.k) c.row_at-to.ensures in
    flow_next c.args.c.now c.args.r.now c.args.killed c.args.p c.args.q c.loop-k.k (slice_index_or facts c.loop-k.k d) c.loop-k.invariant (slice_get-get_or facts c.loop-k.k d low)
    (λ goes. sym to ∙ c.fact_flows.ensures.0 c.if-not-fact_flows.false
    (subst (λ x. GoesOn c.instr_at-instr.result.now c.args.killed x c.get.result) (sym item) (subst (λ i. GoesOn i c.args.killed (slice_index_or facts c.loop-k.k d) c.get.result) (sym c.instr_at-instr.ensures)
    (subst (λ b. GoesOn (instr_at c.args.c.now c.args.p) c.args.killed (slice_index_or facts c.loop-k.k d) b) (sym from) goes))))

pub returns : goal.returns
returns c =
    let facts = c.args.r.now.facts.pairs in
    let end : c.loop-k.k ≡ length facts = omega (arith, c.loop-k-test.false, c.loop-k.auto.k-end, c.len-k-end.ensures, ap length c.row_at-to.ensures, row_long c.args.c.now c.args.r.now c.requires.rows c.args.q c.requires.q) in
    (λ h. subst (FlowsTo c.args.c.now c.args.r.now c.args.killed c.args.p c.args.q) end c.loop-k.invariant, λ h. refl)
