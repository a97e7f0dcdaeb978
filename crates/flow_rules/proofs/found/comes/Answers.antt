use Rattle.std.proofs.Common.{◌≡◌, ◌<◌, ◌≤◌, ◌∙◌, arith, ap, sym, true, false, length, slice_index_or, refl}
use Rattle.std.specs.Prelude.{nat_eq, ◌&&◌, ◌||◌}
use Rattle.std.proofs.lemmas.Option.{slice_get-get_or}
use Rattle.dfi_base.specs.Bits as bits
use Rattle.tac_ir.specs.declared.module.Fact.{Fact}
use Rattle.flow_rules.specs.Touches.{touches}
use Rattle.flow_rules.specs.ReachRows.{row_of}
use Rattle.flow_rules.proofs.Coming.{row_width, comes_at, none_comes_next, none_comes}
use Rattle.flow_rules.proofs.found.comes.Goals as goal

pub returns-then-comes_by : goal.returns-then-comes_by
returns-then-comes_by c =
    let d : Fact = record { def = 0; leaf = 0 } in
    let width : length c.row_at-row.result.now ≡ length c.args.r.now.facts.pairs = ap length c.row_at-row.ensures ∙ row_width c.args.c.now c.args.p.now.rows c.args.r.now c.requires.reach c.args.at c.requires.point in
    let low : c.loop-k.k < length c.args.r.now.facts.pairs = omega (arith, c.loop-k-test.true, c.len-k-end.ensures, width) in
    let fact : Fact = slice_index_or c.args.r.now.facts.pairs c.loop-k.k d in
    let listed = slice_get-get_or c.args.r.now.facts.pairs c.loop-k.k d low in
    let item = ap (λ xs. slice_index_or xs c.loop-k.k d) c.as_slice-facts.ensures in
    let near = c.is_near-near.ensures ∙ ap (λ xs. c.args.beside || bits.has xs c.loop-k.k) c.row_at-row.ensures in
    let test : (nat_eq fact.def c.args.def && (c.args.beside || bits.has (row_of c.args.c.now c.args.r.now c.args.at) c.loop-k.k) && touches c.args.c.now c.args.p.now.rows c.args.at fact.leaf) ≡ true =
    ap (λ (z : Fact). nat_eq z.def c.args.def && (c.args.beside || bits.has (row_of c.args.c.now c.args.r.now c.args.at) c.loop-k.k) && touches c.args.c.now c.args.p.now.rows c.args.at z.leaf) (sym item)
    ∙ ap (λ b. nat_eq (slice_index_or c.as_slice-facts.result.now c.loop-k.k d).def c.args.def && b && touches c.args.c.now c.args.p.now.rows c.args.at (slice_index_or c.as_slice-facts.result.now c.loop-k.k d).leaf) (sym near)
    ∙ sym c.comes_by.ensures ∙ c.if-comes_by.true in
    (λ h. comes_at c.args.c.now c.args.p.now.rows c.args.r.now c.args.at c.args.def c.args.beside c.loop-k.k fact listed test, λ h. refl)

pub loop-k-preserved : goal.loop-k-preserved
loop-k-preserved c =
    let d : Fact = record { def = 0; leaf = 0 } in
    let width : length c.row_at-row.result.now ≡ length c.args.r.now.facts.pairs = ap length c.row_at-row.ensures ∙ row_width c.args.c.now c.args.p.now.rows c.args.r.now c.requires.reach c.args.at c.requires.point in
    let low : c.loop-k.k < length c.args.r.now.facts.pairs = omega (arith, c.loop-k-test.true, c.len-k-end.ensures, width) in
    let fact : Fact = slice_index_or c.args.r.now.facts.pairs c.loop-k.k d in
    let listed = slice_get-get_or c.args.r.now.facts.pairs c.loop-k.k d low in
    let item = ap (λ xs. slice_index_or xs c.loop-k.k d) c.as_slice-facts.ensures in
    let near = c.is_near-near.ensures ∙ ap (λ xs. c.args.beside || bits.has xs c.loop-k.k) c.row_at-row.ensures in
    let test : (nat_eq fact.def c.args.def && (c.args.beside || bits.has (row_of c.args.c.now c.args.r.now c.args.at) c.loop-k.k) && touches c.args.c.now c.args.p.now.rows c.args.at fact.leaf) ≡ false =
    ap (λ (z : Fact). nat_eq z.def c.args.def && (c.args.beside || bits.has (row_of c.args.c.now c.args.r.now c.args.at) c.loop-k.k) && touches c.args.c.now c.args.p.now.rows c.args.at z.leaf) (sym item)
    ∙ ap (λ b. nat_eq (slice_index_or c.as_slice-facts.result.now c.loop-k.k d).def c.args.def && b && touches c.args.c.now c.args.p.now.rows c.args.at (slice_index_or c.as_slice-facts.result.now c.loop-k.k d).leaf) (sym near)
    ∙ sym c.comes_by.ensures ∙ c.if-comes_by.false in
    none_comes_next c.args.c.now c.args.p.now.rows c.args.r.now c.args.at c.args.def c.args.beside c.loop-k.k fact c.loop-k.invariant listed test

pub returns : goal.returns
returns c =
    let width : length c.row_at-row.result.now ≡ length c.args.r.now.facts.pairs = ap length c.row_at-row.ensures ∙ row_width c.args.c.now c.args.p.now.rows c.args.r.now c.requires.reach c.args.at c.requires.point in
    let high : length c.args.r.now.facts.pairs ≤ c.loop-k.k = omega (arith, c.loop-k-test.false, c.loop-k.auto.k-end, c.len-k-end.ensures, width) in
    (λ h. cc, λ h. absurd (none_comes c.args.c.now c.args.p.now.rows c.args.r.now c.args.at c.args.def c.args.beside c.loop-k.k high c.loop-k.invariant h))
