use Rattle.std.proofs.Common.{rules, ◌≡◌, ◌<◌, length, set, refl, sym, ap, ◌∙◌, arith}
use Rattle.std.specs.Vec.{vec_len}
use Rattle.dfi_base.specs.Bits.{has}
use Rattle.par_interfere.proofs.Adding.{added_here, added_pass}
use Rattle.par_interfere.proofs.Listed.{item}
use Rattle.par_interfere.proofs.calls.add_where.Goals as goal
use Rattle.par_interfere.proofs.calls.add_where.Goals.{then-get, else-get}

pub loop-at-init : goal.loop-at-init
loop-at-init c = record { shape = c.requires.shape; done = λ f g low. absurd (omega (arith, low)); rest = λ f g low. refl }

pub loop-at-preserved : goal.loop-at-preserved
loop-at-preserved c =
    let own : vec_len c.args.table.now ≡ length c.args.table.now.items = search rules in
    let len : c.len-at-end.result ≡ length c.args.table.now.items = c.len-at-end.ensures ∙ own in
    let now = c.loop-at.invariant.shape.height in
    let old = c.requires.shape.height in
    let low : c.loop-at.at < length c.loop-at.table.items = omega (arith, c.loop-at-test.true, len, now, old) in
    elim c.if-get.branch [
      | then-get w ↦
          added_here c.args.member c.args.more.now c.args.table.now.items c.loop-at.at c.loop-at.table.items c.if-get.table.items w.index_mut.result.now low
          w.index_mut.ensures.value
          (ap (λ r. has r c.args.member) (w.index_mut.ensures.value ∙ item c.loop-at.table.items c.loop-at.at w.index_mut.result.now c.index.result.now low ∙ sym c.index.ensures) ∙ sym c.get.ensures ∙ w.if-get.true)
          (ap (λ t. t.items) w.table-is ∙ ap (set c.loop-at.table.items c.loop-at.at) w.or.ensures.row) c.loop-at.invariant
      | else-get w ↦
          added_pass c.args.member c.args.more.now c.args.table.now.items c.loop-at.at c.loop-at.table.items c.if-get.table.items c.index.result.now low
          c.index.ensures (sym c.get.ensures ∙ w.if-get.false) (ap (λ t. t.items) w.table-is) c.loop-at.invariant
    ]
