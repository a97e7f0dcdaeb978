use Rattle.std.proofs.Common.{rules, ◌≡◌, ◌+◌, ◌-◌, ◌<◌, ◌≤◌, ℕ, List, ◌++◌, length, refl, sym, ◌∙◌, subst, arith}
use Rattle.std.specs.Vec.{vec_len}
use Rattle.guest_log.specs.declared.stamped.Stamped.{Stamped}
use Rattle.guest_log.proofs.Merging.{IsMerging, starts, turn_left, turn_right, merged}
use Rattle.guest_log.proofs.log.merge_into.Goals.{else-left-gt0-via-then-left-gt0+else-index-theirs, else-left-gt0-via-else-left-gt0}
use Rattle.guest_log.proofs.log.merge_into.Goals as goal

pub loop-more-init : goal.loop-more-init
loop-more-init c =
    let o : List Stamped = c.args.log.now.items in
    let ot : List Stamped = c.args.others.now in
    let long : vec_len c.args.log.now ≡ length o = search rules in (
      subst (λ l. IsMerging o ot l c.len-left.result (length ot)) (sym c.append.ensures.items)
          (subst (λ n. IsMerging o ot (o ++ ot) n (length ot)) (sym (c.len-left.ensures ∙ long)) (starts o ot c.requires.rising.0 c.requires.rising.1)),
      c.append.ensures.capacity,
    )

pub loop-more-preserved-then-index-theirs : goal.loop-more-preserved-then-index-theirs
loop-more-preserved-then-index-theirs c = (
  turn_left c.args.log.now.items c.args.others.now c.loop-more.log.items c.loop-more.left c.loop-more.more c.index-then-index-theirs.result.now c.index.result.now _
      c.loop-more.invariant.0 c.if-left-gt0.true c.loop-more-test.true c.index-then-index-theirs.ensures c.index.ensures c.if-index-theirs.true,
  c.loop-more.invariant.1,
)

pub loop-more-preserved : goal.loop-more-preserved
loop-more-preserved c = (
  turn_right c.args.log.now.items c.args.others.now c.loop-more.log.items c.loop-more.left c.loop-more.more _ c.requires.apart c.loop-more.invariant.0 c.loop-more-test.true
      (elim c.else-left-gt0.branch [
        | else-left-gt0-via-then-left-gt0+else-index-theirs w ↦ λ _. (w.index.result.now, w.index.ensures, w.if-index-theirs.false)
        | else-left-gt0-via-else-left-gt0 w ↦ λ some. absurd (let b = w.if-left-gt0.false in omega arith)
      ]),
  c.loop-more.invariant.1,
)

pub returns-clause-items : goal.returns-clause-items
returns-clause-items c =
    let none_left : c.loop-more.more ≡ 0 = let b = c.loop-more-test.false in omega arith in
    merged c.args.log.now.items c.args.others.now c.loop-more.log.items c.loop-more.left
    (subst (λ n. IsMerging c.args.log.now.items c.args.others.now c.loop-more.log.items c.loop-more.left n) none_left c.loop-more.invariant.0)
