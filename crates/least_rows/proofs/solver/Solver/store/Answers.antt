use Rattle.std.proofs.Common.{◌≡◌, ◌<◌, [], length, ap, sym, ◌∙◌, subst, All, arith}
use Rattle.std.proofs.lemmas.List.Elements.{All-get_or}
use Rattle.dfi_base.specs.Bits.{has}
use Rattle.least_rows.specs.Rules.{row_of}
use Rattle.least_rows.specs.tools.Growing.{IsIndexOf}
use Rattle.least_rows.proofs.Least.{alike_long, alike_even}
use Rattle.least_rows.proofs.Gathering.{row_is}
use Rattle.least_rows.proofs.Storing.{ended, turn}
use Rattle.least_rows.proofs.solver.Solver.store.Goals as goal

pub returns-in_default-clause-applied : goal.returns-in_default-clause-applied
returns-in_default-clause-applied c s index one =
    let t = c.args.self.now.rows.items in
    let u = c.loop-at.self.rows.items in
    let is = c.loop-at.invariant.storing s index one in
    let inside : c.args.targets < length u = subst (λ n. c.args.targets < n) (sym (alike_long u t c.loop-at.invariant.alike)) c.requires.targets in
    let row : c.index-in-loop-at.result.now ≡ row_of u c.args.targets =
    row_is u c.args.targets c.index-in-loop-at.result.now inside c.index-in-loop-at.ensures in
    ended s c.args.targets c.args.from c.loop-at.at t c.args.self.now.waiting u c.loop-at.self.waiting c.loop-at.changed is (λ r late within.
    sym (ap (λ l. has l r) row) ∙ c.in_default.ensures r late)

pub returns-then-target-count-clause-applied : goal.returns-then-target-count-clause-applied
returns-then-target-count-clause-applied c s index one =
    let t = c.args.self.now.rows.items in
    let u = c.loop-at.self.rows.items in
    let is = c.loop-at.invariant.storing s index one in
    let same : length u ≡ length t = alike_long u t c.loop-at.invariant.alike in
    let inside : c.args.targets < length u = subst (λ n. c.args.targets < n) (sym same) c.requires.targets in
    let row : c.index-in-loop-at.result.now ≡ row_of u c.args.targets =
    row_is u c.args.targets c.index-in-loop-at.result.now inside c.index-in-loop-at.ensures in
    ended s c.args.targets c.args.from c.loop-at.at t c.args.self.now.waiting u c.loop-at.self.waiting c.loop-at.changed is (λ r late within.
    sym (ap (λ l. has l r) row) ∙ c.in-Some.ensures.2 r late (omega (arith, within, c.loop-at.invariant.rows, c.if-target-count.true)))

pub write-changed-requires-clause-more : goal.write-changed-requires-clause-more
write-changed-requires-clause-more c =
    let t = c.args.self.now.rows.items in
    let u = c.loop-at.self.rows.items in
    let wide : length c.copy_from.new.self ≡ length c.args.asked.now =
    ap length c.loop-at.invariant.asked ∙ All-get_or (λ r. length r ≡ length c.args.asked.now) t c.args.from [] c.requires.from c.requires.rows in
    subst (λ n. All (λ r. length r ≡ n) u) (sym wide) (alike_even t u (length c.args.asked.now) c.loop-at.invariant.alike c.requires.rows)

pub overflow_add-at : goal.overflow_add-at
overflow_add-at c =
    let same = alike_long c.loop-at.self.rows.items c.args.self.now.rows.items c.loop-at.invariant.alike in
    omega (arith, c.if-target-count.false, c.requires.index.few, same, c.loop-at.invariant.rows)

pub loop-at-preserved : goal.loop-at-preserved
loop-at-preserved c =
    let t = c.args.self.now.rows.items in
    let u = c.loop-at.self.rows.items in
    let v = c.write-changed.new.self.rows.items in
    let more = c.copy_from.new.self in
    let target = c.in-Some.target in
    let alike = c.write-changed.ensures.alike in
    let same : length u ≡ length t = alike_long u t c.loop-at.invariant.alike in
    let inside : c.args.targets < length u = subst (λ n. c.args.targets < n) (sym same) c.requires.targets in
    let row : c.index-in-loop-at.result.now ≡ row_of u c.args.targets =
    row_is u c.args.targets c.index-in-loop-at.result.now inside c.index-in-loop-at.ensures in
    let within : target < length u = omega (arith, c.if-target-count.false, c.loop-at.invariant.rows) in
    let wide : length more ≡ length c.args.asked.now =
    ap length c.loop-at.invariant.asked ∙ All-get_or (λ r. length r ≡ length c.args.asked.now) t c.args.from [] c.requires.from c.requires.rows in
    let even : All (λ r. length r ≡ length c.args.asked.now) u = alike_even t u (length c.args.asked.now) c.loop-at.invariant.alike c.requires.rows in
    let long : length (row_of u target) ≡ length more = All-get_or (λ r. length r ≡ length c.args.asked.now) u target [] within even ∙ sym wide in
    record {
      index = c.write-changed.ensures.index ∙ c.loop-at.invariant.index;
      rows = alike_long v u alike ∙ c.loop-at.invariant.rows;
      alike = alike ∙ c.loop-at.invariant.alike;
      wait = c.write-changed.ensures.waiting ∙ c.loop-at.invariant.wait;
      asked = c.loop-at.invariant.asked;
      storing = λ s index one.
          turn s c.args.targets c.args.from c.loop-at.at target t u v c.args.self.now.waiting c.loop-at.self.waiting c.write-changed.new.self.waiting more
          c.loop-at.changed c.write-changed.result one c.loop-at.invariant.asked within
          (sym (ap (λ l. has l target) row) ∙ c.in-Some.ensures.1) long (λ k low less. sym (ap (λ l. has l k) row) ∙ c.in-Some.ensures.2 k low less)
          (c.loop-at.invariant.storing s index one)
          (c.write-changed.ensures.written s
          (subst (λ i. IsIndexOf s i.readers.items i.loads.items) (sym c.loop-at.invariant.index) index));
    }

pub returns-clause-applied : goal.returns-clause-applied
returns-clause-applied c s index one =
    let t = c.args.self.now.rows.items in
    let u = c.loop-at.self.rows.items in
    ended s c.args.targets c.args.from c.loop-at.at t c.args.self.now.waiting u c.loop-at.self.waiting c.loop-at.changed
    (c.loop-at.invariant.storing s index one) (λ r late within. absurd (omega (arith, late, within, c.loop-at.invariant.rows, c.loop-at-test.false)))
