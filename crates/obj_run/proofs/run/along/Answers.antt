use Rattle.std.proofs.Common.{rules, ◌≡◌, ◌≤◌, Bool, true, false, map, take, drop, get_or, length, subst, sym, ◌+◌}
use Rattle.std.proofs.lemmas.List.{take_all}
use Rattle.dfi_base.specs.declared.numbers.Name.{Name}
use Rattle.tac_thread.specs.Threads.{name_number}
use Rattle.obj_run.specs.tools.SoFar.{IsSoFar, Steps}
use Rattle.obj_run.proofs.Finishing.{refused_at, one_more, split_at, place_of_name}
use Rattle.obj_run.proofs.run.along.Goals as goal

pub returns-then-not-branch-clause-refused : goal.returns-then-not-branch-clause-refused
returns-then-not-branch-clause-refused c =
    let code = c.args.c.now in
    let input = c.args.input.now in
    let names = c.args.names.now in
    let k = c.loop-k.k in
    let nobody : Name = record { 0 = 0 } in
    let n = get_or names k nobody in
    let went : c.in_ok-step.field-0 ≡ false = search rules in
    let steps = (c.in_ok-step.ensures).steps input (map name_number (take k names)) c.loop-k.invariant.0 in
    refused_at code input (map name_number names) (map name_number (take k names)) (map name_number (drop (k + 1) names)) n.0 (k + 1) c.loop-k.run c.loop-k.invariant.0
    (subst (λ (b : Bool). Steps code input (map name_number (take k names)) n.0 b c.loop-k.run c.step.new.self) went steps) (split_at names k nobody c.loop-k-test.true) (place_of_name names k c.loop-k-test.true)

pub loop-k-preserved : goal.loop-k-preserved
loop-k-preserved c =
    let code = c.args.c.now in
    let input = c.args.input.now in
    let names = c.args.names.now in
    let k = c.loop-k.k in
    let nobody : Name = record { 0 = 0 } in
    let n = get_or names k nobody in
    let went : c.in_ok-step.field-0 ≡ true = search rules in
    let steps = (c.in_ok-step.ensures).steps input (map name_number (take k names)) c.loop-k.invariant.0 in (
      subst (λ ns. IsSoFar code input ns c.step.new.self) (sym (one_more names k nobody c.loop-k-test.true))
          (subst (λ (b : Bool). Steps code input (map name_number (take k names)) n.0 b c.loop-k.run c.step.new.self) went steps),
      (c.in_ok-step.ensures).tree,
    )

pub returns-clause-run : goal.returns-clause-run
returns-clause-run c =
    let names = c.args.names.now in
    let past : length names ≤ c.loop-k.k = search rules in
    c.in_ok-finish.ensures c.args.c.now c.args.input.now (map name_number names)
    (subst (λ xs. IsSoFar c.args.c.now c.args.input.now (map name_number xs) c.loop-k.run) (take_all c.loop-k.k names past) c.loop-k.invariant.0)
