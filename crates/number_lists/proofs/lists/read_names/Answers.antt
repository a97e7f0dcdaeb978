use Rattle.std.proofs.Common.{sym, ap, subst, ◌∙◌, arith, Some, None, ◌+◌, ◌++◌, ◌∷◌, []}
use Rattle.number_lists.specs.declared.scan.State.{State}
use Rattle.number_lists.specs.Lists.{name_of}
use Rattle.number_lists.specs.tools.Scanning.{Fits, name_form, name_value}
use Rattle.number_lists.proofs.Forms.{names_make}
use Rattle.number_lists.proofs.Turns.{GoesOn, one_turn, refused_turn, last_turn}
use Rattle.number_lists.proofs.Few.{few_numbers}
use Rattle.number_lists.proofs.lists.read_names.Goals as goal
use Rattle.number_lists.proofs.lists.read_names.Goals.{in-Some-ended+in_ok-push, in_default-ended}

pub returns-in_default-clause-list : goal.returns-in_default-clause-list
returns-in_default-clause-list c =
    refused_turn name_form name_of name_value names_make c.args.bytes.now c.loop-at.at c.loop-at.state c.loop-at.names.items c.loop-at-test.true c.loop-at.invariant.1
    (sym c.step.ensures.steps ∙ c.in_default.is)

pub loop-at-preserved : goal.loop-at-preserved
loop-at-preserved c = elim c.match-ended.branch [
  | in-Some-ended+in_ok-push w ↦
      let e = w.in-Some-ended.ensures in
      let pushed = w.in_ok-push.ensures.items in (
        subst (Fits name_form) (sym w.state-is) c.in-Some.ensures.fits,
        subst (λ s. GoesOn name_form name_value c.args.bytes.now (c.loop-at.at + 1) s c.match-ended.names.items) (sym w.state-is)
            (one_turn name_form name_value c.args.bytes.now c.loop-at.at c.loop-at.state c.in-Some.next c.loop-at.names.items c.match-ended.names.items
            c.loop-at-test.true c.loop-at.invariant.1 c.in-Some.ensures.steps
            (ap (λ v. v.items) w.names-is ∙ pushed ∙ ap (λ o. elim o [ Some n ↦ c.loop-at.names.items ++ name_value n ∷ [] | None ↦ c.loop-at.names.items ]) e)),
      )
  | in_default-ended w ↦ (
    subst (Fits name_form) (sym w.state-is) c.in-Some.ensures.fits,
    subst (λ s. GoesOn name_form name_value c.args.bytes.now (c.loop-at.at + 1) s c.match-ended.names.items) (sym w.state-is)
        (one_turn name_form name_value c.args.bytes.now c.loop-at.at c.loop-at.state c.in-Some.next c.loop-at.names.items c.match-ended.names.items
        c.loop-at-test.true c.loop-at.invariant.1 c.in-Some.ensures.steps
        (ap (λ v. v.items) w.names-is ∙ ap (λ o. elim o [ Some n ↦ c.loop-at.names.items ++ name_value n ∷ [] | None ↦ c.loop-at.names.items ]) (sym w.in_default-ended.is ∙ c.ended.ensures))),
  )
]

pub returns-in-Between-clause-list : goal.returns-in-Between-clause-list
returns-in-Between-clause-list c =
    last_turn name_form name_of name_value names_make c.args.bytes.now c.loop-at.at State.Between c.loop-at.names.items (omega (arith, c.loop-at.auto.at-end, c.loop-at-test.false))
    (subst (λ s. GoesOn name_form name_value c.args.bytes.now c.loop-at.at s c.loop-at.names.items) c.in-Between.is c.loop-at.invariant.1)

pub returns-in-Signed-clause-list : goal.returns-in-Signed-clause-list
returns-in-Signed-clause-list c =
    last_turn name_form name_of name_value names_make c.args.bytes.now c.loop-at.at State.Signed c.loop-at.names.items (omega (arith, c.loop-at.auto.at-end, c.loop-at-test.false))
    (subst (λ s. GoesOn name_form name_value c.args.bytes.now c.loop-at.at s c.loop-at.names.items) c.in-Signed.is c.loop-at.invariant.1)

pub returns-in_ok-push-in-Within-clause-list : goal.returns-in_ok-push-in-Within-clause-list
returns-in_ok-push-in-Within-clause-list c =
    let whole = last_turn name_form name_of name_value names_make c.args.bytes.now c.loop-at.at (State.Within c.in-Within.number) c.loop-at.names.items
    (omega (arith, c.loop-at.auto.at-end, c.loop-at-test.false))
    (subst (λ s. GoesOn name_form name_value c.args.bytes.now c.loop-at.at s c.loop-at.names.items) c.in-Within.is c.loop-at.invariant.1) in
    whole ∙ ap Some (sym c.in_ok-push-in-Within.ensures.items)

pub returns-in-Between-clause-few : goal.returns-in-Between-clause-few
returns-in-Between-clause-few c = few_numbers name_of c.args.bytes.now c.loop-at.names.items (returns-in-Between-clause-list c)

pub returns-in_ok-push-in-Within-clause-few : goal.returns-in_ok-push-in-Within-clause-few
returns-in_ok-push-in-Within-clause-few c = few_numbers name_of c.args.bytes.now c.push-in-Within.new.self.items (returns-in_ok-push-in-Within-clause-list c)
