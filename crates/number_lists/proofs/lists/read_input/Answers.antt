use Rattle.std.proofs.Common.{sym, ap, subst, ◌∙◌, arith, Some, None, ◌+◌, ◌++◌, ◌∷◌, []}
use Rattle.std.specs.Prelude.{FitsSigned}
use Rattle.std.proofs.Common.{w32}
use mir.Facts.{to_z-of_z}
use Rattle.number_lists.specs.declared.scan.State.{State}
use Rattle.number_lists.specs.Lists.{int_of}
use Rattle.number_lists.specs.tools.Scanning.{Fits, int_form, int_value}
use Rattle.number_lists.proofs.Forms.{ints_make, int_fits, ended_fits}
use Rattle.number_lists.proofs.Turns.{GoesOn, one_turn, refused_turn, last_turn}
use Rattle.number_lists.proofs.Few.{few_numbers}
use Rattle.number_lists.proofs.lists.read_input.Goals as goal
use Rattle.number_lists.proofs.lists.read_input.Goals.{in-Some-ended+in_ok-push, in_default-ended}

pub returns-in_default-clause-list : goal.returns-in_default-clause-list
returns-in_default-clause-list c =
    refused_turn int_form int_of int_value ints_make c.args.bytes.now c.loop-at.at c.loop-at.state c.loop-at.numbers.items c.loop-at-test.true c.loop-at.invariant.1
    (sym c.step.ensures.steps ∙ c.in_default.is)

pub int_of-requires : goal.int_of-requires
int_of-requires c = ended_fits int_form c.loop-at.state c.in-Some.next c.in-Some-ended.number c.loop-at.invariant.0 c.in-Some-ended.ensures

pub int_of-requires-in-Within : goal.int_of-requires-in-Within
int_of-requires-in-Within c = subst (Fits int_form) c.in-Within.is c.loop-at.invariant.0

pub loop-at-preserved : goal.loop-at-preserved
loop-at-preserved c = elim c.match-ended.branch [
  | in-Some-ended+in_ok-push w ↦
      let e = w.in-Some-ended.ensures in
      let fits = int_fits w.in-Some-ended.number (ended_fits int_form c.loop-at.state c.in-Some.next w.in-Some-ended.number c.loop-at.invariant.0 e) in
      let pushed = w.in_ok-push.ensures.items ∙ ap (λ k. c.loop-at.numbers.items ++ k ∷ []) (to_z-of_z (subst (FitsSigned w32) (sym w.int_of.ensures) fits) ∙ w.int_of.ensures) in (
        subst (Fits int_form) (sym w.state-is) c.in-Some.ensures.fits,
        subst (λ s. GoesOn int_form int_value c.args.bytes.now (c.loop-at.at + 1) s c.match-ended.numbers.items) (sym w.state-is)
            (one_turn int_form int_value c.args.bytes.now c.loop-at.at c.loop-at.state c.in-Some.next c.loop-at.numbers.items c.match-ended.numbers.items
            c.loop-at-test.true c.loop-at.invariant.1 c.in-Some.ensures.steps
            (ap (λ v. v.items) w.numbers-is ∙ pushed ∙ ap (λ o. elim o [ Some n ↦ c.loop-at.numbers.items ++ int_value n ∷ [] | None ↦ c.loop-at.numbers.items ]) e)),
      )
  | in_default-ended w ↦ (
    subst (Fits int_form) (sym w.state-is) c.in-Some.ensures.fits,
    subst (λ s. GoesOn int_form int_value c.args.bytes.now (c.loop-at.at + 1) s c.match-ended.numbers.items) (sym w.state-is)
        (one_turn int_form int_value c.args.bytes.now c.loop-at.at c.loop-at.state c.in-Some.next c.loop-at.numbers.items c.match-ended.numbers.items
        c.loop-at-test.true c.loop-at.invariant.1 c.in-Some.ensures.steps
        (ap (λ v. v.items) w.numbers-is ∙ ap (λ o. elim o [ Some n ↦ c.loop-at.numbers.items ++ int_value n ∷ [] | None ↦ c.loop-at.numbers.items ]) (sym w.in_default-ended.is ∙ c.ended.ensures))),
  )
]

pub returns-in-Between-clause-list : goal.returns-in-Between-clause-list
returns-in-Between-clause-list c =
    last_turn int_form int_of int_value ints_make c.args.bytes.now c.loop-at.at State.Between c.loop-at.numbers.items (omega (arith, c.loop-at.auto.at-end, c.loop-at-test.false))
    (subst (λ s. GoesOn int_form int_value c.args.bytes.now c.loop-at.at s c.loop-at.numbers.items) c.in-Between.is c.loop-at.invariant.1)

pub returns-in-Signed-clause-list : goal.returns-in-Signed-clause-list
returns-in-Signed-clause-list c =
    last_turn int_form int_of int_value ints_make c.args.bytes.now c.loop-at.at State.Signed c.loop-at.numbers.items (omega (arith, c.loop-at.auto.at-end, c.loop-at-test.false))
    (subst (λ s. GoesOn int_form int_value c.args.bytes.now c.loop-at.at s c.loop-at.numbers.items) c.in-Signed.is c.loop-at.invariant.1)

pub returns-in_ok-push-in-Within-clause-list : goal.returns-in_ok-push-in-Within-clause-list
returns-in_ok-push-in-Within-clause-list c =
    let whole = last_turn int_form int_of int_value ints_make c.args.bytes.now c.loop-at.at (State.Within c.in-Within.number) c.loop-at.numbers.items
    (omega (arith, c.loop-at.auto.at-end, c.loop-at-test.false))
    (subst (λ s. GoesOn int_form int_value c.args.bytes.now c.loop-at.at s c.loop-at.numbers.items) c.in-Within.is c.loop-at.invariant.1) in
    whole ∙ ap Some (sym (c.in_ok-push-in-Within.ensures.items ∙ ap (λ k. c.loop-at.numbers.items ++ k ∷ []) (to_z-of_z (subst (FitsSigned w32) (sym c.int_of-in-Within.ensures) (int_fits c.in-Within.number (subst (Fits int_form) c.in-Within.is c.loop-at.invariant.0))) ∙ c.int_of-in-Within.ensures)))

pub returns-in-Between-clause-few : goal.returns-in-Between-clause-few
returns-in-Between-clause-few c = few_numbers int_of c.args.bytes.now c.loop-at.numbers.items (returns-in-Between-clause-list c)

pub returns-in_ok-push-in-Within-clause-few : goal.returns-in_ok-push-in-Within-clause-few
returns-in_ok-push-in-Within-clause-few c = few_numbers int_of c.args.bytes.now c.push-in-Within.new.self.items (returns-in_ok-push-in-Within-clause-list c)
