use Rattle.std.proofs.Common.{◌≡◌, Some, None, refl, sym, ap, ◌∙◌, subst}
use Rattle.tac_ir.specs.GoodForm.{GoodForm}
use Rattle.code_layout.specs.LayoutOf.{IsLayoutOf}
use Rattle.tac_thread.specs.Lent.{with_life}
use Rattle.tac_thread.specs.Threads.{life_in, IsSame, IsSettling}
use Rattle.tac_thread.specs.Flat.{flat_meaning}
use Rattle.tac_thread.proofs.Lent.{lent_same}
use Rattle.flat_core.specs.declared.machine.Machine.{Machine}
use Rattle.flat_core.specs.Serves.{Serves, Asks, IsPerformed}
use Rattle.flat_core.proofs.Turned.{on_err, if_ok, asks_for, turned_settling, turned_on, turned_here}
use Rattle.flat_core.proofs.machine.Machine.step.Goals.{then-may_have_ended, else-may_have_ended}
use Rattle.flat_core.proofs.machine.Machine.step.Goals as goal

pub asked-requires-clause-guest : goal.asked-requires-clause-guest
asked-requires-clause-guest c = (((c.requires.serves.2).threads).tree).threads.guests c.args.name.0 c.in-Some.guest.now (sym c.in-Some.ensures.life)

pub returns-in_default-asked-clause-ok : goal.returns-in_default-asked-clause-ok
returns-in_default-asked-clause-ok c = (
  asks_for c.args.m.now c.args.self.now.tree c.args.name.0 c.in-Some.guest.now None c.in-Some.ensures.life (sym c.in_default-asked.is ∙ c.asked.ensures),
  lent_same c.args.self.now.tree c.args.name.0 c.in-Some.guest.now c.in-Some.ensures.life,
  refl,
)

pub fork-requires-clause-serves : goal.fork-requires-clause-serves
fork-requires-clause-serves c =
    let same = lent_same c.args.self.now.tree c.args.name.0 c.in-Some.guest.now c.in-Some.ensures.life in
    let of_run = c.requires.serves in
    (of_run.0, of_run.1, subst (λ t. Serves c.args.m.now of_run.0 of_run.1 t c.args.self.now.store) (sym same) of_run.2)

pub fork-requires-clause-asks : goal.fork-requires-clause-asks
fork-requires-clause-asks c =
    let same = lent_same c.args.self.now.tree c.args.name.0 c.in-Some.guest.now c.in-Some.ensures.life in
    let asks = asks_for c.args.m.now c.args.self.now.tree c.args.name.0 c.in-Some.guest.now (Some c.in-Some-asked.asked) c.in-Some.ensures.life (sym c.in-Some-asked.is ∙ c.asked.ensures) in
    subst (λ t. Asks c.args.m.now t c.args.name.0 c.in-Some-asked.asked) (sym same) asks

pub returns-in_err-answer-clause-err : goal.returns-in_err-answer-clause-err
returns-in_err-answer-clause-err c =
    let same = lent_same c.args.self.now.tree c.args.name.0 c.in-Some.guest.now c.in-Some.ensures.life in
    on_err c.from_residual.result (subst (λ t. IsSame t c.fork.new.self.tree × (c.fork.new.self.store ≡ c.args.self.now.store)) same c.in_err-answer.ensures.err)

pub returns-in-Fork-clause-ok : goal.returns-in-Fork-clause-ok
returns-in-Fork-clause-ok c =
    let same = lent_same c.args.self.now.tree c.args.name.0 c.in-Some.guest.now c.in-Some.ensures.life in
    let a = c.in-Some-asked.asked in
    let asks = asks_for c.args.m.now c.args.self.now.tree c.args.name.0 c.in-Some.guest.now (Some a) c.in-Some.ensures.life (sym c.in-Some-asked.is ∙ c.asked.ensures) in
    (a, c.in_ok-answer.answer, asks, c.entry.ensures, λ input h serves. c.in_ok-answer.ensures.ok input h (subst (λ t. Serves c.args.m.now input h t c.args.self.now.store) (sym same) serves))

pub turn-requires : goal.turn-requires
turn-requires c =
    let of_run = c.requires.serves in
    record {
      can_run = c.requires.can_run;
      store = (of_run.0, of_run.1, (of_run.2).store);
      guest = (((of_run.2).threads).tree).threads.guests c.args.name.0 c.in-Some.guest.now (sym c.in-Some.ensures.life);
      asks = sym c.asked.ensures ∙ c.in-Some-asked.is;
      no_fork = c.in_default-op.not-Fork;
    }

pub returns-in_err-answer-2 : goal.returns-in_err-answer-2
returns-in_err-answer-2 c =
    let same = lent_same c.args.self.now.tree c.args.name.0 c.in-Some.guest.now c.in-Some.ensures.life in
    let kept = c.in_err-answer-2.ensures.err in
    let tree = ap (with_life c.args.self.now.tree c.args.name.0) kept.0 ∙ same in
    record {
      ok = if_ok _ c.from_residual-in_err-answer-2.result (c.from_residual-in_err-answer-2.ensures).0;
      err = on_err c.from_residual-in_err-answer-2.result (subst (IsSame c.args.self.now.tree) (sym tree) (record { lives = λ n. refl; done = refl }), kept.1);
    }

pub settle-requires : goal.settle-requires
settle-requires c =
    let t = c.args.self.now.tree in
    let a = c.in-Some-asked.asked in
    let asks = asks_for c.args.m.now t c.args.name.0 c.in-Some.guest.now (Some a) c.in-Some.ensures.life (sym c.in-Some-asked.is ∙ c.asked.ensures) in
    let of_run = c.requires.serves in
    let turned = c.in_ok-answer-2.ensures.ok of_run.0 of_run.1 c.args.name.0 (of_run.2).store in
    let code = ap (λ m. m.code) c.m.view_is in
    record {
      form = subst GoodForm (sym code) c.requires.can_run.form;
      laid = subst (λ k. IsLayoutOf k c.turn.new.self.layout) (sym code) turned.layout;
      threads = subst (λ k. IsSettling flat_meaning k c.args.name.0 (life_in (with_life t c.args.name.0 c.turn.new.guest))) (sym code)
          (turned_settling c.args.m.now of_run.0 of_run.1 t c.args.self.now.store c.turn.new.self c.args.name.0 c.in-Some.guest.now c.turn.new.guest a c.in_ok-answer-2.answer of_run.2 c.in-Some.ensures.life asks c.in_default-op.not-Fork turned);
    }

pub returns : goal.returns
returns c =
    let m = c.args.m.now in
    let t = c.args.self.now.tree in
    let s = c.args.self.now.store in
    let n = c.args.name.0 in
    let l = c.in-Some.guest.now in
    let k = c.turn.new.guest in
    let r = c.turn.new.self in
    let a = c.in-Some-asked.asked in
    let answer = c.in_ok-answer-2.answer in
    let lived = c.in-Some.ensures.life in
    let asks = asks_for m t n l (Some a) lived (sym c.in-Some-asked.is ∙ c.asked.ensures) in
    let no_fork = c.in_default-op.not-Fork in
    let code = ap (λ m. m.code) c.m.view_is in
    record {
      ok = (
        a,
        answer,
        asks,
        c.entry-2.ensures,
        λ input h serves. (let turned = c.in_ok-answer-2.ensures.ok input h n serves.store in elim c.if-may_have_ended.branch [
          | then-may_have_ended w ↦ subst (λ (z : Machine). IsPerformed m input h n a answer z.tree z.store) (sym w.self-is)
              (turned_on m input h t w.settle.new.self s r n l k a answer c.m.inside.code code c.requires.can_run serves lived asks no_fork turned w.settle.ensures.settles w.settle.ensures.tree)
          | else-may_have_ended w ↦ subst (λ (z : Machine). IsPerformed m input h n a answer z.tree z.store) (sym w.self-is)
              (turned_here m input h t s r n l k a answer c.m.inside.code code c.requires.can_run serves lived asks no_fork turned (c.may_have_ended.ensures w.if-may_have_ended.false))
        ]),
      );
      err = tt;
    }
