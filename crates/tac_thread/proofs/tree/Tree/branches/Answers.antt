use Rattle.std.proofs.Common.{◌≡◌, ◌+◌, ◌∙◌, ap, sym, arith, Some, subst}
use Rattle.std.proofs.lemmas.Option.{slice_get-get_or}
use Rattle.tac_thread.specs.Threads.{life_in}
use Rattle.tac_thread.proofs.Trees.{guest_is}
use Rattle.tac_thread.proofs.Forking.{AreSoFar, so_far_more, forking, few_stacks, all_plantable}
use Rattle.tac_thread.proofs.tree.Tree.branches.Goals as goal

pub overflow_add-i : goal.overflow_add-i
overflow_add-i g c =
    let lived : life_in c.args.self.now c.args.name ≡ Some c.in-Some.guest.now = sym (ap (λ t. life_in t c.args.name) c.self.view_is) ∙ sym c.in-Some.ensures.value in
    omega (arith, few_stacks g.D.Domain.meaning _ (life_in c.args.self.now) c.args.name _ _ c.requires.form lived c.requires.kind, c.loop-stack-test.true, c.loop-stack.invariant.0)

pub branch-guest-requires-clause-guest : goal.branch-guest-requires-clause-guest
branch-guest-requires-clause-guest g c =
    let lived : Some c.in-Some.guest.now ≡ life_in c.args.self.now c.args.name = c.in-Some.ensures.value ∙ ap (λ t. life_in t c.args.name) c.self.view_is in
    guest_is g.D.Domain.meaning _ c.args.self.now _ _ lived c.requires.tree.threads

pub branch-guest-requires-clause-fork : goal.branch-guest-requires-clause-fork
branch-guest-requires-clause-fork g c =
    let lived : life_in c.args.self.now c.args.name ≡ Some c.in-Some.guest.now = sym (ap (λ t. life_in t c.args.name) c.self.view_is) ∙ sym c.in-Some.ensures.value in
    (_, forking g.D.Domain.meaning _ (life_in c.args.self.now) c.args.name _ _ lived c.requires.kind, omega (arith, c.loop-stack-test.true, c.loop-stack.invariant.0))

pub branch-guest-requires-clause-frame : goal.branch-guest-requires-clause-frame
branch-guest-requires-clause-frame g c =
    let lived : life_in c.args.self.now c.args.name ≡ Some c.in-Some.guest.now = sym (ap (λ t. life_in t c.args.name) c.self.view_is) ∙ sym c.in-Some.ensures.value in
    let here = slice_get-get_or c.args.s.now c.loop-stack.stack-index c.stack-item.result c.loop-stack-test.true ∙ ap Some (sym c.stack-item.is) in
    c.requires.kind.framed _ _ _ lived here

pub loop-stack-preserved : goal.loop-stack-preserved
loop-stack-preserved g c = (
  ap (λ n. n + 1) c.loop-stack.invariant.0,
  subst (AreSoFar g.D.Domain.meaning c.args.c.now c.in-Some.guest.now c.args.s.now _) (sym c.in_ok-push_back.ensures.items)
      (so_far_more g.D.Domain.meaning _ _ _ _ _ _ _ _ c.loop-stack.invariant.1 (ap (λ n. n + 1) c.loop-stack.invariant.0) c.stack-item.is c.loop-stack-test.true c.in_ok-branch.ensures.runs c.in_ok-branch.ensures.guest),
)

pub returns : goal.returns
returns g c =
    let lived : life_in c.args.self.now c.args.name ≡ Some c.in-Some.guest.now = sym (ap (λ t. life_in t c.args.name) c.self.view_is) ∙ sym c.in-Some.ensures.value in
    all_plantable g.D.Domain.meaning _ _ _ _ _ _ lived c.loop-stack.invariant.1 c.loop-stack-test.false c.loop-stack.auto.stack-index-end
