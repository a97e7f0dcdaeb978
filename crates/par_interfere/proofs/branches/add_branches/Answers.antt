use Rattle.std.proofs.Common.{◌≡◌, [], ◌∷◌, ◌++◌, get_or, All, Some, refl, sym, ap, subst, ◌∙◌}
use Rattle.std.specs.Prelude.{slice_get}
use Rattle.std.specs.Prelude.{Contains}
use Rattle.std.proofs.lemmas.List.Elements.{All-push}
use Rattle.tac_ir.specs.declared.code.Instr.{Instr}
use Rattle.tac_ir.specs.Regions.{regions_of, regions_by}
use Rattle.flow_rules.proofs.Parallels.{fork_at}
use Rattle.par_interfere.specs.declared.branches.Branch.{Branch}
use Rattle.par_interfere.specs.tools.Branches.{HasBranch, IsBranch, region_of}
use Rattle.par_interfere.proofs.BranchLists.{region_listed, has_front, added_more, added_all}
use Rattle.par_interfere.proofs.branches.add_branches.Goals as goal

pub last_of-last-requires-clause-ascends : goal.last_of-last-requires-clause-ascends
last_of-last-requires-clause-ascends c =
    let is = sym c.instr_at.ensures ∙ c.in-Fork.is ∙ ap (Instr.Fork c.in-Fork.join) (sym c.as_slice-entries.ensures) in
    (fork_at c.args.c.now c.requires.form c.args.p c.in-Fork.join c.as_slice-entries.result.now is).ascends

pub loop-i-preserved : goal.loop-i-preserved
loop-i-preserved c =
    let p = c.args.p in
    let entries = c.as_slice-entries.result.now in
    let old = c.loop-i.branches.items in
    let i = c.loop-i.i in
    let is = sym c.instr_at.ensures ∙ c.in-Fork.is ∙ ap (Instr.Fork c.in-Fork.join) (sym c.as_slice-entries.ensures) in
    let b : Branch = record { fun = p.fun; fork = p.at; entry = get_or entries i 0; last = c.last_of-last.result; called = c.in_ok-called_from.field-0 } in
    let items : c.push.new.self.items ≡ old ++ b ∷ [] = c.in_ok-push.ensures.items in
    let here : slice_get (regions_of p.at c.in-Fork.join entries) i ≡ Some (region_of b) = c.last_of-last.ensures p.at in
    let good : IsBranch c.args.c.now c.args.points.now b = record {
      region = region_listed c.args.c.now p c.in-Fork.join i entries (region_of b) is here;
      long = c.in_ok-called_from.ensures.long;
      called = c.in_ok-called_from.ensures.called;
    } in
    record {
      each = subst (All (IsBranch c.args.c.now c.args.points.now)) (sym items) (All-push (IsBranch c.args.c.now c.args.points.now) old b c.loop-i.invariant.each good);
      kept = λ f r had. subst (λ bs. HasBranch bs f r) (sym items) (has_front old b f r (c.loop-i.invariant.kept f r had));
      added = λ k r low at. subst (λ bs. HasBranch bs p.fun r) (sym items) (added_more (regions_of p.at c.in-Fork.join entries) old b p.fun i refl here c.loop-i.invariant.added k r low at);
    }

pub returns-clause-added : goal.returns-clause-added
returns-clause-added c r there =
    let p = c.args.p in
    let entries = c.as_slice-entries.result.now in
    let is = sym c.instr_at.ensures ∙ c.in-Fork.is ∙ ap (Instr.Fork c.in-Fork.join) (sym c.as_slice-entries.ensures) in
    added_all p.at c.in-Fork.join entries c.loop-i.branches.items p.fun c.loop-i.i c.loop-i-test.false c.loop-i.invariant.added r
    (subst (λ i. Contains (regions_by p.at i) r) is there)
