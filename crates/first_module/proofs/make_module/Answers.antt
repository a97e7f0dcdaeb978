use Rattle.std.proofs.Common.{◌≡◌, length, false, replicate, sym, ap, subst, ◌∙◌}
use Rattle.tac_ir.specs.declared.module.Size.{Size}
use Rattle.tac_ir.specs.Module.{IsOrdered, Module}
use Rattle.word_table.specs.Tables.{CanRun}
use Rattle.first_module.specs.ModuleOf.{module_of}
use Rattle.first_module.specs.SetsOf.{sets_of}
use Rattle.first_module.proofs.FormLemmas.{can_run, is_ordered}
use Rattle.first_module.proofs.make_module.Goals as goal

-- what is made
abbrev made : goal.After-new-2 → Module
made c = record {
  size = Size.Small;
  code = c.args.code;
  classes = c.in_ok-sets.field-0.classes;
  sets = c.in_ok-sets.field-0.sets;
  removed = c.in_ok-removed.removed;
  points = c.new.result;
  reach = c.new-2.result;
}

made-is : (c : goal.After-new-2) → made c ≡ module_of c.args.code
made-is c =
    let removed : c.in_ok-removed.removed ≡ replicate (length (sets_of c.args.code)) false
    = c.in_ok-removed.ensures ∙ ap (λ n. replicate n false) (c.len.ensures ∙ ap length c.in_ok-sets.ensures.sets) in
    λ i. record {
      size = Size.Small;
      code = c.args.code;
      classes = c.in_ok-sets.ensures.classes i;
      sets = c.in_ok-sets.ensures.sets i;
      removed = removed i;
      points = c.new.ensures i;
      reach = c.new-2.ensures i;
    }

pub invariant_of-result : goal.invariant_of-result
invariant_of-result c = subst (λ (m : Module). IsOrdered m.sets m.removed m.points m.reach) (sym (made-is c)) (is_ordered c.args.code c.requires)

pub returns-clause-runs : goal.returns-clause-runs
returns-clause-runs c = subst (λ (m : Module). CanRun m) (sym (made-is c)) (can_run c.args.code c.requires)
