use Rattle.std.proofs.Common.{◌∙◌, ap, sym, subst, slice_set, slice_index_or, true, false, refl}
use Rattle.std.specs.Prelude.{not}
use Rattle.std.proofs.lemmas.Bool.{eq-eqb}
use Rattle.tac_ir.specs.Edges.{calls_fun}
use Rattle.flow_rules.specs.tools.Reached.{HasCall}
use Rattle.flow_rules.proofs.Reached.{call_added}
use Rattle.flow_rules.proofs.calls.add_call.Goals as goal

pub bounds-set-fun : goal.bounds-set-fun
bounds-set-fun c = c.requires.room c.in-Call.fun (ap (calls_fun c.in-Call.fun) c.in-Call.is ∙ eq-eqb c.in-Call.fun c.in-Call.fun refl)

pub bounds-set-fun-in-Call : goal.bounds-set-fun-in-Call
bounds-set-fun-in-Call c = c.requires.room c.in-Call.fun (ap (calls_fun c.in-Call.fun) c.in-Call.is ∙ eq-eqb c.in-Call.fun c.in-Call.fun refl)

pub returns-in-Call : goal.returns-in-Call
returns-in-Call c =
    subst (λ i. HasCall i c.args.set.now (slice_set c.args.set.now c.in-Call.fun true) (not (slice_index_or c.args.set.now c.in-Call.fun false))) (sym c.in-Call.is)
    (call_added c.in-Call.to c.in-Call.fun c.in-Call.def c.in-Call.args c.args.set.now (c.requires.room c.in-Call.fun (ap (calls_fun c.in-Call.fun) c.in-Call.is ∙ eq-eqb c.in-Call.fun c.in-Call.fun refl)))
