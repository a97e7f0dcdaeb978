use Rattle.std.proofs.Common.{◌≡◌, ◌∙◌, ◌+◌, ◌++◌, ◌∷◌, [], suc, ap, arith, sym, subst}
use Rattle.flow_rules.specs.InSet.{InSet}
use Rattle.flow_rules.specs.ReachRows.{reach_rows}
use Rattle.flow_rules.specs.Touches.{touches}
use Rattle.def_classes.specs.tools.Listed.{IsListOf}
use Rattle.std.proofs.lemmas.Bool.{false≢true}
use Rattle.def_classes.proofs.Listing.{list_push, list_skip}
use Rattle.def_classes.proofs.found.set_of.Goals.{then-set_has+in_ok-push, else-set_has}
use Rattle.def_classes.proofs.found.set_of.Goals as goal

pub loop-def-preserved : goal.loop-def-preserved
loop-def-preserved c =
    let code = c.args.c.now in
    let P = InSet code (touches code c.args.p.now.rows) (reach_rows code c.args.r.now) c.args.read.0 in
    let n = c.loop-def.def in
    let old = c.loop-def.set in
    let next : suc n ≡ n + 1 = omega arith in
    elim c.if-set_has.branch [
      | then-set_has+in_ok-push w ↦
          let here : P (suc n) = subst P (sym next) (c.set_has.ensures.0 w.if-set_has.true) in
          subst (λ set. IsListOf P (n + 1) set) (sym (w.set-is ∙ w.in_ok-push.ensures.ok ∙ ap (λ k. old ++ k ∷ []) (sym next)))
          (subst (λ k. IsListOf P k (old ++ suc n ∷ [])) next (list_push P n old c.loop-def.invariant here))
      | else-set_has w ↦
          subst (λ set. IsListOf P (n + 1) set) (sym w.set-is)
          (subst (λ k. IsListOf P k old) next (list_skip P n old c.loop-def.invariant (λ here. false≢true (sym w.if-set_has.false ∙ c.set_has.ensures.1 (subst P next here)))))
    ]
