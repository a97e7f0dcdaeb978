use Rattle.std.proofs.Common.{◌≡◌, ◌+◌, ◌++◌, ◌∷◌, [], suc, arith, length, sym, subst}
use Rattle.tac_ir.specs.Numbers.{defs_in_code, reads_made}
use Rattle.flow_rules.specs.InSet.{InSet}
use Rattle.flow_rules.specs.ReachRows.{reach_rows}
use Rattle.flow_rules.specs.Touches.{touches}
use Rattle.def_classes.specs.tools.Listed.{AreListsOf, IsListOf}
use Rattle.def_classes.proofs.Listing.{lists_push}
use Rattle.def_classes.proofs.SetsFound.{are_sets}
use Rattle.def_classes.proofs.found.sets.Goals as goal

pub loop-read-preserved : goal.loop-read-preserved
loop-read-preserved c =
    let code = c.args.c.now in
    let n = defs_in_code code in
    let P = InSet code (touches code c.args.p.now.rows) (reach_rows code c.args.r.now) in
    let next : suc c.loop-read.read ≡ c.loop-read.read + 1 = omega arith in
    let set = subst (λ r. IsListOf (P r) n c.in_ok-set_of.field-0) (sym next) c.in_ok-set_of.ensures in
    subst (λ lists. AreListsOf P (c.loop-read.read + 1) n lists) (sym c.in_ok-push.ensures.ok)
    (subst (λ r. AreListsOf P r n (c.loop-read.lists ++ c.in_ok-set_of.field-0 ∷ [])) next (lists_push P n c.loop-read.read c.loop-read.lists c.in_ok-set_of.field-0 c.loop-read.invariant set))

pub returns : goal.returns
returns c =
    let code = c.args.c.now in
    let P = InSet code (touches code c.args.p.now.rows) (reach_rows code c.args.r.now) in
    let all : c.loop-read.read ≡ length (reads_made code) = omega (arith, c.loop-read-test.false, c.loop-read.auto.read-end, c.count_in_code-read-end.ensures.reads) in
    are_sets code c.requires.form (touches code c.args.p.now.rows) (reach_rows code c.args.r.now) c.loop-read.lists
    (subst (λ r. AreListsOf P r (defs_in_code code) c.loop-read.lists) all c.loop-read.invariant)
