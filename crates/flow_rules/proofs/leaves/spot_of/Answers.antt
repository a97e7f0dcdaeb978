use Rattle.std.proofs.Common.{◌++◌, subst}
use Rattle.tac_ir.specs.Counts.{vars_in_funs}
use Rattle.tac_ir.specs.Layout.{shapes_of_globals}
use Rattle.flow_rules.specs.tools.Spots.{IsSpotAmong}
use Rattle.flow_rules.proofs.VarNodes.{sites_of}
use Rattle.flow_rules.proofs.Spots.{goes_on}
use Rattle.flow_rules.proofs.SpotSteps.{stops_before}
use Rattle.flow_rules.proofs.leaves.spot_of.Goals as goal

pub returns-in-Behind-spot_in_funs : goal.returns-in-Behind-spot_in_funs
returns-in-Behind-spot_in_funs c =
    let code = c.args.c.now in
    goes_on code (shapes_of_globals code) (vars_in_funs code.funs ++ sites_of code) c.args.node c.in-Behind.node (subst (IsSpotAmong code (shapes_of_globals code) c.args.node) c.in-Behind.is c.spot_in_globals.ensures)
    c.spot_in_sites.result
    (goes_on code (vars_in_funs code.funs) (sites_of code) c.in-Behind.node c.in-Behind-spot_in_funs.node (subst (IsSpotAmong code (vars_in_funs code.funs) c.in-Behind.node) c.in-Behind-spot_in_funs.is c.spot_in_funs.ensures) c.spot_in_sites.result c.spot_in_sites.ensures)

pub returns-in_default-spot_in_funs : goal.returns-in_default-spot_in_funs
returns-in_default-spot_in_funs c =
    let code = c.args.c.now in
    goes_on code (shapes_of_globals code) (vars_in_funs code.funs ++ sites_of code) c.args.node c.in-Behind.node (subst (IsSpotAmong code (shapes_of_globals code) c.args.node) c.in-Behind.is c.spot_in_globals.ensures)
    c.spot_in_funs.result (stops_before code (vars_in_funs code.funs) (sites_of code) c.in-Behind.node c.spot_in_funs.result c.in_default-spot_in_funs.not-Behind c.spot_in_funs.ensures)

pub returns-in_default : goal.returns-in_default
returns-in_default c =
    let code = c.args.c.now in
    stops_before code (shapes_of_globals code) (vars_in_funs code.funs ++ sites_of code) c.args.node c.spot_in_globals.result c.in_default.not-Behind c.spot_in_globals.ensures
