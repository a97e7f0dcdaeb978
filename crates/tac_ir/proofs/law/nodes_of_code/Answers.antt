use Rattle.tac_ir.proofs.NodePlaces.{nodes_are_counted, places_are_nodes}
use Rattle.tac_ir.proofs.law.nodes_of_code.Goals as goal

pub returns-clause-counted : goal.returns-clause-counted
returns-clause-counted c = nodes_are_counted

pub returns-clause-places : goal.returns-clause-places
returns-clause-places c = places_are_nodes
