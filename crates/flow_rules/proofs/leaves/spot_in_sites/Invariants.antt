use Rattle.std.proofs.Common.{take, map}
use Rattle.tac_ir.specs.declared.code.Site.{Site}
use Rattle.flow_rules.specs.tools.Spots.{IsBehindAll}
use Rattle.flow_rules.proofs.leaves.spot_in_sites.Given as goal

abbrev pub invariant-loop-site : goal.invariant-loop-site
invariant-loop-site l = IsBehindAll l.c (take l.site-index (map (λ (s : Site). s.shape) l.c.sites)) l.node l.left
