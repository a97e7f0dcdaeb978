use Rattle.std.proofs.Common.{ap, ℕ}
use Rattle.std.specs.Ordering.{nat_cmp}
use Rattle.std.specs.BTreeMap.{is_at}
use Rattle.std.specs.Map.{lookup}
use Rattle.tac_thread.proofs.Trees.{begun_is}
use Rattle.tac_thread.proofs.tree.Tree.new.Goals as goal

pub returns-clause-begun : goal.returns-clause-begun
returns-clause-begun g c =
    begun_is g.D.Domain.meaning _ _ _ _ _ _ _ c.in_ok-root.ensures.runs
    (λ (k : ℕ). ap (λ es. lookup (is_at (nat_cmp k)) es) c.new-guests.ensures.empty) c.in_ok-insert.ensures.updates.0 c.settle.ensures.settles
