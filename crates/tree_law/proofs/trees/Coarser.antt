-- A chain whose entries say less.
use Rattle.std.proofs.Common.{List, Option}
use Rattle.tac_ir.specs.declared.code.Code.{Code}
use Rattle.tac_thread.specs.declared.want.ReplyOf.{ReplyOf}
use Rattle.tac_thread.specs.Meaning.{Meaning}
use Rattle.tac_thread.specs.Threads.{Lives}
use Rattle.tree_law.specs.Chain.{Saying, IsTreeAfter}
use Rattle.tree_law.specs.Chain.IsTreeAfter.{begins, feeds, forks, halts, sticks}
use Rattle.tree_law.specs.tools.Coarser.{SaysNoMore}

pub coarse : {V S E : Type 0} (m : Meaning V S) (c : Code) (s : S) (fine less : Saying V S E) → SaysNoMore fine less → (h : List E) (f : Lives V S) (d : Option V) → IsTreeAfter m c s fine h f d → IsTreeAfter m c s less h f d
coarse m c s fine less says h f d (begins f2 d2 tree b) = begins f d tree b
coarse m c s fine less says h g b (feeds old e n reply f g2 d b2 chain tree fed awake moved told) =
    feeds old e n reply f g d b (coarse m c s fine less says old f d chain) tree fed awake moved (says.tells old n fed.life e reply told)
coarse m c s fine less says h g b (forks old e n stacks f g2 d b2 chain tree forked awake told shares some join entries is count few) =
    forks old e n stacks f g d b (coarse m c s fine less says old f d chain) tree forked awake (says.tells old n forked.life e ReplyOf.Unit told) (says.shares forked.life stacks shares) some join entries is count few
coarse m c s fine less says h f d (halts old e n l f2 d2 chain lives awake stopped) =
    halts old e n l f d (coarse m c s fine less says old f d chain) lives awake (says.halts old n l e stopped)
coarse m c s fine less says h g b (sticks old e n f g2 d b2 chain tree stuck awake stays) =
    sticks old e n f g d b (coarse m c s fine less says old f d chain) tree stuck awake (says.sticks old n stuck.life e stays)
