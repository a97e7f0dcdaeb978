use Rattle.src_meaning.proofs.calls.+called.Given as goal

abbrev pub decreases-called : goal.decreases-called
decreases-called l = l.level.fuel
