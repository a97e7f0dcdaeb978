use Rattle.stripe_table.proofs.memory.SharedMem.split.Given as goal

abbrev pub ghosts-cut : goal.ghosts-cut
ghosts-cut a = record { name = a.name }
