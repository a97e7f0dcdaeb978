use Rattle.stripe_table.proofs.memory.SharedMem.count.Given as goal

abbrev pub ghosts-draw : goal.ghosts-draw
ghosts-draw a = record { entry = a.entry; next = a.seat.now.me.0.content }
