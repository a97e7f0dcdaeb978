use Rattle.std.proofs.Common.{arith}
use borrow.Author.Tests.{leb-true}
use Rattle.tac_thread.proofs.flat.FlatWordsDomain.place.Goals as goal

pub place_word-requires-clause-frame : goal.place_word-requires-clause-frame
place_word-requires-clause-frame c = omega (arith, leb-true _ _ c.requires.frame)
