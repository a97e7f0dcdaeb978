-- What appends the rest to the writer as it is, has appended the piece to the writer as it was.
use Rattle.std.proofs.Common.{ℕ, List, Option}
use Rattle.std.specs.Io.KnownBytes.{Appends}
use Rattle.dfi_io.proofs.console.write_whole.Given as goal

abbrev pub invariant-loop : goal.invariant-loop
invariant-loop g l =
    (after : Option (List ℕ)) → Appends (g.W.Write.contents l.out) after l.rest → Appends (g.W.Write.contents l.fn.out) after l.piece
