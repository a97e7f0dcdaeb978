use Rattle.std.proofs.Common.{◌≡◌, ◌+◌, length, option_map}
use Rattle.c_lex.specs.tools.Scanning.{close_at}
use Rattle.c_lex.proofs.comment.close_at.Given as goal

abbrev pub invariant-loop-rest : goal.invariant-loop-rest
invariant-loop-rest l =
    record { same : option_map (λ n. l.before + n) (close_at l.rest) ≡ close_at l.bytes; room : l.before + length l.rest ≡ length l.bytes }

abbrev pub decreases-loop-rest : goal.decreases-loop-rest
decreases-loop-rest l = length l.rest
