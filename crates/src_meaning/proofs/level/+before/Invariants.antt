use Rattle.std.proofs.Common.{length, ◌+◌, ◌*◌}
use Rattle.src_meaning.proofs.level.+before.Given as goal

abbrev pub decreases-words_before : goal.decreases-words_before
decreases-words_before l = 2 * length l.fields.now

abbrev pub decreases-words_from : goal.decreases-words_from
decreases-words_from l = 2 * length l.rest.now + 1
