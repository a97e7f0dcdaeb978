use Rattle.std.proofs.Common.{◌≡◌, drop}
use Rattle.c_types.specs.tools.OutlineWalk.{words_from}
use Rattle.c_types.proofs.outline.Outline.members_words.Given as goal

abbrev pub invariant-loop-member : goal.invariant-loop-member
invariant-loop-member l = words_from l.self 0 l.members ≡ words_from l.self l.words (drop l.member-index l.members)
