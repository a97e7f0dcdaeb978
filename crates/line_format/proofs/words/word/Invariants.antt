use Rattle.std.proofs.Common.{◌≡◌, drop}
use Rattle.line_format.specs.tools.Format.{read}
use Rattle.line_format.specs.tools.Words.{word}
use Rattle.line_format.proofs.words.word.Given as goal

abbrev pub invariant-loop-byte : goal.invariant-loop-byte
invariant-loop-byte l = read (word l.fn.text) l.fn.cursor ≡ read (word (drop l.byte-index l.fn.text)) l.cursor
