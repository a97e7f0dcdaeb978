-- One byte more of a word.
use Rattle.std.proofs.Common.{◌≡◌, ℕ, ◌+◌, ◌<◌, ◌≤◌, List, [], length, get_or, drop, ap, ◌∙◌}
use Rattle.std.proofs.lemmas.List.{drop_more, drop_all}
use Rattle.line_format.specs.tools.Format.{Answer, done, and_then, read, byte}
use Rattle.line_format.specs.tools.Words.{exactly, word}

module _ (whole : Answer (Unit {0})) (text : List ℕ) (i : ℕ) (ts : List ℕ) (is : whole ≡ read (word (drop i text)) ts) where
  pub word_more : i < length text → whole ≡ and_then (read (byte (exactly (get_or text i 0))) ts) (λ a r. read (word (drop (i + 1) text)) r)
  unfolding word
  word_more h = is ∙ ap (λ l. read (word l) ts) (drop_more text i 0 h)

  pub word_done : length text ≤ i → whole ≡ done tt ts
  unfolding word
  word_done h = is ∙ ap (λ l. read (word l) ts) (drop_all i text h)
