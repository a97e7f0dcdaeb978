-- What one word does to the walk of `clap` over a line, and its faults.
use Rattle.std.proofs.Common.{◌≡◌, Bool, true, false, List, [], ◌∷◌, Some, None, refl}
use Rattle.std.proofs.lemmas.Bool.{and_right}
use Rattle.clap.specs.Walk.{Text, Held, Walk, Waiting, idle, positional, option, is_pending, reacted, settled, walked}
use Rattle.clap.specs.Kinds.{Kinds, or_else}
use Rattle.clap.specs.Faults.{react_fault, settle_fault, turn_fault}
use Rattle.dfi_words.specs.Options.{IsOneOf}
use Rattle.dfi_words.specs.tools.Found.{plain_id}
use Rattle.dfi_words.proofs.Forms.{LooksLong, LooksPlain}
use Rattle.dfi_words.proofs.Rows.{same}
use Rattle.dfi_words.proofs.Rules.{plain_rule, option_rule, rules, shape, AreApart, long_known, option_by_id}

-- where the walk stands: after `--` or before it, and what waits for a word
abbrev pub at : Bool → Waiting → Held → Walk
at trailing waiting h = record { held = h; waiting = waiting; position = 1; is_trailing = trailing; stopped = None }

-- no option waits for its value
abbrev pub free : Bool → Waiting
free true = positional
free false = idle

-- the option waits for its value, or has it
abbrev pub waiting_held : List Text → Text → Held → Held
waiting_held known name h = record (settled (rules known) h) { pending = Some (name, []) }

abbrev pub valued_held : List Text → Text → Text → Held → Held
valued_held known name value h = record (settled (rules known) h) { pending = Some (name, value ∷ []) }

abbrev pub plain_held : List Text → Text → Held → Held
plain_held known word h = record (settled (rules known) h) { pending = Some (plain_id, word ∷ []) }

-- the turn has these faults and leads here
pub record Turns (name : Text) (known : List Text) (w : Walk) (word : Text) (faults : Kinds) (after : Walk) : Type 0 where
  pub fault : turn_fault (shape name known) [] w word ≡ faults
  pub then : walked (rules known) [] w word ≡ after

nothing_more : (kinds : Kinds) → or_else kinds [] ≡ kinds
nothing_more [] = refl
nothing_more (k ∷ kinds) = refl

module _ (name : Text) (known : List Text) where
  pub turn_joined : (b : Bool) (h : Held) (word own value : Text) → LooksLong word own (Some value) → IsOneOf known own
      → Turns name known (at false (free b) h) word (react_fault (rules known) false (option_rule own) (value ∷ []) h) (at false idle (reacted (rules known) (option_rule own) (value ∷ []) h))
  unfolding walked
  turn_joined true h word own value looks i =
      record { fault = rw (looks.dashes, looks.long, long_known known own i) (nothing_more _); then = rw (looks.dashes, looks.long, long_known known own i) refl }
  turn_joined false h word own value looks i =
      record { fault = rw (looks.dashes, looks.long, long_known known own i) (nothing_more _); then = rw (looks.dashes, looks.long, long_known known own i) refl }

  pub turn_apart : (b : Bool) (h : Held) (word own : Text) → LooksLong word own None → IsOneOf known own
      → Turns name known (at false (free b) h) word (settle_fault (rules known) false h) (at false (option own) (waiting_held known own h))
  unfolding walked
  turn_apart true h word own looks i =
      record { fault = rw (looks.dashes, looks.long, long_known known own i) (nothing_more _); then = rw (looks.dashes, looks.long, long_known known own i) refl }
  turn_apart false h word own looks i =
      record { fault = rw (looks.dashes, looks.long, long_known known own i) (nothing_more _); then = rw (looks.dashes, looks.long, long_known known own i) refl }

  pub turn_value : (h : Held) (word own : Text) → LooksPlain word → AreApart known → IsOneOf known own
      → Turns name known (at false (option own) (waiting_held known own h)) word [] (at false idle (valued_held known own word h))
  unfolding walked
  turn_value h word own looks apart i =
      record { fault = rw (looks.dashes, looks.long, looks.short) refl; then = rw (looks.dashes, looks.long, looks.short, option_by_id known own apart i, same own) refl }

  pub turn_plain : (b : Bool) (h : Held) (word : Text) → LooksPlain word
      → Turns name known (at false (free b) h) word (settle_fault (rules known) false h) (at false positional (plain_held known word h))
  unfolding walked
  turn_plain true h word looks =
      record { fault = rw (looks.dashes, looks.long, looks.short, and_right (is_pending plain_rule h.pending) false refl) refl; then = rw (looks.dashes, looks.long, looks.short, and_right (is_pending plain_rule h.pending) false refl) refl }
  turn_plain false h word looks =
      record { fault = rw (looks.dashes, looks.long, looks.short, and_right (is_pending plain_rule h.pending) false refl) refl; then = rw (looks.dashes, looks.long, looks.short, and_right (is_pending plain_rule h.pending) false refl) refl }

  pub turn_rest : (waiting : Waiting) (h : Held) (word : Text)
      → Turns name known (at true waiting h) word (settle_fault (rules known) false h) (at true positional (plain_held known word h))
  unfolding walked
  turn_rest waiting h word =
      record { fault = rw (and_right (is_pending plain_rule h.pending) false refl) refl; then = rw (and_right (is_pending plain_rule h.pending) false refl) refl }

  pub turn_dashes : (b : Bool) (h : Held) → Turns name known (at false (free b) h) (45 ∷ 45 ∷ []) [] (at true (free b) h)
  unfolding walked
  turn_dashes true h = record { fault = refl; then = refl }
  turn_dashes false h = record { fault = refl; then = refl }

  pub turn_dashes_early : (h : Held) (own : Text) → Turns name known (at false (option own) h) (45 ∷ 45 ∷ []) [] (at true (option own) h)
  unfolding walked
  turn_dashes_early h own = record { fault = refl; then = refl }
