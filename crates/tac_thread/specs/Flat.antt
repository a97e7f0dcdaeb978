-- Words of 32 bits as values, and stacks of words.
use Rattle.std.specs.Prelude.{ℕ, ◌+◌, ◌-◌, ◌*◌, ◌/◌, not, nat_eq, nat_lt, nat_le, if◌then◌else◌, Option, Some, None}
use Rattle.tac_ir.specs.Words.{word_of, wrap, un_of, bin_of}
use Rattle.tac_ir.specs.Layout.{words_before, parts_of, place_word, frame_words}
use Rattle.tac_thread.specs.declared.flat.FlatStack.{FlatStack}
use Rattle.tac_thread.specs.Meaning.{Meaning}

-- so many words from the top on are a new frame, where there are so many
abbrev pub with_frame : ℕ → FlatStack → Option FlatStack
with_frame words s = if nat_lt (s.«end» - s.top) words then None else Some (record { base = s.top; top = s.top + words; «end» = s.«end» })

-- the i-th share of so many words each: the frame stays
abbrev pub with_share : ℕ → FlatStack → ℕ → Option FlatStack
with_share words s i = if nat_eq words 0 then None else Some (record { base = s.base; top = s.top + (i - 1) * words; «end» = s.top + i * words })

abbrev pub flat_meaning : Meaning ℕ FlatStack
flat_meaning = record {
  int = word_of;
  null = 0;
  truth = λ a. Some (not (nat_eq a 0));
  un = λ op a. Some (un_of op a);
  bin = λ op a b. Some (bin_of op a b);
  place = λ c f s p. place_word c f s.base p;
  field = λ c a shape k. Some (wrap (a + words_before c (parts_of c shape) k));
  decay = λ c a shape. Some a;
  index = λ a i words. Some (wrap (a + i * words));
  enter = λ c s f maker. with_frame (frame_words c f) s;
  share = λ s n i. with_share ((s.«end» - s.top) / n) s i;
  link = λ s. Some s.base;
  has_frame = λ c f s. nat_le (s.base + frame_words c f) s.top;
}
