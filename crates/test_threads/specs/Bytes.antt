-- A small domain: words of 8 bits, with sums alone, and no return links.
use Rattle.std.specs.Prelude.{ℕ, ◌+◌, ◌%◌, not, nat_eq, true, Option, Some, None}
use Rattle.tac_ir.specs.declared.code.BinOp.{BinOp}
use Rattle.tac_ir.specs.Words.{word_of}
use Rattle.tac_thread.specs.Meaning.{Meaning}

abbrev pub sum_of : BinOp → ℕ → ℕ → Option ℕ
sum_of BinOp.Add a b = Some ((a + b) % 256)
sum_of op a b = None

abbrev pub bytes_meaning : Meaning ℕ ℕ
bytes_meaning = record {
  int = λ k. word_of k % 256;
  null = 0;
  truth = λ a. Some (not (nat_eq a 0));
  un = λ op a. None;
  bin = sum_of;
  place = λ c f s p. 0;
  field = λ c a shape k. None;
  decay = λ c a shape. None;
  index = λ a i words. None;
  enter = λ c s f maker. Some s;
  share = λ s n i. Some s;
  link = λ s. None;
  has_frame = λ c f s. true;
}
