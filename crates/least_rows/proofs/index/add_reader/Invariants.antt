use Rattle.std.proofs.Common.{◌≡◌, ℕ, ◌<◌, [], All, Contains, length, take, get_or}
use Rattle.least_rows.proofs.index.add_reader.Given as goal

abbrev pub invariant-loop-r : goal.invariant-loop-r
invariant-loop-r l = record {
  long : length l.readers.items ≡ length l.fn.readers.items;
  within : (n : ℕ) → l.rule < n → All (All (λ i. i < n)) l.fn.readers.items → All (All (λ i. i < n)) l.readers.items;
  kept : (r i : ℕ) → Contains (get_or l.fn.readers.items r []) i → Contains (get_or l.readers.items r []) i;
  added : (r : ℕ) → Contains (take l.r-index l.reads) r → Contains (get_or l.readers.items r []) l.rule;
}
