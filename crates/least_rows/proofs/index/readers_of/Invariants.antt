use Rattle.std.proofs.Common.{◌≡◌, ◌<◌, All, length}
use Rattle.least_rows.specs.tools.Growing.{ReadersAre}
use Rattle.least_rows.proofs.index.readers_of.Given as goal

abbrev pub invariant-loop-i : goal.invariant-loop-i
invariant-loop-i l = record {
  long : length l.readers.items ≡ l.rows;
  within : All (All (λ i. i < length l.system.rules)) l.readers.items;
  are : ReadersAre l.system l.i l.readers.items;
}
