use Rattle.std.proofs.Common.{◌≡◌, ℕ, ◌<◌, All, Some, slice_get}
use Rattle.par_interfere.specs.tools.Branches.{HasBranch, IsBranch}
use Rattle.tac_ir.specs.Regions.{Region, regions_of}
use Rattle.par_interfere.proofs.branches.add_branches.Given as goal

abbrev pub invariant-loop-i : goal.invariant-loop-i
invariant-loop-i l = record {
  each : All (IsBranch l.c l.points) l.branches.items;
  kept : (f : ℕ) (r : Region) → HasBranch l.initial.branches.items f r → HasBranch l.branches.items f r;
  added : (k : ℕ) (r : Region) → k < l.i → slice_get (regions_of l.p.at l.join l.entries) k ≡ Some r → HasBranch l.branches.items l.p.fun r;
}
