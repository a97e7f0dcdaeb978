-- Runs along names are computed: along each list of names there is a run, which the function finds, or a name that is refused, which it finds too.
use Rattle.std.specs.Prelude.{◌≡◌, ℕ, ◌⊎◌, ℤ, List, reverse}
use Rattle.c_typed.specs.Typed.{Typed}
use Rattle.obj_mem.specs.declared.run.SrcRun.{SrcRun}
use Rattle.src_law.specs.Starts.{opening}
use Rattle.src_law.specs.Runs.{IsRunAlong, IsRefusedAt}
use Rattle.src_law.specs.tools.Reader.{source_reading}
use Rattle.src_law.specs.tools.Threads.{ran, refused, run_along}

pub record RunsAreComputed : Type 0 where
  pub runs : (t : Typed) (input : List ℤ) (names : List ℕ) (r : SrcRun) → IsRunAlong t input names r → run_along (source_reading t) (opening t input) names ≡ ran (reverse r.events) r.end
  pub refusals : (t : Typed) (input : List ℤ) (names : List ℕ) (k : ℕ) → IsRefusedAt t input names k → run_along (source_reading t) (opening t input) names ≡ refused k
  pub each : (t : Typed) (input : List ℤ) (names : List ℕ) → ((r : SrcRun) × IsRunAlong t input names r) ⊎ ((k : ℕ) × IsRefusedAt t input names k)
