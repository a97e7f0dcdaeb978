-- What the parts of a function ask of what does its calls.
use Rattle.std.specs.Prelude.{ℕ, ◌≤◌, List, Result}
use Rattle.obj_mem.specs.declared.value.Value.{Value}
use Rattle.src_law.specs.Acts.{a_value, Act}
use Rattle.src_law.specs.declared.heard.Heard.{Heard}
use Rattle.src_meaning.specs.declared.heard.Pause.{Pause}
use Rattle.src_meaning.specs.declared.level.Level.{Level}
use Rattle.src_meaning.specs.tools.Levels.{ReadsIn}
use denote.Ref.{Bor, MutBor}

-- in frames in which so many calls and turns may begin
pub record IsCalling (fuel : ℕ) (pre : Level → ℕ → Bor (List Value) → MutBor (List Heard) → Type 0)
    (post : Level → ℕ → Bor (List Value) → MutBor (List Heard) → Result Value Pause → MutBor (List Heard) → Type 0) : Type 0 where
  pub callable : (l : Level) (f : ℕ) (vs : Bor (List Value)) (old : MutBor (List Heard)) → l.fuel ≤ fuel → pre l f vs old
  pub reads : (l : Level) (f : ℕ) (vs : Bor (List Value)) (old new : MutBor (List Heard)) (r : Result Value Pause) → l.fuel ≤ fuel → post l f vs old r new
      → ReadsIn l a_value (Act.calls f vs.now) old.now r new.now
