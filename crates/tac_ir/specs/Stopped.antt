-- The entries of a life of a thread in a run that may have stopped.
use Rattle.std.specs.Prelude.{◌≡◌, true, List, ◌∷◌}
use Rattle.tac_ir.specs.declared.code.Code.{Code}
use Rattle.tac_ir.specs.declared.run.Entry.{Entry}
use Rattle.tac_ir.specs.Path.{Step, Start, IsPath, stops}
use Rattle.tac_ir.specs.Threads.{Want, IsWanted}

-- the entry is what was wanted, and it stopped the run
pub record IsStopOf (w : Want) (e : Entry) : Type 0 where
  pub point : e.point ≡ w.point
  pub op : e.op ≡ w.op
  pub stop : stops e.answer ≡ true

-- They are those of a path; or those of a path with one in front that is what the life wanted, where that one stopped the run.
pub data AreOfLife (c : Code) (s : Start) : List Entry → Type 0 where
  goes : (steps : List Step) (own : List Entry) → IsPath c s steps own → AreOfLife c s own
  stopped : (w : Want) (e : Entry) (own : List Entry) → IsWanted c s own w → IsStopOf w e → AreOfLife c s (e ∷ own)
