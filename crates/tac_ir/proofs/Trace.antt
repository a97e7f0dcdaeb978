-- The path of a life, walked forwards from its beginning.
use Rattle.std.proofs.Common.{ℕ, zero, suc, List, [], ◌∷◌, Bool, true, false, Option, Some, None}
use Rattle.tac_ir.specs.declared.code.Code.{Code}
use Rattle.tac_ir.specs.declared.run.Op.{Op}
use Rattle.tac_ir.specs.declared.run.Answer.{Answer}
use Rattle.tac_ir.specs.declared.run.Entry.{Entry}
use Rattle.tac_ir.specs.Layout.{instr_at}
use Rattle.tac_ir.specs.Effect.{Spot, is_last}
use Rattle.tac_ir.specs.Path.{Step, Start, next_spot, event_at}

-- entries, the newest first, put before later ones, the oldest first
abbrev pub onto : List Entry → List Entry → List Entry
onto [] later = later
onto (e ∷ own) later = onto own (e ∷ later)

-- one step, and then what goes on; at the end of a life, and at an event without an entry, nothing more
abbrev pub stride : (List Entry → List Step → List Step) → Bool → Option Op → Spot → List Entry → List Step → List Step
stride go true event spot later steps = steps
stride go false None spot later steps = go later (record { spot = spot; answer = Answer.Unit } ∷ steps)
stride go false (Some op) spot [] steps = steps
stride go false (Some op) spot (e ∷ later) steps = go later (record { spot = spot; answer = e.answer } ∷ steps)

-- these steps and at most so many more, with these entries to come, the oldest first
unfoldable pub trace : Code → Start → ℕ → List Entry → List Step → List Step
trace c s zero later steps = steps
trace c s (suc n) later steps =
    let spot = next_spot c s steps in
    stride (trace c s n) (is_last (instr_at c spot.point)) (event_at c s steps spot) spot later steps
