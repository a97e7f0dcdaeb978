-- Parts of a return's effect, by where it goes back.
use Rattle.std.proofs.Common.{ℕ, true, false, List, Option, Some, None}
use Rattle.tac_ir.specs.declared.code.Code.{Code}
use Rattle.tac_ir.specs.Effect.{Spot, is_target, after}
use Rattle.tac_ir.specs.Path.{Step, resumed, link_read}

abbrev pub back_by : Code → List Step → Option Spot → Option Spot
back_by c earlier o = elim o [ None ↦ None | Some made ↦ Some (record { act = made.act; point = resumed c made.point (link_read earlier); second = false }) ]

abbrev pub written_by : Code → Option Spot → ℕ → ℕ → ℕ → Option ℕ
written_by c back a t v = elim (is_target c back a t) [ true ↦ Some v | false ↦ None ]

abbrev pub next_by : Option Spot → Spot → Spot
next_by back spot = elim back [ None ↦ spot | Some made ↦ after made ]
