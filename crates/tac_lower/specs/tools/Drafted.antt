-- The drafts of all functions, or why there are none. (A tool of proof: no public clause names it.)
use Rattle.std.specs.Prelude.{◌≡◌, ℕ, ◌+◌, ◌<◌, Bool, false, nat_lt, List, [], ◌∷◌, length, Option, Some, None, Result, Ok, Err}
use Rattle.dfi_base.specs.declared.numbers.Line.{Line}
use Rattle.c_typed.specs.Typed.{Typed}
use Rattle.c_typed.specs.declared.types.ObjectType.{ObjectType}
use Rattle.c_typed.specs.declared.program.Function.{Function}
use Rattle.tac_lower.specs.declared.draft.Draft.{Draft}
use Rattle.tac_lower.specs.declared.fault.LowerFault.{LowerFault}
use Rattle.tac_lower.specs.declared.fault.LowerWhat.{LowerWhat}
use Rattle.tac_lower.specs.declared.progress.Progress.{Progress}
use Rattle.tac_lower.specs.declared.writer.Stop.{Stop}
use Rattle.tac_lower.specs.Parts.{Part}
use Rattle.tac_lower.specs.Functions.{first_of, no_loop}
use Rattle.tac_lower.specs.CodeOf.{drafts_of}
use Rattle.tac_lower.specs.Limits.{Share, passing, point_limit}

-- the points of a function
abbrev pub draft_share : Function → List Draft → Share
draft_share f ds = record { count = length ds; line = f.line.0 }

abbrev pub draft_shares : List Function → List (List Draft) → List Share
draft_shares (f ∷ fs) (ds ∷ rest) = draft_share f ds ∷ draft_shares fs rest
draft_shares _ _ = []

pub record AllDrafts (t : Typed) (d : List (List Draft)) : Type 0 where
  pub drafts : d ≡ drafts_of t
  pub within : passing point_limit (draft_shares t.functions (drafts_of t)) ≡ None

abbrev pub Drafts : Typed → Result (List (List Draft)) LowerFault → Type 0
Drafts t (Ok d) = AllDrafts t d
Drafts t (Err (LowerFault.Big what line)) = (what ≡ LowerWhat.Points) × (passing point_limit (draft_shares t.functions (drafts_of t)) ≡ Some line.0)
Drafts t (Err LowerFault.Memory) = Unit {0}

-- before the first function
pub record IsBegun (globals : ℕ) (p : Progress) : Type 0 where
  pub next : p.next ≡ record { temp = 0; def = globals + 1; read = 1; at = 0 }
  pub room : p.room ≡ point_limit

-- a function was written
pub record IsWritten (p : Part ℕ) (f : Function) (old new : Progress) (ds : List Draft) : Type 0 where
  pub drafts : ds ≡ (p.make no_loop (first_of f old.next)).drafts
  pub next : new.next ≡ (p.make no_loop (first_of f old.next)).next
  pub room : new.room + p.points ≡ old.room

abbrev pub Writes : Part ℕ → Function → Progress → Progress → Result (List Draft) Stop → Type 0
Writes p f old new (Ok ds) = IsWritten p f old new ds
Writes p f old new (Err Stop.Full) = old.room < p.points
Writes p f old new (Err Stop.Memory) = Unit {0}

abbrev pub fault_of : Stop → Line → LowerFault
fault_of Stop.Full line = LowerFault.Big LowerWhat.Points line
fault_of Stop.Memory line = LowerFault.Memory

-- whether a function gives a pointer
abbrev pub is_pointer : Option ObjectType → Bool
is_pointer None = false
is_pointer (Some t) = nat_lt 0 t.stars
