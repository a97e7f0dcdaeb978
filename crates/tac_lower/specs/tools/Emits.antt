-- What emitting a piece does to a writer. (A tool of proof: no public clause names it.)
use Rattle.std.specs.Prelude.{◌≡◌, ℕ, ◌+◌, ◌<◌, ◌≤◌, ◌++◌, false, Result, Ok, Err}
use Rattle.c_typed.specs.declared.types.ObjectType.{ObjectType}
use Rattle.tac_ir.specs.declared.code.Place.{Place}
use Rattle.tac_lower.specs.declared.draft.Ends.{Ends}
use Rattle.tac_lower.specs.declared.writer.Writer.{Writer}
use Rattle.tac_lower.specs.declared.writer.Spot.{Spot}
use Rattle.tac_lower.specs.declared.writer.Stop.{Stop}
use Rattle.c_typed.specs.Elaboration.{Operation}
use Rattle.tac_lower.specs.Parts.{Part, Made, ◌▷◌}
use Rattle.tac_lower.specs.Instrs.{field, set, store}
use Rattle.tac_lower.specs.Values.{Yield, direct, left, deeper, carried}

pub record Exact {A : Type 0} (m : Made A) (old new : Writer) (a : A) : Type 0 where
  pub result : a ≡ m.result
  pub drafts : new.drafts ≡ old.drafts ++ m.drafts
  pub next : new.next ≡ m.next

-- a dry run counts instructions and no more
pub record Emitted {A : Type 0} (m : Made A) (points : ℕ) (old new : Writer) (a : A) : Type 0 where
  pub count : new.next.at ≡ old.next.at + points
  pub room : new.room ≡ old.room
  pub dry : new.dry ≡ old.dry
  pub exact : old.dry ≡ false → Exact m old new a

abbrev pub Emits : {A : Type 0} → Part A → Ends → Writer → Writer → Result A Stop → Type 0
Emits p ends old new (Ok a) = Emitted (p.make ends old.next) p.points old new a
Emits p ends old new (Err Stop.Full) = old.room < old.next.at + p.points
Emits p ends old new (Err Stop.Memory) = Unit {0}

-- a direct place has no code
abbrev pub Yields : Yield → Ends → Writer → Writer → Result Spot Stop → Type 0
Yields (left p) ends old new (Ok (Spot.Left a)) = Emitted (p.make ends old.next) p.points old new a
Yields (left p) ends old new (Ok (Spot.Direct q)) = ⊥
Yields (left p) ends old new (Err Stop.Full) = old.room < old.next.at + p.points
Yields (direct p) ends old new (Ok (Spot.Left a)) = ⊥
Yields (direct p) ends old new (Ok (Spot.Direct q)) = (q ≡ p) × (new ≡ old)
Yields (direct p) ends old new (Err Stop.Full) = ⊥
Yields y ends old new (Err Stop.Memory) = Unit {0}

-- what follows a place that was found
abbrev pub at_spot : {B : Type 0} → (Place → Part B) → (ℕ → Part B) → Spot → Part B
at_spot d l (Spot.Direct p) = d p
at_spot d l (Spot.Left a) = l a

-- a field of a place that was found
abbrev pub part_at : ℕ → ObjectType → ℕ → Spot → Yield
part_at line struct k (Spot.Direct p) = direct (deeper p k)
part_at line struct k (Spot.Left a) = left (field line struct k a)

-- a write to a place that was found
abbrev pub write_at : ℕ → Spot → ℕ → Part ℕ
write_at line spot b = at_spot (λ p. set line p b) (λ a. store line a b) spot

-- an operator on two temporaries, and the write of what it gives
abbrev pub changed : ℕ → Operation → Spot → ℕ → ℕ → Part ℕ
changed line p spot old b = carried line p old b ▷ λ c. write_at line spot c

-- a value that was left
abbrev pub spots : Result ℕ Stop → Result Spot Stop
spots (Ok a) = Ok (Spot.Left a)
spots (Err e) = Err e

-- the temporary where a value is wanted
abbrev pub temp_in : Result Spot Stop → Result ℕ Stop
temp_in (Ok (Spot.Left a)) = Ok a
temp_in (Ok (Spot.Direct p)) = Ok 0
temp_in (Err e) = Err e

-- how many instructions a piece will have (a dry run does not ask)
pub record Counted (points : ℕ) (w : Writer) (n : ℕ) : Type 0 where
  pub few : n ≤ 16384
  pub exact : w.dry ≡ false → n ≡ points

abbrev pub Counts : {A : Type 0} → Part A → Writer → Result ℕ Stop → Type 0
Counts p w (Ok n) = Counted p.points w n
Counts p w (Err Stop.Full) = w.room < w.next.at + p.points
Counts p w (Err Stop.Memory) = Unit {0}
