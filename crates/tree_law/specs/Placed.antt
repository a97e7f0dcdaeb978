-- Where the activations of a life stand, whatever its values are and whatever a link said.
use Rattle.std.specs.Prelude.{◌≡◌, ℕ, suc, ◌-◌, ◌/◌, ◌%◌, ◌<◌, true, Some, List, [], ◌∷◌, slice_get}
use Rattle.tac_ir.specs.declared.code.Code.{Code}
use Rattle.tac_ir.specs.declared.code.Instr.{Instr}
use Rattle.tac_ir.specs.declared.code.Lined.{Lined}
use Rattle.tac_ir.specs.Layout.{lines_of}
use Rattle.tac_ir.specs.Path.{region_in}
use Rattle.tac_ir.specs.Edges.{calls_fun}
use Rattle.tac_thread.specs.declared.guest.Activation.{Activation}
use Rattle.tac_thread.specs.declared.guest.Stage.{Stage}
use Rattle.tac_thread.specs.Life.{Life, instr_of}
use Rattle.tac_thread.specs.Threads.{Lives, is_waiting}

-- one more than the entry of the innermost region of an activation, 0 in none
abbrev pub region_of : {V S : Type 0} → Code → Activation V S → ℕ
region_of c x = region_in (lines_of c x.fun) x.at

-- there is an instruction where an activation stands
abbrev pub HasLine : {V S : Type 0} → Code → Activation V S → Type 0
HasLine c x = (l : Lined) × (slice_get (lines_of c x.fun) x.at ≡ Some l)

-- The first activation is one of function f in region number r; each other is in none, and was called by a call of its function at
-- which its caller stands. Each stands at an instruction.
unfoldable pub AreStanding : {V S : Type 0} → Code → ℕ → ℕ → Activation V S → List (Activation V S) → Type 0
AreStanding c f r x [] = (x.fun ≡ f) × (region_of c x ≡ r) × HasLine c x
AreStanding c f r x (y ∷ callers) = (region_of c x ≡ 0) × (calls_fun x.fun (instr_of c y) ≡ true) × HasLine c x × AreStanding c f r y callers

-- so does one that is to be entered
abbrev pub EntersWell : {V S : Type 0} → Code → Activation V S → Stage V S → Type 0
EntersWell c x (Stage.Entering callee) = (region_of c callee ≡ 0) × (calls_fun callee.fun (instr_of c x) ≡ true) × HasLine c callee
EntersWell c x stage = Unit {0}

-- the life began in function f, in region number r
pub record IsPlaced {V S : Type 0} (c : Code) (f r : ℕ) (l : Life V S) : Type 0 where
  pub stands : AreStanding c f r l.top l.callers
  pub enters : EntersWell c l.top l.stage

-- the life is that of branch i of a life that waits at its fork: it began in the branch's region
pub record IsBranchOf {V S : Type 0} (c : Code) (p : Life V S) (i : ℕ) (l : Life V S) : Type 0 where
  pub waits : is_waiting p.stage ≡ true
  pub join : ℕ
  pub entries : List ℕ
  pub fork : instr_of c p.top ≡ Instr.Fork join entries
  pub entry : ℕ
  pub listed : slice_get entries (i - 1) ≡ Some entry
  pub placed : IsPlaced c p.top.fun (suc entry) l

-- thread 1 began at the entry of main, each other as a branch of its parent
pub record ArePlaced {V S : Type 0} (c : Code) (f : Lives V S) : Type 0 where
  pub root : (l : Life V S) → f 1 ≡ Some l → IsPlaced c c.main 0 l
  pub branches : (n : ℕ) (p l : Life V S) → 0 < n % 16 → (n ≡ 1 → ⊥) → f n ≡ Some l → f (n / 16) ≡ Some p → IsBranchOf c p (n % 16) l
