-- What an answer does to the activations of a life, whatever the values are: one table for all instructions.
use Rattle.std.specs.Prelude.{◌≡◌, ℕ, true, ◌⊎◌, Option, Some, None, List, ◌∷◌, Contains}
use Rattle.tac_ir.specs.declared.code.Code.{Code}
use Rattle.tac_ir.specs.declared.code.Instr.{Instr}
use Rattle.tac_ir.specs.Edges.{calls_fun, edges_from}
use Rattle.tac_thread.specs.declared.guest.Activation.{Activation}
use Rattle.tac_thread.specs.declared.guest.Stage.{Stage}
use Rattle.tac_thread.specs.declared.want.ReplyOf.{ReplyOf}
use Rattle.tac_thread.specs.Meaning.{Meaning}
use Rattle.tac_thread.specs.Life.{Life, instr_of}
use Rattle.tac_thread.specs.Answered.{back_at, resumed}
use Rattle.tac_thread.specs.Threads.{point_of}
use Rattle.tree_law.specs.Placed.{region_of, HasLine}

-- no activation is to be entered
abbrev pub IsPlain : {V S : Type 0} → Stage V S → Type 0
IsPlain (Stage.Entering callee) = ⊥
IsPlain stage = Unit {0}

-- an activation goes on in its function, its region and its frame, and comes to an instruction
pub record IsOnward {V S : Type 0} (c : Code) (x y : Activation V S) : Type 0 where
  pub fun : y.fun ≡ x.fun
  pub stack : y.stack ≡ x.stack
  pub region : region_of c y ≡ region_of c x
  pub line : HasLine c x → HasLine c y

-- the newest activation goes on so along an edge
pub record GoesOn {V S : Type 0} (c : Code) (l k : Life V S) : Type 0 where
  pub onward : IsOnward c l.top k.top
  pub edge : Contains (edges_from c (point_of l)) (point_of k)
  pub callers : k.callers ≡ l.callers
  pub stage : k.stage ≡ Stage.Ready

-- the callee of the call at which an activation stands: it begins at its function's entry, with the stack that the answer has
pub record IsCallee {V S : Type 0} (c : Code) (x : Activation V S) (reply : ReplyOf V S) (callee : Activation V S) : Type 0 where
  pub entry : callee.at ≡ 0
  pub region : region_of c callee ≡ 0
  pub line : HasLine c callee
  pub call : calls_fun callee.fun (instr_of c x) ≡ true
  pub stack : reply ≡ ReplyOf.Stack callee.stack

-- the link that was read
abbrev pub link_in : {V S : Type 0} → Stage V S → Option V
link_in (Stage.Leaving link) = Some link
link_in stage = None

-- the newest activation returns, and its caller goes on behind the call by which returns go on
pub record IsLeft {V S : Type 0} (m : Meaning V S) (c : Code) (l k : Life V S) (y : Activation V S) (callers : List (Activation V S)) : Type 0 where
  pub value : ℕ
  pub read : Option ℕ
  pub ret : instr_of c l.top ≡ Instr.Ret value read
  pub called_by : l.callers ≡ y ∷ callers
  pub given : V
  pub back : k.top ≡ resumed c y (back_at m c (link_in l.stage) y) given
  pub onward : IsOnward c y k.top
  pub below : k.callers ≡ callers
  pub stage : k.stage ≡ Stage.Ready

-- An answer makes l into k: the newest activation goes on, is to enter another, enters it at once, enters the one that it was to enter,
-- leaves, or stays as it is.
pub data Moves {V S : Type 0} (m : Meaning V S) (c : Code) (reply : ReplyOf V S) (l : Life V S) : Life V S → Type 0 where
  goes_on : (k : Life V S) → GoesOn c l k → Moves m c reply l k
  to_enter : (k : Life V S) (callee : Activation V S) → IsCallee c l.top reply callee → k.top ≡ l.top → k.callers ≡ l.callers → k.stage ≡ Stage.Entering callee → Moves m c reply l k
  enters_now : (k : Life V S) (callee : Activation V S) → IsCallee c l.top reply callee → k.top ≡ callee → k.callers ≡ l.top ∷ l.callers → k.stage ≡ Stage.Ready → Moves m c reply l k
  enters : (k : Life V S) (callee : Activation V S) → l.stage ≡ Stage.Entering callee → k.top ≡ callee → k.callers ≡ l.top ∷ l.callers → k.stage ≡ Stage.Ready → Moves m c reply l k
  leaves : (k : Life V S) (y : Activation V S) (callers : List (Activation V S)) → IsLeft m c l k y callers → Moves m c reply l k
  stays : (k : Life V S) → k.top ≡ l.top → k.callers ≡ l.callers → (k.stage ≡ l.stage) ⊎ IsPlain k.stage → Moves m c reply l k
