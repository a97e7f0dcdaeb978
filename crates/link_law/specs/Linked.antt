-- Return links of a module: checks, sets, and facts on which definitions of calls reach which points.
use Rattle.std.specs.Prelude.{◌≡◌, ℕ, ◌⊎◌, true, Some, List, ◌∷◌, ◌++◌, ℤ, reverse, Contains}
use Rattle.dfi_base.specs.declared.numbers.Point.{Point}
use Rattle.tac_ir.specs.declared.code.Code.{Code}
use Rattle.tac_ir.specs.declared.code.Instr.{Instr}
use Rattle.tac_ir.specs.declared.run.Op.{Op}
use Rattle.tac_ir.specs.declared.run.Entry.{Entry}
use Rattle.tac_ir.specs.declared.run.Journal.{Journal}
use Rattle.tac_ir.specs.Module.{Module}
use Rattle.tac_ir.specs.Layout.{instr_at}
use Rattle.tac_ir.specs.Edges.{calls_fun, edges_from}
use Rattle.tac_ir.specs.Regions.{Region, regions_of}
use Rattle.tac_ir.specs.Bodies.{Parallel}
use Rattle.tac_ir.specs.NumberLaws.{new_call, is_calls}
use Rattle.tac_ir.specs.Answers.{has, set_of, is_checked}
use Rattle.tac_ir.specs.CoreRun.{CoreRun}
use Rattle.link_law.specs.Made.{MadeBy}

-- each read of a link is checked
abbrev pub LinkReadsAreChecked : Module → Type 0
LinkReadsAreChecked m = (p : Point) (v r : ℕ) → instr_at m.code p ≡ Instr.Ret v (Some r) → is_checked m r ≡ true

-- and its set holds definitions of calls alone, of any function
pub record ReadsCalls (m : Module) : Type 0 where
  pub checked : LinkReadsAreChecked m
  pub calls : (p : Point) (v r d : ℕ) → instr_at m.code p ≡ Instr.Ret v (Some r) → has (set_of m r) d ≡ true → is_calls m.code d ≡ true

-- d is the definition of the call of function f that stands at q
pub record IsCallAt (c : Code) (f d : ℕ) (q : Point) : Type 0 where
  pub calls : calls_fun f (instr_at c q) ≡ true
  pub def : new_call (instr_at c q) ≡ Some d

-- Each link read is checked, its set holds definitions of calls of its own function alone, and at each link read of a core run, whatever it is
-- answered, the definition of the call that made the frame is in the set.
pub record Linked (m : Module) : Type 0 where
  pub checked : LinkReadsAreChecked m
  pub calls : (p : Point) (v r d : ℕ) → instr_at m.code p ≡ Instr.Ret v (Some r) → has (set_of m r) d ≡ true → (q : Point) × IsCallAt m.code p.fun d q
  pub reads : (input : List ℤ) (budget : ℕ) (j : Journal) → CoreRun m input budget j → (later h : List Entry) (e : Entry) (v r w : ℕ) → reverse j.entries ≡ later ++ e ∷ h
      → instr_at m.code e.point ≡ Instr.Ret v (Some r) → e.op ≡ Op.Read (record { 0 = r }) w → (d : ℕ) × MadeBy m h e d × (has (set_of m r) d ≡ true)

-- `R p d f`: definition d reaches point p for the link of function f. What reaches p reaches q.
abbrev pub IsBelow : (Point → ℕ → ℕ → Type 0) → Point → Point → Type 0
IsBelow R p q = (d f : ℕ) → R p d f → R q d f

-- The rules on links: a call's definition reaches the entry of its function; what reaches a point reaches all points to which edges lead; what
-- reaches the end of each branch of a fork reaches its join. Nothing kills a link.
pub record IsLinkClosed (c : Code) (R : Point → ℕ → ℕ → Type 0) : Type 0 where
  pub calls : (p : Point) (f d : ℕ) → calls_fun f (instr_at c p) ≡ true → new_call (instr_at c p) ≡ Some d → R (record { fun = f; at = 0 }) d f
  pub edges : (p q : Point) → Contains (edges_from c p) q → IsBelow R p q
  pub joins : (p : Point) (join : ℕ) (entries : List ℕ) → instr_at c p ≡ Instr.Fork join entries → (d f : ℕ)
      → ((r : Region) → Contains (regions_of p.at join entries) r → R (record { fun = p.fun; at = r.last }) d f) → R (record { fun = p.fun; at = join }) d f

-- a call's definition may be found by a read of its link: it reaches there, or is written at the same time
abbrev pub MayFind : Code → (Point → ℕ → ℕ → Type 0) → Point → ℕ → Point → Type 0
MayFind c R p d q = R p d p.fun ⊎ Parallel c p q

-- the set of each link read has the definitions of calls of its function that the read may find, and no others
pub record AreLinkSets (m : Module) (R : Point → ℕ → ℕ → Type 0) : Type 0 where
  pub only : (p : Point) (v r d : ℕ) → instr_at m.code p ≡ Instr.Ret v (Some r) → has (set_of m r) d ≡ true → (q : Point) × IsCallAt m.code p.fun d q × MayFind m.code R p d q
  pub all : (p q : Point) (v r d : ℕ) → instr_at m.code p ≡ Instr.Ret v (Some r) → IsCallAt m.code p.fun d q → MayFind m.code R p d q → has (set_of m r) d ≡ true

pub record HasLinkTables (m : Module) (R : Point → ℕ → ℕ → Type 0) : Type 0 where
  pub checked : LinkReadsAreChecked m
  pub closed : IsLinkClosed m.code R
  pub sets : AreLinkSets m R
