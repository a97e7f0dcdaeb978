-- Laws: each kind of step keeps the rule, and what a close tells.
use Rattle.std.specs.Prelude.{◌≡◌, ℕ, ◌+◌, ◌*◌, ◌%◌, ◌^◌, ◌<◌, ◌≤◌, ◌==◌, true, false, List, [], ◌∷◌, length, slice_index, reverse}
use prog.Atomic.{either}
use mathlib.Core.Option.{none, some}
use lib.ListN.{get_elem?}
use Rattle.atomic_table.specs.Table.{step, Allows, Splits, Joins, opening, Final, Seen}
use Rattle.tac_ir.specs.declared.run.Entry.{Entry}
use Rattle.guest_log.specs.Shared.{Shared}
use Rattle.dfi_base.specs.Names.{depth_of}
use Rattle.stripe_rule.specs.declared.plan.Terms.{Terms}
use Rattle.stripe_rule.specs.declared.content.Content.{Content}
use Rattle.stripe_rule.specs.declared.view.View.{View}
use Rattle.stripe_rule.specs.Holds.{Holds}
use Rattle.stripe_rule.specs.Kids.{Has}
use Rattle.stripe_rule.specs.Views.{root, parent, child, joined, nobody}
use Rattle.stripe_rule.specs.Kept.{Kept}
use Rattle.stripe_rule.specs.Steps.{Takes, Looks, Draws, Tells, Hears, Halts, Gives, IsOwn, Serves}
use Rattle.stripe_rule.specs.tools.Logs.{HasStop}

-- a pass with the slots that it has taken
abbrev pub Own : Type 0
Own = List (ℕ × Content)

-- what lies under the locks at the start
abbrev pub IsBlank : Terms → List Content → Type 0
IsBlank p xs = (length xs ≡ p.stripes + 1) × ((k : ℕ) (y : Content) → get_elem? xs k ≡ some y → Holds p k [] y)

-- all words are 0 at the start, and thread 1 has the one pass
abbrev pub Opens : Type 0
Opens = (p : Terms) (ws : List ℕ) (xs : List Content) → length ws ≡ p.stripes + 3 → ((k : ℕ) → slice_index ws k ≡ 0) → IsBlank p xs → Kept p (opening ws xs (root p))

-- a lock is taken by one that holds none
abbrev pub StepTakes : Type 0
StepTakes = (p : Terms) (id k : ℕ) (v : View) (c : Own) → k < p.stripes + 1 → v.holds ≡ false → 0 < v.name → 0 < v.parts
    → Allows (Kept p) (p.stripes + 1) id (v, c) k (λ n. either (n == 0) v.name n) (Takes (step (p.stripes + 1) k 0 v.name none) (v, c))

abbrev pub StepLooks : Type 0
StepLooks = (p : Terms) (id : ℕ) (v : View) (c : Own) → 0 < v.parts
    → Allows (Kept p) (p.stripes + 1) id (v, c) (p.stripes + 1) (λ n. n) (Looks (step (p.stripes + 1) (p.stripes + 1) 0 0 none) (v, c))

-- a ticket is drawn by one that is ready, that holds the lock of the entry, and whose answer is right whatever came before
abbrev pub StepDraws : Type 0
StepDraws = (p : Terms) (id : ℕ) (v : View) (c : Own) (e : Entry) (y : Content) → p.budget < 2 ^ 62 → 0 < v.parts → v.ready ≡ 1 → IsOwn p v e → Serves p v e y
    → Allows (Kept p) (p.stripes + 1) id (v, c) (p.stripes + 1) (λ n. (n + 1) % 2 ^ 64) (Draws e y (step (p.stripes + 1) (p.stripes + 1) 1 0 none) (v, c))

-- what is given back is what the view holds
abbrev pub StepGives : Type 0
StepGives = (p : Terms) (id k : ℕ) (v : View) (y : Content) → k < p.stripes + 1 → v.holds ≡ true → v.stripe ≡ k → y ≡ v.content
    → Allows (Kept p) (p.stripes + 1) id (v, (k, y) ∷ []) k (λ _. 0) (λ _. Gives (step (p.stripes + 1) k 0 0 none) (v, (k, y) ∷ []) 0)

abbrev pub StepTells : Type 0
StepTells = (p : Terms) (id k : ℕ) (v : View) (c : Own)
    → Allows (Kept p) (p.stripes + 1) id (v, c) k (λ n. n) (Tells (step (p.stripes + 1) k 0 0 none) (v, c))

abbrev pub StepHears : Type 0
StepHears = (p : Terms) (id : ℕ) (v : View) (c : Own)
    → Allows (Kept p) (p.stripes + 1) id (v, c) (p.stripes + 2) (λ n. n) (Hears (step (p.stripes + 1) (p.stripes + 2) 0 0 none) (v, c))

-- the halt word is set by one whose log has a stop
abbrev pub StepHalts : Type 0
StepHalts = (p : Terms) (id : ℕ) (v : View) (c : Own) → HasStop v.log
    → Allows (Kept p) (p.stripes + 1) id (v, c) (p.stripes + 2) (λ _. 1) (λ _. Halts (step (p.stripes + 1) (p.stripes + 2) 1 0 none) (v, c) 1)

-- a branch that does not live yet; parts are always left for it
abbrev pub StepSplits : Type 0
StepSplits = (p : Terms) (id : ℕ) (v : View) (name : ℕ) → 0 < v.parts → 0 < v.name → depth_of v.name < 14 → v.name * 16 < name → name < v.name * 16 + 16 → ¬ (Has name v.kids)
    → Splits (Kept p) id v (parent name v) (child name v)

-- a branch that lives, holds nothing and has no live branch
abbrev pub StepJoins : Type 0
StepJoins = (p : Terms) (id : ℕ) (v : View) (other : ℕ) (w : View) → 0 < v.parts → 0 < w.parts → 0 < v.name → Has w.name v.kids → w.holds ≡ false → w.kids ≡ []
    → Joins (Kept p) id v other w (joined v w) nobody

-- The log of thread 1 at the end, where no branch lives: one memory served it, it is at most the budget long and exactly that where the pass is spent, and where the
-- pass is halted it has a stop.
pub record IsClosed (p : Terms) (v : View) : Type 0 where
  pub shared : Shared p.md p.input (reverse v.log)
  pub most : length v.log ≤ p.budget
  pub spent : v.spent ≡ true → length v.log ≡ p.budget
  pub halted : v.halted ≡ true → HasStop v.log

abbrev pub Closes : Type 0
Closes = (p : Terms) (id : ℕ) (v : View) (ws : List ℕ) (xs : List Content) → v.name ≡ 1 → v.kids ≡ [] → 0 < v.parts → Final (Seen (Kept p) id v) ws xs → IsClosed p v
