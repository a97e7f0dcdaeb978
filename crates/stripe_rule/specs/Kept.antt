-- The rule of the table. There is one history of all entries, the newest first, and the ticket of an entry is the number of those before it.
use Rattle.std.specs.Prelude.{◌≡◌, ◌≢◌, ℕ, ◌+◌, ◌*◌, ◌<◌, ◌≤◌, min, true, List, [], length, slice_index}
use mathlib.Core.Option.{some}
use lib.ListN.{get_elem?}
use Rattle.atomic_table.specs.Table.{State}
use Rattle.tac_ir.specs.declared.run.Entry.{Entry}
use Rattle.tac_ir.specs.Served.{AreServed}
use Rattle.stripe_rule.specs.declared.plan.Terms.{Terms}
use Rattle.stripe_rule.specs.declared.content.Content.{Content}
use Rattle.stripe_rule.specs.declared.view.View.{View}
use Rattle.stripe_rule.specs.Holds.{Holds}
use Rattle.stripe_rule.specs.Kids.{ALL, Has, IsShared}
use Rattle.stripe_rule.specs.tools.Logs.{AllFrom, Logged, HasStop, times, total}

-- What holds of a view. A view with parts is live.
pub record Fits (p : Terms) (words : List ℕ) (h : List Entry) (v : View) : Type 0 where
  pub plan : 0 < v.parts → v.plan ≡ p
  -- no ticket below the floor is still to come, and the log has entries of the history
  pub floor : v.floor ≤ length h
  pub logged : Logged h v.log
  pub above : AllFrom v.floor v.log
  -- it may draw no more often than it has parts
  pub ready : v.ready ≤ v.parts
  pub idle : v.parts ≡ 0 → v.log ≡ []
  pub share : IsShared v.name v.parts v.kids
  -- no ticket that was told as too late is still to come
  pub late : v.notes.last_spent ≤ slice_index words (p.stripes + 1)
  -- once spent the clock is at the budget, and once halted the halt word is set
  pub spent : v.spent ≡ true → p.budget ≤ slice_index words (p.stripes + 1)
  pub halted : v.halted ≡ true → slice_index words (p.stripes + 2) ≢ 0
  -- its name is in the word of the lock that it holds, and what it holds is what lies there after the whole history
  pub held : v.holds ≡ true → (0 < v.name) × (v.stripe < p.stripes + 1) × (slice_index words v.stripe ≡ v.name) × Holds p v.stripe h v.content

-- live names differ
abbrev pub Names : List View → Type 0
Names vs = (i j : ℕ) (v w : View) → get_elem? vs i ≡ some v → get_elem? vs j ≡ some w → 0 < v.parts → 0 < w.parts → v.name ≡ w.name → i ≡ j

-- a live view has this name among its children, and no higher floor
abbrev pub Parented : List View → ℕ → ℕ → Type 0
Parented vs c floor = (j : ℕ) × (u : View) × (get_elem? vs j ≡ some u) × (0 < u.parts) × Has c u.kids × (u.name * 16 < c) × (c < u.name * 16 + 16) × (u.floor ≤ floor)

-- each live name but 1 is a child of a live view
abbrev pub Family : List View → Type 0
Family vs = (i : ℕ) (v : View) → get_elem? vs i ≡ some v → 0 < v.parts → v.name ≢ 1 → Parented vs v.name v.floor

-- a live view holds the lock k, and its name is in the lock's word
abbrev pub Holder : List View → List ℕ → ℕ → Type 0
Holder vs ws k = (j : ℕ) × (u : View) × (get_elem? vs j ≡ some u) × (u.holds ≡ true) × (u.stripe ≡ k) × (slice_index ws k ≡ u.name) × (0 < u.parts)

-- a view has an entry that stops the run
abbrev pub Stopped : List View → Type 0
Stopped vs = (j : ℕ) × (u : View) × (get_elem? vs j ≡ some u) × HasStop u.log

pub record Kept (p : Terms) (s : State Content View) : Type 0 where
  pub history : List Entry
  -- the clock counts the entries, up to the budget
  pub counted : length history ≡ min (slice_index s.words (p.stripes + 1)) p.budget
  pub legal : AreServed p.md p.input history
  -- each ticket that was drawn is in one log, once
  pub tickets : (t : ℕ) → (t < length history → total (λ v. times t v.log) s.views ≡ 1) × (length history ≤ t → total (λ v. times t v.log) s.views ≡ 0)
  pub fits : (id : ℕ) (v : View) → get_elem? s.views id ≡ some v → Fits p s.words history v
  -- the clock passes the budget by less than 2^57
  pub parts : total (λ v. v.parts) s.views ≡ ALL
  pub bound : slice_index s.words (p.stripes + 1) + total (λ v. v.ready) s.views ≤ p.budget + ALL
  -- a lock whose word is 0 has its content at home, and any other has one holder
  pub alone : (i j : ℕ) (v w : View) → get_elem? s.views i ≡ some v → get_elem? s.views j ≡ some w → v.holds ≡ true → w.holds ≡ true → v.stripe ≡ w.stripe → i ≡ j
  pub free : (k : ℕ) → k < p.stripes + 1 → slice_index s.words k ≡ 0 → (y : Content) × (get_elem? s.homes k ≡ some (some y)) × Holds p k history y
  pub busy : (k : ℕ) → k < p.stripes + 1 → slice_index s.words k ≢ 0 → Holder s.views s.words k
  pub names : Names s.views
  pub family : Family s.views
  pub halt : slice_index s.words (p.stripes + 2) ≢ 0 → Stopped s.views
  pub size : length s.words ≡ p.stripes + 3
  pub homes : length s.homes ≡ p.stripes + 1
