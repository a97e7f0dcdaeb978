-- How a table and the list of waiting rules go on.
use Rattle.std.specs.Prelude.{◌≡◌, ℕ, suc, ◌<◌, ◌+◌, ◌^◌, ◌↔◌, Bool, true, false, Some, List, [], ◌∷◌, All, Contains, IsTrue, length, replicate, slice_get, slice_index_or, slice_set}
use Rattle.dfi_base.specs.Bits.{has, joined}
use Rattle.least_rows.specs.declared.rules.Rule.{Rule}
use Rattle.least_rows.specs.declared.rules.System.{System}
use Rattle.least_rows.specs.declared.index.Loading.{Loading}
use Rattle.least_rows.specs.Rules.{Table, row_of, row_has, IsClosed, IsFitting}
use Rattle.least_rows.specs.Derived.{Derived}
use Rattle.least_rows.specs.Solutions.{IsAlike, IsAbove}
use Rattle.least_rows.specs.tools.Reads.{reads_of, Reads}

-- the places of a row that it lacks, and those of all rows
abbrev pub gaps_in : List Bool → ℕ
gaps_in [] = 0
gaps_in (true ∷ row) = gaps_in row
gaps_in (false ∷ row) = 1 + gaps_in row

abbrev pub gaps : Table → ℕ
gaps [] = 0
gaps (row ∷ t) = gaps_in row + gaps t

-- a table has only what is derived
abbrev pub IsSound : System → Table → Table → Type 0
IsSound s start t = (r k : ℕ) → IsTrue (row_has t r k) → Derived s start r k

-- each rule but this one waits or is closed
abbrev pub IsSettled : System → ℕ → Table → List Bool → Type 0
IsSettled s but t waiting = (i : ℕ) (rule : Rule) → (i ≡ but → ⊥) → slice_get s.rules i ≡ Some rule → has waiting i ≡ false → IsClosed s t rule

-- From one table and list to another: `changed` tells whether the table is another.
pub record IsGrown (s : System) (but : ℕ) (t : Table) (waiting : List Bool) (u : Table) (waking : List Bool) (changed : Bool) : Type 0 where
  pub alike : IsAlike u t
  pub above : IsAbove t u
  pub sound : (start : Table) → length start ≡ length t → IsSound s start t → IsSound s start u
  pub long : length waking ≡ length waiting
  pub settled : IsSettled s but t waiting → IsSettled s but u waking
  pub fewer : changed ≡ true → gaps u < gaps t
  pub quiet : changed ≡ false → u ≡ t

-- One row gets more, and who reads it is woken.
pub record IsWritten (s : System) (t : Table) (waiting : List Bool) (to : ℕ) (more : List Bool) (u : Table) (waking : List Bool) (changed : Bool) : Type 0 where
  pub table : u ≡ slice_set t to (joined (row_of t to) more)
  pub tells : (changed ≡ false) ↔ (u ≡ t)
  pub long : length waking ≡ length waiting
  pub kept : (i : ℕ) → IsTrue (has waiting i) → IsTrue (has waking i)
  pub same : changed ≡ false → waking ≡ waiting
  pub woken : changed ≡ true → (i : ℕ) (rule : Rule) → slice_get s.rules i ≡ Some rule → Reads u rule to → IsTrue (has waking i)

-- A rule was applied: where it does not wait, it is closed.
pub record IsApplied (s : System) (rule : Rule) (t : Table) (waiting : List Bool) (u : Table) (waking : List Bool) (changed : Bool) : Type 0 where
  pub grown : (but : ℕ) → IsGrown s but t waiting u waking changed
  pub same : changed ≡ false → waking ≡ waiting
  pub closed : (i : ℕ) → slice_get s.rules i ≡ Some rule → has waking i ≡ false → IsClosed s u rule

-- the first rules stand in the lists of the rows that they read
abbrev pub ReadersAre : System → ℕ → List (List ℕ) → Type 0
ReadersAre s count lists =
    (i : ℕ) (rule : Rule) (r : ℕ) → i < count → slice_get s.rules i ≡ Some rule → Contains (reads_of rule) r → Contains (slice_index_or lists r []) i

-- the loads among rules that are numbered from here
abbrev pub loads_from : ℕ → List Rule → List Loading
loads_from i [] = []
loads_from i (Rule.Has row member ∷ rules) = loads_from (suc i) rules
loads_from i (Rule.Flow from mask to ∷ rules) = loads_from (suc i) rules
loads_from i (Rule.Shift from mask by to ∷ rules) = loads_from (suc i) rules
loads_from i (Rule.Meet first rest to ∷ rules) = loads_from (suc i) rules
loads_from i (Rule.Guard test member from to ∷ rules) = loads_from (suc i) rules
loads_from i (Rule.Store targets from ∷ rules) = loads_from (suc i) rules
loads_from i (Rule.Load sources to ∷ rules) = record { rule = i; sources = sources } ∷ loads_from (suc i) rules

-- the rules that read a row, and those that load, with their sources
pub record IsIndexOf (s : System) (lists : List (List ℕ)) (loading : List Loading) : Type 0 where
  pub readers : (i : ℕ) (rule : Rule) (r : ℕ) → slice_get s.rules i ≡ Some rule → Contains (reads_of rule) r → Contains (slice_index_or lists r []) i
  pub loads : (i sources to : ℕ) → slice_get s.rules i ≡ Some (Rule.Load sources to) → Contains loading (record { rule = i; sources = sources })

-- its numbers are those of rules and rows
pub record IsIndexWithin (rules rows : ℕ) (lists : List (List ℕ)) (loading : List Loading) : Type 0 where
  pub few : rows < 2 ^ 32
  pub long : length lists ≡ rows
  pub readers : All (All (λ i. i < rules)) lists
  pub loads : All (λ l. (l.rule < rules) × (l.sources < rows)) loading

-- All that a solver needs beside its table.
pub record IsReady (s : System) (t : Table) (waiting : List Bool) (lists : List (List ℕ)) (loading : List Loading) (asked empty : List Bool) : Type 0 where
  pub fits : IsFitting s t
  pub width : length asked ≡ s.width
  pub empty_is : empty ≡ replicate s.width false
  pub within : IsIndexWithin (length waiting) (length t) lists loading
  pub long : length waiting ≡ length s.rules
  pub index : IsIndexOf s lists loading
