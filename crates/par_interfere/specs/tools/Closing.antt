-- Tables that are closed under chains.
use Rattle.std.specs.Prelude.{◌≡◌, ℕ, Bool, true, List}
use Rattle.par_interfere.specs.tools.Calls.{in_table}

-- f leads to g in a table, by one step or more
pub data Leads (table : List (List Bool)) (f : ℕ) : ℕ → Type 0 where
  one : (g : ℕ) → in_table table f g ≡ true → Leads table f g
  more : (g h : ℕ) → Leads table f g → in_table table g h ≡ true → Leads table f h

-- the second table has what leads to what in the first
pub record IsClosure (old new : List (List Bool)) : Type 0 where
  pub sound : (f g : ℕ) → in_table new f g ≡ true → Leads old f g
  pub whole : (f g : ℕ) → Leads old f g → in_table new f g ≡ true
