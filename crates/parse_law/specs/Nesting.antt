-- Where the nesting counter of a derivation may rise.
use Rattle.std.specs.Prelude.{ℕ, ◌<◌, List, length}

-- may the counter rise from this number at the first of these tokens?
abbrev pub May : Type 0 → Type 1
May T = ℕ → List T → Type 0

abbrev pub Anywhere : {T : Type 0} → May T
Anywhere c ts = Unit {0}

-- from below the limit alone, but at the last `free` tokens from any number
abbrev pub Within : {T : Type 0} → ℕ → ℕ → May T
Within limit free c ts = free < length ts → c < limit

-- A grammar: `D may ts a` says that a is derived from all of ts, and that the counter rises only where it may.
abbrev pub Grammar : Type 0 → Type 0 → Type 1
Grammar T A = May T → List T → A → Type 0
