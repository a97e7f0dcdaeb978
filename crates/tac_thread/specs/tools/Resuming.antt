-- One entry of a fork, and an index.
use Rattle.std.specs.Prelude.{ℕ, suc, ◌&&◌, nat_le, nat_lt, if◌then◌else◌}

-- one more than an entry at or before an index, where the fork's join stands behind that index; else 0
abbrev pub entry_here : ℕ → ℕ → ℕ → ℕ
entry_here e join at = if (nat_le e at && nat_lt at join) then suc e else 0
