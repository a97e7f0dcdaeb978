-- Names of threads: branch i of thread n, from 1 to 15, is 16n + i.
use Rattle.std.specs.Prelude.{◌≡◌, ℕ, zero, suc, ◌+◌, ◌*◌, ◌/◌, ◌%◌, ◌<◌, ◌≤◌, true, false, nat_lt}

-- thread n is thread q or below it
pub data Below (q : ℕ) : ℕ → Type 0 where
  itself : (n : ℕ) → n ≡ q → Below q n
  branch : (n : ℕ) → 0 < n % 16 → Below q (n / 16) → Below q n

-- neither thread is below the other
pub record IsApart (q n : ℕ) : Type 0 where
  pub below : Below q n → ⊥
  pub above : Below n q → ⊥

-- of two threads one is the other or below it, or they are below two branches of one thread
pub data Kin (n m : ℕ) : Type 0 where
  is_above : Below n m → Kin n m
  is_below : Below m n → Kin n m
  are_beside : (p i j : ℕ) → (i ≡ j → ⊥) → 0 < i → i ≤ 15 → 0 < j → j ≤ 15 → Below (16 * p + i) n → Below (16 * p + j) m → Kin n m

-- how deep a thread is: thread 1 is 0 deep, and a branch one deeper than its parent; names of 64 bits are at most 15 deep
abbrev pub depth_within : ℕ → ℕ → ℕ
depth_within zero n = 0
depth_within (suc turns) n = elim (nat_lt n 16) [ true ↦ 0 | false ↦ suc (depth_within turns (n / 16)) ]

abbrev pub depth_of : ℕ → ℕ
depth_of n = depth_within 16 n
