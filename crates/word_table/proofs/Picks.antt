-- How many members a list has from one on, each step-th.
use Rattle.std.proofs.Common.{ℕ, ◌+◌, ◌-◌, ◌*◌, ◌/◌, ◌<◌, ◌≤◌, arith, inl, inr}
use Rattle.std.proofs.lemmas.Bool.{cases_lt}
use Rattle.std.proofs.lemmas.Nat.{div-add-mod', mod_below}

pub ahead : (n j k : ℕ) → j < k → j * n + n ≤ k * n
ahead n j k less = grind arith

below : (n j k : ℕ) → j ≤ k → j * n ≤ k * n
below n j k le = grind arith

pub counted : (x n s k : ℕ) → s < n → k < (x + n - 1 - s) / n → k * n + s < x
counted x n s k own less =
    let far = ahead n k ((x + n - 1 - s) / n) less in
    let whole = div-add-mod' (x + n - 1 - s) n in
    omega (arith, far, whole, own)

pub counts_all : (x n s k : ℕ) → s < n → k * n + s < x → k < (x + n - 1 - s) / n
counts_all x n s k own less = elim (cases_lt k ((x + n - 1 - s) / n)) [
  | inl before ↦ before
  | inr behind ↦ absurd (
      let near = below n ((x + n - 1 - s) / n) k behind in
      let whole = div-add-mod' (x + n - 1 - s) n in
      let rest = mod_below (x + n - 1 - s) n (omega (arith, own)) in
      omega (arith, near, whole, rest, less, own))
]
