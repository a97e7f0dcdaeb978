-- A stack that was entered has the frame of its function.
use Rattle.std.proofs.Common.{◌≡◌, ℕ, ◌+◌, Bool, true, false, Option, Some, None, sym, subst, arith, IfSome}
use Rattle.std.specs.Prelude.{◌-◌, nat_le, nat_lt, if◌then◌else◌}
use Rattle.std.proofs.lemmas.Bool.{le-leb}
use Rattle.tac_thread.specs.declared.flat.FlatStack.{FlatStack}
use Rattle.tac_thread.specs.Flat.{with_frame}

abbrev IsEntered : ℕ → Option FlatStack → Type 0
IsEntered words o = IfSome o (λ callee. nat_le (callee.base + words) callee.top ≡ true)

pub has_called : (words : ℕ) (s : FlatStack) (o : Option FlatStack) → o ≡ with_frame words s → IsEntered words o
has_called words s o is = subst (IsEntered words) (sym is) (by (nat_lt (s.«end» - s.top) words))
  where
    by : (b : Bool) → IsEntered words (if b then None else Some (record { base = s.top; top = s.top + words; «end» = s.«end» }))
    by true = tt
    by false = le-leb (s.top + words) (s.top + words) (omega arith)
