-- What the code does where the reading is known.
use Rattle.std.proofs.Common.{◌≡◌, List, Result, Ok, Err, ap, sym, subst}
use Rattle.std.specs.Result.{MatchResult}
use Rattle.src_law.specs.declared.heard.Heard.{Heard}
use Rattle.src_law.specs.tools.Heard.{got}
use Rattle.src_meaning.specs.declared.heard.Pause.{Pause}
use Rattle.src_meaning.specs.tools.Follows.{Follows, Pauses}

-- a value that was computed, with nothing heard
pub given : {A : Type 0} (x : A) (l : List Heard) (r : Result A Pause) → MatchResult r (λ y. y ≡ x) (λ e. e ≡ Pause.Memory) → Follows (got x l) r l
given x l (Ok y) is = ap (λ z. got z l) (sym is)
given {A} x l (Err e) is = subst (λ p. Pauses (got x l) p) (sym is) tt
