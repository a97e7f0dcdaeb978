-- A value as often as it is promised. A tool of proof.
use Rattle.std.specs.Prelude.{ℕ, zero, suc, List, [], ◌∷◌, ◌++◌}
use Rattle.line_format.specs.tools.Format.{Next, more, last, Format, give, chain, loop}

-- those that were found, and how many are owed behind the next
abbrev pub one_on : {A : Type 0} → List A × ℕ → A → Next (List A × ℕ) (List A)
one_on (found, zero) a = last (found ++ a ∷ [])
one_on (found, suc n) a = more (found ++ a ∷ [], n)

abbrev pub next_one : {A : Type 0} → Format A → List A × ℕ → Format (Next (List A × ℕ) (List A))
next_one f s = chain f (λ a. give (one_on s a))

-- so many values, one behind the other
abbrev pub times : {A : Type 0} → Format A → ℕ → Format (List A)
times f zero = give []
times f (suc n) = loop (next_one f) ([], n)
