-- Rows whose keys rise, as many as are promised: a key and one or more rising members. A tool of proof.
use Rattle.std.specs.Prelude.{ℕ, zero, suc, true, List, [], ◌∷◌, ◌++◌}
use Rattle.line_format.specs.tools.Format.{Next, more, last, Format, give, chain, loop}
use Rattle.line_format.specs.tools.Members.{members}

-- S says which key may come next; a key must leave as many greater ones as rows are owed behind it
module _ {K S : Type 0} (key : S → ℕ → Format K) (next : K → S) where
  abbrev pub row : S → ℕ → Format (K × List ℕ)
  row s owed = chain (key s owed) (λ k. chain (members [] 32 10 true) (λ ms. give (k, ms)))

  -- the rows that were found, what may come next, and how many rows are owed behind the next
  abbrev pub row_on : List (K × List ℕ) → ℕ → K × List ℕ → Next (List (K × List ℕ) × (S × ℕ)) (List (K × List ℕ))
  row_on found zero x = last (found ++ x ∷ [])
  row_on found (suc n) x = more (found ++ x ∷ [], (next x.0, n))

  abbrev pub next_row : List (K × List ℕ) × (S × ℕ) → Format (Next (List (K × List ℕ) × (S × ℕ)) (List (K × List ℕ)))
  next_row t = chain (row t.1.0 t.1.1) (λ x. give (row_on t.0 t.1.1 x))

  abbrev pub rows : S → ℕ → Format (List (K × List ℕ))
  rows s zero = give []
  rows s (suc n) = loop next_row ([], (s, n))
