-- An example: sums of numbers, in brackets too. The counter rises at the first token of each term and at each plus, and falls back where a term
-- or a sum ends.
use Rattle.std.specs.Prelude.{ℕ, suc, List, [], ◌∷◌}
use Rattle.parse_law.specs.Nesting.{May, Grammar}

pub data Token : Type 0 where
  Number : ℕ → Token
  Plus : Token
  Open : Token
  Close : Token

pub data Tree : Type 0 where
  Leaf : ℕ → Tree
  Sum : Tree → Tree → Tree

mutual
  -- c is the counter before these tokens
  pub data IsSum (M : May Token) : ℕ → List Token → Tree → List Token → Type 0 where
    sum : {c d : ℕ} {ts m rest : List Token} {a b : Tree} → IsTerm M c ts a m → IsMore M c a m b rest d → IsSum M c ts b rest

  -- from the left; d is the counter behind them
  pub data IsMore (M : May Token) : ℕ → Tree → List Token → Tree → List Token → ℕ → Type 0 where
    no_more : {c : ℕ} {a : Tree} {ts : List Token} → IsMore M c a ts a ts c
    plus : {c d : ℕ} {ts m rest : List Token} {a b x : Tree} → M c (Plus ∷ ts) → IsTerm M (suc c) ts b m → IsMore M (suc c) (Sum a b) m x rest d
        → IsMore M c a (Plus ∷ ts) x rest d

  pub data IsTerm (M : May Token) : ℕ → List Token → Tree → List Token → Type 0 where
    term : {c : ℕ} {ts rest : List Token} {a : Tree} → M c ts → IsInside M (suc c) ts a rest → IsTerm M c ts a rest

  pub data IsInside (M : May Token) : ℕ → List Token → Tree → List Token → Type 0 where
    number : {c n : ℕ} {rest : List Token} → IsInside M c (Number n ∷ rest) (Leaf n) rest
    bracket : {c : ℕ} {ts rest : List Token} {a : Tree} → IsSum M c ts a (Close ∷ rest) → IsInside M c (Open ∷ ts) a rest

abbrev pub Sums : Grammar Token Tree
Sums M ts a = IsSum M 0 ts a []
