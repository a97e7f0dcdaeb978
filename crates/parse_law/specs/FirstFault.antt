-- The tree of a list of tokens, or the first token that fails: no list with a tree goes on with it, or the nesting counter passes the limit at it.
-- Where both hold of one token it is unexpected.
use Rattle.std.specs.Prelude.{◌≡◌, ℕ, suc, ◌+◌, ◌<◌, ◌≤◌, List, ◌++◌, length, take}
use Rattle.parse_law.specs.Nesting.{Grammar, Anywhere, Within}

module _ {T A : Type 0} (D : Grammar T A) where
  -- a list that has a tree begins with these tokens
  abbrev pub Continues : List T → Type 0
  Continues ts = (more : List T) × (a : A) × D Anywhere (ts ++ more) a

  module _ (limit : ℕ) where
    -- and its counter passes the limit at none of these tokens, but perhaps at as many as `last` of the last ones
    abbrev pub ContinuesWithin : ℕ → List T → Type 0
    ContinuesWithin last ts = (more : List T) × (a : A) × (free : ℕ) × (free ≤ last + length more)
        × D Anywhere (ts ++ more) a × D (Within limit free) (ts ++ more) a

    -- a is the tree, and no token is too deep
    pub record IsParsed (ts : List T) (a : A) : Type 0 where
      pub derived : D Anywhere ts a
      pub within : D (Within limit 0) ts a
      pub only : (b : A) → D Anywhere ts b → a ≡ b

    -- Some list with a tree begins with the tokens before token k, none of them too deep, but none with token k too. Where k is the number of
    -- tokens, they end too soon.
    pub record IsUnexpected (ts : List T) (k : ℕ) : Type 0 where
      pub place : k ≤ length ts
      pub before : ContinuesWithin 0 (take k ts)
      pub token : k < length ts → Continues (take (suc k) ts) → ⊥
      pub end : length ts ≤ k → (a : A) → D Anywhere ts a → ⊥

    -- Some list with a tree begins with the tokens up to token k, none before that too deep, and in each that does the counter passes the limit
    -- by then.
    pub record IsDeep (ts : List T) (k : ℕ) : Type 0 where
      pub place : k < length ts
      pub before : ContinuesWithin 1 (take (suc k) ts)
      pub each : ContinuesWithin 0 (take (suc k) ts) → ⊥
