-- Parsers, as functions of the tokens that are left.
use Rattle.std.specs.Prelude.{ℕ, zero, suc, Bool, false, if◌then◌else◌, nat_lt, List, [], ◌∷◌, ◌++◌, length, Option, Some, None, is_some}

pub data Fault : Type 0 where
  unexpected : Fault
  deep : Fault

-- A fault has the number of tokens from the faulty one on; none are left where they end too soon.
pub data Answer (T A : Type 0) : Type 0 where
  done : A → List T → Answer T A
  fault : Fault → ℕ → Answer T A

abbrev pub Parser : Type 0 → Type 0 → Type 0
Parser T A = List T → Answer T A

abbrev pub and_then : {T A B : Type 0} → Answer T A → (A → Parser T B) → Answer T B
and_then (done a rest) f = f a rest
and_then (fault k n) f = fault k n

infixl 10 ◌>>=◌
abbrev pub ◌>>=◌ : {T A B : Type 0} → Parser T A → (A → Parser T B) → Parser T B
p >>= f = λ ts. and_then (p ts) f

infixl 10 ◌>>◌
abbrev pub ◌>>◌ : {T A B : Type 0} → Parser T A → Parser T B → Parser T B
p >> q = p >>= (λ _. q)

abbrev pub pure : {T A : Type 0} → A → Parser T A
pure a = λ ts. done a ts

infixr 11 ◌<$>◌
abbrev pub ◌<$>◌ : {T A B : Type 0} → (A → B) → Parser T A → Parser T B
f <$> p = p >>= (λ x. pure (f x))

-- a fault at the next token
abbrev pub refuse : {T A : Type 0} → Fault → Parser T A
refuse k = λ ts. fault k (length ts)

-- the next token, which stays
unfoldable pub peek : {T : Type 0} → Parser T (Option T)
peek [] = done None []
peek (t ∷ ts) = done (Some t) (t ∷ ts)

-- past the next token
unfoldable pub skip : {T : Type 0} → Parser T (Unit {0})
skip [] = done tt []
skip (t ∷ ts) = done tt ts

-- past a token that passes the test
unfoldable pub expect : {T : Type 0} → (T → Bool) → Parser T (Unit {0})
expect test [] = fault unexpected 0
expect test (t ∷ ts) = if test t then done tt ts else fault unexpected (suc (length ts))

-- past a token that has a value, which is given
abbrev pub accept_by : {T A : Type 0} → List T → Option A → Answer T A
accept_by ts None = fault unexpected (suc (length ts))
accept_by ts (Some a) = done a ts

unfoldable pub accept : {T A : Type 0} → (T → Option A) → Parser T A
accept value [] = fault unexpected 0
accept value (t ∷ ts) = accept_by ts (value t)

-- the end of the tokens
unfoldable pub finish : {T : Type 0} → Parser T (Unit {0})
finish [] = done tt []
finish (t ∷ ts) = fault unexpected (suc (length ts))

-- a form, and then the end of the tokens
abbrev pub whole : {T A : Type 0} → Parser T A → Parser T A
whole p = p >>= (λ a. finish >> pure a)

-- the nesting counter rises from c at the next token
abbrev pub rising : {T A : Type 0} → ℕ → ℕ → (ℕ → Parser T A) → Parser T A
rising limit c p = λ ts. if nat_lt c limit then p (suc c) ts else fault deep (length ts)

abbrev pub at_next : {T : Type 0} → (T → Bool) → Option T → Bool
at_next test None = false
at_next test (Some t) = test t

-- one of these tokens begins the form, at which the counter rises
abbrev pub level : {T A : Type 0} → (T → Bool) → ℕ → ℕ → (ℕ → Parser T A) → Parser T A
level begins limit c p = peek >>= (λ t. if at_next begins t then rising limit c p else refuse unexpected)

-- Turns, each from what the turns before it found, as long as the next token passes the test.
module _ {T X : Type 0} (goes : T → Bool) (part : X → Parser T X) where
  unfoldable pub turns : ℕ → X → Parser T X
  turns zero x = refuse unexpected
  turns (suc n) x = peek >>= (λ t. if at_next goes t then part x >>= turns n else pure x)

  -- each turn takes a token, so that these are enough
  unfoldable pub repeat : X → Parser T X
  repeat x = λ ts. turns (suc (length ts)) x ts

-- A list of equal parts, behind those that were found.
abbrev pub found_and : {A : Type 0} → List A → A → List A
found_and found a = found ++ a ∷ []

abbrev pub many : {T A : Type 0} → (T → Bool) → Parser T A → List A → Parser T (List A)
many goes item = repeat goes (λ found. found_and found <$> item)

-- a value and the counter behind it, joined by an operator to the ones before
abbrev pub joined : {A : Type 0} → (A × ℕ) → (A → A → A) → (A × ℕ) → A × ℕ
joined left f right = (f left.0 right.0, right.1)

-- Operators of one level, from the left. The counter rises at each, and falls back only where the whole expression ends.
module _ {T A : Type 0} (limit : ℕ) (operator : T → Option (A → A → A)) (lower : ℕ → Parser T (A × ℕ)) where
  abbrev pub operand : (A × ℕ) → Parser T (A × ℕ)
  operand left = rising limit left.1 (λ c. accept operator >>= (λ f. joined left f <$> lower c))

  abbrev pub operators : (A × ℕ) → Parser T (A × ℕ)
  operators = repeat (λ t. is_some (operator t)) operand

  abbrev pub binary : ℕ → Parser T (A × ℕ)
  binary c = lower c >>= operators
