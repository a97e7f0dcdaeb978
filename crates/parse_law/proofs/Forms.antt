-- What it means that a parser is a form of a grammar: what is done is derived, alone, and stays so before every token that may follow; a fault excludes
-- each derivation that begins so; where tokens are wanted, a chosen few complete the form; and at a token that is too deep a derivation goes on.
use Rattle.std.proofs.Common.{◌≡◌, ℕ, zero, suc, ◌<◌, ◌≤◌, List, [], ◌∷◌, ◌++◌, length}
use Rattle.parse_law.specs.tools.Parsing.{Fault, unexpected, deep, Answer, done, fault, Parser}
use Rattle.parse_law.specs.Nesting.{May}

-- A form: `D may ts a rest` says that ts begin with the tokens of a, and then comes rest.
abbrev pub Form : Type 0 → Type 0 → Type 1
Form T A = May T → List T → A → List T → Type 0

-- which tokens may come behind a form of this value; the end always may
abbrev pub Follow : Type 0 → Type 0 → Type 1
Follow T A = A → T → Type 0

abbrev pub Fits : {T : Type 0} → (T → Type 0) → List T → Type 0
Fits S [] = Unit {0}
Fits S (t ∷ ts) = S t

-- with x in place of r a parser that looks one token ahead sees no difference
abbrev pub Alike : {T : Type 0} → (T → Type 0) → List T → List T → Type 0
Alike S [] x = Fits S x
Alike S (t ∷ r) [] = ⊥
Alike S (t ∷ r) (u ∷ x) = t ≡ u

-- it may rise from each number below the limit
abbrev pub Lenient : {T : Type 0} → ℕ → May T → Type 0
Lenient {T} limit M = (c : ℕ) (us : List T) → c < limit → M c us

-- it may rise from every number at each of the last tokens, as many as these
abbrev pub Free : {T : Type 0} → List T → May T → Type 0
Free {T} ts M = (c : ℕ) (us : List T) → length us ≤ length ts → M c us

-- it may rise from no other number before these tokens
abbrev pub Strict : {T : Type 0} → ℕ → List T → May T → Type 0
Strict {T} limit ts M = (c : ℕ) (us : List T) → length ts < length us → M c us → c < limit

module _ {T : Type 0} (limit : ℕ) where
  -- some tokens complete the form behind `before` and `spare`, whatever follows; from `spare` on the counter is free
  pub record Completes {A : Type 0} (D : Form T A) (S : Follow T A) (before spare : List T) : Type 1 where
    pub tokens : List T
    pub value : A
    pub holds : (M : May T) → Lenient limit M → (r : List T) → Free (spare ++ (tokens ++ r)) M → Fits (S value) r
        → D M (before ++ (spare ++ (tokens ++ r))) value r

  -- the token of a fault
  pub record Spot (ts : List T) (n : ℕ) : Type 0 where
    pub front : List T
    pub token : T
    pub rest : List T
    pub whole : ts ≡ front ++ token ∷ rest
    pub place : length rest ≡ n

  abbrev pub Barred : Fault → List T → May T → Type 0
  Barred unexpected x M = Unit {0}
  Barred deep x M = Strict limit x M

  abbrev pub Reaches : Fault → {A : Type 0} → Form T A → Follow T A → List T → T → Type 1
  Reaches unexpected D S front token = Unit {1}
  Reaches deep D S front token = Completes D S front (token ∷ [])

  module _ {A : Type 0} (p : Parser T A) (D : Form T A) (S : Follow T A) (ts : List T) where
    -- a is derived, and nothing else
    pub record Done (a : A) (r : List T) : Type 1 where
      pub front : List T
      pub whole : ts ≡ front ++ r
      pub stays : (x : List T) → Alike (S a) r x → p (front ++ x) ≡ done a x
      pub derived : (x : List T) → Alike (S a) r x → (M : May T) → Lenient limit M → D M (front ++ x) a x
      pub only : (x : List T) → Alike (S a) r x → (M : May T) (b : A) (m : List T) → D M (front ++ x) b m → Fits (S b) m → (a ≡ b) × (x ≡ m)

    -- nothing is derived that begins with the tokens up to that of the fault
    pub record Failed (k : Fault) (n : ℕ) : Type 1 where
      pub at : Spot ts n
      pub stays : (x : List T) → p (at.front ++ at.token ∷ x) ≡ fault k (suc (length x))
      pub none : (x : List T) (M : May T) → Barred k x M → (b : A) (m : List T) → D M (at.front ++ at.token ∷ x) b m → Fits (S b) m → ⊥
      pub reaches : Reaches k D S at.front at.token

    -- more tokens are wanted, and some complete the form
    pub record Wants : Type 1 where
      pub completes : Completes D S ts []
      pub none : (M : May T) (b : A) (m : List T) → D M ts b m → Fits (S b) m → ⊥

    abbrev pub Judge : Answer T A → Type 1
    Judge (done a r) = Done a r
    Judge (fault unexpected zero) = Wants
    Judge (fault unexpected (suc n)) = Failed unexpected n
    Judge (fault deep zero) = Unit {1} → ⊥
    Judge (fault deep (suc n)) = Failed deep n

  -- p is the form D, where S holds of what follows
  pub record Law {A : Type 0} (p : Parser T A) (D : Form T A) (S : Follow T A) : Type 1 where
    pub at : (ts : List T) → Judge p D S ts (p ts)
