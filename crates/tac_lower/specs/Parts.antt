-- Pieces of code. A piece takes the next numbers and hands on those behind it; how many instructions it has does not depend on them.
use Rattle.std.specs.Prelude.{ℕ, ◌+◌, Bool, true, false, List, [], ◌∷◌, ◌++◌}
use Rattle.tac_lower.specs.declared.draft.Numbers.{Numbers}
use Rattle.tac_lower.specs.declared.draft.Taken.{Taken}
use Rattle.tac_lower.specs.declared.draft.Draft.{Draft}
use Rattle.tac_lower.specs.declared.draft.Ends.{Ends}

pub record Made (A : Type 0) : Type 0 where
  pub result : A
  pub drafts : List Draft
  pub next : Numbers

-- a piece of code, by the ends of the loop round it
pub record Part (A : Type 0) : Type 0 where
  pub points : ℕ
  pub make : Ends → Numbers → Made A

-- no code
abbrev pub given : {A : Type 0} → A → Part A
given a = record { points = 0; make = λ ends n. record { result = a; drafts = []; next = n } }

abbrev pub bumped : Bool → ℕ → ℕ
bumped true n = n + 1
bumped false n = n

abbrev pub behind : Taken → Numbers → Numbers
behind k n = record {
  temp = bumped k.temp n.temp;
  def = bumped k.def n.def;
  read = bumped k.read n.read;
  at = n.at + 1;
}

-- one instruction; it leaves the next temporary, whether it writes it or not
abbrev pub one : Taken → (Numbers → Draft) → Part ℕ
one k draft = record {
  points = 1;
  make = λ ends n. record { result = n.temp; drafts = draft n ∷ []; next = behind k n };
}

abbrev pub followed : {A B : Type 0} → Made A → Made B → Made B
followed a b = record { result = b.result; drafts = a.drafts ++ b.drafts; next = b.next }

-- A piece, and then one that depends on what the first leaves. The number of its instructions does not, so any result counts them.
abbrev pub chained : {A B : Type 0} → A → Part A → (A → Part B) → Part B
chained any p q = record {
  points = p.points + (q any).points;
  make = λ ends n. followed (p.make ends n) ((q (p.make ends n).result).make ends (p.make ends n).next);
}

-- the same for a piece that leaves a temporary
infixr 7 ◌▷◌
abbrev pub ◌▷◌ : {B : Type 0} → Part ℕ → (ℕ → Part B) → Part B
p ▷ q = chained 0 p q

-- one piece behind another
infixr 7 ◌⨟◌
abbrev pub ◌⨟◌ : {B : Type 0} → Part ℕ → Part B → Part B
p ⨟ q = p ▷ λ a. q

-- a piece that depends on the index at which it begins, though the number of its instructions does not
abbrev pub from_here : {A : Type 0} → (ℕ → Part A) → Part A
from_here p = record { points = (p 0).points; make = λ ends n. (p n.at).make ends n }

-- the body of a loop
abbrev pub within : {A : Type 0} → Ends → Part A → Part A
within ends p = record { points = p.points; make = λ outer n. p.make ends n }

-- each in turn
abbrev pub in_turn : List (Part ℕ) → Part ℕ
in_turn [] = given 0
in_turn (p ∷ ps) = p ⨟ in_turn ps

-- each in turn, with the temporaries that they leave behind these
abbrev pub gathered : List ℕ → List (Part ℕ) → Part (List ℕ)
gathered temps [] = given temps
gathered temps (p ∷ ps) = p ▷ λ a. gathered (temps ++ a ∷ []) ps
