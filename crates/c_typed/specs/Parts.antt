-- Parts of a text: how many tokens they have, which marks they leave, and the rules that are broken in them.
use Rattle.std.specs.Prelude.{ℕ, ◌+◌, List, [], ◌∷◌, ◌++◌, Option, Some, None}
use Rattle.dfi_base.specs.declared.numbers.Line.{Line}
use Rattle.c_typed.specs.Marks.{Mark, History}
use Rattle.c_typed.specs.Faults.{Rule, Fault}

-- a place of the text: what stands before it, and how many tokens (parentheses round an expression are not counted: no two
-- faults are told apart by them)
pub record Place : Type 0 where
  pub before : History
  pub at : ℕ

-- the broken rules of a part, and what it is where its own and those of its parts are kept
pub record Judged (A : Type 0) : Type 0 where
  pub faults : List Fault
  pub value : Option A

pub record Part (A : Type 0) : Type 0 where
  pub tokens : ℕ
  -- in the order of the text
  pub marks : List Mark
  pub judge : Place → Judged A

-- marks behind a history
abbrev pub marked : List Mark → History → History
marked [] h = h
marked (m ∷ ms) h = marked ms (m ∷ h)

abbrev pub behind : {A : Type 0} → Part A → Place → Place
behind p here = record { before = marked p.marks here.before; at = here.at + p.tokens }

-- nothing of the text
abbrev pub given : {A : Type 0} → A → Part A
given a = record { tokens = 0; marks = []; judge = λ here. record { faults = []; value = Some a } }

-- so many tokens without a rule of their own
abbrev pub tokens : ℕ → Part (Unit {0})
tokens n = record { tokens = n; marks = []; judge = λ here. record { faults = []; value = Some tt } }

abbrev pub mark : Mark → Part (Unit {0})
mark m = record { tokens = 0; marks = m ∷ []; judge = λ here. record { faults = []; value = Some tt } }

abbrev pub both_values : {A B C : Type 0} → (A → B → C) → Option A → Option B → Option C
both_values f (Some a) (Some b) = Some (f a b)
both_values f _ _ = None

abbrev pub both : {A B C : Type 0} → (A → B → C) → Judged A → Judged B → Judged C
both f a b = record { faults = a.faults ++ b.faults; value = both_values f a.value b.value }

-- one part and then another
abbrev pub joined : {A B C : Type 0} → (A → B → C) → Part A → Part B → Part C
joined f p q = record {
  tokens = p.tokens + q.tokens;
  marks = p.marks ++ q.marks;
  judge = λ here. both f (p.judge here) (q.judge (behind p here));
}

infixl 9 ◌⊗◌
abbrev pub ◌⊗◌ : {A B : Type 0} → Part A → Part B → Part (A × B)
p ⊗ q = joined (λ a b. (a, b)) p q

-- the value of the first, or of the second
infixl 9 ◌<⊗◌
abbrev pub ◌<⊗◌ : {A B : Type 0} → Part A → Part B → Part A
p <⊗ q = joined (λ a b. a) p q

infixl 9 ◌⊗>◌
abbrev pub ◌⊗>◌ : {A B : Type 0} → Part A → Part B → Part B
p ⊗> q = joined (λ a b. b) p q

abbrev pub changed : {A B : Type 0} → (A → B) → Judged A → Judged B
changed {A} {B} f j = record { faults = j.faults; value = elim j.value [ None ↦ None | Some a ↦ Some (f a) ] }

infixr 8 ◌<$>◌
abbrev pub ◌<$>◌ : {A B : Type 0} → (A → B) → Part A → Part B
f <$> p = record { tokens = p.tokens; marks = p.marks; judge = λ here. changed f (p.judge here) }

-- Rules of a whole, at its first token: they are kept or broken only where its parts have no fault that leaves them without a value.
abbrev pub kept_by : {B : Type 0} → Rule → Line → ℕ → List Fault → Option B → Judged B
kept_by rule line at faults (Some b) = record { faults = faults; value = Some b }
kept_by rule line at faults None = record { faults = record { at = at; rule = rule; line = line } ∷ faults; value = None }

abbrev pub ruled_by : {A B : Type 0} → Rule → Line → (A → Option B) → ℕ → List Fault → Option A → Judged B
ruled_by rule line keeps at faults None = record { faults = faults; value = None }
ruled_by rule line keeps at faults (Some a) = kept_by rule line at faults (keeps a)

abbrev pub ruled : {A B : Type 0} → Rule → Line → (A → Option B) → Place → Judged A → Judged B
ruled rule line keeps here j = ruled_by rule line keeps here.at j.faults j.value

abbrev pub obeys : {A B : Type 0} → Rule → Line → (History → A → Option B) → Part A → Part B
obeys rule line keeps p = record { tokens = p.tokens; marks = p.marks; judge = λ here. ruled rule line (keeps here.before) here (p.judge here) }

-- a rule that is broken at the first token, whatever follows
abbrev pub refused : {A B : Type 0} → Rule → Line → Part A → Part B
refused rule line p = record {
  tokens = p.tokens;
  marks = p.marks;
  judge = λ here. record { faults = record { at = here.at; rule = rule; line = line } ∷ (p.judge here).faults; value = None };
}

-- faults of a part beside those that it has
abbrev pub with_faults : {A : Type 0} → (Place → List Fault) → Part A → Part A
with_faults more p = record {
  tokens = p.tokens;
  marks = p.marks;
  judge = λ here. record { faults = more here ++ (p.judge here).faults; value = (p.judge here).value };
}

-- each in turn, with a token between two
abbrev pub separated : {A : Type 0} → List (Part A) → Part (List A)
separated [] = given []
separated (p ∷ []) = joined (λ a rest. a ∷ rest) p (given [])
separated (p ∷ ps) = joined (λ a rest. a ∷ rest) (p <⊗ tokens 1) (separated ps)

-- each in turn
abbrev pub in_turn : {A : Type 0} → List (Part A) → Part (List A)
in_turn [] = given []
in_turn (p ∷ ps) = joined (λ a rest. a ∷ rest) p (in_turn ps)

-- a part that may be absent
abbrev pub if_there : {A : Type 0} → Option (Part A) → Part (Option A)
if_there None = given None
if_there (Some p) = (λ a. Some a) <$> p
