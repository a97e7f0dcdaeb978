-- Words, and one word of a table. A tool of proof.
use Rattle.std.specs.Prelude.{ℕ, zero, suc, ◌-◌, Bool, true, false, ◌&&◌, not, max, if◌then◌else◌, nat_eq, List, [], ◌∷◌, length, take, drop, Option, Some, None}
use Rattle.std.specs.Cmp.Lexicographic.{pointwise}
use Rattle.line_format.specs.tools.Format.{Next, more, last, Format, give, byte, chain, loop, Answer, done, fault}

abbrev pub exactly : ℕ → ℕ → Option (Unit {0})
exactly c b = if nat_eq b c then Some tt else None

-- these bytes
unfoldable pub word : List ℕ → Format (Unit {0})
word [] = give tt
word (c ∷ cs) = chain (byte (exactly c)) (λ u. word cs)

-- words with what each stands for
abbrev pub Table : Type 0 → Type 0
Table A = List (List ℕ × A)

-- what is left of the words that go on with this byte
abbrev pub left_by : {A : Type 0} → ℕ → Table A → Table A
left_by b [] = []
left_by b (([], a) ∷ rows) = left_by b rows
left_by b ((c ∷ w, a) ∷ rows) = elim (nat_eq b c) [ true ↦ (w, a) ∷ left_by b rows | false ↦ left_by b rows ]

-- the first of them ends, or some goes on, or there is none
abbrev pub picked : {A : Type 0} → Table A → Option (Next (Table A) A)
picked [] = None
picked (([], a) ∷ rows) = Some (last a)
picked ((c ∷ w, a) ∷ rows) = Some (more ((c ∷ w, a) ∷ rows))

-- one of the words
abbrev pub one_of : {A : Type 0} → Table A → Format A
one_of table = loop (λ rows. byte (λ b. picked (left_by b rows))) table

-- w is the front of v
abbrev pub begins : List ℕ → List ℕ → Bool
begins [] v = true
begins (c ∷ w) [] = false
begins (c ∷ w) (d ∷ v) = nat_eq c d && begins w v

-- w is the front of no word, and no word is the front of w
abbrev pub is_alone : {A : Type 0} → List ℕ → Table A → Bool
is_alone w [] = true
is_alone w ((v, a) ∷ rows) = not (begins w v) && (not (begins v w) && is_alone w rows)

-- no word is the front of another
abbrev pub are_distinct : {A : Type 0} → Table A → Bool
are_distinct [] = true
are_distinct ((w, a) ∷ rows) = is_alone w rows && are_distinct rows

-- how many bytes two lists have in common from their fronts on
abbrev pub common : List ℕ → List ℕ → ℕ
common [] v = 0
common (c ∷ w) [] = 0
common (c ∷ w) (d ∷ v) = elim (nat_eq c d) [ true ↦ suc (common w v) | false ↦ 0 ]

-- how far some word goes
abbrev pub furthest : {A : Type 0} → Table A → List ℕ → ℕ
furthest [] ts = 0
furthest ((w, a) ∷ rows) ts = max (common w ts) (furthest rows ts)

-- the word comes next
abbrev pub comes : List ℕ → List ℕ → Bool
comes w ts = pointwise nat_eq (take (length w) ts) w

-- what the first of these words that comes next stands for; else the fault is behind the longest front of one
abbrev pub look : {A : Type 0} → Table A → Table A → List ℕ → Answer A
look all [] ts = fault (length ts - furthest all ts)
look all ((w, a) ∷ rows) ts = if comes w ts then done a (drop (length w) ts) else look all rows ts

abbrev pub are_filled : {A : Type 0} → Table A → Bool
are_filled [] = true
are_filled (([], a) ∷ rows) = false
are_filled ((c ∷ w, a) ∷ rows) = are_filled rows

-- there is a word, none is empty, and none is the front of another
abbrev pub is_table : {A : Type 0} → Table A → Bool
is_table [] = false
is_table (row ∷ rows) = are_filled (row ∷ rows) && are_distinct (row ∷ rows)
