-- What a part of a program does: it comes to a result, or does an event and goes on by the answer. Parts follow one another.
use Rattle.std.specs.Prelude.{◌≡◌, ℕ, suc, Bool, true, false, List, Option, Some, None}
use Rattle.obj_mem.specs.declared.value.Value.{Value}
use Rattle.obj_mem.specs.declared.event.Event.{Event}
-- how a statement ends
pub use Rattle.src_law.specs.declared.heard.End.{End}
pub use Rattle.src_law.specs.declared.heard.End.TheVariants.{Done as done, Broken as broken, Again as again, Returned as returned}

-- what a part comes to
pub data Kind : Type 0 where
  nothing : Kind
  a_value : Kind
  a_truth : Kind
  some_values : Kind
  an_end : Kind

abbrev pub Result : Kind → Type 0
Result nothing = Unit {0}
Result a_value = Value
Result a_truth = Bool
Result some_values = List Value
Result an_end = End

-- what an event that a part may do by itself is answered
abbrev pub kind_of : Event → Option Kind
kind_of (Event.Rd p) = Some a_value
kind_of (Event.Wr p v) = Some nothing
kind_of (Event.Same p q ne) = Some a_value
kind_of (Event.New site items words) = Some a_value
kind_of (Event.Free p) = Some nothing
kind_of Event.In = Some a_value
kind_of Event.Left = Some a_value
kind_of (Event.Out v) = Some nothing
kind_of Event.Ret = Some nothing
kind_of e = None

-- behind these a thread does nothing
abbrev pub is_last : Event → Bool
is_last Event.Zero = true
is_last Event.Bad = true
is_last e = false

mutual
  pub data Act : Kind → Type 0 where
    gives : {k : Kind} → Result k → Act k
    -- an event, whose answer is the result
    does : {k : Kind} (e : Event) → kind_of e ≡ Some k → Act k
    -- an event behind which nothing of the thread follows
    stops : {k : Kind} (e : Event) → is_last e ≡ true → Act k
    -- a part, and what follows by its result
    then : {j k : Kind} → Act j → (Result j → Act k) → Act k
    -- a call of a function, with arguments
    calls : ℕ → List Value → Act a_value
    -- turns: a condition, a body, a step
    loops : Act a_truth → Act an_end → Act an_end → Act an_end
    -- branches, and when all have come to their ends what follows them
    forks : Acts → Act an_end

  pub data Acts : Type 0 where
    no_more : Acts
    beside : Act an_end → Acts → Acts

infixr 7 ◌▷◌
abbrev pub ◌▷◌ : {j k : Kind} → Act j → (Result j → Act k) → Act k
a ▷ f = then a f

-- one part behind another, whose result says nothing
infixr 7 ◌⨟◌
abbrev pub ◌⨟◌ : {k : Kind} → Act nothing → Act k → Act k
a ⨟ b = then a (λ u. b)

abbrev pub count : Acts → ℕ
count no_more = 0
count (beside a rest) = suc (count rest)
