-- The words of one stripe of a memory, beside the history of a run.
use Rattle.std.specs.Prelude.{◌≡◌, ℕ, ◌+◌, ◌*◌, ◌%◌, ◌<◌, List, ◌∷◌, length, slice_index, slice_set, nat_lt, ◌&&◌, if◌then◌else◌}
use Rattle.tac_ir.specs.declared.run.Entry.{Entry}
use Rattle.tac_ir.specs.declared.run.Op.{Op}
use Rattle.tac_ir.specs.Module.{Module}
use Rattle.tac_ir.specs.Layout.{memory_words}
use Rattle.tac_ir.specs.Last.{last_write}
use Rattle.tac_ir.specs.Answers.{class_of}
use Rattle.word_table.specs.declared.bits.Bits.{Bits}
use Rattle.word_table.specs.Words.{Words}
use Rattle.word_table.specs.Holds.{HoldsAfter}
use Rattle.word_table.specs.tools.Picked.{IsPicked}

-- the words that leave `stripe` when divided by `stripes`: word w stands at w / stripes
pub record Stripe : Type 0 where
  pub stripe : ℕ
  pub stripes : ℕ
  pub values : List ℕ
  pub classes : List ℕ

-- the words of these places in memory, and no other, have the values of their last writes and the classes of the definitions that wrote them
pub record HoldsBy (word : ℕ → ℕ) (m : Module) (h : List Entry) (values classes : List ℕ) : Type 0 where
  pub both : length classes ≡ length values
  pub within : (k : ℕ) → k < length values → word k < memory_words m.size
  pub all : (k : ℕ) → word k < memory_words m.size → k < length values
  pub value : (k : ℕ) → k < length values → slice_index values k ≡ (last_write m.code h (word k)).value
  pub class : (k : ℕ) → k < length values → slice_index classes k ≡ class_of m (last_write m.code h (word k)).def

abbrev pub HoldsStripe : Module → List Entry → Stripe → Type 0
HoldsStripe m h t = HoldsBy (λ k. k * t.stripes + t.stripe) m h t.values t.classes

-- a stripe has each stripes-th of these values and classes, from its own on
pub record IsStripeOf (values classes : List ℕ) (stripe stripes : ℕ) (t : Stripe) : Type 0 where
  pub own : t.stripe ≡ stripe
  pub count : t.stripes ≡ stripes
  pub values_picked : IsPicked values stripe stripes t.values
  pub classes_picked : IsPicked classes stripe stripes t.classes

-- the same as words of a whole memory, with the rows of its reads
abbrev pub words_of : Stripe → List Bits → Words
words_of t rows = record { values = t.values; classes = t.classes; rows = rows }

-- with a value and a class at this place, where there is one
abbrev pub with_word : Stripe → ℕ → ℕ → ℕ → Stripe
with_word t class k v =
    if nat_lt k (length t.values) && nat_lt k (length t.classes)
    then record { stripe = t.stripe; stripes = t.stripes; values = slice_set t.values k v; classes = slice_set t.classes k class }
    else t

-- a word is one of the stripe
abbrev pub IsIn : Stripe → ℕ → Type 0
IsIn t w = w % t.stripes ≡ t.stripe

-- Law: the whole memory is the one stripe of 1.
abbrev pub WholeIsOneStripe : Type 0
WholeIsOneStripe = (m : Module) (h : List Entry) (t : Words) → HoldsAfter m h t
    → HoldsStripe m h (record { stripe = 0; stripes = 1; values = t.values; classes = t.classes })

-- Law: a stripe of the words of a memory holds after the same history.
abbrev pub StripeOfWhole : Type 0
StripeOfWhole = (m : Module) (h : List Entry) (t : Words) (stripe stripes : ℕ) (part : Stripe) → HoldsAfter m h t
    → IsStripeOf t.values t.classes stripe stripes part → HoldsStripe m h part

-- Law: a write to a word of another stripe leaves this one.
abbrev pub OtherStripesStay : Type 0
OtherStripesStay = (m : Module) (h : List Entry) (t : Stripe) (e : Entry) (d w v : ℕ) → HoldsStripe m h t → (IsIn t w → ⊥) → t.stripe < t.stripes
    → e.op ≡ Op.Write (record { 0 = d }) w v → HoldsStripe m (e ∷ h) t
