-- The words of a stripe: what they answer, and what a write makes of them.
use Rattle.std.proofs.Common.{◌≡◌, ℕ, ◌+◌, ◌*◌, ◌/◌, ◌%◌, ◌<◌, ◌≤◌, List, ◌∷◌, length, Bool, None, refl, arith, sym, ◌∙◌, ap, subst, ◌⊎◌, inl, inr, ⊎_elim}
use Rattle.std.specs.Prelude.{nat_lt, ◌&&◌, not, slice_index, slice_set, if◌then◌else◌}
use Rattle.std.proofs.lemmas.Bool.{cases_lt, cases_eq, lt-ltb, le-ltb}
use Rattle.std.proofs.lemmas.List.{get_or-set_same, get_or-set_other, length-set}
use Rattle.std.proofs.lemmas.Nat.{div-add-mod', mod-mul-add}
use Rattle.tac_ir.specs.declared.run.Op.{Op}
use Rattle.tac_ir.specs.declared.run.Answer.{Answer}
use Rattle.tac_ir.specs.declared.run.Stop.{Stop}
use Rattle.tac_ir.specs.declared.run.Entry.{Entry}
use Rattle.tac_ir.specs.Module.{Module}
use Rattle.tac_ir.specs.Layout.{memory_words}
use Rattle.tac_ir.specs.Last.{Written, write_to, last_write}
use Rattle.tac_ir.specs.Answers.{class_of, is_checked, is_allowed, read_answer, write_answer}
use Rattle.word_table.specs.declared.bits.Bits.{Bits}
use Rattle.word_table.specs.Decides.{DecideReads}
use Rattle.word_table.specs.Words.{Words}
use Rattle.word_table.specs.Holds.{HoldsAfter}
use Rattle.word_table.specs.Stripes.{Stripe, HoldsBy, HoldsStripe, IsIn, IsStripeOf, WholeIsOneStripe, StripeOfWhole, OtherStripesStay, with_word}
use Rattle.word_table.specs.tools.Deciding.{found_by, decided}
use Rattle.word_table.proofs.Decides.{found, missed, within, past, answer_in, writes_inside, writes_outside}
use Rattle.word_table.proofs.Picks.{ahead}
use Rattle.word_table.proofs.Writes.{last_more, last_by, last_put, last_kept, stopped_writes_nothing}

-- What is answered.

beyond : (word : ℕ → ℕ) (m : Module) (h : List Entry) (values classes : List ℕ) (k : ℕ) → HoldsBy word m h values classes → length values ≤ k → memory_words m.size ≤ word k
beyond word m h values classes k holds high = elim (cases_lt (word k) (memory_words m.size)) [
  | inl low ↦ absurd (let there = holds.all k low in omega (arith, there, high))
  | inr le ↦ le
]

pub reads_by : (word : ℕ → ℕ) (m : Module) (h : List Entry) (values classes : List ℕ) (rows : List Bits) (r k : ℕ) → DecideReads m rows
    → HoldsBy word m h values classes → decided m (record { values = values; classes = classes; rows = rows }) r k ≡ read_answer m h r (word k)
reads_by word m h values classes rows r k decide holds = ⊎_elim inside outside (cases_lt k (length values))
  where
    t : Words
    t = record { values = values; classes = classes; rows = rows }

    last : Written
    last = last_write m.code h (word k)

    inside : k < length values → decided m t r k ≡ read_answer m h r (word k)
    inside low =
        found t m r k low (omega (arith, low, holds.both))
        ∙ ap (λ v. found_by m rows r v (slice_index classes k)) (holds.value k low)
        ∙ ap (found_by m rows r last.value) (holds.class k low)
        ∙ ap (λ b. if is_checked m r && not b then Answer.Stop (Stop.Alarm (class_of m last.def)) else Answer.Value last.value) (decide.allowed r last)
        ∙ ap (λ b. answer_in b (is_checked m r && not (is_allowed m r last)) (class_of m last.def) last.value) (sym (within (memory_words m.size) (word k) (holds.within k low)))

    outside : length values ≤ k → decided m t r k ≡ read_answer m h r (word k)
    outside high =
        missed t m r k high
        ∙ ap (λ b. answer_in b (is_checked m r && not (is_allowed m r last)) (class_of m last.def) last.value)
        (sym (past (memory_words m.size) (word k) (beyond word m h values classes k holds high)))

-- The word of a stripe at its place.

pub word_of : (t : Stripe) (w : ℕ) → IsIn t w → (w / t.stripes) * t.stripes + t.stripe ≡ w
word_of t w own = ap (λ r. (w / t.stripes) * t.stripes + r) (sym own) ∙ div-add-mod' w t.stripes

pub can_write_by : (t : Stripe) (m : Module) (h : List Entry) (w : ℕ) → IsIn t w → HoldsStripe m h t
    → ((w / t.stripes < length t.values → Answer.Unit ≡ write_answer m w) × (length t.values ≤ w / t.stripes → Answer.Stop Stop.Address ≡ write_answer m w))
can_write_by t m h w own holds =
    let word = word_of t w own in (
      λ low. writes_inside m (memory_words m.size) w refl (let there = holds.within (w / t.stripes) low in omega (arith, there, word)),
      λ high. writes_outside m (memory_words m.size) w refl
          (let there = beyond (λ k. k * t.stripes + t.stripe) m h t.values t.classes (w / t.stripes) holds high in omega (arith, there, word)),
    )

-- A write.

-- places of one stripe that have the same word are the same
one_place : (n s j k : ℕ) → s < n → j * n + s ≡ k * n + s → j ≡ k
one_place n s j k less same = elim (cases_lt j k) [
  | inl before ↦ absurd (let far = ahead n j k before in omega (arith, far, same, less))
  | inr le ↦ elim (cases_lt k j) [
    | inl after ↦ absurd (let far = ahead n k j after in omega (arith, far, same, less))
    | inr ge ↦ omega (arith, le, ge)
  ]
]

puts_by : (t : Stripe) (m : Module) (e : Entry) (h : List Entry) (d k v : ℕ) → t.stripe < t.stripes → k < length t.values
    → e.op ≡ Op.Write (record { 0 = d }) (k * t.stripes + t.stripe) v → e.answer ≡ Answer.Unit → HoldsStripe m h t
    → HoldsStripe m (e ∷ h) (record { stripe = t.stripe; stripes = t.stripes; values = slice_set t.values k v; classes = slice_set t.classes k (class_of m d) })
puts_by t m e h d k v own low op answer holds =
    record {
      both = length-set t.classes k (class_of m d) ∙ holds.both ∙ sym (length-set t.values k v);
      within = λ j less. holds.within j (omega (arith, less, length-set t.values k v));
      all = λ j less. (let there = holds.all j less in omega (arith, there, length-set t.values k v));
      value = λ j less. value j (omega (arith, less, length-set t.values k v)) (cases_eq j k);
      class = λ j less. class j (omega (arith, less, length-set t.values k v)) (cases_eq j k);
    }
  where
    word : ℕ → ℕ
    word j = j * t.stripes + t.stripe

    value : (j : ℕ) → j < length t.values → (j ≡ k) ⊎ (j ≡ k → ⊥) → slice_index (slice_set t.values k v) j ≡ (last_write m.code (e ∷ h) (word j)).value
    value j less (inl here) =
        ap (slice_index (slice_set t.values k v)) here ∙ get_or-set_same t.values k v 0 low
        ∙ ap (λ (l : Written). l.value) (sym (last_put m e h (word j) d (word k) v op answer (ap word (sym here))))
    value j less (inr other) =
        get_or-set_other t.values k j v 0 other ∙ holds.value j less
        ∙ ap (λ (l : Written). l.value) (sym (last_kept m e h (word j) d (word k) v op answer (λ same. other (one_place t.stripes t.stripe j k own (sym same)))))

    class : (j : ℕ) → j < length t.values → (j ≡ k) ⊎ (j ≡ k → ⊥) → slice_index (slice_set t.classes k (class_of m d)) j ≡ class_of m (last_write m.code (e ∷ h) (word j)).def
    class j less (inl here) =
        ap (slice_index (slice_set t.classes k (class_of m d))) here ∙ get_or-set_same t.classes k (class_of m d) 0 (omega (arith, low, holds.both))
        ∙ ap (λ (l : Written). class_of m l.def) (sym (last_put m e h (word j) d (word k) v op answer (ap word (sym here))))
    class j less (inr other) =
        get_or-set_other t.classes k j (class_of m d) 0 other ∙ holds.class j less
        ∙ ap (λ (l : Written). class_of m l.def) (sym (last_kept m e h (word j) d (word k) v op answer (λ same. other (one_place t.stripes t.stripe j k own (sym same)))))

-- an entry that writes no word of the stripe leaves it
pub stays_by : (word : ℕ → ℕ) (m : Module) (e : Entry) (h : List Entry) (values classes : List ℕ) → ((k : ℕ) → k < length values → write_to (word k) e.op e.answer ≡ None)
    → HoldsBy word m h values classes → HoldsBy word m (e ∷ h) values classes
stays_by word m e h values classes nothing holds =
    let same : (k : ℕ) → k < length values → last_write m.code (e ∷ h) (word k) ≡ last_write m.code h (word k) =
    (λ k low. last_more m e h (word k) ∙ ap (last_by m h (word k)) (nothing k low)) in
    record {
      both = holds.both;
      within = holds.within;
      all = holds.all;
      value = λ k low. (holds.value k low ∙ ap (λ (l : Written). l.value) (sym (same k low)));
      class = λ k low. (holds.class k low ∙ ap (λ (l : Written). class_of m l.def) (sym (same k low)));
    }

abbrev chosen : Bool → Stripe → Stripe → Stripe
chosen b x y = if b then x else y

pub write_by : (t : Stripe) (m : Module) (e : Entry) (h : List Entry) (d w v : ℕ) → t.stripe < t.stripes → IsIn t w → HoldsStripe m h t
    → e.op ≡ Op.Write (record { 0 = d }) w v → e.answer ≡ write_answer m w → HoldsStripe m (e ∷ h) (with_word t (class_of m d) (w / t.stripes) v)
write_by t m e h d w v own mine holds op answer = ⊎_elim inside outside (cases_lt (w / t.stripes) (length t.values))
  where
    k : ℕ
    k = w / t.stripes

    word : k * t.stripes + t.stripe ≡ w
    word = word_of t w mine

    new : Stripe
    new = record { stripe = t.stripe; stripes = t.stripes; values = slice_set t.values k v; classes = slice_set t.classes k (class_of m d) }

    may : ((k < length t.values → Answer.Unit ≡ write_answer m w) × (length t.values ≤ k → Answer.Stop Stop.Address ≡ write_answer m w))
    may = can_write_by t m h w mine holds

    inside : k < length t.values → HoldsStripe m (e ∷ h) (with_word t (class_of m d) k v)
    inside low =
        let is : with_word t (class_of m d) k v ≡ new =
        ap (λ b. chosen (b && nat_lt k (length t.classes)) new t) (lt-ltb k (length t.values) low)
        ∙ ap (λ b. chosen b new t) (lt-ltb k (length t.classes) (omega (arith, low, holds.both))) in
        let there : e.op ≡ Op.Write (record { 0 = d }) (k * t.stripes + t.stripe) v = op ∙ ap (λ x. Op.Write (record { 0 = d }) x v) (sym word) in
        subst (HoldsStripe m (e ∷ h)) (sym is) (puts_by t m e h d k v own low there (answer ∙ sym (may.0 low)) holds)

    outside : length t.values ≤ k → HoldsStripe m (e ∷ h) (with_word t (class_of m d) k v)
    outside high =
        let is : with_word t (class_of m d) k v ≡ t = ap (λ b. chosen (b && nat_lt k (length t.classes)) new t) (le-ltb k (length t.values) high) in
        let stop : e.answer ≡ Answer.Stop Stop.Address = answer ∙ sym (may.1 high) in
        subst (HoldsStripe m (e ∷ h)) (sym is)
        (stays_by (λ j. j * t.stripes + t.stripe) m e h t.values t.classes
        (λ j low. ap (λ o. write_to (j * t.stripes + t.stripe) o e.answer) op ∙ ap (write_to (j * t.stripes + t.stripe) (Op.Write (record { 0 = d }) w v)) stop) holds)

-- Laws.

pub whole_is_one : WholeIsOneStripe
whole_is_one m h t holds =
    let one : (k : ℕ) → k * 1 + 0 ≡ k = (λ k. omega arith) in
    record {
      both = holds.classes ∙ sym holds.values;
      within = λ k low. omega (arith, low, holds.values);
      all = λ k low. omega (arith, low, holds.values);
      value = λ k low. (holds.value k (omega (arith, low, holds.values)) ∙ ap (λ w. (last_write m.code h w).value) (sym (one k)));
      class = λ k low. (holds.class k (omega (arith, low, holds.values)) ∙ ap (λ w. class_of m (last_write m.code h w).def) (sym (one k)));
    }

pub part_holds : StripeOfWhole
part_holds m h t stripe stripes part holds is =
    let word : (k : ℕ) → k * part.stripes + part.stripe ≡ k * stripes + stripe = (λ k. ap (λ n. k * n + part.stripe) is.count ∙ ap (λ s. k * stripes + s) is.own) in
    let count : length part.classes ≡ length part.values = same_count stripe stripes t part holds is in
    record {
      both = count;
      within = λ k low. (let there = is.values_picked.within k low in omega (arith, there, word k, holds.values));
      all = λ k low. is.values_picked.all k (omega (arith, low, word k, holds.values));
      value = λ k low. (let there = is.values_picked.within k low in
          is.values_picked.each k 0 low ∙ holds.value (k * stripes + stripe) (omega (arith, there, holds.values)) ∙ ap (λ w. (last_write m.code h w).value) (sym (word k)));
      class = λ k low. (let there = is.values_picked.within k low in
          is.classes_picked.each k 0 (omega (arith, low, count)) ∙ holds.class (k * stripes + stripe) (omega (arith, there, holds.values)) ∙ ap (λ w. class_of m (last_write m.code h w).def) (sym (word k)));
    }
  where
    same_count : (stripe stripes : ℕ) (t : Words) (part : Stripe) → HoldsAfter m h t → IsStripeOf t.values t.classes stripe stripes part → length part.classes ≡ length part.values
    same_count stripe stripes t part holds is = elim (cases_lt (length part.classes) (length part.values)) [
      | inl less ↦ absurd (
          let there = is.values_picked.within (length part.classes) less in
          let too = is.classes_picked.all (length part.classes) (omega (arith, there, holds.values, holds.classes)) in omega (arith, too))
      | inr le ↦ elim (cases_lt (length part.values) (length part.classes)) [
        | inl less ↦ absurd (
            let there = is.classes_picked.within (length part.values) less in
            let too = is.values_picked.all (length part.values) (omega (arith, there, holds.values, holds.classes)) in omega (arith, too))
        | inr ge ↦ omega (arith, le, ge)
      ]
    ]

pub others_stay : OtherStripesStay
others_stay m h t e d w v holds other own op =
    stays_by (λ j. j * t.stripes + t.stripe) m e h t.values t.classes
    (λ j low. nothing (j * t.stripes + t.stripe) e.op e.answer op (λ same. other (ap (λ x. x % t.stripes) same ∙ mod-mul-add j t.stripes t.stripe own))) holds
  where
    nothing : (x : ℕ) (o : Op) (answer : Answer) → o ≡ Op.Write (record { 0 = d }) w v → (w ≡ x → ⊥) → write_to x o answer ≡ None
    nothing x o answer is far = stopped_writes_nothing o answer x d w v is far
