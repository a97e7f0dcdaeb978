-- The words after a write, and after what writes nothing.
use Rattle.std.proofs.Common.{◌≡◌, ℕ, ◌<◌, ◌≤◌, List, ◌∷◌, length, Bool, true, false, Option, Some, None, refl, arith, sym, ◌∙◌, ap, subst, ⊎_elim}
use Rattle.std.specs.Prelude.{nat_eq, nat_lt, ◌&&◌, slice_index, slice_set, if◌then◌else◌}
use Rattle.std.proofs.lemmas.Bool.{cases_lt, cases_eq, lt-ltb, le-ltb, eq-eqb, ne_eqb}
use Rattle.std.proofs.lemmas.List.{get_or-set_same, get_or-set_other, length-set}
use Rattle.tac_ir.specs.declared.run.Op.{Op}
use Rattle.tac_ir.specs.declared.run.Answer.{Answer}
use Rattle.tac_ir.specs.declared.run.Entry.{Entry}
use Rattle.tac_ir.specs.Module.{Module}
use Rattle.tac_ir.specs.Layout.{memory_words}
use Rattle.tac_ir.specs.Last.{Written, write_to, last_write}
use Rattle.tac_ir.specs.Answers.{class_of, write_answer}
use Rattle.word_table.specs.Words.{Words}
use Rattle.word_table.specs.Holds.{HoldsAfter}
use Rattle.word_table.specs.tools.Deciding.{written}
use Rattle.word_table.proofs.Decides.{writes_inside}

abbrev pub last_by : Module → List Entry → ℕ → Option Written → Written
last_by m h w o = elim o [ Some written ↦ written | None ↦ last_write m.code h w ]

-- the last write of a word, after one more entry
pub last_more : (m : Module) (e : Entry) (h : List Entry) (w : ℕ) → last_write m.code (e ∷ h) w ≡ last_by m h w (write_to w e.op e.answer)
unfolding last_write
last_more m e h w = refl

-- where an entry writes no word of memory, all stays
pub stays : (m : Module) (e : Entry) (h : List Entry) (t : Words) → ((w : ℕ) → w < memory_words m.size → write_to w e.op e.answer ≡ None) → HoldsAfter m h t → HoldsAfter m (e ∷ h) t
stays m e h t nothing holds =
    let same : (w : ℕ) → w < memory_words m.size → last_write m.code (e ∷ h) w ≡ last_write m.code h w = λ w low. last_more m e h w ∙ ap (last_by m h w) (nothing w low) in
    record {
      values = holds.values;
      classes = holds.classes;
      value = λ w low. (holds.value w low ∙ ap (λ (l : Written). l.value) (sym (same w low)));
      class = λ w low. (holds.class w low ∙ ap (λ (l : Written). class_of m l.def) (sym (same w low)));
      rows = holds.rows;
    }

-- the last write of a word after one that is answered
wrote_test : (e : Entry) (w d at v : ℕ) → e.op ≡ Op.Write (record { 0 = d }) at v → e.answer ≡ Answer.Unit
    → write_to w e.op e.answer ≡ (elim (nat_eq at w) as (λ x. Option Written) [ true ↦ Some (record { def = d; value = v }) | false ↦ None ])
wrote_test e w d at v op answer = ap (λ o. write_to w o e.answer) op ∙ ap (write_to w (Op.Write (record { 0 = d }) at v)) answer

pub last_put : (m : Module) (e : Entry) (h : List Entry) (w d at v : ℕ) → e.op ≡ Op.Write (record { 0 = d }) at v → e.answer ≡ Answer.Unit → at ≡ w
    → last_write m.code (e ∷ h) w ≡ record { def = d; value = v }
last_put m e h w d at v op answer q =
    last_more m e h w
    ∙ ap (last_by m h w) (wrote_test e w d at v op answer ∙ ap (λ b. elim b as (λ x. Option Written) [ true ↦ Some (record { def = d; value = v }) | false ↦ None ]) (eq-eqb at w q))

pub last_kept : (m : Module) (e : Entry) (h : List Entry) (w d at v : ℕ) → e.op ≡ Op.Write (record { 0 = d }) at v → e.answer ≡ Answer.Unit → (at ≡ w → ⊥)
    → last_write m.code (e ∷ h) w ≡ last_write m.code h w
last_kept m e h w d at v op answer q =
    last_more m e h w
    ∙ ap (last_by m h w) (wrote_test e w d at v op answer ∙ ap (λ b. elim b as (λ x. Option Written) [ true ↦ Some (record { def = d; value = v }) | false ↦ None ]) (ne_eqb at w q))

-- a write that is answered
puts : (m : Module) (e : Entry) (h : List Entry) (t : Words) (d at v : ℕ) → at < memory_words m.size → e.op ≡ Op.Write (record { 0 = d }) at v → e.answer ≡ Answer.Unit → HoldsAfter m h t
    → HoldsAfter m (e ∷ h) (record { values = slice_set t.values at v; classes = slice_set t.classes at (class_of m d); rows = t.rows })
puts m e h t d at v low op answer holds = record {
  values = length-set t.values at v ∙ holds.values;
  classes = length-set t.classes at (class_of m d) ∙ holds.classes;
  value = λ w within. ⊎_elim (λ q. value_here w q) (λ q. value_there w q within) (cases_eq at w);
  class = λ w within. ⊎_elim (λ q. class_here w q) (λ q. class_there w q within) (cases_eq at w);
  rows = holds.rows;
}
  where
    last_here : (w : ℕ) → at ≡ w → last_write m.code (e ∷ h) w ≡ record { def = d; value = v }
    last_here w q = last_put m e h w d at v op answer q

    last_there : (w : ℕ) → (at ≡ w → ⊥) → last_write m.code (e ∷ h) w ≡ last_write m.code h w
    last_there w q = last_kept m e h w d at v op answer q

    value_here : (w : ℕ) → at ≡ w → slice_index (slice_set t.values at v) w ≡ (last_write m.code (e ∷ h) w).value
    value_here w q =
        ap (slice_index (slice_set t.values at v)) (sym q) ∙ get_or-set_same t.values at v 0 (omega (arith, low, holds.values)) ∙ ap (λ (l : Written). l.value) (sym (last_here w q))

    value_there : (w : ℕ) → (at ≡ w → ⊥) → w < memory_words m.size → slice_index (slice_set t.values at v) w ≡ (last_write m.code (e ∷ h) w).value
    value_there w q within = get_or-set_other t.values at w v 0 (λ r. q (sym r)) ∙ holds.value w within ∙ ap (λ (l : Written). l.value) (sym (last_there w q))

    class_here : (w : ℕ) → at ≡ w → slice_index (slice_set t.classes at (class_of m d)) w ≡ class_of m (last_write m.code (e ∷ h) w).def
    class_here w q =
        ap (slice_index (slice_set t.classes at (class_of m d))) (sym q) ∙ get_or-set_same t.classes at (class_of m d) 0 (omega (arith, low, holds.classes)) ∙ ap (λ (l : Written). class_of m l.def) (sym (last_here w q))

    class_there : (w : ℕ) → (at ≡ w → ⊥) → w < memory_words m.size → slice_index (slice_set t.classes at (class_of m d)) w ≡ class_of m (last_write m.code (e ∷ h) w).def
    class_there w q within = get_or-set_other t.classes at w (class_of m d) 0 (λ r. q (sym r)) ∙ holds.class w within ∙ ap (λ (l : Written). class_of m l.def) (sym (last_there w q))

-- a write past the memory writes nothing
pub stopped_writes_nothing : (op : Op) (answer : Answer) (w : ℕ) (d at v : ℕ) → op ≡ Op.Write (record { 0 = d }) at v → (at ≡ w → ⊥) → write_to w op answer ≡ None
stopped_writes_nothing op answer w d at v is other = ap (λ o. write_to w o answer) is ∙ by answer
  where
    by : (a : Answer) → write_to w (Op.Write (record { 0 = d }) at v) a ≡ None
    by Answer.Unit = ap (λ b. elim b as (λ x. Option Written) [ true ↦ Some (record { def = d; value = v }) | false ↦ None ]) (ne_eqb at w other)
    by (Answer.Value u) = refl
    by (Answer.Stop s) = refl

abbrev chosen : Bool → Words → Words → Words
chosen b x y = if b then x else y

-- the words after the entry of a write
pub after_write : (m : Module) (e : Entry) (h : List Entry) (t : Words) (d at v : ℕ) → HoldsAfter m h t → e.op ≡ Op.Write (record { 0 = d }) at v → e.answer ≡ write_answer m at
    → HoldsAfter m (e ∷ h) (written t (class_of m d) at v)
after_write m e h t d at v holds op answer = ⊎_elim inside outside (cases_lt at (memory_words m.size))
  where
    new : Words
    new = record { values = slice_set t.values at v; classes = slice_set t.classes at (class_of m d); rows = t.rows }

    inside : at < memory_words m.size → HoldsAfter m (e ∷ h) (written t (class_of m d) at v)
    inside low =
        let is : written t (class_of m d) at v ≡ new =
        ap (λ b. chosen (b && nat_lt at (length t.classes)) new t) (lt-ltb at (length t.values) (omega (arith, low, holds.values)))
        ∙ ap (λ b. chosen b new t) (lt-ltb at (length t.classes) (omega (arith, low, holds.classes))) in
        subst (HoldsAfter m (e ∷ h)) (sym is) (puts m e h t d at v low op (answer ∙ sym (writes_inside m (memory_words m.size) at refl low)) holds)

    outside : memory_words m.size ≤ at → HoldsAfter m (e ∷ h) (written t (class_of m d) at v)
    outside high =
        let is : written t (class_of m d) at v ≡ t = ap (λ b. chosen (b && nat_lt at (length t.classes)) new t) (le-ltb at (length t.values) (omega (arith, high, holds.values))) in
        subst (HoldsAfter m (e ∷ h)) (sym is)
        (stays m e h t (λ w low. stopped_writes_nothing e.op e.answer w d at v op (λ q. omega (arith, q, low, high))) holds)
