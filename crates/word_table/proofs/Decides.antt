-- What the words answer is what the run allows.
use Rattle.std.proofs.Common.{◌≡◌, ℕ, ◌<◌, ◌≤◌, List, length, Bool, true, false, Some, None, arith, sym, ◌∙◌, ap, ⊎_elim}
use Rattle.std.specs.Prelude.{nat_le, ◌&&◌, not, slice_get, slice_index, if◌then◌else◌}
use Rattle.std.proofs.lemmas.Bool.{cases_lt}
use Rattle.std.proofs.lemmas.Option.{slice_get_past, slice_get-get_or}
use Rattle.tac_ir.specs.declared.run.Answer.{Answer}
use Rattle.tac_ir.specs.declared.run.Entry.{Entry}
use Rattle.tac_ir.specs.declared.run.Stop.{Stop}
use Rattle.tac_ir.specs.Module.{Module}
use Rattle.tac_ir.specs.Layout.{memory_words}
use Rattle.tac_ir.specs.Last.{last_write}
use Rattle.tac_ir.specs.Answers.{class_of, is_checked, is_allowed, read_answer, write_answer}
use Rattle.word_table.specs.Tables.{CanRun}
use Rattle.word_table.specs.Words.{Words}
use Rattle.word_table.specs.Holds.{HoldsAfter}
use Rattle.word_table.specs.tools.Deciding.{found_by, decided}
use Rattle.word_table.proofs.Members.{allowed_is}

pub past : (size w : ℕ) → size ≤ w → nat_le size w ≡ true
past size w h = grind (arith, nat_le)

pub within : (size w : ℕ) → w < size → nat_le size w ≡ false
within size w h = grind (arith, nat_le)

-- a word that is found, and one that is not
pub found : (t : Words) (m : Module) (r w : ℕ) → w < length t.values → w < length t.classes → decided m t r w ≡ found_by m t.rows r (slice_index t.values w) (slice_index t.classes w)
found t m r w low lower =
    ap (λ o. elim o as (λ x. Answer) [ None ↦ Answer.Stop Stop.Address | Some value ↦ elim (slice_get t.classes w) [ None ↦ Answer.Stop Stop.Address | Some class ↦ found_by m t.rows r value class ] ]) (slice_get-get_or t.values w 0 low)
    ∙ ap (λ o. elim o as (λ x. Answer) [ None ↦ Answer.Stop Stop.Address | Some class ↦ found_by m t.rows r (slice_index t.values w) class ]) (slice_get-get_or t.classes w 0 lower)

pub missed : (t : Words) (m : Module) (r w : ℕ) → length t.values ≤ w → decided m t r w ≡ Answer.Stop Stop.Address
missed t m r w high =
    ap (λ o. elim o as (λ x. Answer) [ None ↦ Answer.Stop Stop.Address | Some value ↦ elim (slice_get t.classes w) [ None ↦ Answer.Stop Stop.Address | Some class ↦ found_by m t.rows r value class ] ]) (slice_get_past t.values w high)

abbrev pub answer_in : Bool → Bool → ℕ → ℕ → Answer
answer_in beyond alarms class value = if beyond then Answer.Stop Stop.Address else (if alarms then Answer.Stop (Stop.Alarm class) else Answer.Value value)

pub reads : (m : Module) (h : List Entry) (t : Words) (r w : ℕ) → CanRun m → HoldsAfter m h t → decided m t r w ≡ read_answer m h r w
reads m h t r w can holds = ⊎_elim inside outside (cases_lt w (memory_words m.size))
  where
    inside : w < memory_words m.size → decided m t r w ≡ read_answer m h r w
    inside low =
        let last = last_write m.code h w in
        found t m r w (omega (arith, low, holds.values)) (omega (arith, low, holds.classes))
        ∙ ap (λ v. found_by m t.rows r v (slice_index t.classes w)) (holds.value w low)
        ∙ ap (found_by m t.rows r last.value) (holds.class w low)
        ∙ ap (λ b. if is_checked m r && not b then Answer.Stop (Stop.Alarm (class_of m last.def)) else Answer.Value last.value) (holds.rows r (class_of m last.def))
        ∙ ap (λ b. if is_checked m r && not b then Answer.Stop (Stop.Alarm (class_of m last.def)) else Answer.Value last.value) (allowed_is m can r last)
        ∙ ap (λ b. answer_in b (is_checked m r && not (is_allowed m r last)) (class_of m last.def) last.value) (sym (within (memory_words m.size) w low))

    outside : memory_words m.size ≤ w → decided m t r w ≡ read_answer m h r w
    outside high =
        let last = last_write m.code h w in
        missed t m r w (omega (arith, high, holds.values))
        ∙ ap (λ b. answer_in b (is_checked m r && not (is_allowed m r last)) (class_of m last.def) last.value) (sym (past (memory_words m.size) w high))

pub writes_inside : (m : Module) (size w : ℕ) → size ≡ memory_words m.size → w < size → Answer.Unit ≡ write_answer m w
writes_inside m size w same low = ap (λ b. if b then Answer.Stop Stop.Address else Answer.Unit) (sym (within (memory_words m.size) w (omega (arith, same, low))))

pub writes_outside : (m : Module) (size w : ℕ) → size ≡ memory_words m.size → size ≤ w → Answer.Stop Stop.Address ≡ write_answer m w
writes_outside m size w same high = ap (λ b. if b then Answer.Stop Stop.Address else Answer.Unit) (sym (past (memory_words m.size) w (omega (arith, same, high))))
