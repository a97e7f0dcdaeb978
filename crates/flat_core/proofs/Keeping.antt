-- A store after an event that takes no stack and no block.
use Rattle.std.proofs.Common.{◌≡◌, ℕ, List, [], ◌∷◌, true, false, None, Ok, Err, refl, sym, ◌∙◌, ap, subst}
use Rattle.dfi_base.specs.declared.numbers.DefNo.{DefNo}
use Rattle.tac_ir.specs.declared.run.Stop.{Stop}
use Rattle.tac_ir.specs.Desk.{item_words}
use Rattle.code_layout.specs.LayoutOf.{IsLayoutOf}
use Rattle.heap_desk.specs.declared.fault.TakeFault.{TakeFault}
use Rattle.std.specs.Prelude.{Bool, ℤ, pos, negsuc}
use Rattle.tac_ir.specs.declared.run.Op.{Op}
use Rattle.tac_ir.specs.declared.run.Answer.{Answer}
use Rattle.tac_ir.specs.declared.run.Entry.{Entry}
use Rattle.tac_ir.specs.Module.{Module}
use Rattle.tac_ir.specs.Last.{write_to}
use Rattle.tac_ir.specs.Answers.{IsAnswer}
use Rattle.heap_desk.specs.Desk.{Desk}
use Rattle.heap_desk.specs.Replies.{AnswersTake, after_take, after_give, after_next}
use Rattle.heap_desk.specs.Laws.{changes_desk}
use Rattle.heap_desk.specs.Stands.{StandsAfter}
use Rattle.heap_desk.proofs.Beside.{starts_run, take_answers_new, no_room_stops_new, give_answers_free, next_answers_in, others_leave_desk}
use Rattle.word_table.specs.Words.{Words}
use Rattle.word_table.specs.Holds.{HoldsAfter}
use Rattle.word_table.proofs.Writes.{stays}
use Rattle.flat_core.specs.declared.store.Store.{Store}
use Rattle.flat_core.specs.Store.{IsStore, IsTaken, is_plain}
use Rattle.flat_core.proofs.Answering.{frees, comes}

-- an event that writes no word
abbrev pub is_write : Op → Bool
is_write (Op.Write d w v) = true
is_write op = false

no_write : (op : Op) (answer : Answer) (w : ℕ) → is_write op ≡ false → write_to w op answer ≡ None
no_write (Op.Write d at v) answer w h = cc
no_write op answer w h = refl

pub words_stay : (m : Module) (h : List Entry) (t : Words) (e : Entry) → is_write e.op ≡ false → HoldsAfter m h t → HoldsAfter m (e ∷ h) t
words_stay m h t e other holds = stays m e h t (λ w low. no_write e.op e.answer w other) holds

pub after_write : (m : Module) (input : List ℤ) (h : List Entry) (s : Store) (t : Words) (e : Entry) → changes_desk e.op ≡ false → IsStore m input h s → HoldsAfter m (e ∷ h) t
    → IsStore m input (e ∷ h) (record { words = t; desk = s.desk; layout = s.layout })
after_write m input h s t e other store holds = record { words = holds; desk = others_leave_desk m input h s.desk e store.desk other; layout = store.layout }

pub after_desk : (m : Module) (input : List ℤ) (h : List Entry) (s : Store) (d : Desk) (e : Entry) → is_write e.op ≡ false → IsStore m input h s → StandsAfter m input (e ∷ h) d
    → IsStore m input (e ∷ h) (record { words = s.words; desk = d; layout = s.layout })
after_desk m input h s d e other store stands = record { words = words_stay m h s.words e other store.words; desk = stands; layout = store.layout }

pub after_free : (m : Module) (input : List ℤ) (h : List Entry) (s : Store) (d : Desk) (e : Entry) (n room w : ℕ) → IsStore m input h s → e.op ≡ Op.Free w → IsAnswer m input h n room (Op.Free w) e.answer
    → d ≡ after_give s.desk w → IsStore m input (e ∷ h) (record { words = s.words; desk = d; layout = s.layout })
after_free m input h s d e n room w store op answer is =
    after_desk m input h s d e (ap is_write op) store
    (subst (StandsAfter m input (e ∷ h)) (sym is) (give_answers_free m input h s.desk e w store.desk op (answer ∙ sym (frees m input h s.desk w store.desk))).1)

pub after_in : (m : Module) (input : List ℤ) (h : List Entry) (s : Store) (d : Desk) (e : Entry) (n room : ℕ) → IsStore m input h s → e.op ≡ Op.In → IsAnswer m input h n room Op.In e.answer
    → d ≡ after_next s.desk → IsStore m input (e ∷ h) (record { words = s.words; desk = d; layout = s.layout })
after_in m input h s d e n room store op answer is =
    after_desk m input h s d e (ap is_write op) store
    (subst (StandsAfter m input (e ∷ h)) (sym is) (next_answers_in m input h s.desk e store.desk op (answer ∙ sym (comes m input h s.desk store.desk))).1)

pub after_other : (m : Module) (input : List ℤ) (h : List Entry) (s : Store) (e : Entry) → is_write e.op ≡ false → changes_desk e.op ≡ false → IsStore m input h s → IsStore m input (e ∷ h) s
after_other m input h s e no_word no_desk store = record { words = words_stay m h s.words e no_word store.words; desk = others_leave_desk m input h s.desk e store.desk no_desk; layout = store.layout }

-- an event that changes nothing of what threads share
pub record ChangesNothing (op : Op) : Type 0 where
  pub words : is_write op ≡ false
  pub desk : changes_desk op ≡ false

pub changes_nothing : (op : Op) → is_plain op ≡ true → ((d : DefNo) (w v : ℕ) → op ≡ Op.Write d w v → ⊥) → ((w : ℕ) → op ≡ Op.Free w → ⊥) → (op ≡ Op.In → ⊥) → ChangesNothing op
changes_nothing (Op.Write d w v) plain no_write no_free no_in = absurd (no_write d w v refl)
changes_nothing (Op.Free w) plain no_write no_free no_in = absurd (no_free w refl)
changes_nothing Op.In plain no_write no_free no_in = absurd (no_in refl)
changes_nothing (Op.New site count) plain no_write no_free no_in = cc
changes_nothing op plain no_write no_free no_in = record { words = refl; desk = refl }

-- Blocks.

not_taken : (d : Desk) (count : ℤ) (words : ℕ) → after_take d count words (Err TakeFault.NoRoom) ≡ d
not_taken d (pos count) words = refl
not_taken d (negsuc n) words = refl

pub block_taken : (m : Module) (input : List ℤ) (h : List Entry) (s : Store) (d : Desk) (e : Entry) (site words at : ℕ) (count : ℤ) → IsStore m input h s → words ≡ item_words m.code site
    → AnswersTake s.desk count words (Ok at) → d ≡ after_take s.desk count words (Ok at) → e.op ≡ Op.New site count → e.answer ≡ Answer.Value at
    → IsTaken m input h e (record { words = s.words; desk = d; layout = s.layout })
block_taken m input h s d e site words at count store is answer after op told =
    let run = take_answers_new m input h s.desk e site count at store.desk (subst (λ k. AnswersTake s.desk count k (Ok at)) is answer) op told in
    let after_is = after ∙ ap (λ k. after_take s.desk count k (Ok at)) is in
    record { answer = run.0; store = after_desk m input h s d e (ap is_write op) store (subst (StandsAfter m input (e ∷ h)) (sym after_is) run.1) }

pub no_block : (m : Module) (input : List ℤ) (h : List Entry) (s : Store) (d : Desk) (e : Entry) (site words : ℕ) (count : ℤ) → IsStore m input h s → words ≡ item_words m.code site
    → AnswersTake s.desk count words (Err TakeFault.NoRoom) → d ≡ after_take s.desk count words (Err TakeFault.NoRoom) → e.op ≡ Op.New site count → e.answer ≡ Answer.Stop Stop.Heap
    → IsTaken m input h e (record { words = s.words; desk = d; layout = s.layout })
no_block m input h s d e site words count store is answer after op told =
    let run = no_room_stops_new m input h s.desk e site count store.desk (subst (λ k. AnswersTake s.desk count k (Err TakeFault.NoRoom)) is answer) op told in
    record { answer = run.0; store = after_desk m input h s d e (ap is_write op) store (subst (StandsAfter m input (e ∷ h)) (sym (after ∙ not_taken s.desk count words)) run.1) }

-- Before the first step.
pub first_store : (m : Module) (input : List ℤ) (s : Store) → HoldsAfter m [] s.words → s.desk ≡ record { size = m.size; blocks = []; rest = input } → IsLayoutOf m.code s.layout → IsStore m input [] s
first_store m input s words desk layout = record { words = words; desk = subst (StandsAfter m input []) (sym desk) (starts_run m input); layout = layout }

-- a block that was taken and given back leaves all as it was
pub untaken : (s t u : Store) (at : ℕ) → t.words ≡ s.words → t.layout ≡ s.layout → after_give t.desk at ≡ s.desk → u.words ≡ t.words → u.layout ≡ t.layout → u.desk ≡ after_give t.desk at → u ≡ s
untaken s t u at words layout desk words_back layout_back desk_back =
    let w = words_back ∙ words in
    let d = desk_back ∙ desk in
    let z = layout_back ∙ layout in
    λ i. record { words = w i; desk = d i; layout = z i }
