-- What histories keep: they go back, and what validity keeps of memory holds in them.
use Rattle.std.proofs.Common.{◌≡◌, ℤ, false, List, [], ◌∷◌, ◌++◌, reverse, sym, subst, Some, None}
use Rattle.std.specs.List.{All}
use Rattle.std.proofs.lemmas.List.{reverse-append, append_assoc}
use Rattle.std.proofs.lemmas.List.Elements.{All-tail}
use Rattle.c_typed.specs.Typed.{Typed}
use Rattle.obj_mem.specs.declared.value.Obj.{Obj}
use Rattle.obj_mem.specs.declared.value.Value.{Value}
use Rattle.obj_mem.specs.declared.event.Event.{Event}
use Rattle.obj_mem.specs.declared.event.SrcAnswer.{SrcAnswer}
use Rattle.obj_mem.specs.declared.event.Stamp.{Stamp}
use Rattle.obj_mem.specs.Alive.{but_first}
use Rattle.obj_mem.specs.Valid.{answer_of}
use Rattle.obj_mem.specs.Laws.{AreAnswered, WasWritten, uses}
use Rattle.obj_mem.proofs.FoundWrites.{read_written}
use Rattle.obj_mem.proofs.Over.{freed_over}
use Rattle.src_law.specs.Acts.{a_value}
use Rattle.src_law.specs.Program.{body, main_act}
use Rattle.src_law.specs.Starts.{opening}
use Rattle.src_law.specs.Runs.{IsHistory, is_zero}
use Rattle.src_law.proofs.Prefixes.{front_cut}

answered_before : (first later earlier : List Stamp) → AreAnswered first (later ++ earlier) → AreAnswered first earlier
answered_before first [] earlier answered = answered
answered_before first (s ∷ later) earlier answered = answered_before first later earlier answered.1

-- the later ones are answered after the earlier ones and what was first
answered_behind : (first later earlier : List Stamp) → AreAnswered first (later ++ earlier) → AreAnswered (earlier ++ first) later
answered_behind first [] earlier answered = tt
answered_behind first (s ∷ later) earlier answered =
    (subst (λ h. answer_of h s.name.0 s.event ≡ Some s.answer) (append_assoc later earlier first) answered.0, answered_behind first later earlier answered.1)

no_zero_tail : (later earlier : List Stamp) → All (λ s. is_zero s.event ≡ false) (later ++ earlier) → All (λ s. is_zero s.event ≡ false) earlier
no_zero_tail [] earlier none = none
no_zero_tail (s ∷ later) earlier none = no_zero_tail later earlier (All-tail (λ s. is_zero s.event ≡ false) s (later ++ earlier) none)

no_zero_first : (earlier : List Stamp) → All (λ s. is_zero s.event ≡ false) earlier → All (λ s. is_zero s.event ≡ false) (but_first earlier)
no_zero_first [] none = none
no_zero_first (s ∷ earlier) none = All-tail (λ s. is_zero s.event ≡ false) s earlier none

no_zero_before : (later earlier : List Stamp) → All (λ s. is_zero s.event ≡ false) (but_first (later ++ earlier)) → All (λ s. is_zero s.event ≡ false) (but_first earlier)
no_zero_before [] earlier none = none
no_zero_before (s ∷ later) earlier none = no_zero_first earlier (no_zero_tail later earlier none)

pub go_back : (t : Typed) (input : List ℤ) (later earlier : List Stamp) → IsHistory t input (later ++ earlier) → IsHistory t input earlier
go_back t input later earlier h = record {
  result = None;
  does = front_cut (body t) 1 a_value (main_act t) (reverse (later ++ earlier)) h.result h.does (reverse earlier) (reverse later) (sym (reverse-append later earlier));
  answered = answered_before (opening t input) later earlier h.answered;
  no_zero = no_zero_before later earlier h.no_zero;
}

pub reads_found : (t : Typed) (input : List ℤ) (later earlier : List Stamp) (s : Stamp) (o : Obj) (off lo hi : ℤ) → IsHistory t input (later ++ s ∷ earlier)
    → s.event ≡ Event.Rd (Value.Ptr o off lo hi) → (v : Value) × (s.answer ≡ SrcAnswer.Value v) × WasWritten (earlier ++ opening t input) o off v
reads_found t input later earlier s o off lo hi h is =
    let answered = (answered_before (opening t input) later (s ∷ earlier) h.answered).0 in
    read_written (earlier ++ opening t input) s.name.0 o off lo hi s.answer (subst (λ e. answer_of (earlier ++ opening t input) s.name.0 e ≡ Some s.answer) is answered)

pub freed_gone : (t : Typed) (input : List ℤ) (later earlier : List Stamp) (s : Stamp) (o : Obj) (off lo hi : ℤ) → IsHistory t input (later ++ s ∷ earlier)
    → s.event ≡ Event.Free (Value.Ptr o off lo hi) → All (λ e. uses o e.event ≡ false) later
freed_gone t input later earlier s o off lo hi h is =
    freed_over (earlier ++ opening t input) later s o off lo hi is
    (answered_behind (opening t input) (later ++ s ∷ []) earlier (subst (λ z. AreAnswered (opening t input) z) (sym (append_assoc later (s ∷ []) earlier)) h.answered))
