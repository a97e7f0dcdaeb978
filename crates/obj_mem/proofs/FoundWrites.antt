-- What a valid read answers.
use Rattle.std.proofs.Common.{◌≡◌, ℕ, ℤ, Bool, true, false, List, [], ◌∷◌, refl, sym, ap, ◌∙◌, Option, Some, None}
use Rattle.std.proofs.lemmas.List.Elements.{All-nil, All-cons}
use Rattle.obj_mem.specs.declared.value.Obj.{Obj}
use Rattle.obj_mem.specs.declared.value.Value.{Value}
use Rattle.obj_mem.specs.declared.event.Event.{Event}
use Rattle.obj_mem.specs.declared.event.SrcAnswer.{SrcAnswer}
use Rattle.obj_mem.specs.declared.event.Stamp.{Stamp}
use Rattle.obj_mem.specs.Written.{written, last_value}
use Rattle.obj_mem.specs.Valid.{is_usable, the_value, answer_of}
use Rattle.obj_mem.specs.Laws.{WasWritten}

pub was_written : (o : Obj) (off : ℤ) (h : List Stamp) (v : Value) → last_value o off h ≡ Some v → WasWritten h o off v
unfolding last_value
was_written o off [] v is = cc
was_written o off (s ∷ h) v is = by (was_written o off h v) (written o off s.event) refl is
  where
    by : (last_value o off h ≡ Some v → WasWritten h o off v) → (w : Option Value) → written o off s.event ≡ w → elim w [ Some x ↦ Some x | None ↦ last_value o off h ] ≡ Some v → WasWritten (s ∷ h) o off v
    by before (Some x) wrote is = record { later = []; stamp = s; earlier = h; among = refl; writes = wrote ∙ is; last = All-nil _ }
    by before None nothing is =
        let found = before is in
        record { later = s ∷ found.later; stamp = found.stamp; earlier = found.earlier; among = ap (λ xs. s ∷ xs) found.among; writes = found.writes; last = All-cons (λ t. written o off t.event ≡ None) s found.later nothing found.last }

pub read_written : (h : List Stamp) (n : ℕ) (o : Obj) (off lo hi : ℤ) (a : SrcAnswer) → answer_of h n (Event.Rd (Value.Ptr o off lo hi)) ≡ Some a
    → (v : Value) × (a ≡ SrcAnswer.Value v) × WasWritten h o off v
read_written h n o off lo hi a is = by (is_usable h o off lo hi) is
  where
    value : (w : Option Value) → last_value o off h ≡ w → the_value w ≡ Some a → (v : Value) × (a ≡ SrcAnswer.Value v) × WasWritten h o off v
    value None here is = cc
    value (Some v) here is = (v, (let same : Some a ≡ Some (SrcAnswer.Value v) = sym is in cc), was_written o off h v here)

    by : (b : Bool) → elim b [ true ↦ the_value (last_value o off h) | false ↦ None ] ≡ Some a → (v : Value) × (a ≡ SrcAnswer.Value v) × WasWritten h o off v
    by true is = value (last_value o off h) refl is
    by false is = cc
