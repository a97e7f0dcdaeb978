-- One turn of the loops, over plain values.
use Rattle.std.proofs.Common.{◌≡◌, ℕ, suc, ◌+◌, ◌<◌, List, [], length, get_or, drop, Option, Some, None, Err, sym, ap, subst, ◌∙◌, arith, drop-cons}
use Rattle.std.proofs.Math.Seq.{drop-length}
use Rattle.number_lists.specs.declared.scan.Form.{Form}
use Rattle.number_lists.specs.declared.scan.Number.{Number}
use Rattle.number_lists.specs.declared.scan.State.{State}
use Rattle.number_lists.specs.Lists.{IsRefusedAt}
use Rattle.number_lists.specs.tools.Scanning.{step, given, last, scan}
use Rattle.number_lists.proofs.Numbers.{Makes}
use Rattle.number_lists.proofs.Whole.{Reads, reads}

-- what is left at a place goes on as the whole began
abbrev pub GoesOn : {A : Type 0} → Form → (Number → A) → List ℕ → ℕ → State → List A → Type 0
GoesOn form make bytes at s numbers = scan form make 0 State.Between [] bytes ≡ scan form make at s numbers (drop at bytes)

plus : (at : ℕ) → suc at ≡ at + 1
plus at = omega arith

pub one_turn : {A : Type 0} (form : Form) (make : Number → A) (bytes : List ℕ) (at : ℕ) (s next : State) (numbers more : List A) → at < length bytes
    → GoesOn form make bytes at s numbers → Some next ≡ step form s (get_or bytes at 0) → more ≡ given make s next numbers
    → GoesOn form make bytes (at + 1) next more
one_turn form make bytes at s next numbers more low goes is more_is =
    goes ∙ ap (scan form make at s numbers) (drop-cons bytes at 0 low)
    ∙ ap (λ o. elim o [ None ↦ Err at | Some n ↦ scan form make (suc at) n (given make s n numbers) (drop (suc at) bytes) ]) (sym is)
    ∙ ap (λ n. scan form make (suc at) next n (drop (suc at) bytes)) (sym more_is)
    ∙ ap (λ k. scan form make k next more (drop k bytes)) (plus at)

pub refused_turn : {A : Type 0} (form : Form) (number : List ℕ → Option A) (make : Number → A) → Makes form number make → (bytes : List ℕ) (at : ℕ) (s : State) (numbers : List A)
    → at < length bytes → GoesOn form make bytes at s numbers → step form s (get_or bytes at 0) ≡ None → IsRefusedAt number bytes at
refused_turn form number make makes bytes at s numbers low goes is =
    subst (Reads number bytes)
    (goes ∙ ap (scan form make at s numbers) (drop-cons bytes at 0 low)
    ∙ ap (λ o. elim o [ None ↦ Err at | Some n ↦ scan form make (suc at) n (given make s n numbers) (drop (suc at) bytes) ]) is)
    (reads form number make makes bytes)

-- the bytes have ended in a state
pub last_turn : {A : Type 0} (form : Form) (number : List ℕ → Option A) (make : Number → A) → Makes form number make → (bytes : List ℕ) (at : ℕ) (s : State) (numbers : List A)
    → at ≡ length bytes → GoesOn form make bytes at s numbers → Reads number bytes (last make (length bytes) s numbers)
last_turn form number make makes bytes at s numbers end goes =
    subst (Reads number bytes)
    (goes ∙ ap (λ k. scan form make k s numbers (drop k bytes)) end ∙ ap (scan form make (length bytes) s numbers) (drop-length bytes))
    (reads form number make makes bytes)
