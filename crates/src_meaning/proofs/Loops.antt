-- What begins has a call or a turn less.
use Rattle.std.proofs.Common.{◌≡◌, ℕ, zero, suc, ◌-◌, ◌<◌, List, refl, ap, arith}
use Rattle.obj_mem.specs.declared.Maker.{Maker}
use Rattle.obj_mem.specs.declared.value.Value.{Value}
use Rattle.src_law.specs.declared.heard.Heard.{Heard}
use Rattle.src_law.specs.Acts.{a_value, a_truth, an_end, Act}
use Rattle.src_law.specs.Traces.{turn}
use Rattle.src_law.specs.tools.Heard.{off}
use Rattle.src_law.specs.tools.Reader.{reads, calls_at, turns_at}

pub no_turn : (body : ℕ → Maker → List Value → Act a_value) (n : ℕ) (test : Act a_truth) (inner step : Act an_end) (l : List Heard) → n ≡ 0 → turns_at body n test inner step l ≡ off
unfolding turns_at
no_turn body zero test inner step l is = refl
no_turn body (suc n) test inner step l is = absurd (omega arith)

pub one_turn : (body : ℕ → Maker → List Value → Act a_value) (n : ℕ) (test : Act a_truth) (inner step : Act an_end) (l : List Heard) → 0 < n
    → turns_at body n test inner step l ≡ reads body (n - 1) an_end (turn test inner step) l
unfolding turns_at
one_turn body zero test inner step l some = absurd (omega arith)
one_turn body (suc n) test inner step l some = let e : n ≡ suc n - 1 = omega arith in ap (λ m. reads body m an_end (turn test inner step) l) e

pub no_call : (body : ℕ → Maker → List Value → Act a_value) (n f : ℕ) (m : Maker) (vs : List Value) (l : List Heard) → n ≡ 0 → calls_at body n f m vs l ≡ off
unfolding calls_at
no_call body zero f m vs l is = refl
no_call body (suc n) f m vs l is = absurd (omega arith)

pub one_call : (body : ℕ → Maker → List Value → Act a_value) (n f : ℕ) (m : Maker) (vs : List Value) (l : List Heard) → 0 < n
    → calls_at body n f m vs l ≡ reads body (n - 1) a_value (body f m vs) l
unfolding calls_at
one_call body zero f m vs l some = absurd (omega arith)
one_call body (suc n) f m vs l some = let e : n ≡ suc n - 1 = omega arith in ap (λ k. reads body k a_value (body f m vs) l) e
