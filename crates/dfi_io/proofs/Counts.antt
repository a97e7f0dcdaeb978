-- A fault is told exactly where the count rose, below the greatest count.
use Rattle.std.proofs.Common.{◌≡◌, ◌+◌, ◌-◌, ◌^◌, ◌<◌, ◌↔◌, ℕ, Bool, true, false, Ok, Err, refl, sym, ◌∙◌, arith, true≢false, ap}
use Rattle.dfi_io.specs.Counted.{counted}
use Rattle.dfi_io.specs.Laws.{TellsLoadFaults, TellsWriteFaults}
use Rattle.dfi_io.specs.Outside.{Loaded, LibraryTells, faults_of_load, SinkTells, faults_of_write}
use Rattle.dfi_io.specs.declared.fault.LoadFault.TheVariants.{Failed, Long, Memory}

one_more : (n : ℕ) → n < 2 ^ 64 - 1 → counted n ≡ n + 1
one_more n below = omega (arith, below)

no_more : (n : ℕ) → n ≡ n + 1 → ⊥
no_more n e = omega (arith, e)

abbrev is_failed : Loaded → Bool
is_failed (Ok bytes) = false
is_failed (Err Failed) = true
is_failed (Err Long) = false
is_failed (Err Memory) = false

not_failed : (gave : Loaded) → is_failed gave ≡ false → gave ≡ Err Failed → ⊥
not_failed gave no_fault e = true≢false (sym (ap is_failed e) ∙ no_fault)

load_rose : (n : ℕ) → n < 2 ^ 64 - 1 → (gave : Loaded) → (gave ≡ Err Failed) ↔ (faults_of_load n gave ≡ n + 1)
load_rose n below (Ok bytes) = (λ e. absurd (not_failed (Ok bytes) refl e), λ e. absurd (no_more n e))
load_rose n below (Err Failed) = (λ e. one_more n below, λ e. refl)
load_rose n below (Err Long) = (λ e. absurd (not_failed (Err Long) refl e), λ e. absurd (no_more n e))
load_rose n below (Err Memory) = (λ e. absurd (not_failed (Err Memory) refl e), λ e. absurd (no_more n e))

write_rose : (n : ℕ) → n < 2 ^ 64 - 1 → (failed : Bool) → (failed ≡ true) ↔ (faults_of_write n failed ≡ n + 1)
write_rose n below true = (λ e. one_more n below, λ e. refl)
write_rose n below false = (λ e. absurd (true≢false (sym e)), λ e. absurd (no_more n e))

pub load_faults : {L : Type 0} (tells : LibraryTells L) → TellsLoadFaults tells
load_faults tells before after load is below =
    let rose = load_rose (tells.faults before) below load.gave in
    (λ f. is.faults ∙ rose.0 f, λ f. rose.1 (sym is.faults ∙ f))

pub write_faults : {K : Type 0} (tells : SinkTells K) → TellsWriteFaults tells
write_faults tells before after write is below =
    let rose = write_rose (tells.faults before) below write.failed in
    (λ f. is.faults ∙ rose.0 f, λ f. rose.1 (sym is.faults ∙ f))
