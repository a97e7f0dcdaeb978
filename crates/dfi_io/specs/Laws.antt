-- A fault is told exactly where its count rose, below the greatest count.
use Rattle.std.specs.Prelude.{◌≡◌, ◌+◌, ◌-◌, ◌^◌, ◌<◌, ◌↔◌, ℕ, true, Err}
use Rattle.dfi_io.specs.Outside.{Load, Write, LibraryTells, IsLoad, SinkTells, IsWrite}
use Rattle.dfi_io.specs.declared.fault.LoadFault.TheVariants.{Failed}

-- below the greatest number of 64 bits, a load fails exactly where the library's count rose by one
abbrev pub TellsLoadFaults : {L : Type 0} → LibraryTells L → Type 0
TellsLoadFaults {L} tells = (before after : L) (load : Load) → IsLoad tells load before after → tells.faults before < 2 ^ 64 - 1
    → (load.gave ≡ Err Failed) ↔ (tells.faults after ≡ tells.faults before + 1)

-- and a write fails exactly where the sink's count rose by one
abbrev pub TellsWriteFaults : {K : Type 0} → SinkTells K → Type 0
TellsWriteFaults {K} tells = (before after : K) (write : Write) → IsWrite tells write before after → tells.faults before < 2 ^ 64 - 1
    → (write.failed ≡ true) ↔ (tells.faults after ≡ tells.faults before + 1)
