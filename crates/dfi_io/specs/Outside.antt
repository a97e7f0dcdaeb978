-- What the outside tells of itself, and what one call of it does.
use Rattle.std.specs.Prelude.{◌≡◌, ◌≢◌, ◌<◌, ◌≤◌, ℕ, length, Bool, if◌then◌else◌, Option, IfSome, Result, Ok, Err, List, option_map, Vec}
use Rattle.std.specs.declared.alloc.Global.{Global}
use Rattle.dfi_io.specs.Counted.{counted}
use Rattle.dfi_io.specs.Files.{Files}
use Rattle.dfi_io.specs.Held.{Held}
use Rattle.dfi_io.specs.Loads.{load_of, after_load}
use Rattle.dfi_io.specs.Writes.{after_write, write_fails}
use Rattle.dfi_io.specs.declared.fault.LoadFault.{LoadFault}
use Rattle.dfi_io.specs.declared.fault.LoadFault.TheVariants.{Failed, Long, Memory}

-- what a load gave: the bytes, or why there are none
abbrev pub Loaded : Type 0
Loaded = Result (List ℕ) LoadFault

-- the bytes of an answer, or why there are none
abbrev pub gave : Result (Vec ℕ Global) LoadFault → Loaded
gave (Ok v) = Ok v.items
gave (Err fault) = Err fault

-- a load of the file of this name, with a greatest length, and what it gave
pub record Load : Type 0 where
  pub name : List ℕ
  pub limit : ℕ
  pub gave : Loaded

-- a write of this piece, and whether it failed
pub record Write : Type 0 where
  pub piece : List ℕ
  pub failed : Bool

-- what a library tells of itself
pub record LibraryTells (L : Type 0) : Type 1 where
  -- from the first library a load leads to the second
  pub loads : L → Load → L → Type 0
  -- its files, the loads that are to fail, how many loads there were and the limit of the last, where it tells them
  pub told : L → Option Files
  -- how often a load has failed, up to the greatest number of 64 bits
  pub faults : L → ℕ
  -- how many bytes the last load took
  pub took : L → ℕ

-- what a sink tells of itself
pub record SinkTells (K : Type 0) : Type 1 where
  pub writes : K → Write → K → Type 0
  pub told : K → Option Held
  pub faults : K → ℕ

-- one fault more where the load failed, and else as many as before
abbrev pub faults_of_load : ℕ → Loaded → ℕ
faults_of_load before (Ok bytes) = before
faults_of_load before (Err Failed) = counted before
faults_of_load before (Err Long) = before
faults_of_load before (Err Memory) = before

-- one fault more where the write failed
abbrev pub faults_of_write : ℕ → Bool → ℕ
faults_of_write before failed = if failed then counted before else before

-- what a load gave by what it took
abbrev pub HasTaken : ℕ → ℕ → Loaded → Type 0
HasTaken limit took (Ok bytes) = (length bytes ≡ took) × (took ≤ limit)
HasTaken limit took (Err Failed) = Unit {0}
HasTaken limit took (Err Long) = limit < took
HasTaken limit took (Err Memory) = Unit {0}

-- a told library gives what its files and its plan say; want of memory is free
abbrev pub IsToldBy : Load → Files → Type 0
IsToldBy load files = load.gave ≢ Err Memory → load.gave ≡ load_of files load.name load.limit

-- One load leads from one library to the other.
pub record IsLoad {L : Type 0} (tells : LibraryTells L) (load : Load) (before after : L) : Type 0 where
  pub loaded : tells.loads before load after
  pub told : tells.told after ≡ option_map (after_load load.limit) (tells.told before)
  pub answer : IfSome (tells.told before) (IsToldBy load)
  pub faults : tells.faults after ≡ faults_of_load (tells.faults before) load.gave
  pub within : HasTaken load.limit (tells.took after) load.gave

-- One write leads from one sink to the other.
pub record IsWrite {K : Type 0} (tells : SinkTells K) (write : Write) (before after : K) : Type 0 where
  pub written : tells.writes before write after
  pub told : tells.told after ≡ option_map (λ held. after_write held write.piece) (tells.told before)
  pub answer : IfSome (tells.told before) (λ held. write.failed ≡ write_fails held write.piece)
  pub faults : tells.faults after ≡ faults_of_write (tells.faults before) write.failed
