-- The clause of the top call.
use Rattle.std.specs.Prelude.{◌≡◌, ◌≢◌, ℕ, ◌⊎◌, Bool, if◌then◌else◌, Option, None, Some, List, []}
use Rattle.dfi_io.specs.Outside.{Load, LibraryTells, SinkTells, IsWrite}
use Rattle.tac_ir.specs.declared.run.Journal.{Journal}
use Rattle.dfi_words.specs.declared.job.Job.{Job}
use Rattle.dfi_words.specs.Reads.{Reads}
use Rattle.dfi_top.specs.Loads.{Chain, with_last_failed}
use Rattle.dfi_top.specs.Reply.{NoJournal, Said, Replies, RepliesToJob}

-- the job that the words ask for, or that they ask for none
abbrev pub Asks : List (List ℕ) → Option Job → Type 0
Asks words (Some job) = Reads words job
Asks words None = (job : Job) → Reads words job → ⊥

-- the loads of a call and what it says: the words and what the loads gave decide it
pub record Replied {L : Type 0} (tells : LibraryTells L) (words : List (List ℕ)) (lib lib' : L) (said : Said) : Type 0 where
  pub job : Option Job
  pub asked : Asks words job
  pub loads : List Load
  pub loaded : Chain tells loads lib lib'
  pub reply : Replies job loads said

-- One write of the whole text. Where it fails the status is 7, and nothing else changes.
pub record HandsOver {K : Type 0} (tells : SinkTells K) (said : Said) (out out' : K) (status : ℕ) (journal : Journal) : Type 0 where
  pub failed : Bool
  pub written : IsWrite tells (record { piece = said.text; failed = failed }) out out'
  pub status_is : status ≡ (if failed then 7 else said.status)
  pub journal_is : journal ≡ said.journal

-- what is said was handed over
pub record Answers {L K : Type 0} (library : LibraryTells L) (sink : SinkTells K) (words : List (List ℕ)) (lib lib' : L) (out out' : K) (status : ℕ) (journal : Journal) : Type 0 where
  pub said : Said
  pub replied : Replied library words lib lib' said
  pub handed : HandsOver sink said out out' status journal

-- how far a call that wanted memory loaded: nothing, or the loads are those of a reply whose last load failed
pub record HasLoaded {L : Type 0} (tells : LibraryTells L) (words : List (List ℕ)) (lib lib' : L) : Type 0 where
  pub loads : List Load
  pub loaded : Chain tells loads lib lib'
  pub course : (loads ≡ []) ⊎ ((job : Job) × Reads words job × (said : Said) × RepliesToJob job (with_last_failed loads) said)

-- want of memory: nothing was written, and there is no journal
pub record Wants {L K : Type 0} (library : LibraryTells L) (words : List (List ℕ)) (lib lib' : L) (out out' : K) (journal : Journal) : Type 0 where
  pub no_run : NoJournal journal
  pub unwritten : out' ≡ out
  pub loaded : HasLoaded library words lib lib'

-- What a call does, over any library and any sink. Status 8 says that memory was wanted, 7 that the write failed.
abbrev pub TopCall : {L K : Type 0} → LibraryTells L → SinkTells K → List (List ℕ) → L → L → K → K → ℕ → Journal → Type 0
TopCall library sink words lib lib' out out' status journal =
    ((status ≡ 8) × Wants library words lib lib' out out' journal)
    ⊎ ((status ≢ 8) × Answers library sink words lib lib' out out' status journal)
