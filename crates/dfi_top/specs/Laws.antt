-- Laws of the clause: one answer, and an answer to all that is good.
use Rattle.std.specs.Prelude.{◌≡◌, ◌≢◌, ◌+◌, ◌-◌, ◌^◌, ◌<◌, ◌≤◌, ◌⊎◌, ℕ, ℤ, false, Option, None, Some, List, length}
use Rattle.dfi_base.specs.declared.numbers.Name.{Name}
use Rattle.dfi_io.specs.Files.{Files, file_of}
use Rattle.dfi_io.specs.Held.{Held}
use Rattle.dfi_io.specs.Outside.{LibraryTells, SinkTells, IsWrite}
use Rattle.tac_ir.specs.declared.run.Journal.{Journal}
use Rattle.tac_ir.specs.Module.{Module}
use Rattle.tac_ir.specs.Text.{text_of as run_text}
use Rattle.flat_core.specs.Runs.{IsRunAlong}
use Rattle.gen_prog.specs.Program.{text_of as program_text}
use Rattle.number_lists.specs.Lists.{int_of, name_of, list_of}
use Rattle.dfi_words.specs.declared.job.Job.TheVariants as jobs
use Rattle.dfi_words.specs.Reads.{Reads}
use Rattle.dfi_build.specs.Builds.{IsModuleOf}
use Rattle.dfi_base.specs.Limits.{file_limit, list_limit}
use Rattle.dfi_top.specs.Reply.{status_of}
use Rattle.dfi_top.specs.TopCall.{TopCall, Answers}

-- a call with these words, over a library and a sink that tell this, which did not want memory
pub record ToldCall {L K : Type 0} (library : LibraryTells L) (sink : SinkTells K) (words : List (List ℕ)) (files : Files) (held : Held) : Type 0 where
  pub before : L
  pub after : L
  pub empty : K
  pub written : K
  pub status : ℕ
  pub journal : Journal
  pub files_told : library.told before ≡ Some files
  pub held_told : sink.told empty ≡ Some held
  pub call : TopCall library sink words before after empty written status journal
  pub answered : status ≢ 8

-- two such calls end alike and leave the same
pub record EndAlike {L K L' K' : Type 0} {library : LibraryTells L} {sink : SinkTells K} {library' : LibraryTells L'} {sink' : SinkTells K'} {words : List (List ℕ)} {files : Files} {held : Held}
    (c : ToldCall library sink words files held) (d : ToldCall library' sink' words files held) : Type 0 where
  pub status : c.status ≡ d.status
  pub journal : c.journal ≡ d.journal
  pub files_left : library.told c.after ≡ library'.told d.after
  -- the text too: both sinks hold the same
  pub held_left : sink.told c.written ≡ sink'.told d.written

-- Words, files and a sink that are told have one answer, be it from two libraries and two sinks of different kinds.
abbrev pub OneAnswer : {L K L' K' : Type 0} → LibraryTells L → SinkTells K → LibraryTells L' → SinkTells K' → Type 0
OneAnswer library sink library' sink' = (words : List (List ℕ)) (files : Files) (held : Held)
    → (c : ToldCall library sink words files held) (d : ToldCall library' sink' words files held) → EndAlike c d

-- a file of this name, no longer than the limit, with these bytes
abbrev pub HasFile : Files → List ℕ → ℕ → List ℕ → Type 0
HasFile files name limit bytes = (file_of files.files name ≡ Some bytes) × (length bytes ≤ limit)

-- the file of names, where one is asked for, is a list of names along which there is a run
abbrev pub HasNames : Files → Module → List ℤ → ℕ → Option (List ℕ) → Type 0
HasNames files m input budget None = Unit {0}
HasNames files m input budget (Some name) = (bytes : List ℕ) × HasFile files name list_limit bytes
    × ((names : List Name) × (list_of name_of bytes ≡ Some names) × ((j : Journal) × IsRunAlong m input budget names j))

-- the files are within their limits: a source with a module, an input that is a list of numbers, and good names
pub record CanReplay (files : Files) (file input : List ℕ) (names : Option (List ℕ)) (budget : ℕ) : Type 0 where
  pub source : List ℕ
  pub has_source : HasFile files file file_limit source
  pub m : Module
  pub built : IsModuleOf source m
  pub bytes : List ℕ
  pub has_input : HasFile files input list_limit bytes
  pub numbers : List ℤ
  pub listed : list_of int_of bytes ≡ Some numbers
  pub has_names : HasNames files m numbers budget names

-- The run was told: the status by its end, 0, 3, 4 or 5, and its whole text in one write.
pub record TellsWhole {K : Type 0} (sink : SinkTells K) (out out' : K) (status : ℕ) (journal : Journal) (m : Module) : Type 0 where
  pub status_is : status ≡ status_of journal.end
  pub written : IsWrite sink (record { piece = run_text m journal; failed = false }) out out'

-- a count of faults that may rise and did not
abbrev pub NoFault : ℕ → ℕ → Type 0
NoFault before after = (before < 2 ^ 64 - 1) × (after ≡ before)

-- Words of a replay over good files, and no fault of a device: the run is told whole, or memory was wanted.
abbrev pub Complete : {L K : Type 0} → LibraryTells L → SinkTells K → Type 0
Complete {L} {K} library sink = (file input : List ℕ) (names : Option (List ℕ)) (budget : ℕ) (words : List (List ℕ)) (files : Files) (lib lib' : L) (out out' : K) (status : ℕ) (journal : Journal)
    → Reads words (jobs.Replay file input names budget) → library.told lib ≡ Some files → (good : CanReplay files file input names budget)
    → NoFault (library.faults lib) (library.faults lib') → NoFault (sink.faults out) (sink.faults out')
    → TopCall library sink words lib lib' out out' status journal → (status ≡ 8) ⊎ TellsWhole sink out out' status journal good.m

-- Words that ask for a generated program have it told whole, or memory was wanted.
abbrev pub Generates : {L K : Type 0} → LibraryTells L → SinkTells K → Type 0
Generates {L} {K} library sink = (n : ℕ) (words : List (List ℕ)) (lib lib' : L) (out out' : K) (status : ℕ) (journal : Journal)
    → Reads words (jobs.Gen n) → NoFault (sink.faults out) (sink.faults out') → TopCall library sink words lib lib' out out' status journal
    → (status ≡ 8) ⊎ ((status ≡ 0) × IsWrite sink (record { piece = program_text n; failed = false }) out out')
