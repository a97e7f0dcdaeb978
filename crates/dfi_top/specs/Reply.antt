-- What a call says, by its words and by what its loads gave: the first refusal, or the text that was asked for.
use Rattle.std.specs.Prelude.{◌≡◌, ◌⊎◌, ℕ, ℤ, Option, None, Some, Ok, Err, List, [], ◌∷◌}
use Rattle.dfi_base.specs.Limits.{file_limit, list_limit}
use Rattle.dfi_base.specs.declared.numbers.Name.{Name}
use Rattle.dfi_io.specs.Outside.{Loaded, Load}
use Rattle.dfi_io.specs.declared.fault.LoadFault.{LoadFault}
use Rattle.dfi_io.specs.declared.fault.LoadFault.TheVariants.{Failed, Long, Memory}
use Rattle.tac_ir.specs.declared.run.End.{End}
use Rattle.tac_ir.specs.declared.run.Journal.{Journal}
use Rattle.tac_ir.specs.CoreRun.{LeastRun}
use Rattle.tac_ir.specs.Lawful.{Lawful}
use Rattle.tac_ir.specs.Module.{Module}
use Rattle.tac_ir.specs.Text.{text_of as run_text}
use Rattle.flat_core.specs.Runs as core
use Rattle.gen_prog.specs.Program.{text_of as program_text}
use Rattle.number_lists.specs.Lists.{int_of, name_of, list_of, IsRefusedAt}
use Rattle.dfi_words.specs.declared.job.Job.{Job}
use Rattle.dfi_words.specs.declared.job.Job.TheVariants as jobs
use Rattle.dfi_top.specs.declared.reply.Reply.{Reply}
use Rattle.dfi_top.specs.declared.stages.Replay.{Replay}
use Rattle.dfi_build.specs.declared.fault.BuildFault.{BuildFault}
use Rattle.dfi_build.specs.Builds.{IsFaultOf, IsModuleOf}
use Rattle.fault_text.specs.FaultText.{text_of as fault_text}
use Rattle.dfi_top.specs.Texts.{usage_text, failed_text, long_text, input_text, name_bytes_text, names_text}

-- there was no run
abbrev pub NoJournal : Journal → Type 0
NoJournal j = (j.entries ≡ []) × (j.end ≡ End.NoRun)

-- the status of a run by its end
abbrev pub status_of : End → ℕ
status_of (End.Done v) = 0
status_of End.Alarm = 3
status_of End.Trap = 4
status_of (End.Limit limit) = 5
status_of End.Cut = 5
status_of End.NoRun = 0

-- what is said: a text and its status, and the journal of the run
pub record Said : Type 0 where
  pub status : ℕ
  pub text : List ℕ
  pub journal : Journal

-- what a reply of the code says
abbrev pub said_by : Reply → Said
said_by r = record { status = r.status; text = r.text.items; journal = r.journal }

-- a text with this status, and no run
pub record Says (status : ℕ) (text : List ℕ) (s : Said) : Type 0 where
  pub status_is : s.status ≡ status
  pub text_is : s.text ≡ text
  pub no_run : NoJournal s.journal

-- a load that gave no bytes is refused by its name
abbrev pub RefusesLoad : List ℕ → LoadFault → Said → Type 0
RefusesLoad name Failed s = Says 6 (failed_text name) s
RefusesLoad name Long s = Says 6 (long_text name) s
RefusesLoad name Memory s = ⊥

-- the text of a run of the module, and its status by its end
pub record TellsRun (m : Module) (s : Said) : Type 0 where
  pub lawful : Lawful m s.journal
  pub text_is : s.text ≡ run_text m s.journal
  pub status_is : s.status ≡ status_of s.journal.end

-- the one core run along the least runnable names, up to its end
pub record RunsByLeast (m : Module) (input : List ℤ) (budget : ℕ) (s : Said) : Type 0 where
  pub run : LeastRun m input budget s.journal
  pub only : (k : Journal) → LeastRun m input budget k → k ≡ s.journal
  pub told : TellsRun m s

-- the one core run along these names, with an entry for each
pub record RunsAlong (m : Module) (input : List ℤ) (budget : ℕ) (names : List Name) (s : Said) : Type 0 where
  pub run : core.IsRunAlong m input budget names s.journal
  pub only : (k : Journal) → core.IsRunAlong m input budget names k → k ≡ s.journal
  pub told : TellsRun m s

-- the run along names, or the first of them that is not runnable or follows a stop
abbrev pub RepliesToTurns : Module → List ℤ → ℕ → List Name → Said → Type 0
RepliesToTurns m input budget names s =
    RunsAlong m input budget names s ⊎ ((k : ℕ) × core.IsRefusedAt m input budget names k × Says 1 (names_text k) s)

-- ---- The loads, in their order. Each stage says of the loads that are left what is said by them.

-- no load more, and this is said
abbrev pub Ends : (Said → Type 0) → List Load → Said → Type 0
Ends Saying loads s = (loads ≡ []) × Saying s

-- a load of the file of this name within the limit
abbrev pub IsLoadOf : List ℕ → ℕ → Load → Type 0
IsLoadOf name limit load = (load.name ≡ name) × (load.limit ≡ limit)

-- behind a load that gave no bytes goes its refusal, else what the bytes leave to say
abbrev pub Given : List ℕ → (List ℕ → List Load → Said → Type 0) → Loaded → List Load → Said → Type 0
Given name Then (Err fault) = Ends (RefusesLoad name fault)
Given name Then (Ok bytes) = Then bytes

-- one load of this file, and what goes behind it
abbrev pub Behind : List ℕ → ℕ → (List ℕ → List Load → Said → Type 0) → List Load → Said → Type 0
Behind name limit Then [] s = ⊥
Behind name limit Then (load ∷ loads) s = IsLoadOf name limit load × Given name Then load.gave loads s

-- bytes that are a list of names, or are refused at their first byte with which no list goes on
abbrev pub RepliesToNames : Module → List ℤ → ℕ → List ℕ → Said → Type 0
RepliesToNames m input budget bytes s =
    ((at : ℕ) × IsRefusedAt name_of bytes at × Says 1 (name_bytes_text at) s)
    ⊎ ((names : List Name) × (list_of name_of bytes ≡ Some names) × RepliesToTurns m input budget names s)

-- behind the numbers of an input: the names, where a file of names is given, and the run
abbrev pub RepliesToNumbers : Module → List ℤ → ℕ → Option (List ℕ) → List Load → Said → Type 0
RepliesToNumbers m input budget None = Ends (RunsByLeast m input budget)
RepliesToNumbers m input budget (Some name) = Behind name list_limit (λ bytes. Ends (RepliesToNames m input budget bytes))

-- an input is refused at its first byte with which no list goes on
abbrev pub RefusesInput : List ℕ → Said → Type 0
RefusesInput bytes s = (at : ℕ) × IsRefusedAt int_of bytes at × Says 1 (input_text at) s

abbrev pub RepliesToInput : Replay → Module → List ℕ → List Load → Said → Type 0
RepliesToInput t m bytes loads s =
    Ends (RefusesInput bytes) loads s
    ⊎ ((numbers : List ℤ) × (list_of int_of bytes ≡ Some numbers) × RepliesToNumbers m numbers t.budget t.names loads s)

abbrev pub RepliesToModule : Replay → Module → List Load → Said → Type 0
RepliesToModule t m = Behind t.input list_limit (RepliesToInput t m)

-- a source is refused by its first fault
abbrev pub RefusesSource : List ℕ → Said → Type 0
RefusesSource bytes s = (fault : BuildFault) × IsFaultOf bytes fault × Says 1 (fault_text bytes fault) s

abbrev pub RepliesToSource : Replay → List ℕ → List Load → Said → Type 0
RepliesToSource t bytes loads s = Ends (RefusesSource bytes) loads s ⊎ ((m : Module) × IsModuleOf bytes m × RepliesToModule t m loads s)

abbrev pub RepliesToReplay : Replay → List Load → Said → Type 0
RepliesToReplay t = Behind t.file file_limit (RepliesToSource t)

-- What is said to a job. The commands that are not there yet are refused like words that ask for nothing.
abbrev pub RepliesToJob : Job → List Load → Said → Type 0
RepliesToJob (jobs.Replay file input names budget) = RepliesToReplay (record { file = file; input = input; names = names; budget = budget })
RepliesToJob (jobs.Gen n) = Ends (Says 0 (program_text n))
RepliesToJob job = Ends (Says 2 usage_text)

abbrev pub Replies : Option Job → List Load → Said → Type 0
Replies None = Ends (Says 2 usage_text)
Replies (Some job) = RepliesToJob job
