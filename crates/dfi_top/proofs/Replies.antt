-- What is said behind each load.
use Rattle.std.proofs.Common.{◌≡◌, ℕ, Option, None, Some, Result, Ok, Err, IfOk, List, [], ◌∷◌, inl, inr, refl, sym, subst}
use Rattle.std.specs.Prelude.{ℤ}
use Rattle.dfi_base.specs.declared.memory.Memory.{Memory}
use Rattle.dfi_io.specs.Outside.{Load, LibraryTells, IsLoad}
use Rattle.dfi_io.specs.declared.fault.LoadFault.{LoadFault}
use Rattle.dfi_build.specs.declared.fault.BuildFault.{BuildFault}
use Rattle.dfi_build.specs.Builds.{IsFaultOf, IsModuleOf, Tells}
use Rattle.dfi_words.specs.declared.job.Job.{Job}
use Rattle.dfi_words.specs.declared.job.Job.TheVariants as jobs
use Rattle.dfi_words.specs.Reads.{Reads}
use Rattle.fault_text.specs.FaultText.{text_of}
use Rattle.number_lists.specs.declared.fault.ListFault.{ListFault}
use Rattle.number_lists.specs.Lists.{Answers, int_of, list_of, IsRefusedAt}
use Rattle.tac_ir.specs.Module.{Module}
use Rattle.dfi_top.specs.declared.reply.Reply.{Reply}
use Rattle.dfi_top.specs.declared.stages.Replay.{Replay}
use Rattle.dfi_top.specs.Reply.{Said, Says, Ends, Given, Behind, RefusesLoad, RefusesInput, RefusesSource, RepliesToNames, RepliesToNumbers, RepliesToInput, RepliesToModule, RepliesToSource, RepliesToJob, said_by}
use Rattle.dfi_top.specs.Texts.{input_text, usage_text}
use Rattle.dfi_top.specs.tools.Stages.{Goes, RepliesToWords}
use Rattle.dfi_top.proofs.Onward.{behind, ends, alike}

-- a load gave these bytes, and the next stage was handed bytes equal to them
pub behind_bytes : {L : Type 0} (tells : LibraryTells L) {before mid : L} (after : L) (name : List ℕ) (limit : ℕ) (Then : List ℕ → List Load → Said → Type 0) (bytes sent : List ℕ) → sent ≡ bytes
    → IsLoad tells (record { name = name; limit = limit; gave = Ok bytes }) before mid → (r : Result Reply Memory) → Goes said_by tells (Then sent) mid after r
    → Goes said_by tells (Behind name limit Then) before after r
behind_bytes tells {mid = mid} after name limit Then bytes sent same is r h = behind after name limit Then (Ok bytes) is r (subst (λ b. Goes said_by tells (Then b) mid after r) same h)

-- a load gave no bytes, and was refused by a name equal to its own
pub behind_fault : {L : Type 0} (tells : LibraryTells L) {before after : L} (name : List ℕ) (limit : ℕ) (Then : List ℕ → List Load → Said → Type 0) (fault : LoadFault) (sent : List ℕ) → sent ≡ name
    → IsLoad tells (record { name = name; limit = limit; gave = Err fault }) before after → (r : Result Reply Memory) → IfOk r (λ x. RefusesLoad sent fault (said_by x))
    → Goes said_by tells (Behind name limit Then) before after r
behind_fault tells {after = after} name limit Then fault sent same is r h =
    behind after name limit Then (Err fault) is r (ends tells after (RefusesLoad name fault) r (subst (λ n. IfOk r (λ x. RefusesLoad n fault (said_by x))) same h))

-- names were asked for, or not
pub with_names : {L : Type 0} (tells : LibraryTells L) (before after : L) (m : Module) (input : List ℤ) (budget : ℕ) (names wanted : Option (List ℕ)) → names ≡ wanted
    → (r : Result Reply Memory) → Goes said_by tells (RepliesToNumbers m input budget wanted) before after r → Goes said_by tells (RepliesToNumbers m input budget names) before after r
with_names tells before after m input budget names wanted is r h = subst (λ o. Goes said_by tells (RepliesToNumbers m input budget o) before after r) (sym is) h

-- where a list was refused
pub refused_at : {A X : Type 0} (view : X → List A) (number : List ℕ → Option A) (bytes : List ℕ) (fault : ListFault) (at : ℕ) → fault ≡ ListFault.Refused at
    → Answers view number bytes (Err fault) → IsRefusedAt number bytes at
refused_at view number bytes fault at is h = subst (λ f. Answers view number bytes (Err f)) is h

-- an input was refused
pub input_refused : {L : Type 0} (tells : LibraryTells L) (lib : L) (t : Replay) (m : Module) (bytes : List ℕ) (at : ℕ) → IsRefusedAt int_of bytes at
    → (r : Result Reply Memory) → IfOk r (λ x. Says 1 (input_text at) (said_by x)) → Goes said_by tells (RepliesToInput t m bytes) lib lib r
input_refused tells lib t m bytes at refused (Ok r) h = ([], refl, inl (refl, (at, refused, h)))
input_refused tells lib t m bytes at refused (Err e) h = ([], refl, inl refl)

-- an input was read
pub input_read : {L : Type 0} (tells : LibraryTells L) (before after : L) (t : Replay) (m : Module) (bytes : List ℕ) (numbers : List ℤ) → list_of int_of bytes ≡ Some numbers
    → (r : Result Reply Memory) → Goes said_by tells (RepliesToNumbers m numbers t.budget t.names) before after r → Goes said_by tells (RepliesToInput t m bytes) before after r
input_read tells before after t m bytes numbers listed r h =
    alike tells before after (RepliesToNumbers m numbers t.budget t.names) (RepliesToInput t m bytes) (λ loads s said. inr (numbers, listed, said)) r h

-- a source was refused
pub source_refused : {L : Type 0} (tells : LibraryTells L) (lib : L) (t : Replay) (bytes : List ℕ) (fault : BuildFault)
    → (r : Result Reply Memory) → IfOk r (λ x. IsFaultOf bytes fault × Says 1 (text_of bytes fault) (said_by x)) → Goes said_by tells (RepliesToSource t bytes) lib lib r
source_refused tells lib t bytes fault (Ok r) h = ([], refl, inl (refl, (fault, h.0, h.1)))
source_refused tells lib t bytes fault (Err e) h = ([], refl, inl refl)

-- a source was built
pub source_built : {L : Type 0} (tells : LibraryTells L) (before after : L) (t : Replay) (bytes : List ℕ) (m : Module) → IsModuleOf bytes m
    → (r : Result Reply Memory) → Goes said_by tells (RepliesToModule t m) before after r → Goes said_by tells (RepliesToSource t bytes) before after r
source_built tells before after t bytes m is r h = alike tells before after (RepliesToModule t m) (RepliesToSource t bytes) (λ loads s said. inr (m, is, said)) r h

-- the words asked for a job
pub words_asked : {L : Type 0} (tells : LibraryTells L) (words : List (List ℕ)) (job : Job) (lib lib' : L) → Reads words job
    → (r : Result Reply Memory) → Goes said_by tells (RepliesToJob job) lib lib' r → RepliesToWords said_by tells words lib lib' r
words_asked tells words job lib lib' reads (Ok x) h = record { job = Some job; asked = reads; loads = h.0; loaded = h.1; reply = h.2 }
words_asked tells words job lib lib' reads (Err e) (loads, loaded, inl none) = record { loads = loads; loaded = loaded; course = inl none }
words_asked tells words job lib lib' reads (Err e) (loads, loaded, inr some) = record { loads = loads; loaded = loaded; course = inr (job, reads, some.0, some.1) }

-- what is told of a source is its fault, unless memory was wanted
pub told_fault : (bytes : List ℕ) (fault : BuildFault) → (fault ≡ BuildFault.Memory → ⊥) → Tells bytes fault → IsFaultOf bytes fault
told_fault bytes (BuildFault.Lex fault) other is = is
told_fault bytes (BuildFault.Parse fault) other is = is
told_fault bytes (BuildFault.Types fault) other is = is
told_fault bytes (BuildFault.Lower fault) other is = is
told_fault bytes BuildFault.Memory other is = absurd (other refl)

-- a job of which nothing is built
pub job_refused : {L : Type 0} (tells : LibraryTells L) (lib : L) (job : Job)
    → ((file input : List ℕ) (names : Option (List ℕ)) (budget : ℕ) → job ≡ jobs.Replay file input names budget → ⊥) → ((n : ℕ) → job ≡ jobs.Gen n → ⊥)
    → (r : Result Reply Memory) → IfOk r (λ x. Says 2 usage_text (said_by x)) → Goes said_by tells (RepliesToJob job) lib lib r
job_refused tells lib (jobs.Replay file input names budget) replay gen r h = absurd (replay file input names budget refl)
job_refused tells lib (jobs.Gen n) replay gen r h = absurd (gen n refl)
job_refused tells lib (jobs.Build src) replay gen r h = ends tells lib (Says 2 usage_text) r h
job_refused tells lib (jobs.Check file) replay gen r h = ends tells lib (Says 2 usage_text) r h
job_refused tells lib (jobs.Sets src) replay gen r h = ends tells lib (Says 2 usage_text) r h
job_refused tells lib (jobs.Run file input w s b) replay gen r h = ends tells lib (Says 2 usage_text) r h
job_refused tells lib (jobs.Trial n w s b) replay gen r h = ends tells lib (Says 2 usage_text) r h
