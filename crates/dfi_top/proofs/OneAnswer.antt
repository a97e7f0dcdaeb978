-- Told words, files and sink have one answer.
use Rattle.std.proofs.Common.{◌≡◌, ◌≢◌, ◌⊎◌, ℕ, Bool, if◌then◌else◌, Option, None, Some, IfSome, option_map, Result, Ok, Err, List, [], ◌∷◌, refl, subst, sym, ap, inl, inr, ◌∙◌, true≢false}
use Rattle.std.specs.Prelude.{ℤ, is_some}
use Rattle.dfi_base.specs.declared.numbers.Name.{Name}
use Rattle.dfi_io.specs.Files.{Files}
use Rattle.dfi_io.specs.Held.{Held}
use Rattle.dfi_io.specs.Loads.{load_of, after_load}
use Rattle.dfi_io.specs.Writes.{after_write, write_fails}
use Rattle.dfi_io.specs.Outside.{Load, Loaded, LibraryTells, IsToldBy, SinkTells, IsWrite}
use Rattle.dfi_io.specs.declared.fault.LoadFault.{LoadFault}
use Rattle.dfi_io.specs.declared.fault.LoadFault.TheVariants.{Failed, Long, Memory}
use Rattle.tac_ir.specs.declared.run.Journal.{Journal}
use Rattle.tac_ir.specs.declared.run.Entry.{Entry}
use Rattle.tac_ir.specs.declared.run.End.{End}
use Rattle.tac_ir.specs.Module.{Module}
use Rattle.tac_ir.specs.Text.{text_of as run_text}
use Rattle.flat_core.specs.Runs as core
use Rattle.flat_core.proofs.Alike.{one_refusal as one_name, no_run}
use Rattle.gen_prog.specs.Program.{text_of as program_text}
use Rattle.number_lists.specs.Lists.{int_of, name_of, list_of, IsRefusedAt}
use Rattle.number_lists.proofs.OneAnswer.{one_answer as one_list}
use Rattle.dfi_words.specs.declared.job.Job.{Job}
use Rattle.dfi_words.specs.declared.job.Job.TheVariants as jobs
use Rattle.dfi_words.proofs.Unique.{read_one_way}
use Rattle.dfi_build.proofs.OneBuild.{one_module, no_fault_of_module, one_fault}
use Rattle.fault_text.specs.FaultText.{text_of as fault_text}
use Rattle.dfi_top.specs.declared.stages.Replay.{Replay}
use Rattle.dfi_top.specs.Laws.{ToldCall, EndAlike, OneAnswer}
use Rattle.dfi_top.specs.Reply.{NoJournal, Said, Says, status_of, RefusesLoad, TellsRun, RunsByLeast, RunsAlong, RepliesToTurns, Ends, IsLoadOf, Given, Behind, RepliesToNames, RepliesToNumbers, RefusesInput, RepliesToInput, RefusesSource, RepliesToSource, RepliesToReplay, RepliesToJob, Replies}
use Rattle.dfi_top.specs.Texts.{usage_text, failed_text, long_text, input_text, name_bytes_text, names_text}
use Rattle.dfi_top.specs.TopCall.{Asks, Answers, TopCall}
use Rattle.dfi_top.proofs.Told.{after_loads, AreTold, chain_told}

-- loads that are told by equal files, and what is said by them, are one
abbrev IsOne : (List Load → Said → Type 0) → Type 0
IsOne Replying = (f : Files) (loads loads' : List Load) (s s' : Said) → AreTold loads f → AreTold loads' f → Replying loads s → Replying loads' s' → (loads ≡ loads') × (s ≡ s')

-- what is said is one
abbrev SaysOne : (Said → Type 0) → Type 0
SaysOne Saying = (s s' : Said) → Saying s → Saying s' → s ≡ s'

one_journal : (j k : Journal) → NoJournal j → NoJournal k → j ≡ k
one_journal j k a b = λ i. record { entries = (a.0 ∙ sym b.0) i; end = (a.1 ∙ sym b.1) i }

says_one : (status : ℕ) (text : List ℕ) → SaysOne (Says status text)
says_one status text s s' a b = λ i. record { status = (a.status_is ∙ sym b.status_is) i; text = (a.text_is ∙ sym b.text_is) i; journal = one_journal s.journal s'.journal a.no_run b.no_run i }

refusal_one : (name : List ℕ) (fault : LoadFault) → SaysOne (RefusesLoad name fault)
refusal_one name Failed s s' a b = says_one 6 (failed_text name) s s' a b
refusal_one name Long s s' a b = says_one 6 (long_text name) s s' a b
refusal_one name Memory s s' a b = absurd a

run_one : (m : Module) → (s s' : Said) → TellsRun m s → TellsRun m s' → s.journal ≡ s'.journal → s ≡ s'
run_one m s s' a b e = λ i. record {
  status = (a.status_is ∙ ap (λ j. status_of j.end) e ∙ sym b.status_is) i;
  text = (a.text_is ∙ ap (run_text m) e ∙ sym b.text_is) i;
  journal = e i;
}

least_one : (m : Module) (input : List ℤ) (budget : ℕ) → SaysOne (RunsByLeast m input budget)
least_one m input budget s s' a b = run_one m s s' a.told b.told (b.only s.journal a.run)

turns_one : (m : Module) (input : List ℤ) (budget : ℕ) (names : List Name) → SaysOne (RepliesToTurns m input budget names)
turns_one m input budget names s s' (inl a) (inl b) = run_one m s s' a.told b.told (b.only s.journal a.run)
turns_one m input budget names s s' (inl a) (inr b) = absurd (no_run m input budget names b.0 s.journal b.1 a.run)
turns_one m input budget names s s' (inr a) (inl b) = absurd (no_run m input budget names a.0 s'.journal a.1 b.run)
turns_one m input budget names s s' (inr a) (inr b) =
    says_one 1 (names_text a.0) s s' a.2 (subst (λ k. Says 1 (names_text k) s') (one_name m input budget names b.0 a.0 b.1 a.1) b.2)

pub some_one : {A : Type 0} (o : Option A) (x y : A) → o ≡ Some x → o ≡ Some y → x ≡ y
some_one o x y a b = ap (λ p. elim p [ Some z ↦ z | None ↦ x ]) (sym a ∙ b)

pub some_none : {A : Type 0} (o : Option A) (x : A) → o ≡ Some x → o ≡ None → ⊥
some_none o x a b = true≢false (sym (ap is_some a) ∙ ap is_some b)

names_one : (m : Module) (input : List ℤ) (budget : ℕ) (bytes : List ℕ) → SaysOne (RepliesToNames m input budget bytes)
names_one m input budget bytes s s' (inl a) (inl b) =
    says_one 1 (name_bytes_text a.0) s s' a.2 (subst (λ k. Says 1 (name_bytes_text k) s') ((one_list name_of bytes b.0 b.1).0 a.0 a.1) b.2)
names_one m input budget bytes s s' (inl a) (inr b) = absurd (some_none (list_of name_of bytes) b.0 b.1 (one_list name_of bytes a.0 a.1).1)
names_one m input budget bytes s s' (inr a) (inl b) = absurd (some_none (list_of name_of bytes) a.0 a.1 (one_list name_of bytes b.0 b.1).1)
names_one m input budget bytes s s' (inr a) (inr b) =
    turns_one m input budget a.0 s s' a.2 (subst (λ ns. RepliesToTurns m input budget ns s') (some_one (list_of name_of bytes) b.0 a.0 b.1 a.1) b.2)

ends_one : (Saying : Said → Type 0) → SaysOne Saying → IsOne (Ends Saying)
ends_one Saying one f loads loads' s s' a b r r' = (r.0 ∙ sym r'.0, one s s' r.1 r'.1)

given_one : (name : List ℕ) (Then : List ℕ → List Load → Said → Type 0) → ((bytes : List ℕ) → IsOne (Then bytes)) → (gave : Loaded) → IsOne (Given name Then gave)
given_one name Then one (Err fault) = ends_one (RefusesLoad name fault) (refusal_one name fault)
given_one name Then one (Ok bytes) = one bytes

-- no reply is by want of memory
pub told_gave : (name : List ℕ) (limit : ℕ) (Then : List ℕ → List Load → Said → Type 0) (load : Load) (loads : List Load) (s : Said) (f : Files)
    → IsLoadOf name limit load → Given name Then load.gave loads s → IsToldBy load f → load.gave ≡ load_of f name limit
told_gave name limit Then load loads s f is r told =
    told (λ m. (subst (λ g. Given name Then g loads s) m r).1) ∙ (λ i. load_of f (is.0 i) (is.1 i))

behind_one : (name : List ℕ) (limit : ℕ) (Then : List ℕ → List Load → Said → Type 0) → ((bytes : List ℕ) → IsOne (Then bytes)) → IsOne (Behind name limit Then)
behind_one name limit Then one f [] loads' s s' a b r r' = absurd r
behind_one name limit Then one f (load ∷ loads) [] s s' a b r r' = absurd r'
behind_one name limit Then one f (load ∷ loads) (load' ∷ loads') s s' a b r r' =
    let e : load.gave ≡ load_of f name limit = told_gave name limit Then load loads s f r.0 r.1 a.0 in
    let e' : load'.gave ≡ load_of f name limit = told_gave name limit Then load' loads' s' f r'.0 r'.1 b.0 in
    let rest = given_one name Then one load.gave (after_load limit f) loads loads' s s'
    (subst (λ n. AreTold loads (after_load n f)) r.0.1 a.1) (subst (λ n. AreTold loads' (after_load n f)) r'.0.1 b.1)
    r.1 (subst (λ g. Given name Then g loads' s') (e' ∙ sym e) r'.1) in
    (two (one_load load load' r.0 r'.0 (e ∙ sym e')) rest.0, rest.1)
  where
    one_load : (l l' : Load) → IsLoadOf name limit l → IsLoadOf name limit l' → l.gave ≡ l'.gave → l ≡ l'
    one_load l l' is is' e = λ i. record { name = (is.0 ∙ sym is'.0) i; limit = (is.1 ∙ sym is'.1) i; gave = e i }

    two : {l l' : Load} {loads loads' : List Load} → l ≡ l' → loads ≡ loads' → (l ∷ loads) ≡ (l' ∷ loads')
    two e d = λ i. e i ∷ d i

numbers_one : (m : Module) (input : List ℤ) (budget : ℕ) (names : Option (List ℕ)) → IsOne (RepliesToNumbers m input budget names)
numbers_one m input budget None = ends_one (RunsByLeast m input budget) (least_one m input budget)
numbers_one m input budget (Some name) =
    behind_one name 16777216 (λ bytes. Ends (RepliesToNames m input budget bytes)) (λ bytes. ends_one (RepliesToNames m input budget bytes) (names_one m input budget bytes))

refused_input_one : (bytes : List ℕ) → SaysOne (RefusesInput bytes)
refused_input_one bytes s s' a b = says_one 1 (input_text a.0) s s' a.2 (subst (λ k. Says 1 (input_text k) s') ((one_list int_of bytes b.0 b.1).0 a.0 a.1) b.2)

input_one : (t : Replay) (m : Module) (bytes : List ℕ) → IsOne (RepliesToInput t m bytes)
input_one t m bytes f loads loads' s s' a b (inl r) (inl r') = ends_one (RefusesInput bytes) (refused_input_one bytes) f loads loads' s s' a b r r'
input_one t m bytes f loads loads' s s' a b (inl r) (inr r') = absurd (some_none (list_of int_of bytes) r'.0 r'.1 (one_list int_of bytes r.1.0 r.1.1).1)
input_one t m bytes f loads loads' s s' a b (inr r) (inl r') = absurd (some_none (list_of int_of bytes) r.0 r.1 (one_list int_of bytes r'.1.0 r'.1.1).1)
input_one t m bytes f loads loads' s s' a b (inr r) (inr r') =
    numbers_one m r.0 t.budget t.names f loads loads' s s' a b r.2
    (subst (λ ns. RepliesToNumbers m ns t.budget t.names loads' s') (some_one (list_of int_of bytes) r'.0 r.0 r'.1 r.1) r'.2)

pub one_job : (words : List (List ℕ)) (job other : Option Job) → Asks words job → Asks words other → job ≡ other
one_job words (Some job) (Some other) a b = ap Some (read_one_way words job other a b)
one_job words (Some job) None a b = absurd (b job a)
one_job words None (Some other) a b = absurd (a other b)
one_job words None None a b = refl

pub failed_is : {K : Type 0} (sink : SinkTells K) (failed : Bool) (text : List ℕ) (out out' : K) (held : Held) → sink.told out ≡ Some held
    → IsWrite sink (record { piece = text; failed = failed }) out out' → (failed ≡ write_fails held text) × (sink.told out' ≡ Some (after_write held text))
failed_is sink failed text out out' held e w =
    (subst (λ o. IfSome o (λ h. failed ≡ write_fails h text)) e w.answer, w.told ∙ ap (option_map (λ h. after_write h text)) e)

refused_source_one : (bytes : List ℕ) → SaysOne (RefusesSource bytes)
refused_source_one bytes s s' a b =
    says_one 1 (fault_text bytes a.0) s s' a.2 (subst (λ g. Says 1 (fault_text bytes g) s') (one_fault bytes b.0 a.0 b.1 a.1) b.2)

source_one : (t : Replay) (bytes : List ℕ) → IsOne (RepliesToSource t bytes)
source_one t bytes f loads loads' s s' a b (inl r) (inl r') = ends_one (RefusesSource bytes) (refused_source_one bytes) f loads loads' s s' a b r r'
source_one t bytes f loads loads' s s' a b (inl r) (inr r') = absurd (no_fault_of_module bytes r'.0 r.1.0 r'.1 r.1.1)
source_one t bytes f loads loads' s s' a b (inr r) (inl r') = absurd (no_fault_of_module bytes r.0 r'.1.0 r.1 r'.1.1)
source_one t bytes f loads loads' s s' a b (inr r) (inr r') =
    behind_one t.input 16777216 (RepliesToInput t r.0) (λ input. input_one t r.0 input) f loads loads' s s' a b r.2
    (subst (λ m. Behind t.input 16777216 (RepliesToInput t m) loads' s') (one_module bytes r'.0 r.0 r'.1 r.1) r'.2)

job_one : (job : Job) → IsOne (RepliesToJob job)
job_one (jobs.Replay file input names budget) =
    let t : Replay = record { file = file; input = input; names = names; budget = budget } in behind_one file 67108864 (RepliesToSource t) (λ bytes. source_one t bytes)
job_one (jobs.Gen n) = ends_one (Says 0 (program_text n)) (says_one 0 (program_text n))
job_one (jobs.Build src) = ends_one (Says 2 usage_text) (says_one 2 usage_text)
job_one (jobs.Check file) = ends_one (Says 2 usage_text) (says_one 2 usage_text)
job_one (jobs.Sets src) = ends_one (Says 2 usage_text) (says_one 2 usage_text)
job_one (jobs.Run file input w s b) = ends_one (Says 2 usage_text) (says_one 2 usage_text)
job_one (jobs.Trial n w s b) = ends_one (Says 2 usage_text) (says_one 2 usage_text)

reply_one : (job : Option Job) → IsOne (Replies job)
reply_one None = ends_one (Says 2 usage_text) (says_one 2 usage_text)
reply_one (Some job) = job_one job

answers_alike : {L K L' K' : Type 0} {library : LibraryTells L} {sink : SinkTells K} {library' : LibraryTells L'} {sink' : SinkTells K'} {words : List (List ℕ)} {files : Files} {held : Held}
    (c : ToldCall library sink words files held) (d : ToldCall library' sink' words files held)
    → Answers library sink words c.before c.after c.empty c.written c.status c.journal → Answers library' sink' words d.before d.after d.empty d.written d.status d.journal → EndAlike c d
answers_alike {library = library} {sink = sink} {library' = library'} {sink' = sink'} {words = words} {files = files} {held = held} c d a b =
    let ta = chain_told library a.replied.loads c.before c.after files a.replied.loaded c.files_told in
    let tb = chain_told library' b.replied.loads d.before d.after files b.replied.loaded d.files_told in
    let job = one_job words b.replied.job a.replied.job b.replied.asked a.replied.asked in
    let one = reply_one a.replied.job files a.replied.loads b.replied.loads a.said b.said ta.0 tb.0 a.replied.reply
    (subst (λ j. Replies j b.replied.loads b.said) job b.replied.reply) in
    let fa = failed_is sink a.handed.failed a.said.text c.empty c.written held c.held_told a.handed.written in
    let fb = failed_is sink' b.handed.failed b.said.text d.empty d.written held d.held_told b.handed.written in
    let failed : a.handed.failed ≡ b.handed.failed = fa.0 ∙ (ap (λ s. write_fails held s.text) one.1 ∙ sym fb.0) in
    record {
      status = a.handed.status_is ∙ ((λ i. if failed i then 7 else (one.1 i).status) ∙ sym b.handed.status_is);
      journal = a.handed.journal_is ∙ (ap (λ s. s.journal) one.1 ∙ sym b.handed.journal_is);
      files_left = ta.1 ∙ ((λ i. Some (after_loads (one.0 i) files)) ∙ sym tb.1);
      held_left = fa.1 ∙ ((λ i. Some (after_write held (one.1 i).text)) ∙ sym fb.1);
    }

pub answered : {L K : Type 0} {library : LibraryTells L} {sink : SinkTells K} {words : List (List ℕ)} {lib lib' : L} {out out' : K} {status : ℕ} {journal : Journal}
    → TopCall library sink words lib lib' out out' status journal → status ≢ 8 → Answers library sink words lib lib' out out' status journal
answered (inl wants) not = absurd (not wants.0)
answered (inr answers) not = answers.1

pub one_answer : {L K L' K' : Type 0} (library : LibraryTells L) (sink : SinkTells K) (library' : LibraryTells L') (sink' : SinkTells K') → OneAnswer library sink library' sink'
one_answer library sink library' sink' words files held c d = answers_alike c d (answered c.call c.answered) (answered d.call d.answered)
