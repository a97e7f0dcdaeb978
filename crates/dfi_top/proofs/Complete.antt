-- Good words and files are answered by their run, told whole.
use Rattle.std.proofs.Common.{◌≡◌, ◌≤◌, ◌<◌, ◌+◌, ◌-◌, ◌^◌, ◌⊎◌, ℕ, Bool, true, false, if◌then◌else◌, nat_lt, Option, None, Some, Result, Ok, Err, List, [], ◌∷◌, length, refl, subst, sym, ap, inl, inr, ◌∙◌, arith}
use Rattle.std.proofs.lemmas.Bool.Decides.{nat_tests}
use Rattle.std.specs.Prelude.{ℤ, unwrap_or}
use Rattle.dfi_io.specs.Counted.{counted}
use Rattle.dfi_io.specs.Files.{Files, file_of}
use Rattle.dfi_io.specs.Loads.{load_of, load_fails, after_load}
use Rattle.dfi_io.specs.Outside.{Load, Loaded, LibraryTells, IsToldBy, SinkTells, IsWrite, faults_of_load, faults_of_write}
use Rattle.dfi_io.specs.declared.fault.LoadFault.{LoadFault}
use Rattle.dfi_io.specs.declared.fault.LoadFault.TheVariants.{Failed, Long, Memory}
use Rattle.tac_ir.specs.declared.run.Journal.{Journal}
use Rattle.tac_ir.specs.Module.{Module}
use Rattle.tac_ir.specs.Text.{text_of as run_text}
use Rattle.flat_core.proofs.Alike.{no_run}
use Rattle.number_lists.specs.Lists.{int_of, name_of, list_of}
use Rattle.number_lists.proofs.OneAnswer.{one_answer as one_list}
use Rattle.dfi_words.specs.declared.job.Job.TheVariants as jobs
use Rattle.dfi_words.specs.Reads.{Reads}
use Rattle.dfi_build.specs.Builds.{IsModuleOf}
use Rattle.dfi_build.proofs.OneBuild.{one_module, no_fault_of_module}
use Rattle.dfi_top.specs.declared.stages.Replay.{Replay}
use Rattle.dfi_top.specs.Laws.{HasFile, HasNames, CanReplay, TellsWhole, NoFault, Complete, Generates}
use Rattle.dfi_top.specs.Loads.{Chain}
use Rattle.dfi_top.specs.Reply.{Said, status_of, TellsRun, RepliesToTurns, Ends, Given, Behind, RepliesToNames, RepliesToNumbers, RepliesToInput, RepliesToSource, RepliesToReplay, Replies}
use Rattle.dfi_top.specs.TopCall.{Answers}
use Rattle.dfi_top.proofs.Told.{load_told}
use Rattle.dfi_top.proofs.OneAnswer.{told_gave, one_job, some_one, some_none}

-- a count within 64 bits never falls, and stays within them
later_load : (n : ℕ) (gave : Loaded) → n ≤ 2 ^ 64 - 1 → (n ≤ faults_of_load n gave) × (faults_of_load n gave ≤ 2 ^ 64 - 1)
later_load n (Ok bytes) le = (omega arith, le)
later_load n (Err Failed) le = (omega (arith, le), omega (arith, le))
later_load n (Err Long) le = (omega arith, le)
later_load n (Err Memory) le = (omega arith, le)

later : {L : Type 0} (tells : LibraryTells L) (loads : List Load) (before after : L) → tells.faults before ≤ 2 ^ 64 - 1 → Chain tells loads before after → tells.faults before ≤ tells.faults after
later tells [] before after le c = let same : tells.faults after ≡ tells.faults before = ap tells.faults c in omega (arith, same)
later tells (load ∷ loads) before after le c =
    let count = c.1.faults in
    let one = later_load (tells.faults before) load.gave le in
    let first : tells.faults before ≤ tells.faults c.0 = subst (λ n. tells.faults before ≤ n) (sym count) one.0 in
    let most : tells.faults c.0 ≤ 2 ^ 64 - 1 = subst (λ n. n ≤ 2 ^ 64 - 1) (sym count) one.1 in
    let rest = later tells loads c.0 after most c.2 in
    omega (arith, first, rest)

-- what a file gives that is there and within the limit
choose : (fails : Bool) (o : Option (List ℕ)) (bytes : List ℕ) (limit : ℕ) → o ≡ Some bytes → length bytes ≤ limit
    → (gave : Loaded) → gave ≡ (if fails then Err Failed else (if nat_lt limit (length (unwrap_or o [])) then Err Long else Ok (unwrap_or o []))) → (gave ≡ Err Failed) ⊎ (gave ≡ Ok bytes)
choose true o bytes limit e le gave is = inl is
choose false o bytes limit e le gave is =
    let short : nat_lt limit (length bytes) ≡ false = grind (arith, nat_tests, le) in
    inr (is ∙ ap (λ (p : Option (List ℕ)). if nat_lt limit (length (unwrap_or p [])) then Err Long else Ok (unwrap_or p [])) e ∙ ap (λ t. if t then Err Long else Ok bytes) short)

-- behind one load of a good file
record Passed {L : Type 0} (tells : LibraryTells L) (limit : ℕ) (Then : List ℕ → List Load → Said → Type 0) (bytes : List ℕ) (files : Files) (after : L) (said : Said) : Type 0 where
  mid : L
  loads : List Load
  chain : Chain tells loads mid after
  told : tells.told mid ≡ Some (after_load limit files)
  faults : NoFault (tells.faults mid) (tells.faults after)
  reply : Then bytes loads said

passed : {L : Type 0} (tells : LibraryTells L) (loads : List Load) (before after : L) (f : Files) (name : List ℕ) (limit : ℕ) (Then : List ℕ → List Load → Said → Type 0) (bytes : List ℕ) (said : Said)
    → Chain tells loads before after → tells.told before ≡ Some f → HasFile f name limit bytes → NoFault (tells.faults before) (tells.faults after) → Behind name limit Then loads said
    → Passed tells limit Then bytes f after said
passed tells [] before after f name limit Then bytes said c e has none r = absurd r
passed tells (load ∷ loads) before after f name limit Then bytes said c e has none r =
    elim (choose (load_fails f name) (file_of f.files name) bytes limit has.0 has.1 load.gave (told_gave name limit Then load loads said f r.0 r.1 first.0))
    [ inl failed ↦ absurd (no_failure failed) | inr good ↦ on good ]
  where
    first : IsToldBy load f × (tells.told c.0 ≡ Some (after_load load.limit f))
    first = load_told tells load before c.0 f c.1 e

    no_failure : load.gave ≡ Err Failed → ⊥
    no_failure failed =
        let low = none.0 in
        let stay = none.1 in
        let count : tells.faults c.0 ≡ counted (tells.faults before) = c.1.faults ∙ ap (faults_of_load (tells.faults before)) failed in
        let most : tells.faults c.0 ≤ 2 ^ 64 - 1 = omega (arith, count, low) in
        let rest = later tells loads c.0 after most c.2 in
        omega (arith, low, stay, count, rest)

    on : load.gave ≡ Ok bytes → Passed tells limit Then bytes f after said
    on good =
        let count : tells.faults c.0 ≡ tells.faults before = c.1.faults ∙ ap (faults_of_load (tells.faults before)) good in
        record {
          mid = c.0;
          loads = loads;
          chain = c.2;
          told = subst (λ n. tells.told c.0 ≡ Some (after_load n f)) r.0.1 first.1;
          faults = subst (λ n. NoFault n (tells.faults after)) (sym count) none;
          reply = subst (λ g. Given name Then g loads said) good r.1;
        }

-- the run of numbers, along names where there are some
told_numbers : {L : Type 0} (tells : LibraryTells L) (loads : List Load) (before after : L) (f : Files) (m : Module) (input : List ℤ) (budget : ℕ) (names : Option (List ℕ)) (said : Said)
    → Chain tells loads before after → tells.told before ≡ Some f → HasNames f m input budget names → NoFault (tells.faults before) (tells.faults after)
    → RepliesToNumbers m input budget names loads said → TellsRun m said
told_numbers tells loads before after f m input budget None said c e has none r = r.1.told
told_numbers tells loads before after f m input budget (Some name) said c e has none r =
    let p = passed tells loads before after f name 16777216 (λ bytes. Ends (RepliesToNames m input budget bytes)) has.0 said c e has.1 none r in
    by_names p.reply.1
  where
    by_turns : RepliesToTurns m input budget has.2.0 said → TellsRun m said
    by_turns (inl run) = run.told
    by_turns (inr refused) = absurd (no_run m input budget has.2.0 refused.0 has.2.2.0 refused.1 has.2.2.1)

    by_names : RepliesToNames m input budget has.0 said → TellsRun m said
    by_names (inl refused) = absurd (some_none (list_of name_of has.0) has.2.0 has.2.1 (one_list name_of has.0 refused.0 refused.1).1)
    by_names (inr named) = by_turns (subst (λ ns. RepliesToTurns m input budget ns said) (some_one (list_of name_of has.0) named.0 has.2.0 named.1 has.2.1) named.2)

told_input : (t : Replay) (m : Module) (bytes : List ℕ) (numbers : List ℤ) (loads : List Load) (said : Said) → list_of int_of bytes ≡ Some numbers
    → RepliesToInput t m bytes loads said → RepliesToNumbers m numbers t.budget t.names loads said
told_input t m bytes numbers loads said listed (inl refused) = absurd (some_none (list_of int_of bytes) numbers listed (one_list int_of bytes refused.1.0 refused.1.1).1)
told_input t m bytes numbers loads said listed (inr read) =
    subst (λ ns. RepliesToNumbers m ns t.budget t.names loads said) (some_one (list_of int_of bytes) read.0 numbers read.1 listed) read.2

told_source : (t : Replay) (bytes : List ℕ) (m : Module) (loads : List Load) (said : Said) → IsModuleOf bytes m → RepliesToSource t bytes loads said → Behind t.input 16777216 (RepliesToInput t m) loads said
told_source t bytes m loads said built (inl refused) = absurd (no_fault_of_module bytes m refused.1.0 built refused.1.1)
told_source t bytes m loads said built (inr is) = subst (λ n. Behind t.input 16777216 (RepliesToInput t n) loads said) (one_module bytes is.0 m is.1 built) is.2

told_replay : {L : Type 0} (tells : LibraryTells L) (loads : List Load) (before after : L) (f : Files) (file input : List ℕ) (names : Option (List ℕ)) (budget : ℕ) (said : Said)
    → Chain tells loads before after → tells.told before ≡ Some f → (good : CanReplay f file input names budget) → NoFault (tells.faults before) (tells.faults after)
    → RepliesToReplay (record { file = file; input = input; names = names; budget = budget }) loads said → TellsRun good.m said
told_replay tells loads before after f file input names budget said c e good none r =
    let t : Replay = record { file = file; input = input; names = names; budget = budget } in
    let p = passed tells loads before after f file 67108864 (RepliesToSource t) good.source said c e good.has_source none r in
    let q = passed tells p.loads p.mid after (after_load 67108864 f) input 16777216 (RepliesToInput t good.m) good.bytes said p.chain p.told good.has_input p.faults
    (told_source t good.source good.m p.loads said good.built p.reply) in
    told_numbers tells q.loads q.mid after (after_load 16777216 (after_load 67108864 f)) good.m good.numbers budget names said q.chain q.told (same_names names good.has_names) q.faults
    (told_input t good.m good.bytes good.numbers q.loads said good.listed q.reply)
  where
    same_names : (o : Option (List ℕ)) → HasNames f good.m good.numbers budget o → HasNames (after_load 16777216 (after_load 67108864 f)) good.m good.numbers budget o
    same_names None has = tt
    same_names (Some name) has = has

not_failed : (n : ℕ) (failed : Bool) → n < 2 ^ 64 - 1 → faults_of_write n failed ≡ n → failed ≡ false
not_failed n true low e = absurd (omega (arith, low, e))
not_failed n false low e = refl

told_whole : {L K : Type 0} (library : LibraryTells L) (sink : SinkTells K) (words : List (List ℕ)) (lib lib' : L) (out out' : K) (status : ℕ) (journal : Journal) (m : Module)
    → NoFault (sink.faults out) (sink.faults out') → (a : Answers library sink words lib lib' out out' status journal) → TellsRun m a.said → TellsWhole sink out out' status journal m
told_whole library sink words lib lib' out out' status journal m none a told =
    let good : a.handed.failed ≡ false = not_failed (sink.faults out) a.handed.failed none.0 (sym a.handed.written.faults ∙ none.1) in
    let text : a.said.text ≡ run_text m journal = told.text_is ∙ ap (run_text m) (sym a.handed.journal_is) in
    record {
      status_is = a.handed.status_is ∙ ap (λ b. if b then 7 else a.said.status) good ∙ told.status_is ∙ ap (λ j. status_of j.end) (sym a.handed.journal_is);
      written = subst (λ w. IsWrite sink w out out') (λ i. record { piece = text i; failed = good i }) a.handed.written;
    }

pub complete : {L K : Type 0} (library : LibraryTells L) (sink : SinkTells K) → Complete library sink
complete library sink file input names budget words files lib lib' out out' status journal reads e good loads_well writes_well (inl wants) = inl wants.0
complete library sink file input names budget words files lib lib' out out' status journal reads e good loads_well writes_well (inr (not, a)) =
    let job = one_job words a.replied.job (Some (jobs.Replay file input names budget)) a.replied.asked reads in
    let reply = subst (λ j. Replies j a.replied.loads a.said) job a.replied.reply in
    inr (told_whole library sink words lib lib' out out' status journal good.m writes_well a
    (told_replay library a.replied.loads lib lib' files file input names budget a.said a.replied.loaded e good loads_well reply))

pub generates : {L K : Type 0} (library : LibraryTells L) (sink : SinkTells K) → Generates library sink
generates library sink n words lib lib' out out' status journal reads none (inl wants) = inl wants.0
generates library sink n words lib lib' out out' status journal reads none (inr (not, a)) =
    let job = one_job words a.replied.job (Some (jobs.Gen n)) a.replied.asked reads in
    let reply = subst (λ j. Replies j a.replied.loads a.said) job a.replied.reply in
    let good = not_failed (sink.faults out) a.handed.failed none.0 (sym a.handed.written.faults ∙ none.1) in
    inr (
      a.handed.status_is ∙ ap (λ b. if b then 7 else a.said.status) good ∙ reply.1.status_is,
      subst (λ w. IsWrite sink w out out') (λ i. record { piece = reply.1.text_is i; failed = good i }) a.handed.written,
    )
