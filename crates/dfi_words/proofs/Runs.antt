-- From the options and plain words of a line to a run on threads.
use Rattle.std.proofs.Common.{◌≡◌, ◌≢◌, ℕ, List, [], ◌∷◌, map, drop, slice_get, String, string_bytes, Some, codes, refl, sym, ap, subst, ◌∙◌, Result, Ok, Err}
use Rattle.std.specs.List.{AllByRecursion as Each}
use Rattle.clap.specs.Words.{first_of, found_of, rows_of}
use Rattle.clap.specs.declared.parser.matches.ArgMatches.{ArgMatches}
use Rattle.dfi_words.specs.Answers.{AnswersTo, Means}
use Rattle.dfi_words.specs.tools.Found.{FoundBy, plain_id}
use Rattle.dfi_words.specs.tools.Jobs.{run_of}
use Rattle.dfi_words.specs.Number.{IsNumberIn}
use Rattle.dfi_words.specs.Options.{AreOptionsOf, GivesNumber, value_of}
use Rattle.dfi_words.specs.Split.{Options, Split, Text}
use Rattle.dfi_words.specs.Reads.{Asks, IsLine, IsRun, Reads, budget, run_options, sources, stripes, workers}
use Rattle.dfi_words.specs.declared.commands.Settings.{Settings}
use Rattle.dfi_words.specs.declared.job.Job.{Job}
use Rattle.dfi_words.specs.declared.job.Job.TheVariants.{Build, Check, Sets, Replay, Run, Gen, Trial}
use Rattle.dfi_words.specs.declared.job.WordFault.{WordFault}
use Rattle.dfi_words.proofs.Jobs.{OnlyNumber, PlainOf, differ, err_to, file_of_file, line_err, means_to, not_empty, run_plain}
use Rattle.dfi_words.proofs.Reading.{PlainValues}
use Rattle.dfi_words.proofs.Splits.{split_once}
use Rattle.dfi_words.proofs.Unique.{SameRun, run_once}

-- a run by the values that were found
abbrev pub RunOf : ArgMatches → ℕ → ℕ → ℕ → Type 0
RunOf m w s b = IsRun (λ name. first_of name (rows_of (found_of m))) w s b

pub record AnyRun (m : ArgMatches) : Type 0 where
  pub w : ℕ
  pub s : ℕ
  pub b : ℕ
  pub run : RunOf m w s b

pub record IsFiles (others : List Text) (w s b : ℕ) (job : Job) : Type 0 where
  pub file : Text
  pub input : Text
  pub job_is : job ≡ Run file input w s b
  pub words_are : others ≡ file ∷ input ∷ []
  pub filled : Each (λ word. word ≢ []) (file ∷ input ∷ [])

run_is : (others : List Text) (w s b : ℕ) (job : Job) → run_of others w s b ≡ Some job → IsFiles others w s b job
run_is [] w s b job e = absurd cc
run_is (x ∷ []) w s b job e = absurd cc
run_is ([] ∷ input ∷ []) w s b job e = absurd cc
run_is ((c ∷ file) ∷ [] ∷ []) w s b job e = absurd cc
run_is ((c ∷ file) ∷ (d ∷ input) ∷ []) w s b job e = record {
  file = c ∷ file;
  input = d ∷ input;
  job_is = cc;
  words_are = refl;
  filled = (not_empty c file, (not_empty d input, tt));
}
run_is (x ∷ y ∷ z ∷ others) w s b job e = absurd cc

run_back : (others : List Text) (file input : Text) (w s b x t d : ℕ) (job : Job) → others ≡ file ∷ input ∷ [] → SameRun w s b x t d → job ≡ Run file input x t d
    → Each (λ word. word ≢ []) (file ∷ input ∷ []) → run_of others w s b ≡ Some job
run_back others file input w s b x t d job words numbers is filled =
    rw (words, numbers.threads, numbers.locks, numbers.entries, is, file_of_file file filled.0, file_of_file input filled.1.0) refl

-- what a run asks for
pub record AsksRun (after : List Text) (job : Job) : Type 0 where
  pub file : Text
  pub input : Text
  pub w : ℕ
  pub s : ℕ
  pub b : ℕ
  pub options : Options
  pub job_is : job ≡ Run file input w s b
  pub line : IsLine after run_options options (file ∷ input ∷ [])
  pub run : IsRun (λ name. value_of name options) w s b

as_run : (after : List Text) (job : Job) → Asks (codes "run") after job → AsksRun after job
as_run after (Run file input w s b) p = record { file = file; input = input; w = w; s = s; b = b; options = p.1; job_is = refl; line = p.2; run = p.3 }
as_run after (Build src) p = absurd (differ _ _ refl p.0)
as_run after (Check file) p = absurd (differ _ _ refl p.0)
as_run after (Sets src) p = absurd (differ _ _ refl p.0)
as_run after (Replay file input names b) p = absurd (differ _ _ refl p.0)
as_run after (Gen n) p = absurd (differ _ _ refl p.0)
as_run after (Trial n w s b) p = absurd (differ _ _ refl p.0)

-- what a trial asks for
pub record AsksTrial (after : List Text) (job : Job) : Type 0 where
  pub n : ℕ
  pub number : Text
  pub w : ℕ
  pub s : ℕ
  pub b : ℕ
  pub options : Options
  pub line : IsLine after run_options options (number ∷ [])
  pub is_number : IsNumberIn sources number n
  pub run : IsRun (λ name. value_of name options) w s b

as_trial : (after : List Text) (job : Job) → Asks (codes "trial") after job → AsksTrial after job
as_trial after (Trial n w s b) p = record { n = n; number = p.2; w = w; s = s; b = b; options = p.1; line = p.3; is_number = p.4; run = p.5 }
as_trial after (Build src) p = absurd (differ _ _ refl p.0)
as_trial after (Check file) p = absurd (differ _ _ refl p.0)
as_trial after (Sets src) p = absurd (differ _ _ refl p.0)
as_trial after (Replay file input names b) p = absurd (differ _ _ refl p.0)
as_trial after (Run file input w s b) p = absurd (differ _ _ refl p.0)
as_trial after (Gen n) p = absurd (differ _ _ refl p.0)

-- ---- the values that were found are those of the options

module _ (words : List Text) (m : ArgMatches) (f : FoundBy run_options words (Ok m)) where
  same_values : (name : Text) → name ≢ plain_id → first_of name (rows_of (found_of m)) ≡ value_of name f.0
  same_values = f.4.values

  pub run_of_options : (w s b : ℕ) → RunOf m w s b → IsRun (λ name. value_of name f.0) w s b
  run_of_options w s b run = record {
    threads = subst (λ v. GivesNumber workers v w) (same_values (codes "workers") (differ _ _ refl)) run.threads;
    locks = subst (λ v. GivesNumber stripes v s) (same_values (codes "stripes") (differ _ _ refl)) run.locks;
    entries = subst (λ v. GivesNumber budget v b) (same_values (codes "budget") (differ _ _ refl)) run.entries;
  }

  run_of_found : (w s b : ℕ) → IsRun (λ name. value_of name f.0) w s b → RunOf m w s b
  run_of_found w s b run = record {
    threads = subst (λ v. GivesNumber workers v w) (sym (same_values (codes "workers") (differ _ _ refl))) run.threads;
    locks = subst (λ v. GivesNumber stripes v s) (sym (same_values (codes "stripes") (differ _ _ refl))) run.locks;
    entries = subst (λ v. GivesNumber budget v b) (sym (same_values (codes "budget") (differ _ _ refl))) run.entries;
  }

  moved : (options : Options) (w s b : ℕ) → f.0 ≡ options → IsRun (λ name. value_of name options) w s b → IsRun (λ name. value_of name f.0) w s b
  moved options w s b e run = subst (λ o. IsRun (λ name. value_of name o) w s b) (sym e) run

  pub run_answer : (plain : List Text) (w s b : ℕ) (r : Result Job WordFault) → PlainOf m plain → RunOf m w s b → Means (run_of plain w s b) r
      → AnswersTo (Asks (codes "run") (drop 1 words)) r
  run_answer plain w s b r p g h = means_to (run_of plain w s b) (Asks (codes "run") (drop 1 words)) to back r h
    where
      all : plain ≡ f.1
      all = p ∙ f.4.plain

      to : (job : Job) → run_of plain w s b ≡ Some job → Asks (codes "run") (drop 1 words) job
      to job e =
          let is = run_is plain w s b job e in
          subst (Asks (codes "run") (drop 1 words)) (sym is.job_is)
          (refl, f.0, record { split = subst (Split (drop 1 words) f.0) (sym all ∙ is.words_are) f.2; own = f.3; filled = is.filled }, run_of_options w s b g)

      back : (job : Job) → Asks (codes "run") (drop 1 words) job → run_of plain w s b ≡ Some job
      back job q =
          let is = as_run (drop 1 words) job q in
          let lines = split_once (drop 1 words) f.0 is.options f.1 (is.file ∷ is.input ∷ []) f.2 is.line.split in
          let numbers = run_once (λ name. value_of name f.0) w s b is.w is.s is.b (run_of_options w s b g) (moved is.options is.w is.s is.b lines.0 is.run) in
          run_back plain is.file is.input w s b is.w is.s is.b job (all ∙ lines.1) numbers is.job_is is.line.filled

  pub run_found : (job : Job) → Asks (codes "run") (drop 1 words) job → AnyRun m
  run_found job q =
      let is = as_run (drop 1 words) job q in
      let lines = split_once (drop 1 words) f.0 is.options f.1 _ f.2 is.line.split in
      record { w = is.w; s = is.s; b = is.b; run = run_of_found is.w is.s is.b (moved is.options is.w is.s is.b lines.0 is.run) }

  pub trial_found : (job : Job) → Asks (codes "trial") (drop 1 words) job → AnyRun m
  trial_found job q =
      let is = as_trial (drop 1 words) job q in
      let lines = split_once (drop 1 words) f.0 is.options f.1 _ f.2 is.line.split in
      record { w = is.w; s = is.s; b = is.b; run = run_of_found is.w is.s is.b (moved is.options is.w is.s is.b lines.0 is.run) }

  pub trial_number_err : (plain : List Text) → PlainOf m plain → (fault : WordFault) → AnswersTo (OnlyNumber plain) (Err fault) → AnswersTo (Asks (codes "trial") (drop 1 words)) (Err fault)
  trial_number_err plain p fault h = err_to (Asks (codes "trial") (drop 1 words)) (OnlyNumber plain) fault to h
    where
      to : (job : Job) → Asks (codes "trial") (drop 1 words) job → (n : ℕ) × OnlyNumber plain n
      to job q =
          let is = as_trial (drop 1 words) job q in
          let lines = split_once (drop 1 words) f.0 is.options f.1 (is.number ∷ []) f.2 is.line.split in
          (is.n, (is.number, p ∙ f.4.plain ∙ lines.1, is.is_number))

pub run_line_err : (words : List Text) (f : WordFault) → FoundBy run_options words (Err f) → AnswersTo (Asks (codes "run") (drop 1 words)) (Err f)
run_line_err words f h = line_err (Asks (codes "run") (drop 1 words)) run_options words f to h
  where
    to : (job : Job) → Asks (codes "run") (drop 1 words) job
        → (options : Options) × (others : List Text) × Split (drop 1 words) options others × AreOptionsOf run_options options × PlainValues options
    to job p =
        let is = as_run (drop 1 words) job p in
        (is.options, is.file ∷ is.input ∷ [], is.line.split, is.line.own, run_plain is.options is.w is.s is.b is.line.own is.run)

pub trial_line_err : (words : List Text) (f : WordFault) → FoundBy run_options words (Err f) → AnswersTo (Asks (codes "trial") (drop 1 words)) (Err f)
trial_line_err words f h = line_err (Asks (codes "trial") (drop 1 words)) run_options words f to h
  where
    to : (job : Job) → Asks (codes "trial") (drop 1 words) job
        → (options : Options) × (others : List Text) × Split (drop 1 words) options others × AreOptionsOf run_options options × PlainValues options
    to job p =
        let is = as_trial (drop 1 words) job p in
        (is.options, is.number ∷ [], is.line.split, is.line.own, run_plain is.options is.w is.s is.b is.line.own is.run)

-- no settings are found
pub settings_err : (P : Job → Type 0) (m : ArgMatches) (f : WordFault) → ((job : Job) → P job → AnyRun m)
    → AnswersTo (λ (s : Settings). RunOf m s.workers s.stripes s.budget) (Err f) → AnswersTo P (Err f)
settings_err P m f to h = err_to P (λ (s : Settings). RunOf m s.workers s.stripes s.budget) f found h
  where
    found : (job : Job) → P job → (s : Settings) × RunOf m s.workers s.stripes s.budget
    found job p = let is = to job p in (record { workers = is.w; stripes = is.s; budget = is.b }, is.run)

-- ---- the command

pub by_command : (words : List Text) (command : Text) (r : Result Job WordFault) → slice_get words 0 ≡ Some command → AnswersTo (Asks command (drop 1 words)) r → AnswersTo (Reads words) r
by_command [] command r e h = absurd cc
by_command (word ∷ after) command r e h = let is : word ≡ command = cc in subst (λ w. AnswersTo (Reads (w ∷ after)) r) (sym is) h

first_word : {Z : Type 0} (words : List (String Z)) (word : String Z) → Some word ≡ slice_get words 0 → slice_get (map string_bytes words) 0 ≡ Some (string_bytes word)
first_word [] word e = absurd cc
first_word (first ∷ words) word e = let is : word ≡ first = cc in ap (λ w. Some (string_bytes w)) (sym is)

pub by_word : {Z : Type 0} (words : List (String Z)) (word : String Z) (text command : Text) (r : Result Job WordFault) → Some word ≡ slice_get words 0
    → text ≡ string_bytes word → text ≡ command → AnswersTo (Asks command (drop 1 (map string_bytes words))) r → AnswersTo (Reads (map string_bytes words)) r
by_word words word text command r first is named h = by_command (map string_bytes words) command r (first_word words word first ∙ ap Some (sym is ∙ named)) h

-- ---- a command that takes one plain word and no option

abbrev pub OneFile : List Text → Text → Type 0
OneFile after file = IsLine after [] [] (file ∷ [])

build_file : (after : List Text) (job : Job) → Asks (codes "build") after job → (file : Text) × OneFile after file
build_file after (Build src) p = (src, p.1)
build_file after job p = absurd (differ _ _ refl p.0)

check_file : (after : List Text) (job : Job) → Asks (codes "check") after job → (file : Text) × OneFile after file
check_file after (Check file) p = (file, p.1)
check_file after job p = absurd (differ _ _ refl p.0)

sets_file : (after : List Text) (job : Job) → Asks (codes "sets") after job → (file : Text) × OneFile after file
sets_file after (Sets src) p = (src, p.1)
sets_file after job p = absurd (differ _ _ refl p.0)

abbrev pub OneNumber : List Text → ℕ → Type 0
OneNumber after n = (number : Text) × IsLine after [] [] (number ∷ []) × IsNumberIn sources number n

gen_number : (after : List Text) (job : Job) → Asks (codes "gen") after job → (n : ℕ) × OneNumber after n
gen_number after (Gen n) p = (n, (p.1, p.2, p.3))
gen_number after job p = absurd (differ _ _ refl p.0)

pub build_err : (after : List Text) (f : WordFault) → AnswersTo (OneFile after) (Err f) → AnswersTo (Asks (codes "build") after) (Err f)
build_err after f h = err_to (Asks (codes "build") after) (OneFile after) f (build_file after) h

pub check_err : (after : List Text) (f : WordFault) → AnswersTo (OneFile after) (Err f) → AnswersTo (Asks (codes "check") after) (Err f)
check_err after f h = err_to (Asks (codes "check") after) (OneFile after) f (check_file after) h

pub sets_err : (after : List Text) (f : WordFault) → AnswersTo (OneFile after) (Err f) → AnswersTo (Asks (codes "sets") after) (Err f)
sets_err after f h = err_to (Asks (codes "sets") after) (OneFile after) f (sets_file after) h

pub gen_err : (after : List Text) (f : WordFault) → AnswersTo (OneNumber after) (Err f) → AnswersTo (Asks (codes "gen") after) (Err f)
gen_err after f h = err_to (Asks (codes "gen") after) (OneNumber after) f (gen_number after) h
