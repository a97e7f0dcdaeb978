-- What a command line asks for.
use Rattle.std.specs.Prelude.{◌≡◌, ◌≢◌, ℕ, List, [], ◌∷◌, codes, Option, option_to_list, Result}
use Rattle.std.specs.List.{AllByRecursion as Each}
use Rattle.dfi_base.specs.Limits.{budget_limit, default_budget, worker_limit, default_workers, stripe_limit, default_stripes}
use Rattle.dfi_words.specs.Number.{Range, up_to, IsNumberIn}
use Rattle.dfi_words.specs.Options.{AreOptionsOf, GivesNumber, Setting, value_of}
use Rattle.dfi_words.specs.Split.{Text, Options, Split}
use Rattle.dfi_words.specs.declared.job.Job.{Job}
use Rattle.dfi_words.specs.declared.job.Job.TheVariants.{Build, Check, Sets, Replay, Run, Gen, Trial}
use Rattle.dfi_words.specs.declared.job.WordFault.{WordFault}
use Rattle.dfi_words.specs.Answers.{AnswersTo}

-- how many entries a run may make, how many threads run it, how many locks share its memory
abbrev pub budget : Setting
budget = record { range = up_to budget_limit; default = default_budget }

abbrev pub workers : Setting
workers = record { range = up_to worker_limit; default = default_workers }

abbrev pub stripes : Setting
stripes = record { range = up_to stripe_limit; default = default_stripes }

-- the numbers of the generated sources
abbrev pub sources : Range
sources = up_to 200

-- the options of a command
abbrev pub replay_options : List Text
replay_options = codes "budget" ∷ []

abbrev pub run_options : List Text
run_options = codes "workers" ∷ codes "stripes" ∷ codes "budget" ∷ []

-- the words after a command are these options, all of them its own, and these plain words, none of them empty
pub record IsLine (after : List Text) (known : List Text) (options : Options) (others : List Text) : Type 0 where
  pub split : Split after options others
  pub own : AreOptionsOf known options
  pub filled : Each (λ word. word ≢ []) others

-- the threads, locks and budget of a run, by the values that the options have
pub record IsRun (value : Text → Option Text) (w s b : ℕ) : Type 0 where
  pub threads : GivesNumber workers (value (codes "workers")) w
  pub locks : GivesNumber stripes (value (codes "stripes")) s
  pub entries : GivesNumber budget (value (codes "budget")) b

-- the words after this command ask for the job
abbrev pub Asks : Text → List Text → Job → Type 0
Asks command after (Build src) = (command ≡ codes "build") × IsLine after [] [] (src ∷ [])
Asks command after (Check file) = (command ≡ codes "check") × IsLine after [] [] (file ∷ [])
Asks command after (Sets src) = (command ≡ codes "sets") × IsLine after [] [] (src ∷ [])
Asks command after (Replay file input names b) =
    (command ≡ codes "replay") × (options : Options) × IsLine after replay_options options (file ∷ input ∷ option_to_list names)
    × GivesNumber budget (value_of (codes "budget") options) b
Asks command after (Run file input w s b) =
    (command ≡ codes "run") × (options : Options) × IsLine after run_options options (file ∷ input ∷ [])
    × IsRun (λ name. value_of name options) w s b
Asks command after (Gen n) =
    (command ≡ codes "gen") × (number : Text) × IsLine after [] [] (number ∷ []) × IsNumberIn sources number n
Asks command after (Trial n w s b) =
    (command ≡ codes "trial") × (options : Options) × (number : Text) × IsLine after run_options options (number ∷ [])
    × IsNumberIn sources number n × IsRun (λ name. value_of name options) w s b

-- the words ask for the job
abbrev pub Reads : List Text → Job → Type 0
Reads [] job = ⊥
Reads (command ∷ after) job = Asks command after job

-- an answer to the words is the job that they ask for, or a refusal where they ask for none
abbrev pub Answers : List Text → Result Job WordFault → Type 0
Answers words = AnswersTo (Reads words)

-- words ask for one job at most
abbrev pub ReadOneWay : Type 0
ReadOneWay = (words : List Text) (one other : Job) → Reads words one → Reads words other → one ≡ other
