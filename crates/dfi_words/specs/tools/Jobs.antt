-- The job of a command, by its plain words and the numbers of its options.
use Rattle.std.specs.Prelude.{ℕ, List, [], ◌∷◌, Option, Some, None, map, option_map, option_and_then, unwrap_or}
use Rattle.std.specs.Borrow.{Bor}
use Rattle.dfi_words.specs.Split.{Text}
use Rattle.dfi_words.specs.declared.job.Job.{Job}
use Rattle.dfi_words.specs.declared.job.Job.TheVariants.{Replay, Run}

-- the plain words that were found
abbrev pub words_in : Option (Bor (List (Bor Text))) → List Text
words_in plain = unwrap_or (option_map (λ words. map (λ word. word.now) words.now) plain) []

-- a word that names a file is not empty
abbrev pub file_of : Text → Option Text
file_of [] = None
file_of (b ∷ word) = Some (b ∷ word)

abbrev pub one_file_of : List Text → Option Text
one_file_of (file ∷ []) = file_of file
one_file_of others = None

abbrev pub replay_of : List Text → ℕ → Option Job
replay_of (file ∷ input ∷ []) b = option_and_then (λ f. option_map (λ i. Replay f i None b) (file_of input)) (file_of file)
replay_of (file ∷ input ∷ names ∷ []) b =
    option_and_then (λ f. option_and_then (λ i. option_map (λ n. Replay f i (Some n) b) (file_of names)) (file_of input)) (file_of file)
replay_of others b = None

abbrev pub run_of : List Text → ℕ → ℕ → ℕ → Option Job
run_of (file ∷ input ∷ []) w s b = option_and_then (λ f. option_map (λ i. Run f i w s b) (file_of input)) (file_of file)
run_of others w s b = None
