-- Words ask for one job at most.
use Rattle.std.proofs.Common.{◌≡◌, ℕ, List, [], ◌∷◌, Option, Some, None, option_to_list, refl, sym, ap, subst, ◌∙◌}
use Rattle.std.proofs.lemmas.Bool.{true≢false}
use Rattle.std.proofs.lemmas.Slice.Eq.{bytes_eq-Decides}
use Rattle.dfi_words.specs.Number.{IsNumberIn, Range}
use Rattle.dfi_words.specs.Options.{GivesNumber, Setting, value_of}
use Rattle.dfi_words.specs.Split.{Text, Options}
use Rattle.dfi_words.specs.Reads.{Asks, IsLine, IsRun, ReadOneWay, budget, stripes, workers}
use Rattle.dfi_words.specs.declared.job.Job.{Job}
use Rattle.dfi_words.specs.declared.job.Job.TheVariants.{Build, Check, Sets, Replay, Run, Gen, Trial}
use Rattle.dfi_words.proofs.Splits.{split_once}

pub number_once : (range : Range) (text : Text) (n m : ℕ) → IsNumberIn range text n → IsNumberIn range text m → n ≡ m
number_once range text n m one other = one.0.value ∙ sym other.0.value

pub gives_once : (setting : Setting) (value : Option Text) (n m : ℕ) → GivesNumber setting value n → GivesNumber setting value m → n ≡ m
gives_once setting None n m one other = one ∙ sym other
gives_once setting (Some text) n m one other = number_once setting.range text n m one other

pub line_once : (after : List Text) (known : List Text) (a c : Options) (b d : List Text) → IsLine after known a b → IsLine after known c d → (a ≡ c) × (b ≡ d)
line_once after known a c b d one other = split_once after a c b d one.split other.split

one_of : (a b : Text) → a ∷ [] ≡ b ∷ [] → a ≡ b
one_of a b e = cc

first_of_two : (a b c d : Text) (x y : List Text) → a ∷ b ∷ x ≡ c ∷ d ∷ y → (a ≡ c) × (b ≡ d) × (x ≡ y)
first_of_two a b c d x y e = (cc, cc, cc)

listed_once : (x y : Option Text) → option_to_list x ≡ option_to_list y → x ≡ y
listed_once None None e = refl
listed_once None (Some y) e = absurd cc
listed_once (Some x) None e = absurd cc
listed_once (Some x) (Some y) e = ap Some (one_of x y e)

same_number : (range : Range) (x y : Text) (n m : ℕ) → x ∷ [] ≡ y ∷ [] → IsNumberIn range x n → IsNumberIn range y m → n ≡ m
same_number range x y n m e one other = number_once range x n m one (subst (λ t. IsNumberIn range t m) (sym (one_of x y e)) other)

same_gift : (name : Text) (setting : Setting) (a c : Options) (n m : ℕ) → a ≡ c → GivesNumber setting (value_of name a) n → GivesNumber setting (value_of name c) m → n ≡ m
same_gift name setting a c n m e one other = gives_once setting (value_of name a) n m one (subst (λ o. GivesNumber setting (value_of name o) m) (sym e) other)

pub record SameRun (w s b x t d : ℕ) : Type 0 where
  pub threads : w ≡ x
  pub locks : s ≡ t
  pub entries : b ≡ d

pub run_once : (value : Text → Option Text) (w s b x t d : ℕ) → IsRun value w s b → IsRun value x t d → SameRun w s b x t d
run_once value w s b x t d one other = record {
  threads = gives_once workers _ w x one.threads other.threads;
  locks = gives_once stripes _ s t one.locks other.locks;
  entries = gives_once budget _ b d one.entries other.entries;
}

same_run : (a c : Options) (w s b x t d : ℕ) → a ≡ c → IsRun (λ name. value_of name a) w s b → IsRun (λ name. value_of name c) x t d → SameRun w s b x t d
same_run a c w s b x t d e one other = run_once (λ name. value_of name a) w s b x t d one (subst (λ o. IsRun (λ name. value_of name o) x t d) (sym e) other)

one_job : (command : Text) (after : List Text) (one other : Job) → Asks command after one → Asks command after other → one ≡ other
one_job command after (Build a) (Build b) p q = ap Build (one_of a b (line_once after [] [] [] _ _ p.1 q.1).1)
one_job command after (Check a) (Check b) p q = ap Check (one_of a b (line_once after [] [] [] _ _ p.1 q.1).1)
one_job command after (Sets a) (Sets b) p q = ap Sets (one_of a b (line_once after [] [] [] _ _ p.1 q.1).1)
one_job command after (Replay f i n b) (Replay g j m d) p q =
    let lines = line_once after _ p.1 q.1 _ _ p.2 q.2 in
    let files = first_of_two f i g j _ _ lines.1 in
    let names = listed_once n m files.2 in
    let same = same_gift _ budget p.1 q.1 b d lines.0 p.3 q.3 in
    rw (files.0, files.1, names, same) refl
one_job command after (Run f i w s b) (Run g j x t d) p q =
    let lines = line_once after _ p.1 q.1 _ _ p.2 q.2 in
    let files = first_of_two f i g j _ _ lines.1 in
    let same = same_run p.1 q.1 w s b x t d lines.0 p.3 q.3 in
    rw (files.0, files.1, same.threads, same.locks, same.entries) refl
one_job command after (Gen n) (Gen m) p q =
    let lines = line_once after _ [] [] _ _ p.2 q.2 in
    ap Gen (same_number _ p.1 q.1 n m lines.1 p.3 q.3)
one_job command after (Trial n w s b) (Trial m x t d) p q =
    let lines = line_once after _ p.1 q.1 _ _ p.3 q.3 in
    let number = same_number _ p.2 q.2 n m lines.1 p.4 q.4 in
    let same = same_run p.1 q.1 w s b x t d lines.0 p.5 q.5 in
    rw (number, same.threads, same.locks, same.entries) refl
one_job command after one other p q = absurd (true≢false (sym ((bytes_eq-Decides _ _).1 (sym p.0 ∙ q.0))))

pub read_one_way : ReadOneWay
read_one_way [] one other p q = absurd p
read_one_way (command ∷ after) one other p q = one_job command after one other p q
