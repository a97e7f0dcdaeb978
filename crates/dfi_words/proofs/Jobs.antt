-- From the options and plain words of a line to the job that it asks for.
use Rattle.std.proofs.Common.{◌≡◌, ◌≢◌, ◌<◌, inl, inr, ℕ, Bool, true, false, List, [], ◌∷◌, length, drop, Option, Some, None, option_to_list, codes, refl, sym, ap, subst, ◌∙◌, arith, bytes_eq, Result, Ok, Err}
use Rattle.std.specs.Prelude.{unwrap_or}
use Rattle.std.specs.List.{AllByRecursion as Each}
use Rattle.std.specs.Char.{digit_value}
use Rattle.std.specs.Str.Parse.{AllDigits}
use Rattle.std.proofs.lemmas.Bool.{true≢false}
use Rattle.std.proofs.lemmas.Slice.Eq.{bytes_eq-Decides}
use Rattle.clap.specs.Words.{all_of, first_of, found_of, rows_of}
use Rattle.clap.specs.declared.parser.matches.ArgMatches.{ArgMatches}
use Rattle.dfi_words.specs.Answers.{AnswersTo, Means}
use Rattle.dfi_words.specs.tools.Found.{FoundBy, plain_id}
use Rattle.dfi_words.specs.tools.Jobs.{file_of, one_file_of, replay_of}
use Rattle.dfi_words.specs.Number.{IsNumberIn, Range}
use Rattle.dfi_words.specs.Options.{AreOptionsOf, GivesNumber, IsOneOf, Setting, value_of}
use Rattle.dfi_words.specs.Split.{IsPlain, Options, Split, Text}
use Rattle.dfi_words.specs.Reads.{Asks, IsLine, IsRun, budget, replay_options, run_options, sources, stripes, workers}
use Rattle.dfi_words.specs.declared.job.Job.{Job}
use Rattle.dfi_words.specs.declared.job.Job.TheVariants.{Build, Check, Sets, Replay, Run, Gen, Trial}
use Rattle.dfi_words.specs.declared.job.WordFault.{WordFault}
use Rattle.dfi_words.specs.declared.job.WordFault.TheVariants.{Refused, Memory}
use Rattle.dfi_words.proofs.Reading.{PlainValues}
use Rattle.dfi_words.proofs.Rows.{equal, same}
use Rattle.dfi_words.proofs.Splits.{split_once}
use Rattle.dfi_words.proofs.Unique.{gives_once}

-- ---- answers

pub err_to : {X Y : Type 0} (P : X → Type 0) (Q : Y → Type 0) (f : WordFault) → ((x : X) → P x → (y : Y) × Q y) → AnswersTo Q (Err f) → AnswersTo P (Err f)
err_to P Q Refused to h = λ x p. let w = to x p in h w.0 w.1
err_to P Q Memory to h = tt

pub same_to : {X : Type 0} (P Q : X → Type 0) → ((x : X) → Q x → P x) → ((x : X) → P x → Q x) → (r : Result X WordFault) → AnswersTo Q r → AnswersTo P r
same_to P Q to back (Ok x) h = to x h
same_to P Q to back (Err Refused) h = λ x p. h x (back x p)
same_to P Q to back (Err Memory) h = tt

pub means_to : {X : Type 0} (value : Option X) (P : X → Type 0) → ((x : X) → value ≡ Some x → P x) → ((x : X) → P x → value ≡ Some x) → (r : Result X WordFault)
    → Means value r → AnswersTo P r
means_to value P to back (Ok x) h = to x h
means_to value P to back (Err Refused) h = λ x p. let e = back x p in absurd cc
means_to value P to back (Err Memory) h = tt

-- a line that `clap` refuses, or that wants memory
pub line_err : {X : Type 0} (P : X → Type 0) (known words : List Text) (f : WordFault)
    → ((x : X) → P x → (options : Options) × (others : List Text) × Split (drop 1 words) options others × AreOptionsOf known options × PlainValues options)
    → FoundBy known words (Err f) → AnswersTo P (Err f)
line_err P known words Refused to h = λ x p. let w = to x p in h w.0 w.1 w.2 w.3 w.4
line_err P known words Memory to h = tt

-- ---- the values of options stand for themselves

number_plain : (range : Range) (text : Text) (n : ℕ) → IsNumberIn range text n → IsPlain text
number_plain range text n is more e =
    let digits : AllDigits 10 (45 ∷ more) = subst (AllDigits 10) e is.0.digits.1 in
    let first : digit_value 45 < 10 = digits.0 in
    absurd (omega (arith, first))

gives_plain : (setting : Setting) (value : Option Text) (n : ℕ) → GivesNumber setting value n → (text : Text) → value ≡ Some text → IsPlain text
gives_plain setting None n gives text e = absurd cc
gives_plain setting (Some given) n gives text e = let is : given ≡ text = cc in subst IsPlain is (number_plain setting.range given n gives)

skipped : (own name : Text) (value text : Text) (options : Options) → value_of own options ≡ None → value_of name options ≡ Some text → value_of name ((own, value) ∷ options) ≡ Some text
skipped own name value text options gone there = go (bytes_eq own name) refl
  where
    go : (t : Bool) → bytes_eq own name ≡ t → value_of name ((own, value) ∷ options) ≡ Some text
    go true e = let gone_now : value_of name options ≡ None = ap (λ n. value_of n options) (sym (equal own name e)) ∙ gone in absurd cc
    go false e = rw e there

values_plain : (known : List Text) (options : Options) → AreOptionsOf known options
    → ((own : Text) → IsOneOf known own → (text : Text) → value_of own options ≡ Some text → IsPlain text) → PlainValues options
values_plain known [] own plain = tt
values_plain known (given ∷ options) own plain = (
  plain given.0 own.0 given.1 (rw (same given.0) refl),
  values_plain known options own.2 (λ name i text e. plain name i text (skipped given.0 name given.1 text options own.1 e)),
)

replay_plain : (options : Options) (b : ℕ) → AreOptionsOf replay_options options → GivesNumber budget (value_of (codes "budget") options) b → PlainValues options
replay_plain options b own gives = values_plain replay_options options own plain
  where
    plain : (name : Text) → IsOneOf replay_options name → (text : Text) → value_of name options ≡ Some text → IsPlain text
    plain name (inl e) text f = gives_plain budget (value_of (codes "budget") options) b gives text (ap (λ n. value_of n options) (sym e) ∙ f)
    plain name (inr i) text f = absurd i

pub run_plain : (options : Options) (w s b : ℕ) → AreOptionsOf run_options options → IsRun (λ name. value_of name options) w s b → PlainValues options
run_plain options w s b own run = values_plain run_options options own plain
  where
    plain : (name : Text) → IsOneOf run_options name → (text : Text) → value_of name options ≡ Some text → IsPlain text
    plain name (inl e) text f = gives_plain workers (value_of (codes "workers") options) w run.threads text (ap (λ n. value_of n options) (sym e) ∙ f)
    plain name (inr (inl e)) text f = gives_plain stripes (value_of (codes "stripes") options) s run.locks text (ap (λ n. value_of n options) (sym e) ∙ f)
    plain name (inr (inr (inl e))) text f = gives_plain budget (value_of (codes "budget") options) b run.entries text (ap (λ n. value_of n options) (sym e) ∙ f)
    plain name (inr (inr (inr i))) text f = absurd i

-- ---- one plain word

none_own : (options : Options) → AreOptionsOf [] options → options ≡ []
none_own [] own = refl
none_own (given ∷ options) own = absurd own.0

file_is : (word file : Text) → file_of word ≡ Some file → (word ≡ file) × (file ≢ [])
file_is [] file e = absurd cc
file_is (b ∷ word) file e = let is : b ∷ word ≡ file = cc in (is, λ f. let bad : b ∷ word ≡ [] = is ∙ f in cc)

pub file_of_file : (file : Text) → file ≢ [] → file_of file ≡ Some file
file_of_file [] filled = absurd (filled refl)
file_of_file (b ∷ file) filled = refl

one_file_is : (others : List Text) (file : Text) → one_file_of others ≡ Some file → (others ≡ file ∷ []) × (file ≢ [])
one_file_is [] file e = absurd cc
one_file_is (word ∷ []) file e = let is = file_is word file e in (ap (λ w. w ∷ []) is.0, is.1)
one_file_is (word ∷ other ∷ others) file e = absurd cc

abbrev pub PlainOf : ArgMatches → List Text → Type 0
PlainOf m plain = plain ≡ unwrap_or (all_of plain_id (rows_of (found_of m))) []

pub one_file_answer : (words : List Text) (m : ArgMatches) (plain : List Text) (r : Result Text WordFault) → FoundBy [] words (Ok m) → PlainOf m plain
    → Means (one_file_of plain) r → AnswersTo (λ file. IsLine (drop 1 words) [] [] (file ∷ [])) r
one_file_answer words m plain r f p h = means_to (one_file_of plain) (λ file. IsLine (drop 1 words) [] [] (file ∷ [])) to back r h
  where
    all : plain ≡ f.1
    all = p ∙ f.4.plain

    to : (file : Text) → one_file_of plain ≡ Some file → IsLine (drop 1 words) [] [] (file ∷ [])
    to file e =
        let is = one_file_is plain file e in
        let split = subst (λ o. Split (drop 1 words) o f.1) (none_own f.0 f.3) f.2 in
        record { split = subst (Split (drop 1 words) []) (sym all ∙ is.0) split; own = tt; filled = (is.1, tt) }

    back : (file : Text) → IsLine (drop 1 words) [] [] (file ∷ []) → one_file_of plain ≡ Some file
    back file line =
        let others = (split_once (drop 1 words) f.0 [] f.1 (file ∷ []) f.2 line.split).1 in
        ap one_file_of (all ∙ others) ∙ file_of_file file line.filled.0

pub number_filled : (range : Range) (text : Text) (n : ℕ) → IsNumberIn range text n → text ≢ []
number_filled range text n is e = let none : length text ≡ 0 = ap length e in absurd (omega (arith, none, is.0.digits.0))

abbrev pub OnlyNumber : List Text → ℕ → Type 0
OnlyNumber plain n = (number : Text) × (plain ≡ number ∷ []) × IsNumberIn sources number n

pub one_number_answer : (words : List Text) (m : ArgMatches) (plain : List Text) (r : Result ℕ WordFault) → FoundBy [] words (Ok m) → PlainOf m plain
    → AnswersTo (OnlyNumber plain) r → AnswersTo (λ n. (number : Text) × IsLine (drop 1 words) [] [] (number ∷ []) × IsNumberIn sources number n) r
one_number_answer words m plain r f p h = same_to (λ n. (number : Text) × IsLine (drop 1 words) [] [] (number ∷ []) × IsNumberIn sources number n) (OnlyNumber plain) to back r h
  where
    all : plain ≡ f.1
    all = p ∙ f.4.plain

    to : (n : ℕ) → OnlyNumber plain n → (number : Text) × IsLine (drop 1 words) [] [] (number ∷ []) × IsNumberIn sources number n
    to n is =
        let split = subst (λ o. Split (drop 1 words) o f.1) (none_own f.0 f.3) f.2 in
        (is.0, record { split = subst (Split (drop 1 words) []) (sym all ∙ is.1) split; own = tt; filled = (number_filled sources is.0 n is.2, tt) }, is.2)

    back : (n : ℕ) → ((number : Text) × IsLine (drop 1 words) [] [] (number ∷ []) × IsNumberIn sources number n) → OnlyNumber plain n
    back n is = (is.0, all ∙ (split_once (drop 1 words) f.0 [] f.1 (is.0 ∷ []) f.2 is.1.split).1, is.2)

-- ---- two files or three

pub differ : (a b : Text) → bytes_eq a b ≡ false → a ≡ b → ⊥
differ a b apart e = true≢false (sym ((bytes_eq-Decides a b).1 e) ∙ apart)

pub record IsReplay (others : List Text) (b : ℕ) (job : Job) : Type 0 where
  pub file : Text
  pub input : Text
  pub names : Option Text
  pub job_is : job ≡ Replay file input names b
  pub words_are : others ≡ file ∷ input ∷ option_to_list names
  pub filled : Each (λ word. word ≢ []) (file ∷ input ∷ option_to_list names)

pub not_empty : (b : ℕ) (word : Text) → b ∷ word ≢ []
not_empty b word e = cc

replay_is : (others : List Text) (b : ℕ) (job : Job) → replay_of others b ≡ Some job → IsReplay others b job
replay_is [] b job e = absurd cc
replay_is (x ∷ []) b job e = absurd cc
replay_is ([] ∷ input ∷ []) b job e = absurd cc
replay_is ((c ∷ file) ∷ [] ∷ []) b job e = absurd cc
replay_is ((c ∷ file) ∷ (d ∷ input) ∷ []) b job e = record {
  file = c ∷ file;
  input = d ∷ input;
  names = None;
  job_is = cc;
  words_are = refl;
  filled = (not_empty c file, (not_empty d input, tt));
}
replay_is ([] ∷ input ∷ names ∷ []) b job e = absurd cc
replay_is ((c ∷ file) ∷ [] ∷ names ∷ []) b job e = absurd cc
replay_is ((c ∷ file) ∷ (d ∷ input) ∷ [] ∷ []) b job e = absurd cc
replay_is ((c ∷ file) ∷ (d ∷ input) ∷ (k ∷ names) ∷ []) b job e = record {
  file = c ∷ file;
  input = d ∷ input;
  names = Some (k ∷ names);
  job_is = cc;
  words_are = refl;
  filled = (not_empty c file, (not_empty d input, (not_empty k names, tt)));
}
replay_is (x ∷ y ∷ z ∷ w ∷ others) b job e = absurd cc

replay_back : (file input : Text) (names : Option Text) (b : ℕ) → Each (λ word. word ≢ []) (file ∷ input ∷ option_to_list names)
    → replay_of (file ∷ input ∷ option_to_list names) b ≡ Some (Replay file input names b)
replay_back file input None b filled = rw (file_of_file file filled.0, file_of_file input filled.1.0) refl
replay_back file input (Some names) b filled = rw (file_of_file file filled.0, file_of_file input filled.1.0, file_of_file names filled.1.1.0) refl

-- what a replay asks for
pub record AsksReplay (after : List Text) (job : Job) : Type 0 where
  pub file : Text
  pub input : Text
  pub names : Option Text
  pub b : ℕ
  pub options : Options
  pub job_is : job ≡ Replay file input names b
  pub line : IsLine after replay_options options (file ∷ input ∷ option_to_list names)
  pub gives : GivesNumber budget (value_of (codes "budget") options) b

pub as_replay : (after : List Text) (job : Job) → Asks (codes "replay") after job → AsksReplay after job
as_replay after (Replay file input names b) p = record { file = file; input = input; names = names; b = b; options = p.1; job_is = refl; line = p.2; gives = p.3 }
as_replay after (Build src) p = absurd (differ _ _ refl p.0)
as_replay after (Check file) p = absurd (differ _ _ refl p.0)
as_replay after (Sets src) p = absurd (differ _ _ refl p.0)
as_replay after (Run file input w s b) p = absurd (differ _ _ refl p.0)
as_replay after (Gen n) p = absurd (differ _ _ refl p.0)
as_replay after (Trial n w s b) p = absurd (differ _ _ refl p.0)

abbrev pub BudgetOf : ArgMatches → ℕ → Type 0
BudgetOf m b = GivesNumber budget (first_of (codes "budget") (rows_of (found_of m))) b

budget_id : codes "budget" ≢ plain_id
budget_id = differ _ _ refl

pub replay_answer : (words : List Text) (m : ArgMatches) (plain : List Text) (b : ℕ) (r : Result Job WordFault) → FoundBy replay_options words (Ok m) → PlainOf m plain
    → BudgetOf m b → Means (replay_of plain b) r → AnswersTo (Asks (codes "replay") (drop 1 words)) r
replay_answer words m plain b r f p g h = means_to (replay_of plain b) (Asks (codes "replay") (drop 1 words)) to back r h
  where
    all : plain ≡ f.1
    all = p ∙ f.4.plain

    gives : GivesNumber budget (value_of (codes "budget") f.0) b
    gives = subst (λ v. GivesNumber budget v b) (f.4.values (codes "budget") budget_id) g

    to : (job : Job) → replay_of plain b ≡ Some job → Asks (codes "replay") (drop 1 words) job
    to job e =
        let is = replay_is plain b job e in
        subst (Asks (codes "replay") (drop 1 words)) (sym is.job_is)
        (refl, f.0, record { split = subst (Split (drop 1 words) f.0) (sym all ∙ is.words_are) f.2; own = f.3; filled = is.filled }, gives)

    back : (job : Job) → Asks (codes "replay") (drop 1 words) job → replay_of plain b ≡ Some job
    back job p =
        let is = as_replay (drop 1 words) job p in
        let lines = split_once (drop 1 words) f.0 is.options f.1 (is.file ∷ is.input ∷ option_to_list is.names) f.2 is.line.split in
        let number = gives_once budget (value_of (codes "budget") f.0) b is.b gives (subst (λ o. GivesNumber budget (value_of (codes "budget") o) is.b) (sym lines.0) is.gives) in
        ap (λ o. replay_of o b) (all ∙ lines.1) ∙ ap (replay_of (is.file ∷ is.input ∷ option_to_list is.names)) number
        ∙ replay_back is.file is.input is.names is.b is.line.filled ∙ ap Some (sym is.job_is)

pub replay_line_err : (words : List Text) (f : WordFault) → FoundBy replay_options words (Err f) → AnswersTo (Asks (codes "replay") (drop 1 words)) (Err f)
replay_line_err words f h = line_err (Asks (codes "replay") (drop 1 words)) replay_options words f to h
  where
    to : (job : Job) → Asks (codes "replay") (drop 1 words) job
        → (options : Options) × (others : List Text) × Split (drop 1 words) options others × AreOptionsOf replay_options options × PlainValues options
    to job p =
        let is = as_replay (drop 1 words) job p in
        (is.options, is.file ∷ is.input ∷ option_to_list is.names, is.line.split, is.line.own, replay_plain is.options is.b is.line.own is.gives)

pub replay_budget_err : (words : List Text) (m : ArgMatches) (f : WordFault) → FoundBy replay_options words (Ok m) → AnswersTo (BudgetOf m) (Err f)
    → AnswersTo (Asks (codes "replay") (drop 1 words)) (Err f)
replay_budget_err words m f found h = err_to (Asks (codes "replay") (drop 1 words)) (BudgetOf m) f to h
  where
    to : (job : Job) → Asks (codes "replay") (drop 1 words) job → (b : ℕ) × BudgetOf m b
    to job p =
        let is = as_replay (drop 1 words) job p in
        let lines = split_once (drop 1 words) found.0 is.options found.1 _ found.2 is.line.split in
        (is.b, subst (λ v. GivesNumber budget v is.b) (sym (found.4.values (codes "budget") budget_id ∙ ap (value_of (codes "budget")) lines.0)) is.gives)
