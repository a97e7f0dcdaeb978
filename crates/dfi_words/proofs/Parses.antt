-- From what `clap` says of a line to its options and plain words.
use Rattle.std.proofs.Common.{◌≡◌, ◌≢◌, ◌⊎◌, inl, inr, ◌&&◌, Bool, true, false, not, List, [], ◌∷◌, map, Option, Some, None, option_map, option_and_then, slice_get, find, fold, drop, refl, sym, ap, subst, ◌∙◌, bytes_eq, IsUtf8, String, string_bytes, Ok, Err}
use Rattle.std.specs.List.{AllByRecursion as Each, list_any}
use Rattle.std.proofs.lemmas.Bool.{and_parts}
use Rattle.std.proofs.lemmas.Str.{IsUtf8-string_bytes}
use Rattle.std.proofs.lemmas.Slice.Eq.{bytes_eq-Decides}
use Rattle.clap.specs.Walk.{Row, Rule, Text, Held, all_of, first_of, finished, has_row, nothing_held, with_default}
use Rattle.clap.specs.Kinds.{Kinds, IsAmong, check_kinds, or_else}
use Rattle.clap.specs.Faults.{check_fault, default_fault, defaults_fault, fault_of, level_fault, settle_fault, walk_fault}
use Rattle.clap.specs.Simple.{App, HasMatchesOf, built, filled_from, is_simple, matches_of}
use Rattle.clap.specs.Takes.{is_given}
use Rattle.clap.specs.Walk.{rows_of}
use Rattle.clap.proofs.FaultLemmas.{leaf_fault}
use Rattle.clap.specs.declared.parser.matches.ArgMatches.{ArgMatches}
use Rattle.clap.specs.declared.error.kind.ErrorKind.{ErrorKind}
use Rattle.clap.specs.declared.error.kind.ErrorKind.TheVariants as kind
use Rattle.dfi_words.specs.tools.Found.{AreNames, FoundBy, IsFound, fault_of_kind, line_app, option_arg, plain_id}
use Rattle.dfi_words.specs.Options.{AreOptionsOf, value_of}
use Rattle.dfi_words.specs.Reads.{replay_options, run_options}
use Rattle.dfi_words.specs.Split.{Options, Split}
use Rattle.dfi_words.specs.declared.job.WordFault.{WordFault}
use Rattle.dfi_words.specs.declared.job.WordFault.TheVariants.{Refused, Memory}
use Rattle.dfi_words.proofs.Rules.{option_rule, plain_rule, rules, shape}
use Rattle.dfi_words.proofs.Turns.{at, free}
use Rattle.dfi_words.proofs.Ends.{rows_in, walk_from, Ends}
use Rattle.dfi_words.proofs.Reading.{Fresh, PlainValues, reads}
use Rattle.dfi_words.proofs.Found.{both_clear, taken}

-- ---- the command as it is built

filled_options : (known : List Text) → filled_from 2 (map option_arg known) ≡ map option_rule known
filled_options [] = refl
filled_options (k ∷ known) = ap (λ l. option_rule k ∷ l) (filled_options known)

built_top : (name : Text) (known : List Text) → (built (line_app name known)).top ≡ shape name known
built_top name known = ap (λ l. record (shape name []) { rules = plain_rule ∷ l }) (filled_options known)

-- ---- after the walk there is no fault, and no default

no_default : (a : Rule) (rows : List Row) → a.defaults ≡ [] → (default_fault rows a ≡ []) × (with_default rows a ≡ rows)
no_default a rows d = go (has_row a.id rows) refl
  where
    go : (t : Bool) → has_row a.id rows ≡ t → (default_fault rows a ≡ []) × (with_default rows a ≡ rows)
    go true e = (rw e refl, rw e refl)
    go false e = (rw (e, d) refl, rw (e, d) refl)

options_default : (known : List Text) (rows : List Row) → (defaults_fault rows (map option_rule known) ≡ []) × (fold with_default rows (map option_rule known) ≡ rows)
unfolding defaults_fault
options_default [] rows = (refl, refl)
options_default (k ∷ known) rows =
    let one = no_default (option_rule k) rows refl in
    let later = options_default known rows in
    (rw (one.0, one.1) later.0, ap (λ r. fold with_default r (map option_rule known)) one.1 ∙ later.1)

all_default : (known : List Text) (rows : List Row) → (defaults_fault rows (rules known) ≡ []) × (fold with_default rows (rules known) ≡ rows)
unfolding defaults_fault
all_default known rows =
    let one = no_default plain_rule rows refl in
    let later = options_default known rows in
    (rw (one.0, one.1) later.0, ap (λ r. fold with_default r (map option_rule known)) one.1 ∙ later.1)

none_required : (known : List Text) (rows : List Row) → list_any (λ (a : Rule). a.required && not (is_given a.id rows)) (map option_rule known) ≡ false
none_required [] rows = refl
none_required (k ∷ known) rows = none_required known rows

check_clear : (name : Text) (known : List Text) (rows : List Row) → check_fault (shape name known) rows false ≡ []
check_clear name known rows = ap (check_kinds false false) (none_required known rows)

-- ---- the whole parse

abbrev pub start : Held
start = nothing_held

abbrev pub ended : List Text → List Text → Held
ended known words = (walk_from known (at false (free false) start) words).held

level : (name : Text) (known : List Text) (words : List Text) → level_fault (shape name known) [] start words false []
    ≡ or_else (walk_fault (shape name known) [] (at false (free false) start) words) (settle_fault (rules known) false (ended known words))
level name known words =
    ap (or_else (walk_fault (shape name known) [] (at false (free false) start) words)) (rw ((all_default known (rows_in known (ended known words))).0, check_clear name known _) (nothing_more _))
  where
    nothing_more : (kinds : Kinds) → or_else kinds [] ≡ kinds
    nothing_more [] = refl
    nothing_more (k ∷ kinds) = refl

whole : (name : Text) (known : List Text) (words : List Text) → fault_of (line_app name known) words
    ≡ or_else (walk_fault (shape name known) [] (at false (free false) start) (drop 1 words)) (settle_fault (rules known) false (ended known (drop 1 words)))
whole name known words =
    leaf_fault (built (line_app name known)) start (drop 1 words) refl
    ∙ ap (λ s. level_fault s [] start (drop 1 words) false []) (built_top name known) ∙ level name known (drop 1 words)

rows_are : (name : Text) (known : List Text) (words : List Text) → matches_of (line_app name known) words ≡ rows_in known (ended known (drop 1 words))
rows_are name known words =
    ap (λ l. finished (plain_rule ∷ l) (fold (Rattle.clap.specs.Walk.walked (plain_rule ∷ l) []) (at false (free false) start) (drop 1 words)).held) (filled_options known)
    ∙ (all_default known (rows_in known (ended known (drop 1 words)))).1

first_values : (name : Text) (rows : List Row) → first_of name rows ≡ option_and_then (λ values. slice_get values 0) (all_of name rows)
first_values name rows = go (find (λ r. bytes_eq r.id name) rows)
  where
    go : (o : Option Row) → option_and_then (λ (r : Row). slice_get r.values 0) o ≡ option_and_then (λ values. slice_get values 0) (option_map (λ (r : Row). r.values) o)
    go None = refl
    go (Some r) = refl

one_value : (o : Option Text) → option_and_then (λ values. slice_get values 0) (option_map (λ value. value ∷ []) o) ≡ o
one_value None = refl
one_value (Some value) = refl

other_id : (name : Text) → name ≢ plain_id → bytes_eq plain_id name ≡ false
other_id name differs = go (bytes_eq plain_id name) refl
  where
    go : (t : Bool) → bytes_eq plain_id name ≡ t → t ≡ false
    go true e = absurd (differs (sym ((bytes_eq-Decides plain_id name).0 e)))
    go false e = refl

is_found : (name : Text) (known words : List Text) (options : Options) (others : List Text) → Ends name known (at false (free false) start) words [] options others
    → IsFound (rows_in known (ended known words)) options others
is_found name known words options others e = record {
  values = λ x differs. first_values x _ ∙ ap (option_and_then (λ values. slice_get values 0)) (e.values x (other_id x differs)) ∙ one_value (value_of x options);
  plain = e.plain;
}

-- the words of an `Ok`
pub found_ok : (app : App) (name : Text) (known words : List Text) (m : ArgMatches) → app ≡ line_app name known → AreNames name known → Each IsUtf8 (drop 1 words)
    → fault_of app words ≡ [] → HasMatchesOf app words m → FoundBy known words (Ok m)
found_ok app name known words m is names valid clear has =
    let none = sym (whole name known words) ∙ ap (λ a. fault_of a words) (sym is) ∙ clear in
    let parts = both_clear (walk_fault (shape name known) [] (at false (free false) start) (drop 1 words)) (settle_fault (rules known) false (ended known (drop 1 words))) none in
    let t = taken name known names.apart names.named (drop 1 words) false start refl valid parts.0 parts.1 in
    let simple : is_simple app ≡ true = ap is_simple is ∙ (and_parts _ _ names.simple).0 in
    let rows = (has simple).0 ∙ ap (λ a. matches_of a words) is ∙ rows_are name known words in
    (t.options, t.others, t.split, t.own, subst (λ r. IsFound r t.options t.others) (sym rows) (is_found name known (drop 1 words) t.options t.others t.ends))

first_fresh : (options : Options) → Fresh [] options
first_fresh [] = tt
first_fresh (given ∷ options) = (refl, first_fresh options)

-- words that can be read have no fault
pub no_fault : (name : Text) (known words : List Text) (options : Options) (others : List Text) → AreNames name known
    → Split (drop 1 words) options others → AreOptionsOf known options → PlainValues options → fault_of (line_app name known) words ≡ []
no_fault name known words options others names split own values =
    let e = reads name known names.apart (drop 1 words) options others split false start own values (first_fresh options) refl in
    whole name known words ∙ rw (e.fault, e.clear) refl

by_fault : (known words : List Text) (kinds : Kinds) (k : ErrorKind) → (k ≡ kind.OutOfMemory) ⊎ IsAmong k kinds
    → ((options : Options) (others : List Text) → Split (drop 1 words) options others → AreOptionsOf known options → PlainValues options → kinds ≡ [])
    → FoundBy known words (Err (fault_of_kind k))
by_fault known words kinds k (inl memory) clear = subst (λ x. FoundBy known words (Err (fault_of_kind x))) (sym memory) tt
by_fault known words kinds k (inr among) clear = go (fault_of_kind k)
  where
    go : (f : WordFault) → FoundBy known words (Err f)
    go Memory = tt
    go Refused = λ options others split own values. subst (IsAmong k) (clear options others split own values) among

-- the words of an `Err`
pub found_err : (app : App) (name : Text) (known words : List Text) (k : ErrorKind) → app ≡ line_app name known → AreNames name known
    → (k ≡ kind.OutOfMemory) ⊎ IsAmong k (fault_of app words) → FoundBy known words (Err (fault_of_kind k))
found_err app name known words k is names has =
    by_fault known words (fault_of app words) k has
    (λ options others split own values. ap (λ a. fault_of a words) is ∙ no_fault name known words options others names split own values)

-- words are UTF-8
all_valid : {Z : Type 0} (words : List (String Z)) → Each IsUtf8 (map string_bytes words)
all_valid [] = tt
all_valid (word ∷ words) = (IsUtf8-string_bytes word, all_valid words)

pub words_valid : {Z : Type 0} (words : List (String Z)) → Each IsUtf8 (drop 1 (map string_bytes words))
words_valid [] = tt
words_valid (word ∷ words) = all_valid words

-- ---- the commands that there are

pub plain_names : (name : Text) → AreNames name []
plain_names name = record { simple = refl; apart = tt; named = tt }

pub replay_names : (name : Text) → AreNames name replay_options
replay_names name = record { simple = refl; apart = (refl, tt); named = ((λ e. cc), tt) }

pub run_names : (name : Text) → AreNames name run_options
run_names name = record { simple = refl; apart = (refl, (refl, (refl, tt))); named = ((λ e. cc), ((λ e. cc), ((λ e. cc), tt))) }
