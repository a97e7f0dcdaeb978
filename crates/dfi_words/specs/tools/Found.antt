-- What `clap` is told of a command, and what it finds in the words.
use Rattle.std.specs.Prelude.{⊤, ◌≡◌, ◌≢◌, true, false, List, [], ◌∷◌, map, drop, codes, Some, unwrap_or, Result, Ok, Err, bytes_eq}
use Rattle.std.specs.List.{AllByRecursion as Each}
use Rattle.clap.specs.Walk.{Rule}
use Rattle.clap.specs.Words.{App, Row, all_of, app_of, first_of, found_of, is_simple_and_free, new_rule, rows_of}
use Rattle.clap.specs.Simple.{new_shape}
use Rattle.clap.specs.declared.builder.action.ArgAction.TheVariants.{Append}
use Rattle.clap.specs.declared.builder.command.Command.{Command}
use Rattle.clap.specs.declared.error.kind.ErrorKind.{ErrorKind}
use Rattle.clap.specs.declared.error.kind.ErrorKind.TheVariants as kind
use Rattle.clap.specs.declared.parser.matches.ArgMatches.{ArgMatches}
use Rattle.dfi_words.specs.Options.{AreOptionsOf, value_of}
use Rattle.dfi_words.specs.Split.{Text, Options, Split, IsPlain}
use Rattle.dfi_words.specs.declared.job.WordFault.{WordFault}
use Rattle.dfi_words.specs.declared.job.WordFault.TheVariants.{Refused, Memory}

-- what an error of `clap` comes to
abbrev pub fault_of_kind : ErrorKind → WordFault
fault_of_kind kind.OutOfMemory = Memory
fault_of_kind _ = Refused

-- the id of the plain words
abbrev pub plain_id : Text
plain_id = codes "words"

abbrev pub plain_arg : Rule
plain_arg = record (new_rule plain_id) { action = Some Append }

abbrev pub option_arg : Text → Rule
option_arg name = record (new_rule name) { long = Some name }

-- a command that takes plain words, as many as there are, and these options
abbrev pub line_app : Text → List Text → App
line_app name known = record {
  top = record (new_shape name) { disable_help_flag = true; rules = plain_arg ∷ map option_arg known };
  subs = [];
}

-- a command as `clap` reads it, or want of memory
abbrev pub GivesCommand : App → Result Command WordFault → Type 0
GivesCommand app (Ok command) = app_of command ≡ app
GivesCommand app (Err fault) = fault ≡ Memory

-- `clap` tells these options from each other and from the plain words
pub record AreNames (name : Text) (known : List Text) : Type 0 where
  pub simple : is_simple_and_free (line_app name known) ≡ true
  pub apart : Each (λ own. bytes_eq plain_id own ≡ false) known
  pub named : Each (λ own. own ≢ []) known

pub record IsFound (rows : List Row) (options : Options) (others : List Text) : Type 0 where
  pub values : (name : Text) → name ≢ plain_id → first_of name rows ≡ value_of name options
  pub plain : unwrap_or (all_of plain_id rows) [] ≡ others

-- the options and plain words of a line; a refusal where there are none of which each value stands for itself
abbrev pub FoundBy : List Text → List Text → Result ArgMatches WordFault → Type 0
FoundBy known words (Ok m) =
    (options : Options) × (others : List Text) × Split (drop 1 words) options others × AreOptionsOf known options × IsFound (rows_of (found_of m)) options others
FoundBy known words (Err Refused) =
    (options : Options) (others : List Text) → Split (drop 1 words) options others → AreOptionsOf known options → Each (λ option. IsPlain option.1) options → ⊥
FoundBy known words (Err Memory) = ⊤
