-- The command that `clap` reads: plain words under one id, and options each of which takes one value.
use Rattle.std.proofs.Common.{◌≡◌, ◌⊎◌, inl, inr, Bool, true, false, List, [], ◌∷◌, map, Some, None, refl, sym, ap, subst, ◌∙◌, bytes_eq}
use Rattle.std.specs.List.{AllByRecursion as Each}
use Rattle.clap.specs.Walk.{Rule, Text, arg_by_id, arg_by_long, arg_by_short}
use Rattle.clap.specs.Simple.{Shape, new_rule, new_shape}
use Rattle.clap.specs.declared.builder.action.ArgAction.TheVariants.{Set, Append}
use Rattle.clap.specs.declared.builder.value_parser.ValueParser.TheVariants as vp
use Rattle.dfi_words.specs.tools.Found.{plain_id}
use Rattle.dfi_words.specs.Options.{IsOneOf}
use Rattle.dfi_words.proofs.Rows.{same, equal}

-- the arguments as they are built
abbrev pub plain_rule : Rule
plain_rule = record (new_rule plain_id) {
  index = Some 1;
  action = Some Append;
  range = Some (record { start_inclusive = 1; end_inclusive = 1 });
  parser = Some vp.String;
}

abbrev pub option_rule : Text → Rule
option_rule name = record (new_rule name) {
  long = Some name;
  action = Some Set;
  range = Some (record { start_inclusive = 1; end_inclusive = 1 });
  parser = Some vp.String;
}

abbrev pub rules : List Text → List Rule
rules known = plain_rule ∷ map option_rule known

abbrev pub shape : Text → List Text → Shape
shape name known = record (new_shape name) {
  rules = rules known;
  disable_help_flag = true;
  disable_help_subcommand = true;
  is_built = true;
}

-- no option has the id of the plain words
abbrev pub AreApart : List Text → Type 0
AreApart = Each (λ name. bytes_eq plain_id name ≡ false)

pub apart_one : (known : List Text) (name : Text) → AreApart known → IsOneOf known name → bytes_eq plain_id name ≡ false
apart_one [] name h i = absurd i
apart_one (k ∷ known) name h (inl e) = subst (λ n. bytes_eq plain_id n ≡ false) (sym e) h.0
apart_one (k ∷ known) name h (inr i) = apart_one known name h.1 i

pub long_known : (known : List Text) (name : Text) → IsOneOf known name → arg_by_long (map option_rule known) name ≡ Some (option_rule name)
long_known [] name i = absurd i
long_known (k ∷ known) name i = go (bytes_eq k name) refl i (long_known known name)
  where
    go : (t : Bool) → bytes_eq k name ≡ t → IsOneOf (k ∷ known) name → (IsOneOf known name → arg_by_long (map option_rule known) name ≡ Some (option_rule name))
        → arg_by_long (map option_rule (k ∷ known)) name ≡ Some (option_rule name)
    go true e i rest = rw e (ap (λ n. Some (option_rule n)) (equal k name e))
    go false e (inl f) rest = let t : bytes_eq k name ≡ true = ap (bytes_eq k) f ∙ same k in absurd cc
    go false e (inr i) rest = rw e (rest i)

-- what is found is the option of that name
pub long_found : (known : List Text) (name : Text) → (arg_by_long (map option_rule known) name ≡ None) ⊎ IsOneOf known name
long_found [] name = inl refl
long_found (k ∷ known) name = go (bytes_eq k name) refl (long_found known name)
  where
    go : (t : Bool) → bytes_eq k name ≡ t → (arg_by_long (map option_rule known) name ≡ None) ⊎ IsOneOf known name
        → (arg_by_long (map option_rule (k ∷ known)) name ≡ None) ⊎ IsOneOf (k ∷ known) name
    go true e rest = inr (inl (sym (equal k name e)))
    go false e (inl none) = inl (rw e none)
    go false e (inr i) = inr (inr i)

id_known : (known : List Text) (name : Text) → IsOneOf known name → arg_by_id (map option_rule known) name ≡ Some (option_rule name)
id_known [] name i = absurd i
id_known (k ∷ known) name i = go (bytes_eq k name) refl i (id_known known name)
  where
    go : (t : Bool) → bytes_eq k name ≡ t → IsOneOf (k ∷ known) name → (IsOneOf known name → arg_by_id (map option_rule known) name ≡ Some (option_rule name))
        → arg_by_id (map option_rule (k ∷ known)) name ≡ Some (option_rule name)
    go true e i rest = rw e (ap (λ n. Some (option_rule n)) (equal k name e))
    go false e (inl f) rest = let t : bytes_eq k name ≡ true = ap (bytes_eq k) f ∙ same k in absurd cc
    go false e (inr i) rest = rw e (rest i)

pub option_by_id : (known : List Text) (name : Text) → AreApart known → IsOneOf known name → arg_by_id (rules known) name ≡ Some (option_rule name)
option_by_id known name h i = rw (apart_one known name h i) (id_known known name i)

pub no_short : (known : List Text) (x : _) → arg_by_short (map option_rule known) x ≡ None
no_short [] x = refl
no_short (k ∷ known) x = no_short known x
