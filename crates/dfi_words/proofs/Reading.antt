-- Words that are options and plain words are walked over with no fault.
use Rattle.std.proofs.Common.{◌≡◌, Bool, true, false, List, [], ◌∷◌, Some, None, refl, sym, subst, ◌∙◌, bytes_eq}
use Rattle.std.specs.List.{AllByRecursion as Each}
use Rattle.clap.specs.Walk.{Row, Text, Held, idle, positional, option, all_of, reacted}
use Rattle.clap.specs.Faults.{react_fault, settle_fault, use_fault}
use Rattle.dfi_words.specs.Options.{IsOneOf, AreOptionsOf, value_of}
use Rattle.dfi_words.specs.Split.{Options, IsPlain, Split, nothing, plain, apart, joined, dashes}
use Rattle.dfi_words.proofs.Forms.{LooksLong, plain_looks, apart_looks, joined_looks}
use Rattle.dfi_words.proofs.Rules.{option_rule, rules, AreApart, apart_one}
use Rattle.dfi_words.proofs.Turns.{at, free, waiting_held, valued_held, plain_held, turn_joined, turn_apart, turn_value, turn_plain, turn_dashes}
use Rattle.dfi_words.proofs.Ends.{Clear, rows_in, Ends, with_option, with_plain, with_others, plain_others, use_clear, valued_fault, valued_rows, turned, step, stop, adds_plain, adds_option, rest}

-- no option was given before
abbrev pub Fresh : List Row → Options → Type 0
Fresh rows = Each (λ given. all_of given.0 rows ≡ None)

abbrev pub PlainValues : Options → Type 0
PlainValues = Each (λ given. IsPlain given.1)

-- the option is none of these
missing : (own value : Text) (given : Text) (options : Options) → value_of own ((given, value) ∷ options) ≡ None → (bytes_eq given own ≡ false) × (value_of own options ≡ None)
missing own value given options e = go (bytes_eq given own) refl
  where
    go : (t : Bool) → bytes_eq given own ≡ t → (bytes_eq given own ≡ false) × (value_of own options ≡ None)
    go true f = let g = rw f at e in absurd cc
    go false f = (f, rw f at e)

fresh_after : (own value : Text) (rows : List Row) (options : Options) → value_of own options ≡ None → Fresh rows options → Fresh (with_option own value rows) options
fresh_after own value rows [] gone fresh = tt
fresh_after own value rows (given ∷ options) gone fresh =
    let parts = missing own given.1 given.0 options gone in
    let differs : bytes_eq own given.0 ≡ false = turned given.0 own _ refl parts.0 in
    (with_others own value given.0 rows differs ∙ fresh.0, fresh_after own value rows options parts.1 fresh.1)

fresh_plain : (known : List Text) → AreApart known → (word : Text) (rows : List Row) (options : Options) → AreOptionsOf known options → Fresh rows options
    → Fresh (with_plain word rows) options
fresh_plain known apart_all word rows [] own fresh = tt
fresh_plain known apart_all word rows (given ∷ options) own fresh =
    (plain_others word given.0 rows (apart_one known given.0 apart_all own.0) ∙ fresh.0, fresh_plain known apart_all word rows options own.2 fresh.1)

module _ (name : Text) (known : List Text) (apart_all : AreApart known) where
  pub reads : (words : List Text) (options : Options) (others : List Text) → Split words options others → (b : Bool) (h : Held)
      → AreOptionsOf known options → PlainValues options → Fresh (rows_in known h) options → Clear known h
      → Ends name known (at false (free b) h) words (rows_in known h) options others
  reads _ _ _ nothing b h own values fresh clear = stop name known (at false (free b) h) clear
  reads _ _ _ (plain word words options others is more) b h own values fresh clear =
      step name known (at false (free b) h) (at false positional (plain_held known word h)) word words (settle_fault (rules known) false h) (rows_in known h) options (word ∷ others)
      (turn_plain name known b h word (plain_looks word is)) clear
      (adds_plain name known (at false positional (plain_held known word h)) words word (rows_in known h) options others
      (reads words options others more true (plain_held known word h) own values (fresh_plain known apart_all word (rows_in known h) options own fresh) refl))
  reads _ _ _ (joined word given value words options others is named more) b h own values fresh clear =
      let rows = rows_in known h in
      let used_now : use_fault false (option_rule given) (value ∷ []) rows ≡ [] = use_clear given value rows fresh.0 in
      let looks : LooksLong word given (Some value) = subst (λ w. LooksLong w given (Some value)) (sym is) (joined_looks given value named) in
      let after = reacted (rules known) (option_rule given) (value ∷ []) h in
      step name known (at false (free b) h) (at false idle after) word words (react_fault (rules known) false (option_rule given) (value ∷ []) h) rows ((given, value) ∷ options) others
      (turn_joined name known b h word given value looks own.0) (rw (clear, used_now) refl)
      (adds_option name known (at false idle after) words given value rows options others (apart_one known given apart_all own.0) fresh.0
      (reads words options others more false after own.2 values.1 (fresh_after given value rows options own.1 fresh.1) refl))
  reads _ _ _ (apart word given value words options others is named more) b h own values fresh clear =
      let rows = rows_in known h in
      let i : IsOneOf known given = own.0 in
      let looks : LooksLong word given None = subst (λ w. LooksLong w given None) (sym is) (apart_looks given named) in
      let before = waiting_held known given h in
      let after = valued_held known given value h in
      let rows_are = valued_rows known apart_all given i value h in
      let clear_now : Clear known after = valued_fault known apart_all given i value h ∙ use_clear given value rows fresh.0 in
      let fresh_now : Fresh (rows_in known after) options = subst (λ r. Fresh r options) (sym rows_are) (fresh_after given value rows options own.1 fresh.1) in
      step name known (at false (free b) h) (at false (option given) before) word (value ∷ words) (settle_fault (rules known) false h) rows ((given, value) ∷ options) others
      (turn_apart name known b h word given looks i) clear
      (step name known (at false (option given) before) (at false idle after) value words [] rows ((given, value) ∷ options) others
      (turn_value name known h value given (plain_looks value values.0) apart_all i) refl
      (adds_option name known (at false idle after) words given value rows options others (apart_one known given apart_all i) fresh.0
      (subst (λ r. Ends name known (at false idle after) words r options others) rows_are
      (reads words options others more false after own.2 values.1 fresh_now clear_now))))
  reads _ _ _ (dashes word others is) b h own values fresh clear =
      subst (λ w. Ends name known (at false (free b) h) (w ∷ others) (rows_in known h) [] others) (sym is)
      (step name known (at false (free b) h) (at true (free b) h) (45 ∷ 45 ∷ []) others [] (rows_in known h) [] others (turn_dashes name known b h) refl (rest name known (free b) h others clear))
