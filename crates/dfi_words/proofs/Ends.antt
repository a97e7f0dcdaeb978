-- What the walk of `clap` has found when it ends.
use Rattle.std.proofs.Common.{◌≡◌, Bool, true, false, List, [], ◌∷◌, ◌++◌, Option, Some, None, option_map, fold, refl, sym, ap, subst, ◌∙◌, bytes_eq}
use Rattle.std.specs.Prelude.{unwrap_or}
use Rattle.std.proofs.lemmas.List.{append_assoc, append-nil}
use Rattle.clap.specs.Walk.{Row, Text, Held, Walk, Waiting, positional, all_of, has_row, settled, used, walked, without}
use Rattle.clap.specs.Kinds.{Kinds}
use Rattle.clap.specs.Faults.{settle_fault, use_fault, walk_fault}
use Rattle.dfi_words.specs.tools.Found.{plain_id}
use Rattle.dfi_words.specs.Options.{IsOneOf, value_of}
use Rattle.dfi_words.specs.Split.{Options}
use Rattle.dfi_words.proofs.Rows.{same, equal, row_is_found, others_without, others_with, added_to, still_missing}
use Rattle.dfi_words.proofs.Rules.{plain_rule, option_rule, rules, shape, AreApart, option_by_id}
use Rattle.dfi_words.proofs.Turns.{at, waiting_held, valued_held, plain_held, Turns, turn_rest}

-- what is pending can be used, and the rows after its use
abbrev pub Clear : List Text → Held → Type 0
Clear known h = settle_fault (rules known) false h ≡ []

abbrev pub rows_in : List Text → Held → List Row
rows_in known h = (settled (rules known) h).rows

abbrev pub said : List Row → List Text
said rows = unwrap_or (all_of plain_id rows) []

abbrev pub first_or : Option (List Text) → Option Text → Option (List Text)
first_or (Some values) later = Some values
first_or None later = option_map (λ value. value ∷ []) later

abbrev pub walk_from : List Text → Walk → List Text → Walk
walk_from known w words = fold (walked (rules known) []) w words

-- the walk over the words has no fault, and adds these options and plain words to the rows
pub record Ends (name : Text) (known : List Text) (w : Walk) (words : List Text) (rows : List Row) (options : Options) (others : List Text) : Type 0 where
  pub fault : walk_fault (shape name known) [] w words ≡ []
  pub clear : Clear known (walk_from known w words).held
  pub values : (x : Text) → bytes_eq plain_id x ≡ false → all_of x (rows_in known (walk_from known w words).held) ≡ first_or (all_of x rows) (value_of x options)
  pub plain : said (rows_in known (walk_from known w words).held) ≡ said rows ++ others

-- ---- uses of an argument

abbrev pub with_option : Text → Text → List Row → List Row
with_option own value rows = used (option_rule own) (value ∷ []) rows

abbrev pub with_plain : Text → List Row → List Row
with_plain word rows = used plain_rule (word ∷ []) rows

pub with_itself : (own value : Text) (rows : List Row) → all_of own rows ≡ None → all_of own (with_option own value rows) ≡ Some (value ∷ [])
with_itself own value rows none = added_to own _ _ (value ∷ []) (without own rows) ∙ ap (λ o. Some (unwrap_or o [] ++ value ∷ [])) (still_missing own rows none)

pub with_others : (own value x : Text) (rows : List Row) → bytes_eq own x ≡ false → all_of x (with_option own value rows) ≡ all_of x rows
with_others own value x rows e = others_with own x e _ _ (value ∷ []) (without own rows) ∙ others_without own x e rows

pub plain_others : (word x : Text) (rows : List Row) → bytes_eq plain_id x ≡ false → all_of x (with_plain word rows) ≡ all_of x rows
plain_others word x rows e = others_with plain_id x e _ _ (word ∷ []) rows

pub plain_itself : (word : Text) (rows : List Row) → said (with_plain word rows) ≡ said rows ++ word ∷ []
plain_itself word rows = ap (λ o. unwrap_or o []) (added_to plain_id _ _ (word ∷ []) rows)

pub turned : (a b : Text) (t : Bool) → bytes_eq b a ≡ t → bytes_eq a b ≡ false → bytes_eq b a ≡ false
turned a b true e f = let t : bytes_eq a b ≡ true = ap (bytes_eq a) (equal b a e) ∙ same a in absurd cc
turned a b false e f = e

repeat_clear : (own value : Text) (rows : List Row) (t : Bool) → has_row own rows ≡ t → t ≡ false → use_fault false (option_rule own) (value ∷ []) rows ≡ []
repeat_clear own value rows t e f = rw (e, f) refl

pub use_clear : (own value : Text) (rows : List Row) → all_of own rows ≡ None → use_fault false (option_rule own) (value ∷ []) rows ≡ []
use_clear own value rows none = repeat_clear own value rows false (row_is_found own rows ∙ rw none refl) refl

repeat_fresh : (own value : Text) (rows : List Row) (o : Option (List Text)) → all_of own rows ≡ o → use_fault false (option_rule own) (value ∷ []) rows ≡ [] → o ≡ None
repeat_fresh own value rows None e f = refl
repeat_fresh own value rows (Some v) e f =
    let there : has_row own rows ≡ true = row_is_found own rows ∙ rw e refl in
    let g = rw there at f in absurd cc

pub use_fresh : (own value : Text) (rows : List Row) → use_fault false (option_rule own) (value ∷ []) rows ≡ [] → all_of own rows ≡ None
use_fresh own value rows f = repeat_fresh own value rows (all_of own rows) refl f

-- ---- what is held

module _ (known : List Text) (apart : AreApart known) (own : Text) (i : IsOneOf known own) where
  pub valued_fault : (value : Text) (h : Held) → settle_fault (rules known) false (valued_held known own value h) ≡ use_fault false (option_rule own) (value ∷ []) (rows_in known h)
  valued_fault value h = rw (option_by_id known own apart i) refl

  pub valued_rows : (value : Text) (h : Held) → rows_in known (valued_held known own value h) ≡ with_option own value (rows_in known h)
  valued_rows value h = rw (option_by_id known own apart i) refl

  -- an option that has no value yet cannot be used
  pub waits : (h : Held) → Clear known (waiting_held known own h) → ⊥
  waits h clear = let c = rw (option_by_id known own apart i) at clear in absurd cc

-- ---- one step more

module _ (name : Text) (known : List Text) where
  pub step : (w after : Walk) (word : Text) (words : List Text) (faults : Kinds) (rows : List Row) (options : Options) (others : List Text)
      → Turns name known w word faults after → faults ≡ [] → Ends name known after words rows options others → Ends name known w (word ∷ words) rows options others
  unfolding walk_fault
  step w after word words faults rows options others t none e = record {
    fault = rw (t.fault, none, t.then) e.fault;
    clear = subst (λ v. Clear known (walk_from known v words).held) (sym t.then) e.clear;
    values = λ x f. subst (λ v. all_of x (rows_in known (walk_from known v words).held) ≡ first_or (all_of x rows) (value_of x options)) (sym t.then) (e.values x f);
    plain = subst (λ v. said (rows_in known (walk_from known v words).held) ≡ said rows ++ others) (sym t.then) e.plain;
  }

  pub stop : (w : Walk) → Clear known w.held → Ends name known w [] (rows_in known w.held) [] []
  unfolding walk_fault
  stop w clear = record { fault = refl; clear = clear; values = λ x f. sym (kept (all_of x (rows_in known w.held))); plain = sym (append-nil (said (rows_in known w.held))) }
    where
      kept : (o : Option (List Text)) → first_or o None ≡ o
      kept None = refl
      kept (Some v) = refl

  pub adds_plain : (w : Walk) (words : List Text) (word : Text) (rows : List Row) (options : Options) (others : List Text)
      → Ends name known w words (with_plain word rows) options others → Ends name known w words rows options (word ∷ others)
  adds_plain w words word rows options others e = record {
    fault = e.fault;
    clear = e.clear;
    values = λ x f. e.values x f ∙ ap (λ o. first_or o (value_of x options)) (plain_others word x rows f);
    plain = e.plain ∙ ap (λ l. l ++ others) (plain_itself word rows) ∙ append_assoc (said rows) (word ∷ []) others;
  }

  pub adds_option : (w : Walk) (words : List Text) (own value : Text) (rows : List Row) (options : Options) (others : List Text)
      → bytes_eq plain_id own ≡ false → all_of own rows ≡ None
      → Ends name known w words (with_option own value rows) options others → Ends name known w words rows ((own, value) ∷ options) others
  adds_option w words own value rows options others apart none e = record {
    fault = e.fault;
    clear = e.clear;
    values = λ x f. e.values x f ∙ go x (bytes_eq own x) refl;
    plain = e.plain ∙ ap (λ o. unwrap_or o [] ++ others) (with_others own value plain_id rows (turned plain_id own _ refl apart));
  }
    where
      go : (x : Text) (t : Bool) → bytes_eq own x ≡ t
          → first_or (all_of x (with_option own value rows)) (value_of x options) ≡ first_or (all_of x rows) (value_of x ((own, value) ∷ options))
      go x true f =
          let is : own ≡ x = equal own x f in
          let there : all_of x (with_option own value rows) ≡ Some (value ∷ []) = ap (λ y. all_of y (with_option own value rows)) (sym is) ∙ with_itself own value rows none in
          let gone : all_of x rows ≡ None = ap (λ y. all_of y rows) (sym is) ∙ none in
          rw (there, gone, f) refl
      go x false f = rw (with_others own value x rows f, f) refl

  -- after `--`
  pub rest : (waiting : Waiting) (h : Held) (words : List Text) → Clear known h → Ends name known (at true waiting h) words (rows_in known h) [] words
  rest waiting h [] clear = stop (at true waiting h) clear
  rest waiting h (word ∷ words) clear =
      step (at true waiting h) (at true positional (plain_held known word h)) word words (settle_fault (rules known) false h) (rows_in known h) [] (word ∷ words)
      (turn_rest name known waiting h word) clear
      (adds_plain (at true positional (plain_held known word h)) words word (rows_in known h) [] words (rest positional (plain_held known word h) words refl))
