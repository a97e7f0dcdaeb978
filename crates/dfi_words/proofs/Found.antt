-- A walk with no fault was over options and plain words.
use Rattle.std.proofs.Common.{◌≡◌, ◌≢◌, ◌⊎◌, inl, inr, Bool, true, false, List, [], ◌∷◌, Option, Some, None, refl, sym, ap, subst, ◌∙◌, bytes_eq, IsUtf8}
use Rattle.std.specs.List.{AllByRecursion as Each}
use Rattle.clap.specs.Lexer.{long_of, short_of}
use Rattle.clap.specs.Walk.{Row, Text, Held, Waiting, idle, positional, option, all_of, reacted, arg_by_long}
use Rattle.clap.specs.Kinds.{Kinds, or_else}
use Rattle.clap.specs.Faults.{flags_fault, react_fault, settle_fault, turn_fault, use_fault, walk_fault}
use Rattle.dfi_words.specs.Options.{IsOneOf, AreOptionsOf, value_of}
use Rattle.dfi_words.specs.Split.{Options, Split, nothing, plain, apart, joined, dashes}
use Rattle.dfi_words.proofs.Forms.{is_dashes, LooksLong, LooksPlain, LongForm, bare, valued, ShortForm, long_form, short_form, looks_plain}
use Rattle.dfi_words.proofs.Rows.{equal}
use Rattle.dfi_words.proofs.Rules.{option_rule, rules, shape, AreApart, apart_one, long_known, long_found, no_short}
use Rattle.dfi_words.proofs.Turns.{at, free, waiting_held, valued_held, plain_held, Turns, turn_joined, turn_apart, turn_value, turn_plain, turn_rest, turn_dashes, turn_dashes_early}
use Rattle.dfi_words.proofs.Ends.{Clear, rows_in, walk_from, Ends, with_option, with_plain, with_itself, with_others, plain_others, use_fresh, valued_fault, valued_rows, waits, turned, step, stop, adds_plain, adds_option, rest}
use Rattle.dfi_words.proofs.Reading.{Fresh}

-- what a word is
pub data Kind (word : Text) : Type 0 where
  long : (name : Text) (value : Option Text) → LooksLong word name value → Kind word
  short : (flags : Text) → is_dashes word ≡ false → long_of word ≡ None → short_of word ≡ Some flags → Kind word
  alone : LooksPlain word → Kind word
  ending : word ≡ 45 ∷ 45 ∷ [] → Kind word

kind_of : (word : Text) → Kind word
kind_of word = by_dashes (is_dashes word) refl
  where
    by_short : (s : Option Text) → short_of word ≡ s → is_dashes word ≡ false → long_of word ≡ None → Kind word
    by_short None e d l = alone (record { dashes = d; long = l; short = e })
    by_short (Some flags) e d l = short flags d l e

    by_long : (l : Option (Text × Option Text)) → long_of word ≡ l → is_dashes word ≡ false → Kind word
    by_long None e d = by_short (short_of word) refl d e
    by_long (Some p) e d = long p.0 p.1 (record { dashes = d; long = e })

    by_dashes : (t : Bool) → is_dashes word ≡ t → Kind word
    by_dashes true e = ending (equal word (45 ∷ 45 ∷ []) e)
    by_dashes false e = by_long (long_of word) refl e

pub both_clear : (a b : Kinds) → or_else a b ≡ [] → (a ≡ []) × (b ≡ [])
both_clear [] b e = (refl, e)
both_clear (k ∷ a) b e = absurd cc

-- options that are fresh after a use were fresh before it, and none of them is the one that was used
fresh_before_plain : (known : List Text) → AreApart known → (word : Text) (rows : List Row) (options : Options) → AreOptionsOf known options → Fresh (with_plain word rows) options
    → Fresh rows options
fresh_before_plain known apart_all word rows [] own fresh = tt
fresh_before_plain known apart_all word rows (given ∷ options) own fresh =
    (sym (plain_others word given.0 rows (apart_one known given.0 apart_all own.0)) ∙ fresh.0, fresh_before_plain known apart_all word rows options own.2 fresh.1)

differs : (own value given : Text) (rows : List Row) → all_of own rows ≡ None → all_of given (with_option own value rows) ≡ None → bytes_eq own given ≡ false
differs own value given rows none gone = go (bytes_eq own given) refl
  where
    go : (t : Bool) → bytes_eq own given ≡ t → t ≡ false
    go false e = refl
    go true e =
        let there : all_of given (with_option own value rows) ≡ Some (value ∷ []) = ap (λ y. all_of y (with_option own value rows)) (sym (equal own given e)) ∙ with_itself own value rows none in
        absurd cc

fresh_before : (own value : Text) (rows : List Row) (options : Options) → all_of own rows ≡ None → Fresh (with_option own value rows) options
    → Fresh rows options × (value_of own options ≡ None)
fresh_before own value rows [] none fresh = (tt, refl)
fresh_before own value rows (given ∷ options) none fresh =
    let apart_now = differs own value given.0 rows none fresh.0 in
    let later = fresh_before own value rows options none fresh.1 in
    let turned_now : bytes_eq given.0 own ≡ false = turned own given.0 _ refl apart_now in
    ((sym (with_others own value given.0 rows apart_now) ∙ fresh.0, later.0), rw turned_now later.1)

-- ---- words that are refused wherever they stand before `--`

module _ (name : Text) (known : List Text) where
  refused_short : (waiting : Waiting) (h : Held) (word flags : Text) → is_dashes word ≡ false → long_of word ≡ None → short_of word ≡ Some flags → ShortForm flags → h.skip ≡ 0
      → turn_fault (shape name known) [] (at false waiting h) word ≡ [] → ⊥
  unfolding flags_fault
  refused_short idle h word flags d l s form z e = let f = rw (d, l, s, form.length_is, form.starts, z, no_short known form.first) at e in absurd cc
  refused_short positional h word flags d l s form z e = let f = rw (d, l, s, form.length_is, form.starts, z, no_short known form.first) at e in absurd cc
  refused_short (option own) h word flags d l s form z e = let f = rw (d, l, s, form.length_is, form.starts, z, no_short known form.first) at e in absurd cc

  refused_unknown : (waiting : Waiting) (h : Held) (word own : Text) (value : Option Text) → LooksLong word own value → arg_by_long (rules known) own ≡ None
      → turn_fault (shape name known) [] (at false waiting h) word ≡ [] → ⊥
  refused_unknown idle h word own value looks none e = let f = rw (looks.dashes, looks.long, none) at e in absurd cc
  refused_unknown positional h word own value looks none e = let f = rw (looks.dashes, looks.long, none) at e in absurd cc
  refused_unknown (option other) h word own value looks none e = let f = rw (looks.dashes, looks.long, none) at e in absurd cc

  -- the walk goes on with no fault after a turn
  pub went : (w after : _) (word : Text) (words : List Text) (faults : Kinds) → Turns name known w word faults after
      → walk_fault (shape name known) [] w (word ∷ words) ≡ [] → (faults ≡ []) × (walk_fault (shape name known) [] after words ≡ [])
  unfolding walk_fault
  went w after word words faults t e =
      let parts = both_clear _ _ e in
      (sym t.fault ∙ parts.0, subst (λ v. walk_fault (shape name known) [] v words ≡ []) t.then parts.1)

  pub first_turn : (w : _) (word : Text) (words : List Text) → walk_fault (shape name known) [] w (word ∷ words) ≡ [] → turn_fault (shape name known) [] w word ≡ []
  unfolding walk_fault
  first_turn w word words e = (both_clear _ _ e).0

  -- what a walk with no fault was over
  pub record Taken (b : Bool) (h : Held) (words : List Text) : Type 0 where
    pub options : Options
    pub others : List Text
    pub split : Split words options others
    pub own : AreOptionsOf known options
    pub fresh : Fresh (rows_in known h) options
    pub clear : Clear known h
    pub ends : Ends name known (at false (free b) h) words (rows_in known h) options others

  abbrev Later : List Text → Type 0
  Later words = (b : Bool) (h : Held) → h.skip ≡ 0 → Each IsUtf8 words → walk_fault (shape name known) [] (at false (free b) h) words ≡ []
      → Clear known (walk_from known (at false (free b) h) words).held → Taken b h words

  taken_none : (b : Bool) (h : Held) → Clear known h → Taken b h []
  taken_none b h clear =
      record { options = []; others = []; split = nothing; own = tt; fresh = tt; clear = clear; ends = stop name known (at false (free b) h) clear }

  taken_plain : (b : Bool) (h : Held) (word : Text) (words : List Text) → LooksPlain word → settle_fault (rules known) false h ≡ []
      → AreApart known → Taken true (plain_held known word h) words → Taken b h (word ∷ words)
  taken_plain b h word words looks clear apart_all later = record {
    options = later.options;
    others = word ∷ later.others;
    split = plain word words later.options later.others (looks_plain word looks) later.split;
    own = later.own;
    fresh = fresh_before_plain known apart_all word (rows_in known h) later.options later.own later.fresh;
    clear = clear;
    ends = step name known (at false (free b) h) (at false positional (plain_held known word h)) word words (settle_fault (rules known) false h) (rows_in known h) later.options (word ∷ later.others)
        (turn_plain name known b h word looks) clear (adds_plain name known (at false positional (plain_held known word h)) words word (rows_in known h) later.options later.others later.ends);
  }

  module _ (apart_all : AreApart known) (named : Each (λ own. own ≢ []) known) where
    has_name : (own : Text) (among : List Text) → Each (λ k. k ≢ []) among → IsOneOf among own → own ≢ []
    has_name own [] all i = absurd i
    has_name own (k ∷ among) all (inl e) = subst (λ n. n ≢ []) (sym e) all.0
    has_name own (k ∷ among) all (inr i) = has_name own among all.1 i

    taken_joined : (b : Bool) (h : Held) (word own value : Text) (words : List Text) → LooksLong word own (Some value) → LongForm word own (Some value) → IsOneOf known own
        → Clear known h → all_of own (rows_in known h) ≡ None → react_fault (rules known) false (option_rule own) (value ∷ []) h ≡ []
        → Taken false (reacted (rules known) (option_rule own) (value ∷ []) h) words → Taken b h (word ∷ words)
    taken_joined b h word own value words looks (valued _ is plain_name) i clear none unfaulted later =
        let rows = rows_in known h in
        let before = fresh_before own value rows later.options none later.fresh in
        let after = reacted (rules known) (option_rule own) (value ∷ []) h in
        record {
          options = (own, value) ∷ later.options;
          others = later.others;
          split = joined word own value words later.options later.others is (has_name own known named i, plain_name) later.split;
          own = (i, before.1, later.own);
          fresh = (none, before.0);
          clear = clear;
          ends = step name known (at false (free b) h) (at false idle after) word words (react_fault (rules known) false (option_rule own) (value ∷ []) h) rows ((own, value) ∷ later.options) later.others
              (turn_joined name known b h word own value looks i) unfaulted
              (adds_option name known (at false idle after) words own value rows later.options later.others (apart_one known own apart_all i) none later.ends);
        }

    taken_apart : (b : Bool) (h : Held) (word own value : Text) (words : List Text) → LooksLong word own None → LongForm word own None → LooksPlain value → IsOneOf known own
        → Clear known h → Taken false (valued_held known own value h) words → Taken b h (word ∷ value ∷ words)
    taken_apart b h word own value words looks (bare is plain_name) plain_value i clear later =
        let rows = rows_in known h in
        let first = waiting_held known own h in
        let after = valued_held known own value h in
        let rows_are = valued_rows known apart_all own i value h in
        let none : all_of own rows ≡ None = use_fresh own value rows (sym (valued_fault known apart_all own i value h) ∙ later.clear) in
        let before = fresh_before own value rows later.options none (subst (λ r. Fresh r later.options) rows_are later.fresh) in
        record {
          options = (own, value) ∷ later.options;
          others = later.others;
          split = apart word own value words later.options later.others is (has_name own known named i, plain_name) later.split;
          own = (i, before.1, later.own);
          fresh = (none, before.0);
          clear = clear;
          ends = step name known (at false (free b) h) (at false (option own) first) word (value ∷ words) (settle_fault (rules known) false h) rows ((own, value) ∷ later.options) later.others
              (turn_apart name known b h word own looks i) clear
              (step name known (at false (option own) first) (at false idle after) value words [] rows ((own, value) ∷ later.options) later.others
              (turn_value name known h value own plain_value apart_all i) refl
              (adds_option name known (at false idle after) words own value rows later.options later.others (apart_one known own apart_all i) none
              (subst (λ r. Ends name known (at false idle after) words r later.options later.others) rows_are later.ends)));
        }

    -- what waits after `--` is settled by the next word, or at the end
    clear_before : (waiting : Waiting) (h : Held) (words : List Text) → walk_fault (shape name known) [] (at true waiting h) words ≡ []
        → Clear known (walk_from known (at true waiting h) words).held → Clear known h
    clear_before waiting h [] e clear = clear
    clear_before waiting h (word ∷ words) e clear = (went (at true waiting h) _ word words _ (turn_rest name known waiting h word) e).0

    taken_dashes : (b : Bool) (h : Held) (word : Text) (words : List Text) → word ≡ 45 ∷ 45 ∷ [] → Clear known h → Taken b h (word ∷ words)
    taken_dashes b h word words is clear = record {
      options = [];
      others = words;
      split = dashes word words is;
      own = tt;
      fresh = tt;
      clear = clear;
      ends = subst (λ w. Ends name known (at false (free b) h) (w ∷ words) (rows_in known h) [] words) (sym is)
          (step name known (at false (free b) h) (at true (free b) h) (45 ∷ 45 ∷ []) words [] (rows_in known h) [] words (turn_dashes name known b h) refl (rest name known (free b) h words clear));
    }

    -- an option that waits for its value gets none
    refused_long : (h : Held) (word own other : Text) (value : Option Text) → IsOneOf known own → LooksLong word other value
        → turn_fault (shape name known) [] (at false (option own) (waiting_held known own h)) word ≡ [] → ⊥
    refused_long h word own other value i looks e = go value looks (long_found known other)
      where
        go : (value : Option Text) → LooksLong word other value → (arg_by_long (rules known) other ≡ None) ⊎ IsOneOf known other → ⊥
        go value looks (inl none) = refused_unknown (option own) (waiting_held known own h) word other value looks none e
        go None looks (inr there) =
            let f = rw (looks.dashes, looks.long, long_known known other there) at e in
            waits known apart_all own i h (both_clear _ _ f).0
        go (Some v) looks (inr there) =
            let f = rw (looks.dashes, looks.long, long_known known other there) at e in
            waits known apart_all own i h (both_clear _ _ (both_clear _ _ f).0).0

    no_value : (h : Held) (own : Text) → IsOneOf known own → Clear known (waiting_held known own h) → ⊥
    no_value h own i clear = waits known apart_all own i h clear

    -- the word after an option that waits
    value_next : (b : Bool) (h : Held) (word own value : Text) (words : List Text) → LooksLong word own None → IsOneOf known own → Clear known h → h.skip ≡ 0
        → IsUtf8 value → Each IsUtf8 words → walk_fault (shape name known) [] (at false (option own) (waiting_held known own h)) (value ∷ words) ≡ []
        → Clear known (walk_from known (at false (option own) (waiting_held known own h)) (value ∷ words)).held
        → Later words → Kind value → Taken b h (word ∷ value ∷ words)
    value_next b h word own value words looks i clear z u us e end later (long other v form) =
        absurd (refused_long h value own other v i form (first_turn (at false (option own) (waiting_held known own h)) value words e))
    value_next b h word own value words looks i clear z u us e end later (short flags d l s) =
        absurd (refused_short (option own) (waiting_held known own h) value flags d l s (short_form value flags s u) z (first_turn (at false (option own) (waiting_held known own h)) value words e))
    value_next b h word own value words looks i clear z u us e end later (alone form) =
        let t = turn_value name known h value own form apart_all i in
        let on = went (at false (option own) (waiting_held known own h)) (at false idle (valued_held known own value h)) value words [] t e in
        let end_now = subst (λ w. Clear known (walk_from known w words).held) t.then end in
        taken_apart b h word own value words looks (long_form word own None looks.long) form i clear (later false (valued_held known own value h) z us on.1 end_now)
    value_next b h word own value words looks i clear z u us e end later (ending is) =
        let e_now = subst (λ v. walk_fault (shape name known) [] (at false (option own) (waiting_held known own h)) (v ∷ words) ≡ []) is e in
        let t = turn_dashes_early name known (waiting_held known own h) own in
        let on = went (at false (option own) (waiting_held known own h)) (at true (option own) (waiting_held known own h)) (45 ∷ 45 ∷ []) words [] t e_now in
        let end_now = subst (λ v. Clear known (walk_from known (at false (option own) (waiting_held known own h)) (v ∷ words)).held) is end in
        let end_after = subst (λ w. Clear known (walk_from known w words).held) t.then end_now in
        absurd (no_value h own i (clear_before (option own) (waiting_held known own h) words on.1 end_after))

    abbrev Apart : Bool → Held → Text → List Text → Type 0
    Apart b h word words = (own : Text) → LooksLong word own None → IsOneOf known own → Clear known h
        → walk_fault (shape name known) [] (at false (option own) (waiting_held known own h)) words ≡ []
        → Clear known (walk_from known (at false (option own) (waiting_held known own h)) words).held → Taken b h (word ∷ words)

    by_kind : (b : Bool) (h : Held) (word : Text) (words : List Text) → h.skip ≡ 0 → IsUtf8 word → Each IsUtf8 words
        → walk_fault (shape name known) [] (at false (free b) h) (word ∷ words) ≡ [] → Clear known (walk_from known (at false (free b) h) (word ∷ words)).held
        → Later words → Apart b h word words → Kind word → Taken b h (word ∷ words)
    by_kind b h word words z u us e end later apart_next (short flags d l s) =
        absurd (refused_short (free b) h word flags d l s (short_form word flags s u) z (first_turn (at false (free b) h) word words e))
    by_kind b h word words z u us e end later apart_next (alone form) =
        let t = turn_plain name known b h word form in
        let on = went (at false (free b) h) (at false positional (plain_held known word h)) word words (settle_fault (rules known) false h) t e in
        let end_now = subst (λ w. Clear known (walk_from known w words).held) t.then end in
        taken_plain b h word words form on.0 apart_all (later true (plain_held known word h) z us on.1 end_now)
    by_kind b h word words z u us e end later apart_next (ending is) =
        let e_now = subst (λ v. walk_fault (shape name known) [] (at false (free b) h) (v ∷ words) ≡ []) is e in
        let t = turn_dashes name known b h in
        let on = went (at false (free b) h) (at true (free b) h) (45 ∷ 45 ∷ []) words [] t e_now in
        let end_now = subst (λ v. Clear known (walk_from known (at false (free b) h) (v ∷ words)).held) is end in
        let end_after = subst (λ w. Clear known (walk_from known w words).held) t.then end_now in
        taken_dashes b h word words is (clear_before (free b) h words on.1 end_after)
    by_kind b h word words z u us e end later apart_next (long own value form) = go value form (long_found known own)
      where
        go : (value : Option Text) → LooksLong word own value → (arg_by_long (rules known) own ≡ None) ⊎ IsOneOf known own → Taken b h (word ∷ words)
        go value form (inl none) = absurd (refused_unknown (free b) h word own value form none (first_turn (at false (free b) h) word words e))
        go None form (inr i) =
            let t = turn_apart name known b h word own form i in
            let on = went (at false (free b) h) (at false (option own) (waiting_held known own h)) word words (settle_fault (rules known) false h) t e in
            let end_now = subst (λ w. Clear known (walk_from known w words).held) t.then end in
            apart_next own form i on.0 on.1 end_now
        go (Some v) form (inr i) =
            let t = turn_joined name known b h word own v form i in
            let after = reacted (rules known) (option_rule own) (v ∷ []) h in
            let on = went (at false (free b) h) (at false idle after) word words (react_fault (rules known) false (option_rule own) (v ∷ []) h) t e in
            let end_now = subst (λ w. Clear known (walk_from known w words).held) t.then end in
            let parts = both_clear (settle_fault (rules known) false h) (use_fault false (option_rule own) (v ∷ []) (rows_in known h)) on.0 in
            taken_joined b h word own v words form (long_form word own (Some v) form.long) i parts.0 (use_fresh own v (rows_in known h) parts.1) on.0
            (later false after z us on.1 end_now)

    pub taken : (words : List Text) → Later words
    taken [] b h z us e end = taken_none b h end
    taken (word ∷ []) b h z us e end =
        by_kind b h word [] z us.0 us.1 e end (taken []) (λ own form i clear more last. absurd (no_value h own i last)) (kind_of word)
    taken (word ∷ value ∷ words) b h z us e end =
        by_kind b h word (value ∷ words) z us.0 us.1 e end (taken (value ∷ words))
        (λ own form i clear more last. value_next b h word own value words form i clear z us.1.0 us.1.1 more last (taken words) (kind_of value)) (kind_of word)
