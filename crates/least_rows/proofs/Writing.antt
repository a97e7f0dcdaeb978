-- What a write does to a table and to the rules that wait.
use Rattle.std.proofs.Common.{◌≡◌, ℕ, zero, suc, ◌+◌, ◌<◌, Bool, true, false, ◌||◌, Some, List, [], ◌∷◌, length, length-set, map, set, refl, sym, ap, ap₂, ◌∙◌, subst, IsTrue, Contains, inl, inr, ◌⊎◌, arith, true≢false}
use Rattle.std.proofs.lemmas.Bool.{cases_eq}
use Rattle.std.proofs.lemmas.List.{get_or-set_same, get_or-set_other}
use Rattle.std.specs.Prelude.{slice_get}
use Rattle.dfi_base.specs.Bits.{has, joined}
use Rattle.dfi_base.proofs.RowLaws.{has_joined, length_joined}
use Rattle.least_rows.specs.declared.rules.Rule.{Rule}
use Rattle.least_rows.specs.declared.rules.System.{System}
use Rattle.least_rows.specs.Rules.{Table, row_of, row_has, Asks}
use Rattle.least_rows.specs.Derived.{Derived}
use Rattle.least_rows.specs.Solutions.{IsAlike, IsAbove}
use Rattle.least_rows.specs.tools.Reads.{Reads}
use Rattle.least_rows.specs.tools.Growing.{gaps_in, gaps, IsSound, IsGrown, IsWritten, IsApplied}
use Rattle.least_rows.proofs.Asking.{asked_derived, same_asks, still_closed, reads_more}
use Rattle.least_rows.proofs.Least.{alike_long}

either : (b c : Bool) → (b || c) ≡ true → (b ≡ true) ⊎ (c ≡ true)
either true c is = inl refl
either false c is = inr is

or_left : (b c : Bool) → b ≡ true → (b || c) ≡ true
or_left b c is = ap (λ x. x || c) is

or_right : (b c : Bool) → c ≡ true → (b || c) ≡ true
or_right true c is = refl
or_right false c is = is

-- fewer places are free in a row that got more
gaps_or : (row more : List Bool) → length row ≡ length more → (joined row more ≡ row) ⊎ (gaps_in (joined row more) < gaps_in row)
gaps_or [] more long = inl refl
gaps_or (x ∷ row) [] long = absurd (omega (arith, long))
gaps_or (true ∷ row) (y ∷ more) long = elim (gaps_or row more (omega (arith, long))) [
  | inl same ↦ inl (ap (λ l. true ∷ l) same)
  | inr less ↦ inr less
]
gaps_or (false ∷ row) (false ∷ more) long = elim (gaps_or row more (omega (arith, long))) [
  | inl same ↦ inl (ap (λ l. false ∷ l) same)
  | inr less ↦ inr (omega (arith, less))
]
gaps_or (false ∷ row) (true ∷ more) long = elim (gaps_or row more (omega (arith, long))) [
  | inl same ↦ inr (omega (arith, ap gaps_in same))
  | inr less ↦ inr (omega (arith, less))
]

gaps_set : (t : Table) (to : ℕ) (row : List Bool) → to < length t → gaps (set t to row) + gaps_in (row_of t to) ≡ gaps t + gaps_in row
gaps_set [] to row within = absurd (omega (arith, within))
gaps_set (x ∷ t) zero row within = omega arith
gaps_set (x ∷ t) (suc to) row within = omega (arith, gaps_set t to row (omega (arith, within)))

set_same : (t : Table) (to : ℕ) → set t to (row_of t to) ≡ t
set_same [] to = refl
set_same (x ∷ t) zero = refl
set_same (x ∷ t) (suc to) = ap (λ l. x ∷ l) (set_same t to)

pub alike_set : (t : Table) (to : ℕ) (row : List Bool) → length row ≡ length (row_of t to) → IsAlike (set t to row) t
alike_set [] to row long = refl
alike_set (x ∷ t) zero row long = ap (λ n. n ∷ map length t) long
alike_set (x ∷ t) (suc to) row long = ap (λ l. length x ∷ l) (alike_set t to row long)

abbrev made : Table → ℕ → List Bool → Table
made t to more = set t to (joined (row_of t to) more)

here : (t : Table) (to : ℕ) (more : List Bool) → to < length t → length (row_of t to) ≡ length more → (k : ℕ)
    → row_has (made t to more) to k ≡ (row_has t to k || has more k)
here t to more within long k = ap (λ l. has l k) (get_or-set_same t to (joined (row_of t to) more) [] within) ∙ has_joined (row_of t to) more k long

elsewhere : (t : Table) (to : ℕ) (more : List Bool) (r : ℕ) → (r ≡ to → ⊥) → row_of (made t to more) r ≡ row_of t r
elsewhere t to more r apart = get_or-set_other t to r (joined (row_of t to) more) [] apart

made_above : (t : Table) (to : ℕ) (more : List Bool) → to < length t → length (row_of t to) ≡ length more → IsAbove t (made t to more)
made_above t to more within long r k is = elim (cases_eq r to) [
  | inl same ↦
      subst (λ x. IsTrue (row_has (made t to more) x k)) (sym same)
      (here t to more within long k ∙ or_left (row_has t to k) (has more k) (subst (λ x. row_has t x k ≡ true) same is))
  | inr apart ↦ ap (λ l. has l k) (elsewhere t to more r apart) ∙ is
]

made_from : (t : Table) (to : ℕ) (more : List Bool) → to < length t → length (row_of t to) ≡ length more → (r k : ℕ) → row_has (made t to more) r k ≡ true
    → (row_has t r k ≡ true) ⊎ ((r ≡ to) × (has more k ≡ true))
made_from t to more within long r k is = elim (cases_eq r to) [
  | inl same ↦ elim (either (row_has t to k) (has more k) (sym (here t to more within long k) ∙ subst (λ x. row_has (made t to more) x k ≡ true) same is)) [
    | inl before ↦ inl (subst (λ x. row_has t x k ≡ true) (sym same) before)
    | inr new ↦ inr (same, new)
  ]
  | inr apart ↦ inl (sym (ap (λ l. has l k) (elsewhere t to more r apart)) ∙ is)
]

made_fewer : (t : Table) (to : ℕ) (more : List Bool) → to < length t → length (row_of t to) ≡ length more → (made t to more ≡ t → ⊥)
    → gaps (made t to more) < gaps t
made_fewer t to more within long other = elim (gaps_or (row_of t to) more long) [
  | inl same ↦ absurd (other (ap (set t to) same ∙ set_same t to))
  | inr less ↦ omega (arith, less, gaps_set t to (joined (row_of t to) more) within)
]

pub not_both : (b : Bool) → b ≡ true → b ≡ false → ⊥
not_both b one two = true≢false (sym one ∙ two)

pub false_unless : (b : Bool) → (b ≡ true → ⊥) → b ≡ false
false_unless true none = absurd (none refl)
false_unless false none = refl

module _ (s : System) (t : Table) (waiting : List Bool) (to : ℕ) (more : List Bool) (u : Table) (waking : List Bool) (changed : Bool) (within : to < length t)
    (long : length (row_of t to) ≡ length more) (w : IsWritten s t waiting to more u waking changed) where
  pub written_above : IsAbove t u
  written_above r k is = subst (λ x. row_has x r k ≡ true) (sym w.table) (made_above t to more within long r k is)

  pub waited_not : (i : ℕ) → has waking i ≡ false → has waiting i ≡ false
  waited_not i idle = false_unless (has waiting i) (λ waits. not_both (has waking i) (w.kept i waits) idle)

  -- a rule that does not wait reads no row that grew
  pub unread : (i : ℕ) (rule : Rule) → slice_get s.rules i ≡ Some rule → has waking i ≡ false → (x : ℕ) → Reads t rule x → row_of u x ≡ row_of t x
  unread i rule at idle x reads = by changed refl
    where
      by : (b : Bool) → changed ≡ b → row_of u x ≡ row_of t x
      by false is = ap (λ l. row_of l x) (w.tells.0 is)
      by true is =
          ap (λ l. row_of l x) w.table
          ∙ elsewhere t to more x (λ same.
          not_both (has waking i) (w.woken is i rule at (reads_more t u rule written_above to (subst (Reads t rule) same reads))) idle)

  as_long : length u ≡ length t
  as_long = ap length w.table ∙ length-set t to (joined (row_of t to) more)

  -- one write, of what is asked for
  pub written_grown : (but : ℕ) → ((start : Table) → length start ≡ length t → IsSound s start t → (k : ℕ) → has more k ≡ true → Derived s start to k)
      → IsGrown s but t waiting u waking changed
  written_grown but derived = record {
    alike = subst (λ x. IsAlike x t) (sym w.table) (alike_set t to (joined (row_of t to) more) (length_joined (row_of t to) more long));
    above = written_above;
    sound = λ start alike sound r k had. elim (made_from t to more within long r k (subst (λ x. row_has x r k ≡ true) w.table had)) [
      | inl before ↦ sound r k before
      | inr new ↦ subst (λ x. Derived s start x k) (sym new.0) (derived start alike sound k new.1)
    ];
    long = w.long;
    settled = λ settled i rule apart at idle.
        still_closed s t u rule as_long written_above (unread i rule at idle) (settled i rule apart at (waited_not i idle));
    fewer = λ is. subst (λ x. gaps x < gaps t) (sym w.table) (made_fewer t to more within long (λ same. not_both changed is (w.tells.1 (w.table ∙ same))));
    quiet = w.tells.0;
  }

  -- the row has what was written
  pub written_within : (k : ℕ) → has more k ≡ true → row_has u to k ≡ true
  written_within k is = ap (λ x. row_has x to k) w.table ∙ here t to more within long k ∙ or_right (row_has t to k) (has more k) is

  -- what a rule asks of one row, written
  pub written_applied : (rule : Rule) → Contains s.rules rule → ((k : ℕ) → has more k ≡ true → Asks s t rule to k)
      → ((r k : ℕ) → Asks s t rule r k → (r ≡ to) × (has more k ≡ true)) → IsApplied s rule t waiting u waking changed
  written_applied rule one asks asked = record {
    grown = λ but. written_grown but (λ start alike sound k had. asked_derived s start t rule one alike sound to k (asks k had));
    same = w.same;
    closed = λ i at idle r k ask.
        let place = asked r k (same_asks s t u rule as_long (unread i rule at idle) r k ask) in
        subst (λ x. row_has u x k ≡ true) (sym place.0) (written_within k place.1);
  }

pub unmoved : (s : System) (but : ℕ) (t : Table) (waiting : List Bool) → IsGrown s but t waiting t waiting false
unmoved s but t waiting = record {
  alike = refl;
  above = λ r k is. is;
  sound = λ start alike sound. sound;
  long = refl;
  settled = λ settled. settled;
  fewer = λ is. absurd (true≢false (sym is));
  quiet = λ is. refl;
}

-- nothing was done, and nothing is asked
pub idle_applied : (s : System) (rule : Rule) (t : Table) (waiting : List Bool) → ((r k : ℕ) → Asks s t rule r k → ⊥) → IsApplied s rule t waiting t waiting false
idle_applied s rule t waiting none = record {
  grown = λ but. unmoved s but t waiting;
  same = λ is. refl;
  closed = λ i at idle r k ask. absurd (none r k ask);
}

pub none_both : (a b : Bool) → (b || a) ≡ false → (b ≡ false) × (a ≡ false)
none_both a true is = absurd (true≢false is)
none_both a false is = (refl, is)

pub further : (s : System) (but : ℕ) (t u v : Table) (a b c : List Bool) (one two : Bool) → IsGrown s but t a u b one → IsGrown s but u b v c two
    → IsGrown s but t a v c (two || one)
further s but t u v a b c one two first second = record {
  alike = second.alike ∙ first.alike;
  above = λ r k is. second.above r k (first.above r k is);
  sound = λ start alike sound.
      second.sound start (alike ∙ sym (alike_long u t first.alike)) (first.sound start alike sound);
  long = second.long ∙ first.long;
  settled = λ settled. second.settled (first.settled settled);
  fewer = fewer one two refl refl;
  quiet = λ is. quiet one two refl refl is;
}
  where
    fewer : (x y : Bool) → one ≡ x → two ≡ y → (two || one) ≡ true → gaps v < gaps t
    fewer x true is is' some = elim (cases one refl) [
      | inl moved ↦ (let p = first.fewer moved in let q = second.fewer is' in omega (arith, p, q))
      | inr still ↦ (let q = second.fewer is' in let p = ap gaps (first.quiet still) in omega (arith, p, q))
    ]
      where
        cases : (z : Bool) → one ≡ z → (one ≡ true) ⊎ (one ≡ false)
        cases true e = inl e
        cases false e = inr e
    fewer true false is is' some = (let p = first.fewer is in let q = ap gaps (second.quiet is') in omega (arith, p, q))
    fewer false false is is' some = absurd (true≢false (sym some ∙ ap₂ (λ p q. p || q) is' is))

    quiet : (x y : Bool) → one ≡ x → two ≡ y → (two || one) ≡ false → v ≡ t
    quiet false false is is' none = second.quiet is' ∙ first.quiet is
    quiet x true is is' none = absurd (true≢false (sym (ap (λ p. p || one) is') ∙ none))
    quiet true false is is' none = absurd (true≢false (sym (ap₂ (λ p q. p || q) is' is) ∙ none))
