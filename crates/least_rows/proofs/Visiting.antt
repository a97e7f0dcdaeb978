-- What a visit to a rule does.
use Rattle.std.proofs.Common.{◌≡◌, ℕ, ◌+◌, ◌<◌, ◌≤◌, ◌^◌, Bool, true, false, Some, None, List, length, length-set, set, get_or, refl, sym, ap, ◌∙◌, subst, Contains, All, inl, inr, arith, true≢false}
use Rattle.std.proofs.lemmas.Bool.{cases_eq}
use Rattle.std.proofs.lemmas.Option.{slice_get_within, slice_get-get_or}
use Rattle.std.specs.Prelude.{slice_get}
use Rattle.dfi_base.specs.Bits.{has}
use Rattle.dfi_base.proofs.RowLaws.{not_had, has_put_same, has_put_other}
use Rattle.least_rows.specs.declared.rules.Rule.{Rule}
use Rattle.least_rows.specs.declared.rules.System.{System}
use Rattle.least_rows.specs.declared.index.Loading.{Loading}
use Rattle.least_rows.specs.Rules.{Table, IsClosed, IsFittingRule}
use Rattle.least_rows.specs.Solutions.{IsAlike}
use Rattle.least_rows.specs.tools.Growing.{IsSettled, IsGrown, IsApplied, IsReady, IsIndexWithin}
use Rattle.least_rows.proofs.Gathering.{lt_or}
use Rattle.least_rows.proofs.Least.{alike_long, alike_even}

pub some_same : {X : Type 0} (x y : X) → Some x ≡ Some y → x ≡ y
some_same x y same = ap (λ o. elim o [ None ↦ x | Some z ↦ z ]) same

pub at_contains : (rules : List Rule) (i : ℕ) (rule : Rule) → slice_get rules i ≡ Some rule → Contains rules rule
at_contains rules i rule at =
    let within : i < length rules = slice_get_within rules i rule at in
    (i, within, some_same (get_or rules i rule) rule (sym (slice_get-get_or rules i rule within) ∙ at))

-- the conditions stay
pub ready_still : (s : System) (t u : Table) (waiting waking : List Bool) (lists : List (List ℕ)) (loading : List Loading) (asked other empty : List Bool)
    → IsReady s t waiting lists loading asked empty → IsAlike u t → length waking ≡ length waiting → length other ≡ length asked
    → IsReady s u waking lists loading other empty
ready_still s t u waiting waking lists loading asked other empty is alike long wide = record {
  fits = record {
    rows = alike_even t u s.width alike is.fits.rows;
    masks = is.fits.masks;
    rules = subst (λ n. All (IsFittingRule s.width (length s.masks) n) s.rules) (sym same) is.fits.rules;
    few_rules = is.fits.few_rules;
    few_rows = subst (λ n. n < 2 ^ 32) (sym same) is.fits.few_rows;
  };
  width = wide ∙ is.width;
  empty_is = is.empty_is;
  within = subst (λ n. IsIndexWithin n (length u) lists loading) (sym long) (subst (λ n. IsIndexWithin (length waiting) n lists loading) (sym same) is.within);
  long = long ∙ is.long;
  index = is.index;
}
  where
    same : length u ≡ length t
    same = alike_long u t alike

cleared : (s : System) (but c : ℕ) (t : Table) (waiting : List Bool) → length s.rules ≡ but → IsSettled s but t waiting → IsSettled s c t (set waiting c false)
cleared s but c t waiting end settled i rule apart at quiet =
    settled i rule (λ same. omega (arith, same, end, slice_get_within s.rules i rule at)) at (sym (has_put_other waiting c i false apart) ∙ quiet)

-- a rule was visited
pub visited : (s : System) (c : ℕ) (rule : Rule) (t : Table) (waiting : List Bool) (u : Table) (waking : List Bool) (changed : Bool)
    → slice_get s.rules c ≡ Some rule → IsApplied s rule t (set waiting c false) u waking changed → IsGrown s (length s.rules) t waiting u waking changed
visited s c rule t waiting u waking changed at is =
    let one = is.grown c in
    record {
      alike = one.alike;
      above = one.above;
      sound = one.sound;
      long = one.long ∙ length-set waiting c false;
      settled = λ settled i other apart at' idle. elim (cases_eq i c) [
        | inl same ↦
            let again : other ≡ rule = some_same other rule (sym at' ∙ ap (slice_get s.rules) same ∙ at) in
            subst (IsClosed s u) (sym again) (is.closed c at (subst (λ x. has waking x ≡ false) same idle))
        | inr away ↦ one.settled (cleared s (length s.rules) c t waiting refl settled) i other away at' idle
      ];
      fewer = one.fewer;
      quiet = one.quiet;
    }

-- a sweep is past a rule
pub swept : (waiting waking : List Bool) (at c : ℕ) → c < length waiting → ((k : ℕ) → k < at → has waiting k ≡ false)
    → ((k : ℕ) → at ≤ k → k < c → has waiting k ≡ false) → waking ≡ set waiting c false → (k : ℕ) → k < c + 1 → has waking k ≡ false
swept waiting waking at c within passed between is k early = elim (cases_eq k c) [
  | inl same ↦ ap (λ l. has l k) is ∙ ap (has (set waiting c false)) same ∙ has_put_same waiting c false within
  | inr apart ↦ ap (λ l. has l k) is ∙ has_put_other waiting c k false apart ∙ elim (lt_or k at) [
    | inl before ↦ passed k before
    | inr behind ↦ between k behind (omega (arith, early, apart))
  ]
]

pub had_within : (row : List Bool) (k : ℕ) → has row k ≡ true → k < length row
had_within row k is = elim (lt_or k (length row)) [
  | inl inside ↦ inside
  | inr behind ↦ absurd (true≢false (sym is ∙ not_had row k behind))
]
