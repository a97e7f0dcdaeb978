-- The index of readers and loads.
use Rattle.std.proofs.Common.{◌≡◌, ℕ, zero, suc, ◌+◌, ◌<◌, ◌≤◌, Some, None, List, [], ◌∷◌, ◌++◌, length, get_or, set, take, sym, ap, ap₂, ◌∙◌, subst, Contains, All, inl, inr, arith}
use Rattle.std.proofs.lemmas.Bool.{cases_eq}
use Rattle.std.proofs.lemmas.List.{get_or-set_same, get_or-set_other, take_more}
use Rattle.std.proofs.lemmas.List.Elements.{All-set, All-push, All-get_or, All-head, All-tail, All-cons, Contains-push, Contains-push_cases, Contains-append_left}
use Rattle.std.specs.Prelude.{slice_get}
use Rattle.least_rows.specs.declared.rules.Rule.{Rule}
use Rattle.least_rows.specs.declared.rules.System.{System}
use Rattle.least_rows.specs.declared.index.Loading.{Loading}
use Rattle.least_rows.specs.Rules.{IsFittingRule}
use Rattle.least_rows.specs.tools.Reads.{reads_of}
use Rattle.least_rows.specs.tools.Growing.{ReadersAre, loads_from}
use Rattle.least_rows.proofs.Gathering.{lt_or}
use Rattle.least_rows.proofs.Visiting.{some_same}

abbrev entered : List (List ℕ) → ℕ → ℕ → List (List ℕ)
entered lists at rule = set lists at (get_or lists at [] ++ rule ∷ [])

pub enter_kept : (lists : List (List ℕ)) (at rule r i : ℕ) → at < length lists → Contains (get_or lists r []) i → Contains (get_or (entered lists at rule) r []) i
enter_kept lists at rule r i within one = elim (cases_eq r at) [
  | inl same ↦
      subst (λ l. Contains l i) (sym (ap (λ x. get_or (entered lists at rule) x []) same ∙ get_or-set_same lists at (get_or lists at [] ++ rule ∷ []) [] within))
      (Contains-append_left (get_or lists at []) (rule ∷ []) i (subst (λ x. Contains (get_or lists x []) i) same one))
  | inr apart ↦ subst (λ l. Contains l i) (sym (get_or-set_other lists at r (get_or lists at [] ++ rule ∷ []) [] apart)) one
]

pub enter_new : (lists : List (List ℕ)) (at rule : ℕ) → at < length lists → Contains (get_or (entered lists at rule) at []) rule
enter_new lists at rule within =
    subst (λ l. Contains l rule) (sym (get_or-set_same lists at (get_or lists at [] ++ rule ∷ []) [] within)) (Contains-push (get_or lists at []) rule)

pub enter_within : (lists : List (List ℕ)) (at rule n : ℕ) → at < length lists → rule < n → All (All (λ i. i < n)) lists → All (All (λ i. i < n)) (entered lists at rule)
enter_within lists at rule n within less all =
    All-set (All (λ i. i < n)) lists at (get_or lists at [] ++ rule ∷ [])
    (All-push (λ i. i < n) (get_or lists at []) rule (All-get_or (All (λ i. i < n)) lists at [] within all) less) all

pub enter_turn : (lists : List (List ℕ)) (reads : List ℕ) (i rule : ℕ) → i < length reads → get_or reads i 0 < length lists
    → ((r : ℕ) → Contains (take i reads) r → Contains (get_or lists r []) rule) → (r : ℕ) → Contains (take (i + 1) reads) r
    → Contains (get_or (entered lists (get_or reads i 0) rule) r []) rule
enter_turn lists reads i rule inside within before r one =
    elim (Contains-push_cases (take i reads) (get_or reads i 0) r (subst (λ l. Contains l r) (take_more reads i 0 inside) one)) [
      | inl old ↦ enter_kept lists (get_or reads i 0) rule r rule within (before r old)
      | inr same ↦ subst (λ x. Contains (get_or (entered lists (get_or reads i 0) rule) x []) rule) same (enter_new lists (get_or reads i 0) rule within)
    ]

-- one rule more stands in the lists
pub readers_more : (s : System) (i : ℕ) (rule : Rule) (lists new : List (List ℕ)) → slice_get s.rules i ≡ Some rule
    → ((r j : ℕ) → Contains (get_or lists r []) j → Contains (get_or new r []) j) → ((r : ℕ) → Contains (reads_of rule) r → Contains (get_or new r []) i)
    → ReadersAre s i lists → ReadersAre s (i + 1) new
readers_more s i rule lists new at kept added before j other r early at' one = elim (lt_or j i) [
  | inl old ↦ kept r j (before j other r old at' one)
  | inr late ↦
      let same : j ≡ i = omega (arith, early, late) in
      let again : other ≡ rule = some_same other rule (sym at' ∙ ap (slice_get s.rules) same ∙ at) in
      subst (λ x. Contains (get_or new r []) x) (sym same) (added r (subst (λ x. Contains (reads_of x) r) again one))
]

-- the loads
abbrev load_at : ℕ → ℕ → Loading
load_at i sources = record { rule = i; sources = sources }

later : (l : Loading) (ls : List Loading) (x : Loading) → Contains ls x → Contains (l ∷ ls) x
later l ls x one = (suc one.0, omega (arith, one.1), one.2)

shift : (ls : List Loading) (n i sources : ℕ) → Contains ls (load_at (suc n + i) sources) → Contains ls (load_at (n + suc i) sources)
shift ls n i sources one = subst (λ x. Contains ls (load_at x sources)) (omega arith) one

-- one more than its sources, of a load
abbrev source : Rule → ℕ
source (Rule.Has row member) = 0
source (Rule.Flow from mask x) = 0
source (Rule.Shift from mask by x) = 0
source (Rule.Meet first rest x) = 0
source (Rule.Guard test member from x) = 0
source (Rule.Store targets from) = 0
source (Rule.Load sources x) = suc sources

source_at : (rules : List Rule) (i sources to : ℕ) → slice_get rules i ≡ Some (Rule.Load sources to) → elim (slice_get rules i) [ None ↦ 0 | Some rule ↦ source rule ] ≡ suc sources
source_at rules i sources to at = ap (λ o. elim o [ None ↦ 0 | Some rule ↦ source rule ]) at

pub loads_there : (rules : List Rule) (n i sources to : ℕ) → slice_get rules i ≡ Some (Rule.Load sources to) → Contains (loads_from n rules) (load_at (n + i) sources)
loads_there [] n i sources to at = absurd (omega (arith, source_at [] i sources to at))
loads_there (Rule.Has row member ∷ rules) n zero sources to at = absurd (omega (arith, source_at (Rule.Has row member ∷ rules) 0 sources to at))
loads_there (Rule.Has row member ∷ rules) n (suc i) sources to at = shift (loads_from (suc n) rules) n i sources (loads_there rules (suc n) i sources to at)
loads_there (Rule.Flow from mask x ∷ rules) n zero sources to at = absurd (omega (arith, source_at (Rule.Flow from mask x ∷ rules) 0 sources to at))
loads_there (Rule.Flow from mask x ∷ rules) n (suc i) sources to at = shift (loads_from (suc n) rules) n i sources (loads_there rules (suc n) i sources to at)
loads_there (Rule.Shift from mask by x ∷ rules) n zero sources to at = absurd (omega (arith, source_at (Rule.Shift from mask by x ∷ rules) 0 sources to at))
loads_there (Rule.Shift from mask by x ∷ rules) n (suc i) sources to at = shift (loads_from (suc n) rules) n i sources (loads_there rules (suc n) i sources to at)
loads_there (Rule.Meet first rest x ∷ rules) n zero sources to at = absurd (omega (arith, source_at (Rule.Meet first rest x ∷ rules) 0 sources to at))
loads_there (Rule.Meet first rest x ∷ rules) n (suc i) sources to at = shift (loads_from (suc n) rules) n i sources (loads_there rules (suc n) i sources to at)
loads_there (Rule.Guard test member from x ∷ rules) n zero sources to at = absurd (omega (arith, source_at (Rule.Guard test member from x ∷ rules) 0 sources to at))
loads_there (Rule.Guard test member from x ∷ rules) n (suc i) sources to at = shift (loads_from (suc n) rules) n i sources (loads_there rules (suc n) i sources to at)
loads_there (Rule.Store targets from ∷ rules) n zero sources to at = absurd (omega (arith, source_at (Rule.Store targets from ∷ rules) 0 sources to at))
loads_there (Rule.Store targets from ∷ rules) n (suc i) sources to at = shift (loads_from (suc n) rules) n i sources (loads_there rules (suc n) i sources to at)
loads_there (Rule.Load given x ∷ rules) n zero sources to at =
    let same : given ≡ sources = omega (arith, source_at (Rule.Load given x ∷ rules) 0 sources to at) in
    (0, omega arith, ap₂ load_at (omega arith) same)
loads_there (Rule.Load given x ∷ rules) n (suc i) sources to at =
    later (load_at n given) (loads_from (suc n) rules) (load_at (n + suc i) sources)
    (shift (loads_from (suc n) rules) n i sources (loads_there rules (suc n) i sources to at))

pub loads_within : (rules : List Rule) (n count width masks rows : ℕ) → n + length rules ≤ count → All (IsFittingRule width masks rows) rules
    → All (λ l. (l.rule < count) × (l.sources < rows)) (loads_from n rules)
loads_within [] n count width masks rows low fits = λ k d within. absurd (omega (arith, within))
loads_within (Rule.Has row member ∷ rules) n count width masks rows low fits =
    loads_within rules (suc n) count width masks rows (omega (arith, low)) (All-tail (IsFittingRule width masks rows) (Rule.Has row member) rules fits)
loads_within (Rule.Flow from mask x ∷ rules) n count width masks rows low fits =
    loads_within rules (suc n) count width masks rows (omega (arith, low)) (All-tail (IsFittingRule width masks rows) (Rule.Flow from mask x) rules fits)
loads_within (Rule.Shift from mask by x ∷ rules) n count width masks rows low fits =
    loads_within rules (suc n) count width masks rows (omega (arith, low)) (All-tail (IsFittingRule width masks rows) (Rule.Shift from mask by x) rules fits)
loads_within (Rule.Meet first rest x ∷ rules) n count width masks rows low fits =
    loads_within rules (suc n) count width masks rows (omega (arith, low)) (All-tail (IsFittingRule width masks rows) (Rule.Meet first rest x) rules fits)
loads_within (Rule.Guard test member from x ∷ rules) n count width masks rows low fits =
    loads_within rules (suc n) count width masks rows (omega (arith, low)) (All-tail (IsFittingRule width masks rows) (Rule.Guard test member from x) rules fits)
loads_within (Rule.Store targets from ∷ rules) n count width masks rows low fits =
    loads_within rules (suc n) count width masks rows (omega (arith, low)) (All-tail (IsFittingRule width masks rows) (Rule.Store targets from) rules fits)
loads_within (Rule.Load sources x ∷ rules) n count width masks rows low fits =
    All-cons (λ l. (l.rule < count) × (l.sources < rows)) (load_at n sources) (loads_from (suc n) rules)
    (omega (arith, low), (All-head (IsFittingRule width masks rows) (Rule.Load sources x) rules fits).0)
    (loads_within rules (suc n) count width masks rows (omega (arith, low)) (All-tail (IsFittingRule width masks rows) (Rule.Load sources x) rules fits))
