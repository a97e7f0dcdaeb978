-- The laws of regions.
use Rattle.std.proofs.Common.{◌≡◌, ℕ, zero, suc, ◌-◌, ◌≤◌, List, [], ◌∷◌, get_or, cond, Bool, true, false, refl, Some, arith, ap, subst}
use Rattle.std.specs.Prelude.{nat_eq, slice_get, All, Contains}
use Rattle.std.specs.List.{sum_by}
use Rattle.std.proofs.lemmas.Bool.{eqb-true}
use Rattle.std.proofs.lemmas.Option.{slice_get-get_or}
use Rattle.std.proofs.lemmas.List.Sums.{sum_by-cons}
use Rattle.tac_ir.specs.Path.{region_in}
use Rattle.tac_ir.specs.Regions.{Region, regions_in}
use Rattle.tac_ir.specs.GoodForm.{targets_of}
use Rattle.tac_ir.specs.RegionLaws.{RegionsNest, NumbersTellRegions, NextKeepsRegion, TargetsKeepRegion, JoinKeepsRegion, EntryHasItsOwn, EndClosesOne, FunctionsBeginOutside}
use Rattle.tac_ir.proofs.regions.Counted.{none_if}
use Rattle.tac_ir.proofs.regions.Inside.{ends_at}
use Rattle.tac_ir.proofs.regions.Outside.{start_outside}
use Rattle.tac_ir.proofs.regions.Nested.{bounds_of, counts_in, inner_of, nested, same_inside}
use Rattle.tac_ir.proofs.regions.Leads.{entry_own, next_same, target_same, end_of_one, join_same, own_end}

pub regions_nest : RegionsNest
regions_nest c f code good r other in_r in_other inside = nested c f code good r other in_r in_other inside.low inside.high

pub numbers_tell : NumbersTellRegions
numbers_tell c f code good a b same r listed inside = same_inside c f code good r a b listed same inside

pub next_keeps : NextKeepsRegion
next_keeps c f code good at l found no_fork no_end = next_same c f code good at l found no_fork no_end

-- what holds of each holds of all
all_by : (P : ℕ → Type 0) (xs : List ℕ) → ((j t : ℕ) → slice_get xs j ≡ Some t → P t) → All P xs
all_by P xs each = λ k d within. each k (get_or xs k d) (slice_get-get_or xs k d within)

none_there : (j t : ℕ) → slice_get [] j ≡ Some t → ⊥
none_there j t at = cc

pub targets_keep : TargetsKeepRegion
targets_keep c f code good at l found = all_by (λ t. region_in code t ≡ region_in code at) (targets_of l.instr) (λ j t named.
    target_same c f code good at l found (λ join entries is. none_there j t (subst (λ i. slice_get (targets_of i) j ≡ Some t) is named)) j t named)

pub join_keeps : JoinKeepsRegion
join_keeps c f code good at l join entries found is = join_same c f code good at l found join entries is

pub entry_has_its_own : EntryHasItsOwn
entry_has_its_own c f code good at l join entries found is = all_by (λ entry. region_in code entry ≡ suc entry) entries (λ k e listed.
    entry_own c f code good at k e join (record { line = l; here = found; entries = entries; fork = is; entry = listed }))

-- who is counted is there
ending_of : (at : ℕ) (xs : List Region) → 1 ≤ sum_by (ends_at at) xs → (r : Region) × Contains xs r × (r.last ≡ at)
ending_of at [] some = absurd (omega (arith, some))
ending_of at (x ∷ xs) some = by (nat_eq x.last at) refl (ending_of at xs)
  where
    by : (b : Bool) → nat_eq x.last at ≡ b → (1 ≤ sum_by (ends_at at) xs → (r : Region) × Contains xs r × (r.last ≡ at)) → (r : Region) × Contains (x ∷ xs) r × (r.last ≡ at)
    by true is rest = (x, (zero, omega arith, refl), eqb-true x.last at is)
    by false is rest =
        let none : ends_at at x ≡ 0 = ap (λ b. cond b 1 0) is in
        let sum = sum_by-cons (ends_at at) x xs in
        let later = rest (omega (arith, none, sum, some)) in
        (later.0, (suc later.1.0, omega (arith, later.1.1), later.1.2), later.2)

pub end_closes_one : EndClosesOne
end_closes_one c f code good at stop =
    let one : sum_by (ends_at at) (regions_in code) ≡ 1 = good.regions.ends at stop in
    let found = ending_of at (regions_in code) (omega (arith, one)) in
    let r = found.0 in
    let bounds = bounds_of c f code good r found.1 in
    let some = bounds.some in
    let last = found.2 in
    let counted = counts_in c f code good r at found.1 (record { low = omega (arith, some, last); high = omega (arith, last) }) in
    let inner = inner_of c f code good at (region_in code at - 1) (omega (arith, counted)) in
    let entry = inner.entry in
    let told : region_in code at ≡ suc inner.region.entry = omega (arith, counted, entry) in
    let same = own_end c f code good at stop r inner.region found.1 inner.listed last inner.inside told in (
      r,
      record { region = found.1; last = last; own = subst (λ (z : Region). region_in code at ≡ suc z.entry) same told },
      λ other listed there. end_of_one c f code good other r listed found.1 (omega (arith, there, last)),
    )

pub functions_begin_outside : FunctionsBeginOutside
functions_begin_outside c f code good = none_if code 0 (start_outside c f code good)
