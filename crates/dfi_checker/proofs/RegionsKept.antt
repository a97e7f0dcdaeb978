-- Good code keeps to the regions of its forks, which are all well made.
use Rattle.std.proofs.Common.{◌≡◌, ℕ, suc, ◌+◌, ◌-◌, ◌<◌, Some, List, [], ◌∷◌, ◌++◌, ⊎_elim, length, refl, sym, ap, subst, arith}
use Rattle.std.specs.Prelude.{slice_get, All, Contains}
use Rattle.std.proofs.lemmas.List.Elements.{Contains-append_cases, Contains-push, All-contains}
use Rattle.tac_ir.specs.declared.code.Code.{Code}
use Rattle.tac_ir.specs.declared.code.Instr.{Instr}
use Rattle.tac_ir.specs.declared.code.Lined.{Lined}
use Rattle.tac_ir.specs.Regions.{Region, regions_of, regions_by, regions_from, regions_in}
use Rattle.tac_ir.specs.GoodForm.{IsGoodCode, IsGoodFork, ForksWell, all_targets_of}
use Rattle.tac_ir.proofs.regions.Outside.{listed_in}
use Rattle.tac_ir.proofs.regions.Innermost.{none_listed, only_listed}
use Rattle.tac_ir.proofs.regions.Laws.{end_closes_one}
use Rattle.dfi_checker.specs.Regions as own

-- the fork of a region among these lines, of which the first stands at an index
record IsFound (first : ℕ) (code : List Lined) (r : Region) : Type 0 where
  at : ℕ
  line : Lined
  here : slice_get code at ≡ Some line
  listed : Contains (regions_by (first + at) line.instr) r

found : (first : ℕ) (code : List Lined) (r : Region) → Contains (regions_from first code) r → IsFound first code r
found first [] r listed = absurd (none_listed r listed)
found first (l ∷ code) r listed =
    let same : first ≡ first + 0 = omega arith in
    ⊎_elim
    (λ (here : Contains (regions_by first l.instr) r). record { at = 0; line = l; here = refl; listed = subst (λ n. Contains (regions_by n l.instr) r) same here })
    (λ (there : Contains (regions_from (suc first) code) r). later (found (suc first) code r there))
    (Contains-append_cases (regions_by first l.instr) (regions_from (suc first) code) r listed)
  where
    later : IsFound (suc first) code r → IsFound first (l ∷ code) r
    later h =
        let move : suc first + h.at ≡ first + suc h.at = omega arith in
        record { at = suc h.at; line = h.line; here = h.here; listed = subst (λ n. Contains (regions_by n h.line.instr) r) move h.listed }

fork_is : (fork join : ℕ) (entries : List ℕ) (r : Region) → Contains (regions_of fork join entries) r → r.fork ≡ fork
fork_is fork join [] r listed = absurd (none_listed r listed)
fork_is fork join (e ∷ []) r listed = sym (ap (λ (z : Region). z.fork) (only_listed (record { fork = fork; entry = e; last = join - 1 }) r listed))
fork_is fork join (e ∷ next ∷ entries) r listed =
    let first : Region = record { fork = fork; entry = e; last = next - 1 } in
    ⊎_elim
    (λ (here : Contains (first ∷ []) r). sym (ap (λ (z : Region). z.fork) (only_listed first r here)))
    (λ (there : Contains (regions_of fork join (next ∷ entries)) r). fork_is fork join (next ∷ entries) r there)
    (Contains-append_cases (first ∷ []) (regions_of fork join (next ∷ entries)) r listed)

module _ (c : Code) (f : ℕ) (code : List Lined) (good : IsGoodCode c f code) where
  of_fork : (r : Region) (at : ℕ) (line : Lined) → slice_get code at ≡ Some line → (i : Instr) → line.instr ≡ i → Contains (regions_by at i) r → own.IsRegion code r
  of_fork r at line here (Instr.Fork join entries) is listed =
      let instr = good.instrs at line here in
      let same : at ≡ r.fork = sym (fork_is at join entries r listed) in
      let targets = subst (λ i. All (λ t. t < length code) (all_targets_of i)) is instr.targets in
      record {
        join = join;
        entries = entries;
        fork = line;
        at = subst (λ n. slice_get code n ≡ Some line) same here;
        is = is;
        good = subst (λ n. IsGoodFork code n join entries) same (subst (ForksWell code at) is instr.fork);
        within = All-contains (λ t. t < length code) (entries ++ join ∷ []) join targets (Contains-push entries join);
        branch = subst (λ n. Contains (regions_of n join entries) r) same listed;
      }
  of_fork r at line here i is listed = absurd (none_listed r listed)

  is_region : (r : Region) → Contains (regions_in code) r → own.IsRegion code r
  is_region r listed =
      let h = found 0 code r listed in
      let same : 0 + h.at ≡ h.at = omega arith in
      of_fork r h.at h.line h.here h.line.instr refl (subst (λ n. Contains (regions_by n h.line.instr) r) same h.listed)

  region_is : (r : Region) → own.IsRegion code r → Contains (regions_in code) r
  region_is r is =
      let same : r.fork ≡ 0 + r.fork = omega arith in
      listed_in 0 code r.fork is.fork r is.at (subst (λ n. Contains (regions_by n is.fork.instr) r) same (subst (λ i. Contains (regions_by r.fork i) r) (sym is.is) is.branch))

  pub keeps : (at : ℕ) (l : Lined) → slice_get code at ≡ Some l → own.KeepsToRegions code at l.instr
  keeps at l here = record {
    ends = λ stop.
        let one = end_closes_one c f code good at stop in
        record { region = one.0; is = is_region one.0 one.1.region; last = one.1.last; only = λ other is last. one.2 other (region_is other is) last };
    stays = λ r inner. good.regions.stays at l r here (record {
      region = region_is r inner.region;
      inside = inner.inside;
      latest = λ other listed inside. inner.latest other (is_region other listed) inside;
    });
    closed = λ r is outside. good.regions.closed at l r here (region_is r is) outside;
    no_return = λ r is inside. good.regions.no_return at l r here (region_is r is) inside;
  }
