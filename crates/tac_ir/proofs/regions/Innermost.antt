-- The innermost region by the rule of good form is the one by which returns go on.
use Rattle.std.proofs.Common.{◌≡◌, ℕ, zero, suc, ◌+◌, ◌-◌, ◌≤◌, ◌<◌, List, [], ◌∷◌, ◌++◌, true, refl, Some, arith, sym, subst, ⊎_elim}
use Rattle.std.specs.Prelude.{nat_lt, slice_get, Contains}
use Rattle.std.proofs.lemmas.List.Elements.{Contains-append_cases}
use Rattle.tac_ir.specs.declared.code.Code.{Code}
use Rattle.tac_ir.specs.declared.code.Instr.{Instr}
use Rattle.tac_ir.specs.declared.code.Lined.{Lined}
use Rattle.tac_ir.specs.Module.{is_chain}
use Rattle.tac_ir.specs.Regions.{Region, regions_of, regions_by, regions_from, regions_in, IsInside, IsInnermost}
use Rattle.tac_ir.specs.Path.{region_in}
use Rattle.tac_ir.specs.GoodForm.{IsGoodCode}
use Rattle.tac_ir.proofs.regions.Counted.{HasEntry, region_least, region_most}
use Rattle.tac_ir.proofs.regions.Inside.{chain_rest, entry_below, AscendAll, ascend_all}
use Rattle.tac_ir.proofs.regions.Outside.{branch_at, listed_in, fork_of}

-- a region is a branch that ends before its fork's join
record IsBranch (entries : List ℕ) (join : ℕ) (r : Region) : Type 0 where
  pub index : ℕ
  pub entry : slice_get entries index ≡ Some r.entry
  pub before : r.last < join

pub none_listed : (r : Region) → Contains [] r → ⊥
none_listed r (k, within, is) = omega (arith, within)

pub only_listed : (x r : Region) → Contains (x ∷ []) r → x ≡ r
only_listed x r (zero, within, is) = is
only_listed x r (suc k, within, is) = absurd (omega (arith, within))

is_branch : (p join : ℕ) (entries : List ℕ) (r : Region) → is_chain nat_lt (entries ++ join ∷ []) ≡ true → Contains (regions_of p join entries) r → IsBranch entries join r
is_branch p join [] r chain listed = absurd (none_listed r listed)
is_branch p join (e ∷ []) r chain listed =
    let last : Region = record { fork = p; entry = e; last = join - 1 } in
    let same : last ≡ r = only_listed last r listed in
    let below = entry_below (e ∷ []) join 0 e chain refl in
    subst (IsBranch (e ∷ []) join) same (record { index = 0; entry = refl; before = omega (arith, below) })
is_branch p join (e ∷ next ∷ rest) r chain listed =
    let first : Region = record { fork = p; entry = e; last = next - 1 } in
    let below = entry_below (e ∷ next ∷ rest) join 1 next chain refl in
    ⊎_elim
    (λ (here : Contains (first ∷ []) r). subst (IsBranch (e ∷ next ∷ rest) join) (only_listed first r here) (record { index = 0; entry = refl; before = omega (arith, below) }))
    (λ (there : Contains (regions_of p join (next ∷ rest)) r). later (is_branch p join (next ∷ rest) r (chain_rest e (next ∷ (rest ++ join ∷ [])) chain) there))
    (Contains-append_cases (first ∷ []) (regions_of p join (next ∷ rest)) r listed)
  where
    later : IsBranch (next ∷ rest) join r → IsBranch (e ∷ next ∷ rest) join r
    later b = record { index = suc b.index; entry = b.entry; before = b.before }

-- a region of a function has the entry of a branch
pub record HasFork (code : List Lined) (r : Region) : Type 0 where
  pub at : ℕ
  pub index : ℕ
  pub join : ℕ
  pub entry : HasEntry code at index r.entry join
  pub before : r.last < join

by_fork : (q : ℕ) (l : Lined) (code : List Lined) (r : Region) → ((join : ℕ) (entries : List ℕ) → l.instr ≡ Instr.Fork join entries → is_chain nat_lt (entries ++ join ∷ []) ≡ true)
    → (i : Instr) → l.instr ≡ i → Contains (regions_by q i) r → HasFork (l ∷ code) r
by_fork q l code r chains (Instr.Fork join entries) is listed =
    let b = is_branch q join entries r (chains join entries is) listed in
    record { at = 0; index = b.index; join = join; entry = record { line = l; here = refl; entries = entries; fork = is; entry = b.entry }; before = b.before }
by_fork q l code r chains i is listed = absurd (none_listed r listed)

pub has_fork : (q : ℕ) (code : List Lined) (r : Region) → AscendAll code → Contains (regions_from q code) r → HasFork code r
has_fork q [] r chains listed = absurd (none_listed r listed)
has_fork q (l ∷ code) r chains listed =
    ⊎_elim
    (λ (here : Contains (regions_by q l.instr) r). by_fork q l code r (λ join entries. chains 0 l join entries refl) l.instr refl here)
    (λ (there : Contains (regions_from (suc q) code) r). later (has_fork (suc q) code r (λ p. chains (suc p)) there))
    (Contains-append_cases (regions_by q l.instr) (regions_from (suc q) code) r listed)
  where
    later : HasFork code r → HasFork (l ∷ code) r
    later h = record {
      at = suc h.at;
      index = h.index;
      join = h.join;
      entry = record { line = h.entry.line; here = h.entry.here; entries = h.entry.entries; fork = h.entry.fork; entry = h.entry.entry };
      before = h.before;
    }

-- an index between a branch's entry and its fork's join is in a region that begins there or later
pub record HasRegion (code : List Lined) (at e : ℕ) : Type 0 where
  pub region : Region
  pub listed : Contains (regions_in code) region
  pub inside : IsInside region at
  pub from : e ≤ region.entry

pub has_region : (c : Code) (f : ℕ) (code : List Lined) → IsGoodCode c f code → (at p k e join : ℕ) → HasEntry code p k e join → e ≤ at → at < join → HasRegion code at e
has_region c f code good at p k e join h low high =
    let fork = fork_of c f code good p k e join h in
    let b = branch_at p join h.entries at k e fork.ascends h.entry low high in
    let whole : p ≡ 0 + p = omega arith in
    record {
      region = b.region;
      listed = listed_in 0 code p h.line b.region h.here
          (subst (λ n. Contains (regions_by n h.line.instr) b.region) whole (subst (λ i. Contains (regions_by p i) b.region) (sym h.fork) b.listed));
      inside = b.inside;
      from = b.from;
    }

pub innermost_is : (c : Code) (f : ℕ) (code : List Lined) → IsGoodCode c f code → (at : ℕ) (r : Region) → IsInnermost code r at → region_in code at ≡ suc r.entry
innermost_is c f code good at r inner =
    let h = has_fork 0 code r (ascend_all c f code good) inner.region in
    let low = inner.inside.low in
    let high = inner.inside.high in
    let before = h.before in
    let least = region_least code at h.at h.index r.entry h.join h.entry low (omega (arith, high, before)) in
    let most = region_most code at (suc r.entry) (λ p k e join entry from to. below (has_region c f code good at p k e join entry from to)) in
    omega (arith, least, most)
  where
    below : {e : ℕ} → HasRegion code at e → e < suc r.entry
    below g = (let later = inner.latest g.region g.listed g.inside in let from = g.from in omega (arith, later, from))

pub no_region_is : (c : Code) (f : ℕ) (code : List Lined) → IsGoodCode c f code → (at : ℕ) → ((r : Region) → Contains (regions_in code) r → IsInside r at → ⊥) → region_in code at ≡ 0
no_region_is c f code good at none =
    let most = region_most code at 0 (λ p k e join entry from to. absurd (no_such (has_region c f code good at p k e join entry from to))) in
    omega (arith, most)
  where
    no_such : {e : ℕ} → HasRegion code at e → ⊥
    no_such g = none g.region g.listed g.inside
