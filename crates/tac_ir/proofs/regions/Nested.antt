-- Regions nest, and each instruction leads to its own region.
use Rattle.std.proofs.Common.{◌≡◌, ℕ, zero, suc, ◌+◌, ◌-◌, ◌≤◌, ◌<◌, ◌⊎◌, List, [], ◌∷◌, ◌++◌, drop, get_or, cond, Bool, true, false, refl, Some, arith, sym, ◌∙◌, ap, subst, ⊎_elim, inl, inr}
use Rattle.std.specs.Prelude.{nat_lt, nat_le, max, slice_get, All, Contains, ◌&&◌, if◌then◌else◌}
use Rattle.std.proofs.lemmas.Bool.{leb-true, leb-false, ltb-true}
use Rattle.std.proofs.lemmas.Option.{slice_get_within, slice_get-get_or}
use Rattle.std.proofs.lemmas.List.Elements.{Contains-append_cases}
use Rattle.tac_ir.specs.declared.code.Code.{Code}
use Rattle.tac_ir.specs.declared.code.Instr.{Instr}
use Rattle.tac_ir.specs.declared.code.Lined.{Lined}
use Rattle.tac_ir.specs.Module.{is_chain}
use Rattle.tac_ir.specs.Path.{entry_before, region_by, region_in}
use Rattle.tac_ir.specs.Regions.{Region, regions_of, regions_by, regions_from, regions_in, IsInside}
use Rattle.tac_ir.specs.GoodForm.{all_targets_of, IsEnd, IsGoodFork, ForksWell, IsGoodCode}
use Rattle.tac_ir.proofs.regions.Counted.{HasEntry, region_least}
use Rattle.tac_ir.proofs.regions.Inside.{chain_rest, chain_above, entry_below, ascend_all}
use Rattle.tac_ir.proofs.regions.Outside.{front_is, entry_after}
use Rattle.tac_ir.proofs.regions.Innermost.{has_region, none_listed, only_listed}

-- Behind a region.

-- a region of this fork: the index behind it is a target of the fork, and an `end` stands before it
pub record IsBehind (p join : ℕ) (entries : List ℕ) (r : Region) : Type 0 where
  pub fork : r.fork ≡ p
  pub index : ℕ
  pub entry : slice_get entries index ≡ Some r.entry
  pub next : slice_get (entries ++ join ∷ []) (suc index) ≡ Some (r.last + 1)

is_behind : (p join : ℕ) (entries : List ℕ) (r : Region) → is_chain nat_lt (entries ++ join ∷ []) ≡ true → Contains (regions_of p join entries) r → IsBehind p join entries r
is_behind p join [] r chain listed = absurd (none_listed r listed)
is_behind p join (e ∷ []) r chain listed =
    let last : Region = record { fork = p; entry = e; last = join - 1 } in
    let same : last ≡ r = only_listed last r listed in
    let below = entry_below (e ∷ []) join 0 e chain refl in
    let back : join ≡ (join - 1) + 1 = omega (arith, below) in
    subst (IsBehind p join (e ∷ [])) same (record { fork = refl; index = 0; entry = refl; next = ap Some back })
is_behind p join (e ∷ next ∷ rest) r chain listed =
    let first : Region = record { fork = p; entry = e; last = next - 1 } in
    let above = chain_above e (next ∷ (rest ++ join ∷ [])) chain 0 next refl in
    let back : next ≡ (next - 1) + 1 = omega (arith, above) in
    ⊎_elim
    (λ (here : Contains (first ∷ []) r). subst (IsBehind p join (e ∷ next ∷ rest)) (only_listed first r here) (record { fork = refl; index = 0; entry = refl; next = ap Some back }))
    (λ (there : Contains (regions_of p join (next ∷ rest)) r). later (is_behind p join (next ∷ rest) r (chain_rest e (next ∷ (rest ++ join ∷ [])) chain) there))
    (Contains-append_cases (first ∷ []) (regions_of p join (next ∷ rest)) r listed)
  where
    later : IsBehind p join (next ∷ rest) r → IsBehind p join (e ∷ next ∷ rest) r
    later b = record { fork = b.fork; index = suc b.index; entry = b.entry; next = b.next }

-- a region of a function, with its fork
pub record HasHead (code : List Lined) (q : ℕ) (r : Region) : Type 0 where
  pub at : ℕ
  pub line : Lined
  pub here : slice_get code at ≡ Some line
  pub join : ℕ
  pub entries : List ℕ
  pub fork : line.instr ≡ Instr.Fork join entries
  pub behind : IsBehind (q + at) join entries r

by_head : (q : ℕ) (l : Lined) (code : List Lined) (r : Region) → ((join : ℕ) (entries : List ℕ) → l.instr ≡ Instr.Fork join entries → is_chain nat_lt (entries ++ join ∷ []) ≡ true)
    → (i : Instr) → l.instr ≡ i → Contains (regions_by q i) r → HasHead (l ∷ code) q r
by_head q l code r chains (Instr.Fork join entries) is listed =
    let whole : q ≡ q + 0 = omega arith in
    record {
      at = 0;
      line = l;
      here = refl;
      join = join;
      entries = entries;
      fork = is;
      behind = subst (λ n. IsBehind n join entries r) whole (is_behind q join entries r (chains join entries is) listed);
    }
by_head q l code r chains i is listed = absurd (none_listed r listed)

has_head : (q : ℕ) (code : List Lined) (r : Region) → ((p : ℕ) (l : Lined) (join : ℕ) (entries : List ℕ) → slice_get code p ≡ Some l → l.instr ≡ Instr.Fork join entries → is_chain nat_lt (entries ++ join ∷ []) ≡ true)
    → Contains (regions_from q code) r → HasHead code q r
has_head q [] r chains listed = absurd (none_listed r listed)
has_head q (l ∷ code) r chains listed =
    ⊎_elim
    (λ (here : Contains (regions_by q l.instr) r). by_head q l code r (λ join entries. chains 0 l join entries refl) l.instr refl here)
    (λ (there : Contains (regions_from (suc q) code) r). later (has_head (suc q) code r (λ p. chains (suc p)) there))
    (Contains-append_cases (regions_by q l.instr) (regions_from (suc q) code) r listed)
  where
    later : HasHead code (suc q) r → HasHead (l ∷ code) q r
    later h =
        let move : suc q + h.at ≡ q + suc h.at = omega arith in
        record {
          at = suc h.at;
          line = h.line;
          here = h.here;
          join = h.join;
          entries = h.entries;
          fork = h.fork;
          behind = subst (λ n. IsBehind n h.join h.entries r) move h.behind;
        }

-- what a region of good code has
pub record HasBounds (code : List Lined) (r : Region) : Type 0 where
  pub line : Lined
  pub here : slice_get code r.fork ≡ Some line
  pub join : ℕ
  pub entries : List ℕ
  pub fork : line.instr ≡ Instr.Fork join entries
  pub index : ℕ
  pub entry : slice_get entries index ≡ Some r.entry
  pub next : slice_get (entries ++ join ∷ []) (suc index) ≡ Some (r.last + 1)
  pub low : r.fork < r.entry
  pub some : r.entry ≤ r.last
  pub before : r.last < join
  pub stop : IsEnd code r.last

chain_at : (x : ℕ) (xs : List ℕ) → is_chain nat_lt (x ∷ xs) ≡ true → (k a b : ℕ) → slice_get (x ∷ xs) k ≡ Some a → slice_get (x ∷ xs) (suc k) ≡ Some b → a < b
chain_at x xs h zero a b first second = (let same : x ≡ a = cc in let above = chain_above x xs h 0 b second in omega (arith, same, above))
chain_at x [] h (suc k) a b first second = cc
chain_at x (y ∷ xs) h (suc k) a b first second = chain_at y xs (chain_rest x (y ∷ xs) h) k a b first second

step_up : (xs : List ℕ) → is_chain nat_lt xs ≡ true → (k a b : ℕ) → slice_get xs k ≡ Some a → slice_get xs (suc k) ≡ Some b → a < b
step_up [] h k a b first second = cc
step_up (x ∷ xs) h k a b first second = chain_at x xs h k a b first second

-- what holds of all of a list but the first
but_first : (P : ℕ → Type 0) (entries : List ℕ) (join first k b : ℕ) → All P (drop 1 entries ++ join ∷ []) → slice_get entries 0 ≡ Some first → slice_get (entries ++ join ∷ []) (suc k) ≡ Some b → P b
but_first P [] join first k b all start at = cc
but_first P (x ∷ xs) join first k b all start at =
    let within = slice_get_within (xs ++ join ∷ []) k b at in
    let got : Some (get_or (xs ++ join ∷ []) k b) ≡ Some b = sym (slice_get-get_or (xs ++ join ∷ []) k b within) ∙ at in
    let same : get_or (xs ++ join ∷ []) k b ≡ b = cc in
    subst P same (all k b within)

last_below : (x : ℕ) (xs : List ℕ) (join k b : ℕ) → is_chain nat_lt (x ∷ (xs ++ join ∷ [])) ≡ true → slice_get (x ∷ (xs ++ join ∷ [])) k ≡ Some b → b ≤ join
last_below x [] join zero b h at = (let same : x ≡ b = cc in let above = chain_above x (join ∷ []) h 0 join refl in omega (arith, same, above))
last_below x [] join (suc zero) b h at = (let same : join ≡ b = cc in omega (arith, same))
last_below x [] join (suc (suc k)) b h at = cc
last_below x (y ∷ xs) join zero b h at =
    let same : x ≡ b = cc in
    let rest = last_below y xs join 0 y (chain_rest x (y ∷ (xs ++ join ∷ [])) h) refl in
    let above = chain_above x (y ∷ (xs ++ join ∷ [])) h 0 y refl in
    omega (arith, same, rest, above)
last_below x (y ∷ xs) join (suc k) b h at = last_below y xs join k b (chain_rest x (y ∷ (xs ++ join ∷ [])) h) at

all_below : (xs : List ℕ) (join k b : ℕ) → is_chain nat_lt (xs ++ join ∷ []) ≡ true → slice_get (xs ++ join ∷ []) k ≡ Some b → b ≤ join
all_below [] join zero b h at = (let same : join ≡ b = cc in omega (arith, same))
all_below [] join (suc k) b h at = cc
all_below (x ∷ xs) join k b h at = last_below x xs join k b h at

pub bounds_of : (c : Code) (f : ℕ) (code : List Lined) → IsGoodCode c f code → (r : Region) → Contains (regions_in code) r → HasBounds code r
bounds_of c f code good r listed =
    let h = has_head 0 code r (ascend_all c f code good) listed in
    let whole : 0 + h.at ≡ h.at = omega arith in
    let at_fork : h.at ≡ r.fork = sym whole ∙ sym h.behind.fork in
    let fork : IsGoodFork code h.at h.join h.entries = subst (ForksWell code h.at) h.fork (good.instrs h.at h.line h.here).fork in
    let after = entry_after h.entries h.join (h.at + 1) h.behind.index r.entry fork.ascends fork.first h.behind.entry in
    let up = step_up (h.entries ++ h.join ∷ []) fork.ascends h.behind.index r.entry (r.last + 1) (front_is h.entries (h.join ∷ []) h.behind.index r.entry h.behind.entry) h.behind.next in
    let stop = but_first (λ behind. IsEnd code (behind - 1)) h.entries h.join (h.at + 1) h.behind.index (r.last + 1) fork.ends fork.first h.behind.next in
    let back : (r.last + 1) - 1 ≡ r.last = omega arith in
    let most = all_below h.entries h.join (suc h.behind.index) (r.last + 1) fork.ascends h.behind.next in
    record {
      line = h.line;
      here = subst (λ n. slice_get code n ≡ Some h.line) at_fork h.here;
      join = h.join;
      entries = h.entries;
      fork = h.fork;
      index = h.behind.index;
      entry = h.behind.entry;
      next = h.behind.next;
      low = omega (arith, after, at_fork);
      some = omega (arith, up);
      before = omega (arith, most);
      stop = subst (IsEnd code) back stop;
    }

target_here : (i : Instr) (join : ℕ) (entries : List ℕ) (j t : ℕ) → i ≡ Instr.Fork join entries → slice_get (entries ++ join ∷ []) j ≡ Some t → slice_get (all_targets_of i) j ≡ Some t
target_here i join entries j t is at = subst (λ z. slice_get (all_targets_of z) j ≡ Some t) (sym is) at

-- one of all that hold
pub one_of : (P : ℕ → Type 0) (xs : List ℕ) (j t : ℕ) → All P xs → slice_get xs j ≡ Some t → P t
one_of P xs j t all at =
    let within = slice_get_within xs j t at in
    let got : Some (get_or xs j t) ≡ Some t = sym (slice_get-get_or xs j t within) ∙ at in
    let same : get_or xs j t ≡ t = cc in
    subst P same (all j t within)

-- Regions nest.

pub nested : (c : Code) (f : ℕ) (code : List Lined) → IsGoodCode c f code → (r b : Region) → Contains (regions_in code) r → Contains (regions_in code) b → r.entry ≤ b.entry → b.entry ≤ r.last → b.last ≤ r.last
nested c f code good r b in_r in_b first within = by (nat_le b.last r.last) refl
  where
    h : HasBounds code r
    h = bounds_of c f code good r in_r

    by : (x : Bool) → nat_le b.last r.last ≡ x → b.last ≤ r.last
    by true is = leb-true b.last r.last is
    by false is =
        let past = leb-false b.last r.last is in
        let low = h.low in
        let out : IsInside b r.fork → ⊥ = λ i. (let l = i.low in omega (arith, l, low, first)) in
        let closed = one_of (λ t. IsInside b t → (t ≡ b.entry) × (r.fork ≡ b.fork)) (all_targets_of h.line.instr) (suc h.index) (r.last + 1)
        (good.regions.closed r.fork h.line b h.here in_b out) (target_here h.line.instr h.join h.entries (suc h.index) (r.last + 1) h.fork h.next) in
        let entered = closed (record { low = omega (arith, within); high = omega (arith, past) }) in
        let same = entered.0 in
        omega (arith, same, within)

-- The region of an index.

-- a region that has the index counts
pub counts_in : (c : Code) (f : ℕ) (code : List Lined) → IsGoodCode c f code → (r : Region) (at : ℕ) → Contains (regions_in code) r → IsInside r at → r.entry < region_in code at
counts_in c f code good r at listed inside =
    let h = bounds_of c f code good r listed in
    let low = inside.low in
    let high = inside.high in
    let before = h.before in
    region_least code at r.fork h.index r.entry h.join (record { line = h.line; here = h.here; entries = h.entries; fork = h.fork; entry = h.entry }) low (omega (arith, high, before))

-- the branch that tells the number of an index
pub record IsTold (code : List Lined) (at n : ℕ) : Type 0 where
  pub fork : ℕ
  pub index : ℕ
  pub entry : ℕ
  pub join : ℕ
  pub has : HasEntry code fork index entry join
  pub low : entry ≤ at
  pub high : at < join
  pub told : n ≡ suc entry

-- among the entries of one fork
record IsToldBy (entries : List ℕ) (join at n : ℕ) : Type 0 where
  pub index : ℕ
  pub entry : ℕ
  pub has : slice_get entries index ≡ Some entry
  pub low : entry ≤ at
  pub high : at < join
  pub told : n ≡ suc entry

abbrev entry_if : Bool → ℕ → ℕ
entry_if b e = cond b (suc e) 0

max_is : (a b n : ℕ) → max a b ≡ suc n → (a ≡ suc n) ⊎ (b ≡ suc n)
max_is a b n is = by (nat_le a b) refl
  where
    by : (x : Bool) → nat_le a b ≡ x → (a ≡ suc n) ⊎ (b ≡ suc n)
    by true le = inr (let l = leb-true a b le in omega (arith, l, is))
    by false gt = inl (let l = leb-false a b gt in omega (arith, l, is))

both_true : (a b : Bool) (e n : ℕ) → (if (a && b) then suc e else 0) ≡ suc n → (a ≡ true) × (b ≡ true) × (e ≡ n)
both_true true true e n is = (refl, refl, omega (arith, is))
both_true true false e n is = absurd (omega (arith, is))
both_true false b e n is = absurd (omega (arith, is))

told_by : (entries : List ℕ) (join at n : ℕ) → entry_before entries join at ≡ suc n → IsToldBy entries join at (suc n)
told_by [] join at n is = absurd (omega (arith, is))
told_by (e ∷ entries) join at n is =
    ⊎_elim
    (λ (here : (if (nat_le e at && nat_lt at join) then suc e else 0) ≡ suc n).
    let t = both_true (nat_le e at) (nat_lt at join) e n here in
    record { index = 0; entry = e; has = refl; low = leb-true e at t.0; high = ltb-true at join t.1; told = ap suc (sym t.2) })
    (λ (there : entry_before entries join at ≡ suc n). later (told_by entries join at n there))
    (max_is (if (nat_le e at && nat_lt at join) then suc e else 0) (entry_before entries join at) n is)
  where
    later : IsToldBy entries join at (suc n) → IsToldBy (e ∷ entries) join at (suc n)
    later t = record { index = suc t.index; entry = t.entry; has = t.has; low = t.low; high = t.high; told = t.told }

told_at : (l : Lined) (code : List Lined) (at n : ℕ) (i : Instr) → l.instr ≡ i → region_by i at ≡ suc n → IsTold (l ∷ code) at (suc n)
told_at l code at n (Instr.Fork join entries) fork is =
    let t = told_by entries join at n is in
    record { fork = 0; index = t.index; entry = t.entry; join = join; has = record { line = l; here = refl; entries = entries; fork = fork; entry = t.has }; low = t.low; high = t.high; told = t.told }
told_at l code at n i fork is = absurd (omega (arith, is))

pub told : (code : List Lined) (at n : ℕ) → region_in code at ≡ suc n → IsTold code at (suc n)
told [] at n is = absurd (omega (arith, is))
told (l ∷ code) at n is =
    ⊎_elim (λ (here : region_by l.instr at ≡ suc n). told_at l code at n l.instr refl here) (λ (there : region_in code at ≡ suc n). later (told code at n there))
    (max_is (region_by l.instr at) (region_in code at) n is)
  where
    later : IsTold code at (suc n) → IsTold (l ∷ code) at (suc n)
    later t = record {
      fork = suc t.fork;
      index = t.index;
      entry = t.entry;
      join = t.join;
      has = record { line = t.has.line; here = t.has.here; entries = t.has.entries; fork = t.has.fork; entry = t.has.entry };
      low = t.low;
      high = t.high;
      told = t.told;
    }

-- the innermost region of an index in some region
pub record HasInner (code : List Lined) (at e : ℕ) : Type 0 where
  pub region : Region
  pub listed : Contains (regions_in code) region
  pub inside : IsInside region at
  pub entry : region.entry ≡ e

pub inner_of : (c : Code) (f : ℕ) (code : List Lined) → IsGoodCode c f code → (at e : ℕ) → region_in code at ≡ suc e → HasInner code at e
inner_of c f code good at e is =
    let t = told code at e is in
    let b = has_region c f code good at t.fork t.index t.entry t.join t.has t.low t.high in
    let counted = counts_in c f code good b.region at b.listed b.inside in
    let same = t.told in
    let from = b.from in
    record { region = b.region; listed = b.listed; inside = b.inside; entry = omega (arith, counted, is, same, from) }

-- Indexes with the same number stand in the same regions.
pub same_inside : (c : Code) (f : ℕ) (code : List Lined) → IsGoodCode c f code → (r : Region) (a b : ℕ) → Contains (regions_in code) r → region_in code a ≡ region_in code b → IsInside r a → IsInside r b
same_inside c f code good r a b listed same inside =
    let counted = counts_in c f code good r a listed inside in
    let some : region_in code a ≡ suc (region_in code a - 1) = omega (arith, counted) in
    let x = inner_of c f code good a (region_in code a - 1) some in
    let y = inner_of c f code good b (region_in code a - 1) (sym same ∙ some) in
    let ex = x.entry in
    let ey = y.entry in
    let xl = x.inside.low in
    let xh = x.inside.high in
    let yl = y.inside.low in
    let yh = y.inside.high in
    let up = inside.high in
    let yb = bounds_of c f code good y.region y.listed in
    let xb = bounds_of c f code good x.region x.listed in
    let xs = xb.some in
    let one = nested c f code good x.region y.region x.listed y.listed (omega (arith, ex, ey)) (omega (arith, ex, ey, xs)) in
    let two = nested c f code good r x.region listed x.listed (omega (arith, ex, counted, some)) (omega (arith, xl, up)) in
    record { low = omega (arith, counted, some, ey, yl); high = omega (arith, yh, one, two) }
