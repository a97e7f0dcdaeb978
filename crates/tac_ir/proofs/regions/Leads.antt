-- Where an instruction leads stands in the region in which it stands.
use Rattle.std.proofs.Common.{◌≡◌, ℕ, zero, suc, ◌+◌, ◌-◌, ◌≤◌, ◌<◌, List, [], ◌∷◌, ◌++◌, drop, length, cond, Bool, true, false, refl, Some, arith, sym, ◌∙◌, ap, subst}
use Rattle.std.specs.Prelude.{nat_le, slice_get, All, Contains}
use Rattle.std.specs.List.{sum_by}
use Rattle.std.proofs.lemmas.Bool.{leb-true, leb-false, eq-eqb}
use Rattle.std.proofs.lemmas.List.Sums.{sum_by-cons}
use Rattle.tac_ir.specs.declared.code.Code.{Code}
use Rattle.tac_ir.specs.declared.code.Instr.{Instr}
use Rattle.tac_ir.specs.declared.code.Lined.{Lined}
use Rattle.tac_ir.specs.Path.{region_in}
use Rattle.tac_ir.specs.Regions.{Region, regions_in, IsInside, IsInnermost}
use Rattle.tac_ir.specs.GoodForm.{targets_of, fork_targets_of, all_targets_of, IsEnd, IsGoodFork, ForksWell, IsGoodCode}
use Rattle.tac_ir.proofs.regions.Counted.{HasEntry, region_least, region_most}
use Rattle.tac_ir.proofs.regions.Inside.{entry_below, ends_at}
use Rattle.tac_ir.proofs.regions.Outside.{fork_of, same_line, later_one, front_is, entry_after}
use Rattle.tac_ir.proofs.regions.Innermost.{has_region}
use Rattle.tac_ir.proofs.regions.Nested.{HasBounds, bounds_of, counts_in, HasInner, inner_of, nested, one_of}

number_if_less : (a b : ℕ) → ((n : ℕ) → a ≡ suc n → n < b) → a ≤ b
number_if_less zero b less = omega arith
number_if_less (suc n) b less = less n refl

-- An entry has its own branch's number.
pub entry_own : (c : Code) (f : ℕ) (code : List Lined) → IsGoodCode c f code → (p k e join : ℕ) → HasEntry code p k e join → region_in code e ≡ suc e
entry_own c f code good p k e join h =
    let fork = fork_of c f code good p k e join h in
    let below = entry_below h.entries join k e fork.ascends h.entry in
    let least = region_least code e p k e join h (omega arith) below in
    let most = region_most code e (suc e) (λ p2 k2 e2 join2 h2 low high. omega (arith, low)) in
    omega (arith, least, most)

-- The index behind an instruction that is no fork and no `end`.

last_of : (P : ℕ → Type 0) (entries : List ℕ) (join first : ℕ) → All P (drop 1 entries ++ join ∷ []) → slice_get entries 0 ≡ Some first → P join
last_of P [] join first all start = cc
last_of P (x ∷ xs) join first all start = one_of P (xs ++ join ∷ []) (length xs) join all (at_last xs join)
  where
    at_last : (xs : List ℕ) (join : ℕ) → slice_get (xs ++ join ∷ []) (length xs) ≡ Some join
    at_last [] join = refl
    at_last (x ∷ xs) join = at_last xs join

pub next_same : (c : Code) (f : ℕ) (code : List Lined) → IsGoodCode c f code → (at : ℕ) (l : Lined) → slice_get code at ≡ Some l
    → ((join : ℕ) (entries : List ℕ) → l.instr ≡ Instr.Fork join entries → ⊥) → (l.instr ≡ Instr.End → ⊥) → region_in code (at + 1) ≡ region_in code at
next_same c f code good at l found no_fork no_end =
    let most = region_most code (at + 1) (region_in code at) (λ p k e join h low high. up p k e join h low high (nat_le e at) refl) in
    let least = region_most code at (region_in code (at + 1)) (λ p k e join h low high. down p k e join h low high (nat_le join (at + 1)) refl) in
    omega (arith, most, least)
  where
    no_stop : (at2 : ℕ) → at2 ≡ at → IsEnd code at2 → ⊥
    no_stop at2 same stop = no_end (ap (λ (z : Lined). z.instr) (same_line code at at2 l stop.0 found stop.1 same) ∙ stop.2)

    is_next : (p k e join : ℕ) (h : HasEntry code p k e join) → e ≡ at + 1 → (k2 : ℕ) → slice_get h.entries k2 ≡ Some e → ⊥
    is_next p k e join h same zero entry =
        let fork = fork_of c f code good p k e join h in
        let starts : Some (p + 1) ≡ Some e = sym fork.first ∙ entry in
        let first : p + 1 ≡ e = cc in
        let one = same_line code at p l h.line found h.here (omega (arith, first, same)) in
        no_fork join h.entries (ap (λ (z : Lined). z.instr) one ∙ h.fork)
    is_next p k e join h same (suc k2) entry =
        let fork = fork_of c f code good p k e join h in
        let stop = later_one (λ behind. IsEnd code (behind - 1)) h.entries (join ∷ []) k2 e fork.ends entry in
        no_stop (e - 1) (omega (arith, same)) stop

    up : (p k e join : ℕ) (h : HasEntry code p k e join) → e ≤ at + 1 → at + 1 < join → (b : Bool) → nat_le e at ≡ b → e < region_in code at
    up p k e join h low high true is = region_least code at p k e join h (leb-true e at is) (omega (arith, high))
    up p k e join h low high false is = let above = leb-false e at is in absurd (is_next p k e join h (omega (arith, above, low)) k h.entry)

    down : (p k e join : ℕ) (h : HasEntry code p k e join) → e ≤ at → at < join → (b : Bool) → nat_le join (at + 1) ≡ b → e < region_in code (at + 1)
    down p k e join h low high false is = region_least code (at + 1) p k e join h (omega (arith, low)) (leb-false join (at + 1) is)
    down p k e join h low high true is =
        let fork = fork_of c f code good p k e join h in
        let under = leb-true join (at + 1) is in
        absurd (no_stop (join - 1) (omega (arith, under, high)) (last_of (λ behind. IsEnd code (behind - 1)) h.entries join (p + 1) fork.ends fork.first))

-- A target, but for the entries of a fork, is in no region that its instruction is not in.
pub target_most : (c : Code) (f : ℕ) (code : List Lined) → IsGoodCode c f code → (at : ℕ) (l : Lined) → slice_get code at ≡ Some l
    → (j t : ℕ) → slice_get (all_targets_of l.instr) j ≡ Some t → ((join : ℕ) (entries : List ℕ) → l.instr ≡ Instr.Fork join entries → t < join → ⊥) → region_in code t ≤ region_in code at
target_most c f code good at l found j t named not_entry =
    number_if_less (region_in code t) (region_in code at) (λ n is. by n (inner_of c f code good t n is))
  where
    is_in : (n : ℕ) (i : HasInner code t n) → IsInside i.region at → n < region_in code at
    is_in n i inside = let counted = counts_in c f code good i.region at i.listed inside in let e = i.entry in omega (arith, counted, e)

    not_in : (n : ℕ) (i : HasInner code t n) → (IsInside i.region at → ⊥) → n < region_in code at
    not_in n i out =
        let entered = one_of (λ z. IsInside i.region z → (z ≡ i.region.entry) × (at ≡ i.region.fork)) (all_targets_of l.instr) j t (good.regions.closed at l i.region found i.listed out) named i.inside in
        let h = bounds_of c f code good i.region i.listed in
        let one = same_line code at i.region.fork l h.line found h.here (sym entered.1) in
        let some = h.some in
        let before = h.before in
        let here = entered.0 in
        absurd (not_entry h.join h.entries (ap (λ (z : Lined). z.instr) one ∙ h.fork) (omega (arith, some, before, here)))

    by : (n : ℕ) → HasInner code t n → n < region_in code at
    by n i = low (nat_le i.region.entry at) refl (nat_le at i.region.last) refl
      where
        low : (a : Bool) → nat_le i.region.entry at ≡ a → (b : Bool) → nat_le at i.region.last ≡ b → n < region_in code at
        low true l true h = is_in n i (record { low = leb-true i.region.entry at l; high = leb-true at i.region.last h })
        low true l false h = not_in n i (λ z. let up = z.high in let past = leb-false at i.region.last h in omega (arith, up, past))
        low false l b h = not_in n i (λ z. let under = z.low in let past = leb-false i.region.entry at l in omega (arith, under, past))

-- what jumps and tests name
pub target_same : (c : Code) (f : ℕ) (code : List Lined) → IsGoodCode c f code → (at : ℕ) (l : Lined) → slice_get code at ≡ Some l
    → ((join : ℕ) (entries : List ℕ) → l.instr ≡ Instr.Fork join entries → ⊥) → (j t : ℕ) → slice_get (targets_of l.instr) j ≡ Some t → region_in code t ≡ region_in code at
target_same c f code good at l found no_fork j t named =
    let most = target_most c f code good at l found j t (front_is (targets_of l.instr) (fork_targets_of l.instr) j t named) (λ join entries fork below. no_fork join entries fork) in
    let least = number_if_less (region_in code at) (region_in code t) (λ n is. by n (inner_of c f code good at n is) is) in
    omega (arith, most, least)
  where
    by : (n : ℕ) → HasInner code at n → region_in code at ≡ suc n → n < region_in code t
    by n i is =
        let e = i.entry in
        let inner : IsInnermost code i.region at = record {
          region = i.listed;
          inside = i.inside;
          latest = λ other listed inside. (let counted = counts_in c f code good other at listed inside in omega (arith, counted, is, e));
        } in
        let there = one_of (IsInside i.region) (targets_of l.instr) j t (good.regions.stays at l i.region found inner) named in
        let counted = counts_in c f code good i.region t i.listed there in
        omega (arith, counted, e)

-- Ends.

ends_here : (at : ℕ) (r : Region) → r.last ≡ at → ends_at at r ≡ 1
ends_here at r is = ap (λ b. cond b 1 0) (eq-eqb r.last at is)

some_ends : (at : ℕ) (xs : List Region) (r : Region) → r.last ≡ at → Contains xs r → 1 ≤ sum_by (ends_at at) xs
some_ends at [] r is (k, within, same) = absurd (omega (arith, within))
some_ends at (x ∷ xs) r is (zero, within, same) =
    let here : x.last ≡ at = ap (λ (z : Region). z.last) same ∙ is in
    let one = ends_here at x here in
    let sum = sum_by-cons (ends_at at) x xs in
    omega (arith, one, sum)
some_ends at (x ∷ xs) r is (suc k, within, same) =
    let rest = some_ends at xs r is (k, omega (arith, within), same) in
    let sum = sum_by-cons (ends_at at) x xs in
    omega (arith, rest, sum)

one_ends : (at : ℕ) (xs : List Region) (r b : Region) → sum_by (ends_at at) xs ≡ 1 → r.last ≡ at → b.last ≡ at → Contains xs r → Contains xs b → r ≡ b
one_ends at [] r b one ir ib (k, within, same) there = absurd (omega (arith, within))
one_ends at (x ∷ xs) r b one ir ib (zero, within, same) (zero, within2, same2) = sym same ∙ same2
one_ends at (x ∷ xs) r b one ir ib (zero, within, same) (suc k, within2, same2) =
    let here = ends_here at x (ap (λ (z : Region). z.last) same ∙ ir) in
    let rest = some_ends at xs b ib (k, omega (arith, within2), same2) in
    let sum = sum_by-cons (ends_at at) x xs in
    absurd (omega (arith, here, rest, sum, one))
one_ends at (x ∷ xs) r b one ir ib (suc k, within, same) (zero, within2, same2) =
    let here = ends_here at x (ap (λ (z : Region). z.last) same2 ∙ ib) in
    let rest = some_ends at xs r ir (k, omega (arith, within), same) in
    let sum = sum_by-cons (ends_at at) x xs in
    absurd (omega (arith, here, rest, sum, one))
one_ends at (x ∷ xs) r b one ir ib (suc k, within, same) (suc k2, within2, same2) =
    one_ends at xs r b (fewer (ends_at at x) refl) ir ib (k, omega (arith, within), same) (k2, omega (arith, within2), same2)
  where
    fewer : (n : ℕ) → ends_at at x ≡ n → sum_by (ends_at at) xs ≡ 1
    fewer n is =
        let rest = some_ends at xs r ir (k, omega (arith, within), same) in
        let sum = sum_by-cons (ends_at at) x xs in
        omega (arith, rest, sum, one)

-- an `end` is the last of one region
pub end_of_one : (c : Code) (f : ℕ) (code : List Lined) → IsGoodCode c f code → (r b : Region) → Contains (regions_in code) r → Contains (regions_in code) b → r.last ≡ b.last → r ≡ b
end_of_one c f code good r b in_r in_b same =
    let h = bounds_of c f code good b in_b in
    let one : sum_by (ends_at b.last) (regions_in code) ≡ 1 = good.regions.ends b.last h.stop in
    one_ends b.last (regions_in code) r b one same refl in_r in_b

-- Joins.

-- the join of a fork in a region is in that region
pub join_inside : (c : Code) (f : ℕ) (code : List Lined) → IsGoodCode c f code → (at : ℕ) (l : Lined) → slice_get code at ≡ Some l → (join : ℕ) (entries : List ℕ) → l.instr ≡ Instr.Fork join entries
    → (r : Region) → Contains (regions_in code) r → IsInside r at → IsInside r join
join_inside c f code good at l found join entries is r listed inside = record { low = omega (arith, under, after); high = by (nat_le join r.last) refl }
  where
    fork : IsGoodFork code at join entries
    fork = subst (ForksWell code at) is (good.instrs at l found).fork

    head : HasEntry code at 0 (at + 1) join
    head = record { line = l; here = found; entries = entries; fork = is; entry = fork.first }

    under : r.entry ≤ at
    under = inside.low

    after : at + 1 < join
    after = entry_below entries join 0 (at + 1) fork.ascends fork.first

    bounds : HasBounds code r
    bounds = bounds_of c f code good r listed

    past : r.last ≡ at → ⊥
    past same =
        let stop = bounds.stop in
        let one = same_line code at r.last l stop.0 found stop.1 same in
        let clash : Instr.Fork join entries ≡ Instr.End = sym is ∙ ap (λ (z : Lined). z.instr) one ∙ stop.2 in cc

    by : (b : Bool) → nat_le join r.last ≡ b → join ≤ r.last
    by true le = leb-true join r.last le
    by false gt =
        let above = leb-false join r.last gt in
        let high = inside.high in
        let b = has_region c f code good r.last at 0 (at + 1) join head (omega (arith, high, past)) above in
        let from = b.from in
        let up = b.inside.high in
        let low = b.inside.low in
        let short = nested c f code good r b.region listed b.listed (omega (arith, under, from)) low in
        let same = end_of_one c f code good r b.region listed b.listed (omega (arith, short, up)) in
        let entries_same : r.entry ≡ b.region.entry = ap (λ (z : Region). z.entry) same in
        absurd (omega (arith, entries_same, under, from))

join_at : (xs : List ℕ) (join : ℕ) → slice_get (xs ++ join ∷ []) (length xs) ≡ Some join
join_at [] join = refl
join_at (x ∷ xs) join = join_at xs join

abbrev join_of : Instr → ℕ
join_of (Instr.Fork join entries) = join
join_of i = 0

pub join_same : (c : Code) (f : ℕ) (code : List Lined) → IsGoodCode c f code → (at : ℕ) (l : Lined) → slice_get code at ≡ Some l → (join : ℕ) (entries : List ℕ) → l.instr ≡ Instr.Fork join entries
    → region_in code join ≡ region_in code at
join_same c f code good at l found join entries is =
    let most = target_most c f code good at l found (length entries) join (subst (λ i. slice_get (all_targets_of i) (length entries) ≡ Some join) (sym is) (join_at entries join))
    (λ other others fork below. let same : join ≡ other = ap join_of (sym is ∙ fork) in omega (arith, same, below)) in
    let least = number_if_less (region_in code at) (region_in code join) (λ n told. by n (inner_of c f code good at n told)) in
    omega (arith, most, least)
  where
    by : (n : ℕ) → HasInner code at n → n < region_in code join
    by n i =
        let there = join_inside c f code good at l found join entries is i.region i.listed i.inside in
        let counted = counts_in c f code good i.region join i.listed there in
        let e = i.entry in
        omega (arith, counted, e)

-- the branches of a fork in a region are in that region
pub entry_inside : (c : Code) (f : ℕ) (code : List Lined) → IsGoodCode c f code → (p k e join : ℕ) → HasEntry code p k e join → (r : Region) → Contains (regions_in code) r → IsInside r p → IsInside r e
entry_inside c f code good p k e join h r listed inside =
    let fork = fork_of c f code good p k e join h in
    let there = join_inside c f code good p h.line h.here join h.entries h.fork r listed inside in
    let after = entry_after h.entries join (p + 1) k e fork.ascends fork.first h.entry in
    let below = entry_below h.entries join k e fork.ascends h.entry in
    let under = inside.low in
    let up = there.high in
    record { low = omega (arith, under, after); high = omega (arith, up, below) }

-- a thread that ends in its branch ends at the branch's own `end`
pub own_end : (c : Code) (f : ℕ) (code : List Lined) → IsGoodCode c f code → (at : ℕ) → IsEnd code at → (r b : Region) → Contains (regions_in code) r → Contains (regions_in code) b
    → r.last ≡ at → IsInside b at → region_in code at ≡ suc b.entry → b ≡ r
own_end c f code good at stop r b in_r in_b last inside told =
    let h = bounds_of c f code good r in_r in
    let some = h.some in
    let counted = counts_in c f code good r at in_r (record { low = omega (arith, some, last); high = omega (arith, last) }) in
    let low = inside.low in
    let high = inside.high in
    let short = nested c f code good r b in_r in_b (omega (arith, counted, told)) (omega (arith, low, last)) in
    end_of_one c f code good b r in_b in_r (omega (arith, short, high, last))
