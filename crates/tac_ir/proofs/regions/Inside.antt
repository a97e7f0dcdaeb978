-- What stands in no branch leads to what stands in none.
use Rattle.std.proofs.Common.{◌≡◌, ℕ, zero, suc, ◌-◌, ◌≤◌, ◌<◌, List, [], ◌∷◌, ◌++◌, length, cond, Bool, true, false, refl, Some, arith, ◌∙◌, ap, subst}
use Rattle.std.specs.Prelude.{nat_lt, nat_eq, ◌&&◌, slice_get}
use Rattle.std.specs.List.{sum_by}
use Rattle.std.proofs.lemmas.Bool.{ltb-true, ne_eqb}
use Rattle.std.proofs.lemmas.List.Sums.{sum_by-cons, sum_by-append}
use Rattle.tac_ir.specs.declared.code.Code.{Code}
use Rattle.tac_ir.specs.declared.code.Instr.{Instr}
use Rattle.tac_ir.specs.declared.code.Lined.{Lined}
use Rattle.tac_ir.specs.Module.{is_chain}
use Rattle.tac_ir.specs.Regions.{Region, regions_of, regions_by, regions_from, regions_in}
use Rattle.tac_ir.specs.GoodForm.{IsGoodFork, ForksWell, IsGoodCode}
use Rattle.tac_ir.proofs.regions.Counted.{IsOutside}

-- Chains.

first_true : (a b : Bool) → (a && b) ≡ true → a ≡ true
first_true true b h = refl
first_true false b h = h

second_true : (a b : Bool) → (a && b) ≡ true → b ≡ true
second_true true b h = h
second_true false b h = cc

pub chain_rest : (x : ℕ) (xs : List ℕ) → is_chain nat_lt (x ∷ xs) ≡ true → is_chain nat_lt xs ≡ true
chain_rest x [] h = refl
chain_rest x (y ∷ xs) h = second_true (nat_lt x y) (is_chain nat_lt (y ∷ xs)) h

pub chain_above : (x : ℕ) (xs : List ℕ) → is_chain nat_lt (x ∷ xs) ≡ true → (k e : ℕ) → slice_get xs k ≡ Some e → x < e
chain_above x [] h k e at = cc
chain_above x (y ∷ xs) h zero e at =
    let same : y ≡ e = cc in
    let low = ltb-true x y (first_true (nat_lt x y) (is_chain nat_lt (y ∷ xs)) h) in
    omega (arith, same, low)
chain_above x (y ∷ xs) h (suc k) e at =
    let low = ltb-true x y (first_true (nat_lt x y) (is_chain nat_lt (y ∷ xs)) h) in
    let rest = chain_above y xs (chain_rest x (y ∷ xs) h) k e at in
    omega (arith, low, rest)

last_is : (xs : List ℕ) (x : ℕ) → slice_get (xs ++ x ∷ []) (length xs) ≡ Some x
last_is [] x = refl
last_is (y ∷ xs) x = last_is xs x

-- entries are before their join
pub entry_below : (entries : List ℕ) (join k e : ℕ) → is_chain nat_lt (entries ++ join ∷ []) ≡ true → slice_get entries k ≡ Some e → e < join
entry_below [] join k e h at = cc
entry_below (x ∷ entries) join zero e h at =
    let same : x ≡ e = cc in
    let below = chain_above x (entries ++ join ∷ []) h (length entries) join (last_is entries join) in
    omega (arith, same, below)
entry_below (x ∷ entries) join (suc k) e h at = entry_below entries join k e (chain_rest x (entries ++ join ∷ []) h) at

-- An `end` is in a branch.

-- 1 for a region that ends there
abbrev pub ends_at : ℕ → Region → ℕ
ends_at at r = cond (nat_eq r.last at) 1 0

weight_none : (at : ℕ) (r : Region) → (r.last ≡ at → ⊥) → ends_at at r ≡ 0
weight_none at r other = ap (λ b. cond b 1 0) (ne_eqb r.last at other)

none_ends : (p join : ℕ) (entries : List ℕ) (at : ℕ) → is_chain nat_lt (entries ++ join ∷ []) ≡ true → ((k e : ℕ) → slice_get entries k ≡ Some e → e ≤ at → at < join → ⊥)
    → sum_by (ends_at at) (regions_of p join entries) ≡ 0
none_ends p join [] at chain none = refl
none_ends p join (e ∷ []) at chain none =
    let r : Region = record { fork = p; entry = e; last = join - 1 } in
    let below = entry_below (e ∷ []) join 0 e chain refl in
    let zero_here = weight_none at r (λ same. none 0 e refl (omega (arith, same, below)) (omega (arith, same, below))) in
    sum_by-cons (ends_at at) r [] ∙ omega (arith, zero_here)
none_ends p join (e ∷ next ∷ entries) at chain none =
    let r : Region = record { fork = p; entry = e; last = next - 1 } in
    let above = chain_above e (next ∷ (entries ++ join ∷ [])) chain 0 next refl in
    let below = entry_below (e ∷ next ∷ entries) join 1 next chain refl in
    let zero_here = weight_none at r (λ same. none 0 e refl (omega (arith, same, above)) (omega (arith, same, above, below))) in
    let rest = none_ends p join (next ∷ entries) at (chain_rest e (next ∷ (entries ++ join ∷ [])) chain) (λ k x here. none (suc k) x here) in
    sum_by-cons (ends_at at) r (regions_of p join (next ∷ entries)) ∙ omega (arith, zero_here, rest)

-- forks whose entries ascend
abbrev pub AscendAll : List Lined → Type 0
AscendAll code = (p : ℕ) (l : Lined) (join : ℕ) (entries : List ℕ) → slice_get code p ≡ Some l → l.instr ≡ Instr.Fork join entries → is_chain nat_lt (entries ++ join ∷ []) ≡ true

none_ends_by : (p at : ℕ) (i : Instr) → ((join : ℕ) (entries : List ℕ) → i ≡ Instr.Fork join entries → is_chain nat_lt (entries ++ join ∷ []) ≡ true)
    → ((join : ℕ) (entries : List ℕ) → i ≡ Instr.Fork join entries → (k e : ℕ) → slice_get entries k ≡ Some e → e ≤ at → at < join → ⊥) → sum_by (ends_at at) (regions_by p i) ≡ 0
none_ends_by p at (Instr.Fork join entries) chains none = none_ends p join entries at (chains join entries refl) (none join entries refl)
none_ends_by p at i chains none = refl

none_ends_in : (p : ℕ) (code : List Lined) (at : ℕ) → AscendAll code → IsOutside code at → sum_by (ends_at at) (regions_from p code) ≡ 0
none_ends_in p [] at chains outside = refl
none_ends_in p (l ∷ code) at chains outside =
    let here = none_ends_by p at l.instr (λ join entries fork. chains 0 l join entries refl fork)
    (λ join entries fork k e entry low high. outside 0 k e join (record { line = l; here = refl; entries = entries; fork = fork; entry = entry }) low high) in
    let rest = none_ends_in (suc p) code at (λ q z join entries found fork. chains (suc q) z join entries found fork)
    (λ q k e join h low high. outside (suc q) k e join (record { line = h.line; here = h.here; entries = h.entries; fork = h.fork; entry = h.entry }) low high) in
    sum_by-append (ends_at at) (regions_by p l.instr) (regions_from (suc p) code) ∙ omega (arith, here, rest)

pub ascend_all : (c : Code) (f : ℕ) (code : List Lined) → IsGoodCode c f code → AscendAll code
ascend_all c f code good p l join entries found fork =
    let forks : IsGoodFork code p join entries = subst (ForksWell code p) fork (good.instrs p l found).fork in
    forks.ascends

pub end_inside : (c : Code) (f : ℕ) (code : List Lined) → IsGoodCode c f code → (at : ℕ) (l : Lined) → slice_get code at ≡ Some l → l.instr ≡ Instr.End → IsOutside code at → ⊥
end_inside c f code good at l found is outside =
    let none = none_ends_in 0 code at (ascend_all c f code good) outside in
    let one : sum_by (ends_at at) (regions_in code) ≡ 1 = good.regions.ends at (l, found, is) in
    omega (arith, none, one)
