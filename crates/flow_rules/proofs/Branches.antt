-- What reaches the joins of forks.
use Rattle.std.proofs.Common.{◌≡◌, ℕ, zero, suc, ◌+◌, ◌<◌, ◌≤◌, ◌⊎◌, inl, inr, Bool, true, false, List, [], ◌∷◌, ◌++◌, length, get_or, slice_index, refl, sym, ap, ◌∙◌, subst, arith, Some}
use Rattle.std.specs.Prelude.{nat_eq, nat_lt, ◌&&◌, ◌↔◌, replicate, slice_get, Contains}
use Rattle.std.proofs.lemmas.Bool.{eqb-true, eq-eqb, ltb-true, ltb-false}
use Rattle.std.proofs.lemmas.List.{length-append, get_or_append_left, get_or_at}
use Rattle.dfi_base.specs.declared.numbers.Point.{Point}
use Rattle.dfi_base.specs.Bits.{has}
use Rattle.dfi_base.proofs.RowLaws.{no_bits}
use Rattle.tac_ir.specs.declared.code.Code.{Code}
use Rattle.tac_ir.specs.declared.code.Instr.{Instr}
use Rattle.tac_ir.specs.declared.module.Fact.{Fact}
use Rattle.tac_ir.specs.declared.module.Reach.{Reach}
use Rattle.tac_ir.specs.Bodies.{InBody}
use Rattle.tac_ir.specs.Bodies.InBody.{inside, called}
use Rattle.tac_ir.specs.GoodForm.{GoodForm, IsGoodInstr}
use Rattle.tac_ir.specs.Edges.{calls_fun}
use Rattle.tac_ir.specs.GoodModule.{IsPoint}
use Rattle.tac_ir.specs.Layout.{instr_at, lines_of}
use Rattle.tac_ir.specs.Module.{is_chain}
use Rattle.tac_ir.specs.Numbers.{new_def}
use Rattle.tac_ir.specs.Regions.{Region, IsInside, regions_of}
use Rattle.tac_ir.proofs.Numbering.{one_instruction_a_definition}
use Rattle.flow_rules.specs.PointNumber.{point_at}
use Rattle.flow_rules.specs.tools.Branches.{last_of, region_by, AreBranches, IsBodySet, IsMadeWithin}
use Rattle.flow_rules.specs.tools.Reached.{IsReached, IsCalledIn, HasCalls, IsReachedSet}
use Rattle.flow_rules.specs.tools.Reached.IsReached.{start, call}
use Rattle.flow_rules.specs.tools.ReachRules.{Bit, JoinsOne, JoinsEach, JoinsAll, ReachesEnds}
use Rattle.flow_rules.proofs.InCode.{good_at}
use Rattle.flow_rules.proofs.ReachRules.{entries_exist, join_exists}

-- The branches of a fork.

chain_step : (xs : List ℕ) → is_chain nat_lt xs ≡ true → (i : ℕ) → suc i < length xs → get_or xs i 0 < get_or xs (suc i) 0
chain_step [] chain i low = absurd (omega (arith, low))
chain_step (x ∷ []) chain i low = absurd (omega (arith, low))
chain_step (x ∷ y ∷ rest) chain zero low = ltb-true x y (both (nat_lt x y) (is_chain nat_lt (y ∷ rest)) chain).0
  where
    both : (a b : Bool) → (a && b) ≡ true → (a ≡ true) × (b ≡ true)
    both true b h = (refl, h)
    both false b h = cc
chain_step (x ∷ y ∷ rest) chain (suc i) low = chain_step (y ∷ rest) (both (nat_lt x y) (is_chain nat_lt (y ∷ rest)) chain) i (omega (arith, low))
  where
    both : (a b : Bool) → (a && b) ≡ true → b ≡ true
    both true b h = h
    both false b h = cc

pub record IsBranch (c : Code) (f join : ℕ) (entries : List ℕ) (i : ℕ) : Type 0 where
  pub next : 1 ≤ slice_index (entries ++ join ∷ []) (suc i)
  pub order : slice_index entries i ≤ last_of entries join i
  pub last : last_of entries join i < length (lines_of c f)

pub next_above : (entries : List ℕ) (join i : ℕ) → is_chain nat_lt (entries ++ join ∷ []) ≡ true → i < length entries → slice_index entries i < slice_index (entries ++ join ∷ []) (suc i)
next_above entries join i chain low =
    let step = chain_step (entries ++ join ∷ []) chain i (omega (arith, low, length-append entries (join ∷ []))) in
    omega (arith, step, get_or_append_left entries (join ∷ []) 0 i low)

pub next_entry : (entries : List ℕ) (join i : ℕ) → i + 1 < length entries → slice_index (entries ++ join ∷ []) (suc i) ≡ slice_index entries (i + 1)
next_entry entries join i low = (let same : suc i ≡ i + 1 = omega arith in ap (slice_index (entries ++ join ∷ [])) same ∙ get_or_append_left entries (join ∷ []) 0 (i + 1) low)

pub next_join : (entries : List ℕ) (join i : ℕ) → i < length entries → length entries ≤ i + 1 → slice_index (entries ++ join ∷ []) (suc i) ≡ join
next_join entries join i low high = (let same : suc i ≡ length entries = omega (arith, low, high) in ap (slice_index (entries ++ join ∷ [])) same ∙ get_or_at entries join [] 0 (length entries) refl)

pub branch_of : (c : Code) (f join : ℕ) (entries : List ℕ) → AreBranches c f join entries → (i : ℕ) → i < length entries → IsBranch c f join entries i
branch_of c f join entries h i low = record { next = omega (arith, above); order = omega (arith, above); last = by (nat_lt (i + 1) (length entries)) refl }
  where
    above : slice_index entries i < slice_index (entries ++ join ∷ []) (suc i)
    above = next_above entries join i h.ascends low

    by : (b : Bool) → nat_lt (i + 1) (length entries) ≡ b → last_of entries join i < length (lines_of c f)
    by true is =
        let less = ltb-true (i + 1) (length entries) is in
        omega (arith, h.exist (i + 1) 0 less, next_entry entries join i less)
    by false is = (let joins = h.joins in omega (arith, joins, next_join entries join i low (ltb-false (i + 1) (length entries) is)))

pub branches_at : (c : Code) → GoodForm c → (p : Point) → IsPoint c p → (join : ℕ) (entries : List ℕ) → Instr.Fork join entries ≡ instr_at c p → AreBranches c p.fun join entries
branches_at c good p point join entries is =
    let here = subst (IsGoodInstr c p.fun (lines_of c p.fun) p.at) (sym is) (good_at c good p point) in
    record { exist = entries_exist (length (lines_of c p.fun)) join entries here.targets; joins = join_exists (length (lines_of c p.fun)) join entries here.targets; ascends = here.fork.ascends }

-- The body of a branch.

pub body_set : (c : Code) (f fork entry last : ℕ) (some all : List Bool) (x : Bool) → HasCalls c f entry (last + 1) (replicate 256 false) some x → IsReachedSet c some all → length all ≡ 256
    → IsBodySet c f (record { fork = fork; entry = entry; last = last }) all
body_set c f fork entry last some all x calls reached long = record { long = long; each = λ q. (forth q, back q) }
  where
    region : Region
    region = record { fork = fork; entry = entry; last = last }

    forth : (q : Point) → InBody c f region q → ((q.fun ≡ f) × IsInside region q.at) ⊎ (has all q.fun ≡ true)
    forth q (inside p fun within) = inl (fun, within)
    forth q (called p r body here) = inr (by (forth p body))
      where
        by : ((p.fun ≡ f) × IsInside region p.at) ⊎ (has all p.fun ≡ true) → has all r.fun ≡ true
        by (inl h) =
            let low = h.1.low in
            let high = h.1.high in
            (reached.each r.fun).1
            (start r.fun (calls.added r.fun (record { at = p.at; low = low; high = omega (arith, high); calls = subst (λ g. calls_fun r.fun (instr_at c (point_at g p.at)) ≡ true) h.0 here })))
        by (inr h) = (reached.each r.fun).1 (call p r.fun ((reached.each p.fun).0 h) here)

    from_reached : (g : ℕ) → IsReached c some g → (q : Point) → q.fun ≡ g → InBody c f region q
    from_reached g (start h there) q same = first (calls.only h there)
      where
        first : (has (replicate 256 false) h ≡ true) ⊎ IsCalledIn c f entry (last + 1) h → InBody c f region q
        first (inl none) = (let clash = sym (no_bits 256 h) ∙ none in cc)
        first (inr at) =
            let low = at.low in
            let high = at.high in
            called (point_at f at.at) q (inside (point_at f at.at) refl (record { low = low; high = omega (arith, high) })) (ap (λ k. calls_fun k (instr_at c (point_at f at.at))) same ∙ at.calls)
    from_reached g (call p h from here) q same = called p q (from_reached p.fun from p refl) (ap (λ k. calls_fun k (instr_at c p)) same ∙ here)

    back : (q : Point) → ((q.fun ≡ f) × IsInside region q.at) ⊎ (has all q.fun ≡ true) → InBody c f region q
    back q (inl h) = inside q h.0 h.1
    back q (inr h) = from_reached q.fun ((reached.each q.fun).0 h) q refl

pub made_within : (c : Code) → GoodForm c → (f : ℕ) (region : Region) (set : List Bool) (d : ℕ) → IsBodySet c f region set → (q : Point) → new_def (instr_at c q) ≡ Some d
    → (((q.fun ≡ f) × IsInside region q.at) ⊎ (has set q.fun ≡ true)) ↔ IsMadeWithin c f region d
made_within c good f region set d body q def = (
  λ h. record { at = q; def = def; body = (body.each q).1 h },
  λ h. (body.each q).0 (subst (InBody c f region) (one_instruction_a_definition c good h.at q d h.def def) h.body),
)

-- Loops.

differs : (k n : ℕ) → nat_eq k n ≡ false → k ≡ n → ⊥
differs k n is same = (let clash = sym is ∙ eq-eqb k n same in cc)

pub one_next : (c : Code) (r : Reach) (f join : ℕ) (region : Region) (n : ℕ) (fact : Fact) → JoinsOne c r f join region n → slice_get r.facts.pairs n ≡ Some fact
    → ((Bit c r (point_at f region.last) n) × IsMadeWithin c f region fact.def → Bit c r (point_at f join) n) → JoinsOne c r f join region (n + 1)
one_next c r f join region n fact before listed here = record { each = λ k x q low is body def bit. by k x q low is body def bit (nat_eq k n) refl }
  where
    by : (k : ℕ) (x : Fact) (q : Point) → k < n + 1 → slice_get r.facts.pairs k ≡ Some x → InBody c f region q → new_def (instr_at c q) ≡ Some x.def → Bit c r (point_at f region.last) k → (b : Bool) → nat_eq k n ≡ b
        → Bit c r (point_at f join) k
    by k x q low is body def bit true same =
        let one = eqb-true k n same in
        let equal : Some x ≡ Some fact = sym is ∙ ap (slice_get r.facts.pairs) one ∙ listed in
        let item : x ≡ fact = cc in
        subst (Bit c r (point_at f join)) (sym one) (here (subst (Bit c r (point_at f region.last)) one bit, record { at = q; def = def ∙ ap (λ (z : Fact). Some z.def) item; body = body }))
    by k x q low is body def bit false other = before.each k x q (let no = differs k n other in omega (arith, low, no)) is body def bit

pub each_next : (c : Code) (r : Reach) (f fork join : ℕ) (entries : List ℕ) (n : ℕ) → JoinsEach c r f fork join entries n → JoinsOne c r f join (region_by fork join entries n) (length r.facts.pairs) → JoinsEach c r f fork join entries (n + 1)
each_next c r f fork join entries n before here = record { each = λ i low. by i low (nat_eq i n) refl }
  where
    by : (i : ℕ) → i < n + 1 → (b : Bool) → nat_eq i n ≡ b → JoinsOne c r f join (region_by fork join entries i) (length r.facts.pairs)
    by i low true same = subst (λ k. JoinsOne c r f join (region_by fork join entries k) (length r.facts.pairs)) (sym (eqb-true i n same)) here
    by i low false other = before.each i (let no = differs i n other in omega (arith, low, no))

pub end_next : (c : Code) (r : Reach) (f join : ℕ) (entries : List ℕ) (k n : ℕ) → ReachesEnds c r f join entries k n → Bit c r (point_at f (last_of entries join n)) k → ReachesEnds c r f join entries k (n + 1)
end_next c r f join entries k n before here = record { each = λ i low. by i low (nat_eq i n) refl }
  where
    by : (i : ℕ) → i < n + 1 → (b : Bool) → nat_eq i n ≡ b → Bit c r (point_at f (last_of entries join i)) k
    by i low true same = subst (λ j. Bit c r (point_at f (last_of entries join j)) k) (sym (eqb-true i n same)) here
    by i low false other = before.each i (let no = differs i n other in omega (arith, low, no))

pub all_next : (c : Code) (r : Reach) (f join : ℕ) (entries : List ℕ) (n : ℕ) → JoinsAll c r f join entries n → (ReachesEnds c r f join entries n (length entries) → Bit c r (point_at f join) n) → JoinsAll c r f join entries (n + 1)
all_next c r f join entries n before here = record { each = λ k low ends. by k low ends (nat_eq k n) refl }
  where
    by : (k : ℕ) → k < n + 1 → ReachesEnds c r f join entries k (length entries) → (b : Bool) → nat_eq k n ≡ b → Bit c r (point_at f join) k
    by k low ends true same =
        let one = eqb-true k n same in
        subst (Bit c r (point_at f join)) (sym one) (here (subst (λ z. ReachesEnds c r f join entries z (length entries)) one ends))
    by k low ends false other = before.each k (let no = differs k n other in omega (arith, low, no)) ends

-- Regions by their indexes.

pub region_listed : (fork join : ℕ) (entries : List ℕ) (i : ℕ) → i < length entries → Contains (regions_of fork join entries) (region_by fork join entries i)
region_listed fork join [] i low = absurd (omega (arith, low))
region_listed fork join (e ∷ []) zero low = (0, omega arith, refl)
region_listed fork join (e ∷ []) (suc i) low = absurd (omega (arith, low))
region_listed fork join (e ∷ next ∷ entries) zero low = (0, omega arith, refl)
region_listed fork join (e ∷ next ∷ entries) (suc i) low =
    let r = region_listed fork join (next ∷ entries) i (omega (arith, low)) in
    let under = r.1 in
    (suc r.0, omega (arith, under), r.2)

pub listed_region : (fork join : ℕ) (entries : List ℕ) (region : Region) → Contains (regions_of fork join entries) region → (i : ℕ) × (i < length entries) × (region_by fork join entries i ≡ region)
listed_region fork join [] region h = (let low = h.1 in absurd (omega (arith, low)))
listed_region fork join (e ∷ []) region h = by h.0 h.1 h.2
  where
    by : (i : ℕ) → i < 1 → get_or (regions_of fork join (e ∷ [])) i region ≡ region → (i : ℕ) × (i < 1) × (region_by fork join (e ∷ []) i ≡ region)
    by zero low is = (0, omega arith, is)
    by (suc i) low is = absurd (omega (arith, low))
listed_region fork join (e ∷ next ∷ entries) region h = by h.0 h.1 h.2 (listed_region fork join (next ∷ entries) region)
  where
    by : (i : ℕ) → i < length (regions_of fork join (e ∷ next ∷ entries)) → get_or (regions_of fork join (e ∷ next ∷ entries)) i region ≡ region
        → (Contains (regions_of fork join (next ∷ entries)) region → (j : ℕ) × (j < length (next ∷ entries)) × (region_by fork join (next ∷ entries) j ≡ region))
        → (j : ℕ) × (j < length (e ∷ next ∷ entries)) × (region_by fork join (e ∷ next ∷ entries) j ≡ region)
    by zero low is rest = (0, omega arith, is)
    by (suc i) low is rest = (let r = rest (i, omega (arith, low), is) in let under = r.1 in (suc r.0, omega (arith, under), r.2))
