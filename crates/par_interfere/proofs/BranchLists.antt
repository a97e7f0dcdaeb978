-- Lists of branches, and of the functions that are called from a region, an item at a time.
use Rattle.std.proofs.Common.{◌≡◌, ℕ, zero, suc, ◌+◌, ◌-◌, ◌<◌, ◌≤◌, ◌⊎◌, ◌↔◌, inl, inr, Bool, true, List, [], ◌∷◌, ◌++◌, length, get_or, set, All, refl, sym, ap, subst, ◌∙◌, arith, Option, Some, None, Contains}
use Rattle.std.specs.Prelude.{slice_get, slice_index_or, nat_lt, ◌||◌, IsTrue}
use Rattle.std.proofs.lemmas.Bool.{cases_eq}
use Rattle.std.proofs.lemmas.List.{get_or-set_same, get_or-set_other, length-set}
use Rattle.std.proofs.lemmas.Option.{slice_get_within, slice_get-get_or, get_or_from_slice_get}
use Rattle.dfi_base.specs.Bits.{has, joined}
use Rattle.dfi_base.proofs.RowLaws.{has_joined, has_put_same, has_put_other}
use Rattle.dfi_base.specs.declared.numbers.Point.{Point}
use Rattle.tac_ir.specs.declared.code.Code.{Code}
use Rattle.tac_ir.specs.declared.code.Instr.{Instr}
use Rattle.tac_ir.specs.declared.code.Lined.{Lined}
use Rattle.tac_ir.specs.Layout.{lines_of, instr_at}
use Rattle.tac_ir.specs.Edges.{calls_fun}
use Rattle.tac_ir.specs.Module.{is_chain}
use Rattle.tac_ir.specs.Regions.{Region, regions_of, regions_by, regions_in}
use Rattle.tac_ir.proofs.regions.Inside.{chain_above}
use Rattle.tac_ir.proofs.regions.Innermost.{none_listed}
use Rattle.tac_ir.proofs.regions.Outside.{listed_in}
use Rattle.flow_rules.specs.CanCall.{CanCall}
use Rattle.par_interfere.specs.declared.branches.Branch.{Branch}
use Rattle.par_interfere.specs.tools.Points.{callee}
use Rattle.par_interfere.specs.tools.Calls.{AreCalls, CallsFrom, IsCalled, IsCallTable, in_table}
use Rattle.par_interfere.specs.tools.Branches.{AreBranches, HasBranch, IsBranch, region_of}
use Rattle.par_interfere.specs.tools.Spans.{region_at}
use Rattle.par_interfere.proofs.Closures.{below_or}
use Rattle.par_interfere.proofs.CallTables.{callee_calls, calls_callee}
use Rattle.par_interfere.proofs.Listed.{get_front, get_last, one_item, either, or_first, or_second}

-- The regions of a fork.

pub before_next : (fork join : ℕ) (entries : List ℕ) (i : ℕ) → i + 1 < length entries
    → slice_get (regions_of fork join entries) i ≡ Some (region_at fork (get_or entries i 0) (get_or entries (suc i) 0 - 1))
before_next fork join [] i low = absurd (omega (arith, low))
before_next fork join (e ∷ []) i low = absurd (omega (arith, low))
before_next fork join (e ∷ next ∷ rest) zero low = refl
before_next fork join (e ∷ next ∷ rest) (suc i) low = before_next fork join (next ∷ rest) i (omega (arith, low))

pub before_join : (fork join : ℕ) (entries : List ℕ) (i : ℕ) → i < length entries → length entries ≤ i + 1
    → slice_get (regions_of fork join entries) i ≡ Some (region_at fork (get_or entries i 0) (join - 1))
before_join fork join [] i low high = absurd (omega (arith, low))
before_join fork join (e ∷ []) zero low high = refl
before_join fork join (e ∷ []) (suc i) low high = absurd (omega (arith, low))
before_join fork join (e ∷ next ∷ rest) zero low high = absurd (omega (arith, high))
before_join fork join (e ∷ next ∷ rest) (suc i) low high = before_join fork join (next ∷ rest) i (omega (arith, low)) (omega (arith, high))

pub length_regions : (fork join : ℕ) (entries : List ℕ) → length (regions_of fork join entries) ≡ length entries
length_regions fork join [] = refl
length_regions fork join (e ∷ []) = refl
length_regions fork join (e ∷ next ∷ rest) = ap suc (length_regions fork join (next ∷ rest))

positive : (xs : List ℕ) (k e : ℕ) → is_chain nat_lt xs ≡ true → slice_get xs (suc k) ≡ Some e → 1 ≤ e
positive [] k e chain is = cc
positive (x ∷ xs) k e chain is = (let above = chain_above x xs chain k e is in omega (arith, above))

pub entry_positive : (entries : List ℕ) (join i : ℕ) → IsTrue (is_chain nat_lt (entries ++ join ∷ [])) → i + 1 < length entries → 1 ≤ get_or entries (suc i) 0
entry_positive entries join i chain low =
    positive (entries ++ join ∷ []) i (get_or entries (suc i) 0) chain
    (get_front entries (join ∷ []) (suc i) (get_or entries (suc i) 0) (slice_get-get_or entries (suc i) 0 (omega (arith, low))))

pub join_positive : (entries : List ℕ) (join i : ℕ) → IsTrue (is_chain nat_lt (entries ++ join ∷ [])) → i < length entries → 1 ≤ join
join_positive [] join i chain low = absurd (omega (arith, low))
join_positive (e ∷ entries) join i chain low = positive (e ∷ entries ++ join ∷ []) (length entries) join chain (get_last (e ∷ entries) join)

-- Branches.

contained : {X : Type 0} (xs : List X) (n : ℕ) (x : X) → slice_get xs n ≡ Some x → Contains xs x
contained xs n x is = (n, slice_get_within xs n x is, get_or_from_slice_get xs n x x is)

numbered : {X : Type 0} (xs : List X) (x : X) → Contains xs x → (n : ℕ) × (slice_get xs n ≡ Some x)
numbered xs x h = (h.0, slice_get-get_or xs h.0 x h.1 ∙ ap Some h.2)

pub has_front : (branches : List Branch) (b : Branch) (f : ℕ) (r : Region) → HasBranch branches f r → HasBranch (branches ++ b ∷ []) f r
has_front branches b f r h = record { number = h.number; branch = h.branch; listed = get_front branches (b ∷ []) h.number h.branch h.listed; fun = h.fun; region = h.region }

has_new : (branches : List Branch) (b : Branch) → HasBranch (branches ++ b ∷ []) b.fun (region_of b)
has_new branches b = record { number = length branches; branch = b; listed = get_last branches b; fun = refl; region = refl }

pub added_more : (regions : List Region) (branches : List Branch) (b : Branch) (f i : ℕ) → b.fun ≡ f → slice_get regions i ≡ Some (region_of b)
    → ((k : ℕ) (r : Region) → k < i → slice_get regions k ≡ Some r → HasBranch branches f r)
    → (k : ℕ) (r : Region) → k < i + 1 → slice_get regions k ≡ Some r → HasBranch (branches ++ b ∷ []) f r
added_more regions branches b f i fun here h k r low is = elim (below_or k i low) [
  | inl less ↦ has_front branches b f r (h k r less is)
  | inr same ↦
      let one = one_item regions k i r (region_of b) is here same in
      subst (λ g. HasBranch (branches ++ b ∷ []) g r) fun (subst (HasBranch (branches ++ b ∷ []) b.fun) (sym one) (has_new branches b))
]

pub added_all : (fork join : ℕ) (entries : List ℕ) (branches : List Branch) (f n : ℕ) → length entries ≤ n
    → ((k : ℕ) (r : Region) → k < n → slice_get (regions_of fork join entries) k ≡ Some r → HasBranch branches f r)
    → (r : Region) → Contains (regions_of fork join entries) r → HasBranch branches f r
added_all fork join entries branches f n whole h r there =
    let k = numbered (regions_of fork join entries) r there in
    let low = slice_get_within (regions_of fork join entries) k.0 r k.1 in
    h k.0 r (omega (arith, low, whole, length_regions fork join entries)) k.1

-- the region of a fork is one of its function
pub region_listed : (c : Code) (p : Point) (join k : ℕ) (entries : List ℕ) (r : Region) → instr_at c p ≡ Instr.Fork join entries → slice_get (regions_of p.at join entries) k ≡ Some r
    → Contains (regions_in (lines_of c p.fun)) r
region_listed c p join k entries r is there = by (slice_get (lines_of c p.fun) p.at) refl is
  where
    by : (o : Option Lined) → slice_get (lines_of c p.fun) p.at ≡ o → elim o as (λ z. Instr) [ None ↦ Instr.End | Some lined ↦ lined.instr ] ≡ Instr.Fork join entries
        → Contains (regions_in (lines_of c p.fun)) r
    by None found at = cc
    by (Some l) found at =
        listed_in 0 (lines_of c p.fun) p.at l r found
        (subst (λ n. Contains (regions_by n l.instr) r) (let none : p.at ≡ 0 + p.at = omega arith in none)
        (subst (λ i. Contains (regions_by p.at i) r) (sym at) (contained (regions_of p.at join entries) k r there)))

pub no_regions : (at : ℕ) (i : Instr) → ((join : ℕ) (entries : List ℕ) → i ≡ Instr.Fork join entries → ⊥) → (r : Region) → Contains (regions_by at i) r → ⊥
no_regions at (Instr.Fork join entries) none r there = absurd (none join entries refl)
no_regions at i none r there = none_listed r there

pub branches_more : (c : Code) (points : List Point) (n : ℕ) (p : Point) (old new : List Branch) → slice_get points n ≡ Some p
    → All (IsBranch c points) new → ((f : ℕ) (r : Region) → HasBranch old f r → HasBranch new f r)
    → ((r : Region) → Contains (regions_by p.at (instr_at c p)) r → HasBranch new p.fun r)
    → AreBranches c points n old → AreBranches c points (n + 1) new
branches_more c points n p old new is each kept added h = record {
  each = each;
  all = λ k q r low at there. elim (below_or k n low) [
    | inl less ↦ kept q.fun r (h.all k q r less at there)
    | inr same ↦
        let one : q ≡ p = one_item points k n q p at is same in
        subst (λ (z : Point). HasBranch new z.fun r) (sym one) (added r (subst (λ (z : Point). Contains (regions_by z.at (instr_at c z)) r) one there))
  ];
}

pub no_branches : (c : Code) (points : List Point) → AreBranches c points 0 []
no_branches c points = record { each = λ i d low. absurd (omega (arith, low)); all = λ k q r low. absurd (omega (arith, low)) }

-- The functions that are called from a region.

module _ (c : Code) (points : List Point) (f first last : ℕ) where
  from_none : (g : ℕ) → CallsFrom c points 0 f first last g → ⊥
  from_none g h = (let low = h.low in omega (arith, low))

  later : (n g : ℕ) → CallsFrom c points n f first last g → CallsFrom c points (n + 1) f first last g
  later n g h = record {
    number = h.number;
    point = h.point;
    low = (let low = h.low in omega (arith, low));
    listed = h.listed;
    fun = h.fun;
    after = h.after;
    before = h.before;
    callee = h.callee;
    calls = h.calls;
    leads = h.leads;
  }

  earlier : (n g : ℕ) (h : CallsFrom c points (n + 1) f first last g) → h.number < n → CallsFrom c points n f first last g
  earlier n g h low = record {
    number = h.number;
    point = h.point;
    low = low;
    listed = h.listed;
    fun = h.fun;
    after = h.after;
    before = h.before;
    callee = h.callee;
    calls = h.calls;
    leads = h.leads;
  }

  -- what a point in the region that makes no call, or one outside it, leaves as it is
  pub from_skip : (n : ℕ) (p : Point) (row : List Bool) → slice_get points n ≡ Some p
      → ((g : ℕ) → p.fun ≡ f → first ≤ p.at → p.at ≤ last → callee (instr_at c p) ≡ Some g → ⊥)
      → ((g : ℕ) → (has row g ≡ true) ↔ CallsFrom c points n f first last g) → (g : ℕ) → (has row g ≡ true) ↔ CallsFrom c points (n + 1) f first last g
  from_skip n p row is none h g = (λ had. later n g ((h g).0 had), back)
    where
      back : CallsFrom c points (n + 1) f first last g → has row g ≡ true
      back k = elim (below_or k.number n k.low) [
        | inl less ↦ (h g).1 (earlier n g k less)
        | inr same ↦
            let one : k.point ≡ p = one_item points k.number n k.point p k.listed is same in
            absurd (none k.callee (ap (λ (z : Point). z.fun) (sym one) ∙ k.fun) (subst (λ (z : Point). first ≤ z.at) one k.after) (subst (λ (z : Point). z.at ≤ last) one k.before)
            (ap (λ z. callee (instr_at c z)) (sym one) ∙ calls_callee k.callee (instr_at c k.point) k.calls))
      ]

  pub from_more : (n : ℕ) (p : Point) (e : ℕ) (table : List (List Bool)) (row put more new : List Bool) → slice_get points n ≡ Some p
      → p.fun ≡ f → first ≤ p.at → p.at ≤ last → callee (instr_at c p) ≡ Some e → IsCallTable c table → e < length row → length row ≡ length more
      → more ≡ slice_index_or table e [] → put ≡ set row e true → new ≡ joined put more
      → ((g : ℕ) → (has row g ≡ true) ↔ CallsFrom c points n f first last g) → (g : ℕ) → (has new g ≡ true) ↔ CallsFrom c points (n + 1) f first last g
  from_more n p e table row put more new is fun after before calls can within long rows puts made h g = (there, back)
    where
      by : has new g ≡ (has put g || has more g)
      by = ap (λ r. has r g) made ∙ has_joined put more g (ap length puts ∙ length-set row e true ∙ long)

      put_at : (g ≡ e) → has put g ≡ true
      put_at same = ap (has put) same ∙ ap (λ r. has r e) puts ∙ has_put_same row e true within

      put_else : (g ≡ e → ⊥) → has put g ≡ has row g
      put_else other = ap (λ r. has r g) puts ∙ has_put_other row e g true other

      here : (e ≡ g) ⊎ CanCall c e g → CallsFrom c points (n + 1) f first last g
      here leads = record {
        number = n;
        point = p;
        low = omega arith;
        listed = is;
        fun = fun;
        after = after;
        before = before;
        callee = e;
        calls = callee_calls e (instr_at c p) calls;
        leads = leads;
      }

      there : has new g ≡ true → CallsFrom c points (n + 1) f first last g
      there had = elim (either (has put g) (has more g) (sym by ∙ had)) [
        | inl in_put ↦ elim (cases_eq g e) [ inl same ↦ here (inl (sym same)) | inr other ↦ later n g ((h g).0 (sym (put_else other) ∙ in_put)) ]
        | inr in_more ↦ here (inr ((can.calls e g).0 (ap (λ r. has r g) (sym rows) ∙ in_more)))
      ]

      old : has row g ≡ true → has new g ≡ true
      old had = by ∙ or_first (has put g) (has more g) (elim (cases_eq g e) [ inl same ↦ put_at same | inr other ↦ put_else other ∙ had ])

      back : CallsFrom c points (n + 1) f first last g → has new g ≡ true
      back k = elim (below_or k.number n k.low) [
        | inl less ↦ old ((h g).1 (earlier n g k less))
        | inr same ↦
            let one : k.point ≡ p = one_item points k.number n k.point p k.listed is same in
            let both : Some k.callee ≡ Some e = sym (calls_callee k.callee (instr_at c k.point) k.calls) ∙ ap (λ z. callee (instr_at c z)) one ∙ calls in
            let eq : k.callee ≡ e = cc in
            elim k.leads [
              | inl same ↦ by ∙ or_first (has put g) (has more g) (put_at (sym same ∙ eq))
              | inr leads ↦ by ∙ or_second (has put g) (has more g) (ap (λ r. has r g) rows ∙ (can.calls e g).1 (subst (λ x. CanCall c x g) eq leads))
            ]
      ]

-- Direct calls.

module _ (c : Code) (points : List Point) where
  called_later : (n f g : ℕ) → IsCalled c points n f g → IsCalled c points (n + 1) f g
  called_later n f g h = record { number = h.number; point = h.point; low = (let low = h.low in omega (arith, low)); listed = h.listed; fun = h.fun; calls = h.calls }

  pub calls_skip : (n : ℕ) (p : Point) (table : List (List Bool)) → slice_get points n ≡ Some p → ((g : ℕ) → callee (instr_at c p) ≡ Some g → ⊥)
      → AreCalls c points n table → AreCalls c points (n + 1) table
  calls_skip n p table is none h f g = (λ had. called_later n f g ((h f g).0 had), back)
    where
      back : IsCalled c points (n + 1) f g → in_table table f g ≡ true
      back k = elim (below_or k.number n k.low) [
        | inl less ↦ (h f g).1 (record { number = k.number; point = k.point; low = less; listed = k.listed; fun = k.fun; calls = k.calls })
        | inr same ↦
            let one : k.point ≡ p = one_item points k.number n k.point p k.listed is same in
            absurd (none g (ap (λ z. callee (instr_at c z)) (sym one) ∙ calls_callee g (instr_at c k.point) k.calls))
      ]

  pub calls_more : (n : ℕ) (p : Point) (e : ℕ) (table new : List (List Bool)) (row put : List Bool) → slice_get points n ≡ Some p → callee (instr_at c p) ≡ Some e
      → p.fun < length table → row ≡ slice_index_or table p.fun [] → e < length row → put ≡ set row e true → new ≡ set table p.fun put
      → AreCalls c points n table → AreCalls c points (n + 1) new
  calls_more n p e table new row put is calls low rows within puts made h f g = (there, back)
    where
      at_row : f ≡ p.fun → in_table new f g ≡ has put g
      at_row same = ap (λ r. has r g) (ap (λ t. slice_index_or t f []) made ∙ ap (λ k. slice_index_or (set table p.fun put) k []) same ∙ get_or-set_same table p.fun put [] low)

      off_row : (f ≡ p.fun → ⊥) → in_table new f g ≡ in_table table f g
      off_row other = ap (λ r. has r g) (ap (λ t. slice_index_or t f []) made ∙ get_or-set_other table p.fun f put [] other)

      was : f ≡ p.fun → has row g ≡ in_table table f g
      was same = ap (λ r. has r g) (rows ∙ ap (λ k. slice_index_or table k []) (sym same))

      put_at : g ≡ e → has put g ≡ true
      put_at same = ap (has put) same ∙ ap (λ r. has r e) puts ∙ has_put_same row e true within

      put_else : (g ≡ e → ⊥) → has put g ≡ has row g
      put_else other = ap (λ r. has r g) puts ∙ has_put_other row e g true other

      here : f ≡ p.fun → g ≡ e → IsCalled c points (n + 1) f g
      here fun same = record { number = n; point = p; low = omega arith; listed = is; fun = sym fun; calls = subst (λ x. calls_fun x (instr_at c p) ≡ true) (sym same) (callee_calls e (instr_at c p) calls) }

      there : in_table new f g ≡ true → IsCalled c points (n + 1) f g
      there had = elim (cases_eq f p.fun) [
        | inl fun ↦ elim (cases_eq g e) [
          | inl same ↦ here fun same
          | inr other ↦ called_later n f g ((h f g).0 (sym (was fun) ∙ sym (put_else other) ∙ sym (at_row fun) ∙ had))
        ]
        | inr other ↦ called_later n f g ((h f g).0 (sym (off_row other) ∙ had))
      ]

      keep : in_table table f g ≡ true → in_table new f g ≡ true
      keep had = elim (cases_eq f p.fun) [
        | inl fun ↦ elim (cases_eq g e) [ inl same ↦ at_row fun ∙ put_at same | inr other ↦ at_row fun ∙ put_else other ∙ was fun ∙ had ]
        | inr other ↦ off_row other ∙ had
      ]

      back : IsCalled c points (n + 1) f g → in_table new f g ≡ true
      back k = elim (below_or k.number n k.low) [
        | inl less ↦ keep ((h f g).1 (record { number = k.number; point = k.point; low = less; listed = k.listed; fun = k.fun; calls = k.calls }))
        | inr same ↦
            let one : k.point ≡ p = one_item points k.number n k.point p k.listed is same in
            let both : Some g ≡ Some e = sym (calls_callee g (instr_at c k.point) k.calls) ∙ ap (λ z. callee (instr_at c z)) one ∙ calls in
            let eq : g ≡ e = cc in
            at_row (sym k.fun ∙ ap (λ (z : Point). z.fun) one) ∙ put_at eq
      ]
