-- The bodies of branches: who began in a branch stands in its body, and each branch has another beside it.
use Rattle.std.proofs.Common.{◌≡◌, ℕ, zero, suc, ◌+◌, ◌-◌, ◌≤◌, ◌<◌, List, [], ◌∷◌, ◌++◌, length, Bool, true, false, refl, Option, Some, None, arith, sym, ◌∙◌, ap, subst}
use Rattle.std.specs.Prelude.{nat_lt, slice_get, Contains, ◌↔◌}
use Rattle.std.proofs.lemmas.Bool.{ltb-true, ltb-false}
use Rattle.dfi_base.specs.declared.numbers.Point.{Point}
use Rattle.tac_ir.specs.declared.code.Code.{Code}
use Rattle.tac_ir.specs.declared.code.Fun.{Fun}
use Rattle.tac_ir.specs.declared.code.Instr.{Instr}
use Rattle.tac_ir.specs.declared.code.Lined.{Lined}
use Rattle.tac_ir.specs.Layout.{lines_of, instr_at}
use Rattle.tac_ir.specs.Module.{is_chain}
use Rattle.tac_ir.specs.Path.{region_in}
use Rattle.tac_ir.specs.Edges.{calls_fun}
use Rattle.tac_ir.specs.Regions.{Region, regions_in, regions_by, regions_from, IsInside}
use Rattle.tac_ir.specs.Bodies.{InBody, Parallel}
use Rattle.tac_ir.specs.Bodies.InBody.{inside, called}
use Rattle.tac_ir.specs.GoodForm.{GoodForm, IsGoodCode, IsGoodFork}
use Rattle.tac_ir.proofs.regions.Counted.{HasEntry}
use Rattle.tac_ir.proofs.regions.Inside.{chain_rest, chain_above, entry_below}
use Rattle.tac_ir.proofs.regions.Outside.{branch_at, listed_in, fork_of, front_is}
use Rattle.tac_ir.proofs.regions.Nested.{HasBounds, bounds_of, same_inside}
use Rattle.tac_ir.proofs.regions.Leads.{entry_inside}
use Rattle.tac_thread.specs.declared.guest.Activation.{Activation}
use Rattle.tree_law.specs.Placed.{AreStanding}
use Rattle.tree_law.proofs.trees.Changed.{some_at}
use Rattle.live_law.specs.Laws.{IsInBody, HasParallel, BodiesHaveParallelPoints}

-- the branch of a fork as a region
pub record IsRegionOf (code : List Lined) (p e : ℕ) : Type 0 where
  pub region : Region
  pub listed : Contains (regions_in code) region
  pub fork : region.fork ≡ p
  pub entry : region.entry ≡ e

pub region_at_entry : (c : Code) (f : ℕ) (code : List Lined) → IsGoodCode c f code → (p k e join : ℕ) → HasEntry code p k e join → IsRegionOf code p e
region_at_entry c f code good p k e join h =
    let fork = fork_of c f code good p k e join h in
    let b = branch_at p join h.entries e k e fork.ascends h.entry (omega arith) (entry_below h.entries join k e fork.ascends h.entry) in
    let whole : p ≡ 0 + p = omega arith in
    let low = b.inside.low in
    let from = b.from in
    record {
      region = b.region;
      listed = listed_in 0 code p h.line b.region h.here
          (subst (λ n. Contains (regions_by n h.line.instr) b.region) whole (subst (λ i. Contains (regions_by p i) b.region) (sym h.fork) b.listed));
      fork = b.fork;
      entry = omega (arith, low, from);
    }

-- each activation of a life that began in a region stands in the region's body
pub standing_body : {V S : Type 0} → (c : Code) (g e : ℕ) → IsGoodCode c g (lines_of c g) → (b : Region) → Contains (regions_in (lines_of c g)) b → b.entry ≡ e → region_in (lines_of c g) e ≡ suc e
    → (x : Activation V S) (callers : List (Activation V S)) → AreStanding c g (suc e) x callers → InBody c g b (record { fun = x.fun; at = x.at })
unfolding AreStanding
standing_body c g e good b listed entry own x [] h =
    let bounds = bounds_of c g (lines_of c g) good b listed in
    let some = bounds.some in
    let begins : IsInside b e = record { low = omega (arith, entry); high = omega (arith, entry, some) } in
    let number : region_in (lines_of c g) x.at ≡ suc e = subst (λ k. region_in (lines_of c k) x.at ≡ suc e) h.0 h.1 in
    inside (record { fun = x.fun; at = x.at }) h.0 (same_inside c g (lines_of c g) good b e x.at listed (own ∙ sym number) begins)
standing_body c g e good b listed entry own x (y ∷ callers) h =
    called (record { fun = y.fun; at = y.at }) (record { fun = x.fun; at = x.at }) (standing_body c g e good b listed entry own y callers h.3) h.1

-- and so does each of a branch of a thread that waits in the body
pub child_body : {V S : Type 0} → (c : Code) (f g e at k join : ℕ) (r : Region) → (good : IsGoodCode c g (lines_of c g)) → Contains (regions_in (lines_of c f)) r → HasEntry (lines_of c g) at k e join
    → region_in (lines_of c g) e ≡ suc e → (q : Point) → InBody c f r q → q.fun ≡ g → q.at ≡ at → (x : Activation V S) (callers : List (Activation V S)) → AreStanding c g (suc e) x callers
    → InBody c f r (record { fun = x.fun; at = x.at })
unfolding AreStanding
child_body c f g e at k join r good listed h own q (inside p fun within) is_g is_at x [] s =
    let same : g ≡ f = sym is_g ∙ fun in
    let listed_g : Contains (regions_in (lines_of c g)) r = subst (λ z. Contains (regions_in (lines_of c z)) r) (sym same) listed in
    let entered = entry_inside c g (lines_of c g) good at k e join h r listed_g (subst (IsInside r) is_at within) in
    let number : region_in (lines_of c g) x.at ≡ suc e = subst (λ z. region_in (lines_of c z) x.at ≡ suc e) s.0 s.1 in
    inside (record { fun = x.fun; at = x.at }) (s.0 ∙ same) (same_inside c g (lines_of c g) good r e x.at listed_g (own ∙ sym number) entered)
child_body c f g e at k join r good listed h own q (called caller p body call) is_g is_at x [] s =
    called caller (record { fun = x.fun; at = x.at }) body (subst (λ z. calls_fun z (instr_at c caller) ≡ true) (is_g ∙ sym s.0) call)
child_body c f g e at k join r good listed h own q body is_g is_at x (y ∷ callers) s =
    called (record { fun = y.fun; at = y.at }) (record { fun = x.fun; at = x.at }) (child_body c f g e at k join r good listed h own q body is_g is_at y callers s.3) s.1

-- Two branches of a fork begin at two indexes.

distinct : (xs : List ℕ) → is_chain nat_lt xs ≡ true → (k m a b : ℕ) → k < m → slice_get xs k ≡ Some a → slice_get xs m ≡ Some b → a < b
distinct [] h k m a b less first second = cc
distinct (x ∷ xs) h zero zero a b less first second = absurd (omega (arith, less))
distinct (x ∷ xs) h zero (suc m) a b less first second = (let same : x ≡ a = cc in let up = chain_above x xs h m b second in omega (arith, same, up))
distinct (x ∷ xs) h (suc k) zero a b less first second = absurd (omega (arith, less))
distinct (x ∷ xs) h (suc k) (suc m) a b less first second = distinct xs (chain_rest x xs h) k m a b (omega (arith, less)) first second

pub entries_apart : (xs : List ℕ) (join : ℕ) → is_chain nat_lt (xs ++ join ∷ []) ≡ true → (k m a b : ℕ) → (k ≡ m → ⊥) → slice_get xs k ≡ Some a → slice_get xs m ≡ Some b → a ≡ b → ⊥
entries_apart xs join h k m a b other first second same = by (nat_lt k m) refl
  where
    front : (i x : ℕ) → slice_get xs i ≡ Some x → slice_get (xs ++ join ∷ []) i ≡ Some x
    front i x is = front_is xs (join ∷ []) i x is

    by : (z : Bool) → nat_lt k m ≡ z → ⊥
    by true is = (let less = distinct (xs ++ join ∷ []) h k m a b (ltb-true k m is) (front k a first) (front m b second) in omega (arith, less, same))
    by false is = (let ge = ltb-false k m is in let less = distinct (xs ++ join ∷ []) h m k b a (omega (arith, ge, other)) (front m b second) (front k a first) in omega (arith, less, same))

-- A point in a body has a parallel point: the entry of another branch.

other_index : (i n : ℕ) → 2 ≤ n → (k : ℕ) × (k < n) × (i ≡ k → ⊥)
other_index zero n two = (1, omega (arith, two), λ e. omega (arith, e))
other_index (suc i) n two = (0, omega (arith, two), λ e. omega (arith, e))

pub not_alone : (c : Code) (f : ℕ) → IsGoodCode c f (lines_of c f) → (r : Region) → Contains (regions_in (lines_of c f)) r → (p : Point) → InBody c f r p → HasParallel c p
not_alone c f good r listed p body =
    let b = bounds_of c f code good other.region other.listed in
    let some = b.some in
    let q : Point = record { fun = f; at = other.region.entry } in
    record {
      other = q;
      parallel = record {
        fun = f;
        left = r;
        right = other.region;
        left_region = listed;
        right_region = other.listed;
        one_fork = sym other.fork;
        apart = λ same. entries_apart h.entries h.join fork.ascends h.index at.0 r.entry e.0 at.2 h.entry e.1 (same ∙ other.entry);
        left_body = body;
        right_body = inside q refl (record { low = omega arith; high = some });
      };
    }
  where
    code : List Lined
    code = lines_of c f

    h : HasBounds code r
    h = bounds_of c f code good r listed

    fork : IsGoodFork code r.fork h.join h.entries
    fork = fork_of c f code good r.fork h.index r.entry h.join (record { line = h.line; here = h.here; entries = h.entries; fork = h.fork; entry = h.entry })

    at : (k : ℕ) × (k < length h.entries) × (h.index ≡ k → ⊥)
    at = other_index h.index (length h.entries) fork.some

    e : (x : ℕ) × (slice_get h.entries at.0 ≡ Some x)
    e = some_at h.entries at.0 at.1

    other : IsRegionOf code r.fork e.0
    other = region_at_entry c f code good r.fork at.0 e.0 h.join (record { line = h.line; here = h.here; entries = h.entries; fork = h.fork; entry = e.1 })

none_from : (q : ℕ) (r : Region) → Contains (regions_from q []) r → ⊥
none_from q r (k, within, is) = omega (arith, within)

-- a function with a region is there
good_lines : (c : Code) → GoodForm c → (f : ℕ) (r : Region) → Contains (regions_in (lines_of c f)) r → IsGoodCode c f (lines_of c f)
good_lines c good f r listed = by (slice_get c.funs f) refl listed
  where
    by : (o : Option Fun) → slice_get c.funs f ≡ o → Contains (regions_in (elim o [ None ↦ [] | Some fun ↦ fun.code ])) r → IsGoodCode c f (elim o [ None ↦ [] | Some fun ↦ fun.code ])
    by None is there = absurd (none_from 0 r there)
    by (Some fun) is there = good.code f fun is

pub bodies_parallel : BodiesHaveParallelPoints
bodies_parallel c good p = (
  (λ h. record { fun = h.parallel.fun; region = h.parallel.left; listed = h.parallel.left_region; body = h.parallel.left_body }),
  (λ b. not_alone c b.fun (good_lines c good b.fun b.region b.listed) b.region b.listed p b.body),
)
