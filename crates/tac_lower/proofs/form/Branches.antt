-- The entries of a fork, and the regions of its branches.
use Rattle.std.proofs.Common.{◌≡◌, ◌≢◌, ℕ, suc, ◌+◌, ◌-◌, ◌<◌, ◌≤◌, Bool, true, false, nat_eq, List, [], ◌∷◌, ◌++◌, map, sum, length, refl, ap, ◌∙◌, arith, eq-eqb}
use Rattle.std.specs.Prelude.{◌&&◌, nat_lt, cond}
use Rattle.std.specs.List.{sum_by}
use Rattle.std.proofs.lemmas.List.Sums.{sum-map, sum_by-cons}
use Rattle.std.proofs.lemmas.Bool.{ne_eqb}
use Rattle.c_typed.specs.declared.stmt.Branch.{Branch}
use Rattle.tac_ir.specs.Module.{is_chain}
use Rattle.tac_ir.specs.Regions.{Region, regions_of, IsInside}
use Rattle.tac_lower.specs.Parts.{Part, in_turn}
use Rattle.tac_lower.specs.Stmts.{ended, entries}
use Rattle.tac_lower.proofs.form.Each.{Each, each_by, each_both}
use Rattle.tac_lower.proofs.form.Zones.{Apart, round, before, behind, Off}

abbrev pub body_of : Branch (Part ℕ) → Part ℕ
body_of b = in_turn b.body

-- the instructions of all branches, each with its `end`
abbrev pub total : List (Branch (Part ℕ)) → ℕ
total [] = 0
total (b ∷ bs) = (body_of b).points + 1 + total bs

pub total_is : (bs : List (Branch (Part ℕ))) → sum (map (λ (p : Part ℕ). p.points) (map ended bs)) ≡ total bs
total_is bs = sum-map (λ (p : Part ℕ). p.points) (map ended bs) ∙ by bs
  where
    by : (bs : List (Branch (Part ℕ))) → sum_by (λ (p : Part ℕ). p.points) (map ended bs) ≡ total bs
    by [] = refl
    by (b ∷ bs) = (let rest = by bs in omega (arith, sum_by-cons (λ (p : Part ℕ). p.points) (ended b) (map ended bs)))

pub turn_points : (bs : List (Branch (Part ℕ))) → (in_turn (map ended bs)).points ≡ total bs
turn_points [] = refl
turn_points (b ∷ bs) = (let rest = turn_points bs in omega arith)

pub entries_length : (e : ℕ) (bs : List (Branch (Part ℕ))) → length (entries e (map ended bs)) ≡ length bs
entries_length e [] = refl
entries_length e (b ∷ bs) = ap suc (entries_length (e + ((body_of b).points + 1)) bs)

-- the regions of the fork at f whose first entry is e
abbrev pub fork_regions : ℕ → ℕ → List (Branch (Part ℕ)) → List Region
fork_regions f e [] = []
fork_regions f e (b ∷ bs) = record { fork = f; entry = e; last = e + (body_of b).points } ∷ fork_regions f (e + ((body_of b).points + 1)) bs

pub regions_are : (f e join : ℕ) (bs : List (Branch (Part ℕ))) → join ≡ e + total bs → regions_of f join (entries e (map ended bs)) ≡ fork_regions f e bs
regions_are f e join [] at = refl
regions_are f e join (b ∷ []) at = ap (λ k. record { fork = f; entry = e; last = k } ∷ []) (let last : join - 1 ≡ e + (body_of b).points = omega arith in last)
regions_are f e join (b ∷ c ∷ bs) at =
    let next = e + ((body_of b).points + 1) in
    ap (λ k. record { fork = f; entry = e; last = k } ∷ regions_of f join (next ∷ entries (next + ((body_of c).points + 1)) (map ended bs))) (let last : next - 1 ≡ e + (body_of b).points = omega arith in last)
    ∙ ap (λ rs. record { fork = f; entry = e; last = e + (body_of b).points } ∷ rs) (regions_are f next join (c ∷ bs) (omega arith))

-- where such a region lies
pub record IsBranch (f low high : ℕ) (r : Region) : Type 0 where
  pub fork : r.fork ≡ f
  pub entry : low ≤ r.entry
  pub order : r.entry ≤ r.last
  pub last : r.last < high

pub fork_branches : (f e low high : ℕ) (bs : List (Branch (Part ℕ))) → low ≤ e → e + total bs ≤ high → Each (IsBranch f low high) (fork_regions f e bs)
fork_branches f e low high [] l h = tt
fork_branches f e low high (b ∷ bs) l h =
    (record { fork = refl; entry = l; order = omega arith; last = omega arith }, fork_branches f (e + ((body_of b).points + 1)) low high bs (omega arith) (omega arith))

pub entries_within : (e low high : ℕ) (bs : List (Branch (Part ℕ))) → low ≤ e → e + total bs ≤ high → Each (λ t. (low ≤ t) × (t < high)) (entries e (map ended bs))
entries_within e low high [] l h = tt
entries_within e low high (b ∷ bs) l h = ((l, omega arith), entries_within (e + ((body_of b).points + 1)) low high bs (omega arith) (omega arith))

-- No other target is within a region.
abbrev pub Closed : ℕ → ℕ → Region → Type 0
Closed f t r = Off f r → IsInside r t → (t ≡ r.entry) × (f ≡ r.fork)

pub closed_low : (f e t : ℕ) (bs : List (Branch (Part ℕ))) → t ≤ e → Each (Closed f t) (fork_regions f e bs)
closed_low f e t [] h = tt
closed_low f e t (b ∷ bs) h = ((λ off inside. (omega arith, refl)), closed_low f (e + ((body_of b).points + 1)) t bs (omega arith))

pub closed_entries : (f e : ℕ) (bs : List (Branch (Part ℕ))) → Each (λ t. Each (Closed f t) (fork_regions f e bs)) (entries e (map ended bs))
closed_entries f e [] = tt
closed_entries f e (b ∷ bs) =
    let next = e + ((body_of b).points + 1) in (
      closed_low f e e (b ∷ bs) (omega arith),
      each_both (λ t. (next ≤ t) × (t < next + total bs)) (λ t. Each (Closed f t) (fork_regions f next bs)) (λ t. Each (Closed f t) (fork_regions f e (b ∷ bs))) (entries next (map ended bs))
          (λ t low rest. (let l = low.0 in ((λ off inside. absurd (let high = inside.high in omega arith)), rest))) (entries_within next next (next + total bs) bs (omega arith) (omega arith)) (closed_entries f next bs),
    )

pub closed_high : (f e t : ℕ) (bs : List (Branch (Part ℕ))) → e + total bs ≤ t → Each (Closed f t) (fork_regions f e bs)
closed_high f e t bs h = each_by (IsBranch f e (e + total bs)) (Closed f t) (fork_regions f e bs) (λ r is off inside. absurd (let high = inside.high in let last = is.last in omega arith)) (fork_branches f e e (e + total bs) bs (omega arith) (omega arith))

-- Entries ascend up to the join.
and_true : (p q : Bool) → p ≡ true → q ≡ true → (p && q) ≡ true
and_true true q a b = b
and_true false q a b = cc

lt_true : (a b : ℕ) → a < b → nat_lt a b ≡ true
lt_true a b h = grind (arith, nat_lt)

chain_behind : (x e join : ℕ) (bs : List (Branch (Part ℕ))) → x < e → join ≡ e + total bs → is_chain nat_lt (x ∷ (entries e (map ended bs) ++ join ∷ [])) ≡ true
chain_behind x e join [] h at = and_true (nat_lt x join) true (lt_true x join (omega arith)) refl
chain_behind x e join (b ∷ bs) h at =
    let next = e + ((body_of b).points + 1) in
    and_true (nat_lt x e) (is_chain nat_lt (e ∷ (entries next (map ended bs) ++ join ∷ []))) (lt_true x e h) (chain_behind e next join bs (omega arith) (omega arith))

pub chain_entries : (e join : ℕ) (bs : List (Branch (Part ℕ))) → join ≡ e + total bs → is_chain nat_lt (entries e (map ended bs) ++ join ∷ []) ≡ true
chain_entries e join [] at = refl
chain_entries e join (b ∷ bs) at = chain_behind e (e + ((body_of b).points + 1)) join bs (omega arith) (omega arith)

-- How many regions end at an index.
abbrev pub ends_at : ℕ → Region → ℕ
ends_at k r = cond (nat_eq r.last k) 1 0

pub ends_none : (k : ℕ) (rs : List Region) → Each (λ r. r.last ≢ k) rs → sum_by (ends_at k) rs ≡ 0
ends_none k [] is = refl
ends_none k (r ∷ rs) is =
    let rest = ends_none k rs is.1 in
    let here : ends_at k r ≡ 0 = ap (λ b. cond {A = ℕ} b 1 0) (ne_eqb r.last k is.0) in
    omega (arith, sum_by-cons (ends_at k) r rs)

pub ends_one : (k : ℕ) (r : Region) → r.last ≡ k → ends_at k r ≡ 1
ends_one k r e = ap (λ b. cond {A = ℕ} b 1 0) (eq-eqb r.last k e)

pub apart_ends : (b : Bool) (lo hi k : ℕ) (r : Region) → lo ≤ k → k < hi → Apart b lo hi r → r.last ≢ k
apart_ends b lo hi k r l h (round is below above) = omega arith
apart_ends b lo hi k r l h (before is) = omega arith
apart_ends b lo hi k r l h (behind is also) = omega arith
