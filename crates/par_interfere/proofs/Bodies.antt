-- The body of a branch is its region and the functions that are called from there; and rows that are joined of these are those of parallel points.
use Rattle.std.proofs.Common.{◌≡◌, ℕ, suc, ◌+◌, ◌≤◌, inl, inr, Bool, true, not, List, [], ◌∷◌, length, refl, sym, ap, subst, ◌∙◌, arith, Option, Some, None, true≢false, Contains}
use Rattle.std.specs.Prelude.{slice_get, slice_index_or, nat_eq, nat_le, ◌&&◌}
use Rattle.std.proofs.lemmas.Bool.{eqb-true, eq-eqb, ne_eqb, le-leb}
use Rattle.std.proofs.lemmas.Option.{slice_get_within}
use Rattle.std.proofs.lemmas.List.Elements.{Contains-append_cases}
use Rattle.dfi_base.specs.Bits.{has}
use Rattle.dfi_base.specs.declared.numbers.Point.{Point}
use Rattle.tac_ir.specs.declared.code.Code.{Code}
use Rattle.tac_ir.specs.declared.code.Instr.{Instr}
use Rattle.tac_ir.specs.declared.code.Lined.{Lined}
use Rattle.tac_ir.specs.Layout.{lines_of, instr_at}
use Rattle.tac_ir.specs.Edges.{calls_fun}
use Rattle.tac_ir.specs.Regions.{Region, regions_by, regions_from, regions_in, IsInside}
use Rattle.tac_ir.specs.Bodies.{InBody, Parallel}
use Rattle.tac_ir.specs.Bodies.InBody.{inside, called}
use Rattle.tac_ir.specs.GoodModule.{IsPoint}
use Rattle.tac_ir.proofs.regions.Innermost.{none_listed}
use Rattle.flow_rules.specs.PointNumber.{point_at, point_number}
use Rattle.flow_rules.specs.CanCall.{CanCall}
use Rattle.flow_rules.specs.CanCall.CanCall.{one as one_call, more as one_call_more}
use Rattle.flow_rules.specs.IsMhp.{IsMhp, meets}
use Rattle.flow_rules.proofs.PointNumbers.{number_below}
use Rattle.par_interfere.specs.declared.branches.Branch.{Branch}
use Rattle.par_interfere.specs.tools.Points.{ArePoints}
use Rattle.par_interfere.specs.tools.Calls.{CallsFrom}
use Rattle.par_interfere.specs.tools.Branches.{AreBranches, HasBranch, IsBranch, are_beside, has_point, is_around, region_of}
use Rattle.par_interfere.specs.tools.Rows.{AreBesidePoints, AreBodies, AreOthers, HasSome}
use Rattle.par_interfere.proofs.Listed.{each_of, either, or_first, or_second, and_parts, and_whole}
use Rattle.par_interfere.proofs.PointLists.{listed}
use Rattle.par_interfere.proofs.CallTables.{real_call, between}

-- Bodies.

true_leb : (a b : ℕ) → a ≤ b → nat_le a b ≡ true
true_leb a b low = le-leb a b low

around_inside : (b : Branch) (p : Point) → is_around b p ≡ true → (p.fun ≡ b.fun) × IsInside (region_of b) p.at
around_inside b p is = (let k = between p b.fun b.entry b.last is in (k.fun, record { low = k.after; high = k.before }))

inside_around : (b : Branch) (p : Point) → p.fun ≡ b.fun → IsInside (region_of b) p.at → is_around b p ≡ true
inside_around b p fun within =
    and_whole (nat_eq p.fun b.fun) (nat_le b.entry p.at && nat_le p.at b.last) (eq-eqb p.fun b.fun fun)
    (and_whole (nat_le b.entry p.at) (nat_le p.at b.last) (true_leb b.entry p.at within.low) (true_leb p.at b.last within.high))

-- where a body has all of function f, it has all of each function that can be called from there
spread : (c : Code) (home f g : ℕ) (r : Region) → ((x : Point) → x.fun ≡ f → InBody c home r x) → CanCall c f g → (x : Point) → x.fun ≡ g → InBody c home r x
spread c home f g r all (one_call p g2 fun calls) x is = called p x (all p fun) (subst (λ k. calls_fun k (instr_at c p) ≡ true) (sym is) calls)
spread c home f g r all (one_call_more p g2 left calls) x is =
    called p x (spread c home f p.fun r all left p refl) (subst (λ k. calls_fun k (instr_at c p) ≡ true) (sym is) calls)

pub in_body : (c : Code) (points : List Point) (b : Branch) → IsBranch c points b → (p : Point) → has_point b p ≡ true → InBody c b.fun (region_of b) p
in_body c points b h p is = elim (either (is_around b p) (has b.called p.fun) is) [
  | inl around ↦ (let w = around_inside b p around in inside p w.0 w.1)
  | inr had ↦ from ((h.called p.fun).0 had)
]
  where
    from : CallsFrom c points (length points) b.fun b.entry b.last p.fun → InBody c b.fun (region_of b) p
    from k =
        let all : (x : Point) → x.fun ≡ k.callee → InBody c b.fun (region_of b) x
        = λ x same. called k.point x (inside k.point k.fun (record { low = k.after; high = k.before })) (subst (λ g. calls_fun g (instr_at c k.point) ≡ true) (sym same) k.calls) in
        elim k.leads [ inl same ↦ all p (sym same) | inr leads ↦ spread c b.fun k.callee p.fun (region_of b) all leads p refl ]

pub body_has : (c : Code) (points : List Point) → ArePoints c points → (b : Branch) → IsBranch c points b → (p : Point) → InBody c b.fun (region_of b) p → has_point b p ≡ true
body_has c points all b h p (inside p2 fun within) = or_first (is_around b p) (has b.called p.fun) (inside_around b p fun within)
body_has c points all b h p (called q p2 body calls) =
    or_second (is_around b p) (has b.called p.fun) ((h.called p.fun).1
    (elim (either (is_around b q) (has b.called q.fun) (body_has c points all b h q body)) [ inl around ↦ at_once around | inr had ↦ onward ((h.called q.fun).0 had) ]))
  where
    at_once : is_around b q ≡ true → CallsFrom c points (length points) b.fun b.entry b.last p.fun
    at_once around =
        let real = real_call c q p.fun calls in
        let w = around_inside b q around in
        record {
          number = point_number c q;
          point = q;
          low = (let count = all.count in omega (arith, count, number_below c q real));
          listed = listed c points all q real;
          fun = w.0;
          after = w.1.low;
          before = w.1.high;
          callee = p.fun;
          calls = calls;
          leads = inl refl;
        }

    onward : CallsFrom c points (length points) b.fun b.entry b.last q.fun → CallsFrom c points (length points) b.fun b.entry b.last p.fun
    onward k = record {
      number = k.number;
      point = k.point;
      low = k.low;
      listed = k.listed;
      fun = k.fun;
      after = k.after;
      before = k.before;
      callee = k.callee;
      calls = k.calls;
      leads = inr (elim k.leads [ inl same ↦ one_call q p.fun (sym same) calls | inr leads ↦ one_call_more q p.fun leads calls ]);
    }

-- Branches.

-- the fork of a region
record HasFork (code : List Lined) (q : ℕ) (r : Region) : Type 0 where
  at : ℕ
  line : Lined
  found : slice_get code at ≡ Some line
  here : Contains (regions_by (q + at) line.instr) r

fork_of : (q : ℕ) (code : List Lined) (r : Region) → Contains (regions_from q code) r → HasFork code q r
fork_of q [] r there = absurd (none_listed r there)
fork_of q (l ∷ code) r there = elim (Contains-append_cases (regions_by q l.instr) (regions_from (suc q) code) r there) [
  | inl first ↦ (let same : q ≡ q + 0 = omega arith in record { at = 0; line = l; found = refl; here = subst (λ n. Contains (regions_by n l.instr) r) same first })
  | inr later ↦
      let h = fork_of (suc q) code r later in
      let same : suc q + h.at ≡ q + suc h.at = omega arith in
      record { at = suc h.at; line = h.line; found = h.found; here = subst (λ n. Contains (regions_by n h.line.instr) r) same h.here }
]

has_branch : (c : Code) (points : List Point) → ArePoints c points → (branches : List Branch) → AreBranches c points (length points) branches → (f : ℕ) (r : Region)
    → Contains (regions_in (lines_of c f)) r → HasBranch branches f r
has_branch c points all branches h f r there =
    let k = fork_of 0 (lines_of c f) r there in
    let p = point_at f k.at in
    let real : IsPoint c p = slice_get_within (lines_of c f) k.at k.line k.found in
    let instr : instr_at c p ≡ k.line.instr = ap (λ (o : Option Lined). elim o [ None ↦ Instr.End | Some lined ↦ lined.instr ]) k.found in
    h.all (point_number c p) p r (let count = all.count in omega (arith, count, number_below c p real)) (listed c points all p real)
    (subst (λ i. Contains (regions_by k.at i) r) (sym instr) (subst (λ n. Contains (regions_by n k.line.instr) r) (let none : 0 + k.at ≡ k.at = omega arith in none) k.here))

-- The whole.

record AreApart (a b : Branch) : Type 0 where
  fun : a.fun ≡ b.fun
  fork : a.fork ≡ b.fork
  entry : a.entry ≡ b.entry → ⊥

apart : (a b : Branch) → are_beside a b ≡ true → AreApart a b
apart a b is =
    let parts = and_parts (nat_eq a.fun b.fun) (nat_eq a.fork b.fork && not (nat_eq a.entry b.entry)) is in
    let rest = and_parts (nat_eq a.fork b.fork) (not (nat_eq a.entry b.entry)) parts.1 in
    record {
      fun = eqb-true a.fun b.fun parts.0;
      fork = eqb-true a.fork b.fork rest.0;
      entry = λ same. true≢false (sym rest.1 ∙ ap not (eq-eqb a.entry b.entry same));
    }

beside : (a b : Branch) → a.fun ≡ b.fun → a.fork ≡ b.fork → (a.entry ≡ b.entry → ⊥) → are_beside a b ≡ true
beside a b fun fork entry =
    and_whole (nat_eq a.fun b.fun) (nat_eq a.fork b.fork && not (nat_eq a.entry b.entry)) (eq-eqb a.fun b.fun fun)
    (and_whole (nat_eq a.fork b.fork) (not (nat_eq a.entry b.entry)) (eq-eqb a.fork b.fork fork) (ap not (ne_eqb a.entry b.entry entry)))

pub is_mhp : (c : Code) (points : List Point) → ArePoints c points → (branches : List Branch) → AreBranches c points (length points) branches → (bodies others rows : List (List Bool))
    → AreBodies points branches bodies → AreOthers (length points) branches bodies others → AreBesidePoints points branches others rows → IsMhp c rows
is_mhp c points all branches found bodies others rows in_bodies beside_each beside_points = record {
  count = beside_points.shape.height ∙ all.count;
  meets_parallel = λ p q here there. (parallel p q here there, meeting p q here there);
}
  where
    branch_is : (i : ℕ) (b : Branch) → slice_get branches i ≡ Some b → IsBranch c points b
    branch_is i b is = each_of (IsBranch c points) branches i b found.each is

    body_at : (i : ℕ) (b : Branch) → slice_get branches i ≡ Some b → (q : Point) → IsPoint c q → has (slice_index_or bodies i []) (point_number c q) ≡ has_point b q
    body_at i b is q real = (in_bodies.each i b is).each (point_number c q) q (listed c points all q real)

    parallel : (p q : Point) → IsPoint c p → IsPoint c q → meets rows c p q ≡ true → Parallel c p q
    parallel p q here there had =
        let one = (beside_points.each (point_number c p) p (listed c points all p here) (point_number c q)).0 had in
        let two = (beside_each.each one.number one.item one.listed (point_number c q)).0 one.here in
        let a = branch_is one.number one.item one.listed in
        let b = branch_is two.number two.item two.listed in
        let k = apart one.item two.item two.passes in
        record {
          fun = one.item.fun;
          left = region_of one.item;
          right = region_of two.item;
          left_region = a.region;
          right_region = subst (λ f. Contains (regions_in (lines_of c f)) (region_of two.item)) (sym k.fun) b.region;
          one_fork = k.fork;
          apart = k.entry;
          left_body = in_body c points one.item a p one.passes;
          right_body = subst (λ f. InBody c f (region_of two.item) q) (sym k.fun)
              (in_body c points two.item b q (sym (body_at two.number two.item two.listed q there) ∙ two.here));
        }

    meeting : (p q : Point) → IsPoint c p → IsPoint c q → Parallel c p q → meets rows c p q ≡ true
    meeting p q here there h =
        let a = has_branch c points all branches found h.fun h.left h.left_region in
        let b = has_branch c points all branches found h.fun h.right h.right_region in
        let left : InBody c a.branch.fun (region_of a.branch) p = subst (λ f. InBody c f (region_of a.branch) p) (sym a.fun) (subst (λ r. InBody c h.fun r p) (sym a.region) h.left_body) in
        let right : InBody c b.branch.fun (region_of b.branch) q = subst (λ f. InBody c f (region_of b.branch) q) (sym b.fun) (subst (λ r. InBody c h.fun r q) (sym b.region) h.right_body) in
        let fork = ap (λ (r : Region). r.fork) a.region ∙ h.one_fork ∙ sym (ap (λ (r : Region). r.fork) b.region) in
        let entry : a.branch.entry ≡ b.branch.entry → ⊥ = λ same. h.apart (sym (ap (λ (r : Region). r.entry) a.region) ∙ same ∙ ap (λ (r : Region). r.entry) b.region) in
        let other : HasSome (are_beside a.branch) branches bodies (length branches) (point_number c q) = record {
          number = b.number;
          item = b.branch;
          low = slice_get_within branches b.number b.branch b.listed;
          listed = b.listed;
          passes = beside a.branch b.branch (a.fun ∙ sym b.fun) fork entry;
          here = body_at b.number b.branch b.listed q there ∙ body_has c points all b.branch (branch_is b.number b.branch b.listed) q right;
        } in
        (beside_points.each (point_number c p) p (listed c points all p here) (point_number c q)).1 (record {
          number = a.number;
          item = a.branch;
          low = slice_get_within branches a.number a.branch a.listed;
          listed = a.listed;
          passes = body_has c points all a.branch (branch_is a.number a.branch a.listed) p left;
          here = (beside_each.each a.number a.branch a.listed (point_number c q)).1 other;
        })
