-- Each parallel point stands for one that exists, and each number below the number of points is that of a point.
use Rattle.std.proofs.Common.{◌≡◌, ℕ, zero, suc, ◌+◌, ◌-◌, ◌<◌, ◌≤◌, List, [], ◌∷◌, length, get_or, take, map, sum, Bool, true, false, refl, sym, ap, ◌∙◌, subst, arith, Option, Some, None}
use Rattle.std.specs.Prelude.{nat_lt, slice_get, slice_index_or, Contains}
use Rattle.std.proofs.lemmas.Bool.{eqb-true, ltb-true, ltb-false}
use Rattle.std.proofs.lemmas.List.Sums.{sum-map, sum_by-cons}
use Rattle.std.proofs.lemmas.Option.{slice_get_within, slice_get-get_or}
use Rattle.dfi_base.specs.declared.numbers.Point.{Point}
use Rattle.dfi_base.specs.Bits as bits
use Rattle.tac_ir.specs.declared.code.Code.{Code}
use Rattle.tac_ir.specs.declared.code.Fun.{Fun}
use Rattle.tac_ir.specs.declared.code.Instr.{Instr}
use Rattle.tac_ir.specs.declared.code.Lined.{Lined}
use Rattle.tac_ir.specs.Layout.{lines_of, instr_at}
use Rattle.tac_ir.specs.Edges.{calls_fun}
use Rattle.tac_ir.specs.Numbers.{new_def}
use Rattle.tac_ir.specs.Regions.{Region, regions_in}
use Rattle.tac_ir.specs.Bodies.{InBody, Parallel}
use Rattle.tac_ir.specs.Bodies.InBody.{inside, called}
use Rattle.tac_ir.specs.Counts.{points_in_code}
use Rattle.tac_ir.specs.GoodForm.{GoodForm, IsGoodCode, IsGoodFork, ForksWell, NamesExist}
use Rattle.tac_ir.specs.GoodModule.{IsPoint}
use Rattle.tac_ir.proofs.Numbering.{has_line}
use Rattle.tac_ir.proofs.regions.Innermost.{none_listed}
use Rattle.tac_ir.proofs.regions.Nested.{bounds_of}
use Rattle.flow_rules.specs.PointNumber.{point_at, point_number}
use Rattle.flow_rules.specs.IsMhp.{IsMhp}
use Rattle.flow_rules.proofs.PointNumbers.{size}

-- Functions.

pub lines_are : (c : Code) (f : ℕ) (fun : Fun) → slice_get c.funs f ≡ Some fun → lines_of c f ≡ fun.code
lines_are c f fun is = ap (λ (o : Option Fun). elim o as (λ z. List Lined) [ None ↦ [] | Some x ↦ x.code ]) is

-- one with a region is there
has_lines : (c : Code) (f : ℕ) (r : Region) → Contains (regions_in (lines_of c f)) r → (fun : Fun) × (slice_get c.funs f ≡ Some fun)
has_lines c f r listed = by (slice_get c.funs f) refl listed
  where
    by : (o : Option Fun) → slice_get c.funs f ≡ o → Contains (regions_in (elim o as (λ z. List Lined) [ None ↦ [] | Some x ↦ x.code ])) r → (fun : Fun) × (slice_get c.funs f ≡ Some fun)
    by None is there = absurd (none_listed r there)
    by (Some fun) is there = (fun, is)

-- each has an instruction
pub enters : (c : Code) → GoodForm c → (f : ℕ) → f < length c.funs → (fun : Fun) → IsPoint c (point_at f 0)
enters c good f low d =
    let is = slice_get-get_or c.funs f d low in
    let last = (good.code f (get_or c.funs f d) is).last in
    let within = slice_get_within (get_or c.funs f d).code (length (get_or c.funs f d).code - 1) last.0 last.1 in
    omega (arith, within, ap length (lines_are c f (get_or c.funs f d) is))

-- and so has each that is called
pub called_enters : (c : Code) → GoodForm c → (p : Point) (f : ℕ) → calls_fun f (instr_at c p) ≡ true → IsPoint c (point_at f 0)
called_enters c good p f calls = by (instr_at c p) refl calls
  where
    by : (i : Instr) → instr_at c p ≡ i → calls_fun f i ≡ true → IsPoint c (point_at f 0)
    by (Instr.Call to g d args) is calls =
        let h = has_line new_def c p d refl (ap new_def is) in
        let names = subst (NamesExist c p.fun) (sym h.instr ∙ is) ((good.code p.fun h.fun h.function).instrs p.at h.line h.found).names in
        let same = eqb-true f g calls in
        enters c good f (let exists = names.exists in omega (arith, exists, same)) h.fun
    by i is calls = cc

-- Parallel points.

real_body : (c : Code) → GoodForm c → (f : ℕ) (r : Region) → Contains (regions_in (lines_of c f)) r → (q : Point) → InBody c f r q → (x : Point) × IsPoint c x × InBody c f r x
real_body c good f r listed q (inside p fun within) =
    let has = has_lines c f r listed in
    let lines = lines_are c f has.0 has.1 in
    let stop = (bounds_of c f (lines_of c f) (subst (IsGoodCode c f) (sym lines) (good.code f has.0 has.1)) r listed).stop in
    let last = slice_get_within (lines_of c f) r.last stop.0 stop.1 in
    let high = within.high in
    (p, omega (arith, high, last, ap (λ g. length (lines_of c g)) fun), inside p fun within)
real_body c good f r listed q (called caller p body calls) =
    (point_at p.fun 0, called_enters c good caller p.fun calls, called caller (point_at p.fun 0) body calls)

pub real_parallel : (c : Code) → GoodForm c → (p q : Point) → Parallel c p q → (x : Point) × IsPoint c x × Parallel c p x
real_parallel c good p q h =
    let x = real_body c good h.fun h.right h.right_region q h.right_body in (
      x.0,
      x.1,
      record {
        fun = h.fun;
        left = h.left;
        right = h.right;
        left_region = h.left_region;
        right_region = h.right_region;
        one_fork = h.one_fork;
        apart = h.apart;
        left_body = h.left_body;
        right_body = x.2;
      },
    )

-- Numbers.

-- which function and index, among functions
record IsPlaceOf (funs : List Fun) (n : ℕ) : Type 0 where
  fun : ℕ
  at : ℕ
  item : Fun
  found : slice_get funs fun ≡ Some item
  low : at < length item.code
  number : sum (map size (take fun funs)) + at ≡ n

place_in : (funs : List Fun) (n : ℕ) → n < sum (map size funs) → IsPlaceOf funs n
place_in [] n low = absurd (omega (arith, low))
place_in (x ∷ funs) n low = by (nat_lt n (length x.code)) refl (λ high. place_in funs (n - length x.code) (omega (arith, low, high, cons funs)))
  where
    cons : (xs : List Fun) → sum (map size (x ∷ xs)) ≡ size x + sum (map size xs)
    cons xs = sum-map size (x ∷ xs) ∙ sum_by-cons size x xs ∙ ap (λ k. size x + k) (sym (sum-map size xs))

    by : (b : Bool) → nat_lt n (length x.code) ≡ b → (length x.code ≤ n → IsPlaceOf funs (n - length x.code)) → IsPlaceOf (x ∷ funs) n
    by true is rest = record { fun = 0; at = n; item = x; found = refl; low = ltb-true n (length x.code) is; number = omega arith }
    by false is rest =
        let high : length x.code ≤ n = omega (arith, ltb-false n (length x.code) is) in
        let r = rest high in
        let number = r.number in
        record { fun = suc r.fun; at = r.at; item = r.item; found = r.found; low = r.low; number = omega (arith, number, high, cons (take r.fun funs)) }

pub point_of_number : (c : Code) (n : ℕ) → n < points_in_code c → (p : Point) × IsPoint c p × (point_number c p ≡ n)
point_of_number c n low =
    let r = place_in c.funs n low in
    let low = r.low in
    (point_at r.fun r.at, omega (arith, low, ap length (lines_are c r.fun r.item r.found)), r.number)

-- A point has no parallel point where its row is empty, and only there.

pub row_is : (rows : List (List Bool)) (n : ℕ) (d : List Bool) → n < length rows → slice_index_or rows n d ≡ slice_index_or rows n []
row_is [] n d low = absurd (omega (arith, low))
row_is (x ∷ rows) zero d low = refl
row_is (x ∷ rows) (suc n) d low = row_is rows n d (omega (arith, low))

pub none_beside : (c : Code) → GoodForm c → (rows : List (List Bool)) → IsMhp c rows → (p : Point) → IsPoint c p → ((k : ℕ) → bits.has (slice_index_or rows (point_number c p) []) k ≡ false)
    → (q : Point) → Parallel c p q → ⊥
none_beside c good rows mhp p real none q h =
    let x = real_parallel c good p q h in
    let here = (mhp.meets_parallel p x.0 real x.1).1 x.2 in
    let there = none (point_number c x.0) in
    cc

has_below : (row : List Bool) (k : ℕ) → bits.has row k ≡ true → k < length row
has_below [] k h = cc
has_below (b ∷ row) zero h = omega arith
has_below (b ∷ row) (suc k) h = omega (arith, has_below row k h)

pub one_beside : (c : Code) (rows : List (List Bool)) → IsMhp c rows → (p : Point) → IsPoint c p → length (slice_index_or rows (point_number c p) []) ≡ length rows
    → (k : ℕ) → bits.has (slice_index_or rows (point_number c p) []) k ≡ true → (q : Point) × Parallel c p q
one_beside c rows mhp p real long k h =
    let low = has_below (slice_index_or rows (point_number c p) []) k h in
    let x = point_of_number c k (omega (arith, low, long, mhp.count)) in
    (x.0, (mhp.meets_parallel p x.0 real x.1).0 (ap (bits.has (slice_index_or rows (point_number c p) [])) x.2 ∙ h))

-- Forks.

-- the instruction at a point, if it is not `End`, is one of a function
pub fork_at : (c : Code) → GoodForm c → (p : Point) (join : ℕ) (entries : List ℕ) → instr_at c p ≡ Instr.Fork join entries → IsGoodFork (lines_of c p.fun) p.at join entries
fork_at c good p join entries is = by (slice_get c.funs p.fun) refl is
  where
    in_line : (fun : Fun) → slice_get c.funs p.fun ≡ Some fun → (o : Option Lined) → slice_get fun.code p.at ≡ o → elim o as (λ z. Instr) [ None ↦ Instr.End | Some l ↦ l.instr ] ≡ Instr.Fork join entries
        → IsGoodFork fun.code p.at join entries
    in_line fun function None found is = cc
    in_line fun function (Some l) found is = subst (ForksWell fun.code p.at) is ((good.code p.fun fun function).instrs p.at l found).fork

    by : (o : Option Fun) → slice_get c.funs p.fun ≡ o
        → elim (slice_get (elim o as (λ z. List Lined) [ None ↦ [] | Some fun ↦ fun.code ]) p.at) as (λ z. Instr) [ None ↦ Instr.End | Some l ↦ l.instr ] ≡ Instr.Fork join entries
        → IsGoodFork (elim o as (λ z. List Lined) [ None ↦ [] | Some fun ↦ fun.code ]) p.at join entries
    by None function is = cc
    by (Some fun) function is = in_line fun function (slice_get fun.code p.at) refl is
