-- Members and rows in order, told by tests and told by what each leaves behind.
use Rattle.std.proofs.Common.{◌≡◌, ℕ, zero, suc, ◌<◌, ◌≤◌, ◌⊎◌, inl, inr, Bool, true, false, ◌&&◌, List, [], ◌∷◌, map, refl, sym, ap, subst, ◌∙◌, arith}
use Rattle.std.specs.Prelude.{nat_lt, nat_eq, if◌then◌else◌}
use Rattle.std.specs.List.{list_all}
use Rattle.std.proofs.lemmas.Bool.{ltb-true, lt-ltb, eqb-true, eq-eqb}
use Rattle.dfi_base.specs.declared.numbers.Point.{Point}
use Rattle.tac_ir.specs.declared.module.Key.{Key}
use Rattle.tac_ir.specs.declared.module.PointsRow.{PointsRow}
use Rattle.tac_ir.specs.declared.module.ReachRow.{ReachRow}
use Rattle.tac_ir.specs.Module.{is_chain, pair_before, key_before, point_before, is_row}
use Rattle.line_format.specs.Lines.{greatest, Fit}
use Rattle.line_format.specs.tools.Keys.{Pair, after_pair}
use Rattle.line_format.proofs.Digits.{false_true}
use Rattle.line_format.proofs.Pairs.{From, Before, from_after, after_by}
use Rattle.line_format.proofs.Keyed.{AreSome, AreRows}
use Rattle.text_law.specs.IsModule.{Are32Bits, IsKey, IsPointsRow, IsReachRow, Each}
use Rattle.text_law.specs.tools.Keys.{NextKey, temps, nodes, next_key, next_point, point_key, key}
use Rattle.text_law.specs.tools.Whole.{points_row, reach_row}
use Rattle.text_law.proofs.Keys.{FromPoint, PointRoom, point_text, OpenKey, FromKey, KeyRoom, key_text}
use Rattle.line_format.proofs.Pairs.{Open}

both : (a b : Bool) → a && b ≡ true → (a ≡ true) × (b ≡ true)
both true b e = (refl, e)
both false b e = false_true e

joined : {a b : Bool} → a ≡ true → b ≡ true → a && b ≡ true
joined {b = b} e f = ap (λ z. z && b) e ∙ f

-- ---- members

pub rising_is : (least : ℕ) (xs : List ℕ) → Fit true least xs → Are32Bits xs × (is_chain nat_lt xs ≡ true)
rising_is least [] fit = (tt, refl)
rising_is least (x ∷ []) (low, high, u) = ((omega arith, high, tt), refl)
rising_is least (x ∷ y ∷ ys) (low, high, up) =
    let (small, e) = rising_is (suc x) (y ∷ ys) up in
    ((omega arith, high, small), joined (lt-ltb x y up.0) e)

pub is_rising : (least : ℕ) (x : ℕ) (xs : List ℕ) → least ≤ x → Are32Bits (x ∷ xs) → is_chain nat_lt (x ∷ xs) ≡ true → Fit true least (x ∷ xs)
is_rising least x [] low small e = (low, small.1, tt)
is_rising least x (y ∷ ys) low small e =
    let (f, g) = both (nat_lt x y) (is_chain nat_lt (y ∷ ys)) e in
    (low, small.1, is_rising (suc x) y ys (let h : suc x ≤ y = omega (arith, ltb-true x y f) in h) small.2 g)

pub set_rising : (xs : List ℕ) → Are32Bits xs → is_chain nat_lt xs ≡ true → Fit true 0 xs
set_rising [] small e = tt
set_rising (x ∷ xs) small e = is_rising 0 x xs (omega arith) small e

pub row_is : (xs : List ℕ) → AreSome xs → Are32Bits xs × (is_row xs ≡ true)
row_is [] i = absurd i
row_is (x ∷ xs) fit = let (small, e) = rising_is 0 (x ∷ xs) fit in (small, e)

pub is_some_row : (xs : List ℕ) → Are32Bits xs → is_row xs ≡ true → AreSome xs
is_some_row [] small e = false_true e
is_some_row (x ∷ xs) small e = is_rising 0 x xs (omega arith) small e

-- ---- pairs

before_true : (k j : Pair) → Before k j → pair_before k.0 k.1 j.0 j.1 ≡ true
before_true k j (inl h) = ap (λ b. if b then true else (nat_eq k.0 j.0 && nat_lt k.1 j.1)) (lt-ltb k.0 j.0 h)
before_true k j (inr (e, h)) = by (nat_lt k.0 j.0)
  where
    by : (b : Bool) → (if b then true else (nat_eq k.0 j.0 && nat_lt k.1 j.1)) ≡ true
    by true = refl
    by false = joined (eq-eqb k.0 j.0 e) (lt-ltb k.1 j.1 h)

true_before : (k j : Pair) → pair_before k.0 k.1 j.0 j.1 ≡ true → Before k j
true_before k j e = by (nat_lt k.0 j.0) refl e
  where
    by : (b : Bool) → nat_lt k.0 j.0 ≡ b → (if b then true else (nat_eq k.0 j.0 && nat_lt k.1 j.1)) ≡ true → Before k j
    by true f e = inl (ltb-true k.0 j.0 f)
    by false f e = let (g, h) = both (nat_eq k.0 j.0) (nat_lt k.1 j.1) e in inr (eqb-true k.0 j.0 g, ltb-true k.1 j.1 h)

from_before : (k j : Pair) → j.0 ≤ greatest → j.1 ≤ greatest → Before k j → From (after_pair k) j
from_before k j a b before = by (after_by k (nat_lt k.1 greatest) refl)
  where
    by : ((k.1 < greatest) × (after_pair k ≡ (k.0, suc k.1))) ⊎ ((greatest ≤ k.1) × (after_pair k ≡ (suc k.0, 0))) → From (after_pair k) j
    by (inl (h, e)) = subst (λ z. From z j) (sym e) (grind (arith, before), a, b)
    by (inr (h, e)) = subst (λ z. From z j) (sym e) (grind (arith, before, b, h), a, b)

pub from_first : (k : Pair) → k.0 ≤ greatest → k.1 ≤ greatest → From (0, 0) k
from_first (zero, t) a b = (inr (refl, omega arith), a, b)
from_first (suc f, t) a b = (inl (omega arith), a, b)

-- ---- keys

key_small : (s : NextKey) (k : Key) → FromKey s k → IsKey k
key_small (temps least) (Key.Temp f t) i = (i.1, i.2)
key_small (temps least) (Key.Node n) i = i
key_small (nodes least) (Key.Temp f t) i = absurd i
key_small (nodes least) (Key.Node n) i = i.1

pub key_first : (k : Key) → IsKey k → FromKey (temps (0, 0)) k
key_first (Key.Temp f t) i = from_first (f, t) i.0 i.1
key_first (Key.Node n) i = i

key_after : (s : NextKey) (k j : Key) → FromKey s k → FromKey (next_key k) j → key_before k j ≡ true
key_after s (Key.Temp f t) (Key.Temp g u) i j = before_true (f, t) (g, u) (from_after (f, t) (g, u) (key_small s (Key.Temp f t) i).1 j.2 j)
key_after s (Key.Temp f t) (Key.Node n) i j = refl
key_after s (Key.Node n) (Key.Temp g u) i j = absurd j
key_after s (Key.Node n) (Key.Node m) i j = lt-ltb n m j.0

after_key : (k j : Key) → IsKey j → key_before k j ≡ true → FromKey (next_key k) j
after_key (Key.Temp f t) (Key.Temp g u) i e = from_before (f, t) (g, u) i.0 i.1 (true_before (f, t) (g, u) e)
after_key (Key.Temp f t) (Key.Node n) i e = i
after_key (Key.Node n) (Key.Temp g u) i e = false_true e
after_key (Key.Node n) (Key.Node m) i e = (let h : suc n ≤ m = omega (arith, ltb-true n m e) in h, i)

-- ---- rows

PointsRows : NextKey → List (Key × List ℕ) → Type 0
PointsRows s xs = AreRows key next_key OpenKey FromKey KeyRoom key_text s xs

pub points_are : (s : NextKey) (xs : List (Key × List ℕ)) → AreRows key next_key OpenKey FromKey KeyRoom key_text s xs
    → Each IsPointsRow (map points_row xs) × (list_all (λ r. is_row r.nodes) (map points_row xs) ≡ true) × (is_chain (λ a b. key_before a.key b.key) (map points_row xs) ≡ true)
points_are s [] i = (tt, refl, refl)
points_are s ((k, ms) ∷ []) (i, some, is) = let (small, e) = row_is ms some in (((key_small s k i, small), tt), joined e refl, refl)
points_are s ((k, ms) ∷ (j, ns) ∷ xs) (i, some, is) =
    let (small, e) = row_is ms some in
    let (each, rows, chain) = points_are (next_key k) ((j, ns) ∷ xs) is in
    (((key_small s k i, small), each), joined e rows, joined (key_after s k j i is.0) chain)

pub are_points : (s : NextKey) (k : Key) (ms : List ℕ) (rows : List PointsRow) → FromKey s k → Are32Bits ms → is_row ms ≡ true → Each IsPointsRow rows → list_all (λ r. is_row r.nodes) rows ≡ true
    → is_chain (λ a b. key_before a.key b.key) (points_row (k, ms) ∷ rows) ≡ true → AreRows key next_key OpenKey FromKey KeyRoom key_text s ((k, ms) ∷ map (λ r. (r.key, r.nodes)) rows)
are_points s k ms [] i small e each all chain = (i, is_some_row ms small e, tt)
are_points s k ms (r ∷ rows) i small e ((ik, smalls), each) all chain =
    let (f, rest) = both (is_row r.nodes) (list_all (λ q. is_row q.nodes) rows) all in
    let (g, more) = both (key_before k r.key) (is_chain (λ a b. key_before a.key b.key) (r ∷ rows)) chain in
    (i, is_some_row ms small e, are_points (next_key k) r.key r.nodes rows (after_key k r.key ik g) smalls f each rest more)

pub reach_are : (s : Pair) (xs : List (Point × List ℕ)) → AreRows point_key next_point Open FromPoint PointRoom point_text s xs
    → Each IsReachRow (map reach_row xs) × (list_all (λ r. is_row r.facts) (map reach_row xs) ≡ true) × (is_chain (λ a b. point_before a.point b.point) (map reach_row xs) ≡ true)
reach_are s [] i = (tt, refl, refl)
reach_are s ((p, ms) ∷ []) (i, some, is) = let (small, e) = row_is ms some in ((((i.1, i.2), small), tt), joined e refl, refl)
reach_are s ((p, ms) ∷ (q, ns) ∷ xs) (i, some, is) =
    let (small, e) = row_is ms some in
    let (each, rows, chain) = reach_are (next_point p) ((q, ns) ∷ xs) is in
    let j : FromPoint (next_point p) q = is.0 in
    ((((i.1, i.2), small), each), joined e rows, joined (before_true (p.fun, p.at) (q.fun, q.at) (from_after (p.fun, p.at) (q.fun, q.at) i.2 j.2 j)) chain)

pub are_reach : (s : Pair) (p : Point) (ms : List ℕ) (rows : List ReachRow) → FromPoint s p → Are32Bits ms → is_row ms ≡ true → Each IsReachRow rows → list_all (λ r. is_row r.facts) rows ≡ true
    → is_chain (λ a b. point_before a.point b.point) (reach_row (p, ms) ∷ rows) ≡ true → AreRows point_key next_point Open FromPoint PointRoom point_text s ((p, ms) ∷ map (λ r. (r.point, r.facts)) rows)
are_reach s p ms [] i small e each all chain = (i, is_some_row ms small e, tt)
are_reach s p ms (r ∷ rows) i small e ((ip, smalls), each) all chain =
    let (f, rest) = both (is_row r.facts) (list_all (λ q. is_row q.facts) rows) all in
    let (g, more) = both (point_before p r.point) (is_chain (λ a b. point_before a.point b.point) (r ∷ rows)) chain in
    let j : FromPoint (next_point p) r.point = from_before (p.fun, p.at) (r.point.fun, r.point.at) ip.0 ip.1 (true_before (p.fun, p.at) (r.point.fun, r.point.at) g) in
    (i, is_some_row ms small e, are_reach (next_point p) r.point r.facts rows j smalls f each rest more)
