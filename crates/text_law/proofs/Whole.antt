-- A module beside its text.
use Rattle.std.proofs.Common.{◌≡◌, ℕ, suc, ◌<◌, ◌≤◌, Bool, true, false, ◌&&◌, List, [], ◌∷◌, ◌++◌, length, map, refl, sym, ap, subst, ◌∙◌, arith}
use Rattle.std.specs.Prelude.{codes, nat_lt}
use Rattle.std.specs.List.{list_all}
use Rattle.std.specs.Fmt.{decimal}
use Rattle.dfi_base.specs.declared.numbers.Point.{Point}
use Rattle.tac_ir.specs.declared.module.Size.{Size}
use Rattle.tac_ir.specs.declared.module.Key.{Key}
use Rattle.tac_ir.specs.declared.module.PointsRow.{PointsRow}
use Rattle.tac_ir.specs.declared.module.ReachRow.{ReachRow}
use Rattle.tac_ir.specs.Module.{Module, is_chain, key_before, point_before, is_row}
use Rattle.line_format.specs.Lines.{greatest, Fit, line, lines}
use Rattle.line_format.specs.tools.Format.{Has, read, done}
use Rattle.line_format.specs.tools.Answers.{Tells, read_all}
use Rattle.line_format.specs.tools.Words.{one_of}
use Rattle.line_format.proofs.Laws.{Law}
use Rattle.line_format.proofs.Formats.{exact}
use Rattle.line_format.proofs.Spelling.{word_text, word_is, word_good}
use Rattle.line_format.proofs.Tables.{In, one_is, one_good}
use Rattle.line_format.proofs.OneWord.{has_of}
use Rattle.line_format.proofs.Digits.{false_true}
use Rattle.line_format.proofs.Spells.{Spells, any_spells, behind}
use Rattle.line_format.proofs.Keyed.{AreRows, AreSome, rows_text, some_text, keyed}
use Rattle.line_format.proofs.Pairs.{Open}
use Rattle.line_format.proofs.Whole as told
use Rattle.text_law.specs.ModuleText as text
use Rattle.text_law.specs.IsModule.{Is32Bits, Are32Bits, IsModule, IsCode, IsPointsRow, IsReachRow, Each, Counted}
use Rattle.text_law.specs.IsText.{IsText}
use Rattle.text_law.specs.tools.Instrs as instr_form
use Rattle.text_law.specs.tools.Parts as part_form
use Rattle.text_law.specs.tools.Keys as key_form
use Rattle.text_law.specs.tools.Keys.{temps}
use Rattle.text_law.specs.tools.Whole as form
use Rattle.text_law.proofs.Basics.{plain, pair, table, in_nth, Rows, row_in, retold}
use Rattle.text_law.proofs.Instructions.{spaced, numbers_line}
use Rattle.text_law.proofs.Parts.{code, classes, section}
use Rattle.text_law.proofs.Keys.{OpenKey, FromKey, KeyRoom, key_text, keys, FromPoint, PointRoom, point_text, points}
use Rattle.text_law.proofs.Orders.{rising_is, set_rising, points_are, are_points, reach_are, are_reach, key_first, from_first}

n10 : Spells (instr_form.number 10) Is32Bits (λ n r. decimal n ++ 10 ∷ r)
n10 = plain 10 refl

-- ---- the first line

abbrev size_text : Size → List ℕ
size_text s = codes "dfimod " ++ text.version s

size : Spells (one_of form.sizes) (λ s. Unit {0}) (λ s r. size_text s ++ 10 ∷ r)
size = table form.sizes (λ s. Unit {0}) size_text 10 tt refl ((tt, refl), ((tt, refl), tt)) (λ s i. each s)
  where
    each : (s : Size) → In (size_text s ++ 10 ∷ []) s form.sizes
    each Size.Small = in_nth 0 refl
    each Size.Large = in_nth 1 refl

-- ---- sets

abbrev IsCheck : List ℕ → Bool → Type 0
IsCheck w b = (w ≡ text.check_word b) × (0 < length w)

check_rows : Rows IsCheck part_form.check_words
check_rows = ((refl, omega arith), ((refl, omega arith), tt))

check_in : (b : Bool) → In (text.check_word b) b part_form.check_words
check_in false = in_nth 0 refl
check_in true = in_nth 1 refl

check : Spells (one_of part_form.check_words) (λ b. Unit {0}) (λ b r. text.check_word b ++ r)
check = record {
  good = one_good part_form.check_words tt;
  has = λ b i r. has_of (text.check_word b) b part_form.check_words refl (λ w c j. (row_in IsCheck check_rows j).1) (check_in b) r;
  is = λ ts b r h. let (w, j, t) = one_is h in (tt, t ∙ ap (λ z. z ++ r) (row_in IsCheck check_rows j).0);
}

set : Spells part_form.set (λ r. Unit {0} × Fit true 0 r.1) (λ p r. line (text.set_words p) r)
set = retold (pair check (any_spells [] 32 10 true spaced)) (λ p i r. numbers_line (text.check_word p.0) p.1 r)

sets : Spells (part_form.section (codes "reads ") part_form.set) (Counted (λ r. Unit {0} × Fit true 0 r.1)) (λ xs r. text.section (codes "reads") text.set_words xs r)
sets = section text.set_words set (codes "reads")

-- ---- rows

points_line : (k : Key) (ms r : List ℕ) → AreSome ms → key_text k (some_text ms r) ≡ line (text.points_words (form.points_row (k, ms))) r
points_line k [] r i = absurd i
points_line (Key.Temp f t) (x ∷ xs) r i = ap (λ z. codes "temp " ++ (decimal f ++ 32 ∷ (decimal t ++ 32 ∷ z))) (numbers_line (decimal x) xs r)
points_line (Key.Node n) (x ∷ xs) r i = ap (λ z. codes "node " ++ (decimal n ++ 32 ∷ z)) (numbers_line (decimal x) xs r)

PointsRows : key_form.NextKey → List (Key × List ℕ) → Type 0
PointsRows s xs = AreRows key_form.key key_form.next_key OpenKey FromKey KeyRoom key_text s xs

points_lines : (s : key_form.NextKey) (xs : List (Key × List ℕ)) (r : List ℕ) → AreRows key_form.key key_form.next_key OpenKey FromKey KeyRoom key_text s xs
    → rows_text key_form.key key_form.next_key OpenKey FromKey KeyRoom key_text xs r ≡ lines text.points_words (map form.points_row xs) r
points_lines s [] r i = refl
points_lines s ((k, ms) ∷ xs) r (i, some, is) =
    points_line k ms (rows_text key_form.key key_form.next_key OpenKey FromKey KeyRoom key_text xs r) some
    ∙ ap (λ z. line (text.points_words (form.points_row (k, ms))) z) (points_lines (key_form.next_key k) xs r is)

reach_line : (p : Point) (ms r : List ℕ) → AreSome ms → point_text p (some_text ms r) ≡ line (text.reach_words (form.reach_row (p, ms))) r
reach_line p [] r i = absurd i
reach_line p (x ∷ xs) r i = ap (λ z. codes "at " ++ (decimal p.fun ++ 32 ∷ (decimal p.at ++ 32 ∷ z))) (numbers_line (decimal x) xs r)

reach_lines : (s : ℕ × ℕ) (xs : List (Point × List ℕ)) (r : List ℕ) → AreRows key_form.point_key key_form.next_point Open FromPoint PointRoom point_text s xs
    → rows_text key_form.point_key key_form.next_point Open FromPoint PointRoom point_text xs r ≡ lines text.reach_words (map form.reach_row xs) r
reach_lines s [] r i = refl
reach_lines s ((p, ms) ∷ xs) r (i, some, is) =
    reach_line p ms (rows_text key_form.point_key key_form.next_point Open FromPoint PointRoom point_text xs r) some
    ∙ ap (λ z. line (text.reach_words (form.reach_row (p, ms))) z) (reach_lines (key_form.next_point p) xs r is)

map_length : {A B : Type 0} (f : A → B) (xs : List A) → length (map f xs) ≡ length xs
map_length f [] = refl
map_length f (x ∷ xs) = ap suc (map_length f xs)

points_counted : Spells (part_form.behind (codes "points ") (instr_form.number 10)) Is32Bits (λ n r. codes "points " ++ (decimal n ++ 10 ∷ r))
points_counted = behind n10 (codes "points ")

some_points : (n : ℕ) → Is32Bits n → Spells (key_form.points_rows n) (λ xs. (length xs ≡ n) × AreRows key_form.key key_form.next_key OpenKey FromKey KeyRoom key_text (temps (0, 0)) xs)
    (rows_text key_form.key key_form.next_key OpenKey FromKey KeyRoom key_text)
some_points n few = keyed key_form.key key_form.next_key OpenKey FromKey KeyRoom key_text keys (temps (0, 0)) n (λ k e. (omega arith, omega arith)) few

points_table : Spells form.points (λ xs. Is32Bits (length xs) × AreRows key_form.key key_form.next_key OpenKey FromKey KeyRoom key_text (temps (0, 0)) xs)
    (λ xs r. text.section (codes "points") text.points_words (map form.points_row xs) r)
points_table = record {
  good = (points_counted.good, λ n (ts, r, h). (some_points n (points_counted.is ts n r h).0).good);
  has = λ xs (few, is) r.
      let x : List ℕ = lines text.points_words (map form.points_row xs) r in
      subst (λ n. Has form.points (codes "points " ++ (decimal n ++ 10 ∷ x)) xs r) (sym (map_length form.points_row xs))
      (length xs, x, points_counted.has (length xs) few x, subst (λ z. Has (key_form.points_rows (length xs)) z xs r) (points_lines (temps (0, 0)) xs r is) ((some_points (length xs) few).has xs (refl, is) r));
  is = λ ts xs r (n, m, h, g).
      let (few, t) = points_counted.is ts n m h in
      let ((count, is), u) = (some_points n few).is m xs r g in (
        (subst (λ z. Is32Bits z) (sym count) few, is),
        t ∙ (λ i. codes "points " ++ (decimal (sym (map_length form.points_row xs ∙ count) i) ++ 10 ∷ m)) ∙ ap (λ z. codes "points " ++ (decimal (length (map form.points_row xs)) ++ 10 ∷ z)) (u ∙ points_lines (temps (0, 0)) xs r is),
      );
}

reach_counted : Spells (part_form.behind (codes "reach ") (instr_form.number 10)) Is32Bits (λ n r. codes "reach " ++ (decimal n ++ 10 ∷ r))
reach_counted = behind n10 (codes "reach ")

open_first : (k : ℕ) → suc k ≤ greatest → Open (0, 0) k
open_first k few = (omega arith, omega arith, grind (arith, few))

some_reach : (n : ℕ) → Is32Bits n → Spells (key_form.reach_rows n) (λ xs. (length xs ≡ n) × AreRows key_form.point_key key_form.next_point Open FromPoint PointRoom point_text (0, 0) xs)
    (rows_text key_form.point_key key_form.next_point Open FromPoint PointRoom point_text)
some_reach n few = keyed key_form.point_key key_form.next_point Open FromPoint PointRoom point_text points (0, 0) n (λ k e. open_first k (omega arith)) few

reach_table : Spells form.reach (λ xs. Is32Bits (length xs) × AreRows key_form.point_key key_form.next_point Open FromPoint PointRoom point_text (0, 0) xs)
    (λ xs r. text.section (codes "reach") text.reach_words (map form.reach_row xs) r)
reach_table = record {
  good = (reach_counted.good, λ n (ts, r, h). (some_reach n (reach_counted.is ts n r h).0).good);
  has = λ xs (few, is) r.
      let x : List ℕ = lines text.reach_words (map form.reach_row xs) r in
      subst (λ n. Has form.reach (codes "reach " ++ (decimal n ++ 10 ∷ x)) xs r) (sym (map_length form.reach_row xs))
      (length xs, x, reach_counted.has (length xs) few x, subst (λ z. Has (key_form.reach_rows (length xs)) z xs r) (reach_lines (0, 0) xs r is) ((some_reach (length xs) few).has xs (refl, is) r));
  is = λ ts xs r (n, m, h, g).
      let (few, t) = reach_counted.is ts n m h in
      let ((count, is), u) = (some_reach n few).is m xs r g in (
        (subst (λ z. Is32Bits z) (sym count) few, is),
        t ∙ (λ i. codes "reach " ++ (decimal (sym (map_length form.reach_row xs ∙ count) i) ++ 10 ∷ m)) ∙ ap (λ z. codes "reach " ++ (decimal (length (map form.reach_row xs)) ++ 10 ∷ z)) (u ∙ reach_lines (0, 0) xs r is),
      );
}

-- ---- marks and sets

pub firsts : (ms : List Bool) (ss : List (List ℕ)) → length ms ≡ length ss → map (λ r. r.0) (text.beside ms ss) ≡ ms
firsts [] ss e = refl
firsts (m ∷ ms) [] e = absurd (omega arith)
firsts (m ∷ ms) (s ∷ ss) e = ap (λ z. m ∷ z) (firsts ms ss (omega arith))

pub seconds : (ms : List Bool) (ss : List (List ℕ)) → length ms ≡ length ss → map (λ r. r.1) (text.beside ms ss) ≡ ss
seconds [] [] e = refl
seconds [] (s ∷ ss) e = absurd (omega arith)
seconds (m ∷ ms) [] e = absurd (omega arith)
seconds (m ∷ ms) (s ∷ ss) e = ap (λ z. s ∷ z) (seconds ms ss (omega arith))

beside_again : (rs : List (Bool × List ℕ)) → text.beside (map (λ r. r.0) rs) (map (λ r. r.1) rs) ≡ rs
beside_again [] = refl
beside_again (r ∷ rs) = ap (λ z. r ∷ z) (beside_again rs)

beside_length : (ms : List Bool) (ss : List (List ℕ)) → length ms ≡ length ss → length (text.beside ms ss) ≡ length ss
beside_length [] [] e = refl
beside_length [] (s ∷ ss) e = absurd (omega arith)
beside_length (m ∷ ms) [] e = absurd (omega arith)
beside_length (m ∷ ms) (s ∷ ss) e = ap suc (beside_length ms ss (omega arith))

abbrev Rising : Bool × List ℕ → Type 0
Rising r = Unit {0} × Fit true 0 r.1

sets_are : (rs : List (Bool × List ℕ)) → Each Rising rs → Each Are32Bits (map (λ r. r.1) rs) × (list_all (is_chain nat_lt) (map (λ r. r.1) rs) ≡ true)
sets_are [] i = (tt, refl)
sets_are (r ∷ rs) ((u, fit), is) =
    let (small, e) = rising_is 0 r.1 fit in
    let (smalls, f) = sets_are rs is in
    ((small, smalls), ap (λ z. z && list_all (is_chain nat_lt) (map (λ r. r.1) rs)) e ∙ f)

both : (a b : Bool) → a && b ≡ true → (a ≡ true) × (b ≡ true)
both true b e = (refl, e)
both false b e = false_true e

are_sets : (ms : List Bool) (ss : List (List ℕ)) → Each Are32Bits ss → list_all (is_chain nat_lt) ss ≡ true → Each Rising (text.beside ms ss)
are_sets [] ss i e = tt
are_sets (m ∷ ms) [] i e = tt
are_sets (m ∷ ms) (s ∷ ss) (small, smalls) e =
    let (f, g) = both (is_chain nat_lt s) (list_all (is_chain nat_lt) ss) e in
    ((tt, set_rising s small f), are_sets ms ss smalls g)

pub length_firsts : (rs : List (Bool × List ℕ)) → length (map (λ r. r.0) rs) ≡ length (map (λ r. r.1) rs)
length_firsts rs = map_length (λ r. r.0) rs ∙ sym (map_length (λ r. r.1) rs)

-- ---- rows of a module

pub points_back : (rows : List PointsRow) → map form.points_row (map (λ r. (r.key, r.nodes)) rows) ≡ rows
points_back [] = refl
points_back (r ∷ rows) = ap (λ z. r ∷ z) (points_back rows)

pub reach_back : (rows : List ReachRow) → map form.reach_row (map (λ r. (r.point, r.facts)) rows) ≡ rows
reach_back [] = refl
reach_back (r ∷ rows) = ap (λ z. r ∷ z) (reach_back rows)

points_of : (rows : List PointsRow) → Each IsPointsRow rows → list_all (λ r. is_row r.nodes) rows ≡ true → is_chain (λ a b. key_before a.key b.key) rows ≡ true
    → AreRows key_form.key key_form.next_key OpenKey FromKey KeyRoom key_text (temps (0, 0)) (map (λ r. (r.key, r.nodes)) rows)
points_of [] i e c = tt
points_of (r ∷ rows) ((k, small), is) e c =
    let (f, g) = both (is_row r.nodes) (list_all (λ q. is_row q.nodes) rows) e in
    are_points (temps (0, 0)) r.key r.nodes rows (key_first r.key k) small f is g c

reach_of : (rows : List ReachRow) → Each IsReachRow rows → list_all (λ r. is_row r.facts) rows ≡ true → is_chain (λ a b. point_before a.point b.point) rows ≡ true
    → AreRows key_form.point_key key_form.next_point Open FromPoint PointRoom point_text (0, 0) (map (λ r. (r.point, r.facts)) rows)
reach_of [] i e c = tt
reach_of (r ∷ rows) ((p, small), is) e c =
    let (f, g) = both (is_row r.facts) (list_all (λ q. is_row q.facts) rows) e in
    are_reach (0, 0) r.point r.facts rows (from_first (r.point.fun, r.point.at) p.0 p.1) small f is g c

-- ---- the whole

parts : Spells form.parts
    (λ p. Unit {0} × (IsCode p.1.0 × (Counted Is32Bits p.1.1.0 × (Counted Rising p.1.1.1.0 × ((Is32Bits (length p.1.1.1.1.0) × AreRows key_form.key key_form.next_key OpenKey FromKey KeyRoom key_text (temps (0, 0)) p.1.1.1.1.0)
    × (Is32Bits (length p.1.1.1.1.1) × AreRows key_form.point_key key_form.next_point Open FromPoint PointRoom point_text (0, 0) p.1.1.1.1.1))))))
    (λ p r. size_text p.0 ++ 10 ∷ text.code_text p.1.0 (text.section (codes "definitions") text.class_words p.1.1.0 (text.section (codes "reads") text.set_words p.1.1.1.0
    (text.section (codes "points") text.points_words (map form.points_row p.1.1.1.1.0) (text.section (codes "reach") text.reach_words (map form.reach_row p.1.1.1.1.1) r)))))
parts = pair size (pair code (pair classes (pair sets (pair points_table reach_table))))

-- the parts of a module
parts_of : Module → form.Parts
parts_of m = (m.size, (m.code, (m.classes, (text.beside m.removed m.sets, (map (λ r. (r.key, r.nodes)) m.points, map (λ r. (r.point, r.facts)) m.reach)))))

parts_text : form.Parts → List ℕ → List ℕ
parts_text p r =
    size_text p.0 ++ 10 ∷ text.code_text p.1.0 (text.section (codes "definitions") text.class_words p.1.1.0 (text.section (codes "reads") text.set_words p.1.1.1.0
    (text.section (codes "points") text.points_words (map form.points_row p.1.1.1.1.0) (text.section (codes "reach") text.reach_words (map form.reach_row p.1.1.1.1.1) r))))

module_back : (m : Module) → length m.removed ≡ length m.sets → form.module_of (parts_of m) ≡ m
unfolding parts_of
module_back m e = λ i. record {
  size = m.size;
  code = m.code;
  classes = m.classes;
  sets = seconds m.removed m.sets e i;
  removed = firsts m.removed m.sets e i;
  points = points_back m.points i;
  reach = reach_back m.reach i;
}

text_back : (m : Module) (r : List ℕ) → parts_text (parts_of m) (codes "end\n" ++ r) ≡ text.text_then m r
unfolding parts_of parts_text
text_back m r = λ i.
    line (codes "dfimod" ∷ text.version m.size ∷ []) (text.code_text m.code (text.section (codes "definitions") text.class_words m.classes
    (text.section (codes "reads") text.set_words (text.beside m.removed m.sets) (text.section (codes "points") text.points_words (points_back m.points i) (text.section (codes "reach") text.reach_words (reach_back m.reach i)
    (line (codes "end" ∷ []) r))))))

whole_has : (m : Module) → IsModule m → (r : List ℕ) → Has form.whole (text.text_then m r) m r
unfolding parts_of parts_text
whole_has m i r =
    let marks : length m.removed ≡ length m.sets = i.ordered.marks in
    let rest : List ℕ = codes "end\n" ++ r in
    let few : Is32Bits (length (text.beside m.removed m.sets)) = subst (λ n. Is32Bits n) (sym (beside_length m.removed m.sets marks)) i.sets.0 in
    let points_few : Is32Bits (length (map (λ r. (r.key, r.nodes)) m.points)) = subst (λ n. Is32Bits n) (sym (map_length (λ r. (r.key, r.nodes)) m.points)) i.points.0 in
    let reach_few : Is32Bits (length (map (λ r. (r.point, r.facts)) m.reach)) = subst (λ n. Is32Bits n) (sym (map_length (λ r. (r.point, r.facts)) m.reach)) i.reach.0 in
    let h = parts.has (parts_of m)
    (tt, (i.code, (i.classes, ((few, are_sets m.removed m.sets i.sets.1 i.ordered.members), ((points_few, points_of m.points i.points.1 i.ordered.points_rows i.ordered.points_order), (reach_few, reach_of m.reach i.reach.1 i.ordered.reach_rows i.ordered.reach_order)))))) rest in
    subst (λ z. Has form.whole z m r) (text_back m r) (parts_of m, rest, h, (tt, r, word_text (codes "end\n") r, (module_back m marks, refl)))

pub whole_is : (ts : List ℕ) (m : Module) (r : List ℕ) → Has form.whole ts m r → IsModule m × (ts ≡ text.text_then m r)
whole_is ts m r (p, n, h, (u, k, w, (e, x))) =
    let (i, t) = parts.is ts p n h in
    let rs = p.1.1.1.0 in
    let (small, members) = sets_are rs i.1.1.1.0.1 in
    let (points_each, points_rows, points_order) = points_are (temps (0, 0)) p.1.1.1.1.0 i.1.1.1.1.0.1 in
    let (reach_each, reach_rows, reach_order) = reach_are (0, 0) p.1.1.1.1.1 i.1.1.1.1.1.1 in
    let is : IsModule (form.module_of p) = record {
      code = i.1.0;
      classes = i.1.1.0;
      sets = (subst (λ n. Is32Bits n) (sym (map_length (λ r. r.1) rs)) i.1.1.1.0.0, small);
      points = (subst (λ n. Is32Bits n) (sym (map_length form.points_row p.1.1.1.1.0)) i.1.1.1.1.0.0, points_each);
      reach = (subst (λ n. Is32Bits n) (sym (map_length form.reach_row p.1.1.1.1.1)) i.1.1.1.1.1.0, reach_each);
      ordered = record { marks = length_firsts rs; members = members; points_rows = points_rows; points_order = points_order; reach_rows = reach_rows; reach_order = reach_order };
    } in
    let tail : n ≡ codes "end\n" ++ r = word_is (codes "end\n") n u k w ∙ ap (λ z. codes "end\n" ++ z) x in
    let same : ts ≡ text.text_then (form.module_of p) r =
    t ∙ (λ j. size_text p.0 ++ 10 ∷ text.code_text p.1.0 (text.section (codes "definitions") text.class_words p.1.1.0 (text.section (codes "reads") text.set_words (sym (beside_again rs) j)
    (text.section (codes "points") text.points_words (map form.points_row p.1.1.1.1.0) (text.section (codes "reach") text.reach_words (map form.reach_row p.1.1.1.1.1) (tail j)))))) in
    subst (λ z. IsModule z × (ts ≡ text.text_then z r)) e (is, same)

pub module_law : Law (Has form.whole) (read form.whole)
module_law = exact form.whole (parts.good, λ p g. (word_good (codes "end\n"), λ u k. tt))

to_text : (bytes : List ℕ) (m : Module) → Has form.whole bytes m [] → IsText bytes m
to_text bytes m h = whole_is bytes m [] h

of_text : (bytes : List ℕ) (m : Module) → IsText bytes m → Has form.whole bytes m []
of_text bytes m (i, e) = subst (λ z. Has form.whole z m []) (sym e) (whole_has m i [])

-- each list of bytes is the text of a module, or has a first byte that fails
pub one_answer : (bytes : List ℕ) → Tells IsText bytes (read_all form.whole bytes)
one_answer = told.told form.whole IsText module_law to_text of_text

pub one_module : (bytes : List ℕ) (m n : Module) → IsText bytes m → IsText bytes n → m ≡ n
one_module = told.one_module form.whole IsText module_law to_text of_text

pub read_back : (m : Module) → IsModule m → read_all form.whole (text.module_text m) ≡ done m []
read_back m i = told.read_text form.whole IsText module_law to_text of_text (text.module_text m) m (i, refl)
