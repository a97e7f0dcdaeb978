-- The system of a code is about tables of its rows.
use Rattle.std.proofs.Common.{◌≡◌, ℕ, zero, suc, ◌+◌, ◌*◌, ◌<◌, ◌≤◌, ◌^◌, Bool, true, false, Option, Some, None, List, [], ◌∷◌, length, map, sum, All, refl, sym, ap, ◌∙◌, subst, arith}
use Rattle.std.specs.Prelude.{slice_get, replicate}
use Rattle.std.proofs.lemmas.List.{length-append, length-replicate}
use Rattle.std.proofs.lemmas.List.Elements.{All-nil, All-cons}
use Rattle.std.proofs.lemmas.List.Sums.{sum-map, sum_by-cons}
use Rattle.dfi_base.specs.declared.numbers.Point.{Point}
use Rattle.dfi_base.proofs.RowLaws.{no_bits}
use Rattle.tac_ir.specs.declared.code.Code.{Code}
use Rattle.tac_ir.specs.declared.code.Fun.{Fun}
use Rattle.tac_ir.specs.declared.code.Lined.{Lined}
use Rattle.tac_ir.specs.declared.code.Instr.{Instr}
use Rattle.tac_ir.specs.Counts.{temps_of, nodes_in_code}
use Rattle.tac_ir.specs.Nodes.{place_node, site_node, part_node}
use Rattle.tac_ir.specs.GoodForm.{GoodForm, IsGoodCall}
use Rattle.least_rows.specs.declared.rules.Rule.{Rule}
use Rattle.least_rows.specs.declared.rules.System.{System}
use Rattle.least_rows.specs.Rules.{row_has, IsFitting, IsFittingRule}
use Rattle.points_to.specs.Rows.{Row, row_number, row_count, IsRow}
use Rattle.points_to.specs.Rows.Row.{in_node, in_temp, leaves_in, returned}
use Rattle.points_to.specs.Systems.{IsSystemOf, leaf_mask, has_node, flows, arg_rules, leaf_rule, list_of, rules_of, rules_in, rules_from}
use Rattle.points_to.specs.Laws.{IsEmpty}
use Rattle.points_to.specs.tools.Here.{IsHere}
use Rattle.points_to.proofs.Numbers.{row_low, few_nodes, few_temps, temps_low}
use Rattle.points_to.proofs.Inside.{place_low, site_low, field_shape, array_shape}
use Rattle.points_to.proofs.Named.{params_below, stands}
use Rattle.points_to.proofs.Gathered.{all_rules}

module _ (c : Code) (s : System) (good : GoodForm c) (is : IsSystemOf c s) where
  abbrev Fits : Rule → Type 0
  Fits rule = IsFittingRule s.width (length s.masks) (row_count c) rule

  one : (rule : Rule) → Fits rule → All Fits (rule ∷ [])
  one rule fits = All-cons Fits rule [] fits (All-nil Fits)

  flow_fits : (from to : Row) → IsRow c from → IsRow c to → Fits (flows c from to)
  flow_fits from to low low' = (row_low c from low, row_low c to low', λ m none. cc)

  node_fits : (n : ℕ) → n < nodes_in_code c → n < s.width
  node_fits n low = subst (λ w. n < w) (sym is.width) low

  mask_fits : (n : ℕ) → n < length c.shapes + 1 → n < length s.masks
  mask_fits n low = subst (λ w. n < w) (sym is.masks.count) low

  leaf_fits : (f x : ℕ) → x < temps_of c f → Fits (leaf_rule c f x)
  leaf_fits f x low = (
    row_low c (in_temp f x) low,
    row_low c (leaves_in f x) low,
    λ m same. (let this : leaf_mask c ≡ m = cc in subst (λ n. n < length s.masks) this (mask_fits (leaf_mask c) (omega arith))),
  )

  args_fit : (f g i : ℕ) (args : List ℕ) → All (λ x. x < temps_of c f) args → i + length args ≤ temps_of c g → All Fits (arg_rules c f g i args)
  args_fit f g i [] low few = All-nil Fits
  args_fit f g i (x ∷ args) low few =
      All-cons Fits (flows c (in_temp f x) (in_temp g i)) (arg_rules c f g (suc i) args)
      (flow_fits (in_temp f x) (in_temp g i) (low 0 0 (omega arith)) (omega (arith, few)))
      (args_fit f g (suc i) args (λ k d within. low (suc k) d (omega (arith, within))) (omega (arith, few)))

  instr_fits : (f : ℕ) (p : Point) → p.fun ≡ f → (i : Instr) → IsHere c p i → All Fits (rules_of c p.fun i)
  instr_fits f p same (Instr.Addr to place) h =
      one (Rule.Has (row_number c (in_temp p.fun to)) (place_node c p.fun place))
      (row_low c (in_temp p.fun to) (h.temps 0 0 (omega arith)), node_fits (place_node c p.fun place) (place_low c good p.fun place h.names))
  instr_fits f p same (Instr.Field to x sh k) h = by (has_node c sh)
    where
      by : (b : Bool) → All Fits (list_of (elim b as (λ z. Option Rule) [
        | true ↦ Some (Rule.Shift (row_number c (in_temp p.fun x)) sh (part_node c sh k) (row_number c (in_temp p.fun to)))
        | false ↦ None
      ]))
      by false = All-nil Fits
      by true =
          one (Rule.Shift (row_number c (in_temp p.fun x)) sh (part_node c sh k) (row_number c (in_temp p.fun to))) (
            row_low c (in_temp p.fun x) (h.temps 1 0 (omega arith)),
            row_low c (in_temp p.fun to) (h.temps 0 0 (omega arith)),
            mask_fits sh (let low = field_shape c good sh k h.names in omega (arith, low)),
          )
  instr_fits f p same (Instr.Decay to x sh) h =
      one (Rule.Shift (row_number c (in_temp p.fun x)) sh 1 (row_number c (in_temp p.fun to))) (
        row_low c (in_temp p.fun x) (h.temps 1 0 (omega arith)),
        row_low c (in_temp p.fun to) (h.temps 0 0 (omega arith)),
        mask_fits sh (let low = array_shape c sh h.names in omega (arith, low)),
      )
  instr_fits f p same (Instr.Index to x y words) h =
      one (flows c (in_temp p.fun x) (in_temp p.fun to)) (flow_fits (in_temp p.fun x) (in_temp p.fun to) (h.temps 1 0 (omega arith)) (h.temps 0 0 (omega arith)))
  instr_fits f p same (Instr.New to x site) h =
      one (Rule.Has (row_number c (in_temp p.fun to)) (site_node c site))
      (row_low c (in_temp p.fun to) (h.temps 0 0 (omega arith)), node_fits (site_node c site) (site_low c good site h.names))
  instr_fits f p same (Instr.Call to g d args) h =
      let good_call : IsGoodCall c g args = h.names in
      let few : 0 + length args ≤ temps_of c g = (let below = params_below c g in omega (arith, below, good_call.count)) in
      All-cons Fits (flows c (returned g) (in_temp p.fun to)) (arg_rules c p.fun g 0 args)
      (flow_fits (returned g) (in_temp p.fun to) good_call.exists (h.temps 0 0 (omega arith)))
      (args_fit p.fun g 0 args (λ k e within. h.temps (suc k) e (omega (arith, within))) few)
  instr_fits f p same (Instr.Ret x r) h =
      one (flows c (in_temp p.fun x) (returned p.fun)) (flow_fits (in_temp p.fun x) (returned p.fun) (h.temps 0 0 (omega arith)) h.fun)
  instr_fits f p same (Instr.Get to place r) h =
      one (flows c (in_node (place_node c p.fun place)) (in_temp p.fun to))
      (flow_fits (in_node (place_node c p.fun place)) (in_temp p.fun to) (place_low c good p.fun place (h.names.0, h.names.1)) (h.temps 0 0 (omega arith)))
  instr_fits f p same (Instr.Load to x r) h =
      All-cons Fits (leaf_rule c p.fun x) (Rule.Load (row_number c (leaves_in p.fun x)) (row_number c (in_temp p.fun to)) ∷ []) (leaf_fits p.fun x (h.temps 1 0 (omega arith)))
      (one (Rule.Load (row_number c (leaves_in p.fun x)) (row_number c (in_temp p.fun to)))
      (row_low c (leaves_in p.fun x) (h.temps 1 0 (omega arith)), row_low c (in_temp p.fun to) (h.temps 0 0 (omega arith))))
  instr_fits f p same (Instr.Set place x d) h =
      one (flows c (in_temp p.fun x) (in_node (place_node c p.fun place)))
      (flow_fits (in_temp p.fun x) (in_node (place_node c p.fun place)) (h.temps 0 0 (omega arith)) (place_low c good p.fun place (h.names.0, h.names.1)))
  instr_fits f p same (Instr.Store x y d) h =
      All-cons Fits (leaf_rule c p.fun x) (Rule.Store (row_number c (leaves_in p.fun x)) (row_number c (in_temp p.fun y)) ∷ []) (leaf_fits p.fun x (h.temps 0 0 (omega arith)))
      (one (Rule.Store (row_number c (leaves_in p.fun x)) (row_number c (in_temp p.fun y)))
      (row_low c (leaves_in p.fun x) (h.temps 0 0 (omega arith)), row_low c (in_temp p.fun y) (h.temps 1 0 (omega arith))))
  instr_fits f p same i h = All-nil Fits

  all_fit : All Fits s.rules
  all_fit =
      subst (All Fits) (sym is.rules)
      (all_rules c Fits (λ f fun at l found line. instr_fits f (record { fun = f; at = 0 }) refl l.instr (stands c good f fun at l found line)))

-- How many rules there are.

args_count : (c : Code) (f g i : ℕ) (args : List ℕ) → length (arg_rules c f g i args) ≡ length args
args_count c f g i [] = refl
args_count c f g i (x ∷ args) = ap suc (args_count c f g (suc i) args)

instr_few : (c : Code) → GoodForm c → (p : Point) (i : Instr) → IsHere c p i → length (rules_of c p.fun i) ≤ 32769
instr_few c good p (Instr.Call to g d args) h =
    let good_call : IsGoodCall c g args = h.names in
    let below = params_below c g in
    let few = temps_low c good g good_call.exists in
    let count = args_count c p.fun g 0 args in
    omega (arith, below, few, count, good_call.count)
instr_few c good p (Instr.Field to x sh k) h = by (has_node c sh)
  where
    by : (b : Bool) → length (list_of (elim b as (λ z. Option Rule) [
      | true ↦ Some (Rule.Shift (row_number c (in_temp p.fun x)) sh (part_node c sh k) (row_number c (in_temp p.fun to)))
      | false ↦ None
    ])) ≤ 32769
    by true = omega arith
    by false = omega arith
instr_few c good p (Instr.Addr to place) h = omega arith
instr_few c good p (Instr.Decay to x sh) h = omega arith
instr_few c good p (Instr.Index to x y words) h = omega arith
instr_few c good p (Instr.New to x site) h = omega arith
instr_few c good p (Instr.Ret x r) h = omega arith
instr_few c good p (Instr.Get to place r) h = omega arith
instr_few c good p (Instr.Load to x r) h = omega arith
instr_few c good p (Instr.Set place x d) h = omega arith
instr_few c good p (Instr.Store x y d) h = omega arith
instr_few c good p i h = omega arith

lines_few : (c : Code) (f : ℕ) (lines : List Lined) → ((at : ℕ) (l : Lined) → slice_get lines at ≡ Some l → length (rules_of c f l.instr) ≤ 32769)
    → length (rules_in c f lines) ≤ 32769 * length lines
lines_few c f [] each = omega arith
lines_few c f (l ∷ lines) each =
    let first = each 0 l refl in
    let rest = lines_few c f lines (λ at m is. each (suc at) m is) in
    omega (arith, first, rest, length-append (rules_of c f l.instr) (rules_in c f lines))

abbrev lines : List Fun → ℕ
lines funs = sum (map (λ fun. length fun.code) funs)

lines_step : (x : Fun) (xs : List Fun) → lines (x ∷ xs) ≡ length x.code + lines xs
lines_step x xs =
    sum-map (λ (fun : Fun). length fun.code) (x ∷ xs) ∙ sum_by-cons (λ (fun : Fun). length fun.code) x xs
    ∙ ap (λ n. length x.code + n) (sym (sum-map (λ (fun : Fun). length fun.code) xs))

funs_few : (c : Code) (f : ℕ) (funs : List Fun)
    → ((g : ℕ) (fun : Fun) (at : ℕ) (l : Lined) → slice_get funs g ≡ Some fun → slice_get fun.code at ≡ Some l → length (rules_of c (f + g) l.instr) ≤ 32769)
    → length (rules_from c f funs) ≤ 32769 * lines funs
funs_few c f [] each = omega arith
funs_few c f (fun ∷ funs) each =
    let first = lines_few c f fun.code (λ at l is. (let n : f + 0 ≡ f = omega arith in subst (λ g. length (rules_of c g l.instr) ≤ 32769) n (each 0 fun at l refl is))) in
    let rest = funs_few c (suc f) funs (λ g other at l found is. (let n : f + suc g ≡ suc f + g = omega arith in
    subst (λ h. length (rules_of c h l.instr) ≤ 32769) n (each (suc g) other at l found is))) in
    omega (arith, first, rest, lines_step fun funs, length-append (rules_in c f fun.code) (rules_from c (suc f) funs))

few_rules : (c : Code) → GoodForm c → length (rules_from c 0 c.funs) < 2 ^ 32
few_rules c good =
    let few = funs_few c 0 c.funs (λ f fun at l found line. (let n : f ≡ 0 + f = omega arith in
    subst (λ g. length (rules_of c g l.instr) ≤ 32769) n (instr_few c good (record { fun = f; at = 0 }) l.instr (stands c good f fun at l found line)))) in
    let points : lines c.funs ≤ 16384 = good.limits.points in
    omega (arith, few, points)

-- An empty table of the rows.

pub empty_table : (rows width : ℕ) → IsEmpty (replicate rows (replicate width false)) rows
empty_table rows width = record { long = length-replicate rows (replicate width false); none = nothing rows }
  where
    nothing : (count r k : ℕ) → row_has (replicate count (replicate width false)) r k ≡ false
    nothing zero r zero = refl
    nothing zero r (suc k) = refl
    nothing (suc count) zero k = no_bits width k
    nothing (suc count) (suc r) k = nothing count r k

rows_wide : (count width : ℕ) → All (λ row. length row ≡ width) (replicate count (replicate width false))
rows_wide zero width k d low = absurd (omega (arith, low))
rows_wide (suc count) width zero d low = length-replicate width false
rows_wide (suc count) width (suc k) d low = rows_wide count width k d (omega (arith, low))

pub fits : (c : Code) (s : System) → GoodForm c → IsSystemOf c s → IsFitting s (replicate (row_count c) (replicate (nodes_in_code c) false))
fits c s good is = record {
  rows = subst (λ w. All (λ row. length row ≡ w) (replicate (row_count c) (replicate (nodes_in_code c) false))) (sym is.width) (rows_wide (row_count c) (nodes_in_code c));
  masks = subst (λ w. All (λ row. length row ≡ w) s.masks) (sym is.width) is.masks.wide;
  rules = subst (λ n. All (IsFittingRule s.width (length s.masks) n) s.rules) (sym long) (all_fit c s good is);
  few_rules = subst (λ l. length l < 2 ^ 32) (sym is.rules) (few_rules c good);
  few_rows = (let nodes = few_nodes c good in let temps = few_temps c good in let funs = good.funs.count in omega (arith, long, nodes, temps, funs));
}
  where
    long : length (replicate (row_count c) (replicate (nodes_in_code c) false)) ≡ row_count c
    long = length-replicate (row_count c) (replicate (nodes_in_code c) false)
