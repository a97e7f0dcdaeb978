-- The facts of code of a good form are distinct, by rows of points in order.
use Rattle.std.proofs.Common.{◌≡◌, ℕ, zero, suc, ◌+◌, Bool, true, false, nat_lt, List, [], ◌∷◌, ◌++◌, length, map, Option, Some, None, refl, sym, ap, ◌∙◌, subst, arith}
use Rattle.std.specs.Prelude.{slice_index}
use Rattle.std.specs.List.{list_all, range_with_len}
use Rattle.tac_ir.specs.declared.code.Code.{Code}
use Rattle.tac_ir.specs.declared.code.Fun.{Fun}
use Rattle.tac_ir.specs.declared.code.Instr.{Instr}
use Rattle.tac_ir.specs.declared.code.Lined.{Lined}
use Rattle.tac_ir.specs.declared.module.Key.{Key}
use Rattle.tac_ir.specs.declared.module.PointsRow.{PointsRow}
use Rattle.tac_ir.specs.Accesses.{Access, accesses_in, accesses_in_funs, defs_accesses, facts_of, is_same_key, leaves_defined, nodes_for, starting_accesses}
use Rattle.tac_ir.specs.GoodForm.{GoodForm}
use Rattle.tac_ir.specs.Module.{has_members, is_chain, is_row}
use Rattle.tac_ir.specs.Nodes.{global_node, is_leaf_node, leaves_of_global}
use Rattle.tac_ir.specs.Counts.{shape_nodes}
use Rattle.tac_ir.specs.Layout.{shapes_of_globals}
use Rattle.tac_ir.specs.Numbers.{defs_made, new_def, numbers_in, numbers_in_funs}
use Rattle.module_law.proofs.Ascending.{Counts, both, counts_append, counts_chain, filter_chain, range_counts}
use Rattle.module_law.proofs.DistinctFacts.{AreAscending, Distinct, facts_distinct}

abbrev number_of : Access → ℕ
number_of x = x.number

-- Numbers.

numbers_of : (leaves : ℕ → Instr → List ℕ) (f : ℕ) (code : List Lined) → map number_of (accesses_in new_def leaves f code) ≡ numbers_in new_def code
numbers_of leaves f [] = refl
numbers_of leaves f (l ∷ code) = by (new_def l.instr) (numbers_of leaves f code) where
  by : (o : Option ℕ) → map number_of (accesses_in new_def leaves f code) ≡ numbers_in new_def code
      → map number_of (elim o as (λ z. List Access) [ Some n ↦ record { number = n; leaves = leaves f l.instr } ∷ accesses_in new_def leaves f code | None ↦ accesses_in new_def leaves f code ])
      ≡ elim o as (λ z. List ℕ) [ Some n ↦ n ∷ numbers_in new_def code | None ↦ numbers_in new_def code ]
  by (Some n) rest = ap (λ xs. n ∷ xs) rest
  by None rest = rest

map_append : (xs ys : List Access) → map number_of (xs ++ ys) ≡ map number_of xs ++ map number_of ys
map_append [] ys = refl
map_append (x ∷ xs) ys = ap (λ zs. x.number ∷ zs) (map_append xs ys)

numbers_of_funs : (leaves : ℕ → Instr → List ℕ) (f : ℕ) (funs : List Fun) → map number_of (accesses_in_funs new_def leaves f funs) ≡ numbers_in_funs new_def funs
numbers_of_funs leaves f [] = refl
numbers_of_funs leaves f (x ∷ funs) =
    map_append (accesses_in new_def leaves f x.code) (accesses_in_funs new_def leaves (suc f) funs)
    ∙ ap (λ xs. xs ++ map number_of (accesses_in_funs new_def leaves (suc f) funs)) (numbers_of leaves f x.code)
    ∙ ap (λ ys. numbers_in new_def x.code ++ ys) (numbers_of_funs leaves (suc f) funs)

starting_counts : (c : Code) (k n : ℕ) → Counts (k + 1) (map number_of (map (λ v. record { number = suc v; leaves = leaves_of_global c v }) (range_with_len k n)))
starting_counts c k zero = tt
starting_counts c k (suc n) = (omega arith, starting_counts c (k + 1) n)

starting_length : (c : Code) (k n : ℕ) → length (map number_of (map (λ v. record { number = suc v; leaves = leaves_of_global c v }) (range_with_len k n))) ≡ n
starting_length c k zero = refl
starting_length c k (suc n) = ap suc (starting_length c (k + 1) n)

numbers_chain : (c : Code) (points : List PointsRow) → GoodForm c → is_chain nat_lt (map number_of (defs_accesses c points)) ≡ true
numbers_chain c points good =
    let n = length c.globals in
    let starts = map number_of (starting_accesses c) in
    let made : map number_of (accesses_in_funs new_def (leaves_defined c points) 0 c.funs) ≡ range_with_len (n + 1) (length (defs_made c)) = numbers_of_funs (leaves_defined c points) 0 c.funs ∙ good.numbers.defs in
    let rest : Counts (1 + length starts) (map number_of (accesses_in_funs new_def (leaves_defined c points) 0 c.funs))
    = subst (Counts (1 + length starts)) (sym made) (subst (λ k. Counts k (range_with_len (n + 1) (length (defs_made c)))) (omega (arith, starting_length c 0 n)) (range_counts (n + 1) (length (defs_made c)))) in
    counts_chain 1 (map number_of (defs_accesses c points)) (subst (Counts 1) (sym (map_append (starting_accesses c) (accesses_in_funs new_def (leaves_defined c points) 0 c.funs)))
    (counts_append 1 starts (map number_of (accesses_in_funs new_def (leaves_defined c points) 0 c.funs)) (starting_counts c 0 n) rest))

-- Leaves.

ascending_append : (xs ys : List Access) → AreAscending xs → AreAscending ys → AreAscending (xs ++ ys)
ascending_append [] ys one two = two
ascending_append (x ∷ xs) ys one two = (one.0, ascending_append xs ys one.1 two)

global_leaves : (c : Code) (v : ℕ) → is_chain nat_lt (leaves_of_global c v) ≡ true
global_leaves c v =
    let n = shape_nodes c (slice_index (shapes_of_globals c) v) in
    filter_chain (is_leaf_node c) (range_with_len (global_node c v) n) (counts_chain (global_node c v) (range_with_len (global_node c v) n) (range_counts (global_node c v) n))

starting_leaves : (c : Code) (k n : ℕ) → AreAscending (map (λ v. record { number = suc v; leaves = leaves_of_global c v }) (range_with_len k n))
starting_leaves c k zero = tt
starting_leaves c k (suc n) = (global_leaves c k, starting_leaves c (k + 1) n)

row_nodes : (rows : List PointsRow) (key : Key) → list_all (λ r. is_row r.nodes) rows ≡ true → is_chain nat_lt (nodes_for rows key) ≡ true
row_nodes [] key all = refl
row_nodes (r ∷ rows) key all =
    let parts = both (is_row r.nodes) (list_all (λ r. is_row r.nodes) rows) all in
    by (is_same_key r.key key) (both (has_members r.nodes) (is_chain nat_lt r.nodes) parts.0).1 (row_nodes rows key parts.1)
  where
    by : (b : Bool) → is_chain nat_lt r.nodes ≡ true → is_chain nat_lt (nodes_for rows key) ≡ true → is_chain nat_lt (elim b as (λ z. List ℕ) [ true ↦ r.nodes | false ↦ nodes_for rows key ]) ≡ true
    by true own rest = own
    by false own rest = rest

module _ (c : Code) (points : List PointsRow) (all : list_all (λ r. is_row r.nodes) points ≡ true) where
  instr_leaves : (f : ℕ) (i : Instr) → is_chain nat_lt (leaves_defined c points f i) ≡ true
  instr_leaves f (Instr.Set place a def) = refl
  instr_leaves f (Instr.Store a b def) = filter_chain (is_leaf_node c) (nodes_for points (Key.Temp f a)) (row_nodes points (Key.Temp f a) all)
  instr_leaves f (Instr.Call to g def args) = refl
  instr_leaves f i = refl

  made_leaves : (f : ℕ) (code : List Lined) → AreAscending (accesses_in new_def (leaves_defined c points) f code)
  made_leaves f [] = tt
  made_leaves f (l ∷ code) = by (new_def l.instr) (instr_leaves f l.instr) (made_leaves f code) where
    by : (o : Option ℕ) → is_chain nat_lt (leaves_defined c points f l.instr) ≡ true → AreAscending (accesses_in new_def (leaves_defined c points) f code)
        → AreAscending (elim o as (λ z. List Access) [ Some n ↦ record { number = n; leaves = leaves_defined c points f l.instr } ∷ accesses_in new_def (leaves_defined c points) f code | None ↦ accesses_in new_def (leaves_defined c points) f code ])
    by (Some n) own rest = (own, rest)
    by None own rest = rest

  funs_leaves : (f : ℕ) (funs : List Fun) → AreAscending (accesses_in_funs new_def (leaves_defined c points) f funs)
  funs_leaves f [] = tt
  funs_leaves f (x ∷ funs) = ascending_append (accesses_in new_def (leaves_defined c points) f x.code) (accesses_in_funs new_def (leaves_defined c points) (suc f) funs) (made_leaves f x.code) (funs_leaves (suc f) funs)

  pub code_facts : GoodForm c → Distinct (facts_of c points)
  code_facts good = facts_distinct (defs_accesses c points) (numbers_chain c points good)
      (ascending_append (starting_accesses c) (accesses_in_funs new_def (leaves_defined c points) 0 c.funs) (starting_leaves c 0 (length c.globals)) (funs_leaves 0 c.funs))
