-- Code that passes no limit of lowering is within those of the good form.
use Rattle.std.proofs.Common.{◌≡◌, ℕ, ◌+◌, ◌-◌, ◌*◌, ◌≤◌, Bool, true, false, List, [], ◌∷◌, ◌++◌, map, length, sum, Option, Some, None, refl, ap, sym, ◌∙◌, arith}
use Rattle.std.specs.Prelude.{nat_lt}
use Rattle.std.specs.List.{sum_by}
use Rattle.std.proofs.lemmas.List.{length-append}
use Rattle.std.proofs.lemmas.List.Sums.{sum-map, sum_by-append, sum_by-cons}
use Rattle.tac_ir.specs.declared.code.Code.{Code}
use Rattle.tac_ir.specs.declared.code.Fun.{Fun}
use Rattle.tac_ir.specs.declared.code.Global.{Global}
use Rattle.tac_ir.specs.declared.code.Site.{Site}
use Rattle.tac_ir.specs.Layout.{shapes_of_globals}
use Rattle.tac_ir.specs.Counts.{points_in_code, nodes_in_code, temps_of_fun, shape_nodes, vars_in_funs, shapes_used}
use Rattle.tac_ir.specs.Numbers.{new_def, numbers_in, numbers_in_funs, defs_in_code}
use Rattle.tac_ir.specs.GoodForm.{IsWithinLimits}
use Rattle.tac_lower.specs.declared.fault.LowerWhat.{LowerWhat}
use Rattle.tac_lower.specs.declared.fault.LowerFault.{LowerFault}
use Rattle.tac_lower.specs.Limits.{Share, passing, points_in, starting_in, defs_in, global_nodes, fun_nodes, site_nodes, point_shares, def_shares, node_shares, or_else, point_limit, definition_limit, node_limit, first_passed}

-- Shares that do not pass the limit are within it together.
abbrev count_of : Share → ℕ
count_of s = s.count

lt-is : (a b : ℕ) → nat_lt a b ≡ false → b ≤ a
lt-is a b h = grind (arith, nat_lt)

passing_total : (limit : ℕ) (shares : List Share) → passing limit shares ≡ None → sum_by count_of shares ≤ limit
passing_total limit [] h = omega arith
passing_total limit (s ∷ shares) h = go (nat_lt limit s.count) refl h (passing_total (limit - s.count) shares)
  where
    go : (b : Bool) → nat_lt limit s.count ≡ b → elim b as (λ b. Option ℕ) [ true ↦ Some s.line | false ↦ passing (limit - s.count) shares ] ≡ None
        → (passing (limit - s.count) shares ≡ None → sum_by count_of shares ≤ limit - s.count) → sum_by count_of (s ∷ shares) ≤ limit
    go true is h rest = cc
    go false is h rest = (let low = lt-is limit s.count is in let more = rest h in omega (arith, sum_by-cons count_of s shares))

or_first : (what : LowerWhat) (o : Option ℕ) (rest : Option LowerFault) → or_else what o rest ≡ None → o ≡ None
or_first what None rest h = refl
or_first what (Some line) rest h = cc

or_second : (what : LowerWhat) (o : Option ℕ) (rest : Option LowerFault) → or_else what o rest ≡ None → rest ≡ None
or_second what None rest h = h
or_second what (Some line) rest h = cc

-- Shares of a list of things.
shares_of : {A : Type 0} (f : A → Share) (xs : List A) → sum_by count_of (map f xs) ≡ sum_by (λ x. (f x).count) xs
shares_of f [] = refl
shares_of f (x ∷ xs) =
    sum_by-cons count_of (f x) (map f xs) ∙ ap (λ n. (f x).count + n) (shares_of f xs) ∙ sym (sum_by-cons (λ x. (f x).count) x xs)

ones : {A : Type 0} (xs : List A) → sum_by (λ x. 1) xs ≡ length xs
ones [] = refl
ones (x ∷ xs) = (let rest = ones xs in omega (arith, sum_by-cons (λ x. 1) x xs))

defs_length : (funs : List Fun) → length (numbers_in_funs new_def funs) ≡ sum_by (λ (f : Fun). length (numbers_in new_def f.code)) funs
defs_length [] = refl
defs_length (f ∷ funs) =
    let rest = defs_length funs in
    omega (arith, length-append (numbers_in new_def f.code) (numbers_in_funs new_def funs), sum_by-cons (λ (f : Fun). length (numbers_in new_def f.code)) f funs)

vars_total : (nodes : ℕ → ℕ) (funs : List Fun) → sum_by nodes (vars_in_funs funs) ≡ sum_by (λ (f : Fun). sum (map nodes f.vars)) funs
vars_total nodes [] = refl
vars_total nodes (f ∷ funs) =
    let rest = vars_total nodes funs in
    omega (arith, sum_by-append nodes f.vars (vars_in_funs funs), sum-map nodes f.vars, sum_by-cons (λ (f : Fun). sum (map nodes f.vars)) f funs)

mapped_total : {A : Type 0} (nodes : ℕ → ℕ) (f : A → ℕ) (xs : List A) → sum_by nodes (map f xs) ≡ sum_by (λ x. nodes (f x)) xs
mapped_total nodes f [] = refl
mapped_total nodes f (x ∷ xs) = sum_by-cons nodes (f x) (map f xs) ∙ ap (λ n. nodes (f x) + n) (mapped_total nodes f xs) ∙ sym (sum_by-cons (λ x. nodes (f x)) x xs)

points_within : (c : Code) → first_passed c ≡ None → points_in_code c ≤ 16384
points_within c h =
    let within = passing_total point_limit (point_shares c) (or_first LowerWhat.Points (passing point_limit (point_shares c)) _ h) in
    omega (arith, shares_of points_in c.funs, sum-map (λ (f : Fun). length f.code) c.funs)

defs_within : (c : Code) → first_passed c ≡ None → defs_in_code c ≤ 4096
defs_within c h =
    let behind = or_second LowerWhat.Points (passing point_limit (point_shares c)) _ h in
    let within = passing_total definition_limit (def_shares c) (or_first LowerWhat.Defs (passing definition_limit (def_shares c)) _ behind) in
    omega (arith, sum_by-append count_of (map starting_in c.globals) (map defs_in c.funs), shares_of starting_in c.globals, ones c.globals, shares_of defs_in c.funs, defs_length c.funs)

nodes_within : (c : Code) → first_passed c ≡ None → nodes_in_code c ≤ 16384
nodes_within c h =
    let behind = or_second LowerWhat.Points (passing point_limit (point_shares c)) _ h in
    let last = or_second LowerWhat.Defs (passing definition_limit (def_shares c)) _ behind in
    let globals = map (global_nodes c) c.globals in
    let funs = map (fun_nodes c) c.funs in
    let sites = map (site_nodes c) c.sites in
    let within : sum_by count_of ((globals ++ funs) ++ sites) ≤ 16384 = passing_total node_limit (node_shares c) (or_first LowerWhat.Nodes (passing node_limit (node_shares c)) None last) in
    let shapes = map (λ (s : Site). s.shape) c.sites in
    let g : sum_by count_of globals ≡ sum_by (shape_nodes c) (shapes_of_globals c) =
    shares_of (global_nodes c) c.globals ∙ sym (mapped_total (shape_nodes c) (λ (g : Global). g.shape) c.globals) in
    let f : sum_by count_of funs ≡ sum_by (shape_nodes c) (vars_in_funs c.funs) = shares_of (fun_nodes c) c.funs ∙ sym (vars_total (shape_nodes c) c.funs) in
    let s : sum_by count_of sites ≡ sum_by (shape_nodes c) shapes = shares_of (site_nodes c) c.sites ∙ sym (mapped_total (shape_nodes c) (λ (s : Site). s.shape) c.sites) in
    omega (
      arith,
      sum_by-append count_of (globals ++ funs) sites,
      sum_by-append count_of globals funs,
      sum-map (shape_nodes c) (shapes_used c),
      sum_by-append (shape_nodes c) (shapes_of_globals c) (vars_in_funs c.funs ++ shapes),
      sum_by-append (shape_nodes c) (vars_in_funs c.funs) shapes,
    )

-- where no function has more temporaries than twice its instructions
pub within_limits : (c : Code) → first_passed c ≡ None → sum_by temps_of_fun c.funs ≤ 2 * sum_by (λ (f : Fun). length f.code) c.funs → IsWithinLimits c
within_limits c h few = record {
  points = points_within c h;
  nodes = nodes_within c h;
  defs = defs_within c h;
  temps = (let points = points_within c h in omega (arith, sum-map temps_of_fun c.funs, sum-map (λ (f : Fun). length f.code) c.funs));
}
