-- A module of a good form breaks no sentence of the rule.
use Rattle.std.proofs.Common.{◌≡◌, ℕ, zero, suc, ◌+◌, ◌-◌, ◌<◌, ◌≤◌, Option, Some, None, List, [], ◌∷◌, length, get_or, take, map, sum, refl, sym, ap, subst, ◌∙◌, arith}
use Rattle.std.specs.Prelude.{slice_get, All}
use Rattle.std.proofs.lemmas.List.{take_all, length-map}
use Rattle.std.proofs.lemmas.Option.{slice_get_within, slice_get-get_or}
use Rattle.dfi_base.specs.declared.numbers.Point.{Point}
use Rattle.dfi_base.specs.Limits.{global_limit, node_limit, temporary_limit}
use Rattle.tac_ir.specs.declared.code.Code.{Code}
use Rattle.tac_ir.specs.declared.code.Fun.{Fun}
use Rattle.tac_ir.specs.declared.code.Site.{Site}
use Rattle.tac_ir.specs.declared.code.Instr.{Instr}
use Rattle.tac_ir.specs.declared.code.Lined.{Lined}
use Rattle.tac_ir.specs.Module.{Module}
use Rattle.tac_ir.specs.Layout.{lines_of, vars_of, instr_at, shape_words, words_before, shapes_of_globals}
use Rattle.tac_ir.specs.Numbers.{new_def, new_read, defs_made, reads_made}
use Rattle.tac_ir.specs.Counts.{temps_of_fun, shape_nodes, shapes_used, vars_in_funs}
use Rattle.tac_ir.specs.Accesses.{facts_by, defs_accesses}
use Rattle.tac_ir.specs.GoodForm.{IsGoodGlobal, IsGoodInstr, IsLastKind}
use Rattle.tac_ir.specs.GoodModule.{GoodModule, IsPoint, IsGoodPointsRow, IsGoodReachRow}
use Rattle.tac_ir.specs.Tables.{IsNumberOf}
use Rattle.flow_rules.specs.PointNumber.{point_at}
use Rattle.flow_rules.proofs.ShapeNodes.{nodes_le, nodes_with}
use Rattle.flow_rules.proofs.PointNumbers.{fun_of, number_below}
use Rattle.flow_rules.proofs.Parallels.{lines_are}
use Rattle.dfi_checker.specs.TextPlace.{TextPlace}
use Rattle.dfi_checker.specs.Regions.{KeepsToRegions}
use Rattle.dfi_checker.specs.BreaksForm.{BreaksForm, numbers_before, temps_up_to, nodes_up_to}
use Rattle.dfi_checker.specs.BreaksForm.{
  few_shapes,
  first_shape,
  second_shape,
  bad_shape,
  many_shapes,
  bad_global,
  global_words,
  bad_site,
  no_function,
  many_functions,
  no_main,
  main_takes,
  few_variables,
  bad_variable,
  bad_parameter,
  frame_words,
  no_instruction,
  points,
  nodes_of_global,
  nodes_of_variable,
  nodes_of_site,
  starting_definitions,
  definitions,
  temporaries_of_parameters,
  temporaries,
  definition_number,
  read_number,
  bad_instruction,
  bad_last,
  leaves_region,
  class_for_each,
  bad_class,
  facts,
  set_for_each,
  bad_set,
  bad_points_row,
  bad_reach_row,
}
use Rattle.dfi_checker.proofs.Totals.{one_of, temps_first, flat_first}
use Rattle.dfi_checker.proofs.Positions.{stands, counted}
use Rattle.dfi_checker.proofs.RegionsKept.{keeps}

some_is : {A : Type 0} {x y : A} → Some x ≡ Some y → x ≡ y
some_is {x = x} e = ap (λ o. elim o [ Some z ↦ z | None ↦ x ]) e

abbrev instr_by : Option Lined → Instr
instr_by None = Instr.End
instr_by (Some l) = l.instr

-- an instruction and the function that it is in
record IsLine (c : Code) (p : Point) : Type 0 where
  fun : Fun
  function : slice_get c.funs p.fun ≡ Some fun
  line : Lined
  here : slice_get fun.code p.at ≡ Some line
  lines : lines_of c p.fun ≡ fun.code
  instr : instr_at c p ≡ line.instr

line_of_point : (c : Code) (p : Point) → IsPoint c p → IsLine c p
line_of_point c p is =
    let f = fun_of c p is in
    let lines = lines_are c p.fun f.0 f.1.found in
    by f.0 f.1.found lines (slice_get f.0.code p.at) refl (subst (λ code. p.at < length code) lines is)
  where
    by : (fun : Fun) → slice_get c.funs p.fun ≡ Some fun → lines_of c p.fun ≡ fun.code → (o : Option Lined) → slice_get fun.code p.at ≡ o → p.at < length fun.code → IsLine c p
    by fun function lines None here low = absurd (none_there fun.code p.at here low)
      where
        none_there : (code : List Lined) (at : ℕ) → slice_get code at ≡ None → at < length code → ⊥
        none_there [] at here low = omega (arith, low)
        none_there (l ∷ code) zero here low = cc
        none_there (l ∷ code) (suc at) here low = none_there code at here (omega (arith, low))
    by fun function lines (Some line) here low = record {
      fun = fun;
      function = function;
      line = line;
      here = here;
      lines = lines;
      instr = ap (λ code. instr_by (slice_get code p.at)) lines ∙ ap instr_by here;
    }

-- the variables of a function that has some are those of a function that there is
some_vars : (c : Code) (f v : ℕ) → v < length (vars_of c f) → (fun : Fun) × (slice_get c.funs f ≡ Some fun)
some_vars c f v low = by (slice_get c.funs f) refl low
  where
    by : (o : Option Fun) → slice_get c.funs f ≡ o → v < length (elim o as (λ z. List ℕ) [ None ↦ [] | Some fun ↦ fun.vars ]) → (fun : Fun) × (slice_get c.funs f ≡ Some fun)
    by None is low = absurd (omega (arith, low))
    by (Some fun) is low = (fun, is)

module _ (m : Module) (good : GoodModule m) where
  temps_within : (f : ℕ) (fun : Fun) (n : ℕ) → slice_get m.code.funs f ≡ Some fun → temps_up_to m.code f fun n ≤ temporary_limit
  temps_within f fun n is =
      let within = slice_get_within m.code.funs f fun is in
      let item : get_or m.code.funs f fun ≡ fun = some_is (sym (slice_get-get_or m.code.funs f fun within) ∙ is) in
      omega (arith, good.form.limits.temps, nodes_with temps_of_fun m.code.funs f fun within, ap temps_of_fun item, temps_first fun.params n fun.code)

  global_total : (n : ℕ) → words_before m.code (shapes_of_globals m.code) n ≤ global_limit
  global_total n =
      let shapes = shapes_of_globals m.code in
      let many : length shapes ≡ length m.code.globals = length-map m.code.globals (λ g. g.shape) in
      let whole = ap (λ xs. sum (map (shape_words m.code) xs)) (take_all (length m.code.globals) shapes (omega (arith, many))) in
      omega (arith, good.form.globals.words, whole, nodes_le (shape_words m.code) shapes n)

  node_total : (n : ℕ) → nodes_up_to m.code n ≤ node_limit
  node_total n = omega (arith, nodes_le (shape_nodes m.code) (shapes_used m.code) n, good.form.limits.nodes)

  last_kept : (f i : ℕ) → suc i ≡ length (lines_of m.code f) → IsLastKind (instr_at m.code (point_at f i))
  last_kept f i count =
      let l = line_of_point m.code (point_at f i) (omega (arith, count)) in
      let last = (good.form.code f l.fun l.function).last in
      let same : length l.fun.code - 1 ≡ i = omega (arith, count, ap length l.lines) in
      let one : last.0 ≡ l.line = some_is (sym last.1 ∙ (ap (λ n. slice_get l.fun.code n) same ∙ l.here)) in
      subst IsLastKind (ap (λ (z : Lined). z.instr) one ∙ sym l.instr) last.2

  pub form_kept : (place : TextPlace) → BreaksForm m place → ⊥
  form_kept place (few_shapes h) = (let some = slice_get_within m.code.shapes 1 _ good.form.shapes.second in omega (arith, some, h))
  form_kept place (first_shape s is h) = h (some_is (sym is ∙ good.form.shapes.first))
  form_kept place (second_shape s is h) = h (some_is (sym is ∙ good.form.shapes.second))
  form_kept place (bad_shape n s is h) = h (good.form.shapes.each n s is)
  form_kept place (many_shapes h) = omega (arith, good.form.shapes.count, h)
  form_kept place (bad_global v g is h) = h (one_of (IsGoodGlobal m.code) m.code.globals v g good.form.globals.each is)
  form_kept place (global_words v low p) = omega (arith, global_total (suc v), p.after)
  form_kept place (bad_site k s is h) = h (one_of (λ (s : Site). s.shape < length m.code.shapes) m.code.sites k s good.form.globals.sites is)
  form_kept place (no_function h) = omega (arith, good.form.funs.some, h)
  form_kept place (many_functions h) = omega (arith, good.form.funs.count, h)
  form_kept place (no_main h) = h good.form.funs.main
  form_kept place (main_takes h) = h good.form.funs.main_params
  form_kept place (few_variables f fun is h) = omega (arith, (good.form.funs.frames f fun is).params, h)
  form_kept place (bad_variable f v s fun is at h) = h (one_of (λ s. s < length m.code.shapes) fun.vars v s (good.form.funs.frames f fun is).vars at)
  form_kept place (bad_parameter f v s fun is at low h) = omega (arith, (good.form.funs.frames f fun is).params_are_basic v s low at, h)
  form_kept place (frame_words f v low p) =
      let fun = some_vars m.code f v low in
      omega (arith, (good.form.funs.frames f fun.0 fun.1).words, nodes_le (shape_words m.code) (vars_of m.code f) (suc v), p.after)
  form_kept place (no_instruction f fun is h) =
      let last = (good.form.code f fun is).last in
      let within = slice_get_within fun.code (length fun.code - 1) last.0 last.1 in
      omega (arith, within, h)
  form_kept place (points p is h) = omega (arith, number_below m.code p is, good.form.limits.points, h)
  form_kept place (nodes_of_global v low p) = omega (arith, node_total (suc v), p.after)
  form_kept place (nodes_of_variable f v low p) = omega (arith, node_total (suc (length m.code.globals + (length (vars_in_funs (take f m.code.funs)) + v))), p.after)
  form_kept place (nodes_of_site k low p) = omega (arith, node_total (suc (length m.code.globals + (length (vars_in_funs m.code.funs) + k))), p.after)
  form_kept place (starting_definitions h) = omega (arith, good.form.limits.defs, h)
  form_kept place (definitions p d is named h) =
      let within = slice_get_within (defs_made m.code) (numbers_before new_def m.code p) d (stands new_def m.code p d refl named) in
      omega (arith, good.form.limits.defs, within, h)
  form_kept place (temporaries_of_parameters f fun is before after) = omega (arith, temps_within f fun 0 is, after)
  form_kept place (temporaries f i fun is low p) = omega (arith, temps_within f fun (suc i) is, p.after)
  form_kept place (definition_number p d is named h) =
      let e = counted (length m.code.globals + 1) (defs_made m.code) (numbers_before new_def m.code p) d good.form.numbers.defs (stands new_def m.code p d refl named) in
      h (omega (arith, e))
  form_kept place (read_number p r is named h) =
      let e = counted 1 (reads_made m.code) (numbers_before new_read m.code p) r good.form.numbers.reads (stands new_read m.code p r refl named) in
      h (omega (arith, e))
  form_kept place (bad_instruction p is h) =
      let l = line_of_point m.code p is in
      h (subst (λ code. IsGoodInstr m.code p.fun code p.at (instr_at m.code p)) (sym l.lines) (subst (IsGoodInstr m.code p.fun l.fun.code p.at) (sym l.instr) ((good.form.code p.fun l.fun l.function).instrs p.at l.line l.here)))
  form_kept place (bad_last f i count h) = h (last_kept f i count)
  form_kept place (leaves_region p is h) =
      let l = line_of_point m.code p is in
      h (subst (λ code. KeepsToRegions code p.at (instr_at m.code p)) (sym l.lines) (subst (KeepsToRegions l.fun.code p.at) (sym l.instr) (keeps m.code p.fun l.fun.code (good.form.code p.fun l.fun l.function) p.at l.line l.here)))
  form_kept place (class_for_each h) = h good.tables.count
  form_kept place (bad_class d n is h) = h (one_of (IsNumberOf m) m.classes d n good.tables.classes is)
  form_kept place (facts d low p) = omega (arith, flat_first facts_by (suc d) (defs_accesses m.code m.points), good.facts, p.after)
  form_kept place (set_for_each h) = h good.sets
  form_kept place (bad_set r members is h) = h (one_of (All (IsNumberOf m)) m.sets r members good.tables.sets is)
  form_kept place (bad_points_row i row is h) = h (one_of (IsGoodPointsRow m.code) m.points i row good.points is)
  form_kept place (bad_reach_row i row is h) = h (one_of (IsGoodReachRow m) m.reach i row good.reach is)
