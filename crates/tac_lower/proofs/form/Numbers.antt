-- The code of a typed program is numbered, and within the limits that it does not pass.
use Rattle.std.proofs.Common.{◌≡◌, ℕ, suc, ◌+◌, ◌*◌, ◌≤◌, List, [], ◌∷◌, map, length, Option, None, refl, subst, arith}
use Rattle.std.specs.List.{sum_by}
use Rattle.std.proofs.lemmas.List.{length-map}
use Rattle.std.proofs.lemmas.List.Sums.{sum_by-cons}
use Rattle.c_typed.specs.Typed.{Typed}
use Rattle.c_typed.specs.declared.types.ObjectType.{ObjectType}
use Rattle.c_typed.specs.declared.program.Function.{Function}
use Rattle.tac_ir.specs.declared.code.Fun.{Fun}
use Rattle.tac_ir.specs.declared.code.Instr.{Instr}
use Rattle.tac_ir.specs.Counts.{temps_of_fun}
use Rattle.tac_ir.specs.Numbers.{new_def, new_read, numbers_in, numbers_in_funs, IsCount}
use Rattle.tac_ir.specs.GoodForm.{IsWithinLimits, IsNumbered}
use Rattle.tac_lower.specs.Shapes.{shape_number}
use Rattle.tac_lower.specs.declared.draft.Numbers.{Numbers}
use Rattle.tac_lower.specs.declared.draft.Draft.{Draft}
use Rattle.tac_lower.specs.Stmts.{Around, stmt}
use Rattle.tac_lower.specs.Functions.{function, no_loop, first_of, around, drafts_from}
use Rattle.tac_lower.specs.CodeOf.{shaped, finished, fun_of, funs_of, global_of, sizes_of, first_numbers, code_of}
use Rattle.tac_lower.specs.Limits.{first_passed}
use Rattle.tac_lower.proofs.form.Each.{Each}
use Rattle.tac_lower.proofs.form.Runs.{Takes, IsStep, Run, AllSteps}
use Rattle.tac_lower.proofs.form.RunFunctions.{function_steps, function_length}
use Rattle.tac_lower.proofs.form.Tally.{Tally, tally_append, tally_count, def-shaped, read-shaped, run_tally, run_temps}
use Rattle.tac_lower.proofs.form.Limits.{within_limits}

pub record IsSteady (f : Function) : Type 0 where
  pub few : f.parameters ≤ length f.variables
  pub body : (a : Around) → AllSteps 0 (map (stmt a) f.body)

pub function_run : (c : Around) (f : Function) (n : Numbers) → IsSteady f → (let made = (function c f).make no_loop (first_of f n) in Run (first_of f n) made.drafts made.next)
function_run c f n is = (function_steps c f is.few (is.body c)).run no_loop (first_of f n) (omega arith)

funs_tally : (number : Instr → Option ℕ) (part : Numbers → ℕ) (shape : ObjectType → ℕ)
    → ((i : Instr) (o : Option ObjectType) → number (shaped shape i o) ≡ number i)
    → ((n : Numbers) (d : Draft) (m : Numbers) → IsStep n d m → Takes (number d.instr) (part n) (part m))
    → ((f : Function) (n : Numbers) → part (first_of f n) ≡ part n)
    → (sizes : List ℕ) (main k : ℕ) (n : Numbers) (fs : List Function) → Each IsSteady fs
    → (m : ℕ) × Tally (part n) (numbers_in_funs number (funs_of shape fs (drafts_from sizes main k n fs))) m
funs_tally number part shape same takes first sizes main k n [] each = (part n, refl)
funs_tally number part shape same takes first sizes main k n (f ∷ fs) each =
    let made = (function (around sizes main k) f).make no_loop (first_of f n) in
    let here = run_tally number part shape same takes (first_of f n) made.drafts made.next (function_run (around sizes main k) f n each.0) in
    let rest = funs_tally number part shape same takes first sizes main (suc k) made.next fs each.1 in (
      rest.0,
      tally_append (part n) (part made.next) rest.0 (numbers_in number (map (finished shape) made.drafts)) _
          (subst (λ x. Tally x (numbers_in number (map (finished shape) made.drafts)) (part made.next)) (first f n) here) rest.1,
    )

funs_temps : (shape : ObjectType → ℕ) (sizes : List ℕ) (main k : ℕ) (n : Numbers) (fs : List Function) → Each IsSteady fs
    → sum_by temps_of_fun (funs_of shape fs (drafts_from sizes main k n fs)) ≤ 2 * sum_by (λ (f : Fun). length f.code) (funs_of shape fs (drafts_from sizes main k n fs))
funs_temps shape sizes main k n [] each = omega arith
funs_temps shape sizes main k n (f ∷ fs) each =
    let c = around sizes main k in
    let made = (function c f).make no_loop (first_of f n) in
    let fun = fun_of shape f made.drafts in
    let funs = funs_of shape fs (drafts_from sizes main (suc k) made.next fs) in
    let rest = funs_temps shape sizes main (suc k) made.next fs each.1 in
    omega (
      arith,
      run_temps shape (first_of f n) made.drafts made.next (function_run c f n each.0),
      function_length c f no_loop (first_of f n) each.0.few,
      length-map made.drafts (finished shape),
      sum_by-cons temps_of_fun fun funs,
      sum_by-cons (λ (f : Fun). length f.code) fun funs,
    )

pub numbered : (t : Typed) → Each IsSteady t.functions → IsNumbered (code_of t)
numbered t each =
    let c = code_of t in
    let shape = λ (o : ObjectType). (shape_number t.structs c.shapes o) in
    let defs = funs_tally new_def (λ n. n.def) shape (def-shaped shape) (λ n d m s. s.def) (λ f n. refl) (sizes_of t) t.main 0 (first_numbers t) t.functions each in
    let reads = funs_tally new_read (λ n. n.read) shape (read-shaped shape) (λ n d m s. s.read) (λ f n. refl) (sizes_of t) t.main 0 (first_numbers t) t.functions each in
    let globals : suc (length t.globals) ≡ length c.globals + 1 = omega (arith, length-map t.globals (global_of shape)) in
    record {
      defs = subst (λ n. IsCount n (numbers_in_funs new_def c.funs)) globals (tally_count (suc (length t.globals)) defs.0 (numbers_in_funs new_def c.funs) defs.1);
      reads = tally_count 1 reads.0 (numbers_in_funs new_read c.funs) reads.1;
    }

pub limited : (t : Typed) → Each IsSteady t.functions → first_passed (code_of t) ≡ None → IsWithinLimits (code_of t)
limited t each h =
    let shape = λ (o : ObjectType). (shape_number t.structs (code_of t).shapes o) in
    within_limits (code_of t) h (funs_temps shape (sizes_of t) t.main 0 (first_numbers t) t.functions each)
