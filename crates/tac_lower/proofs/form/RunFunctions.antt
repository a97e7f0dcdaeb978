-- The code of functions is a run, function behind function.
use Rattle.std.proofs.Common.{◌≡◌, ℕ, zero, suc, ◌+◌, ◌≤◌, Bool, true, false, pos, List, [], ◌∷◌, ◌++◌, map, take, length, Option, Some, None, refl, ap, arith}
use Rattle.std.proofs.lemmas.List.{length-append, length-take-le}
use Rattle.c_typed.specs.declared.types.ObjectType.{ObjectType}
use Rattle.c_typed.specs.declared.program.Function.{Function}
use Rattle.c_typed.specs.declared.program.Variable.{Variable}
use Rattle.tac_ir.specs.declared.code.Place.{Place}
use Rattle.tac_lower.specs.declared.draft.Numbers.{Numbers}
use Rattle.tac_lower.specs.declared.draft.Ends.{Ends}
use Rattle.tac_lower.specs.Parts.{in_turn, ◌▷◌, ◌⨟◌}
use Rattle.tac_lower.specs.Instrs.{set}
use Rattle.tac_lower.specs.Stmts.{Around, stmt, returned}
use Rattle.tac_lower.specs.Functions.{parameters_from, default_by, default, function}
use Rattle.tac_lower.proofs.form.Runs.{Steps, all_more, steps_then, steps_next, AllSteps, steps_in_turn}
use Rattle.tac_lower.proofs.form.RunInstrs.{constant_steps, null_steps, set_steps}
use Rattle.tac_lower.proofs.form.RunStmts.{returned_steps}

parameters_steps : (m k : ℕ) (vs : List Variable) → k + length vs ≤ m → AllSteps m (parameters_from k vs)
parameters_steps m k [] h = tt
parameters_steps m k (v ∷ vs) h = (set_steps m v.line.0 (Place.Local k []) k (omega arith), parameters_steps m (suc k) vs (omega arith))

default_by_steps : (m line stars : ℕ) → Steps m (default_by line stars)
default_by_steps m line zero = constant_steps m line (pos 0)
default_by_steps m line (suc stars) = null_steps m line

default_steps : (m line : ℕ) (o : Option ObjectType) → Steps m (default line o)
default_steps m line None = constant_steps m line (pos 0)
default_steps m line (Some t) = default_by_steps m line t.stars

pub function_steps : (c : Around) (f : Function) → f.parameters ≤ length f.variables → AllSteps 0 (map (stmt c) f.body) → Steps f.parameters (function c f)
function_steps c f few body =
    let m = f.parameters in
    let params = parameters_from 0 (take f.parameters f.variables) in
    steps_next m (in_turn params) (in_turn (map (stmt c) f.body) ⨟ default f.close.0 f.result ▷ λ a. returned c.in_main f.close.0 a)
    (steps_in_turn m params (parameters_steps m 0 (take f.parameters f.variables) (omega (arith, length-take-le f.parameters f.variables few))))
    (steps_next m (in_turn (map (stmt c) f.body)) (default f.close.0 f.result ▷ λ a. returned c.in_main f.close.0 a)
    (steps_in_turn m (map (stmt c) f.body) (all_more 0 m (map (stmt c) f.body) (omega arith) body))
    (steps_then m (default f.close.0 f.result) (λ a. returned c.in_main f.close.0 a) (default_steps m f.close.0 f.result) (λ k a h up. returned_steps k c.in_main f.close.0 a up)))

-- It has an instruction for each parameter, and two more.
parameters_length : (ends : Ends) (n : Numbers) (k : ℕ) (vs : List Variable) → length ((in_turn (parameters_from k vs)).make ends n).drafts ≡ length vs
parameters_length ends n k [] = refl
parameters_length ends n k (v ∷ vs) = ap suc (parameters_length ends ((set v.line.0 (Place.Local k []) k).make ends n).next (suc k) vs)

default_by_length : (ends : Ends) (n : Numbers) (line stars : ℕ) → length ((default_by line stars).make ends n).drafts ≡ 1
default_by_length ends n line zero = refl
default_by_length ends n line (suc stars) = refl

default_length : (ends : Ends) (n : Numbers) (line : ℕ) (o : Option ObjectType) → length ((default line o).make ends n).drafts ≡ 1
default_length ends n line None = refl
default_length ends n line (Some t) = default_by_length ends n line t.stars

returned_length : (ends : Ends) (n : Numbers) (main : Bool) (line a : ℕ) → length ((returned main line a).make ends n).drafts ≡ 1
returned_length ends n true line a = refl
returned_length ends n false line a = refl

pub function_length : (c : Around) (f : Function) (ends : Ends) (n : Numbers) → f.parameters ≤ length f.variables → f.parameters + 2 ≤ length ((function c f).make ends n).drafts
function_length c f ends n few =
    let ps = (in_turn (parameters_from 0 (take f.parameters f.variables))).make ends n in
    let body = (in_turn (map (stmt c) f.body)).make ends ps.next in
    let def = (default f.close.0 f.result).make ends body.next in
    let ret = (returned c.in_main f.close.0 def.result).make ends def.next in
    omega (
      arith,
      length-append ps.drafts (body.drafts ++ (def.drafts ++ ret.drafts)),
      length-append body.drafts (def.drafts ++ ret.drafts),
      length-append def.drafts ret.drafts,
      parameters_length ends n 0 (take f.parameters f.variables),
      length-take-le f.parameters f.variables few,
      default_length ends body.next f.close.0 f.result,
      returned_length ends def.next c.in_main f.close.0 def.result,
    )
