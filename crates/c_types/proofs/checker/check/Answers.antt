-- The walk's program is that of the tree, or its fault the first.
use Rattle.std.proofs.Common.{rules, ◌≡◌, ◌≢◌, List, [], Result, Ok, Err, sym, subst}
use Rattle.c_ast.specs.Ast.{Ast, IsBuilt}
use Rattle.c_typed.specs.declared.fault.TypeFault.{TypeFault}
use Rattle.c_types.specs.declared.programs.Program.{Program}
use Rattle.c_typed.specs.declared.program.Function.{Function}
use Rattle.c_typed.specs.Sites.{numbered}
use Rattle.c_typed.specs.Programs.{faults_of, typed_of}
use Rattle.c_typed.specs.Typed.{Typed}
use Rattle.c_typed.specs.Checks.{Checks, IsTyped}
use Rattle.c_types.specs.tools.ProgramWalk.{program_walk}
use Rattle.c_types.proofs.Judges.{Judges, as_typed}
use Rattle.c_types.proofs.WalkChecks.{walk_checks}
use Rattle.c_types.proofs.checker.check.Goals as goal

refused : (a b : Ast) (r : Result Typed TypeFault) (e : TypeFault) → a ≡ b → r ≡ Err e → (e ≢ TypeFault.Memory → program_walk a.names a.items a.last ≡ Err e) → Checks b r
refused a b r e same is told = subst (λ b. Checks b r) same (subst (λ r. Checks a r) (sym is) (λ wanted. walk_checks a (Err e) (told wanted) wanted))

typed : (a : Ast) (p : Program) → IsBuilt a.items a.names → program_walk a.names a.items a.last ≡ Ok p → IsTyped (as_typed p)
typed a p built is = let all = walk_checks a (Ok p) is in record { source = a; built = built; keeps = all.0; typed = all.1 }

abbrev with_functions : Program → List Function → Typed
with_functions p fs = record { structs = p.structs; globals = p.globals; functions = fs; main = p.main }

taken : (a b : Ast) (p : Program) → a ≡ b → program_walk a.names a.items a.last ≡ Ok p → Judges b (Ok p)
taken a b p same is = subst (λ b. Judges b (Ok p)) same (walk_checks a (Ok p) is)

pub returns-in_err-program : goal.returns-in_err-program
returns-in_err-program c =
    let a : Ast = record { items = c.as_slice-2.result.now; names = c.as_slice.result.now; last = c.ast.inside.last } in
    let same : a ≡ c.args.ast = search rules in
    let e = c.in_err-program.field-0.0 in
    let is : c.from_residual.result ≡ Err e = search rules in
    refused a c.args.ast c.from_residual.result e same is c.in_err-program.ensures

pub invariant_of-result : goal.invariant_of-result
invariant_of-result c =
    let a : Ast = record { items = c.as_slice-2.result.now; names = c.as_slice.result.now; last = c.ast.inside.last } in
    let built : IsBuilt c.as_slice-2.result.now c.as_slice.result.now = search rules in
    let p = c.in_ok-program.program in
    let same : numbered p.functions ≡ c.in_ok-functions.functions = search rules in
    subst (λ fs. IsTyped (with_functions p fs)) same (typed a p built c.in_ok-program.ensures)

pub returns : goal.returns
returns c =
    let a : Ast = record { items = c.as_slice-2.result.now; names = c.as_slice.result.now; last = c.ast.inside.last } in
    let same : a ≡ c.args.ast = search rules in
    let p = c.in_ok-program.program in
    let counted : numbered p.functions ≡ c.in_ok-functions.functions = search rules in
    subst (λ fs. (faults_of c.args.ast ≡ []) × (with_functions p fs ≡ typed_of c.args.ast)) counted (taken a c.args.ast p same c.in_ok-program.ensures)
