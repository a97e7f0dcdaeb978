use Rattle.std.proofs.Common.{◌≡◌, ◌+◌, ◌≤◌, nat_eq, ◌∷◌, length, drop, false, Some, Err, refl, ap, sym, ◌∙◌, subst, arith}
use Rattle.std.specs.Prelude.{slice_get}
use Rattle.std.proofs.lemmas.Option.{slice_get-get_or}
use Rattle.tac_lower.specs.Stmts.{around_by}
use Rattle.tac_lower.specs.Functions.{function}
use Rattle.tac_lower.specs.CodeOf.{sizes_of, first_numbers}
use Rattle.tac_lower.specs.tools.Drafted.{IsWritten, Writes, Drafts}
use Rattle.c_typed.proofs.Few.{all_get, few_globals, few_parameters}
use Rattle.tac_lower.proofs.emitted.Gathers.{left_from}
use Rattle.tac_lower.proofs.emitted.Drafting.{drafting_more, drafting_stopped, drafting_done}
use Rattle.c_typed.specs.IsWell.{context_of, IsFunction}
use Rattle.tac_lower.specs.tools.Well.{WellStmts}
use Rattle.tac_lower.proofs.emitted.WellParts.{body_well}
use Rattle.tac_lower.proofs.functions.emit_functions.Goals as goal

pub new-progress-requires : goal.new-progress-requires
new-progress-requires c =
    let few = few_globals c.args.program.now c.requires in
    let same = ap (λ x. length x.globals) c.program.view_is in
    omega (arith, c.len.ensures)

pub function-requires-clause-parameters : goal.function-requires-clause-parameters
function-requires-clause-parameters c =
    let t = c.args.program.now in
    let f = c.index-functions-k.result in
    let all : c.as_slice-functions.result.now ≡ t.functions = c.as_slice-functions.ensures ∙ ap (λ x. x.functions) c.program.view_is in
    let there : slice_get t.functions c.loop-k.k ≡ Some f =
    subst (λ fs. slice_get fs c.loop-k.k ≡ Some f) all (slice_get-get_or c.as_slice-functions.result.now c.loop-k.k f c.loop-k-test.true ∙ ap Some (sym c.index-functions-k.is)) in
    (let few = few_parameters t c.requires c.loop-k.k f there in omega arith)

pub function-requires-clause-body : goal.function-requires-clause-body
function-requires-clause-body c =
    let t = c.args.program.now in
    let f = c.index-functions-k.result in
    let all : c.as_slice-functions.result.now ≡ t.functions = c.as_slice-functions.ensures ∙ ap (λ x. x.functions) c.program.view_is in
    let there : slice_get t.functions c.loop-k.k ≡ Some f =
    subst (λ fs. slice_get fs c.loop-k.k ≡ Some f) all (slice_get-get_or c.as_slice-functions.result.now c.loop-k.k f c.loop-k-test.true ∙ ap Some (sym c.index-functions-k.is)) in
    let structs : c.new-structs.result ≡ t.structs = c.new-structs.ensures ∙ c.as_slice-items.ensures ∙ ap (λ x. x.structs) c.program.view_is in
    let well = all_get (IsFunction t) t.functions c.loop-k.k f c.requires.functions there in
    subst (λ ss. WellStmts ss f.body) (sym structs) (body_well t.structs (context_of t f) refl (record { looped = false; branched = false }) f.body well.body)

pub loop-k-preserved : goal.loop-k-preserved
loop-k-preserved c =
    let t = c.args.program.now in
    let f = c.index-functions-k.result in
    let all : c.as_slice-functions.result.now ≡ t.functions = c.as_slice-functions.ensures ∙ ap (λ x. x.functions) c.program.view_is in
    let structs : c.new-structs.result ≡ t.structs = c.new-structs.ensures ∙ c.as_slice-items.ensures ∙ ap (λ x. x.structs) c.program.view_is in
    let main : c.program.inside.main ≡ t.main = ap (λ x. x.main) c.program.view_is in
    let here : drop c.loop-k.k t.functions ≡ f ∷ drop (c.loop-k.k + 1) t.functions =
    subst (λ fs. drop c.loop-k.k fs ≡ f ∷ drop (c.loop-k.k + 1) fs) all (left_from c.as_slice-functions.result.now c.loop-k.k f c.loop-k-test.true c.index-functions-k.is) in
    drafting_more (sizes_of t) t.main (first_numbers t) t.functions (drop c.loop-k.k t.functions) (drop (c.loop-k.k + 1) t.functions) f c.loop-k.k c.loop-k.progress c.function.new.self
    c.loop-k.drafts c.push.new.self c.in-Ok.function here c.in_ok-push-in-Ok.ensures.ok
    (subst (λ ss. IsWritten (function (around_by ss (nat_eq c.loop-k.k t.main)) f) f c.loop-k.progress c.function.new.self c.in-Ok.function) structs
    (subst (λ m. IsWritten (function (around_by c.new-structs.result (nat_eq c.loop-k.k m)) f) f c.loop-k.progress c.function.new.self c.in-Ok.function) main c.in-Ok.ensures))
    c.loop-k.invariant

pub returns-in-Err : goal.returns-in-Err
returns-in-Err c =
    let t = c.args.program.now in
    let f = c.index-functions-k.result in
    let all : c.as_slice-functions.result.now ≡ t.functions = c.as_slice-functions.ensures ∙ ap (λ x. x.functions) c.program.view_is in
    let structs : c.new-structs.result ≡ t.structs = c.new-structs.ensures ∙ c.as_slice-items.ensures ∙ ap (λ x. x.structs) c.program.view_is in
    let main : c.program.inside.main ≡ t.main = ap (λ x. x.main) c.program.view_is in
    let here : drop c.loop-k.k t.functions ≡ f ∷ drop (c.loop-k.k + 1) t.functions =
    subst (λ fs. drop c.loop-k.k fs ≡ f ∷ drop (c.loop-k.k + 1) fs) all (left_from c.as_slice-functions.result.now c.loop-k.k f c.loop-k-test.true c.index-functions-k.is) in
    subst (λ e. Drafts t (Err e)) (sym c.fault.ensures)
    (drafting_stopped t (drop (c.loop-k.k + 1) t.functions) f c.loop-k.k c.loop-k.progress c.function.new.self c.loop-k.drafts c.in-Err.stop here
    (subst (λ ss. Writes (function (around_by ss (nat_eq c.loop-k.k t.main)) f) f c.loop-k.progress c.function.new.self (Err c.in-Err.stop)) structs
    (subst (λ m. Writes (function (around_by c.new-structs.result (nat_eq c.loop-k.k m)) f) f c.loop-k.progress c.function.new.self (Err c.in-Err.stop)) main c.in-Err.ensures))
    c.loop-k.invariant)

pub returns : goal.returns
returns c =
    let t = c.args.program.now in
    let all : c.as_slice-functions.result.now ≡ t.functions = c.as_slice-functions.ensures ∙ ap (λ x. x.functions) c.program.view_is in
    let past : length t.functions ≤ c.loop-k.k = subst (λ fs. length fs ≤ c.loop-k.k) all c.loop-k-test.false in
    let done = drafting_done (sizes_of t) t.main (first_numbers t) t.functions c.loop-k.k c.loop-k.k c.loop-k.progress c.loop-k.drafts past c.loop-k.invariant in
    record { drafts = done.0; within = done.1 }
