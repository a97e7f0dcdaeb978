use Rattle.std.proofs.Common.{rules, ◌≡◌, map, take, Ok, Err, sym, subst}
use Rattle.tac_lower.specs.Parts.{in_turn, ◌▷◌, ◌⨟◌}
use Rattle.tac_lower.specs.Stmts.{around_by, stmt, returned}
use Rattle.tac_lower.specs.Functions.{parameters_from, default, function, no_loop}
use Rattle.tac_lower.specs.tools.Emits.{Emits}
use Rattle.tac_lower.proofs.emitted.Chains.{follow, stopped, returned_counts}
use Rattle.tac_lower.proofs.emitted.Follows.{next, halt}
use Rattle.tac_lower.proofs.writer.Writer.function.Goals as goal

pub returns : goal.returns
returns c =
    next (in_turn (parameters_from 0 (take c.args.f.now.parameters c.args.f.now.variables))) ((in_turn (map (stmt (around_by c.args.structs.now c.args.in_main)) c.args.f.now.body)) ⨟ (default c.args.f.now.close.0 c.args.f.now.result) ▷ (λ a. returned c.args.in_main c.args.f.now.close.0 a)) no_loop c.args.self.now c.parameters.new.self c.give_back.new.self c.in_ok-parameters.field-0 (c.give_back.result)
    (subst (λ vs. Emits (in_turn (parameters_from 0 vs)) no_loop c.args.self.now c.parameters.new.self (Ok c.in_ok-parameters.field-0)) c.parameters_of.ensures (c.in_ok-parameters.ensures no_loop))
    (next (in_turn (map (stmt (around_by c.args.structs.now c.args.in_main)) c.args.f.now.body)) ((default c.args.f.now.close.0 c.args.f.now.result) ▷ (λ a. returned c.args.in_main c.args.f.now.close.0 a)) no_loop c.parameters.new.self c.stmts.new.self c.give_back.new.self c.in_ok-stmts.field-0 (c.give_back.result) (subst (λ ss. Emits (in_turn (map (stmt (around_by c.args.structs.now c.args.in_main)) ss)) no_loop c.parameters.new.self c.stmts.new.self (Ok c.in_ok-stmts.field-0)) c.as_slice.ensures c.in_ok-stmts.ensures)
    (follow 0 (default c.args.f.now.close.0 c.args.f.now.result) (λ a. returned c.args.in_main c.args.f.now.close.0 a) no_loop c.stmts.new.self c.default_value.new.self c.give_back.new.self c.in_ok-a.a c.give_back.result (returned_counts c.args.in_main c.args.f.now.close.0) (c.in_ok-a.ensures no_loop) (c.give_back.ensures no_loop)))

pub returns-in_err-parameters : goal.returns-in_err-parameters
returns-in_err-parameters c =
    let told : c.from_residual.result ≡ Err c.in_err-parameters.field-0.0 = search rules in
    subst (λ r. Emits (function (around_by c.args.structs.now c.args.in_main) c.args.f.now) no_loop c.args.self.now c.parameters.new.self r) (sym told)
    (halt (in_turn (parameters_from 0 (take c.args.f.now.parameters c.args.f.now.variables))) ((in_turn (map (stmt (around_by c.args.structs.now c.args.in_main)) c.args.f.now.body)) ⨟ (default c.args.f.now.close.0 c.args.f.now.result) ▷ (λ a. returned c.args.in_main c.args.f.now.close.0 a)) no_loop c.args.self.now c.parameters.new.self c.in_err-parameters.field-0.0 (subst (λ vs. Emits (in_turn (parameters_from 0 vs)) no_loop c.args.self.now c.parameters.new.self (Err c.in_err-parameters.field-0.0)) c.parameters_of.ensures (c.in_err-parameters.ensures no_loop)))

pub returns-in_err-stmts : goal.returns-in_err-stmts
returns-in_err-stmts c =
    let told : c.from_residual-in_err-stmts.result ≡ Err c.in_err-stmts.field-0.0 = search rules in
    subst (λ r. Emits (function (around_by c.args.structs.now c.args.in_main) c.args.f.now) no_loop c.args.self.now c.stmts.new.self r) (sym told)
    (next (in_turn (parameters_from 0 (take c.args.f.now.parameters c.args.f.now.variables))) ((in_turn (map (stmt (around_by c.args.structs.now c.args.in_main)) c.args.f.now.body)) ⨟ (default c.args.f.now.close.0 c.args.f.now.result) ▷ (λ a. returned c.args.in_main c.args.f.now.close.0 a)) no_loop c.args.self.now c.parameters.new.self c.stmts.new.self c.in_ok-parameters.field-0 (Err c.in_err-stmts.field-0.0)
    (subst (λ vs. Emits (in_turn (parameters_from 0 vs)) no_loop c.args.self.now c.parameters.new.self (Ok c.in_ok-parameters.field-0)) c.parameters_of.ensures (c.in_ok-parameters.ensures no_loop))
    (halt (in_turn (map (stmt (around_by c.args.structs.now c.args.in_main)) c.args.f.now.body)) ((default c.args.f.now.close.0 c.args.f.now.result) ▷ (λ a. returned c.args.in_main c.args.f.now.close.0 a)) no_loop c.parameters.new.self c.stmts.new.self c.in_err-stmts.field-0.0 (subst (λ ss. Emits (in_turn (map (stmt (around_by c.args.structs.now c.args.in_main)) ss)) no_loop c.parameters.new.self c.stmts.new.self (Err c.in_err-stmts.field-0.0)) c.as_slice.ensures c.in_err-stmts.ensures)))

pub returns-in_err-a : goal.returns-in_err-a
returns-in_err-a c =
    let told : c.from_residual-in_err-a.result ≡ Err c.in_err-a.field-0.0 = search rules in
    subst (λ r. Emits (function (around_by c.args.structs.now c.args.in_main) c.args.f.now) no_loop c.args.self.now c.default_value.new.self r) (sym told)
    (next (in_turn (parameters_from 0 (take c.args.f.now.parameters c.args.f.now.variables))) ((in_turn (map (stmt (around_by c.args.structs.now c.args.in_main)) c.args.f.now.body)) ⨟ (default c.args.f.now.close.0 c.args.f.now.result) ▷ (λ a. returned c.args.in_main c.args.f.now.close.0 a)) no_loop c.args.self.now c.parameters.new.self c.default_value.new.self c.in_ok-parameters.field-0 (Err c.in_err-a.field-0.0)
    (subst (λ vs. Emits (in_turn (parameters_from 0 vs)) no_loop c.args.self.now c.parameters.new.self (Ok c.in_ok-parameters.field-0)) c.parameters_of.ensures (c.in_ok-parameters.ensures no_loop))
    (next (in_turn (map (stmt (around_by c.args.structs.now c.args.in_main)) c.args.f.now.body)) ((default c.args.f.now.close.0 c.args.f.now.result) ▷ (λ a. returned c.args.in_main c.args.f.now.close.0 a)) no_loop c.parameters.new.self c.stmts.new.self c.default_value.new.self c.in_ok-stmts.field-0 (Err c.in_err-a.field-0.0) (subst (λ ss. Emits (in_turn (map (stmt (around_by c.args.structs.now c.args.in_main)) ss)) no_loop c.parameters.new.self c.stmts.new.self (Ok c.in_ok-stmts.field-0)) c.as_slice.ensures c.in_ok-stmts.ensures)
    (stopped 0 (default c.args.f.now.close.0 c.args.f.now.result) (λ a. returned c.args.in_main c.args.f.now.close.0 a) no_loop c.stmts.new.self c.default_value.new.self c.in_err-a.field-0.0 (c.in_err-a.ensures no_loop))))
