use Rattle.std.proofs.Common.{◌≡◌, Some, None, slice_get, ◌-◌, ap, sym, ◌∙◌, subst, arith}
use Rattle.std.proofs.lemmas.Grind.{common_steps}
use Rattle.std.proofs.lemmas.Option.{gets}
use Rattle.src_law.specs.Acts.{a_value}
use Rattle.src_law.specs.Program.{body, body_of, with_return}
use Rattle.src_law.specs.tools.Heard.{bind}
use Rattle.src_law.specs.tools.Reader.{reads, calls_at}
use Rattle.src_meaning.specs.tools.Follows.{Follows}
use Rattle.src_meaning.specs.tools.Levels.{program_of}
use Rattle.src_meaning.proofs.Loops.{no_call, one_call}
use Rattle.src_meaning.proofs.Stopping.{stopped}
use Rattle.src_meaning.proofs.calls.+called.Goals as goal

pub returns-then-level-eq0 : goal.returns-then-level-eq0
returns-then-level-eq0 t c =
    ap (λ r. bind r (λ m. calls_at (body (program_of c.args.level.program)) c.args.level.fuel c.args.number m c.args.arguments.now)) c.in_ok-maker.ensures ∙ no_call (body (program_of c.args.level.program)) c.args.level.fuel c.args.number c.in_ok-maker.maker c.args.arguments.now c.frame.new.self c.if-level-eq0.true

pub returns-in_default : goal.returns-in_default
returns-in_default t c =
    let there : slice_get c.args.level.program.functions.now c.args.number ≡ None = grind (arith, common_steps, gets) in
    subst (λ r. Follows r c.last.result c.last.new.self)
    (sym (ap (λ r. bind r (λ m. calls_at (body (program_of c.args.level.program)) c.args.level.fuel c.args.number m c.args.arguments.now)) c.in_ok-maker.ensures ∙ one_call (body (program_of c.args.level.program)) c.args.level.fuel c.args.number c.in_ok-maker.maker c.args.arguments.now c.frame.new.self (omega arith)
    ∙ ap (λ x. reads (body (program_of c.args.level.program)) (c.args.level.fuel - 1) a_value (with_return (body_of (program_of c.args.level.program) c.args.number x c.in_ok-maker.maker c.args.arguments.now)) c.frame.new.self) there))
    (stopped c.frame.new.self _ c.last.result c.last.new.self c.last.ensures)

pub returns : goal.returns
returns t c =
    let there : slice_get c.args.level.program.functions.now c.args.number ≡ Some c.in-Some.function.now = grind (arith, common_steps, gets) in
    subst (λ r. Follows r c.call_in.result c.call_in.new.heard)
    (sym (ap (λ r. bind r (λ m. calls_at (body (program_of c.args.level.program)) c.args.level.fuel c.args.number m c.args.arguments.now)) c.in_ok-maker.ensures ∙ one_call (body (program_of c.args.level.program)) c.args.level.fuel c.args.number c.in_ok-maker.maker c.args.arguments.now c.frame.new.self (omega arith)
    ∙ ap (λ x. reads (body (program_of c.args.level.program)) (c.args.level.fuel - 1) a_value (with_return (body_of (program_of c.args.level.program) c.args.number x c.in_ok-maker.maker c.args.arguments.now)) c.frame.new.self) there))
    c.call_in.ensures
