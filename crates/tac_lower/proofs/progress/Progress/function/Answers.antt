use Rattle.std.proofs.Common.{◌++◌, refl, ap, ◌∙◌, arith}
use Rattle.tac_lower.specs.Stmts.{around_by}
use Rattle.tac_lower.specs.Functions.{function, first_of, no_loop}
use Rattle.tac_lower.proofs.progress.Progress.function.Goals as goal

pub returns : goal.returns
returns c =
    let made = (function (around_by c.args.structs.now c.args.in_main) c.args.f.now).make no_loop (first_of c.args.f.now c.args.self.now.next) in
    let count = c.in_ok-function.ensures.count in
    let room = c.in_ok-function.ensures.room in
    let exact = c.in_ok-function.ensures.exact refl in
    let low = c.function.new.self.at in
    record {
      drafts = exact.drafts ∙ ap (λ ds. ds ++ made.drafts) c.new.ensures;
      next = exact.next;
      room = omega arith;
    }
