use Rattle.std.proofs.Common.{◌≡◌, List, length, map, sym, subst, ◌∙◌, ap, arith}
use Rattle.std.proofs.lemmas.Result.{IfOk-weaker}
use Rattle.std.proofs.lemmas.List.{length-reverse, length-map}
use Rattle.guest_log.specs.declared.stamped.Stamped.{Stamped}
use Rattle.guest_log.specs.Shared.{history_of}
use Rattle.merge_law.specs.AtRest as at_rest
use Rattle.merge_law.specs.MergeLaws.{IsWholeRun}
use Rattle.merge_law.proofs.runs.Merging.{merging}
use Rattle.merge_law.proofs.journal.journal_of.Goals as goal

pub returns-clause-run : goal.returns-clause-run
returns-clause-run c =
    let log : List Stamped = c.args.log.now.items in
    let long : length (history_of log) ≡ length log = length-reverse (map (λ (s : Stamped). s.entry) log) ∙ length-map log (λ (s : Stamped). s.entry) in
    let run = merging c.args.m.now c.args.input.now c.args.budget (history_of log) c.args.rest c.requires.log c.requires.shared.served (omega (arith, long, c.requires.budget)) c.requires.rest in
    IfOk-weaker c.journal_at_rest.result (λ j. j ≡ at_rest.journal_of c.args.rest (history_of c.items.result.now)) (IsWholeRun c.args.m.now c.args.input.now c.args.budget)
    (λ j is. subst (IsWholeRun c.args.m.now c.args.input.now c.args.budget) (sym (is ∙ ap (λ l. at_rest.journal_of c.args.rest (history_of l)) c.items.ensures.items)) run) c.journal_at_rest.ensures
