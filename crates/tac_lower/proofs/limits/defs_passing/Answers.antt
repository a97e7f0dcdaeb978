use Rattle.std.proofs.Common.{◌++◌, ◌∙◌, ap, arith, map}
use Rattle.tac_lower.specs.tools.Counting.{capped_share}
use Rattle.tac_lower.specs.Limits.{passing, definition_limit, def_shares, starting_in, defs_in}
use Rattle.tac_lower.proofs.counted.CountLaws.{def_shares-capped, passing-capped}
use Rattle.tac_lower.proofs.limits.defs_passing.Goals as goal

pub returns : goal.returns
returns c =
    let code = c.args.code.now in
    let first = c.in_ok-add_starting.ensures ∙ ap (λ xs. xs ++ map (λ g. capped_share (starting_in g)) c.as_slice.result.now) c.new-shares.ensures.items
    ∙ ap (map (λ g. capped_share (starting_in g))) c.as_slice.ensures in
    let second = c.in_ok-add_defs.ensures ∙ ap (λ xs. xs ++ map (λ f. capped_share (defs_in f)) c.as_slice-2.result.now) first
    ∙ ap (λ fs. map (λ g. capped_share (starting_in g)) code.globals ++ map (λ f. capped_share (defs_in f)) fs) c.as_slice-2.ensures in
    c.passing.ensures ∙ ap (passing definition_limit) (c.as_slice-3.ensures.value ∙ second ∙ def_shares-capped code) ∙ passing-capped definition_limit (def_shares code) (omega arith)
