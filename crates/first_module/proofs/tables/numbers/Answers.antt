use Rattle.std.proofs.Common.{◌≡◌, ◌+◌, [], ◌∷◌, ◌++◌, ap, ◌∙◌, arith}
use Rattle.std.specs.List.{range_with_len}
use Rattle.first_module.proofs.EveryLemmas.{range-push}
use Rattle.first_module.proofs.tables.numbers.Goals as goal

pub loop-number-preserved : goal.loop-number-preserved
loop-number-preserved c =
    let n = c.loop-number.number in
    let same : n + 1 ≡ 1 + n = omega arith in
    c.in_ok-push.ensures.items ∙ ap (λ xs. xs ++ (n + 1) ∷ []) c.loop-number.invariant
    ∙ ap (λ k. range_with_len 1 n ++ k ∷ []) same ∙ range-push 1 n
