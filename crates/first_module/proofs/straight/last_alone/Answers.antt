use Rattle.std.proofs.Common.{ap, ◌∙◌, drop}
use Rattle.std.proofs.lemmas.List.{take_rest}
use Rattle.first_module.proofs.TrailLemmas.{last_of-drop}
use Rattle.first_module.proofs.straight.last_alone.Goals as goal

pub returns : goal.returns
returns c =
    let definitions = c.args.definitions.now in
    c.in_ok-from_slice.ensures ∙ take_rest definitions c.saturating_sub-earlier.result
    ∙ ap (λ k. drop k definitions) c.saturating_sub-earlier.ensures ∙ last_of-drop definitions
