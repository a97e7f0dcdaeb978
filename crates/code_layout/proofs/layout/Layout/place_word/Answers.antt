use Rattle.std.proofs.Common.{◌∙◌, ap, sym}
use Rattle.tac_ir.specs.declared.code.Place.{Place}
use Rattle.code_layout.proofs.Paths.{global_fits, local_fits}
use Rattle.code_layout.proofs.layout.Layout.place_word.Goals as goal

pub global_word-requires-clause-fits : goal.global_word-requires-clause-fits
global_word-requires-clause-fits c =
    global_fits c.args.c.now c.requires.form c.args.fun _ _ _ (c.in-Global.is ∙ ap (λ p. Place.Global c.in-Global.var p) (sym c.as_slice.ensures)) c.requires.place

pub local_word-requires-clause-fits : goal.local_word-requires-clause-fits
local_word-requires-clause-fits c =
    local_fits c.args.c.now c.requires.form c.args.fun _ _ _ (c.in-Local.is ∙ ap (λ p. Place.Local c.in-Local.var p) (sym c.as_slice-in-Local.ensures)) c.requires.place
