-- The codes of tests have good form, and their modules by computation.
use Rattle.std.specs.Prelude.{◌≡◌, refl, [], ◌∷◌}
use Rattle.tac_ir.specs.Counts.{nodes_in}
use Rattle.tac_ir.specs.GoodForm.{GoodForm}
use Rattle.tac_ir.specs.Layout.{words_in}
use Rattle.tac_ir.proofs.FormTest.{form_good}
use Rattle.first_module.specs.ClassesOf.{classes_of}
use Rattle.first_module.specs.Sample.{looped_lines, sample_code, straight_lines}
use Rattle.first_module.specs.SetsOf.{sets_of}

pub straight_good : GoodForm (sample_code straight_lines)
unfolding words_in nodes_in
straight_good = form_good (sample_code straight_lines) refl

pub looped_good : GoodForm (sample_code looped_lines)
unfolding words_in nodes_in
looped_good = form_good (sample_code looped_lines) refl

pub straight-sets : sets_of (sample_code straight_lines) ≡ (3 ∷ []) ∷ (1 ∷ 4 ∷ []) ∷ []
straight-sets = refl

pub straight-classes : classes_of ((3 ∷ []) ∷ (1 ∷ 4 ∷ []) ∷ []) 4 ≡ 1 ∷ 2 ∷ 3 ∷ 1 ∷ []
straight-classes = refl

pub looped-sets : sets_of (sample_code looped_lines) ≡ (1 ∷ 2 ∷ 3 ∷ []) ∷ []
looped-sets = refl

pub looped-classes : classes_of ((1 ∷ 2 ∷ 3 ∷ []) ∷ []) 3 ≡ 1 ∷ 1 ∷ 1 ∷ []
looped-classes = refl
