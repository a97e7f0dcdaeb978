-- The comparison of a prototype's types.
use Rattle.std.proofs.Common.{◌≡◌, suc, false, List, [], ◌∷◌, length, refl, ap, sym, ◌∙◌}
use Rattle.std.specs.Prelude.{◌&&◌}
use Rattle.c_typed.specs.declared.types.ObjectType.{ObjectType}
use Rattle.c_typed.specs.Types.{same_object}
use Rattle.c_typed.specs.Programs.{same_objects}
use Rattle.c_typed.proofs.TypesSame.{and_false}

pub objects_unlike : (ss ts : List ObjectType) → (length ss ≡ length ts → ⊥) → false ≡ same_objects ss ts
objects_unlike [] [] differ = absurd (differ refl)
objects_unlike [] (t ∷ ts) differ = refl
objects_unlike (s ∷ ss) [] differ = refl
objects_unlike (s ∷ ss) (t ∷ ts) differ =
    let rest = objects_unlike ss ts (λ same. differ (ap suc same)) in
    sym (ap (λ b. same_object s t && b) (sym rest) ∙ and_false (same_object s t))
