-- A module whose text is too long by one of its tables.
use Rattle.std.proofs.Common.{◌≡◌, ◌<◌, ℕ, Bool, List, [], ◌∷◌, ◌++◌, length, subst, ◌∙◌}
use Rattle.std.specs.Prelude.{codes}
use Rattle.dfi_base.specs.Limits.{file_limit}
use Rattle.tac_ir.specs.declared.module.PointsRow.{PointsRow}
use Rattle.tac_ir.specs.declared.module.ReachRow.{ReachRow}
use Rattle.tac_ir.specs.Module.{Module}
use Rattle.line_format.specs.Lines.{line}
use Rattle.line_writer.specs.Writes.{Writes, Passes}
use Rattle.text_law.specs.ModuleText.{version, code_text, section, class_words, set_words, points_words, reach_words, beside, text_then}

module _ (m : Module) where
  abbrev first : List ℕ → List ℕ
  first = line (codes "dfimod" ∷ version m.size ∷ [])

  abbrev behind_points : List ℕ → List ℕ
  behind_points rest = section (codes "reach") reach_words m.reach (line (codes "end" ∷ []) rest)

  abbrev behind_sets : List ℕ → List ℕ
  behind_sets rest = section (codes "points") points_words m.points (behind_points rest)

  abbrev behind_classes : List ℕ → List ℕ
  behind_classes rest = section (codes "reads") set_words (beside m.removed m.sets) (behind_sets rest)

  module _ (old one two : List ℕ) (head : Writes first old one) (code : Writes (code_text m.code) one two) where
    -- what stands behind the code stands behind all that is before
    behind_code : (tail : List ℕ) → two ++ tail ≡ old ++ first (code_text m.code tail)
    behind_code tail = code tail ∙ head (code_text m.code tail)

    pub classes_pass : (xs : List ℕ) → xs ≡ m.classes → Passes (section (codes "definitions") class_words xs) two → Passes (text_then m) old
    classes_pass xs e passes rest =
        let all : List ℕ = section (codes "definitions") class_words m.classes (behind_classes rest) in
        subst (λ z. file_limit < length z) (behind_code all)
        (subst (λ xs. file_limit < length (two ++ section (codes "definitions") class_words xs (behind_classes rest))) e (passes (behind_classes rest)))

    module _
        (xs : List ℕ) (same : xs ≡ m.classes) (marks : List Bool) (same_marks : marks ≡ m.removed) (sets : List (List ℕ)) (same_sets : sets ≡ m.sets)
        (three four : List ℕ) (classes : Writes (section (codes "definitions") class_words xs) two three) (reads : Writes (section (codes "reads") set_words (beside marks sets)) three four)
      where
        behind_reads : (tail : List ℕ) → four ++ tail ≡ old ++ first (code_text m.code (section (codes "definitions") class_words m.classes (section (codes "reads") set_words (beside m.removed m.sets) tail)))
        behind_reads tail =
            let later : List ℕ = section (codes "reads") set_words (beside m.removed m.sets) tail in
            reads tail ∙ ((λ i. three ++ section (codes "reads") set_words (beside (same_marks i) (same_sets i)) tail)
            ∙ (classes later ∙ ((λ i. two ++ section (codes "definitions") class_words (same i) later) ∙ behind_code (section (codes "definitions") class_words m.classes later))))

        pub points_pass : (rows : List PointsRow) → rows ≡ m.points → Passes (section (codes "points") points_words rows) four → Passes (text_then m) old
        points_pass rows e passes rest =
            subst (λ z. file_limit < length z) (behind_reads (section (codes "points") points_words m.points (behind_points rest)))
            (subst (λ rows. file_limit < length (four ++ section (codes "points") points_words rows (behind_points rest))) e (passes (behind_points rest)))

        pub reach_pass : (rows : List PointsRow) → rows ≡ m.points → (five : List ℕ) → Writes (section (codes "points") points_words rows) four five
            → (found : List ReachRow) → found ≡ m.reach → Passes (section (codes "reach") reach_words found) five → Passes (text_then m) old
        reach_pass rows e five points found f passes rest =
            let end : List ℕ = line (codes "end" ∷ []) rest in
            let all : List ℕ = section (codes "reach") reach_words m.reach end in
            let w : five ++ all ≡ four ++ section (codes "points") points_words m.points all = points all ∙ (λ i. four ++ section (codes "points") points_words (e i) all) in
            subst (λ z. file_limit < length z) (w ∙ behind_reads (section (codes "points") points_words m.points all))
            (subst (λ found. file_limit < length (five ++ section (codes "reach") reach_words found end)) f (passes end))
