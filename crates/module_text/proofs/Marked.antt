-- Marks and sets are written side by side.
use Rattle.std.proofs.Common.{◌≡◌, ℕ, suc, ◌+◌, ◌<◌, ◌≤◌, Bool, List, [], ◌∷◌, ◌++◌, length, drop, get_or, refl, sym, ap, ◌∙◌, arith}
use Rattle.std.proofs.lemmas.List.{drop_more, drop_all}
use Rattle.line_format.specs.Lines.{line, lines}
use Rattle.line_writer.proofs.Lining.{line_written}
use Rattle.text_law.specs.ModuleText.{beside, set_words}

module _ (marks : List Bool) (sets : List (List ℕ)) (i : ℕ) where
  one_beside : (m : Bool) (s : List ℕ) → i < length marks → i < length sets → s ≡ get_or sets i s
      → beside (drop i marks) (drop i sets) ≡ (get_or marks i m, s) ∷ beside (drop (i + 1) marks) (drop (i + 1) sets)
  one_beside m s p q f =
      let d : drop i marks ≡ get_or marks i m ∷ drop (i + 1) marks = drop_more marks i m p in
      let g : drop i sets ≡ s ∷ drop (i + 1) sets = drop_more sets i s q ∙ ap (λ y. y ∷ drop (i + 1) sets) (sym f) in
      ap (λ z. beside z (drop i sets)) d ∙ ap (λ z. beside (get_or marks i m ∷ drop (i + 1) marks) z) g

  -- one more mark with its set
  pub set_more : (m : Bool) (s first now new : List ℕ) → i < length marks → i < length sets → s ≡ get_or sets i s
      → ((rest : List ℕ) → now ++ lines set_words (beside (drop i marks) (drop i sets)) rest ≡ first ++ lines set_words (beside marks sets) rest)
      → new ≡ now ++ line (set_words (get_or marks i m, s)) [] → (rest : List ℕ)
      → new ++ lines set_words (beside (drop (i + 1) marks) (drop (i + 1) sets)) rest ≡ first ++ lines set_words (beside marks sets) rest
  set_more m s first now new p q f before written rest =
      line_written (set_words (get_or marks i m, s)) now new written (lines set_words (beside (drop (i + 1) marks) (drop (i + 1) sets)) rest)
      ∙ (ap (λ l. now ++ lines set_words l rest) (sym (one_beside m s p q f)) ∙ before rest)

-- there is none behind the last mark
pub none_left : (marks : List Bool) (sets : List (List ℕ)) (i : ℕ) → length marks ≤ i → beside (drop i marks) (drop i sets) ≡ []
none_left marks sets i h = ap (λ z. beside z (drop i sets)) (drop_all i marks h)

pub beside_count : (marks : List Bool) (sets : List (List ℕ)) → length marks ≡ length sets → length (beside marks sets) ≡ length sets
beside_count [] [] e = refl
beside_count [] (s ∷ sets) e = absurd (omega arith)
beside_count (m ∷ marks) [] e = absurd (omega arith)
beside_count (m ∷ marks) (s ∷ sets) e = ap suc (beside_count marks sets (omega arith))
