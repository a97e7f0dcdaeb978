-- Looking up in tables.
use Rattle.std.proofs.Common.{◌≡◌, ℕ, zero, suc, ◌+◌, ◌<◌, ◌≤◌, Bool, true, false, List, [], ◌∷◌, length, drop, get_or, Some, None, refl, sym, ap, ◌∙◌, arith}
use Rattle.c_lex.specs.Words.{look_up}

module _ {A B : Type 0} (p : A → Bool) (f : A → B) where
  -- the row at which a search has come
  pub look_up-drop_yes : (rows : List A) (i : ℕ) (row : A) → i < length rows → row ≡ get_or rows i row → p row ≡ true → look_up p f (drop i rows) ≡ Some (f row)
  look_up-drop_yes [] i row within is passes = absurd (omega arith)
  look_up-drop_yes (r ∷ rows) zero row within is passes = let same : p r ≡ true = ap p (sym is) ∙ passes in rw same (ap (λ r. Some (f r)) (sym is))
  look_up-drop_yes (r ∷ rows) (suc i) row within is passes = look_up-drop_yes rows i row (omega arith) is passes

  pub look_up-drop_no : (rows : List A) (i : ℕ) (row : A) → i < length rows → row ≡ get_or rows i row → p row ≡ false → look_up p f (drop i rows) ≡ look_up p f (drop (i + 1) rows)
  look_up-drop_no [] i row within is fails = absurd (omega arith)
  look_up-drop_no (r ∷ rows) zero row within is fails = let same : p r ≡ false = ap p (sym is) ∙ fails in rw same refl
  look_up-drop_no (r ∷ rows) (suc i) row within is fails = let next : suc i + 1 ≡ suc (i + 1) = omega arith in rw next (look_up-drop_no rows i row (omega arith) is fails)

  pub look_up-drop_all : (rows : List A) (i : ℕ) → length rows ≤ i → look_up p f (drop i rows) ≡ None
  look_up-drop_all [] zero past = refl
  look_up-drop_all [] (suc i) past = refl
  look_up-drop_all (r ∷ rows) zero past = absurd (omega arith)
  look_up-drop_all (r ∷ rows) (suc i) past = look_up-drop_all rows i (omega arith)
