-- A text has no fault, and bytes have one first fault at most.
use Rattle.std.proofs.Common.{◌≡◌, ℕ, zero, suc, ◌-◌, ◌<◌, ◌≤◌, ◌⊎◌, inl, inr, List, [], ◌∷◌, ◌++◌, length, take, drop, refl, sym, ap, subst, ◌∙◌, append_assoc, arith}
use Rattle.std.proofs.lemmas.List.{take-append-drop}
use Rattle.std.proofs.lemmas.Bool.{cases_lt}
use Rattle.line_format.specs.FirstFault.{Continues, IsAt}
use Rattle.line_format.specs.tools.Format.{Answer, done, fault}
use Rattle.line_format.specs.tools.Answers.{Tells}

-- what comes behind the first n bytes among the first m
front : (n m : ℕ) (ts : List ℕ) → n ≤ m → (x : List ℕ) × (take m ts ≡ take n ts ++ x)
front zero m ts h = (take m ts, refl)
front (suc n) zero ts h = absurd (omega (arith, h))
front (suc n) (suc m) [] h = ([], refl)
front (suc n) (suc m) (b ∷ ts) h = let (x, e) = front n m ts (omega (arith, h)) in (x, ap (λ z. b ∷ z) e)

module _ {A : Type 0} (IsText : List ℕ → A → Type 0) (bytes : List ℕ) where
  shorter : (n m : ℕ) → n ≤ m → Continues IsText (take m bytes) → Continues IsText (take n bytes)
  shorter n m h (rest, a, t) =
      let (x, e) = front n m bytes h in
      (x ++ rest, a, subst (λ z. IsText z a) (ap (λ z. z ++ rest) e ∙ append_assoc (take n bytes) x rest) t)

  not_before : (n m : ℕ) → IsAt IsText bytes n → IsAt IsText bytes m → n < m → ⊥
  not_before n m f g l = f.byte (omega (arith, l, g.place)) (shorter (suc n) m (omega (arith, l)) g.before)

  same_by : (n m : ℕ) → IsAt IsText bytes n → IsAt IsText bytes m → (n < m) ⊎ (m ≤ n) → (m < n) ⊎ (n ≤ m) → n ≡ m
  same_by n m f g (inl l) q = absurd (not_before n m f g l)
  same_by n m f g (inr h) (inl l) = absurd (not_before m n g f l)
  same_by n m f g (inr h) (inr k) = omega (arith, h, k)

  pub one_fault : (n m : ℕ) → IsAt IsText bytes n → IsAt IsText bytes m → n ≡ m
  one_fault n m f g = same_by n m f g (cases_lt n m) (cases_lt m n)

  sound_by : (a : A) (n : ℕ) → IsText bytes a → IsAt IsText bytes n → (n < length bytes) ⊎ (length bytes ≤ n) → ⊥
  sound_by a n t f (inl l) = f.byte l (drop (suc n) bytes, a, subst (λ z. IsText z a) (sym (take-append-drop (suc n) bytes)) t)
  sound_by a n t f (inr h) = f.end h a t

  pub no_fault : (a : A) (n : ℕ) → IsText bytes a → IsAt IsText bytes n → ⊥
  no_fault a n t f = sound_by a n t f (cases_lt n (length bytes))

  pub either : (o : Answer A) → Tells IsText bytes o → ((a : A) × IsText bytes a) ⊎ ((at : ℕ) × IsAt IsText bytes at)
  either (done a rest) t = inl (a, t)
  either (fault n) t = inr (length bytes - n, t.1)
