-- Texts of a table at the front of bytes.
use Rattle.std.proofs.Common.{◌≡◌, ℕ, zero, suc, ◌<◌, ◌≤◌, ◌&&◌, Bool, true, false, cond, eqb, leb, List, [], ◌∷◌, length, take, Option, Some, None, refl, sym, ap, subst, ◌∙◌, inl, inr, ◌⊎◌, length-take, arith}
use Rattle.std.specs.Prelude.{bytes_eq}
use Rattle.std.specs.List.{list_all}
use Rattle.std.proofs.lemmas.Bool.{and_from, and_parts, leb-true, false_from_ne_true, false≢true}
use Rattle.std.proofs.lemmas.List.{length-take-le, take_min}
use Rattle.std.proofs.lemmas.Option.{same_Some}
use Rattle.std.proofs.lemmas.Slice.Eq.{bytes_eq-Decides}
use Rattle.c_lex.specs.PieceOf.{begins}
use Rattle.c_lex.specs.Words.{look_up}

-- what bytes begin with is their front
pub begins-take : (bytes front : List ℕ) → begins bytes front ≡ true → front ≡ take (length front) bytes
begins-take bytes front e = (bytes_eq-Decides front (take (length front) bytes)).0 e

pub begins-within : (bytes front : List ℕ) → begins bytes front ≡ true → length front ≤ length bytes
begins-within bytes front e = let h = ap length (begins-take bytes front e) in omega (arith, length-take (length front) bytes)

pub take-begins : (bytes front : List ℕ) (m : ℕ) → take m bytes ≡ front → begins bytes front ≡ true
take-begins bytes front m e = (bytes_eq-Decides front (take (length front) bytes)).1 (subst (λ (f : List ℕ). f ≡ take (length f) bytes) e (sym (ap (λ k. take k bytes) (length-take m bytes) ∙ take_min m bytes)))

-- what a front begins with, the whole begins with
pub begins-more : (m : ℕ) (bytes front : List ℕ) → begins (take m bytes) front ≡ true → begins bytes front ≡ true
begins-more m bytes [] e = refl
begins-more zero bytes (f ∷ fs) e = absurd (false≢true e)
begins-more (suc m) [] (f ∷ fs) e = absurd (false≢true e)
begins-more (suc m) (b ∷ bs) (f ∷ fs) e =
    let p = and_parts (eqb f b) (begins (take m bs) fs) e in
    and_from (eqb f b) (begins bs fs) p.0 (begins-more m bs fs p.1)

other : (bytes : List ℕ) (m : ℕ) (text : List ℕ) → begins bytes text ≡ false → bytes_eq (take m bytes) text ≡ false
other bytes m text e = false_from_ne_true _ (λ t. false≢true (sym e ∙ take-begins bytes text m ((bytes_eq-Decides (take m bytes) text).0 t)))

-- what a test over free parts picks
picks : {B : Type 0} (b : Bool) (x : B) (r : Option B) (y : B) → cond b (Some x) r ≡ Some y → ((b ≡ true) × (x ≡ y)) ⊎ ((b ≡ false) × (r ≡ Some y))
picks true x r y e = inl (refl, same_Some _ _ e)
picks false x r y e = inr (refl, e)

leaves : {B : Type 0} (b : Bool) (x : B) (r : Option B) → cond b (Some x) r ≡ None → (b ≡ false) × (r ≡ None)
leaves true x r e = absurd cc
leaves false x r e = (refl, e)

module _ {A : Type 0} where
  -- the value beside this text
  abbrev pub exact : List (List ℕ × A) → List ℕ → Option A
  exact rows text = look_up (λ row. bytes_eq text row.0) (λ row. row.1) rows

  -- the first text that the bytes begin with: its length, and the value beside it
  abbrev pub first : List (List ℕ × A) → List ℕ → Option (ℕ × A)
  first rows bytes = look_up {B = ℕ × A} (λ row. begins bytes row.0) (λ row. (length row.0, row.1)) rows

  -- no text is longer than one before it
  abbrev pub is_falling : List (List ℕ × A) → Bool
  is_falling [] = true
  is_falling (row ∷ rows) = list_all (λ later. leb (length later.0) (length row.0)) rows && is_falling rows

  -- the text that is found stands at the front, and is the one beside which the value stands
  pub first-exact : (rows : List (List ℕ × A)) (bytes : List ℕ) (n : ℕ) (a : A) → first rows bytes ≡ Some (n, a) → (n ≤ length bytes) × (exact rows (take n bytes) ≡ Some a)
  first-exact [] bytes n a e = absurd cc
  first-exact (row ∷ rows) bytes n a e =
      elim (picks (begins bytes row.0) (length row.0, row.1) (first rows bytes) (n, a) e) [
        | inl here ↦
            let long : length row.0 ≡ n = ap (λ (x : ℕ × A). x.0) here.1 in
            let same : take n bytes ≡ row.0 = ap (λ k. take k bytes) (sym long) ∙ sym (begins-take bytes row.0 here.0) in
            let test : bytes_eq (take n bytes) row.0 ≡ true = (bytes_eq-Decides (take n bytes) row.0).1 same in
            (omega (arith, begins-within bytes row.0 here.0), rw test (ap (λ (x : ℕ × A). Some x.1) here.1))
        | inr there ↦
            let later = first-exact rows bytes n a there.1 in
            (later.0, rw (other bytes n row.0 there.0) later.1)
      ]

  -- where no text is at the front, no front is a text
  pub none-exact : (rows : List (List ℕ × A)) (bytes : List ℕ) (m : ℕ) → first rows bytes ≡ None → exact rows (take m bytes) ≡ None
  none-exact [] bytes m e = refl
  none-exact (row ∷ rows) bytes m e =
      let p = leaves (begins bytes row.0) (length row.0, row.1) (first rows bytes) e in
      rw (other bytes m row.0 p.0) (none-exact rows bytes m p.1)

  too_long : (rows : List (List ℕ × A)) (n : ℕ) (text : List ℕ) → list_all (λ later. leb (length later.0) n) rows ≡ true → n < length text → exact rows text ≡ None
  too_long [] n text all long = refl
  too_long (row ∷ rows) n text all long =
      let p = and_parts (leb (length row.0) n) (list_all (λ later. leb (length later.0) n) rows) all in
      let short : length row.0 ≤ n = leb-true _ _ p.0 in
      let apart : bytes_eq text row.0 ≡ false = false_from_ne_true _ (λ t. omega (arith, ap length ((bytes_eq-Decides text row.0).0 t))) in
      rw apart (too_long rows n text p.1 long)

  -- in a table that falls, no longer front is a text
  pub longer-exact : (rows : List (List ℕ × A)) (bytes : List ℕ) (n : ℕ) (a : A) (m : ℕ) → is_falling rows ≡ true → first rows bytes ≡ Some (n, a) → n < m → m ≤ length bytes → exact rows (take m bytes) ≡ None
  longer-exact [] bytes n a m falls e more within = absurd cc
  longer-exact (row ∷ rows) bytes n a m falls e more within =
      let f = and_parts (list_all (λ later. leb (length later.0) (length row.0)) rows) (is_falling rows) falls in
      let whole : length (take m bytes) ≡ m = length-take-le m bytes within in
      elim (picks (begins bytes row.0) (length row.0, row.1) (first rows bytes) (n, a) e) [
        | inl here ↦
            let long : length row.0 ≡ n = ap (λ (x : ℕ × A). x.0) here.1 in
            let apart : bytes_eq (take m bytes) row.0 ≡ false = false_from_ne_true _ (λ t. omega (arith, ap length ((bytes_eq-Decides (take m bytes) row.0).0 t))) in
            rw apart (too_long rows (length row.0) (take m bytes) f.0 (omega arith))
        | inr there ↦ rw (other bytes m row.0 there.0) (longer-exact rows bytes n a m f.1 there.1 more within)
      ]
