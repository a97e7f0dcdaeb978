-- What an answer says of all the bytes, for any format and what its texts are.
use Rattle.std.proofs.Common.{◌≡◌, ℕ, zero, suc, ◌+◌, ◌-◌, ◌<◌, ◌≤◌, List, [], ◌∷◌, ◌++◌, length, take, refl, sym, ap, subst, ◌∙◌, append_assoc, append-nil, length-append, arith}
use Rattle.std.proofs.lemmas.List.{take-append-le, take_all}
use Rattle.line_format.specs.tools.Format.{Format, Has, read, Answer, done, fault}
use Rattle.line_format.specs.FirstFault.{Continues, IsAt}
use Rattle.line_format.specs.tools.Answers.{whole, read_all, Tells}
use Rattle.line_format.proofs.Laws.{Form, Completes, Done, Failed, Wants, Law, Judge}

cons_nil : {B : Type 0} {c : ℕ} {q : List ℕ} → c ∷ q ≡ [] → B
cons_nil e = absurd (subst (λ l. elim l as (λ p. Type 0) [ [] ↦ ⊥ | x ∷ xs ↦ Unit {0} ]) e tt)

front_taken : (front rest : List ℕ) → take (length front) (front ++ rest) ≡ front
front_taken front rest = take-append-le (length front) front rest (omega arith) ∙ take_all (length front) front (omega arith)

module _ {A : Type 0} (f : Format A) (IsText : List ℕ → A → Type 0) (law : Law (Has f) (read f))
    (to_text : (bytes : List ℕ) (a : A) → Has f bytes a [] → IsText bytes a) (of_text : (bytes : List ℕ) (a : A) → IsText bytes a → Has f bytes a []) where
  -- completed, it is a text that begins so
  continues : (front : List ℕ) → Completes (Has f) front → Continues IsText front
  continues front k = (k.bytes ++ [], k.value, to_text (front ++ (k.bytes ++ [])) k.value (k.holds []))

  -- a byte behind which none goes on
  stuck : (bytes front rest : List ℕ) (b : ℕ) → bytes ≡ front ++ b ∷ rest → Continues IsText front
      → ((x : List ℕ) (xs : A) → Has f (front ++ b ∷ x) xs [] → ⊥) → Tells IsText bytes (fault (suc (length rest)))
  stuck bytes front rest b w here none =
      let size : length bytes ≡ length front + suc (length rest) = ap length w ∙ length-append front (b ∷ rest) in
      let place : length bytes - suc (length rest) ≡ length front = omega arith in
      let longer : length (front ++ b ∷ []) ≡ suc (length front) = length-append front (b ∷ []) ∙ (let e : length front + 1 ≡ suc (length front) = omega arith in e) in
      let split : bytes ≡ (front ++ b ∷ []) ++ rest = w ∙ sym (append_assoc front (b ∷ []) rest) in
      let before : take (length front) bytes ≡ front = ap (take (length front)) w ∙ front_taken front (b ∷ rest) in
      let with_it : take (suc (length front)) bytes ≡ front ++ b ∷ [] =
      ap (λ n. take n bytes) (sym longer) ∙ ap (take (length (front ++ b ∷ []))) split ∙ front_taken (front ++ b ∷ []) rest in (
        omega arith,
        subst (IsAt IsText bytes) (sym place) (record {
          place = omega arith;
          before = subst (Continues IsText) (sym before) here;
          byte = λ l (more, xs, t).
              let t' : IsText ((front ++ b ∷ []) ++ more) xs = subst (λ z. IsText (z ++ more) xs) with_it t in
              none more xs (subst (λ z. Has f z xs []) (append_assoc front (b ∷ []) more) (of_text ((front ++ b ∷ []) ++ more) xs t'));
          end = λ l xs t. absurd (omega arith);
        }),
      )

  tells_by : (bytes : List ℕ) (o : Answer (A)) → Judge (Has f) bytes o → Tells IsText bytes (whole o)
  tells_by bytes (done xs []) j = to_text bytes xs (subst (λ z. Has f z xs []) (sym j.whole) (j.derived []))
  tells_by bytes (done xs (b ∷ r)) j =
      stuck bytes j.front r b j.whole
      ([], xs, to_text (j.front ++ []) xs (j.derived []))
      (λ x ys h. cons_nil (law.only (j.front ++ b ∷ x) xs ys (b ∷ x) [] (j.derived (b ∷ x)) h).1)
  tells_by bytes (fault zero) j =
      let all : take (length bytes) bytes ≡ bytes = take_all (length bytes) bytes (omega arith) in
      let place : length bytes - 0 ≡ length bytes = omega arith in (
        omega arith,
        subst (IsAt IsText bytes) (sym place) (record {
          place = omega arith;
          before = subst (Continues IsText) (sym all) (continues bytes j.completes);
          byte = λ l. absurd (omega arith);
          end = λ l xs t. j.none xs [] (of_text bytes xs t);
        }),
      )
  tells_by bytes (fault (suc n)) j =
      subst (λ k. Tells IsText bytes (fault (suc k))) j.place
      (stuck bytes j.front j.rest j.token j.whole (continues j.front j.reaches) (λ x ys h. j.none x ys [] h))

  -- each list of bytes is the text of a module, or has a first fault
  pub told : (bytes : List ℕ) → Tells IsText bytes (read_all f bytes)
  told bytes = tells_by bytes (read f bytes) (law.judge bytes)

  -- one module per text
  pub one_module : (bytes : List ℕ) (xs ys : A) → IsText bytes xs → IsText bytes ys → xs ≡ ys
  one_module bytes xs ys t u = (law.only bytes xs ys [] [] (of_text bytes xs t) (of_text bytes ys u)).0

  -- a text is told as its module
  text_told : (bytes : List ℕ) (xs : A) → IsText bytes xs → (o : Answer (A)) → Judge (Has f) bytes o → whole o ≡ done xs []
  text_told bytes xs t (done ys []) j =
      ap (λ z. done z []) (one_module bytes ys xs (to_text bytes ys (subst (λ z. Has f z ys []) (sym j.whole) (j.derived []))) t)
  text_told bytes xs t (done ys (b ∷ r)) j =
      cons_nil (law.only bytes ys xs (b ∷ r) [] (subst (λ z. Has f z ys (b ∷ r)) (sym j.whole) (j.derived (b ∷ r))) (of_text bytes xs t)).1
  text_told bytes xs t (fault zero) j = absurd (j.none xs [] (of_text bytes xs t))
  text_told bytes xs t (fault (suc n)) j = absurd (j.none j.rest xs [] (subst (λ z. Has f z xs []) j.whole (of_text bytes xs t)))

  -- reading a text gives its value
  pub read_text : (bytes : List ℕ) (a : A) → IsText bytes a → read_all f bytes ≡ done a []
  read_text bytes a t = text_told bytes a t (read f bytes) (law.judge bytes)
