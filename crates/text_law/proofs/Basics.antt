-- Numbers, temporaries, places and words of a table, each beside its text.
use Rattle.std.proofs.Common.{◌≡◌, ℕ, zero, suc, ◌<◌, ◌≤◌, Bool, true, false, List, [], ◌∷◌, ◌++◌, length, Option, Some, None, refl, sym, ap, subst, ◌∙◌, append_assoc, length-append, arith}
use Rattle.std.specs.Prelude.{codes}
use Rattle.std.specs.Fmt.{decimal}
use Rattle.std.specs.List.{All}
use Rattle.std.proofs.lemmas.List.Elements.{All-head, All-tail}
use Rattle.tac_ir.specs.declared.code.Place.{Place}
use Rattle.line_format.specs.Lines.{greatest, numbers_text, Fit}
use Rattle.line_format.specs.tools.Format.{Format, Has}
use Rattle.line_format.specs.tools.Number.{is_digit}
use Rattle.line_format.specs.tools.Words.{Table, one_of, are_distinct}
use Rattle.line_format.specs.tools.Members.{AreMarks, number_and_members}
use Rattle.line_format.proofs.Tables.{Begins, In, here, there, one_is, one_good}
use Rattle.line_format.proofs.OneWord.{Filled, has_of}
use Rattle.line_format.proofs.Formats.{none_some, some_is}
use Rattle.line_format.proofs.Spells.{Spells, number_spells, behind, paired}
use Rattle.line_format.proofs.Behind.{listed}
use Rattle.text_law.specs.ModuleText as text
use Rattle.text_law.specs.IsModule.{Is32Bits, IsPlace, Each}
use Rattle.text_law.specs.tools.Opcodes.{place_words}
use Rattle.text_law.specs.tools.Instrs as form

-- what holds of each element, by index, holds of each
pub each_of : {A : Type 0} (P : A → Type 0) (xs : List A) → All P xs → Each P xs
each_of P [] all = tt
each_of P (x ∷ xs) all = (All-head P x xs all, each_of P xs (All-tail P x xs all))

-- the same texts, told otherwise
pub retold : {A : Type 0} {f : Format A} {Is : A → Type 0} {put more : A → List ℕ → List ℕ} → Spells f Is put → ((a : A) → Is a → (r : List ℕ) → put a r ≡ more a r) → Spells f Is more
retold {f = f} s same = record {
  good = s.good;
  has = λ a i r. subst (λ z. Has f z a r) (same a i r) (s.has a i r);
  is = λ ts a r h. let (i, w) = s.is ts a r h in (i, w ∙ same a i r);
}

pub plain : (c : ℕ) → is_digit c ≡ false → Spells (form.number c) Is32Bits (λ n r. decimal n ++ c ∷ r)
plain c d =
    let s = number_spells c 0 greatest d (omega arith) (omega arith) in
    record { good = s.good; has = λ n le r. s.has n (omega arith, le) r; is = λ ts n r h. let (i, w) = s.is ts n r h in (i.1, w) }

pub temp : (c : ℕ) → is_digit c ≡ false → Spells (form.temp c) Is32Bits (λ n r. text.temp n ++ c ∷ r)
temp c d = behind (plain c d) (codes "t")

pub pair : {A B : Type 0} {f : Format A} {g : Format B} {P : A → Type 0} {Q : B → Type 0} {t : A → List ℕ → List ℕ} {u : B → List ℕ → List ℕ} → Spells f P t → Spells g Q u
    → Spells {A = A × B} (form.pair f g) (λ p. P p.0 × Q p.1) (λ p r. t p.0 (u p.1 r))
pair {Q = Q} {u = u} s z = paired s {Next = λ a. Q} {next = λ a. u} (λ a i. z)

-- ---- words of a table

abbrev pub nth : {A : Type 0} → Table A → ℕ → Option (List ℕ × A)
nth [] n = None
nth (row ∷ rows) zero = Some row
nth (row ∷ rows) (suc n) = nth rows n

module _ {A : Type 0} where
  in_row : {w v : List ℕ} {a b : A} {rows : Table A} → ◌≡◌ {A = List ℕ × A} (w, a) (v, b) → In v b ((w, a) ∷ rows)
  in_row {w} {v} {a} {b} {rows} e = subst (λ z. In z.0 z.1 ((w, a) ∷ rows)) e here

  pub in_nth : (n : ℕ) {v : List ℕ} {b : A} {rows : Table A} → nth rows n ≡ Some (v, b) → In v b rows
  in_nth n {rows = []} e = none_some e
  in_nth zero {rows = (w, a) ∷ rows} e = in_row (some_is e)
  in_nth (suc n) {rows = (w, a) ∷ rows} e = there (in_nth n e)

  -- each row is so
  abbrev pub Rows : (List ℕ → A → Type 0) → Table A → Type 0
  Rows P [] = Unit {0}
  Rows P ((w, a) ∷ rows) = P w a × Rows P rows

  pub row_in : (P : List ℕ → A → Type 0) {w : List ℕ} {a : A} {rows : Table A} → Rows P rows → In w a rows → P w a
  row_in P is here = is.0
  row_in P is (there i) = row_in P is.1 i

  abbrev pub IsSpelled : (A → Type 0) → (A → List ℕ) → ℕ → List ℕ → A → Type 0
  IsSpelled Is word c w a = Is a × (w ≡ word a ++ c ∷ [])

  filled : (t : Table A) (Is : A → Type 0) (word : A → List ℕ) (c : ℕ) → Rows (IsSpelled Is word c) t → Filled t
  filled t Is word c rows w a i =
      let (is, e) = row_in (IsSpelled Is word c) rows i in
      omega (arith, ap length e, length-append (word a) (c ∷ []))

  pub table : (t : Table A) (Is : A → Type 0) (word : A → List ℕ) (c : ℕ) → Begins t → are_distinct t ≡ true → Rows (IsSpelled Is word c) t
      → ((a : A) → Is a → In (word a ++ c ∷ []) a t) → Spells (one_of t) Is (λ a r. word a ++ c ∷ r)
  table t Is word c some apart rows each = record {
    good = one_good t some;
    has = λ a i r.
        subst (λ z. Has (one_of t) z a r) (append_assoc (word a) (c ∷ []) r) (has_of (word a ++ c ∷ []) a t apart (filled t Is word c rows) (each a i) r);
    is = λ ts a r h.
        let (w, i, e) = one_is h in
        let (is, same) = row_in (IsSpelled Is word c) rows i in
        (is, e ∙ ap (λ z. z ++ r) same ∙ append_assoc (word a) (c ∷ []) r);
  }

-- ---- places

fields_text : (c : ℕ) (path r : List ℕ) → numbers_text [] 46 c path r ≡ text.fields path ++ c ∷ r
fields_text c [] r = refl
fields_text c (k ∷ path) r = ap (λ z. 46 ∷ (decimal k ++ z)) (fields_text c path r) ∙ ap (λ z. 46 ∷ z) (sym (append_assoc (decimal k) (text.fields path) (c ∷ r)))

place_text : (c var : ℕ) (path r : List ℕ) → decimal var ++ numbers_text [] 46 c path r ≡ (decimal var ++ text.fields path) ++ c ∷ r
place_text c var path r = ap (λ z. decimal var ++ z) (fields_text c path r) ∙ sym (append_assoc (decimal var) (text.fields path) (c ∷ r))

module _ (c : ℕ) (marks : AreMarks 46 c) where
  numbers : Spells (number_and_members [] 46 c false) (λ p. (p.0 ≤ greatest) × Fit false 0 p.1) (λ p r. decimal p.0 ++ numbers_text [] 46 c p.1 r)
  numbers = listed 46 c marks [] false

  global_in : In (codes "g") true place_words
  global_in = in_nth 0 refl

  local_in : In (codes "l") false place_words
  local_in = in_nth 1 refl

  letters : Rows (λ w a. (w ≡ elim a as (λ p. List ℕ) [ true ↦ codes "g" | false ↦ codes "l" ]) × (0 < length w)) place_words
  letters = ((refl, omega arith), ((refl, omega arith), tt))

  letter_has : (w : List ℕ) (a : Bool) → In w a place_words → (x : List ℕ) → Has (one_of place_words) (w ++ x) a x
  letter_has w a i x = has_of w a place_words refl (λ v b j. (row_in (λ w a. (w ≡ elim a as (λ p. List ℕ) [ true ↦ codes "g" | false ↦ codes "l" ]) × (0 < length w)) letters j).1) i x

  pub place : Spells (form.place c) IsPlace (λ p r. text.place p ++ c ∷ r)
  place = record {
    good = (one_good place_words tt, λ global g. (numbers.good, λ p g. tt));
    has = place_has;
    is = λ ts p r (global, m, h, (q, n, g, (e, w))).
        let (v, i, t) = one_is h in
        let (same, some) = row_in (λ w a. (w ≡ elim a as (λ p. List ℕ) [ true ↦ codes "g" | false ↦ codes "l" ]) × (0 < length w)) letters i in
        let (fits, u) = numbers.is m q n g in
        place_is ts r global q n p (t ∙ (λ k. same k ++ u k)) fits e w;
  }
    where
      place_has : (p : Place) → IsPlace p → (r : List ℕ) → Has (form.place c) (text.place p ++ c ∷ r) p r
      place_has (Place.Global var path) i r =
          let x : List ℕ = decimal var ++ numbers_text [] 46 c path r in
          subst (λ z. Has (form.place c) (103 ∷ z) (Place.Global var path) r) (place_text c var path r)
          (true, x, letter_has (codes "g") true global_in x, ((var, path), r, numbers.has (var, path) i r, (refl, refl)))
      place_has (Place.Local var path) i r =
          let x : List ℕ = decimal var ++ numbers_text [] 46 c path r in
          subst (λ z. Has (form.place c) (108 ∷ z) (Place.Local var path) r) (place_text c var path r)
          (false, x, letter_has (codes "l") false local_in x, ((var, path), r, numbers.has (var, path) i r, (refl, refl)))

      place_is : (ts r : List ℕ) (global : Bool) (q : ℕ × List ℕ) (n : List ℕ) (p : Place)
          → ts ≡ elim global as (λ p. List ℕ) [ true ↦ codes "g" | false ↦ codes "l" ] ++ (decimal q.0 ++ numbers_text [] 46 c q.1 n)
          → (q.0 ≤ greatest) × Fit false 0 q.1 → form.place_of global q ≡ p → n ≡ r → IsPlace p × (ts ≡ text.place p ++ c ∷ r)
      place_is ts r true q n p t fits e w =
          subst (λ z. IsPlace z × (ts ≡ text.place z ++ c ∷ r)) e (fits, t ∙ ap (λ z. 103 ∷ z) (place_text c q.0 q.1 n) ∙ ap (λ z. 103 ∷ ((decimal q.0 ++ text.fields q.1) ++ c ∷ z)) w)
      place_is ts r false q n p t fits e w =
          subst (λ z. IsPlace z × (ts ≡ text.place z ++ c ∷ r)) e (fits, t ∙ ap (λ z. 108 ∷ z) (place_text c q.0 q.1 n) ∙ ap (λ z. 108 ∷ ((decimal q.0 ++ text.fields q.1) ++ c ∷ z)) w)
