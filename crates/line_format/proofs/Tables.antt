-- One word of a table.
use Rattle.std.proofs.Common.{◌≡◌, ℕ, zero, suc, ◌+◌, ◌<◌, Bool, true, false, List, [], ◌∷◌, ◌++◌, length, Option, Some, None, refl, sym, ap, subst, ◌∙◌, arith}
use Rattle.std.specs.Prelude.{nat_eq}
use Rattle.std.proofs.lemmas.Bool.{eqb-true, eq-eqb}
use Rattle.line_format.specs.tools.Format.{Next, more, last, Format, byte, loop, Loop, again, stop, Has}
use Rattle.line_format.specs.tools.Words.{Table, left_by, picked, one_of}
use Rattle.line_format.proofs.Laws.{Completes}
use Rattle.line_format.proofs.Formats.{some_is, none_some, more_last, last_is, Good, GoodTurns}
use Rattle.line_format.proofs.Digits.{more_is}

module _ {A : Type 0} where
  -- some word goes on
  abbrev pub Begins : Table A → Type 0
  Begins [] = ⊥
  Begins (([], a) ∷ rows) = ⊥
  Begins ((c ∷ w, a) ∷ rows) = Unit {0}

  abbrev pub One : Table A → List ℕ → A → List ℕ → Type 0
  One rows ts a r = Has (one_of rows) ts a r

  picked_more : (t y : Table A) → picked t ≡ Some (more y) → (t ≡ y) × Begins y
  picked_more [] y e = none_some e
  picked_more (([], a) ∷ rows) y e = absurd (more_last (sym (some_is e)))
  picked_more ((c ∷ w, a) ∷ rows) y e = let s = more_is ((c ∷ w, a) ∷ rows) (some_is e) in (s, subst Begins s tt)

  left_self : (c : ℕ) (w : List ℕ) (a : A) (rest : Table A) → left_by c ((c ∷ w, a) ∷ rest) ≡ (w, a) ∷ left_by c rest
  left_self c w a rest =
      ap (λ b. elim b as (λ p. Table A) [ true ↦ (w, a) ∷ left_by c rest | false ↦ left_by c rest ]) (eq-eqb c c refl)

  head_completes : (w : List ℕ) (c : ℕ) (a : A) (rest : Table A) → Completes (One ((c ∷ w, a) ∷ rest)) []
  head_completes [] c a rest = record { bytes = c ∷ []; value = a; holds = λ x. stop (c, refl, ap picked (left_self c [] a rest)) }
  head_completes (d ∷ w) c a rest =
      let k : Completes (One ((d ∷ w, a) ∷ left_by c rest)) [] = head_completes w d a (left_by c rest) in
      record { bytes = c ∷ k.bytes; value = k.value; holds = λ x. again (c, refl, ap picked (left_self c (d ∷ w) a rest)) (k.holds x) }

  table_alive : (rows : Table A) → Begins rows → Completes (One rows) []
  table_alive [] b = absurd b
  table_alive (([], a) ∷ rows) b = absurd b
  table_alive ((c ∷ w, a) ∷ rows) b = head_completes w c a rows

  byte_good : (rows : Table A) → Begins rows → Good (byte (λ b. picked (left_by b rows)))
  byte_good [] b = absurd b
  byte_good (([], a) ∷ rows) b = absurd b
  byte_good ((c ∷ [], a) ∷ rows) b = (c, last a, ap picked (left_self c [] a rows), tt)
  byte_good ((c ∷ d ∷ w, a) ∷ rows) b = (c, more ((d ∷ w, a) ∷ left_by c rows), ap picked (left_self c (d ∷ w) a rows), tt)

  pub one_good : (rows : Table A) → Begins rows → Good (one_of rows)
  one_good rows b = (
    Begins,
    b,
    record {
      keeps = λ x y ts r i (c, w, e). (picked_more (left_by c x) y e).1;
      takes = λ x ts r v i (c, w, e). omega (arith, ap length w);
      alive = table_alive;
    },
    byte_good,
  )

  -- a row of the table
  pub data In : List ℕ → A → Table A → Type 0 where
    here : {w : List ℕ} {a : A} {rows : Table A} → In w a ((w, a) ∷ rows)
    there : {w v : List ℕ} {a b : A} {rows : Table A} → In w a rows → In w a ((v, b) ∷ rows)

  in_by : (c d : ℕ) (x : Bool) (w v : List ℕ) (a b : A) (left rows : Table A) → nat_eq c d ≡ x → (In w a left → In (c ∷ w) a rows)
      → In w a (elim x as (λ p. Table A) [ true ↦ (v, b) ∷ left | false ↦ left ]) → In (c ∷ w) a ((d ∷ v, b) ∷ rows)
  in_by c d true w v a b left rows e go here = subst (λ z. In (c ∷ v) b ((z ∷ v, b) ∷ rows)) (eqb-true c d e) here
  in_by c d true w v a b left rows e go (there j) = there (go j)
  in_by c d false w v a b left rows e go j = there (go j)

  -- what is left goes on from a row of the table
  left_in : (c : ℕ) (w : List ℕ) (a : A) (rows : Table A) → In w a (left_by c rows) → In (c ∷ w) a rows
  left_in c w a [] i = elim i [ ]
  left_in c w a (([], b) ∷ rows) i = there (left_in c w a rows i)
  left_in c w a ((d ∷ v, b) ∷ rows) i = in_by c d (nat_eq c d) w v a b (left_by c rows) rows refl (left_in c w a rows) i

  picked_last : (t : Table A) (a : A) → picked t ≡ Some (last a) → In [] a t
  picked_last [] a e = none_some e
  picked_last (([], b) ∷ rows) a e = subst (λ z. In [] z (([], b) ∷ rows)) (last_is b (some_is e)) here
  picked_last ((c ∷ w, b) ∷ rows) a e = absurd (more_last (some_is e))

  -- what is read is a row
  pub one_is : {rows : Table A} {ts r : List ℕ} {a : A} → One rows ts a r → (w : List ℕ) × In w a rows × (ts ≡ w ++ r)
  one_is (stop {x = rows} {a = a} (c, e, h)) = (c ∷ [], left_in c [] a rows (picked_last (left_by c rows) a h), e)
  one_is (again {x = rows} {y = y} {a = a} (c, e, h) rest) =
      let (w, i, f) = one_is rest in
      let (same, begins) = picked_more (left_by c rows) y h in
      (c ∷ w, left_in c w a rows (subst (λ t. In w a t) (sym same) i), e ∙ ap (λ z. c ∷ z) f)
