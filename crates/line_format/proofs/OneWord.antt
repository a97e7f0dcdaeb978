-- Each word of a table is read, and where none stands the fault is behind the longest front of one.
use Rattle.std.proofs.Common.{◌≡◌, ℕ, zero, suc, ◌+◌, ◌-◌, ◌<◌, ◌≤◌, ◌⊎◌, inl, inr, Bool, true, false, ◌&&◌, List, [], ◌∷◌, ◌++◌, length, Option, Some, None, refl, sym, ap, subst, ◌∙◌, append_assoc, append-nil, length-append, arith}
use Rattle.std.specs.Prelude.{nat_eq, not, max, if◌then◌else◌}
use Rattle.std.proofs.lemmas.Bool.{eqb-true, eq-eqb, cases_lt}
use Rattle.line_format.specs.tools.Format.{Next, more, last, Format, byte, loop, Loop, again, stop, Has, read, Answer, done, fault}
use Rattle.line_format.specs.tools.Words.{Table, left_by, picked, one_of, begins, is_alone, are_distinct, common, furthest}
use Rattle.line_format.proofs.Laws.{Completes, Done, Judge, Law, reads_it}
use Rattle.line_format.proofs.Formats.{some_is, none_some, Good, exact}
use Rattle.line_format.proofs.Digits.{false_true}
use Rattle.line_format.proofs.Tables.{Begins, One, In, here, there, one_good, one_is}

pub both : (a b : Bool) → a && b ≡ true → (a ≡ true) × (b ≡ true)
both true b e = (refl, e)
both false b e = false_true e

not_true : (a : Bool) → not a ≡ true → a ≡ false
not_true true e = false_true e
not_true false e = refl

eq_sym : (c d : ℕ) → nat_eq c d ≡ true → nat_eq d c ≡ true
eq_sym c d e = eq-eqb d c (sym (eqb-true c d e))

common_le_by : (x : Bool) (n m : ℕ) → n ≤ m → elim x as (λ p. ℕ) [ true ↦ suc n | false ↦ 0 ] ≤ suc m
common_le_by true n m h = omega arith
common_le_by false n m h = omega arith

common_le : (w ts : List ℕ) → common w ts ≤ length ts
common_le [] ts = omega arith
common_le (c ∷ w) [] = omega arith
common_le (c ∷ w) (d ∷ ts) = common_le_by (nat_eq c d) (common w ts) (length ts) (common_le w ts)

-- what both go on from is common
common_front : (f w ts : List ℕ) → length f ≤ common (f ++ w) (f ++ ts)
common_front [] w ts = omega arith
common_front (c ∷ f) w ts =
    subst (λ x. suc (length f) ≤ elim x as (λ p. ℕ) [ true ↦ suc (common (f ++ w) (f ++ ts)) | false ↦ 0 ]) (sym (eq-eqb c c refl)) (omega (arith, common_front f w ts))

-- more in common than a front, and so the byte behind it
abbrev GoesOn : List ℕ → ℕ → List ℕ → Type 0
GoesOn f b w = (v : List ℕ) × (w ≡ f ++ b ∷ v)

more_first : (c b n : ℕ) (w : List ℕ) (x : Bool) → nat_eq c b ≡ x → 0 < elim x as (λ p. ℕ) [ true ↦ suc n | false ↦ 0 ] → GoesOn [] b (c ∷ w)
more_first c b n w true e h = (w, ap (λ z. z ∷ w) (eqb-true c b e))
more_first c b n w false e h = absurd (omega arith)

more_behind : (c d b n : ℕ) (f w : List ℕ) (x : Bool) → (length f < n → GoesOn f b w) → nat_eq c d ≡ x
    → suc (length f) < elim x as (λ p. ℕ) [ true ↦ suc n | false ↦ 0 ] → GoesOn (d ∷ f) b (c ∷ w)
more_behind c d b n f w true go e h = let (v, same) = go (omega arith) in (v, λ i. eqb-true c d e i ∷ same i)
more_behind c d b n f w false go e h = absurd (omega arith)

more_common : (f w ts : List ℕ) (b : ℕ) → length f < common w (f ++ b ∷ ts) → GoesOn f b w
more_common f [] ts b h = absurd (omega arith)
more_common [] (c ∷ w) ts b h = more_first c b (common w ts) w (nat_eq c b) refl h
more_common (d ∷ f) (c ∷ w) ts b h = more_behind c d b (common w (f ++ b ∷ ts)) f w (nat_eq c d) (more_common f w ts b) refl h

module _ {A : Type 0} where
  alone_at : (w : List ℕ) {v : List ℕ} {a : A} {rows : Table A} → is_alone w rows ≡ true → In v a rows → (begins w v ≡ false) × (begins v w ≡ false)
  alone_at w e (here {w = v} {rows = rows}) =
      let p = both (not (begins w v)) (not (begins v w) && is_alone w rows) e in
      (not_true (begins w v) p.0, not_true (begins v w) (both (not (begins v w)) (is_alone w rows) p.1).0)
  alone_at w e (there {v = u} {rows = rows} i) =
      let p = both (not (begins w u)) (not (begins u w) && is_alone w rows) e in
      alone_at w (both (not (begins u w)) (is_alone w rows) p.1).1 i

  -- words that go on with c, without it
  left_alone_by : (c d : ℕ) (x : Bool) (w v : List ℕ) (b : A) (rest : Table A) → nat_eq c d ≡ x → is_alone (c ∷ w) ((d ∷ v, b) ∷ rest) ≡ true → is_alone w (left_by c rest) ≡ true
      → is_alone w (elim x as (λ p. Table A) [ true ↦ (v, b) ∷ left_by c rest | false ↦ left_by c rest ]) ≡ true
  left_alone_by c d false w v b rest e h go = go
  left_alone_by c d true w v b rest e h go =
      let p = both (not (begins (c ∷ w) (d ∷ v))) (not (begins (d ∷ v) (c ∷ w)) && is_alone (c ∷ w) rest) h in
      let q = both (not (begins (d ∷ v) (c ∷ w))) (is_alone (c ∷ w) rest) p.1 in
      let r : begins w v ≡ false = ap (λ t. t && begins w v) (sym e) ∙ not_true (begins (c ∷ w) (d ∷ v)) p.0 in
      let s : begins v w ≡ false = ap (λ t. t && begins v w) (sym (eq_sym c d e)) ∙ not_true (begins (d ∷ v) (c ∷ w)) q.0 in
      ap (λ t. not t && (not (begins v w) && is_alone w (left_by c rest))) r ∙ (ap (λ t. not t && is_alone w (left_by c rest)) s ∙ go)

  left_alone : (c : ℕ) (w : List ℕ) (rows : Table A) → is_alone (c ∷ w) rows ≡ true → is_alone w (left_by c rows) ≡ true
  left_alone c w [] e = refl
  left_alone c w (([], b) ∷ rest) e =
      false_true (both false (is_alone (c ∷ w) rest) (both true (false && is_alone (c ∷ w) rest) e).1).0
  left_alone c w ((d ∷ v, b) ∷ rest) e =
      let p = both (not (begins (c ∷ w) (d ∷ v))) (not (begins (d ∷ v) (c ∷ w)) && is_alone (c ∷ w) rest) e in
      let q = both (not (begins (d ∷ v) (c ∷ w))) (is_alone (c ∷ w) rest) p.1 in
      left_alone_by c d (nat_eq c d) w v b rest refl e (left_alone c w rest q.1)

  left_distinct_by : (c d : ℕ) (x : Bool) (v : List ℕ) (b : A) (rest : Table A) → nat_eq c d ≡ x → is_alone (d ∷ v) rest ≡ true → are_distinct (left_by c rest) ≡ true
      → are_distinct (elim x as (λ p. Table A) [ true ↦ (v, b) ∷ left_by c rest | false ↦ left_by c rest ]) ≡ true
  left_distinct_by c d false v b rest e h go = go
  left_distinct_by c d true v b rest e h go =
      let same : d ≡ c = sym (eqb-true c d e) in
      ap (λ t. t && are_distinct (left_by c rest)) (left_alone c v rest (subst (λ z. is_alone (z ∷ v) rest ≡ true) same h)) ∙ go

  left_distinct : (c : ℕ) (rows : Table A) → are_distinct rows ≡ true → are_distinct (left_by c rows) ≡ true
  left_distinct c [] e = refl
  left_distinct c (([], b) ∷ rest) e = left_distinct c rest (both (is_alone [] rest) (are_distinct rest) e).1
  left_distinct c ((d ∷ v, b) ∷ rest) e =
      let p = both (is_alone (d ∷ v) rest) (are_distinct rest) e in
      left_distinct_by c d (nat_eq c d) v b rest refl p.0 (left_distinct c rest p.1)

  in_left_by : (c d : ℕ) (x : Bool) (w v : List ℕ) (a b : A) (rest : Table A) → In w a (left_by c rest) → In w a (elim x as (λ p. Table A) [ true ↦ (v, b) ∷ left_by c rest | false ↦ left_by c rest ])
  in_left_by c d true w v a b rest i = there i
  in_left_by c d false w v a b rest i = i

  abbrev Left : ℕ → List ℕ → A → Table A → Type 0
  Left c [] a rows = Unit {0}
  Left c (d ∷ w) a rows = c ≡ d → In w a (left_by c rows)

  in_left_of : (c : ℕ) {u : List ℕ} {a : A} {rows : Table A} → In u a rows → Left c u a rows
  in_left_of c (here {w = []}) = tt
  in_left_of c (here {w = d ∷ w} {a = a} {rows = rows}) = λ e.
      subst (λ z. In w a (elim z as (λ p. Table A) [ true ↦ (w, a) ∷ left_by c rows | false ↦ left_by c rows ])) (sym (eq-eqb c d e)) here
  in_left_of c (there {w = []} i) = tt
  in_left_of c (there {w = d ∷ w} {v = []} i) = in_left_of c i
  in_left_of c (there {w = d ∷ w} {v = k ∷ v} {a = a} {b = b} {rows = rows} i) = λ e. in_left_by c k (nat_eq c k) w v a b rows (in_left_of c i e)

  in_left : (c : ℕ) {w : List ℕ} {a : A} {rows : Table A} → In (c ∷ w) a rows → In w a (left_by c rows)
  in_left c i = in_left_of c i refl

  abbrev Ends : List ℕ → A → Table A → Type 0
  Ends [] a t = picked t ≡ Some (last a)
  Ends (d ∷ w) a t = picked t ≡ Some (more t)

  picks : {w : List ℕ} {a : A} {t : Table A} → are_distinct t ≡ true → In w a t → Ends w a t
  picks e (here {w = []}) = refl
  picks e (here {w = d ∷ w}) = refl
  picks e (there {w = w} {v = []} {rows = rows} i) = absurd (false_true (sym (alone_at [] (both (is_alone [] rows) (are_distinct rows) e).0 i).0))
  picks e (there {w = []} {v = k ∷ v} {rows = rows} i) = absurd (false_true (sym (alone_at (k ∷ v) (both (is_alone (k ∷ v) rows) (are_distinct rows) e).0 i).1))
  picks e (there {w = d ∷ w} {v = k ∷ v} i) = refl

  -- each word of the table is read, whatever follows
  pub one_has : (w : List ℕ) (c : ℕ) (a : A) (rows : Table A) → are_distinct rows ≡ true → In (c ∷ w) a rows → (x : List ℕ) → One rows ((c ∷ w) ++ x) a x
  one_has [] c a rows e i x = stop (c, refl, picks (left_distinct c rows e) (in_left c i))
  one_has (d ∷ w) c a rows e i x =
      again (c, refl, picks (left_distinct c rows e) (in_left c i)) (one_has w d a (left_by c rows) (left_distinct c rows e) (in_left c i) x)

  -- ---- where none stands

  furthest_le : (t : Table A) (ts : List ℕ) → furthest t ts ≤ length ts
  furthest_le [] ts = omega arith
  furthest_le ((w, a) ∷ rows) ts = omega (arith, common_le w ts, furthest_le rows ts)

  furthest_in : {w : List ℕ} {a : A} {t : Table A} → In w a t → (ts : List ℕ) → common w ts ≤ furthest t ts
  furthest_in (here {w = w} {rows = rows}) ts = omega arith
  furthest_in (there {v = v} {rows = rows} i) ts = omega (arith, furthest_in i ts)

  no_more_by : (w : List ℕ) (a : A) (rows : Table A) (f ts : List ℕ) (b : ℕ) → ((v : List ℕ) (c : A) → In v c ((w, a) ∷ rows) → GoesOn f b v → ⊥)
      → (length f < common w (f ++ b ∷ ts)) ⊎ (common w (f ++ b ∷ ts) ≤ length f) → furthest rows (f ++ b ∷ ts) ≤ length f
      → max (common w (f ++ b ∷ ts)) (furthest rows (f ++ b ∷ ts)) ≤ length f
  no_more_by w a rows f ts b none (inl h) rest = absurd (none w a here (more_common f w ts b h))
  no_more_by w a rows f ts b none (inr h) rest = omega arith

  no_more : (t : Table A) (f ts : List ℕ) (b : ℕ) → ((w : List ℕ) (a : A) → In w a t → GoesOn f b w → ⊥) → furthest t (f ++ b ∷ ts) ≤ length f
  no_more [] f ts b none = omega arith
  no_more ((w, a) ∷ rows) f ts b none = no_more_by w a rows f ts b none (cases_lt (length f) (common w (f ++ b ∷ ts))) (no_more rows f ts b (λ v c i. none v c (there i)))

  -- a word with some byte
  abbrev pub Filled : Table A → Type 0
  Filled t = (w : List ℕ) (a : A) → In w a t → 0 < length w

  pub has_of : (w : List ℕ) (a : A) (t : Table A) → are_distinct t ≡ true → Filled t → In w a t → (x : List ℕ) → One t (w ++ x) a x
  has_of [] a t e full i x = absurd (omega (arith, full [] a i))
  has_of (c ∷ w) a t e full i x = one_has w c a t e i x

  module _ (t : Table A) (some : Begins t) (e : are_distinct t ≡ true) (full : Filled t) where
    word_law : Law (One t) (read (one_of t))
    word_law = exact (one_of t) (one_good t some)

    -- a word that stands is read
    pub word_read : (w : List ℕ) (a : A) → In w a t → (x : List ℕ) → read (one_of t) (w ++ x) ≡ done a x
    word_read w a i x = reads_it (One t) (read (one_of t)) word_law (w ++ x) a x (has_of w a t e full i x)

    -- a front that can go on is common
    reaches : (f ts : List ℕ) → Completes (One t) f → length f ≤ furthest t (f ++ ts)
    reaches f ts k =
        let (w, i, same) = one_is (k.holds []) in
        let is : w ≡ f ++ (k.bytes ++ []) = sym (append-nil w) ∙ sym same in
        omega (arith, common_front f (k.bytes ++ []) ts, subst (λ z. common z (f ++ ts) ≤ furthest t (f ++ ts)) is (furthest_in i (f ++ ts)))

    -- where none stands, the fault is behind the longest front of one
    pub word_fault : (ts : List ℕ) → ((w : List ℕ) (a : A) (r : List ℕ) → In w a t → ts ≡ w ++ r → ⊥) → read (one_of t) ts ≡ fault (length ts - furthest t ts)
    word_fault ts none = by (read (one_of t) ts) (word_law.judge ts)
      where
        by : (o : Answer A) → Judge (One t) ts o → o ≡ fault (length ts - furthest t ts)
        by (done a r) j =
            let (w, i, same) = one_is (j.derived r) in
            absurd (none w a r i (j.whole ∙ same))
        by (fault zero) j =
            let far : length ts ≤ furthest t ts = subst (λ z. length ts ≤ furthest t z) (append-nil ts) (reaches ts [] j.completes) in
            ap fault (let h : 0 ≡ length ts - furthest t ts = omega (arith, far, furthest_le t ts) in h)
        by (fault (suc n)) j =
            let far : length j.front ≤ furthest t ts = subst (λ z. length j.front ≤ furthest t z) (sym j.whole) (reaches j.front (j.token ∷ j.rest) j.reaches) in
            let near : furthest t ts ≤ length j.front =
            subst (λ z. furthest t z ≤ length j.front) (sym j.whole)
            (no_more t j.front j.rest j.token (λ w a i (v, is). j.none (v ++ []) a [] (subst (λ z. One t z a []) (ap (λ z. z ++ []) is ∙ append_assoc j.front (j.token ∷ v) []) (has_of w a t e full i [])))) in
            let size : length ts ≡ length j.front + suc (length j.rest) = ap length j.whole ∙ length-append j.front (j.token ∷ j.rest) in
            let count : length j.rest ≡ n = j.place in
            ap fault (let h : suc n ≡ length ts - furthest t ts = omega (arith, far, near, size, count) in h)
