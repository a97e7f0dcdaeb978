-- Numbers with one byte between them and another behind the last.
use Rattle.std.proofs.Common.{◌≡◌, ℕ, zero, suc, ◌+◌, ◌^◌, ◌<◌, ◌≤◌, Bool, true, false, ◌&&◌, List, [], ◌∷◌, ◌++◌, length, Option, Some, None, refl, sym, ap, subst, ◌∙◌, append_assoc, length-append, arith}
use Rattle.std.specs.Prelude.{nat_le, nat_eq, if◌then◌else◌}
use Rattle.std.specs.Fmt.{decimal}
use Rattle.std.proofs.lemmas.Bool.{leb-true, le-leb, eqb-true, eq-eqb}
use Rattle.line_format.specs.Lines.{greatest, numbers_text, after, Fit}
use Rattle.line_format.specs.tools.Format.{Next, more, last, Format, give, byte, chain, loop, Loop, again, stop, Has, read, done}
use Rattle.line_format.specs.tools.Number.{is_digit, number}
use Rattle.line_format.specs.tools.Words.{word}
use Rattle.line_format.specs.tools.Members as form
use Rattle.line_format.specs.tools.Members.{AreMarks}
use Rattle.line_format.proofs.Laws.{Completes, Done, Judge, Law}
use Rattle.line_format.proofs.Formats.{some_is, none_some, more_last, last_is, Good, GoodTurns, exact}
use Rattle.line_format.proofs.Digits.{false_true, more_is, number_good}
use Rattle.line_format.proofs.Decimals.{IsNumber, number_is, number_text}
use Rattle.line_format.proofs.Spelling.{decimal_end, word_text, word_is, word_good}

-- no number may come behind the greatest where they rise
pub after_fits : (rising : Bool) (x y : ℕ) → after rising x ≤ y → y ≤ greatest → after rising x ≤ greatest
after_fits rising x y l h = omega arith

module _ (between end : ℕ) (rising : Bool) (marks : AreMarks between end) where
  abbrev ends : ℕ → ℕ → Option Bool
  ends = form.member_end between end rising

  pub member_end_is : (m b : ℕ) (x : Bool) → ends m b ≡ Some x
      → elim x as (λ p. Type 0) [ true ↦ b ≡ end | false ↦ (b ≡ between) × (after rising m ≤ greatest) ]
  member_end_is m b x e = by (nat_eq b end) (nat_eq b between) (nat_le (after rising m) greatest) x refl refl refl e
    where
      by : (p q s x : Bool) → nat_eq b end ≡ p → nat_eq b between ≡ q → nat_le (after rising m) greatest ≡ s
          → (if p then Some true else (if q && s then Some false else None)) ≡ Some x
          → elim x as (λ p. Type 0) [ true ↦ b ≡ end | false ↦ (b ≡ between) × (after rising m ≤ greatest) ]
      by true q s true e f g h = eqb-true b end e
      by true q s false e f g h = false_true (sym (some_is h))
      by false true true true e f g h = false_true (some_is h)
      by false true true false e f g h = (eqb-true b between f, leb-true (after rising m) greatest g)
      by false true false x e f g h = none_some h
      by false false s x e f g h = none_some h

  pub ends_there : (m : ℕ) → ends m end ≡ Some true
  ends_there m = ap (λ b. if b then Some true else (if nat_eq end between && nat_le (after rising m) greatest then Some false else None)) (eq-eqb end end refl)

  pub goes_on_there : (m : ℕ) → after rising m ≤ greatest → ends m between ≡ Some false
  goes_on_there m l =
      ap (λ b. if b then Some true else (if nat_eq between between && nat_le (after rising m) greatest then Some false else None)) marks.apart
      ∙ ap (λ b. if b && nat_le (after rising m) greatest then Some false else None) (eq-eqb between between refl)
      ∙ ap (λ b. if b then Some false else None) (le-leb (after rising m) greatest l)

  -- behind a member that is not the last a further one fits
  pub room_behind : (least m : ℕ) (ts r : List ℕ) → least ≤ greatest → read (number least greatest ends) ts ≡ done (m, false) r → after rising m ≤ greatest
  room_behind least m ts r le e =
      let law = exact (number least greatest ends) (number_good least greatest ends le (λ m p q. (end, true, marks.end_no_digit, ends_there m))) in
      let d : Done (Has (number least greatest ends)) ts (m, false) r = subst (Judge (Has (number least greatest ends)) ts) e (law.judge ts) in
      let k : IsNumber least greatest ends (d.front ++ r) m false r = number_is least greatest ends (omega arith) (d.front ++ r) (m, false) r (d.derived r) in
      (member_end_is m k.end false k.ends_so).1

  has_more_end : form.has_more between end rising end ≡ Some false
  has_more_end = ap (λ b. if b then Some false else (if nat_eq end between then Some true else None)) (eq-eqb end end refl)

  has_more_between : form.has_more between end rising between ≡ Some true
  has_more_between =
      ap (λ b. if b then Some false else (if nat_eq between between then Some true else None)) marks.apart
      ∙ ap (λ b. if b then Some true else None) (eq-eqb between between refl)

  has_more_is : (b : ℕ) (x : Bool) → form.has_more between end rising b ≡ Some x → b ≡ elim x as (λ p. ℕ) [ true ↦ between | false ↦ end ]
  has_more_is b x e = by (nat_eq b end) (nat_eq b between) x refl refl e
    where
      by : (p q x : Bool) → nat_eq b end ≡ p → nat_eq b between ≡ q → (if p then Some false else (if q then Some true else None)) ≡ Some x
          → b ≡ elim x as (λ p. ℕ) [ true ↦ between | false ↦ end ]
      by true q false e f h = eqb-true b end e
      by true q true e f h = false_true (some_is h)
      by false true true e f h = eqb-true b between f
      by false true false e f h = false_true (sym (some_is h))
      by false false x e f h = none_some h

  module _ (lead : List ℕ) where
    abbrev pub Members : (List ℕ × ℕ) → List ℕ → List ℕ → List ℕ → Type 0
    Members s ts a r = Has (loop (form.member lead between end rising) s) ts a r

    -- the text of some members behind each other, and what follows
    abbrev tail : List ℕ → List ℕ → List ℕ
    tail xs r = numbers_text lead between end xs r

    abbrev here : ℕ → List ℕ → List ℕ → List ℕ
    here x xs r = lead ++ (decimal x ++ tail xs r)

    members_text_has : (xs found : List ℕ) (least x : ℕ) → Fit rising least (x ∷ xs) → (r : List ℕ) → Members (found, least) (here x xs r) (found ++ x ∷ xs) r
    members_text_has [] found least x (low, high, u) r =
        stop (tt, decimal x ++ end ∷ r, word_text lead (decimal x ++ end ∷ r), ((x, true), r, number_text least greatest ends (omega arith) x true end low high marks.end_no_digit (ends_there x) r, (refl, refl)))
    members_text_has (y ∷ ys) found least x (low, high, up) r =
        let room : after rising x ≤ greatest = after_fits rising x y up.0 up.1 in
        let next : List ℕ = here y ys r in
        subst (λ z. Members (found, least) (here x (y ∷ ys) r) z r) (append_assoc found (x ∷ []) (y ∷ ys))
        (again (
          tt,
          decimal x ++ between ∷ next,
          word_text lead (decimal x ++ between ∷ next),
          ((x, false), next, number_text least greatest ends (omega arith) x false between low high marks.between_no_digit (goes_on_there x room) next, (refl, refl)),
        ) (members_text_has ys (found ++ x ∷ []) (after rising x) y up r))

    -- what one member is
    record IsMember (s : List ℕ × ℕ) (ts : List ℕ) (x c : ℕ) (r : List ℕ) : Type 0 where
      low : s.1 ≤ x
      high : x ≤ greatest
      is : ts ≡ lead ++ (decimal x ++ c ∷ r)

    member_of : (s : List ℕ × ℕ) (ts m n r : List ℕ) (x : ℕ) (e : Bool) (c : ℕ) → ts ≡ lead ++ m → (k : IsNumber s.1 greatest ends m x e n) → k.end ≡ c → n ≡ r → IsMember s ts x c r
    member_of s ts m n r x e c w k b f = record { low = k.low; high = k.high; is = w ∙ ap (λ z. lead ++ z) (k.is ∙ (λ i. decimal x ++ b i ∷ f i)) }

    member_more : (s y : List ℕ × ℕ) (ts r : List ℕ) → Has (form.member lead between end rising s) ts (more y) r
        → (x : ℕ) × IsMember s ts x between r × (after rising x ≤ greatest) × ((s.0 ++ x ∷ [], after rising x) ≡ y)
    member_more s y ts r (u, n, p, ((x, e), m, h, (f, w))) = by e (number_is s.1 greatest ends (omega arith) n (x, e) m h) f
      where
        by : (e : Bool) → IsNumber s.1 greatest ends n x e m → form.member_on between end rising s.0 (x, e) ≡ more y
            → (x : ℕ) × IsMember s ts x between r × (after rising x ≤ greatest) × ((s.0 ++ x ∷ [], after rising x) ≡ y)
        by true k f = absurd (more_last (sym f))
        by false k f =
            let (b, less) = member_end_is x k.end false k.ends_so in
            (x, member_of s ts n m r x false between (word_is lead ts u n p) k b w, less, more_is (s.0 ++ x ∷ [], after rising x) f)

    member_last : (s : List ℕ × ℕ) (a ts r : List ℕ) → Has (form.member lead between end rising s) ts (last a) r → (x : ℕ) × IsMember s ts x end r × (s.0 ++ x ∷ [] ≡ a)
    member_last s a ts r (u, n, p, ((x, e), m, h, (f, w))) = by e (number_is s.1 greatest ends (omega arith) n (x, e) m h) f
      where
        by : (e : Bool) → IsNumber s.1 greatest ends n x e m → form.member_on between end rising s.0 (x, e) ≡ last a → (x : ℕ) × IsMember s ts x end r × (s.0 ++ x ∷ [] ≡ a)
        by false k f = absurd (more_last f)
        by true k f = (x, member_of s ts n m r x true end (word_is lead ts u n p) k (member_end_is x k.end true k.ends_so) w, last_is (s.0 ++ x ∷ []) f)

    abbrev AreMembers : (List ℕ × ℕ) → List ℕ → List ℕ → List ℕ → Type 0
    AreMembers s ts a r = (x : ℕ) × (xs : List ℕ) × (a ≡ s.0 ++ x ∷ xs) × Fit rising s.1 (x ∷ xs) × (ts ≡ here x xs r)

    members_are : {s : List ℕ × ℕ} {ts a r : List ℕ} → Members s ts a r → AreMembers s ts a r
    members_are (stop {x = s} {ts = ts} {r = r} {a = a} h) =
        let (x, k, same) = member_last s a ts r h in
        (x, [], sym same, (k.low, k.high, tt), k.is)
    members_are (again {x = s} {y = t} {ts = ts} {m = m} {r = r} {a = a} h rest) =
        let (x, k, less, same) = member_more s t ts m h in
        let (y, ys, is, up, w) = members_are rest in
        let up' : Fit rising (after rising x) (y ∷ ys) = subst (λ n. Fit rising n (y ∷ ys)) (sym (ap (λ p. p.1) same)) up in
        (x, y ∷ ys, is ∙ (ap (λ p. p.0 ++ y ∷ ys) (sym same) ∙ append_assoc s.0 (x ∷ []) (y ∷ ys)), (k.low, k.high, up'), k.is ∙ ap (λ z. lead ++ (decimal x ++ between ∷ z)) w)

    member_good : (s : List ℕ × ℕ) → s.1 ≤ greatest → Good (form.member lead between end rising s)
    member_good s le = (word_good lead, λ u g. (number_good s.1 greatest ends le (λ m p q. (end, true, marks.end_no_digit, ends_there m)), λ z g. tt))

    members_turns : GoodTurns (form.member lead between end rising) (λ s. s.1 ≤ greatest)
    members_turns = record {
      keeps = λ s y ts r i h.
          let (x, k, less, same) = member_more s y ts r h in
          subst (λ p. p.1 ≤ greatest) same less;
      takes = λ s ts r v i (u, n, p, (z, m, h, (f, w))).
          let k : IsNumber s.1 greatest ends n z.0 z.1 m = number_is s.1 greatest ends (omega arith) n z m h in
          omega (arith, decimal_end z.0 k.end n m k.is, ap length w, ap length (word_is lead ts u n p), length-append lead n);
      alive = λ s i. record {
        bytes = lead ++ (decimal s.1 ++ end ∷ []);
        value = s.0 ++ s.1 ∷ [];
        holds = λ x.
            subst (λ z. Members s z (s.0 ++ s.1 ∷ []) x) (sym (append_assoc lead (decimal s.1 ++ end ∷ []) x ∙ ap (λ z. lead ++ z) (append_assoc (decimal s.1) (end ∷ []) x)))
            (members_text_has [] s.0 s.1 s.1 (omega arith, i, tt) x);
      };
    }

    pub members_good : Good (form.members lead between end rising)
    members_good = ((λ s. s.1 ≤ greatest), omega arith, members_turns, member_good)

    -- one member or more are their text
    pub members_has : (x : ℕ) (xs : List ℕ) → Fit rising 0 (x ∷ xs) → (r : List ℕ) → Has (form.members lead between end rising) (here x xs r) (x ∷ xs) r
    members_has x xs fit r = members_text_has xs [] 0 x fit r

    pub members_is : (ts a r : List ℕ) → Has (form.members lead between end rising) ts a r
        → (x : ℕ) × (xs : List ℕ) × (a ≡ x ∷ xs) × Fit rising 0 (x ∷ xs) × (ts ≡ here x xs r)
    members_is ts a r h = members_are h

    pub any_good : Good (form.any_members lead between end rising)
    any_good = ((end, false, has_more_end, tt), λ some g. by some)
      where
        by : (some : Bool) → Good (elim some as (λ p. Format (List ℕ)) [ true ↦ form.members lead between end rising | false ↦ give [] ])
        by true = members_good
        by false = tt

    pub any_has : (xs : List ℕ) → Fit rising 0 xs → (r : List ℕ) → Has (form.any_members lead between end rising) (tail xs r) xs r
    any_has [] fit r = (false, r, (end, refl, has_more_end), (refl, refl))
    any_has (x ∷ xs) fit r = (true, here x xs r, (between, refl, has_more_between), members_has x xs fit r)

    pub any_is : (ts a r : List ℕ) → Has (form.any_members lead between end rising) ts a r → Fit rising 0 a × (ts ≡ tail a r)
    any_is ts a r (some, m, (b, w, e), h) = by some e h
      where
        by : (some : Bool) → form.has_more between end rising b ≡ Some some
            → Has (elim some as (λ p. Format (List ℕ)) [ true ↦ form.members lead between end rising | false ↦ give [] ]) m a r → Fit rising 0 a × (ts ≡ tail a r)
        by true e h =
            let (x, xs, is, fit, same) = members_is m a r h in
            subst (λ z. Fit rising 0 z × (ts ≡ tail z r)) (sym is) (fit, w ∙ (λ i. has_more_is b true e i ∷ same i))
        by false e (f, same) = subst (λ z. Fit rising 0 z × (ts ≡ tail z r)) f (tt, w ∙ (λ i. has_more_is b false e i ∷ same i))
