-- A number and what may come behind it on its line.
use Rattle.std.proofs.Common.{◌≡◌, ℕ, ◌+◌, ◌^◌, ◌<◌, ◌≤◌, Bool, true, false, List, [], ◌∷◌, ◌++◌, Option, Some, None, refl, sym, ap, subst, ◌∙◌, append_assoc, arith}
use Rattle.std.specs.Fmt.{decimal}
use Rattle.line_format.specs.Lines.{greatest, numbers_text, Fit, line}
use Rattle.line_format.specs.tools.Format.{Format, give, chain, Has}
use Rattle.line_format.specs.tools.Number.{number, number_and}
use Rattle.line_format.specs.tools.Members.{AreMarks, member_end, members, rest_of, number_and_members, option_of, number_and_option}
use Rattle.line_format.proofs.Formats.{Good}
use Rattle.line_format.proofs.Digits.{number_good}
use Rattle.line_format.proofs.Decimals.{IsNumber, number_is, number_text}
use Rattle.line_format.proofs.Spelling.{and_good, and_text, and_is}
use Rattle.line_format.proofs.Listing.{member_end_is, ends_there, goes_on_there, members_good, members_has, members_is}
use Rattle.line_format.proofs.Spells.{Spells}

module _ (between end : ℕ) (marks : AreMarks between end) where
  abbrev ends : ℕ → ℕ → Option Bool
  ends = member_end between end false

  head_good : Good (number 0 greatest ends)
  head_good = number_good 0 greatest ends (omega arith) (λ m p q. (end, true, marks.end_no_digit, ends_there between end false marks m))

  last_has : (n : ℕ) → n ≤ greatest → (r : List ℕ) → Has (number 0 greatest ends) (decimal n ++ end ∷ r) (n, true) r
  last_has n le r = number_text 0 greatest ends (omega arith) n true end (omega arith) le marks.end_no_digit (ends_there between end false marks n) r

  more_has : (n : ℕ) → n ≤ greatest → (r : List ℕ) → Has (number 0 greatest ends) (decimal n ++ between ∷ r) (n, false) r
  more_has n le r = number_text 0 greatest ends (omega arith) n false between (omega arith) le marks.between_no_digit (goes_on_there between end false marks n (omega arith)) r

  -- the number and the byte behind it
  head_is : (ts : List ℕ) (n : ℕ) (last : Bool) (r : List ℕ) → Has (number 0 greatest ends) ts (n, last) r
      → (n ≤ greatest) × (ts ≡ decimal n ++ elim last as (λ p. ℕ) [ true ↦ end | false ↦ between ] ∷ r)
  head_is ts n last r h = by last (number_is 0 greatest ends (omega arith) ts (n, last) r h)
    where
      by : (last : Bool) → IsNumber 0 greatest ends ts n last r → (n ≤ greatest) × (ts ≡ decimal n ++ elim last as (λ p. ℕ) [ true ↦ end | false ↦ between ] ∷ r)
      by true k = let b = member_end_is between end false marks n k.end true k.ends_so in (k.high, k.is ∙ (λ i. decimal n ++ b i ∷ r))
      by false k = let b = (member_end_is between end false marks n k.end false k.ends_so).0 in (k.high, k.is ∙ (λ i. decimal n ++ b i ∷ r))

  module _ (lead : List ℕ) (rising : Bool) where
    abbrev List_ : Format (ℕ × List ℕ)
    List_ = number_and_members lead between end rising

    list_good : Good List_
    list_good = (head_good, λ z g. by z.1 z.0)
      where
        by : (b : Bool) (n : ℕ) → Good {A = ℕ × List ℕ} (chain (rest_of lead between end rising b) (λ xs. give (n, xs)))
        by true n = (tt, λ xs g. tt)
        by false n = (members_good between end rising marks lead, λ xs g. tt)

    list_has : (p : ℕ × List ℕ) → (p.0 ≤ greatest) × Fit rising 0 p.1 → (r : List ℕ) → Has List_ (decimal p.0 ++ numbers_text lead between end p.1 r) p r
    list_has (n, []) (le, fit) r = ((n, true), r, last_has n le r, ([], r, (refl, refl), (refl, refl)))
    list_has (n, x ∷ xs) (le, fit) r =
        ((n, false), lead ++ (decimal x ++ numbers_text lead between end xs r), more_has n le (lead ++ (decimal x ++ numbers_text lead between end xs r)), (x ∷ xs, r, members_has between end rising marks lead x xs fit r, (refl, refl)))

    list_is : (ts : List ℕ) (p : ℕ × List ℕ) (r : List ℕ) → Has List_ ts p r → ((p.0 ≤ greatest) × Fit rising 0 p.1) × (ts ≡ decimal p.0 ++ numbers_text lead between end p.1 r)
    list_is ts p r ((n, last), m, h, (xs, q, g, (e, w))) = by last h g
      where
        by : (last : Bool) → Has (number 0 greatest ends) ts (n, last) m → Has (rest_of lead between end rising last) m xs q
            → ((p.0 ≤ greatest) × Fit rising 0 p.1) × (ts ≡ decimal p.0 ++ numbers_text lead between end p.1 r)
        by true h (f, v) =
            let (le, t) = head_is ts n true m h in
            let same : ◌≡◌ {A = ℕ × List ℕ} (n, []) p = ap (λ z. (n, z)) f ∙ e in
            subst (λ z. ((z.0 ≤ greatest) × Fit rising 0 z.1) × (ts ≡ decimal z.0 ++ numbers_text lead between end z.1 r)) same
            ((le, tt), t ∙ (λ i. decimal n ++ end ∷ (v ∙ w) i))
        by false h g =
            let (le, t) = head_is ts n false m h in
            let (x, ys, is, fit, v) = members_is between end rising marks lead m xs q g in
            let same : ◌≡◌ {A = ℕ × List ℕ} (n, x ∷ ys) p = ap (λ z. (n, z)) (sym is) ∙ e in
            subst (λ z. ((z.0 ≤ greatest) × Fit rising 0 z.1) × (ts ≡ decimal z.0 ++ numbers_text lead between end z.1 r)) same
            ((le, fit), t ∙ ap (λ z. decimal n ++ between ∷ z) v ∙ (λ i. decimal n ++ between ∷ (lead ++ (decimal x ++ numbers_text lead between end ys (w i)))))

    -- a number and a list behind it
    pub listed : Spells List_ (λ p. (p.0 ≤ greatest) × Fit rising 0 p.1) (λ p r. decimal p.0 ++ numbers_text lead between end p.1 r)
    listed = record { good = list_good; has = list_has; is = list_is }

  -- a number of 32 bits, or none
  abbrev pub IsOne : Option ℕ → Type 0
  IsOne None = Unit {0}
  IsOne (Some n) = n ≤ greatest

  abbrev pub one_text : Option ℕ → List ℕ → List ℕ
  one_text None r = end ∷ r
  one_text (Some n) r = between ∷ (decimal n ++ end ∷ r)

  option_good : Good (number_and_option between end)
  option_good = (head_good, λ z g. by z.1 z.0)
    where
      by : (b : Bool) (n : ℕ) → Good {A = ℕ × Option ℕ} (chain (option_of between end b) (λ o. give (n, o)))
      by true n = (tt, λ o g. tt)
      by false n = ((and_good end 0 greatest marks.end_no_digit (omega arith) (omega arith), λ k g. tt), λ o g. tt)

  option_has : (p : ℕ × Option ℕ) → (p.0 ≤ greatest) × IsOne p.1 → (r : List ℕ) → Has (number_and_option between end) (decimal p.0 ++ one_text p.1 r) p r
  option_has (n, None) (le, fit) r = ((n, true), r, last_has n le r, (None, r, (refl, refl), (refl, refl)))
  option_has (n, Some k) (le, fit) r =
      ((n, false), decimal k ++ end ∷ r, more_has n le (decimal k ++ end ∷ r), (Some k, r, (k, r, and_text end 0 greatest marks.end_no_digit (omega arith) k (omega arith) fit r, (refl, refl)), (refl, refl)))

  option_is : (ts : List ℕ) (p : ℕ × Option ℕ) (r : List ℕ) → Has (number_and_option between end) ts p r → ((p.0 ≤ greatest) × IsOne p.1) × (ts ≡ decimal p.0 ++ one_text p.1 r)
  option_is ts p r ((n, last), m, h, (o, q, g, (e, w))) = by last h g
    where
      by : (last : Bool) → Has (number 0 greatest ends) ts (n, last) m → Has (option_of between end last) m o q
          → ((p.0 ≤ greatest) × IsOne p.1) × (ts ≡ decimal p.0 ++ one_text p.1 r)
      by true h (f, v) =
          let (le, t) = head_is ts n true m h in
          let same : ◌≡◌ {A = ℕ × Option ℕ} (n, None) p = ap (λ z. (n, z)) f ∙ e in
          subst (λ z. ((z.0 ≤ greatest) × IsOne z.1) × (ts ≡ decimal z.0 ++ one_text z.1 r)) same ((le, tt), t ∙ (λ i. decimal n ++ end ∷ (v ∙ w) i))
      by false h (k, s, g, (f, v)) =
          let (le, t) = head_is ts n false m h in
          let (low, high, u) = and_is end 0 greatest marks.end_no_digit (omega arith) m k s g in
          let same : ◌≡◌ {A = ℕ × Option ℕ} (n, Some k) p = ap (λ z. (n, z)) f ∙ e in
          subst (λ z. ((z.0 ≤ greatest) × IsOne z.1) × (ts ≡ decimal z.0 ++ one_text z.1 r)) same
          ((le, high), t ∙ ap (λ z. decimal n ++ between ∷ z) u ∙ (λ i. decimal n ++ between ∷ (decimal k ++ end ∷ (v ∙ w) i)))

  -- a number, and one more or none
  pub with_option : Spells (number_and_option between end) (λ p. (p.0 ≤ greatest) × IsOne p.1) (λ p r. decimal p.0 ++ one_text p.1 r)
  with_option = record { good = option_good; has = option_has; is = option_is }

abbrev pub led : List ℕ → List ℕ → List (List ℕ)
led lead [] = []
led lead (x ∷ xs) = (lead ++ decimal x) ∷ led lead xs

-- a list at the end of a line
pub line_of_list : (lead w xs r : List ℕ) → line (w ∷ led lead xs) r ≡ w ++ numbers_text lead 32 10 xs r
line_of_list lead w [] r = refl
line_of_list lead w (x ∷ xs) r = ap (λ z. w ++ 32 ∷ z) (line_of_list lead (lead ++ decimal x) xs r ∙ append_assoc lead (decimal x) (numbers_text lead 32 10 xs r))
