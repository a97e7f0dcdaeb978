-- The classes of a set, marked in a list.
use Rattle.std.proofs.Common.{◌≡◌, ℕ, ◌+◌, ◌-◌, ◌<◌, ◌≤◌, Bool, true, false, cond, List, [], ◌∷◌, ◌++◌, length, get_or, set, filter, replicate, refl, sym, ap, ◌∙◌, subst, ⊎_elim, arith, eq-eqb}
use Rattle.std.specs.Prelude.{nat_eq, ◌||◌}
use Rattle.std.specs.List.{range_with_len}
use Rattle.std.proofs.lemmas.List.{get_or-set_same, get_or-set_other, length-set, map-id, length-replicate, get_or-replicate, get_or_read, append-nil}
use Rattle.std.proofs.lemmas.List.Recursion.{or_push}
use Rattle.std.proofs.lemmas.List.FromFn.{filter_of_map_range_with_len_more}
use Rattle.std.proofs.lemmas.Bool.{cases_eq, ne_eqb}
use Rattle.tac_ir.specs.Answers.{has}
use Rattle.alarm_report.specs.Marks.{AreMarks}

has-push : (numbers : List ℕ) (x k : ℕ) → has (numbers ++ x ∷ []) k ≡ (has numbers k || nat_eq x k)
has-push numbers x k = or_push (λ xs. has xs k) (λ y. nat_eq y k) refl (λ _ _. refl) numbers x

or-true : (b : Bool) → (b || true) ≡ true
or-true true = refl
or-true false = refl

or-false : (b : Bool) → (b || false) ≡ b
or-false true = refl
or-false false = refl

has-new : (numbers : List ℕ) (x k : ℕ) → x ≡ k → has (numbers ++ x ∷ []) k ≡ true
has-new numbers x k e = has-push numbers x k ∙ (ap (λ b. has numbers k || b) (eq-eqb x k e) ∙ or-true (has numbers k))

has-old : (numbers : List ℕ) (x k : ℕ) → (x ≡ k → ⊥) → has (numbers ++ x ∷ []) k ≡ has numbers k
has-old numbers x k e = has-push numbers x k ∙ (ap (λ b. has numbers k || b) (ne_eqb x k e) ∙ or-false (has numbers k))

pub AreMarks-none : (n : ℕ) → AreMarks (replicate n false) n []
AreMarks-none n = record { count = length-replicate n false; each = λ k h. get_or-replicate n k false false h }

pub AreMarks-more : (marks : List Bool) (n : ℕ) (numbers : List ℕ) (x : ℕ) → AreMarks marks n numbers → AreMarks (set marks x true) n (numbers ++ x ∷ [])
AreMarks-more marks n numbers x so_far = record {
  count = length-set marks x true ∙ so_far.count;
  each = λ k h. ⊎_elim
      (λ (here : k ≡ x). subst (λ i. get_or (set marks x true) i false ≡ has (numbers ++ x ∷ []) i) (sym here) (get_or-set_same marks x true false (omega (arith, so_far.count)) ∙ sym (has-new numbers x x refl)))
      (λ (other : k ≡ x → ⊥). get_or-set_other marks x k true false other ∙ (so_far.each k h ∙ sym (has-old numbers x k (λ e. other (sym e)))))
      (cases_eq k x);
}

-- a mark that was read
pub AreMarks-read : (marks : List Bool) (n : ℕ) (numbers : List ℕ) (k : ℕ) (mark : Bool) → AreMarks marks n numbers → k < length marks → mark ≡ get_or marks k mark → mark ≡ has numbers k
AreMarks-read marks n numbers k mark so_far inside is = get_or_read marks k mark inside is false ∙ so_far.each k (omega (arith, so_far.count))

-- one more number, kept or not
filter-range-more : (p : ℕ → Bool) (a n j : ℕ) → a + n ≡ j → filter p (range_with_len a (n + 1)) ≡ filter p (range_with_len a n) ++ cond (p j) (j ∷ []) []
filter-range-more p a n j e =
    ap (filter p) (sym (map-id (range_with_len a (n + 1)))) ∙ (filter_of_map_range_with_len_more p (λ x. x) a n j e ∙ ap (λ xs. filter p xs ++ cond (p j) (j ∷ []) []) (map-id (range_with_len a n)))

-- the numbers that were kept, one number further on
pub kept-yes : (p : ℕ → Bool) (k : ℕ) (kept : List ℕ) → 1 ≤ k → p k ≡ true → kept ≡ filter p (range_with_len 1 (k - 1)) → kept ++ k ∷ [] ≡ filter p (range_with_len 1 (k + 1 - 1))
kept-yes p k kept low passes so_far =
    ap (λ xs. xs ++ k ∷ []) so_far ∙ (ap (λ b. filter p (range_with_len 1 (k - 1)) ++ cond b (k ∷ []) []) (sym passes) ∙ (sym (filter-range-more p 1 (k - 1) k (omega arith)) ∙ ap (λ n. filter p (range_with_len 1 n)) (omega arith)))

pub kept-no : (p : ℕ → Bool) (k : ℕ) (kept : List ℕ) → 1 ≤ k → p k ≡ false → kept ≡ filter p (range_with_len 1 (k - 1)) → kept ≡ filter p (range_with_len 1 (k + 1 - 1))
kept-no p k kept low fails so_far =
    so_far ∙ (sym (append-nil _) ∙ (ap (λ b. filter p (range_with_len 1 (k - 1)) ++ cond b (k ∷ []) []) (sym fails) ∙ (sym (filter-range-more p 1 (k - 1) k (omega arith)) ∙ ap (λ n. filter p (range_with_len 1 n)) (omega arith))))
