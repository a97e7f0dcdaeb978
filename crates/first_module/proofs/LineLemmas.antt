-- The sets of a straight line ascend, since its definitions count up.
use Rattle.std.proofs.Common.{◌≡◌, ℕ, suc, ◌+◌, ◌<◌, ◌≤◌, Bool, true, false, ◌&&◌, List, [], ◌∷◌, ◌++◌, length, get_or, drop, Option, Some, None, refl, sym, ap, subst, ◌∙◌, arith}
use Rattle.std.specs.Prelude.{nat_eq, IfSome}
use Rattle.std.specs.List.{AllByRecursion, range_with_len}
use Rattle.std.proofs.lemmas.Bool.{false≢true}
use Rattle.tac_ir.specs.declared.code.Instr.{Instr}
use Rattle.tac_ir.specs.declared.code.Lined.{Lined}
use Rattle.tac_ir.specs.Numbers.{new_def, numbers_in}
use Rattle.first_module.specs.tools.Counted.{counted}
use Rattle.first_module.specs.tools.Readers.{Ascends}
use Rattle.first_module.specs.SetsOf.{definitions_of, is_global, or_none, set_by, sets_behind, target_of}
use Rattle.first_module.specs.StraightLine.{global_at, global_behind, is_plain, is_straight_behind}
use Rattle.first_module.specs.tools.Steps.{last_of}
use Rattle.first_module.specs.tools.Trail.{Below, NamesWithin}
use Rattle.first_module.proofs.AscendLemmas.{ascends-higher, ascends-wider}
use Rattle.first_module.proofs.StepLemmas.{below-behind, definitions-written, last-definition, written}

and_first : (a b : Bool) → a && b ≡ true → a ≡ true
and_first true b h = refl
and_first false b h = h

and_second : (a b : Bool) → a && b ≡ true → b ≡ true
and_second true b h = h
and_second false b h = absurd (false≢true h)

ascends-push : (low high d : ℕ) (xs : List ℕ) → Ascends low high xs → high ≤ d → low ≤ d → Ascends low (suc d) (xs ++ d ∷ [])
ascends-push low high d [] h above le = (le, omega arith, tt)
ascends-push low high d (x ∷ xs) h above le = (h.0, omega arith, ascends-push (suc x) high d xs h.2 above (omega arith))

last_of-ascends : (low high : ℕ) (xs : List ℕ) → Ascends low high xs → Ascends low high (last_of xs)
last_of-ascends low high [] h = tt
last_of-ascends low high (x ∷ []) h = h
last_of-ascends low high (x ∷ y ∷ rest) h = ascends-wider low (suc x) high (last_of (y ∷ rest)) (omega arith) (last_of-ascends (suc x) high (y ∷ rest) h.2)

all_append : {A : Type 0} (P : A → Type 0) (xs ys : List A) → AllByRecursion P xs → AllByRecursion P ys → AllByRecursion P (xs ++ ys)
all_append P [] ys h g = g
all_append P (x ∷ xs) ys h g = (h.0, all_append P xs ys h.1 g)

-- the number of the definition that is made
abbrev number_in : Option (Option ℕ × ℕ) → Option ℕ
number_in None = None
number_in (Some t) = Some t.1

target-number : (earlier : List Lined) (i : Instr) → is_plain earlier i ≡ true → new_def i ≡ number_in (target_of earlier i)
target-number earlier (Instr.Set place a d) h = refl
target-number earlier (Instr.Store a b d) h = refl
target-number earlier (Instr.Call to f def args) h = absurd (false≢true h)
target-number earlier i h = refl

written-ascends : (g next : ℕ) (o : Option (Option ℕ × ℕ)) (xs : List ℕ) → 1 ≤ next → Ascends 1 next xs → IfSome (number_in o) (λ d. d ≡ next) → Ascends 1 (next + counted (number_in o)) (written g o xs)
written-ascends g next None xs some h is = ascends-higher 1 next (next + 0) xs (omega arith) h
written-ascends g next (Some t) xs some h is = by t.0
  where
    by : (o : Option ℕ) → Ascends 1 (next + 1) (is_global g o (xs ++ t.1 ∷ []) xs)
    by None = ascends-higher 1 next (next + 1) xs (omega arith) h
    by (Some k) =
        elim (nat_eq k g) as (λ b. Ascends 1 (next + 1) (elim b as (λ b. List ℕ) [ true ↦ xs ++ t.1 ∷ [] | false ↦ xs ])) [
          | true ↦ ascends-higher 1 (suc t.1) (next + 1) (xs ++ t.1 ∷ []) (omega arith) (ascends-push 1 next t.1 xs h (omega arith) (omega arith))
          | false ↦ ascends-higher 1 next (next + 1) xs (omega arith) h
        ]

or_none-ascends : (n high : ℕ) (f : ℕ → List ℕ) (o : Option ℕ) → Below n o → ((g : ℕ) → g < n → Ascends 1 high (f g)) → Ascends 1 high (or_none f o)
or_none-ascends n high f None below h = tt
or_none-ascends n high f (Some g) below h = h g below

set-ascends : (n high : ℕ) (earlier : List Lined) (i : Instr) → NamesWithin n i → ((t : ℕ) → Below n (global_behind earlier t)) → ((g : ℕ) → g < n → Ascends 1 high (definitions_of g earlier))
    → AllByRecursion (Ascends 1 high) (set_by earlier i)
set-ascends n high earlier (Instr.Get to place r) names below h =
    (or_none-ascends n high _ (global_at place) names (λ g less. subst (Ascends 1 high) (sym (last-definition g earlier)) (last_of-ascends 1 high (definitions_of g earlier) (h g less))), tt)
set-ascends n high earlier (Instr.Load to a r) names below h = (or_none-ascends n high _ (global_behind earlier a) (below a) h, tt)
set-ascends n high earlier i names below h = tt

-- numbers that count up, without the first of them
record Counts (next : ℕ) (o : Option ℕ) (rest whole : List ℕ) : Type 0 where
  first : IfSome o (λ d. d ≡ next)
  later : rest ≡ range_with_len (next + counted o) (length rest)
  count : length whole ≡ counted o + length rest

counts-step : (next : ℕ) (o : Option ℕ) (rest : List ℕ)
    → (elim o as (λ o. List ℕ) [ Some n ↦ n ∷ rest | None ↦ rest ]) ≡ range_with_len next (length (elim o as (λ o. List ℕ) [ Some n ↦ n ∷ rest | None ↦ rest ]))
    → Counts next o rest (elim o as (λ o. List ℕ) [ Some n ↦ n ∷ rest | None ↦ rest ])
counts-step next None rest e = record {
  first = tt;
  later = let same : next ≡ next + 0 = omega arith in e ∙ ap (λ k. range_with_len k (length rest)) same;
  count = omega arith;
}
counts-step next (Some d) rest e = record { first = ap (λ xs. get_or xs 0 0) e; later = ap (drop 1) e; count = omega arith }

pub behind-ascends : (n total next : ℕ) (earlier rest : List Lined) → 1 ≤ next → ((t : ℕ) → Below n (global_behind earlier t)) → AllByRecursion (λ l. NamesWithin n l.instr) rest
    → ((g : ℕ) → g < n → Ascends 1 next (definitions_of g earlier)) → is_straight_behind earlier rest ≡ true
    → numbers_in new_def rest ≡ range_with_len next (length (numbers_in new_def rest)) → next + length (numbers_in new_def rest) ≤ suc total
    → AllByRecursion (Ascends 1 (suc total)) (sets_behind earlier rest)
behind-ascends n total next earlier [] some below names h straight counts le = tt
behind-ascends n total next earlier (l ∷ rest) some below names h straight counts le =
    let plain = and_first (is_plain earlier l.instr) _ straight in
    let numbers = counts-step next (new_def l.instr) (numbers_in new_def rest) counts in
    let target = target-number earlier l.instr plain in
    let room : length (numbers_in new_def (l ∷ rest)) ≡ counted (new_def l.instr) + length (numbers_in new_def rest) = numbers.count in
    let within : next ≤ suc total = omega arith in
    let here = set-ascends n (suc total) earlier l.instr names.0 below (λ g less. ascends-higher 1 next (suc total) (definitions_of g earlier) within (h g less)) in
    let more : (g : ℕ) → g < n → Ascends 1 (next + counted (new_def l.instr)) (definitions_of g (l ∷ earlier))
    = λ g less.
    let one = written-ascends g next (target_of earlier l.instr) (definitions_of g earlier) some (h g less) (subst (λ o. IfSome o (λ d. d ≡ next)) target numbers.first) in
    subst (Ascends 1 (next + counted (new_def l.instr))) (sym (definitions-written g earlier l))
    (subst (λ o. Ascends 1 (next + counted o) (written g (target_of earlier l.instr) (definitions_of g earlier))) (sym target) one) in
    all_append (Ascends 1 (suc total)) (set_by earlier l.instr) _ here
    (behind-ascends n total (next + counted (new_def l.instr)) (l ∷ earlier) rest (omega arith) (λ t. below-behind n l.instr (global_behind earlier) t names.0 below) names.1
    more (and_second (is_plain earlier l.instr) _ straight) numbers.later (omega arith))
