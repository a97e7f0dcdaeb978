-- Where each read allows each definition, all definitions share a class.
use Rattle.std.proofs.Common.{◌≡◌, ℕ, zero, suc, ◌+◌, ◌<◌, ◌≤◌, true, false, cond, not, ◌||◌, List, [], ◌∷◌, ◌++◌, map, fold, replicate, inl, inr, refl, ap, subst, ◌∙◌, arith}
use Rattle.std.specs.Prelude.{nat_eq}
use Rattle.std.specs.List.{AllByRecursion, range_with_len}
use Rattle.std.proofs.lemmas.Bool.{cases_eq, eq-eqb, or_left, or_right}
use Rattle.tac_ir.specs.Answers.{has}
use Rattle.first_module.specs.ClassesOf.{classes_of, readers_from, readers_of, same_list}
use Rattle.first_module.specs.EachOnce.{each_once, place_of, with_member}
use Rattle.first_module.specs.tools.Readers.{Ascends}
use Rattle.first_module.proofs.NumberLemmas.{same_itself}

pub ascends-range : (a n high : ℕ) → a + n ≡ high → Ascends a high (range_with_len a n)
ascends-range a zero high e = tt
ascends-range a (suc n) high e =
    let next : a + 1 ≡ suc a = omega arith in
    (omega arith, omega arith, subst (λ k. Ascends k high (range_with_len (a + 1) n)) next (ascends-range (a + 1) n high (omega arith)))

pub every-ascends : (low high k : ℕ) (set : List ℕ) → Ascends low high set → AllByRecursion (Ascends low high) (replicate k set)
every-ascends low high zero set h = tt
every-ascends low high (suc k) set h = (h, every-ascends low high k set h)

has-range : (a n d : ℕ) → a ≤ d → d < a + n → has (range_with_len a n) d ≡ true
has-range a zero d low high = absurd (omega arith)
has-range a (suc n) d low high =
    elim (cases_eq a d) [
      | inl same ↦ or_left (nat_eq a d) _ (eq-eqb a d same)
      | inr other ↦ or_right (nat_eq a d) _ (has-range (a + 1) n d (omega arith) (omega arith))
    ]

readers-every : (set : List ℕ) (d : ℕ) → has set d ≡ true → (k r : ℕ) → readers_from r (replicate k set) d ≡ range_with_len r k
readers-every set d member zero r = refl
readers-every set d member (suc k) r =
    let one : suc r ≡ r + 1 = omega arith in
    ap (λ b. elim b as (λ b. List ℕ) [ true ↦ r ∷ readers_from (suc r) (replicate k set) d | false ↦ readers_from (suc r) (replicate k set) d ]) member
    ∙ ap (λ xs. r ∷ xs) (readers-every set d member k (suc r) ∙ ap (λ a. range_with_len a k) one)

map-constant : {X : Type 0} (f : ℕ → X) (x : X) (a n : ℕ) → ((d : ℕ) → a ≤ d → d < a + n → f d ≡ x) → map f (range_with_len a n) ≡ replicate n x
map-constant f x a zero h = refl
map-constant f x a (suc n) h = λ i. h a (omega arith) (omega arith) i ∷ map-constant f x (a + 1) n (λ d low high. h d (omega arith) (omega arith)) i

map-replicate : {X Y : Type 0} (f : X → Y) (n : ℕ) (x : X) → map f (replicate n x) ≡ replicate n (f x)
map-replicate f zero x = refl
map-replicate f (suc n) x = ap (λ ys. f x ∷ ys) (map-replicate f n x)

fold-same : (row : List ℕ) (n : ℕ) → fold (with_member same_list) (row ∷ []) (replicate n row) ≡ row ∷ []
fold-same row zero = refl
fold-same row (suc n) = ap (λ b. fold (with_member same_list) (cond (b || false) (row ∷ []) (row ∷ row ∷ [])) (replicate n row)) (same_itself row) ∙ fold-same row n

once-same : (row : List ℕ) (n : ℕ) → each_once same_list (replicate (suc n) row) ≡ row ∷ []
once-same row n = fold-same row n

number-same : (row : List ℕ) (n : ℕ) → suc (place_of same_list (each_once same_list (replicate (suc n) row)) row) ≡ 1
number-same row n =
    ap (λ ks. suc (place_of same_list ks row)) (once-same row n)
    ∙ ap (λ b. suc (cond (not b) (1 + 0) 0)) (same_itself row)

rows-one : (row : List ℕ) (n : ℕ) → map (λ r. suc (place_of same_list (each_once same_list (replicate n row)) r)) (replicate n row) ≡ replicate n 1
rows-one row zero = refl
rows-one row (suc n) = map-replicate (λ r. suc (place_of same_list (each_once same_list (replicate (suc n) row)) r)) (suc n) row ∙ ap (λ k. replicate (suc n) k) (number-same row n)

pub classes-every : (k n : ℕ) → classes_of (replicate k (range_with_len 1 n)) n ≡ replicate n 1
classes-every k n =
    let rows : map (readers_of (replicate k (range_with_len 1 n))) (range_with_len 1 n) ≡ replicate n (range_with_len 1 k)
    = map-constant _ (range_with_len 1 k) 1 n (λ d low high. readers-every (range_with_len 1 n) d (has-range 1 n d low high) k 1) in
    ap (λ rows. map (λ row. suc (place_of same_list (each_once same_list rows) row)) rows) rows ∙ rows-one (range_with_len 1 k) n

-- one number more
pub range-push : (a n : ℕ) → range_with_len a n ++ (a + n) ∷ [] ≡ range_with_len a (n + 1)
range-push a zero = let same : a + 0 ≡ a = omega arith in ap (λ k. k ∷ []) same
range-push a (suc n) =
    let last : a + suc n ≡ (a + 1) + n = omega arith in
    let long : suc (n + 1) ≡ suc n + 1 = omega arith in
    ap (λ k. a ∷ (range_with_len (a + 1) n ++ k ∷ [])) last ∙ ap (λ xs. a ∷ xs) (range-push (a + 1) n) ∙ ap (range_with_len a) long
