-- Lists that are split, and shuffles of them.
use Rattle.std.proofs.Common.{◌≡◌, List, [], ◌∷◌, ◌++◌, refl, sym, ap, ◌∙◌, ◌⊎◌, inl, inr}
use Rattle.src_law.specs.Shuffles.{IsShuffle, both_end, left_first, right_first}

-- a list that is split in two ways
pub record Within {A : Type 0} (s u : List A) : Type 0 where
  pub rest : List A
  pub is : u ≡ s ++ rest

pub record Beyond {A : Type 0} (s t u v : List A) : Type 0 where
  pub rest : List A
  pub front : s ≡ u ++ rest
  pub back : v ≡ rest ++ t

head_of : {A : Type 0} (x y : A) (xs ys : List A) → x ∷ xs ≡ y ∷ ys → x ≡ y
head_of x y xs ys same = cc

tail_of : {A : Type 0} (x y : A) (xs ys : List A) → x ∷ xs ≡ y ∷ ys → xs ≡ ys
tail_of x y xs ys same = cc

pub two_splits : {A : Type 0} (s t u v : List A) → s ++ t ≡ u ++ v → Within s u ⊎ Beyond s t u v
two_splits [] t u v same = inl (record { rest = u; is = refl })
two_splits (x ∷ s) t [] v same = inr (record { rest = x ∷ s; front = refl; back = sym same })
two_splits (x ∷ s) t (y ∷ u) v same = by (two_splits s t u v (tail_of x y (s ++ t) (u ++ v) same))
  where
    by : Within s u ⊎ Beyond s t u v → Within (x ∷ s) (y ∷ u) ⊎ Beyond (x ∷ s) t (y ∷ u) v
    by (inl w) = inl (record { rest = w.rest; is = ap (λ z. z ∷ u) (sym (head_of x y (s ++ t) (u ++ v) same)) ∙ ap (λ zs. x ∷ zs) w.is })
    by (inr w) = inr (record { rest = w.rest; front = ap (λ z. z ∷ s) (head_of x y (s ++ t) (u ++ v) same) ∙ ap (λ zs. y ∷ zs) w.front; back = w.back })

-- what comes first in a shuffle is one of what comes first in both lists
pub record HasFronts {A : Type 0} (s t u : List A) : Type 0 where
  pub left : List A
  pub right : List A
  pub of_left : Within left s
  pub of_right : Within right t
  pub shuffle : IsShuffle left right u

pub fronts : {A : Type 0} (s t w u rest : List A) → IsShuffle s t w → w ≡ u ++ rest → HasFronts s t u
fronts s t w [] rest shuffle split = record { left = []; right = []; of_left = record { rest = s; is = refl }; of_right = record { rest = t; is = refl }; shuffle = both_end }
fronts s t w (x ∷ u) rest both_end split = cc
fronts s t w (x ∷ u) rest (left_first y xs ys zs more) split =
    let before = fronts xs ys zs u rest more (tail_of y x zs (u ++ rest) split) in
    let same : y ≡ x = head_of y x zs (u ++ rest) split in
    record {
      left = x ∷ before.left;
      right = before.right;
      of_left = record { rest = before.of_left.rest; is = ap (λ z. z ∷ xs) same ∙ ap (λ l. x ∷ l) before.of_left.is };
      of_right = before.of_right;
      shuffle = left_first x before.left before.right u before.shuffle;
    }
fronts s t w (x ∷ u) rest (right_first y xs ys zs more) split =
    let before = fronts xs ys zs u rest more (tail_of y x zs (u ++ rest) split) in
    let same : y ≡ x = head_of y x zs (u ++ rest) split in
    record {
      left = before.left;
      right = x ∷ before.right;
      of_left = before.of_left;
      of_right = record { rest = before.of_right.rest; is = ap (λ z. z ∷ ys) same ∙ ap (λ l. x ∷ l) before.of_right.is };
      shuffle = right_first x before.left before.right u before.shuffle;
    }
