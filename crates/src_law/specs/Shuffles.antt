-- Shuffles of two lists: each keeps its order.
use Rattle.std.specs.Prelude.{List, [], ◌∷◌}

pub data IsShuffle {A : Type 0} : List A → List A → List A → Type 0 where
  both_end : IsShuffle [] [] []
  left_first : (x : A) (xs ys zs : List A) → IsShuffle xs ys zs → IsShuffle (x ∷ xs) ys (x ∷ zs)
  right_first : (y : A) (xs ys zs : List A) → IsShuffle xs ys zs → IsShuffle xs (y ∷ ys) (y ∷ zs)
