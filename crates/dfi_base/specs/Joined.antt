-- The history of one branch, joined into that of its parent.
use Rattle.std.specs.Prelude.{ℕ, List, [], ◌∷◌}
use Rattle.dfi_base.specs.Lives.{Kind}
use Rattle.dfi_base.specs.Names.{Below, IsApart}

-- The first history is the second, which goes on behind the entries of tail, with the third between its newer entries, both in their
-- order. Each of the third is by thread q or one below it, and each of the second's newer ones by a thread apart from q.
pub data IsJoined {E S W : Type 0} (k : Kind E S W) (q : ℕ) (tail : List E) : List E → List E → List E → Type 0 where
  forked : IsJoined k q tail tail tail []
  child : (e : E) (whole rest part : List E) → Below q (k.name_of e) → IsJoined k q tail whole rest part → IsJoined k q tail (e ∷ whole) rest (e ∷ part)
  other : (e : E) (whole rest part : List E) → IsApart q (k.name_of e) → IsJoined k q tail whole rest part → IsJoined k q tail (e ∷ whole) (e ∷ rest) part
