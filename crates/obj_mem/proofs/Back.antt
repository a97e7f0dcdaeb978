-- Lists that are read from their end.
use Rattle.std.proofs.Common.{◌≡◌, ℕ, suc, ◌<◌, List, [], ◌∷◌, ◌++◌, length, get_or, take, reverse, refl, ap, ◌∙◌, arith}
use Rattle.std.proofs.Math.Seq.{take-suc}
use Rattle.std.proofs.lemmas.List.{reverse-append}

pub back : {A : Type 0} (xs before : List A) (x : A) → xs ≡ before ++ x ∷ [] → reverse xs ≡ x ∷ reverse before
back xs before x split = ap reverse split ∙ reverse-append before (x ∷ [])

pub none_back : {A : Type 0} (xs : List A) → length xs ≡ 0 → reverse xs ≡ []
none_back [] none = refl
none_back (x ∷ xs) none = absurd (omega (arith, none))

pub onward : {A : Type 0} (xs : List A) (i : ℕ) (d : A) → i < length xs → reverse (take (suc i) xs) ≡ get_or xs i d ∷ reverse (take i xs)
onward xs i d less = ap reverse (take-suc xs i d less) ∙ reverse-append (take i xs) (get_or xs i d ∷ [])
