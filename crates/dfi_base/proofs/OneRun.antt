-- Runs along the same names are the same, and so are those along the least names. (Exported.)
use Rattle.std.proofs.Common.{◌≡◌, ℕ, ◌<◌, List, [], ◌∷◌, length, map, refl, arith, subst, ◌⊎◌, inl, inr}
use Rattle.std.proofs.lemmas.Bool.{cases_eq}
use Rattle.dfi_base.specs.Lives.{Kind, IsNextIn, IsRunnableIn}
use Rattle.dfi_base.specs.Grown.{GoesOnIn, IsGrown, IsLeast}
use Rattle.dfi_base.specs.Alike.{IsDeterministic, FitsOnce}
use Rattle.dfi_base.proofs.OneLife.{next_one}

-- two numbers of which neither is less are one
neither : (v w : ℕ) → (v < w → ⊥) → (w < v → ⊥) → v ≡ w
neither v w a b = omega arith

module _ {E S W : Type 0} (k : Kind E S W) (Fits : List E → W → E → Type 0) (one : IsDeterministic k) (once : FitsOnce k Fits) (r : ℕ) (s0 : S) where
  -- one entry of a name goes on
  pub entry_one : (h : List E) (d e : E) → k.name_of d ≡ k.name_of e → GoesOnIn k Fits r s0 h d → GoesOnIn k Fits r s0 h e → d ≡ e
  entry_one h d e name a b =
      let next = subst (λ n. IsNextIn k r s0 h n a.start a.want) name a.next in
      let same = (next_one k one r s0 h (k.name_of e) a.start b.start a.want b.want next b.next).1 in
      once h b.want d e name (subst (λ w. Fits h w d) same a.fits) b.fits

  -- histories of the same names are the same
  pub along_one : (xs ys : List E) → map k.name_of xs ≡ map k.name_of ys → IsGrown k Fits r s0 xs → IsGrown k Fits r s0 ys → xs ≡ ys
  unfolding IsGrown
  along_one [] [] names gx gy = refl
  along_one [] (y ∷ ys) names gx gy = absurd (cc)
  along_one (x ∷ xs) [] names gx gy = absurd (cc)
  along_one (x ∷ xs) (y ∷ ys) names gx gy =
      let name : k.name_of x ≡ k.name_of y = cc in
      let rest : map k.name_of xs ≡ map k.name_of ys = cc in
      let tails = along_one xs ys rest gx.1 gy.1 in
      let heads = entry_one ys x y name (subst (λ h. GoesOnIn k Fits r s0 h x) tails gx.0) gy.0 in
      λ i. heads i ∷ tails i

  -- histories of one length along the least names are the same
  pub least_one : (xs ys : List E) → length xs ≡ length ys → IsGrown k Fits r s0 xs → IsGrown k Fits r s0 ys → IsLeast k r s0 xs → IsLeast k r s0 ys → xs ≡ ys
  unfolding IsGrown IsLeast
  least_one [] [] long gx gy lx ly = refl
  least_one [] (y ∷ ys) long gx gy lx ly = absurd (omega (arith, long))
  least_one (x ∷ xs) [] long gx gy lx ly = absurd (omega (arith, long))
  least_one (x ∷ xs) (y ∷ ys) long gx gy lx ly =
      let tails = least_one xs ys (omega (arith, long)) gx.1 gy.1 lx.1 ly.1 in
      let goes = subst (λ h. GoesOnIn k Fits r s0 h x) tails gx.0 in
      let least = subst (λ h. (n : ℕ) → n < k.name_of x → IsRunnableIn k r s0 h n → ⊥) tails lx.0 in
      let name = neither (k.name_of x) (k.name_of y) (λ l. ly.0 (k.name_of x) l (goes.start, goes.want, goes.next)) (λ l. least (k.name_of y) l (gy.0.start, gy.0.want, gy.0.next)) in
      let heads = entry_one ys x y name goes gy.0 in
      λ i. heads i ∷ tails i

  -- a longer one goes on from the shorter
  pub least_longer : (ys xs : List E) → length xs < length ys → IsGrown k Fits r s0 xs → IsGrown k Fits r s0 ys → IsLeast k r s0 xs → IsLeast k r s0 ys
      → (e : E) × GoesOnIn k Fits r s0 xs e
  unfolding IsGrown IsLeast
  least_longer [] xs short gx gy lx ly = absurd (omega (arith, short))
  least_longer (y ∷ ys) xs short gx gy lx ly = by (cases_eq (length ys) (length xs)) (least_longer ys xs)
    where
      by : (length ys ≡ length xs) ⊎ (length ys ≡ length xs → ⊥)
          → (length xs < length ys → IsGrown k Fits r s0 xs → IsGrown k Fits r s0 ys → IsLeast k r s0 xs → IsLeast k r s0 ys → (e : E) × GoesOnIn k Fits r s0 xs e)
          → (e : E) × GoesOnIn k Fits r s0 xs e
      by (inl same) earlier = (y, subst (λ h. GoesOnIn k Fits r s0 h y) (least_one ys xs same gy.1 gx ly.1 lx) gy.0)
      by (inr differ) earlier = earlier (omega (arith, short, differ)) gx gy.1 lx ly.1
