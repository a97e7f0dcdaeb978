-- Lives that are told by functions do one thing. (Exported.)
use Rattle.std.proofs.Common.{◌≡◌, Option, Some, sym, ◌∙◌}
use Rattle.dfi_base.specs.Told.{Does, Program, kind_of}
use Rattle.dfi_base.specs.Told.Does.{wants, ends}
use Rattle.dfi_base.specs.Alike.{IsDeterministic}

one_some : {A : Type 0} → (x : Option A) (a b : A) → x ≡ Some a → x ≡ Some b → a ≡ b
one_some x a b p q = let both : Some a ≡ Some b = sym p ∙ q in cc

one_want : {W : Type 0} → (x : Does W) (w v : W) → x ≡ wants w → x ≡ wants v → w ≡ v
one_want x w v p q = let both : wants w ≡ wants v = sym p ∙ q in cc

end_is_no_want : {W : Type 0} → (x : Does W) (w : W) → x ≡ ends → x ≡ wants w → ⊥
end_is_no_want x w p q = let both : ends ≡ wants w = sym p ∙ q in cc

pub told_one : {E S W : Type 0} → (p : Program E S W) → IsDeterministic (kind_of p)
told_one p = record {
  branch = λ s own n a b x y. one_some (p.branch s own n) a b x y;
  wants = λ s own w v x y. one_want (p.does s own) w v x y;
  ends = λ s own w x y. end_is_no_want (p.does s own) w x y;
}
