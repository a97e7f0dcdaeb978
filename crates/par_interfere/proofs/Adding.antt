-- Tables whose rows are written one after the other.
use Rattle.std.proofs.Common.{◌≡◌, ℕ, zero, suc, ◌+◌, ◌<◌, ◌≤◌, Bool, true, false, List, [], ◌∷◌, length, get_or, set, replicate, refl, sym, ap, subst, ◌∙◌, arith, inl, inr, true≢false}
use Rattle.std.specs.Prelude.{◌||◌, ◌&&◌, slice_index_or}
use Rattle.std.proofs.lemmas.List.{get_or-set_same, get_or-set_other, length-set, length-replicate}
use Rattle.std.proofs.lemmas.List.Elements.{All-set, All-replicate}
use Rattle.dfi_base.specs.Bits.{has, joined}
use Rattle.dfi_base.proofs.RowLaws.{has_joined, length_joined, no_bits}
use Rattle.dfi_base.specs.declared.numbers.Point.{Point}
use Rattle.tac_ir.specs.declared.code.Code.{Code}
use Rattle.par_interfere.specs.tools.Calls.{AreCalls, AreRows, IsTable, in_table}
use Rattle.par_interfere.proofs.Closures.{below_or}
use Rattle.par_interfere.proofs.Listed.{item}
use Rattle.par_interfere.proofs.Joins.{row_long}

-- A row is added to those of the first rows that have a member.
pub record IsAddedTo (member : ℕ) (more : List Bool) (old : List (List Bool)) (at : ℕ) (now : List (List Bool)) : Type 0 where
  pub shape : IsTable (length more) now
  pub done : (f g : ℕ) → f < at → in_table now f g ≡ (in_table old f g || (in_table old f member && has more g))
  pub rest : (f g : ℕ) → at ≤ f → in_table now f g ≡ in_table old f g

with_true : (a b c : Bool) → b ≡ true → (a || c) ≡ (a || (b && c))
with_true a true c is = refl
with_true a false c is = absurd (true≢false (sym is))

with_false : (a b c : Bool) → b ≡ false → a ≡ (a || (b && c))
with_false true b c is = refl
with_false false true c is = absurd (true≢false is)
with_false false false c is = refl

-- one row is another
pub wide_set : (n w at : ℕ) (rows : List (List Bool)) (row : List Bool) → length row ≡ w → AreRows n w rows → AreRows n w (set rows at row)
wide_set n w at rows row long h = record { height = length-set rows at row ∙ h.height; wide = All-set (λ r. length r ≡ w) rows at row long h.wide }

module _ (member : ℕ) (more : List Bool) (old : List (List Bool)) (at : ℕ) (now new : List (List Bool)) (row : List Bool) where
  pub added_here : at < length now → row ≡ get_or now at row → has row member ≡ true → new ≡ set now at (joined row more) → IsAddedTo member more old at now → IsAddedTo member more old (at + 1) new
  added_here low is had made h = record {
    shape = subst (IsTable (length more)) (sym made) (wide_set (length more) (length more) at now (joined row more) (length_joined row more long ∙ long) h.shape);
    done = λ f g less. elim (below_or f at less) [
      | inl before ↦ off f g (omega (arith, before)) ∙ h.done f g before
      | inr same ↦
          ap (λ k. in_table new k g) same ∙ on g ∙ ap (λ b. b || has more g) (was g)
          ∙ with_true (in_table old at g) (in_table old at member) (has more g) (sym (was member) ∙ had)
          ∙ ap (λ k. in_table old k g || (in_table old k member && has more g)) (sym same)
    ];
    rest = λ f g behind. off f g (omega (arith, behind)) ∙ h.rest f g (omega (arith, behind));
  }
    where
      here : row ≡ slice_index_or now at []
      here = is ∙ item now at row [] low

      long : length row ≡ length more
      long = ap length here ∙ row_long (length more) (length more) now at h.shape (let height = h.shape.height in omega (arith, low, height))

      was : (g : ℕ) → has row g ≡ in_table old at g
      was g = ap (λ r. has r g) here ∙ h.rest at g (omega arith)

      on : (g : ℕ) → in_table new at g ≡ (has row g || has more g)
      on g = ap (λ t. in_table t at g) made ∙ ap (λ r. has r g) (get_or-set_same now at (joined row more) [] low) ∙ has_joined row more g long

      off : (f g : ℕ) → (f ≡ at → ⊥) → in_table new f g ≡ in_table now f g
      off f g other = ap (λ t. in_table t f g) made ∙ ap (λ r. has r g) (get_or-set_other now at f (joined row more) [] other)

  pub added_pass : at < length now → row ≡ get_or now at row → has row member ≡ false → new ≡ now → IsAddedTo member more old at now → IsAddedTo member more old (at + 1) new
  added_pass low is none same h = subst (IsAddedTo member more old (at + 1)) (sym same) (record {
    shape = h.shape;
    done = λ f g less. elim (below_or f at less) [
      | inl before ↦ h.done f g before
      | inr here ↦
          h.rest f g (omega (arith, here))
          ∙ with_false (in_table old f g) (in_table old f member) (has more g)
          (ap (λ k. in_table old k member) here ∙ sym (h.rest at member (omega arith)) ∙ ap (λ r. has r member) (sym (is ∙ item now at row [] low)) ∙ none)
    ];
    rest = λ f g behind. h.rest f g (omega (arith, behind));
  })

-- Tables without members.

pub table_none : (n w : ℕ) → AreRows n w (replicate n (replicate w false))
table_none n w = record { height = length-replicate n (replicate w false); wide = All-replicate (λ r. length r ≡ w) n (replicate w false) (length-replicate w false) }

none_in : (n w f g : ℕ) → in_table (replicate n (replicate w false)) f g ≡ false
none_in zero w zero zero = refl
none_in zero w zero (suc g) = refl
none_in zero w (suc f) zero = refl
none_in zero w (suc f) (suc g) = refl
none_in (suc n) w zero g = no_bits w g
none_in (suc n) w (suc f) g = none_in n w f g

pub no_calls : (c : Code) (points : List Point) (n w : ℕ) → AreCalls c points 0 (replicate n (replicate w false))
no_calls c points n w f g = (λ had. absurd (true≢false (sym had ∙ none_in n w f g)), λ h. absurd (let low = h.low in omega (arith, low)))

pub in_table_low : (t : List (List Bool)) (f g : ℕ) → in_table t f g ≡ true → f < length t
in_table_low [] f zero had = cc
in_table_low [] f (suc g) had = cc
in_table_low (x ∷ t) zero g had = omega arith
in_table_low (x ∷ t) (suc f) g had = (let low = in_table_low t f g had in omega (arith, low))
