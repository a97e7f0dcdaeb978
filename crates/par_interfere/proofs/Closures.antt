-- Adding to each row those of its members, one member after the other, closes a table under chains.
use Rattle.std.proofs.Common.{◌≡◌, ℕ, zero, suc, ◌+◌, ◌<◌, ◌⊎◌, inl, inr, Bool, true, List, refl, sym, ap, ◌∙◌, arith}
use Rattle.std.specs.Prelude.{◌||◌, ◌&&◌}
use Rattle.par_interfere.specs.tools.Calls.{in_table}
use Rattle.par_interfere.specs.tools.Closing.{Leads, IsClosure}
use Rattle.par_interfere.specs.tools.Closing.Leads.{one, more}
use Rattle.par_interfere.proofs.Listed.{either, or_first, or_second, and_parts, and_whole}

-- closed under chains over the first members
pub record IsClosedTo (n : ℕ) (old new : List (List Bool)) : Type 0 where
  pub first : (f g : ℕ) → in_table old f g ≡ true → in_table new f g ≡ true
  pub sound : (f g : ℕ) → in_table new f g ≡ true → Leads old f g
  pub chained : (f m g : ℕ) → m < n → in_table new f m ≡ true → in_table new m g ≡ true → in_table new f g ≡ true

pub closed_first : (t : List (List Bool)) → IsClosedTo 0 t t
closed_first t = record { first = λ f g h. h; sound = λ f g h. one g h; chained = λ f m g low. absurd (omega (arith, low)) }

-- chains join
pub joined : (t : List (List Bool)) (f g h : ℕ) → Leads t f g → Leads t g h → Leads t f h
joined t f g h left (one h2 step) = more g h left step
joined t f g h left (more k h2 right step) = more k h (joined t f g k left right) step

-- a row of a member is added to each row that has it
abbrev pub AddsMember : ℕ → List (List Bool) → List (List Bool) → Type 0
AddsMember m old new = (f g : ℕ) → in_table new f g ≡ (in_table old f g || (in_table old f m && in_table old m g))

pub below_or : (m n : ℕ) → m < n + 1 → (m < n) ⊎ (m ≡ n)
below_or zero zero low = inr refl
below_or zero (suc n) low = inl (omega arith)
below_or (suc m) zero low = absurd (omega (arith, low))
below_or (suc m) (suc n) low = elim (below_or m n (omega (arith, low))) [ inl less ↦ inl (omega (arith, less)) | inr same ↦ inr (ap suc same) ]

pub closed_more : (n : ℕ) (first old new : List (List Bool)) → IsClosedTo n first old → AddsMember n old new → IsClosedTo (n + 1) first new
closed_more n first old new h adds = record {
  first = λ f g is. keep f g (h.first f g is);
  sound = λ f g is. elim (parts f g is) [ inl was ↦ h.sound f g was | inr two ↦ joined first f n g (h.sound f n two.0) (h.sound n g two.1) ];
  chained = λ f m g low left right. elim (below_or m n low) [ inl less ↦ through f m g less left right | inr same ↦ at_new f m g same left right ];
}
  where
    keep : (f g : ℕ) → in_table old f g ≡ true → in_table new f g ≡ true
    keep f g is = adds f g ∙ or_first (in_table old f g) (in_table old f n && in_table old n g) is

    over : (f g : ℕ) → in_table old f n ≡ true → in_table old n g ≡ true → in_table new f g ≡ true
    over f g left right = adds f g ∙ or_second (in_table old f g) (in_table old f n && in_table old n g) (and_whole (in_table old f n) (in_table old n g) left right)

    parts : (f g : ℕ) → in_table new f g ≡ true → (in_table old f g ≡ true) ⊎ ((in_table old f n ≡ true) × (in_table old n g ≡ true))
    parts f g is = elim (either (in_table old f g) (in_table old f n && in_table old n g) (sym (adds f g) ∙ is)) [
      | inl was ↦ inl was
      | inr both ↦ inr (and_parts (in_table old f n) (in_table old n g) both)
    ]

    through : (f m g : ℕ) → m < n → in_table new f m ≡ true → in_table new m g ≡ true → in_table new f g ≡ true
    through f m g less left right = elim (parts f m left) [
      | inl fm ↦ elim (parts m g right) [
        | inl mg ↦ keep f g (h.chained f m g less fm mg)
        | inr two ↦ over f g (h.chained f m n less fm two.0) two.1
      ]
      | inr fnm ↦ elim (parts m g right) [
        | inl mg ↦ over f g fnm.0 (h.chained n m g less fnm.1 mg)
        | inr two ↦ over f g fnm.0 two.1
      ]
    ]

    at_new : (f m g : ℕ) → m ≡ n → in_table new f m ≡ true → in_table new m g ≡ true → in_table new f g ≡ true
    at_new f m g same left right =
        let fn : in_table old f n ≡ true = elim (parts f n (ap (in_table new f) (sym same) ∙ left)) [ inl was ↦ was | inr two ↦ two.0 ] in
        let ng : in_table old n g ≡ true = elim (parts n g (ap (λ k. in_table new k g) (sym same) ∙ right)) [ inl was ↦ was | inr two ↦ two.1 ] in
        over f g fn ng

-- a table that is closed over all members that it has is closed
pub closed_all : (n : ℕ) (old new : List (List Bool)) → IsClosedTo n old new → ((f g : ℕ) → in_table old f g ≡ true → f < n) → IsClosure old new
closed_all n old new h bound = record { sound = h.sound; whole = whole }
  where
    whole : (f g : ℕ) → Leads old f g → in_table new f g ≡ true
    whole f g (one g2 is) = h.first f g is
    whole f g (more k g2 left is) = h.chained f k g (bound k g is) (whole f k left) (h.first k g is)
