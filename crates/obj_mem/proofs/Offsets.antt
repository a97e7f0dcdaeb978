-- Offsets that are passed on as 64 bits.
use Rattle.std.proofs.Common.{◌≡◌, ℕ, ◌+◌, ◌≤◌, ℤ, pos, ◌+ℤ◌, Bool, true, false, Some, None, sym, ap, ◌∙◌, arith, FitsSigned, to_z, of_z}
use Rattle.std.proofs.lemmas.Int.{to_z-of_z, ints}
use Rattle.std.proofs.lemmas.Bool.{and_parts}
use Rattle.std.specs.Prelude.{int_le}
use mir.Syntax.{w64}
use Rattle.obj_mem.specs.declared.value.Obj.{Obj}
use Rattle.obj_mem.specs.declared.value.Value.{Value}
use Rattle.obj_mem.specs.Values.{has_room, part_of}

-- an offset that is moved, but not beyond what lies within the bounds
shifted_fits : (off hi : ℤ) (n whole : ℕ) → FitsSigned w64 off → FitsSigned w64 hi → int_le (off +ℤ pos whole) hi ≡ true → n ≤ whole → FitsSigned w64 (off +ℤ pos n)
shifted_fits off hi n whole fits_off fits_hi below part = grind (arith, ints)

shifted : (off from : ℤ) (n : ℕ) → FitsSigned w64 off → from ≡ pos n → FitsSigned w64 (pos n) → FitsSigned w64 (off +ℤ pos n)
    → to_z w64 (of_z w64 (to_z w64 (of_z w64 off) +ℤ to_z w64 (of_z w64 from))) ≡ off +ℤ pos n
shifted off from n fits_off is fits_n fits =
    (λ i. to_z w64 (of_z w64 (to_z-of_z w64 off fits_off i +ℤ to_z w64 (of_z w64 (is i))))) ∙ (ap (λ k. to_z w64 (of_z w64 (off +ℤ k))) (to_z-of_z w64 (pos n) fits_n) ∙ to_z-of_z w64 (off +ℤ pos n) fits)

pub part_at : (v : Value) (o : Obj) (off lo hi from more : ℤ) (whole before words : ℕ) (room : Bool) → v ≡ Value.Ptr o off lo hi → FitsSigned w64 off → FitsSigned w64 lo → FitsSigned w64 hi → FitsSigned w64 (pos before) → FitsSigned w64 (pos (before + words))
    → room ≡ has_room (to_z w64 (of_z w64 off)) whole (to_z w64 (of_z w64 lo)) (to_z w64 (of_z w64 hi)) → room ≡ true
    → before + words ≤ whole → from ≡ pos before → more ≡ pos (before + words)
    → Some (Value.Ptr o (to_z w64 (of_z w64 (to_z w64 (of_z w64 off) +ℤ to_z w64 (of_z w64 from)))) (to_z w64 (of_z w64 (to_z w64 (of_z w64 off) +ℤ to_z w64 (of_z w64 from))))
    (to_z w64 (of_z w64 (to_z w64 (of_z w64 off) +ℤ to_z w64 (of_z w64 more))))) ≡ part_of whole before words v
part_at v o off lo hi from more whole before words room is fits_off fits_lo fits_hi fits_before fits_more tested holds part from_is more_is =
    let same : has_room (to_z w64 (of_z w64 off)) whole (to_z w64 (of_z w64 lo)) (to_z w64 (of_z w64 hi)) ≡ has_room off whole lo hi =
    (λ i. has_room (to_z-of_z w64 off fits_off i) whole (to_z-of_z w64 lo fits_lo i) (to_z-of_z w64 hi fits_hi i)) in
    let there : has_room off whole lo hi ≡ true = sym same ∙ (sym tested ∙ holds) in
    let bounds = and_parts (int_le lo off) (int_le (off +ℤ pos whole) hi) there in
    let first : to_z w64 (of_z w64 (to_z w64 (of_z w64 off) +ℤ to_z w64 (of_z w64 from))) ≡ off +ℤ pos before = shifted off from before fits_off from_is fits_before (shifted_fits off hi before whole fits_off fits_hi bounds.1 (omega (arith, part))) in
    let last : to_z w64 (of_z w64 (to_z w64 (of_z w64 off) +ℤ to_z w64 (of_z w64 more))) ≡ off +ℤ pos (before + words) = shifted off more (before + words) fits_off more_is fits_more (shifted_fits off hi (before + words) whole fits_off fits_hi bounds.1 part) in
    (λ i. Some (Value.Ptr o (first i) (first i) (last i)))
    ∙ (ap (λ b. elim b [ true ↦ Some (Value.Ptr o (off +ℤ pos before) (off +ℤ pos before) (off +ℤ pos (before + words))) | false ↦ None ]) (sym there) ∙ ap (part_of whole before words) (sym is))
