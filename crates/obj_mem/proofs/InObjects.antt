-- Operations keep pointers within their objects.
use Rattle.std.proofs.Common.{◌≡◌, ℕ, ◌+◌, ◌≤◌, ℤ, pos, negsuc, ◌+ℤ◌, ◌*ℤ◌, Bool, true, false, ◌&&◌, Some, None, refl, sym, subst, true≢false, arith}
use Rattle.std.specs.Prelude.{int_le}
use Rattle.std.specs.Option.{option_map}
use Rattle.std.proofs.lemmas.Bool.{and_parts, leb-true}
use Rattle.obj_mem.specs.declared.value.Obj.{Obj}
use Rattle.obj_mem.specs.declared.value.Value.{Value}
use Rattle.obj_mem.specs.Objects.{whole_of}
use Rattle.obj_mem.specs.Values.{has_room, part_of, items_of, moved}
use Rattle.obj_mem.specs.Inside.{LiesIn, IsInside}

pub whole_inside : (o : Obj) → IsInside (whole_of o)
whole_inside o = record { at = 0; low = 0; high = o.len; off_is = refl; lo_is = refl; hi_is = refl; from_low = omega arith; to_high = omega arith; in_object = omega arith }

-- of an offset and bounds that are numbers of words, what holds of these numbers
on_numbers : (P : ℤ → ℤ → ℤ → Type 0) (o : Obj) (off lo hi : ℤ) (i : LiesIn o off lo hi) → P (pos i.at) (pos i.low) (pos i.high) → P off lo hi
on_numbers P o off lo hi i holds =
    subst (λ (x : ℤ). P x lo hi) (sym i.off_is) (subst (λ (y : ℤ). P (pos i.at) y hi) (sym i.lo_is) (subst (λ (z : ℤ). P (pos i.at) (pos i.low) z) (sym i.hi_is) holds))

-- a part of an object, so many words behind an offset that has room for it
part_lies : (o : Obj) (off lo hi : ℤ) (whole before words : ℕ) → before + words ≤ whole → LiesIn o off lo hi → has_room off whole lo hi ≡ true
    → LiesIn o (off +ℤ pos before) (off +ℤ pos before) (off +ℤ pos (before + words))
part_lies o off lo hi whole before words part inside = on_numbers
    (λ x y z. has_room x whole y z ≡ true → LiesIn o (x +ℤ pos before) (x +ℤ pos before) (x +ℤ pos (before + words))) o off lo hi inside
    (λ room.
    let ends : inside.at + whole ≤ inside.high = leb-true (inside.at + whole) inside.high (and_parts (int_le (pos inside.low) (pos inside.at)) (int_le (pos (inside.at + whole)) (pos inside.high)) room).1 in
    let within_object = inside.in_object in
    record {
      at = inside.at + before;
      low = inside.at + before;
      high = inside.at + (before + words);
      off_is = refl;
      lo_is = refl;
      hi_is = refl;
      from_low = omega arith;
      to_high = omega arith;
      in_object = omega (arith, ends, within_object, part);
    })

items_lie : (o : Obj) (off lo hi : ℤ) (words : ℕ) → LiesIn o off lo hi → has_room off words lo hi ≡ true → LiesIn o off off (off +ℤ pos words)
items_lie o off lo hi words inside = on_numbers
    (λ x y z. has_room x words y z ≡ true → LiesIn o x x (x +ℤ pos words)) o off lo hi inside
    (λ room.
    let ends : inside.at + words ≤ inside.high = leb-true (inside.at + words) inside.high (and_parts (int_le (pos inside.low) (pos inside.at)) (int_le (pos (inside.at + words)) (pos inside.high)) room).1 in
    let within_object = inside.in_object in
    record {
      at = inside.at;
      low = inside.at;
      high = inside.at + words;
      off_is = refl;
      lo_is = refl;
      hi_is = refl;
      from_low = omega arith;
      to_high = omega arith;
      in_object = omega (arith, ends, within_object);
    })

between : (o : Obj) (low high : ℕ) (z : ℤ) → high ≤ o.len → (int_le (pos low) z && int_le z (pos high)) ≡ true → LiesIn o z (pos low) (pos high)
between o low high (pos at) in_object both =
    let parts = and_parts (int_le (pos low) (pos at)) (int_le (pos at) (pos high)) both in
    record {
      at = at;
      low = low;
      high = high;
      off_is = refl;
      lo_is = refl;
      hi_is = refl;
      from_low = leb-true low at parts.0;
      to_high = leb-true at high parts.1;
      in_object = in_object;
    }
between o low high (negsuc n) in_object both = absurd (true≢false (sym both))

moved_lies : (o : Obj) (off lo hi by : ℤ) → LiesIn o off lo hi → (int_le lo (off +ℤ by) && int_le (off +ℤ by) hi) ≡ true → LiesIn o (off +ℤ by) lo hi
moved_lies o off lo hi by inside = on_numbers
    (λ x y z. (int_le y (x +ℤ by) && int_le (x +ℤ by) z) ≡ true → LiesIn o (x +ℤ by) y z) o off lo hi inside
    (between o inside.low inside.high (pos inside.at +ℤ by) inside.in_object)

the_same : (p q : Value) → IsInside p → Some p ≡ Some q → IsInside q
the_same p q inside is = (let same : p ≡ q = cc in subst IsInside same inside)

pub part_inside : (whole before words : ℕ) (p q : Value) → before + words ≤ whole → IsInside p → part_of whole before words p ≡ Some q → IsInside q
part_inside whole before words (Value.Ptr o off lo hi) q part inside is = by (has_room off whole lo hi) refl is
  where
    by : (b : Bool) → has_room off whole lo hi ≡ b
        → elim b [ true ↦ Some (Value.Ptr o (off +ℤ pos before) (off +ℤ pos before) (off +ℤ pos (before + words))) | false ↦ None ] ≡ Some q → IsInside q
    by true room is = the_same (Value.Ptr o (off +ℤ pos before) (off +ℤ pos before) (off +ℤ pos (before + words))) q (part_lies o off lo hi whole before words part inside room) is
    by false room is = cc
part_inside whole before words p q part inside is = cc

pub items_inside : (words : ℕ) (p q : Value) → IsInside p → items_of words p ≡ Some q → IsInside q
items_inside words (Value.Ptr o off lo hi) q inside is = by (has_room off words lo hi) refl is
  where
    by : (b : Bool) → has_room off words lo hi ≡ b → elim b [ true ↦ Some (Value.Ptr o off off (off +ℤ pos words)) | false ↦ None ] ≡ Some q → IsInside q
    by true room is = the_same (Value.Ptr o off off (off +ℤ pos words)) q (items_lie o off lo hi words inside room) is
    by false room is = cc
items_inside words p q inside is = cc

pub moved_inside : (words : ℕ) (i p q : Value) → IsInside p → moved words i p ≡ Some q → IsInside q
moved_inside words (Value.Int items) (Value.Ptr o off lo hi) q inside is = by (int_le lo (off +ℤ (items *ℤ pos words)) && int_le (off +ℤ (items *ℤ pos words)) hi) refl is
  where
    by : (b : Bool) → (int_le lo (off +ℤ (items *ℤ pos words)) && int_le (off +ℤ (items *ℤ pos words)) hi) ≡ b
        → option_map (λ z. Value.Ptr o z lo hi) (elim b [ true ↦ Some (off +ℤ (items *ℤ pos words)) | false ↦ None ]) ≡ Some q → IsInside q
    by true holds is = the_same (Value.Ptr o (off +ℤ (items *ℤ pos words)) lo hi) q (moved_lies o off lo hi (items *ℤ pos words) inside holds) is
    by false holds is = cc
moved_inside words i p q inside is = cc
