-- Pointers whose bounds lie in their object.
use Rattle.std.specs.Prelude.{◌≡◌, ℕ, ◌+◌, ◌≤◌, ℤ, pos, Some}
use Rattle.obj_mem.specs.declared.value.Obj.{Obj}
use Rattle.obj_mem.specs.declared.value.Value.{Value}
use Rattle.obj_mem.specs.Objects.{whole_of}
use Rattle.obj_mem.specs.Values.{part_of, items_of, moved}

-- the offset is a number of words between two bounds in the object
pub record LiesIn (o : Obj) (off lo hi : ℤ) : Type 0 where
  pub at : ℕ
  pub low : ℕ
  pub high : ℕ
  pub off_is : off ≡ pos at
  pub lo_is : lo ≡ pos low
  pub hi_is : hi ≡ pos high
  pub from_low : low ≤ at
  pub to_high : at ≤ high
  pub in_object : high ≤ o.len

abbrev pub IsInside : Value → Type 0
IsInside (Value.Ptr o off lo hi) = LiesIn o off lo hi
IsInside v = Unit {0}

abbrev pub WholesAreInside : Type 0
WholesAreInside = (o : Obj) → IsInside (whole_of o)

-- a part of a struct, the items of an array, and a moved pointer, of a pointer that is inside
abbrev pub PartsAreInside : Type 0
PartsAreInside = (whole before words : ℕ) (p q : Value) → before + words ≤ whole → IsInside p → part_of whole before words p ≡ Some q → IsInside q

abbrev pub ItemsAreInside : Type 0
ItemsAreInside = (words : ℕ) (p q : Value) → IsInside p → items_of words p ≡ Some q → IsInside q

abbrev pub MovedIsInside : Type 0
MovedIsInside = (words : ℕ) (i p q : Value) → IsInside p → moved words i p ≡ Some q → IsInside q
