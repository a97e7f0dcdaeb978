-- Every typed program is well-formed.
use Rattle.c_typed.specs.Typed.{Typed}
use Rattle.c_typed.specs.Checks.{IsTyped}
use Rattle.c_typed.specs.IsWell.{IsWell}

abbrev pub TypedIsWell : Type 0
TypedIsWell = (t : Typed) → IsTyped t → IsWell t
