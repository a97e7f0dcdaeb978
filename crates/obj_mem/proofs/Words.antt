-- The last write of a word, read from the end of a list.
use Rattle.std.proofs.Common.{◌≡◌, ℤ, List, [], ◌∷◌, ◌++◌, length, reverse, Option, Some, None, refl, sym, ap, ◌∙◌}
use Rattle.obj_mem.specs.declared.value.Obj.{Obj}
use Rattle.obj_mem.specs.declared.value.Value.{Value}
use Rattle.obj_mem.specs.declared.event.Stamp.{Stamp}
use Rattle.obj_mem.specs.Written.{written, last_value}
use Rattle.obj_mem.proofs.Back.{back, none_back}

found : (o : Option Value) (earlier : Option Value) (v : Value) → Some v ≡ o → (elim o [ Some w ↦ Some w | None ↦ earlier ]) ≡ Some v
found (Some w) earlier v is = sym is
found None earlier v is = cc

skipped : (o : Option Value) (earlier : Option Value) → None ≡ o → (elim o [ Some w ↦ Some w | None ↦ earlier ]) ≡ earlier
skipped (Some w) earlier is = cc
skipped None earlier is = refl

pub value_found : (o : Obj) (off : ℤ) (rest before : List Stamp) (s : Stamp) (v : Value) → rest ≡ before ++ s ∷ [] → Some v ≡ written o off s.event → last_value o off (reverse rest) ≡ Some v
unfolding last_value
value_found o off rest before s v split is = ap (last_value o off) (back rest before s split) ∙ found (written o off s.event) (last_value o off (reverse before)) v is

pub value_skipped : (o : Obj) (off : ℤ) (rest before : List Stamp) (s : Stamp) → rest ≡ before ++ s ∷ [] → None ≡ written o off s.event → last_value o off (reverse rest) ≡ last_value o off (reverse before)
unfolding last_value
value_skipped o off rest before s split is = ap (last_value o off) (back rest before s split) ∙ skipped (written o off s.event) (last_value o off (reverse before)) is

pub value_nowhere : (o : Obj) (off : ℤ) (rest : List Stamp) → length rest ≡ 0 → last_value o off (reverse rest) ≡ None
unfolding last_value
value_nowhere o off rest none = ap (last_value o off) (none_back rest none)
