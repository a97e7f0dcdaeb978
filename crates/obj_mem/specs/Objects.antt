-- Objects: which are the same, and the pointer to a whole one.
use Rattle.std.specs.Prelude.{pos, Bool, nat_eq, ◌&&◌}
use Rattle.obj_mem.specs.declared.Maker.{Maker}
use Rattle.obj_mem.specs.declared.value.Obj.{Obj}
use Rattle.obj_mem.specs.declared.value.Value.{Value}

abbrev pub same_maker : Maker → Maker → Bool
same_maker a b = nat_eq a.thread.0 b.thread.0 && nat_eq a.count b.count

abbrev pub same_obj : Obj → Obj → Bool
same_obj a b = nat_eq a.site b.site && same_maker a.maker b.maker && nat_eq a.len b.len

-- the pointer to the first word, with all words as its bounds
abbrev pub whole_of : Obj → Value
whole_of o = Value.Ptr o (pos 0) (pos 0) (pos o.len)

-- whose globals are, and whose variables of main are: no event makes them
abbrev pub of_program : Maker
of_program = record { thread = record { 0 = 0 }; count = 0 }

abbrev pub of_main : Maker
of_main = record { thread = record { 0 = 1 }; count = 0 }
