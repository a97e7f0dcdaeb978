-- What a declaration and a type name begin with. Behind a pointer a tag may be that of any struct of the text; by value the struct
-- stands before, whole.
use Rattle.std.specs.Prelude.{ℕ, Bool, true, false, nat_eq, nat_lt, length, Option, Some, None}
use Rattle.c_ast.specs.declared.ident.Ident.{Ident}
use Rattle.c_ast.specs.declared.decl.Base.{Base}
use Rattle.c_ast.specs.declared.decl.TypeName.{TypeName}
use Rattle.c_typed.specs.declared.types.ObjectType.{ObjectType}
use Rattle.c_typed.specs.Types.{place_of, named_type}
use Rattle.c_typed.specs.Marks.{History, has_tag}
use Rattle.c_typed.specs.Whole.{Whole}
use Rattle.c_typed.specs.Faults.{unknown}
use Rattle.c_typed.specs.Parts.{Part, tokens, obeys, ◌⊗>◌, ◌<$>◌}

abbrev pub is_tag : Whole → History → Bool → ℕ → Bool
is_tag w h by_value x = elim by_value [ true ↦ has_tag x h | false ↦ nat_lt (place_of x w.tags) (length w.tags) ]

abbrev pub known_tag : Whole → Bool → Ident → History → Unit {0} → Option (Unit {0})
known_tag w by_value tag h u = elim (is_tag w h by_value tag.name) [ true ↦ Some u | false ↦ None ]

abbrev pub base : Whole → Bool → Base → Part (Unit {0})
base w by_value (Base.Int line) = tokens 1
base w by_value (Base.Struct line tag) = tokens 1 ⊗> obeys unknown tag.line (known_tag w by_value tag) (tokens 1)

abbrev pub type_name : Whole → TypeName → Part ObjectType
type_name w t = (λ _. named_type w.tags t) <$> (base w (nat_eq t.stars 0) t.base ⊗> tokens t.stars)
