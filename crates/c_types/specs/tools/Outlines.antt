-- What the code looks up in the outline of the text and in what is known at a place. A tool of proof.
use Rattle.std.specs.Prelude.{ℕ, zero, suc, ◌*◌, nat_abs, Bool, true, false, nat_eq, nat_le, List, [], ◌∷◌, map, Option, Some, None, get_or, slice_get, is_some, Ok}
use Rattle.c_ast.specs.declared.decl.Base.{Base}
use Rattle.c_ast.specs.declared.decl.TypeName.{TypeName}
use Rattle.c_ast.specs.declared.decl.Declarator.{Declarator}
use Rattle.c_ast.specs.declared.decl.ResultType.{ResultType}
use Rattle.c_typed.specs.declared.types.BaseType.{BaseType}
use Rattle.c_typed.specs.declared.types.ObjectType.{ObjectType}
use Rattle.c_types.specs.declared.outline.Spelling.{Spelling}
use Rattle.c_types.specs.declared.outline.Outline.{Outline}
use Rattle.c_types.specs.declared.scopes.Binding.{Binding}
use Rattle.c_types.specs.declared.known.Known.{Known}
use Rattle.c_types.specs.tools.Tables.{looked}
use Rattle.c_typed.specs.Faults.{unknown}
use Rattle.c_types.specs.tools.Steps.{Found, ◌>>=◌, unless_kept}

-- Types.
abbrev pub struct_by : Option ℕ → BaseType
struct_by None = BaseType.Unknown
struct_by (Some k) = BaseType.Struct k

abbrev pub base_type : Outline → Base → BaseType
base_type o (Base.Int line) = BaseType.Int
base_type o (Base.Struct line tag) = struct_by (looked o.tags tag.name)

abbrev pub pointers_to : Outline → Base → ℕ → ObjectType
pointers_to o base stars = record { base = base_type o base; stars = stars; lengths = [] }

abbrev pub declared_type : Outline → Base → Declarator → ObjectType
declared_type o base d = record { base = base_type o base; stars = d.stars; lengths = map nat_abs d.lengths }

abbrev pub named_type : Outline → TypeName → ObjectType
named_type o t = pointers_to o t.base t.stars

abbrev pub result_type : Outline → ResultType → Option ObjectType
result_type o (ResultType.Type base stars) = Some (pointers_to o base stars)
result_type o (ResultType.Void line) = None

-- Words, up to one past the limit of a type.
abbrev pub capped : ℕ → ℕ
capped n = elim (nat_le n 24576) [ true ↦ n | false ↦ 24577 ]

abbrev pub shape_words : Outline → ℕ → ℕ
shape_words o k = elim (slice_get o.shapes k) [ None ↦ 0 | Some s ↦ s.words ]

abbrev pub base_words : Outline → BaseType → ℕ
base_words o BaseType.Int = 1
base_words o (BaseType.Struct k) = shape_words o k
base_words o BaseType.Unknown = 0

abbrev pub item_words : Outline → BaseType → ℕ → ℕ
item_words o base zero = base_words o base
item_words o base (suc n) = 1

abbrev pub times : ℕ → List ℕ → ℕ
times words [] = words
times words (n ∷ ns) = times (capped (n * words)) ns

abbrev pub words_of : Outline → ObjectType → ℕ
words_of o t = times (item_words o t.base t.stars) t.lengths

-- Names.
abbrev pub spelled : Outline → ℕ → Spelling
spelled o x = get_or o.spellings x Spelling.Other

abbrev pub is_main : Spelling → Bool
is_main Spelling.Main = true
is_main _ = false

abbrev pub is_builtin : Spelling → Bool
is_builtin Spelling.Other = false
is_builtin Spelling.Main = false
is_builtin _ = true

-- the newest binding of a name
abbrev pub binding_by : Known → Option ℕ → Option Binding
binding_by k None = None
binding_by k (Some i) = slice_get k.scopes.bindings i

abbrev pub bound : Known → ℕ → Option Binding
bound k x = binding_by k (looked k.scopes.newest x)

abbrev pub is_malloc : Spelling → Bool
is_malloc Spelling.Malloc = true
is_malloc _ = false

-- the name means `malloc`
abbrev pub means_malloc : Outline → Known → ℕ → Bool
means_malloc o k x = elim (bound k x) [ Some b ↦ false | None ↦ is_malloc (spelled o x) ]

-- Tags.
abbrev pub has_tag : Outline → Known → Bool → ℕ → Bool
has_tag o k by_value x = elim by_value [ true ↦ is_some (looked k.declared.tags x) | false ↦ is_some (looked o.tags x) ]

abbrev pub base_walk : Outline → Known → Bool → Base → Found (Unit {0})
base_walk o k by_value (Base.Int line) = Ok tt
base_walk o k by_value (Base.Struct line tag) = unless_kept (has_tag o k by_value tag.name) unknown tag.line (Ok tt)

abbrev pub type_name_walk : Outline → Known → TypeName → Found ObjectType
type_name_walk o k t = base_walk o k (nat_eq t.stars 0) t.base >>= (λ _. Ok (named_type o t))
