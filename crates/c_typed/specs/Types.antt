-- Types as they are declared (C99 6.2.5, 6.7.5), their words, and values of them (C99 6.3.2.1).
use Rattle.std.specs.Prelude.{ℕ, zero, suc, ◌*◌, nat_abs, Bool, true, false, ◌&&◌, nat_eq, nat_lt, List, length, [], ◌∷◌, map, Option, Some, None, get_or}
use Rattle.c_ast.specs.declared.decl.Base.{Base}
use Rattle.c_ast.specs.declared.decl.TypeName.{TypeName}
use Rattle.c_ast.specs.declared.decl.ResultType.{ResultType}
use Rattle.c_ast.specs.declared.decl.Declarator.{Declarator}
use Rattle.c_ast.specs.declared.decl.Brackets.{Brackets}
use Rattle.c_typed.specs.declared.types.BaseType.{BaseType}
use Rattle.c_typed.specs.declared.types.ObjectType.{ObjectType}
use Rattle.c_typed.specs.declared.types.ExprType.{ExprType}

-- the number of the first of these that is n; their count where none is
abbrev pub place_of : ℕ → List ℕ → ℕ
place_of n [] = 0
place_of n (m ∷ ms) = elim (nat_eq n m) [ true ↦ 0 | false ↦ suc (place_of n ms) ]

-- a struct is known by the number of the first definition of its tag; a tag of no struct has no type
abbrev pub struct_type : ℕ → ℕ → BaseType
struct_type structs k = elim (nat_lt k structs) [ true ↦ BaseType.Struct k | false ↦ BaseType.Unknown ]

abbrev pub base_type : List ℕ → Base → BaseType
base_type tags (Base.Int line) = BaseType.Int
base_type tags (Base.Struct line tag) = struct_type (length tags) (place_of tag.name tags)

abbrev pub declared_type : List ℕ → Base → Declarator → ObjectType
declared_type tags base d = record { base = base_type tags base; stars = d.stars; lengths = map nat_abs d.lengths }

-- a parameter with brackets is a pointer
abbrev pub parameter_stars : ℕ → Brackets → ℕ
parameter_stars stars Brackets.Absent = stars
parameter_stars stars Brackets.Empty = suc stars
parameter_stars stars (Brackets.Length k) = suc stars

abbrev pub pointers_to : List ℕ → Base → ℕ → ObjectType
pointers_to tags base stars = record { base = base_type tags base; stars = stars; lengths = [] }

abbrev pub named_type : List ℕ → TypeName → ObjectType
named_type tags t = pointers_to tags t.base t.stars

-- none is void
abbrev pub result_type : List ℕ → ResultType → Option ObjectType
result_type tags (ResultType.Type base stars) = Some (pointers_to tags base stars)
result_type tags (ResultType.Void line) = None

-- One type is another.
abbrev pub same_base : BaseType → BaseType → Bool
same_base BaseType.Int BaseType.Int = true
same_base (BaseType.Struct j) (BaseType.Struct k) = nat_eq j k
same_base _ _ = false

abbrev pub same_lengths : List ℕ → List ℕ → Bool
same_lengths [] [] = true
same_lengths (m ∷ ms) (n ∷ ns) = nat_eq m n && same_lengths ms ns
same_lengths _ _ = false

abbrev pub same_object : ObjectType → ObjectType → Bool
same_object s t = same_base s.base t.base && nat_eq s.stars t.stars && same_lengths s.lengths t.lengths

-- The words of a type, by those of each struct.
abbrev pub base_words : List ℕ → BaseType → ℕ
base_words sizes BaseType.Int = 1
base_words sizes (BaseType.Struct k) = get_or sizes k 0
base_words sizes BaseType.Unknown = 0

abbrev pub item_words : List ℕ → BaseType → ℕ → ℕ
item_words sizes base zero = base_words sizes base
item_words sizes base (suc n) = 1

abbrev pub times : List ℕ → ℕ → ℕ
times [] words = words
times (n ∷ ns) words = n * times ns words

abbrev pub words_of : List ℕ → ObjectType → ℕ
words_of sizes t = times t.lengths (item_words sizes t.base t.stars)

-- What has a fault of its own, and what is built from it, has no type.
abbrev pub is_known_base : BaseType → Bool
is_known_base BaseType.Unknown = false
is_known_base _ = true

abbrev pub is_known : ObjectType → Bool
is_known t = is_known_base t.base

abbrev pub is_unknown : ExprType → Bool
is_unknown ExprType.Unknown = true
is_unknown _ = false

abbrev pub place_of_type : ObjectType → ExprType
place_of_type t = elim (is_known t) [ true ↦ ExprType.Place t | false ↦ ExprType.Unknown ]

abbrev pub pointer_to : ObjectType → ExprType
pointer_to t = elim (is_known t) [ true ↦ ExprType.Pointer t | false ↦ ExprType.Unknown ]

-- The value at a place: an int, a pointer, or the pointer to an array's first item. A struct has none.
abbrev pub scalar : BaseType → ℕ → Option ExprType
scalar BaseType.Unknown n = Some ExprType.Unknown
scalar BaseType.Int zero = Some ExprType.Int
scalar (BaseType.Struct k) zero = None
scalar base (suc n) = Some (ExprType.Pointer (record { base = base; stars = n; lengths = [] }))

abbrev pub value_by : ObjectType → List ℕ → Option ExprType
value_by t [] = scalar t.base t.stars
value_by t (n ∷ ns) = Some (pointer_to (record { base = t.base; stars = t.stars; lengths = ns }))

abbrev pub value_type : ObjectType → Option ExprType
value_type t = value_by t t.lengths

-- the value of a scalar, none for arrays and structs
abbrev pub scalar_by : ObjectType → List ℕ → Option ExprType
scalar_by t [] = scalar t.base t.stars
scalar_by t (n ∷ ns) = None

abbrev pub scalar_type : ObjectType → Option ExprType
scalar_type t = scalar_by t t.lengths

abbrev pub has_value : ExprType → Bool
has_value ExprType.Void = false
has_value _ = true

-- a value of the first type where one of the second is wanted: the same type, or null for a pointer; what has no type fits anything, and
-- a call without a value nothing
abbrev pub suits : ExprType → ExprType → Bool
suits ExprType.Void t = false
suits ExprType.Unknown t = true
suits s ExprType.Unknown = true
suits ExprType.Int ExprType.Int = true
suits (ExprType.Pointer s) (ExprType.Pointer t) = same_object s t
suits ExprType.Null (ExprType.Pointer t) = true
suits _ _ = false

-- a value for a variable, parameter or result of this type
abbrev pub suits_some : ExprType → Option ExprType → Bool
suits_some v None = false
suits_some v (Some t) = suits v t

abbrev pub fits : ExprType → ObjectType → Bool
fits v t = suits_some v (scalar_type t)

-- a value for a parameter: one of a struct's type has a fault of its own, and takes any value
abbrev pub accepts_some : ExprType → Option ExprType → Bool
accepts_some v None = has_value v
accepts_some v (Some t) = suits v t

abbrev pub accepts : ExprType → ObjectType → Bool
accepts v t = accepts_some v (scalar_type t)

-- an int or a pointer, null too
abbrev pub is_truth : ExprType → Bool
is_truth ExprType.Unknown = true
is_truth ExprType.Int = true
is_truth ExprType.Null = true
is_truth (ExprType.Pointer t) = true
is_truth _ = false
