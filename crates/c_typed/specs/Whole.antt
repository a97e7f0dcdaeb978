-- What the whole text says to each of its places: its structs and its functions, also those that stand later.
use Rattle.std.specs.Prelude.{ℕ, ◌+◌, Bool, true, false, List, [], ◌∷◌, ◌++◌, map, Option, Some, None, slice_get, codes, bytes_eq}
use Rattle.c_ast.specs.declared.decl.Base.{Base}
use Rattle.c_ast.specs.declared.decl.Declarator.{Declarator}
use Rattle.c_ast.specs.declared.decl.Param.{Param}
use Rattle.c_ast.specs.declared.decl.Params.{Params}
use Rattle.c_ast.specs.declared.program.Field.{Field}
use Rattle.c_ast.specs.declared.program.StructDef.{StructDef}
use Rattle.c_ast.specs.declared.program.Function.{Function}
use Rattle.c_ast.specs.declared.program.Item.{Item}
use Rattle.c_typed.specs.declared.types.ObjectType.{ObjectType}
use Rattle.c_typed.specs.Types.{place_of, declared_type, pointers_to, parameter_stars, result_type, words_of}
use Rattle.c_typed.specs.Marks.{History, Variable, variable}

-- a field's name and its type
pub record Member : Type 0 where
  pub name : ℕ
  pub object : ObjectType

pub record Signature : Type 0 where
  pub name : ℕ
  pub result : Option ObjectType
  pub parameters : List ObjectType

pub record Whole : Type 0 where
  -- the name of each number
  pub names : List (List ℕ)
  -- the tag, the fields and the words of each struct, in the order of the text
  pub tags : List ℕ
  pub structs : List (List Member)
  pub sizes : List ℕ
  -- the functions that are defined, in the order of the text
  pub functions : List Signature

-- Structs.
abbrev pub struct_defs : List Item → List StructDef
struct_defs [] = []
struct_defs (Item.Struct d ∷ items) = d ∷ struct_defs items
struct_defs (_ ∷ items) = struct_defs items

abbrev pub member : List ℕ → Base → Declarator → Member
member tags base d = record { name = d.name.name; object = declared_type tags base d }

abbrev pub members : List ℕ → List Field → List Member
members tags [] = []
members tags (f ∷ fs) = map (member tags f.base) f.items ++ members tags fs

abbrev pub members_words : List ℕ → List Member → ℕ
members_words sizes [] = 0
members_words sizes (m ∷ ms) = words_of sizes m.object + members_words sizes ms

-- the words of each struct, by those of the structs before it
abbrev pub sizes_of : List ℕ → List (List Member) → List ℕ
sizes_of sizes [] = sizes
sizes_of sizes (ms ∷ rest) = sizes_of (sizes ++ members_words sizes ms ∷ []) rest

-- Functions.
abbrev pub parameter_type : List ℕ → Param → ObjectType
parameter_type tags p = pointers_to tags p.base (parameter_stars p.stars p.brackets)

abbrev pub parameter_types : List ℕ → Params → List ObjectType
parameter_types tags Params.Empty = []
parameter_types tags (Params.Void line) = []
parameter_types tags (Params.List ps) = map (parameter_type tags) ps

abbrev pub signature : List ℕ → Function → Signature
signature tags f = record { name = f.name.name; result = result_type tags f.result; parameters = parameter_types tags f.params }

abbrev pub signatures : List ℕ → List Item → List Signature
signatures tags [] = []
signatures tags (Item.Function f ∷ items) = signature tags f ∷ signatures tags items
signatures tags (_ ∷ items) = signatures tags items

abbrev pub whole_by : List (List ℕ) → List Item → List StructDef → List ℕ → Whole
whole_by names items defs tags =
    let structs = map (λ d. members tags d.fields) defs in
    record { names = names; tags = tags; structs = structs; sizes = sizes_of [] structs; functions = signatures tags items }

abbrev pub whole_of : List (List ℕ) → List Item → Whole
whole_of names items = whole_by names items (struct_defs items) (map (λ d. d.tag.name) (struct_defs items))

-- What a name means.
pub data Builtin : Type 0 where
  getint : Builtin
  left : Builtin
  putint : Builtin
  malloc : Builtin
  free : Builtin

pub data Meaning : Type 0 where
  object : Variable → Meaning
  builtin : Builtin → Meaning
  -- the function of this number
  function : ℕ → Signature → Meaning
  nothing : Meaning

abbrev pub spelling : Whole → ℕ → List ℕ
spelling w x = elim (slice_get w.names x) [ None ↦ [] | Some text ↦ text ]

abbrev pub is_main : Whole → ℕ → Bool
is_main w x = bytes_eq (spelling w x) (codes "main")

abbrev pub builtin_of : List ℕ → Option Builtin
builtin_of text =
    elim (bytes_eq text (codes "getint")) [
      | true ↦ Some getint
      | false ↦
          elim (bytes_eq text (codes "left")) [
            | true ↦ Some left
            | false ↦
                elim (bytes_eq text (codes "putint")) [
                  | true ↦ Some putint
                  | false ↦
                      elim (bytes_eq text (codes "malloc")) [
                        | true ↦ Some malloc
                        | false ↦
                            elim (bytes_eq text (codes "free")) [ true ↦ Some free | false ↦ None ]
                      ]
                ]
          ]
    ]

-- a function of the whole text: the first of this name
abbrev pub function_named : Whole → ℕ → Meaning
function_named w x =
    let k = place_of x (map (λ s. s.name) w.functions) in
    elim (slice_get w.functions k) [ None ↦ nothing | Some s ↦ function k s ]

-- The innermost variable that is known here, else a built-in name, else a function.
abbrev pub meaning : Whole → History → ℕ → Meaning
meaning w h x =
    elim (variable x 0 h) [
      | Some v ↦ object v
      | None ↦ elim (builtin_of (spelling w x)) [ Some b ↦ builtin b | None ↦ function_named w x ]
    ]
