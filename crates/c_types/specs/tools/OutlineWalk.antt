-- The outline of a text, as the code makes it piece by piece. A tool of proof.
use Rattle.std.specs.Prelude.{ℕ, ◌+◌, true, false, List, [], ◌∷◌, ◌++◌, map, Option, Some, None, codes, bytes_eq}
use Rattle.c_ast.specs.declared.decl.Base.{Base}
use Rattle.c_ast.specs.declared.decl.Declarator.{Declarator}
use Rattle.c_ast.specs.declared.decl.Params.{Params}
use Rattle.c_ast.specs.declared.program.Field.{Field}
use Rattle.c_ast.specs.declared.program.StructDef.{StructDef}
use Rattle.c_ast.specs.declared.program.Function.{Function}
use Rattle.c_ast.specs.declared.program.Item.{Item}
use Rattle.c_typed.specs.declared.types.ObjectType.{ObjectType}
use Rattle.c_types.specs.declared.table.Table.{Table}
use Rattle.c_types.specs.declared.numbering.Numbering.{Numbering}
use Rattle.c_types.specs.declared.outline.Spelling.{Spelling}
use Rattle.c_types.specs.declared.outline.Member.{Member}
use Rattle.c_types.specs.declared.outline.Shape.{Shape}
use Rattle.c_types.specs.declared.outline.Signature.{Signature}
use Rattle.c_types.specs.declared.outline.Outline.{Outline}
use Rattle.c_types.specs.tools.Tables.{looked, put}
use Rattle.c_types.specs.tools.Steps.{if_some}
use Rattle.c_types.specs.tools.Outlines.{declared_type, result_type, words_of, capped}
use Rattle.c_types.specs.tools.DeclWalk.{parameter_type}

-- What the spelling of a name says.
abbrev pub spelled_builtin : List ℕ → Spelling
spelled_builtin text =
    elim (bytes_eq text (codes "getint")) [
      | true ↦ Spelling.GetInt
      | false ↦
          elim (bytes_eq text (codes "left")) [
            | true ↦ Spelling.Left
            | false ↦
                elim (bytes_eq text (codes "putint")) [
                  | true ↦ Spelling.PutInt
                  | false ↦
                      elim (bytes_eq text (codes "malloc")) [
                        | true ↦ Spelling.Malloc
                        | false ↦ elim (bytes_eq text (codes "free")) [ true ↦ Spelling.Free | false ↦ Spelling.Other ]
                      ]
                ]
          ]
    ]

abbrev pub spelling_of : List ℕ → Spelling
spelling_of text = elim (bytes_eq text (codes "main")) [ true ↦ Spelling.Main | false ↦ spelled_builtin text ]

-- Numbers in the order of the text: a name has that of its first.
abbrev pub no_numbers : Numbering
no_numbers = record { table = record { entries = [] }; count = 0 }

abbrev pub first : ℕ → ℕ → Table → Table
first n x t = elim (looked t x) [ None ↦ put x (Some n) t | Some k ↦ t ]

abbrev pub with_first : ℕ → Numbering → Numbering
with_first x n = record { table = first n.count x n.table; count = n.count }

abbrev pub next : ℕ → Numbering → Numbering
next x n = record { table = first n.count x n.table; count = n.count + 1 }

abbrev pub with_tag : Item → Numbering → Numbering
with_tag (Item.Struct d) n = next d.tag.name n
with_tag _ n = n

abbrev pub with_function : Item → Numbering → Numbering
with_function (Item.Function f) n = next f.name.name n
with_function _ n = n

abbrev pub numbered : (Item → Numbering → Numbering) → List Item → Numbering → Numbering
numbered step [] n = n
numbered step (i ∷ is) n = numbered step is (step i n)

-- Structs: the words of each by those of the structs before it.
abbrev pub member : Outline → Base → Declarator → Member
member o b d = record { name = d.name.name; object = declared_type o b d }

abbrev pub members_of : Outline → List Field → List Member
members_of o [] = []
members_of o (f ∷ fs) = map (member o f.base) f.items ++ members_of o fs

abbrev pub words_from : Outline → ℕ → List Member → ℕ
words_from o n [] = n
words_from o n (m ∷ ms) = words_from o (capped (words_of o m.object + n)) ms

abbrev pub shape_by : Outline → List Member → Shape
shape_by o ms = record { members = ms; words = words_from o 0 ms }

abbrev pub shape_of : Outline → StructDef → Shape
shape_of o d = shape_by o (members_of o d.fields)

abbrev pub with_shapes : List Shape → Outline → Outline
with_shapes ss o = record { spellings = o.spellings; tags = o.tags; structs = o.structs; shapes = ss; numbers = o.numbers; functions = o.functions }

abbrev pub with_shape : Item → Outline → Outline
with_shape (Item.Struct d) o = with_shapes (o.shapes ++ shape_of o d ∷ []) o
with_shape _ o = o

abbrev pub shaped : List Item → Outline → Outline
shaped [] o = o
shaped (i ∷ is) o = shaped is (with_shape i o)

-- Functions.
abbrev pub parameter_types : Outline → Params → List ObjectType
parameter_types o (Params.List ps) = map (λ p. parameter_type o p.base p.stars p.brackets) ps
parameter_types o _ = []

abbrev pub signature : Outline → Function → Signature
signature o f = record { name = f.name.name; result = result_type o f.result; parameters = parameter_types o f.params }

abbrev pub signature_of : Outline → Item → Option Signature
signature_of o (Item.Function f) = Some (signature o f)
signature_of o _ = None

abbrev pub signatures : Outline → List Item → List Signature
signatures o [] = []
signatures o (i ∷ is) = if_some (signature_of o i) ++ signatures o is

abbrev pub with_functions : List Signature → Outline → Outline
with_functions ss o = record { spellings = o.spellings; tags = o.tags; structs = o.structs; shapes = o.shapes; numbers = o.numbers; functions = ss }

-- The whole.
abbrev pub bare : List Spelling → Numbering → Numbering → Outline
bare spellings tags numbers = record { spellings = spellings; tags = tags.table; structs = tags.count; shapes = []; numbers = numbers.table; functions = [] }

abbrev pub signed : List Item → Outline → Outline
signed is o = with_functions (signatures o is) o

abbrev pub outline_of : List (List ℕ) → List Item → Outline
outline_of names is = signed is (shaped is (bare (map spelling_of names) (numbered with_tag is no_numbers) (numbered with_function is no_numbers)))
