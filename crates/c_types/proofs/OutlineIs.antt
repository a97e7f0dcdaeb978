-- The outline that is made of a text is its outline.
use Rattle.std.proofs.Common.{◌≡◌, ℕ, zero, suc, Bool, true, false, List, [], ◌∷◌, map, length, get_or, Option, Some, None, codes, bytes_eq, refl, ap, sym, ◌∙◌, subst}
use Rattle.std.specs.Prelude.{slice_get}
use Rattle.std.proofs.lemmas.List.{length-map}
use Rattle.c_ast.specs.declared.decl.ResultType.{ResultType}
use Rattle.c_ast.specs.declared.decl.Param.{Param}
use Rattle.c_ast.specs.declared.decl.Params.{Params}
use Rattle.c_ast.specs.declared.program.Function.{Function}
use Rattle.c_ast.specs.declared.program.StructDef.{StructDef}
use Rattle.c_ast.specs.declared.program.Item.{Item}
use Rattle.c_types.specs.declared.outline.Spelling.{Spelling}
use Rattle.c_types.specs.declared.outline.Signature.{Signature as OutlineSignature}
use Rattle.c_types.specs.declared.outline.Outline.{Outline}
use Rattle.c_typed.specs.Types as types
use Rattle.c_typed.specs.Types.{place_of, parameter_stars}
use Rattle.c_typed.specs.Whole as whole
use Rattle.c_typed.specs.Whole.{Whole, Builtin, builtin_of, struct_defs, members, whole_of}
use Rattle.c_types.specs.tools.Tables.{looked}
use Rattle.c_types.specs.tools.Outlines as outlines
use Rattle.c_types.specs.tools.Outlines.{spelled}
use Rattle.c_types.specs.tools.OutlineWalk as walk
use Rattle.c_types.specs.tools.OutlineWalk.{spelling_of, no_numbers, with_tag, with_function, numbered, bare, with_shapes, shaped, outline_of}
use Rattle.c_types.proofs.Outlined.{IsTagged, IsOutline, spelled_builtin, spelled_so, number_below, signature_of, signature_at, pointers_by}
use Rattle.c_types.proofs.NumberedNames.{tags_numbered, functions_numbered, names_looked, names_counted}
use Rattle.c_types.proofs.OutlineShapes.{AreShapes, shapes_are, shaped_alone, shapes_count, members_there, words_there, tagged_with}

-- Spellings.
builtin_by : (getint left putint malloc free : Bool) →
    elim getint as (λ b. Spelling) [
      | true ↦ Spelling.GetInt
      | false ↦ elim left as (λ b. Spelling) [
        | true ↦ Spelling.Left
        | false ↦ elim putint as (λ b. Spelling) [
          | true ↦ Spelling.PutInt
          | false ↦ elim malloc as (λ b. Spelling) [
            | true ↦ Spelling.Malloc
            | false ↦ elim free as (λ b. Spelling) [ true ↦ Spelling.Free | false ↦ Spelling.Other ]
          ]
        ]
      ]
    ] ≡ spelled_builtin (elim getint as (λ b. Option Builtin) [
      | true ↦ Some Builtin.getint
      | false ↦ elim left as (λ b. Option Builtin) [
        | true ↦ Some Builtin.left
        | false ↦ elim putint as (λ b. Option Builtin) [
          | true ↦ Some Builtin.putint
          | false ↦ elim malloc as (λ b. Option Builtin) [
            | true ↦ Some Builtin.malloc
            | false ↦ elim free as (λ b. Option Builtin) [ true ↦ Some Builtin.free | false ↦ None ]
          ]
        ]
      ]
    ])
builtin_by true left putint malloc free = refl
builtin_by false true putint malloc free = refl
builtin_by false false true malloc free = refl
builtin_by false false false true free = refl
builtin_by false false false false true = refl
builtin_by false false false false false = refl

main_or : (b : Bool) (s : Spelling) (o : Option Builtin) → s ≡ spelled_builtin o → elim b as (λ b. Spelling) [ true ↦ Spelling.Main | false ↦ s ] ≡ spelled_so b o
main_or true s o is = refl
main_or false s o is = is

spelled_as : (text : List ℕ) → spelling_of text ≡ spelled_so (bytes_eq text (codes "main")) (builtin_of text)
spelled_as text =
    main_or (bytes_eq text (codes "main")) (walk.spelled_builtin text) (builtin_of text)
    (builtin_by (bytes_eq text (codes "getint")) (bytes_eq text (codes "left")) (bytes_eq text (codes "putint")) (bytes_eq text (codes "malloc")) (bytes_eq text (codes "free")))

abbrev text_or : Option (List ℕ) → List ℕ
text_or o = elim o [ None ↦ [] | Some text ↦ text ]

all_spelled : (names : List (List ℕ)) (x : ℕ) → get_or (map spelling_of names) x Spelling.Other ≡ spelled_so (bytes_eq (text_or (slice_get names x)) (codes "main")) (builtin_of (text_or (slice_get names x)))
all_spelled [] x = spelled_as []
all_spelled (text ∷ names) zero = spelled_as text
all_spelled (text ∷ names) (suc x) = all_spelled names x

-- Functions.
module _ (tags : List ℕ) (o : Outline) (is : IsTagged tags o) where
  pub result_same : (r : ResultType) → outlines.result_type o r ≡ types.result_type tags r
  result_same (ResultType.Type b stars) = ap (λ t. Some t) (pointers_by tags o is b stars)
  result_same (ResultType.Void line) = refl

  list_same : (ps : List Param) → walk.parameter_types o (Params.List ps) ≡ whole.parameter_types tags (Params.List ps)
  list_same [] = refl
  list_same (p ∷ ps) =
      ap (λ t. t ∷ walk.parameter_types o (Params.List ps)) (pointers_by tags o is p.base (parameter_stars p.stars p.brackets))
      ∙ ap (λ ts. whole.parameter_type tags p ∷ ts) (list_same ps)

  pub parameters_same : (ps : Params) → walk.parameter_types o ps ≡ whole.parameter_types tags ps
  parameters_same Params.Empty = refl
  parameters_same (Params.Void line) = refl
  parameters_same (Params.List ps) = list_same ps

  signature_same : (f : Function) → signature_of (walk.signature o f) ≡ whole.signature tags f
  signature_same f =
      ap (λ r. record { name = f.name.name; result = r; parameters = walk.parameter_types o f.params }) (result_same f.result)
      ∙ ap (λ ps. record { name = f.name.name; result = types.result_type tags f.result; parameters = ps }) (parameters_same f.params)

  signatures_same : (items : List Item) → map signature_of (walk.signatures o items) ≡ whole.signatures tags items
  signatures_same [] = refl
  signatures_same (Item.Struct d ∷ items) = signatures_same items
  signatures_same (Item.Decl d ∷ items) = signatures_same items
  signatures_same (Item.Function f ∷ items) =
      ap (λ s. s ∷ map signature_of (walk.signatures o items)) (signature_same f) ∙ ap (λ ss. whole.signature tags f ∷ ss) (signatures_same items)
  signatures_same (Item.Proto p ∷ items) = signatures_same items

signature_there : (ss : List OutlineSignature) (k : ℕ) → signature_at (slice_get ss k) ≡ slice_get (map signature_of ss) k
signature_there [] k = refl
signature_there (s ∷ ss) zero = refl
signature_there (s ∷ ss) (suc k) = signature_there ss k

-- The whole.
module _ (names : List (List ℕ)) (items : List Item) where
  abbrev w : Whole
  w = whole_of names items

  abbrev begun : Outline
  begun = bare (map spelling_of names) (numbered with_tag items no_numbers) (numbered with_function items no_numbers)

  abbrev formed : Outline
  formed = shaped items begun

  begun_tagged : IsTagged w.tags begun
  begun_tagged = record {
    numbers = λ x. ap (λ n. looked n.table x) (tags_numbered items no_numbers) ∙ names_looked x w.tags;
    count = ap (λ n. n.count) (tags_numbered items no_numbers) ∙ names_counted w.tags;
  }

  alone : formed ≡ with_shapes formed.shapes begun
  alone = shaped_alone items begun

  formed_tagged : IsTagged w.tags formed
  formed_tagged = subst (IsTagged w.tags) (sym alone) (tagged_with w.tags begun formed.shapes begun_tagged)

  pub outline_shapes : AreShapes (outline_of names items).shapes w.structs w.sizes
  outline_shapes = shapes_are w.tags items begun begun_tagged refl

  pub outline_is : IsOutline (whole_of names items) (outline_of names items)
  outline_is = record {
    spells = λ x. ap (λ o. spelled o x) alone ∙ all_spelled names x;
    tags = formed_tagged.numbers;
    structs = formed_tagged.count;
    shapes =
        shapes_count (outline_of names items).shapes w.structs w.sizes outline_shapes ∙ length-map (struct_defs items) (λ (d : StructDef). members w.tags d.fields)
        ∙ sym (length-map (struct_defs items) (λ (d : StructDef). d.tag.name));
    members = members_there (outline_of names items).shapes w.structs w.sizes outline_shapes;
    words = words_there (outline_of names items).shapes w.structs w.sizes outline_shapes;
    numbers = λ x.
        ap (λ o. looked o.numbers x) alone ∙ ap (λ n. looked n.table x) (functions_numbered w.tags items no_numbers)
        ∙ names_looked x (map (λ s. s.name) w.functions) ∙ ap (number_below (place_of x (map (λ s. s.name) w.functions))) (length-map w.functions (λ s. s.name));
    functions = λ k. signature_there (outline_of names items).functions k ∙ ap (λ ss. slice_get ss k) (signatures_same w.tags formed formed_tagged items);
  }

  -- as many shapes as there are tags
  pub structs_counted : length (whole_of names items).structs ≡ length (whole_of names items).tags
  structs_counted = length-map (struct_defs items) (λ (d : StructDef). members w.tags d.fields) ∙ sym (length-map (struct_defs items) (λ (d : StructDef). d.tag.name))

  -- the functions of the outline are those of the text
  pub outline_functions : map signature_of (outline_of names items).functions ≡ (whole_of names items).functions
  outline_functions = signatures_same w.tags formed formed_tagged items
