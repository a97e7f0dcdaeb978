-- Declarations (C99 6.7): variables of a block, globals, fields and parameters.
use Rattle.std.specs.Prelude.{ℕ, ◌+◌, ◌*◌, nat_abs, Bool, true, false, ◌&&◌, not, nat_eq, nat_le, nat_lt, List, [], ◌∷◌, ◌++◌, map, length, Option, Some, None}
use Rattle.std.specs.List.{list_any}
use Rattle.c_ast.specs.LineOf.{line_of_base}
use Rattle.c_ast.specs.declared.ident.Ident.{Ident}
use Rattle.c_ast.specs.declared.decl.Base.{Base}
use Rattle.c_ast.specs.declared.decl.Brackets.{Brackets}
use Rattle.c_ast.specs.declared.decl.Declarator.{Declarator}
use Rattle.c_ast.specs.declared.decl.Decl.{Decl}
use Rattle.c_ast.specs.declared.decl.DeclItem.{DeclItem}
use Rattle.c_ast.specs.declared.decl.Param.{Param}
use Rattle.c_ast.specs.declared.decl.ProtoParam.{ProtoParam}
use Rattle.c_ast.specs.declared.expr.Expr.{Expr as SourceExpr}
use Rattle.c_ast.specs.declared.program.Field.{Field}
use Rattle.c_ast.specs.declared.stmt.AssignOp.{AssignOp}
use Rattle.c_typed.specs.declared.fault.BigWhat.{BigWhat}
use Rattle.c_typed.specs.declared.types.ObjectType.{ObjectType}
use Rattle.c_typed.specs.declared.types.ExprType.{ExprType}
use Rattle.c_typed.specs.declared.expr.Expr.{Expr}
use Rattle.c_typed.specs.declared.expr.Form.TheOpen.{Form-F}
use Rattle.c_typed.specs.declared.stmt.Stmt.{Stmt, roll-Stmt}
use Rattle.c_typed.specs.declared.stmt.Stmt.TheOpen.{Stmt-F}
use Rattle.c_typed.specs.Types.{declared_type, pointers_to, parameter_stars, words_of, fits, scalar_type}
use Rattle.c_typed.specs.Marks.{field, local, History, locals_in, is_declared, has_field, field_words, frame_words}
use Rattle.c_typed.specs.Whole.{Whole}
use Rattle.c_typed.specs.Faults.{Fault, twice, mismatch, big, unless}
use Rattle.c_typed.specs.Parts.{Place, Part, tokens, mark, obeys, with_faults, separated, ◌<⊗◌, ◌⊗>◌, ◌<$>◌}
pub use Rattle.dfi_base.specs.Limits.{type_limit, frame_limit}
use Rattle.c_typed.specs.Tags.{base}
use Rattle.c_typed.specs.Exprs.{made, expr, value}

-- an array has at least one item
abbrev pub has_items : List ℕ → Bool
has_items [] = true
has_items (n ∷ ns) = nat_lt 0 n && has_items ns

abbrev pub declarator_tokens : Declarator → ℕ
declarator_tokens d = d.stars + 1 + 3 * length d.lengths

-- the name of a declarator stands behind its stars
abbrev pub name_at : Declarator → Place → ℕ
name_at d here = here.at + d.stars

-- Among these one has no star, so that their base is meant by value.
abbrev pub by_value : List Declarator → Bool
by_value = list_any (λ d. nat_eq d.stars 0)

abbrev pub length_faults : ObjectType → Declarator → Place → List Fault
length_faults t d here = unless (has_items t.lengths) here.at mismatch d.line

-- A field: its name is new in its struct, and the words of the struct with it are within the limit of a type.
abbrev pub field_faults : Whole → Declarator → ObjectType → Place → List Fault
field_faults w d t here =
    length_faults t d here
    ++ unless (not (has_field d.name.name here.before)) (name_at d here) twice d.name.line
    ++ unless (nat_le (field_words w.sizes (field d.name.name t ∷ here.before)) type_limit) (name_at d here) (big BigWhat.Shape) d.name.line

abbrev pub field_item : Whole → Base → Declarator → Part (Unit {0})
field_item w b d =
    let t = declared_type w.tags b d in
    with_faults (field_faults w d t) (tokens (declarator_tokens d) <⊗ mark (field d.name.name t))

abbrev pub fields : Whole → Field → Part (List (Unit {0}))
fields w f = base w (by_value f.items) f.base ⊗> separated (map (field_item w f.base) f.items) <⊗ tokens 1

-- A variable of a block: its name is new in the innermost scope, its type and its frame are within their limits.
abbrev pub frame_faults : Whole → Ident → ObjectType → History → ℕ → List Fault
frame_faults w x t h at = unless (nat_le (frame_words w.sizes (local x t ∷ h)) frame_limit) at (big BigWhat.Frame) x.line

abbrev pub local_faults : Whole → Declarator → ObjectType → Place → List Fault
local_faults w d t here =
    length_faults t d here
    ++ unless (not (is_declared d.name.name 0 here.before)) (name_at d here) twice d.name.line
    ++ unless (nat_le (words_of w.sizes t) type_limit) (name_at d here) (big BigWhat.Shape) d.name.line
    ++ frame_faults w d.name t here.before (name_at d here)

abbrev pub declared : Whole → Declarator → ObjectType → Part (Unit {0})
declared w d t = with_faults (local_faults w d t) (tokens (declarator_tokens d) <⊗ mark (local d.name t))

-- Its value is as in an assignment, and its own name is known there.
abbrev pub starts_with : Declarator → ObjectType → ℕ → Expr → Option (List Stmt)
starts_with d t k e =
    elim (fits e.typing t) [
      | true ↦ Some (roll-Stmt (Stmt-F.Assign d.line (made (ExprType.Place t) (Form-F.Local k)) AssignOp.Plain e) ∷ [])
      | false ↦ None
    ]

abbrev pub valued : Whole → Declarator → ObjectType → Option SourceExpr → Part (List Stmt)
valued w d t None = (λ _. []) <$> declared w d t
valued w d t (Some e) = obeys mismatch d.line (λ h v. starts_with d t (locals_in h) v) (declared w d t ⊗> tokens 1 ⊗> value (expr w e))

abbrev pub local_item : Whole → Base → DeclItem → Part (List Stmt)
local_item w b i = valued w i.declarator (declared_type w.tags b i.declarator) i.value

abbrev pub joined_lists : {A : Type 0} → List (List A) → List A
joined_lists [] = []
joined_lists (xs ∷ rest) = xs ++ joined_lists rest

abbrev pub local_decl : Whole → Decl → Part Stmt
local_decl w d =
    (λ ss. roll-Stmt (Stmt-F.Block (joined_lists ss)))
    <$> (base w (by_value (map (λ i. i.declarator) d.items)) d.base ⊗> separated (map (local_item w d.base) d.items) <⊗ tokens 1)

-- Parameters.
abbrev pub bracket_tokens : Brackets → ℕ
bracket_tokens Brackets.Absent = 0
bracket_tokens Brackets.Empty = 2
bracket_tokens (Brackets.Length k) = 3

abbrev pub bracket_items : Brackets → Bool
bracket_items (Brackets.Length k) = nat_lt 0 (nat_abs k)
bracket_items _ = true

abbrev pub is_scalar : ObjectType → Bool
is_scalar t = elim (scalar_type t) [ None ↦ false | Some v ↦ true ]

-- what stands before the name
abbrev pub parameter_base : Whole → Base → ℕ → Brackets → Part (Unit {0})
parameter_base w b stars brackets =
    with_faults (λ here. unless (bracket_items brackets) here.at mismatch (line_of_base b))
    (base w (nat_eq (parameter_stars stars brackets) 0) b ⊗> tokens stars)

-- the name of a parameter is new, and its type is no struct
abbrev pub parameter_faults : Ident → ObjectType → Place → List Fault
parameter_faults x t here =
    unless (not (is_declared x.name 0 here.before)) here.at twice x.line ++ unless (is_scalar t) here.at mismatch x.line

abbrev pub parameter : Whole → Param → Part (Unit {0})
parameter w p =
    let t = pointers_to w.tags p.base (parameter_stars p.stars p.brackets) in
    parameter_base w p.base p.stars p.brackets
    ⊗> with_faults (λ here. parameter_faults p.name t here ++ frame_faults w p.name t here.before here.at) (tokens 1 <⊗ mark (local p.name t))
    <⊗ tokens (bracket_tokens p.brackets)

-- a prototype's parameter, which may have no name; what is said of its name is then said of its first token
abbrev pub nameless : Whole → ProtoParam → ObjectType → Part (Unit {0})
nameless w p t =
    obeys mismatch (line_of_base p.base) (λ h u. elim (is_scalar t) [ true ↦ Some u | false ↦ None ]) (parameter_base w p.base p.stars p.brackets)

abbrev pub named : Whole → ProtoParam → ObjectType → Ident → Part (Unit {0})
named w p t x =
    parameter_base w p.base p.stars p.brackets
    ⊗> with_faults (λ here. parameter_faults x t here) (tokens 1 <⊗ mark (local x t))

abbrev pub proto_parameter : Whole → ProtoParam → Part (Unit {0})
proto_parameter w p =
    let t = pointers_to w.tags p.base (parameter_stars p.stars p.brackets) in
    elim p.name [ None ↦ nameless w p t | Some x ↦ named w p t x ] <⊗ tokens (bracket_tokens p.brackets)
