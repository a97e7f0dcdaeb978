-- The faults of an item of a program stand within it, and those of the whole text within the text.
use Rattle.std.proofs.Common.{◌+◌, List, [], ◌∷◌, map, Option, arith}
use Rattle.c_ast.specs.declared.decl.Base.{Base}
use Rattle.c_ast.specs.declared.decl.Decl.{Decl}
use Rattle.c_ast.specs.declared.decl.DeclItem.{DeclItem}
use Rattle.c_ast.specs.declared.decl.ResultType.{ResultType}
use Rattle.c_ast.specs.declared.decl.Params.{Params}
use Rattle.c_ast.specs.declared.decl.ProtoParams.{ProtoParams}
use Rattle.c_ast.specs.declared.stmt.Block.{Block}
use Rattle.c_ast.specs.declared.stmt.BlockItem.{BlockItem}
use Rattle.c_ast.specs.declared.stmt.Stmt.{Stmt as SourceStmt}
use Rattle.c_ast.specs.declared.program.StructDef.{StructDef}
use Rattle.c_ast.specs.declared.program.Function.{Function as SourceFunction}
use Rattle.c_ast.specs.declared.program.Proto.{Proto}
use Rattle.c_ast.specs.declared.program.Item.{Item}
use Rattle.c_typed.specs.declared.types.ObjectType.{ObjectType}
use Rattle.c_typed.specs.Whole.{Whole}
use Rattle.c_typed.specs.Parts.{Place, tokens}
use Rattle.c_typed.specs.Types as types
use Rattle.c_typed.specs.Decls as decls
use Rattle.c_typed.specs.Programs as programs
use Rattle.c_typed.specs.Stmts.{block_item}
use Rattle.c_typed.specs.Programs.{struct, global_item, global_decl, result_base, parameters, with_part, function_body, function_text, function_item, proto_parameters, proto, item, text}
use Rattle.c_types.proofs.Bounds.{IsWithin, IsInside, inside, inside_tokens, inside_given, inside_map}
use Rattle.c_types.proofs.BoundsExprs.{bounded_base}
use Rattle.c_types.proofs.BoundsDecls.{AllInside, none, each, all_inside, before, after, inside_mark, inside_in_turn, inside_separated, inside_with, within_append, within_unless, name_rule_within, inside_fields, inside_local_decl, inside_parameter, inside_proto_parameter}
use Rattle.c_types.proofs.BoundsStmts.{inside_stmt, inside_body}

pub inside_struct : (w : Whole) (d : StructDef) → IsInside (struct w d)
inside_struct w d =
    inside_with _ _ (λ here. within_unless _ _ _ _ (omega arith) (omega arith))
    (before (before (before (after (after (inside_tokens 3) (inside_mark _)) (inside_in_turn (all_inside (decls.fields w) (inside_fields w) d.fields))) (inside_tokens 2)) (inside_mark _)) (inside_mark _))

global_within : (w : Whole) (i : DeclItem) (t : ObjectType) (here : Place) → IsWithin here.at (here.at + (decls.declarator_tokens i.declarator + 0)) (programs.global_faults w i i.declarator t here)
global_within w i t here =
    let d = i.declarator in
    within_append (within_append (within_append (within_append (within_unless _ here.at _ _ (omega arith) (omega arith))
    (name_rule_within d here _ _)) (name_rule_within d here _ _)) (name_rule_within d here _ _)) (name_rule_within d here _ _)

pub inside_global_item : (w : Whole) (b : Base) (i : DeclItem) → IsInside (global_item w b i)
inside_global_item w b i = before (inside_with _ _ (global_within w i (types.declared_type w.tags b i.declarator)) (before (inside_tokens _) (inside_mark _))) (inside_tokens _)

pub inside_global_decl : (w : Whole) (d : Decl) → IsInside (global_decl w d)
inside_global_decl w d =
    before (after (inside _ (bounded_base w (decls.by_value (map (λ i. i.declarator) d.items)) d.base))
    (inside_separated (all_inside (global_item w d.base) (inside_global_item w d.base) d.items))) (inside_tokens 1)

pub inside_result_base : (w : Whole) (r : ResultType) → IsInside (result_base w r)
inside_result_base w (ResultType.Void line) = inside_tokens 1
inside_result_base w (ResultType.Type b stars) = after (inside _ (bounded_base w _ b)) (inside_tokens stars)

pub inside_parameters : (w : Whole) (p : Params) → IsInside (parameters w p)
inside_parameters w Params.Empty = inside_given []
inside_parameters w (Params.Void line) = inside_map (λ _. []) (tokens 1) (inside_tokens 1)
inside_parameters w (Params.List ps) = inside_separated (all_inside (decls.parameter w) (inside_parameter w) ps)

pub all_items : (w : Whole) (xs : List (BlockItem SourceStmt)) → AllInside (map (block_item w) (map (with_part w) xs))
all_items w [] = none
all_items w (BlockItem.Decl d ∷ xs) = each (inside_local_decl w d) (all_items w xs)
all_items w (BlockItem.Stmt s ∷ xs) = each (inside_stmt w s) (all_items w xs)

pub inside_function_body : (w : Whole) (b : Block SourceStmt) → IsInside (function_body w b)
inside_function_body w b = inside_body w (record { line = b.line; items = map (with_part w) b.items; close = b.close }) (all_items w b.items)

pub function_within : (w : Whole) (f : SourceFunction) (result : Option ObjectType) (here : Place) → IsWithin here.at (here.at + (1 + 0)) (programs.function_faults w f f.name result here)
function_within w f result here =
    within_append (within_append (within_unless _ here.at _ _ (omega arith) (omega arith)) (within_unless _ here.at _ _ (omega arith) (omega arith))) (within_unless _ here.at _ _ (omega arith) (omega arith))

pub inside_function_text : (w : Whole) (f : SourceFunction) (result : Option ObjectType) → IsInside (function_text w f result)
inside_function_text w f result =
    before (after (after (after (after (after (inside_result_base w f.result)
    (inside_with (programs.function_faults w f f.name result) _ (function_within w f result) (before (inside_tokens 1) (inside_mark _))))
    (inside_tokens 1)) (inside_parameters w f.params)) (inside_tokens 1)) (inside_function_body w f.body)) (inside_mark _)

pub inside_function_item : (w : Whole) (f : SourceFunction) → IsInside (function_item w f)
inside_function_item w f = inside_map _ _ (inside_function_text w f _)

pub inside_proto_parameters : (w : Whole) (p : ProtoParams) → IsInside (proto_parameters w p)
inside_proto_parameters w ProtoParams.Empty = inside_given []
inside_proto_parameters w (ProtoParams.Void line) = inside_map (λ _. []) (tokens 1) (inside_tokens 1)
inside_proto_parameters w (ProtoParams.List ps) = inside_separated (all_inside (decls.proto_parameter w) (inside_proto_parameter w) ps)

proto_within : (w : Whole) (p : Proto) (result : Option ObjectType) (here : Place) → IsWithin here.at (here.at + (1 + 0)) (programs.proto_faults w p p.name result here)
proto_within w p result here =
    within_append (within_append (within_unless _ here.at _ _ (omega arith) (omega arith)) (within_unless _ here.at _ _ (omega arith) (omega arith))) (within_unless _ here.at _ _ (omega arith) (omega arith))

pub inside_proto : (w : Whole) (p : Proto) → IsInside (proto w p)
inside_proto w p =
    before (before (after (after (after (after (inside_result_base w p.result)
    (inside_with (programs.proto_faults w p p.name (types.result_type w.tags p.result)) _ (proto_within w p (types.result_type w.tags p.result)) (before (inside_tokens 1) (inside_mark _))))
    (inside_tokens 1)) (inside_mark _)) (inside_proto_parameters w p.params)) (inside_mark _)) (inside_tokens 2)

pub inside_item : (w : Whole) (i : Item) → IsInside (item w i)
inside_item w (Item.Struct d) = inside_map (λ _. []) _ (inside_struct w d)
inside_item w (Item.Decl d) = inside_map (λ _. []) _ (inside_global_decl w d)
inside_item w (Item.Function f) = inside_function_item w f
inside_item w (Item.Proto p) = inside_map (λ _. []) _ (inside_proto w p)

pub inside_text : (w : Whole) (items : List Item) → IsInside (text w items)
inside_text w items = inside_in_turn (all_inside (item w) (inside_item w) items)
