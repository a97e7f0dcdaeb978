-- A part that breaks no rule has a value: statements and programs.
use Rattle.std.proofs.Common.{List, [], ◌∷◌, ◌++◌, map, Option, Some, None, sym, subst}
use Rattle.dfi_base.specs.declared.numbers.Line.{Line}
use Rattle.c_ast.specs.declared.ident.Ident.{Ident}
use Rattle.c_ast.specs.declared.decl.Base.{Base}
use Rattle.c_ast.specs.declared.decl.Declarator.{Declarator}
use Rattle.c_ast.specs.declared.decl.Decl.{Decl}
use Rattle.c_ast.specs.declared.decl.DeclItem.{DeclItem}
use Rattle.c_ast.specs.declared.decl.ResultType.{ResultType}
use Rattle.c_ast.specs.declared.decl.Param.{Param}
use Rattle.c_ast.specs.declared.decl.Params.{Params}
use Rattle.c_ast.specs.declared.decl.ProtoParam.{ProtoParam}
use Rattle.c_ast.specs.declared.decl.ProtoParams.{ProtoParams}
use Rattle.c_ast.specs.declared.expr.Expr.{Expr as SourceExpr}
use Rattle.c_ast.specs.declared.stmt.Simple.{Simple}
use Rattle.c_ast.specs.declared.stmt.ForStart.{ForStart}
use Rattle.c_ast.specs.declared.stmt.Block.{Block}
use Rattle.c_ast.specs.declared.stmt.BlockItem.{BlockItem}
use Rattle.c_ast.specs.declared.stmt.Stmt.{ind-Stmt, map-Stmt, roll-Stmt, Stmt as SourceStmt}
use Rattle.c_ast.specs.declared.stmt.Stmt.TheOpen.{Stmt-F as Source}
use Rattle.c_ast.specs.declared.program.Field.{Field}
use Rattle.c_ast.specs.declared.program.StructDef.{StructDef}
use Rattle.c_ast.specs.declared.program.Function.{Function as SourceFunction}
use Rattle.c_ast.specs.declared.program.Proto.{Proto}
use Rattle.c_ast.specs.declared.program.Item.{Item}
use Rattle.c_typed.specs.declared.types.ObjectType.{ObjectType}
use Rattle.c_typed.specs.declared.stmt.Stmt.{Stmt, roll-Stmt as roll}
use Rattle.c_typed.specs.Types as types
use Rattle.c_typed.specs.Marks.{Mark}
use Rattle.c_typed.specs.Whole.{Whole}
use Rattle.c_typed.specs.Parts.{Part, tokens, mark, ◌<⊗◌}
use Rattle.c_typed.specs.Exprs.{expr, value, place}
use Rattle.c_typed.specs.Decls as decls
use Rattle.c_typed.specs.Decls.{field_item, fields, declared, valued, local_item, local_decl, parameter_base, parameter, nameless, named, proto_parameter}
use Rattle.c_typed.specs.Stmts.{Layer, empty, simple, condition, value_there, condition_there, within_loop, block_item, body, branch_of, start, step, stmt_step, stmt}
use Rattle.c_typed.specs.Programs as programs
use Rattle.c_typed.specs.Programs.{struct, global_item, global_decl, result_base, parameters, with_part, function_body, function_text, function_item, proto_parameters, proto, item, text}
use Rattle.c_typed.proofs.Levels.{items_of, blocks_of, first_items, mapped, stmt_roll}
use Rattle.c_typed.proofs.WholeExprs.{IsWhole, whole_tokens, whole_mark, whole_given, whole_map, whole_obeys, whole_with, beside, before, after, AllWhole, none, each, all_whole, whole_in_turn, whole_separated, whole_base, whole_value, whole_place, whole_expr, whole_call_stmt}

value_of : (w : Whole) (e : SourceExpr) → IsWhole (value (expr w e))
value_of w e = whole_value (expr w e) (whole_expr w e)

place_of : (w : Whole) (e : SourceExpr) → IsWhole (place (expr w e))
place_of w e = whole_place (expr w e) (whole_expr w e)

whole_condition : (w : Whole) (e : SourceExpr) → IsWhole (condition w e)
whole_condition w e = whole_obeys _ _ _ _ (value_of w e)

-- Declarations.
whole_declared : (w : Whole) (d : Declarator) (t : ObjectType) → IsWhole (declared w d t)
whole_declared w d t = whole_with _ _ (before (whole_tokens _) (whole_mark _))

whole_valued : (w : Whole) (d : Declarator) (t : ObjectType) (v : Option SourceExpr) → IsWhole (valued w d t v)
whole_valued w d t None = whole_map (λ _. []) (declared w d t) (whole_declared w d t)
whole_valued w d t (Some e) = whole_obeys _ d.line _ _ (after (after (whole_declared w d t) (whole_tokens 1)) (value_of w e))

whole_local_item : (w : Whole) (b : Base) (i : DeclItem) → IsWhole (local_item w b i)
whole_local_item w b i = whole_valued w i.declarator _ i.value

pub whole_local_decl : (w : Whole) (d : Decl) → IsWhole (local_decl w d)
whole_local_decl w d =
    whole_map _ _ (before (after (whole_base w (decls.by_value (map (λ i. i.declarator) d.items)) d.base) (whole_separated (all_whole (local_item w d.base) (whole_local_item w d.base) d.items))) (whole_tokens 1))

-- Statements.
whole_simple : (w : Whole) (s : Simple) → IsWhole (simple w s)
whole_simple w (Simple.Assign line target op v) = whole_obeys _ _ _ _ (beside (before (place_of w target) (whole_tokens 1)) (value_of w v))
whole_simple w (Simple.Increment line target) = whole_obeys _ _ _ _ (before (place_of w target) (whole_tokens 1))
whole_simple w (Simple.Decrement line target) = whole_obeys _ _ _ _ (before (place_of w target) (whole_tokens 1))
whole_simple w (Simple.PreIncrement line target) = whole_obeys _ _ _ _ (after (whole_tokens 1) (place_of w target))
whole_simple w (Simple.PreDecrement line target) = whole_obeys _ _ _ _ (after (whole_tokens 1) (place_of w target))
whole_simple w (Simple.Call f args) = whole_call_stmt w f args

whole_value_there : (w : Whole) (v : Option SourceExpr) → IsWhole (value_there w v)
whole_value_there w None = whole_given None
whole_value_there w (Some e) = whole_map _ _ (value_of w e)

whole_condition_there : (w : Whole) (c : Option SourceExpr) → IsWhole (condition_there w c)
whole_condition_there w None = whole_given None
whole_condition_there w (Some e) = whole_map _ _ (whole_condition w e)

whole_within_loop : (line : Line) (layer : Layer) → IsWhole (within_loop line layer)
whole_within_loop line layer = whole_with _ _ (whole_map (λ _. roll layer) (tokens 2) (whole_tokens 2))

whole_start : (w : Whole) (s : ForStart) → IsWhole (start w s)
whole_start w (ForStart.Decl d) = whole_local_decl w d
whole_start w (ForStart.Simple None) = whole_map (λ _. empty) (tokens 1) (whole_tokens 1)
whole_start w (ForStart.Simple (Some s)) = before (whole_simple w s) (whole_tokens 1)

whole_step : (w : Whole) (s : Option Simple) → IsWhole (step w s)
whole_step w None = whole_map (λ _. empty) (tokens 0) (whole_tokens 0)
whole_step w (Some s) = whole_simple w s

abbrev StmtWhole : Whole → SourceStmt → Type 0
StmtWhole w s = IsWhole (stmt w s)

abbrev Known : Whole → Type 0
Known w = (s : SourceStmt) × StmtWhole w s

abbrev forgotten : (w : Whole) → Source (Known w) → Source SourceStmt
forgotten w y = map-Stmt (Known w) SourceStmt (λ s. s.0) y

whole_items : (w : Whole) (line close : Line) (xs : List (BlockItem (Known w)))
    → AllWhole (map (block_item w) (items_of (mapped w (forgotten w (Source.Block (record { line = line; items = xs; close = close }))))))
whole_items w line close [] = none
whole_items w line close (BlockItem.Decl d ∷ xs) = each (whole_local_decl w d) (whole_items w line close xs)
whole_items w line close (BlockItem.Stmt s ∷ xs) = each s.1 (whole_items w line close xs)

whole_body : (w : Whole) (b : Block (Part Stmt)) → AllWhole (map (block_item w) b.items) → IsWhole (body w b)
whole_body w b all = before (after (whole_tokens 1) (whole_in_turn all)) (whole_tokens 1)

whole_branch : (w : Whole) (b : Block (Part Stmt)) → AllWhole (map (block_item w) b.items) → IsWhole (branch_of w b)
whole_branch w b all = whole_map _ _ (before (after (whole_mark _) (whole_body w b all)) (whole_mark _))

whole_branch_items : (w : Whole) (line l c : Line) (bs : List (Block (Known w))) (xs : List (BlockItem (Known w)))
    → AllWhole (map (block_item w) (first_items (blocks_of (mapped w (forgotten w (Source.Par line (record { line = l; items = xs; close = c } ∷ bs)))))))
whole_branch_items w line l c bs [] = none
whole_branch_items w line l c bs (BlockItem.Decl d ∷ xs) = each (whole_local_decl w d) (whole_branch_items w line l c bs xs)
whole_branch_items w line l c bs (BlockItem.Stmt s ∷ xs) = each s.1 (whole_branch_items w line l c bs xs)

whole_branches : (w : Whole) (line : Line) (bs : List (Block (Known w))) → AllWhole (map (branch_of w) (blocks_of (mapped w (forgotten w (Source.Par line bs)))))
whole_branches w line [] = none
whole_branches w line (b ∷ bs) =
    let first : Block (Part Stmt) = record { line = b.line; items = first_items (blocks_of (mapped w (forgotten w (Source.Par line (b ∷ bs))))); close = b.close } in
    each (whole_branch w first (whole_branch_items w line b.line b.close bs b.items)) (whole_branches w line bs)

whole_other : (w : Whole) (line : Line) (c : SourceExpr) (first : Known w) (o : Option (Known w)) → IsWhole (stmt_step w (mapped w (forgotten w (Source.If line c first o))))
whole_other w line c first None = whole_map _ _ (beside (beside (before (after (whole_tokens 2) (whole_condition w c)) (whole_tokens 1)) first.1) (whole_given None))
whole_other w line c first (Some s) =
    whole_map _ _ (beside (beside (before (after (whole_tokens 2) (whole_condition w c)) (whole_tokens 1)) first.1) (whole_map _ _ (after (whole_tokens 1) s.1)))

level_whole : (w : Whole) (y : Source (Known w)) → IsWhole (stmt_step w (mapped w (forgotten w y)))
level_whole w (Source.Block b) =
    let here : Block (Part Stmt) = record { line = b.line; items = items_of (mapped w (forgotten w (Source.Block b))); close = b.close } in
    whole_map _ _ (before (after (whole_mark _) (whole_body w here (whole_items w b.line b.close b.items))) (whole_mark _))
level_whole w (Source.Empty line) = whole_map (λ _. empty) (tokens 1) (whole_tokens 1)
level_whole w (Source.Simple s) = before (whole_simple w s) (whole_tokens 1)
level_whole w (Source.Return line v) = whole_with _ _ (whole_obeys _ _ _ _ (before (after (whole_tokens 1) (whole_value_there w v)) (whole_tokens 1)))
level_whole w (Source.Break line) = whole_within_loop line _
level_whole w (Source.Continue line) = whole_within_loop line _
level_whole w (Source.If line c first other) = whole_other w line c first other
level_whole w (Source.While line c s) =
    whole_map _ _ (before (beside (before (after (after (whole_mark _) (whole_tokens 2)) (whole_condition w c)) (whole_tokens 1)) s.1) (whole_mark _))
level_whole w (Source.For line first c last s) =
    whole_map _ _
    (before (beside (before (beside (before (beside (after (after (whole_mark _) (whole_tokens 2)) (whole_start w first)) (whole_condition_there w c)) (whole_tokens 1)) (whole_step w last)) (whole_tokens 1))
    s.1) (whole_mark _))
level_whole w (Source.Par line bs) = whole_with _ _ (whole_map _ _ (before (after (whole_tokens 2) (whole_in_turn (whole_branches w line bs))) (whole_tokens 1)))

pub whole_stmt : (w : Whole) (s : SourceStmt) → IsWhole (stmt w s)
whole_stmt w = ind-Stmt (StmtWhole w) (λ x y is. subst (λ x. StmtWhole w (roll-Stmt x)) is (subst (λ p. IsWhole p) (sym (stmt_roll w (forgotten w y))) (level_whole w y)))

all_items : (w : Whole) (xs : List (BlockItem SourceStmt)) → AllWhole (map (block_item w) (map (with_part w) xs))
all_items w [] = none
all_items w (BlockItem.Decl d ∷ xs) = each (whole_local_decl w d) (all_items w xs)
all_items w (BlockItem.Stmt s ∷ xs) = each (whole_stmt w s) (all_items w xs)

pub whole_function_body : (w : Whole) (b : Block SourceStmt) → IsWhole (function_body w b)
whole_function_body w b = whole_body w (record { line = b.line; items = map (with_part w) b.items; close = b.close }) (all_items w b.items)

-- Parameters and functions.
whole_parameter_base : (w : Whole) (p : Param) → IsWhole (parameter_base w p.base p.stars p.brackets)
whole_parameter_base w p = whole_with _ _ (after (whole_base w _ p.base) (whole_tokens p.stars))

whole_parameter : (w : Whole) (p : Param) → IsWhole (parameter w p)
whole_parameter w p =
    let t = types.pointers_to w.tags p.base (types.parameter_stars p.stars p.brackets) in
    before (after (whole_parameter_base w p)
    (whole_with (λ here. decls.parameter_faults p.name t here ++ decls.frame_faults w p.name t here.before here.at) (tokens 1 <⊗ mark (Mark.local p.name t)) (before (whole_tokens 1) (whole_mark _)))) (whole_tokens _)

pub whole_parameters : (w : Whole) (p : Params) → IsWhole (parameters w p)
whole_parameters w Params.Empty = whole_given []
whole_parameters w (Params.Void line) = whole_map (λ _. []) (tokens 1) (whole_tokens 1)
whole_parameters w (Params.List ps) = whole_separated (all_whole (parameter w) (whole_parameter w) ps)

whole_result_base : (w : Whole) (r : ResultType) → IsWhole (result_base w r)
whole_result_base w (ResultType.Void line) = whole_tokens 1
whole_result_base w (ResultType.Type b stars) = after (whole_base w _ b) (whole_tokens stars)

pub whole_function_text : (w : Whole) (f : SourceFunction) (result : Option ObjectType) → IsWhole (function_text w f result)
whole_function_text w f result =
    before (after (after (after (after (after (whole_result_base w f.result) (whole_with (programs.function_faults w f f.name result) _ (before (whole_tokens 1) (whole_mark _)))) (whole_tokens 1)) (whole_parameters w f.params)) (whole_tokens 1))
    (whole_function_body w f.body)) (whole_mark _)

-- Items.
whole_field_item : (w : Whole) (b : Base) (d : Declarator) → IsWhole (field_item w b d)
whole_field_item w b d = whole_with (decls.field_faults w d (types.declared_type w.tags b d)) _ (before (whole_tokens _) (whole_mark _))

whole_fields : (w : Whole) (f : Field) → IsWhole (fields w f)
whole_fields w f = before (after (whole_base w (decls.by_value f.items) f.base) (whole_separated (all_whole (field_item w f.base) (whole_field_item w f.base) f.items))) (whole_tokens 1)

whole_struct : (w : Whole) (d : StructDef) → IsWhole (struct w d)
whole_struct w d =
    whole_with _ _ (before (before (before (after (after (whole_tokens 3) (whole_mark _)) (whole_in_turn (all_whole (fields w) (whole_fields w) d.fields))) (whole_tokens 2)) (whole_mark _)) (whole_mark _))

whole_global_item : (w : Whole) (b : Base) (i : DeclItem) → IsWhole (global_item w b i)
whole_global_item w b i =
    before (whole_with (programs.global_faults w i i.declarator (types.declared_type w.tags b i.declarator)) _ (before (whole_tokens _) (whole_mark _))) (whole_tokens _)

whole_global_decl : (w : Whole) (d : Decl) → IsWhole (global_decl w d)
whole_global_decl w d =
    before (after (whole_base w (decls.by_value (map (λ i. i.declarator) d.items)) d.base) (whole_separated (all_whole (global_item w d.base) (whole_global_item w d.base) d.items))) (whole_tokens 1)

whole_proto_base : (w : Whole) (p : ProtoParam) → IsWhole (parameter_base w p.base p.stars p.brackets)
whole_proto_base w p = whole_with _ _ (after (whole_base w _ p.base) (whole_tokens p.stars))

whole_head : (w : Whole) (p : ProtoParam) (t : ObjectType) (o : Option Ident) → IsWhole (elim o [ None ↦ nameless w p t | Some x ↦ named w p t x ])
whole_head w p t None = whole_obeys _ _ _ _ (whole_proto_base w p)
whole_head w p t (Some x) = after (whole_proto_base w p) (whole_with (λ here. decls.parameter_faults x t here) (tokens 1 <⊗ mark (Mark.local x t)) (before (whole_tokens 1) (whole_mark _)))

whole_proto_parameter : (w : Whole) (p : ProtoParam) → IsWhole (proto_parameter w p)
whole_proto_parameter w p =
    before (whole_head w p (types.pointers_to w.tags p.base (types.parameter_stars p.stars p.brackets)) p.name) (whole_tokens (decls.bracket_tokens p.brackets))

whole_proto_parameters : (w : Whole) (p : ProtoParams) → IsWhole (proto_parameters w p)
whole_proto_parameters w ProtoParams.Empty = whole_given []
whole_proto_parameters w (ProtoParams.Void line) = whole_map (λ _. []) (tokens 1) (whole_tokens 1)
whole_proto_parameters w (ProtoParams.List ps) = whole_separated (all_whole (proto_parameter w) (whole_proto_parameter w) ps)

whole_proto : (w : Whole) (p : Proto) → IsWhole (proto w p)
whole_proto w p =
    before (before (after (after (after (after (whole_result_base w p.result)
    (whole_with (programs.proto_faults w p p.name (types.result_type w.tags p.result)) _ (before (whole_tokens 1) (whole_mark _)))) (whole_tokens 1)) (whole_mark _)) (whole_proto_parameters w p.params))
    (whole_mark _)) (whole_tokens 2)

pub whole_item : (w : Whole) (i : Item) → IsWhole (item w i)
whole_item w (Item.Struct d) = whole_map (λ _. []) (struct w d) (whole_struct w d)
whole_item w (Item.Decl d) = whole_map (λ _. []) (global_decl w d) (whole_global_decl w d)
whole_item w (Item.Function f) = whole_map _ _ (whole_function_text w f (types.result_type w.tags f.result))
whole_item w (Item.Proto p) = whole_map (λ _. []) (proto w p) (whole_proto w p)

pub whole_text : (w : Whole) (items : List Item) → IsWhole (text w items)
whole_text w items = whole_in_turn (all_whole (item w) (whole_item w) items)
