-- The faults of a program.
use Rattle.std.proofs.Common.{◌≡◌, ◌+◌, ap, List, [], ◌∷◌, map, Option, arith}
use Rattle.c_ast.specs.declared.decl.Base.{Base}
use Rattle.c_ast.specs.declared.decl.Decl.{Decl}
use Rattle.c_ast.specs.declared.decl.DeclItem.{DeclItem}
use Rattle.c_ast.specs.declared.decl.ResultType.{ResultType}
use Rattle.c_ast.specs.declared.decl.Params.{Params}
use Rattle.c_ast.specs.declared.decl.ProtoParams.{ProtoParams}
use Rattle.c_ast.specs.declared.stmt.Block.{Block}
use Rattle.c_ast.specs.declared.stmt.BlockItem.{BlockItem}
use Rattle.c_ast.specs.declared.stmt.Stmt.{Stmt as SourceStmt}
use Rattle.c_ast.specs.declared.program.StructDef.{StructDef}
use Rattle.c_ast.specs.declared.program.Function.{Function as SourceFunction}
use Rattle.c_ast.specs.declared.program.Proto.{Proto}
use Rattle.c_ast.specs.declared.program.Item.{Item}
use Rattle.c_typed.specs.declared.types.ObjectType.{ObjectType}
use Rattle.c_typed.specs.Whole.{Whole}
use Rattle.c_typed.specs.Parts.{Place, Part, tokens, mark, in_turn, ◌<⊗◌, ◌⊗>◌}
use Rattle.c_typed.specs.declared.fault.BigWhat.{BigWhat}
use Rattle.c_typed.specs.Faults.{Fault, unknown, twice, mismatch, big, unless}
use Rattle.std.specs.Prelude.{not}
use Rattle.c_typed.specs.Marks.{Opening, opens, closes, tag, has_tag}
use Rattle.c_typed.specs.Types as types
use Rattle.c_typed.specs.Decls as decls
use Rattle.c_typed.specs.Programs as programs
use Rattle.c_typed.specs.Stmts.{block_item}
use Rattle.c_typed.specs.Programs.{struct, global_item, global_decl, result_base, parameters, with_part, function_body, function_text, function_item, proto_parameters, proto, item, text}
use Rattle.line_law.proofs.Lined.{IsIn, AllAt, in_unless, unless_at, both_at, lined_at}
use Rattle.line_law.proofs.Parts.{IsInside, inside, inside_tokens, inside_given, inside_map, inside_mark, inside_with, AllInside, nil, each, all_inside, before, after, inside_in_turn, inside_separated, IsBehind, behind_tokens, behind_first}
use Rattle.line_law.proofs.Exprs.{bounded_base}
use Rattle.line_law.proofs.Decls.{BeginsWithName, AllOf, all_both, of_lengths, of_name, lined_declarator, inside_fields, inside_local_decl, inside_parameter, inside_proto_parameter}
use Rattle.line_law.proofs.Stmts.{inside_stmt, inside_body}

-- A tag is told once, before its fields.
inside_struct_fields : (w : Whole) (d : StructDef) → IsInside (in_turn (map (decls.fields w) d.fields))
inside_struct_fields w d = inside_in_turn (all_inside (decls.fields w) (inside_fields w) d.fields)

abbrev inner : Whole → StructDef → Part (List (List (Unit {0})))
inner w d = tokens 3 ⊗> mark (opens Opening.fields) ⊗> in_turn (map (decls.fields w) d.fields) <⊗ tokens 2 <⊗ mark closes <⊗ mark (tag d.tag.name)

behind_tag : (w : Whole) (d : StructDef) → IsBehind 3 (inner w d)
behind_tag w d =
    let fields = in_turn (map (decls.fields w) d.fields) in
    let p = tokens 3 ⊗> mark (opens Opening.fields) in
    let far = behind_first (λ a b. b) 3 (tokens 3) (mark (opens Opening.fields)) (omega arith) (behind_tokens 3 3) (inside_mark (opens Opening.fields)) in
    let next = behind_first (λ a b. b) 3 p fields (omega arith) far (inside_struct_fields w d) in
    let more = behind_first (λ a b. a) 3 (p ⊗> fields) (tokens 2) (omega arith) next (inside_tokens 2) in
    let last = behind_first (λ a b. a) 3 (p ⊗> fields <⊗ tokens 2) (mark closes) (omega arith) more (inside_mark closes) in
    behind_first (λ a b. a) 3 (p ⊗> fields <⊗ tokens 2 <⊗ mark closes) (mark (tag d.tag.name)) (omega arith) last (inside_mark (tag d.tag.name))

pub inside_struct : (w : Whole) (d : StructDef) → IsInside (struct w d)
inside_struct w d =
    inside_with (λ here. unless (not (has_tag d.tag.name here.before)) (here.at + 1) twice d.tag.line) (inner w d)
    (λ here. lined_at (omega arith) (omega arith) (unless_at (not (has_tag d.tag.name here.before)) (here.at + 1) twice d.tag.line)) (λ here f g h k. λ a r. by here f g h k a)
    (before (before (before (after (after (inside_tokens 3) (inside_mark _)) (inside_struct_fields w d)) (inside_tokens 2)) (inside_mark _)) (inside_mark _))
  where
    by : (here : Place) (f g : Fault) → IsIn f (unless (not (has_tag d.tag.name here.before)) (here.at + 1) twice d.tag.line) → IsIn g ((inner w d).judge here).faults
        → f.at ≡ g.at → f.line ≡ g.line
    by here f g h k a =
        let e = ap (λ (x : Fault). x.at) (in_unless (not (has_tag d.tag.name here.before)) (here.at + 1) twice d.tag.line f h) in
        let s = behind_tag w d here g k in
        absurd (omega (arith, e, s, a))

all_of_global : (w : Whole) (i : DeclItem) (t : ObjectType) → BeginsWithName i.declarator → (here : Place) → AllOf i.declarator here (programs.global_faults w i i.declarator t here)
all_of_global w i t begins here =
    let d = i.declarator in
    all_both (all_both (all_both (all_both (of_lengths d here _) (of_name d here _ twice (λ e. begins))) (of_name d here _ mismatch (λ e. begins)))
    (of_name d here _ (big BigWhat.Shape) (λ e. begins))) (of_name d here _ (big BigWhat.Globals) (λ e. begins))

pub inside_global_item : (w : Whole) (b : Base) (i : DeclItem) → BeginsWithName i.declarator → IsInside (global_item w b i)
inside_global_item w b i begins =
    before (inside_with _ _ (λ here. lined_declarator (all_of_global w i (types.declared_type w.tags b i.declarator) begins here)) (λ here f g h k. absurd k)
    (before (inside_tokens _) (inside_mark _))) (inside_tokens _)

-- What the grammar gives of declarators.
abbrev pub AllBegin : List DeclItem → Type 0
AllBegin [] = Unit {0}
AllBegin (i ∷ is) = BeginsWithName i.declarator × AllBegin is

all_globals : (w : Whole) (b : Base) (is : List DeclItem) → AllBegin is → AllInside (map (global_item w b) is)
all_globals w b [] begin = nil
all_globals w b (i ∷ is) begin = each (inside_global_item w b i begin.0) (all_globals w b is begin.1)

pub inside_global_decl : (w : Whole) (d : Decl) → AllBegin d.items → IsInside (global_decl w d)
inside_global_decl w d begin =
    before (after (inside _ (bounded_base w (decls.by_value (map (λ i. i.declarator) d.items)) d.base)) (inside_separated (all_globals w d.base d.items begin))) (inside_tokens 1)

pub inside_result_base : (w : Whole) (r : ResultType) → IsInside (result_base w r)
inside_result_base w (ResultType.Void line) = inside_tokens 1
inside_result_base w (ResultType.Type b stars) = after (inside _ (bounded_base w _ b)) (inside_tokens stars)

pub inside_parameters : (w : Whole) (p : Params) → IsInside (parameters w p)
inside_parameters w Params.Empty = inside_given []
inside_parameters w (Params.Void line) = inside_map (λ _. []) (tokens 1) (inside_tokens 1)
inside_parameters w (Params.List ps) = inside_separated (all_inside (decls.parameter w) (inside_parameter w) ps)

pub all_items : (w : Whole) (xs : List (BlockItem SourceStmt)) → AllInside (map (block_item w) (map (with_part w) xs))
all_items w [] = nil
all_items w (BlockItem.Decl d ∷ xs) = each (inside_local_decl w d) (all_items w xs)
all_items w (BlockItem.Stmt s ∷ xs) = each (inside_stmt w s) (all_items w xs)

pub inside_function_body : (w : Whole) (b : Block SourceStmt) → IsInside (function_body w b)
inside_function_body w b = inside_body w (record { line = b.line; items = map (with_part w) b.items; close = b.close }) (all_items w b.items)

all_at_name : (w : Whole) (f : SourceFunction) (result : Option ObjectType) (here : Place) → AllAt here.at f.name.line (programs.function_faults w f f.name result here)
all_at_name w f result here =
    both_at (both_at (unless_at _ here.at twice f.name.line) (unless_at _ here.at mismatch f.name.line)) (unless_at _ here.at (big BigWhat.Functions) f.name.line)

pub inside_function_text : (w : Whole) (f : SourceFunction) (result : Option ObjectType) → IsInside (function_text w f result)
inside_function_text w f result =
    before (after (after (after (after (after (inside_result_base w f.result)
    (inside_with (programs.function_faults w f f.name result) _ (λ here. lined_at (omega arith) (omega arith) (all_at_name w f result here)) (λ here f g h k. absurd k) (before (inside_tokens 1) (inside_mark _))))
    (inside_tokens 1)) (inside_parameters w f.params)) (inside_tokens 1)) (inside_function_body w f.body)) (inside_mark _)

pub inside_function_item : (w : Whole) (f : SourceFunction) → IsInside (function_item w f)
inside_function_item w f = inside_map _ _ (inside_function_text w f _)

pub inside_proto_parameters : (w : Whole) (p : ProtoParams) → IsInside (proto_parameters w p)
inside_proto_parameters w ProtoParams.Empty = inside_given []
inside_proto_parameters w (ProtoParams.Void line) = inside_map (λ _. []) (tokens 1) (inside_tokens 1)
inside_proto_parameters w (ProtoParams.List ps) = inside_separated (all_inside (decls.proto_parameter w) (inside_proto_parameter w) ps)

all_at_proto : (w : Whole) (p : Proto) (result : Option ObjectType) (here : Place) → AllAt here.at p.name.line (programs.proto_faults w p p.name result here)
all_at_proto w p result here =
    both_at (both_at (unless_at _ here.at unknown p.name.line) (unless_at _ here.at twice p.name.line)) (unless_at _ here.at mismatch p.name.line)

pub inside_proto : (w : Whole) (p : Proto) → IsInside (proto w p)
inside_proto w p =
    before (before (after (after (after (after (inside_result_base w p.result)
    (inside_with (programs.proto_faults w p p.name (types.result_type w.tags p.result)) _ (λ here. lined_at (omega arith) (omega arith) (all_at_proto w p (types.result_type w.tags p.result) here)) (λ here f g h k. absurd k) (before (inside_tokens 1) (inside_mark _))))
    (inside_tokens 1)) (inside_mark _)) (inside_proto_parameters w p.params)) (inside_mark _)) (inside_tokens 2)

abbrev pub ItemBegins : Item → Type 0
ItemBegins (Item.Decl d) = AllBegin d.items
ItemBegins i = Unit {0}

pub inside_item : (w : Whole) (i : Item) → ItemBegins i → IsInside (item w i)
inside_item w (Item.Struct d) begins = inside_map (λ _. []) _ (inside_struct w d)
inside_item w (Item.Decl d) begins = inside_map (λ _. []) _ (inside_global_decl w d begins)
inside_item w (Item.Function f) begins = inside_function_item w f
inside_item w (Item.Proto p) begins = inside_map (λ _. []) _ (inside_proto w p)

abbrev pub AllItemsBegin : List Item → Type 0
AllItemsBegin [] = Unit {0}
AllItemsBegin (i ∷ is) = ItemBegins i × AllItemsBegin is

all_texts : (w : Whole) (is : List Item) → AllItemsBegin is → AllInside (map (item w) is)
all_texts w [] begin = nil
all_texts w (i ∷ is) begin = each (inside_item w i begin.0) (all_texts w is begin.1)

pub inside_text : (w : Whole) (items : List Item) → AllItemsBegin items → IsInside (text w items)
inside_text w items begin = inside_in_turn (all_texts w items begin)
