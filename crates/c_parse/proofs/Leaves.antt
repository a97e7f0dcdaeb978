-- Along a derivation the identifiers and numbers of the tokens are those of the tree, in order.
use Rattle.std.proofs.Common.{◌≡◌, ℕ, ℤ, Option, List, [], ◌∷◌, ◌++◌, refl, sym, ap, ◌∙◌, append_assoc, append-nil}
use Rattle.dfi_base.specs.declared.numbers.Line.{Line}
use Rattle.c_lex.specs.declared.token.Kind.{Kind}
use Rattle.c_ast.specs.declared.ident.Ident.{Ident}
use Rattle.c_ast.specs.declared.decl.Base.{Base}
use Rattle.c_ast.specs.declared.decl.TypeName.{TypeName}
use Rattle.c_ast.specs.declared.decl.ResultType.{ResultType}
use Rattle.c_ast.specs.declared.decl.Declarator.{Declarator}
use Rattle.c_ast.specs.declared.decl.Decl.{Decl}
use Rattle.c_ast.specs.declared.decl.DeclItem.{DeclItem}
use Rattle.c_ast.specs.declared.decl.Brackets.{Brackets}
use Rattle.c_ast.specs.declared.decl.Param.{Param}
use Rattle.c_ast.specs.declared.decl.ProtoParam.{ProtoParam}
use Rattle.c_ast.specs.declared.decl.Params.{Params}
use Rattle.c_ast.specs.declared.decl.ProtoParams.{ProtoParams}
use Rattle.c_ast.specs.declared.expr.Expr.{Expr}
use Rattle.c_ast.specs.declared.stmt.Simple.{Simple}
use Rattle.c_ast.specs.declared.stmt.ForStart.{ForStart}
use Rattle.c_ast.specs.declared.stmt.Block.{Block}
use Rattle.c_ast.specs.declared.stmt.BlockItem.{BlockItem}
use Rattle.c_ast.specs.declared.stmt.Stmt.{Stmt}
use Rattle.c_ast.specs.declared.program.Field.{Field}
use Rattle.c_ast.specs.declared.program.Item.{Item}
use Rattle.c_ast.specs.Leaves.{Leaf, name, number, Leaves, of_ident, of_all, of_option, of_base, of_type, of_result, of_length, of_brackets, of_declarator, of_param, of_proto_param, of_params, of_proto_params, of_expr, of_simple, of_decl_item, of_decl, of_start, of_block_item, of_stmt, of_block, of_field, of_item, leaves_of}
use Rattle.parse_law.specs.Nesting.{May}
use Rattle.c_parse.specs.declared.operators.Tier.{Tier}
use Rattle.c_parse.specs.Symbol.{Symbol, Symbols}
use Rattle.c_parse.specs.Types as t
use Rattle.c_parse.specs.Exprs as x
use Rattle.c_parse.specs.Stmts as st
use Rattle.c_parse.specs.Programs as p
use Rattle.c_parse.proofs.LeafSteps as step

abbrev pub leaf_of : Kind → Leaves
leaf_of (Kind.Word w) = []
leaf_of (Kind.Id n) = name n ∷ []
leaf_of (Kind.Num k) = number k ∷ []
leaf_of (Kind.Mark m) = []

abbrev pub leaves : Symbols → Leaves
leaves [] = []
leaves (s ∷ ts) = leaf_of s.kind ++ leaves ts

-- ---- parts

join : (L M z : Leaves) {x y : Leaves} → x ≡ L ++ y → y ≡ M ++ z → x ≡ (L ++ M) ++ z
join L M z e f = e ∙ (ap (λ w. L ++ w) f ∙ sym (append_assoc L M z))

carry : (L : Leaves) {x y z : Leaves} → x ≡ L ++ y → y ≡ z → x ≡ L ++ z
carry L e f = e ∙ ap (λ w. L ++ w) f

after : (k : Leaf) {x y : Leaves} → x ≡ y → k ∷ x ≡ k ∷ y
after k e = ap (λ w. k ∷ w) e

single : (L y : Leaves) {x : Leaves} → x ≡ L ++ y → x ≡ (L ++ []) ++ y
single L y e = e ∙ ap (λ w. w ++ y) (sym (append-nil L))

restated : (L M y : Leaves) {x : Leaves} → M ≡ L → x ≡ L ++ y → x ≡ M ++ y
restated L M y f e = e ∙ ap (λ w. w ++ y) (sym f)

extend : (A B C y : Leaves) {x z : Leaves} → x ≡ B ++ y → C ≡ A ++ B → C ++ y ≡ z → A ++ x ≡ z
extend A B C y e f g = ap (λ w. A ++ w) e ∙ (sym (append_assoc A B y) ∙ (ap (λ w. w ++ y) (sym f) ∙ g))

-- ---- types

base : {ts r : Symbols} {b : Base} → t.BaseAt ts b r → leaves ts ≡ of_base b ++ leaves r
base t.BaseAt.int = refl
base t.BaseAt.struct = refl

stars : {ts r : Symbols} {n : ℕ} → t.StarsAt ts n r → leaves ts ≡ leaves r
stars t.StarsAt.no_star = refl
stars (t.StarsAt.star d) = stars d

lengths : {ts r : Symbols} {ks : List ℤ} → t.LengthsAt ts ks r → leaves ts ≡ of_all of_length ks ++ leaves r
lengths t.LengthsAt.no_length = refl
lengths (t.LengthsAt.length d) = after _ (lengths d)

type_name : {ts r : Symbols} {a : TypeName} → t.TypeNameAt ts a r → leaves ts ≡ of_type a ++ leaves r
type_name (t.TypeNameAt.type_name d e) = carry _ (base d) (stars e)

result : {ts r : Symbols} {a : ResultType} → t.ResultAt ts a r → leaves ts ≡ of_result a ++ leaves r
result (t.ResultAt.value d e) = carry _ (base d) (stars e)
result t.ResultAt.void = refl

declarator : {ts r : Symbols} {a : Declarator} → t.DeclaratorAt ts a r → leaves ts ≡ of_declarator a ++ leaves r
declarator (t.DeclaratorAt.declarator d e) = stars d ∙ after _ (lengths e)

brackets : {ts r : Symbols} {a : Brackets} → t.BracketsAt ts a r → leaves ts ≡ of_brackets a ++ leaves r
brackets t.BracketsAt.absent = refl
brackets t.BracketsAt.empty = refl
brackets t.BracketsAt.length = refl

param : {ts r : Symbols} {a : Param} → t.ParamAt ts a r → leaves ts ≡ of_param a ++ leaves r
param (t.ParamAt.param {b} {k} {s} {o} {rest} d e f) =
    join (of_base b ++ (name k ∷ [])) (of_brackets s) (leaves rest) (join (of_base b) (name k ∷ []) (leaves o) (base d) (stars e)) (brackets f)

named : {ts r : Symbols} {a : Option Ident} → t.NameAt ts a r → leaves ts ≡ of_option of_ident a ++ leaves r
named t.NameAt.unnamed = refl
named t.NameAt.named = refl

proto_param : {ts r : Symbols} {a : ProtoParam} → t.ProtoParamAt ts a r → leaves ts ≡ of_proto_param a ++ leaves r
proto_param (t.ProtoParamAt.param {b} {i} {s} {u} {rest} d e f g) =
    join (of_base b ++ of_option of_ident i) (of_brackets s) (leaves rest) (join (of_base b) (of_option of_ident i) (leaves u) (base d) (stars e ∙ named f)) (brackets g)

params : {ts r : Symbols} {a : List Param} → t.ParamsAt ts a r → leaves ts ≡ of_all of_param a ++ leaves r
params (t.ParamsAt.last {p = a} {rest} d) = single (of_param a) (leaves rest) (param d)
params (t.ParamsAt.more {p = a} {ps} {rest} d e) = join (of_param a) (of_all of_param ps) (leaves rest) (param d) (params e)

proto_params : {ts r : Symbols} {a : List ProtoParam} → t.ProtoParamsAt ts a r → leaves ts ≡ of_all of_proto_param a ++ leaves r
proto_params (t.ProtoParamsAt.last {p = a} {rest} d) = single (of_proto_param a) (leaves rest) (proto_param d)
proto_params (t.ProtoParamsAt.more {p = a} {ps} {rest} d e) = join (of_proto_param a) (of_all of_proto_param ps) (leaves rest) (proto_param d) (proto_params e)

parameter_list : {ts r : Symbols} {a : Params} → t.ParameterListAt ts a r → leaves ts ≡ of_params a ++ leaves r
parameter_list t.ParameterListAt.empty = refl
parameter_list t.ParameterListAt.void = refl
parameter_list (t.ParameterListAt.list d) = params d

proto_list : {ts r : Symbols} {a : ProtoParams} → t.ProtoListAt ts a r → leaves ts ≡ of_proto_params a ++ leaves r
proto_list t.ProtoListAt.empty = refl
proto_list t.ProtoListAt.void = refl
proto_list (t.ProtoListAt.list d) = proto_params d

module _ (may : May Symbol) where
  -- ---- expressions

  mutual
    expr : {c : ℕ} {ts r : Symbols} {a : Expr} → x.ExprAt may c ts a r → leaves ts ≡ of_expr a ++ leaves r
    expr (x.ExprAt.expr d) = level d

    level : {tiers : List Tier} {c c' : ℕ} {ts r : Symbols} {a : Expr} → x.LevelAt may tiers c ts a r c' → leaves ts ≡ of_expr a ++ leaves r
    level (x.LevelAt.single d) = unary d
    level (x.LevelAt.level d ds) = level d ∙ operators ds

    operators : {tier : Tier} {tiers : List Tier} {l : Line} {c c' : ℕ} {ts r : Symbols} {a b : Expr}
        → x.OperatorsAt may tier tiers l c a ts b r c' → of_expr a ++ leaves ts ≡ of_expr b ++ leaves r
    operators x.OperatorsAt.no_operator = refl
    operators (x.OperatorsAt.binary {l} {op} {m} {a} {b} e h d ds) = extend (of_expr a) (of_expr b) _ (leaves m) (level d) (step.of_binary l a op b) (operators ds)

    unary : {c : ℕ} {ts r : Symbols} {a : Expr} → x.UnaryAt may c ts a r → leaves ts ≡ of_expr a ++ leaves r
    unary (x.UnaryAt.unary h d) = operand d

    operand : {c : ℕ} {ts r : Symbols} {a : Expr} → x.OperandAt may c ts a r → leaves ts ≡ of_expr a ++ leaves r
    operand (x.OperandAt.prefixed {l} {op} {rest} {a} e d) = restated (of_expr a) _ (leaves rest) (step.of_unary l op a) (unary d)
    operand (x.OperandAt.cast {l} {t = n} {rest} {a} d e) =
        restated (of_type n ++ of_expr a) _ (leaves rest) (step.of_cast l n a) (join (of_type n) (of_expr a) (leaves rest) (type_name d) (unary e))
    operand (x.OperandAt.suffixed d) = postfix d

    postfix : {c : ℕ} {ts r : Symbols} {a : Expr} → x.PostfixAt may c ts a r → leaves ts ≡ of_expr a ++ leaves r
    postfix (x.PostfixAt.postfix d ds) = primary d ∙ suffixes ds

    suffixes : {l : Line} {c c' : ℕ} {ts r : Symbols} {a b : Expr} → x.SuffixesAt may l c a ts b r c' → of_expr a ++ leaves ts ≡ of_expr b ++ leaves r
    suffixes x.SuffixesAt.no_suffix = refl
    suffixes (x.SuffixesAt.index {l} {m} {a} {b} h d ds) = extend (of_expr a) (of_expr b) _ (leaves m) (expr d) (step.of_index l a b) (suffixes ds)
    suffixes (x.SuffixesAt.field {l} {k} {n} {ts} {a} h ds) =
        extend (of_expr a) (name n ∷ []) _ (leaves ts) refl (step.of_field l a (record { line = k; name = n })) (suffixes ds)
    suffixes (x.SuffixesAt.arrow {l} {k} {n} {ts} {a} h ds) =
        extend (of_expr a) (name n ∷ []) _ (leaves ts) refl (step.of_arrow l a (record { line = k; name = n })) (suffixes ds)

    primary : {c : ℕ} {ts r : Symbols} {a : Expr} → x.PrimaryAt may c ts a r → leaves ts ≡ of_expr a ++ leaves r
    primary (x.PrimaryAt.numeral {l} {k} {rest}) = restated (number k ∷ []) _ (leaves rest) (step.of_number l k) refl
    primary (x.PrimaryAt.null {l} {rest}) = restated [] _ (leaves rest) (step.of_null l) refl
    primary (x.PrimaryAt.variable {n} {l} {rest}) = restated (name n ∷ []) _ (leaves rest) (step.of_name (record { line = l; name = n })) refl
    primary (x.PrimaryAt.called {f} {args} {rest} d) = restated (of_ident f ++ of_all of_expr args) _ (leaves rest) (step.of_call f args) (call d)
    primary (x.PrimaryAt.paren d) = expr d
    primary (x.PrimaryAt.sizeof {l} {t = n} {rest} d) = restated (of_type n) _ (leaves rest) (step.of_sizeof l n) (type_name d)

    call : {c : ℕ} {ts r : Symbols} {f : Ident} {args : List Expr} → x.CallAt may c ts f args r → leaves ts ≡ (of_ident f ++ of_all of_expr args) ++ leaves r
    call x.CallAt.no_argument = refl
    call (x.CallAt.call d) = after _ (arguments d)

    arguments : {c : ℕ} {ts r : Symbols} {args : List Expr} → x.ArgumentsAt may c ts args r → leaves ts ≡ of_all of_expr args ++ leaves r
    arguments (x.ArgumentsAt.last_argument {rest} {a} d) = single (of_expr a) (leaves rest) (expr d)
    arguments (x.ArgumentsAt.more_arguments {rest} {a} {others} d e) = join (of_expr a) (of_all of_expr others) (leaves rest) (expr d) (arguments e)

  -- ---- declarations and statements

  decl_item : {c : ℕ} {ts r : Symbols} {a : DeclItem} → st.DeclItemAt may c ts a r → leaves ts ≡ of_decl_item a ++ leaves r
  decl_item (st.DeclItemAt.plain {d = n} {rest} d) = single (of_declarator n) (leaves rest) (declarator d)
  decl_item (st.DeclItemAt.valued {d = n} {a} {rest} d e) = join (of_declarator n) (of_expr a) (leaves rest) (declarator d) (expr e)

  decl_items : {c : ℕ} {ts r : Symbols} {a : List DeclItem} → st.DeclItemsAt may c ts a r → leaves ts ≡ of_all of_decl_item a ++ leaves r
  decl_items (st.DeclItemsAt.last {i} {rest} d) = single (of_decl_item i) (leaves rest) (decl_item d)
  decl_items (st.DeclItemsAt.more {i} {others} {rest} d e) = join (of_decl_item i) (of_all of_decl_item others) (leaves rest) (decl_item d) (decl_items e)

  decl : {c : ℕ} {ts r : Symbols} {a : Decl} → st.DeclAt may c ts a r → leaves ts ≡ of_decl a ++ leaves r
  decl (st.DeclAt.decl {b} {items} {rest} d e) = join (of_base b) (of_all of_decl_item items) (leaves rest) (base d) (decl_items e)

  simple : {c : ℕ} {ts r : Symbols} {a : Simple} → st.SimpleAt may c ts a r → leaves ts ≡ of_simple a ++ leaves r
  simple (st.SimpleAt.assign {a} {b} {rest} d e f) = join (of_expr a) (of_expr b) (leaves rest) (unary d) (expr f)
  simple (st.SimpleAt.increment h d) = postfix d
  simple (st.SimpleAt.decrement h d) = postfix d
  simple (st.SimpleAt.pre_increment d) = unary d
  simple (st.SimpleAt.pre_decrement d) = unary d
  simple (st.SimpleAt.call h d) = call d

  optional_expr : {c : ℕ} {ts r : Symbols} {a : Option Expr} → st.OptionalExprAt may c ts a r → leaves ts ≡ of_option of_expr a ++ leaves r
  optional_expr st.OptionalExprAt.none = refl
  optional_expr (st.OptionalExprAt.some d) = expr d

  optional_simple : {c : ℕ} {ts r : Symbols} {a : Option Simple} → st.OptionalSimpleAt may c ts a r → leaves ts ≡ of_option of_simple a ++ leaves r
  optional_simple st.OptionalSimpleAt.none = refl
  optional_simple (st.OptionalSimpleAt.some d) = simple d

  for_start : {c : ℕ} {ts r : Symbols} {a : ForStart} → st.ForStartAt may c ts a r → leaves ts ≡ of_start a ++ leaves r
  for_start (st.ForStartAt.decl d) = decl d
  for_start (st.ForStartAt.simple d) = optional_simple d

  mutual
    stmt : {c : ℕ} {ts r : Symbols} {a : Stmt} → st.StmtAt may c ts a r → leaves ts ≡ of_stmt a ++ leaves r
    stmt (st.StmtAt.stmt h d) = statement d

    statement : {c : ℕ} {ts r : Symbols} {a : Stmt} → st.StatementAt may c ts a r → leaves ts ≡ of_stmt a ++ leaves r
    statement (st.StatementAt.braced {b} {rest} d) = restated (of_block b) _ (leaves rest) (step.of_braced b) (block d)
    statement (st.StatementAt.empty {l} {rest}) = restated [] _ (leaves rest) (step.of_empty l) refl
    statement (st.StatementAt.simple {a} {rest} d) = restated (of_simple a) _ (leaves rest) (step.of_simple_stmt a) (simple d)
    statement (st.StatementAt.return {l} {a} {rest} d) = restated (of_option of_expr a) _ (leaves rest) (step.of_return l a) (optional_expr d)
    statement (st.StatementAt.break {l} {rest}) = restated [] _ (leaves rest) (step.of_break l) refl
    statement (st.StatementAt.continue {l} {rest}) = restated [] _ (leaves rest) (step.of_continue l) refl
    statement (st.StatementAt.if_alone {l} {a} {x = v} {rest} d e h) =
        restated (of_expr a ++ of_stmt v ++ []) _ (leaves rest) (step.of_if l a v) (single (of_expr a ++ of_stmt v) (leaves rest) (join (of_expr a) (of_stmt v) (leaves rest) (expr d) (stmt e)))
    statement (st.StatementAt.if_else {l} {a} {x = v} {y = w} {o} {rest} d e f) =
        restated (of_expr a ++ of_stmt v ++ of_stmt w) _ (leaves rest) (step.of_if_else l a v w)
        (join (of_expr a ++ of_stmt v) (of_stmt w) (leaves rest) (join (of_expr a) (of_stmt v) (leaves o) (expr d) (stmt e)) (stmt f))
    statement (st.StatementAt.while {l} {a} {x = v} {rest} d e) =
        restated (of_expr a ++ of_stmt v) _ (leaves rest) (step.of_while l a v) (join (of_expr a) (of_stmt v) (leaves rest) (expr d) (stmt e))
    statement (st.StatementAt.for {l} {start} {a} {step = n} {x = v} {o} {u} {rest} d e f g) =
        restated (of_start start ++ of_option of_expr a ++ of_option of_simple n ++ of_stmt v) _ (leaves rest) (step.of_for l start a n v)
        (join (of_start start ++ of_option of_expr a ++ of_option of_simple n) (of_stmt v) (leaves rest)
        (join (of_start start ++ of_option of_expr a) (of_option of_simple n) (leaves u)
        (join (of_start start) (of_option of_expr a) (leaves o) (for_start d) (optional_expr e)) (optional_simple f)) (stmt g))
    statement (st.StatementAt.par {l} {branches = bs} {rest} d) = restated (of_all of_block bs) _ (leaves rest) (step.of_par l bs) (branches d)

    block : {c : ℕ} {ts r : Symbols} {a : Block Stmt} → st.BlockAt may c ts a r → leaves ts ≡ of_block a ++ leaves r
    block (st.BlockAt.block h d) = block_items d

    block_items : {c : ℕ} {ts r : Symbols} {a : List (BlockItem Stmt)} → st.BlockItemsAt may c ts a r → leaves ts ≡ of_all (of_block_item of_stmt) a ++ leaves r
    block_items st.BlockItemsAt.no_item = refl
    block_items (st.BlockItemsAt.declaration {d = n} {others} {rest} d e) = join (of_decl n) (of_all (of_block_item of_stmt) others) (leaves rest) (decl d) (block_items e)
    block_items (st.BlockItemsAt.statement {x = v} {others} {rest} d e) = join (of_stmt v) (of_all (of_block_item of_stmt) others) (leaves rest) (stmt d) (block_items e)

    branches : {c : ℕ} {ts r : Symbols} {a : List (Block Stmt)} → st.BranchesAt may c ts a r → leaves ts ≡ of_all of_block a ++ leaves r
    branches st.BranchesAt.no_branch = refl
    branches (st.BranchesAt.branch {b} {others} {rest} d e) = join (of_block b) (of_all of_block others) (leaves rest) (block d) (branches e)

-- ---- programs

declarators : {ts r : Symbols} {a : List Declarator} → p.DeclaratorsAt ts a r → leaves ts ≡ of_all of_declarator a ++ leaves r
declarators (p.DeclaratorsAt.last {d = n} {rest} d) = single (of_declarator n) (leaves rest) (declarator d)
declarators (p.DeclaratorsAt.more {d = n} {others} {rest} d e) = join (of_declarator n) (of_all of_declarator others) (leaves rest) (declarator d) (declarators e)

field : {ts r : Symbols} {a : Field} → p.FieldAt ts a r → leaves ts ≡ of_field a ++ leaves r
field (p.FieldAt.field {b} {items} {rest} d e) = join (of_base b) (of_all of_declarator items) (leaves rest) (base d) (declarators e)

fields : {ts r : Symbols} {a : List Field} → p.FieldsAt ts a r → leaves ts ≡ of_all of_field a ++ leaves r
fields (p.FieldsAt.last {f} {rest} d) = single (of_field f) (leaves rest) (field d)
fields (p.FieldsAt.more {f} {others} {rest} d e) = join (of_field f) (of_all of_field others) (leaves rest) (field d) (fields e)

item : (may : May Symbol) {ts r : Symbols} {a : Item} → p.ItemAt may ts a r → leaves ts ≡ of_item a ++ leaves r
item may (p.ItemAt.struct d) = after _ (fields d)
item may (p.ItemAt.decl d) = decl may d
item may (p.ItemAt.function {n} {t = y} {ps} {b} {m} {o} {rest} d e f) =
    join (of_result y ++ (name n ∷ []) ++ of_params ps) (of_block b) (leaves rest)
    (join (of_result y ++ (name n ∷ [])) (of_params ps) (leaves o) (join (of_result y) (name n ∷ []) (leaves m) (result d) refl) (parameter_list e)) (block may f)
item may (p.ItemAt.proto {n} {t = y} {ps} {m} {rest} d e) =
    join (of_result y ++ (name n ∷ [])) (of_proto_params ps) (leaves rest) (join (of_result y) (name n ∷ []) (leaves m) (result d) refl) (proto_list e)

pub program_leaves : (may : May Symbol) {ts : Symbols} {a : List Item} → p.ProgramAt may ts a → leaves ts ≡ leaves_of a
program_leaves may p.ProgramAt.none = refl
program_leaves may (p.ProgramAt.more {i} d e) = carry (of_item i) (item may d) (program_leaves may e)
