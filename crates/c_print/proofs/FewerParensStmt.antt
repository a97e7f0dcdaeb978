-- The tokens of a program are those that it was derived from, but for some parentheses.
use Rattle.std.proofs.Common.{◌≡◌, ℕ, List, [], ◌∷◌, ◌++◌, Option, Some, None, refl, ap, sym, subst}
use Rattle.std.specs.List.{flat_map}
use Rattle.c_lex.specs.declared.token.Mark.{Mark}
use Rattle.c_ast.specs.declared.decl.Decl.{Decl}
use Rattle.c_ast.specs.declared.decl.DeclItem.{DeclItem}
use Rattle.c_ast.specs.declared.decl.Declarator.{Declarator}
use Rattle.c_ast.specs.declared.expr.Expr.{Expr}
use Rattle.c_ast.specs.declared.stmt.AssignOp.{AssignOp}
use Rattle.c_ast.specs.declared.stmt.Simple.{Simple}
use Rattle.c_ast.specs.declared.stmt.ForStart.{ForStart}
use Rattle.c_ast.specs.declared.stmt.Block.{Block}
use Rattle.c_ast.specs.declared.stmt.BlockItem.{BlockItem}
use Rattle.c_ast.specs.declared.stmt.Stmt.{Stmt}
use Rattle.c_ast.specs.declared.program.Field.{Field}
use Rattle.c_ast.specs.declared.program.Item.{Item}
use Rattle.parse_law.specs.Nesting.{May}
use Rattle.c_parse.specs.Symbol.{Symbol, Symbols}
use Rattle.c_parse.specs.Operators.{assign_op}
use Rattle.c_parse.specs.Stmts as s
use Rattle.c_parse.specs.Programs as p
use Rattle.c_print.specs.Signs.{assign_sign}
use Rattle.c_print.specs.TreeTokens.{if_some, mark, of_block, of_block_item, of_decl, of_decl_item, of_declarator, of_expr, of_field, of_item, of_simple, of_start, of_stmt, of_whole, tokens_of, with_commas}
use Rattle.c_print.proofs.StmtForms as text
use Rattle.c_print.proofs.FewerParens.{Filled, Thin, same, keep, after_comma, as_kinds, base, both, closed, declarator, param_list, proto_list, result}
use Rattle.c_print.proofs.FewerParensExpr.{call_thin, expr_thin, postfix_thin, unary_thin}

abbrev FitsAssign : Mark → Option AssignOp → Type 0
FitsAssign k None = Unit {0}
FitsAssign k (Some op) = k ≡ assign_sign op

fits_assign : (k : Mark) → FitsAssign k (assign_op k)
fits_assign Mark.Assign = refl
fits_assign Mark.PlusAssign = refl
fits_assign Mark.MinusAssign = refl
fits_assign Mark.StarAssign = refl
fits_assign Mark.SlashAssign = refl
fits_assign Mark.PercentAssign = refl
fits_assign Mark.AndAssign = refl
fits_assign Mark.OrAssign = refl
fits_assign Mark.XorAssign = refl
fits_assign Mark.ShiftLeftAssign = refl
fits_assign Mark.ShiftRightAssign = refl
fits_assign _ = tt

sign_assign_is : (k : Mark) (op : AssignOp) → assign_op k ≡ Some op → k ≡ assign_sign op
sign_assign_is k op e = subst (FitsAssign k) e (fits_assign k)

-- ---- declarations and simple statements

item_thin : {may : May Symbol} {c : ℕ} {ts us : Symbols} {i : DeclItem} → s.DeclItemAt may c ts i us → Thin ts (of_decl_item i) us
item_thin (s.plain d) = both (declarator d) same
item_thin (s.valued d e) = both (declarator d) (keep (expr_thin e))

filled_items : {may : May Symbol} {c : ℕ} {ts us : Symbols} {is : List DeclItem} → s.DeclItemsAt may c ts is us → Filled is
filled_items (s.last d) = tt
filled_items (s.more d ds) = tt

items_thin : {may : May Symbol} {c : ℕ} {ts us : Symbols} {is : List DeclItem} → s.DeclItemsAt may c ts is us → Thin ts (with_commas of_decl_item is) us
items_thin (s.last d) = both (item_thin d) same
items_thin (s.more {others = others} d ds) = both (item_thin d) (after_comma of_decl_item others (filled_items ds) (items_thin ds))

decl_thin : {may : May Symbol} {c : ℕ} {ts us : Symbols} {d : Decl} → s.DeclAt may c ts d us → Thin ts (of_decl d) us
decl_thin (s.decl b d) = both (base b) (closed (items_thin d))

simple_thin : {may : May Symbol} {c : ℕ} {ts us : Symbols} {x : Simple} → s.SimpleAt may c ts x us → Thin ts (of_simple x) us
simple_thin (s.assign {k = k} {op = op} {a = a} {b = b} u e x) =
    as_kinds (ap (λ m. of_expr a 10 ++ mark m ∷ of_whole b) (sym (sign_assign_is k op e))) (both (unary_thin u) (keep (expr_thin x)))
simple_thin (s.increment w u) = closed (postfix_thin u)
simple_thin (s.decrement w u) = closed (postfix_thin u)
simple_thin (s.pre_increment u) = keep (unary_thin u)
simple_thin (s.pre_decrement u) = keep (unary_thin u)
simple_thin (s.call w x) = call_thin x

value_thin : {may : May Symbol} {c : ℕ} {ts us : Symbols} {a : Option Expr} → s.OptionalExprAt may c ts a us → Thin ts (if_some of_whole a) us
value_thin s.none = same
value_thin (s.some e) = expr_thin e

step_thin : {may : May Symbol} {c : ℕ} {ts us : Symbols} {a : Option Simple} → s.OptionalSimpleAt may c ts a us → Thin ts (if_some of_simple a) us
step_thin s.none = same
step_thin (s.some x) = simple_thin x

start_thin : {may : May Symbol} {c : ℕ} {ts us : Symbols} {x : ForStart} → s.ForStartAt may c ts x us → Thin ts (of_start x) us
start_thin (s.decl d) = decl_thin d
start_thin (s.simple d) = closed (step_thin d)

-- ---- statements

mutual
  stmt_thin : {may : May Symbol} {c : ℕ} {ts us : Symbols} {x : Stmt} → s.StmtAt may c ts x us → Thin ts (of_stmt x) us
  stmt_thin (s.stmt w d) = statement_thin d

  statement_thin : {may : May Symbol} {c : ℕ} {ts us : Symbols} {x : Stmt} → s.StatementAt may c ts x us → Thin ts (of_stmt x) us
  statement_thin (s.braced {b = b} d) = as_kinds (text.block b) (block_thin d)
  statement_thin (s.empty {l = l}) = as_kinds (text.empty l) (keep same)
  statement_thin (s.simple {a = a} d) = as_kinds (text.simple a) (closed (simple_thin d))
  statement_thin (s.return {l = l} {a = a} d) = as_kinds (text.returned l a) (keep (closed (value_thin d)))
  statement_thin (s.break {l = l}) = as_kinds (text.broken l) (keep (keep same))
  statement_thin (s.continue {l = l}) = as_kinds (text.continued l) (keep (keep same))
  statement_thin (s.if_alone {l = l} {a = a} {x = x} e d n) =
      as_kinds (text.if_alone l a x) (both (both (keep (keep (closed (expr_thin e)))) (stmt_thin d)) same)
  statement_thin (s.if_else {l = l} {a = a} {x = x} {y = y} e d f) =
      as_kinds (text.if_else l a x y) (both (both (keep (keep (closed (expr_thin e)))) (stmt_thin d)) (keep (stmt_thin f)))
  statement_thin (s.while {l = l} {a = a} {x = x} e d) = as_kinds (text.while l a x) (both (keep (keep (closed (expr_thin e)))) (stmt_thin d))
  statement_thin (s.for {l = l} {start = start} {a = a} {step = step} {x = x} e i j d) =
      as_kinds (text.for l start a step x)
      (both (keep (keep (closed (both (both (start_thin e) (closed (value_thin i))) (step_thin j))))) (stmt_thin d))
  statement_thin (s.par {l = l} {branches = bs} d) = as_kinds (text.par l bs) (keep (keep (closed (branches_thin d))))

  block_thin : {may : May Symbol} {c : ℕ} {ts us : Symbols} {b : Block Stmt} → s.BlockAt may c ts b us → Thin ts (of_block b) us
  block_thin (s.block w d) = keep (closed (block_items_thin d))

  block_items_thin : {may : May Symbol} {c : ℕ} {ts us : Symbols} {is : List (BlockItem Stmt)} → s.BlockItemsAt may c ts is us → Thin ts (flat_map (of_block_item of_stmt) is) us
  block_items_thin s.no_item = same
  block_items_thin (s.declaration d ds) = both (decl_thin d) (block_items_thin ds)
  block_items_thin (s.statement d ds) = both (stmt_thin d) (block_items_thin ds)

  branches_thin : {may : May Symbol} {c : ℕ} {ts us : Symbols} {bs : List (Block Stmt)} → s.BranchesAt may c ts bs us → Thin ts (flat_map of_block bs) us
  branches_thin s.no_branch = same
  branches_thin (s.branch d ds) = both (block_thin d) (branches_thin ds)

-- ---- programs

filled_declarators : {ts us : Symbols} {ds : List Declarator} → p.DeclaratorsAt ts ds us → Filled ds
filled_declarators (p.last d) = tt
filled_declarators (p.more d ds) = tt

declarators_thin : {ts us : Symbols} {ds : List Declarator} → p.DeclaratorsAt ts ds us → Thin ts (with_commas of_declarator ds) us
declarators_thin (p.last d) = both (declarator d) same
declarators_thin (p.more {others = others} d ds) = both (declarator d) (after_comma of_declarator others (filled_declarators ds) (declarators_thin ds))

field_thin : {ts us : Symbols} {x : Field} → p.FieldAt ts x us → Thin ts (of_field x) us
field_thin (p.field b d) = both (base b) (closed (declarators_thin d))

fields_thin : {ts us : Symbols} {xs : List Field} → p.FieldsAt ts xs us → Thin ts (flat_map of_field xs) us
fields_thin (p.last d) = both (field_thin d) same
fields_thin (p.more d ds) = both (field_thin d) (fields_thin ds)

one_item_thin : {may : May Symbol} {ts us : Symbols} {x : Item} → p.ItemAt may ts x us → Thin ts (of_item x) us
one_item_thin (p.struct d) = keep (keep (both (keep (closed (fields_thin d))) (keep same)))
one_item_thin (p.decl d) = decl_thin d
one_item_thin (p.function r d b) = both (both (result r) (keep (keep (closed (param_list d))))) (block_thin b)
one_item_thin (p.proto r d) = both (result r) (keep (both (keep (closed (proto_list d))) (keep same)))

pub program_thin : {may : May Symbol} {ts : Symbols} {xs : List Item} → p.ProgramAt may ts xs → Thin ts (tokens_of xs) []
program_thin p.none = same
program_thin (p.more d ds) = both (one_item_thin d) (program_thin ds)
