-- However deep it is, a list of tokens has one tree, and one answer.
use Rattle.std.proofs.Common.{◌≡◌, ℕ, suc, ◌+◌, Option, List, ◌++◌, arith}
use Rattle.dfi_base.specs.declared.numbers.Line.{Line}
use Rattle.c_ast.specs.declared.ident.Ident.{Ident}
use Rattle.c_ast.specs.declared.decl.Decl.{Decl}
use Rattle.c_ast.specs.declared.decl.DeclItem.{DeclItem}
use Rattle.c_ast.specs.declared.expr.Expr.{Expr}
use Rattle.c_ast.specs.declared.stmt.Simple.{Simple}
use Rattle.c_ast.specs.declared.stmt.ForStart.{ForStart}
use Rattle.c_ast.specs.declared.stmt.Block.{Block}
use Rattle.c_ast.specs.declared.stmt.BlockItem.{BlockItem}
use Rattle.c_ast.specs.declared.stmt.Stmt.{Stmt}
use Rattle.c_ast.specs.declared.program.Item.{Item}
use Rattle.parse_law.specs.Nesting.{Anywhere}
use Rattle.parse_law.specs.FirstFault.{Continues}
use Rattle.parse_law.specs.Tells.{HasOneAnswer}
use Rattle.parse_law.proofs.Verdicts.{continues_prefix}
use Rattle.parse_law.proofs.OneAnswer.{Bounded, one_tree, one_answer}
use Rattle.c_parse.specs.declared.operators.Tier.{Tier}
use Rattle.c_parse.specs.Symbol.{Symbols}
use Rattle.c_parse.specs.Exprs as x
use Rattle.c_parse.specs.Stmts as st
use Rattle.c_parse.specs.Programs as p
use Rattle.c_parse.specs.Programs.{ProgramAt}
use Rattle.c_parse.specs.tools.ProgramParser as spec
use Rattle.c_parse.proofs.ProgramLaws.{program_law, program_tells}
use Rattle.dfi_base.specs.Limits.{nesting_limit}

mutual
  expr : {c : ℕ} {ts r : Symbols} {a : Expr} → x.ExprAt Anywhere c ts a r → Bounded (λ M. x.ExprAt M c ts a r)
  expr (x.ExprAt.expr d) = let (m, f) = level d in (m, λ M l. x.ExprAt.expr (f M l))

  level : {tiers : List Tier} {c c' : ℕ} {ts r : Symbols} {a : Expr} → x.LevelAt Anywhere tiers c ts a r c' → Bounded (λ M. x.LevelAt M tiers c ts a r c')
  level (x.LevelAt.single d) = let (m, f) = unary d in (m, λ M l. x.LevelAt.single (f M l))
  level (x.LevelAt.level d ds) = let (m, f) = level d in let (n, g) = operators ds in
      (m + n, λ M l. x.LevelAt.level (f M (λ e us h. l e us (omega arith))) (g M (λ e us h. l e us (omega arith))))

  operators : {tier : Tier} {tiers : List Tier} {l : Line} {c c' : ℕ} {ts r : Symbols} {a b : Expr}
      → x.OperatorsAt Anywhere tier tiers l c a ts b r c' → Bounded (λ M. x.OperatorsAt M tier tiers l c a ts b r c')
  operators x.OperatorsAt.no_operator = (0, λ M l. x.OperatorsAt.no_operator)
  operators {c = c} (x.OperatorsAt.binary e may d ds) = let (m, f) = level d in let (n, g) = operators ds in
      (suc c + m + n, λ M l. x.OperatorsAt.binary e (l c _ (omega arith)) (f M (λ e us h. l e us (omega arith))) (g M (λ e us h. l e us (omega arith))))

  unary : {c : ℕ} {ts r : Symbols} {a : Expr} → x.UnaryAt Anywhere c ts a r → Bounded (λ M. x.UnaryAt M c ts a r)
  unary {c = c} (x.UnaryAt.unary may d) = let (m, f) = operand d in (suc c + m, λ M l. x.UnaryAt.unary (l c _ (omega arith)) (f M (λ e us h. l e us (omega arith))))

  operand : {c : ℕ} {ts r : Symbols} {a : Expr} → x.OperandAt Anywhere c ts a r → Bounded (λ M. x.OperandAt M c ts a r)
  operand (x.OperandAt.prefixed e d) = let (m, f) = unary d in (m, λ M l. x.OperandAt.prefixed e (f M l))
  operand (x.OperandAt.cast e d) = let (m, f) = unary d in (m, λ M l. x.OperandAt.cast e (f M l))
  operand (x.OperandAt.suffixed d) = let (m, f) = postfix d in (m, λ M l. x.OperandAt.suffixed (f M l))

  postfix : {c : ℕ} {ts r : Symbols} {a : Expr} → x.PostfixAt Anywhere c ts a r → Bounded (λ M. x.PostfixAt M c ts a r)
  postfix (x.PostfixAt.postfix d ds) = let (m, f) = primary d in let (n, g) = suffixes ds in
      (m + n, λ M l. x.PostfixAt.postfix (f M (λ e us h. l e us (omega arith))) (g M (λ e us h. l e us (omega arith))))

  suffixes : {l : Line} {c c' : ℕ} {ts r : Symbols} {a b : Expr} → x.SuffixesAt Anywhere l c a ts b r c' → Bounded (λ M. x.SuffixesAt M l c a ts b r c')
  suffixes x.SuffixesAt.no_suffix = (0, λ M l. x.SuffixesAt.no_suffix)
  suffixes {c = c} (x.SuffixesAt.index may d ds) = let (m, f) = expr d in let (n, g) = suffixes ds in
      (suc c + m + n, λ M l. x.SuffixesAt.index (l c _ (omega arith)) (f M (λ e us h. l e us (omega arith))) (g M (λ e us h. l e us (omega arith))))
  suffixes {c = c} (x.SuffixesAt.field may ds) = let (n, g) = suffixes ds in
      (suc c + n, λ M l. x.SuffixesAt.field (l c _ (omega arith)) (g M (λ e us h. l e us (omega arith))))
  suffixes {c = c} (x.SuffixesAt.arrow may ds) = let (n, g) = suffixes ds in
      (suc c + n, λ M l. x.SuffixesAt.arrow (l c _ (omega arith)) (g M (λ e us h. l e us (omega arith))))

  primary : {c : ℕ} {ts r : Symbols} {a : Expr} → x.PrimaryAt Anywhere c ts a r → Bounded (λ M. x.PrimaryAt M c ts a r)
  primary x.PrimaryAt.numeral = (0, λ M l. x.PrimaryAt.numeral)
  primary x.PrimaryAt.null = (0, λ M l. x.PrimaryAt.null)
  primary x.PrimaryAt.variable = (0, λ M l. x.PrimaryAt.variable)
  primary (x.PrimaryAt.called d) = let (m, f) = call d in (m, λ M l. x.PrimaryAt.called (f M l))
  primary (x.PrimaryAt.paren d) = let (m, f) = expr d in (m, λ M l. x.PrimaryAt.paren (f M l))
  primary (x.PrimaryAt.sizeof d) = (0, λ M l. x.PrimaryAt.sizeof d)

  call : {c : ℕ} {ts r : Symbols} {i : Ident} {args : List Expr} → x.CallAt Anywhere c ts i args r → Bounded (λ M. x.CallAt M c ts i args r)
  call x.CallAt.no_argument = (0, λ M l. x.CallAt.no_argument)
  call (x.CallAt.call d) = let (m, f) = arguments d in (m, λ M l. x.CallAt.call (f M l))

  arguments : {c : ℕ} {ts r : Symbols} {args : List Expr} → x.ArgumentsAt Anywhere c ts args r → Bounded (λ M. x.ArgumentsAt M c ts args r)
  arguments (x.ArgumentsAt.last_argument d) = let (m, f) = expr d in (m, λ M l. x.ArgumentsAt.last_argument (f M l))
  arguments (x.ArgumentsAt.more_arguments d ds) = let (m, f) = expr d in let (n, g) = arguments ds in
      (m + n, λ M l. x.ArgumentsAt.more_arguments (f M (λ e us h. l e us (omega arith))) (g M (λ e us h. l e us (omega arith))))

decl_item : {c : ℕ} {ts r : Symbols} {a : DeclItem} → st.DeclItemAt Anywhere c ts a r → Bounded (λ M. st.DeclItemAt M c ts a r)
decl_item (st.DeclItemAt.plain d) = (0, λ M l. st.DeclItemAt.plain d)
decl_item (st.DeclItemAt.valued e d) = let (m, f) = expr d in (m, λ M l. st.DeclItemAt.valued e (f M l))

decl_items : {c : ℕ} {ts r : Symbols} {a : List DeclItem} → st.DeclItemsAt Anywhere c ts a r → Bounded (λ M. st.DeclItemsAt M c ts a r)
decl_items (st.DeclItemsAt.last d) = let (m, f) = decl_item d in (m, λ M l. st.DeclItemsAt.last (f M l))
decl_items (st.DeclItemsAt.more d ds) = let (m, f) = decl_item d in let (n, g) = decl_items ds in
    (m + n, λ M l. st.DeclItemsAt.more (f M (λ e us h. l e us (omega arith))) (g M (λ e us h. l e us (omega arith))))

decl : {c : ℕ} {ts r : Symbols} {a : Decl} → st.DeclAt Anywhere c ts a r → Bounded (λ M. st.DeclAt M c ts a r)
decl (st.DeclAt.decl e d) = let (m, f) = decl_items d in (m, λ M l. st.DeclAt.decl e (f M l))

simple : {c : ℕ} {ts r : Symbols} {a : Simple} → st.SimpleAt Anywhere c ts a r → Bounded (λ M. st.SimpleAt M c ts a r)
simple (st.SimpleAt.assign d e ds) = let (m, f) = unary d in let (n, g) = expr ds in
    (m + n, λ M l. st.SimpleAt.assign (f M (λ e us h. l e us (omega arith))) e (g M (λ e us h. l e us (omega arith))))
simple {c = c} (st.SimpleAt.increment may d) = let (m, f) = postfix d in (suc c + m, λ M l. st.SimpleAt.increment (l c _ (omega arith)) (f M (λ e us h. l e us (omega arith))))
simple {c = c} (st.SimpleAt.decrement may d) = let (m, f) = postfix d in (suc c + m, λ M l. st.SimpleAt.decrement (l c _ (omega arith)) (f M (λ e us h. l e us (omega arith))))
simple (st.SimpleAt.pre_increment d) = let (m, f) = unary d in (m, λ M l. st.SimpleAt.pre_increment (f M l))
simple (st.SimpleAt.pre_decrement d) = let (m, f) = unary d in (m, λ M l. st.SimpleAt.pre_decrement (f M l))
simple {c = c} (st.SimpleAt.call may d) = let (m, f) = call d in (suc c + m, λ M l. st.SimpleAt.call (l c _ (omega arith)) (f M (λ e us h. l e us (omega arith))))

optional_expr : {c : ℕ} {ts r : Symbols} {a : Option Expr} → st.OptionalExprAt Anywhere c ts a r → Bounded (λ M. st.OptionalExprAt M c ts a r)
optional_expr st.OptionalExprAt.none = (0, λ M l. st.OptionalExprAt.none)
optional_expr (st.OptionalExprAt.some d) = let (m, f) = expr d in (m, λ M l. st.OptionalExprAt.some (f M l))

optional_simple : {c : ℕ} {ts r : Symbols} {a : Option Simple} → st.OptionalSimpleAt Anywhere c ts a r → Bounded (λ M. st.OptionalSimpleAt M c ts a r)
optional_simple st.OptionalSimpleAt.none = (0, λ M l. st.OptionalSimpleAt.none)
optional_simple (st.OptionalSimpleAt.some d) = let (m, f) = simple d in (m, λ M l. st.OptionalSimpleAt.some (f M l))

for_start : {c : ℕ} {ts r : Symbols} {a : ForStart} → st.ForStartAt Anywhere c ts a r → Bounded (λ M. st.ForStartAt M c ts a r)
for_start (st.ForStartAt.decl d) = let (m, f) = decl d in (m, λ M l. st.ForStartAt.decl (f M l))
for_start (st.ForStartAt.simple d) = let (m, f) = optional_simple d in (m, λ M l. st.ForStartAt.simple (f M l))

mutual
  stmt : {c : ℕ} {ts r : Symbols} {a : Stmt} → st.StmtAt Anywhere c ts a r → Bounded (λ M. st.StmtAt M c ts a r)
  stmt {c = c} (st.StmtAt.stmt may d) = let (m, f) = statement d in (suc c + m, λ M l. st.StmtAt.stmt (l c _ (omega arith)) (f M (λ e us h. l e us (omega arith))))

  statement : {c : ℕ} {ts r : Symbols} {a : Stmt} → st.StatementAt Anywhere c ts a r → Bounded (λ M. st.StatementAt M c ts a r)
  statement (st.StatementAt.braced d) = let (m, f) = block d in (m, λ M l. st.StatementAt.braced (f M l))
  statement st.StatementAt.empty = (0, λ M l. st.StatementAt.empty)
  statement (st.StatementAt.simple d) = let (m, f) = simple d in (m, λ M l. st.StatementAt.simple (f M l))
  statement (st.StatementAt.return d) = let (m, f) = optional_expr d in (m, λ M l. st.StatementAt.return (f M l))
  statement st.StatementAt.break = (0, λ M l. st.StatementAt.break)
  statement st.StatementAt.continue = (0, λ M l. st.StatementAt.continue)
  statement (st.StatementAt.if_alone d ds e) = let (m, f) = expr d in let (n, g) = stmt ds in
      (m + n, λ M l. st.StatementAt.if_alone (f M (λ e us h. l e us (omega arith))) (g M (λ e us h. l e us (omega arith))) e)
  statement (st.StatementAt.if_else d ds du) = let (m, f) = expr d in let (n, g) = stmt ds in let (o, k) = stmt du in
      (m + n + o, λ M l. st.StatementAt.if_else (f M (λ e us h. l e us (omega arith))) (g M (λ e us h. l e us (omega arith))) (k M (λ e us h. l e us (omega arith))))
  statement (st.StatementAt.while d ds) = let (m, f) = expr d in let (n, g) = stmt ds in
      (m + n, λ M l. st.StatementAt.while (f M (λ e us h. l e us (omega arith))) (g M (λ e us h. l e us (omega arith))))
  statement (st.StatementAt.for d ds du dv) = let (m, f) = for_start d in let (n, g) = optional_expr ds in let (o, k) = optional_simple du in let (q, j) = stmt dv in (
    m + n + o + q,
    λ M l. st.StatementAt.for (f M (λ e us h. l e us (omega arith))) (g M (λ e us h. l e us (omega arith)))
        (k M (λ e us h. l e us (omega arith))) (j M (λ e us h. l e us (omega arith))),
  )
  statement (st.StatementAt.par d) = let (m, f) = branches d in (m, λ M l. st.StatementAt.par (f M l))

  block : {c : ℕ} {ts r : Symbols} {a : Block Stmt} → st.BlockAt Anywhere c ts a r → Bounded (λ M. st.BlockAt M c ts a r)
  block {c = c} (st.BlockAt.block may d) = let (m, f) = block_items d in (suc c + m, λ M l. st.BlockAt.block (l c _ (omega arith)) (f M (λ e us h. l e us (omega arith))))

  block_items : {c : ℕ} {ts r : Symbols} {a : List (BlockItem Stmt)} → st.BlockItemsAt Anywhere c ts a r → Bounded (λ M. st.BlockItemsAt M c ts a r)
  block_items st.BlockItemsAt.no_item = (0, λ M l. st.BlockItemsAt.no_item)
  block_items (st.BlockItemsAt.declaration d ds) = let (m, f) = decl d in let (n, g) = block_items ds in
      (m + n, λ M l. st.BlockItemsAt.declaration (f M (λ e us h. l e us (omega arith))) (g M (λ e us h. l e us (omega arith))))
  block_items (st.BlockItemsAt.statement d ds) = let (m, f) = stmt d in let (n, g) = block_items ds in
      (m + n, λ M l. st.BlockItemsAt.statement (f M (λ e us h. l e us (omega arith))) (g M (λ e us h. l e us (omega arith))))

  branches : {c : ℕ} {ts r : Symbols} {a : List (Block Stmt)} → st.BranchesAt Anywhere c ts a r → Bounded (λ M. st.BranchesAt M c ts a r)
  branches st.BranchesAt.no_branch = (0, λ M l. st.BranchesAt.no_branch)
  branches (st.BranchesAt.branch d ds) = let (m, f) = block d in let (n, g) = branches ds in
      (m + n, λ M l. st.BranchesAt.branch (f M (λ e us h. l e us (omega arith))) (g M (λ e us h. l e us (omega arith))))

item : {ts r : Symbols} {a : Item} → p.ItemAt Anywhere ts a r → Bounded (λ M. p.ItemAt M ts a r)
item (p.ItemAt.struct d) = (0, λ M l. p.ItemAt.struct d)
item (p.ItemAt.decl d) = let (m, f) = decl d in (m, λ M l. p.ItemAt.decl (f M l))
item (p.ItemAt.function d e b) = let (m, f) = block b in (m, λ M l. p.ItemAt.function d e (f M l))
item (p.ItemAt.proto d e) = (0, λ M l. p.ItemAt.proto d e)

program : {ts : Symbols} {a : List Item} → ProgramAt Anywhere ts a → Bounded (λ M. ProgramAt M ts a)
program p.ProgramAt.none = (0, λ M l. p.ProgramAt.none)
program (p.ProgramAt.more d ds) = let (m, f) = item d in let (n, g) = program ds in
    (m + n, λ M l. p.ProgramAt.more (f M (λ e us h. l e us (omega arith))) (g M (λ e us h. l e us (omega arith))))

pub programs_one_tree : (ts : Symbols) (a b : List Item) → ProgramAt Anywhere ts a → ProgramAt Anywhere ts b → a ≡ b
programs_one_tree ts a b = one_tree ProgramAt spec.program program_law (λ ts a d. program d) ts a b

pub programs_one_answer : (ts : Symbols) → HasOneAnswer ProgramAt nesting_limit ts
programs_one_answer ts = (spec.program nesting_limit ts, program_tells ts, λ other h. one_answer ProgramAt nesting_limit ts (spec.program nesting_limit ts) other (program_tells ts) h)

pub programs_prefix : (ts us : Symbols) → Continues ProgramAt (ts ++ us) → Continues ProgramAt ts
programs_prefix = continues_prefix ProgramAt
