-- The tokens of a statement that some tokens are, are derived as it, on one line.
use Rattle.std.proofs.Common.{◌≡◌, ℕ, suc, List, [], ◌∷◌, ◌++◌, Some, None, map, option_map, ap, sym, subst, append_assoc}
use Rattle.std.specs.List.{flat_map}
use Rattle.c_lex.specs.declared.token.Word.{Word}
use Rattle.c_lex.specs.declared.token.Mark.{Mark}
use Rattle.c_ast.specs.declared.decl.Base.{Base}
use Rattle.c_ast.specs.declared.decl.Decl.{Decl}
use Rattle.c_ast.specs.declared.expr.Expr.{Expr}
use Rattle.c_ast.specs.declared.stmt.Simple.{Simple}
use Rattle.c_ast.specs.declared.stmt.Block.{Block}
use Rattle.c_ast.specs.declared.stmt.BlockItem.{BlockItem}
use Rattle.c_ast.specs.declared.stmt.Stmt.{Stmt}
use Rattle.c_ast.specs.declared.stmt.Stmt.TheVariants as tree
use Rattle.parse_law.specs.Nesting.{May, Anywhere}
use Rattle.c_parse.specs.Symbol.{Symbol, Symbols}
use Rattle.c_parse.specs.Types as t
use Rattle.c_parse.specs.Exprs as g
use Rattle.c_parse.specs.Stmts as s
use Rattle.c_print.specs.SameTree as one
use Rattle.c_print.proofs.Joining.{on_line}
use Rattle.c_print.specs.TreeTokens.{Kinds, ended, if_some, in_braces, in_head, mark, of_block, of_block_item, of_decl, of_simple, of_start, of_stmt, of_whole, word}
use Rattle.c_print.proofs.StmtForms as text
use Rattle.c_print.proofs.StmtLine as line
use Rattle.c_print.proofs.TypeReads.{at}
use Rattle.c_print.proofs.SimpleReads.{ended_append, read_decl, read_simple, read_start, read_step, read_value, read_whole}

-- a statement's tokens, and the statement, written otherwise
formed : {ks ls : Kinds} {x y : Stmt} {c : ℕ} (rest : Kinds) → ks ≡ ls → x ≡ y
    → s.StatementAt Anywhere c (on_line (ls ++ rest)) y (on_line rest) → s.StatementAt Anywhere c (on_line (ks ++ rest)) x (on_line rest)
formed {ks} {ls} {x} {y} {c} rest e h p =
    subst (λ (k : Kinds). s.StatementAt Anywhere c (on_line (k ++ rest)) x (on_line rest)) (sym e)
    (subst (λ (k : Stmt). s.StatementAt Anywhere c (on_line (ls ++ rest)) k (on_line rest)) (sym h) p)

-- ---- from the left, and from the right

head_append : (w : Word) (inside after rest : Kinds)
    → (in_head w inside ++ after) ++ rest ≡ word w ∷ mark Mark.OpenParen ∷ (inside ++ mark Mark.CloseParen ∷ (after ++ rest))
head_append w inside after rest = simp append_assoc

if_append : (inside first second rest : Kinds)
    → ((in_head Word.If inside ++ first) ++ second) ++ rest ≡ word Word.If ∷ mark Mark.OpenParen ∷ (inside ++ mark Mark.CloseParen ∷ (first ++ (second ++ rest)))
if_append inside first second rest = simp append_assoc

for_append : (start condition step body rest : Kinds)
    → (in_head Word.For ((start ++ ended condition) ++ step) ++ body) ++ rest
    ≡ word Word.For ∷ mark Mark.OpenParen ∷ (start ++ (condition ++ mark Mark.Semicolon ∷ (step ++ mark Mark.CloseParen ∷ (body ++ rest))))
for_append start condition step body rest = simp append_assoc

braces_append : (inside rest : Kinds) → in_braces inside ++ rest ≡ mark Mark.OpenBrace ∷ (inside ++ mark Mark.CloseBrace ∷ rest)
braces_append inside rest = ap (λ ks. mark Mark.OpenBrace ∷ ks) (append_assoc inside (mark Mark.CloseBrace ∷ []) rest)

-- ---- nothing begins with `else`

base_no_else : {ts us : Symbols} {b : Base} → t.BaseAt ts b us → s.NoElse ts
base_no_else t.int = tt
base_no_else t.struct = tt

primary_no_else : {may : May Symbol} {c : ℕ} {ts us : Symbols} {a : Expr} → g.PrimaryAt may c ts a us → s.NoElse ts
primary_no_else g.numeral = tt
primary_no_else g.null = tt
primary_no_else g.variable = tt
primary_no_else (g.called g.no_argument) = tt
primary_no_else (g.called (g.call x)) = tt
primary_no_else (g.paren x) = tt
primary_no_else (g.sizeof x) = tt

postfix_no_else : {may : May Symbol} {c : ℕ} {ts us : Symbols} {a : Expr} → g.PostfixAt may c ts a us → s.NoElse ts
postfix_no_else (g.postfix p q) = primary_no_else p

unary_no_else : {may : May Symbol} {c : ℕ} {ts us : Symbols} {a : Expr} → g.UnaryAt may c ts a us → s.NoElse ts
unary_no_else (g.unary m (g.prefixed e x)) = tt
unary_no_else (g.unary m (g.cast e x)) = tt
unary_no_else (g.unary m (g.suffixed p)) = postfix_no_else p

simple_no_else : {may : May Symbol} {c : ℕ} {ts us : Symbols} {a : Simple} → s.SimpleAt may c ts a us → s.NoElse ts
simple_no_else (s.assign u e x) = unary_no_else u
simple_no_else (s.increment m p) = postfix_no_else p
simple_no_else (s.decrement m p) = postfix_no_else p
simple_no_else (s.pre_increment u) = tt
simple_no_else (s.pre_decrement u) = tt
simple_no_else (s.call m g.no_argument) = tt
simple_no_else (s.call m (g.call x)) = tt

stmt_no_else : {may : May Symbol} {c : ℕ} {ts us : Symbols} {x : Stmt} → s.StmtAt may c ts x us → s.NoElse ts
stmt_no_else (s.stmt m (s.braced (s.block n x))) = tt
stmt_no_else (s.stmt m s.empty) = tt
stmt_no_else (s.stmt m (s.simple x)) = simple_no_else x
stmt_no_else (s.stmt m (s.return x)) = tt
stmt_no_else (s.stmt m s.break) = tt
stmt_no_else (s.stmt m s.continue) = tt
stmt_no_else (s.stmt m (s.if_alone e x n)) = tt
stmt_no_else (s.stmt m (s.if_else e x y)) = tt
stmt_no_else (s.stmt m (s.while e x)) = tt
stmt_no_else (s.stmt m (s.for e i j x)) = tt
stmt_no_else (s.stmt m (s.par x)) = tt

decl_no_else : {may : May Symbol} {c : ℕ} {ts us : Symbols} {d : Decl} → s.DeclAt may c ts d us → s.NoElse ts
decl_no_else (s.decl b x) = base_no_else b

items_no_else : {may : May Symbol} {c : ℕ} {ts us : Symbols} {i : BlockItem Stmt} {is : List (BlockItem Stmt)} → s.BlockItemsAt may c ts (i ∷ is) us → s.NoElse ts
items_no_else (s.declaration x xs) = decl_no_else x
items_no_else (s.statement x xs) = stmt_no_else x

-- what may follow the items' first tokens may follow those of their text
follows : {may : May Symbol} {k c : ℕ} {ts us : Symbols} (is : List (BlockItem Stmt)) (rest : Kinds) → s.BlockItemsAt may k ts is us
    → s.BlockItemsAt Anywhere c (on_line (flat_map (of_block_item of_stmt) is ++ rest)) (map (one.block_item one.stmt) is) (on_line rest)
    → (s.NoElse us → s.NoElse (on_line rest)) → s.NoElse ts → s.NoElse (on_line (flat_map (of_block_item of_stmt) is ++ rest))
follows [] rest s.no_item d h n = h n
follows (i ∷ is) rest x d h n = items_no_else d

mutual
  -- what may follow it here may follow it there
  pub read_stmt : {may : May Symbol} {k : ℕ} {ts us : Symbols} {x : Stmt} → s.StmtAt may k ts x us → (c : ℕ) (rest : Kinds)
      → (s.NoElse us → s.NoElse (on_line rest)) → s.StmtAt Anywhere c (on_line (of_stmt x ++ rest)) (one.stmt x) (on_line rest)
  read_stmt (s.stmt m d) c rest h = s.stmt tt (read_statement d (suc c) rest h)

  read_statement : {may : May Symbol} {k : ℕ} {ts us : Symbols} {x : Stmt} → s.StatementAt may k ts x us → (c : ℕ) (rest : Kinds)
      → (s.NoElse us → s.NoElse (on_line rest)) → s.StatementAt Anywhere c (on_line (of_stmt x ++ rest)) (one.stmt x) (on_line rest)
  read_statement (s.braced {b = b} d) c rest h = formed rest (text.block b) (line.block b) (s.braced (read_block d c rest))
  read_statement (s.empty {l = l}) c rest h = formed rest (text.empty l) (line.empty l) s.empty
  read_statement (s.simple {a = a} d) c rest h =
      formed rest (text.simple a) (line.simple a)
      (at (λ ts. s.StatementAt Anywhere c ts (tree.Simple (one.simple a)) (on_line rest)) (ended_append (of_simple a) rest)
      (s.simple (read_simple a c (mark Mark.Semicolon ∷ rest))))
  read_statement (s.return {l = l} {a = a} d) c rest h =
      formed rest (text.returned l a) (line.returned l a)
      (at (λ ts. s.StatementAt Anywhere c ts (tree.Return one.first (option_map one.expr a)) (on_line rest))
      (ap (λ ks. word Word.Return ∷ ks) (ended_append (if_some of_whole a) rest)) (s.return (read_value a c (mark Mark.Semicolon ∷ rest))))
  read_statement (s.break {l = l}) c rest h = formed rest (text.broken l) (line.broken l) s.break
  read_statement (s.continue {l = l}) c rest h = formed rest (text.continued l) (line.continued l) s.continue
  read_statement (s.if_alone {l = l} {a = a} {x = x} e d n) c rest h =
      formed rest (text.if_alone l a x) (line.if_alone l a x)
      (at (λ ts. s.StatementAt Anywhere c ts (tree.If one.first (one.expr a) (one.stmt x) None) (on_line rest)) (if_append (of_whole a) (of_stmt x) [] rest)
      (s.if_alone (read_whole a c (mark Mark.CloseParen ∷ (of_stmt x ++ rest))) (read_stmt d c rest h) (h n)))
  read_statement (s.if_else {l = l} {a = a} {x = x} {y = y} e d f) c rest h =
      formed rest (text.if_else l a x y) (line.if_else l a x y)
      (at (λ ts. s.StatementAt Anywhere c ts (tree.If one.first (one.expr a) (one.stmt x) (Some (one.stmt y))) (on_line rest))
      (if_append (of_whole a) (of_stmt x) (word Word.Else ∷ of_stmt y) rest)
      (s.if_else (read_whole a c (mark Mark.CloseParen ∷ (of_stmt x ++ word Word.Else ∷ (of_stmt y ++ rest))))
      (read_stmt d c (word Word.Else ∷ (of_stmt y ++ rest)) (λ n. n)) (read_stmt f c rest h)))
  read_statement (s.while {l = l} {a = a} {x = x} e d) c rest h =
      formed rest (text.while l a x) (line.while l a x)
      (at (λ ts. s.StatementAt Anywhere c ts (tree.While one.first (one.expr a) (one.stmt x)) (on_line rest)) (head_append Word.While (of_whole a) (of_stmt x) rest)
      (s.while (read_whole a c (mark Mark.CloseParen ∷ (of_stmt x ++ rest))) (read_stmt d c rest h)))
  read_statement (s.for {l = l} {start = start} {a = a} {step = step} {x = x} e i j d) c rest h =
      formed rest (text.for l start a step x) (line.for l start a step x)
      (at (λ ts. s.StatementAt Anywhere c ts (tree.For one.first (one.start start) (option_map one.expr a) (option_map one.simple step) (one.stmt x)) (on_line rest))
      (for_append (of_start start) (if_some of_whole a) (if_some of_simple step) (of_stmt x) rest)
      (s.for (read_start e c (if_some of_whole a ++ mark Mark.Semicolon ∷ (if_some of_simple step ++ mark Mark.CloseParen ∷ (of_stmt x ++ rest))))
      (read_value a c (mark Mark.Semicolon ∷ (if_some of_simple step ++ mark Mark.CloseParen ∷ (of_stmt x ++ rest))))
      (read_step step c (mark Mark.CloseParen ∷ (of_stmt x ++ rest))) (read_stmt d c rest h)))
  read_statement (s.par {l = l} {branches = bs} d) c rest h =
      formed rest (text.par l bs) (line.par l bs)
      (at (λ ts. s.StatementAt Anywhere c ts (tree.Par one.first (map one.block bs)) (on_line rest))
      (ap (λ ks. word Word.Par ∷ ks) (braces_append (flat_map of_block bs) rest)) (s.par (read_branches d c (mark Mark.CloseBrace ∷ rest))))

  pub read_block : {may : May Symbol} {k : ℕ} {ts us : Symbols} {b : Block Stmt} → s.BlockAt may k ts b us → (c : ℕ) (rest : Kinds)
      → s.BlockAt Anywhere c (on_line (of_block b ++ rest)) (one.block b) (on_line rest)
  read_block (s.block {items = is} m d) c rest =
      at (λ ts. s.BlockAt Anywhere c ts (record { line = one.first; items = map (one.block_item one.stmt) is; close = one.first }) (on_line rest))
      (braces_append (flat_map (of_block_item of_stmt) is) rest) (s.block tt (read_block_items d (suc c) (mark Mark.CloseBrace ∷ rest) (λ n. tt)))

  read_block_items : {may : May Symbol} {k : ℕ} {ts us : Symbols} {is : List (BlockItem Stmt)} → s.BlockItemsAt may k ts is us → (c : ℕ) (rest : Kinds)
      → (s.NoElse us → s.NoElse (on_line rest))
      → s.BlockItemsAt Anywhere c (on_line (flat_map (of_block_item of_stmt) is ++ rest)) (map (one.block_item one.stmt) is) (on_line rest)
  read_block_items s.no_item c rest h = s.no_item
  read_block_items (s.declaration {d = d} {others = is} x xs) c rest h =
      at (λ ts. s.BlockItemsAt Anywhere c ts (BlockItem.Decl (one.decl d) ∷ map (one.block_item one.stmt) is) (on_line rest))
      (append_assoc (of_decl d) (flat_map (of_block_item of_stmt) is) rest)
      (s.declaration (read_decl x c (flat_map (of_block_item of_stmt) is ++ rest)) (read_block_items xs c rest h))
  read_block_items (s.statement {x = x} {others = is} d ds) c rest h =
      at (λ ts. s.BlockItemsAt Anywhere c ts (BlockItem.Stmt (one.stmt x) ∷ map (one.block_item one.stmt) is) (on_line rest))
      (append_assoc (of_stmt x) (flat_map (of_block_item of_stmt) is) rest)
      (s.statement (read_stmt d c (flat_map (of_block_item of_stmt) is ++ rest) (follows is rest ds (read_block_items ds c rest h) h)) (read_block_items ds c rest h))

  read_branches : {may : May Symbol} {k : ℕ} {ts us : Symbols} {bs : List (Block Stmt)} → s.BranchesAt may k ts bs us → (c : ℕ) (rest : Kinds)
      → s.BranchesAt Anywhere c (on_line (flat_map of_block bs ++ rest)) (map one.block bs) (on_line rest)
  read_branches s.no_branch c rest = s.no_branch
  read_branches (s.branch {b = b} {others = bs} d ds) c rest =
      at (λ ts. s.BranchesAt Anywhere c ts (one.block b ∷ map one.block bs) (on_line rest)) (append_assoc (of_block b) (flat_map of_block bs) rest)
      (s.branch (read_block d c (flat_map of_block bs ++ rest)) (read_branches ds c rest))
