-- Statements of small programs, in the same way.
use Rattle.std.specs.Prelude.{pos, codes, map, length, nat_le, ◌&&◌, not}
use Rattle.std.proofs.Common.{◌≡◌, ℕ, List, [], ◌∷◌, Option, Some, None, refl, ap, ◌∙◌}
use Rattle.c_ast.specs.Ast.{Ast}
use Rattle.c_ast.specs.declared.decl.Base.{Base}
use Rattle.c_ast.specs.declared.decl.Decl.{Decl}
use Rattle.c_ast.specs.declared.decl.Declarator.{Declarator}
use Rattle.c_ast.specs.declared.decl.ResultType.{ResultType}
use Rattle.c_ast.specs.declared.decl.Params.{Params}
use Rattle.c_ast.specs.declared.expr.Expr.{Expr as SourceExpr}
use Rattle.c_ast.specs.declared.stmt.AssignOp.{AssignOp}
use Rattle.c_ast.specs.declared.stmt.Simple.{Simple}
use Rattle.c_ast.specs.declared.stmt.Block.{Block}
use Rattle.c_ast.specs.declared.stmt.BlockItem.{BlockItem}
use Rattle.c_ast.specs.declared.stmt.Stmt.{Stmt as SourceStmt, roll-Stmt as source}
use Rattle.c_ast.specs.declared.stmt.Stmt.TheOpen.{Stmt-F as Source}
use Rattle.c_ast.specs.declared.program.Item.{Item}
use Rattle.c_typed.specs.declared.stmt.Branch.{Branch}
use Rattle.c_typed.specs.declared.stmt.Stmt.{Stmt, roll-Stmt}
use Rattle.c_typed.specs.declared.stmt.Stmt.TheOpen.{Stmt-F}
use Rattle.c_typed.specs.Types.{declared_type}
use Rattle.c_typed.specs.Marks as marks
use Rattle.c_typed.specs.Marks.{locals_in, result_at, around, in_branch, opens, closes, loop, branch}
use Rattle.c_typed.specs.Faults as faults
use Rattle.c_typed.specs.Faults.{mismatch, escape, unless}
use Rattle.c_typed.specs.Whole.{Whole}
use Rattle.c_typed.specs.Parts.{Part, tokens, obeys, mark, with_faults, if_there, separated, in_turn, ◌⊗◌, ◌<⊗◌, ◌⊗>◌, ◌<$>◌}
use Rattle.c_typed.specs.Tags.{base}
use Rattle.c_typed.specs.Exprs.{Reading, expr, value, place}
use Rattle.c_typed.specs.Decls.{declared, starts_with, by_value, joined_lists, local_decl}
use Rattle.c_typed.specs.Stmts.{call_stmt, stmt, stmt_step, block_item, branch_of, assigned, counted, returns, condition_by}
use Rattle.c_typed.specs.Programs.{with_part}
use Rattle.c_typed.proofs.Levels.{stmt_roll, stmt_block, stmt_par, with_parts}
use Rattle.c_typed.proofs.Small.{Tree, Trees, one, ident, written, all_written, read, reads, all_read, all_reads}

mutual
  pub data Code : Type 0 where
    set : Tree → AssignOp → Tree → Code
    inc : Tree → Code
    pre : Tree → Code
    run : ℕ → Trees → Code
    ret : Tree → Code
    leave : Code
    brk : Code
    when : Tree → Code → Code
    while : Tree → Code → Code
    block : Codes → Code
    par : Codes → Code

  pub data Codes : Type 0 where
    none : Codes
    -- a variable with its base, stars, name and lengths
    var : Base → ℕ → ℕ → List ℕ → Codes → Codes
    -- a variable with a value
    init : Base → ℕ → ℕ → List ℕ → Tree → Codes → Codes
    then_ : Code → Codes → Codes

abbrev pub declarator : ℕ → ℕ → List ℕ → Declarator
declarator stars n lengths = record { line = one; stars = stars; name = ident n; lengths = map pos lengths }

abbrev pub decl : Base → Declarator → Option SourceExpr → Decl
decl b d v = record { base = b; items = record { declarator = d; value = v } ∷ [] }

abbrev mutual
  pub code : Code → SourceStmt
  code (set t op v) = source (Source.Simple (Simple.Assign one (written t) op (written v)))
  code (inc t) = source (Source.Simple (Simple.Increment one (written t)))
  code (pre t) = source (Source.Simple (Simple.PreIncrement one (written t)))
  code (run f ts) = source (Source.Simple (Simple.Call (ident f) (all_written ts)))
  code (ret t) = source (Source.Return one (Some (written t)))
  code leave = source (Source.Return one None)
  code brk = source (Source.Break one)
  code (when t c) = source (Source.If one (written t) (code c) None)
  code (while t c) = source (Source.While one (written t) (code c))
  code (block cs) = source (Source.Block (record { line = one; items = codes_of cs; close = one }))
  code (par cs) = source (Source.Par one (blocks cs))

  pub codes_of : Codes → List (BlockItem SourceStmt)
  codes_of none = []
  codes_of (var b stars n ls cs) = BlockItem.Decl (decl b (declarator stars n ls) None) ∷ codes_of cs
  codes_of (init b stars n ls t cs) = BlockItem.Decl (decl b (declarator stars n ls) (Some (written t))) ∷ codes_of cs
  codes_of (then_ c cs) = BlockItem.Stmt (code c) ∷ codes_of cs

  -- each statement alone in a branch
  pub blocks : Codes → List (Block SourceStmt)
  blocks none = []
  blocks (var b stars n ls cs) = blocks cs
  blocks (init b stars n ls t cs) = blocks cs
  blocks (then_ c cs) = record { line = one; items = BlockItem.Stmt (code c) ∷ []; close = one } ∷ blocks cs

abbrev pub initial_by : Whole → Base → Declarator → Reading → Part Stmt
initial_by w b d r =
    (λ ss. roll-Stmt (Stmt-F.Block (joined_lists ss)))
    <$> (base w (by_value (d ∷ [])) b
    ⊗> separated (obeys mismatch d.line (λ h v. starts_with d (declared_type w.tags b d) (locals_in h) v) (declared w d (declared_type w.tags b d) ⊗> tokens 1 ⊗> value r) ∷ [])
    <⊗ tokens 1)

abbrev pub initial : Whole → Base → Declarator → Tree → Part Stmt
initial w b d t = initial_by w b d (read w t)

abbrev mutual
  pub part : Whole → Code → Part Stmt
  part w (set t op v) = obeys mismatch one (λ h e. assigned one op e.0 e.1) (place (read w t) <⊗ tokens 1 ⊗ value (read w v)) <⊗ tokens 1
  part w (inc t) = obeys mismatch one (λ h e. counted e (Stmt-F.Increment one e)) (place (read w t) <⊗ tokens 1) <⊗ tokens 1
  part w (pre t) = obeys mismatch one (λ h e. counted e (Stmt-F.Increment one e)) (tokens 1 ⊗> place (read w t)) <⊗ tokens 1
  part w (run f ts) = call_stmt w (ident f) (all_read w ts) <⊗ tokens 1
  part w (ret t) =
      with_faults (λ here. unless (not (in_branch (around 0 here.before))) here.at escape one)
      (obeys mismatch one (λ h e. returns one (result_at h) e) (tokens 1 ⊗> if_there (Some (value (read w t))) <⊗ tokens 1))
  part w leave = stmt_step w (Source.Return one None)
  part w brk = stmt_step w (Source.Break one)
  part w (when t c) =
      (λ s. roll-Stmt (Stmt-F.If one s.0.0 s.0.1 s.1)) <$> (tokens 2 ⊗> condition_by (read w t) <⊗ tokens 1 ⊗ part w c ⊗ if_there None)
  part w (while t c) =
      (λ s. roll-Stmt (Stmt-F.While one s.0 s.1)) <$> (mark (opens loop) ⊗> tokens 2 ⊗> condition_by (read w t) <⊗ tokens 1 ⊗ part w c <⊗ mark closes)
  part w (block cs) = (λ ss. roll-Stmt (Stmt-F.Block ss)) <$> (mark (opens marks.block) ⊗> (tokens 1 ⊗> in_turn (parts w cs) <⊗ tokens 1) <⊗ mark closes)
  part w (par cs) =
      with_faults (λ here. unless (nat_le 2 (length (map (with_parts w) (blocks cs))) && nat_le (length (map (with_parts w) (blocks cs))) 15) here.at faults.branches one)
      ((λ b. roll-Stmt (Stmt-F.Par one b)) <$> (tokens 2 ⊗> in_turn (branches w cs) <⊗ tokens 1))

  pub parts : Whole → Codes → List (Part Stmt)
  parts w none = []
  parts w (var b stars n ls cs) = local_decl w (decl b (declarator stars n ls) None) ∷ parts w cs
  parts w (init b stars n ls t cs) = initial w b (declarator stars n ls) t ∷ parts w cs
  parts w (then_ c cs) = part w c ∷ parts w cs

  pub branches : Whole → Codes → List (Part (Branch Stmt))
  branches w none = []
  branches w (var b stars n ls cs) = branches w cs
  branches w (init b stars n ls t cs) = branches w cs
  branches w (then_ c cs) =
      ((λ ss. record { body = ss; close = one }) <$> (mark (opens branch) ⊗> (tokens 1 ⊗> in_turn (part w c ∷ []) <⊗ tokens 1) <⊗ mark closes)) ∷ branches w cs

mutual
  pub parted : (w : Whole) (c : Code) → stmt w (code c) ≡ part w c
  parted w (set t op v) =
      stmt_roll w _
      ∙ ap (λ x. obeys mismatch one (λ h e. assigned one op e.0 e.1) (place x <⊗ tokens 1 ⊗ value (expr w (written v))) <⊗ tokens 1) (reads w t)
      ∙ ap (λ x. obeys mismatch one (λ h e. assigned one op e.0 e.1) (place (read w t) <⊗ tokens 1 ⊗ value x) <⊗ tokens 1) (reads w v)
  parted w (inc t) = stmt_roll w _ ∙ ap (λ x. obeys mismatch one (λ h e. counted e (Stmt-F.Increment one e)) (place x <⊗ tokens 1) <⊗ tokens 1) (reads w t)
  parted w (pre t) = stmt_roll w _ ∙ ap (λ x. obeys mismatch one (λ h e. counted e (Stmt-F.Increment one e)) (tokens 1 ⊗> place x) <⊗ tokens 1) (reads w t)
  parted w (run f ts) = stmt_roll w _ ∙ ap (λ x. call_stmt w (ident f) x <⊗ tokens 1) (all_reads w ts)
  parted w (ret t) = stmt_roll w _ ∙ ap (λ x. with_faults (λ here. unless (not (in_branch (around 0 here.before))) here.at escape one)
      (obeys mismatch one (λ h e. returns one (result_at h) e) (tokens 1 ⊗> if_there (Some (value x)) <⊗ tokens 1))) (reads w t)
  parted w leave = stmt_roll w _
  parted w brk = stmt_roll w _
  parted w (when t c) =
      stmt_roll w _
      ∙ ap (λ x. (λ s. roll-Stmt (Stmt-F.If one s.0.0 s.0.1 s.1)) <$> (tokens 2 ⊗> condition_by x <⊗ tokens 1 ⊗ stmt w (code c) ⊗ if_there None)) (reads w t)
      ∙ ap (λ x. (λ s. roll-Stmt (Stmt-F.If one s.0.0 s.0.1 s.1)) <$> (tokens 2 ⊗> condition_by (read w t) <⊗ tokens 1 ⊗ x ⊗ if_there None)) (parted w c)
  parted w (while t c) =
      stmt_roll w _
      ∙ ap (λ x. (λ s. roll-Stmt (Stmt-F.While one s.0 s.1)) <$> (mark (opens loop) ⊗> tokens 2 ⊗> condition_by x <⊗ tokens 1 ⊗ stmt w (code c) <⊗ mark closes)) (reads w t)
      ∙ ap (λ x. (λ s. roll-Stmt (Stmt-F.While one s.0 s.1)) <$> (mark (opens loop) ⊗> tokens 2 ⊗> condition_by (read w t) <⊗ tokens 1 ⊗ x <⊗ mark closes)) (parted w c)
  parted w (block cs) =
      stmt_block w _
      ∙ ap (λ ps. (λ ss. roll-Stmt (Stmt-F.Block ss)) <$> (mark (opens marks.block) ⊗> (tokens 1 ⊗> in_turn ps <⊗ tokens 1) <⊗ mark closes)) (all_parted w cs)
  parted w (par cs) =
      stmt_par w one _
      ∙ ap (λ ps. with_faults (λ here. unless (nat_le 2 (length (map (with_parts w) (blocks cs))) && nat_le (length (map (with_parts w) (blocks cs))) 15) here.at faults.branches one)
      ((λ b. roll-Stmt (Stmt-F.Par one b)) <$> (tokens 2 ⊗> in_turn ps <⊗ tokens 1))) (branches_parted w cs)

  pub all_parted : (w : Whole) (cs : Codes) → map (block_item w) (map (with_part w) (codes_of cs)) ≡ parts w cs
  all_parted w none = refl
  all_parted w (var b stars n ls cs) = ap (λ ps. local_decl w (decl b (declarator stars n ls) None) ∷ ps) (all_parted w cs)
  all_parted w (init b stars n ls t cs) =
      ap (λ r. initial_by w b (declarator stars n ls) r ∷ map (block_item w) (map (with_part w) (codes_of cs))) (reads w t)
      ∙ ap (λ ps. initial w b (declarator stars n ls) t ∷ ps) (all_parted w cs)
  all_parted w (then_ c cs) =
      ap (λ p. p ∷ map (block_item w) (map (with_part w) (codes_of cs))) (parted w c) ∙ ap (λ ps. part w c ∷ ps) (all_parted w cs)

  branches_parted : (w : Whole) (cs : Codes) → map (branch_of w) (map (with_parts w) (blocks cs)) ≡ branches w cs
  branches_parted w none = refl
  branches_parted w (var b stars n ls cs) = branches_parted w cs
  branches_parted w (init b stars n ls t cs) = branches_parted w cs
  branches_parted w (then_ c cs) =
      ap (λ p. ((λ ss. record { body = ss; close = one }) <$> (mark (opens branch) ⊗> (tokens 1 ⊗> in_turn (p ∷ []) <⊗ tokens 1) <⊗ mark closes)) ∷ map (branch_of w) (map (with_parts w) (blocks cs))) (parted w c)
      ∙ ap (λ ps. ((λ ss. record { body = ss; close = one }) <$> (mark (opens branch) ⊗> (tokens 1 ⊗> in_turn (part w c ∷ []) <⊗ tokens 1) <⊗ mark closes)) ∷ ps) (branches_parted w cs)

-- `int main() { .. }`, whose name has the number 0
abbrev pub main_of : Codes → Item
main_of cs = Item.Function (record {
  result = ResultType.Type (Base.Int one) 0;
  name = ident 0;
  params = Params.Empty;
  body = record { line = one; items = codes_of cs; close = one };
})

-- the names are `main` and those that are given
abbrev pub program : List Item → List (List ℕ) → Ast
program items names = record { items = items; names = codes "main" ∷ names; last = one }
