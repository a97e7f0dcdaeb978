-- What the walk finds of blocks, branches, simple statements and conditions is what the definition judges of them.
use Rattle.std.proofs.Common.{List, [], ◌∷◌, map, Ok, refl, ap, sym, ◌∙◌}
use Rattle.c_ast.specs.declared.expr.Expr.{Expr as SourceExpr}
use Rattle.c_ast.specs.declared.stmt.Simple.{Simple}
use Rattle.c_ast.specs.declared.stmt.Block.{Block}
use Rattle.c_ast.specs.declared.stmt.BlockItem.{BlockItem}
use Rattle.c_ast.specs.declared.decl.Decl.{Decl}
use Rattle.c_ast.specs.declared.stmt.Stmt.{Stmt as SourceStmt}
use Rattle.c_ast.specs.declared.stmt.Stmt.TheOpen.{Stmt-F as Source}
use Rattle.c_typed.specs.declared.stmt.Stmt.{Stmt, roll-Stmt as roll}
use Rattle.c_typed.specs.declared.stmt.Stmt.TheOpen.{Stmt-F}
use Rattle.c_types.specs.declared.outline.Outline.{Outline}
use Rattle.c_types.specs.declared.known.Known.{Known}
use Rattle.c_types.specs.declared.known.Around.{Around}
use Rattle.c_typed.specs.Marks.{Mark, opens, closes, block, loop, branch, History}
use Rattle.c_typed.specs.Marks as marks
use Rattle.c_typed.specs.Whole.{Whole}
use Rattle.c_typed.specs.Parts.{Place, Part, marked, tokens, mark, behind, in_turn, ◌<⊗◌, ◌⊗>◌}
use Rattle.c_typed.specs.Decls.{local_decl}
use Rattle.c_typed.specs.Stmts as stmts
use Rattle.c_typed.specs.Stmts.{simple, block_item, body, branch_of, stmt_step, stmt}
use Rattle.c_typed.specs.Programs.{with_part}
use Rattle.c_types.specs.tools.Steps.{◌>>=◌}
use Rattle.c_types.specs.tools.KnownSteps.{entered}
use Rattle.c_types.specs.tools.DeclWalk.{local_decl_walk}
use Rattle.c_types.specs.tools.StmtWalk as walk
use Rattle.c_types.specs.tools.StmtWalk.{same, scoped, stmt_walk, source_item_walk, source_items_walk, source_branch_walk, source_branches_walk}
use Rattle.c_types.proofs.BoundsDecls.{inside_in_turn, inside_local_decl}
use Rattle.c_types.proofs.BoundsStmts.{inside_stmt}
use Rattle.c_types.proofs.BoundsPrograms.{all_items}
use Rattle.c_typed.proofs.Levels.{with_parts}
use Rattle.c_typed.proofs.Quiet.{quiet}
use Rattle.c_typed.proofs.Balanced.{Balanced, around_behind}
use Rattle.c_typed.proofs.BalancedStmts.{balanced_stmt, balanced_local_decl, balanced_function_body, quiet_simple}
use Rattle.c_types.proofs.Tells.{answers_tell}
use Rattle.c_types.proofs.Outlined.{IsOutline}
use Rattle.c_types.proofs.Standing.{names_of}
use Rattle.c_types.proofs.Walking.{goes_given, goes_same, goes_joined, goes_map, goes_after, goes_before}
use Rattle.c_types.proofs.WalkAnswers.{Within, Walks, walks_scoped, within_opens}
use Rattle.c_types.proofs.DeclAnswers.{local_decl_walks}
use Rattle.c_types.proofs.SimpleAnswers.{simple_answers, condition_answers}
use Rattle.c_types.proofs.LeaveAnswers.{IsAround}

-- What stands round, from mark to mark.
pub around_same : {h : History} {a : Around} {ms : List Mark} → Balanced ms → IsAround h a → IsAround (marked ms h) a
around_same {h} balanced is = record {
  loops = is.loops ∙ sym (ap marks.in_loop (around_behind 0 h balanced));
  branches = is.branches ∙ sym (ap marks.in_branch (around_behind 0 h balanced));
}

pub around_block : {h : History} {a : Around} → IsAround h a → IsAround (opens block ∷ h) a
around_block is = record { loops = is.loops; branches = is.branches }

pub around_loop : {h : History} {a : Around} → IsAround h a → IsAround (opens loop ∷ h) (walk.in_loop a)
around_loop is = record { loops = refl; branches = is.branches }

pub around_branch : (h : History) → IsAround (opens branch ∷ h) walk.in_branch
around_branch h = record { loops = refl; branches = refl }

module _ (w : Whole) (o : Outline) (is_outline : IsOutline w o) where
  abbrev pub StmtMeets : SourceStmt → Type 0
  StmtMeets s = (here : Place) (k : Known) (a : Around) → Within w here.before k → IsAround here.before a → Walks w (stmt w s) here (stmt_walk o s a k)

  pub data AllMeet : List (BlockItem SourceStmt) → Type 0 where
    none : AllMeet []
    decl : {d : Decl} {is : List (BlockItem SourceStmt)} → AllMeet is → AllMeet (BlockItem.Decl d ∷ is)
    stmt_first : {s : SourceStmt} {is : List (BlockItem SourceStmt)} → StmtMeets s → AllMeet is → AllMeet (BlockItem.Stmt s ∷ is)

  abbrev parts_of : List (BlockItem SourceStmt) → List (Part Stmt)
  parts_of is = map (block_item w) (map (with_part w) is)

  items_walk : (is : List (BlockItem SourceStmt)) → AllMeet is → (here : Place) (k : Known) (a : Around) → Within w here.before k → IsAround here.before a → Walks w (in_turn (parts_of is)) here (source_items_walk o a is k)
  items_walk [] AllMeet.none here k a within round = goes_given (Within w) [] here k within
  items_walk (BlockItem.Decl d ∷ is) (AllMeet.decl rest) here k a within round =
      let first = local_decl_walks w o is_outline d here k within in
      goes_joined (Within w) (λ a rest. a ∷ rest) (local_decl w d) (in_turn (parts_of is)) here (local_decl_walk o d k) (λ s. source_items_walk o a is s.1) (inside_local_decl w d) (inside_in_turn (all_items w is)) first
      (λ s e. items_walk is rest (behind (local_decl w d) here) s.1 a (first.stands s e) (around_same (balanced_local_decl w d) round))
  items_walk (BlockItem.Stmt s ∷ is) (AllMeet.stmt_first meets rest) here k a within round =
      let first = meets here k a within round in
      goes_joined (Within w) (λ a rest. a ∷ rest) (stmt w s) (in_turn (parts_of is)) here (stmt_walk o s a k) (λ s. source_items_walk o a is s.1) (inside_stmt w s) (inside_in_turn (all_items w is)) first
      (λ t e. items_walk is rest (behind (stmt w s) here) t.1 a (first.stands t e) (around_same (balanced_stmt w s) round))

  pub body_walk : (b : Block SourceStmt) → AllMeet b.items → (here : Place) (k : Known) (a : Around) → Within w here.before k → IsAround here.before a → Walks w (body w (with_parts w b)) here (source_items_walk o a b.items k)
  body_walk b all here k a within round =
      goes_before (Within w) 1 (tokens 1 ⊗> in_turn (parts_of b.items)) here _ (goes_after (Within w) 1 (in_turn (parts_of b.items)) here _ (items_walk b.items all (behind (tokens 1) here) k a within round))

  -- Blocks and branches.
  pub block_walks : (b : Block SourceStmt) → AllMeet b.items → (here : Place) (k : Known) (a : Around) → Within w here.before k → IsAround here.before a
      → Walks w (stmt_step w (Source.Block (with_parts w b))) here (scoped (source_items_walk o a b.items) k >>= (λ s. Ok (roll (Stmt-F.Block s.0), s.1)))
  block_walks b all here k a within round =
      goes_map (Within w) (λ ss. roll (Stmt-F.Block ss)) (mark (opens block) ⊗> body w (with_parts w b) <⊗ mark closes) here _
      (walks_scoped w block (body w (with_parts w b)) here k (source_items_walk o a b.items) (balanced_function_body w b) within
      (body_walk b all (behind (mark (opens block)) here) (entered k) a (within_opens w block here.before k within) (around_block round)))

  pub branch_walks : (b : Block SourceStmt) → AllMeet b.items → (here : Place) (k : Known) → Within w here.before k → Walks w (branch_of w (with_parts w b)) here (source_branch_walk o b k)
  branch_walks b all here k within =
      goes_map (Within w) (λ ss. record { body = ss; close = b.close }) (mark (opens branch) ⊗> body w (with_parts w b) <⊗ mark closes) here _
      (walks_scoped w branch (body w (with_parts w b)) here k (source_items_walk o walk.in_branch b.items) (balanced_function_body w b) within
      (body_walk b all (behind (mark (opens branch)) here) (entered k) walk.in_branch (within_opens w branch here.before k within) (around_branch here.before)))

  -- simple statements
  pub simple_walks : (s : Simple) (here : Place) (k : Known) → Within w here.before k → Walks w (simple w s <⊗ tokens 1) here (same k (walk.simple_walk o k s))
  simple_walks s here k within =
      goes_before (Within w) 1 (simple w s) here _
      (goes_same (Within w) (simple w s) here k (walk.simple_walk o k s) (quiet_simple w s) within
      (answers_tell ((simple w s).judge here) (walk.simple_walk o k s) (simple_answers w o here.before k is_outline (names_of within.stands) s here refl)))

  -- a condition, and one in parentheses behind what stands before it
  pub test_walks : (c : SourceExpr) (here : Place) (k : Known) → Within w here.before k → Walks w (stmts.condition w c) here (same k (walk.condition_walk o k c))
  test_walks c here k is =
      goes_same (Within w) (stmts.condition w c) here k (walk.condition_walk o k c) (quiet w c) is
      (answers_tell ((stmts.condition w c).judge here) (walk.condition_walk o k c) (condition_answers w o here.before k is_outline (names_of is.stands) c here refl))

  pub condition_walks : (c : SourceExpr) (here : Place) (k : Known) → Within w here.before k → Walks w (tokens 2 ⊗> stmts.condition w c <⊗ tokens 1) here (same k (walk.condition_walk o k c))
  condition_walks c here k within =
      goes_before (Within w) 1 (tokens 2 ⊗> stmts.condition w c) here _
      (goes_after (Within w) 2 (stmts.condition w c) here _ (test_walks c (behind (tokens 2) here) k within))
