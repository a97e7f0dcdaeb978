-- What the walk finds of every statement, and of the body of a function, is what the definition judges of it.
use Rattle.std.proofs.Common.{◌≡◌, List, [], ◌∷◌, map, Option, Some, None, Ok, refl, sym, subst}
use Rattle.dfi_base.specs.declared.numbers.Line.{Line}
use Rattle.c_ast.specs.declared.expr.Expr.{Expr as SourceExpr}
use Rattle.c_ast.specs.declared.stmt.Simple.{Simple}
use Rattle.c_ast.specs.declared.stmt.ForStart.{ForStart}
use Rattle.c_ast.specs.declared.stmt.Block.{Block}
use Rattle.c_ast.specs.declared.stmt.BlockItem.{BlockItem}
use Rattle.c_ast.specs.declared.stmt.Stmt.{ind-Stmt, map-Stmt, roll-Stmt, Stmt as SourceStmt}
use Rattle.c_ast.specs.declared.stmt.Stmt.TheOpen.{Stmt-F as Source}
use Rattle.c_ast.specs.declared.stmt.Stmt.TheVariants as form
use Rattle.c_typed.specs.declared.stmt.Stmt.{Stmt}
use Rattle.c_typed.specs.declared.stmt.Stmt.TheOpen.{Stmt-F}
use Rattle.c_types.specs.declared.outline.Outline.{Outline}
use Rattle.c_types.specs.declared.known.Known.{Known}
use Rattle.c_types.specs.declared.known.Around.{Around}
use Rattle.c_typed.specs.Whole.{Whole}
use Rattle.c_typed.specs.Parts.{Place, Part, tokens, ◌<$>◌}
use Rattle.c_typed.specs.Stmts.{Layer, empty, within_loop, stmt_step, stmt}
use Rattle.c_typed.specs.Programs.{function_body}
use Rattle.c_types.specs.tools.Steps.{Found}
use Rattle.c_types.specs.tools.StmtWalk as walk
use Rattle.c_types.specs.tools.StmtWalk.{same, returned, value_there_walk, stmt_walk, source_items_walk}
use Rattle.c_typed.proofs.Levels.{with_parts}
use Rattle.c_typed.proofs.Quiet.{no_marks}
use Rattle.c_typed.proofs.BalancedStmts.{quiet_value_there}
use Rattle.c_types.proofs.StmtLevels.{block_is, par_is, empty_is, simple_is, return_is, break_is, continue_is, if_is, while_is, for_is}
use Rattle.c_types.proofs.WalkStmtLevels.{walk_block, walk_par, walk_empty, walk_simple, walk_return, walk_break, walk_continue, walk_if, walk_while, walk_for}
use Rattle.c_types.proofs.Outlined.{IsOutline}
use Rattle.c_types.proofs.Walking.{goes_same}
use Rattle.c_types.proofs.WalkAnswers.{Within, Walks}
use Rattle.c_types.proofs.LeaveAnswers.{IsAround, within_loop_tells, return_tells}
use Rattle.c_types.proofs.BlockAnswers.{StmtMeets, AllMeet, block_walks, simple_walks, body_walk}
use Rattle.c_types.proofs.LoopAnswers.{while_walks, for_walks}
use Rattle.c_types.proofs.BranchAnswers.{MeetsThere, AllBlocks, if_walks, par_walks}

-- The statements in a block, and the blocks of a `par`.
abbrev items_of : {A : Type 0} → Source A → List (BlockItem A)
items_of (Source.Block b) = b.items
items_of _ = []

abbrev blocks_of : {A : Type 0} → Source A → List (Block A)
blocks_of (Source.Par line bs) = bs
blocks_of _ = []

abbrev first_items : {A : Type 0} → List (Block A) → List (BlockItem A)
first_items [] = []
first_items (b ∷ bs) = b.items

module _ (w : Whole) (o : Outline) (is_outline : IsOutline w o) where
  -- A statement and what is shown of it.
  abbrev Met : Type 0
  Met = (s : SourceStmt) × StmtMeets w o is_outline s

  abbrev unmet : Source Met → Source SourceStmt
  unmet y = map-Stmt Met SourceStmt (λ s. s.0) y

  as_walked : (s : SourceStmt) (p : Part Stmt) (here : Place) (k : Known) (a : Around) (r : Found (Stmt × Known)) → stmt w s ≡ p → stmt_walk o s a k ≡ r → Walks w p here r → Walks w (stmt w s) here (stmt_walk o s a k)
  as_walked s p here k a r judged walked is = subst (λ p. Walks w p here (stmt_walk o s a k)) (sym judged) (subst (Walks w p here) (sym walked) is)

  meets_empty : (line : Line) → StmtMeets w o is_outline (form.Empty line)
  meets_empty line here k a is round =
      as_walked (form.Empty line) (stmt_step w (Source.Empty line)) here k a (Ok (empty, k)) (empty_is w (form.Empty line) line refl) (walk_empty o (form.Empty line) line a k refl)
      (goes_same (Within w) ((λ _. empty) <$> tokens 1) here k (Ok empty) refl is (refl, refl))

  meets_simple : (s : Simple) → StmtMeets w o is_outline (form.Simple s)
  meets_simple s here k a is round =
      as_walked (form.Simple s) (stmt_step w (Source.Simple s)) here k a _ (simple_is w (form.Simple s) s refl) (walk_simple o (form.Simple s) s a k refl) (simple_walks w o is_outline s here k is)

  meets_return : (line : Line) (v : Option SourceExpr) → StmtMeets w o is_outline (form.Return line v)
  meets_return line v here k a is round =
      let p = stmt_step w (Source.Return line v) in
      as_walked (form.Return line v) p here k a _ (return_is w (form.Return line v) line v refl) (walk_return o (form.Return line v) line v a k refl)
      (goes_same (Within w) p here k (returned line a.in_branch k.frame.result (value_there_walk o k v)) (no_marks (quiet_value_there w v) refl) is (return_tells w o is_outline line v here k a is round))

  leave_walks : (line : Line) (layer : Layer) (here : Place) (k : Known) (a : Around) → Within w here.before k → IsAround here.before a
      → Walks w (within_loop line layer) here (same k (walk.within_loop line layer a))
  leave_walks line layer here k a is round = goes_same (Within w) (within_loop line layer) here k (walk.within_loop line layer a) refl is (within_loop_tells line layer here a round)

  meets_break : (line : Line) → StmtMeets w o is_outline (form.Break line)
  meets_break line here k a is round =
      as_walked (form.Break line) (stmt_step w (Source.Break line)) here k a _ (break_is w (form.Break line) line refl) (walk_break o (form.Break line) line a k refl)
      (leave_walks line (Stmt-F.Break line) here k a is round)

  meets_continue : (line : Line) → StmtMeets w o is_outline (form.Continue line)
  meets_continue line here k a is round =
      as_walked (form.Continue line) (stmt_step w (Source.Continue line)) here k a _ (continue_is w (form.Continue line) line refl) (walk_continue o (form.Continue line) line a k refl)
      (leave_walks line (Stmt-F.Continue line) here k a is round)

  meets_block : (b : Block SourceStmt) → AllMeet w o is_outline b.items → StmtMeets w o is_outline (form.Block b)
  meets_block b all here k a is round =
      as_walked (form.Block b) (stmt_step w (Source.Block (with_parts w b))) here k a _ (block_is w (form.Block b) b refl) (walk_block o (form.Block b) b a k refl)
      (block_walks w o is_outline b all here k a is round)

  meets_if : (line : Line) (c : SourceExpr) (first : SourceStmt) (other : Option SourceStmt) → StmtMeets w o is_outline first → MeetsThere w o is_outline other
      → StmtMeets w o is_outline (form.If line c first other)
  meets_if line c first other meets meets_other here k a is round =
      as_walked (form.If line c first other) _ here k a _ (if_is w (form.If line c first other) line c first other refl) (walk_if o (form.If line c first other) line c first other a k refl)
      (if_walks w o is_outline line c first other meets meets_other here k a is round)

  meets_while : (line : Line) (c : SourceExpr) (s : SourceStmt) → StmtMeets w o is_outline s → StmtMeets w o is_outline (form.While line c s)
  meets_while line c s meets here k a is round =
      as_walked (form.While line c s) (stmt_step w (Source.While line c (stmt w s))) here k a _ (while_is w (form.While line c s) line c s refl) (walk_while o (form.While line c s) line c s a k refl)
      (while_walks w o is_outline line c s meets here k a is round)

  meets_for : (line : Line) (first : ForStart) (c : Option SourceExpr) (last : Option Simple) (s : SourceStmt) → StmtMeets w o is_outline s
      → StmtMeets w o is_outline (form.For line first c last s)
  meets_for line first c last s meets here k a is round =
      as_walked (form.For line first c last s) (stmt_step w (Source.For line first c last (stmt w s))) here k a _
      (for_is w (form.For line first c last s) line first c last s refl) (walk_for o (form.For line first c last s) line first c last s a k refl)
      (for_walks w o is_outline line first c last s meets here k a is round)

  meets_par : (line : Line) (bs : List (Block SourceStmt)) → AllBlocks w o is_outline bs → StmtMeets w o is_outline (form.Par line bs)
  meets_par line bs all here k a is round =
      as_walked (form.Par line bs) (stmt_step w (Source.Par line (map (with_parts w) bs))) here k a _ (par_is w (form.Par line bs) line bs refl) (walk_par o (form.Par line bs) line bs a k refl)
      (par_walks w o is_outline line bs all here k is)

  -- The statements of one level.
  items_meet : (line close : Line) (xs : List (BlockItem Met)) → AllMeet w o is_outline (items_of (unmet (Source.Block (record { line = line; items = xs; close = close }))))
  items_meet line close [] = AllMeet.none
  items_meet line close (BlockItem.Decl d ∷ xs) = AllMeet.decl (items_meet line close xs)
  items_meet line close (BlockItem.Stmt s ∷ xs) = AllMeet.stmt_first s.1 (items_meet line close xs)

  first_meet : (line l c : Line) (bs : List (Block Met)) (xs : List (BlockItem Met))
      → AllMeet w o is_outline (first_items (blocks_of (unmet (Source.Par line (record { line = l; items = xs; close = c } ∷ bs)))))
  first_meet line l c bs [] = AllMeet.none
  first_meet line l c bs (BlockItem.Decl d ∷ xs) = AllMeet.decl (first_meet line l c bs xs)
  first_meet line l c bs (BlockItem.Stmt s ∷ xs) = AllMeet.stmt_first s.1 (first_meet line l c bs xs)

  blocks_meet : (line : Line) (bs : List (Block Met)) → AllBlocks w o is_outline (blocks_of (unmet (Source.Par line bs)))
  blocks_meet line [] = AllBlocks.none
  blocks_meet line (b ∷ bs) = AllBlocks.each_block (first_meet line b.line b.close bs b.items) (blocks_meet line bs)

  abbrev RolledMeets : Source SourceStmt → Type 0
  RolledMeets x = StmtMeets w o is_outline (roll-Stmt x)

  level_if : (line : Line) (c : SourceExpr) (first : Met) (other : Option Met) → RolledMeets (unmet (Source.If line c first other))
  level_if line c first None = subst (StmtMeets w o is_outline) (sym (form.rolls-If line c first.0 None)) (meets_if line c first.0 None first.1 tt)
  level_if line c first (Some s) = subst (StmtMeets w o is_outline) (sym (form.rolls-If line c first.0 (Some s.0))) (meets_if line c first.0 (Some s.0) first.1 s.1)

  level_meets : (y : Source Met) → RolledMeets (unmet y)
  level_meets (Source.Block b) =
      let here : Block SourceStmt = record { line = b.line; items = items_of (unmet (Source.Block b)); close = b.close } in
      subst (StmtMeets w o is_outline) (sym (form.rolls-Block here)) (meets_block here (items_meet b.line b.close b.items))
  level_meets (Source.Empty line) = subst (StmtMeets w o is_outline) (sym (form.rolls-Empty line)) (meets_empty line)
  level_meets (Source.Simple s) = subst (StmtMeets w o is_outline) (sym (form.rolls-Simple s)) (meets_simple s)
  level_meets (Source.Return line v) = subst (StmtMeets w o is_outline) (sym (form.rolls-Return line v)) (meets_return line v)
  level_meets (Source.Break line) = subst (StmtMeets w o is_outline) (sym (form.rolls-Break line)) (meets_break line)
  level_meets (Source.Continue line) = subst (StmtMeets w o is_outline) (sym (form.rolls-Continue line)) (meets_continue line)
  level_meets (Source.If line c first other) = level_if line c first other
  level_meets (Source.While line c s) = subst (StmtMeets w o is_outline) (sym (form.rolls-While line c s.0)) (meets_while line c s.0 s.1)
  level_meets (Source.For line first c last s) = subst (StmtMeets w o is_outline) (sym (form.rolls-For line first c last s.0)) (meets_for line first c last s.0 s.1)
  level_meets (Source.Par line bs) =
      let here = blocks_of (unmet (Source.Par line bs)) in
      subst (StmtMeets w o is_outline) (sym (form.rolls-Par line here)) (meets_par line here (blocks_meet line bs))

  -- Every statement, and the body of a function.
  pub stmt_walks : (s : SourceStmt) → StmtMeets w o is_outline s
  stmt_walks = ind-Stmt (StmtMeets w o is_outline) (λ x y is. subst RolledMeets is (level_meets y))

  all_meet : (is : List (BlockItem SourceStmt)) → AllMeet w o is_outline is
  all_meet [] = AllMeet.none
  all_meet (BlockItem.Decl d ∷ is) = AllMeet.decl (all_meet is)
  all_meet (BlockItem.Stmt s ∷ is) = AllMeet.stmt_first (stmt_walks s) (all_meet is)

  pub function_body_walks : (b : Block SourceStmt) (here : Place) (k : Known) (a : Around) → Within w here.before k → IsAround here.before a
      → Walks w (function_body w b) here (source_items_walk o a b.items k)
  function_body_walks b here k a is round = body_walk w o is_outline b (all_meet b.items) here k a is round
