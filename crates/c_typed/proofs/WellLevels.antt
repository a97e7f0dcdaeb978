-- Every statement of a function is well-formed, one level at a time.
use Rattle.std.proofs.Common.{◌≡◌, suc, true, false, not, List, [], ◌∷◌, map, length, Option, Some, None, refl, ap, sym, subst}
use Rattle.dfi_base.specs.declared.numbers.Line.{Line}
use Rattle.c_ast.specs.declared.decl.Decl.{Decl}
use Rattle.c_ast.specs.declared.expr.Expr.{Expr as SourceExpr}
use Rattle.c_ast.specs.declared.stmt.Simple.{Simple}
use Rattle.c_ast.specs.declared.stmt.ForStart.{ForStart}
use Rattle.c_ast.specs.declared.stmt.Block.{Block}
use Rattle.c_ast.specs.declared.stmt.BlockItem.{BlockItem}
use Rattle.c_ast.specs.declared.stmt.Stmt.{ind-Stmt, map-Stmt, roll-Stmt as source, Stmt as SourceStmt}
use Rattle.c_ast.specs.declared.stmt.Stmt.TheOpen.{Stmt-F as Source}
use Rattle.c_typed.specs.declared.stmt.Stmt.{Stmt, roll-Stmt}
use Rattle.c_typed.specs.declared.stmt.Stmt.TheOpen.{Stmt-F}
use Rattle.c_typed.specs.Marks.{Mark, History, opens, closes, loop, around, in_loop, in_branch, result_at}
use Rattle.c_typed.specs.Whole.{Whole}
use Rattle.c_typed.specs.Faults.{mismatch, escape, unless}
use Rattle.c_typed.specs.Parts.{Part, marked, tokens, given, mark, obeys, ◌⊗◌, ◌<⊗◌, ◌⊗>◌, ◌<$>◌}
use Rattle.c_typed.specs.Decls.{local_decl}
use Rattle.c_typed.specs.Stmts.{Layer, condition, simple, returns, value_there, value_of, condition_there, within_loop, empty, block_item, branch_of, start, step, second, stmt_step, stmt}
use Rattle.c_typed.specs.Programs.{with_part, function_body}
use Rattle.c_typed.specs.IsWell.{Context, Round, in_loop_of, out_of_loop, IsCondition, IsConditionThere, stmt_there, IsStmt, AreStmts}
use Rattle.c_typed.proofs.Levels.{items_of, blocks_of, first_items, mapped, stmt_roll}
use Rattle.c_typed.proofs.Quiet.{quiet}
use Rattle.c_typed.proofs.Balanced.{Balanced}
use Rattle.c_typed.proofs.BalancedStmts.{balanced_quiet, join, balanced_local_decl, balanced_start, balanced_stmt, quiet_condition_there, quiet_step}
use Rattle.c_typed.proofs.WellParts.{Pure, pure_given, pure_tokens, pure_map, pure_joined}
use Rattle.c_typed.proofs.WellTypes.{IsLinked}
use Rattle.c_typed.proofs.WellStmts.{Sound, round, unless_none, not_true, sound_of, sound_tokens, sound_mark, sound_joined, sound_map, sound_obeys, sound_with, stmt_made, empty_known, value_pure, condition_pure, Anywhere, simple_pure, IsSimple, step_is, AreHere}
use Rattle.c_typed.proofs.WellBlocks.{IsHere, here_before, sound_here, sound_local_decl, AllWell, AllBranches, sound_body, sound_block, sound_branch, sound_par, returned_known, IfExpr}

length_map : {A B : Type 0} (f : A → B) (xs : List A) → length (map f xs) ≡ length xs
length_map f [] = refl
length_map f (x ∷ xs) = ap suc (length_map f xs)

module _ (w : Whole) (c : Context) (linked : IsLinked w c) where
  -- Parts of statements.
  value_there_pure : (v : Option SourceExpr) → Pure w c (value_there w v) (IfExpr w c linked)
  value_there_pure None = pure_given w c {Q = IfExpr w c linked} None tt
  value_there_pure (Some e) = pure_map w c (λ a. Some a) (value_of w e) {Q = IfExpr w c linked} (value_pure w c linked e) (λ a is. is)

  condition_there_pure : (o : Option SourceExpr) → Pure w c (condition_there w o) (IsConditionThere c)
  condition_there_pure None = pure_given w c {Q = IsConditionThere c} None tt
  condition_there_pure (Some e) = pure_map w c (λ a. Some a) (condition w e) {Q = IsConditionThere c} (condition_pure w c linked e) (λ a is. is)

  step_pure : (s : Option Simple) → Pure w c (step w s) (Anywhere w c linked)
  step_pure None = pure_map w c (λ _. empty) (tokens 0) {Q = Anywhere w c linked} (pure_tokens w c 0) (λ u is r. empty_known c r)
  step_pure (Some s) = simple_pure w c linked s

  -- and what it is
  abbrev IsStep : Stmt → Type 0
  IsStep s = Anywhere w c linked s × IsSimple s

  simple_step : (o : Option Simple) → Pure w c (step w o) IsStep
  simple_step o = let is = step_pure o in record { quiet = is.quiet; sound = λ here st s e. (is.sound here st s e, step_is w o here s e) }

  sound_start : (s : ForStart) → Sound w c (start w s) (λ h s. Anywhere w c linked s)
  sound_start (ForStart.Decl d) = sound_local_decl w c linked d
  sound_start (ForStart.Simple None) =
      sound_of w c ((λ _. empty) <$> tokens 1) {Q = λ h s. Anywhere w c linked s} (pure_map w c (λ _. empty) (tokens 1) {Q = Anywhere w c linked} (pure_tokens w c 1) (λ u is r. empty_known c r)) (λ h s is. is)
  sound_start (ForStart.Simple (Some s)) =
      sound_of w c (simple w s <⊗ tokens 1) {Q = λ h s. Anywhere w c linked s}
      (pure_joined w c (λ a b. a) (simple w s) (tokens 1) {R = Anywhere w c linked} (simple_pure w c linked s) (pure_tokens w c 1) (λ a b x y. x)) (λ h s is. is)

  sound_declaration : (d : Decl) → Sound w c (local_decl w d) (IsHere w c linked)
  sound_declaration d = sound_here w c linked (local_decl w d) (sound_local_decl w c linked d)

  -- `return`, `break` and `continue`
  sound_return : (line : Line) (v : Option SourceExpr) → Sound w c (stmt_step w (Source.Return line v)) (IsHere w c linked)
  sound_return line v =
      let p = tokens 1 ⊗> value_there w v <⊗ tokens 1 in
      sound_with w c (λ here. unless (not (in_branch (around 0 here.before))) here.at escape line) (obeys mismatch line (λ h e. returns line (result_at h) e) (tokens 1 ⊗> value_there w v <⊗ tokens 1))
      {P = λ h s. in_branch (around 0 h) ≡ false → IsHere w c linked h s} {Q = IsHere w c linked}
      (sound_obeys w c mismatch line (λ h e. returns line (result_at h) e) (tokens 1 ⊗> value_there w v <⊗ tokens 1)
      {P = λ h o. IfExpr w c linked o} {Q = λ h s. in_branch (around 0 h) ≡ false → IsHere w c linked h s}
      (sound_of w c (tokens 1 ⊗> value_there w v <⊗ tokens 1) {Q = λ h o. IfExpr w c linked o}
      (pure_joined w c (λ a b. a) (tokens 1 ⊗> value_there w v) (tokens 1) {R = IfExpr w c linked}
      (pure_joined w c (λ a b. b) (tokens 1) (value_there w v) {R = IfExpr w c linked} (pure_tokens w c 1) (value_there_pure v) (λ a b x y. y)) (pure_tokens w c 1) (λ a b x y. x)) (λ h o is. is))
      (λ h o s st is has alone. returned_known w c linked line (round h) (result_at h) o s alone st.result is has))
      (λ h at s is no_fault. is (not_true (in_branch (around 0 h)) (unless_none (not (in_branch (around 0 h))) at escape line no_fault)))

  sound_within : (line : Line) (layer : Layer) → ((r : Round) → r.looped ≡ true → IsStmt c r (roll-Stmt layer)) → Sound w c (within_loop line layer) (IsHere w c linked)
  sound_within line layer all =
      sound_with w c (λ here. unless (in_loop (around 0 here.before)) here.at escape line) ((λ _. roll-Stmt layer) <$> tokens 2)
      {P = λ h s. in_loop (around 0 h) ≡ true → IsHere w c linked h s} {Q = IsHere w c linked}
      (sound_map w c (λ _. roll-Stmt layer) (tokens 2) {Q = λ h s. in_loop (around 0 h) ≡ true → IsHere w c linked h s} (sound_tokens w c 2) (λ h u is looped. all (round h) looped))
      (λ h at s is no_fault. is (unless_none (in_loop (around 0 h)) at escape line no_fault))

  -- `if`
  abbrev IfHere : History → Option Stmt → Type 0
  IfHere h None = Unit {0}
  IfHere h (Some s) = IsHere w c linked h s

  there_known : (h : History) (o : Option Stmt) → IfHere h o → AreStmts c (stmt_there (round h) o)
  there_known h None is = AreStmts.none
  there_known h (Some s) is = AreStmts.each (round h, s) [] is AreStmts.none

  if_before : {ms : List Mark} (h : History) (o : Option Stmt) → Balanced ms → IfHere (marked ms h) o → IfHere h o
  if_before h None is known = tt
  if_before h (Some s) is known = here_before w c linked h s is known

  sound_if : (line : Line) (e : SourceExpr) (first : Part Stmt) (other : Option (Part Stmt)) → Balanced first.marks → Sound w c first (IsHere w c linked) → Sound w c (second other) IfHere
      → Sound w c (stmt_step w (Source.If line e first other)) (IsHere w c linked)
  sound_if line e first other balanced is that =
      let head = balanced_quiet (quiet w e) in
      sound_map w c (λ s. roll-Stmt (Stmt-F.If line s.0.0 s.0.1 s.1)) (tokens 2 ⊗> condition w e <⊗ tokens 1 ⊗ first ⊗ second other)
      {P = λ h s. IsCondition c s.0.0 × IsHere w c linked h s.0.1 × IfHere h s.1} {Q = IsHere w c linked}
      (sound_joined w c (λ a b. (a, b)) (tokens 2 ⊗> condition w e <⊗ tokens 1 ⊗ first) (second other) {R = λ h s. IsCondition c s.0.0 × IsHere w c linked h s.0.1 × IfHere h s.1}
      (sound_joined w c (λ a b. (a, b)) (tokens 2 ⊗> condition w e <⊗ tokens 1) first {R = λ h s. IsCondition c s.0 × IsHere w c linked h s.1}
      (sound_joined w c (λ a b. a) (tokens 2 ⊗> condition w e) (tokens 1) {R = λ h d. IsCondition c d}
      (sound_joined w c (λ a b. b) (tokens 2) (condition w e) {R = λ h d. IsCondition c d} (sound_tokens w c 2) (sound_of w c (condition w e) {Q = λ h d. IsCondition c d} (condition_pure w c linked e) (λ h d x. x)) (λ h a b x y. y))
      (sound_tokens w c 1) (λ h a b x y. x)) is (λ h d s x y. (x, here_before w c linked h s (join head Balanced.none) y))) that
      (λ h s o x y. (x.0, x.1, if_before h o (join (join head Balanced.none) balanced) y)))
      (λ h s is.
      stmt_made w c (round h) (Stmt-F.If line s.0.0 s.0.1 s.1) is.0 (AreStmts.each (round h, s.0.1) (stmt_there (round h) s.1) is.1 (there_known h s.1 is.2)))

  -- Loops.
  abbrev IsLooped : History → Stmt → Type 0
  IsLooped h s = IsStmt c (in_loop_of (round h)) s

  sound_while : (line : Line) (e : SourceExpr) (b : Part Stmt) → Sound w c b (IsHere w c linked) → Sound w c (stmt_step w (Source.While line e b)) (IsHere w c linked)
  sound_while line e b is =
      let head = balanced_quiet (quiet w e) in
      sound_map w c (λ s. roll-Stmt (Stmt-F.While line s.0 s.1)) (mark (opens loop) ⊗> tokens 2 ⊗> condition w e <⊗ tokens 1 ⊗ b <⊗ mark closes)
      {P = λ h s. IsCondition c s.0 × IsLooped h s.1} {Q = IsHere w c linked}
      (sound_joined w c (λ a b. a) (mark (opens loop) ⊗> tokens 2 ⊗> condition w e <⊗ tokens 1 ⊗ b) (mark closes) {R = λ h s. IsCondition c s.0 × IsLooped h s.1}
      (sound_joined w c (λ a b. (a, b)) (mark (opens loop) ⊗> tokens 2 ⊗> condition w e <⊗ tokens 1) b {R = λ h s. IsCondition c s.0 × IsLooped h s.1}
      (sound_joined w c (λ a b. a) (mark (opens loop) ⊗> tokens 2 ⊗> condition w e) (tokens 1) {R = λ h d. IsCondition c d}
      (sound_joined w c (λ a b. b) (mark (opens loop) ⊗> tokens 2) (condition w e) {R = λ h d. IsCondition c d}
      (sound_joined w c (λ a b. b) (mark (opens loop)) (tokens 2) {R = λ h u. Unit {0}} (sound_mark w c (opens loop)) (sound_tokens w c 2) (λ h a b x y. tt))
      (sound_of w c (condition w e) {Q = λ h d. IsCondition c d} (condition_pure w c linked e) (λ h d x. x)) (λ h a b x y. y))
      (sound_tokens w c 1) (λ h a b x y. x)) is (λ h d s x y. (x, here_before w c linked (opens loop ∷ h) s (join head Balanced.none) y)))
      (sound_mark w c closes) (λ h a b x y. x))
      (λ h s is. stmt_made w c (round h) (Stmt-F.While line s.0 s.1) is.0 (AreStmts.each (in_loop_of (round h), s.1) [] is.1 AreStmts.none))

  sound_for : (line : Line) (first : ForStart) (o : Option SourceExpr) (last : Option Simple) (b : Part Stmt) → Sound w c b (IsHere w c linked)
      → Sound w c (stmt_step w (Source.For line first o last b)) (IsHere w c linked)
  sound_for line first o last b is =
      let one = balanced_start w first in
      let two = join one (balanced_quiet (quiet_condition_there w o)) in
      let three = join (join (join two Balanced.none) (balanced_quiet (quiet_step w last))) Balanced.none in
      sound_map w c (λ s. roll-Stmt (Stmt-F.For line s.0.0.0 s.0.0.1 s.0.1 s.1))
      (mark (opens loop) ⊗> tokens 2 ⊗> start w first ⊗ condition_there w o <⊗ tokens 1 ⊗ step w last <⊗ tokens 1 ⊗ b <⊗ mark closes)
      {P = λ h s. Anywhere w c linked s.0.0.0 × IsConditionThere c s.0.0.1 × IsStep s.0.1 × IsLooped h s.1} {Q = IsHere w c linked}
      (sound_joined w c (λ a b. a) (mark (opens loop) ⊗> tokens 2 ⊗> start w first ⊗ condition_there w o <⊗ tokens 1 ⊗ step w last <⊗ tokens 1 ⊗ b) (mark closes)
      {R = λ h s. Anywhere w c linked s.0.0.0 × IsConditionThere c s.0.0.1 × IsStep s.0.1 × IsLooped h s.1}
      (sound_joined w c (λ a b. (a, b)) (mark (opens loop) ⊗> tokens 2 ⊗> start w first ⊗ condition_there w o <⊗ tokens 1 ⊗ step w last <⊗ tokens 1) b
      {R = λ h s. Anywhere w c linked s.0.0.0 × IsConditionThere c s.0.0.1 × IsStep s.0.1 × IsLooped h s.1}
      (sound_joined w c (λ a b. a) (mark (opens loop) ⊗> tokens 2 ⊗> start w first ⊗ condition_there w o <⊗ tokens 1 ⊗ step w last) (tokens 1)
      {R = λ h s. Anywhere w c linked s.0.0 × IsConditionThere c s.0.1 × IsStep s.1}
      (sound_joined w c (λ a b. (a, b)) (mark (opens loop) ⊗> tokens 2 ⊗> start w first ⊗ condition_there w o <⊗ tokens 1) (step w last)
      {R = λ h s. Anywhere w c linked s.0.0 × IsConditionThere c s.0.1 × IsStep s.1}
      (sound_joined w c (λ a b. a) (mark (opens loop) ⊗> tokens 2 ⊗> start w first ⊗ condition_there w o) (tokens 1) {R = λ h s. Anywhere w c linked s.0 × IsConditionThere c s.1}
      (sound_joined w c (λ a b. (a, b)) (mark (opens loop) ⊗> tokens 2 ⊗> start w first) (condition_there w o) {R = λ h s. Anywhere w c linked s.0 × IsConditionThere c s.1}
      (sound_joined w c (λ a b. b) (mark (opens loop) ⊗> tokens 2) (start w first) {R = λ h s. Anywhere w c linked s}
      (sound_joined w c (λ a b. b) (mark (opens loop)) (tokens 2) {R = λ h u. Unit {0}} (sound_mark w c (opens loop)) (sound_tokens w c 2) (λ h a b x y. tt))
      (sound_start first) (λ h a s x y. y))
      (sound_of w c (condition_there w o) {Q = λ h d. IsConditionThere c d} (condition_there_pure o) (λ h d x. x)) (λ h a b x y. (x, y)))
      (sound_tokens w c 1) (λ h a b x y. x))
      (sound_of w c (step w last) {Q = λ h s. IsStep s} (simple_step last) (λ h s x. x)) (λ h a b x y. (x.0, x.1, y)))
      (sound_tokens w c 1) (λ h a b x y. x)) is
      (λ h a s x y. (x.0, x.1, x.2, here_before w c linked (opens loop ∷ h) s three y)))
      (sound_mark w c closes) (λ h a b x y. x))
      (λ h s is.
      let r = out_of_loop (round h) in
      let inner = in_loop_of (round h) in
      stmt_made w c (round h) (Stmt-F.For line s.0.0.0 s.0.0.1 s.0.1 s.1) (is.1, is.2.1)
      (AreStmts.each (r, s.0.0.0) ((r, s.0.1) ∷ (inner, s.1) ∷ []) (is.0 r) (AreStmts.each (r, s.0.1) ((inner, s.1) ∷ []) (is.2.0 r) (AreStmts.each (inner, s.1) [] is.3 AreStmts.none))))

  -- A statement and what is known of it.
  abbrev StmtSound : SourceStmt → Type 0
  StmtSound s = Sound w c (stmt w s) (IsHere w c linked)

  abbrev Known : Type 0
  Known = (s : SourceStmt) × StmtSound s

  abbrev forgotten : Source Known → Source SourceStmt
  forgotten y = map-Stmt Known SourceStmt (λ s. s.0) y

  well_items : (line close : Line) (xs : List (BlockItem Known))
      → AllWell w c linked (map (block_item w) (items_of (mapped w (forgotten (Source.Block (record { line = line; items = xs; close = close }))))))
  well_items line close [] = AllWell.none
  well_items line close (BlockItem.Decl d ∷ xs) = AllWell.each (balanced_local_decl w d) (sound_declaration d) (well_items line close xs)
  well_items line close (BlockItem.Stmt s ∷ xs) = AllWell.each (balanced_stmt w s.0) s.1 (well_items line close xs)

  well_branch_items : (line l c' : Line) (bs : List (Block Known)) (xs : List (BlockItem Known))
      → AllWell w c linked (map (block_item w) (first_items (blocks_of (mapped w (forgotten (Source.Par line (record { line = l; items = xs; close = c' } ∷ bs)))))))
  well_branch_items line l c' bs [] = AllWell.none
  well_branch_items line l c' bs (BlockItem.Decl d ∷ xs) = AllWell.each (balanced_local_decl w d) (sound_declaration d) (well_branch_items line l c' bs xs)
  well_branch_items line l c' bs (BlockItem.Stmt s ∷ xs) = AllWell.each (balanced_stmt w s.0) s.1 (well_branch_items line l c' bs xs)

  well_branches : (line : Line) (bs : List (Block Known)) → AllBranches w c linked (map (branch_of w) (blocks_of (mapped w (forgotten (Source.Par line bs)))))
  well_branches line [] = AllBranches.none
  well_branches line (b ∷ bs) =
      let first : Block (Part Stmt) = record { line = b.line; items = first_items (blocks_of (mapped w (forgotten (Source.Par line (b ∷ bs))))); close = b.close } in
      AllBranches.each (sound_branch w c linked first (well_branch_items line b.line b.close bs b.items)) (well_branches line bs)

  none_other : Sound w c (second None) IfHere
  none_other = sound_of w c (given None) {Q = IfHere} (pure_given w c {Q = λ o. (h : History) → IfHere h o} None (λ h. tt)) (λ h o is. is h)

  some_other : (s : Part Stmt) → Sound w c s (IsHere w c linked) → Sound w c (second (Some s)) IfHere
  some_other s is =
      sound_map w c (λ a. Some a) (tokens 1 ⊗> s) {Q = IfHere}
      (sound_joined w c (λ a b. b) (tokens 1) s {R = IsHere w c linked} (sound_tokens w c 1) is (λ h a b x y. y)) (λ h a x. x)

  level_if : (line : Line) (e : SourceExpr) (first : Known) (o : Option Known) → Sound w c (stmt_step w (mapped w (forgotten (Source.If line e first o)))) (IsHere w c linked)
  level_if line e first None = sound_if line e (stmt w first.0) None (balanced_stmt w first.0) first.1 none_other
  level_if line e first (Some s) = sound_if line e (stmt w first.0) (Some (stmt w s.0)) (balanced_stmt w first.0) first.1 (some_other (stmt w s.0) s.1)

  level_well : (y : Source Known) → Sound w c (stmt_step w (mapped w (forgotten y))) (IsHere w c linked)
  level_well (Source.Block b) =
      let here : Block (Part Stmt) = record { line = b.line; items = items_of (mapped w (forgotten (Source.Block b))); close = b.close } in
      sound_block w c linked here (well_items b.line b.close b.items)
  level_well (Source.Empty line) = sound_map w c (λ _. empty) (tokens 1) {Q = IsHere w c linked} (sound_tokens w c 1) (λ h u is. empty_known c (round h))
  level_well (Source.Simple s) = sound_here w c linked (simple w s <⊗ tokens 1) (sound_start (ForStart.Simple (Some s)))
  level_well (Source.Return line v) = sound_return line v
  level_well (Source.Break line) = sound_within line (Stmt-F.Break line) (λ r is. stmt_made w c r (Stmt-F.Break line) is AreStmts.none)
  level_well (Source.Continue line) = sound_within line (Stmt-F.Continue line) (λ r is. stmt_made w c r (Stmt-F.Continue line) is AreStmts.none)
  level_well (Source.If line e first other) = level_if line e first other
  level_well (Source.While line e s) = sound_while line e (stmt w s.0) s.1
  level_well (Source.For line first o last s) = sound_for line first o last (stmt w s.0) s.1
  level_well (Source.Par line bs) =
      let ps = blocks_of (mapped w (forgotten (Source.Par line bs))) in
      sound_par w c linked line (length ps) (map (branch_of w) ps) (length_map (branch_of w) ps) (well_branches line bs)

  -- Every statement, and the body of a function.
  pub stmt_sound : (s : SourceStmt) → Sound w c (stmt w s) (IsHere w c linked)
  stmt_sound = ind-Stmt StmtSound (λ x y is. subst (λ x. StmtSound (source x)) is (subst (λ p. Sound w c p (IsHere w c linked)) (sym (stmt_roll w (forgotten y))) (level_well y)))

  body_items : (xs : List (BlockItem SourceStmt)) → AllWell w c linked (map (block_item w) (map (with_part w) xs))
  body_items [] = AllWell.none
  body_items (BlockItem.Decl d ∷ xs) = AllWell.each (balanced_local_decl w d) (sound_declaration d) (body_items xs)
  body_items (BlockItem.Stmt s ∷ xs) = AllWell.each (balanced_stmt w s) (stmt_sound s) (body_items xs)

  pub body_sound : (b : Block SourceStmt) → Sound w c (function_body w b) (AreHere w c linked)
  body_sound b = sound_body w c linked (record { line = b.line; items = map (with_part w) b.items; close = b.close }) (body_items b.items)
