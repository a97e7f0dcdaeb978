-- What the walk finds of loops is what the definition judges of them: a scope is open from their first token on.
use Rattle.std.proofs.Common.{◌≡◌, List, [], ◌++◌, Option, Some, None, Ok, Err, refl, ap, subst}
use Rattle.dfi_base.specs.declared.numbers.Line.{Line}
use Rattle.c_ast.specs.declared.expr.Expr.{Expr as SourceExpr}
use Rattle.c_ast.specs.declared.stmt.Simple.{Simple}
use Rattle.c_ast.specs.declared.stmt.ForStart.{ForStart}
use Rattle.c_ast.specs.declared.stmt.Stmt.{Stmt as SourceStmt}
use Rattle.c_ast.specs.declared.stmt.Stmt.TheOpen.{Stmt-F as Source}
use Rattle.c_typed.specs.declared.stmt.Condition.{Condition}
use Rattle.c_typed.specs.declared.stmt.Stmt.{Stmt, roll-Stmt as roll}
use Rattle.c_typed.specs.declared.stmt.Stmt.TheOpen.{Stmt-F}
use Rattle.c_types.specs.declared.outline.Outline.{Outline}
use Rattle.c_types.specs.declared.known.Known.{Known}
use Rattle.c_types.specs.declared.known.Around.{Around}
use Rattle.c_typed.specs.Marks.{Mark, opens, closes, loop}
use Rattle.c_typed.specs.Whole.{Whole}
use Rattle.c_typed.specs.Parts.{Place, Part, tokens, mark, behind, ◌⊗◌, ◌<⊗◌, ◌⊗>◌}
use Rattle.c_typed.specs.Stmts.{condition, condition_there, start, step, stmt_step, stmt}
use Rattle.c_types.specs.tools.Steps.{Found, ◌>>=◌}
use Rattle.c_types.specs.tools.KnownSteps.{entered, exited}
use Rattle.c_types.specs.tools.StmtWalk as walk
use Rattle.c_types.specs.tools.StmtWalk.{same, scoped, condition_walk, condition_there_walk, start_walk, step_walk, stmt_walk}
use Rattle.c_types.proofs.Bounds.{IsInside, inside, inside_tokens}
use Rattle.c_types.proofs.BoundsDecls.{beside, before, after, inside_mark}
use Rattle.c_types.proofs.BoundsStmts.{inside_stmt, inside_start, inside_step, inside_condition, inside_condition_there}
use Rattle.c_typed.proofs.Quiet.{quiet}
use Rattle.c_typed.proofs.Balanced.{Balanced}
use Rattle.c_typed.proofs.BalancedStmts.{join, balanced_quiet, balanced_start, balanced_stmt, quiet_condition_there, quiet_step}
use Rattle.c_types.proofs.Tells.{Tells, answers_tell}
use Rattle.c_types.proofs.Outlined.{IsOutline}
use Rattle.c_types.proofs.Standing.{names_of}
use Rattle.c_types.proofs.Walking.{then, ok_is, goes_same, goes_joined, goes_ruled, goes_map, goes_before}
use Rattle.c_types.proofs.WalkAnswers.{Within, Walks, walks_closing, within_opens}
use Rattle.c_types.proofs.SimpleAnswers.{condition_there_answers, simple_answers}
use Rattle.c_types.proofs.DeclAnswers.{local_decl_walks}
use Rattle.c_types.proofs.LeaveAnswers.{IsAround}
use Rattle.c_types.proofs.BlockAnswers.{StmtMeets, around_same, around_loop, simple_walks, test_walks}

-- The value of a loop, from what is found of its parts.
abbrev out_of : {A : Type 0} → Found (A × Known) → Found (A × Known)
out_of r = r >>= (λ s. Ok (s.0, exited s.1))

abbrev as_while : Line → Condition × Stmt → Stmt
as_while line s = roll (Stmt-F.While line s.0 s.1)

while_body : (line : Line) (c : Condition) (r : Found (Stmt × Known))
    → (out_of (r >>= (λ t. Ok ((c, t.0), t.1))) >>= (λ s. Ok (as_while line s.0, s.1))) ≡ out_of (r >>= (λ s. Ok (roll (Stmt-F.While line c s.0), s.1)))
while_body line c (Ok t) = refl
while_body line c (Err e) = refl

while_found : (line : Line) (k : Known) (f : Found Condition) (g : Known → Found (Stmt × Known))
    → (out_of (then (λ a b. (a, b)) (same k f) (λ s. g s.1)) >>= (λ s. Ok (as_while line s.0, s.1)))
    ≡ out_of (f >>= (λ c. g k >>= (λ s. Ok (roll (Stmt-F.While line c s.0), s.1))))
while_found line k (Ok c) g = while_body line c (g k)
while_found line k (Err e) g = refl

abbrev as_for : Line → ((Stmt × Option Condition) × Stmt) × Stmt → Stmt
as_for line s = roll (Stmt-F.For line s.0.0.0 s.0.0.1 s.0.1 s.1)

-- a start, a condition and a step, and what is known at the body
abbrev with_condition : Found (Stmt × Known) → (Known → Found (Option Condition)) → Found ((Stmt × Option Condition) × Known)
with_condition r f = then (λ a b. (a, b)) r (λ s. same s.1 (f s.1))

abbrev with_step : Found ((Stmt × Option Condition) × Known) → (Known → Found Stmt) → Found (((Stmt × Option Condition) × Stmt) × Known)
with_step r f = then (λ a b. (a, b)) r (λ s. same s.1 (f s.1))

abbrev with_body : Found (((Stmt × Option Condition) × Stmt) × Known) → (Known → Found (Stmt × Known)) → Found ((((Stmt × Option Condition) × Stmt) × Stmt) × Known)
with_body r g = then (λ a b. (a, b)) r (λ s. g s.1)

abbrev for_value : Line → Found ((((Stmt × Option Condition) × Stmt) × Stmt) × Known) → Found (Stmt × Known)
for_value line r = out_of r >>= (λ s. Ok (as_for line s.0, s.1))

for_body : (line : Line) (f : Stmt) (c : Option Condition) (l : Stmt) (r : Found (Stmt × Known))
    → for_value line (r >>= (λ t. Ok ((((f, c), l), t.0), t.1))) ≡ out_of (r >>= (λ s. Ok (roll (Stmt-F.For line f c l s.0), s.1)))
for_body line f c l (Ok t) = refl
for_body line f c l (Err e) = refl

for_step : (line : Line) (f : Stmt) (c : Option Condition) (k : Known) (y : Found Stmt) (g : Known → Found (Stmt × Known))
    → for_value line (with_body (then (λ a b. (a, b)) (Ok ((f, c), k)) (λ s. same s.1 y)) g)
    ≡ out_of (y >>= (λ l. g k >>= (λ s. Ok (roll (Stmt-F.For line f c l s.0), s.1))))
for_step line f c k (Ok l) g = for_body line f c l (g k)
for_step line f c k (Err e) g = refl

for_condition : (line : Line) (f : Stmt) (k : Known) (x : Found (Option Condition)) (y : Known → Found Stmt) (g : Known → Found (Stmt × Known))
    → for_value line (with_body (with_step (then (λ a b. (a, b)) (Ok (f, k)) (λ s. same s.1 x)) y) g)
    ≡ out_of (x >>= (λ c. y k >>= (λ l. g k >>= (λ s. Ok (roll (Stmt-F.For line f c l s.0), s.1)))))
for_condition line f k (Ok c) y g = for_step line f c k (y k) g
for_condition line f k (Err e) y g = refl

for_found : (line : Line) (r : Found (Stmt × Known)) (x : Known → Found (Option Condition)) (y : Known → Found Stmt) (g : Known → Found (Stmt × Known))
    → for_value line (with_body (with_step (with_condition r x) y) g)
    ≡ out_of (r >>= (λ f. x f.1 >>= (λ c. y f.1 >>= (λ l. g f.1 >>= (λ s. Ok (roll (Stmt-F.For line f.0 c l s.0), s.1))))))
for_found line (Ok f) x y g = for_condition line f.0 f.1 (x f.1) y g
for_found line (Err e) x y g = refl

module _ (w : Whole) (o : Outline) (is_outline : IsOutline w o) where
  test_there_walks : (c : Option SourceExpr) (here : Place) (k : Known) → Within w here.before k → Walks w (condition_there w c) here (same k (condition_there_walk o k c))
  test_there_walks c here k is =
      goes_same (Within w) (condition_there w c) here k (condition_there_walk o k c) (quiet_condition_there w c) is
      (answers_tell ((condition_there w c).judge here) (condition_there_walk o k c) (condition_there_answers w o here.before k is_outline (names_of is.stands) c here refl))

  step_told : (s : Option Simple) (here : Place) (k : Known) → Within w here.before k → Tells ((step w s).judge here) (step_walk o k s)
  step_told None here k is = (refl, refl)
  step_told (Some s) here k is = answers_tell ((step w (Some s)).judge here) (step_walk o k (Some s)) (simple_answers w o here.before k is_outline (names_of is.stands) s here refl)

  start_walks : (s : ForStart) (here : Place) (k : Known) → Within w here.before k → Walks w (start w s) here (start_walk o s k)
  start_walks (ForStart.Decl d) here k is = local_decl_walks w o is_outline d here k is
  start_walks (ForStart.Simple None) here k is = record {
    tells = (refl, refl);
    stands = λ s e. subst (Within w here.before) (ap (λ s. s.1) (ok_is e)) is;
  }
  start_walks (ForStart.Simple (Some s)) here k is = simple_walks w o is_outline s here k is

  opening_inside : IsInside (mark (opens loop) ⊗> tokens 2)
  opening_inside = after (inside_mark (opens loop)) (inside_tokens 2)

  -- `while`
  abbrev while_head : SourceExpr → Part Condition
  while_head c = mark (opens loop) ⊗> tokens 2 ⊗> condition w c <⊗ tokens 1

  while_head_walks : (c : SourceExpr) (here : Place) (k : Known) → Within w here.before k → Walks w (while_head c) here (same (entered k) (condition_walk o (entered k) c))
  while_head_walks c here k is =
      let p = mark (opens loop) ⊗> tokens 2 in
      goes_before (Within w) 1 (p ⊗> condition w c) here _
      (goes_ruled (Within w) p (condition w c) here (Ok tt) _ opening_inside (inside (condition w c) (inside_condition w c)) (refl, refl)
      (test_walks w o is_outline c (behind p here) (entered k) (within_opens w loop here.before k is)))

  pub while_walks : (line : Line) (c : SourceExpr) (s : SourceStmt) → StmtMeets w o is_outline s → (here : Place) (k : Known) (a : Around) → Within w here.before k → IsAround here.before a
      → Walks w (stmt_step w (Source.While line c (stmt w s))) here (scoped (walk.while_walk o line c (stmt_walk o s) a) k)
  while_walks line c s meets here k a is round =
      let head = while_head_walks c here k is in
      let quiet_head : Balanced ((condition w c).marks ++ []) = join (balanced_quiet (quiet w c)) Balanced.none in
      let g = λ (l : Known). stmt_walk o s (walk.in_loop a) l in
      let both = goes_joined (Within w) (λ a b. (a, b)) (while_head c) (stmt w s) here (same (entered k) (condition_walk o (entered k) c)) (λ t. g t.1)
      (before (after opening_inside (inside (condition w c) (inside_condition w c))) (inside_tokens 1)) (inside_stmt w s) head
      (λ t e. meets (behind (while_head c) here) t.1 (walk.in_loop a) (head.stands t e) (around_same quiet_head (around_loop round))) in
      subst (Walks w (stmt_step w (Source.While line c (stmt w s))) here) (while_found line (entered k) (condition_walk o (entered k) c) g)
      (goes_map (Within w) (as_while line) (while_head c ⊗ stmt w s <⊗ mark closes) here _
      (walks_closing w loop (while_head c ⊗ stmt w s) (((condition w c).marks ++ []) ++ (stmt w s).marks) here k _ refl (join quiet_head (balanced_stmt w s)) is both))

  -- `for`
  abbrev for_start : ForStart → Part Stmt
  for_start first = mark (opens loop) ⊗> tokens 2 ⊗> start w first

  abbrev for_test : ForStart → Option SourceExpr → Part (Stmt × Option Condition)
  for_test first c = for_start first ⊗ condition_there w c

  abbrev for_head : ForStart → Option SourceExpr → Option Simple → Part ((Stmt × Option Condition) × Stmt)
  for_head first c last = for_test first c <⊗ tokens 1 ⊗ step w last

  start_inside : (first : ForStart) → IsInside (for_start first)
  start_inside first = after opening_inside (inside_start w first)

  test_inside : (first : ForStart) (c : Option SourceExpr) → IsInside (for_test first c <⊗ tokens 1)
  test_inside first c = before (beside (start_inside first) (inside_condition_there w c)) (inside_tokens 1)

  head_inside : (first : ForStart) (c : Option SourceExpr) (last : Option Simple) → IsInside (for_head first c last <⊗ tokens 1)
  head_inside first c last = before (beside (test_inside first c) (inside_step w last)) (inside_tokens 1)

  for_start_walks : (first : ForStart) (here : Place) (k : Known) → Within w here.before k → Walks w (for_start first) here (start_walk o first (entered k))
  for_start_walks first here k is =
      let p = mark (opens loop) ⊗> tokens 2 in
      goes_ruled (Within w) p (start w first) here (Ok tt) _ opening_inside (inside_start w first) (refl, refl)
      (start_walks first (behind p here) (entered k) (within_opens w loop here.before k is))

  for_test_walks : (first : ForStart) (c : Option SourceExpr) (here : Place) (k : Known) → Within w here.before k
      → Walks w (for_test first c <⊗ tokens 1) here (with_condition (start_walk o first (entered k)) (λ l. condition_there_walk o l c))
  for_test_walks first c here k is =
      let begun = for_start_walks first here k is in
      goes_before (Within w) 1 (for_test first c) here _
      (goes_joined (Within w) (λ a b. (a, b)) (for_start first) (condition_there w c) here _ (λ s. same s.1 (condition_there_walk o s.1 c)) (start_inside first) (inside_condition_there w c) begun
      (λ s e. test_there_walks c (behind (for_start first) here) s.1 (begun.stands s e)))

  for_head_walks : (first : ForStart) (c : Option SourceExpr) (last : Option Simple) (here : Place) (k : Known) → Within w here.before k
      → Walks w (for_head first c last <⊗ tokens 1) here (with_step (with_condition (start_walk o first (entered k)) (λ l. condition_there_walk o l c)) (λ l. step_walk o l last))
  for_head_walks first c last here k is =
      let p = for_test first c <⊗ tokens 1 in
      let tested = for_test_walks first c here k is in
      goes_before (Within w) 1 (for_head first c last) here _
      (goes_joined (Within w) (λ a b. (a, b)) p (step w last) here _ (λ s. same s.1 (step_walk o s.1 last)) (test_inside first c) (inside_step w last) tested
      (λ s e. goes_same (Within w) (step w last) (behind p here) s.1 (step_walk o s.1 last) (quiet_step w last) (tested.stands s e) (step_told last (behind p here) s.1 (tested.stands s e))))

  abbrev head_marks : ForStart → Option SourceExpr → Option Simple → List Mark
  head_marks first c last = (start w first).marks ++ (condition_there w c).marks ++ [] ++ (step w last).marks ++ []

  head_balanced : (first : ForStart) (c : Option SourceExpr) (last : Option Simple) → Balanced (head_marks first c last)
  head_balanced first c last =
      join (join (join (join (balanced_start w first) (balanced_quiet (quiet_condition_there w c))) Balanced.none) (balanced_quiet (quiet_step w last))) Balanced.none

  pub for_walks : (line : Line) (first : ForStart) (c : Option SourceExpr) (last : Option Simple) (s : SourceStmt) → StmtMeets w o is_outline s → (here : Place) (k : Known) (a : Around)
      → Within w here.before k → IsAround here.before a
      → Walks w (stmt_step w (Source.For line first c last (stmt w s))) here (scoped (walk.for_walk o line first c last (stmt_walk o s) a) k)
  for_walks line first c last s meets here k a is round =
      let p = for_head first c last <⊗ tokens 1 in
      let head = for_head_walks first c last here k is in
      let g = λ (l : Known). stmt_walk o s (walk.in_loop a) l in
      let both = goes_joined (Within w) (λ a b. (a, b)) p (stmt w s) here _ (λ t. g t.1) (head_inside first c last) (inside_stmt w s) head
      (λ t e. meets (behind p here) t.1 (walk.in_loop a) (head.stands t e) (around_same (head_balanced first c last) (around_loop round))) in
      subst (Walks w (stmt_step w (Source.For line first c last (stmt w s))) here)
      (for_found line (start_walk o first (entered k)) (λ l. condition_there_walk o l c) (λ l. step_walk o l last) g)
      (goes_map (Within w) (as_for line) (p ⊗ stmt w s <⊗ mark closes) here _
      (walks_closing w loop (p ⊗ stmt w s) (head_marks first c last ++ (stmt w s).marks) here k _ refl (join (head_balanced first c last) (balanced_stmt w s)) is both))
