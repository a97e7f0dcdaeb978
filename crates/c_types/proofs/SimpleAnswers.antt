-- What the walk finds of simple statements and conditions is what the definition judges of them.
use Rattle.std.proofs.Common.{◌≡◌, map, Option, Some, None, refl, ◌∙◌, subst}
use Rattle.dfi_base.specs.declared.numbers.Line.{Line}
use Rattle.c_ast.specs.declared.expr.Expr.{Expr as SourceExpr}
use Rattle.c_ast.specs.declared.stmt.AssignOp.{AssignOp}
use Rattle.c_ast.specs.declared.stmt.Simple.{Simple}
use Rattle.c_typed.specs.declared.expr.Expr.{Expr}
use Rattle.c_typed.specs.declared.stmt.Stmt.TheOpen.{Stmt-F}
use Rattle.c_types.specs.declared.outline.Outline.{Outline}
use Rattle.c_types.specs.declared.known.Known.{Known}
use Rattle.c_typed.specs.Marks.{History}
use Rattle.c_typed.specs.Whole.{Whole}
use Rattle.c_typed.specs.Faults.{mismatch}
use Rattle.c_typed.specs.Parts.{Place, tokens, behind, obeys, ◌⊗◌, ◌<⊗◌, ◌⊗>◌}
use Rattle.c_typed.specs.Exprs.{Reading, expr, value, place}
use Rattle.c_typed.specs.Stmts.{Layer, tested, assigned, counted, simple, condition, condition_by, value_there, condition_there}
use Rattle.c_types.specs.tools.Answers.{Answers}
use Rattle.c_types.specs.tools.Steps.{◌>>=◌, kept}
use Rattle.c_types.specs.tools.ExprWalk as walk
use Rattle.c_types.specs.tools.ExprWalk.{Finding, expr_walk}
use Rattle.c_types.specs.tools.StmtWalk.{condition_walk, condition_there_walk, simple_walk, value_there_walk}
use Rattle.c_types.proofs.Bounds.{inside, inside_tokens, inside_joined}
use Rattle.c_types.proofs.BoundsExprs.{bounded_value, bounded_place}
use Rattle.c_types.proofs.FormLaws.{after_tokens, before_tokens}
use Rattle.c_typed.proofs.Quiet.{no_marks, before_same}
use Rattle.c_types.proofs.Outlined.{IsOutline, Names}
use Rattle.c_types.proofs.ExprAnswers.{Agrees, obeys_answers, joined_answers, map_answers, value_answers, place_answers}
use Rattle.c_types.proofs.FormAnswers.{both_bound}
use Rattle.c_types.proofs.LevelAnswers.{expr_agrees, all_agrees}
use Rattle.c_types.proofs.CallAnswers.{call_stmt_answers}

-- Conditions.
condition_by_answers : (h : History) (r : Reading) (f : Finding) → Agrees h r f → (here : Place) → here.before ≡ h
    → Answers ((condition_by r).judge here) (walk.value f >>= (λ v. kept mismatch f.line (tested f.line v)))
condition_by_answers h r f is here at =
    subst (λ line. Answers ((condition_by r).judge here) (walk.value f >>= (λ v. kept mismatch line (tested line v)))) is.line
    (obeys_answers mismatch r.line (λ h e. tested r.line e) (value r) here (walk.value f) (value_answers h r f is here at))

-- Assignments and counting.
assign_answers : (h : History) (line : Line) (op : AssignOp) (l r : Reading) (f g : Finding) → Agrees h l f → Agrees h r g → (here : Place) → here.before ≡ h
    → Answers ((obeys mismatch line (λ h e. assigned line op e.0 e.1) (place l <⊗ tokens 1 ⊗ value r)).judge here)
    (walk.place f >>= (λ t. walk.value g >>= (λ e. kept mismatch line (assigned line op t e))))
assign_answers h line op l r f g left right here at =
    let p = place l <⊗ tokens 1 in
    subst (Answers ((obeys mismatch line (λ h e. assigned line op e.0 e.1) (p ⊗ value r)).judge here))
    (both_bound (λ a b. (a, b)) (λ e. kept mismatch line (assigned line op e.0 e.1)) (walk.place f) (walk.value g))
    (obeys_answers mismatch line (λ h e. assigned line op e.0 e.1) (p ⊗ value r) here _
    (joined_answers (λ a b. (a, b)) p (value r) here (walk.place f) (walk.value g)
    (inside_joined (λ a b. a) (place l) (tokens 1) (inside (place l) (bounded_place l left.read)) (inside_tokens 1)) (inside (value r) (bounded_value r right.read))
    (before_tokens 1 (place l) here (walk.place f) (place_answers h l f left here at))
    (value_answers h r g right (behind p here) (before_same p here (no_marks left.quiet refl) ∙ at))))

behind_answers : (h : History) (line : Line) (layer : Expr → Layer) (r : Reading) (f : Finding) → Agrees h r f → (here : Place) → here.before ≡ h
    → Answers ((obeys mismatch line (λ h e. counted e (layer e)) (place r <⊗ tokens 1)).judge here) (walk.place f >>= (λ t. kept mismatch line (counted t (layer t))))
behind_answers h line layer r f is here at =
    obeys_answers mismatch line (λ h e. counted e (layer e)) (place r <⊗ tokens 1) here (walk.place f) (before_tokens 1 (place r) here (walk.place f) (place_answers h r f is here at))

before_answers : (h : History) (line : Line) (layer : Expr → Layer) (r : Reading) (f : Finding) → Agrees h r f → (here : Place) → here.before ≡ h
    → Answers ((obeys mismatch line (λ h e. counted e (layer e)) (tokens 1 ⊗> place r)).judge here) (walk.place f >>= (λ t. kept mismatch line (counted t (layer t))))
before_answers h line layer r f is here at =
    obeys_answers mismatch line (λ h e. counted e (layer e)) (tokens 1 ⊗> place r) here (walk.place f) (after_tokens 1 (place r) here (walk.place f) (place_answers h r f is (behind (tokens 1) here) at))

module _ (w : Whole) (o : Outline) (h : History) (k : Known) (is_outline : IsOutline w o) (names : Names h k) where
  agrees : (e : SourceExpr) → Agrees h (expr w e) (expr_walk o k e)
  agrees e = expr_agrees w o h k is_outline names e

  pub condition_answers : (e : SourceExpr) (here : Place) → here.before ≡ h → Answers ((condition w e).judge here) (condition_walk o k e)
  condition_answers e here at = condition_by_answers h (expr w e) (expr_walk o k e) (agrees e) here at

  pub condition_there_answers : (e : Option SourceExpr) (here : Place) → here.before ≡ h → Answers ((condition_there w e).judge here) (condition_there_walk o k e)
  condition_there_answers None here at = (refl, refl)
  condition_there_answers (Some e) here at = map_answers (λ c. Some c) (condition w e) here (condition_walk o k e) (condition_answers e here at)

  pub value_there_answers : (e : Option SourceExpr) (here : Place) → here.before ≡ h → Answers ((value_there w e).judge here) (value_there_walk o k e)
  value_there_answers None here at = (refl, refl)
  value_there_answers (Some e) here at = map_answers (λ v. Some v) (value (expr w e)) here (walk.value (expr_walk o k e)) (value_answers h (expr w e) (expr_walk o k e) (agrees e) here at)

  pub simple_answers : (s : Simple) (here : Place) → here.before ≡ h → Answers ((simple w s).judge here) (simple_walk o k s)
  simple_answers (Simple.Assign line target op v) here at =
      assign_answers h line op (expr w target) (expr w v) (expr_walk o k target) (expr_walk o k v) (agrees target) (agrees v) here at
  simple_answers (Simple.Increment line target) here at = behind_answers h line (λ t. Stmt-F.Increment line t) (expr w target) (expr_walk o k target) (agrees target) here at
  simple_answers (Simple.Decrement line target) here at = behind_answers h line (λ t. Stmt-F.Decrement line t) (expr w target) (expr_walk o k target) (agrees target) here at
  simple_answers (Simple.PreIncrement line target) here at = before_answers h line (λ t. Stmt-F.Increment line t) (expr w target) (expr_walk o k target) (agrees target) here at
  simple_answers (Simple.PreDecrement line target) here at = before_answers h line (λ t. Stmt-F.Decrement line t) (expr w target) (expr_walk o k target) (agrees target) here at
  simple_answers (Simple.Call f args) here at =
      call_stmt_answers w o h k is_outline names f (all_agrees w o h k is_outline names args) here at
