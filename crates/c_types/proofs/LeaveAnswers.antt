-- What the walk finds of `return`, `break` and `continue` is what the definition judges of them.
use Rattle.std.proofs.Common.{◌≡◌, ℕ, ◌+◌, Bool, true, false, not, [], ◌∷◌, ◌++◌, Option, Some, None, Ok, Err, refl, ap, sym, ◌∙◌, subst, arith}
use Rattle.dfi_base.specs.declared.numbers.Line.{Line}
use Rattle.c_ast.specs.declared.expr.Expr.{Expr as SourceExpr}
use Rattle.c_typed.specs.declared.types.ObjectType.{ObjectType}
use Rattle.c_typed.specs.declared.expr.Expr.{Expr}
use Rattle.c_typed.specs.declared.stmt.Stmt.{Stmt, roll-Stmt}
use Rattle.c_types.specs.declared.outline.Outline.{Outline}
use Rattle.c_types.specs.declared.known.Known.{Known}
use Rattle.c_types.specs.declared.known.Around.{Around}
use Rattle.c_typed.specs.Marks.{History, around, in_loop, in_branch, result_at}
use Rattle.c_typed.specs.Whole.{Whole}
use Rattle.c_typed.specs.Faults.{mismatch, escape, unless, told}
use Rattle.c_typed.specs.Parts.{Place, Judged, Part, tokens, behind, kept_by, ruled_by, obeys, ◌<⊗◌, ◌⊗>◌}
use Rattle.c_typed.specs.Stmts as stmts
use Rattle.c_typed.specs.Stmts.{Layer, returns, value_there}
use Rattle.c_types.specs.tools.Answers.{Answers}
use Rattle.c_types.specs.tools.Steps.{Found, ◌>>=◌, kept, unless_kept}
use Rattle.c_types.specs.tools.StmtWalk.{returned, within_loop, value_there_walk}
use Rattle.c_ast.specs.declared.stmt.Stmt.TheOpen.{Stmt-F as Source}
use Rattle.c_types.specs.tools.ExprWalk.{value, expr_walk}
use Rattle.c_types.proofs.AnswerLaws.{AllFrom, least_append}
use Rattle.c_types.proofs.Bounds.{from_append}
use Rattle.c_types.proofs.BoundsStmts.{inside_value_there}
use Rattle.c_types.proofs.Outlined.{IsOutline}
use Rattle.c_types.proofs.Standing.{names_of}
use Rattle.c_types.proofs.WalkNamed.{IsNamed, not_memory, bind_named, value_named}
use Rattle.c_types.proofs.WalkAnswers.{Within}
use Rattle.c_types.proofs.SimpleAnswers.{value_there_answers}
use Rattle.c_types.proofs.Tells.{Tells, answers_tell}
use Rattle.c_types.proofs.ExprAnswers.{obeys_answers}
use Rattle.c_types.proofs.FormLaws.{after_tokens, before_tokens}
use Rattle.c_types.proofs.LocalAnswers.{together}

-- what stands round a statement
pub record IsAround (h : History) (a : Around) : Type 0 where
  pub loops : a.in_loop ≡ in_loop (around 0 h)
  pub branches : a.in_branch ≡ in_branch (around 0 h)

-- `break` and `continue`
leaves : (b : Bool) (line : Line) (layer : Layer) (at : ℕ) → Tells (record { faults = unless b at escape line ++ []; value = Some (roll-Stmt layer) }) (unless_kept b escape line (Ok (roll-Stmt layer)))
leaves true line layer at = (refl, refl)
leaves false line layer at = λ wanted. record { fault = record { at = at; rule = escape; line = line }; first = refl; told = refl }

pub within_loop_tells : (line : Line) (layer : Layer) (here : Place) (a : Around) → IsAround here.before a → Tells ((stmts.within_loop line layer).judge here) (within_loop line layer a)
within_loop_tells line layer here a is =
    subst (λ b. Tells ((stmts.within_loop line layer).judge here) (unless_kept b escape line (Ok (roll-Stmt layer)))) (sym is.loops)
    (leaves (in_loop (around 0 here.before)) line layer here.at)

-- `return`: its own rules at its first token, those of its value behind it
abbrev value_part : Whole → Option SourceExpr → Part (Option Expr)
value_part w v = tokens 1 ⊗> value_there w v <⊗ tokens 1

abbrev ruled_return : Line → Part (Option Expr) → Part Stmt
ruled_return line p = obeys mismatch line (λ h e. returns line (result_at h) e) p

abbrev Outcome : Bool → Line → Place → Judged Stmt → Found Stmt → Type 0
Outcome inside line here j r = Tells (record { faults = unless (not inside) here.at escape line ++ j.faults; value = j.value }) r

keep_outside : (line : Line) (r : Found Stmt) → (r >>= (λ s. unless_kept true escape line (Ok s))) ≡ r
keep_outside line (Ok s) = refl
keep_outside line (Err e) = refl

outside : (line : Line) (here : Place) (j : Judged Stmt) (result : Option ObjectType) (f : Found (Option Expr)) → Answers j (f >>= (λ v. kept mismatch line (returns line result v))) → Outcome false line here j (returned line false result f)
outside line here j result (Ok v) is = subst (Tells (record { faults = [] ++ j.faults; value = j.value })) (sym (keep_outside line (kept mismatch line (returns line result v)))) (answers_tell j (kept mismatch line (returns line result v)) is)
outside line here j result (Err e) is = answers_tell j (Err e) is

-- inside a branch
inside_ok : (line : Line) (here : Place) (s : Option Stmt)
    → Tells (record { faults = record { at = here.at; rule = escape; line = line } ∷ (kept_by mismatch line here.at [] s).faults; value = (kept_by mismatch line here.at [] s).value })
    (kept mismatch line s >>= (λ s. unless_kept false escape line (Ok s)))
inside_ok line here (Some s) = λ wanted. record { fault = record { at = here.at; rule = escape; line = line }; first = refl; told = refl }
inside_ok line here None = λ wanted. record {
  fault = record { at = here.at; rule = mismatch; line = line };
  first = ap (λ b. elim b [ true ↦ Some (record { at = here.at; rule = escape; line = line }) | false ↦ Some (record { at = here.at; rule = mismatch; line = line }) ])
      (together (record { at = here.at; rule = escape; line = line }) (record { at = here.at; rule = mismatch; line = line }) refl);
  told = refl;
}

inside_err : (line : Line) (here : Place) (j : Judged Stmt) → AllFrom (here.at + 1) j.faults → Tells (record { faults = record { at = here.at; rule = escape; line = line } ∷ j.faults; value = j.value }) (Err (told (record { at = here.at; rule = escape; line = line })))
inside_err line here j from = λ wanted. record {
  fault = record { at = here.at; rule = escape; line = line };
  first = least_append (here.at + 1) (record { at = here.at; rule = escape; line = line } ∷ []) j.faults (omega arith, tt) from;
  told = refl;
}

-- the rule of a `return`, over a value that is judged
inside_branch : (line : Line) (here : Place) (result : Option ObjectType) (p : Judged (Option Expr)) (f : Found (Option Expr)) → Answers p f → IsNamed f → AllFrom (here.at + 1) p.faults
    → Outcome true line here (ruled_by mismatch line (returns line result) here.at p.faults p.value) (returned line true result f)
inside_branch line here result p (Ok v) answers named from =
    subst (λ j. Outcome true line here j (returned line true result (Ok v)))
    (sym (ap (λ o. ruled_by mismatch line (returns line result) here.at p.faults o) answers.1 ∙ ap (λ fs. kept_by mismatch line here.at fs (returns line result v)) answers.0))
    (inside_ok line here (returns line result v))
inside_branch line here result p (Err e) answers named from =
    let no = answers (not_memory named) in
    subst (λ j. Outcome true line here j (returned line true result (Err e))) (sym (ap (λ o. ruled_by mismatch line (returns line result) here.at p.faults o) no.broken))
    (inside_err line here (record { faults = p.faults; value = None }) from)

by_branch : (b : Bool) (line : Line) (here : Place) (result : Option ObjectType) (p : Part (Option Expr)) (f : Found (Option Expr)) → result_at here.before ≡ result → Answers (p.judge here) f → IsNamed f → AllFrom (here.at + 1) (p.judge here).faults
    → Outcome b line here ((ruled_return line p).judge here) (returned line b result f)
by_branch true line here result p f same answers named from =
    subst (λ r. Outcome true line here (ruled_by mismatch line (returns line r) here.at (p.judge here).faults (p.judge here).value) (returned line true result f)) (sym same)
    (inside_branch line here result (p.judge here) f answers named from)
by_branch false line here result p f same answers named from =
    outside line here ((ruled_return line p).judge here) result f
    (subst (λ r. Answers ((ruled_return line p).judge here) (f >>= (λ v. kept mismatch line (returns line r v)))) same
    (obeys_answers mismatch line (λ h e. returns line (result_at h) e) p here f answers))

value_there_named : (o : Outline) (k : Known) (v : Option SourceExpr) → IsNamed (value_there_walk o k v)
value_there_named o k None = tt
value_there_named o k (Some e) = bind_named (value (expr_walk o k e)) (λ v. Ok (Some v)) (value_named o k e) (λ v. tt)

from_value : (w : Whole) (v : Option SourceExpr) (here : Place) → AllFrom (here.at + 1) ((value_part w v).judge here).faults
from_value w v here =
    from_append (here.at + 1) ([] ++ ((value_there w v).judge (behind (tokens 1) here)).faults) [] ((inside_value_there w v).within (behind (tokens 1) here)).start tt

pub return_tells : (w : Whole) (o : Outline) → IsOutline w o → (line : Line) (v : Option SourceExpr) (here : Place) (k : Known) (a : Around) → Within w here.before k → IsAround here.before a
    → Tells ((stmts.stmt_step w (Source.Return line v)).judge here) (returned line a.in_branch k.frame.result (value_there_walk o k v))
return_tells w o is_outline line v here k a is round =
    let f = value_there_walk o k v in
    let p = value_part w v in
    let answers = before_tokens 1 (tokens 1 ⊗> value_there w v) here f
    (after_tokens 1 (value_there w v) here f (value_there_answers w o here.before k is_outline (names_of is.stands) v (behind (tokens 1) here) refl)) in
    subst (λ b. Tells ((stmts.stmt_step w (Source.Return line v)).judge here) (returned line b k.frame.result f)) (sym round.branches)
    (by_branch (in_branch (around 0 here.before)) line here k.frame.result p f (sym is.framed.result) answers (value_there_named o k v) (from_value w v here))
