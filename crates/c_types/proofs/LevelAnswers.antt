-- What the walk finds of every expression is what the definition judges of it.
use Rattle.std.proofs.Common.{◌≡◌, List, [], ◌∷◌, map, None, refl, sym, subst}
use Rattle.dfi_base.specs.declared.numbers.Line.{Line}
use Rattle.c_ast.specs.declared.expr.Expr.{ind-Expr, Expr as SourceExpr}
use Rattle.c_ast.specs.declared.expr.Form.{map-Form, roll-Form, Form as SourceForm}
use Rattle.c_ast.specs.declared.expr.Form.TheOpen.{Form-F as Source}
use Rattle.c_typed.specs.declared.expr.Expr.{Expr}
use Rattle.c_typed.specs.declared.expr.Form.TheOpen.{Form-F}
use Rattle.c_types.specs.declared.outline.Outline.{Outline}
use Rattle.c_types.specs.declared.known.Known.{Known}
use Rattle.c_typed.specs.Marks.{History}
use Rattle.c_typed.specs.Whole.{Whole}
use Rattle.c_typed.specs.Faults.{mismatch}
use Rattle.c_typed.specs.Parts.{Place, Part, tokens, ◌<⊗◌, ◌⊗>◌}
use Rattle.c_typed.specs.Tags.{type_name}
use Rattle.c_typed.specs.Exprs as defined
use Rattle.c_typed.specs.Exprs.{Reading, reading, one_of, expr, form_step, struct_at, struct_behind}
use Rattle.c_types.specs.tools.Answers.{Answers}
use Rattle.c_types.specs.tools.Steps.{Found}
use Rattle.c_types.specs.tools.Outlines.{type_name_walk}
use Rattle.c_types.specs.tools.ExprWalk as walk
use Rattle.c_types.specs.tools.ExprWalk.{Finding, finding, form_walk, expr_walk}
use Rattle.c_types.proofs.Bounds.{inside_tokens, bounded_first, bounded_second}
use Rattle.c_types.proofs.BoundsExprs.{bounded, bounded_type_name}
use Rattle.c_typed.proofs.Levels.{mapped_form, form_roll, expr_reads, read_form}
use Rattle.c_types.proofs.WalkLevels.{find_form, found_form, walk_form_roll, walk_reads}
use Rattle.c_typed.proofs.Quiet.{quiet, quiet_type_name, no_marks}
use Rattle.c_types.proofs.Outlined.{IsOutline, Names}
use Rattle.c_types.proofs.ExprAnswers.{BothAgree, Agrees, obeys_answers, map_answers, value_answers, unary_answers, binary_answers, index_answers}
use Rattle.c_types.proofs.FormAnswers.{name_answers, field_answers, cast_answers, sizeof_answers, product_agrees, IsQuietThere}
use Rattle.c_types.proofs.CallAnswers.{AllAgree, call_answers}

-- Of `sizeof` alone more is known than of its tree: it leaves no marks.
sized_step : (w : Whole) (y : Source (Line → Reading) Reading) (line : Line) → IsQuietThere (form_step w y line).sizeof
sized_step w (Source.Sizeof t) line = (
  no_marks (quiet_type_name w t) refl,
  bounded_first (λ a b. a) (tokens 2 ⊗> type_name w t) (tokens 1) (bounded_second (λ a b. b) (tokens 2) (type_name w t) (inside_tokens 2) (bounded_type_name w t)) (inside_tokens 1),
)
sized_step w (Source.Binary l op r) line = tt
sized_step w (Source.Unary op x) line = tt
sized_step w (Source.Cast to x) line = tt
sized_step w (Source.Index x i) line = tt
sized_step w (Source.Field x f) line = tt
sized_step w (Source.Arrow x f) line = tt
sized_step w (Source.Number k) line = tt
sized_step w Source.Null line = tt
sized_step w (Source.Name i) line = tt
sized_step w (Source.Call f rs) line = tt

abbrev SizedForm : Whole → SourceForm → Type 0
SizedForm w f = (line : Line) → IsQuietThere (read_form w f line).sizeof

abbrev SizedExpr : Whole → SourceExpr → Type 0
SizedExpr w e = IsQuietThere (expr w e).sizeof

sized : (w : Whole) (e : SourceExpr) → IsQuietThere (expr w e).sizeof
sized w = ind-Expr (SizedForm w) (SizedExpr w)
    (λ x y is line. subst (λ (r : Reading). IsQuietThere r.sizeof) (sym (form_roll w line x)) (sized_step w (mapped_form w x) line))
    (λ x y is. subst (λ x. SizedExpr w (record { line = x.line; form = x.form })) is (subst (λ (r : Reading). IsQuietThere r.sizeof) (sym (expr_reads w y.line y.form.0)) (y.form.1 y.line)))

-- What is shown of each level.
record Meets (h : History) (r : Reading) (f : Finding) : Type 0 where
  line : r.line ≡ f.line
  plain : (here : Place) → here.before ≡ h → Answers (r.plain.judge here) f.plain
  calls : r.calls ≡ f.calls
  sizeof : BothAgree h r.sizeof f.sizeof
  size : BothAgree h r.size f.size

plainly : (h : History) (line : Line) (p : Part Expr) (f : Found Expr) → ((here : Place) → here.before ≡ h → Answers (p.judge here) f) → Meets h (reading line p) (finding line f)
plainly h line p f is = record { line = refl; plain = is; calls = refl; sizeof = tt; size = tt }

module _ (w : Whole) (o : Outline) (h : History) (k : Known) (is_outline : IsOutline w o) (names : Names h k) where
  abbrev FormMeets : SourceForm → Type 0
  FormMeets f = (line : Line) → Meets h (read_form w f line) (find_form o k f line)

  abbrev ExprMeets : SourceExpr → Type 0
  ExprMeets e = Meets h (expr w e) (expr_walk o k e)

  abbrev MetForm : Type 0
  MetForm = (f : SourceForm) × FormMeets f

  abbrev MetExpr : Type 0
  MetExpr = (e : SourceExpr) × ExprMeets e

  abbrev unmet : Source MetForm MetExpr → Source SourceForm SourceExpr
  unmet y = map-Form MetForm MetExpr SourceForm SourceExpr (λ f. f.0) (λ e. e.0) y

  full : (e : SourceExpr) → ExprMeets e → Agrees h (expr w e) (expr_walk o k e)
  full e is = record { line = is.line; plain = is.plain; calls = is.calls; sizeof = is.sizeof; size = is.size; read = bounded w e; quiet = quiet w e }

  all_agree : (es : List MetExpr) → AllAgree h (map (expr w) (map (λ e. e.0) es)) (map (expr_walk o k) (map (λ e. e.0) es))
  all_agree [] = AllAgree.none
  all_agree (e ∷ es) = AllAgree.each (full e.0 e.1) (all_agree es)

  level_meets : (line : Line) (y : Source MetForm MetExpr) → Meets h (form_step w (mapped_form w (unmet y)) line) (form_walk o k (found_form o k (unmet y)) line)
  level_meets line (Source.Binary l op r) = record {
    line = refl;
    plain = binary_answers h op line (expr w l.0) (expr w r.0) (expr_walk o k l.0) (expr_walk o k r.0) (full l.0 l.1) (full r.0 r.1);
    calls = refl;
    sizeof = tt;
    size = product_agrees h op (expr w l.0) (expr w r.0) (expr_walk o k l.0) (expr_walk o k r.0) (full l.0 l.1) (full r.0 r.1) (sized w l.0) (sized w r.0);
  }
  level_meets line (Source.Unary op x) = plainly h line _ _ (unary_answers h op line (expr w x.0) (expr_walk o k x.0) (full x.0 x.1))
  level_meets line (Source.Cast to x) = plainly h line _ _ (cast_answers w o h k is_outline names to line (expr w x.0) (expr_walk o k x.0) (full x.0 x.1))
  level_meets line (Source.Index x i) = plainly h line _ _ (index_answers h line (expr w x.0) (expr w i.0) (expr_walk o k x.0) (expr_walk o k i.0) (full x.0 x.1) (full i.0 i.1))
  level_meets line (Source.Field x f) =
      plainly h line _ _ (λ here at. field_answers w o is_outline f Form-F.Field line struct_at (expr w x.0).plain here (expr_walk o k x.0).plain (x.1.plain here at))
  level_meets line (Source.Arrow x f) =
      plainly h line _ _ (λ here at. field_answers w o is_outline f Form-F.Arrow line struct_behind (defined.value (expr w x.0)) here (walk.value (expr_walk o k x.0))
      (value_answers h (expr w x.0) (expr_walk o k x.0) (full x.0 x.1) here at))
  level_meets line (Source.Number n) = plainly h line _ _ (λ here at. (refl, refl))
  level_meets line Source.Null = plainly h line _ _ (λ here at. (refl, refl))
  level_meets line (Source.Name i) = plainly h line _ _ (name_answers w o h k is_outline names i)
  level_meets line (Source.Call f es) = record { line = refl; plain = call_answers w o h k is_outline names line f (all_agree es); calls = refl; sizeof = tt; size = tt }
  level_meets line (Source.Sizeof t) =
      let p = tokens 2 ⊗> type_name w t <⊗ tokens 1 in
      let is = sizeof_answers w o h k is_outline names t in
      record {
        line = refl;
        plain = λ here at. obeys_answers mismatch line (λ h t. None) p here (type_name_walk o k t) (is here at);
        calls = refl;
        sizeof = is;
        size = λ here at. map_answers one_of p here (type_name_walk o k t) (is here at);
      }

  meets : (e : SourceExpr) → ExprMeets e
  meets = ind-Expr FormMeets ExprMeets
      (λ x y is line.
      subst (λ r. Meets h r (find_form o k (roll-Form x) line)) (sym (form_roll w line x))
      (subst (λ f. Meets h (form_step w (mapped_form w x) line) f) (sym (walk_form_roll o k line x))
      (subst (λ x. Meets h (form_step w (mapped_form w x) line) (form_walk o k (found_form o k x) line)) is (level_meets line y))))
      (λ x y is.
      subst (λ x. ExprMeets (record { line = x.line; form = x.form })) is
      (subst (λ r. Meets h r (expr_walk o k (record { line = y.line; form = y.form.0 }))) (sym (expr_reads w y.line y.form.0))
      (subst (λ f. Meets h (read_form w y.form.0 y.line) f) (sym (walk_reads o k y.line y.form.0)) (y.form.1 y.line))))

  pub expr_agrees : (e : SourceExpr) → Agrees h (expr w e) (expr_walk o k e)
  expr_agrees e = full e (meets e)

  pub all_agrees : (es : List SourceExpr) → AllAgree h (map (expr w) es) (map (expr_walk o k) es)
  all_agrees [] = AllAgree.none
  all_agrees (e ∷ es) = AllAgree.each (expr_agrees e) (all_agrees es)
