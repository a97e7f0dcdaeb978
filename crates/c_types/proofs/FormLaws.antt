-- Answers of an expression, by its form, from the answers of its operands.
use Rattle.std.proofs.Common.{◌≡◌, ℕ, ◌+◌, [], Option, Some, Result, Ok, Err, refl, ap, sym, ◌∙◌, subst}
use Rattle.std.proofs.lemmas.List.{append-nil}
use Rattle.dfi_base.specs.declared.numbers.Line.{Line}
use Rattle.c_ast.specs.declared.expr.Expr.{Expr as SourceExpr}
use Rattle.c_ast.specs.declared.expr.BinaryOp.{BinaryOp}
use Rattle.c_ast.specs.declared.expr.Form.TheVariants as form
use Rattle.c_typed.specs.declared.fault.TypeFault.{TypeFault}
use Rattle.c_typed.specs.declared.expr.Expr.{Expr}
use Rattle.c_typed.specs.Marks.{History}
use Rattle.c_typed.specs.Whole.{Whole}
use Rattle.c_typed.specs.Faults.{Rule, mismatch}
use Rattle.c_typed.specs.Parts.{Place, Part, tokens, both_values, behind, obeys, ◌⊗>◌, ◌<⊗◌}
use Rattle.c_typed.specs.Exprs.{Reading, expr, value, operands, binary, item_at}
use Rattle.c_types.specs.tools.Answers.{least, Answers, Rules}
use Rattle.c_types.proofs.Bounds.{inside, inside_tokens, inside_joined}
use Rattle.c_types.proofs.BoundsExprs.{IsRead, bounded_value}
use Rattle.c_types.proofs.AnswerLaws.{ruled_ok, ruled_err, both_ok, both_second, both_first}
use Rattle.c_typed.proofs.Levels.{binary_is, index_is}

-- behind tokens without a rule
pub after_tokens : {A : Type 0} (n : ℕ) (p : Part A) (here : Place) (r : Result A TypeFault) → Answers (p.judge (behind (tokens n) here)) r → Answers ((tokens n ⊗> p).judge here) r
after_tokens n p here (Ok a) is = both_ok (λ a b. b) (record { faults = []; value = Some (tt {0}) }) (p.judge (behind (tokens n) here)) (tt {0}) a (refl, refl) is
after_tokens n p here (Err e) is = both_second (λ a b. b) (record { faults = []; value = Some (tt {0}) }) (p.judge (behind (tokens n) here)) (tt {0}) e (refl, refl) is

-- before them
pub before_tokens : {A : Type 0} (n : ℕ) (p : Part A) (here : Place) (r : Result A TypeFault) → Answers (p.judge here) r → Answers ((p <⊗ tokens n).judge here) r
before_tokens n p here (Ok a) is = both_ok (λ a b. a) (p.judge here) (record { faults = []; value = Some (tt {0}) }) a (tt {0}) is (refl, refl)
before_tokens n p here (Err e) is = λ wanted.
    let no = is wanted in
    record {
      fault = no.fault;
      first = ap least (append-nil (p.judge here).faults) ∙ no.first;
      told = no.told;
      broken = ap (λ v. both_values (λ a b. a) v (Some (tt {0}))) no.broken;
    }

-- A rule of a whole over a part that answered so.
pub obeyed : {A B : Type 0} (rule : Rule) (line : Line) (keeps : History → A → Option B) (p : Part A) (here : Place) (a : A) (r : Result B TypeFault)
    → Answers (p.judge here) (Ok a) → Rules rule line (keeps here.before a) r → Answers ((obeys rule line keeps p).judge here) r
obeyed rule line keeps p here a r is kept = ruled_ok rule line (keeps here.before) here (p.judge here) a r is kept

pub refused_inside : {A B : Type 0} (rule : Rule) (line : Line) (keeps : History → A → Option B) (p : Part A) (here : Place) (e : TypeFault)
    → Answers (p.judge here) (Err e) → Answers ((obeys rule line keeps p).judge here) (Err e)
refused_inside rule line keeps p here e is = ruled_err rule line (keeps here.before) here (p.judge here) e is

-- the same answer of an expression that is read so
pub read_as : (w : Whole) (e : SourceExpr) (s : Reading) (here : Place) (r : Result Expr TypeFault) → expr w e ≡ s → Answers (s.plain.judge here) r → Answers ((expr w e).plain.judge here) r
read_as w e s here r is answers = subst (λ s. Answers (s.plain.judge here) r) (sym is) answers

-- An operator before an operand.
pub prefixed : (line : Line) (keeps : Expr → Option Expr) (p : Part Expr) (here : Place) (a : Expr) (r : Result Expr TypeFault)
    → Answers (p.judge (behind (tokens 1) here)) (Ok a) → Rules mismatch line (keeps a) r → Answers ((obeys mismatch line (λ h e. keeps e) (tokens 1 ⊗> p)).judge here) r
prefixed line keeps p here a r is kept = obeyed mismatch line (λ h e. keeps e) (tokens 1 ⊗> p) here a r (after_tokens 1 p here (Ok a) is) kept

pub prefixed_err : (line : Line) (keeps : Expr → Option Expr) (p : Part Expr) (here : Place) (e : TypeFault)
    → Answers (p.judge (behind (tokens 1) here)) (Err e) → Answers ((obeys mismatch line (λ h e. keeps e) (tokens 1 ⊗> p)).judge here) (Err e)
prefixed_err line keeps p here e is = refused_inside mismatch line (λ h e. keeps e) (tokens 1 ⊗> p) here e (after_tokens 1 p here (Err e) is)

-- An operator between two operands: the faults of the first stand before those of the second.
-- where the second operand stands
abbrev pub second : Reading → Place → Place
second l here = behind (value l <⊗ tokens 1) here

pub beside_ok : (l r : Reading) (here : Place) (a b : Expr) → Answers ((value l).judge here) (Ok a) → Answers ((value r).judge (second l here)) (Ok b)
    → Answers ((operands l r).judge here) (Ok (a, b))
beside_ok l r here a b is that = both_ok (λ a b. (a, b)) ((value l <⊗ tokens 1).judge here) ((value r).judge (second l here)) a b (before_tokens 1 (value l) here (Ok a) is) that

pub beside_second : (l r : Reading) (here : Place) (a : Expr) (e : TypeFault) → Answers ((value l).judge here) (Ok a) → Answers ((value r).judge (second l here)) (Err e)
    → Answers ((operands l r).judge here) (Err e)
beside_second l r here a e is that = both_second (λ a b. (a, b)) ((value l <⊗ tokens 1).judge here) ((value r).judge (second l here)) a e (before_tokens 1 (value l) here (Ok a) is) that

pub beside_first : (l r : Reading) (here : Place) (e : TypeFault) → IsRead l → IsRead r → Answers ((value l).judge here) (Err e) → Answers ((operands l r).judge here) (Err e)
beside_first l r here e left right is =
    both_first (λ a b. (a, b)) (here.at + ((value l).tokens + 1)) ((value l <⊗ tokens 1).judge here) ((value r).judge (second l here)) e
    ((inside_joined (λ a b. a) (value l) (tokens 1) (inside (value l) (bounded_value l left)) (inside_tokens 1)).within here).end
    ((bounded_value r right).within (second l here)).start
    (before_tokens 1 (value l) here (Err e) is)

-- An operator between two operands, and an index, as expressions.
pub operated : (w : Whole) (e l : SourceExpr) (op : BinaryOp) (r : SourceExpr) (here : Place) (p : Expr × Expr) (res : Result Expr TypeFault) → e.form ≡ form.Binary l op r
    → Answers ((operands (expr w l) (expr w r)).judge here) (Ok p) → Rules mismatch e.line (binary op p.0 p.1) res → Answers ((expr w e).plain.judge here) res
operated w e l op r here p res is answers kept =
    read_as w e _ here res (binary_is w e l op r is) (obeyed mismatch e.line (λ h e. binary op e.0 e.1) (operands (expr w l) (expr w r)) here p res answers kept)

pub operated_err : (w : Whole) (e l : SourceExpr) (op : BinaryOp) (r : SourceExpr) (here : Place) (f : TypeFault) → e.form ≡ form.Binary l op r
    → Answers ((operands (expr w l) (expr w r)).judge here) (Err f) → Answers ((expr w e).plain.judge here) (Err f)
operated_err w e l op r here f is answers =
    read_as w e _ here (Err f) (binary_is w e l op r is) (refused_inside mismatch e.line (λ h e. binary op e.0 e.1) (operands (expr w l) (expr w r)) here f answers)

pub indexed : (w : Whole) (e l r : SourceExpr) (here : Place) (p : Expr × Expr) (res : Result Expr TypeFault) → e.form ≡ form.Index l r
    → Answers ((operands (expr w l) (expr w r)).judge here) (Ok p) → Rules mismatch e.line (item_at p.0 p.1 p.0.typing p.1.typing) res → Answers ((expr w e).plain.judge here) res
indexed w e l r here p res is answers kept =
    read_as w e _ here res (index_is w e l r is)
    (obeyed mismatch e.line (λ h e. item_at e.0 e.1 e.0.typing e.1.typing) (operands (expr w l) (expr w r) <⊗ tokens 1) here p res
    (before_tokens 1 (operands (expr w l) (expr w r)) here (Ok p) answers) kept)

pub indexed_err : (w : Whole) (e l r : SourceExpr) (here : Place) (f : TypeFault) → e.form ≡ form.Index l r
    → Answers ((operands (expr w l) (expr w r)).judge here) (Err f) → Answers ((expr w e).plain.judge here) (Err f)
indexed_err w e l r here f is answers =
    read_as w e _ here (Err f) (index_is w e l r is)
    (refused_inside mismatch e.line (λ h e. item_at e.0 e.1 e.0.typing e.1.typing) (operands (expr w l) (expr w r) <⊗ tokens 1) here f
    (before_tokens 1 (operands (expr w l) (expr w r)) here (Err f) answers))
