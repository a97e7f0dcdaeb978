-- A part that breaks no rule has a value: expressions.
use Rattle.std.proofs.Common.{◌≡◌, ℕ, ◌+◌, Bool, true, false, List, [], ◌∷◌, map, get_or, Option, Some, None, refl, ap, sym, ◌∙◌, subst}
use Rattle.std.specs.Prelude.{nat_eq}
use Rattle.dfi_base.specs.declared.numbers.Line.{Line}
use Rattle.c_ast.specs.declared.ident.Ident.{Ident}
use Rattle.c_ast.specs.declared.decl.Base.{Base}
use Rattle.c_ast.specs.declared.decl.TypeName.{TypeName}
use Rattle.c_ast.specs.declared.expr.UnaryOp.{UnaryOp}
use Rattle.c_ast.specs.declared.expr.BinaryOp.{BinaryOp}
use Rattle.c_ast.specs.declared.expr.Expr.{ind-Expr, Expr as SourceExpr}
use Rattle.c_ast.specs.declared.expr.Form.{Form as SourceForm, map-Form}
use Rattle.c_ast.specs.declared.expr.Form.TheOpen.{Form-F as Source}
use Rattle.c_typed.specs.declared.expr.Form.TheOpen.{Form-F}
use Rattle.c_typed.specs.declared.types.ObjectType.{ObjectType}
use Rattle.c_typed.specs.declared.expr.Expr.{Expr}
use Rattle.c_typed.specs.Marks.{Mark, History, Variable}
use Rattle.c_typed.specs.Whole.{Whole, Builtin, Meaning, meaning, is_main}
use Rattle.c_typed.specs.Faults.{Rule, Fault, unknown, mismatch, not_lvalue}
use Rattle.c_typed.specs.Parts.{Place, Part, tokens, given, mark, joined, behind, both_values, kept_by, ruled_by, obeys, refused, with_faults, separated, in_turn, ◌⊗◌, ◌<⊗◌, ◌⊗>◌, ◌<$>◌}
use Rattle.c_typed.specs.Tags.{base, type_name, known_tag}
use Rattle.c_typed.specs.Exprs
use Rattle.c_typed.specs.declared.stmt.Stmt.{roll-Stmt}
use Rattle.c_typed.specs.declared.stmt.Stmt.TheOpen.{Stmt-F}
use Rattle.c_typed.specs.Stmts.{call_by, call_stmt}
use Rattle.c_typed.specs.Exprs.{Layer, Size, Reading, value, place, unary, operands, product, counted_by, many_of, one_of, field_of, fielded, in_struct, found_by, field_by, name, name_as, arguments, called, call, call_as, allocation, allocation_by, form_step, expr}
use Rattle.c_typed.proofs.Levels.{mapped_form, read_form, form_roll, expr_reads}
use Rattle.c_typed.proofs.WellParts.{none_each, none_first, none_second, ruled_faults}

pub record Has {A : Type 0} (o : Option A) : Type 0 where
  pub value : A
  pub there : o ≡ Some value

pub record IsWhole {A : Type 0} (p : Part A) : Type 0 where
  pub whole : (here : Place) → (p.judge here).faults ≡ [] → Has (p.judge here).value

pub whole_tokens : (n : ℕ) → IsWhole (tokens n)
whole_tokens n = record { whole = λ here e. record { value = tt; there = refl } }

pub whole_mark : (m : Mark) → IsWhole (mark m)
whole_mark m = record { whole = λ here e. record { value = tt; there = refl } }

pub whole_given : {A : Type 0} (a : A) → IsWhole (given a)
whole_given a = record { whole = λ here e. record { value = a; there = refl } }

pub whole_joined : {A B C : Type 0} (f : A → B → C) (p : Part A) (q : Part B) → IsWhole p → IsWhole q → IsWhole (joined f p q)
whole_joined f p q is that = record {
  whole = λ here e.
      let fs = (p.judge here).faults in
      let gs = (q.judge (behind p here)).faults in
      let a = is.whole here (none_first fs gs e) in
      let b = that.whole (behind p here) (none_second fs gs e) in
      record { value = f a.value b.value; there = ap (λ v. both_values f v (q.judge (behind p here)).value) a.there ∙ ap (λ v. both_values f (Some a.value) v) b.there };
}

changed_has : {A B : Type 0} (f : A → B) (o : Option A) → Has o → Has (elim o as (λ o. Option B) [ None ↦ None | Some a ↦ Some (f a) ])
changed_has {A} {B} f o is = record { value = f is.value; there = ap (λ o. elim o as (λ o. Option B) [ None ↦ None | Some a ↦ Some (f a) ]) is.there }

pub whole_map : {A B : Type 0} (f : A → B) (p : Part A) → IsWhole p → IsWhole (f <$> p)
whole_map f p is = record { whole = λ here e. changed_has f (p.judge here).value (is.whole here e) }

kept_has : {B : Type 0} (rule : Rule) (line : Line) (at : ℕ) (fs : List Fault) (k : Option B) → (kept_by rule line at fs k).faults ≡ [] → Has (kept_by rule line at fs k).value
kept_has rule line at fs None e = absurd (none_each e)
kept_has rule line at fs (Some b) e = record { value = b; there = refl }

ruled_has : {A B : Type 0} (rule : Rule) (line : Line) (keeps : A → Option B) (at : ℕ) (fs : List Fault) (o : Option A) → Has o → (ruled_by rule line keeps at fs o).faults ≡ [] → Has (ruled_by rule line keeps at fs o).value
ruled_has rule line keeps at fs None has e = absurd (subst (λ o. elim o as (λ o. Type 0) [ None ↦ Unit {0} | Some a ↦ ⊥ ]) has.there tt)
ruled_has rule line keeps at fs (Some a) has e = kept_has rule line at fs (keeps a) e

pub whole_obeys : {A B : Type 0} (rule : Rule) (line : Line) (keeps : History → A → Option B) (p : Part A) → IsWhole p → IsWhole (obeys rule line keeps p)
whole_obeys rule line keeps p is = record {
  whole = λ here e.
      let j = p.judge here in
      ruled_has rule line (keeps here.before) here.at j.faults j.value (is.whole here (ruled_faults rule line (keeps here.before) here.at j.faults j.value e)) e;
}

pub whole_refused : {A B : Type 0} (rule : Rule) (line : Line) (p : Part A) → IsWhole (refused {A = A} {B = B} rule line p)
whole_refused rule line p = record { whole = λ here e. absurd (none_each e) }

pub whole_with : {A : Type 0} (more : Place → List Fault) (p : Part A) → IsWhole p → IsWhole (with_faults more p)
whole_with more p is = record { whole = λ here e. is.whole here (none_second (more here) (p.judge here).faults e) }

pub beside : {A B : Type 0} {p : Part A} {q : Part B} → IsWhole p → IsWhole q → IsWhole (p ⊗ q)
beside {A} {B} {p} {q} is that = whole_joined (λ a b. (a, b)) p q is that

pub before : {A B : Type 0} {p : Part A} {q : Part B} → IsWhole p → IsWhole q → IsWhole (p <⊗ q)
before {A} {B} {p} {q} is that = whole_joined (λ a b. a) p q is that

pub after : {A B : Type 0} {p : Part A} {q : Part B} → IsWhole p → IsWhole q → IsWhole (p ⊗> q)
after {A} {B} {p} {q} is that = whole_joined (λ a b. b) p q is that

pub first : {A : Type 0} {p : Part A} {q : Part (List A)} → IsWhole p → IsWhole q → IsWhole (joined (λ a rest. a ∷ rest) p q)
first {A} {p} {q} is that = whole_joined (λ a rest. a ∷ rest) p q is that

-- every part of a list
pub data AllWhole {A : Type 0} : List (Part A) → Type 0 where
  none : AllWhole []
  each : {p : Part A} {ps : List (Part A)} → IsWhole p → AllWhole ps → AllWhole (p ∷ ps)

pub all_whole : {A B : Type 0} (f : A → Part B) → ((a : A) → IsWhole (f a)) → (xs : List A) → AllWhole (map f xs)
all_whole f is [] = none
all_whole f is (x ∷ xs) = each (is x) (all_whole f is xs)

pub whole_in_turn : {A : Type 0} {ps : List (Part A)} → AllWhole ps → IsWhole (in_turn ps)
whole_in_turn none = whole_given []
whole_in_turn (each p ps) = first p (whole_in_turn ps)

pub whole_separated : {A : Type 0} {ps : List (Part A)} → AllWhole ps → IsWhole (separated ps)
whole_separated none = whole_given []
whole_separated (each p none) = first p (whole_given [])
whole_separated (each p (each q ps)) = first (before p (whole_tokens 1)) (whole_separated (each q ps))

-- Type names.
pub whole_base : (w : Whole) (by_value : Bool) (b : Base) → IsWhole (base w by_value b)
whole_base w by_value (Base.Int line) = whole_tokens 1
whole_base w by_value (Base.Struct line tag) = after (whole_tokens 1) (whole_obeys unknown tag.line (known_tag w by_value tag) (tokens 1) (whole_tokens 1))

whole_type_name : (w : Whole) (t : TypeName) → IsWhole (type_name w t)
whole_type_name w t = whole_map _ _ (after (whole_base w (nat_eq t.stars 0) t.base) (whole_tokens t.stars))

-- What is known of a reading.
abbrev pub IfThere : {A : Type 0} → Option (Part A) → Type 0
IfThere None = Unit {0}
IfThere (Some p) = IsWhole p

pub record IsRead (r : Reading) : Type 0 where
  pub plain : IsWhole r.plain
  pub sizeof : IfThere r.sizeof
  pub size : IfThere r.size

pub whole_value : (r : Reading) → IsRead r → IsWhole (value r)
whole_value r is = whole_obeys mismatch r.line _ r.plain is.plain

pub whole_place : (r : Reading) → IsRead r → IsWhole (place r)
whole_place r is = whole_obeys not_lvalue r.line _ r.plain is.plain

plainly : (line : Line) (p : Part Expr) → IsWhole p → IsRead (Exprs.reading line p)
plainly line p is = record { plain = is; sizeof = tt; size = tt }

whole_unary : (op : UnaryOp) (line : Line) (r : Reading) → IsRead r → IsWhole (unary op line r)
whole_unary UnaryOp.Minus line r is = whole_obeys mismatch line _ _ (after (whole_tokens 1) (whole_value r is))
whole_unary UnaryOp.Plus line r is = whole_obeys mismatch line _ _ (after (whole_tokens 1) (whole_value r is))
whole_unary UnaryOp.Not line r is = whole_obeys mismatch line _ _ (after (whole_tokens 1) (whole_value r is))
whole_unary UnaryOp.Complement line r is = whole_obeys mismatch line _ _ (after (whole_tokens 1) (whole_value r is))
whole_unary UnaryOp.Deref line r is = whole_obeys mismatch line _ _ (after (whole_tokens 1) (whole_value r is))
whole_unary UnaryOp.Address line r is = whole_obeys mismatch line _ _ (after (whole_tokens 1) (whole_place r is))

whole_operands : (l r : Reading) → IsRead l → IsRead r → IsWhole (operands l r)
whole_operands l r is that = beside (before (whole_value l is) (whole_tokens 1)) (whole_value r that)

counted_whole : (l r : Reading) (o p : Option (Part ObjectType)) → IsRead l → IsRead r → IfThere o → IfThere p → IfThere (counted_by l r o p)
counted_whole l r o (Some p) left right is that = whole_joined many_of (value l <⊗ tokens 1) p (before (whole_value l left) (whole_tokens 1)) that
counted_whole l r (Some p) None left right is that = whole_joined (λ t e. many_of e t) (p <⊗ tokens 1) (value r) (before is (whole_tokens 1)) (whole_value r right)
counted_whole l r None None left right is that = tt

product_whole : (op : BinaryOp) (l r : Reading) → IsRead l → IsRead r → IfThere (product op l r)
product_whole BinaryOp.Mul l r left right = counted_whole l r l.sizeof r.sizeof left right left.sizeof right.sizeof
product_whole _ l r left right = tt

-- Names and fields.
named_has : (i : Ident) (m : Meaning) (here : Place) → ((name_as i m).judge here).faults ≡ [] → Has ((name_as i m).judge here).value
named_has i (Meaning.object (Variable.global k t)) here e = record { value = _; there = refl }
named_has i (Meaning.object (Variable.local k t)) here e = record { value = _; there = refl }
named_has i Meaning.nothing here e = absurd (none_each e)
named_has i (Meaning.builtin b) here e = absurd (none_each e)
named_has i (Meaning.function k s) here e = absurd (none_each e)

whole_name : (w : Whole) (i : Ident) → IsWhole (name w i)
whole_name w i = record { whole = λ here e. named_has i (meaning w here.before i.name) here e }

found_has : (f : Ident) (form : Expr → ℕ → Layer) (at : ℕ) (fs : List Fault) (x : Expr) (o : Option (ℕ × ObjectType)) → (found_by f form at fs x o).faults ≡ [] → Has (found_by f form at fs x o).value
found_has f form at fs x None e = absurd (none_each (none_second fs _ e))
found_has f form at fs x (Some m) e = record { value = _; there = refl }

struct_has : (w : Whole) (f : Ident) (form : Expr → ℕ → Layer) (at : ℕ) (fs : List Fault) (x : Expr) (k : Option ℕ) → (in_struct w f form at fs x k).faults ≡ [] → Has (in_struct w f form at fs x k).value
struct_has w f form at fs x None e = record { value = _; there = refl }
struct_has w f form at fs x (Some k) e = found_has f form at fs x (field_by f.name 0 (get_or w.structs k [])) e

fielded_has : (w : Whole) (f : Ident) (form : Expr → ℕ → Layer) (at : ℕ) (fs : List Fault) (o : Option (Expr × Option ℕ)) → (fs ≡ [] → Has o) → (fielded w f form at fs o).faults ≡ [] → Has (fielded w f form at fs o).value
fielded_has w f form at fs None has e = absurd (subst (λ o. elim o as (λ o. Type 0) [ None ↦ Unit {0} | Some a ↦ ⊥ ]) (has e).there tt)
fielded_has w f form at fs (Some x) has e = struct_has w f form at fs x.0 x.1 e

whole_field : (w : Whole) (f : Ident) (form : Expr → ℕ → Layer) (p : Part (Expr × Option ℕ)) → IsWhole p → IsWhole (field_of w f form p)
whole_field w f form p is = record { whole = λ here e. fielded_has w f form (here.at + p.tokens + 1) (p.judge here).faults (p.judge here).value (is.whole here) e }

-- Calls.
abbrev AllRead : List Reading → Type 0
AllRead [] = Unit {0}
AllRead (r ∷ rs) = IsRead r × AllRead rs

all_values : (rs : List Reading) → AllRead rs → AllWhole (map value rs)
all_values [] all = none
all_values (r ∷ rs) all = each (whole_value r all.0) (all_values rs all.1)

whole_called : {A : Type 0} (p : Part A) → IsWhole p → IsWhole (called p)
whole_called p is = before (after (whole_tokens 2) is) (whole_tokens 1)

with_arguments : (rs : List Reading) → AllRead rs → IsWhole (called (arguments rs))
with_arguments rs all = whole_called (arguments rs) (whole_separated (all_values rs all))

whole_allocation : (line : Line) (rs : List Reading) → AllRead rs → IsWhole (allocation line rs)
whole_allocation line [] all = whole_refused mismatch line (called (arguments []))
whole_allocation line (r ∷ []) all = by r.size all.0.size where
  by : (o : Option (Part Size)) → IfThere o → IsWhole (allocation_by line (r ∷ []) o)
  by None is = whole_refused mismatch line (called (arguments (r ∷ [])))
  by (Some p) is = whole_obeys mismatch line _ (called p) (whole_called p is)
whole_allocation line (r ∷ s ∷ rs) all = whole_refused mismatch line (called (arguments (r ∷ s ∷ rs)))

whole_call_as : (w : Whole) (line : Line) (f : Ident) (rs : List Reading) (m : Meaning) → AllRead rs → IsWhole (call_as w line f rs m)
whole_call_as w line f rs (Meaning.object v) all = whole_refused mismatch f.line (called (arguments rs))
whole_call_as w line f rs Meaning.nothing all = whole_refused unknown f.line (called (arguments rs))
whole_call_as w line f rs (Meaning.function k s) all =
    elim (is_main w f.name) as (λ b. IsWhole (elim b [ true ↦ refused mismatch f.line (called (arguments rs)) | false ↦ obeys mismatch line (λ h es. Exprs.applied k s es) (called (arguments rs)) ])) [
      | true ↦ whole_refused mismatch f.line (called (arguments rs))
      | false ↦ whole_obeys mismatch line _ _ (with_arguments rs all)
    ]
whole_call_as w line f rs (Meaning.builtin Builtin.getint) all = whole_obeys mismatch line _ _ (with_arguments rs all)
whole_call_as w line f rs (Meaning.builtin Builtin.left) all = whole_obeys mismatch line _ _ (with_arguments rs all)
whole_call_as w line f rs (Meaning.builtin Builtin.putint) all = whole_map _ _ (whole_obeys mismatch line _ _ (with_arguments rs all))
whole_call_as w line f rs (Meaning.builtin Builtin.free) all = whole_map _ _ (whole_obeys mismatch line _ _ (with_arguments rs all))
whole_call_as w line f rs (Meaning.builtin Builtin.malloc) all = whole_allocation line rs all

whole_call : (w : Whole) (line : Line) (f : Ident) (rs : List Reading) → AllRead rs → IsWhole (call w line f rs)
whole_call w line f rs all = record { whole = λ here e. (whole_call_as w line f rs (meaning w here.before f.name) all).whole here e }

-- One level, with what is known of each operand beside it.
abbrev FormWhole : Whole → SourceForm → Type 0
FormWhole w f = (line : Line) → IsRead (read_form w f line)

abbrev ExprWhole : Whole → SourceExpr → Type 0
ExprWhole w e = IsRead (expr w e)

abbrev Known : Whole → Type 0
Known w = (e : SourceExpr) × ExprWhole w e

abbrev KnownForm : Whole → Type 0
KnownForm w = (f : SourceForm) × FormWhole w f

all_read : (w : Whole) (es : List (Known w)) → AllRead (map (expr w) (map (λ e. e.0) es))
all_read w [] = tt
all_read w (e ∷ es) = (e.1, all_read w es)

level_whole : (w : Whole) (line : Line) (y : Source (KnownForm w) (Known w))
    → IsRead (form_step w (mapped_form w (map-Form (KnownForm w) (Known w) SourceForm SourceExpr (λ f. f.0) (λ e. e.0) y)) line)
level_whole w line (Source.Binary l op r) = record {
  plain = whole_obeys mismatch line _ _ (whole_operands (expr w l.0) (expr w r.0) l.1 r.1);
  sizeof = tt;
  size = product_whole op (expr w l.0) (expr w r.0) l.1 r.1;
}
level_whole w line (Source.Unary op x) = plainly line _ (whole_unary op line (expr w x.0) x.1)
level_whole w line (Source.Cast to x) =
    plainly line _ (whole_obeys mismatch line _ _ (beside (before (after (whole_tokens 1) (whole_type_name w to)) (whole_tokens 1)) (whole_value (expr w x.0) x.1)))
level_whole w line (Source.Index x i) = plainly line _ (whole_obeys mismatch line _ _ (before (whole_operands (expr w x.0) (expr w i.0) x.1 i.1) (whole_tokens 1)))
level_whole w line (Source.Field x f) = plainly line _ (whole_field w f Form-F.Field _ (whole_obeys mismatch line _ _ x.1.plain))
level_whole w line (Source.Arrow x f) = plainly line _ (whole_field w f Form-F.Arrow _ (whole_obeys mismatch line _ _ (whole_value (expr w x.0) x.1)))
level_whole w line (Source.Number k) = plainly line _ (record { whole = λ here e. record { value = _; there = refl } })
level_whole w line Source.Null = plainly line _ (record { whole = λ here e. record { value = _; there = refl } })
level_whole w line (Source.Name i) = plainly line _ (whole_name w i)
level_whole w line (Source.Call f es) = record { plain = whole_call w line f _ (all_read w es); sizeof = tt; size = tt }
level_whole w line (Source.Sizeof t) =
    let p = before (after (whole_tokens 2) (whole_type_name w t)) (whole_tokens 1) in
    record { plain = whole_obeys mismatch line (λ h _. None) _ p; sizeof = p; size = whole_map one_of _ p }

pub whole_expr : (w : Whole) (e : SourceExpr) → IsRead (expr w e)
whole_expr w = ind-Expr (FormWhole w) (ExprWhole w)
    (λ x y is line. subst (λ r. IsRead r) (sym (form_roll w line x)) (subst (λ x. IsRead (form_step w (mapped_form w x) line)) is (level_whole w line y)))
    (λ x y is. subst (λ x. IsRead (expr w (record { line = x.line; form = x.form }))) is (subst (λ r. IsRead r) (sym (expr_reads w y.line y.form.0)) (y.form.1 y.line)))

all_exprs : (w : Whole) (es : List SourceExpr) → AllRead (map (expr w) es)
all_exprs w [] = tt
all_exprs w (e ∷ es) = (whole_expr w e, all_exprs w es)

-- a call as a statement
whole_call_by : (w : Whole) (f : Ident) (rs : List Reading) (m : Meaning) → AllRead rs → IsWhole (call_by w f rs m)
whole_call_by w f rs (Meaning.object v) all = whole_map (λ e. roll-Stmt (Stmt-F.Call f.line e)) (call_as w f.line f rs (Meaning.object v)) (whole_call_as w f.line f rs (Meaning.object v) all)
whole_call_by w f rs Meaning.nothing all = whole_map (λ e. roll-Stmt (Stmt-F.Call f.line e)) (call_as w f.line f rs Meaning.nothing) (whole_call_as w f.line f rs Meaning.nothing all)
whole_call_by w f rs (Meaning.function k s) all = whole_map (λ e. roll-Stmt (Stmt-F.Call f.line e)) (call_as w f.line f rs (Meaning.function k s)) (whole_call_as w f.line f rs (Meaning.function k s) all)
whole_call_by w f rs (Meaning.builtin Builtin.getint) all = whole_map (λ e. roll-Stmt (Stmt-F.Call f.line e)) (call_as w f.line f rs (Meaning.builtin Builtin.getint)) (whole_call_as w f.line f rs (Meaning.builtin Builtin.getint) all)
whole_call_by w f rs (Meaning.builtin Builtin.left) all = whole_map (λ e. roll-Stmt (Stmt-F.Call f.line e)) (call_as w f.line f rs (Meaning.builtin Builtin.left)) (whole_call_as w f.line f rs (Meaning.builtin Builtin.left) all)
whole_call_by w f rs (Meaning.builtin Builtin.putint) all = whole_map (λ e. roll-Stmt (Stmt-F.PutInt f.line e)) _ (whole_obeys mismatch f.line _ _ (with_arguments rs all))
whole_call_by w f rs (Meaning.builtin Builtin.free) all = whole_map (λ e. roll-Stmt (Stmt-F.Free f.line e)) _ (whole_obeys mismatch f.line _ _ (with_arguments rs all))
whole_call_by w f rs (Meaning.builtin Builtin.malloc) all = whole_map (λ e. roll-Stmt (Stmt-F.Call f.line e)) (call_as w f.line f rs (Meaning.builtin Builtin.malloc)) (whole_call_as w f.line f rs (Meaning.builtin Builtin.malloc) all)

pub whole_call_stmt : (w : Whole) (f : Ident) (es : List SourceExpr) → IsWhole (call_stmt w f (map (expr w) es))
whole_call_stmt w f es = record { whole = λ here e. (whole_call_by w f (map (expr w) es) (meaning w here.before f.name) (all_exprs w es)).whole here e }
