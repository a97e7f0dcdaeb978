-- The faults of an expression: one at a place.
use Rattle.std.proofs.Common.{◌≡◌, ℕ, ◌+◌, ◌<◌, ◌≤◌, Bool, true, false, List, [], ◌∷◌, map, get_or, Option, Some, None, refl, ap, sym, subst, arith}
use Rattle.dfi_base.specs.declared.numbers.Line.{Line}
use Rattle.std.specs.Prelude.{nat_eq}
use Rattle.c_ast.specs.declared.ident.Ident.{Ident}
use Rattle.c_ast.specs.declared.decl.Base.{Base}
use Rattle.c_ast.specs.declared.decl.TypeName.{TypeName}
use Rattle.c_ast.specs.declared.expr.UnaryOp.{UnaryOp}
use Rattle.c_ast.specs.declared.expr.BinaryOp.{BinaryOp}
use Rattle.c_ast.specs.declared.expr.Expr.{ind-Expr, Expr as SourceExpr}
use Rattle.c_ast.specs.declared.expr.Form.{Form as SourceForm, map-Form}
use Rattle.c_ast.specs.declared.expr.Form.TheOpen.{Form-F as Source}
use Rattle.c_typed.specs.declared.expr.Form.TheOpen.{Form-F}
use Rattle.c_typed.specs.declared.types.ObjectType.{ObjectType}
use Rattle.c_typed.specs.declared.types.ExprType.{ExprType}
use Rattle.c_typed.specs.declared.expr.Expr.{Expr}
use Rattle.c_typed.specs.Marks.{Variable}
use Rattle.c_typed.specs.Whole.{Whole, Builtin, Meaning, meaning, is_main}
use Rattle.c_typed.specs.Faults.{Rule, Fault, unknown, mismatch, not_lvalue}
use Rattle.c_typed.specs.Parts.{Place, Part, tokens, given, joined, obeys, refused, ◌⊗◌, ◌<⊗◌, ◌⊗>◌}
use Rattle.c_typed.specs.Tags.{base, type_name, known_tag}
use Rattle.c_typed.specs.Exprs
use Rattle.c_typed.specs.Stmts.{call_by, call_stmt}
use Rattle.c_typed.specs.Exprs.{Layer, made, Size, Reading, value, place, unary, product, counted_by, many_of, one_of, field_of, fielded, in_struct, found_by, field_by, name, name_as, arguments, called, call, call_as, allocation, allocation_by, form_step, expr}
use Rattle.line_law.proofs.Lined.{IsLined, none, one, wider, apart}
use Rattle.line_law.proofs.Parts.{none_some, IsInside, IsClean, IsBounded, loose, clean_inside, clean_tokens, clean_given, clean_joined, bounded_first, bounded_second, bounded_tokens, bounded_map, bounded_obeys, bounded_refused, IsBehind, behind_tokens, behind_first}
use Rattle.c_typed.proofs.Levels.{mapped_form, read_form, form_roll, expr_reads}

-- Type names.
pub one_token : IsBounded (tokens 1)
one_token = record { within = (clean_tokens 1).within; clean = (clean_tokens 1).clean; more = omega arith }

pub bounded_base : (w : Whole) (by_value : Bool) (b : Base) → IsBounded (base w by_value b)
bounded_base w by_value (Base.Int line) = one_token
bounded_base w by_value (Base.Struct line tag) =
    bounded_first (λ a b. b) (tokens 1) _ one_token (loose _ (bounded_obeys unknown tag.line (known_tag w by_value tag) (tokens 1) one_token))

pub bounded_type_name : (w : Whole) (t : TypeName) → IsBounded (type_name w t)
bounded_type_name w t = bounded_map _ _ (bounded_first (λ a b. b) (base w (nat_eq t.stars 0) t.base) (tokens t.stars) (bounded_base w (nat_eq t.stars 0) t.base) (clean_tokens t.stars))

-- What is known of a reading.
abbrev pub IfThere : {A : Type 0} → Option (Part A) → ℕ → Type 0
IfThere None n = Unit {0}
IfThere (Some p) n = IsBounded p × (p.tokens ≡ n)

pub record IsRead (r : Reading) : Type 0 where
  pub plain : IsBounded r.plain
  pub sizeof : IfThere r.sizeof r.plain.tokens
  pub size : IfThere r.size r.plain.tokens

pub bounded_value : (r : Reading) → IsRead r → IsBounded (value r)
bounded_value r is = bounded_obeys mismatch r.line _ r.plain is.plain

pub bounded_place : (r : Reading) → IsRead r → IsBounded (place r)
bounded_place r is = bounded_obeys not_lvalue r.line _ r.plain is.plain

plainly : (line : Line) (p : Part Expr) → IsBounded p → IsRead (Exprs.reading line p)
plainly line p is = record { plain = is; sizeof = tt; size = tt }

bounded_unary : (op : UnaryOp) (line : Line) (r : Reading) → IsRead r → IsBounded (unary op line r)
bounded_unary UnaryOp.Minus line r is = bounded_obeys mismatch line _ _ (bounded_second (λ a b. b) (tokens 1) (value r) (clean_tokens 1) (bounded_value r is))
bounded_unary UnaryOp.Plus line r is = bounded_obeys mismatch line _ _ (bounded_second (λ a b. b) (tokens 1) (value r) (clean_tokens 1) (bounded_value r is))
bounded_unary UnaryOp.Not line r is = bounded_obeys mismatch line _ _ (bounded_second (λ a b. b) (tokens 1) (value r) (clean_tokens 1) (bounded_value r is))
bounded_unary UnaryOp.Complement line r is = bounded_obeys mismatch line _ _ (bounded_second (λ a b. b) (tokens 1) (value r) (clean_tokens 1) (bounded_value r is))
bounded_unary UnaryOp.Deref line r is = bounded_obeys mismatch line _ _ (bounded_second (λ a b. b) (tokens 1) (value r) (clean_tokens 1) (bounded_value r is))
bounded_unary UnaryOp.Address line r is = bounded_obeys mismatch line _ _ (bounded_second (λ a b. b) (tokens 1) (place r) (clean_tokens 1) (bounded_place r is))

-- one part, a token, and another
between : {A B C : Type 0} (f : A → B → C) (p : Part A) (q : Part B) → IsBounded p → IsBounded q → IsBounded (joined f (p <⊗ tokens 1) q)
between f p q is that = bounded_first f (p <⊗ tokens 1) q (bounded_first (λ a b. a) p (tokens 1) is (clean_tokens 1)) (loose q that)

-- `malloc`'s sizes
counted_read : (left right : Reading) (o p : Option (Part ObjectType)) → IsRead left → IsRead right → IfThere o left.plain.tokens → IfThere p right.plain.tokens
    → IfThere (counted_by left right o p) (left.plain.tokens + 1 + right.plain.tokens)
counted_read left right o (Some p) l r is that = (between many_of (value left) p (bounded_value left l) that.0, ap (λ n. left.plain.tokens + 1 + n) that.1)
counted_read left right (Some p) None l r is that = (between (λ t e. many_of e t) p (value right) is.0 (bounded_value right r), ap (λ n. n + 1 + right.plain.tokens) is.1)
counted_read left right None None l r is that = tt

product_read : (op : BinaryOp) (left right : Reading) → IsRead left → IsRead right → IfThere (product op left right) (left.plain.tokens + 1 + right.plain.tokens)
product_read BinaryOp.Mul left right l r = counted_read left right left.sizeof right.sizeof l r l.sizeof r.sizeof
product_read _ left right l r = tt

-- Names, and the fields of structs.
named_lined : (i : Ident) (m : Meaning) (here : Place) → IsLined here.at (here.at + 1) ((name_as i m).judge here).faults
named_lined i (Meaning.object (Variable.global k t)) here = none here.at (here.at + 1)
named_lined i (Meaning.object (Variable.local k t)) here = none here.at (here.at + 1)
named_lined i Meaning.nothing here = one here.at unknown i.line (omega arith) (omega arith)
named_lined i (Meaning.builtin b) here = one here.at mismatch i.line (omega arith) (omega arith)
named_lined i (Meaning.function k s) here = one here.at mismatch i.line (omega arith) (omega arith)

named_clean : (i : Ident) (m : Meaning) (here : Place) (e : Expr) → ((name_as i m).judge here).value ≡ Some e → ((name_as i m).judge here).faults ≡ []
named_clean i (Meaning.object (Variable.global k t)) here e is = refl
named_clean i (Meaning.object (Variable.local k t)) here e is = refl
named_clean i Meaning.nothing here e is = absurd (none_some is)
named_clean i (Meaning.builtin b) here e is = absurd (none_some is)
named_clean i (Meaning.function k s) here e is = absurd (none_some is)

bounded_name : (w : Whole) (i : Ident) → IsBounded (name w i)
bounded_name w i = record {
  within = λ here. named_lined i (meaning w here.before i.name) here;
  clean = λ here e is. named_clean i (meaning w here.before i.name) here e is;
  more = omega arith;
}

module _ (w : Whole) (f : Ident) (form : Expr → ℕ → Layer) where
  module _ (from middle at to : ℕ) (fs : List Fault) (low : from ≤ middle) (next : middle ≤ at) (high : at < to) (is : IsLined from middle fs) where
    found_lined : (e : Expr) (o : Option (ℕ × ObjectType)) → IsLined from to (found_by f form at fs e o).faults
    found_lined e None = apart {middle = middle} low (omega (arith, next, high)) is (one at unknown f.line next high)
    found_lined e (Some m) = wider (omega arith) (omega (arith, next, high)) is

    struct_lined : (e : Expr) (o : Option ℕ) → IsLined from to (in_struct w f form at fs e o).faults
    struct_lined e None = wider (omega arith) (omega (arith, next, high)) is
    struct_lined e (Some k) = found_lined e (field_by f.name 0 (get_or w.structs k []))

    fielded_lined : (o : Option (Expr × Option ℕ)) → IsLined from to (fielded w f form at fs o).faults
    fielded_lined None = wider (omega arith) (omega (arith, next, high)) is
    fielded_lined (Some e) = struct_lined e.0 e.1

  module _ (at : ℕ) (fs : List Fault) (keeps : fs ≡ []) where
    found_clean : (e : Expr) (o : Option (ℕ × ObjectType)) (v : Expr) → (found_by f form at fs e o).value ≡ Some v → (found_by f form at fs e o).faults ≡ []
    found_clean e None v is = absurd (none_some is)
    found_clean e (Some m) v is = keeps

    struct_clean : (e : Expr) (o : Option ℕ) (v : Expr) → (in_struct w f form at fs e o).value ≡ Some v → (in_struct w f form at fs e o).faults ≡ []
    struct_clean e None v is = keeps
    struct_clean e (Some k) v is = found_clean e (field_by f.name 0 (get_or w.structs k [])) v is

  fielded_clean : (at : ℕ) (fs : List Fault) (o : Option (Expr × Option ℕ)) → ((e : Expr × Option ℕ) → o ≡ Some e → fs ≡ []) → (v : Expr)
      → (fielded w f form at fs o).value ≡ Some v → (fielded w f form at fs o).faults ≡ []
  fielded_clean at fs None keeps v is = absurd (none_some is)
  fielded_clean at fs (Some e) keeps v is = struct_clean at fs (keeps e refl) e.0 e.1 v is

  bounded_field : (p : Part (Expr × Option ℕ)) → IsBounded p → IsBounded (field_of w f form p)
  bounded_field p is = record {
    within = λ here.
        fielded_lined here.at (here.at + p.tokens) (here.at + p.tokens + 1) (here.at + (p.tokens + 2)) (p.judge here).faults (omega arith) (omega arith) (omega arith)
        (is.within here) (p.judge here).value;
    clean = λ here v e. fielded_clean (here.at + p.tokens + 1) (p.judge here).faults (p.judge here).value (is.clean here) v e;
    more = omega (arith, is.more);
  }

-- Calls.
abbrev pub AllRead : List Reading → Type 0
AllRead [] = Unit {0}
AllRead (r ∷ rs) = IsRead r × AllRead rs

clean_arguments : (rs : List Reading) → AllRead rs → IsClean (arguments rs)
clean_arguments [] all = clean_given []
clean_arguments (r ∷ []) all = clean_joined (λ a rest. a ∷ rest) (value r) (given []) (loose (value r) (bounded_value r all.0)) (clean_given [])
clean_arguments (r ∷ s ∷ rs) all =
    clean_joined (λ a rest. a ∷ rest) (value r <⊗ tokens 1) (arguments (s ∷ rs))
    (clean_joined (λ a b. a) (value r) (tokens 1) (loose (value r) (bounded_value r all.0)) (clean_tokens 1)) (clean_arguments (s ∷ rs) all.1)

bounded_called : {A : Type 0} (p : Part A) → IsClean p → IsBounded (called p)
bounded_called p is = bounded_first (λ a b. a) (tokens 2 ⊗> p) (tokens 1) (bounded_tokens (λ a b. b) 2 p is (omega arith)) (clean_tokens 1)

-- its faults stand behind its name
behind_name : {A : Type 0} (p : Part A) → IsClean p → IsBehind 1 (called p)
behind_name p is =
    behind_first (λ a b. a) 1 (tokens 2 ⊗> p) (tokens 1) (omega arith) (behind_first (λ a b. b) 1 (tokens 2) p (omega arith) (behind_tokens 1 2) (clean_inside p is))
    (clean_inside (tokens 1) (clean_tokens 1))

-- a call's tokens are those of its arguments, whatever its name means
record IsCall (p : Part Expr) (rs : List Reading) : Type 0 where
  bounded : IsBounded p
  as_long : p.tokens ≡ (called (arguments rs)).tokens

with_arguments : (rs : List Reading) → AllRead rs → IsBounded (called (arguments rs))
with_arguments rs all = bounded_called (arguments rs) (clean_arguments rs all)

refused_call : (rule : Rule) (line : Line) (rs : List Reading) → AllRead rs → IsBounded (refused {B = Expr} rule line (called (arguments rs)))
refused_call rule line rs all = bounded_refused rule line (called (arguments rs)) (with_arguments rs all) (behind_name (arguments rs) (clean_arguments rs all))

allocation_is : (line : Line) (rs : List Reading) → AllRead rs → IsCall (allocation line rs) rs
allocation_is line [] all = record { bounded = refused_call mismatch line [] all; as_long = refl }
allocation_is line (r ∷ []) all = by_size r.size all.0.size where
  by_size : (o : Option (Part Size)) → IfThere o r.plain.tokens → IsCall (allocation_by line (r ∷ []) o) (r ∷ [])
  by_size None is = record { bounded = refused_call mismatch line (r ∷ []) all; as_long = refl }
  by_size (Some p) is = record {
    bounded = bounded_obeys mismatch line _ (called p) (bounded_called p (loose p is.0));
    as_long = omega (arith, is.1);
  }
allocation_is line (r ∷ s ∷ rs) all = record { bounded = refused_call mismatch line (r ∷ s ∷ rs) all; as_long = refl }

call_is : (w : Whole) (line : Line) (f : Ident) (rs : List Reading) (m : Meaning) → AllRead rs → IsCall (call_as w line f rs m) rs
call_is w line f rs (Meaning.object v) all = record { bounded = refused_call mismatch f.line rs all; as_long = refl }
call_is w line f rs Meaning.nothing all = record { bounded = refused_call unknown f.line rs all; as_long = refl }
call_is w line f rs (Meaning.function k s) all =
    elim (is_main w f.name) as (λ b. IsCall (elim b [ true ↦ refused mismatch f.line (called (arguments rs)) | false ↦ obeys mismatch line (λ h es. Exprs.applied k s es) (called (arguments rs)) ]) rs) [
      | true ↦ record { bounded = refused_call mismatch f.line rs all; as_long = refl }
      | false ↦ record { bounded = bounded_obeys mismatch line _ _ (with_arguments rs all); as_long = refl }
    ]
call_is w line f rs (Meaning.builtin Builtin.getint) all = record { bounded = bounded_obeys mismatch line _ _ (with_arguments rs all); as_long = refl }
call_is w line f rs (Meaning.builtin Builtin.left) all = record { bounded = bounded_obeys mismatch line _ _ (with_arguments rs all); as_long = refl }
call_is w line f rs (Meaning.builtin Builtin.putint) all = record { bounded = bounded_map _ _ (bounded_obeys mismatch line (λ h es. Exprs.put es) _ (with_arguments rs all)); as_long = refl }
call_is w line f rs (Meaning.builtin Builtin.free) all = record { bounded = bounded_map _ _ (bounded_obeys mismatch line (λ h es. Exprs.freed es) _ (with_arguments rs all)); as_long = refl }
call_is w line f rs (Meaning.builtin Builtin.malloc) all = allocation_is line rs all

bounded_call : (w : Whole) (line : Line) (f : Ident) (rs : List Reading) → AllRead rs → IsBounded (call w line f rs)
bounded_call w line f rs all = record {
  within = λ here.
      let is = call_is w line f rs (meaning w here.before f.name) all in
      subst (λ n. IsLined here.at (here.at + n) ((call_as w line f rs (meaning w here.before f.name)).judge here).faults) is.as_long (is.bounded.within here);
  clean = λ here e v. (call_is w line f rs (meaning w here.before f.name) all).bounded.clean here e v;
  more = (with_arguments rs all).more;
}

-- One level, with what is known of each operand beside it.
abbrev FormRead : Whole → SourceForm → Type 0
FormRead w f = (line : Line) → IsRead (read_form w f line)

abbrev ExprRead : Whole → SourceExpr → Type 0
ExprRead w e = IsRead (expr w e)

abbrev Known : Whole → Type 0
Known w = (e : SourceExpr) × ExprRead w e

abbrev KnownForm : Whole → Type 0
KnownForm w = (f : SourceForm) × FormRead w f

all_read : (w : Whole) (es : List (Known w)) → AllRead (map (expr w) (map (λ e. e.0) es))
all_read w [] = tt
all_read w (e ∷ es) = (e.1, all_read w es)

level_read : (w : Whole) (line : Line) (y : Source (KnownForm w) (Known w))
    → IsRead (form_step w (mapped_form w (map-Form (KnownForm w) (Known w) SourceForm SourceExpr (λ f. f.0) (λ e. e.0) y)) line)
level_read w line (Source.Binary l op r) = record {
  plain = bounded_obeys mismatch line _ _ (between (λ a b. (a, b)) (value (expr w l.0)) (value (expr w r.0)) (bounded_value (expr w l.0) l.1) (bounded_value (expr w r.0) r.1));
  sizeof = tt;
  size = product_read op (expr w l.0) (expr w r.0) l.1 r.1;
}
level_read w line (Source.Unary op x) = plainly line _ (bounded_unary op line (expr w x.0) x.1)
level_read w line (Source.Cast to x) =
    plainly line _ (bounded_obeys mismatch line _ _
    (bounded_first (λ a b. (a, b)) (tokens 1 ⊗> type_name w to <⊗ tokens 1) (value (expr w x.0))
    (bounded_first (λ a b. a) (tokens 1 ⊗> type_name w to) (tokens 1) (bounded_second (λ a b. b) (tokens 1) (type_name w to) (clean_tokens 1) (bounded_type_name w to)) (clean_tokens 1))
    (loose (value (expr w x.0)) (bounded_value (expr w x.0) x.1))))
level_read w line (Source.Index x i) =
    plainly line _ (bounded_obeys mismatch line _ _
    (bounded_first (λ a b. a) (value (expr w x.0) <⊗ tokens 1 ⊗ value (expr w i.0)) (tokens 1)
    (between (λ a b. (a, b)) (value (expr w x.0)) (value (expr w i.0)) (bounded_value (expr w x.0) x.1) (bounded_value (expr w i.0) i.1)) (clean_tokens 1)))
level_read w line (Source.Field x f) = plainly line _ (bounded_field w f Form-F.Field _ (bounded_obeys mismatch line _ _ x.1.plain))
level_read w line (Source.Arrow x f) = plainly line _ (bounded_field w f Form-F.Arrow _ (bounded_obeys mismatch line _ _ (bounded_value (expr w x.0) x.1)))
level_read w line (Source.Number k) = plainly line _ (bounded_map (λ _. made ExprType.Int (Form-F.Number k)) _ one_token)
level_read w line Source.Null = plainly line _ (bounded_map (λ _. made ExprType.Null Form-F.Null) _ one_token)
level_read w line (Source.Name i) = plainly line _ (bounded_name w i)
level_read w line (Source.Call f es) = record { plain = bounded_call w line f _ (all_read w es); sizeof = tt; size = tt }
level_read w line (Source.Sizeof t) =
    let p = bounded_first (λ a b. a) (tokens 2 ⊗> type_name w t) (tokens 1) (bounded_second (λ a b. b) (tokens 2) (type_name w t) (clean_tokens 2) (bounded_type_name w t)) (clean_tokens 1) in
    record { plain = bounded_obeys mismatch line (λ h e. None) _ p; sizeof = (p, refl); size = (bounded_map _ _ p, refl) }

-- Every expression.
pub bounded : (w : Whole) (e : SourceExpr) → IsRead (expr w e)
bounded w = ind-Expr (FormRead w) (ExprRead w)
    (λ x y is line. subst (λ r. IsRead r) (sym (form_roll w line x)) (subst (λ x. IsRead (form_step w (mapped_form w x) line)) is (level_read w line y)))
    (λ x y is. subst (λ x. IsRead (expr w (record { line = x.line; form = x.form }))) is (subst (λ r. IsRead r) (sym (expr_reads w y.line y.form.0)) (y.form.1 y.line)))

-- A call that is a statement.
unused_within : (w : Whole) (f : Ident) (rs : List Reading) (m : Meaning) → AllRead rs → (here : Place) → IsLined here.at (here.at + (called (arguments rs)).tokens) ((call_as w f.line f rs m).judge here).faults
unused_within w f rs m all here =
    let is = call_is w f.line f rs m all in
    subst (λ n. IsLined here.at (here.at + n) ((call_as w f.line f rs m).judge here).faults) is.as_long (is.bounded.within here)

call_by_within : (w : Whole) (f : Ident) (rs : List Reading) (m : Meaning) → AllRead rs → (here : Place) → IsLined here.at (here.at + (called (arguments rs)).tokens) ((call_by w f rs m).judge here).faults
call_by_within w f rs (Meaning.object v) all here = unused_within w f rs (Meaning.object v) all here
call_by_within w f rs Meaning.nothing all here = unused_within w f rs Meaning.nothing all here
call_by_within w f rs (Meaning.function k s) all here = unused_within w f rs (Meaning.function k s) all here
call_by_within w f rs (Meaning.builtin Builtin.getint) all here = unused_within w f rs (Meaning.builtin Builtin.getint) all here
call_by_within w f rs (Meaning.builtin Builtin.left) all here = unused_within w f rs (Meaning.builtin Builtin.left) all here
call_by_within w f rs (Meaning.builtin Builtin.putint) all here = (bounded_obeys mismatch f.line (λ h es. Exprs.put es) _ (with_arguments rs all)).within here
call_by_within w f rs (Meaning.builtin Builtin.free) all here = (bounded_obeys mismatch f.line (λ h es. Exprs.freed es) _ (with_arguments rs all)).within here
call_by_within w f rs (Meaning.builtin Builtin.malloc) all here = unused_within w f rs (Meaning.builtin Builtin.malloc) all here

all_bounded : (w : Whole) (es : List SourceExpr) → AllRead (map (expr w) es)
all_bounded w [] = tt
all_bounded w (e ∷ es) = (bounded w e, all_bounded w es)

pub inside_call_stmt : (w : Whole) (f : Ident) (es : List SourceExpr) → IsInside (call_stmt w f (map (expr w) es))
inside_call_stmt w f es = record { within = λ here. call_by_within w f (map (expr w) es) (meaning w here.before f.name) (all_bounded w es) here }
