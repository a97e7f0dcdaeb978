-- The faults of an expression stand within it.
use Rattle.std.proofs.Common.{◌≡◌, ℕ, ◌+◌, ◌<◌, ◌≤◌, Bool, true, false, List, [], ◌∷◌, ◌++◌, map, get_or, Option, Some, None, refl, ap, sym, subst, arith}
use Rattle.dfi_base.specs.declared.numbers.Line.{Line}
use Rattle.std.specs.Prelude.{nat_eq}
use Rattle.c_ast.specs.declared.ident.Ident.{Ident}
use Rattle.c_ast.specs.declared.decl.Base.{Base}
use Rattle.c_ast.specs.declared.decl.TypeName.{TypeName}
use Rattle.c_ast.specs.declared.expr.UnaryOp.{UnaryOp}
use Rattle.c_ast.specs.declared.expr.BinaryOp.{BinaryOp}
use Rattle.c_ast.specs.declared.expr.Expr.{ind-Expr, Expr as SourceExpr}
use Rattle.c_ast.specs.declared.expr.Form.{Form as SourceForm, map-Form}
use Rattle.c_ast.specs.declared.expr.Form.TheOpen.{Form-F as Source}
use Rattle.c_typed.specs.declared.expr.Form.TheOpen.{Form-F}
use Rattle.c_typed.specs.declared.types.ObjectType.{ObjectType}
use Rattle.c_typed.specs.declared.expr.Expr.{Expr}
use Rattle.c_typed.specs.Marks.{Variable}
use Rattle.c_typed.specs.Whole.{Whole, Builtin, Meaning, meaning, is_main}
use Rattle.c_typed.specs.Faults.{Fault, unknown, mismatch, not_lvalue}
use Rattle.c_typed.specs.Parts.{Place, Part, tokens, given, joined, obeys, refused, ◌⊗◌, ◌<⊗◌, ◌⊗>◌, ◌<$>◌}
use Rattle.c_typed.specs.Tags.{base, type_name, known_tag}
use Rattle.c_typed.specs.Exprs
use Rattle.c_typed.specs.Stmts.{call_by, call_stmt}
use Rattle.c_typed.specs.Exprs.{Layer, Size, Reading, value, place, unary, product, counted_by, many_of, one_of, field_of, fielded, in_struct, found_by, field_by, name, name_as, arguments, called, call, call_as, allocation, allocation_by, form_step, expr}
use Rattle.c_types.proofs.Bounds.{IsWithin, IsBounded, IsInside, inside, inside_tokens, inside_joined, bounded_first, bounded_second, bounded_tokens, bounded_obeys, bounded_refused, before_more, from_append, before_append}
use Rattle.c_typed.proofs.Levels.{mapped_form, read_form, form_roll, expr_reads}

-- Type names.
append_within : (from to : ℕ) (fs gs : List Fault) → IsWithin from to fs → IsWithin from to gs → IsWithin from to (fs ++ gs)
append_within from to fs gs is that = record { start = from_append from fs gs is.start that.start; end = before_append to fs gs is.end that.end }

one_token : IsBounded (tokens 1)
one_token = record { within = (inside_tokens 1).within; more = omega arith }

pub bounded_base : (w : Whole) (by_value : Bool) (b : Base) → IsBounded (base w by_value b)
bounded_base w by_value (Base.Int line) = one_token
bounded_base w by_value (Base.Struct line tag) =
    bounded_first (λ a b. b) (tokens 1) _ one_token (inside _ (bounded_obeys unknown tag.line (known_tag w by_value tag) (tokens 1) one_token))

pub bounded_type_name : (w : Whole) (t : TypeName) → IsBounded (type_name w t)
bounded_type_name w t =
    let b = bounded_first (λ a b. b) (base w (nat_eq t.stars 0) t.base) (tokens t.stars) (bounded_base w (nat_eq t.stars 0) t.base) (inside_tokens t.stars) in
    record { within = λ here. b.within here; more = b.more }

-- What is known of a reading.
abbrev pub IfThere : {A : Type 0} → Option (Part A) → ℕ → Type 0
IfThere None n = Unit {0}
IfThere (Some p) n = IsBounded p × (p.tokens ≡ n)

pub record IsRead (r : Reading) : Type 0 where
  pub plain : IsBounded r.plain
  pub sizeof : IfThere r.sizeof r.plain.tokens
  pub size : IfThere r.size r.plain.tokens

pub bounded_value : (r : Reading) → IsRead r → IsBounded (value r)
bounded_value r is = bounded_obeys mismatch r.line _ r.plain is.plain

pub bounded_place : (r : Reading) → IsRead r → IsBounded (place r)
bounded_place r is = bounded_obeys not_lvalue r.line _ r.plain is.plain

plainly : (line : Line) (p : Part Expr) → IsBounded p → IsRead (Exprs.reading line p)
plainly line p is = record { plain = is; sizeof = tt; size = tt }

bounded_unary : (op : UnaryOp) (line : Line) (r : Reading) → IsRead r → IsBounded (unary op line r)
bounded_unary UnaryOp.Minus line r is = bounded_obeys mismatch line _ _ (bounded_second (λ a b. b) (tokens 1) (value r) (inside_tokens 1) (bounded_value r is))
bounded_unary UnaryOp.Plus line r is = bounded_obeys mismatch line _ _ (bounded_second (λ a b. b) (tokens 1) (value r) (inside_tokens 1) (bounded_value r is))
bounded_unary UnaryOp.Not line r is = bounded_obeys mismatch line _ _ (bounded_second (λ a b. b) (tokens 1) (value r) (inside_tokens 1) (bounded_value r is))
bounded_unary UnaryOp.Complement line r is = bounded_obeys mismatch line _ _ (bounded_second (λ a b. b) (tokens 1) (value r) (inside_tokens 1) (bounded_value r is))
bounded_unary UnaryOp.Deref line r is = bounded_obeys mismatch line _ _ (bounded_second (λ a b. b) (tokens 1) (value r) (inside_tokens 1) (bounded_value r is))
bounded_unary UnaryOp.Address line r is = bounded_obeys mismatch line _ _ (bounded_second (λ a b. b) (tokens 1) (place r) (inside_tokens 1) (bounded_place r is))

-- one part, a token, and another
between : {A B C : Type 0} (f : A → B → C) (p : Part A) (q : Part B) → IsBounded p → IsBounded q → IsBounded (joined f (p <⊗ tokens 1) q)
between f p q is that = bounded_first f (p <⊗ tokens 1) q (bounded_first (λ a b. a) p (tokens 1) is (inside_tokens 1)) (inside q that)

-- `malloc`'s sizes
counted_read : (left right : Reading) (o p : Option (Part ObjectType)) → IsRead left → IsRead right → IfThere o left.plain.tokens → IfThere p right.plain.tokens
    → IfThere (counted_by left right o p) (left.plain.tokens + 1 + right.plain.tokens)
counted_read left right o (Some p) l r is that = (between many_of (value left) p (bounded_value left l) that.0, ap (λ n. left.plain.tokens + 1 + n) that.1)
counted_read left right (Some p) None l r is that = (between (λ t e. many_of e t) p (value right) is.0 (bounded_value right r), ap (λ n. n + 1 + right.plain.tokens) is.1)
counted_read left right None None l r is that = tt

product_read : (op : BinaryOp) (left right : Reading) → IsRead left → IsRead right → IfThere (product op left right) (left.plain.tokens + 1 + right.plain.tokens)
product_read BinaryOp.Mul left right l r = counted_read left right left.sizeof right.sizeof l r l.sizeof r.sizeof
product_read _ left right l r = tt

-- Names, and the fields of structs.
named_within : (i : Ident) (m : Meaning) (here : Place) → IsWithin here.at (here.at + 1) ((name_as i m).judge here).faults
named_within i (Meaning.object (Variable.global k t)) here = record { start = tt; end = tt }
named_within i (Meaning.object (Variable.local k t)) here = record { start = tt; end = tt }
named_within i Meaning.nothing here = record { start = (omega arith, tt); end = (omega arith, tt) }
named_within i (Meaning.builtin b) here = record { start = (omega arith, tt); end = (omega arith, tt) }
named_within i (Meaning.function k s) here = record { start = (omega arith, tt); end = (omega arith, tt) }

bounded_name : (w : Whole) (i : Ident) → IsBounded (name w i)
bounded_name w i = record { within = λ here. named_within i (meaning w here.before i.name) here; more = omega arith }

found_within : (f : Ident) (form : Expr → ℕ → Layer) (from to at : ℕ) (fs : List Fault) (e : Expr) (o : Option (ℕ × ObjectType)) → from ≤ at → at < to
    → IsWithin from to fs → IsWithin from to (found_by f form at fs e o).faults
found_within f form from to at fs e None le less is = append_within from to fs _ is (record { start = (le, tt); end = (less, tt) })
found_within f form from to at fs e (Some m) le less is = is

struct_within : (w : Whole) (f : Ident) (form : Expr → ℕ → Layer) (from to at : ℕ) (fs : List Fault) (e : Expr) (o : Option ℕ) → from ≤ at → at < to
    → IsWithin from to fs → IsWithin from to (in_struct w f form at fs e o).faults
struct_within w f form from to at fs e None le less is = is
struct_within w f form from to at fs e (Some k) le less is = found_within f form from to at fs e (field_by f.name 0 (get_or w.structs k [])) le less is

fielded_within : (w : Whole) (f : Ident) (form : Expr → ℕ → Layer) (from to at : ℕ) (fs : List Fault) (o : Option (Expr × Option ℕ)) → from ≤ at → at < to
    → IsWithin from to fs → IsWithin from to (fielded w f form at fs o).faults
fielded_within w f form from to at fs None le less is = is
fielded_within w f form from to at fs (Some e) le less is = struct_within w f form from to at fs e.0 e.1 le less is

more_within : (from to more : ℕ) (fs : List Fault) → to ≤ more → IsWithin from to fs → IsWithin from more fs
more_within from to more fs le is = record { start = is.start; end = before_more to more fs le is.end }

bounded_field : (w : Whole) (f : Ident) (form : Expr → ℕ → Layer) (p : Part (Expr × Option ℕ)) → IsBounded p → IsBounded (field_of w f form p)
bounded_field w f form p is = record {
  within = λ here.
      fielded_within w f form here.at (here.at + (p.tokens + 2)) (here.at + p.tokens + 1) (p.judge here).faults (p.judge here).value (omega arith) (omega arith)
      (more_within here.at (here.at + p.tokens) (here.at + (p.tokens + 2)) (p.judge here).faults (omega arith) (is.within here));
  more = omega (arith, is.more);
}

-- Calls.
abbrev pub AllRead : List Reading → Type 0
AllRead [] = Unit {0}
AllRead (r ∷ rs) = IsRead r × AllRead rs

inside_arguments : (rs : List Reading) → AllRead rs → IsInside (arguments rs)
inside_arguments [] all = record { within = λ here. record { start = tt; end = tt } }
inside_arguments (r ∷ []) all = inside_joined (λ a rest. a ∷ rest) (value r) (given []) (inside (value r) (bounded_value r all.0)) (record { within = λ here. record { start = tt; end = tt } })
inside_arguments (r ∷ s ∷ rs) all =
    inside_joined (λ a rest. a ∷ rest) (value r <⊗ tokens 1) (arguments (s ∷ rs))
    (inside_joined (λ a b. a) (value r) (tokens 1) (inside (value r) (bounded_value r all.0)) (inside_tokens 1)) (inside_arguments (s ∷ rs) all.1)

bounded_called : {A : Type 0} (p : Part A) → IsInside p → IsBounded (called p)
bounded_called p is = bounded_first (λ a b. a) (tokens 2 ⊗> p) (tokens 1) (bounded_tokens (λ a b. b) 2 p is (omega arith)) (inside_tokens 1)

-- a call's tokens are those of its arguments, whatever its name means
record IsCall (p : Part Expr) (rs : List Reading) : Type 0 where
  bounded : IsBounded p
  as_long : p.tokens ≡ (called (arguments rs)).tokens

with_arguments : (rs : List Reading) → AllRead rs → IsBounded (called (arguments rs))
with_arguments rs all = bounded_called (arguments rs) (inside_arguments rs all)

allocation_is : (line : Line) (rs : List Reading) → AllRead rs → IsCall (allocation line rs) rs
allocation_is line [] all = record { bounded = bounded_refused mismatch line _ (with_arguments [] all); as_long = refl }
allocation_is line (r ∷ []) all = by_size r.size all.0.size where
  by_size : (o : Option (Part Size)) → IfThere o r.plain.tokens → IsCall (allocation_by line (r ∷ []) o) (r ∷ [])
  by_size None is = record { bounded = bounded_refused mismatch line _ (with_arguments (r ∷ []) all); as_long = refl }
  by_size (Some p) is = record {
    bounded = bounded_obeys mismatch line _ (called p) (bounded_called p (inside p is.0));
    as_long = omega (arith, is.1);
  }
allocation_is line (r ∷ s ∷ rs) all = record { bounded = bounded_refused mismatch line _ (with_arguments (r ∷ s ∷ rs) all); as_long = refl }

bounded_map : {A B : Type 0} (f : A → B) (p : Part A) → IsBounded p → IsBounded (f <$> p)
bounded_map f p b = record { within = λ here. b.within here; more = b.more }

call_is : (w : Whole) (line : Line) (f : Ident) (rs : List Reading) (m : Meaning) → AllRead rs → IsCall (call_as w line f rs m) rs
call_is w line f rs (Meaning.object v) all = record { bounded = bounded_refused mismatch f.line _ (with_arguments rs all); as_long = refl }
call_is w line f rs Meaning.nothing all = record { bounded = bounded_refused unknown f.line _ (with_arguments rs all); as_long = refl }
call_is w line f rs (Meaning.function k s) all =
    elim (is_main w f.name) as (λ b. IsCall (elim b [ true ↦ refused mismatch f.line (called (arguments rs)) | false ↦ obeys mismatch line (λ h es. Exprs.applied k s es) (called (arguments rs)) ]) rs) [
      | true ↦ record { bounded = bounded_refused mismatch f.line _ (with_arguments rs all); as_long = refl }
      | false ↦ record { bounded = bounded_obeys mismatch line _ _ (with_arguments rs all); as_long = refl }
    ]
call_is w line f rs (Meaning.builtin Builtin.getint) all = record { bounded = bounded_obeys mismatch line _ _ (with_arguments rs all); as_long = refl }
call_is w line f rs (Meaning.builtin Builtin.left) all = record { bounded = bounded_obeys mismatch line _ _ (with_arguments rs all); as_long = refl }
call_is w line f rs (Meaning.builtin Builtin.putint) all = record { bounded = bounded_map _ _ (bounded_obeys mismatch line (λ h es. Exprs.put es) _ (with_arguments rs all)); as_long = refl }
call_is w line f rs (Meaning.builtin Builtin.free) all = record { bounded = bounded_map _ _ (bounded_obeys mismatch line (λ h es. Exprs.freed es) _ (with_arguments rs all)); as_long = refl }
call_is w line f rs (Meaning.builtin Builtin.malloc) all = allocation_is line rs all

bounded_call : (w : Whole) (line : Line) (f : Ident) (rs : List Reading) → AllRead rs → IsBounded (call w line f rs)
bounded_call w line f rs all = record {
  within = λ here.
      let is = call_is w line f rs (meaning w here.before f.name) all in
      subst (λ n. IsWithin here.at (here.at + n) ((call_as w line f rs (meaning w here.before f.name)).judge here).faults) is.as_long (is.bounded.within here);
  more = (with_arguments rs all).more;
}

-- the same of a call that is a statement
unused_within : (w : Whole) (f : Ident) (rs : List Reading) (m : Meaning) → AllRead rs → (here : Place) → IsWithin here.at (here.at + (called (arguments rs)).tokens) ((call_as w f.line f rs m).judge here).faults
unused_within w f rs m all here =
    let is = call_is w f.line f rs m all in
    subst (λ n. IsWithin here.at (here.at + n) ((call_as w f.line f rs m).judge here).faults) is.as_long (is.bounded.within here)

call_by_within : (w : Whole) (f : Ident) (rs : List Reading) (m : Meaning) → AllRead rs → (here : Place) → IsWithin here.at (here.at + (called (arguments rs)).tokens) ((call_by w f rs m).judge here).faults
call_by_within w f rs (Meaning.object v) all here = unused_within w f rs (Meaning.object v) all here
call_by_within w f rs Meaning.nothing all here = unused_within w f rs Meaning.nothing all here
call_by_within w f rs (Meaning.function k s) all here = unused_within w f rs (Meaning.function k s) all here
call_by_within w f rs (Meaning.builtin Builtin.getint) all here = unused_within w f rs (Meaning.builtin Builtin.getint) all here
call_by_within w f rs (Meaning.builtin Builtin.left) all here = unused_within w f rs (Meaning.builtin Builtin.left) all here
call_by_within w f rs (Meaning.builtin Builtin.putint) all here = (bounded_obeys mismatch f.line (λ h es. Exprs.put es) _ (with_arguments rs all)).within here
call_by_within w f rs (Meaning.builtin Builtin.free) all here = (bounded_obeys mismatch f.line (λ h es. Exprs.freed es) _ (with_arguments rs all)).within here
call_by_within w f rs (Meaning.builtin Builtin.malloc) all here = unused_within w f rs (Meaning.builtin Builtin.malloc) all here

bounded_stmt : (w : Whole) (f : Ident) (rs : List Reading) → AllRead rs → IsBounded (call_stmt w f rs)
bounded_stmt w f rs all = record {
  within = λ here. call_by_within w f rs (meaning w here.before f.name) all here;
  more = (with_arguments rs all).more;
}

-- One level, with what is known of each operand beside it.
abbrev FormRead : Whole → SourceForm → Type 0
FormRead w f = (line : Line) → IsRead (read_form w f line)

abbrev ExprRead : Whole → SourceExpr → Type 0
ExprRead w e = IsRead (expr w e)

abbrev Known : Whole → Type 0
Known w = (e : SourceExpr) × ExprRead w e

abbrev KnownForm : Whole → Type 0
KnownForm w = (f : SourceForm) × FormRead w f

all_read : (w : Whole) (es : List (Known w)) → AllRead (map (expr w) (map (λ e. e.0) es))
all_read w [] = tt
all_read w (e ∷ es) = (e.1, all_read w es)

level_read : (w : Whole) (line : Line) (y : Source (KnownForm w) (Known w))
    → IsRead (form_step w (mapped_form w (map-Form (KnownForm w) (Known w) SourceForm SourceExpr (λ f. f.0) (λ e. e.0) y)) line)
level_read w line (Source.Binary l op r) = record {
  plain = bounded_obeys mismatch line _ _ (between (λ a b. (a, b)) (value (expr w l.0)) (value (expr w r.0)) (bounded_value (expr w l.0) l.1) (bounded_value (expr w r.0) r.1));
  sizeof = tt;
  size = product_read op (expr w l.0) (expr w r.0) l.1 r.1;
}
level_read w line (Source.Unary op x) = plainly line _ (bounded_unary op line (expr w x.0) x.1)
level_read w line (Source.Cast to x) =
    plainly line _ (bounded_obeys mismatch line _ _
    (bounded_first (λ a b. (a, b)) (tokens 1 ⊗> type_name w to <⊗ tokens 1) (value (expr w x.0))
    (bounded_first (λ a b. a) (tokens 1 ⊗> type_name w to) (tokens 1) (bounded_second (λ a b. b) (tokens 1) (type_name w to) (inside_tokens 1) (bounded_type_name w to)) (inside_tokens 1))
    (inside (value (expr w x.0)) (bounded_value (expr w x.0) x.1))))
level_read w line (Source.Index x i) =
    plainly line _ (bounded_obeys mismatch line _ _
    (bounded_first (λ a b. a) (value (expr w x.0) <⊗ tokens 1 ⊗ value (expr w i.0)) (tokens 1)
    (between (λ a b. (a, b)) (value (expr w x.0)) (value (expr w i.0)) (bounded_value (expr w x.0) x.1) (bounded_value (expr w i.0) i.1)) (inside_tokens 1)))
level_read w line (Source.Field x f) = plainly line _ (bounded_field w f Form-F.Field _ (bounded_obeys mismatch line _ _ x.1.plain))
level_read w line (Source.Arrow x f) = plainly line _ (bounded_field w f Form-F.Arrow _ (bounded_obeys mismatch line _ _ (bounded_value (expr w x.0) x.1)))
level_read w line (Source.Number k) = plainly line _ (record { within = λ here. record { start = tt; end = tt }; more = omega arith })
level_read w line Source.Null = plainly line _ (record { within = λ here. record { start = tt; end = tt }; more = omega arith })
level_read w line (Source.Name i) = plainly line _ (bounded_name w i)
level_read w line (Source.Call f es) = record { plain = bounded_call w line f _ (all_read w es); sizeof = tt; size = tt }
level_read w line (Source.Sizeof t) =
    let p = bounded_first (λ a b. a) (tokens 2 ⊗> type_name w t) (tokens 1) (bounded_second (λ a b. b) (tokens 2) (type_name w t) (inside_tokens 2) (bounded_type_name w t)) (inside_tokens 1) in
    record { plain = bounded_obeys mismatch line (λ h e. None) _ p; sizeof = (p, refl); size = (record { within = λ here. p.within here; more = p.more }, refl) }

-- Every expression.
pub bounded : (w : Whole) (e : SourceExpr) → IsRead (expr w e)
bounded w = ind-Expr (FormRead w) (ExprRead w)
    (λ x y is line. subst (λ r. IsRead r) (sym (form_roll w line x)) (subst (λ x. IsRead (form_step w (mapped_form w x) line)) is (level_read w line y)))
    (λ x y is. subst (λ x. IsRead (expr w (record { line = x.line; form = x.form }))) is (subst (λ r. IsRead r) (sym (expr_reads w y.line y.form.0)) (y.form.1 y.line)))

all_bounded : (w : Whole) (es : List SourceExpr) → AllRead (map (expr w) es)
all_bounded w [] = tt
all_bounded w (e ∷ es) = (bounded w e, all_bounded w es)

pub bounded_call_stmt : (w : Whole) (f : Ident) (es : List SourceExpr) → IsBounded (call_stmt w f (map (expr w) es))
bounded_call_stmt w f es = bounded_stmt w f (map (expr w) es) (all_bounded w es)
