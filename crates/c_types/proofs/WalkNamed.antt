-- A walk over an expression never finds want of memory.
use Rattle.std.proofs.Common.{◌≢◌, ℕ, Bool, true, false, List, [], ◌∷◌, map, Option, Some, None, Ok, Err, slice_get, nat_eq, sym, subst}
use Rattle.dfi_base.specs.declared.numbers.Line.{Line}
use Rattle.c_ast.specs.declared.ident.Ident.{Ident}
use Rattle.c_ast.specs.declared.decl.Base.{Base}
use Rattle.c_ast.specs.declared.decl.TypeName.{TypeName}
use Rattle.c_ast.specs.declared.expr.UnaryOp.{UnaryOp}
use Rattle.c_ast.specs.declared.expr.Expr.{ind-Expr, Expr as SourceExpr}
use Rattle.c_ast.specs.declared.expr.Form.{map-Form, Form as SourceForm}
use Rattle.c_ast.specs.declared.expr.Form.TheOpen.{Form-F as Source}
use Rattle.c_typed.specs.declared.fault.TypeFault.{TypeFault}
use Rattle.c_typed.specs.declared.types.ObjectType.{ObjectType}
use Rattle.c_typed.specs.declared.expr.Expr.{Expr}
use Rattle.c_types.specs.declared.outline.Outline.{Outline}
use Rattle.c_types.specs.declared.outline.Spelling.{Spelling}
use Rattle.c_types.specs.declared.outline.Shape.{Shape}
use Rattle.c_types.specs.declared.outline.Member.{Member}
use Rattle.c_types.specs.declared.outline.Signature.{Signature}
use Rattle.c_types.specs.declared.scopes.Binding.{Binding}
use Rattle.c_types.specs.declared.known.Known.{Known}
use Rattle.c_typed.specs.declared.expr.Form.TheOpen.{Form-F}
use Rattle.c_typed.specs.Exprs.{Layer, Size, struct_at, struct_behind}
use Rattle.c_typed.specs.Faults.{Rule, told_by, unknown, twice, mismatch, not_lvalue, escape, branches, big, no_main}
use Rattle.c_types.specs.tools.Steps.{Found, ◌>>=◌, broken, kept, unless_kept}
use Rattle.c_types.specs.tools.Tables.{looked}
use Rattle.c_types.specs.tools.Outlines.{spelled, bound, base_walk, type_name_walk, has_tag}
use Rattle.c_types.specs.tools.ExprWalk as walk
use Rattle.c_types.specs.tools.ExprWalk.{Finding, form_walk, expr_walk}
use Rattle.c_types.proofs.WalkLevels.{find_form, found_form, walk_form_roll, walk_reads}

abbrev IsRule : TypeFault → Type 0
IsRule TypeFault.Memory = ⊥
IsRule _ = Unit {0}

abbrev pub IsNamed : {A : Type 0} → Found A → Type 0
IsNamed (Ok a) = Unit {0}
IsNamed (Err e) = IsRule e

pub not_memory : {e : TypeFault} → IsRule e → e ≢ TypeFault.Memory
not_memory is same = subst IsRule same is

rule_named : (rule : Rule) (line : Line) → IsRule (told_by rule line)
rule_named unknown line = tt
rule_named twice line = tt
rule_named mismatch line = tt
rule_named not_lvalue line = tt
rule_named escape line = tt
rule_named branches line = tt
rule_named (big what) line = tt
rule_named no_main line = tt

pub bind_named : {A B : Type 0} (r : Found A) (f : A → Found B) → IsNamed r → ((a : A) → IsNamed (f a)) → IsNamed (r >>= f)
bind_named (Ok a) f is that = that a
bind_named (Err e) f is that = is

kept_named : {A : Type 0} (rule : Rule) (line : Line) (o : Option A) → IsNamed (kept rule line o)
kept_named rule line None = rule_named rule line
kept_named rule line (Some a) = tt

ruled : {A B : Type 0} (rule : Rule) (line : Line) (keeps : A → Option B) (r : Found A) → IsNamed r → IsNamed (r >>= (λ a. kept rule line (keeps a)))
ruled rule line keeps r is = bind_named r _ is (λ a. kept_named rule line (keeps a))

unless_named : (b : Bool) (rule : Rule) (line : Line) → IsNamed (unless_kept b rule line (Ok (tt {0})))
unless_named true rule line = tt
unless_named false rule line = rule_named rule line

pub base_named : (o : Outline) (k : Known) (v : Bool) (b : Base) → IsNamed (base_walk o k v b)
base_named o k v (Base.Int line) = tt
base_named o k v (Base.Struct line tag) = unless_named (has_tag o k v tag.name) unknown tag.line

type_named : (o : Outline) (k : Known) (t : TypeName) → IsNamed (type_name_walk o k t)
type_named o k t = bind_named (base_walk o k (nat_eq t.stars 0) t.base) _ (base_named o k (nat_eq t.stars 0) t.base) (λ u. tt)

-- of a finding, what may be asked
abbrev IfNamed : {A : Type 0} → Option (Found A) → Type 0
IfNamed None = Unit {0}
IfNamed (Some f) = IsNamed f

record AllNamed (f : Finding) : Type 0 where
  plain : IsNamed f.plain
  sizeof : IfNamed f.sizeof
  size : IfNamed f.size

plainly : (line : Line) (p : Found Expr) → IsNamed p → AllNamed (walk.finding line p)
plainly line p is = record { plain = is; sizeof = tt; size = tt }

value_by : (f : Finding) → AllNamed f → IsNamed (walk.value f)
value_by f is = ruled mismatch f.line _ f.plain is.plain

place_by : (f : Finding) → AllNamed f → IsNamed (walk.place f)
place_by f is = ruled not_lvalue f.line _ f.plain is.plain

unary_named : (op : UnaryOp) (line : Line) (f : Finding) → AllNamed f → IsNamed (walk.unary_walk op line f)
unary_named UnaryOp.Minus line f is = ruled mismatch line _ (walk.value f) (value_by f is)
unary_named UnaryOp.Plus line f is = ruled mismatch line _ (walk.value f) (value_by f is)
unary_named UnaryOp.Not line f is = ruled mismatch line _ (walk.value f) (value_by f is)
unary_named UnaryOp.Complement line f is = ruled mismatch line _ (walk.value f) (value_by f is)
unary_named UnaryOp.Deref line f is = ruled mismatch line _ (walk.value f) (value_by f is)
unary_named UnaryOp.Address line f is = ruled mismatch line _ (walk.place f) (place_by f is)

-- fields
object_named : (f : Ident) (n : ℕ) (m : Option Member) → IsNamed (elim m as (λ m. Found (ℕ × ObjectType)) [ None ↦ broken unknown f.line | Some m ↦ Ok (n, m.object) ])
object_named f n None = tt
object_named f n (Some m) = tt

index_named : (f : Ident) (ms : List Member) (i : Option ℕ) → IsNamed (elim i as (λ i. Found (ℕ × ObjectType)) [ None ↦ broken unknown f.line | Some n ↦ walk.object_at f ms n ])
index_named f ms None = tt
index_named f ms (Some n) = object_named f n (slice_get ms n)

shape_named : (f : Ident) (s : Option Shape) → IsNamed (elim s as (λ s. Found (ℕ × ObjectType)) [ None ↦ broken unknown f.line | Some s ↦ walk.member_in f s.members ])
shape_named f None = tt
shape_named f (Some s) = index_named f s.members (walk.index_by f.name 0 s.members)

fielded_named : (o : Outline) (line : Line) (f : Ident) (form : Expr → ℕ → Layer) (e : Expr) (n : Option (Option ℕ)) → IsNamed (walk.fielded o line f form e n)
fielded_named o line f form e None = tt
fielded_named o line f form e (Some None) = tt
fielded_named o line f form e (Some (Some k)) = bind_named (walk.member_walk o k f) _ (shape_named f (slice_get o.shapes k)) (λ m. tt)

-- names and calls
unbound_named : (o : Outline) (i : Ident) (s : Spelling) (n : Option ℕ) → IsNamed (walk.unbound o i s n)
unbound_named o i Spelling.Other None = tt
unbound_named o i Spelling.Main None = tt
unbound_named o i Spelling.Other (Some n) = tt
unbound_named o i Spelling.Main (Some n) = tt
unbound_named o i Spelling.GetInt n = tt
unbound_named o i Spelling.Left n = tt
unbound_named o i Spelling.PutInt n = tt
unbound_named o i Spelling.Malloc n = tt
unbound_named o i Spelling.Free n = tt

name_named : (o : Outline) (i : Ident) (b : Option Binding) → IsNamed (walk.name_by o i b)
name_named o i (Some b) = tt
name_named o i None = unbound_named o i (spelled o i.name) (looked o.numbers i.name)

abbrev EachNamed : List Finding → Type 0
EachNamed [] = Unit {0}
EachNamed (f ∷ fs) = AllNamed f × EachNamed fs

arguments_named : (fs : List Finding) → EachNamed fs → IsNamed (walk.arguments fs)
arguments_named [] all = tt
arguments_named (f ∷ fs) all = bind_named (walk.value f) _ (value_by f all.0) (λ e. bind_named (walk.arguments fs) _ (arguments_named fs all.1) (λ es. tt))

size_named : (line : Line) (s : Option (Found Size)) → IfNamed s → IsNamed (walk.size_or line s)
size_named line None is = tt
size_named line (Some s) is = is

allocation_named : (line : Line) (fs : List Finding) → EachNamed fs → IsNamed (walk.allocation line fs)
allocation_named line [] all = tt
allocation_named line (f ∷ []) all = bind_named (walk.size_or line f.size) _ (size_named line f.size all.0.size) (λ s. kept_named mismatch line (walk.allocated_by s.item s.count))
allocation_named line (f ∷ g ∷ fs) all = tt

function_named : (line : Line) (k : ℕ) (s : Option Signature) (f : Ident) (fs : List Finding) → EachNamed fs → IsNamed (walk.function_call line k s f fs)
function_named line k None f fs all = tt
function_named line k (Some s) f fs all = ruled mismatch line (walk.applied k s) (walk.arguments fs) (arguments_named fs all)

numbered_named : (o : Outline) (line : Line) (n : Option ℕ) (f : Ident) (fs : List Finding) → EachNamed fs → IsNamed (walk.numbered_call o line n f fs)
numbered_named o line None f fs all = tt
numbered_named o line (Some k) f fs all = function_named line k (slice_get o.functions k) f fs all

main_named : (n : Option ℕ) (f : Ident) → IsNamed (walk.main_call n f)
main_named None f = tt
main_named (Some k) f = tt

spelled_named : (o : Outline) (line : Line) (s : Spelling) (f : Ident) (fs : List Finding) → EachNamed fs → IsNamed (walk.spelled_call o line s f fs)
spelled_named o line Spelling.GetInt f fs all = ruled mismatch line _ (walk.arguments fs) (arguments_named fs all)
spelled_named o line Spelling.Left f fs all = ruled mismatch line _ (walk.arguments fs) (arguments_named fs all)
spelled_named o line Spelling.PutInt f fs all = bind_named (walk.put_walk line fs) _ (ruled mismatch line _ (walk.arguments fs) (arguments_named fs all)) (λ e. tt)
spelled_named o line Spelling.Free f fs all = bind_named (walk.free_walk line fs) _ (ruled mismatch line _ (walk.arguments fs) (arguments_named fs all)) (λ e. tt)
spelled_named o line Spelling.Malloc f fs all = allocation_named line fs all
spelled_named o line Spelling.Main f fs all = main_named (looked o.numbers f.name) f
spelled_named o line Spelling.Other f fs all = numbered_named o line (looked o.numbers f.name) f fs all

call_named : (o : Outline) (line : Line) (b : Option Binding) (f : Ident) (fs : List Finding) → EachNamed fs → IsNamed (walk.call_by o line b f fs)
call_named o line (Some b) f fs all = tt
call_named o line None f fs all = spelled_named o line (spelled o f.name) f fs all

-- sizes
counted_named : (l r : Finding) → AllNamed l → AllNamed r → (s t : Option (Found ObjectType)) → IfNamed s → IfNamed t → IfNamed (walk.counted_by l r s t)
counted_named l r left right s (Some p) is that = bind_named (walk.value l) _ (value_by l left) (λ e. bind_named p _ that (λ t. tt))
counted_named l r left right (Some p) None is that = bind_named p _ is (λ t. bind_named (walk.value r) _ (value_by r right) (λ e. tt))
counted_named l r left right None None is that = tt

multiplied_named : (b : Bool) (l r : Finding) → AllNamed l → AllNamed r → IfNamed (walk.multiplied b l r)
multiplied_named true l r left right = counted_named l r left right l.sizeof r.sizeof left.sizeof right.sizeof
multiplied_named false l r left right = tt

module _ (o : Outline) (k : Known) where
  abbrev FormNamed : SourceForm → Type 0
  FormNamed f = (line : Line) → AllNamed (find_form o k f line)

  abbrev ExprNamed : SourceExpr → Type 0
  ExprNamed e = AllNamed (expr_walk o k e)

  abbrev NamedForm : Type 0
  NamedForm = (f : SourceForm) × FormNamed f

  abbrev NamedExpr : Type 0
  NamedExpr = (e : SourceExpr) × ExprNamed e

  abbrev forgotten : Source NamedForm NamedExpr → Source SourceForm SourceExpr
  forgotten y = map-Form NamedForm NamedExpr SourceForm SourceExpr (λ f. f.0) (λ e. e.0) y

  all_named : (es : List NamedExpr) → EachNamed (map (expr_walk o k) (map (λ e. e.0) es))
  all_named [] = tt
  all_named (e ∷ es) = (e.1, all_named es)

  level_named : (line : Line) (y : Source NamedForm NamedExpr) → AllNamed (form_walk o k (found_form o k (forgotten y)) line)
  level_named line (Source.Binary l op r) = record {
    plain = bind_named (walk.value (expr_walk o k l.0)) _ (value_by (expr_walk o k l.0) l.1) (λ e. ruled mismatch line _ (walk.value (expr_walk o k r.0)) (value_by (expr_walk o k r.0) r.1));
    sizeof = tt;
    size = multiplied_named (walk.is_mul op) (expr_walk o k l.0) (expr_walk o k r.0) l.1 r.1;
  }
  level_named line (Source.Unary op x) = plainly line _ (unary_named op line (expr_walk o k x.0) x.1)
  level_named line (Source.Cast to x) = plainly line _ (bind_named (type_name_walk o k to) _ (type_named o k to) (λ t. ruled mismatch line _ (walk.value (expr_walk o k x.0)) (value_by (expr_walk o k x.0) x.1)))
  level_named line (Source.Index x i) =
      plainly line _ (bind_named (walk.value (expr_walk o k x.0)) _ (value_by (expr_walk o k x.0) x.1) (λ e. ruled mismatch line _ (walk.value (expr_walk o k i.0)) (value_by (expr_walk o k i.0) i.1)))
  level_named line (Source.Field x f) = plainly line _ (bind_named (expr_walk o k x.0).plain _ x.1.plain (λ e. fielded_named o line f Form-F.Field e (struct_at e.typing)))
  level_named line (Source.Arrow x f) = plainly line _ (bind_named (walk.value (expr_walk o k x.0)) _ (value_by (expr_walk o k x.0) x.1) (λ e. fielded_named o line f Form-F.Arrow e (struct_behind e.typing)))
  level_named line (Source.Number n) = plainly line _ tt
  level_named line Source.Null = plainly line _ tt
  level_named line (Source.Name i) = plainly line _ (name_named o i (bound k i.name))
  level_named line (Source.Call f es) = record { plain = call_named o line (bound k f.name) f _ (all_named es); sizeof = tt; size = tt }
  level_named line (Source.Sizeof t) = record {
    plain = bind_named (type_name_walk o k t) _ (type_named o k t) (λ t. tt);
    sizeof = type_named o k t;
    size = bind_named (type_name_walk o k t) _ (type_named o k t) (λ t. tt);
  }

  expr_named : (e : SourceExpr) → ExprNamed e
  expr_named = ind-Expr FormNamed ExprNamed
      (λ x y is line. subst (λ f. AllNamed f) (sym (walk_form_roll o k line x)) (subst (λ x. AllNamed (form_walk o k (found_form o k x) line)) is (level_named line y)))
      (λ x y is. subst (λ x. ExprNamed (record { line = x.line; form = x.form })) is (subst (λ f. AllNamed f) (sym (walk_reads o k y.line y.form.0)) (y.form.1 y.line)))

  pub value_named : (e : SourceExpr) → IsNamed (walk.value (expr_walk o k e))
  value_named e = value_by (expr_walk o k e) (expr_named e)
