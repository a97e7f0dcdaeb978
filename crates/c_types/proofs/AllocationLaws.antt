-- `malloc`'s argument, and the list of a call's arguments.
use Rattle.std.proofs.Common.{◌≡◌, ℕ, zero, suc, ◌<◌, ◌≤◌, true, false, List, [], ◌∷◌, ◌++◌, map, length, drop, get_or, Option, Some, None, Ok, Err, refl, ap, sym, ◌∙◌, append_assoc, arith}
use Rattle.std.proofs.lemmas.List.{drop_all}
use Rattle.dfi_base.specs.declared.numbers.Line.{Line}
use Rattle.c_ast.specs.declared.decl.TypeName.{TypeName}
use Rattle.c_ast.specs.declared.expr.BinaryOp.{BinaryOp}
use Rattle.c_ast.specs.declared.expr.Expr.{Expr as SourceExpr}
use Rattle.c_ast.specs.declared.expr.Form.TheVariants as form
use Rattle.c_ast.specs.declared.expr.Form.{roll-out-Form, out-Form, Form as SourceForm, roll-Form}
use Rattle.c_ast.specs.declared.expr.Form.TheOpen.{Form-F as Source}
use Rattle.c_typed.specs.declared.fault.TypeFault.{TypeFault}
use Rattle.c_typed.specs.declared.types.ObjectType.{ObjectType}
use Rattle.c_typed.specs.declared.expr.Expr.{Expr}
use Rattle.c_types.specs.declared.outline.Outline.{Outline}
use Rattle.c_types.specs.declared.known.Known.{Known}
use Rattle.c_typed.specs.Faults.{mismatch}
use Rattle.c_typed.specs.Exprs.{Size, one_of, many_of}
use Rattle.c_types.specs.tools.Steps.{Found, ◌>>=◌, broken, kept, Finds}
use Rattle.c_types.specs.tools.Outlines.{type_name_walk}
use Rattle.c_types.specs.tools.ExprWalk.{Finding, expr_walk, value, is_mul, multiplied, product, size_or, allocated_by, count_first, type_first, arguments}
use Rattle.c_types.proofs.WalkLevels.{walk_roll}

abbrev pub allocates : Line → Option (Found Size) → Found Expr
allocates line o = size_or line o >>= (λ s. kept mismatch line (allocated_by s.item s.count))

pub for_one : (line : Line) (p : Found ObjectType) → allocates line (Some (p >>= (λ t. Ok (one_of t)))) ≡ (p >>= (λ t. kept mismatch line (allocated_by t None)))
for_one line (Ok t) = refl
for_one line (Err e) = refl

first_count : (line : Line) (v : Found Expr) (p : Found ObjectType)
    → allocates line (Some (v >>= (λ e. p >>= (λ t. Ok (many_of e t))))) ≡ (v >>= (λ e. p >>= (λ t. kept mismatch line (allocated_by t (Some e)))))
first_count line (Ok e) (Ok t) = refl
first_count line (Ok e) (Err f) = refl
first_count line (Err f) p = refl

first_type : (line : Line) (v : Found Expr) (p : Found ObjectType)
    → allocates line (Some (p >>= (λ t. v >>= (λ e. Ok (many_of e t))))) ≡ (p >>= (λ t. v >>= (λ e. kept mismatch line (allocated_by t (Some e)))))
first_type line (Ok e) (Ok t) = refl
first_type line (Err f) (Ok t) = refl
first_type line v (Err f) = refl

abbrev sized_so : Finding → Option (Found ObjectType) → Finding
sized_so f p = record { line = f.line; plain = f.plain; calls = f.calls; sizeof = p; size = f.size }

pub product_right : (o : Outline) (k : Known) (line : Line) (op : BinaryOp) (l r : Finding) (t : TypeName) → is_mul op ≡ true → r.sizeof ≡ Some (type_name_walk o k t)
    → allocates line (product op l r) ≡ count_first o k line l t
product_right o k line op l r t mul is =
    ap (λ b. allocates line (multiplied b l r)) mul ∙ ap (λ p. allocates line (multiplied true l (sized_so r p))) is
    ∙ first_count line (value l) (type_name_walk o k t)

pub product_left : (o : Outline) (k : Known) (line : Line) (op : BinaryOp) (l r : Finding) (t : TypeName) → is_mul op ≡ true → r.sizeof ≡ None → l.sizeof ≡ Some (type_name_walk o k t)
    → allocates line (product op l r) ≡ type_first o k line t r
product_left o k line op l r t mul none is =
    ap (λ b. allocates line (multiplied b l r)) mul ∙ ap (λ p. allocates line (multiplied true l (sized_so r p))) none
    ∙ ap (λ p. allocates line (multiplied true (sized_so l p) (sized_so r None))) is
    ∙ first_type line (value r) (type_name_walk o k t)

pub product_none : (line : Line) (op : BinaryOp) (l r : Finding) → is_mul op ≡ true → r.sizeof ≡ None → l.sizeof ≡ None
    → allocates line (product op l r) ≡ broken mismatch line
product_none line op l r mul none neither =
    ap (λ b. allocates line (multiplied b l r)) mul ∙ ap (λ p. allocates line (multiplied true l (sized_so r p))) none
    ∙ ap (λ p. allocates line (multiplied true (sized_so l p) (sized_so r None))) neither

pub product_other : (line : Line) (op : BinaryOp) (l r : Finding) → is_mul op ≡ false → allocates line (product op l r) ≡ broken mismatch line
product_other line op l r other = ap (λ b. allocates line (multiplied b l r)) other

-- an expression of another form
size_of : (o : Outline) (k : Known) (e : SourceExpr) (x : Source SourceForm SourceExpr) → e.form ≡ roll-Form x
    → ((t : TypeName) → e.form ≡ form.Sizeof t → ⊥) → ((l : SourceExpr) (op : BinaryOp) (r : SourceExpr) → e.form ≡ form.Binary l op r → ⊥)
    → (expr_walk o k (record { line = e.line; form = roll-Form x })).size ≡ None
size_of o k e (Source.Sizeof t) is differ other = absurd (differ t (is ∙ form.rolls-Sizeof t))
size_of o k e (Source.Binary l op r) is differ other = absurd (other l op r (is ∙ form.rolls-Binary l op r))
size_of o k e (Source.Call f xs) is differ other = ap (λ f. f.size) (walk_roll o k e.line (Source.Call f xs))
size_of o k e (Source.Unary op x) is differ other = ap (λ f. f.size) (walk_roll o k e.line (Source.Unary op x))
size_of o k e (Source.Cast to x) is differ other = ap (λ f. f.size) (walk_roll o k e.line (Source.Cast to x))
size_of o k e (Source.Index x i) is differ other = ap (λ f. f.size) (walk_roll o k e.line (Source.Index x i))
size_of o k e (Source.Field x f) is differ other = ap (λ f. f.size) (walk_roll o k e.line (Source.Field x f))
size_of o k e (Source.Arrow x f) is differ other = ap (λ f. f.size) (walk_roll o k e.line (Source.Arrow x f))
size_of o k e (Source.Number n) is differ other = ap (λ f. f.size) (walk_roll o k e.line (Source.Number n))
size_of o k e Source.Null is differ other = ap (λ f. f.size) (walk_roll o k e.line Source.Null)
size_of o k e (Source.Name i) is differ other = ap (λ f. f.size) (walk_roll o k e.line (Source.Name i))

pub no_size : (o : Outline) (k : Known) (e : SourceExpr) → ((t : TypeName) → e.form ≡ form.Sizeof t → ⊥)
    → ((l : SourceExpr) (op : BinaryOp) (r : SourceExpr) → e.form ≡ form.Binary l op r → ⊥) → (expr_walk o k e).size ≡ None
no_size o k e differ other =
    ap (λ f. (expr_walk o k (record { line = e.line; form = f })).size) (sym (roll-out-Form e.form))
    ∙ size_of o k e (out-Form e.form) (sym (roll-out-Form e.form)) differ other

-- The values of arguments behind those that are found.
abbrev pub behind_values : List Expr → Found (List Expr) → Found (List Expr)
behind_values vs (Ok es) = Ok (vs ++ es)
behind_values vs (Err e) = Err e

abbrev with_first : Expr → Found (List Expr) → Found (List Expr)
with_first v f = f >>= (λ es. Ok (v ∷ es))

one_more : (vs : List Expr) (v : Expr) (f : Found (List Expr)) → behind_values vs (with_first v f) ≡ behind_values (vs ++ v ∷ []) f
one_more vs v (Ok es) = ap (λ es. Ok es) (sym (append_assoc vs (v ∷ []) es))
one_more vs v (Err e) = refl

abbrev pub Gathered : (SourceExpr → Finding) → List SourceExpr → List Expr → ℕ → Type 0
Gathered g items vs i = arguments (map g items) ≡ behind_values vs (arguments (map g (drop i items)))

pub at_index : (g : SourceExpr → Finding) (items : List SourceExpr) (i : ℕ) (x : SourceExpr) → i < length items → x ≡ get_or items i x
    → map g (drop i items) ≡ g x ∷ map g (drop (suc i) items)
at_index g [] i x less is = absurd (omega (arith, less))
at_index g (y ∷ items) zero x less is = ap (λ y. g y ∷ map g items) (sym is)
at_index g (y ∷ items) (suc i) x less is = at_index g items i x (omega (arith, less)) is

pub none_gathered : (g : SourceExpr → Finding) (items : List SourceExpr) → Gathered g items [] 0
none_gathered g items = by_all (arguments (map g items)) where
  by_all : (f : Found (List Expr)) → f ≡ behind_values [] f
  by_all (Ok es) = refl
  by_all (Err e) = refl

pub one_gathered : (g : SourceExpr → Finding) (items : List SourceExpr) (vs : List Expr) (i : ℕ) (x : SourceExpr) (v : Expr) → i < length items → x ≡ get_or items i x
    → value (g x) ≡ Ok v → Gathered g items vs i → Gathered g items (vs ++ v ∷ []) (suc i)
one_gathered g items vs i x v less is found so_far =
    so_far ∙ ap (λ fs. behind_values vs (arguments fs)) (at_index g items i x less is)
    ∙ ap (λ r. behind_values vs (r >>= (λ e. arguments (map g (drop (suc i) items)) >>= (λ es. Ok (e ∷ es))))) found
    ∙ one_more vs v (arguments (map g (drop (suc i) items)))

pub one_refused : (g : SourceExpr → Finding) (items : List SourceExpr) (vs : List Expr) (i : ℕ) (x : SourceExpr) (e : TypeFault) → i < length items → x ≡ get_or items i x
    → Finds (Err e) (value (g x)) → Gathered g items vs i → Finds (Err e) (arguments (map g items))
one_refused g items vs i x e less is found so_far = λ wanted.
    so_far ∙ ap (λ fs. behind_values vs (arguments fs)) (at_index g items i x less is)
    ∙ ap (λ r. behind_values vs (r >>= (λ e. arguments (map g (drop (suc i) items)) >>= (λ es. Ok (e ∷ es))))) (found wanted)

append_none : {A : Type 0} (xs : List A) → xs ++ [] ≡ xs
append_none [] = refl
append_none (x ∷ xs) = ap (λ ys. x ∷ ys) (append_none xs)

pub all_gathered : (g : SourceExpr → Finding) (items : List SourceExpr) (vs : List Expr) (i : ℕ) → length items ≤ i → Gathered g items vs i → arguments (map g items) ≡ Ok vs
all_gathered g items vs i le so_far =
    so_far ∙ ap (λ xs. behind_values vs (arguments (map g xs))) (drop_all i items le) ∙ ap (λ vs. Ok vs) (append_none vs)
