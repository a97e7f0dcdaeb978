-- What the walk finds of a name, a field, a cast and a size is what the definition judges of it.
use Rattle.std.proofs.Common.{◌≡◌, ℕ, suc, ◌+◌, Bool, true, false, List, [], ◌∷◌, map, get_or, Option, Some, None, Ok, Err, slice_get, nat_eq, refl, ap, sym, ◌∙◌, subst, arith}
use Rattle.dfi_base.specs.declared.numbers.Line.{Line}
use Rattle.c_ast.specs.declared.ident.Ident.{Ident}
use Rattle.c_ast.specs.declared.decl.TypeName.{TypeName}
use Rattle.c_ast.specs.declared.expr.BinaryOp.{BinaryOp}
use Rattle.c_typed.specs.declared.types.ObjectType.{ObjectType}
use Rattle.c_typed.specs.declared.types.ExprType.{ExprType}
use Rattle.c_typed.specs.declared.expr.Expr.{Expr}
use Rattle.c_types.specs.declared.outline.Outline.{Outline}
use Rattle.c_types.specs.declared.outline.Shape.{Shape}
use Rattle.c_types.specs.declared.outline.Member.{Member as OutlineMember}
use Rattle.c_types.specs.declared.scopes.Home.{Home}
use Rattle.c_types.specs.declared.scopes.Binding.{Binding}
use Rattle.c_types.specs.declared.known.Known.{Known}
use Rattle.c_typed.specs.Marks.{History}
use Rattle.c_typed.specs.Whole.{Whole, Builtin, Meaning, meaning, is_main}
use Rattle.c_typed.specs.Faults.{Rule, unknown, mismatch}
use Rattle.c_typed.specs.Parts.{Place, Part, tokens, behind, obeys, refused, ◌<⊗◌, ◌⊗>◌, ◌⊗◌}
use Rattle.c_typed.specs.Tags.{type_name}
use Rattle.c_typed.specs.Types.{place_of_type}
use Rattle.c_typed.specs.Exprs as defined
use Rattle.c_typed.specs.Exprs.{Layer, Reading, one_of, many_of, field_by, found_by, field_of, with_struct, struct_at, struct_behind, name_as, is_malloc}
use Rattle.c_types.specs.tools.Answers.{least, Answers}
use Rattle.c_types.specs.tools.Steps.{Found, ◌>>=◌, broken, kept}
use Rattle.c_types.specs.tools.Tables.{looked}
use Rattle.c_types.specs.tools.Outlines.{type_name_walk}
use Rattle.c_types.specs.tools.ExprWalk as walk
use Rattle.c_types.specs.tools.ExprWalk.{Finding}
use Rattle.c_types.proofs.Bounds.{IsBounded, inside, inside_tokens, inside_joined}
use Rattle.c_types.proofs.BoundsExprs.{bounded_value, bounded_type_name}
use Rattle.c_types.proofs.FormLaws.{after_tokens, before_tokens}
use Rattle.c_typed.proofs.Quiet.{quiet_type_name, no_marks, before_same}
use Rattle.c_types.proofs.Outlined.{IsOutline, Names, variable_at, spelled_so, spelled_builtin, member_of, members_of}
use Rattle.c_types.proofs.Meanings.{IsMet, met, same_malloc}
use Rattle.c_types.proofs.ExprAnswers.{obeys_answers, joined_answers, BothAgree, Agrees, value_answers, type_name_answers}

-- One finding behind another.
pub bind_same : {A B : Type 0} (r : Found A) (f g : A → Found B) → ((a : A) → f a ≡ g a) → (r >>= f) ≡ (r >>= g)
bind_same (Ok a) f g same = same a
bind_same (Err e) f g same = refl

pub bind_twice : {A B C : Type 0} (r : Found A) (f : A → Found B) (g : B → Found C) → ((r >>= f) >>= g) ≡ (r >>= (λ a. f a >>= g))
bind_twice (Ok a) f g = refl
bind_twice (Err e) f g = refl

pub both_bound : {A B C D : Type 0} (f : A → B → C) (g : C → Found D) (r : Found A) (s : Found B)
    → ((r >>= (λ a. s >>= (λ b. Ok (f a b)))) >>= g) ≡ (r >>= (λ a. s >>= (λ b. g (f a b))))
both_bound f g (Ok a) (Ok b) = refl
both_bound f g (Ok a) (Err e) = refl
both_bound f g (Err e) s = refl

-- Names.
variable_judged : (i : Ident) (b : Binding) (home : Home) (here : Place)
    → Answers ((name_as i (Meaning.object (variable_at home b.number b.object))).judge here) (Ok (defined.made (place_of_type b.object) (walk.home_form home b.number)))
variable_judged i b Home.Global here = (refl, refl)
variable_judged i b Home.Local here = (refl, refl)

name_refused : (i : Ident) (rule : Rule) (here : Place) → Answers ((refused {A = Unit {0}} {B = Expr} rule i.line (tokens 0)).judge here) (broken rule i.line)
name_refused i rule here = λ wanted. record { fault = record { at = here.at; rule = rule; line = i.line }; first = refl; told = refl; broken = refl }

builtin_unbound : (o : Outline) (i : Ident) (b : Builtin) (n : Option ℕ) → walk.unbound o i (spelled_builtin (Some b)) n ≡ broken mismatch i.line
builtin_unbound o i Builtin.getint n = refl
builtin_unbound o i Builtin.left n = refl
builtin_unbound o i Builtin.putint n = refl
builtin_unbound o i Builtin.malloc n = refl
builtin_unbound o i Builtin.free n = refl

some_unbound : (o : Outline) (i : Ident) (t : Bool) (j : ℕ) → walk.unbound o i (spelled_so t None) (Some j) ≡ broken mismatch i.line
some_unbound o i true j = refl
some_unbound o i false j = refl

none_unbound : (o : Outline) (i : Ident) (t : Bool) → walk.unbound o i (spelled_so t None) None ≡ broken unknown i.line
none_unbound o i true = refl
none_unbound o i false = refl

abbrev NameAnswers : Ident → Place → Meaning → Found Expr → Type 0
NameAnswers i here m f = Answers ((name_as i m).judge here) f

name_met : (w : Whole) (o : Outline) (h : History) (k : Known) (i : Ident) (here : Place) → IsMet w o h k i.name → NameAnswers i here (meaning w h i.name) (walk.name_walk o k i)
name_met w o h k i here (IsMet.object b there means) =
    subst (λ m. NameAnswers i here m (walk.name_walk o k i)) (sym means)
    (subst (NameAnswers i here (Meaning.object (variable_at b.home b.number b.object))) (sym (ap (walk.name_by o i) there)) (variable_judged i b b.home here))
name_met w o h k i here (IsMet.builtin b none spells means) =
    subst (λ m. NameAnswers i here m (walk.name_walk o k i)) (sym means)
    (subst (NameAnswers i here (Meaning.builtin b)) (sym (ap (walk.name_by o i) none ∙ ap (λ s. walk.unbound o i s (looked o.numbers i.name)) spells ∙ builtin_unbound o i b (looked o.numbers i.name)))
    (name_refused i mismatch here))
name_met w o h k i here (IsMet.function j s none spells number there means) =
    subst (λ m. NameAnswers i here m (walk.name_walk o k i)) (sym means)
    (subst (NameAnswers i here (Meaning.function j (Rattle.c_types.proofs.Outlined.signature_of s)))
    (sym (ap (walk.name_by o i) none ∙ ap (λ s. walk.unbound o i s (looked o.numbers i.name)) spells ∙ ap (walk.unbound o i (spelled_so (is_main w i.name) None)) number ∙ some_unbound o i (is_main w i.name) j))
    (name_refused i mismatch here))
name_met w o h k i here (IsMet.nothing none spells number means) =
    subst (λ m. NameAnswers i here m (walk.name_walk o k i)) (sym means)
    (subst (NameAnswers i here Meaning.nothing)
    (sym (ap (walk.name_by o i) none ∙ ap (λ s. walk.unbound o i s (looked o.numbers i.name)) spells ∙ ap (walk.unbound o i (spelled_so (is_main w i.name) None)) number ∙ none_unbound o i (is_main w i.name)))
    (name_refused i unknown here))

pub name_answers : (w : Whole) (o : Outline) (h : History) (k : Known) → IsOutline w o → Names h k → (i : Ident) (here : Place) → here.before ≡ h → Answers ((defined.name w i).judge here) (walk.name_walk o k i)
name_answers w o h k is names i here at =
    subst (λ h. NameAnswers i here (meaning w h i.name) (walk.name_walk o k i)) (sym at) (name_met w o h k i here (met w o h k is names i.name))

-- Fields.
abbrev as_found : Ident → Option (ℕ × ObjectType) → Found (ℕ × ObjectType)
as_found f m = elim m [ None ↦ broken unknown f.line | Some m ↦ Ok m ]

-- the index of a field, counted from n on, and what stands there
abbrev IsIndexed : ℕ → ℕ → List OutlineMember → Option ℕ → Type 0
IsIndexed x n ms None = field_by x n (map member_of ms) ≡ None
IsIndexed x n ms (Some i) = (j : ℕ) × (m : OutlineMember) × (i ≡ n + j) × (slice_get ms j ≡ Some m) × (field_by x n (map member_of ms) ≡ Some (i, m.object))

index_more : (x n : ℕ) (m : OutlineMember) (ms : List OutlineMember) (o : Option ℕ) → nat_eq x m.name ≡ false → IsIndexed x (suc n) ms o → IsIndexed x n (m ∷ ms) o
index_more x n m ms None other is = ap (λ t. elim t [ true ↦ Some (n, m.object) | false ↦ field_by x (suc n) (map member_of ms) ]) other ∙ is
index_more x n m ms (Some i) other is = (
  suc is.0,
  is.1,
  (let at = is.2 in omega (arith, at)),
  is.3,
  ap (λ t. elim t [ true ↦ Some (n, m.object) | false ↦ field_by x (suc n) (map member_of ms) ]) other ∙ is.4,
)

index_when : (x n : ℕ) (m : OutlineMember) (ms : List OutlineMember) (t : Bool) → nat_eq x m.name ≡ t → IsIndexed x (suc n) ms (walk.index_by x (suc n) ms)
    → IsIndexed x n (m ∷ ms) (elim t [ true ↦ Some n | false ↦ walk.index_by x (suc n) ms ])
index_when x n m ms true e rest = (0, m, omega arith, refl, ap (λ t. elim t [ true ↦ Some (n, m.object) | false ↦ field_by x (suc n) (map member_of ms) ]) e)
index_when x n m ms false e rest = index_more x n m ms (walk.index_by x (suc n) ms) e rest

index_is : (x n : ℕ) (ms : List OutlineMember) → IsIndexed x n ms (walk.index_by x n ms)
index_is x n [] = refl
index_is x n (m ∷ ms) = index_when x n m ms (nat_eq x m.name) refl (index_is x (suc n) ms)

object_found : (f : Ident) (ms : List OutlineMember) (o : Option ℕ) → IsIndexed f.name 0 ms o → elim o [ None ↦ broken unknown f.line | Some n ↦ walk.object_at f ms n ] ≡ as_found f (field_by f.name 0 (map member_of ms))
object_found f ms None is = sym (ap (as_found f) is)
object_found f ms (Some i) is =
    let at : i ≡ is.0 = let e = is.2 in omega (arith, e) in
    ap (λ s. elim s [ None ↦ broken unknown f.line | Some m ↦ Ok (i, m.object) ]) (ap (slice_get ms) at ∙ is.3) ∙ sym (ap (as_found f) is.4)

member_found : (f : Ident) (s : Option Shape) → elim s [ None ↦ broken unknown f.line | Some s ↦ walk.member_in f s.members ] ≡ as_found f (field_by f.name 0 (members_of s))
member_found f None = refl
member_found f (Some s) = object_found f s.members (walk.index_by f.name 0 s.members) (index_is f.name 0 s.members)

pub member_same : (w : Whole) (o : Outline) → IsOutline w o → (k : ℕ) (f : Ident) → walk.member_walk o k f ≡ as_found f (field_by f.name 0 (get_or w.structs k []))
member_same w o is k f = member_found f (slice_get o.shapes k) ∙ ap (λ ms. as_found f (field_by f.name 0 ms)) (is.members k)

abbrev node_of : (Expr → ℕ → Layer) → Expr → Found (ℕ × ObjectType) → Found Expr
node_of form e r = r >>= (λ m. Ok (walk.field_node form e m))

found_answers : (f : Ident) (form : Expr → ℕ → Layer) (at : ℕ) (e : Expr) (m : Option (ℕ × ObjectType)) → Answers (found_by f form at [] e m) (node_of form e (as_found f m))
found_answers f form at e None = λ wanted. record { fault = record { at = at; rule = unknown; line = f.line }; first = refl; told = refl; broken = refl }
found_answers f form at e (Some m) = (refl, refl)

abbrev member_by : Outline → Ident → (Expr → ℕ → Layer) → Expr → Option ℕ → Found Expr
member_by o f form e None = Ok (defined.untyped (form e 0))
member_by o f form e (Some k) = node_of form e (walk.member_walk o k f)

abbrev member_node : Outline → Ident → (Expr → ℕ → Layer) → Expr × Option ℕ → Found Expr
member_node o f form e = member_by o f form e.0 e.1

struct_answers : (w : Whole) (o : Outline) → IsOutline w o → (f : Ident) (form : Expr → ℕ → Layer) (at : ℕ) (e : Expr) (k : Option ℕ) → Answers (defined.in_struct w f form at [] e k) (member_by o f form e k)
struct_answers w o is f form at e None = (refl, refl)
struct_answers w o is f form at e (Some k) =
    let m = field_by f.name 0 (get_or w.structs k []) in
    subst (Answers (found_by f form at [] e m)) (sym (ap (node_of form e) (member_same w o is k f))) (found_answers f form at e m)

field_answers_by : (w : Whole) (o : Outline) → IsOutline w o → (f : Ident) (form : Expr → ℕ → Layer) (p : Part (Expr × Option ℕ)) (here : Place) (r : Found (Expr × Option ℕ)) → Answers (p.judge here) r
    → Answers ((field_of w f form p).judge here) (r >>= member_node o f form)
field_answers_by w o is f form p here (Ok e) answers =
    let at = here.at + p.tokens + 1 in
    subst (λ j. Answers j (member_node o f form e))
    (sym (ap (λ v. defined.fielded w f form at (p.judge here).faults v) answers.1 ∙ ap (λ fs. defined.in_struct w f form at fs e.0 e.1) answers.0)) (struct_answers w o is f form at e.0 e.1)
field_answers_by w o is f form p here (Err e) answers = λ wanted.
    let no = answers wanted in
    let by = ap (λ v. defined.fielded w f form (here.at + p.tokens + 1) (p.judge here).faults v) no.broken in
    record { fault = no.fault; first = ap (λ j. least j.faults) by ∙ no.first; told = no.told; broken = ap (λ j. j.value) by }

struct_then : (o : Outline) (line : Line) (f : Ident) (form : Expr → ℕ → Layer) (e : Expr) (s : Option (Option ℕ)) → (kept mismatch line (with_struct e s) >>= member_node o f form) ≡ walk.fielded o line f form e s
struct_then o line f form e None = refl
struct_then o line f form e (Some None) = refl
struct_then o line f form e (Some (Some k)) = refl

pub field_answers : (w : Whole) (o : Outline) → IsOutline w o → (f : Ident) (form : Expr → ℕ → Layer) (line : Line) (struct : ExprType → Option (Option ℕ)) (p : Part Expr) (here : Place) (r : Found Expr) → Answers (p.judge here) r
    → Answers ((field_of w f form (obeys mismatch line (λ h e. with_struct e (struct e.typing)) p)).judge here) (r >>= (λ e. walk.fielded o line f form e (struct e.typing)))
field_answers w o is f form line struct p here r answers =
    let q = obeys mismatch line (λ h e. with_struct e (struct e.typing)) p in
    subst (Answers ((field_of w f form q).judge here))
    (bind_twice r (λ e. kept mismatch line (with_struct e (struct e.typing))) (member_node o f form)
    ∙ bind_same r _ _ (λ e. struct_then o line f form e (struct e.typing)))
    (field_answers_by w o is f form q here (r >>= (λ e. kept mismatch line (with_struct e (struct e.typing)))) (obeys_answers mismatch line (λ h e. with_struct e (struct e.typing)) p here r answers))

-- Casts.
cast_same : (w : Whole) (o : Outline) (h : History) (k : Known) → IsOutline w o → Names h k → (f : Option ℕ) (t : ObjectType) (e : Expr) → defined.cast_by w h f t e ≡ walk.cast (walk.calls_malloc o k f) t e
cast_same w o h k is names None t e = refl
cast_same w o h k is names (Some x) t e = ap (λ b. walk.cast b t e) (sym (same_malloc w o h k is names x))

-- behind a type name in parentheses
abbrev pub in_parentheses : Whole → TypeName → Part ObjectType
in_parentheses w t = tokens 1 ⊗> type_name w t <⊗ tokens 1

pub cast_answers : (w : Whole) (o : Outline) (h : History) (k : Known) → IsOutline w o → Names h k → (to : TypeName) (line : Line) (r : Reading) (f : Finding) → Agrees h r f → (here : Place) → here.before ≡ h
    → Answers ((obeys mismatch line (λ h e. defined.cast_by w h r.calls e.0 e.1) (in_parentheses w to ⊗ defined.value r)).judge here) (walk.typed_cast_walk o k line to f)
cast_answers w o h k is names to line r f agrees here at =
    let p = in_parentheses w to in
    let quiet = before_same p here (no_marks (quiet_type_name w to) refl) ∙ at in
    let first = before_tokens 1 (tokens 1 ⊗> type_name w to) here (type_name_walk o k to)
    (after_tokens 1 (type_name w to) here (type_name_walk o k to) (type_name_answers w o h k is names to (behind (tokens 1) here) at)) in
    let inside_type = inside_joined (λ a b. a) (tokens 1 ⊗> type_name w to) (tokens 1)
    (inside_joined (λ a b. b) (tokens 1) (type_name w to) (inside_tokens 1) (inside (type_name w to) (bounded_type_name w to))) (inside_tokens 1) in
    let both = joined_answers (λ a b. (a, b)) p (defined.value r) here (type_name_walk o k to) (walk.value f) inside_type (inside (defined.value r) (bounded_value r agrees.read)) first
    (value_answers h r f agrees (behind p here) quiet) in
    subst (Answers ((obeys mismatch line (λ h e. defined.cast_by w h r.calls e.0 e.1) (p ⊗ defined.value r)).judge here))
    (both_bound (λ a b. (a, b)) (λ e. kept mismatch line (defined.cast_by w here.before r.calls e.0 e.1)) (type_name_walk o k to) (walk.value f)
    ∙ bind_same (type_name_walk o k to) _ _ (λ t. bind_same (walk.value f) _ _ (λ e.
    ap (kept mismatch line) (ap (λ h. defined.cast_by w h r.calls t e) at ∙ cast_same w o h k is names r.calls t e ∙ ap (λ c. walk.cast (walk.calls_malloc o k c) t e) agrees.calls))))
    (obeys_answers mismatch line (λ h e. defined.cast_by w h r.calls e.0 e.1) (p ⊗ defined.value r) here _ both)

-- `sizeof`, and products with it.
pub sizeof_answers : (w : Whole) (o : Outline) (h : History) (k : Known) → IsOutline w o → Names h k → (t : TypeName) (here : Place) → here.before ≡ h
    → Answers ((tokens 2 ⊗> type_name w t <⊗ tokens 1).judge here) (type_name_walk o k t)
sizeof_answers w o h k is names t here at =
    before_tokens 1 (tokens 2 ⊗> type_name w t) here (type_name_walk o k t) (after_tokens 2 (type_name w t) here (type_name_walk o k t) (type_name_answers w o h k is names t (behind (tokens 2) here) at))

abbrev pub IsQuietThere : {A : Type 0} → Option (Part A) → Type 0
IsQuietThere None = Unit {0}
IsQuietThere (Some p) = (p.marks ≡ []) × IsBounded p

counted_agrees : (h : History) (l r : Reading) (f g : Finding) → Agrees h l f → Agrees h r g → (p q : Option (Part ObjectType)) (s t : Option (Found ObjectType)) → BothAgree h p s → BothAgree h q t → IsQuietThere p → IsQuietThere q
    → BothAgree h (defined.counted_by l r p q) (walk.counted_by f g s t)
counted_agrees h l r f g left right p (Some q) s (Some t) first second quiet_p quiet_q = λ here at.
    joined_answers many_of (defined.value l <⊗ tokens 1) q here (walk.value f) t
    (inside_joined (λ a b. a) (defined.value l) (tokens 1) (inside (defined.value l) (bounded_value l left.read)) (inside_tokens 1)) (inside q quiet_q.1)
    (before_tokens 1 (defined.value l) here (walk.value f) (value_answers h l f left here at))
    (second (behind (defined.value l <⊗ tokens 1) here) (before_same (defined.value l <⊗ tokens 1) here (no_marks left.quiet refl) ∙ at))
counted_agrees h l r f g left right (Some p) None (Some s) None first second quiet_p quiet_q = λ here at.
    joined_answers (λ t e. many_of e t) (p <⊗ tokens 1) (defined.value r) here s (walk.value g)
    (inside_joined (λ a b. a) p (tokens 1) (inside p quiet_p.1) (inside_tokens 1)) (inside (defined.value r) (bounded_value r right.read))
    (before_tokens 1 p here s (first here at))
    (value_answers h r g right (behind (p <⊗ tokens 1) here) (before_same (p <⊗ tokens 1) here (no_marks quiet_p.0 refl) ∙ at))
counted_agrees h l r f g left right None None None None first second quiet_p quiet_q = tt
counted_agrees h l r f g left right None None (Some s) None first second quiet_p quiet_q = absurd first
counted_agrees h l r f g left right (Some p) None None None first second quiet_p quiet_q = absurd first
counted_agrees h l r f g left right p None s (Some t) first second quiet_p quiet_q = absurd second
counted_agrees h l r f g left right p (Some q) s None first second quiet_p quiet_q = absurd second

pub product_agrees : (h : History) (op : BinaryOp) (l r : Reading) (f g : Finding) → Agrees h l f → Agrees h r g → IsQuietThere l.sizeof → IsQuietThere r.sizeof → BothAgree h (defined.product op l r) (walk.product op f g)
product_agrees h BinaryOp.Mul l r f g left right quiet_l quiet_r = counted_agrees h l r f g left right l.sizeof r.sizeof f.sizeof g.sizeof left.sizeof right.sizeof quiet_l quiet_r
product_agrees h _ l r f g left right quiet_l quiet_r = tt
