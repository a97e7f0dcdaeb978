-- What the walk finds of an expression is what the definition judges of it.
use Rattle.std.proofs.Common.{◌≡◌, ℕ, ◌+◌, Bool, true, false, [], ◌++◌, length, Option, Some, None, Ok, Err, refl, ap, sym, ◌∙◌, subst}
use Rattle.std.specs.Prelude.{nat_eq, is_some}
use Rattle.dfi_base.specs.declared.numbers.Line.{Line}
use Rattle.c_ast.specs.declared.decl.Base.{Base}
use Rattle.c_ast.specs.declared.decl.TypeName.{TypeName}
use Rattle.c_ast.specs.declared.expr.UnaryOp.{UnaryOp}
use Rattle.c_ast.specs.declared.expr.BinaryOp.{BinaryOp}
use Rattle.c_typed.specs.declared.expr.Expr.{Expr}
use Rattle.c_types.specs.declared.outline.Outline.{Outline}
use Rattle.c_types.specs.declared.known.Known.{Known}
use Rattle.c_typed.specs.Types as types
use Rattle.c_typed.specs.Types.{place_of}
use Rattle.c_typed.specs.Marks.{History}
use Rattle.c_typed.specs.Whole.{Whole}
use Rattle.c_typed.specs.Faults.{Rule, unknown, mismatch, not_lvalue}
use Rattle.c_typed.specs.Parts.{Place, Part, tokens, joined, behind, obeys, ◌<⊗◌, ◌⊗>◌, ◌<$>◌}
use Rattle.c_typed.specs.Tags
use Rattle.c_typed.specs.Tags.{type_name}
use Rattle.c_typed.specs.Exprs as defined
use Rattle.c_typed.specs.Exprs.{Reading, operands}
use Rattle.c_types.specs.tools.Answers.{Answers, Rules}
use Rattle.c_types.specs.tools.Steps.{Found, ◌>>=◌, kept, unless_kept}
use Rattle.c_types.specs.tools.Outlines as outlines
use Rattle.c_types.specs.tools.Outlines.{base_walk, type_name_walk}
use Rattle.c_types.specs.tools.ExprWalk as walk
use Rattle.c_types.specs.tools.ExprWalk.{Finding}
use Rattle.c_types.proofs.AnswerLaws.{ruled_ok, ruled_err, both_ok, both_second, both_first}
use Rattle.c_types.proofs.Bounds.{IsInside, inside, inside_tokens, inside_joined}
use Rattle.c_types.proofs.BoundsExprs.{IsRead, bounded_value, bounded_base}
use Rattle.c_types.proofs.FormLaws.{after_tokens, before_tokens}
use Rattle.c_typed.proofs.Quiet.{before_same}
use Rattle.c_types.proofs.Outlined.{IsOutline, Names, named_same, tag_there}

-- A rule of a whole, over a part that is walked.
rules_kept : {B : Type 0} (rule : Rule) (line : Line) (o : Option B) → Rules rule line o (kept rule line o)
rules_kept rule line None = λ wanted. (refl, refl)
rules_kept rule line (Some b) = refl

pub obeys_answers : {A B : Type 0} (rule : Rule) (line : Line) (keeps : History → A → Option B) (p : Part A) (here : Place) (r : Found A)
    → Answers (p.judge here) r → Answers ((obeys rule line keeps p).judge here) (r >>= (λ a. kept rule line (keeps here.before a)))
obeys_answers rule line keeps p here (Ok a) is = ruled_ok rule line (keeps here.before) here (p.judge here) a (kept rule line (keeps here.before a)) is (rules_kept rule line (keeps here.before a))
obeys_answers rule line keeps p here (Err e) is = ruled_err rule line (keeps here.before) here (p.judge here) e is

-- Two parts, one behind the other.
pub joined_answers : {A B C : Type 0} (f : A → B → C) (p : Part A) (q : Part B) (here : Place) (r : Found A) (s : Found B) → IsInside p → IsInside q
    → Answers (p.judge here) r → Answers (q.judge (behind p here)) s → Answers ((joined f p q).judge here) (r >>= (λ a. s >>= (λ b. Ok (f a b))))
joined_answers f p q here (Ok a) (Ok b) inside_p inside_q is that = both_ok f (p.judge here) (q.judge (behind p here)) a b is that
joined_answers f p q here (Ok a) (Err e) inside_p inside_q is that = both_second f (p.judge here) (q.judge (behind p here)) a e is that
joined_answers f p q here (Err e) s inside_p inside_q is that =
    both_first f (here.at + p.tokens) (p.judge here) (q.judge (behind p here)) e (inside_p.within here).end (inside_q.within (behind p here)).start is

then_both : {A B C D : Type 0} (f : A → B → C) (g : C → Found D) (r : Found A) (s : Found B)
    → ((r >>= (λ a. s >>= (λ b. Ok (f a b)))) >>= g) ≡ (r >>= (λ a. s >>= (λ b. g (f a b))))
then_both f g (Ok a) (Ok b) = refl
then_both f g (Ok a) (Err e) = refl
then_both f g (Err e) s = refl

pub map_answers : {A B : Type 0} (f : A → B) (p : Part A) (here : Place) (r : Found A) → Answers (p.judge here) r → Answers ((f <$> p).judge here) (r >>= (λ a. Ok (f a)))
map_answers f p here (Ok a) is = (is.0, ap (λ o. elim o [ None ↦ None | Some a ↦ Some (f a) ]) is.1)
map_answers f p here (Err e) is = λ wanted.
    let no = is wanted in
    record { fault = no.fault; first = no.first; told = no.told; broken = ap (λ o. elim o [ None ↦ None | Some a ↦ Some (f a) ]) no.broken }

-- What is known of a reading and of what is found.
abbrev pub BothAgree : {A : Type 0} → History → Option (Part A) → Option (Found A) → Type 0
BothAgree h None None = Unit {0}
BothAgree h (Some p) (Some f) = (here : Place) → here.before ≡ h → Answers (p.judge here) f
BothAgree h _ _ = ⊥

pub record Agrees (h : History) (r : Reading) (f : Finding) : Type 0 where
  pub line : r.line ≡ f.line
  pub plain : (here : Place) → here.before ≡ h → Answers (r.plain.judge here) f.plain
  pub calls : r.calls ≡ f.calls
  pub sizeof : BothAgree h r.sizeof f.sizeof
  pub size : BothAgree h r.size f.size
  pub read : IsRead r
  pub quiet : r.plain.marks ≡ []

pub value_answers : (h : History) (r : Reading) (f : Finding) → Agrees h r f → (here : Place) → here.before ≡ h → Answers ((defined.value r).judge here) (walk.value f)
value_answers h r f is here at =
    subst (λ line. Answers ((defined.value r).judge here) (f.plain >>= (λ e. kept mismatch line (defined.value_by_type e e.typing)))) is.line
    (obeys_answers mismatch r.line (λ h e. defined.value_by_type e e.typing) r.plain here f.plain (is.plain here at))

pub place_answers : (h : History) (r : Reading) (f : Finding) → Agrees h r f → (here : Place) → here.before ≡ h → Answers ((defined.place r).judge here) (walk.place f)
place_answers h r f is here at =
    subst (λ line. Answers ((defined.place r).judge here) (f.plain >>= (λ e. kept not_lvalue line (defined.place_by_type e e.typing)))) is.line
    (obeys_answers not_lvalue r.line (λ h e. defined.place_by_type e e.typing) r.plain here f.plain (is.plain here at))

prefix_answers : {B : Type 0} (line : Line) (keeps : Expr → Option B) (p : Part Expr) (here : Place) (r : Found Expr) → Answers (p.judge (behind (tokens 1) here)) r
    → Answers ((obeys mismatch line (λ h e. keeps e) (tokens 1 ⊗> p)).judge here) (r >>= (λ e. kept mismatch line (keeps e)))
prefix_answers line keeps p here r is = obeys_answers mismatch line (λ h e. keeps e) (tokens 1 ⊗> p) here r (after_tokens 1 p here r is)

pub unary_answers : (h : History) (op : UnaryOp) (line : Line) (r : Reading) (f : Finding) → Agrees h r f → (here : Place) → here.before ≡ h
    → Answers ((defined.unary op line r).judge here) (walk.unary_walk op line f)
unary_answers h UnaryOp.Minus line r f is here at = prefix_answers line _ (defined.value r) here (walk.value f) (value_answers h r f is (behind (tokens 1) here) at)
unary_answers h UnaryOp.Plus line r f is here at = prefix_answers line _ (defined.value r) here (walk.value f) (value_answers h r f is (behind (tokens 1) here) at)
unary_answers h UnaryOp.Not line r f is here at = prefix_answers line _ (defined.value r) here (walk.value f) (value_answers h r f is (behind (tokens 1) here) at)
unary_answers h UnaryOp.Complement line r f is here at = prefix_answers line _ (defined.value r) here (walk.value f) (value_answers h r f is (behind (tokens 1) here) at)
unary_answers h UnaryOp.Deref line r f is here at = prefix_answers line _ (defined.value r) here (walk.value f) (value_answers h r f is (behind (tokens 1) here) at)
unary_answers h UnaryOp.Address line r f is here at = prefix_answers line _ (defined.place r) here (walk.place f) (place_answers h r f is (behind (tokens 1) here) at)

-- where the second operand stands, the same is known
second_same : (h : History) (l : Reading) (here : Place) → l.plain.marks ≡ [] → here.before ≡ h → (behind (defined.value l <⊗ tokens 1) here).before ≡ h
second_same h l here quiet at = before_same (defined.value l <⊗ tokens 1) here (ap (λ ms. ms ++ []) quiet) ∙ at

operands_answer : (h : History) (l r : Reading) (f g : Finding) → Agrees h l f → Agrees h r g → (here : Place) → here.before ≡ h
    → Answers ((operands l r).judge here) (walk.value f >>= (λ a. walk.value g >>= (λ b. Ok (a, b))))
operands_answer h l r f g is that here at =
    joined_answers (λ a b. (a, b)) (defined.value l <⊗ tokens 1) (defined.value r) here (walk.value f) (walk.value g)
    (inside_joined (λ a b. a) (defined.value l) (tokens 1) (inside (defined.value l) (bounded_value l is.read)) (inside_tokens 1))
    (inside (defined.value r) (bounded_value r that.read))
    (before_tokens 1 (defined.value l) here (walk.value f) (value_answers h l f is here at))
    (value_answers h r g that (behind (defined.value l <⊗ tokens 1) here) (second_same h l here is.quiet at))

pub binary_answers : (h : History) (op : BinaryOp) (line : Line) (l r : Reading) (f g : Finding) → Agrees h l f → Agrees h r g → (here : Place) → here.before ≡ h
    → Answers ((obeys mismatch line (λ h e. defined.binary op e.0 e.1) (operands l r)).judge here) (walk.binary_walk op line f g)
binary_answers h op line l r f g is that here at =
    subst (λ x. Answers ((obeys mismatch line (λ h e. defined.binary op e.0 e.1) (operands l r)).judge here) x)
    (then_both (λ a b. (a, b)) (λ p. kept mismatch line (defined.binary op p.0 p.1)) (walk.value f) (walk.value g))
    (obeys_answers mismatch line (λ h e. defined.binary op e.0 e.1) (operands l r) here _ (operands_answer h l r f g is that here at))

pub index_answers : (h : History) (line : Line) (l r : Reading) (f g : Finding) → Agrees h l f → Agrees h r g → (here : Place) → here.before ≡ h
    → Answers ((obeys mismatch line (λ h e. defined.item_at e.0 e.1 e.0.typing e.1.typing) (operands l r <⊗ tokens 1)).judge here) (walk.index_walk line f g)
index_answers h line l r f g is that here at =
    subst (λ x. Answers ((obeys mismatch line (λ h e. defined.item_at e.0 e.1 e.0.typing e.1.typing) (operands l r <⊗ tokens 1)).judge here) x)
    (then_both (λ a b. (a, b)) (λ p. kept mismatch line (defined.item_at p.0 p.1 p.0.typing p.1.typing)) (walk.value f) (walk.value g))
    (obeys_answers mismatch line (λ h e. defined.item_at e.0 e.1 e.0.typing e.1.typing) (operands l r <⊗ tokens 1) here _
    (before_tokens 1 (operands l r) here _ (operands_answer h l r f g is that here at)))

-- Type names.
known_same : (w : Whole) (o : Outline) (h : History) (k : Known) → IsOutline w o → Names h k → (by_value : Bool) (x : ℕ) → outlines.has_tag o k by_value x ≡ Tags.is_tag w h by_value x
known_same w o h k is names true x = names.tags x
known_same w o h k is names false x = ap is_some (is.tags x) ∙ tag_there (place_of x w.tags) (length w.tags)

tag_kept : (b : Bool) (line : Line) → unless_kept b unknown line (Ok (tt {0})) ≡ kept unknown line (elim b [ true ↦ Some (tt {0}) | false ↦ None ])
tag_kept true line = refl
tag_kept false line = refl

pub base_answers : (w : Whole) (o : Outline) (h : History) (k : Known) → IsOutline w o → Names h k → (by_value : Bool) (b : Base) (here : Place) → here.before ≡ h
    → Answers ((Tags.base w by_value b).judge here) (base_walk o k by_value b)
base_answers w o h k is names by_value (Base.Int line) here at = (refl, refl)
base_answers w o h k is names by_value (Base.Struct line tag) here at =
    after_tokens 1 (obeys unknown tag.line (Tags.known_tag w by_value tag) (tokens 1)) here _
    (subst (λ x. Answers ((obeys unknown tag.line (Tags.known_tag w by_value tag) (tokens 1)).judge (behind (tokens 1) here)) x)
    (ap (λ h. kept unknown tag.line (Tags.known_tag w by_value tag h (tt {0}))) at
    ∙ sym (ap (λ b. unless_kept b unknown tag.line (Ok (tt {0}))) (known_same w o h k is names by_value tag.name) ∙ tag_kept (Tags.is_tag w h by_value tag.name) tag.line))
    (obeys_answers unknown tag.line (Tags.known_tag w by_value tag) (tokens 1) (behind (tokens 1) here) (Ok (tt {0})) (refl, refl)))

pub type_name_answers : (w : Whole) (o : Outline) (h : History) (k : Known) → IsOutline w o → Names h k → (t : TypeName) (here : Place) → here.before ≡ h
    → Answers ((type_name w t).judge here) (type_name_walk o k t)
type_name_answers w o h k is names t here at =
    subst (λ n. Answers ((type_name w t).judge here) (base_walk o k (nat_eq t.stars 0) t.base >>= (λ _. Ok n))) (sym (named_same w o is t))
    (map_answers (λ _. types.named_type w.tags t) (Tags.base w (nat_eq t.stars 0) t.base ⊗> tokens t.stars) here _
    (last_unit t.stars (Tags.base w (nat_eq t.stars 0) t.base) here (base_walk o k (nat_eq t.stars 0) t.base) (inside _ (bounded_base w (nat_eq t.stars 0) t.base))
    (base_answers w o h k is names (nat_eq t.stars 0) t.base here at))) where
      last_unit : (n : ℕ) (p : Part (Unit {0})) (here : Place) (r : Found (Unit {0})) → IsInside p → Answers (p.judge here) r → Answers ((p ⊗> tokens n).judge here) r
      last_unit n p here (Ok u) inside_p is = joined_answers (λ a b. b) p (tokens n) here (Ok u) (Ok (tt {0})) inside_p (inside_tokens n) is (refl, refl)
      last_unit n p here (Err e) inside_p is = joined_answers (λ a b. b) p (tokens n) here (Err e) (Ok (tt {0})) inside_p (inside_tokens n) is (refl, refl)
