-- Each form of an expression whose parts are numbered.
use Rattle.std.proofs.Common.{◌≡◌, ℕ, zero, suc, ◌+◌, List, [], ◌∷◌, map, Some, None, Ok, refl, ap, sym, ◌∙◌, subst, arith}
use Rattle.c_ast.specs.declared.expr.BinaryOp.{BinaryOp}
use Rattle.c_typed.specs.declared.types.ObjectType.{ObjectType}
use Rattle.c_typed.specs.declared.expr.PrefixOp.{PrefixOp}
use Rattle.c_typed.specs.declared.expr.Expr.{Expr}
use Rattle.c_typed.specs.declared.expr.Form.{fold-roll-Form, Form, roll-Form, map-Form}
use Rattle.c_typed.specs.declared.expr.Form.TheOpen.{Form-F}
use Rattle.c_typed.specs.declared.expr.Form.TheVariants as form
use Rattle.c_typed.specs.Sites.{Sited, ◌<$>◌, in_turn, number_form, expr}
use Rattle.c_sites.specs.tools.Numbers.{Numbers, sited_form}

abbrev mapped : Form-F Form Expr → Form-F (Sited Form) (Sited Expr)
mapped x = map-Form Form Expr (Sited Form) (Sited Expr) sited_form expr x

form_roll : (x : Form-F Form Expr) → sited_form (roll-Form x) ≡ number_form (mapped x)
unfolding expr
form_roll x = fold-roll-Form (Sited Form) (Sited Expr) number_form (λ e. (λ form. record { typing = e.typing; form = form }) <$> e.form) x

of_form : (f : Form) (x : Form-F Form Expr) (g : Form) → f ≡ g → g ≡ roll-Form x → sited_form f ≡ number_form (mapped x)
of_form f x g is rolled = ap sited_form (is ∙ rolled) ∙ form_roll x

-- what is numbered of a form is so of its expression
moved : (f : Form) (p : Sited Form) (done : Form) (first next : ℕ) → sited_form f ≡ p → Numbers (Ok done) first next p → Numbers (Ok done) first next (sited_form f)
moved f p done first next same is = subst (λ p. Numbers (Ok done) first next p) (sym same) is

one_part : (f : Form) (x : Form-F Form Expr) (g made : Form) (layer : Expr → Form-F Form Expr) (e done : Expr) (first next : ℕ) → f ≡ g → g ≡ roll-Form x
    → number_form (mapped x) ≡ ((λ e. roll-Form (layer e)) <$> expr e) → made ≡ roll-Form (layer done) → Numbers (Ok done) first next (expr e) → Numbers (Ok made) first next (sited_form f)
one_part f x g made layer e done first next is rolled same built numbered =
    moved f ((λ e. roll-Form (layer e)) <$> expr e) made first next (of_form f x g is rolled ∙ same) (built ∙ ap (λ e. roll-Form (layer e)) numbered.0, numbered.1)

pub deref_numbered : (f : Form) (e done : Expr) (first next : ℕ) → f ≡ form.Deref e → Numbers (Ok done) first next (expr e) → Numbers (Ok (form.Deref done)) first next (sited_form f)
deref_numbered f e done first next is numbered = one_part f (Form-F.Deref e) _ _ (λ e. Form-F.Deref e) e done first next is (sym (form.rolls-Deref e)) refl (sym (form.rolls-Deref done)) numbered

pub read_numbered : (f : Form) (e done : Expr) (first next : ℕ) → f ≡ form.Read e → Numbers (Ok done) first next (expr e) → Numbers (Ok (form.Read done)) first next (sited_form f)
read_numbered f e done first next is numbered = one_part f (Form-F.Read e) _ _ (λ e. Form-F.Read e) e done first next is (sym (form.rolls-Read e)) refl (sym (form.rolls-Read done)) numbered

pub decay_numbered : (f : Form) (e done : Expr) (first next : ℕ) → f ≡ form.Decay e → Numbers (Ok done) first next (expr e) → Numbers (Ok (form.Decay done)) first next (sited_form f)
decay_numbered f e done first next is numbered = one_part f (Form-F.Decay e) _ _ (λ e. Form-F.Decay e) e done first next is (sym (form.rolls-Decay e)) refl (sym (form.rolls-Decay done)) numbered

pub address_numbered : (f : Form) (e done : Expr) (first next : ℕ) → f ≡ form.Address e → Numbers (Ok done) first next (expr e) → Numbers (Ok (form.Address done)) first next (sited_form f)
address_numbered f e done first next is numbered = one_part f (Form-F.Address e) _ _ (λ e. Form-F.Address e) e done first next is (sym (form.rolls-Address e)) refl (sym (form.rolls-Address done)) numbered

pub field_numbered : (f : Form) (e done : Expr) (k : ℕ) (first next : ℕ) → f ≡ form.Field e k → Numbers (Ok done) first next (expr e) → Numbers (Ok (form.Field done k)) first next (sited_form f)
field_numbered f e done k first next is numbered = one_part f (Form-F.Field e k) _ _ (λ e. Form-F.Field e k) e done first next is (sym (form.rolls-Field e k)) refl (sym (form.rolls-Field done k)) numbered

pub arrow_numbered : (f : Form) (e done : Expr) (k : ℕ) (first next : ℕ) → f ≡ form.Arrow e k → Numbers (Ok done) first next (expr e) → Numbers (Ok (form.Arrow done k)) first next (sited_form f)
arrow_numbered f e done k first next is numbered = one_part f (Form-F.Arrow e k) _ _ (λ e. Form-F.Arrow e k) e done first next is (sym (form.rolls-Arrow e k)) refl (sym (form.rolls-Arrow done k)) numbered

pub prefix_numbered : (f : Form) (op : PrefixOp) (e done : Expr) (first next : ℕ) → f ≡ form.Prefix op e → Numbers (Ok done) first next (expr e) → Numbers (Ok (form.Prefix op done)) first next (sited_form f)
prefix_numbered f op e done first next is numbered = one_part f (Form-F.Prefix op e) _ _ (λ e. Form-F.Prefix op e) e done first next is (sym (form.rolls-Prefix op e)) refl (sym (form.rolls-Prefix op done)) numbered

two_counts : (first middle next a b : ℕ) → middle ≡ first + a → next ≡ middle + b → next ≡ first + (a + b)
two_counts first middle next a b is that = omega (arith, is, that)

pub index_numbered : (f : Form) (e i done index : Expr) (first middle next : ℕ) → f ≡ form.Index e i → Numbers (Ok done) first middle (expr e) → Numbers (Ok index) middle next (expr i)
    → Numbers (Ok (form.Index done index)) first next (sited_form f)
index_numbered f e i done index first middle next is left right =
    moved f _ (form.Index done index) first next (of_form f (Form-F.Index e i) _ is (sym (form.rolls-Index e i))) (
      sym (form.rolls-Index done index) ∙ ap (λ e. roll-Form (Form-F.Index e index)) left.0 ∙ ap (λ i. roll-Form (Form-F.Index ((expr e).from first) i)) right.0
          ∙ ap (λ n. roll-Form (Form-F.Index ((expr e).from first) ((expr i).from n))) left.1,
      two_counts first middle next (expr e).count (expr i).count left.1 right.1,
    )

pub binary_numbered : (f : Form) (e : Expr) (op : BinaryOp) (i done right : Expr) (first middle next : ℕ) → f ≡ form.Binary e op i → Numbers (Ok done) first middle (expr e)
    → Numbers (Ok right) middle next (expr i) → Numbers (Ok (form.Binary done op right)) first next (sited_form f)
binary_numbered f e op i done right first middle next is one two =
    moved f _ (form.Binary done op right) first next (of_form f (Form-F.Binary e op i) _ is (sym (form.rolls-Binary e op i))) (
      sym (form.rolls-Binary done op right) ∙ ap (λ e. roll-Form (Form-F.Binary e op right)) one.0 ∙ ap (λ i. roll-Form (Form-F.Binary ((expr e).from first) op i)) two.0
          ∙ ap (λ n. roll-Form (Form-F.Binary ((expr e).from first) op ((expr i).from n))) one.1,
      two_counts first middle next (expr e).count (expr i).count one.1 two.1,
    )

pub call_numbered : (f : Form) (k : ℕ) (es done : List Expr) (first next : ℕ) → f ≡ form.Call k es → Numbers (Ok done) first next (in_turn (map expr es)) → Numbers (Ok (form.Call k done)) first next (sited_form f)
call_numbered f k es done first next is numbered =
    moved f ((λ es. roll-Form (Form-F.Call k es)) <$> in_turn (map expr es)) (form.Call k done) first next (of_form f (Form-F.Call k es) _ is (sym (form.rolls-Call k es)))
    (sym (form.rolls-Call k done) ∙ ap (λ es. roll-Form (Form-F.Call k es)) numbered.0, numbered.1)

pub new_numbered : (f : Form) (site : ℕ) (t : ObjectType) (e done : Expr) (made : Form) (first middle next : ℕ) → f ≡ form.New site t (Some e) → Numbers (Ok done) first middle (expr e)
    → (made ≡ roll-Form (Form-F.New middle t (Some done))) × (next ≡ middle + 1) → Numbers (Ok made) first next (sited_form f)
new_numbered f site t e done made first middle next is numbered built =
    let count = numbered.1 in
    let after = built.1 in
    moved f _ made first next (of_form f (Form-F.New site t (Some e)) _ is (sym (form.rolls-New site t (Some e)))) (
      built.0 ∙ ap (λ n. roll-Form (Form-F.New n t (Some done))) numbered.1 ∙ ap (λ e'. roll-Form (Form-F.New (first + (expr e).count) t (Some e'))) numbered.0,
      omega (arith, count, after),
    )
