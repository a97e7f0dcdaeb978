-- A piece has as many drafts as it says, whatever the numbers.
use Rattle.std.proofs.Common.{◌≡◌, ℕ, ◌+◌, Bool, true, false, List, [], ◌∷◌, ◌++◌, map, length, Some, None, refl, ap, sym, ◌∙◌, subst}
use Rattle.std.proofs.lemmas.List.{length-append}
use Rattle.c_ast.specs.declared.expr.BinaryOp.{BinaryOp}
use Rattle.c_typed.specs.declared.types.ObjectType.{ObjectType}
use Rattle.c_typed.specs.declared.types.ExprType.{ExprType}
use Rattle.c_typed.specs.declared.expr.PrefixOp.{PrefixOp}
use Rattle.c_typed.specs.declared.expr.Expr.{fold-roll-Expr, ind-Expr, Expr}
use Rattle.c_typed.specs.declared.expr.Form.{fold-roll-Form, Form, map-Form}
use Rattle.c_typed.specs.declared.expr.Form.TheOpen.{Form-F}
use Rattle.tac_ir.specs.declared.code.Place.{Place}
use Rattle.tac_lower.specs.declared.draft.Ends.{Ends}
use Rattle.tac_lower.specs.declared.draft.Numbers.{Numbers}
use Rattle.c_typed.specs.Elaboration as elaboration
use Rattle.c_typed.specs.Elaboration.{object_of, Truth, truth_of, Operation, Skips, skips}
use Rattle.tac_lower.specs.Parts.{Part, given, chained, gathered, in_turn, ◌▷◌, ◌⨟◌}
use Rattle.tac_lower.specs.Instrs.{address, field, decay, index, get, load, new, call, test, test_past}
use Rattle.tac_lower.specs.Values.{Yield, direct, left, Lowered, onward, temp, value, part_of, read, pointer_to, against_null, truth_as, truth_by, truth, negation, prefix, carried, settled, both, either, binary_by, form_step, expr}
use Rattle.c_typed.specs.Types.{words_of}
use Rattle.tac_lower.proofs.pieces.Levels.{form_yield, mapped}
use Rattle.tac_lower.proofs.emitted.Chains.{truth_counts, prefix_counts, carried_counts, gathered_counts}

-- so many drafts
abbrev pub SizedAs : {A : Type 0} → ℕ → Part A → Type 0
SizedAs k p = (ends : Ends) (n : Numbers) → length (p.make ends n).drafts ≡ k

abbrev pub Sized : {A : Type 0} → Part A → Type 0
Sized p = SizedAs p.points p

pub sized_chained : {A B : Type 0} (any : A) (p : Part A) (q : A → Part B) → Sized p → ((a : A) → SizedAs (q any).points (q a)) → Sized (chained any p q)
sized_chained any p q first second = λ ends n.
    length-append (p.make ends n).drafts ((q (p.make ends n).result).make ends (p.make ends n).next).drafts
    ∙ ap (λ k. k + length ((q (p.make ends n).result).make ends (p.make ends n).next).drafts) (first ends n)
    ∙ ap (λ k. p.points + k) (second (p.make ends n).result ends (p.make ends n).next)

pub sized_next : {B : Type 0} (p : Part ℕ) (q : Part B) → Sized p → Sized q → Sized (p ⨟ q)
sized_next p q first second = sized_chained 0 p (λ a. q) first (λ a. second)

-- the count may be said otherwise
pub sized_as : {A : Type 0} (k : ℕ) (p : Part A) → p.points ≡ k → Sized p → SizedAs k p
sized_as k p is h = λ ends n. h ends n ∙ is

-- each of some pieces
abbrev pub AllSized : List (Part ℕ) → Type 0
AllSized [] = Unit {0}
AllSized (p ∷ ps) = Sized p × AllSized ps

pub sized_in_turn : (ps : List (Part ℕ)) → AllSized ps → Sized (in_turn ps)
sized_in_turn [] all = λ ends n. refl
sized_in_turn (p ∷ ps) all = sized_next p (in_turn ps) all.0 (sized_in_turn ps all.1)

sized_gathered : (temps : List ℕ) (ps : List (Part ℕ)) → AllSized ps → Sized (gathered temps ps)
sized_gathered temps [] all = λ ends n. refl
sized_gathered temps (p ∷ ps) all =
    sized_chained 0 p (λ a. gathered (temps ++ a ∷ []) ps) all.0
    (λ a. sized_as _ (gathered (temps ++ a ∷ []) ps) (gathered_counts (temps ++ a ∷ []) (temps ++ 0 ∷ []) ps) (sized_gathered (temps ++ a ∷ []) ps all.1))

-- a direct place has no code
abbrev pub YieldSized : Yield → Type 0
YieldSized (direct p) = Unit {0}
YieldSized (left p) = Sized p

pub sized_onward : {B : Type 0} (y : Yield) (d : Place → Part B) (l : ℕ → Part B)
    → YieldSized y → ((p : Place) → Sized (d p)) → ((a : ℕ) → SizedAs (l 0).points (l a)) → Sized (onward d l y)
sized_onward (direct p) d l is at that = at p
sized_onward (left p) d l is at that = sized_chained 0 p l is that

-- an expression at every line
abbrev pub LoweredSized : Lowered → Type 0
LoweredSized e = (line : ℕ) → YieldSized (e.yield line)

temp_sized : (y : Yield) → YieldSized y → Sized (temp y)
temp_sized (direct p) is = λ ends n. refl
temp_sized (left p) is = is

pub value_sized : (line : ℕ) (e : Lowered) → LoweredSized e → Sized (value line e)
value_sized line e is = temp_sized (e.yield line) (is line)

against_sized : (line : ℕ) (ne : Bool) (a : ℕ) → Sized (against_null line ne a)
against_sized line ne a = λ ends n. refl

truth_as_sized : (line : ℕ) (int : Truth) (a : ℕ) → Sized (truth_as line int a)
truth_as_sized line Truth.not_zero a = λ ends n. refl
truth_as_sized line Truth.not_null a = against_sized line true a

pub truth_sized : (line : ℕ) (e : Lowered) → LoweredSized e → Sized (truth line e)
truth_sized line e is =
    sized_chained 0 (value line e) (λ a. truth_by line e.typing a) (value_sized line e is)
    (λ a. sized_as _ (truth_by line e.typing a) (truth_counts line (truth_of e.typing) a) (truth_as_sized line (truth_of e.typing) a))

negation_sized : (line : ℕ) (int : Truth) (a : ℕ) → Sized (negation line int a)
negation_sized line Truth.not_zero a = λ ends n. refl
negation_sized line Truth.not_null a = against_sized line false a

prefix_sized : (line : ℕ) (op : PrefixOp) (t : ExprType) (a : ℕ) → Sized (prefix line op t a)
prefix_sized line PrefixOp.Minus t a = λ ends n. refl
prefix_sized line PrefixOp.Complement t a = λ ends n. refl
prefix_sized line PrefixOp.Not t a = negation_sized line (truth_of t) a

pub carried_sized : (line : ℕ) (p : Operation) (a b : ℕ) → Sized (carried line p a b)
carried_sized line (Operation.words op) a b = λ ends n. refl
carried_sized line (Operation.move_up words) a b = λ ends n. refl
carried_sized line (Operation.move_right_up words) a b = λ ends n. refl
carried_sized line (Operation.move_down words) a b = λ ends n. refl
carried_sized line Operation.same_pointers a b = λ ends n. refl
carried_sized line Operation.other_pointers a b = λ ends n. refl

both_sized : (line : ℕ) (a b : Part ℕ) → Sized a → Sized b → Sized (both line a b)
both_sized line a b is that =
    sized_chained 0 a (λ x. test line x (b.points + 3) ⨟ b ▷ settled line) is
    (λ x. sized_next (test line x (b.points + 3)) (b ▷ settled line) (λ ends n. refl) (sized_chained 0 b (settled line) that (λ y ends n. refl)))

either_sized : (line : ℕ) (a b : Part ℕ) → Sized a → Sized b → Sized (either line a b)
either_sized line a b is that =
    sized_chained 0 a (λ x. test_past line x (b.points + 1) ⨟ b ▷ settled line) is
    (λ x. sized_next (test_past line x (b.points + 1)) (b ▷ settled line) (λ ends n. refl) (sized_chained 0 b (settled line) that (λ y ends n. refl)))

binary_sized : (g : Skips) (sizes : List ℕ) (op : BinaryOp) (e f : Lowered) (line : ℕ) → LoweredSized e → LoweredSized f → Sized (binary_by g sizes op e f line)
binary_sized Skips.where_false sizes op e f line is that = both_sized line (truth line e) (truth line f) (truth_sized line e is) (truth_sized line f that)
binary_sized Skips.where_true sizes op e f line is that = either_sized line (truth line e) (truth line f) (truth_sized line e is) (truth_sized line f that)
binary_sized Skips.never sizes op e f line is that =
    let p = elaboration.operation sizes op e.typing f.typing in
    sized_chained 0 (value line e) (λ a. value line f ▷ λ b. carried line p a b) (value_sized line e is)
    (λ a. sized_as _ (value line f ▷ λ b. carried line p a b) (ap (λ n. (value line f).points + n) (carried_counts line p a 0 0 0))
    (sized_chained 0 (value line f) (λ b. carried line p a b) (value_sized line f that)
    (λ b. sized_as _ (carried line p a b) (carried_counts line p a b a 0) (carried_sized line p a b))))

part_sized : (line : ℕ) (t : ObjectType) (k : ℕ) (y : Yield) → YieldSized y → YieldSized (part_of line t k y)
part_sized line t k (direct p) is = tt
part_sized line t k (left p) is = sized_chained 0 p (λ a. field line t k a) is (λ a ends n. refl)

read_sized : (line : ℕ) (y : Yield) → YieldSized y → Sized (read line y)
read_sized line y is = sized_onward y (get line) (load line) is (λ p ends n. refl) (λ a ends n. refl)

pointer_sized : (line : ℕ) (y : Yield) → YieldSized y → Sized (pointer_to line y)
pointer_sized line y is = sized_onward y (address line) given is (λ p ends n. refl) (λ a ends n. refl)

-- One level, with what is known of each operand beside it.
abbrev FormSized : List ℕ → Form → Type 0
FormSized sizes f = (line : ℕ) → YieldSized (form_yield sizes f line)

abbrev ExprSized : List ℕ → Expr → Type 0
ExprSized sizes e = LoweredSized (expr sizes e)

abbrev KnownForm : List ℕ → Type 0
KnownForm sizes = (f : Form) × FormSized sizes f

abbrev Known : List ℕ → Type 0
Known sizes = (e : Expr) × ExprSized sizes e

values_sized : (sizes : List ℕ) (line : ℕ) (es : List (Known sizes)) → AllSized (map (value line) (map (expr sizes) (map (λ e. e.0) es)))
values_sized sizes line [] = tt
values_sized sizes line (e ∷ es) = (value_sized line (expr sizes e.0) e.1, values_sized sizes line es)

-- an operand, and one instruction
operand_sized : (sizes : List ℕ) (line : ℕ) (e : Known sizes) (q : ℕ → Part ℕ) → ((a : ℕ) → SizedAs (q 0).points (q a)) → Sized (value line (expr sizes e.0) ▷ q)
operand_sized sizes line e q is = sized_chained 0 (value line (expr sizes e.0)) q (value_sized line (expr sizes e.0) e.1) is

level_sized : (sizes : List ℕ) (line : ℕ) (y : Form-F (KnownForm sizes) (Known sizes))
    → YieldSized (form_step sizes (mapped sizes (map-Form (KnownForm sizes) (Known sizes) Form Expr (λ f. f.0) (λ e. e.0) y)) line)
level_sized sizes line (Form-F.Global v) = tt
level_sized sizes line (Form-F.Local v) = tt
level_sized sizes line (Form-F.Deref p) = value_sized line (expr sizes p.0) p.1
level_sized sizes line (Form-F.Index p i) =
    operand_sized sizes line p (λ a. value line (expr sizes i.0) ▷ λ b. index line (words_of sizes (object_of (expr sizes p.0).typing)) a b)
    (λ a. operand_sized sizes line i (λ b. index line (words_of sizes (object_of (expr sizes p.0).typing)) a b) (λ b ends n. refl))
level_sized sizes line (Form-F.Field w k) = part_sized line (object_of (expr sizes w.0).typing) k ((expr sizes w.0).yield line) (w.1 line)
level_sized sizes line (Form-F.Arrow p k) = operand_sized sizes line p (λ a. field line (object_of (expr sizes p.0).typing) k a) (λ a ends n. refl)
level_sized sizes line (Form-F.Number k) = λ ends n. refl
level_sized sizes line Form-F.Null = λ ends n. refl
level_sized sizes line (Form-F.Read p) = read_sized line ((expr sizes p.0).yield line) (p.1 line)
level_sized sizes line (Form-F.Decay p) =
    sized_chained 0 (pointer_to line ((expr sizes p.0).yield line)) (λ a. decay line (object_of (expr sizes p.0).typing) a)
    (pointer_sized line ((expr sizes p.0).yield line) (p.1 line)) (λ a ends n. refl)
level_sized sizes line (Form-F.Address p) = pointer_sized line ((expr sizes p.0).yield line) (p.1 line)
level_sized sizes line (Form-F.Prefix op e) =
    let t = (expr sizes e.0).typing in
    operand_sized sizes line e (λ a. prefix line op t a) (λ a. sized_as _ (prefix line op t a) (prefix_counts line op t a) (prefix_sized line op t a))
level_sized sizes line (Form-F.Binary e op f) = binary_sized (skips op) sizes op (expr sizes e.0) (expr sizes f.0) line e.1 f.1
level_sized sizes line (Form-F.Call f es) =
    sized_chained [] (gathered [] (map (value line) (map (expr sizes) (map (λ e. e.0) es)))) (λ temps. call line f temps)
    (sized_gathered [] (map (value line) (map (expr sizes) (map (λ e. e.0) es))) (values_sized sizes line es)) (λ temps ends n. refl)
level_sized sizes line Form-F.GetInt = λ ends n. refl
level_sized sizes line Form-F.Left = λ ends n. refl
level_sized sizes line (Form-F.New site item None) = λ ends n. refl
level_sized sizes line (Form-F.New site item (Some e)) = operand_sized sizes line e (λ a. new line site item a) (λ a ends n. refl)

pub expr_sized : (sizes : List ℕ) (e : Expr) → LoweredSized (expr sizes e)
unfolding expr
expr_sized sizes = ind-Expr (FormSized sizes) (ExprSized sizes)
    (λ x y is line. subst (λ g. YieldSized (g line)) (sym (fold-roll-Form (ℕ → Yield) Lowered (form_step sizes) (λ e. record { typing = e.typing; yield = e.form }) x))
    (subst (λ x. YieldSized (form_step sizes (mapped sizes x) line)) is (level_sized sizes line y)))
    (λ x y is line. subst (λ x. YieldSized ((expr sizes (record { typing = x.typing; form = x.form })).yield line)) is
    (subst (λ l. YieldSized (l.yield line)) (sym (fold-roll-Expr (ℕ → Yield) Lowered (form_step sizes) (λ e. record { typing = e.typing; yield = e.form }) (record { typing = y.typing; form = y.form.0 }))) (y.form.1 line)))
