-- The code of an expression is steady.
use Rattle.std.proofs.Common.{◌≡◌, ℕ, ◌+◌, ◌≤◌, Bool, true, false, pos, List, [], ◌∷◌, map, Some, None, ap, sym, ◌∙◌, subst, arith}
use Rattle.c_ast.specs.declared.expr.BinaryOp.{BinaryOp}
use Rattle.c_typed.specs.declared.types.ObjectType.{ObjectType}
use Rattle.c_typed.specs.declared.types.ExprType.{ExprType}
use Rattle.c_typed.specs.declared.expr.PrefixOp.{PrefixOp}
use Rattle.c_typed.specs.declared.expr.Expr.{Expr}
use Rattle.c_typed.specs.declared.expr.Form.{Form, out-Form, roll-out-Form}
use Rattle.c_typed.specs.declared.expr.Form.TheOpen.{Form-F}
use Rattle.c_typed.specs.Types.{words_of}
use Rattle.c_typed.specs.IsWell.{Context, IsExpr, AreExprs, known, none, each, operands_of}
use Rattle.tac_ir.specs.declared.code.UnOp.{UnOp}
use Rattle.tac_ir.specs.declared.code.Place.{Place}
use Rattle.c_typed.specs.Elaboration as elaboration
use Rattle.c_typed.specs.Elaboration.{object_of, Truth, truth_of, Operation, Skips, skips}
use Rattle.tac_lower.specs.Parts.{Part, given, gathered, ◌▷◌, ◌⨟◌}
use Rattle.tac_lower.specs.Instrs.{constant, null, prefixed, address, field, decay, index, get, load, same, new, call, test, test_past, skip, zero_again}
use Rattle.tac_lower.specs.Values.{Yield, direct, left, Lowered, onward, temp, value, part_of, read, pointer_to, against_null, truth_as, truth_by, truth, negation, prefix, operator, carried, settled, both, either, binary_by, form_step, expr}
use Rattle.tac_lower.proofs.pieces.Levels.{mapped, expr_roll}
use Rattle.tac_lower.proofs.form.Runs.{Steady, Steps, steady_more, steady_chained, steps_then, steps_next, steady_given, AllSteps, steady_gathered}
use Rattle.tac_lower.proofs.form.RunInstrs.{constant_steps, null_steps, prefixed_steps, computed_steps, address_steps, field_steps, decay_steps, index_steps, get_steps, load_steps, same_steps, new_steps, call_steps, test_steps, test_past_steps, skip_steps, zero_again_steps, in_steps, left_steps}

pub yield_of : (sizes : List ℕ) (e : Expr) → (expr sizes e).yield ≡ form_step sizes (mapped sizes (out-Form e.form))
yield_of sizes e =
    ap (λ g. (expr sizes (record { typing = e.typing; form = g })).yield) (sym (roll-out-Form e.form)) ∙ ap (λ y. y.yield) (expr_roll sizes e.typing (out-Form e.form))

-- a direct place has no code
abbrev pub YieldSteps : Yield → Type 0
YieldSteps (direct p) = Unit {0}
YieldSteps (left p) = Steps 0 p

pub onward_steps : {B : Type 0} {Left : ℕ → B → Type 0} (m : ℕ) (y : Yield) (d : Place → Part B) (l : ℕ → Part B)
    → YieldSteps y → ((p : Place) → Steady Left m (d p)) → ((k a : ℕ) → m ≤ k → a ≤ k → Steady Left k (l a)) → Steady Left m (onward d l y)
onward_steps m (direct p) d l is at that = at p
onward_steps m (left p) d l is at that = steps_then m p l (steady_more 0 m p (omega arith) is) that

pub temp_steps : (m : ℕ) (y : Yield) → YieldSteps y → Steps m (temp y)
temp_steps m (direct p) is = steady_given m 0 (λ k h. omega arith)
temp_steps m (left p) is = steady_more 0 m p (omega arith) is

-- an expression at every line
abbrev pub ExprSteps : Lowered → Type 0
ExprSteps e = (line : ℕ) → YieldSteps (e.yield line)

pub value_steps : (m line : ℕ) (e : Lowered) → ExprSteps e → Steps m (value line e)
value_steps m line e is = temp_steps m (e.yield line) (is line)

part_steps : (line : ℕ) (t : ObjectType) (k : ℕ) (y : Yield) → YieldSteps y → YieldSteps (part_of line t k y)
part_steps line t k (direct p) is = tt
part_steps line t k (left p) is = steps_then 0 p (λ a. field line t k a) is (λ m a h up. field_steps m line t k a up)

read_steps : (m line : ℕ) (y : Yield) → YieldSteps y → Steps m (read line y)
read_steps m line y is = onward_steps m y (get line) (load line) is (λ p. get_steps m line p) (λ k a h up. load_steps k line a up)

pointer_steps : (m line : ℕ) (y : Yield) → YieldSteps y → Steps m (pointer_to line y)
pointer_steps m line y is = onward_steps m y (address line) given is (λ p. address_steps m line p) (λ k a h up. steady_given k a (λ j more. omega arith))

against_steps : (m line : ℕ) (ne : Bool) (a : ℕ) → a ≤ m → Steps m (against_null line ne a)
against_steps m line ne a is = steps_then m (null line) (λ n. same line ne a n) (null_steps m line) (λ k n h up. same_steps k line ne a n (omega arith) up)

truth_as_steps : (m line : ℕ) (int : Truth) (a : ℕ) → a ≤ m → Steps m (truth_as line int a)
truth_as_steps m line Truth.not_zero a is = steady_given m a (λ k h. omega arith)
truth_as_steps m line Truth.not_null a is = against_steps m line true a is

pub truth_steps : (m line : ℕ) (e : Lowered) → ExprSteps e → Steps m (truth line e)
truth_steps m line e is = steps_then m (value line e) (λ a. truth_by line e.typing a) (value_steps m line e is) (λ k a h up. truth_as_steps k line (truth_of e.typing) a up)

negation_steps : (m line : ℕ) (int : Truth) (a : ℕ) → a ≤ m → Steps m (negation line int a)
negation_steps m line Truth.not_zero a is = prefixed_steps m line UnOp.Not a is
negation_steps m line Truth.not_null a is = against_steps m line false a is

prefix_steps : (m line : ℕ) (op : PrefixOp) (t : ExprType) (a : ℕ) → a ≤ m → Steps m (prefix line op t a)
prefix_steps m line PrefixOp.Minus t a is = prefixed_steps m line UnOp.Neg a is
prefix_steps m line PrefixOp.Complement t a is = prefixed_steps m line UnOp.Com a is
prefix_steps m line PrefixOp.Not t a is = negation_steps m line (truth_of t) a is

pub carried_steps : (m line : ℕ) (p : Operation) (a b : ℕ) → a ≤ m → b ≤ m → Steps m (carried line p a b)
carried_steps m line (Operation.words op) a b is that = computed_steps m line (operator op) a b is that
carried_steps m line (Operation.move_up words) a b is that = index_steps m line words a b is that
carried_steps m line (Operation.move_right_up words) a b is that = index_steps m line words b a that is
carried_steps m line (Operation.move_down words) a b is that =
    steps_then m (prefixed line UnOp.Neg b) (λ n. index line words a n) (prefixed_steps m line UnOp.Neg b that) (λ k n h up. index_steps k line words a n (omega arith) up)
carried_steps m line Operation.same_pointers a b is that = same_steps m line false a b is that
carried_steps m line Operation.other_pointers a b is that = same_steps m line true a b is that

settled_steps : (m line y : ℕ) → y ≤ m → Steps m (settled line y)
settled_steps m line y is =
    steps_next m (test line y 2) (constant line (pos 1) ▷ λ t. skip line 1 ⨟ zero_again line t) (test_steps m line y 2 is)
    (steps_then m (constant line (pos 1)) (λ t. skip line 1 ⨟ zero_again line t) (constant_steps m line (pos 1))
    (λ k t h up. steps_next k (skip line 1) (zero_again line t) (skip_steps k line 1) (zero_again_steps k line t up)))

both_steps : (m line : ℕ) (a b : Part ℕ) → Steps m a → Steps m b → Steps m (both line a b)
both_steps m line a b is that =
    steps_then m a (λ x. test line x (b.points + 3) ⨟ b ▷ settled line) is
    (λ k x h up. steps_next k (test line x (b.points + 3)) (b ▷ settled line) (test_steps k line x (b.points + 3) up)
    (steps_then k b (settled line) (steady_more m k b h that) (λ j y more left. settled_steps j line y left)))

either_steps : (m line : ℕ) (a b : Part ℕ) → Steps m a → Steps m b → Steps m (either line a b)
either_steps m line a b is that =
    steps_then m a (λ x. test_past line x (b.points + 1) ⨟ b ▷ settled line) is
    (λ k x h up. steps_next k (test_past line x (b.points + 1)) (b ▷ settled line) (test_past_steps k line x (b.points + 1) up)
    (steps_then k b (settled line) (steady_more m k b h that) (λ j y more left. settled_steps j line y left)))

binary_steps : (m : ℕ) (l : Skips) (sizes : List ℕ) (op : BinaryOp) (e f : Lowered) (line : ℕ) → ExprSteps e → ExprSteps f → Steps m (binary_by l sizes op e f line)
binary_steps m Skips.where_false sizes op e f line is that = both_steps m line (truth line e) (truth line f) (truth_steps m line e is) (truth_steps m line f that)
binary_steps m Skips.where_true sizes op e f line is that = either_steps m line (truth line e) (truth line f) (truth_steps m line e is) (truth_steps m line f that)
binary_steps m Skips.never sizes op e f line is that =
    steps_then m (value line e) (λ a. value line f ▷ λ b. carried line (elaboration.operation sizes op e.typing f.typing) a b) (value_steps m line e is)
    (λ k a h up. steps_then k (value line f) (λ b. carried line (elaboration.operation sizes op e.typing f.typing) a b) (value_steps k line f that)
    (λ j b more left. carried_steps j line (elaboration.operation sizes op e.typing f.typing) a b (omega arith) left))

-- An expression by its operands.
abbrev pub AreSteps : List ℕ → List Expr → Type 0
AreSteps sizes [] = Unit {0}
AreSteps sizes (e ∷ es) = ExprSteps (expr sizes e) × AreSteps sizes es

values_steps : (sizes : List ℕ) (line : ℕ) (es : List Expr) → AreSteps sizes es → AllSteps 0 (map (value line) (map (expr sizes) es))
values_steps sizes line [] all = tt
values_steps sizes line (e ∷ es) all = (value_steps 0 line (expr sizes e) all.0, values_steps sizes line es all.1)

level_steps : (sizes : List ℕ) (x : Form-F Form Expr) (line : ℕ) → AreSteps sizes (operands_of x) → YieldSteps (form_step sizes (mapped sizes x) line)
level_steps sizes (Form-F.Global v) line all = tt
level_steps sizes (Form-F.Local v) line all = tt
level_steps sizes (Form-F.Deref p) line all = value_steps 0 line (expr sizes p) all.0
level_steps sizes (Form-F.Index p i) line all =
    steps_then 0 (value line (expr sizes p)) _ (value_steps 0 line (expr sizes p) all.0)
    (λ k a h up. steps_then k (value line (expr sizes i)) (λ b. index line (words_of sizes (object_of (expr sizes p).typing)) a b) (value_steps k line (expr sizes i) all.1.0)
    (λ j b more left. index_steps j line _ a b (omega arith) left))
level_steps sizes (Form-F.Field w k) line all = part_steps line _ k ((expr sizes w).yield line) (all.0 line)
level_steps sizes (Form-F.Arrow p k) line all =
    steps_then 0 (value line (expr sizes p)) (λ a. field line (object_of (expr sizes p).typing) k a) (value_steps 0 line (expr sizes p) all.0) (λ m a h up. field_steps m line _ k a up)
level_steps sizes (Form-F.Number k) line all = constant_steps 0 line k
level_steps sizes Form-F.Null line all = null_steps 0 line
level_steps sizes (Form-F.Read p) line all = read_steps 0 line ((expr sizes p).yield line) (all.0 line)
level_steps sizes (Form-F.Decay p) line all =
    steps_then 0 (pointer_to line ((expr sizes p).yield line)) (λ a. decay line (object_of (expr sizes p).typing) a) (pointer_steps 0 line ((expr sizes p).yield line) (all.0 line))
    (λ m a h up. decay_steps m line _ a up)
level_steps sizes (Form-F.Address p) line all = pointer_steps 0 line ((expr sizes p).yield line) (all.0 line)
level_steps sizes (Form-F.Prefix op e) line all =
    steps_then 0 (value line (expr sizes e)) (λ a. prefix line op (expr sizes e).typing a) (value_steps 0 line (expr sizes e) all.0) (λ m a h up. prefix_steps m line op _ a up)
level_steps sizes (Form-F.Binary e op f) line all = binary_steps 0 (skips op) sizes op (expr sizes e) (expr sizes f) line all.0 all.1.0
level_steps sizes (Form-F.Call f es) line all =
    steady_chained 0 [] (gathered [] (map (value line) (map (expr sizes) es))) (λ temps. call line f temps) (steady_gathered 0 [] _ tt (values_steps sizes line es all))
    (λ k temps h up. call_steps k line f temps up)
level_steps sizes Form-F.GetInt line all = in_steps 0 line
level_steps sizes Form-F.Left line all = left_steps 0 line
level_steps sizes (Form-F.New site item None) line all =
    steps_then 0 (constant line (pos 1)) (λ a. new line site item a) (constant_steps 0 line (pos 1)) (λ m a h up. new_steps m line site item a up)
level_steps sizes (Form-F.New site item (Some e)) line all =
    steps_then 0 (value line (expr sizes e)) (λ a. new line site item a) (value_steps 0 line (expr sizes e) all.0) (λ m a h up. new_steps m line site item a up)

mutual
  pub expr_steps : (c : Context) (sizes : List ℕ) {e : Expr} → IsExpr c e → ExprSteps (expr sizes e)
  expr_steps c sizes (known e t l ops) = λ line. subst (λ y. YieldSteps (y line)) (sym (yield_of sizes e)) (level_steps sizes (out-Form e.form) line (are_steps c sizes ops))

  pub are_steps : (c : Context) (sizes : List ℕ) {es : List Expr} → AreExprs c es → AreSteps sizes es
  are_steps c sizes none = tt
  are_steps c sizes (each e es is rest) = (expr_steps c sizes is, are_steps c sizes rest)
