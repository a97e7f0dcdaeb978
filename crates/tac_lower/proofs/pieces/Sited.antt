-- The heap sites in the code of an expression are those of the expression, in order.
use Rattle.std.proofs.Common.{◌≡◌, ℕ, ◌+◌, pos, List, [], ◌∷◌, ◌++◌, map, Option, Some, None, refl, ap, sym, ◌∙◌, subst, append_assoc, append-nil}
use Rattle.c_ast.specs.declared.expr.BinaryOp.{BinaryOp}
use Rattle.c_typed.specs.declared.types.ObjectType.{ObjectType}
use Rattle.c_typed.specs.declared.types.ExprType.{ExprType}
use Rattle.c_typed.specs.declared.expr.PrefixOp.{PrefixOp}
use Rattle.c_typed.specs.declared.expr.Expr.{fold-roll-Expr, ind-Expr, Expr}
use Rattle.c_typed.specs.declared.expr.Form.{fold-roll-Form, Form, roll-Form, map-Form, fold-Form}
use Rattle.c_typed.specs.declared.expr.Form.TheOpen.{Form-F}
use Rattle.c_typed.specs.Decls.{joined_lists}
use Rattle.c_typed.specs.Sites.{form_sites, expr_sites}
use Rattle.c_typed.specs.Types.{words_of}
use Rattle.c_typed.specs.Elaboration as elaboration
use Rattle.c_typed.specs.Elaboration.{object_of, Truth, truth_of, Operation, Skips, skips}
use Rattle.tac_ir.specs.declared.code.Instr.{Instr}
use Rattle.tac_ir.specs.declared.code.Place.{Place}
use Rattle.tac_lower.specs.declared.draft.Ends.{Ends}
use Rattle.tac_lower.specs.declared.draft.Numbers.{Numbers}
use Rattle.tac_lower.specs.declared.draft.Draft.{Draft}
use Rattle.tac_lower.specs.Parts.{Part, given, chained, gathered, ◌▷◌, ◌⨟◌}
use Rattle.tac_lower.specs.Instrs.{constant, address, field, decay, index, get, load, new, call, test, test_past}
use Rattle.tac_lower.specs.Values.{Yield, direct, left, Lowered, onward, temp, value, part_of, read, pointer_to, truth_as, truth_by, truth, negation, prefix, carried, settled, both, either, binary_by, form_step, expr}
use Rattle.tac_lower.proofs.pieces.Levels.{form_yield, mapped}
use Rattle.tac_lower.proofs.form.Each.{Each, each_append}

-- the heap site that an instruction makes
abbrev pub new_site : Instr → Option ℕ
new_site (Instr.New to a site) = Some site
new_site i = None

abbrev number_there : Option ℕ → List ℕ
number_there None = []
number_there (Some s) = s ∷ []

-- those of some drafts, in order
abbrev pub site_numbers : List Draft → List ℕ
site_numbers [] = []
site_numbers (d ∷ ds) = number_there (new_site d.instr) ++ site_numbers ds

-- what makes a heap site has the type of its item
abbrev pub HasItem : Instr → Option ObjectType → Type 0
HasItem (Instr.New to a site) None = ⊥
HasItem i o = Unit {0}

abbrev pub AreSited : List ℕ → List Draft → Type 0
AreSited xs ds = (site_numbers ds ≡ xs) × Each (λ (d : Draft). HasItem d.instr d.object) ds

abbrev pub Sited : {A : Type 0} → List ℕ → Part A → Type 0
Sited xs p = (ends : Ends) (n : Numbers) → AreSited xs (p.make ends n).drafts

numbers_append : (ds es : List Draft) → site_numbers (ds ++ es) ≡ site_numbers ds ++ site_numbers es
numbers_append [] es = refl
numbers_append (d ∷ ds) es =
    ap (λ xs. number_there (new_site d.instr) ++ xs) (numbers_append ds es) ∙ sym (append_assoc (number_there (new_site d.instr)) (site_numbers ds) (site_numbers es))

pub are_append : (xs ys : List ℕ) (ds es : List Draft) → AreSited xs ds → AreSited ys es → AreSited (xs ++ ys) (ds ++ es)
are_append xs ys ds es is that =
    (numbers_append ds es ∙ ap (λ zs. zs ++ site_numbers es) is.0 ∙ ap (λ zs. xs ++ zs) that.0, each_append (λ (d : Draft). HasItem d.instr d.object) ds es is.1 that.1)

pub sited_chained : {A B : Type 0} (xs ys : List ℕ) (any : A) (p : Part A) (q : A → Part B) → Sited xs p → ((a : A) → Sited ys (q a)) → Sited (xs ++ ys) (chained any p q)
sited_chained xs ys any p q first second = λ ends n.
    are_append xs ys (p.make ends n).drafts ((q (p.make ends n).result).make ends (p.make ends n).next).drafts (first ends n) (second (p.make ends n).result ends (p.make ends n).next)

-- the sites may be said otherwise
pub sited_as : {A : Type 0} (xs ys : List ℕ) (p : Part A) → xs ≡ ys → Sited xs p → Sited ys p
sited_as xs ys p is h = subst (λ zs. Sited zs p) is h

-- a piece, and what makes no site
pub sited_last : {A B : Type 0} (xs : List ℕ) (any : A) (p : Part A) (q : A → Part B) → Sited xs p → ((a : A) → Sited [] (q a)) → Sited xs (chained any p q)
sited_last xs any p q first second = sited_as (xs ++ []) xs (chained any p q) (append-nil xs) (sited_chained xs [] any p q first second)

pub sited_next : {B : Type 0} (xs ys : List ℕ) (p : Part ℕ) (q : Part B) → Sited xs p → Sited ys q → Sited (xs ++ ys) (p ⨟ q)
sited_next xs ys p q first second = sited_chained xs ys 0 p (λ a. q) first (λ a. second)

-- each of some pieces
abbrev pub AllSited : List (List ℕ) → List (Part ℕ) → Type 0
AllSited [] [] = Unit {0}
AllSited (xs ∷ xss) (p ∷ ps) = Sited xs p × AllSited xss ps
AllSited xss ps = ⊥

sited_gathered : (temps : List ℕ) (xss : List (List ℕ)) (ps : List (Part ℕ)) → AllSited xss ps → Sited (joined_lists xss) (gathered temps ps)
sited_gathered temps [] [] all = λ ends n. (refl, tt)
sited_gathered temps (xs ∷ xss) (p ∷ ps) all =
    sited_chained xs (joined_lists xss) 0 p (λ a. gathered (temps ++ a ∷ []) ps) all.0 (λ a. sited_gathered (temps ++ a ∷ []) xss ps all.1)
sited_gathered temps [] (p ∷ ps) all = absurd all
sited_gathered temps (xs ∷ xss) [] all = absurd all

-- a direct place has no code
abbrev pub YieldSited : List ℕ → Yield → Type 0
YieldSited xs (direct p) = xs ≡ []
YieldSited xs (left p) = Sited xs p

pub sited_onward : {B : Type 0} (xs ys : List ℕ) (y : Yield) (d : Place → Part B) (l : ℕ → Part B)
    → YieldSited xs y → ((p : Place) → Sited ys (d p)) → ((a : ℕ) → Sited ys (l a)) → Sited (xs ++ ys) (onward d l y)
sited_onward xs ys (direct p) d l is at that = sited_as ys (xs ++ ys) (d p) (ap (λ zs. zs ++ ys) (sym is)) (at p)
sited_onward xs ys (left p) d l is at that = sited_chained xs ys 0 p l is that

found_sited : {B : Type 0} (xs : List ℕ) (y : Yield) (d : Place → Part B) (l : ℕ → Part B)
    → YieldSited xs y → ((p : Place) → Sited [] (d p)) → ((a : ℕ) → Sited [] (l a)) → Sited xs (onward d l y)
found_sited xs y d l is at that = sited_as (xs ++ []) xs (onward d l y) (append-nil xs) (sited_onward xs [] y d l is at that)

temp_sited : (xs : List ℕ) (y : Yield) → YieldSited xs y → Sited xs (temp y)
temp_sited xs (direct p) is = (let none : Part ℕ = given 0 in sited_as [] xs none (sym is) (λ ends n. (refl, tt)))
temp_sited xs (left p) is = is

-- an expression at every line
abbrev pub LoweredSited : List ℕ → Lowered → Type 0
LoweredSited xs e = (line : ℕ) → YieldSited xs (e.yield line)

pub value_sited : (xs : List ℕ) (line : ℕ) (e : Lowered) → LoweredSited xs e → Sited xs (value line e)
value_sited xs line e is = temp_sited xs (e.yield line) (is line)

truth_as_sited : (line : ℕ) (t : Truth) (a : ℕ) → Sited [] (truth_as line t a)
truth_as_sited line Truth.not_zero a = λ ends n. (refl, tt)
truth_as_sited line Truth.not_null a = λ ends n. (refl, (tt, (tt, tt)))

pub truth_sited : (xs : List ℕ) (line : ℕ) (e : Lowered) → LoweredSited xs e → Sited xs (truth line e)
truth_sited xs line e is = sited_last xs 0 (value line e) (λ a. truth_by line e.typing a) (value_sited xs line e is) (λ a. truth_as_sited line (truth_of e.typing) a)

negation_sited : (line : ℕ) (t : Truth) (a : ℕ) → Sited [] (negation line t a)
negation_sited line Truth.not_zero a = λ ends n. (refl, (tt, tt))
negation_sited line Truth.not_null a = λ ends n. (refl, (tt, (tt, tt)))

prefix_sited : (line : ℕ) (op : PrefixOp) (t : ExprType) (a : ℕ) → Sited [] (prefix line op t a)
prefix_sited line PrefixOp.Minus t a = λ ends n. (refl, (tt, tt))
prefix_sited line PrefixOp.Complement t a = λ ends n. (refl, (tt, tt))
prefix_sited line PrefixOp.Not t a = negation_sited line (truth_of t) a

pub carried_sited : (line : ℕ) (p : Operation) (a b : ℕ) → Sited [] (carried line p a b)
carried_sited line (Operation.words op) a b = λ ends n. (refl, (tt, tt))
carried_sited line (Operation.move_up words) a b = λ ends n. (refl, (tt, tt))
carried_sited line (Operation.move_right_up words) a b = λ ends n. (refl, (tt, tt))
carried_sited line (Operation.move_down words) a b = λ ends n. (refl, (tt, (tt, tt)))
carried_sited line Operation.same_pointers a b = λ ends n. (refl, (tt, tt))
carried_sited line Operation.other_pointers a b = λ ends n. (refl, (tt, tt))

-- a test, and the second operand
second_sited : (line : ℕ) (ys : List ℕ) (first b : Part ℕ) → Sited [] first → Sited ys b → Sited ys (first ⨟ b ▷ settled line)
second_sited line ys first b is that = sited_next [] ys first (b ▷ settled line) is (sited_last ys 0 b (settled line) that (λ y ends n. (refl, (tt, (tt, (tt, (tt, tt)))))))

both_sited : (line : ℕ) (xs ys : List ℕ) (a b : Part ℕ) → Sited xs a → Sited ys b → Sited (xs ++ ys) (both line a b)
both_sited line xs ys a b is that =
    sited_chained xs ys 0 a (λ x. test line x (b.points + 3) ⨟ b ▷ settled line) is (λ x. second_sited line ys (test line x (b.points + 3)) b (λ ends n. (refl, (tt, tt))) that)

either_sited : (line : ℕ) (xs ys : List ℕ) (a b : Part ℕ) → Sited xs a → Sited ys b → Sited (xs ++ ys) (either line a b)
either_sited line xs ys a b is that =
    sited_chained xs ys 0 a (λ x. test_past line x (b.points + 1) ⨟ b ▷ settled line) is (λ x. second_sited line ys (test_past line x (b.points + 1)) b (λ ends n. (refl, (tt, tt))) that)

binary_sited : (g : Skips) (sizes : List ℕ) (op : BinaryOp) (xs ys : List ℕ) (e f : Lowered) (line : ℕ) → LoweredSited xs e → LoweredSited ys f → Sited (xs ++ ys) (binary_by g sizes op e f line)
binary_sited Skips.where_false sizes op xs ys e f line is that = both_sited line xs ys (truth line e) (truth line f) (truth_sited xs line e is) (truth_sited ys line f that)
binary_sited Skips.where_true sizes op xs ys e f line is that = either_sited line xs ys (truth line e) (truth line f) (truth_sited xs line e is) (truth_sited ys line f that)
binary_sited Skips.never sizes op xs ys e f line is that =
    let p = elaboration.operation sizes op e.typing f.typing in
    sited_chained xs ys 0 (value line e) (λ a. value line f ▷ λ b. carried line p a b) (value_sited xs line e is)
    (λ a. sited_last ys 0 (value line f) (λ b. carried line p a b) (value_sited ys line f that) (λ b. carried_sited line p a b))

part_sited : (line : ℕ) (t : ObjectType) (k : ℕ) (xs : List ℕ) (y : Yield) → YieldSited xs y → YieldSited xs (part_of line t k y)
part_sited line t k xs (direct p) is = is
part_sited line t k xs (left p) is = sited_last xs 0 p (λ a. field line t k a) is (λ a ends n. (refl, (tt, tt)))

read_sited : (line : ℕ) (xs : List ℕ) (y : Yield) → YieldSited xs y → Sited xs (read line y)
read_sited line xs y is = found_sited xs y (get line) (load line) is (λ p ends n. (refl, (tt, tt))) (λ a ends n. (refl, (tt, tt)))

pointer_sited : (line : ℕ) (xs : List ℕ) (y : Yield) → YieldSited xs y → Sited xs (pointer_to line y)
pointer_sited line xs y is = found_sited xs y (address line) given is (λ p ends n. (refl, (tt, tt))) (λ a ends n. (refl, tt))

-- One level, with what is known of each operand beside it.
abbrev pub form_list : Form → List ℕ
form_list = fold-Form (List ℕ) (List ℕ) form_sites (λ e. e.form)

abbrev FormSited : List ℕ → Form → Type 0
FormSited sizes f = (line : ℕ) → YieldSited (form_list f) (form_yield sizes f line)

abbrev ExprSited : List ℕ → Expr → Type 0
ExprSited sizes e = LoweredSited (expr_sites e) (expr sizes e)

abbrev KnownForm : List ℕ → Type 0
KnownForm sizes = (f : Form) × FormSited sizes f

abbrev Known : List ℕ → Type 0
Known sizes = (e : Expr) × ExprSited sizes e

abbrev forgotten : (sizes : List ℕ) → Form-F (KnownForm sizes) (Known sizes) → Form-F Form Expr
forgotten sizes y = map-Form (KnownForm sizes) (Known sizes) Form Expr (λ f. f.0) (λ e. e.0) y

abbrev listed : Form-F Form Expr → Form-F (List ℕ) (List ℕ)
listed x = map-Form Form Expr (List ℕ) (List ℕ) form_list expr_sites x

values_sited : (sizes : List ℕ) (line : ℕ) (es : List (Known sizes)) → AllSited (map expr_sites (map (λ e. e.0) es)) (map (value line) (map (expr sizes) (map (λ e. e.0) es)))
values_sited sizes line [] = tt
values_sited sizes line (e ∷ es) = (value_sited (expr_sites e.0) line (expr sizes e.0) e.1, values_sited sizes line es)

-- an operand, and instructions that make no site
operand_sited : (sizes : List ℕ) (line : ℕ) (e : Known sizes) (q : ℕ → Part ℕ) → ((a : ℕ) → Sited [] (q a)) → Sited (expr_sites e.0) (value line (expr sizes e.0) ▷ q)
operand_sited sizes line e q is = sited_last (expr_sites e.0) 0 (value line (expr sizes e.0)) q (value_sited (expr_sites e.0) line (expr sizes e.0) e.1) is

level_sited : (sizes : List ℕ) (line : ℕ) (y : Form-F (KnownForm sizes) (Known sizes)) → YieldSited (form_sites (listed (forgotten sizes y))) (form_step sizes (mapped sizes (forgotten sizes y)) line)
level_sited sizes line (Form-F.Global v) = refl
level_sited sizes line (Form-F.Local v) = refl
level_sited sizes line (Form-F.Deref p) = value_sited (expr_sites p.0) line (expr sizes p.0) p.1
level_sited sizes line (Form-F.Index p i) =
    let words = words_of sizes (object_of (expr sizes p.0).typing) in
    sited_chained (expr_sites p.0) (expr_sites i.0) 0 (value line (expr sizes p.0)) (λ a. value line (expr sizes i.0) ▷ λ b. index line words a b)
    (value_sited (expr_sites p.0) line (expr sizes p.0) p.1) (λ a. operand_sited sizes line i (λ b. index line words a b) (λ b ends n. (refl, (tt, tt))))
level_sited sizes line (Form-F.Field w k) = part_sited line (object_of (expr sizes w.0).typing) k (expr_sites w.0) ((expr sizes w.0).yield line) (w.1 line)
level_sited sizes line (Form-F.Arrow p k) = operand_sited sizes line p (λ a. field line (object_of (expr sizes p.0).typing) k a) (λ a ends n. (refl, (tt, tt)))
level_sited sizes line (Form-F.Number k) = λ ends n. (refl, (tt, tt))
level_sited sizes line Form-F.Null = λ ends n. (refl, (tt, tt))
level_sited sizes line (Form-F.Read p) = read_sited line (expr_sites p.0) ((expr sizes p.0).yield line) (p.1 line)
level_sited sizes line (Form-F.Decay p) =
    sited_last (expr_sites p.0) 0 (pointer_to line ((expr sizes p.0).yield line)) (λ a. decay line (object_of (expr sizes p.0).typing) a)
    (pointer_sited line (expr_sites p.0) ((expr sizes p.0).yield line) (p.1 line)) (λ a ends n. (refl, (tt, tt)))
level_sited sizes line (Form-F.Address p) = pointer_sited line (expr_sites p.0) ((expr sizes p.0).yield line) (p.1 line)
level_sited sizes line (Form-F.Prefix op e) = (let t = (expr sizes e.0).typing in operand_sited sizes line e (λ a. prefix line op t a) (λ a. prefix_sited line op t a))
level_sited sizes line (Form-F.Binary e op f) = binary_sited (skips op) sizes op (expr_sites e.0) (expr_sites f.0) (expr sizes e.0) (expr sizes f.0) line e.1 f.1
level_sited sizes line (Form-F.Call f es) =
    let vs = map (value line) (map (expr sizes) (map (λ e. e.0) es)) in
    let xss = map expr_sites (map (λ e. e.0) es) in
    sited_last (joined_lists xss) [] (gathered [] vs) (λ temps. call line f temps) (sited_gathered [] xss vs (values_sited sizes line es)) (λ temps ends n. (refl, (tt, tt)))
level_sited sizes line Form-F.GetInt = λ ends n. (refl, (tt, tt))
level_sited sizes line Form-F.Left = λ ends n. (refl, (tt, tt))
level_sited sizes line (Form-F.New site item None) = sited_chained [] (site ∷ []) 0 (constant line (pos 1)) (λ a. new line site item a) (λ ends n. (refl, (tt, tt))) (λ a ends n. (refl, (tt, tt)))
level_sited sizes line (Form-F.New site item (Some e)) =
    sited_chained (expr_sites e.0) (site ∷ []) 0 (value line (expr sizes e.0)) (λ a. new line site item a) (value_sited (expr_sites e.0) line (expr sizes e.0) e.1) (λ a ends n. (refl, (tt, tt)))

list_roll : (x : Form-F Form Expr) → form_list (roll-Form x) ≡ form_sites (listed x)
unfolding expr_sites
list_roll x = fold-roll-Form (List ℕ) (List ℕ) form_sites (λ e. e.form) x

sites_is : (e : Expr) → expr_sites e ≡ form_list e.form
unfolding expr_sites
sites_is e = fold-roll-Expr (List ℕ) (List ℕ) form_sites (λ e. e.form) (record { typing = e.typing; form = e.form })

yield_roll : (sizes : List ℕ) (x : Form-F Form Expr) → form_yield sizes (roll-Form x) ≡ form_step sizes (mapped sizes x)
unfolding expr
yield_roll sizes x = fold-roll-Form (ℕ → Yield) Lowered (form_step sizes) (λ e. record { typing = e.typing; yield = e.form }) x

yield_is : (sizes : List ℕ) (e : Expr) → (expr sizes e).yield ≡ form_yield sizes e.form
unfolding expr
yield_is sizes e = ap (λ l. l.yield) (fold-roll-Expr (ℕ → Yield) Lowered (form_step sizes) (λ e. record { typing = e.typing; yield = e.form }) (record { typing = e.typing; form = e.form }))

-- of what is told otherwise
same_sited : (xs ys : List ℕ) (f g : ℕ → Yield) → xs ≡ ys → f ≡ g → ((line : ℕ) → YieldSited ys (g line)) → (line : ℕ) → YieldSited xs (f line)
same_sited xs ys f g is that h line = subst (λ zs. YieldSited zs (f line)) (sym is) (subst (λ y. YieldSited ys (y line)) (sym that) (h line))

pub expr_sited : (sizes : List ℕ) (e : Expr) → LoweredSited (expr_sites e) (expr sizes e)
expr_sited sizes = ind-Expr (FormSited sizes) (ExprSited sizes)
    (λ x y is. same_sited (form_list (roll-Form x)) (form_sites (listed x)) (form_yield sizes (roll-Form x)) (form_step sizes (mapped sizes x)) (list_roll x) (yield_roll sizes x)
    (subst (λ x. (line : ℕ) → YieldSited (form_sites (listed x)) (form_step sizes (mapped sizes x) line)) is (λ line. level_sited sizes line y)))
    (λ x y is. subst (λ x. LoweredSited (expr_sites (record { typing = x.typing; form = x.form })) (expr sizes (record { typing = x.typing; form = x.form }))) is
    (let e : Expr = record { typing = y.typing; form = y.form.0 } in same_sited (expr_sites e) (form_list y.form.0) (expr sizes e).yield (form_yield sizes y.form.0) (sites_is e) (yield_is sizes e) y.form.1))
