-- The parts of expressions and statements of a well-formed program are such too.
use Rattle.std.proofs.Common.{◌≡◌, ℕ, zero, suc, ◌<◌, List, [], ◌∷◌, ◌++◌, Option, Some, None, get_or, length, refl, ap, sym, ◌∙◌, subst, arith}
use Rattle.std.specs.Prelude.{All}
use Rattle.dfi_base.specs.declared.numbers.Line.{Line}
use Rattle.c_ast.specs.declared.expr.BinaryOp.{BinaryOp}
use Rattle.c_typed.specs.declared.types.ObjectType.{ObjectType}
use Rattle.c_typed.specs.declared.types.ExprType.{ExprType}
use Rattle.c_typed.specs.declared.expr.PrefixOp.{PrefixOp}
use Rattle.c_typed.specs.declared.expr.Expr.{Expr}
use Rattle.c_typed.specs.declared.expr.Form.{Form, out-Form, roll-Form, out-roll-Form}
use Rattle.c_typed.specs.declared.expr.Form.TheOpen.{Form-F}
use Rattle.c_typed.specs.declared.expr.Form.TheVariants as form
use Rattle.c_typed.specs.declared.stmt.Branch.{Branch}
use Rattle.c_typed.specs.declared.stmt.Condition.{Condition}
use Rattle.c_typed.specs.declared.stmt.Stmt.{Stmt, out-Stmt, roll-Stmt, out-roll-Stmt}
use Rattle.c_typed.specs.declared.stmt.Stmt.TheOpen.{Stmt-F}
use Rattle.c_typed.specs.declared.stmt.Stmt.TheVariants as stmt_form
use Rattle.c_typed.specs.declared.program.Struct.{Struct}
use Rattle.c_typed.specs.IsWell.{sizes_in, IsObject, IsTyping, Context, Round, operands_of, operand_there, IsExpr, AreExprs, IsConditionThere, IsStmtLayer, Placed, placed, stmt_there, in_branches, in_branch_of, stmts_of, IsStmt, AreStmts, known, none, each}
use Rattle.tac_lower.specs.tools.Well.{small_by, IsSmall, IsSmallTyping, WellExpr, WellExprs, WellConditionThere, WellStmt, WellStmts, WellBranches}

-- Types.
object_small : (structs : List Struct) (t : ObjectType) → IsObject structs t → IsSmall (sizes_in structs) t
object_small structs t is = by t.lengths refl
  where
    by : (ns : List ℕ) → t.lengths ≡ ns → small_by (sizes_in structs) t ns
    by [] e = tt
    by (n ∷ ns) e = (subst (λ xs. All (λ n. 0 < n) xs) e is.lengths, is.words)

typing_small : (structs : List Struct) (s : ExprType) → IsTyping structs s → IsSmallTyping (sizes_in structs) s
typing_small structs (ExprType.Place t) is = object_small structs t is
typing_small structs (ExprType.Pointer t) is = object_small structs t is
typing_small structs s is = tt

-- Members of a list.
pub expr_at : (structs : List Struct) (es : List Expr) (i : ℕ) (e : Expr) → i < length es → e ≡ get_or es i e → WellExprs structs es → WellExpr structs e
expr_at structs [] i e less is all = absurd (omega (arith, less))
expr_at structs (x ∷ es) zero e less is all = subst (WellExpr structs) (sym is) all.0
expr_at structs (x ∷ es) (suc i) e less is all = expr_at structs es i e (omega (arith, less)) is all.1

pub stmt_at : (structs : List Struct) (ss : List Stmt) (i : ℕ) (s : Stmt) → i < length ss → s ≡ get_or ss i s → WellStmts structs ss → WellStmt structs s
stmt_at structs [] i s less is all = absurd (omega (arith, less))
stmt_at structs (x ∷ ss) zero s less is all = subst (WellStmt structs) (sym is) all.0
stmt_at structs (x ∷ ss) (suc i) s less is all = stmt_at structs ss i s (omega (arith, less)) is all.1

pub branch_at : (structs : List Struct) (bs : List (Branch Stmt)) (i : ℕ) (b : Branch Stmt) → i < length bs → b ≡ get_or bs i b → WellBranches structs bs → WellStmts structs b.body
branch_at structs [] i b less is all = absurd (omega (arith, less))
branch_at structs (x ∷ bs) zero b less is all = subst (λ (b : Branch Stmt). WellStmts structs b.body) (sym is) all.0
branch_at structs (x ∷ bs) (suc i) b less is all = branch_at structs bs i b (omega (arith, less)) is all.1

-- Expressions.
module _ (structs : List Struct) (c : Context) (same : c.structs ≡ structs) where
  exprs_well : {es : List Expr} → AreExprs c es → WellExprs structs es
  exprs_well none = tt
  exprs_well (each e es is rest) = (record { context = c; same = same; known = is }, exprs_well rest)

  layer_well : {e : Expr} → IsExpr c e → WellExprs structs (operands_of (out-Form e.form))
  layer_well (known e t l ops) = exprs_well ops

  own_small : {e : Expr} → IsExpr c e → IsSmallTyping (sizes_in structs) e.typing
  own_small (known e t l ops) = typing_small structs e.typing (subst (λ ss. IsTyping ss e.typing) same t)

pub expr_small : (structs : List Struct) (e : Expr) → WellExpr structs e → IsSmallTyping (sizes_in structs) e.typing
expr_small structs e well = own_small structs well.context well.same well.known

of_form : (structs : List Struct) (e : Expr) (x : Form-F Form Expr) (f : Form) → e.form ≡ f → f ≡ roll-Form x → WellExpr structs e → WellExprs structs (operands_of x)
of_form structs e x f is rolled well =
    let out : out-Form e.form ≡ x = ap out-Form (is ∙ rolled) ∙ out-roll-Form x in
    subst (λ y. WellExprs structs (operands_of y)) out (layer_well structs well.context well.same well.known)

again : (structs : List Struct) (x y : Expr) → y ≡ x → WellExpr structs x → WellExpr structs y
again structs x y same well = subst (WellExpr structs) (sym same) well

module _ (structs : List Struct) (e : Expr) (well : WellExpr structs e) where
  pub deref_well : (p : Expr) → e.form ≡ form.Deref p → WellExpr structs p
  deref_well p is = (of_form structs e (Form-F.Deref p) _ is (sym (form.rolls-Deref p)) well).0

  pub index_pointer_well : (p i : Expr) → e.form ≡ form.Index p i → WellExpr structs p
  index_pointer_well p i is = (of_form structs e (Form-F.Index p i) _ is (sym (form.rolls-Index p i)) well).0

  pub index_well : (p i : Expr) → e.form ≡ form.Index p i → WellExpr structs i
  index_well p i is = (of_form structs e (Form-F.Index p i) _ is (sym (form.rolls-Index p i)) well).1.0

  pub field_well : (x y : Expr) (k : ℕ) → e.form ≡ form.Field x k → y ≡ x → WellExpr structs y
  field_well x y k is same = again structs x y same (of_form structs e (Form-F.Field x k) _ is (sym (form.rolls-Field x k)) well).0

  pub arrow_well : (p : Expr) (k : ℕ) → e.form ≡ form.Arrow p k → WellExpr structs p
  arrow_well p k is = (of_form structs e (Form-F.Arrow p k) _ is (sym (form.rolls-Arrow p k)) well).0

  pub read_well : (x y : Expr) → e.form ≡ form.Read x → y ≡ x → WellExpr structs y
  read_well x y is same = again structs x y same (of_form structs e (Form-F.Read x) _ is (sym (form.rolls-Read x)) well).0

  pub decay_well : (x y : Expr) → e.form ≡ form.Decay x → y ≡ x → WellExpr structs y
  decay_well x y is same = again structs x y same (of_form structs e (Form-F.Decay x) _ is (sym (form.rolls-Decay x)) well).0

  pub address_well : (x y : Expr) → e.form ≡ form.Address x → y ≡ x → WellExpr structs y
  address_well x y is same = again structs x y same (of_form structs e (Form-F.Address x) _ is (sym (form.rolls-Address x)) well).0

  pub prefix_well : (op : PrefixOp) (x : Expr) → e.form ≡ form.Prefix op x → WellExpr structs x
  prefix_well op x is = (of_form structs e (Form-F.Prefix op x) _ is (sym (form.rolls-Prefix op x)) well).0

  pub left_well : (l : Expr) (op : BinaryOp) (r : Expr) → e.form ≡ form.Binary l op r → WellExpr structs l
  left_well l op r is = (of_form structs e (Form-F.Binary l op r) _ is (sym (form.rolls-Binary l op r)) well).0

  pub right_well : (l : Expr) (op : BinaryOp) (r : Expr) → e.form ≡ form.Binary l op r → WellExpr structs r
  right_well l op r is = (of_form structs e (Form-F.Binary l op r) _ is (sym (form.rolls-Binary l op r)) well).1.0

  pub call_well : (k : ℕ) (es xs : List Expr) → e.form ≡ form.Call k es → xs ≡ es → WellExprs structs xs
  call_well k es xs is same = subst (WellExprs structs) (sym same) (of_form structs e (Form-F.Call k es) _ is (sym (form.rolls-Call k es)) well)

  pub new_well : (n : ℕ) (t : ObjectType) (count : Option Expr) (x : Expr) → e.form ≡ form.New n t count → count ≡ Some x → WellExpr structs x
  new_well n t count x is some =
      let all = of_form structs e (Form-F.New n t count) _ is (sym (form.rolls-New n t count)) well in
      (subst (λ o. WellExprs structs (operand_there o)) some all).0

-- Statements.
module _ (structs : List Struct) (c : Context) (same : c.structs ≡ structs) where
  -- each statement with what stands round it
  abbrev AllWell : List Placed → Type 0
  AllWell [] = Unit {0}
  AllWell (p ∷ ps) = WellStmt structs p.1 × AllWell ps

  all_well : {ps : List Placed} → AreStmts c ps → AllWell ps
  all_well none = tt
  all_well (each p ps is rest) = (record { context = c; round = p.0; same = same; known = is }, all_well rest)

  placed_well : (r : Round) (ss : List Stmt) → AllWell (placed r ss) → WellStmts structs ss
  placed_well r [] all = tt
  placed_well r (s ∷ ss) all = (all.0, placed_well r ss all.1)

  first_well : (ps qs : List Placed) → AllWell (ps ++ qs) → AllWell ps × AllWell qs
  first_well [] qs all = (tt, all)
  first_well (p ∷ ps) qs all = (let rest = first_well ps qs all.1 in ((all.0, rest.0), rest.1))

  branches_well : (bs : List (Branch Stmt)) → AllWell (in_branches bs) → WellBranches structs bs
  branches_well [] all = tt
  branches_well (b ∷ bs) all = (let both = first_well (placed in_branch_of b.body) (in_branches bs) all in (placed_well in_branch_of b.body both.0, branches_well bs both.1))

  guard_well : (d : Option Condition) → IsConditionThere c d → WellConditionThere structs d
  guard_well None is = tt
  guard_well (Some d) is = record { context = c; same = same; known = is.value }

pub body_well : (structs : List Struct) (c : Context) (same : c.structs ≡ structs) (r : Round) (ss : List Stmt) → AreStmts c (placed r ss) → WellStmts structs ss
body_well structs c same r ss all = placed_well structs c same r ss (all_well structs c same all)

record Layers (structs : List Struct) (x : Stmt-F Stmt) : Type 0 where
  context : Context
  round : Round
  same : context.structs ≡ structs
  layer : IsStmtLayer context round x
  all : AreStmts context (stmts_of round x)

layers_known : (structs : List Struct) (c : Context) (same : c.structs ≡ structs) {r : Round} {s : Stmt} → IsStmt c r s → Layers structs (out-Stmt s)
layers_known structs c same (known r s l all) = record { context = c; round = r; same = same; layer = l; all = all }

layers_of : (structs : List Struct) (s : Stmt) (x : Stmt-F Stmt) (f : Stmt) → s ≡ f → f ≡ roll-Stmt x → WellStmt structs s → Layers structs x
layers_of structs s x f is rolled well =
    let out : out-Stmt s ≡ x = ap out-Stmt (is ∙ rolled) ∙ out-roll-Stmt x in
    subst (Layers structs) out (layers_known structs well.context well.same well.known)

module _ (structs : List Struct) (s : Stmt) (well : WellStmt structs s) where
  pub block_well : (ss : List Stmt) → s ≡ stmt_form.Block ss → WellStmts structs ss
  block_well ss is = (let k = layers_of structs s (Stmt-F.Block ss) _ is (sym (stmt_form.rolls-Block ss)) well in body_well structs k.context k.same k.round ss k.all)

  pub if_well : (line : Line) (d : Condition) (first : Stmt) (second : Option Stmt) → s ≡ stmt_form.If line d first second → WellExpr structs d.value × WellStmt structs first
  if_well line d first second is =
      let k = layers_of structs s (Stmt-F.If line d first second) _ is (sym (stmt_form.rolls-If line d first second)) well in
      (record { context = k.context; same = k.same; known = k.layer.value }, (all_well structs k.context k.same k.all).0)

  pub else_well : (line : Line) (d : Condition) (first : Stmt) (second : Option Stmt) (other : Stmt) → s ≡ stmt_form.If line d first second → second ≡ Some other → WellStmt structs other
  else_well line d first second other is some =
      let k = layers_of structs s (Stmt-F.If line d first second) _ is (sym (stmt_form.rolls-If line d first second)) well in
      (subst (λ o. AllWell structs k.context k.same (stmt_there k.round o)) some (all_well structs k.context k.same k.all).1).0

  pub while_well : (line : Line) (d : Condition) (body : Stmt) → s ≡ stmt_form.While line d body → WellExpr structs d.value × WellStmt structs body
  while_well line d body is =
      let k = layers_of structs s (Stmt-F.While line d body) _ is (sym (stmt_form.rolls-While line d body)) well in
      (record { context = k.context; same = k.same; known = k.layer.value }, (all_well structs k.context k.same k.all).0)

  pub for_well : (line : Line) (start : Stmt) (d : Option Condition) (step body : Stmt) → s ≡ stmt_form.For line start d step body
      → WellStmt structs start × WellConditionThere structs d × WellStmt structs step × WellStmt structs body
  for_well line start d step body is =
      let k = layers_of structs s (Stmt-F.For line start d step body) _ is (sym (stmt_form.rolls-For line start d step body)) well in
      let all = all_well structs k.context k.same k.all in
      (all.0, guard_well structs k.context k.same d k.layer.0, all.1.0, all.1.1.0)

  pub par_well : (line : Line) (bs : List (Branch Stmt)) → s ≡ stmt_form.Par line bs → WellBranches structs bs
  par_well line bs is =
      let k = layers_of structs s (Stmt-F.Par line bs) _ is (sym (stmt_form.rolls-Par line bs)) well in
      branches_well structs k.context k.same bs (all_well structs k.context k.same k.all)
