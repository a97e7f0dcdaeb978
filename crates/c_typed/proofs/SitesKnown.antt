-- What is well-formed stays so when its sites are numbered.
use Rattle.std.proofs.Common.{◌≡◌, ℕ, suc, ◌+◌, ◌≤◌, true, false, ◌&&◌, List, [], ◌∷◌, ◌++◌, map, length, Option, Some, None, refl, ap, sym, ◌∙◌, subst}
use Rattle.c_typed.specs.declared.types.ObjectType.{ObjectType}
use Rattle.c_typed.specs.declared.types.ExprType.{ExprType}
use Rattle.c_typed.specs.declared.expr.Expr.{Expr}
use Rattle.c_typed.specs.declared.expr.Form.{Form, out-Form, roll-Form, out-roll-Form}
use Rattle.c_typed.specs.declared.expr.Form.TheOpen.{Form-F}
use Rattle.c_typed.specs.declared.stmt.Branch.{Branch}
use Rattle.c_typed.specs.declared.stmt.Condition.{Condition}
use Rattle.c_typed.specs.declared.stmt.Stmt.{Stmt, roll-Stmt, out-Stmt, out-roll-Stmt, map-Stmt}
use Rattle.c_typed.specs.declared.stmt.Stmt.TheOpen.{Stmt-F}
use Rattle.c_typed.specs.Types.{accepts, is_truth, fits}
use Rattle.c_typed.specs.Exprs.{binary_type, all_fit}
use Rattle.c_typed.specs.Stmts.{scalar_at, assigns_scalar}
use Rattle.c_typed.specs.Sites.{Sited, in_turn, number_form, expr, expr_there, condition, condition_there, branch, number_layer, stmt}
use Rattle.c_typed.specs.IsWell.{Context, IsTyping, IsPrefix, IsFreed, IsLayer, operands_of, IsExpr, AreExprs, Round, in_loop_of, out_of_loop, in_branch_of, IsCondition, IsConditionThere, IsTarget, is_call, is_simple, IsReturned, IsStmtLayer, Placed, placed, in_branches, stmts_of, IsStmt, AreStmts}
use Rattle.c_typed.proofs.SiteLevels.{with_form, mapped, expr_of, typing_is, stmt_of, with_body, branches_mapped}

fits_same : (es : List Expr) (ts : List ObjectType) (n : ℕ) → all_fit ((in_turn (map expr es)).from n) ts ≡ all_fit es ts
fits_same [] [] n = refl
fits_same [] (t ∷ ts) n = refl
fits_same (e ∷ es) [] n = refl
fits_same (e ∷ es) (t ∷ ts) n =
    ap (λ s. accepts s t && all_fit ((in_turn (map expr es)).from (n + (expr e).count)) ts) (typing_is e n)
    ∙ ap (λ b. accepts e.typing t && b) (fits_same es ts (n + (expr e).count))

module _ (c : Context) where
  layer_known : (s : ExprType) (x : Form-F Form Expr) → IsTyping c.structs s → IsLayer c s x → AreExprs c (operands_of x) → IsExpr c (with_form s (roll-Form x))
  layer_known s x t l es =
      IsExpr.known (with_form s (roll-Form x)) t (subst (IsLayer c s) (sym (out-roll-Form x)) l) (subst (λ x. AreExprs c (operands_of x)) (sym (out-roll-Form x)) es)

  -- wherever the numbers begin
  abbrev IsNumbered : Expr → Type 0
  IsNumbered e = (n : ℕ) → IsExpr c ((expr e).from n)

  abbrev AreNumbered : List Expr → Type 0
  AreNumbered [] = Unit {0}
  AreNumbered (e ∷ es) = IsNumbered e × AreNumbered es

  all_known : (es : List Expr) (n : ℕ) → AreNumbered es → AreExprs c ((in_turn (map expr es)).from n)
  all_known [] n all = AreExprs.none
  all_known (e ∷ es) n all = AreExprs.each ((expr e).from n) ((in_turn (map expr es)).from (n + (expr e).count)) (all.0 n) (all_known es (n + (expr e).count) all.1)

  single : (e : Expr) (n : ℕ) → IsNumbered e → AreExprs c ((expr e).from n ∷ [])
  single e n is = AreExprs.each ((expr e).from n) [] (is n) AreExprs.none

  level_known : (s : ExprType) (x : Form-F Form Expr) (n : ℕ) → IsTyping c.structs s → IsLayer c s x → AreNumbered (operands_of x) → IsExpr c (with_form s ((number_form (mapped x)).from n))
  level_known s (Form-F.Global k) n t l all = layer_known s (Form-F.Global k) t l AreExprs.none
  level_known s (Form-F.Local k) n t l all = layer_known s (Form-F.Local k) t l AreExprs.none
  level_known s (Form-F.Deref e) n t l all = layer_known s (Form-F.Deref ((expr e).from n)) t (l.0, typing_is e n ∙ l.1, l.2) (single e n all.0)
  level_known s (Form-F.Index e i) n t l all =
      let m = n + (expr e).count in
      layer_known s (Form-F.Index ((expr e).from n) ((expr i).from m)) t (l.0, typing_is e n ∙ l.1, typing_is i m ∙ l.2, l.3)
      (AreExprs.each ((expr e).from n) ((expr i).from m ∷ []) (all.0 n) (single i m all.1.0))
  level_known s (Form-F.Field e k) n t l all = layer_known s (Form-F.Field ((expr e).from n) k) t (l.0, typing_is e n ∙ l.1, l.2) (single e n all.0)
  level_known s (Form-F.Arrow e k) n t l all = layer_known s (Form-F.Arrow ((expr e).from n) k) t (l.0, typing_is e n ∙ l.1, l.2) (single e n all.0)
  level_known s (Form-F.Number k) n t l all = layer_known s (Form-F.Number k) t l AreExprs.none
  level_known s Form-F.Null n t l all = layer_known s Form-F.Null t l AreExprs.none
  level_known s (Form-F.Read e) n t l all = layer_known s (Form-F.Read ((expr e).from n)) t (l.0, typing_is e n ∙ l.1, l.2, l.3) (single e n all.0)
  level_known s (Form-F.Decay e) n t l all = layer_known s (Form-F.Decay ((expr e).from n)) t (l.0, l.1, l.2, typing_is e n ∙ l.3, l.4, l.5) (single e n all.0)
  level_known s (Form-F.Address e) n t l all = layer_known s (Form-F.Address ((expr e).from n)) t (l.0, typing_is e n ∙ l.1, l.2, l.3) (single e n all.0)
  level_known s (Form-F.Prefix op e) n t l all = layer_known s (Form-F.Prefix op ((expr e).from n)) t (subst (IsPrefix op) (sym (typing_is e n)) l.0, l.1) (single e n all.0)
  level_known s (Form-F.Binary e op f) n t l all =
      let m = n + (expr e).count in
      layer_known s (Form-F.Binary ((expr e).from n) op ((expr f).from m)) t
      (ap (λ t. binary_type op t ((expr f).from m).typing) (typing_is e n) ∙ ap (λ t. binary_type op e.typing t) (typing_is f m) ∙ l)
      (AreExprs.each ((expr e).from n) ((expr f).from m ∷ []) (all.0 n) (single f m all.1.0))
  level_known s (Form-F.Call k es) n t l all =
      layer_known s (Form-F.Call k ((in_turn (map expr es)).from n)) t
      (record { callee = l.callee; there = l.there; other = l.other; fit = fits_same es l.callee.parameters n ∙ l.fit; typing = l.typing }) (all_known es n all)
  level_known s Form-F.GetInt n t l all = layer_known s Form-F.GetInt t l AreExprs.none
  level_known s Form-F.Left n t l all = layer_known s Form-F.Left t l AreExprs.none
  level_known s (Form-F.New site item None) n t l all = layer_known s (Form-F.New (n + 0) item None) t l AreExprs.none
  level_known s (Form-F.New site item (Some e)) n t l all =
      layer_known s (Form-F.New (n + (expr e).count) item (Some ((expr e).from n))) t (typing_is e n ∙ l.0, l.1, l.2) (single e n all.0)

  mutual
    pub expr_known : {e : Expr} → IsExpr c e → (n : ℕ) → IsExpr c ((expr e).from n)
    expr_known (IsExpr.known e t l es) n = subst (IsExpr c) (sym (ap (λ p. p.from n) (expr_of e))) (level_known e.typing (out-Form e.form) n t l (exprs_known es))

    exprs_known : {es : List Expr} → AreExprs c es → AreNumbered es
    exprs_known AreExprs.none = tt
    exprs_known (AreExprs.each e es is rest) = (expr_known is, exprs_known rest)

  -- Statements.
  condition_known : (d : Condition) (n : ℕ) → IsCondition c d → IsCondition c ((condition d).from n)
  condition_known d n is = record { value = expr_known is.value n; truth = ap is_truth (typing_is d.value n) ∙ is.truth }

  there_known : (d : Option Condition) (n : ℕ) → IsConditionThere c d → IsConditionThere c ((condition_there d).from n)
  there_known None n is = tt
  there_known (Some d) n is = condition_known d n is

  abbrev target_known : (e : Expr) (n : ℕ) (is : IsTarget c e) → IsTarget c ((expr e).from n)
  target_known e n is = record { known = expr_known is.known n; scalar = is.scalar; place = ap scalar_at (typing_is e n) ∙ is.place }

  call_stays : (x : Form-F Form Expr) (n : ℕ) → is_call x ≡ true → is_call (out-Form ((number_form (mapped x)).from n)) ≡ true
  call_stays (Form-F.Call k es) n is = ap is_call (out-roll-Form (Form-F.Call k ((in_turn (map expr es)).from n)))
  call_stays Form-F.GetInt n is = ap is_call (out-roll-Form Form-F.GetInt)
  call_stays Form-F.Left n is = ap is_call (out-roll-Form Form-F.Left)
  call_stays (Form-F.New site item None) n is = ap is_call (out-roll-Form (Form-F.New (n + 0) item None))
  call_stays (Form-F.New site item (Some e)) n is = ap is_call (out-roll-Form (Form-F.New (n + (expr e).count) item (Some ((expr e).from n))))
  call_stays _ n is = absurd (subst (λ b. elim b as (λ b. Type 0) [ true ↦ ⊥ | false ↦ Unit {0} ]) is tt)

  is_called : (e : Expr) (n : ℕ) → is_call (out-Form e.form) ≡ true → is_call (out-Form ((expr e).from n).form) ≡ true
  is_called e n is = ap (λ p. is_call (out-Form (p.from n).form)) (expr_of e) ∙ call_stays (out-Form e.form) n is

  returned_known : (o : Option ObjectType) (v : Option Expr) (n : ℕ) → IsReturned c o v → IsReturned c o ((expr_there v).from n)
  returned_known None None n is = tt
  returned_known (Some t) (Some e) n is = (expr_known is.0 n, ap (λ s. fits s t) (typing_is e n) ∙ is.1)
  returned_known None (Some e) n is = is
  returned_known (Some t) None n is = is

  made : (r : Round) (x : Stmt-F Stmt) → IsStmtLayer c r x → AreStmts c (stmts_of r x) → IsStmt c r (roll-Stmt x)
  made r x l ss = IsStmt.known r (roll-Stmt x) (subst (IsStmtLayer c r) (sym (out-roll-Stmt x)) l) (subst (λ x. AreStmts c (stmts_of r x)) (sym (out-roll-Stmt x)) ss)

  abbrev IsPlaced : Placed → Type 0
  IsPlaced p = (n : ℕ) → IsStmt c p.0 ((stmt p.1).from n)

  abbrev ArePlaced : List Placed → Type 0
  ArePlaced [] = Unit {0}
  ArePlaced (p ∷ ps) = IsPlaced p × ArePlaced ps

  turn_known : (r : Round) (ss : List Stmt) (n : ℕ) → ArePlaced (placed r ss) → AreStmts c (placed r ((in_turn (map stmt ss)).from n))
  turn_known r [] n all = AreStmts.none
  turn_known r (s ∷ ss) n all =
      let rest = (in_turn (map stmt ss)).from (n + (stmt s).count) in
      AreStmts.each (r, (stmt s).from n) (placed r rest) (all.0 n) (turn_known r ss (n + (stmt s).count) all.1)

  alone : (r : Round) (s : Stmt) → IsStmt c r s → AreStmts c ((r, s) ∷ [])
  alone r s is = AreStmts.each (r, s) [] is AreStmts.none

  split : (ps qs : List Placed) → ArePlaced (ps ++ qs) → ArePlaced ps × ArePlaced qs
  split [] qs all = (tt, all)
  split (p ∷ ps) qs all = (let rest = split ps qs all.1 in ((all.0, rest.0), rest.1))

  are_append : (ps qs : List Placed) → AreStmts c ps → AreStmts c qs → AreStmts c (ps ++ qs)
  are_append [] qs is that = that
  are_append (p ∷ ps) qs (AreStmts.each q rs first rest) that = AreStmts.each p (ps ++ qs) first (are_append ps qs rest that)

  -- the branches of a `par`
  branches_known : (bs : List (Branch Stmt)) (n : ℕ) → ArePlaced (in_branches bs) → AreStmts c (in_branches ((in_turn (map branch (map (with_body stmt) bs))).from n))
  branches_known [] n all = AreStmts.none
  branches_known (b ∷ bs) n all =
      let m = n + (in_turn (map stmt b.body)).count in
      let parts = split (placed in_branch_of b.body) (in_branches bs) all in
      are_append (placed in_branch_of ((in_turn (map stmt b.body)).from n)) (in_branches ((in_turn (map branch (map (with_body stmt) bs))).from m))
      (turn_known in_branch_of b.body n parts.0) (branches_known bs m parts.1)

  count_branches : (bs : List (Branch Stmt)) (n : ℕ) → length ((in_turn (map branch (map (with_body stmt) bs))).from n) ≡ length bs
  count_branches [] n = refl
  count_branches (b ∷ bs) n = ap suc (count_branches bs (n + (in_turn (map stmt b.body)).count))

  -- the step of a `for` stays simple
  simple_stays : (x : Stmt-F Stmt) (n : ℕ) → is_simple x ≡ true → is_simple (out-Stmt ((number_layer (map-Stmt Stmt (Sited Stmt) stmt x)).from n)) ≡ true
  simple_stays (Stmt-F.Assign line e op v) n is = ap is_simple (out-roll-Stmt (Stmt-F.Assign line ((expr e).from n) op ((expr v).from (n + (expr e).count))))
  simple_stays (Stmt-F.Increment line e) n is = ap is_simple (out-roll-Stmt (Stmt-F.Increment line ((expr e).from n)))
  simple_stays (Stmt-F.Decrement line e) n is = ap is_simple (out-roll-Stmt (Stmt-F.Decrement line ((expr e).from n)))
  simple_stays (Stmt-F.Call line e) n is = ap is_simple (out-roll-Stmt (Stmt-F.Call line ((expr e).from n)))
  simple_stays (Stmt-F.PutInt line e) n is = ap is_simple (out-roll-Stmt (Stmt-F.PutInt line ((expr e).from n)))
  simple_stays (Stmt-F.Free line e) n is = ap is_simple (out-roll-Stmt (Stmt-F.Free line ((expr e).from n)))
  simple_stays (Stmt-F.Block []) n is = ap is_simple (out-roll-Stmt (Stmt-F.Block []))
  simple_stays (Stmt-F.Block (s ∷ ss)) n is = absurd (subst (λ b. elim b as (λ b. Type 0) [ true ↦ ⊥ | false ↦ Unit {0} ]) is tt)
  simple_stays _ n is = absurd (subst (λ b. elim b as (λ b. Type 0) [ true ↦ ⊥ | false ↦ Unit {0} ]) is tt)

  step_stays : (s : Stmt) (n : ℕ) → is_simple (out-Stmt s) ≡ true → is_simple (out-Stmt ((stmt s).from n)) ≡ true
  step_stays s n is = ap (λ p. is_simple (out-Stmt (p.from n))) (stmt_of s) ∙ simple_stays (out-Stmt s) n is

  layer_stays : (r : Round) (x : Stmt-F Stmt) (n : ℕ) → IsStmtLayer c r x → ArePlaced (stmts_of r x) → IsStmt c r ((number_layer (map-Stmt Stmt (Sited Stmt) stmt x)).from n)
  layer_stays r (Stmt-F.Block ss) n l all = made r (Stmt-F.Block ((in_turn (map stmt ss)).from n)) tt (turn_known r ss n all)
  layer_stays r (Stmt-F.Assign line e op v) n l all =
      let m = n + (expr e).count in
      made r (Stmt-F.Assign line ((expr e).from n) op ((expr v).from m))
      (target_known e n l.0, expr_known l.1 m, ap (λ s. assigns_scalar op l.0.scalar s) (typing_is v m) ∙ l.2) AreStmts.none
  layer_stays r (Stmt-F.Increment line e) n l all = made r (Stmt-F.Increment line ((expr e).from n)) (target_known e n l) AreStmts.none
  layer_stays r (Stmt-F.Decrement line e) n l all = made r (Stmt-F.Decrement line ((expr e).from n)) (target_known e n l) AreStmts.none
  layer_stays r (Stmt-F.Call line e) n l all = made r (Stmt-F.Call line ((expr e).from n)) (expr_known l.0 n, is_called e n l.1) AreStmts.none
  layer_stays r (Stmt-F.PutInt line e) n l all = made r (Stmt-F.PutInt line ((expr e).from n)) (expr_known l.0 n, typing_is e n ∙ l.1) AreStmts.none
  layer_stays r (Stmt-F.Free line e) n l all = made r (Stmt-F.Free line ((expr e).from n)) (expr_known l.0 n, subst IsFreed (sym (typing_is e n)) l.1) AreStmts.none
  layer_stays r (Stmt-F.Return line v) n l all = made r (Stmt-F.Return line ((expr_there v).from n)) (l.0, returned_known c.result v n l.1) AreStmts.none
  layer_stays r (Stmt-F.Break line) n l all = made r (Stmt-F.Break line) l AreStmts.none
  layer_stays r (Stmt-F.Continue line) n l all = made r (Stmt-F.Continue line) l AreStmts.none
  layer_stays r (Stmt-F.If line d first None) n l all =
      let k = n + (condition d).count in
      made r (Stmt-F.If line ((condition d).from n) ((stmt first).from k) None) (condition_known d n l) (alone r ((stmt first).from k) (all.0 k))
  layer_stays r (Stmt-F.If line d first (Some second)) n l all =
      let k = n + (condition d).count in
      let m = n + ((condition d).count + (stmt first).count) in
      made r (Stmt-F.If line ((condition d).from n) ((stmt first).from k) (Some ((stmt second).from m))) (condition_known d n l)
      (AreStmts.each (r, (stmt first).from k) ((r, (stmt second).from m) ∷ []) (all.0 k) (alone r ((stmt second).from m) (all.1.0 m)))
  layer_stays r (Stmt-F.While line d body) n l all =
      let k = n + (condition d).count in
      made r (Stmt-F.While line ((condition d).from n) ((stmt body).from k)) (condition_known d n l) (alone (in_loop_of r) ((stmt body).from k) (all.0 k))
  layer_stays r (Stmt-F.For line start d step body) n l all =
      let i = n + (stmt start).count in
      let j = n + ((stmt start).count + (condition_there d).count) in
      let k = n + ((stmt start).count + (condition_there d).count + (stmt body).count) in
      made r (Stmt-F.For line ((stmt start).from n) ((condition_there d).from i) ((stmt step).from k) ((stmt body).from j)) (there_known d i l.0, step_stays step k l.1)
      (AreStmts.each (out_of_loop r, (stmt start).from n) ((out_of_loop r, (stmt step).from k) ∷ (in_loop_of r, (stmt body).from j) ∷ []) (all.0 n)
      (AreStmts.each (out_of_loop r, (stmt step).from k) ((in_loop_of r, (stmt body).from j) ∷ []) (all.1.0 k) (alone (in_loop_of r) ((stmt body).from j) (all.1.1.0 j))))
  layer_stays r (Stmt-F.Par line bs) n l all =
      subst (λ ys. IsStmt c r (roll-Stmt (Stmt-F.Par line ((in_turn (map branch ys)).from n)))) (sym (branches_mapped stmt line bs))
      (made r (Stmt-F.Par line ((in_turn (map branch (map (with_body stmt) bs))).from n))
      (subst (λ k. 2 ≤ k) (sym (count_branches bs n)) l.0, subst (λ k. k ≤ 15) (sym (count_branches bs n)) l.1)
      (branches_known bs n all))

  mutual
    pub stmt_known : {r : Round} {s : Stmt} → IsStmt c r s → (n : ℕ) → IsStmt c r ((stmt s).from n)
    stmt_known (IsStmt.known r s l all) n = subst (IsStmt c r) (sym (ap (λ p. p.from n) (stmt_of s))) (layer_stays r (out-Stmt s) n l (stmts_known all))

    stmts_known : {ps : List Placed} → AreStmts c ps → ArePlaced ps
    stmts_known AreStmts.none = tt
    stmts_known (AreStmts.each p ps is rest) = (stmt_known is, stmts_known rest)

  pub body_known : (r : Round) (ss : List Stmt) (n : ℕ) → AreStmts c (placed r ss) → AreStmts c (placed r ((in_turn (map stmt ss)).from n))
  body_known r ss n all = turn_known r ss n (stmts_known all)
