-- The code of a well-formed statement holds where it stands.
use Rattle.std.proofs.Common.{◌≡◌, ℕ, zero, suc, ◌+◌, ◌<◌, ◌≤◌, inl, inr, Bool, true, false, pos, List, [], ◌∷◌, ◌++◌, map, length, Option, Some, None, refl, ap, sym, ◌∙◌, subst, arith}
use Rattle.std.specs.Prelude.{All}
use Rattle.std.proofs.lemmas.List.{length-map}
use Rattle.dfi_base.specs.declared.numbers.Line.{Line}
use Rattle.c_ast.specs.declared.stmt.AssignOp.{AssignOp}
use Rattle.c_typed.specs.declared.types.BaseType.{BaseType}
use Rattle.c_typed.specs.declared.types.ObjectType.{ObjectType}
use Rattle.c_typed.specs.declared.types.ExprType.{ExprType}
use Rattle.c_typed.specs.declared.expr.Expr.{Expr}
use Rattle.c_typed.specs.declared.stmt.Branch.{Branch}
use Rattle.c_typed.specs.declared.stmt.Condition.{Condition}
use Rattle.c_typed.specs.declared.stmt.Stmt.{Stmt, out-Stmt, map-Stmt}
use Rattle.c_typed.specs.declared.stmt.Stmt.TheOpen.{Stmt-F}
use Rattle.c_typed.specs.Types.{words_of, scalar_type}
use Rattle.c_typed.specs.Stmts as typed
use Rattle.c_typed.specs.IsWell.{Context, Round, IsBase, IsTyping, IsTarget, IsCondition, IsConditionThere, IsReturned, IsStmtLayer, Placed, placed, in_branches, in_branch_of, out_of_loop, stmts_of, IsStmt, AreStmts, known, none, each}
use Rattle.tac_ir.specs.declared.code.Place.{Place}
use Rattle.tac_lower.specs.declared.draft.Ends.{Ends}
use Rattle.c_typed.specs.Elaboration.{Operation, scalar_by, update}
use Rattle.tac_lower.specs.Parts.{Part, in_turn, ◌▷◌}
use Rattle.tac_ir.specs.declared.code.Instr.{Instr}
use Rattle.tac_lower.specs.Instrs.{quiet, constant, get, load, set, store, test}
use Rattle.tac_lower.specs.Values.{Yield, expr, value, truth, carried}
use Rattle.tac_lower.specs.Stmts.{Around, assigned, updated, compound, is_plain, assignment_by, scalar_at, returned, return, condition, guard, for, ended, branches, stmt_step, stmt}
use Rattle.tac_lower.proofs.pieces.Levels.{typing_is, branches_of}
use Rattle.tac_lower.proofs.emitted.Chains.{carried_counts}
use Rattle.tac_lower.proofs.form.Holds.{World, Anywhere, Holds, holds_chained, holds_then, holds_next, holds_more, holds_given}
use Rattle.tac_lower.proofs.form.Names.{Shaped, IsPlaceOf}
use Rattle.tac_lower.proofs.form.Fits.{out_holds as put_holds, free_holds, constant_holds, get_holds, load_holds, set_holds, store_holds, leaving_holds, test_holds, IsMainBy, returned_holds, returned_points}
use Rattle.tac_lower.proofs.form.ExprParts.{HasItems, Piece, YieldHolds, onward_holds, carried_holds, AllHold}
use Rattle.tac_lower.proofs.form.Exprs.{leaf_of, ExprHolds, value_holds, truth_holds, expr_holds}
use Rattle.tac_lower.proofs.form.Loops.{aims_of, IsGuard, turn_all, choice_one, choice_two, while_holds, for_holds}
use Rattle.tac_lower.proofs.form.Forks.{Nowhere, Bodies}
use Rattle.tac_lower.proofs.form.Par.{branches_holds}
use Rattle.tac_lower.proofs.form.RunStmts.{with_body, branches_mapped, stmt_of}

-- The type of what stands at a target: where it is a pointer, its items have words.
abbrev HasWords : List ℕ → ExprType → Type 0
HasWords sizes (ExprType.Pointer t) = 1 ≤ words_of sizes t
HasWords sizes s = Unit {0}

-- a target's type is that of a scalar place
target_scalar : (s : ExprType) (t : ObjectType) (v : ExprType) → s ≡ ExprType.Place t → typed.scalar_at s ≡ Some v → scalar_type t ≡ Some v
target_scalar s t v is has = ap typed.scalar_at (sym is) ∙ has

module _ (w : World) (c : Context) (a : Around) (names : Shaped w c a.sizes) where
  no_lengths : All (λ n. 0 < n) ([])
  no_lengths = λ k d within. absurd (omega arith)

  pointed_words : (base : BaseType) (stars : ℕ) (lengths : List ℕ) → IsBase c.structs base → HasWords a.sizes (scalar_by base stars lengths)
  pointed_words base (suc n) [] is = names.words (record { base = base; stars = n; lengths = [] }) is no_lengths
  pointed_words base (suc n) (k ∷ ks) is = tt
  pointed_words base zero lengths is = tt

  scalar_words : (s : ExprType) → IsTyping c.structs s → HasWords a.sizes (scalar_at s)
  scalar_words (ExprType.Place t) is = pointed_words t.base t.stars t.lengths is.base
  scalar_words (ExprType.Pointer t) is = pointed_words t.base t.stars t.lengths is.base
  scalar_words ExprType.Int is = tt
  scalar_words ExprType.Null is = tt
  scalar_words ExprType.Void is = tt
  scalar_words ExprType.Unknown is = absurd is

  update_items : (op : AssignOp) (s : ExprType) → HasWords a.sizes s → HasItems (update a.sizes op s)
  update_items AssignOp.Plain (ExprType.Pointer t) has = has
  update_items AssignOp.Plain s has = tt
  update_items AssignOp.Add (ExprType.Pointer t) has = has
  update_items AssignOp.Add s has = tt
  update_items AssignOp.Sub (ExprType.Pointer t) has = has
  update_items AssignOp.Sub s has = tt
  update_items op s has = tt

  module _ (b : Bool) (outs : Ends → ℕ → Type 0) where
    abbrev Good : Part ℕ → Type 0
    Good p = Piece w b outs p

    abbrev Known : Expr → Type 0
    Known e = ExprHolds w b outs c a.sizes names e

    value_good : (line : ℕ) (e : Expr) → Known e → Good (value line (expr a.sizes e))
    value_good line e is = value_holds w b outs c a.sizes names line e is

    set_good : (line : ℕ) (s : ExprType) (v : ExprType) → typed.scalar_at s ≡ Some v → (p : Place) (t : ObjectType) → s ≡ ExprType.Place t → IsPlaceOf w p t → (x : ℕ) → Good (set line p x)
    set_good line s v has p t is place x = set_holds w b (Anywhere outs) line p x (leaf_of w c a.sizes names p t v (target_scalar s t v is has) place)

    assigned_good : (line : ℕ) (s v : ExprType) → typed.scalar_at s ≡ Some v → (y : Yield) (p : Part ℕ) → YieldHolds w b outs s y → Good p → Good (assigned line y p)
    assigned_good line s v has y p at is =
        onward_holds w b outs s y (λ place. p ▷ λ x. set line place x) (λ to. p ▷ λ x. store line to x) at
        (λ place t e there. holds_then w b outs p (λ x. set line place x) is (λ x. set_good line s v has place t e there x) (λ x. refl))
        (λ to. holds_then w b outs p (λ x. store line to x) is (λ x. store_holds w b (Anywhere outs) line to x) (λ x. refl)) (λ to. refl)

    updated_good : (line : ℕ) (s v : ExprType) → typed.scalar_at s ≡ Some v → (y : Yield) (p : Part ℕ) (plan : Operation) → YieldHolds w b outs s y → Good p → HasItems plan → Good (updated line y p (carried line plan))
    updated_good line s v has y p plan at is good =
        onward_holds w b outs s y (λ place. get line place ▷ λ old. p ▷ λ x. carried line plan old x ▷ λ z. set line place z)
        (λ from. load line from ▷ λ old. p ▷ λ x. carried line plan old x ▷ λ z. store line from z) at
        (λ place t e there. holds_then w b outs (get line place) (λ old. p ▷ λ x. carried line plan old x ▷ λ z. set line place z)
        (get_holds w b (Anywhere outs) line place (leaf_of w c a.sizes names place t v (target_scalar s t v e has) there))
        (λ old. then_op old (λ z. set line place z) (λ z. set_good line s v has place t e there z) (λ z. refl))
        (λ old. ap (λ k. p.points + (k + 1)) (carried_counts line plan old 0 0 0)))
        (λ from. holds_then w b outs (load line from) (λ old. p ▷ λ x. carried line plan old x ▷ λ z. store line from z) (load_holds w b (Anywhere outs) line from)
        (λ old. then_op old (λ z. store line from z) (λ z. store_holds w b (Anywhere outs) line from z) (λ z. refl))
        (λ old. ap (λ k. p.points + (k + 1)) (carried_counts line plan old 0 0 0)))
        (λ from. refl)
      where
        then_op : (old : ℕ) (last : ℕ → Part ℕ) → ((z : ℕ) → Good (last z)) → ((z : ℕ) → (last z).points ≡ (last 0).points) → Good (p ▷ λ x. carried line plan old x ▷ last)
        then_op old last holds same =
            holds_then w b outs p (λ x. carried line plan old x ▷ last) is
            (λ x. holds_then w b outs (carried line plan old x) last (carried_holds w b outs line plan old x good) holds same)
            (λ x. ap (λ k. k + (last 0).points) (carried_counts line plan old x old 0))

    compound_good : (line : ℕ) (op : AssignOp) (e : Expr) (p : Part ℕ) → IsTarget c e → Known e → Good p → Good (compound line a.sizes op (expr a.sizes e) p)
    compound_good line op e p target is that =
        let s = (expr a.sizes e).typing in
        let typing = subst (IsTyping c.structs) (sym (typing_is a.sizes e)) is.typing in
        updated_good line e.typing target.scalar target.place ((expr a.sizes e).yield line) p (update a.sizes op (scalar_at s)) (is.yield line) that (update_items op (scalar_at s) (scalar_words s typing))

    assignment_good : (plain : Bool) (line : ℕ) (op : AssignOp) (e : Expr) (p : Part ℕ) → IsTarget c e → Known e → Good p → Good (assignment_by plain line a.sizes op (expr a.sizes e) p)
    assignment_good true line op e p target is that = assigned_good line e.typing target.scalar target.place ((expr a.sizes e).yield line) p (is.yield line) that
    assignment_good false line op e p target is that = compound_good line op e p target is that

  -- Returns stand in no branch.
  returned_good : (outs : Ends → ℕ → Type 0) → IsMainBy w a.in_main → (line : ℕ) (p : Part ℕ) → Piece w false outs p → Piece w false outs (p ▷ λ x. returned a.in_main line x)
  returned_good outs main line p is =
      holds_then w false outs p (λ x. returned a.in_main line x) is (λ x. returned_holds w (Anywhere outs) a.in_main line x main) (λ x. returned_points a.in_main line x ∙ sym (returned_points a.in_main line 0))

  return_good : (outs : Ends → ℕ → Type 0) → IsMainBy w a.in_main → (line : ℕ) (o : Option ObjectType) (v : Option Expr) → IsReturned c o v → Piece w false outs (return a line v)
  return_good outs main line o None is = returned_good outs main line (constant line (pos 0)) (constant_holds w false (Anywhere outs) line (pos 0))
  return_good outs main line None (Some e) is = absurd is
  return_good outs main line (Some t) (Some e) is =
      returned_good outs main line (value line (expr a.sizes e)) (value_good false outs line e (expr_holds w false outs c a.sizes names is.0))

  -- Conditions.
  condition_guard : (b : Bool) (d : Condition) → IsCondition c d → IsGuard w b (condition a d)
  condition_guard b d is = record {
    holds = λ past.
        let line = d.line.0 in
        let p = truth line (expr a.sizes d.value) in
        let good = truth_holds w b Nowhere c a.sizes names line d.value (expr_holds w b Nowhere c a.sizes names is.value) in
        holds_chained w b (Anywhere Nowhere) (λ ends lo t. t ≡ lo + 1 + past) (λ ends lo t. t ≡ lo + (p.points + 1) + past) 0 p (λ x. test line x past) good
        (λ ends n. test_holds w b line (p.make ends n).result past) (λ ends n. refl) (λ ends n t o. absurd o) (λ ends n t e. (let at = good.keeps.at ends n in omega arith));
  }

  guard_guard : (b : Bool) (o : Option Condition) → IsConditionThere c o → IsGuard w b (guard a o)
  guard_guard b None is = record { holds = λ past. holds_given w b (λ ends lo t. t ≡ lo + 0 + past) 0 }
  guard_guard b (Some d) is = condition_guard b d is

  -- Statements by their parts.
  abbrev StmtHolds : Placed → Type 0
  StmtHolds p = Piece w p.0.branched (aims_of p.0) (stmt a p.1)

  abbrev AreHolds : List Placed → Type 0
  AreHolds [] = Unit {0}
  AreHolds (p ∷ ps) = StmtHolds p × AreHolds ps

  all_placed : (r : Round) (ss : List Stmt) → AreHolds (placed r ss) → AllHold w r.branched (aims_of r) (map (stmt a) ss)
  all_placed r [] all = tt
  all_placed r (s ∷ ss) all = (all.0, all_placed r ss all.1)

  holds_parts : (ps qs : List Placed) → AreHolds (ps ++ qs) → AreHolds ps × AreHolds qs
  holds_parts [] qs all = (tt, all)
  holds_parts (p ∷ ps) qs all = (let rest = holds_parts ps qs all.1 in ((all.0, rest.0), rest.1))

  true_not : {A : Type 0} → false ≡ true → A
  true_not e = absurd (let no : ⊥ = cc in no)

  nowhere : (p : Part ℕ) → Piece w true (aims_of in_branch_of) p → Piece w true Nowhere p
  nowhere p is = holds_more w true (Anywhere (aims_of in_branch_of)) (Anywhere Nowhere) p (λ ends lo t o. true_not o.0) is

  all_bodies : (bs : List (Branch Stmt)) → AreHolds (in_branches bs) → Bodies w (map (with_body (stmt a)) bs)
  all_bodies [] all = tt
  all_bodies (b ∷ bs) all =
      let split = holds_parts (placed in_branch_of b.body) (in_branches bs) all in
      (nowhere (in_turn (map (stmt a) b.body)) (turn_all w true (aims_of in_branch_of) (map (stmt a) b.body) (all_placed in_branch_of b.body split.0)), all_bodies bs split.1)

  par_holds : (r : Round) (line : Line) (bs : List (Branch Stmt)) → 2 ≤ length bs → length bs ≤ 15 → AreHolds (in_branches bs)
      → Piece w r.branched (aims_of r) (branches line.0 (map ended (branches_of (map-Stmt Stmt (Part ℕ) (stmt a) (Stmt-F.Par line bs)))))
  par_holds r line bs some few all =
      let cs = map (with_body (stmt a)) bs in
      let count : length cs ≡ length bs = length-map bs (with_body (stmt a)) in
      subst (λ ys. Piece w r.branched (aims_of r) (branches line.0 (map ended ys))) (sym (branches_mapped (stmt a) line bs))
      (branches_holds w r.branched (aims_of r) line.0 cs (all_bodies bs all) (omega arith) (omega arith))

  out_holds : (r : Round) (outs : Ends → ℕ → ℕ → Type 0) (p : Part ℕ) → Piece w r.branched (aims_of (out_of_loop r)) p → Holds w r.branched outs p
  out_holds r outs p is = holds_more w r.branched (Anywhere (aims_of (out_of_loop r))) outs p (λ ends lo t o. true_not o.0) is

  level_holds : IsMainBy w a.in_main → (r : Round) (x : Stmt-F Stmt) → IsStmtLayer c r x → AreHolds (stmts_of r x) → Piece w r.branched (aims_of r) (stmt_step a (map-Stmt Stmt (Part ℕ) (stmt a) x))
  level_holds main r (Stmt-F.Block ss) l all = turn_all w r.branched (aims_of r) (map (stmt a) ss) (all_placed r ss all)
  level_holds main r (Stmt-F.Assign line e op v) l all =
      assignment_good r.branched (aims_of r) (is_plain op) line.0 op e (value line.0 (expr a.sizes v)) l.0 (expr_holds w r.branched (aims_of r) c a.sizes names l.0.known)
      (value_good r.branched (aims_of r) line.0 v (expr_holds w r.branched (aims_of r) c a.sizes names l.1))
  level_holds main r (Stmt-F.Increment line e) l all =
      compound_good r.branched (aims_of r) line.0 AssignOp.Add e (constant line.0 (pos 1)) l (expr_holds w r.branched (aims_of r) c a.sizes names l.known) (constant_holds w r.branched (Anywhere (aims_of r)) line.0 (pos 1))
  level_holds main r (Stmt-F.Decrement line e) l all =
      compound_good r.branched (aims_of r) line.0 AssignOp.Sub e (constant line.0 (pos 1)) l (expr_holds w r.branched (aims_of r) c a.sizes names l.known) (constant_holds w r.branched (Anywhere (aims_of r)) line.0 (pos 1))
  level_holds main r (Stmt-F.Call line e) l all = value_good r.branched (aims_of r) line.0 e (expr_holds w r.branched (aims_of r) c a.sizes names l.0)
  level_holds main r (Stmt-F.PutInt line e) l all =
      holds_then w r.branched (aims_of r) (value line.0 (expr a.sizes e)) (λ x. quiet line.0 (λ at. Instr.Out x)) (value_good r.branched (aims_of r) line.0 e (expr_holds w r.branched (aims_of r) c a.sizes names l.0))
      (λ x. put_holds w r.branched (Anywhere (aims_of r)) line.0 x) (λ x. refl)
  level_holds main r (Stmt-F.Free line e) l all =
      holds_then w r.branched (aims_of r) (value line.0 (expr a.sizes e)) (λ x. quiet line.0 (λ at. Instr.Free x)) (value_good r.branched (aims_of r) line.0 e (expr_holds w r.branched (aims_of r) c a.sizes names l.0))
      (λ x. free_holds w r.branched (Anywhere (aims_of r)) line.0 x) (λ x. refl)
  level_holds main r (Stmt-F.Return line v) l all = subst (λ b. Piece w b (aims_of r) (return a line.0 v)) (sym l.0) (return_good (aims_of r) main line.0 c.result v l.1)
  level_holds main r (Stmt-F.Break line) l all =
      holds_more w r.branched (λ ends lo t. t ≡ ends.leave) (Anywhere (aims_of r)) _ (λ ends lo t e. (l, inl e)) (leaving_holds w r.branched line.0 (λ ends. ends.leave))
  level_holds main r (Stmt-F.Continue line) l all =
      holds_more w r.branched (λ ends lo t. t ≡ ends.again) (Anywhere (aims_of r)) _ (λ ends lo t e. (l, inr e)) (leaving_holds w r.branched line.0 (λ ends. ends.again))
  level_holds main r (Stmt-F.If line d first None) l all =
      choice_one w r.branched (aims_of r) line.0 (condition a d) (stmt a first) (condition_guard r.branched d l) all.0
  level_holds main r (Stmt-F.If line d first (Some second)) l all =
      choice_two w r.branched (aims_of r) line.0 (condition a d) (stmt a first) (stmt a second) (condition_guard r.branched d l) all.0 all.1.0
  level_holds main r (Stmt-F.While line d body) l all = while_holds w r.branched (aims_of r) line.0 (condition a d) r (stmt a body) (condition_guard r.branched d l) all.0
  level_holds main r (Stmt-F.For line start d step body) l all =
      holds_next w r.branched (aims_of r) (stmt a start) (for line.0 (guard a d) (stmt a step) (stmt a body)) (out_holds r (Anywhere (aims_of r)) (stmt a start) all.0)
      (for_holds w r.branched (aims_of r) line.0 (guard a d) r (stmt a step) (stmt a body) (guard_guard r.branched d l.0) (λ head. out_holds r (λ ends lo t. t ≡ head) (stmt a step) all.1.0) all.1.1.0)
  level_holds main r (Stmt-F.Par line bs) l all = par_holds r line bs l.0 l.1 all

  mutual
    pub stmt_holds : IsMainBy w a.in_main → {r : Round} {s : Stmt} → IsStmt c r s → Piece w r.branched (aims_of r) (stmt a s)
    stmt_holds main (known r s l all) = subst (λ p. Piece w r.branched (aims_of r) p) (sym (stmt_of a s)) (level_holds main r (out-Stmt s) l (are_hold main all))

    are_hold : IsMainBy w a.in_main → {ps : List Placed} → AreStmts c ps → AreHolds ps
    are_hold main none = tt
    are_hold main (each p ps is rest) = (stmt_holds main is, are_hold main rest)

  pub body_holds : IsMainBy w a.in_main → (r : Round) (ss : List Stmt) → AreStmts c (placed r ss) → Piece w r.branched (aims_of r) (in_turn (map (stmt a) ss))
  body_holds main r ss all = turn_all w r.branched (aims_of r) (map (stmt a) ss) (all_placed r ss (are_hold main all))
