-- The faults of a statement.
use Rattle.std.proofs.Common.{List, [], ◌∷◌, map, Option, Some, None, refl, sym, subst, arith}
use Rattle.dfi_base.specs.declared.numbers.Line.{Line}
use Rattle.c_ast.specs.declared.expr.Expr.{Expr as SourceExpr}
use Rattle.c_ast.specs.declared.stmt.Simple.{Simple}
use Rattle.c_ast.specs.declared.stmt.ForStart.{ForStart}
use Rattle.c_ast.specs.declared.stmt.Block.{Block}
use Rattle.c_ast.specs.declared.stmt.BlockItem.{BlockItem}
use Rattle.c_ast.specs.declared.stmt.Stmt.{ind-Stmt, map-Stmt, roll-Stmt, Stmt as SourceStmt}
use Rattle.c_ast.specs.declared.stmt.Stmt.TheOpen.{Stmt-F as Source}
use Rattle.c_typed.specs.declared.stmt.Stmt.{Stmt, roll-Stmt as roll}
use Rattle.c_typed.specs.Whole.{Whole}
use Rattle.c_typed.specs.Faults.{mismatch, escape, branches}
use Rattle.c_typed.specs.Parts.{Part, tokens, in_turn, ◌<⊗◌, ◌⊗>◌}
use Rattle.c_typed.specs.Exprs.{expr, value, place}
use Rattle.c_typed.specs.Stmts.{Layer, empty, simple, condition, value_there, condition_there, within_loop, block_item, body, branch_of, start, step, stmt_step, stmt}
use Rattle.c_typed.proofs.Levels.{items_of, blocks_of, first_items, mapped, stmt_roll}
use Rattle.line_law.proofs.Parts.{IsBounded, IsInside, inside, clean_tokens, loose, inside_tokens, inside_given, inside_mark, inside_map, bounded_first, bounded_second, bounded_obeys, inside_obeys, inside_unless, behind_tokens, behind_first, begins_behind, begins_obeys, AllInside, nil, each, beside, before, after, inside_in_turn}
use Rattle.line_law.proofs.Exprs.{bounded, bounded_value, bounded_place, inside_call_stmt}
use Rattle.line_law.proofs.Decls.{inside_local_decl}

bounded_value_of : (w : Whole) (e : SourceExpr) → IsBounded (value (expr w e))
bounded_value_of w e = bounded_value (expr w e) (bounded w e)

bounded_place_of : (w : Whole) (e : SourceExpr) → IsBounded (place (expr w e))
bounded_place_of w e = bounded_place (expr w e) (bounded w e)

pub inside_condition : (w : Whole) (e : SourceExpr) → IsBounded (condition w e)
inside_condition w e = bounded_obeys _ _ _ _ (bounded_value_of w e)

behind_place : (w : Whole) (e : SourceExpr) → IsBounded (place (expr w e) <⊗ tokens 1)
behind_place w e = bounded_first (λ a b. a) _ _ (bounded_place_of w e) (clean_tokens 1)

before_place : (w : Whole) (e : SourceExpr) → IsBounded (tokens 1 ⊗> place (expr w e))
before_place w e = bounded_second (λ a b. b) _ _ (clean_tokens 1) (bounded_place_of w e)

pub inside_simple : (w : Whole) (s : Simple) → IsInside (simple w s)
inside_simple w (Simple.Assign line target op v) = inside _ (bounded_obeys _ _ _ _ (bounded_first (λ a b. (a, b)) _ _ (behind_place w target) (loose _ (bounded_value_of w v))))
inside_simple w (Simple.Increment line target) = inside _ (bounded_obeys _ _ _ _ (behind_place w target))
inside_simple w (Simple.Decrement line target) = inside _ (bounded_obeys _ _ _ _ (behind_place w target))
inside_simple w (Simple.PreIncrement line target) = inside _ (bounded_obeys _ _ _ _ (before_place w target))
inside_simple w (Simple.PreDecrement line target) = inside _ (bounded_obeys _ _ _ _ (before_place w target))
inside_simple w (Simple.Call f args) = inside_call_stmt w f args

pub inside_value_there : (w : Whole) (v : Option SourceExpr) → IsInside (value_there w v)
inside_value_there w None = inside_given None
inside_value_there w (Some e) = inside_map _ _ (inside _ (bounded_value_of w e))

pub inside_condition_there : (w : Whole) (c : Option SourceExpr) → IsInside (condition_there w c)
inside_condition_there w None = inside_given None
inside_condition_there w (Some e) = inside_map _ _ (inside _ (inside_condition w e))

pub inside_within_loop : (line : Line) (layer : Layer) → IsInside (within_loop line layer)
inside_within_loop line layer = inside_unless _ escape line _ (omega arith) (λ here f h. absurd h) (inside_map (λ _. roll layer) (tokens 2) (inside_tokens 2))

pub inside_start : (w : Whole) (s : ForStart) → IsInside (start w s)
inside_start w (ForStart.Decl d) = inside_local_decl w d
inside_start w (ForStart.Simple None) = inside_map (λ _. empty) (tokens 1) (inside_tokens 1)
inside_start w (ForStart.Simple (Some s)) = before (inside_simple w s) (inside_tokens 1)

pub inside_step : (w : Whole) (s : Option Simple) → IsInside (step w s)
inside_step w None = inside_map (λ _. empty) (tokens 0) (inside_tokens 0)
inside_step w (Some s) = inside_simple w s

-- A statement and what is known of it.
abbrev pub Inside : Whole → SourceStmt → Type 0
Inside w s = IsInside (stmt w s)

abbrev Known : Whole → Type 0
Known w = (s : SourceStmt) × Inside w s

abbrev forgotten : (w : Whole) → Source (Known w) → Source SourceStmt
forgotten w y = map-Stmt (Known w) SourceStmt (λ s. s.0) y

inside_items : (w : Whole) (line close : Line) (xs : List (BlockItem (Known w)))
    → AllInside (map (block_item w) (items_of (mapped w (forgotten w (Source.Block (record { line = line; items = xs; close = close }))))))
inside_items w line close [] = nil
inside_items w line close (BlockItem.Decl d ∷ xs) = each (inside_local_decl w d) (inside_items w line close xs)
inside_items w line close (BlockItem.Stmt s ∷ xs) = each s.1 (inside_items w line close xs)

pub inside_body : (w : Whole) (b : Block (Part Stmt)) → AllInside (map (block_item w) b.items) → IsInside (body w b)
inside_body w b all = before (after (inside_tokens 1) (inside_in_turn all)) (inside_tokens 1)

inside_branch : (w : Whole) (b : Block (Part Stmt)) → AllInside (map (block_item w) b.items) → IsInside (branch_of w b)
inside_branch w b all = inside_map _ _ (before (after (inside_mark _) (inside_body w b all)) (inside_mark _))

inside_branch_items : (w : Whole) (line l c : Line) (bs : List (Block (Known w))) (xs : List (BlockItem (Known w)))
    → AllInside (map (block_item w) (first_items (blocks_of (mapped w (forgotten w (Source.Par line (record { line = l; items = xs; close = c } ∷ bs)))))))
inside_branch_items w line l c bs [] = nil
inside_branch_items w line l c bs (BlockItem.Decl d ∷ xs) = each (inside_local_decl w d) (inside_branch_items w line l c bs xs)
inside_branch_items w line l c bs (BlockItem.Stmt s ∷ xs) = each s.1 (inside_branch_items w line l c bs xs)

inside_branches : (w : Whole) (line : Line) (bs : List (Block (Known w))) → AllInside (map (branch_of w) (blocks_of (mapped w (forgotten w (Source.Par line bs)))))
inside_branches w line [] = nil
inside_branches w line (b ∷ bs) =
    let first : Block (Part Stmt) = record { line = b.line; items = first_items (blocks_of (mapped w (forgotten w (Source.Par line (b ∷ bs))))); close = b.close } in
    each (inside_branch w first (inside_branch_items w line b.line b.close bs b.items)) (inside_branches w line bs)

inside_other : (w : Whole) (line : Line) (c : SourceExpr) (first : Known w) (o : Option (Known w)) → IsInside (stmt_step w (mapped w (forgotten w (Source.If line c first o))))
inside_other w line c first None =
    inside_map _ _ (beside (beside (before (after (inside_tokens 2) (inside _ (inside_condition w c))) (inside_tokens 1)) first.1) (inside_given None))
inside_other w line c first (Some s) =
    inside_map _ _ (beside (beside (before (after (inside_tokens 2) (inside _ (inside_condition w c))) (inside_tokens 1)) first.1)
    (inside_map _ _ (after (inside_tokens 1) s.1)))

level_inside : (w : Whole) (y : Source (Known w)) → IsInside (stmt_step w (mapped w (forgotten w y)))
level_inside w (Source.Block b) =
    let here : Block (Part Stmt) = record { line = b.line; items = items_of (mapped w (forgotten w (Source.Block b))); close = b.close } in
    inside_map _ _ (before (after (inside_mark _) (inside_body w here (inside_items w b.line b.close b.items))) (inside_mark _))
level_inside w (Source.Empty line) = inside_map (λ _. empty) (tokens 1) (inside_tokens 1)
level_inside w (Source.Simple s) = before (inside_simple w s) (inside_tokens 1)
level_inside w (Source.Return line v) =
    let p = tokens 1 ⊗> value_there w v <⊗ tokens 1 in
    let is = before (after (inside_tokens 1) (inside_value_there w v)) (inside_tokens 1) in
    let far = behind_first (λ a b. a) 1 (tokens 1 ⊗> value_there w v) (tokens 1) (omega arith) (behind_first (λ a b. b) 1 (tokens 1) (value_there w v) (omega arith) (behind_tokens 1 1) (inside_value_there w v)) (inside_tokens 1) in
    inside_unless _ escape line _ (omega arith) (begins_obeys mismatch escape line _ p (begins_behind escape line p far))
    (inside_obeys mismatch line _ p (omega arith) (begins_behind mismatch line p far) is)
level_inside w (Source.Break line) = inside_within_loop line _
level_inside w (Source.Continue line) = inside_within_loop line _
level_inside w (Source.If line c first other) = inside_other w line c first other
level_inside w (Source.While line c s) =
    inside_map _ _ (before (beside (before (after (after (inside_mark _) (inside_tokens 2)) (inside _ (inside_condition w c))) (inside_tokens 1)) s.1) (inside_mark _))
level_inside w (Source.For line first c last s) =
    inside_map _ _
    (before (beside (before (beside (before (beside (after (after (inside_mark _) (inside_tokens 2)) (inside_start w first)) (inside_condition_there w c)) (inside_tokens 1)) (inside_step w last)) (inside_tokens 1))
    s.1) (inside_mark _))
level_inside w (Source.Par line bs) =
    let all = inside_in_turn (inside_branches w line bs) in
    let bodies = in_turn (map (branch_of w) (blocks_of (mapped w (forgotten w (Source.Par line bs))))) in
    let far = behind_first (λ a b. a) 1 (tokens 2 ⊗> bodies) (tokens 1) (omega arith) (behind_first (λ a b. b) 1 (tokens 2) bodies (omega arith) (behind_tokens 1 2) all) (inside_tokens 1) in
    inside_unless _ branches line _ (omega arith) (λ here f h. begins_behind branches line (tokens 2 ⊗> bodies <⊗ tokens 1) far here f h)
    (inside_map _ _ (before (after (inside_tokens 2) all) (inside_tokens 1)))

-- Every statement.
pub inside_stmt : (w : Whole) (s : SourceStmt) → IsInside (stmt w s)
inside_stmt w = ind-Stmt (Inside w) (λ x y is. subst (λ x. Inside w (roll-Stmt x)) is (subst (λ p. IsInside p) (sym (stmt_roll w (forgotten w y))) (level_inside w y)))
