-- The marks of declarations and statements are balanced.
use Rattle.std.proofs.Common.{◌≡◌, List, [], ◌∷◌, ◌++◌, map, Option, Some, None, refl, sym, subst}
use Rattle.dfi_base.specs.declared.numbers.Line.{Line}
use Rattle.c_ast.specs.declared.decl.Base.{Base}
use Rattle.c_ast.specs.declared.decl.Declarator.{Declarator}
use Rattle.c_ast.specs.declared.decl.Decl.{Decl}
use Rattle.c_ast.specs.declared.decl.DeclItem.{DeclItem}
use Rattle.c_ast.specs.declared.decl.Param.{Param}
use Rattle.c_ast.specs.declared.decl.Params.{Params}
use Rattle.c_ast.specs.declared.expr.Expr.{Expr as SourceExpr}
use Rattle.c_ast.specs.declared.stmt.Simple.{Simple}
use Rattle.c_ast.specs.declared.stmt.ForStart.{ForStart}
use Rattle.c_ast.specs.declared.stmt.Block.{Block}
use Rattle.c_ast.specs.declared.stmt.BlockItem.{BlockItem}
use Rattle.c_ast.specs.declared.stmt.Stmt.{ind-Stmt, map-Stmt, roll-Stmt, Stmt as SourceStmt}
use Rattle.c_ast.specs.declared.stmt.Stmt.TheOpen.{Stmt-F as Source}
use Rattle.c_typed.specs.declared.types.ObjectType.{ObjectType}
use Rattle.c_typed.specs.declared.stmt.Stmt.{Stmt}
use Rattle.c_typed.specs.Marks.{Mark, block, loop, branch}
use Rattle.c_typed.specs.Whole.{Whole}
use Rattle.c_typed.specs.Parts.{Part, in_turn, separated}
use Rattle.c_typed.specs.Decls as decls
use Rattle.c_typed.specs.Decls.{valued, local_item, local_decl, parameter_base, parameter}
use Rattle.c_typed.specs.Stmts.{simple, condition, value_there, condition_there, block_item, body, branch_of, start, step, stmt_step, stmt}
use Rattle.c_typed.specs.Programs.{with_part, function_body, parameters}
use Rattle.c_typed.proofs.Levels.{items_of, blocks_of, first_items, mapped, stmt_roll}
use Rattle.c_typed.proofs.Balanced.{Balanced, variable, scope, balanced_append}
use Rattle.c_typed.proofs.Quiet.{no_marks, quiet, quiet_base}

-- no marks at all
pub balanced_quiet : {ms : List Mark} → ms ≡ [] → Balanced ms
balanced_quiet is = subst Balanced (sym is) Balanced.none

pub join : {ms ns : List Mark} → Balanced ms → Balanced ns → Balanced (ms ++ ns)
join {ms} {ns} is that = balanced_append ns is that

-- every part of a list
pub data AllBalanced {A : Type 0} : List (Part A) → Type 0 where
  none : AllBalanced []
  each : {p : Part A} {ps : List (Part A)} → Balanced p.marks → AllBalanced ps → AllBalanced (p ∷ ps)

pub all_balanced : {A B : Type 0} (f : A → Part B) → ((a : A) → Balanced (f a).marks) → (xs : List A) → AllBalanced (map f xs)
all_balanced f is [] = none
all_balanced f is (x ∷ xs) = each (is x) (all_balanced f is xs)

pub balanced_in_turn : {A : Type 0} {ps : List (Part A)} → AllBalanced ps → Balanced (in_turn ps).marks
balanced_in_turn none = Balanced.none
balanced_in_turn (each p ps) = join p (balanced_in_turn ps)

pub balanced_separated : {A : Type 0} {ps : List (Part A)} → AllBalanced ps → Balanced (separated ps).marks
balanced_separated none = Balanced.none
balanced_separated (each p none) = join p Balanced.none
balanced_separated (each p (each q ps)) = join (join p Balanced.none) (balanced_separated (each q ps))

-- Declarations.
balanced_valued : (w : Whole) (d : Declarator) (t : ObjectType) (v : Option SourceExpr) → Balanced (valued w d t v).marks
balanced_valued w d t None = variable d.name t Balanced.none
balanced_valued w d t (Some e) = variable d.name t (balanced_quiet (quiet w e))

pub balanced_local_item : (w : Whole) (b : Base) (i : DeclItem) → Balanced (local_item w b i).marks
balanced_local_item w b i = balanced_valued w i.declarator _ i.value

pub balanced_local_decl : (w : Whole) (d : Decl) → Balanced (local_decl w d).marks
balanced_local_decl w d =
    join (join (balanced_quiet (quiet_base w (decls.by_value (map (λ i. i.declarator) d.items)) d.base)) (balanced_separated (all_balanced (local_item w d.base) (balanced_local_item w d.base) d.items)))
    Balanced.none

pub balanced_parameter : (w : Whole) (p : Param) → Balanced (parameter w p).marks
balanced_parameter w p = join (join (join (balanced_quiet (quiet_base w _ p.base)) Balanced.none) (variable p.name _ Balanced.none)) Balanced.none

pub balanced_parameters : (w : Whole) (p : Params) → Balanced (parameters w p).marks
balanced_parameters w Params.Empty = Balanced.none
balanced_parameters w (Params.Void line) = Balanced.none
balanced_parameters w (Params.List ps) = balanced_separated (all_balanced (parameter w) (balanced_parameter w) ps)

-- Simple statements and the heads of others have no marks.
pub quiet_simple : (w : Whole) (s : Simple) → (simple w s).marks ≡ []
quiet_simple w (Simple.Assign line target op v) = no_marks (no_marks (quiet w target) refl) (quiet w v)
quiet_simple w (Simple.Increment line target) = no_marks (quiet w target) refl
quiet_simple w (Simple.Decrement line target) = no_marks (quiet w target) refl
quiet_simple w (Simple.PreIncrement line target) = quiet w target
quiet_simple w (Simple.PreDecrement line target) = quiet w target
quiet_simple w (Simple.Call f args) = refl

pub quiet_condition_there : (w : Whole) (c : Option SourceExpr) → (condition_there w c).marks ≡ []
quiet_condition_there w None = refl
quiet_condition_there w (Some e) = quiet w e

pub quiet_value_there : (w : Whole) (v : Option SourceExpr) → (value_there w v).marks ≡ []
quiet_value_there w None = refl
quiet_value_there w (Some e) = quiet w e

pub quiet_step : (w : Whole) (s : Option Simple) → (step w s).marks ≡ []
quiet_step w None = refl
quiet_step w (Some s) = quiet_simple w s

pub balanced_start : (w : Whole) (s : ForStart) → Balanced (start w s).marks
balanced_start w (ForStart.Decl d) = balanced_local_decl w d
balanced_start w (ForStart.Simple None) = Balanced.none
balanced_start w (ForStart.Simple (Some s)) = balanced_quiet (no_marks (quiet_simple w s) refl)

-- A statement and what is known of it.
abbrev pub StmtBalanced : Whole → SourceStmt → Type 0
StmtBalanced w s = Balanced (stmt w s).marks

abbrev Known : Whole → Type 0
Known w = (s : SourceStmt) × StmtBalanced w s

abbrev forgotten : (w : Whole) → Source (Known w) → Source SourceStmt
forgotten w y = map-Stmt (Known w) SourceStmt (λ s. s.0) y

balanced_items : (w : Whole) (line close : Line) (xs : List (BlockItem (Known w)))
    → AllBalanced (map (block_item w) (items_of (mapped w (forgotten w (Source.Block (record { line = line; items = xs; close = close }))))))
balanced_items w line close [] = none
balanced_items w line close (BlockItem.Decl d ∷ xs) = each (balanced_local_decl w d) (balanced_items w line close xs)
balanced_items w line close (BlockItem.Stmt s ∷ xs) = each s.1 (balanced_items w line close xs)

pub balanced_body : (w : Whole) (b : Block (Part Stmt)) → AllBalanced (map (block_item w) b.items) → Balanced (body w b).marks
balanced_body w b all = join (balanced_in_turn all) Balanced.none

pub balanced_branch : (w : Whole) (b : Block (Part Stmt)) → AllBalanced (map (block_item w) b.items) → Balanced (branch_of w b).marks
balanced_branch w b all = scope branch (body w b).marks [] (balanced_body w b all) Balanced.none refl

balanced_branch_items : (w : Whole) (line l c : Line) (bs : List (Block (Known w))) (xs : List (BlockItem (Known w)))
    → AllBalanced (map (block_item w) (first_items (blocks_of (mapped w (forgotten w (Source.Par line (record { line = l; items = xs; close = c } ∷ bs)))))))
balanced_branch_items w line l c bs [] = none
balanced_branch_items w line l c bs (BlockItem.Decl d ∷ xs) = each (balanced_local_decl w d) (balanced_branch_items w line l c bs xs)
balanced_branch_items w line l c bs (BlockItem.Stmt s ∷ xs) = each s.1 (balanced_branch_items w line l c bs xs)

balanced_branches : (w : Whole) (line : Line) (bs : List (Block (Known w))) → AllBalanced (map (branch_of w) (blocks_of (mapped w (forgotten w (Source.Par line bs)))))
balanced_branches w line [] = none
balanced_branches w line (b ∷ bs) =
    let first : Block (Part Stmt) = record { line = b.line; items = first_items (blocks_of (mapped w (forgotten w (Source.Par line (b ∷ bs))))); close = b.close } in
    each (balanced_branch w first (balanced_branch_items w line b.line b.close bs b.items)) (balanced_branches w line bs)

balanced_other : (w : Whole) (line : Line) (c : SourceExpr) (first : Known w) (o : Option (Known w)) → Balanced (stmt_step w (mapped w (forgotten w (Source.If line c first o)))).marks
balanced_other w line c first None = join (join (join (balanced_quiet (quiet w c)) Balanced.none) first.1) Balanced.none
balanced_other w line c first (Some s) = join (join (join (balanced_quiet (quiet w c)) Balanced.none) first.1) s.1

level_balanced : (w : Whole) (y : Source (Known w)) → Balanced (stmt_step w (mapped w (forgotten w y))).marks
level_balanced w (Source.Block b) =
    let here : Block (Part Stmt) = record { line = b.line; items = items_of (mapped w (forgotten w (Source.Block b))); close = b.close } in
    scope block (body w here).marks [] (balanced_body w here (balanced_items w b.line b.close b.items)) Balanced.none refl
level_balanced w (Source.Empty line) = Balanced.none
level_balanced w (Source.Simple s) = balanced_quiet (no_marks (quiet_simple w s) refl)
level_balanced w (Source.Return line v) = balanced_quiet (no_marks (quiet_value_there w v) refl)
level_balanced w (Source.Break line) = Balanced.none
level_balanced w (Source.Continue line) = Balanced.none
level_balanced w (Source.If line c first other) = balanced_other w line c first other
level_balanced w (Source.While line c s) =
    scope loop ((condition w c).marks ++ [] ++ (stmt w s.0).marks) [] (join (join (balanced_quiet (quiet w c)) Balanced.none) s.1) Balanced.none refl
level_balanced w (Source.For line first c last s) =
    scope loop ((start w first).marks ++ (condition_there w c).marks ++ [] ++ (step w last).marks ++ [] ++ (stmt w s.0).marks) []
    (join (join (join (join (join (balanced_start w first) (balanced_quiet (quiet_condition_there w c))) Balanced.none) (balanced_quiet (quiet_step w last))) Balanced.none) s.1) Balanced.none refl
level_balanced w (Source.Par line bs) = join (balanced_in_turn (balanced_branches w line bs)) Balanced.none

-- Every statement.
pub balanced_stmt : (w : Whole) (s : SourceStmt) → Balanced (stmt w s).marks
balanced_stmt w = ind-Stmt (StmtBalanced w) (λ x y is. subst (λ x. StmtBalanced w (roll-Stmt x)) is (subst (λ p. Balanced p.marks) (sym (stmt_roll w (forgotten w y))) (level_balanced w y)))

balanced_block_items : (w : Whole) (xs : List (BlockItem SourceStmt)) → AllBalanced (map (block_item w) (map (with_part w) xs))
balanced_block_items w [] = none
balanced_block_items w (BlockItem.Decl d ∷ xs) = each (balanced_local_decl w d) (balanced_block_items w xs)
balanced_block_items w (BlockItem.Stmt s ∷ xs) = each (balanced_stmt w s) (balanced_block_items w xs)

pub balanced_function_body : (w : Whole) (b : Block SourceStmt) → Balanced (function_body w b).marks
balanced_function_body w b = balanced_body w (record { line = b.line; items = map (with_part w) b.items; close = b.close }) (balanced_block_items w b.items)
