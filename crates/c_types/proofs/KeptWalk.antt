-- Inside a function the walk leaves what the program has declared as it was.
use Rattle.std.proofs.Common.{◌≡◌, List, [], ◌∷◌, map, length, Option, Some, None, Ok, Err, nat_le, ◌&&◌, Bool, true, false, refl, sym, ◌∙◌, subst}
use Rattle.dfi_base.specs.declared.numbers.Line.{Line}
use Rattle.c_ast.specs.declared.decl.Decl.{Decl}
use Rattle.c_ast.specs.declared.decl.Base.{Base}
use Rattle.c_ast.specs.declared.decl.DeclItem.{DeclItem}
use Rattle.c_ast.specs.declared.decl.Param.{Param}
use Rattle.c_ast.specs.declared.decl.Params.{Params}
use Rattle.c_ast.specs.declared.expr.Expr.{Expr as SourceExpr}
use Rattle.c_ast.specs.declared.stmt.ForStart.{ForStart}
use Rattle.c_ast.specs.declared.stmt.Block.{Block}
use Rattle.c_ast.specs.declared.stmt.BlockItem.{BlockItem}
use Rattle.c_ast.specs.declared.stmt.Stmt.{ind-Stmt, map-Stmt, roll-Stmt, Stmt as SourceStmt}
use Rattle.c_ast.specs.declared.stmt.Stmt.TheOpen.{Stmt-F as Source}
use Rattle.c_typed.specs.declared.stmt.Stmt.{Stmt}
use Rattle.c_types.specs.declared.outline.Outline.{Outline}
use Rattle.c_types.specs.declared.known.Known.{Known}
use Rattle.c_types.specs.declared.known.Around.{Around}
use Rattle.c_typed.specs.Faults.{Rule, branches}
use Rattle.c_typed.specs.Decls.{by_value}
use Rattle.c_types.specs.tools.Steps.{Found, ◌>>=◌, unless_kept, each, every, one}
use Rattle.c_types.specs.tools.Outlines.{base_walk, declared_type}
use Rattle.c_types.specs.tools.KnownSteps.{entered, exited}
use Rattle.c_types.specs.tools.DeclWalk as decls
use Rattle.c_types.specs.tools.DeclWalk.{local_item_walk, local_decl_walk, parameter_walk, params_walk}
use Rattle.c_types.specs.tools.StmtWalk as walk
use Rattle.c_types.specs.tools.StmtWalk.{Walk, same, scoped, branch_walk, start_walk, stmt_walk_step, stmt_walk, source_items_walk}
use Rattle.c_types.proofs.StmtMaps.{mapped, items_of, blocks_of}
use Rattle.c_types.proofs.WalkStmtLevels.{walk_stmt_roll}

-- what the program has declared is the same behind a walk
abbrev pub Keeps : {A : Type 0} → Known → Found (A × Known) → Type 0
Keeps k (Ok s) = s.1.declared ≡ k.declared
Keeps k (Err e) = Unit {0}

-- at every place
abbrev pub Keeping : {A : Type 0} → Walk A → Type 0
Keeping step = (k : Known) → Keeps k (step k)

from_same : {A : Type 0} (k l : Known) (r : Found (A × Known)) → l.declared ≡ k.declared → Keeps l r → Keeps k r
from_same k l (Ok s) e is = is ∙ e
from_same k l (Err x) e is = tt

pub keeps_then : {A B : Type 0} (k : Known) (r : Found (A × Known)) (g : A × Known → Found (B × Known)) → Keeps k r → ((s : A × Known) → Keeps s.1 (g s)) → Keeps k (r >>= g)
keeps_then k (Ok s) g is that = from_same k s.1 (g s) is (that s)
keeps_then k (Err e) g is that = tt

pub keeps_found : {A B : Type 0} (k : Known) (f : Found A) (g : A → Found (B × Known)) → ((a : A) → Keeps k (g a)) → Keeps k (f >>= g)
keeps_found k (Ok a) g is = is a
keeps_found k (Err e) g is = tt

keeps_unless : {A : Type 0} (test : Bool) (rule : Rule) (line : Line) (k : Known) (r : Found (A × Known)) → Keeps k r → Keeps k (unless_kept test rule line r)
keeps_unless true rule line k r is = is
keeps_unless false rule line k r is = tt

keeps_scoped : {A : Type 0} (step : Walk A) → Keeping step → Keeping (scoped step)
keeps_scoped step is k = keeps_then k (step (entered k)) (λ s. Ok (s.0, exited s.1)) (from_same k (entered k) (step (entered k)) refl (is (entered k))) (λ s. refl)

keeps_same : {A : Type 0} (k : Known) (f : Found A) → Keeps k (same k f)
keeps_same k (Ok a) = refl
keeps_same k (Err e) = tt

-- each of a list in turn
keeps_each : {X B C : Type 0} (given : B → List C) (step : X → Walk B) → ((x : X) → Keeping (step x)) → (xs : List X) → Keeping (each given step xs)
keeps_each given step is [] k = refl
keeps_each given step is (x ∷ xs) k = keeps_then k (step x k) _ (is x k) (λ s. keeps_then s.1 (each given step xs s.1) _ (keeps_each given step is xs s.1) (λ t. refl))

keeps_every : {X : Type 0} (step : X → Walk (Unit {0})) → ((x : X) → Keeping (step x)) → (xs : List X) → Keeping (every step xs)
keeps_every step is [] k = refl
keeps_every step is (x ∷ xs) k = keeps_then k (step x k) _ (is x k) (λ s. keeps_every step is xs s.1)

module _ (o : Outline) where
  -- Declarations and parameters.
  keeps_item : (b : Base) (i : DeclItem) → Keeping (local_item_walk o b i)
  keeps_item b i k = keeps_found k (decls.valued o k i.declarator (declared_type o b i.declarator) i.value) _ (λ ss. refl)

  keeps_decl : (d : Decl) → Keeping (local_decl_walk o d)
  keeps_decl d k =
      keeps_found k (base_walk o k (by_value (map (λ i. i.declarator) d.items)) d.base) _
      (λ u. keeps_then k (decls.local_items_walk o d.base d.items k) _ (keeps_each _ (local_item_walk o d.base) (keeps_item d.base) d.items k) (λ s. refl))

  keeps_parameter : (p : Param) → Keeping (parameter_walk o p)
  keeps_parameter p k =
      keeps_found k (decls.first_rule o k p.base p.stars p.brackets) _
      (λ u. keeps_found k (decls.no_fault (decls.parameter_fault k p.name (decls.parameter_type o p.base p.stars p.brackets)) >>= (λ _. decls.framed o k p.name (decls.parameter_type o p.base p.stars p.brackets))) _
      (λ u. refl))

  pub keeps_parameters : (p : Params) → Keeping (params_walk o p)
  keeps_parameters Params.Empty k = refl
  keeps_parameters (Params.Void line) k = refl
  keeps_parameters (Params.List ps) k = keeps_every (parameter_walk o) keeps_parameter ps k

  -- Statements.
  abbrev StmtKeeps : SourceStmt → Type 0
  StmtKeeps s = (a : Around) → Keeping (stmt_walk o s a)

  abbrev Keeper : Type 0
  Keeper = (s : SourceStmt) × StmtKeeps s

  abbrev plain : Source Keeper → Source SourceStmt
  plain y = map-Stmt Keeper SourceStmt (λ s. s.0) y

  abbrev W : Type 0
  W = Around → Walk Stmt

  abbrev walked : Source Keeper → Source W
  walked y = mapped (stmt_walk o) (plain y)

  keeps_start : (s : ForStart) → Keeping (start_walk o s)
  keeps_start (ForStart.Decl d) k = keeps_decl d k
  keeps_start (ForStart.Simple None) k = refl
  keeps_start (ForStart.Simple (Some s)) k = keeps_same k (walk.simple_walk o k s)

  data AllKeep : List (BlockItem W) → Type 0 where
    none : AllKeep []
    decl : {d : Decl} {is : List (BlockItem W)} → AllKeep is → AllKeep (BlockItem.Decl d ∷ is)
    stmt_first : {s : W} {is : List (BlockItem W)} → ((a : Around) → Keeping (s a)) → AllKeep is → AllKeep (BlockItem.Stmt s ∷ is)

  keeps_items : (is : List (BlockItem W)) → AllKeep is → (a : Around) → Keeping (walk.items_walk o a is)
  keeps_items [] AllKeep.none a k = refl
  keeps_items (BlockItem.Decl d ∷ is) (AllKeep.decl rest) a k =
      keeps_then k (local_decl_walk o d k) _ (keeps_decl d k) (λ s. keeps_then s.1 (walk.items_walk o a is s.1) _ (keeps_items is rest a s.1) (λ t. refl))
  keeps_items (BlockItem.Stmt s ∷ is) (AllKeep.stmt_first first rest) a k =
      keeps_then k (s a k) _ (first a k) (λ s. keeps_then s.1 (walk.items_walk o a is s.1) _ (keeps_items is rest a s.1) (λ t. refl))

  data AllBranchesKeep : List (Block W) → Type 0 where
    none : AllBranchesKeep []
    each_block : {b : Block W} {bs : List (Block W)} → AllKeep b.items → AllBranchesKeep bs → AllBranchesKeep (b ∷ bs)

  keeps_branches : (bs : List (Block W)) → AllBranchesKeep bs → Keeping (walk.branches_walk o bs)
  keeps_branches [] AllBranchesKeep.none k = refl
  keeps_branches (b ∷ bs) (AllBranchesKeep.each_block first rest) k =
      keeps_then k (branch_walk o b k) _
      (keeps_then k (scoped (walk.items_walk o walk.in_branch b.items) k) _ (keeps_scoped (walk.items_walk o walk.in_branch b.items) (keeps_items b.items first walk.in_branch) k) (λ s. refl))
      (λ s. keeps_then s.1 (walk.branches_walk o bs s.1) _ (keeps_branches bs rest s.1) (λ t. refl))

  items_keep : (line close : Line) (xs : List (BlockItem Keeper)) → AllKeep (items_of (walked (Source.Block (record { line = line; items = xs; close = close }))))
  items_keep line close [] = AllKeep.none
  items_keep line close (BlockItem.Decl d ∷ xs) = AllKeep.decl (items_keep line close xs)
  items_keep line close (BlockItem.Stmt s ∷ xs) = AllKeep.stmt_first s.1 (items_keep line close xs)

  abbrev first_items : List (Block W) → List (BlockItem W)
  first_items [] = []
  first_items (b ∷ bs) = b.items

  first_keep : (line l c : Line) (bs : List (Block Keeper)) (xs : List (BlockItem Keeper)) → AllKeep (first_items (blocks_of (walked (Source.Par line (record { line = l; items = xs; close = c } ∷ bs)))))
  first_keep line l c bs [] = AllKeep.none
  first_keep line l c bs (BlockItem.Decl d ∷ xs) = AllKeep.decl (first_keep line l c bs xs)
  first_keep line l c bs (BlockItem.Stmt s ∷ xs) = AllKeep.stmt_first s.1 (first_keep line l c bs xs)

  branches_keep : (line : Line) (bs : List (Block Keeper)) → AllBranchesKeep (blocks_of (walked (Source.Par line bs)))
  branches_keep line [] = AllBranchesKeep.none
  branches_keep line (b ∷ bs) = AllBranchesKeep.each_block (first_keep line b.line b.close bs b.items) (branches_keep line bs)

  abbrev LevelKeeps : Source W → Type 0
  LevelKeeps x = (a : Around) → Keeping (stmt_walk_step o x a)

  keeps_if : (line : Line) (c : SourceExpr) (first : Keeper) (other : Option Keeper) → LevelKeeps (walked (Source.If line c first other))
  keeps_if line c first None a k = keeps_found k (walk.condition_walk o k c) _ (λ c. keeps_then k (stmt_walk o first.0 a k) _ (first.1 a k) (λ s. refl))
  keeps_if line c first (Some other) a k =
      keeps_found k (walk.condition_walk o k c) _
      (λ c. keeps_then k (stmt_walk o first.0 a k) _ (first.1 a k)
      (λ s. keeps_then s.1 (stmt_walk o other.0 a s.1 >>= (λ s. Ok (Some s.0, s.1))) _ (keeps_then s.1 (stmt_walk o other.0 a s.1) _ (other.1 a s.1) (λ t. refl)) (λ t. refl)))

  level_keeps : (y : Source Keeper) → LevelKeeps (walked y)
  level_keeps (Source.Block b) a k =
      let is = items_of (walked (Source.Block b)) in
      keeps_then k (scoped (walk.items_walk o a is) k) _ (keeps_scoped (walk.items_walk o a is) (keeps_items is (items_keep b.line b.close b.items) a) k) (λ s. refl)
  level_keeps (Source.Empty line) a k = refl
  level_keeps (Source.Simple s) a k = keeps_same k (walk.simple_walk o k s)
  level_keeps (Source.Return line v) a k = keeps_same k (walk.returned line a.in_branch k.frame.result (walk.value_there_walk o k v))
  level_keeps (Source.Break line) a k = keeps_same k (walk.within_loop line _ a)
  level_keeps (Source.Continue line) a k = keeps_same k (walk.within_loop line _ a)
  level_keeps (Source.If line c first other) a k = keeps_if line c first other a k
  level_keeps (Source.While line c s) a k =
      keeps_scoped (walk.while_walk o line c (stmt_walk o s.0) a)
      (λ k. keeps_found k (walk.condition_walk o k c) _ (λ c. keeps_then k (stmt_walk o s.0 (walk.in_loop a) k) _ (s.1 (walk.in_loop a) k) (λ s. refl))) k
  level_keeps (Source.For line first c last s) a k =
      keeps_scoped (walk.for_walk o line first c last (stmt_walk o s.0) a)
      (λ k. keeps_then k (start_walk o first k) _ (keeps_start first k)
      (λ f. keeps_found f.1 (walk.condition_there_walk o f.1 c) _
      (λ c. keeps_found f.1 (walk.step_walk o f.1 last) _ (λ l. keeps_then f.1 (stmt_walk o s.0 (walk.in_loop a) f.1) _ (s.1 (walk.in_loop a) f.1) (λ s. refl))))) k
  level_keeps (Source.Par line bs) a k =
      let ps = blocks_of (walked (Source.Par line bs)) in
      keeps_unless (nat_le 2 (length ps) && nat_le (length ps) 15) branches line k _ (keeps_then k (walk.branches_walk o ps k) _ (keeps_branches ps (branches_keep line bs) k) (λ s. refl))

  stmt_keeps : (s : SourceStmt) → StmtKeeps s
  stmt_keeps = ind-Stmt StmtKeeps
      (λ x y is. subst (λ x. StmtKeeps (roll-Stmt x)) is (λ a k. subst (λ f. Keeps k (f a k)) (sym (walk_stmt_roll o (plain y))) (level_keeps y a k)))

  -- The items of a function's body.
  keeps_source_item : (a : Around) (i : BlockItem SourceStmt) → Keeping (walk.source_item_walk o a i)
  keeps_source_item a (BlockItem.Decl d) k = keeps_decl d k
  keeps_source_item a (BlockItem.Stmt s) k = stmt_keeps s a k

  pub keeps_source_items : (a : Around) (is : List (BlockItem SourceStmt)) → Keeping (source_items_walk o a is)
  keeps_source_items a is k = keeps_each one (walk.source_item_walk o a) (keeps_source_item a) is k
