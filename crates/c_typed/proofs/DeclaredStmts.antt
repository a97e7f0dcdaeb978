-- What the parts of a function declare, each variable with its array dimensions, is no more than the leaves of its tree.
use Rattle.std.proofs.Common.{◌≡◌, ℕ, suc, ◌+◌, ◌≤◌, List, [], ◌∷◌, ◌++◌, map, length, Option, Some, None, refl, ap, sym, ◌∙◌, subst, arith}
use Rattle.std.specs.Prelude.{nat_abs, ℤ}
use Rattle.std.proofs.lemmas.List.{length-append}
use Rattle.dfi_base.specs.declared.numbers.Line.{Line}
use Rattle.c_ast.specs.declared.decl.Base.{Base}
use Rattle.c_ast.specs.declared.decl.Declarator.{Declarator}
use Rattle.c_ast.specs.declared.decl.Decl.{Decl}
use Rattle.c_ast.specs.declared.decl.DeclItem.{DeclItem}
use Rattle.c_ast.specs.declared.expr.Expr.{Expr as SourceExpr}
use Rattle.c_ast.specs.declared.stmt.ForStart.{ForStart}
use Rattle.c_ast.specs.declared.stmt.Block.{Block}
use Rattle.c_ast.specs.declared.stmt.BlockItem.{BlockItem}
use Rattle.c_ast.specs.declared.stmt.Stmt.{ind-Stmt, fold-roll-Stmt, map-Stmt, roll-Stmt, Stmt as SourceStmt}
use Rattle.c_ast.specs.declared.stmt.Stmt.TheOpen.{Stmt-F as Source}
use Rattle.c_ast.specs.Leaves as leaves
use Rattle.c_ast.specs.Leaves.{Leaves, of_all, of_option, of_ident, of_length, of_expr, of_declarator, of_decl_item, of_decl, of_start, of_simple, of_block_item, of_block_by, of_stmt}
use Rattle.c_typed.specs.Types.{declared_type}
use Rattle.c_typed.specs.Marks.{Mark, Opening, local, opens, closes}
use Rattle.c_typed.specs.Whole.{Whole}
use Rattle.c_typed.specs.Parts.{Part, in_turn, separated}
use Rattle.c_typed.specs.Decls as decls
use Rattle.c_typed.specs.Decls.{local_item, local_decl}
use Rattle.c_typed.specs.Stmts.{block_item, branch_of, start, stmt_step, stmt}
use Rattle.c_typed.specs.Programs.{with_part, function_body}
use Rattle.c_typed.proofs.Levels.{items_of, blocks_of, first_items, mapped, stmt_roll}
use Rattle.c_typed.proofs.Quiet.{no_marks, quiet, quiet_base}
use Rattle.c_typed.proofs.BalancedStmts.{quiet_simple, quiet_condition_there, quiet_value_there, quiet_step}

-- the variables that marks declare, with their dimensions
abbrev pub count : List Mark → ℕ
count [] = 0
count (local x t ∷ ms) = suc (length t.lengths + count ms)
count (_ ∷ ms) = count ms

pub count_append : (ms ns : List Mark) → count (ms ++ ns) ≡ count ms + count ns
count_append [] ns = omega arith
count_append (local x t ∷ ms) ns = let rest = count_append ms ns in omega (arith, rest)
count_append (_ ∷ ms) ns = count_append ms ns

-- marks of a part with these leaves
pub record Few (ms : List Mark) (ls : Leaves) : Type 0 where
  pub few : count ms ≤ length ls

pub few_none : {ls : Leaves} → Few [] ls
few_none {ls} = record { few = omega arith }

pub few_quiet : {ms : List Mark} {ls : Leaves} → ms ≡ [] → Few ms ls
few_quiet {ms} {ls} is = subst (λ ms. Few ms ls) (sym is) few_none

pub join : {ms ns : List Mark} {ls ks : Leaves} → Few ms ls → Few ns ks → Few (ms ++ ns) (ls ++ ks)
join {ms} {ns} {ls} {ks} is that =
    let marks = count_append ms ns in
    let sum = length-append ls ks in
    let one = is.few in
    let two = that.few in
    record { few = omega (arith, one, two, marks, sum) }

pub wider : {ms : List Mark} {ls ks : Leaves} → Few ms ls → length ls ≤ length ks → Few ms ks
wider {ms} {ls} {ks} is le = (let one = is.few in record { few = omega (arith, one, le) })

-- beside marks of nothing
pub with_none : {ms : List Mark} {ls : Leaves} → Few ms ls → Few (ms ++ []) ls
with_none {ms} {ls} is = (let marks = count_append ms [] in let one = is.few in record { few = omega (arith, one, marks) })

pub closed : {ms : List Mark} {ls : Leaves} → Few ms ls → Few (ms ++ (closes ∷ [])) ls
closed {ms} {ls} is = (let marks = count_append ms (closes ∷ []) in let one = is.few in record { few = omega (arith, one, marks) })

pub opened : {o : Opening} {ms : List Mark} {ls : Leaves} → Few ms ls → Few (opens o ∷ ms) ls
opened {o} {ms} {ls} is = record { few = is.few }

pub behind_quiet : {ms ns : List Mark} {ls : Leaves} → ms ≡ [] → Few ns ls → Few (ms ++ ns) ls
behind_quiet {ms} {ns} {ls} is that = subst (λ ms. Few (ms ++ ns) ls) (sym is) that

pub before_quiet : {ms ns : List Mark} {ls : Leaves} → Few ms ls → ns ≡ [] → Few (ms ++ ns) ls
before_quiet {ms} {ns} {ls} that is = subst (λ ns. Few (ms ++ ns) ls) (sym is) (with_none that)

pub first_leaves : (ls ks : Leaves) → length ls ≤ length (ls ++ ks)
first_leaves ls ks = let sum = length-append ls ks in omega (arith, sum)

pub last_leaves : (ls ks : Leaves) → length ks ≤ length (ls ++ ks)
last_leaves ls ks = let sum = length-append ls ks in omega (arith, sum)

-- Lists of parts.
pub data AllFew {A X : Type 0} (f : X → Leaves) : List (Part A) → List X → Type 0 where
  none : AllFew f [] []
  each : {p : Part A} {ps : List (Part A)} {x : X} {xs : List X} → Few p.marks (f x) → AllFew f ps xs → AllFew f (p ∷ ps) (x ∷ xs)

pub all_few : {A X : Type 0} (f : X → Leaves) (g : X → Part A) → ((x : X) → Few (g x).marks (f x)) → (xs : List X) → AllFew f (map g xs) xs
all_few f g is [] = none
all_few f g is (x ∷ xs) = each (is x) (all_few f g is xs)

pub few_in_turn : {A X : Type 0} (f : X → Leaves) {ps : List (Part A)} {xs : List X} → AllFew f ps xs → Few (in_turn ps).marks (of_all f xs)
few_in_turn f none = few_none
few_in_turn f (each p ps) = join p (few_in_turn f ps)

pub few_separated : {A X : Type 0} (f : X → Leaves) {ps : List (Part A)} {xs : List X} → AllFew f ps xs → Few (separated ps).marks (of_all f xs)
few_separated f none = few_none
few_separated f (each p none) = join p (few_none)
few_separated f (each p (each q ps)) = join (with_none p) (few_separated f (each q ps))

-- Declarations.
length_map : {A B : Type 0} (f : A → B) (xs : List A) → length (map f xs) ≡ length xs
length_map f [] = refl
length_map f (x ∷ xs) = ap suc (length_map f xs)

lengths_leaves : (ks : List ℤ) → length (of_all of_length ks) ≡ length ks
lengths_leaves [] = refl
lengths_leaves (k ∷ ks) = ap suc (lengths_leaves ks)

pub declarator_leaves : (tags : List ℕ) (b : Base) (d : Declarator) → suc (length (declared_type tags b d).lengths) ≡ length (of_declarator d)
declarator_leaves tags b d = ap suc (length_map nat_abs d.lengths ∙ sym (lengths_leaves d.lengths))

few_item : (w : Whole) (b : Base) (i : DeclItem) → Few (local_item w b i).marks (of_decl_item i)
few_item w b i = by i.value where
  by : (v : Option SourceExpr) → Few (decls.valued w i.declarator (declared_type w.tags b i.declarator) v).marks (of_declarator i.declarator ++ of_option of_expr v)
  by None =
      let own = declarator_leaves w.tags b i.declarator in
      let sum = first_leaves (of_declarator i.declarator) [] in
      record { few = omega (arith, own, sum) }
  by (Some e) =
      let own = declarator_leaves w.tags b i.declarator in
      let sum = first_leaves (of_declarator i.declarator) (of_expr e) in
      let none : count (decls.valued w i.declarator (declared_type w.tags b i.declarator) (Some e)).marks ≡ suc (length (declared_type w.tags b i.declarator).lengths + 0) =
      ap (λ ms. suc (length (declared_type w.tags b i.declarator).lengths + count ms)) (quiet w e) in
      record { few = omega (arith, own, sum, none) }

pub few_decl : (w : Whole) (d : Decl) → Few (local_decl w d).marks (of_decl d)
few_decl w d =
    with_none
    (wider (behind_quiet (quiet_base w (decls.by_value (map (λ i. i.declarator) d.items)) d.base) (few_separated of_decl_item (all_few of_decl_item (local_item w d.base) (few_item w d.base) d.items)))
    (last_leaves (leaves.of_base d.base) (of_all of_decl_item d.items)))

few_start : (w : Whole) (s : ForStart) → Few (start w s).marks (of_start s)
few_start w (ForStart.Decl d) = few_decl w d
few_start w (ForStart.Simple None) = few_none
few_start w (ForStart.Simple (Some s)) = few_quiet (no_marks (quiet_simple w s) refl)

-- A statement and what is known of it.
abbrev pub StmtFew : Whole → SourceStmt → Type 0
StmtFew w s = Few (stmt w s).marks (of_stmt s)

abbrev Known : Whole → Type 0
Known w = (s : SourceStmt) × StmtFew w s

abbrev forgotten : (w : Whole) → Source (Known w) → Source SourceStmt
forgotten w y = map-Stmt (Known w) SourceStmt (λ s. s.0) y

abbrev leafed : Source SourceStmt → Source Leaves
leafed x = map-Stmt SourceStmt Leaves of_stmt x

leaves_roll : (x : Source SourceStmt) → of_stmt (roll-Stmt x) ≡ leaves.stmt_step (leafed x)
unfolding of_stmt
leaves_roll x = fold-roll-Stmt Leaves leaves.stmt_step x

abbrev leaf_items : Source Leaves → List (BlockItem Leaves)
leaf_items (Source.Block b) = b.items
leaf_items _ = []

abbrev leaf_blocks : Source Leaves → List (Block Leaves)
leaf_blocks (Source.Par line bs) = bs
leaf_blocks _ = []

abbrev first_leaf_items : List (Block Leaves) → List (BlockItem Leaves)
first_leaf_items [] = []
first_leaf_items (b ∷ bs) = b.items

abbrev item_leaves : BlockItem Leaves → Leaves
item_leaves = of_block_item (λ l. l)

abbrev block_leaves : Block Leaves → Leaves
block_leaves = of_block_by (λ l. l)

few_items : (w : Whole) (line close : Line) (xs : List (BlockItem (Known w)))
    → AllFew item_leaves (map (block_item w) (items_of (mapped w (forgotten w (Source.Block (record { line = line; items = xs; close = close }))))))
    (leaf_items (leafed (forgotten w (Source.Block (record { line = line; items = xs; close = close })))))
few_items w line close [] = none
few_items w line close (BlockItem.Decl d ∷ xs) = each (few_decl w d) (few_items w line close xs)
few_items w line close (BlockItem.Stmt s ∷ xs) = each s.1 (few_items w line close xs)

few_branch_items : (w : Whole) (line l c : Line) (bs : List (Block (Known w))) (xs : List (BlockItem (Known w)))
    → AllFew item_leaves (map (block_item w) (first_items (blocks_of (mapped w (forgotten w (Source.Par line (record { line = l; items = xs; close = c } ∷ bs)))))))
    (first_leaf_items (leaf_blocks (leafed (forgotten w (Source.Par line (record { line = l; items = xs; close = c } ∷ bs))))))
few_branch_items w line l c bs [] = none
few_branch_items w line l c bs (BlockItem.Decl d ∷ xs) = each (few_decl w d) (few_branch_items w line l c bs xs)
few_branch_items w line l c bs (BlockItem.Stmt s ∷ xs) = each s.1 (few_branch_items w line l c bs xs)

few_branches : (w : Whole) (line : Line) (bs : List (Block (Known w)))
    → AllFew block_leaves (map (branch_of w) (blocks_of (mapped w (forgotten w (Source.Par line bs))))) (leaf_blocks (leafed (forgotten w (Source.Par line bs))))
few_branches w line [] = none
few_branches w line (b ∷ bs) = each (opened (closed (with_none (few_in_turn item_leaves (few_branch_items w line b.line b.close bs b.items))))) (few_branches w line bs)

few_other : (w : Whole) (line : Line) (c : SourceExpr) (first : Known w) (o : Option (Known w))
    → Few (stmt_step w (mapped w (forgotten w (Source.If line c first o)))).marks (leaves.stmt_step (leafed (forgotten w (Source.If line c first o))))
few_other w line c first None =
    let a = length-append (of_expr c ++ of_stmt first.0) [] in
    let b = length-append (of_expr c) (of_stmt first.0) in
    let le : length (of_stmt first.0) ≤ length (of_expr c ++ of_stmt first.0 ++ []) = omega (arith, a, b) in
    wider (with_none (behind_quiet (no_marks (quiet w c) refl) first.1)) le
few_other w line c first (Some s) =
    let a = length-append (of_expr c ++ of_stmt first.0) (of_stmt s.0) in
    let b = length-append (of_expr c) (of_stmt first.0) in
    let d = length-append (of_stmt first.0) (of_stmt s.0) in
    let le : length (of_stmt first.0 ++ of_stmt s.0) ≤ length (of_expr c ++ of_stmt first.0 ++ of_stmt s.0) = omega (arith, a, b, d) in
    wider (join (behind_quiet (no_marks (quiet w c) refl) first.1) s.1) le

level_few : (w : Whole) (y : Source (Known w)) → Few (stmt_step w (mapped w (forgotten w y))).marks (leaves.stmt_step (leafed (forgotten w y)))
level_few w (Source.Block b) = opened (closed (with_none (few_in_turn item_leaves (few_items w b.line b.close b.items))))
level_few w (Source.Empty line) = few_none
level_few w (Source.Simple s) = few_quiet (no_marks (quiet_simple w s) refl)
level_few w (Source.Return line v) = few_quiet (no_marks (quiet_value_there w v) refl)
level_few w (Source.Break line) = few_none
level_few w (Source.Continue line) = few_none
level_few w (Source.If line c first other) = few_other w line c first other
level_few w (Source.While line c s) = opened (closed (wider (behind_quiet (no_marks (quiet w c) refl) s.1) (last_leaves (of_expr c) (of_stmt s.0))))
level_few w (Source.For line first c last s) =
    let a = length-append (of_start first) (of_stmt s.0) in
    let b = length-append (of_start first ++ of_option of_expr c ++ of_option of_simple last) (of_stmt s.0) in
    let d = length-append (of_start first ++ of_option of_expr c) (of_option of_simple last) in
    let e = length-append (of_start first) (of_option of_expr c) in
    let le : length (of_start first ++ of_stmt s.0) ≤ length (of_start first ++ of_option of_expr c ++ of_option of_simple last ++ of_stmt s.0) = omega (arith, a, b, d, e) in
    opened
    (closed (wider (join (with_none (before_quiet (with_none (before_quiet (few_start w first) (quiet_condition_there w c))) (quiet_step w last))) s.1) le))
level_few w (Source.Par line bs) = with_none (few_in_turn block_leaves (few_branches w line bs))

-- Every statement.
pub few_stmt : (w : Whole) (s : SourceStmt) → StmtFew w s
few_stmt w =
    ind-Stmt (StmtFew w)
    (λ x y is. subst (λ x. StmtFew w (roll-Stmt x)) is (subst (λ p. Few p.marks (of_stmt (roll-Stmt (forgotten w y)))) (sym (stmt_roll w (forgotten w y)))
    (subst (λ ls. Few (stmt_step w (mapped w (forgotten w y))).marks ls) (sym (leaves_roll (forgotten w y))) (level_few w y))))

few_block_items : (w : Whole) (xs : List (BlockItem SourceStmt)) → AllFew (of_block_item of_stmt) (map (block_item w) (map (with_part w) xs)) xs
few_block_items w [] = none
few_block_items w (BlockItem.Decl d ∷ xs) = each (few_decl w d) (few_block_items w xs)
few_block_items w (BlockItem.Stmt s ∷ xs) = each (few_stmt w s) (few_block_items w xs)

pub few_function_body : (w : Whole) (b : Block SourceStmt) → Few (function_body w b).marks (leaves.of_block b)
few_function_body w b = with_none (few_in_turn (of_block_item of_stmt) (few_block_items w b.items))
