-- How much work a statement is to walk: one for each statement in it. Each part of a statement has less.
use Rattle.std.proofs.Common.{◌≡◌, ℕ, zero, suc, ◌+◌, ◌<◌, ◌≤◌, List, [], ◌∷◌, map, length, get_or, Option, Some, None, refl, ap, sym, ◌∙◌, arith}
use Rattle.dfi_base.specs.declared.numbers.Line.{Line}
use Rattle.c_ast.specs.declared.expr.Expr.{Expr as SourceExpr}
use Rattle.c_ast.specs.declared.stmt.Simple.{Simple}
use Rattle.c_ast.specs.declared.stmt.ForStart.{ForStart}
use Rattle.c_ast.specs.declared.stmt.Block.{Block}
use Rattle.c_ast.specs.declared.stmt.BlockItem.{BlockItem}
use Rattle.c_ast.specs.declared.stmt.Stmt.{fold-Stmt, fold-roll-Stmt, roll-Stmt, Stmt as SourceStmt}
use Rattle.c_ast.specs.declared.stmt.Stmt.TheOpen.{Stmt-F as Source}
use Rattle.c_ast.specs.declared.stmt.Stmt.TheVariants as form
use Rattle.c_types.proofs.StmtMaps.{mapped, with_item, with_block, items_mapped, blocks_mapped}

abbrev item_weight : BlockItem ℕ → ℕ
item_weight (BlockItem.Decl d) = 0
item_weight (BlockItem.Stmt n) = n

abbrev items_weight : List (BlockItem ℕ) → ℕ
items_weight [] = 0
items_weight (i ∷ is) = item_weight i + items_weight is

abbrev blocks_weight : List (Block ℕ) → ℕ
blocks_weight [] = 0
blocks_weight (b ∷ bs) = items_weight b.items + blocks_weight bs

abbrev there : Option ℕ → ℕ
there None = 0
there (Some n) = n

abbrev weigh : Source ℕ → ℕ
weigh (Source.Block b) = suc (items_weight b.items)
weigh (Source.If line c n o) = suc (n + there o)
weigh (Source.While line c n) = suc n
weigh (Source.For line first c last n) = suc n
weigh (Source.Par line bs) = suc (blocks_weight bs)
weigh _ = 1

unfoldable pub weight : SourceStmt → ℕ
weight = fold-Stmt ℕ weigh

weight_roll : (x : Source SourceStmt) → weight (roll-Stmt x) ≡ weigh (mapped weight x)
unfolding weight
weight_roll x = fold-roll-Stmt ℕ weigh x

-- of what stands in a statement
abbrev pub of_item : BlockItem SourceStmt → ℕ
of_item (BlockItem.Decl d) = 0
of_item (BlockItem.Stmt s) = weight s

abbrev pub of_items : List (BlockItem SourceStmt) → ℕ
of_items [] = 0
of_items (i ∷ is) = of_item i + of_items is

abbrev pub of_blocks : List (Block SourceStmt) → ℕ
of_blocks [] = 0
of_blocks (b ∷ bs) = of_items b.items + of_blocks bs

abbrev pub of_other : Option SourceStmt → ℕ
of_other None = 0
of_other (Some s) = weight s

items_same : (xs : List (BlockItem SourceStmt)) → items_weight (map (with_item weight) xs) ≡ of_items xs
items_same [] = refl
items_same (BlockItem.Decl d ∷ xs) = ap (λ n. 0 + n) (items_same xs)
items_same (BlockItem.Stmt s ∷ xs) = ap (λ n. weight s + n) (items_same xs)

blocks_same : (bs : List (Block SourceStmt)) → blocks_weight (map (with_block weight) bs) ≡ of_blocks bs
blocks_same [] = refl
blocks_same (b ∷ bs) = ap (λ n. n + blocks_weight (map (with_block weight) bs)) (items_same b.items) ∙ ap (λ n. of_items b.items + n) (blocks_same bs)

pub weight_block : (s : SourceStmt) (b : Block SourceStmt) → s ≡ form.Block b → weight s ≡ suc (of_items b.items)
weight_block s b is =
    ap weight (is ∙ sym (form.rolls-Block b)) ∙ weight_roll (Source.Block b) ∙ ap (λ xs. suc (items_weight xs)) (items_mapped weight b.line b.close b.items)
    ∙ ap suc (items_same b.items)

pub weight_if : (s : SourceStmt) (line : Line) (c : SourceExpr) (first : SourceStmt) (o : Option SourceStmt) → s ≡ form.If line c first o → weight s ≡ suc (weight first + of_other o)
weight_if s line c first None is = ap weight (is ∙ sym (form.rolls-If line c first None)) ∙ weight_roll (Source.If line c first None)
weight_if s line c first (Some t) is = ap weight (is ∙ sym (form.rolls-If line c first (Some t))) ∙ weight_roll (Source.If line c first (Some t))

pub weight_while : (s : SourceStmt) (line : Line) (c : SourceExpr) (b : SourceStmt) → s ≡ form.While line c b → weight s ≡ suc (weight b)
weight_while s line c b is = ap weight (is ∙ sym (form.rolls-While line c b)) ∙ weight_roll (Source.While line c b)

pub weight_for : (s : SourceStmt) (line : Line) (first : ForStart) (c : Option SourceExpr) (last : Option Simple) (b : SourceStmt) → s ≡ form.For line first c last b → weight s ≡ suc (weight b)
weight_for s line first c last b is = ap weight (is ∙ sym (form.rolls-For line first c last b)) ∙ weight_roll (Source.For line first c last b)

pub weight_par : (s : SourceStmt) (line : Line) (bs : List (Block SourceStmt)) → s ≡ form.Par line bs → weight s ≡ suc (of_blocks bs)
weight_par s line bs is =
    ap weight (is ∙ sym (form.rolls-Par line bs)) ∙ weight_roll (Source.Par line bs) ∙ ap (λ xs. suc (blocks_weight xs)) (blocks_mapped weight line bs)
    ∙ ap suc (blocks_same bs)

pub item_within : (xs : List (BlockItem SourceStmt)) (i : ℕ) (d : BlockItem SourceStmt) → i < length xs → of_item (get_or xs i d) ≤ of_items xs
item_within [] i d less = absurd (omega (arith, less))
item_within (x ∷ xs) zero d less = omega arith
item_within (x ∷ xs) (suc i) d less = let rest = item_within xs i d (omega (arith, less)) in omega (arith, rest)

pub block_within : (bs : List (Block SourceStmt)) (i : ℕ) (d : Block SourceStmt) → i < length bs → of_items (get_or bs i d).items ≤ of_blocks bs
block_within [] i d less = absurd (omega (arith, less))
block_within (b ∷ bs) zero d less = omega arith
block_within (b ∷ bs) (suc i) d less = let rest = block_within bs i d (omega (arith, less)) in omega (arith, rest)
