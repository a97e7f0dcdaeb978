-- Each form of a statement on one line.
use Rattle.std.proofs.Common.{◌≡◌, ◌∷◌, [], List, map, Option, Some, None, refl, ap, ◌∙◌, sym, option_map}
use Rattle.dfi_base.specs.declared.numbers.Line.{Line}
use Rattle.c_ast.specs.declared.expr.Expr.{Expr}
use Rattle.c_ast.specs.declared.stmt.Simple.{Simple}
use Rattle.c_ast.specs.declared.stmt.ForStart.{ForStart}
use Rattle.c_ast.specs.declared.stmt.Block.{Block}
use Rattle.c_ast.specs.declared.stmt.BlockItem.{BlockItem}
use Rattle.c_ast.specs.declared.stmt.Stmt.{Stmt, map-Stmt, roll-Stmt, fold-roll-Stmt}
use Rattle.c_ast.specs.declared.stmt.Stmt.TheOpen.{Stmt-F}
use Rattle.c_ast.specs.declared.stmt.Stmt.TheVariants as s
use Rattle.c_print.specs.SameTree as one

abbrev mapped : Stmt-F Stmt → Stmt-F Stmt
mapped x = map-Stmt Stmt Stmt one.stmt x

by_roll : (x : Stmt-F Stmt) → one.stmt (roll-Stmt x) ≡ roll-Stmt (one.stmt_step (mapped x))
unfolding one.stmt
by_roll x = fold-roll-Stmt Stmt (λ y. roll-Stmt (one.stmt_step y)) x

items_of : Stmt-F Stmt → List (BlockItem Stmt)
items_of (Stmt-F.Block b) = b.items
items_of _ = []

blocks_of : Stmt-F Stmt → List (Block Stmt)
blocks_of (Stmt-F.Par l bs) = bs
blocks_of _ = []

first_of_all : List (Block Stmt) → List (BlockItem Stmt)
first_of_all [] = []
first_of_all (b ∷ bs) = b.items

items_line : (l c : Line) (xs : List (BlockItem Stmt))
    → map (one.block_item (λ (k : Stmt). k)) (items_of (mapped (Stmt-F.Block (record { line = l; items = xs; close = c })))) ≡ map (one.block_item one.stmt) xs
unfolding items_of
items_line l c [] = refl
items_line l c (BlockItem.Decl d ∷ xs) = ap (λ ys. BlockItem.Decl (one.decl d) ∷ ys) (items_line l c xs)
items_line l c (BlockItem.Stmt x ∷ xs) = ap (λ ys. BlockItem.Stmt (one.stmt x) ∷ ys) (items_line l c xs)

first_line : (l m c : Line) (xs : List (BlockItem Stmt)) (bs : List (Block Stmt))
    → map (one.block_item (λ (k : Stmt). k)) (first_of_all (blocks_of (mapped (Stmt-F.Par l (record { line = m; items = xs; close = c } ∷ bs))))) ≡ map (one.block_item one.stmt) xs
unfolding blocks_of first_of_all
first_line l m c [] bs = refl
first_line l m c (BlockItem.Decl d ∷ xs) bs = ap (λ ys. BlockItem.Decl (one.decl d) ∷ ys) (first_line l m c xs bs)
first_line l m c (BlockItem.Stmt x ∷ xs) bs = ap (λ ys. BlockItem.Stmt (one.stmt x) ∷ ys) (first_line l m c xs bs)

abbrev with_items : List (BlockItem Stmt) → Block Stmt
with_items xs = record { line = one.first; items = xs; close = one.first }

blocks_line : (l : Line) (bs : List (Block Stmt)) → map (one.block_by (λ (k : Stmt). k)) (blocks_of (mapped (Stmt-F.Par l bs))) ≡ map one.block bs
unfolding blocks_of first_of_all
blocks_line l [] = refl
blocks_line l (b ∷ bs) =
    ap (λ ys. with_items ys ∷ map (one.block_by (λ (k : Stmt). k)) (blocks_of (mapped (Stmt-F.Par l bs)))) (first_line l b.line b.close b.items bs)
    ∙ ap (λ ys. one.block b ∷ ys) (blocks_line l bs)

pub block : (b : Block Stmt) → one.stmt (s.Block b) ≡ s.Block (one.block b)
unfolding items_of
block b =
    ap one.stmt (sym (s.rolls-Block b)) ∙ by_roll (Stmt-F.Block b)
    ∙ ap (λ ys. roll-Stmt (Stmt-F.Block (with_items ys))) (items_line b.line b.close b.items) ∙ s.rolls-Block (one.block b)

pub empty : (l : Line) → one.stmt (s.Empty l) ≡ s.Empty one.first
empty l = ap one.stmt (sym (s.rolls-Empty l)) ∙ by_roll (Stmt-F.Empty l) ∙ s.rolls-Empty one.first

pub simple : (a : Simple) → one.stmt (s.Simple a) ≡ s.Simple (one.simple a)
simple a = ap one.stmt (sym (s.rolls-Simple a)) ∙ by_roll (Stmt-F.Simple a) ∙ s.rolls-Simple (one.simple a)

pub returned : (l : Line) (a : Option Expr) → one.stmt (s.Return l a) ≡ s.Return one.first (option_map one.expr a)
returned l a = ap one.stmt (sym (s.rolls-Return l a)) ∙ by_roll (Stmt-F.Return l a) ∙ s.rolls-Return one.first (option_map one.expr a)

pub broken : (l : Line) → one.stmt (s.Break l) ≡ s.Break one.first
broken l = ap one.stmt (sym (s.rolls-Break l)) ∙ by_roll (Stmt-F.Break l) ∙ s.rolls-Break one.first

pub continued : (l : Line) → one.stmt (s.Continue l) ≡ s.Continue one.first
continued l = ap one.stmt (sym (s.rolls-Continue l)) ∙ by_roll (Stmt-F.Continue l) ∙ s.rolls-Continue one.first

pub if_alone : (l : Line) (a : Expr) (x : Stmt) → one.stmt (s.If l a x None) ≡ s.If one.first (one.expr a) (one.stmt x) None
if_alone l a x = ap one.stmt (sym (s.rolls-If l a x None)) ∙ by_roll (Stmt-F.If l a x None) ∙ s.rolls-If one.first (one.expr a) (one.stmt x) None

pub if_else : (l : Line) (a : Expr) (x y : Stmt) → one.stmt (s.If l a x (Some y)) ≡ s.If one.first (one.expr a) (one.stmt x) (Some (one.stmt y))
if_else l a x y =
    ap one.stmt (sym (s.rolls-If l a x (Some y))) ∙ by_roll (Stmt-F.If l a x (Some y)) ∙ s.rolls-If one.first (one.expr a) (one.stmt x) (Some (one.stmt y))

pub while : (l : Line) (a : Expr) (x : Stmt) → one.stmt (s.While l a x) ≡ s.While one.first (one.expr a) (one.stmt x)
while l a x = ap one.stmt (sym (s.rolls-While l a x)) ∙ by_roll (Stmt-F.While l a x) ∙ s.rolls-While one.first (one.expr a) (one.stmt x)

pub for : (l : Line) (start : ForStart) (a : Option Expr) (step : Option Simple) (x : Stmt)
    → one.stmt (s.For l start a step x) ≡ s.For one.first (one.start start) (option_map one.expr a) (option_map one.simple step) (one.stmt x)
for l start a step x =
    ap one.stmt (sym (s.rolls-For l start a step x)) ∙ by_roll (Stmt-F.For l start a step x)
    ∙ s.rolls-For one.first (one.start start) (option_map one.expr a) (option_map one.simple step) (one.stmt x)

pub par : (l : Line) (bs : List (Block Stmt)) → one.stmt (s.Par l bs) ≡ s.Par one.first (map one.block bs)
unfolding blocks_of
par l bs =
    ap one.stmt (sym (s.rolls-Par l bs)) ∙ by_roll (Stmt-F.Par l bs)
    ∙ ap (λ ys. roll-Stmt (Stmt-F.Par one.first ys)) (blocks_line l bs) ∙ s.rolls-Par one.first (map one.block bs)
