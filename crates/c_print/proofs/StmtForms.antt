-- The tokens of each form of a statement.
use Rattle.std.proofs.Common.{◌≡◌, ℕ, ◌<◌, ◌≤◌, ◌++◌, ◌∷◌, [], List, Option, Some, None, get_or, length, length-append, refl, ap, ◌∙◌, sym, arith}
use Rattle.std.proofs.lemmas.List.Folds.{length-flat_map-take}
use Rattle.std.specs.List.{flat_map}
use Rattle.dfi_base.specs.declared.numbers.Line.{Line}
use Rattle.c_lex.specs.declared.token.Word.{Word}
use Rattle.c_lex.specs.declared.token.Mark.{Mark}
use Rattle.c_ast.specs.declared.expr.Expr.{Expr}
use Rattle.c_ast.specs.declared.stmt.Simple.{Simple}
use Rattle.c_ast.specs.declared.stmt.ForStart.{ForStart}
use Rattle.c_ast.specs.declared.stmt.Block.{Block}
use Rattle.c_ast.specs.declared.stmt.BlockItem.{BlockItem}
use Rattle.c_ast.specs.declared.stmt.Stmt.{Stmt, map-Stmt, roll-Stmt, fold-roll-Stmt}
use Rattle.c_ast.specs.declared.stmt.Stmt.TheOpen.{Stmt-F}
use Rattle.c_ast.specs.declared.stmt.Stmt.TheVariants as s
use Rattle.c_print.specs.TreeTokens.{Kinds, ended, for_head, if_some, in_braces, in_head, mark, of_block, of_block_by, of_block_item, of_decl, of_simple, of_stmt, of_whole, stmt_step, word}

-- one level, each of its statements by its tokens
abbrev pub mapped : Stmt-F Stmt → Stmt-F Kinds
mapped x = map-Stmt Stmt Kinds of_stmt x

by_roll : (x : Stmt-F Stmt) → of_stmt (roll-Stmt x) ≡ stmt_step (mapped x)
unfolding of_stmt
by_roll x = fold-roll-Stmt Kinds stmt_step x

items_of : Stmt-F Kinds → List (BlockItem Kinds)
items_of (Stmt-F.Block b) = b.items
items_of _ = []

blocks_of : Stmt-F Kinds → List (Block Kinds)
blocks_of (Stmt-F.Par l bs) = bs
blocks_of _ = []

first_of_all : List (Block Kinds) → List (BlockItem Kinds)
first_of_all [] = []
first_of_all (b ∷ bs) = b.items

items_kinds : (l c : Line) (xs : List (BlockItem Stmt))
    → flat_map (of_block_item (λ (k : Kinds). k)) (items_of (mapped (Stmt-F.Block (record { line = l; items = xs; close = c })))) ≡ flat_map (of_block_item of_stmt) xs
unfolding items_of
items_kinds l c [] = refl
items_kinds l c (BlockItem.Decl d ∷ xs) = ap (λ ks. of_decl d ++ ks) (items_kinds l c xs)
items_kinds l c (BlockItem.Stmt x ∷ xs) = ap (λ ks. of_stmt x ++ ks) (items_kinds l c xs)

first_kinds : (l m c : Line) (xs : List (BlockItem Stmt)) (bs : List (Block Stmt))
    → flat_map (of_block_item (λ (k : Kinds). k)) (first_of_all (blocks_of (mapped (Stmt-F.Par l (record { line = m; items = xs; close = c } ∷ bs))))) ≡ flat_map (of_block_item of_stmt) xs
unfolding blocks_of first_of_all
first_kinds l m c [] bs = refl
first_kinds l m c (BlockItem.Decl d ∷ xs) bs = ap (λ ks. of_decl d ++ ks) (first_kinds l m c xs bs)
first_kinds l m c (BlockItem.Stmt x ∷ xs) bs = ap (λ ks. of_stmt x ++ ks) (first_kinds l m c xs bs)

blocks_kinds : (l : Line) (bs : List (Block Stmt)) → flat_map (of_block_by (λ (k : Kinds). k)) (blocks_of (mapped (Stmt-F.Par l bs))) ≡ flat_map of_block bs
unfolding blocks_of first_of_all
blocks_kinds l [] = refl
blocks_kinds l (b ∷ bs) =
    ap (λ ks. in_braces ks ++ flat_map (of_block_by (λ (k : Kinds). k)) (blocks_of (mapped (Stmt-F.Par l bs)))) (first_kinds l b.line b.close b.items bs)
    ∙ ap (λ ks. of_block b ++ ks) (blocks_kinds l bs)

pub block : (b : Block Stmt) → of_stmt (s.Block b) ≡ of_block b
unfolding items_of
block b = ap of_stmt (sym (s.rolls-Block b)) ∙ by_roll (Stmt-F.Block b) ∙ ap in_braces (items_kinds b.line b.close b.items)

pub empty : (l : Line) → of_stmt (s.Empty l) ≡ mark Mark.Semicolon ∷ []
empty l = ap of_stmt (sym (s.rolls-Empty l)) ∙ by_roll (Stmt-F.Empty l)

pub simple : (a : Simple) → of_stmt (s.Simple a) ≡ ended (of_simple a)
simple a = ap of_stmt (sym (s.rolls-Simple a)) ∙ by_roll (Stmt-F.Simple a)

pub returned : (l : Line) (a : Option Expr) → of_stmt (s.Return l a) ≡ word Word.Return ∷ ended (if_some of_whole a)
returned l a = ap of_stmt (sym (s.rolls-Return l a)) ∙ by_roll (Stmt-F.Return l a)

pub broken : (l : Line) → of_stmt (s.Break l) ≡ word Word.Break ∷ mark Mark.Semicolon ∷ []
broken l = ap of_stmt (sym (s.rolls-Break l)) ∙ by_roll (Stmt-F.Break l)

pub continued : (l : Line) → of_stmt (s.Continue l) ≡ word Word.Continue ∷ mark Mark.Semicolon ∷ []
continued l = ap of_stmt (sym (s.rolls-Continue l)) ∙ by_roll (Stmt-F.Continue l)

pub if_alone : (l : Line) (a : Expr) (x : Stmt) → of_stmt (s.If l a x None) ≡ in_head Word.If (of_whole a) ++ of_stmt x ++ []
if_alone l a x = ap of_stmt (sym (s.rolls-If l a x None)) ∙ by_roll (Stmt-F.If l a x None)

pub if_else : (l : Line) (a : Expr) (x y : Stmt) → of_stmt (s.If l a x (Some y)) ≡ in_head Word.If (of_whole a) ++ of_stmt x ++ word Word.Else ∷ of_stmt y
if_else l a x y = ap of_stmt (sym (s.rolls-If l a x (Some y))) ∙ by_roll (Stmt-F.If l a x (Some y))

pub while : (l : Line) (a : Expr) (x : Stmt) → of_stmt (s.While l a x) ≡ in_head Word.While (of_whole a) ++ of_stmt x
while l a x = ap of_stmt (sym (s.rolls-While l a x)) ∙ by_roll (Stmt-F.While l a x)

pub for : (l : Line) (start : ForStart) (a : Option Expr) (step : Option Simple) (x : Stmt)
    → of_stmt (s.For l start a step x) ≡ for_head start a step ++ of_stmt x
for l start a step x = ap of_stmt (sym (s.rolls-For l start a step x)) ∙ by_roll (Stmt-F.For l start a step x)

pub par : (l : Line) (bs : List (Block Stmt)) → of_stmt (s.Par l bs) ≡ word Word.Par ∷ in_braces (flat_map of_block bs)
unfolding blocks_of
par l bs = ap of_stmt (sym (s.rolls-Par l bs)) ∙ by_roll (Stmt-F.Par l bs) ∙ ap (λ ks. word Word.Par ∷ in_braces ks) (blocks_kinds l bs)

pub ruleset forms = (block, empty, simple, returned, broken, continued, if_alone, if_else, while, for, par)

-- the body of a loop has fewer tokens
pub for_body : (l : Line) (start : ForStart) (a : Option Expr) (step : Option Simple) (x : Stmt) → length (of_stmt x) < length (of_stmt (s.For l start a step x))
for_body l start a step x =
    let e = ap length (for l start a step x) in
    let n = length-append (for_head start a step) (of_stmt x) in
    let h : 0 < length (for_head start a step) = omega arith in
    omega (arith, e, n, h)

-- an item of a list has no more tokens than the list
pub item_tokens : {A : Type 0} (f : A → Kinds) (xs : List A) (i : ℕ) (d : A) → i < length xs → length (f (get_or xs i d)) ≤ length (flat_map f xs)
item_tokens f xs i d h = let e = length-flat_map-take f xs i d h in omega (arith, e)
