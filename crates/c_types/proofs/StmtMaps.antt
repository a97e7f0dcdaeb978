-- What a function on statements makes of the statements in a block and in branches.
use Rattle.std.proofs.Common.{◌≡◌, List, [], ◌∷◌, map, refl, ap, ◌∙◌}
use Rattle.dfi_base.specs.declared.numbers.Line.{Line}
use Rattle.c_ast.specs.declared.stmt.Block.{Block}
use Rattle.c_ast.specs.declared.stmt.BlockItem.{BlockItem}
use Rattle.c_ast.specs.declared.stmt.Stmt.{map-Stmt, Stmt as SourceStmt}
use Rattle.c_ast.specs.declared.stmt.Stmt.TheOpen.{Stmt-F as Source}

abbrev pub mapped : {A : Type 0} → (SourceStmt → A) → Source SourceStmt → Source A
mapped {A} f x = map-Stmt SourceStmt A f x

abbrev pub with_item : {A : Type 0} → (SourceStmt → A) → BlockItem SourceStmt → BlockItem A
with_item f (BlockItem.Decl d) = BlockItem.Decl d
with_item f (BlockItem.Stmt s) = BlockItem.Stmt (f s)

abbrev pub with_block : {A : Type 0} → (SourceStmt → A) → Block SourceStmt → Block A
with_block f b = record { line = b.line; items = map (with_item f) b.items; close = b.close }

abbrev pub items_of : {A : Type 0} → Source A → List (BlockItem A)
items_of (Source.Block b) = b.items
items_of _ = []

pub items_mapped : {A : Type 0} (f : SourceStmt → A) (line close : Line) (xs : List (BlockItem SourceStmt))
    → items_of (mapped f (Source.Block (record { line = line; items = xs; close = close }))) ≡ map (with_item f) xs
items_mapped f line close [] = refl
items_mapped f line close (BlockItem.Decl d ∷ xs) = ap (λ ys. BlockItem.Decl d ∷ ys) (items_mapped f line close xs)
items_mapped f line close (BlockItem.Stmt s ∷ xs) = ap (λ ys. BlockItem.Stmt (f s) ∷ ys) (items_mapped f line close xs)

abbrev pub blocks_of : {A : Type 0} → Source A → List (Block A)
blocks_of (Source.Par line bs) = bs
blocks_of _ = []

abbrev first_items : {A : Type 0} → List (Block A) → List (BlockItem A)
first_items [] = []
first_items (b ∷ bs) = b.items

first_mapped : {A : Type 0} (f : SourceStmt → A) (line l c : Line) (bs : List (Block SourceStmt)) (xs : List (BlockItem SourceStmt))
    → first_items (blocks_of (mapped f (Source.Par line (record { line = l; items = xs; close = c } ∷ bs)))) ≡ map (with_item f) xs
first_mapped f line l c bs [] = refl
first_mapped f line l c bs (BlockItem.Decl d ∷ xs) = ap (λ ys. BlockItem.Decl d ∷ ys) (first_mapped f line l c bs xs)
first_mapped f line l c bs (BlockItem.Stmt s ∷ xs) = ap (λ ys. BlockItem.Stmt (f s) ∷ ys) (first_mapped f line l c bs xs)

pub blocks_mapped : {A : Type 0} (f : SourceStmt → A) (line : Line) (bs : List (Block SourceStmt)) → blocks_of (mapped f (Source.Par line bs)) ≡ map (with_block f) bs
blocks_mapped f line [] = refl
blocks_mapped f line (b ∷ bs) =
    ap (λ ys. record { line = b.line; items = ys; close = b.close } ∷ blocks_of (mapped f (Source.Par line bs))) (first_mapped f line b.line b.close bs b.items)
    ∙ ap (λ ys. with_block f b ∷ ys) (blocks_mapped f line bs)
