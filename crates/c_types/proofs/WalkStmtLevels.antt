-- The equations of the walk over a statement, one level at a time.
use Rattle.std.proofs.Common.{◌≡◌, ℕ, suc, List, [], ◌∷◌, ◌++◌, map, length, Option, Some, None, Ok, Err, refl, ap, sym, ◌∙◌}
use Rattle.std.specs.Prelude.{nat_le, ◌&&◌}
use Rattle.dfi_base.specs.declared.numbers.Line.{Line}
use Rattle.c_ast.specs.declared.expr.Expr.{Expr as SourceExpr}
use Rattle.c_ast.specs.declared.stmt.Simple.{Simple}
use Rattle.c_ast.specs.declared.stmt.ForStart.{ForStart}
use Rattle.c_ast.specs.declared.stmt.Block.{Block}
use Rattle.c_ast.specs.declared.stmt.BlockItem.{BlockItem}
use Rattle.c_ast.specs.declared.stmt.Stmt.{fold-roll-Stmt, roll-Stmt, Stmt as SourceStmt}
use Rattle.c_ast.specs.declared.stmt.Stmt.TheOpen.{Stmt-F as Source}
use Rattle.c_ast.specs.declared.stmt.Stmt.TheVariants as form
use Rattle.c_typed.specs.declared.stmt.Stmt.{Stmt, roll-Stmt as roll}
use Rattle.c_typed.specs.declared.stmt.Stmt.TheOpen.{Stmt-F}
use Rattle.c_typed.specs.declared.stmt.Branch.{Branch}
use Rattle.c_types.specs.declared.outline.Outline.{Outline}
use Rattle.c_types.specs.declared.known.Known.{Known}
use Rattle.c_types.specs.declared.known.Around.{Around}
use Rattle.c_typed.specs.Faults.{branches}
use Rattle.c_types.specs.tools.Steps.{Found, ◌>>=◌, unless_kept, each, one}
use Rattle.c_types.specs.tools.KnownSteps.{entered, exited}
use Rattle.c_types.specs.tools.StmtWalk
use Rattle.c_types.proofs.StmtMaps.{mapped, with_item, with_block, items_mapped, blocks_mapped}

abbrev W : Type 0
W = Around → StmtWalk.Walk Stmt

pub walk_stmt_roll : (o : Outline) (x : Source SourceStmt) → StmtWalk.stmt_walk o (roll-Stmt x) ≡ StmtWalk.stmt_walk_step o (mapped (StmtWalk.stmt_walk o) x)
unfolding StmtWalk.stmt_walk
walk_stmt_roll o x = fold-roll-Stmt W (StmtWalk.stmt_walk_step o) x

-- the same walk over the items before they are mapped
abbrev behind_first : {B C K : Type 0} → (B → List C) → B → List C × K → Found (List C × K)
behind_first given b t = Ok (given b ++ t.0, t.1)

abbrev and_rest : {B C K : Type 0} → (B → List C) → (K → Found (List C × K)) → B × K → Found (List C × K)
and_rest given rest s = rest s.1 >>= behind_first given s.0

each_rest : {B C K : Type 0} (given : B → List C) (rest other : K → Found (List C × K)) (r : Found (B × K)) → ((l : K) → rest l ≡ other l) → (r >>= and_rest given rest) ≡ (r >>= and_rest given other)
each_rest given rest other (Ok s) same = ap (λ f. f >>= behind_first given s.0) (same s.1)
each_rest given rest other (Err e) same = refl

pub each_map : {X Y K B C : Type 0} (given : B → List C) (step : Y → K → Found (B × K)) (other : X → K → Found (B × K)) (f : X → Y) → ((x : X) (k : K) → step (f x) k ≡ other x k)
    → (xs : List X) (k : K) → each given step (map f xs) k ≡ each given other xs k
each_map given step other f same [] k = refl
each_map given step other f same (x ∷ xs) k =
    ap (λ r. r >>= and_rest given (each given step (map f xs))) (same x k)
    ∙ each_rest given (each given step (map f xs)) (each given other xs) (other x k) (each_map given step other f same xs)

item_same : (o : Outline) (a : Around) (i : BlockItem SourceStmt) (k : Known) → StmtWalk.block_item_walk o a (with_item (StmtWalk.stmt_walk o) i) k ≡ StmtWalk.source_item_walk o a i k
item_same o a (BlockItem.Decl d) k = refl
item_same o a (BlockItem.Stmt s) k = refl

pub items_same : (o : Outline) (a : Around) (is : List (BlockItem SourceStmt)) (k : Known) → StmtWalk.items_walk o a (map (with_item (StmtWalk.stmt_walk o)) is) k ≡ StmtWalk.source_items_walk o a is k
items_same o a is k = each_map one (StmtWalk.block_item_walk o a) (StmtWalk.source_item_walk o a) (with_item (StmtWalk.stmt_walk o)) (item_same o a) is k

abbrev out_of : List Stmt × Known → Found (List Stmt × Known)
out_of s = Ok (s.0, exited s.1)

abbrev braced : List Stmt × Known → Found (Stmt × Known)
braced s = Ok (roll (Stmt-F.Block s.0), s.1)

abbrev then_exited : Found (List Stmt × Known) → Found (Stmt × Known)
then_exited r = r >>= out_of >>= braced

pub walk_block : (o : Outline) (s : SourceStmt) (b : Block SourceStmt) (a : Around) (k : Known) → s ≡ form.Block b
    → StmtWalk.stmt_walk o s a k ≡ (StmtWalk.scoped (StmtWalk.source_items_walk o a b.items) k >>= (λ s. Ok (roll (Stmt-F.Block s.0), s.1)))
walk_block o s b a k is =
    ap (λ s. StmtWalk.stmt_walk o s a k) (is ∙ sym (form.rolls-Block b)) ∙ ap (λ f. f a k) (walk_stmt_roll o (Source.Block b))
    ∙ ap (λ is. then_exited (StmtWalk.items_walk o a is (entered k))) (items_mapped (StmtWalk.stmt_walk o) b.line b.close b.items) ∙ ap then_exited (items_same o a b.items (entered k))

pub walk_as : (o : Outline) (s : SourceStmt) (x : Source SourceStmt) (a : Around) (k : Known) → s ≡ roll-Stmt x → StmtWalk.stmt_walk o s a k ≡ StmtWalk.stmt_walk_step o (mapped (StmtWalk.stmt_walk o) x) a k
walk_as o s x a k is = ap (λ s. StmtWalk.stmt_walk o s a k) is ∙ ap (λ f. f a k) (walk_stmt_roll o x)

pub walk_empty : (o : Outline) (s : SourceStmt) (line : Line) (a : Around) (k : Known) → s ≡ form.Empty line → StmtWalk.stmt_walk o s a k ≡ Ok (roll (Stmt-F.Block []), k)
walk_empty o s line a k is = walk_as o s (Source.Empty line) a k (is ∙ sym (form.rolls-Empty line))

pub walk_simple : (o : Outline) (s : SourceStmt) (x : Simple) (a : Around) (k : Known) → s ≡ form.Simple x → StmtWalk.stmt_walk o s a k ≡ StmtWalk.same k (StmtWalk.simple_walk o k x)
walk_simple o s x a k is = walk_as o s (Source.Simple x) a k (is ∙ sym (form.rolls-Simple x))

pub walk_return : (o : Outline) (s : SourceStmt) (line : Line) (v : Option SourceExpr) (a : Around) (k : Known) → s ≡ form.Return line v
    → StmtWalk.stmt_walk o s a k ≡ StmtWalk.same k (StmtWalk.returned line a.in_branch k.frame.result (StmtWalk.value_there_walk o k v))
walk_return o s line v a k is = walk_as o s (Source.Return line v) a k (is ∙ sym (form.rolls-Return line v))

pub walk_break : (o : Outline) (s : SourceStmt) (line : Line) (a : Around) (k : Known) → s ≡ form.Break line
    → StmtWalk.stmt_walk o s a k ≡ StmtWalk.same k (StmtWalk.within_loop line (Stmt-F.Break line) a)
walk_break o s line a k is = walk_as o s (Source.Break line) a k (is ∙ sym (form.rolls-Break line))

pub walk_continue : (o : Outline) (s : SourceStmt) (line : Line) (a : Around) (k : Known) → s ≡ form.Continue line
    → StmtWalk.stmt_walk o s a k ≡ StmtWalk.same k (StmtWalk.within_loop line (Stmt-F.Continue line) a)
walk_continue o s line a k is = walk_as o s (Source.Continue line) a k (is ∙ sym (form.rolls-Continue line))

abbrev pub if_else : Outline → Line → SourceExpr → SourceStmt → Option SourceStmt → Around → Known → Found (Stmt × Known)
if_else o line c first other a k =
    StmtWalk.condition_walk o k c
    >>= (λ c. StmtWalk.stmt_walk o first a k >>= (λ s. StmtWalk.source_second_walk o a other s.1 >>= (λ t. Ok (roll (Stmt-F.If line c s.0 t.0), t.1))))

pub walk_if : (o : Outline) (s : SourceStmt) (line : Line) (c : SourceExpr) (first : SourceStmt) (other : Option SourceStmt) (a : Around) (k : Known) → s ≡ form.If line c first other
    → StmtWalk.stmt_walk o s a k ≡ if_else o line c first other a k
walk_if o s line c first None a k is = walk_as o s (Source.If line c first None) a k (is ∙ sym (form.rolls-If line c first None))
walk_if o s line c first (Some t) a k is = walk_as o s (Source.If line c first (Some t)) a k (is ∙ sym (form.rolls-If line c first (Some t)))

pub walk_while : (o : Outline) (s : SourceStmt) (line : Line) (c : SourceExpr) (b : SourceStmt) (a : Around) (k : Known) → s ≡ form.While line c b
    → StmtWalk.stmt_walk o s a k ≡ StmtWalk.scoped (StmtWalk.while_walk o line c (StmtWalk.stmt_walk o b) a) k
walk_while o s line c b a k is = walk_as o s (Source.While line c b) a k (is ∙ sym (form.rolls-While line c b))

pub walk_for : (o : Outline) (s : SourceStmt) (line : Line) (first : ForStart) (c : Option SourceExpr) (last : Option Simple) (b : SourceStmt) (a : Around) (k : Known)
    → s ≡ form.For line first c last b → StmtWalk.stmt_walk o s a k ≡ StmtWalk.scoped (StmtWalk.for_walk o line first c last (StmtWalk.stmt_walk o b) a) k
walk_for o s line first c last b a k is = walk_as o s (Source.For line first c last b) a k (is ∙ sym (form.rolls-For line first c last b))

abbrev as_branch : Block SourceStmt → List Stmt × Known → Found (Branch Stmt × Known)
as_branch b s = Ok (record { body = s.0; close = b.close }, s.1)

abbrev then_branch : Block SourceStmt → Found (List Stmt × Known) → Found (Branch Stmt × Known)
then_branch b r = r >>= out_of >>= as_branch b

branch_same : (o : Outline) (b : Block SourceStmt) (k : Known) → StmtWalk.branch_walk o (with_block (StmtWalk.stmt_walk o) b) k ≡ StmtWalk.source_branch_walk o b k
branch_same o b k = ap (then_branch b) (items_same o StmtWalk.in_branch b.items (entered k))

abbrev as_par : Line → List (Branch Stmt) × Known → Found (Stmt × Known)
as_par line s = Ok (roll (Stmt-F.Par line s.0), s.1)

abbrev counted : Line → ℕ → Found (List (Branch Stmt) × Known) → Found (Stmt × Known)
counted line n r = unless_kept (nat_le 2 n && nat_le n 15) branches line (r >>= as_par line)

long : (o : Outline) (bs : List (Block SourceStmt)) → length (map (with_block (StmtWalk.stmt_walk o)) bs) ≡ length bs
long o [] = refl
long o (b ∷ bs) = ap suc (long o bs)

pub walk_par : (o : Outline) (s : SourceStmt) (line : Line) (bs : List (Block SourceStmt)) (a : Around) (k : Known) → s ≡ form.Par line bs
    → StmtWalk.stmt_walk o s a k ≡ StmtWalk.source_par_walk o line bs k
walk_par o s line bs a k is =
    walk_as o s (Source.Par line bs) a k (is ∙ sym (form.rolls-Par line bs))
    ∙ ap (λ bs. counted line (length bs) (StmtWalk.branches_walk o bs k)) (blocks_mapped (StmtWalk.stmt_walk o) line bs)
    ∙ ap (λ n. counted line n (StmtWalk.branches_walk o (map (with_block (StmtWalk.stmt_walk o)) bs) k)) (long o bs)
    ∙ ap (counted line (length bs)) (each_map one (StmtWalk.branch_walk o) (StmtWalk.source_branch_walk o) (with_block (StmtWalk.stmt_walk o)) (branch_same o) bs k)
