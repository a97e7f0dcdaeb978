-- A program on one line has the same tokens.
use Rattle.std.proofs.Common.{◌≡◌, List, [], ◌∷◌, ◌++◌, Option, Some, None, map, option_map, refl, ap, ◌∙◌, sym, subst}
use Rattle.std.specs.List.{AllByRecursion, flat_map}
use Rattle.c_lex.specs.declared.token.Mark.{Mark}
use Rattle.c_lex.specs.declared.token.Word.{Word}
use Rattle.dfi_base.specs.declared.numbers.Line.{Line}
use Rattle.c_ast.specs.declared.ident.Ident.{Ident}
use Rattle.c_ast.specs.declared.decl.Decl.{Decl}
use Rattle.c_ast.specs.declared.decl.DeclItem.{DeclItem}
use Rattle.c_ast.specs.declared.decl.Param.{Param}
use Rattle.c_ast.specs.declared.decl.Params.{Params}
use Rattle.c_ast.specs.declared.decl.ProtoParam.{ProtoParam}
use Rattle.c_ast.specs.declared.decl.ProtoParams.{ProtoParams}
use Rattle.c_ast.specs.declared.decl.ResultType.{ResultType}
use Rattle.c_ast.specs.declared.expr.Expr.{Expr}
use Rattle.c_ast.specs.declared.stmt.Simple.{Simple}
use Rattle.c_ast.specs.declared.stmt.ForStart.{ForStart}
use Rattle.c_ast.specs.declared.stmt.Block.{Block}
use Rattle.c_ast.specs.declared.stmt.BlockItem.{BlockItem}
use Rattle.c_ast.specs.declared.stmt.Stmt.{Stmt, ind-Stmt, map-Stmt, roll-Stmt}
use Rattle.c_ast.specs.declared.stmt.Stmt.TheOpen.{Stmt-F}
use Rattle.c_ast.specs.declared.stmt.Stmt.TheVariants as s
use Rattle.c_ast.specs.declared.program.Field.{Field}
use Rattle.c_ast.specs.declared.program.Item.{Item}
use Rattle.c_print.specs.Precedence.{prefixed, postfix}
use Rattle.c_print.specs.Signs.{assign_sign}
use Rattle.c_print.specs.SameTree as one
use Rattle.c_print.specs.TreeTokens.{Kinds, ended, for_head, if_some, in_braces, in_head, in_parens, mark, name, of_base, of_block, of_block_item, of_brackets, of_decl, of_decl_item, of_declarator, of_expr, of_field, of_item, of_param, of_params, of_proto_param, of_proto_params, of_result, of_simple, of_stars, of_start, of_stmt, of_whole, tokens_of, with_commas, word}
use Rattle.c_print.proofs.StmtForms as text
use Rattle.c_print.proofs.StmtLine as line
use Rattle.c_print.proofs.SameText.{SameExpr, arguments, base, same_at, same_form}

-- ---- lists

each : {A B : Type 0} (of : B → Kinds) (other : A → Kinds) (h : A → B) → ((x : A) → of (h x) ≡ other x) → (xs : List A) → flat_map of (map h xs) ≡ flat_map other xs
each of other h e [] = refl
each of other h e (x ∷ xs) = ap (λ ks. ks ++ flat_map of (map h xs)) (e x) ∙ ap (λ ks. other x ++ ks) (each of other h e xs)

commas : {A : Type 0} (of : A → Kinds) (h : A → A) → ((x : A) → of (h x) ≡ of x) → (xs : List A) → with_commas of (map h xs) ≡ with_commas of xs
commas of h e [] = refl
commas of h e (x ∷ xs) =
    ap (λ ks. ks ++ flat_map (λ y. mark Mark.Comma ∷ of y) (map h xs)) (e x)
    ∙ ap (λ ks. of x ++ ks) (each (λ y. mark Mark.Comma ∷ of y) (λ y. mark Mark.Comma ∷ of y) h (λ y. ap (λ ks. mark Mark.Comma ∷ ks) (e y)) xs)

optional : {A : Type 0} (of : A → Kinds) (h : A → A) → ((x : A) → of (h x) ≡ of x) → (o : Option A) → if_some of (option_map h o) ≡ if_some of o
optional of h e None = refl
optional of h e (Some x) = e x

all_exprs : (xs : List Expr) → AllByRecursion SameExpr xs
all_exprs [] = tt
all_exprs (x ∷ xs) = (same_form x.form, all_exprs xs)

whole : (e : Expr) → of_whole (one.expr e) ≡ of_whole e
whole e = same_at e 0

-- ---- declarations and simple statements

decl_item : (i : DeclItem) → of_decl_item (one.decl_item i) ≡ of_decl_item i
decl_item i =
    ap (λ ks. of_declarator i.declarator ++ ks) (optional (λ (x : Expr). mark Mark.Assign ∷ of_whole x) one.expr (λ x. ap (λ ks. mark Mark.Assign ∷ ks) (whole x)) i.value)

decl : (d : Decl) → of_decl (one.decl d) ≡ of_decl d
decl d =
    ap (λ ks. ks ++ ended (with_commas of_decl_item (map one.decl_item d.items))) (base d.base)
    ∙ ap (λ ks. of_base d.base ++ ended ks) (commas of_decl_item one.decl_item decl_item d.items)

simple : (x : Simple) → of_simple (one.simple x) ≡ of_simple x
simple (Simple.Assign l a op b) =
    ap (λ ks. ks ++ mark (assign_sign op) ∷ of_whole (one.expr b)) (same_at a prefixed)
    ∙ ap (λ ks. of_expr a prefixed ++ mark (assign_sign op) ∷ ks) (whole b)
simple (Simple.Increment l a) = ap (λ ks. ks ++ mark Mark.PlusPlus ∷ []) (same_at a postfix)
simple (Simple.Decrement l a) = ap (λ ks. ks ++ mark Mark.MinusMinus ∷ []) (same_at a postfix)
simple (Simple.PreIncrement l a) = ap (λ ks. mark Mark.PlusPlus ∷ ks) (same_at a prefixed)
simple (Simple.PreDecrement l a) = ap (λ ks. mark Mark.MinusMinus ∷ ks) (same_at a prefixed)
simple (Simple.Call i xs) = ap (λ ks. name i ∷ in_parens ks) (arguments xs (all_exprs xs))

start : (x : ForStart) → of_start (one.start x) ≡ of_start x
start (ForStart.Decl d) = decl d
start (ForStart.Simple x) = ap ended (optional of_simple one.simple simple x)

value : (o : Option Expr) → if_some of_whole (option_map one.expr o) ≡ if_some of_whole o
value o = optional of_whole one.expr whole o

head_of_for : (x : ForStart) (a : Option Expr) (b : Option Simple) → for_head (one.start x) (option_map one.expr a) (option_map one.simple b) ≡ for_head x a b
head_of_for x a b =
    ap (λ ks. in_head Word.For ((ks ++ ended (if_some of_whole (option_map one.expr a))) ++ if_some of_simple (option_map one.simple b))) (start x)
    ∙ ap (λ ks. in_head Word.For ((of_start x ++ ended ks) ++ if_some of_simple (option_map one.simple b))) (value a)
    ∙ ap (λ ks. in_head Word.For ((of_start x ++ ended (if_some of_whole a)) ++ ks)) (optional of_simple one.simple simple b)

-- ---- statements

abbrev SameStmt : Stmt → Type 0
SameStmt x = of_stmt (one.stmt x) ≡ of_stmt x

abbrev AllItems : List (BlockItem Stmt) → Type 0
AllItems [] = Unit {0}
AllItems (BlockItem.Decl d ∷ xs) = AllItems xs
AllItems (BlockItem.Stmt x ∷ xs) = SameStmt x × AllItems xs

abbrev AllBlocks : List (Block Stmt) → Type 0
AllBlocks [] = Unit {0}
AllBlocks (b ∷ bs) = AllItems b.items × AllBlocks bs

block_items : (xs : List (BlockItem Stmt)) → AllItems xs
    → flat_map (of_block_item of_stmt) (map (one.block_item one.stmt) xs) ≡ flat_map (of_block_item of_stmt) xs
block_items [] g = refl
block_items (BlockItem.Decl d ∷ xs) g =
    ap (λ ks. ks ++ flat_map (of_block_item of_stmt) (map (one.block_item one.stmt) xs)) (decl d) ∙ ap (λ ks. of_decl d ++ ks) (block_items xs g)
block_items (BlockItem.Stmt x ∷ xs) (e, g) =
    ap (λ ks. ks ++ flat_map (of_block_item of_stmt) (map (one.block_item one.stmt) xs)) e ∙ ap (λ ks. of_stmt x ++ ks) (block_items xs g)

block : (b : Block Stmt) → AllItems b.items → of_block (one.block b) ≡ of_block b
block b g = ap in_braces (block_items b.items g)

blocks : (bs : List (Block Stmt)) → AllBlocks bs → flat_map of_block (map one.block bs) ≡ flat_map of_block bs
blocks [] g = refl
blocks (b ∷ bs) (g, gs) = ap (λ ks. ks ++ flat_map of_block (map one.block bs)) (block b g) ∙ ap (λ ks. of_block b ++ ks) (blocks bs gs)

-- the statements inside are the same on one line
abbrev Given : Stmt-F Stmt → Type 0
Given (Stmt-F.Block b) = AllItems b.items
Given (Stmt-F.If l a x None) = SameStmt x
Given (Stmt-F.If l a x (Some y)) = SameStmt x × SameStmt y
Given (Stmt-F.While l a x) = SameStmt x
Given (Stmt-F.For l begin a b x) = SameStmt x
Given (Stmt-F.Par l bs) = AllBlocks bs
Given _ = Unit {0}

closing : (x : Stmt-F Stmt) → Given x → SameStmt (roll-Stmt x)
closing (Stmt-F.Block b) g = subst SameStmt (sym (s.rolls-Block b)) (ap of_stmt (line.block b) ∙ text.block (one.block b) ∙ block b g ∙ sym (text.block b))
closing (Stmt-F.Empty l) g = subst SameStmt (sym (s.rolls-Empty l)) (ap of_stmt (line.empty l) ∙ text.empty one.first ∙ sym (text.empty l))
closing (Stmt-F.Simple x) g =
    subst SameStmt (sym (s.rolls-Simple x)) (ap of_stmt (line.simple x) ∙ text.simple (one.simple x) ∙ ap ended (simple x) ∙ sym (text.simple x))
closing (Stmt-F.Return l a) g =
    subst SameStmt (sym (s.rolls-Return l a))
    (ap of_stmt (line.returned l a) ∙ text.returned one.first (option_map one.expr a) ∙ ap (λ ks. word Word.Return ∷ ended ks) (value a) ∙ sym (text.returned l a))
closing (Stmt-F.Break l) g = subst SameStmt (sym (s.rolls-Break l)) (ap of_stmt (line.broken l) ∙ text.broken one.first ∙ sym (text.broken l))
closing (Stmt-F.Continue l) g = subst SameStmt (sym (s.rolls-Continue l)) (ap of_stmt (line.continued l) ∙ text.continued one.first ∙ sym (text.continued l))
closing (Stmt-F.If l a x None) g =
    subst SameStmt (sym (s.rolls-If l a x None))
    (ap of_stmt (line.if_alone l a x) ∙ text.if_alone one.first (one.expr a) (one.stmt x)
    ∙ ap (λ ks. (in_head Word.If ks ++ of_stmt (one.stmt x)) ++ []) (whole a) ∙ ap (λ ks. (in_head Word.If (of_whole a) ++ ks) ++ []) g ∙ sym (text.if_alone l a x))
closing (Stmt-F.If l a x (Some y)) (g, h) =
    subst SameStmt (sym (s.rolls-If l a x (Some y)))
    (ap of_stmt (line.if_else l a x y) ∙ text.if_else one.first (one.expr a) (one.stmt x) (one.stmt y)
    ∙ ap (λ ks. (in_head Word.If ks ++ of_stmt (one.stmt x)) ++ word Word.Else ∷ of_stmt (one.stmt y)) (whole a)
    ∙ ap (λ ks. (in_head Word.If (of_whole a) ++ ks) ++ word Word.Else ∷ of_stmt (one.stmt y)) g
    ∙ ap (λ ks. (in_head Word.If (of_whole a) ++ of_stmt x) ++ word Word.Else ∷ ks) h ∙ sym (text.if_else l a x y))
closing (Stmt-F.While l a x) g =
    subst SameStmt (sym (s.rolls-While l a x))
    (ap of_stmt (line.while l a x) ∙ text.while one.first (one.expr a) (one.stmt x)
    ∙ ap (λ ks. in_head Word.While ks ++ of_stmt (one.stmt x)) (whole a) ∙ ap (λ ks. in_head Word.While (of_whole a) ++ ks) g ∙ sym (text.while l a x))
closing (Stmt-F.For l begin a b x) g =
    subst SameStmt (sym (s.rolls-For l begin a b x))
    (ap of_stmt (line.for l begin a b x) ∙ text.for one.first (one.start begin) (option_map one.expr a) (option_map one.simple b) (one.stmt x)
    ∙ ap (λ ks. ks ++ of_stmt (one.stmt x)) (head_of_for begin a b) ∙ ap (λ ks. for_head begin a b ++ ks) g ∙ sym (text.for l begin a b x))
closing (Stmt-F.Par l bs) g =
    subst SameStmt (sym (s.rolls-Par l bs))
    (ap of_stmt (line.par l bs) ∙ text.par one.first (map one.block bs) ∙ ap (λ ks. word Word.Par ∷ in_braces ks) (blocks bs g) ∙ sym (text.par l bs))

items_of : Stmt-F Stmt → List (BlockItem Stmt)
items_of (Stmt-F.Block b) = b.items
items_of _ = []

blocks_of : Stmt-F Stmt → List (Block Stmt)
blocks_of (Stmt-F.Par l bs) = bs
blocks_of _ = []

first_of_all : List (Block Stmt) → List (BlockItem Stmt)
first_of_all [] = []
first_of_all (b ∷ bs) = b.items

module _ {W : Type 0} (stmt_of : W → Stmt) (same : (w : W) → SameStmt (stmt_of w)) where
  abbrev mapped : Stmt-F W → Stmt-F Stmt
  mapped x = map-Stmt W Stmt stmt_of x

  all_items : (l c : Line) (xs : List (BlockItem W)) → AllItems (items_of (mapped (Stmt-F.Block (record { line = l; items = xs; close = c }))))
  unfolding items_of
  all_items l c [] = tt
  all_items l c (BlockItem.Decl d ∷ xs) = all_items l c xs
  all_items l c (BlockItem.Stmt w ∷ xs) = (same w, all_items l c xs)

  first_items : (l m c : Line) (xs : List (BlockItem W)) (bs : List (Block W))
      → AllItems (first_of_all (blocks_of (mapped (Stmt-F.Par l (record { line = m; items = xs; close = c } ∷ bs)))))
  unfolding blocks_of first_of_all
  first_items l m c [] bs = tt
  first_items l m c (BlockItem.Decl d ∷ xs) bs = first_items l m c xs bs
  first_items l m c (BlockItem.Stmt w ∷ xs) bs = (same w, first_items l m c xs bs)

  all_blocks : (l : Line) (bs : List (Block W)) → AllBlocks (blocks_of (mapped (Stmt-F.Par l bs)))
  unfolding blocks_of first_of_all
  all_blocks l [] = tt
  all_blocks l (b ∷ bs) = (first_items l b.line b.close b.items bs, all_blocks l bs)

  given : (x : Stmt-F W) → Given (mapped x)
  unfolding items_of blocks_of
  given (Stmt-F.Block b) = all_items b.line b.close b.items
  given (Stmt-F.Empty l) = tt
  given (Stmt-F.Simple x) = tt
  given (Stmt-F.Return l a) = tt
  given (Stmt-F.Break l) = tt
  given (Stmt-F.Continue l) = tt
  given (Stmt-F.If l a x None) = same x
  given (Stmt-F.If l a x (Some y)) = (same x, same y)
  given (Stmt-F.While l a x) = same x
  given (Stmt-F.For l begin a b x) = same x
  given (Stmt-F.Par l bs) = all_blocks l bs

same_stmt : (x : Stmt) → SameStmt x
same_stmt = ind-Stmt SameStmt (λ x y e. subst (λ (k : Stmt-F Stmt). SameStmt (roll-Stmt k)) e (closing _ (given (λ w. w.0) (λ w. w.1) y)))

all_of : (xs : List (BlockItem Stmt)) → AllItems xs
all_of [] = tt
all_of (BlockItem.Decl d ∷ xs) = all_of xs
all_of (BlockItem.Stmt x ∷ xs) = (same_stmt x, all_of xs)

-- ---- programs

result : (r : ResultType) → of_result (one.result_type r) ≡ of_result r
result (ResultType.Type b n) = ap (λ ks. ks ++ of_stars n) (base b)
result (ResultType.Void l) = refl

param : (p : Param) → of_param (one.param p) ≡ of_param p
param p = ap (λ ks. (ks ++ of_stars p.stars) ++ name p.name ∷ of_brackets p.brackets) (base p.base)

any_name : (i : Option Ident) → if_some (λ (k : Ident). name k ∷ []) (option_map one.ident i) ≡ if_some (λ (k : Ident). name k ∷ []) i
any_name None = refl
any_name (Some i) = refl

proto_param : (p : ProtoParam) → of_proto_param (one.proto_param p) ≡ of_proto_param p
proto_param p =
    ap (λ ks. ((ks ++ of_stars p.stars) ++ if_some (λ (k : Ident). name k ∷ []) (option_map one.ident p.name)) ++ of_brackets p.brackets) (base p.base)
    ∙ ap (λ ks. ((of_base p.base ++ of_stars p.stars) ++ ks) ++ of_brackets p.brackets) (any_name p.name)

params : (ps : Params) → of_params (one.params ps) ≡ of_params ps
params Params.Empty = refl
params (Params.Void l) = refl
params (Params.List ps) = commas of_param one.param param ps

proto_params : (ps : ProtoParams) → of_proto_params (one.proto_params ps) ≡ of_proto_params ps
proto_params ProtoParams.Empty = refl
proto_params (ProtoParams.Void l) = refl
proto_params (ProtoParams.List ps) = commas of_proto_param one.proto_param proto_param ps

field : (f : Field) → of_field (one.field f) ≡ of_field f
field f =
    ap (λ ks. ks ++ ended (with_commas of_declarator (map one.declarator f.items))) (base f.base)
    ∙ ap (λ ks. of_base f.base ++ ended ks) (commas of_declarator one.declarator (λ d. refl) f.items)

item : (i : Item) → of_item (one.item i) ≡ of_item i
item (Item.Struct d) = ap (λ ks. word Word.Struct ∷ name d.tag ∷ ended (in_braces ks)) (each of_field of_field one.field field d.fields)
item (Item.Decl d) = decl d
item (Item.Function f) =
    let b = f.body in
    ap (λ ks. (ks ++ name f.name ∷ in_parens (of_params (one.params f.params))) ++ of_block (one.block b)) (result f.result)
    ∙ ap (λ ks. (of_result f.result ++ name f.name ∷ in_parens ks) ++ of_block (one.block b)) (params f.params)
    ∙ ap (λ ks. (of_result f.result ++ name f.name ∷ in_parens (of_params f.params)) ++ ks) (block b (all_of b.items))
item (Item.Proto p) =
    ap (λ ks. ks ++ name p.name ∷ ended (in_parens (of_proto_params (one.proto_params p.params)))) (result p.result)
    ∙ ap (λ ks. of_result p.result ++ name p.name ∷ ended (in_parens ks)) (proto_params p.params)

-- the tokens of a program on one line
pub same_tokens : (is : List Item) → tokens_of (one.on_one_line is) ≡ tokens_of is
same_tokens is = each of_item of_item one.item item is
