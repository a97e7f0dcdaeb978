-- Operators between operands are read by their grammar.
use Rattle.std.proofs.Common.{◌≡◌, ℕ, suc, pos, ◌≤◌, ◌⊎◌, inl, inr, Bool, true, false, not, ◌&&◌, nat_lt, if◌then◌else◌, Option, Some, None, List, [], ◌∷◌, length, refl, sym, ap, subst, ◌∙◌, arith}
use Rattle.std.specs.Prelude.{is_some}
use Rattle.dfi_base.specs.declared.numbers.Line.{Line}
use Rattle.c_lex.specs.declared.token.Mark.{Mark}
use Rattle.c_lex.specs.declared.token.Kind.{Kind}
use Rattle.c_ast.specs.declared.expr.BinaryOp.{BinaryOp}
use Rattle.c_ast.specs.declared.expr.Expr.{Expr}
use Rattle.c_parse.specs.Nodes as tree
use Rattle.parse_law.specs.tools.Parsing.{and_then, fault, deep, ◌>>=◌, ◌<$>◌, pure, accept, rising, repeat, joined, operand, operators, skip}
use Rattle.parse_law.specs.Nesting.{May}
use Rattle.parse_law.proofs.Forms.{Form, Completes, Law}
use Rattle.parse_law.proofs.Bind.{Seq}
use Rattle.parse_law.proofs.Steps.{fits_any, none_some, some_is, false_true}
use Rattle.parse_law.proofs.Binary.{binary_law}
use Rattle.c_parse.specs.declared.operators.Tier.{Tier}
use Rattle.c_parse.specs.contracts.operators.Tier as tier_type
use Rattle.c_parse.specs.Symbol.{Symbol, Symbols, mark, number}
use Rattle.c_parse.specs.Operators.{binary_op, tiers}
use Rattle.c_parse.specs.tools.Sorts.{is_suffix}
use Rattle.c_parse.specs.tools.Tokens.{P, want, want_by, is_mark}
use Rattle.c_parse.specs.Exprs.{ExprAt, expr, LevelAt, single, level, OperatorsAt, no_operator, binary as binary_at', UnaryAt, unary, OperandAt, suffixed, postfix, no_suffix, numeral}
use Rattle.c_parse.specs.tools.ExprParser as spec
use Rattle.c_parse.proofs.Parts.{Part, Gives, gives, gives_part, seq, restate, accepts}
use Rattle.c_parse.proofs.TokenParts.{AnyToken, line_one, located_part}
use Rattle.c_parse.proofs.TypeLaws.{Not}
use denote.Enum.Bare.{same_true, true_same}

-- ---- what may follow

abbrev pub AfterOperand : Symbol → Type 0
AfterOperand t = Not is_suffix t × Not (is_mark Mark.OpenParen) t

-- behind operators of these tiers
abbrev pub AfterLevel : List Tier → Symbol → Type 0
AfterLevel [] t = AfterOperand t
AfterLevel (tier ∷ lower) t = (spec.binary_at tier t ≡ None) × AfterLevel lower t

-- ---- the operator of a tier

none_of : {A : Type 0} {a : A} → ◌≡◌ {A = Option A} None (Some a) → ⊥
none_of e = absurd (cc)

tier_is : (tier : Tier) (o : Option (Tier × BinaryOp)) (op : BinaryOp) → spec.of_tier tier o ≡ Some op → o ≡ Some (tier, op)
tier_is tier None op e = none_some e
tier_is tier (Some (found, other)) op e = by_test (spec.same_tier found tier) refl e
  where
    by_test : (b : Bool) → spec.same_tier found tier ≡ b → (if b then Some other else None) ≡ Some op
        → ◌≡◌ {A = Option (Tier × BinaryOp)} (Some (found, other)) (Some (tier, op))
    by_test true same f = ap (λ z. Some (z, other)) (same_true tier_type.the_type tt found tier same) ∙ ap (λ z. Some (tier, z)) (some_is f)
    by_test false same f = none_some f

-- the token of an operator
binary_is : (tier : Tier) (k : Kind) (op : BinaryOp) → spec.binary_in tier (Some k) ≡ Some op → (m : Mark) × (k ≡ Kind.Mark m) × (binary_op m ≡ Some (tier, op))
binary_is tier (Kind.Mark m) op e = (m, refl, tier_is tier (binary_op m) op e)
binary_is tier (Kind.Word w) op e = none_some e
binary_is tier (Kind.Id n) op e = none_some e
binary_is tier (Kind.Num n) op e = none_some e

binary_has : (tier : Tier) (m : Mark) (op : BinaryOp) → binary_op m ≡ Some (tier, op) → spec.binary_in tier (Some (Kind.Mark m)) ≡ Some op
binary_has tier m op e =
    ap (spec.of_tier tier) e ∙ ap (λ b. if b then Some op else None) (true_same tier_type.the_type tier tier refl)

-- ---- the tiers differ

abbrev fresh : Tier → List Tier → Bool
fresh tier [] = true
fresh tier (other ∷ rest) = not (spec.same_tier tier other) && fresh tier rest

abbrev pub ordered : List Tier → Bool
ordered [] = true
ordered (tier ∷ lower) = fresh tier lower && ordered lower

both : (a b : Bool) → a && b ≡ true → (a ≡ true) × (b ≡ true)
both true b e = (refl, e)
both false b e = false_true e

not_so : (a : Bool) → not a ≡ true → a ≡ false
not_so true e = false_true e
not_so false e = refl

-- an operator is no suffix
operator_after : (m : Mark) (l : Line) → is_some (binary_op m) ≡ true → AfterOperand (mark m l)
operator_after Mark.OpenParen l e = false_true e
operator_after Mark.OpenBracket l e = false_true e
operator_after Mark.Dot l e = false_true e
operator_after Mark.Arrow l e = false_true e
operator_after _ l e = (refl, refl)

operator_other : (m : Mark) (l : Line) (tier : Tier) (op : BinaryOp) → binary_op m ≡ Some (tier, op) → (lower : List Tier) → fresh tier lower ≡ true
    → AfterLevel lower (mark m l)
operator_other m l tier op e [] h = operator_after m l (ap is_some e)
operator_other m l tier op e (other ∷ rest) h =
    let (here, there) = both (not (spec.same_tier tier other)) (fresh tier rest) h in
    (ap (spec.of_tier other) e ∙ ap (λ b. if b then Some op else None) (not_so (spec.same_tier tier other) here), operator_other m l tier op e rest there)

-- ---- zero, which completes each form

pub zero_operand : {M : May Symbol} {c : ℕ} {l : Line} {r : Symbols} → OperandAt M c (number (pos 0) l ∷ r) (tree.Number l (pos 0)) r
zero_operand = suffixed (postfix numeral no_suffix)

pub zero_unary : {M : May Symbol} {c : ℕ} {l : Line} {r : Symbols} → M c (number (pos 0) l ∷ r) → UnaryAt M c (number (pos 0) l ∷ r) (tree.Number l (pos 0)) r
zero_unary may = unary may zero_operand

pub zero_level : (tiers : List Tier) {M : May Symbol} {c : ℕ} {l : Line} {r : Symbols} → M c (number (pos 0) l ∷ r)
    → LevelAt M tiers c (number (pos 0) l ∷ r) (tree.Number l (pos 0)) r c
zero_level [] may = single (zero_unary may)
zero_level (tier ∷ lower) may = level (zero_level lower may) no_operator

pub zero_expr : {M : May Symbol} {c : ℕ} {l : Line} {r : Symbols} → M c (number (pos 0) l ∷ r) → ExprAt M c (number (pos 0) l ∷ r) (tree.Number l (pos 0)) r
zero_expr may = expr (zero_level tiers may)

abbrev pub zero_symbol : Symbol
zero_symbol = number (pos 0) line_one

abbrev pub zero_tree : Expr
zero_tree = tree.Number line_one (pos 0)

-- ---- the counter never falls

mutual
  level_rises : {M : May Symbol} {tiers : List Tier} {c : ℕ} {ts r : Symbols} {a : Expr} {d : ℕ} → LevelAt M tiers c ts a r d → c ≤ d
  level_rises (single u) = omega arith
  level_rises (level {c = c} {d = d} {d' = d'} v o) = let f : c ≤ d = level_rises v in let g : d ≤ d' = operators_rise o in omega arith

  operators_rise : {M : May Symbol} {tier : Tier} {lower : List Tier} {l : Line} {c : ℕ} {a : Expr} {ts : Symbols} {b : Expr} {r : Symbols} {d : ℕ}
      → OperatorsAt M tier lower l c a ts b r d → c ≤ d
  operators_rise no_operator = omega arith
  operators_rise (binary_at' {c = c} {d = d} {d' = d'} e may v o) = let f : suc c ≤ d = level_rises v in let g : d ≤ d' = operators_rise o in omega arith

-- ---- a chain of operators

abbrev pub Levels : List Tier → ℕ → Form Symbol (Expr × ℕ)
Levels tiers c M ts v r = LevelAt M tiers c ts v.0 r v.1

abbrev Chain : Tier → List Tier → Line → (Expr × ℕ) → Form Symbol (Expr × ℕ)
Chain tier lower l v M ts z r = OperatorsAt M tier lower l v.1 v.0 ts z.0 r z.1

abbrev join_by : Line → Option BinaryOp → Option (Expr → Expr → Expr)
join_by l None = None
join_by l (Some op) = Some (λ a b. tree.Binary l a op b)

abbrev join : Tier → Line → Symbol → Option (Expr → Expr → Expr)
join tier l t = join_by l (spec.binary_at tier t)

chain_go_by : (tier : Tier) (lower : List Tier) (l p : Line) (k : Kind) (o : Option BinaryOp) → spec.binary_in tier (Some k) ≡ o
    → (M : May Symbol) (v w z : Expr × ℕ) (f : Expr → Expr → Expr) (us m r : Symbols)
    → join_by l o ≡ Some f → M v.1 (record { kind = k; line = p } ∷ us) → Levels lower (suc v.1) M us w m → Chain tier lower l (f v.0 w.0, w.1) M m z r
    → Chain tier lower l v M (record { kind = k; line = p } ∷ us) z r
chain_go_by tier lower l p k None h M v w z f us m r e may d ds = none_some e
chain_go_by tier lower l p k (Some op) h M v w z f us m r e may d ds =
    let (mk, is, has) = binary_is tier k op h in
    let same : tree.Binary l v.0 op w.0 ≡ f v.0 w.0 = ap (λ g. g v.0 w.0) (some_is e) in
    subst (λ x. OperatorsAt M tier lower l v.1 v.0 (record { kind = x; line = p } ∷ us) z.0 r z.1) (sym is)
    (binary_at' has (subst (λ x. M v.1 (record { kind = x; line = p } ∷ us)) is may) d
    (subst (λ x. OperatorsAt M tier lower l w.1 x m z.0 r z.1) (sym same) ds))

chain_go : (tier : Tier) (lower : List Tier) (l : Line) (M : May Symbol) (v w z : Expr × ℕ) (f : Expr → Expr → Expr) (t : Symbol) (us m r : Symbols)
    → join tier l t ≡ Some f → M v.1 (t ∷ us) → Levels lower (suc v.1) M us w m → Chain tier lower l (f v.0 w.0, w.1) M m z r
    → Chain tier lower l v M (t ∷ us) z r
chain_go tier lower l M v w z f t us m r e may d ds = chain_go_by tier lower l t.line t.kind (spec.binary_in tier (Some t.kind)) refl M v w z f us m r e may d ds

abbrev Split : Tier → List Tier → Line → May Symbol → (Expr × ℕ) → (Expr × ℕ) → Symbols → Symbols → Type 0
Split tier lower l M v z ts r =
    ((v ≡ z) × (ts ≡ r)) ⊎ ((t : Symbol) × (us : Symbols) × (f : Expr → Expr → Expr) × (w : Expr × ℕ) × (m : Symbols)
    × (ts ≡ t ∷ us) × (join tier l t ≡ Some f) × M v.1 (t ∷ us) × Levels lower (suc v.1) M us w m × Chain tier lower l (f v.0 w.0, w.1) M m z r)

chain_split : (tier : Tier) (lower : List Tier) (l : Line) (M : May Symbol) (v z : Expr × ℕ) (ts r : Symbols) → Chain tier lower l v M ts z r
    → Split tier lower l M v z ts r
chain_split tier lower l M v z ts r d = split_by v.1 v.0 ts z.0 r z.1 d
  where
    split_by : (c : ℕ) (a : Expr) (us : Symbols) (b : Expr) (rest : Symbols) (d : ℕ) → OperatorsAt M tier lower l c a us b rest d
        → Split tier lower l M (a, c) (b, d) us rest
    split_by c a us b rest d no_operator = inl (refl, refl)
    split_by c a us b rest d (binary_at' {p = p} {d = d1} {k = k} {op = op} {ts = vs} {m = m} {b = x} e may v o) =
        inr (mark k p, vs, (λ y z. tree.Binary l y op z), (x, d1), m, refl, ap (join_by l) (binary_has tier k op e), may, v, o)

joins_alone : (tier : Tier) (l : Line) (t : Symbol) → spec.binary_at tier t ≡ None → join tier l t ≡ None
joins_alone tier l t e = ap (join_by l) e

some_op : (l : Line) (o : Option BinaryOp) (f : Expr → Expr → Expr) → join_by l o ≡ Some f → (op : BinaryOp) × (o ≡ Some op)
some_op l None f e = none_some e
some_op l (Some op) f e = (op, refl)

operator_follows_by : (tier : Tier) (lower : List Tier) (k : Kind) (p : Line) (op : BinaryOp) → fresh tier lower ≡ true
    → spec.binary_in tier (Some k) ≡ Some op → AfterLevel lower (record { kind = k; line = p })
operator_follows_by tier lower k p op h e =
    let (m, is, has) = binary_is tier k op e in
    subst (λ x. AfterLevel lower (record { kind = x; line = p })) (sym is) (operator_other m p tier op has lower h)

operator_follows : (tier : Tier) (lower : List Tier) (l : Line) → fresh tier lower ≡ true → (t : Symbol) (f : Expr → Expr → Expr)
    → join tier l t ≡ Some f → AfterLevel lower t
operator_follows tier lower l h t f e =
    let (op, s) = some_op l (spec.binary_at tier t) f e in
    operator_follows_by tier lower t.kind t.line op h s

-- ---- the loop of the parser is that of the theory

same_some : (l : Line) (o : Option BinaryOp) → is_some (join_by l o) ≡ is_some o
same_some l None = refl
same_some l (Some op) = refl

module _ (limit : ℕ) (tier : Tier) (lower : ℕ → P (Expr × ℕ)) (l : Line) where
  abbrev theirs : (Expr × ℕ) → ℕ → P (Expr × ℕ)
  theirs v c = accept (join tier l) >>= (λ f. joined v f <$> lower c)

  joined_by : (v : Expr × ℕ) (c : ℕ) (t : Symbol) (ts : Symbols) (o : Option BinaryOp)
      → (want_by (join_by l o) >>= (λ f. joined v f <$> lower c)) (t ∷ ts) ≡ (want_by o >>= (λ op. lower c >>= (λ w. pure (tree.Binary l v.0 op w.0, w.1)))) (t ∷ ts)
  unfolding skip
  joined_by v c t ts None = refl
  joined_by v c t ts (Some op) = refl

  same_right : (v : Expr × ℕ) (c : ℕ) (ts : Symbols) → theirs v c ts ≡ spec.right tier lower l v.0 c ts
  unfolding spec.right accept want
  same_right v c [] = refl
  same_right v c (t ∷ ts) = ap (λ o. and_then o (λ f. (joined v f <$> lower c))) (accepts (join tier l) (t ∷ ts)) ∙ joined_by v c t ts (spec.binary_at tier t)

  same_operand : (v : Expr × ℕ) (ts : Symbols) → operand limit (join tier l) lower v ts ≡ rising limit v.1 (spec.right tier lower l v.0) ts
  same_operand v ts = ap (λ q. if nat_lt v.1 limit then q else fault deep (length ts)) (same_right v (suc v.1) ts)

  pub same_operators : operators limit (join tier l) lower ≡ spec.operators tier lower l limit
  same_operators = λ i. repeat (λ t. same_some l (spec.binary_at tier t) i) (λ v ts. same_operand v ts i)

-- ---- the law

abbrev pub Unaries : ℕ → Form Symbol Expr
Unaries c M ts a r = UnaryAt M c ts a r

-- a level, from the levels below
abbrev Located : Tier → List Tier → ℕ → Line → Form Symbol (Expr × ℕ)
Located tier lower c l = Seq (Levels lower c) (Chain tier lower l)

level_to : (tier : Tier) (lower : List Tier) (c : ℕ) (M : May Symbol) (t : Symbol) (us : Symbols) (v : Expr × ℕ) (r : Symbols)
    → Located tier lower c t.line M (t ∷ us) v r → Levels (tier ∷ lower) c M (t ∷ us) v r
level_to tier lower c M t us v r (w, m, d, ds) = level d ds

level_back : (tier : Tier) (lower : List Tier) (c : ℕ) (M : May Symbol) (ts : Symbols) (v : Expr × ℕ) (r : Symbols) → Levels (tier ∷ lower) c M ts v r
    → (t : Symbol) × (us : Symbols) × (ts ≡ t ∷ us) × Located tier lower c t.line M ts v r
level_back tier lower c M ts v r d = back_by ts v.0 r v.1 d
  where
    back_by : (us : Symbols) (a : Expr) (rest : Symbols) (d : ℕ) → LevelAt M (tier ∷ lower) c us a rest d
        → (t : Symbol) × (vs : Symbols) × (us ≡ t ∷ vs) × Located tier lower c t.line M us (a, d) rest
    back_by us a rest d (level {d = d1} {s = s} {ts = vs} {m = m} {a = b} v o) = (s, vs, refl, ((b, d1), m, v, o))

single_to : (c : ℕ) (M : May Symbol) (ts : Symbols) (v : Expr × ℕ) (r : Symbols) → Seq (Unaries c) (λ a. Gives (a, c)) M ts v r → Levels [] c M ts v r
single_to c M ts v r (a, m, d, gives) = single d

single_back : (c : ℕ) (M : May Symbol) (ts : Symbols) (v : Expr × ℕ) (r : Symbols) → Levels [] c M ts v r → Seq (Unaries c) (λ a. Gives (a, c)) M ts v r
single_back c M ts v r d = back_by ts v.0 r v.1 d
  where
    back_by : (us : Symbols) (a : Expr) (rest : Symbols) (d : ℕ) → LevelAt M [] c us a rest d
        → Seq {B = Expr × ℕ} (Unaries c) (λ b. Gives (b, c)) M us (a, d) rest
    back_by us a rest d (single u) = (_, _, u, gives)

-- each tier differs from those below it
module _ (limit : ℕ) where
  pub level_completes : (tiers : List Tier) (c : ℕ) → Completes limit (Levels tiers c) (λ v. AfterLevel tiers) [] []
  level_completes tiers c = record { tokens = zero_symbol ∷ []; value = (zero_tree, c); holds = λ M l r free h. zero_level tiers (free c _ (omega arith)) }

  module _ (inner : ℕ → P Expr) (Good : ℕ → Type 0) (up : (c d : ℕ) → c ≤ d → Good c → Good d)
      (law : (c : ℕ) → Good c → Law limit (inner c) (Unaries c) (λ a. AfterOperand)) where
    pub unary_part : (c : ℕ) → Good c → Part limit (inner c) (Unaries c) (λ a. AfterOperand) AnyToken
    unary_part c good = record {
      law = law c good;
      leads = λ M ts a r d h. fits_any a ts;
      whole = record { tokens = zero_symbol ∷ []; value = zero_tree; holds = λ M l r free h. zero_unary (free c _ (omega arith)) };
    }

    pub level_part : (tiers : List Tier) → ordered tiers ≡ true → (c : ℕ) → Good c
        → Part limit (spec.level limit inner tiers c) (Levels tiers c) (λ v. AfterLevel tiers) AnyToken
    unfolding spec.level spec.chain
    level_part [] order c good =
        restate limit (Levels [] c) (λ v. AfterOperand) AnyToken (seq limit (unary_part c good) (λ a. gives_part limit (a, c)))
        (single_to c) (λ M ts v r d h. single_back c M ts v r d) (λ v t h. h) (λ t h. h)
    level_part (tier ∷ lower) order c good =
        let (differs, below) = both (fresh tier lower) (ordered lower) order in
        let lower_law : (d : ℕ) → Good d → Law limit (spec.level limit inner lower d) (Levels lower d) (λ v. AfterLevel lower) = λ d g. (level_part lower below d g).law in
        located_part limit (λ l. spec.level limit inner lower c >>= spec.operators tier (spec.level limit inner lower) l limit) (Located tier lower c) (Levels (tier ∷ lower) c)
        (λ v. AfterLevel (tier ∷ lower)) AnyToken (level_to tier lower c) (level_back tier lower c)
        (λ l. record {
          law = subst (λ q. Law limit (spec.level limit inner lower c >>= q) (Located tier lower c l) (λ v. AfterLevel (tier ∷ lower))) (same_operators limit tier (spec.level limit inner lower) l)
              (binary_law limit (join tier l) (spec.level limit inner lower) (Levels lower) (Chain tier lower l) (AfterLevel lower) (AfterLevel (tier ∷ lower))
              (λ M v ts. no_operator) (chain_go tier lower l) (chain_split tier lower l) (λ t h. joins_alone tier l t h.0) (λ t h. h.1) (operator_follows tier lower l differs)
              (level_completes lower) Good up (λ M d ts w r e. level_rises e) lower_law c good);
          leads = λ M ts v r d h. fits_any v ts;
          whole = record {
            tokens = zero_symbol ∷ [];
            value = (zero_tree, c);
            holds = λ M k r free h. ((zero_tree, c), r, zero_level lower (free c _ (omega arith)), no_operator);
          };
        })
        (level_completes (tier ∷ lower) c)

    -- ---- an expression

    abbrev pub Exprs : ℕ → Form Symbol Expr
    Exprs c M ts a r = ExprAt M c ts a r

    abbrev pub AfterExpr : Symbol → Type 0
    AfterExpr = AfterLevel tiers

    expr_to : (c : ℕ) (M : May Symbol) (ts : Symbols) (a : Expr) (r : Symbols) → Seq (Levels tiers c) (λ v. Gives v.0) M ts a r → ExprAt M c ts a r
    expr_to c M ts a r (v, m, d, g) = to_by v.0 v.1 m d g
      where
        to_by : (b : Expr) (d : ℕ) (m : Symbols) → LevelAt M tiers c ts b m d → Gives b M m a r → ExprAt M c ts a r
        to_by b d m v gives = expr v

    expr_back : (c : ℕ) (M : May Symbol) (ts : Symbols) (a : Expr) (r : Symbols) → ExprAt M c ts a r → Seq (Levels tiers c) (λ v. Gives v.0) M ts a r
    expr_back c M ts a r (expr {d = d} v) = ((a, d), r, v, gives)

    pub expr_part : (c : ℕ) → Good c → Part limit (spec.expr limit inner c) (Exprs c) (λ a. AfterExpr) AnyToken
    unfolding spec.expr
    expr_part c good =
        restate limit (Exprs c) (λ a. AfterExpr) AnyToken (seq limit (level_part tiers refl c good) (λ v. gives_part limit v.0))
        (expr_to c) (λ M ts a r d h. expr_back c M ts a r d) (λ a t h. h) (λ t h. h)
