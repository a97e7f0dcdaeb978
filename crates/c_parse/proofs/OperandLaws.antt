-- Arguments, suffixes and operands are read by their grammar.
use Rattle.std.proofs.Common.{◌≡◌, ℕ, suc, pos, ◌≤◌, Bool, true, false, Some, List, [], ◌∷◌, refl, arith}
use Rattle.dfi_base.specs.declared.numbers.Line.{Line}
use Rattle.c_lex.specs.declared.token.Word.{Word}
use Rattle.c_lex.specs.declared.token.Mark.{Mark}
use Rattle.c_lex.specs.declared.token.Kind.{Kind}
use Rattle.c_ast.specs.declared.ident.Ident.{Ident}
use Rattle.c_ast.specs.declared.expr.UnaryOp.{UnaryOp}
use Rattle.c_ast.specs.declared.expr.Expr.{Expr}
use Rattle.c_parse.specs.Nodes as tree
use Rattle.parse_law.specs.tools.Parsing.{unexpected, peek, turns, repeat}
use Rattle.parse_law.specs.Nesting.{May}
use Rattle.parse_law.proofs.Forms.{Completes, Law}
use Rattle.parse_law.proofs.Steps.{Any, fits_any, false_true}
use Rattle.parse_law.proofs.FirstTokens.{rise}
use Rattle.parse_law.proofs.Repeat.{repeat_law, Takes, takes_rising}
use Rattle.c_parse.specs.declared.subject.Subject.{Subject}
use Rattle.c_parse.specs.declared.sorts.OperandStart.{OperandStart}
use Rattle.c_parse.specs.declared.sorts.SuffixStart.{SuffixStart}
use Rattle.c_parse.specs.Symbol.{Symbol, Symbols, mark, name}
use Rattle.c_parse.specs.Operators.{tiers}
use Rattle.c_parse.specs.tools.Sorts.{operand_start, suffix_start, is_suffix, is_base}
use Rattle.c_parse.specs.tools.Tokens.{P, kind_of, choose, want, is_mark, mark_at, word_at, ident_at, number_at, goes}
use Rattle.c_parse.specs.Exprs.{no_suffix}
use Rattle.c_parse.specs.tools.TypeParser.{has}
use Rattle.c_parse.specs.tools.ExprParser as spec
use Rattle.c_parse.proofs.Parts.{Part, gives_part, seq, takes_seq, takes_want, widen, restate, reads_part, Branch, branch, refuses, dispatch, dispatch_empty}
use Rattle.c_parse.proofs.TokenParts.{mark_any, mark_part, word_any, ident_any, number_any, AnyToken, line_one, Only, only_mark, located_part}
use Rattle.c_parse.proofs.Lists.{others_part}
use Rattle.c_parse.proofs.TypeLaws.{type_name_part}
use Rattle.c_parse.proofs.LevelLaws.{AfterOperand, AfterLevel, zero_expr, zero_symbol, zero_tree, Unaries, unary_part, expr_part}
use Rattle.c_parse.proofs.Begins.{type_begins, expr_begins}
use Rattle.c_parse.proofs.OperandForms.{expr_then_close, expr_then_bracket, expr_then_comma, InCall, empty, some, takes_choose, takes_located, takes_refuse, E, Arguments, ArgumentsBy, arguments_to, arguments_begin, arguments_back, one_index, one_field, one_arrow, Suffix, SuffixBy, suffix_to, suffix_back, MoreSuffixes, RisenSuffix, suffixes_go, suffixes_split, suffixes_start, Postfixed, of_number, Then, bare, CallEnds, CallEndBy, call_end_to_by, call_end_back, call_end_only, Called, variable_end, Named, NamedBy, named_to, named_back, named_only, OpenedAt, cast_end, group_end, Opened, OpenedBy, opened_to, opened_back, PrefixAt, prefix_reads, reads_prefix, SubjectForm, SubjectBy, subject_to, subject_back, Subjects}

module _ (limit : ℕ) (inner : ℕ → P Expr) (Good : ℕ → Type 0) (up : (c d : ℕ) → c ≤ d → Good c → Good d)
    (law : (c : ℕ) → Good c → Law limit (inner c) (Unaries c) (λ a. AfterOperand)) where
  part_of : (c : ℕ) → Good c → Part limit (spec.expr limit inner c) (E c) (λ a. AfterLevel tiers) AnyToken
  part_of c good = expr_part limit inner Good up law c good

  arguments_branches : (c : ℕ) → Good c → (b : Bool) → Branch limit (spec.arguments_by limit inner c b) (ArgumentsBy c b) Any AnyToken
  arguments_branches c good true = branch limit (seq limit (mark_any limit Mark.CloseParen) (λ q. gives_part limit []))
  arguments_branches c good false =
      branch limit (seq limit (part_of c good) (λ a.
      seq limit (others_part limit (spec.expr limit inner c) (E c) (AfterLevel tiers) (Only Mark.CloseParen) AnyToken expr_then_comma
      (only_mark Mark.CloseParen (λ t. has Mark.Comma t ≡ false) (λ l. refl)) (only_mark Mark.CloseParen (AfterLevel tiers) expr_then_close) (part_of c good) a) (λ args.
      seq limit (mark_part limit Mark.CloseParen (λ l. refl)) (λ q. gives_part limit args))))

  pub arguments_part : (c : ℕ) → Good c → Part limit (spec.arguments limit inner c) (Arguments c) Any AnyToken
  unfolding spec.arguments spec.expr spec.level spec.chain want
  arguments_part c good =
      dispatch limit (λ t. is_mark Mark.CloseParen (kind_of t)) (spec.arguments_by limit inner c) (ArgumentsBy c) (Arguments c) Any AnyToken
      (λ M t us. arguments_to c (is_mark Mark.CloseParen (Some t.kind)) M (t ∷ us)) (λ M ts args r d h. arguments_back c M ts args r d) (arguments_branches c good)
      (record { tokens = mark Mark.CloseParen line_one ∷ []; value = []; holds = λ M l r free h. empty }) refl (λ M a r d h. nothing d)
    where
      nothing : {M : May Symbol} {args : List Expr} {r : Symbols} → InCall M c [] args r → ⊥
      nothing (some d) = false_true (arguments_begin d)

  index_part : (l : Line) (a : Expr) (c : ℕ) → Good c
      → Part limit (spec.suffix_by limit inner l a c SuffixStart.Index) (SuffixBy l a c SuffixStart.Index) Any AnyToken
  index_part l a c good =
      seq limit (mark_any limit Mark.OpenBracket) (λ p. widen limit (seq limit (part_of c good) (λ i. seq limit (mark_part limit Mark.CloseBracket expr_then_bracket) (λ q. gives_part limit (tree.Index l a i, c)))) (λ t h. tt))

  field_part : (l : Line) (a : Expr) (c : ℕ) → Part limit (spec.suffix_by limit inner l a c SuffixStart.Field) (SuffixBy l a c SuffixStart.Field) Any AnyToken
  field_part l a c = seq limit (mark_any limit Mark.Dot) (λ p. seq limit (ident_any limit) (λ i. gives_part limit (tree.Field l a i, c)))

  arrow_part : (l : Line) (a : Expr) (c : ℕ) → Part limit (spec.suffix_by limit inner l a c SuffixStart.Arrow) (SuffixBy l a c SuffixStart.Arrow) Any AnyToken
  arrow_part l a c = seq limit (mark_any limit Mark.Arrow) (λ p. seq limit (ident_any limit) (λ i. gives_part limit (tree.Arrow l a i, c)))

  suffix_branches : (l : Line) (a : Expr) (c : ℕ) → Good c → (k : SuffixStart)
      → Branch limit (spec.suffix_by limit inner l a c k) (SuffixBy l a c k) Any AnyToken
  suffix_branches l a c good SuffixStart.Index = branch limit (index_part l a c good)
  suffix_branches l a c good SuffixStart.Field = branch limit (field_part l a c)
  suffix_branches l a c good SuffixStart.Arrow = branch limit (arrow_part l a c)
  suffix_branches l a c good SuffixStart.Other = refuses limit

  suffix_part : (l : Line) (a : Expr) (c : ℕ) → Good c → Part limit (spec.suffix limit inner l a c) (Suffix l a c) Any AnyToken
  unfolding spec.suffix
  suffix_part l a c good =
      dispatch limit (λ t. suffix_start (kind_of t)) (spec.suffix_by limit inner l a c) (SuffixBy l a c) (Suffix l a c) Any AnyToken
      (λ M t us. suffix_to l a c (suffix_start (Some t.kind)) M (t ∷ us)) (λ M ts v r d h. suffix_back l a c M ts v r d) (suffix_branches l a c good)
      (record { tokens = mark Mark.Dot line_one ∷ name 0 line_one ∷ []; value = (tree.Field l a (record { line = line_one; name = 0 }), c); holds = λ M k r free h. one_field })
      refl (λ M v r d h. elim d [ ])

  -- a suffix takes a token
  takes_suffix : (l : Line) (a : Expr) (c : ℕ) → Good c → Takes (spec.suffix limit inner l a c)
  unfolding spec.suffix
  takes_suffix l a c good = takes_choose suffix_start (spec.suffix_by limit inner l a c) by
    where
      by : (k : SuffixStart) → Takes (spec.suffix_by limit inner l a c k)
      by SuffixStart.Index = takes_seq limit {G = Any} (takes_want (mark_at Mark.OpenBracket)) (λ p. widen limit (seq limit (part_of c good) (λ i. seq limit (mark_part limit Mark.CloseBracket expr_then_bracket) (λ q. gives_part limit {F = Any} (tree.Index l a i, c)))) (λ t h. tt))
      by SuffixStart.Field = takes_seq limit {G = Any} (takes_want (mark_at Mark.Dot)) (λ p. seq limit (ident_any limit) (λ i. gives_part limit {F = Any} (tree.Field l a i, c)))
      by SuffixStart.Arrow = takes_seq limit {G = Any} (takes_want (mark_at Mark.Arrow)) (λ p. seq limit (ident_any limit) (λ i. gives_part limit {F = Any} (tree.Arrow l a i, c)))
      by SuffixStart.Other = takes_refuse unexpected

  suffix_good : (l : Line) (M : May Symbol) (x y : Expr × ℕ) (ts m : Symbols) → Good x.1 → RisenSuffix l x M ts y m → Good y.1
  suffix_good l M x y ts m good (may, one_index d) = up x.1 (suc x.1) (omega arith) good
  suffix_good l M x y ts m good (may, one_field) = up x.1 (suc x.1) (omega arith) good
  suffix_good l M x y ts m good (may, one_arrow) = up x.1 (suc x.1) (omega arith) good

  -- tokens that complete a suffix behind its first
  suffix_one : (l : Line) (a : Expr) (c : ℕ) (k : Kind) (p : Line) → is_suffix (Some k) ≡ true
      → Completes limit (Suffix l a c) Any [] (record { kind = k; line = p } ∷ [])
  suffix_one l a c (Kind.Mark Mark.OpenBracket) p e = record {
    tokens = zero_symbol ∷ mark Mark.CloseBracket line_one ∷ [];
    value = (tree.Index l a zero_tree, c);
    holds = λ M k r free h. one_index (zero_expr (free c _ (omega arith)));
  }
  suffix_one l a c (Kind.Mark Mark.Dot) p e = record {
    tokens = name 0 line_one ∷ [];
    value = (tree.Field l a (record { line = line_one; name = 0 }), c);
    holds = λ M k r free h. one_field;
  }
  suffix_one l a c (Kind.Mark Mark.Arrow) p e = record {
    tokens = name 0 line_one ∷ [];
    value = (tree.Arrow l a (record { line = line_one; name = 0 }), c);
    holds = λ M k r free h. one_arrow;
  }
  suffix_one l a c _ p e = absurd (false_true e)

  suffixes_law : (l : Line) (v : Expr × ℕ) → Good v.1 → Law limit (spec.suffixes limit inner l v) (MoreSuffixes l v) (λ z. AfterOperand)
  suffixes_law l v good =
      repeat_law limit (goes is_suffix) (spec.suffix_after limit inner l) (RisenSuffix l) (MoreSuffixes l) Any (λ z. AfterOperand)
      (λ M x ts. no_suffix) (suffixes_go l) (suffixes_split l) (suffixes_start l) (λ x t h. h.0) (λ x M ts z r d h. fits_any x ts)
      (λ x. Good x.1) (suffix_good l)
      (λ x g t us e. rise limit x.1 (spec.suffix_after limit inner l x) (spec.suffix limit inner l x.0 (suc x.1)) (RisenSuffix l x) (Suffix l x.0 (suc x.1)) Any t
      (λ M vs w r may d. (may, d)) (λ M vs w r d h. d) (λ vs. refl) (suffix_one l x.0 (suc x.1) t.kind t.line e)
      (λ less. (suffix_part l x.0 (suc x.1) (up x.1 (suc x.1) (omega arith) g)).law) us)
      (λ x g. takes_rising limit x.1 (spec.suffix limit inner l x.0) (takes_suffix l x.0 (suc x.1) (up x.1 (suc x.1) (omega arith) g)))
      v good

  suffixes_part : (l : Line) (v : Expr × ℕ) → Good v.1 → Part limit (spec.suffixes limit inner l v) (MoreSuffixes l v) (λ z. AfterOperand) AnyToken
  suffixes_part l v good = record {
    law = suffixes_law l v good;
    leads = λ M ts z r d h. fits_any z ts;
    whole = record { tokens = []; value = v; holds = λ M k r free h. no_suffix };
  }

  postfix_part : (l : Line) (c : ℕ) (a : Expr) → Good c → Part limit (spec.postfix limit inner l c a) (Postfixed l c a) (λ v. AfterOperand) AnyToken
  unfolding spec.postfix
  postfix_part l c a good = widen limit (seq limit (suffixes_part l (a, c) good) (λ v. gives_part limit (Subject.Postfix v.0))) (λ t h. tt)

  call_end_branches : (l : Line) (c : ℕ) (f : Ident) (args : List Expr) → Good c → (b : Bool)
      → Branch limit (spec.called_by limit inner l c f args b) (CallEndBy l c f args b) Then AnyToken
  call_end_branches l c f args good true = branch limit (postfix_part l c (tree.Call f args) good)
  call_end_branches l c f args good false = branch limit (widen limit (gives_part limit (Subject.Call f args)) (λ t h. tt))

  call_end_part : (l : Line) (c : ℕ) (f : Ident) (args : List Expr) → Good c
      → Part limit (choose is_suffix (spec.called_by limit inner l c f args)) (CallEnds l c f args) Then AnyToken
  call_end_part l c f args good =
      dispatch_empty limit (λ t. is_suffix (kind_of t)) (spec.called_by limit inner l c f args) (CallEndBy l c f args) (CallEnds l c f args) Then AnyToken
      (λ M t us v r. call_end_to_by l c f args (is_suffix (Some t.kind)) M t us v r refl) (call_end_back l c f args) (call_end_branches l c f args good)
      (Subject.Call f args) refl (λ M ts h. bare) (λ M v r d h. call_end_only l c f args M v r d)

  called_part : (l : Line) (c : ℕ) (f : Ident) → Good c → Part limit (spec.called limit inner l c f) (Called l c f) Then AnyToken
  unfolding spec.called
  called_part l c f good = seq limit (arguments_part c good) (λ args. call_end_part l c f args good)

  named_branches : (l : Line) (c : ℕ) (i : Ident) → Good c → (b : Bool) → Branch limit (spec.named_by limit inner l c i b) (NamedBy l c i b) Then AnyToken
  named_branches l c i good true = branch limit (seq limit (mark_any limit Mark.OpenParen) (λ q. called_part l c i good))
  named_branches l c i good false = branch limit (postfix_part l c (tree.Name i) good)

  named_part : (l : Line) (c : ℕ) (i : Ident) → Good c → Part limit (spec.named limit inner l c i) (Named l c i) Then AnyToken
  unfolding spec.named spec.postfix repeat turns peek
  named_part l c i good =
      dispatch_empty limit (λ t. is_mark Mark.OpenParen (kind_of t)) (spec.named_by limit inner l c i) (NamedBy l c i) (Named l c i) Then AnyToken
      (λ M t us. named_to l c i (is_mark Mark.OpenParen (Some t.kind)) M (t ∷ us)) (named_back l c i) (named_branches l c i good)
      (Subject.Postfix (tree.Name i)) refl (λ M ts h. variable_end no_suffix) (λ M v r d h. named_only l c i M v r d)

  opened_branches : (l : Line) (c : ℕ) → Good c → (b : Bool) → Branch limit (spec.opened_by limit inner l c b) (OpenedBy l c b) Then AnyToken
  opened_branches l c good true =
      branch limit (seq limit (type_name_part limit) (λ t. seq limit (mark_part limit Mark.CloseParen (λ q. refl)) (λ q. widen limit (seq limit (unary_part limit inner Good up law c good) (λ a. gives_part limit (Subject.Prefixed (tree.Cast l t a)))) (λ t h. tt))))
  opened_branches l c good false = branch limit (seq limit (part_of c good) (λ a. seq limit (mark_part limit Mark.CloseParen expr_then_close) (λ q. postfix_part l c a good)))

  opened_part : (l : Line) (c : ℕ) → Good c → Part limit (spec.opened limit inner l c) (Opened l c) Then AnyToken
  unfolding spec.opened spec.expr spec.level spec.chain
  opened_part l c good =
      dispatch limit (λ t. is_base (kind_of t)) (spec.opened_by limit inner l c) (OpenedBy l c) (Opened l c) Then AnyToken
      (λ M t us. opened_to l c (is_base (Some t.kind)) M (t ∷ us)) (λ M ts v r d h. opened_back l c M ts v r d) (opened_branches l c good)
      (record { tokens = zero_symbol ∷ mark Mark.CloseParen line_one ∷ []; value = Subject.Postfix zero_tree; holds = λ M k r free h. group_end (zero_expr (free c _ (omega arith))) no_suffix })
      refl (λ M v r d h. nothing d)
    where
      nothing : {M : May Symbol} {v : Subject} {r : Symbols} → OpenedAt M l c [] v r → ⊥
      nothing (cast_end d u) = false_true (type_begins d)
      nothing (group_end d s) = false_true (expr_begins d)

  prefix_part : Part limit (want spec.unary_at) PrefixAt Any AnyToken
  prefix_part =
      restate limit PrefixAt Any AnyToken (reads_part limit spec.unary_at AnyToken (λ t op e. tt) (mark Mark.Minus line_one) UnaryOp.Minus refl)
      prefix_reads (λ M ts op r d h. reads_prefix M ts op r d) (λ a t h. h) (λ t h. h)

  subject_branches : (l : Line) (c : ℕ) → Good c → (k : OperandStart) → Branch limit (spec.operand_by limit inner l c k) (SubjectBy l c k) Then AnyToken
  subject_branches l c good OperandStart.Prefix = branch limit (seq limit prefix_part (λ op. widen limit (seq limit (unary_part limit inner Good up law c good) (λ a. gives_part limit (Subject.Prefixed (tree.Unary l op a)))) (λ t h. tt)))
  subject_branches l c good OperandStart.Paren = branch limit (seq limit (mark_any limit Mark.OpenParen) (λ p. opened_part l c good))
  subject_branches l c good OperandStart.Number = branch limit (seq limit (number_any limit) (λ k. postfix_part l c (tree.Number l k) good))
  subject_branches l c good OperandStart.Null = branch limit (seq limit (word_any limit Word.Null) (λ p. postfix_part l c (tree.Null l) good))
  subject_branches l c good OperandStart.Name = branch limit (seq limit (ident_any limit) (λ i. named_part l c i good))
  subject_branches l c good OperandStart.Sizeof =
      branch limit (seq limit (word_any limit Word.Sizeof) (λ p. seq limit (mark_any limit Mark.OpenParen) (λ q. seq limit (type_name_part limit) (λ t. seq limit (mark_part limit Mark.CloseParen (λ s. refl)) (λ s. postfix_part l c (tree.Sizeof l t) good)))))
  subject_branches l c good OperandStart.Other = refuses limit

  operand_from_part : (c : ℕ) → Good c → (l : Line) → Part limit (spec.operand_from limit inner c l) (SubjectForm l c) Then AnyToken
  unfolding spec.operand_from
  operand_from_part c good l =
      dispatch limit (λ t. operand_start (kind_of t)) (spec.operand_by limit inner l c) (SubjectBy l c) (SubjectForm l c) Then AnyToken
      (λ M t us. subject_to l c (operand_start (Some t.kind)) M (t ∷ us)) (λ M ts v r d h. subject_back l c M ts v r d) (subject_branches l c good)
      (record { tokens = zero_symbol ∷ []; value = Subject.Postfix (tree.Number l (pos 0)); holds = λ M k r free h. of_number no_suffix })
      refl (λ M v r d h. elim d [ ])

  pub operand_part : (c : ℕ) → Good c → Part limit (spec.operand limit inner c) (Subjects c) Then AnyToken
  unfolding spec.operand
  operand_part c good =
      located_part limit (spec.operand_from limit inner c) (λ l. SubjectForm l c) (Subjects c) Then AnyToken
      (λ M t us v r d. (t, us, refl, d)) (λ M ts v r d. d) (operand_from_part c good)
      (record { tokens = zero_symbol ∷ []; value = Subject.Postfix zero_tree; holds = λ M k r free h. (zero_symbol, r, refl, of_number no_suffix) })

  pub takes_operand : (c : ℕ) → Good c → Takes (spec.operand limit inner c)
  unfolding spec.operand spec.operand_from
  takes_operand c good = takes_located (spec.operand_from limit inner c) (λ l. takes_choose operand_start (spec.operand_by limit inner l c) (by l))
    where
      by : (l : Line) (k : OperandStart) → Takes (spec.operand_by limit inner l c k)
      by l OperandStart.Prefix = takes_seq limit {G = Any} (takes_want spec.unary_at) (λ op. widen limit (seq limit (unary_part limit inner Good up law c good) (λ a. gives_part limit {F = Then} (Subject.Prefixed (tree.Unary l op a)))) (λ t h. tt))
      by l OperandStart.Paren = takes_seq limit {G = Any} (takes_want (mark_at Mark.OpenParen)) (λ p. opened_part l c good)
      by l OperandStart.Number = takes_seq limit {G = Any} (takes_want number_at) (λ k. postfix_part l c (tree.Number l k) good)
      by l OperandStart.Null = takes_seq limit {G = Any} (takes_want (word_at Word.Null)) (λ p. postfix_part l c (tree.Null l) good)
      by l OperandStart.Name = takes_seq limit {G = Any} (takes_want ident_at) (λ i. named_part l c i good)
      by l OperandStart.Sizeof =
          takes_seq limit {G = Any} (takes_want (word_at Word.Sizeof)) (λ p. seq limit (mark_any limit Mark.OpenParen) (λ q. seq limit (type_name_part limit) (λ t. seq limit (mark_part limit Mark.CloseParen (λ s. refl)) (λ s. postfix_part l c (tree.Sizeof l t) good))))
      by l OperandStart.Other = takes_refuse unexpected
