-- The tokens of a tree are those that it was derived from, but for some parentheses.
use Rattle.std.proofs.Common.{◌≡◌, ℕ, zero, suc, ◌+◌, ◌<◌, ◌≤◌, ◌⊎◌, inl, inr, List, [], ◌∷◌, ◌++◌, Option, Some, None, drop, refl, ap, ◌∙◌, sym, subst, arith}
use Rattle.std.specs.Prelude.{ℤ}
use Rattle.std.specs.List.{flat_map}
use Rattle.std.proofs.lemmas.Bool.{cases_lt}
use Rattle.std.proofs.lemmas.List.{append-nil, drop-drop}
use Rattle.std.proofs.Math.Nat.{eq-or-lt_of_le}
use Rattle.dfi_base.specs.declared.numbers.Line.{Line}
use Rattle.c_lex.specs.declared.token.Kind.{Kind}
use Rattle.c_lex.specs.declared.token.Mark.{Mark}
use Rattle.c_ast.specs.declared.ident.Ident.{Ident}
use Rattle.c_ast.specs.declared.decl.Base.{Base}
use Rattle.c_ast.specs.declared.decl.TypeName.{TypeName}
use Rattle.c_ast.specs.declared.decl.ResultType.{ResultType}
use Rattle.c_ast.specs.declared.decl.Declarator.{Declarator}
use Rattle.c_ast.specs.declared.decl.Brackets.{Brackets}
use Rattle.c_ast.specs.declared.decl.Param.{Param}
use Rattle.c_ast.specs.declared.decl.ProtoParam.{ProtoParam}
use Rattle.c_ast.specs.declared.decl.Params.{Params}
use Rattle.c_ast.specs.declared.decl.ProtoParams.{ProtoParams}
use Rattle.c_ast.specs.declared.expr.UnaryOp.{UnaryOp}
use Rattle.c_ast.specs.declared.expr.BinaryOp.{BinaryOp}
use Rattle.c_ast.specs.declared.expr.Form.{Form, out-Form}
use Rattle.c_parse.specs.Symbol.{Symbols, mark as symbol}
use Rattle.c_parse.specs.declared.operators.Tier.{Tier}
use Rattle.c_parse.specs.Operators.{binary_op, unary_op, tiers}
use Rattle.c_parse.specs.Types as t
use Rattle.c_print.specs.Precedence.{precedence}
use Rattle.c_print.specs.Signs.{binary_sign, unary_sign}
use Rattle.c_print.specs.TreeTokens.{Kinds, if_some, in_parens, level, mark, name, of_base, of_brackets, of_declarator, of_form, of_length, of_param, of_params, of_proto_param, of_proto_params, of_result, of_stars, of_type, with_commas}
use Rattle.c_print.proofs.Levels.{loose, tight}
use Rattle.c_print.proofs.ExprReads.{from}

pub data Paren : Mark → Type 0 where
  opens : Paren Mark.OpenParen
  closes : Paren Mark.CloseParen

-- from these tokens on, down to these, the tokens are of these kinds, and parentheses that are left out
pub data Thin : Symbols → Kinds → Symbols → Type 0 where
  same : {us : Symbols} → Thin us [] us
  keep : {k : Kind} {l : Line} {ts us : Symbols} {ks : Kinds} → Thin ts ks us → Thin (record { kind = k; line = l } ∷ ts) (k ∷ ks) us
  lost : {m : Mark} {l : Line} {ts us : Symbols} {ks : Kinds} → Paren m → Thin ts ks us → Thin (symbol m l ∷ ts) ks us

pub both : {ts m us : Symbols} {ks ls : Kinds} → Thin ts ks m → Thin m ls us → Thin ts (ks ++ ls) us
both same h = h
both (keep d) h = keep (both d h)
both (lost p d) h = lost p (both d h)

pub as_kinds : {ts us : Symbols} {ks ls : Kinds} → ks ≡ ls → Thin ts ls us → Thin ts ks us
as_kinds {ts} {us} e d = subst (λ (k : Kinds). Thin ts k us) (sym e) d

lose_first : {ts us : Symbols} {m : Mark} {ks : Kinds} → Paren m → Thin ts (mark m ∷ ks) us → Thin ts ks us
lose_first p (keep d) = lost p d
lose_first p (lost q d) = lost q (lose_first p d)

lose_at : (ks : Kinds) (m : Mark) (ls vs : Kinds) {ts us : Symbols} → Paren m → vs ≡ ks ++ mark m ∷ ls → Thin ts vs us → Thin ts (ks ++ ls) us
lose_at [] m ls vs p e d = lose_first p (as_kinds (sym e) d)
lose_at (k ∷ ks) m ls [] p e same = absurd cc
lose_at (k ∷ ks) m ls (v ∷ vs) p e (keep d) =
    let head : k ≡ v = cc in
    let tail : vs ≡ ks ++ mark m ∷ ls = cc in
    as_kinds (ap (λ x. x ∷ (ks ++ ls)) head) (keep (lose_at ks m ls vs p tail d))
lose_at (k ∷ ks) m ls vs p e (lost q d) = lost q (lose_at (k ∷ ks) m ls vs p e d)

lose_parens : (ks : Kinds) {ts us : Symbols} → Thin ts (in_parens ks) us → Thin ts ks us
lose_parens ks d = as_kinds (sym (append-nil ks)) (lose_at ks Mark.CloseParen [] _ closes refl (lose_first opens d))

-- a lower place wants no more parentheses
pub lower_place : (x : Form) (place low : ℕ) {ts us : Symbols} → low ≤ place → Thin ts (of_form x place) us → Thin ts (of_form x low) us
lower_place x place low {ts} {us} h d = by (cases_lt (level (out-Form x)) place) (cases_lt (level (out-Form x)) low)
  where
    by : (level (out-Form x) < place) ⊎ (place ≤ level (out-Form x)) → (level (out-Form x) < low) ⊎ (low ≤ level (out-Form x)) → Thin ts (of_form x low) us
    by (inl a) (inl b) = as_kinds (loose x low b ∙ sym (loose x place a)) d
    by (inl a) (inr b) = as_kinds (tight x low b) (lose_parens (of_form x 0) (as_kinds (sym (loose x place a)) d))
    by (inr a) b = as_kinds (tight x low (omega arith) ∙ sym (tight x place a)) d

abbrev pub Filled : {A : Type 0} → List A → Type 0
Filled [] = ⊥
Filled (x ∷ xs) = Unit {0}

pub after_comma : {A : Type 0} (of : A → Kinds) (xs : List A) {l : Line} {ts us : Symbols} → Filled xs → Thin ts (with_commas of xs) us
    → Thin (symbol Mark.Comma l ∷ ts) (flat_map (λ y. mark Mark.Comma ∷ of y) xs) us
after_comma of [] f d = absurd f
after_comma of (x ∷ xs) f d = keep d

pub closed : {l : Line} {ts us : Symbols} {ks : Kinds} {m : Mark} → Thin ts ks (symbol m l ∷ us) → Thin ts (ks ++ mark m ∷ []) us
closed d = both d (keep same)

-- ---- types

pub base : {ts us : Symbols} {b : Base} → t.BaseAt ts b us → Thin ts (of_base b) us
base t.int = keep same
base t.struct = keep (keep same)

stars : {ts us : Symbols} {n : ℕ} → t.StarsAt ts n us → Thin ts (of_stars n) us
stars t.no_star = same
stars (t.star d) = keep (stars d)

pub type_name : {ts us : Symbols} {n : TypeName} → t.TypeNameAt ts n us → Thin ts (of_type n) us
type_name (t.type_name b s) = both (base b) (stars s)

pub result : {ts us : Symbols} {r : ResultType} → t.ResultAt ts r us → Thin ts (of_result r) us
result (t.value b s) = both (base b) (stars s)
result t.void = keep same

lengths : {ts us : Symbols} {ks : List ℤ} → t.LengthsAt ts ks us → Thin ts (flat_map of_length ks) us
lengths t.no_length = same
lengths (t.length d) = keep (keep (keep (lengths d)))

pub declarator : {ts us : Symbols} {d : Declarator} → t.DeclaratorAt ts d us → Thin ts (of_declarator d) us
declarator (t.declarator s l) = both (stars s) (keep (lengths l))

brackets : {ts us : Symbols} {b : Brackets} → t.BracketsAt ts b us → Thin ts (of_brackets b) us
brackets t.absent = same
brackets t.empty = keep (keep same)
brackets t.length = keep (keep (keep same))

param : {ts us : Symbols} {p : Param} → t.ParamAt ts p us → Thin ts (of_param p) us
param (t.param b s k) = both (both (base b) (stars s)) (keep (brackets k))

any_name : {ts us : Symbols} {i : Option Ident} → t.NameAt ts i us → Thin ts (if_some (λ (k : Ident). name k ∷ []) i) us
any_name t.unnamed = same
any_name t.named = keep same

proto_param : {ts us : Symbols} {p : ProtoParam} → t.ProtoParamAt ts p us → Thin ts (of_proto_param p) us
proto_param (t.param b s i k) = both (both (both (base b) (stars s)) (any_name i)) (brackets k)

filled_params : {ts us : Symbols} {ps : List Param} → t.ParamsAt ts ps us → Filled ps
filled_params (t.last d) = tt
filled_params (t.more d ds) = tt

params : {ts us : Symbols} {ps : List Param} → t.ParamsAt ts ps us → Thin ts (with_commas of_param ps) us
params (t.last d) = both (param d) same
params (t.more {ps = ps} d ds) = both (param d) (after_comma of_param ps (filled_params ds) (params ds))

filled_proto_params : {ts us : Symbols} {ps : List ProtoParam} → t.ProtoParamsAt ts ps us → Filled ps
filled_proto_params (t.last d) = tt
filled_proto_params (t.more d ds) = tt

proto_params : {ts us : Symbols} {ps : List ProtoParam} → t.ProtoParamsAt ts ps us → Thin ts (with_commas of_proto_param ps) us
proto_params (t.last d) = both (proto_param d) same
proto_params (t.more {ps = ps} d ds) = both (proto_param d) (after_comma of_proto_param ps (filled_proto_params ds) (proto_params ds))

pub param_list : {ts us : Symbols} {ps : Params} → t.ParameterListAt ts ps us → Thin ts (of_params ps) us
param_list t.empty = same
param_list t.void = keep same
param_list (t.list d) = params d

pub proto_list : {ts us : Symbols} {ps : ProtoParams} → t.ProtoListAt ts ps us → Thin ts (of_proto_params ps) us
proto_list t.empty = same
proto_list t.void = keep same
proto_list (t.list d) = proto_params d

-- ---- operators

abbrev FitsUnary : Mark → Option UnaryOp → Type 0
FitsUnary k None = Unit {0}
FitsUnary k (Some op) = k ≡ unary_sign op

fits_unary : (k : Mark) → FitsUnary k (unary_op k)
fits_unary Mark.Minus = refl
fits_unary Mark.Plus = refl
fits_unary Mark.Not = refl
fits_unary Mark.Tilde = refl
fits_unary Mark.Star = refl
fits_unary Mark.And = refl
fits_unary _ = tt

pub sign_unary_is : (k : Mark) (op : UnaryOp) → unary_op k ≡ Some op → k ≡ unary_sign op
sign_unary_is k op e = subst (FitsUnary k) e (fits_unary k)

abbrev FitsBinary : Mark → Option (Tier × BinaryOp) → Type 0
FitsBinary k None = Unit {0}
FitsBinary k (Some o) = (k ≡ binary_sign o.1) × (from (precedence o.1) ≡ o.0 ∷ from (suc (precedence o.1))) × (precedence o.1 ≤ 9)

fits_binary : (k : Mark) → FitsBinary k (binary_op k)
fits_binary Mark.OrOr = (refl, refl, omega arith)
fits_binary Mark.AndAnd = (refl, refl, omega arith)
fits_binary Mark.Or = (refl, refl, omega arith)
fits_binary Mark.Xor = (refl, refl, omega arith)
fits_binary Mark.And = (refl, refl, omega arith)
fits_binary Mark.Equal = (refl, refl, omega arith)
fits_binary Mark.NotEqual = (refl, refl, omega arith)
fits_binary Mark.Less = (refl, refl, omega arith)
fits_binary Mark.Greater = (refl, refl, omega arith)
fits_binary Mark.LessEqual = (refl, refl, omega arith)
fits_binary Mark.GreaterEqual = (refl, refl, omega arith)
fits_binary Mark.ShiftLeft = (refl, refl, omega arith)
fits_binary Mark.ShiftRight = (refl, refl, omega arith)
fits_binary Mark.Plus = (refl, refl, omega arith)
fits_binary Mark.Minus = (refl, refl, omega arith)
fits_binary Mark.Star = (refl, refl, omega arith)
fits_binary Mark.Slash = (refl, refl, omega arith)
fits_binary Mark.Percent = (refl, refl, omega arith)
fits_binary _ = tt

-- the place of a list of tiers, by its first
place_of_tier : Tier → ℕ
place_of_tier Tier.LogicalOr = 0
place_of_tier Tier.LogicalAnd = 1
place_of_tier Tier.BitwiseOr = 2
place_of_tier Tier.BitwiseXor = 3
place_of_tier Tier.BitwiseAnd = 4
place_of_tier Tier.Equality = 5
place_of_tier Tier.Relational = 6
place_of_tier Tier.Shift = 7
place_of_tier Tier.Additive = 8
place_of_tier Tier.Multiplicative = 9

place_of : List Tier → ℕ
place_of [] = 10
place_of (x ∷ xs) = place_of_tier x

same_place : (place : ℕ) → place ≤ 10 → place_of (from place) ≡ place
unfolding place_of place_of_tier
same_place zero h = refl
same_place (suc zero) h = refl
same_place (suc (suc zero)) h = refl
same_place (suc (suc (suc zero))) h = refl
same_place (suc (suc (suc (suc zero)))) h = refl
same_place (suc (suc (suc (suc (suc zero))))) h = refl
same_place (suc (suc (suc (suc (suc (suc zero)))))) h = refl
same_place (suc (suc (suc (suc (suc (suc (suc zero))))))) h = refl
same_place (suc (suc (suc (suc (suc (suc (suc (suc zero)))))))) h = refl
same_place (suc (suc (suc (suc (suc (suc (suc (suc (suc zero))))))))) h = refl
same_place (suc (suc (suc (suc (suc (suc (suc (suc (suc (suc zero)))))))))) h = refl
same_place (suc (suc (suc (suc (suc (suc (suc (suc (suc (suc (suc n))))))))))) h = absurd (omega arith)

-- the place above that of these tiers, where one of them is left
pub record Above (place : ℕ) (tier : Tier) (lower : List Tier) : Type 0 where
  pub least : place ≤ 9
  pub rest : from (suc place) ≡ lower

pub above : (place : ℕ) (tier : Tier) (lower : List Tier) → place ≤ 10 → from place ≡ tier ∷ lower → Above place tier lower
above place tier lower h e =
    let sum : place + 1 ≡ suc place = omega arith in
    record {
      least = by (eq-or-lt_of_le h);
      rest = sym (ap from sum) ∙ sym (drop-drop 1 place tiers) ∙ ap (drop 1) e;
    }
  where
    by : (place ≡ 10) ⊎ (place < 10) → place ≤ 9
    by (inl s) = absurd (let gone : [] ≡ tier ∷ lower = sym (ap from s) ∙ e in cc)
    by (inr s) = omega arith

pub one_place : (place : ℕ) (k : Mark) (tier : Tier) (op : BinaryOp) (lower : List Tier) → place ≤ 9 → from place ≡ tier ∷ lower → binary_op k ≡ Some (tier, op)
    → (precedence op ≡ place) × (k ≡ binary_sign op)
unfolding place_of
one_place place k tier op lower h e o =
    let fit : FitsBinary k (Some (tier, op)) = subst (FitsBinary k) o (fits_binary k) in
    let mine : place_of (from (precedence op)) ≡ precedence op = same_place (precedence op) (omega (arith, fit.2)) in
    let its : place_of (from place) ≡ place = same_place place (omega arith) in
    let tiers_same : place_of (from (precedence op)) ≡ place_of (from place) = firsts (from (precedence op)) (from place) tier _ _ fit.1 e in
    (sym mine ∙ tiers_same ∙ its, fit.0)
  where
    firsts : (xs ys : List Tier) (x : Tier) (us vs : List Tier) → xs ≡ x ∷ us → ys ≡ x ∷ vs → place_of xs ≡ place_of ys
    firsts xs ys x us vs p q = ap place_of p ∙ sym (ap place_of q)
