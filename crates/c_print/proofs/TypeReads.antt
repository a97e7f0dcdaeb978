-- The tokens of a type or a declarator are derived as it, on one line.
use Rattle.std.proofs.Common.{◌≡◌, ℕ, zero, suc, ℤ, List, [], ◌∷◌, ◌++◌, Option, Some, None, sym, subst, append_assoc, option_map}
use Rattle.std.specs.List.{flat_map}
use Rattle.c_ast.specs.declared.ident.Ident.{Ident}
use Rattle.c_ast.specs.declared.decl.Base.{Base}
use Rattle.c_ast.specs.declared.decl.TypeName.{TypeName}
use Rattle.c_ast.specs.declared.decl.ResultType.{ResultType}
use Rattle.c_ast.specs.declared.decl.Declarator.{Declarator}
use Rattle.c_ast.specs.declared.decl.Brackets.{Brackets}
use Rattle.c_ast.specs.declared.decl.Param.{Param}
use Rattle.c_ast.specs.declared.decl.ProtoParam.{ProtoParam}
use Rattle.c_parse.specs.Symbol.{Symbols}
use Rattle.c_parse.specs.Types as t
use Rattle.c_print.specs.SameTree as one
use Rattle.c_print.proofs.Joining.{on_line}
use Rattle.c_print.specs.TreeTokens.{Kinds, name, of_base, of_brackets, of_declarator, of_length, of_param, of_proto_param, of_result, of_stars, of_type, if_some}

-- a derivation, at the same tokens written otherwise
pub at : (P : Symbols → Type 0) {ks ls : Kinds} → ks ≡ ls → P (on_line ls) → P (on_line ks)
at P e = subst (λ (k : Kinds). P (on_line k)) (sym e)

-- from the left, and from the right
pub three : (a b c rest : Kinds) → ((a ++ b) ++ c) ++ rest ≡ a ++ (b ++ (c ++ rest))
three a b c rest = simp append_assoc

pub four : (a b c d rest : Kinds) → (((a ++ b) ++ c) ++ d) ++ rest ≡ a ++ (b ++ (c ++ (d ++ rest)))
four a b c d rest = simp append_assoc

pub base : (b : Base) (rest : Kinds) → t.BaseAt (on_line (of_base b ++ rest)) (one.base b) (on_line rest)
base (Base.Int line) rest = t.int
base (Base.Struct line tag) rest = t.struct

pub stars : (n : ℕ) (rest : Kinds) → t.StarsAt (on_line (of_stars n ++ rest)) n (on_line rest)
stars zero rest = t.no_star
stars (suc n) rest = t.star (stars n rest)

pub type_name : (n : TypeName) (rest : Kinds) → t.TypeNameAt (on_line (of_type n ++ rest)) (one.type_name n) (on_line rest)
type_name n rest =
    at (λ ts. t.TypeNameAt ts (one.type_name n) (on_line rest)) (append_assoc (of_base n.base) (of_stars n.stars) rest)
    (t.type_name (base n.base (of_stars n.stars ++ rest)) (stars n.stars rest))

pub result : (r : ResultType) (rest : Kinds) → t.ResultAt (on_line (of_result r ++ rest)) (one.result_type r) (on_line rest)
result (ResultType.Type b n) rest =
    at (λ ts. t.ResultAt ts (one.result_type (ResultType.Type b n)) (on_line rest)) (append_assoc (of_base b) (of_stars n) rest)
    (t.value (base b (of_stars n ++ rest)) (stars n rest))
result (ResultType.Void line) rest = t.void

pub lengths : (ks : List ℤ) (rest : Kinds) → t.LengthsAt (on_line (flat_map of_length ks ++ rest)) ks (on_line rest)
lengths [] rest = t.no_length
lengths (k ∷ ks) rest = t.length (lengths ks rest)

-- the stars and the name of a declarator begin with a token
stars_first : (n : ℕ) (d : Declarator) (rest : Kinds) → (ks : Kinds)
    → t.StarsAt (on_line (of_stars n ++ name d.name ∷ ks)) d.stars (on_line (name d.name ∷ ks)) → t.LengthsAt (on_line ks) d.lengths (on_line rest)
    → t.DeclaratorAt (on_line (of_stars n ++ name d.name ∷ ks)) (one.declarator d) (on_line rest)
stars_first zero d rest ks s l = t.declarator s l
stars_first (suc n) d rest ks s l = t.declarator s l

pub declarator : (d : Declarator) (rest : Kinds) → t.DeclaratorAt (on_line (of_declarator d ++ rest)) (one.declarator d) (on_line rest)
declarator d rest =
    at (λ ts. t.DeclaratorAt ts (one.declarator d) (on_line rest)) (append_assoc (of_stars d.stars) (name d.name ∷ flat_map of_length d.lengths) rest)
    (stars_first d.stars d rest (flat_map of_length d.lengths ++ rest)
    (stars d.stars (name d.name ∷ (flat_map of_length d.lengths ++ rest))) (lengths d.lengths rest))

pub brackets : (b : Brackets) (rest : Kinds) → t.BracketsAt (on_line (of_brackets b ++ rest)) b (on_line rest)
brackets Brackets.Absent rest = t.absent
brackets Brackets.Empty rest = t.empty
brackets (Brackets.Length k) rest = t.length

pub param : (p : Param) (rest : Kinds) → t.ParamAt (on_line (of_param p ++ rest)) (one.param p) (on_line rest)
param p rest =
    at (λ ts. t.ParamAt ts (one.param p) (on_line rest))
    (three (of_base p.base) (of_stars p.stars) (name p.name ∷ of_brackets p.brackets) rest)
    (t.param (base p.base (of_stars p.stars ++ name p.name ∷ (of_brackets p.brackets ++ rest)))
    (stars p.stars (name p.name ∷ (of_brackets p.brackets ++ rest))) (brackets p.brackets rest))

any_name : (i : Option Ident) (rest : Kinds) → t.NameAt (on_line (if_some (λ (k : Ident). name k ∷ []) i ++ rest)) (option_map one.ident i) (on_line rest)
any_name None rest = t.unnamed
any_name (Some i) rest = t.named

pub proto_param : (p : ProtoParam) (rest : Kinds) → t.ProtoParamAt (on_line (of_proto_param p ++ rest)) (one.proto_param p) (on_line rest)
proto_param p rest =
    let named : Kinds = if_some (λ (k : Ident). name k ∷ []) p.name in
    at (λ ts. t.ProtoParamAt ts (one.proto_param p) (on_line rest))
    (four (of_base p.base) (of_stars p.stars) named (of_brackets p.brackets) rest)
    (t.param (base p.base (of_stars p.stars ++ (named ++ (of_brackets p.brackets ++ rest))))
    (stars p.stars (named ++ (of_brackets p.brackets ++ rest))) (any_name p.name (of_brackets p.brackets ++ rest)) (brackets p.brackets rest))
