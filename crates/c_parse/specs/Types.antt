-- Types and declarators. `BaseAt ts b rest`: at ts stands the base b, and behind it comes rest.
use Rattle.std.specs.Prelude.{ℕ, suc, ℤ, List, [], ◌∷◌, Option, Some, None}
use Rattle.dfi_base.specs.declared.numbers.Line.{Line}
use Rattle.c_lex.specs.declared.token.Word.{Word}
use Rattle.c_lex.specs.declared.token.Mark.{Mark}
use Rattle.c_ast.specs.declared.decl.Base.{Base}
use Rattle.c_ast.specs.declared.decl.TypeName.{TypeName}
use Rattle.c_ast.specs.declared.decl.ResultType.{ResultType}
use Rattle.c_ast.specs.declared.decl.Declarator.{Declarator}
use Rattle.c_ast.specs.declared.decl.Brackets.{Brackets}
use Rattle.c_ast.specs.declared.decl.Param.{Param}
use Rattle.c_ast.specs.declared.decl.ProtoParam.{ProtoParam}
use Rattle.c_ast.specs.declared.decl.Params.{Params}
use Rattle.c_ast.specs.declared.decl.ProtoParams.{ProtoParams}
use Rattle.c_ast.specs.declared.ident.Ident.{Ident}
use Rattle.c_parse.specs.Symbol.{Symbol, Symbols, word, mark, name, number}

-- base = "int" | "struct" ID
pub data BaseAt : Symbols → Base → Symbols → Type 0 where
  int : {l : Line} {rest : Symbols} → BaseAt (word Word.Int l ∷ rest) (Base.Int l) rest
  struct : {l k : Line} {n : ℕ} {rest : Symbols} → BaseAt (word Word.Struct l ∷ name n k ∷ rest) (Base.Struct l (record { line = k; name = n })) rest

-- { "*" }
pub data StarsAt : Symbols → ℕ → Symbols → Type 0 where
  no_star : {rest : Symbols} → StarsAt rest 0 rest
  star : {l : Line} {n : ℕ} {ts rest : Symbols} → StarsAt ts n rest → StarsAt (mark Mark.Star l ∷ ts) (suc n) rest

-- { "[" NUM "]" }
pub data LengthsAt : Symbols → List ℤ → Symbols → Type 0 where
  no_length : {rest : Symbols} → LengthsAt rest [] rest
  length : {l p q : Line} {k : ℤ} {ks : List ℤ} {ts rest : Symbols} → LengthsAt ts ks rest
      → LengthsAt (mark Mark.OpenBracket p ∷ number k l ∷ mark Mark.CloseBracket q ∷ ts) (k ∷ ks) rest

-- type name = base { "*" }
pub data TypeNameAt : Symbols → TypeName → Symbols → Type 0 where
  type_name : {b : Base} {n : ℕ} {ts m rest : Symbols} → BaseAt ts b m → StarsAt m n rest → TypeNameAt ts (record { base = b; stars = n }) rest

-- result = base { "*" } | "void"
pub data ResultAt : Symbols → ResultType → Symbols → Type 0 where
  value : {b : Base} {n : ℕ} {ts m rest : Symbols} → BaseAt ts b m → StarsAt m n rest → ResultAt ts (ResultType.Type b n) rest
  void : {l : Line} {rest : Symbols} → ResultAt (word Word.Void l ∷ rest) (ResultType.Void l) rest

-- declarator = { "*" } ID { "[" NUM "]" }
pub data DeclaratorAt : Symbols → Declarator → Symbols → Type 0 where
  declarator : {s : Symbol} {n k : ℕ} {l : Line} {ks : List ℤ} {ts m rest : Symbols}
      → StarsAt (s ∷ ts) n (name k l ∷ m) → LengthsAt m ks rest
      → DeclaratorAt (s ∷ ts) (record { line = s.line; stars = n; name = record { line = l; name = k }; lengths = ks }) rest

-- [ "[" [ NUM ] "]" ]
pub data BracketsAt : Symbols → Brackets → Symbols → Type 0 where
  absent : {rest : Symbols} → BracketsAt rest Brackets.Absent rest
  empty : {p q : Line} {rest : Symbols} → BracketsAt (mark Mark.OpenBracket p ∷ mark Mark.CloseBracket q ∷ rest) Brackets.Empty rest
  length : {l p q : Line} {k : ℤ} {rest : Symbols}
      → BracketsAt (mark Mark.OpenBracket p ∷ number k l ∷ mark Mark.CloseBracket q ∷ rest) (Brackets.Length k) rest

-- parameter = base { "*" } ID [ "[" [ NUM ] "]" ]
pub data ParamAt : Symbols → Param → Symbols → Type 0 where
  param : {b : Base} {n k : ℕ} {l : Line} {s : Brackets} {ts m o rest : Symbols}
      → BaseAt ts b m → StarsAt m n (name k l ∷ o) → BracketsAt o s rest
      → ParamAt ts (record { base = b; stars = n; name = record { line = l; name = k }; brackets = s }) rest

-- [ ID ]
pub data NameAt : Symbols → Option Ident → Symbols → Type 0 where
  unnamed : {rest : Symbols} → NameAt rest None rest
  named : {n : ℕ} {l : Line} {rest : Symbols} → NameAt (name n l ∷ rest) (Some (record { line = l; name = n })) rest

-- prototype parameter = base { "*" } [ ID ] [ "[" [ NUM ] "]" ]
pub data ProtoParamAt : Symbols → ProtoParam → Symbols → Type 0 where
  param : {b : Base} {n : ℕ} {i : Option Ident} {s : Brackets} {ts m o u rest : Symbols}
      → BaseAt ts b m → StarsAt m n o → NameAt o i u → BracketsAt u s rest
      → ProtoParamAt ts (record { base = b; stars = n; name = i; brackets = s }) rest

-- parameter { "," parameter }
pub data ParamsAt : Symbols → List Param → Symbols → Type 0 where
  last : {p : Param} {ts rest : Symbols} → ParamAt ts p rest → ParamsAt ts (p ∷ []) rest
  more : {l : Line} {p : Param} {ps : List Param} {ts m rest : Symbols} → ParamAt ts p (mark Mark.Comma l ∷ m) → ParamsAt m ps rest → ParamsAt ts (p ∷ ps) rest

-- prototype parameter { "," prototype parameter }
pub data ProtoParamsAt : Symbols → List ProtoParam → Symbols → Type 0 where
  last : {p : ProtoParam} {ts rest : Symbols} → ProtoParamAt ts p rest → ProtoParamsAt ts (p ∷ []) rest
  more : {l : Line} {p : ProtoParam} {ps : List ProtoParam} {ts m rest : Symbols}
      → ProtoParamAt ts p (mark Mark.Comma l ∷ m) → ProtoParamsAt m ps rest → ProtoParamsAt ts (p ∷ ps) rest

-- parameters = [ "void" | parameter { "," parameter } ]
pub data ParameterListAt : Symbols → Params → Symbols → Type 0 where
  empty : {rest : Symbols} → ParameterListAt rest Params.Empty rest
  void : {l : Line} {rest : Symbols} → ParameterListAt (word Word.Void l ∷ rest) (Params.Void l) rest
  list : {ps : List Param} {ts rest : Symbols} → ParamsAt ts ps rest → ParameterListAt ts (Params.List ps) rest

-- prototype parameters = [ "void" | prototype parameter { "," prototype parameter } ]
pub data ProtoListAt : Symbols → ProtoParams → Symbols → Type 0 where
  empty : {rest : Symbols} → ProtoListAt rest ProtoParams.Empty rest
  void : {l : Line} {rest : Symbols} → ProtoListAt (word Word.Void l ∷ rest) (ProtoParams.Void l) rest
  list : {ps : List ProtoParam} {ts rest : Symbols} → ProtoParamsAt ts ps rest → ProtoListAt ts (ProtoParams.List ps) rest
