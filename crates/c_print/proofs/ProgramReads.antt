-- The tokens of a program are derived as it, on one line.
use Rattle.std.proofs.Common.{◌≡◌, List, [], ◌∷◌, ◌++◌, map, ap, ◌∙◌, append_assoc}
use Rattle.std.specs.List.{flat_map}
use Rattle.c_lex.specs.declared.token.Word.{Word}
use Rattle.c_lex.specs.declared.token.Mark.{Mark}
use Rattle.c_ast.specs.declared.ident.Ident.{Ident}
use Rattle.c_ast.specs.declared.decl.Base.{Base}
use Rattle.c_ast.specs.declared.decl.Declarator.{Declarator}
use Rattle.c_ast.specs.declared.decl.Param.{Param}
use Rattle.c_ast.specs.declared.decl.ProtoParam.{ProtoParam}
use Rattle.c_ast.specs.declared.decl.Params.{Params}
use Rattle.c_ast.specs.declared.decl.ProtoParams.{ProtoParams}
use Rattle.c_ast.specs.declared.program.Field.{Field}
use Rattle.c_ast.specs.declared.program.Item.{Item}
use Rattle.parse_law.specs.Nesting.{May, Anywhere}
use Rattle.c_parse.specs.Symbol.{Symbol, Symbols}
use Rattle.c_parse.specs.Types as t
use Rattle.c_parse.specs.Programs as p
use Rattle.c_print.specs.SameTree as one
use Rattle.c_print.proofs.Joining.{on_line}
use Rattle.c_print.specs.TreeTokens.{Kinds, ended, in_braces, in_parens, mark, name, of_base, of_block, of_declarator, of_field, of_item, of_param, of_params, of_proto_param, of_proto_params, of_result, tokens_of, with_commas, word}
use Rattle.c_print.proofs.TypeReads.{at, base, declarator, param, proto_param, result}
use Rattle.c_print.proofs.FormReads.{more_commas, one_comma}
use Rattle.c_print.proofs.SimpleReads.{ended_append, read_decl}
use Rattle.c_print.proofs.StmtReads.{read_block}

-- ---- parameters

read_params : (x : Param) (xs : List Param) (rest : Kinds) → t.ParamsAt (on_line (with_commas of_param (x ∷ xs) ++ rest)) (one.param x ∷ map one.param xs) (on_line rest)
read_params x [] rest = at (λ ts. t.ParamsAt ts (one.param x ∷ []) (on_line rest)) (one_comma of_param x rest) (t.last (param x rest))
read_params x (y ∷ ys) rest =
    at (λ ts. t.ParamsAt ts (one.param x ∷ one.param y ∷ map one.param ys) (on_line rest)) (more_commas of_param x y ys rest)
    (t.more (param x (mark Mark.Comma ∷ (with_commas of_param (y ∷ ys) ++ rest))) (read_params y ys rest))

read_list : {ts us : Symbols} {ps : Params} → t.ParameterListAt ts ps us → (rest : Kinds) → t.ParameterListAt (on_line (of_params ps ++ rest)) (one.params ps) (on_line rest)
read_list t.empty rest = t.empty
read_list t.void rest = t.void
read_list (t.list (t.last {p = x} d)) rest = t.list (read_params x [] rest)
read_list (t.list (t.more {p = x} {ps = xs} d ds)) rest = t.list (read_params x xs rest)

read_proto_params : (x : ProtoParam) (xs : List ProtoParam) (rest : Kinds)
    → t.ProtoParamsAt (on_line (with_commas of_proto_param (x ∷ xs) ++ rest)) (one.proto_param x ∷ map one.proto_param xs) (on_line rest)
read_proto_params x [] rest = at (λ ts. t.ProtoParamsAt ts (one.proto_param x ∷ []) (on_line rest)) (one_comma of_proto_param x rest) (t.last (proto_param x rest))
read_proto_params x (y ∷ ys) rest =
    at (λ ts. t.ProtoParamsAt ts (one.proto_param x ∷ one.proto_param y ∷ map one.proto_param ys) (on_line rest)) (more_commas of_proto_param x y ys rest)
    (t.more (proto_param x (mark Mark.Comma ∷ (with_commas of_proto_param (y ∷ ys) ++ rest))) (read_proto_params y ys rest))

read_proto_list : {ts us : Symbols} {ps : ProtoParams} → t.ProtoListAt ts ps us → (rest : Kinds)
    → t.ProtoListAt (on_line (of_proto_params ps ++ rest)) (one.proto_params ps) (on_line rest)
read_proto_list t.empty rest = t.empty
read_proto_list t.void rest = t.void
read_proto_list (t.list (t.last {p = x} d)) rest = t.list (read_proto_params x [] rest)
read_proto_list (t.list (t.more {p = x} {ps = xs} d ds)) rest = t.list (read_proto_params x xs rest)

-- ---- fields

read_declarators : (x : Declarator) (xs : List Declarator) (rest : Kinds)
    → p.DeclaratorsAt (on_line (with_commas of_declarator (x ∷ xs) ++ rest)) (one.declarator x ∷ map one.declarator xs) (on_line rest)
read_declarators x [] rest = at (λ ts. p.DeclaratorsAt ts (one.declarator x ∷ []) (on_line rest)) (one_comma of_declarator x rest) (p.last (declarator x rest))
read_declarators x (y ∷ ys) rest =
    at (λ ts. p.DeclaratorsAt ts (one.declarator x ∷ one.declarator y ∷ map one.declarator ys) (on_line rest)) (more_commas of_declarator x y ys rest)
    (p.more (declarator x (mark Mark.Comma ∷ (with_commas of_declarator (y ∷ ys) ++ rest))) (read_declarators y ys rest))

field_from : (b : Base) (x : Declarator) (xs : List Declarator) (rest : Kinds)
    → p.FieldAt (on_line ((of_base b ++ ended (with_commas of_declarator (x ∷ xs))) ++ rest)) (record { base = one.base b; items = one.declarator x ∷ map one.declarator xs }) (on_line rest)
field_from b x xs rest =
    at (λ ts. p.FieldAt ts (record { base = one.base b; items = one.declarator x ∷ map one.declarator xs }) (on_line rest))
    (append_assoc (of_base b) (ended (with_commas of_declarator (x ∷ xs))) rest ∙ ap (λ ks. of_base b ++ ks) (ended_append (with_commas of_declarator (x ∷ xs)) rest))
    (p.field (base b (with_commas of_declarator (x ∷ xs) ++ mark Mark.Semicolon ∷ rest)) (read_declarators x xs (mark Mark.Semicolon ∷ rest)))

read_field : {ts us : Symbols} {f : Field} → p.FieldAt ts f us → (rest : Kinds) → p.FieldAt (on_line (of_field f ++ rest)) (one.field f) (on_line rest)
read_field (p.field {b = b} d (p.last {d = x} e)) rest = field_from b x [] rest
read_field (p.field {b = b} d (p.more {d = x} {others = xs} e es)) rest = field_from b x xs rest

read_fields : {ts us : Symbols} {fs : List Field} → p.FieldsAt ts fs us → (rest : Kinds) → p.FieldsAt (on_line (flat_map of_field fs ++ rest)) (map one.field fs) (on_line rest)
read_fields (p.last {f = f} d) rest =
    at (λ ts. p.FieldsAt ts (one.field f ∷ []) (on_line rest)) (append_assoc (of_field f) [] rest) (p.last (read_field d rest))
read_fields (p.more {f = f} {others = fs} d ds) rest =
    at (λ ts. p.FieldsAt ts (one.field f ∷ map one.field fs) (on_line rest)) (append_assoc (of_field f) (flat_map of_field fs) rest)
    (p.more (read_field d (flat_map of_field fs ++ rest)) (read_fields ds rest))

-- ---- items

struct_append : (inside rest : Kinds)
    → ended (in_braces inside) ++ rest ≡ mark Mark.OpenBrace ∷ (inside ++ mark Mark.CloseBrace ∷ mark Mark.Semicolon ∷ rest)
struct_append inside rest = simp append_assoc

function_append : (r inside body rest : Kinds) (i : Ident)
    → ((r ++ name i ∷ in_parens inside) ++ body) ++ rest ≡ r ++ name i ∷ mark Mark.OpenParen ∷ (inside ++ mark Mark.CloseParen ∷ (body ++ rest))
function_append r inside body rest i = simp append_assoc

proto_append : (r inside rest : Kinds) (i : Ident)
    → (r ++ name i ∷ ended (in_parens inside)) ++ rest ≡ r ++ name i ∷ mark Mark.OpenParen ∷ (inside ++ mark Mark.CloseParen ∷ mark Mark.Semicolon ∷ rest)
proto_append r inside rest i = simp append_assoc

read_item : {may : May Symbol} {ts us : Symbols} {i : Item} → p.ItemAt may ts i us → (rest : Kinds) → p.ItemAt Anywhere (on_line (of_item i ++ rest)) (one.item i) (on_line rest)
read_item (p.struct {k = k} {n = n} {fields = fs} d) rest =
    at (λ ts. p.ItemAt Anywhere ts (Item.Struct (record { line = one.first; tag = record { line = one.first; name = n }; fields = map one.field fs })) (on_line rest))
    (ap (λ ks. word Word.Struct ∷ name (record { line = k; name = n }) ∷ ks) (struct_append (flat_map of_field fs) rest))
    (p.struct (read_fields d (mark Mark.CloseBrace ∷ mark Mark.Semicolon ∷ rest)))
read_item (p.decl d) rest = p.decl (read_decl d 0 rest)
read_item (p.function {k = k} {n = n} {t = r} {ps = ps} {b = b} d e f) rest =
    at (λ ts. p.ItemAt Anywhere ts
    (Item.Function (record { result = one.result_type r; name = record { line = one.first; name = n }; params = one.params ps; body = one.block b })) (on_line rest))
    (function_append (of_result r) (of_params ps) (of_block b) rest (record { line = k; name = n }))
    (p.function (result r (name (record { line = k; name = n }) ∷ mark Mark.OpenParen ∷ (of_params ps ++ mark Mark.CloseParen ∷ (of_block b ++ rest))))
    (read_list e (mark Mark.CloseParen ∷ (of_block b ++ rest))) (read_block f 0 rest))
read_item (p.proto {k = k} {n = n} {t = r} {ps = ps} d e) rest =
    at (λ ts. p.ItemAt Anywhere ts (Item.Proto (record { result = one.result_type r; name = record { line = one.first; name = n }; params = one.proto_params ps })) (on_line rest))
    (proto_append (of_result r) (of_proto_params ps) rest (record { line = k; name = n }))
    (p.proto (result r (name (record { line = k; name = n }) ∷ mark Mark.OpenParen ∷ (of_proto_params ps ++ mark Mark.CloseParen ∷ mark Mark.Semicolon ∷ rest)))
    (read_proto_list e (mark Mark.CloseParen ∷ mark Mark.Semicolon ∷ rest)))

-- The tokens of a program that some tokens are, are derived as it.
pub read_program : {may : May Symbol} {ts : Symbols} {is : List Item} → p.ProgramAt may ts is → p.ProgramAt Anywhere (on_line (tokens_of is)) (one.on_one_line is)
read_program p.none = p.none
read_program (p.more {i = i} {others = is} d ds) = p.more (read_item d (tokens_of is)) (read_program ds)
