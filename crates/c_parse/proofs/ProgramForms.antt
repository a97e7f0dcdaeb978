-- The forms of programs, step by step.
use Rattle.std.proofs.Common.{◌≡◌, ℕ, ◌⊎◌, inl, inr, Bool, true, false, Option, Some, None, List, [], ◌∷◌, refl, sym, ap, subst, ◌∙◌}
use Rattle.std.specs.Option.{option_map}
use Rattle.dfi_base.specs.declared.numbers.Line.{Line}
use Rattle.c_lex.specs.declared.token.Word.{Word}
use Rattle.c_lex.specs.declared.token.Mark.{Mark}
use Rattle.c_lex.specs.declared.token.Kind.{Kind}
use Rattle.c_ast.specs.declared.ident.Ident.{Ident}
use Rattle.c_ast.specs.declared.decl.Base.{Base}
use Rattle.c_ast.specs.declared.decl.ResultType.{ResultType}
use Rattle.c_ast.specs.declared.decl.Declarator.{Declarator}
use Rattle.c_ast.specs.declared.decl.Decl.{Decl}
use Rattle.c_ast.specs.declared.decl.DeclItem.{DeclItem}
use Rattle.c_ast.specs.declared.decl.Param.{Param}
use Rattle.c_ast.specs.declared.decl.ProtoParam.{ProtoParam}
use Rattle.c_ast.specs.declared.decl.Params.{Params}
use Rattle.c_ast.specs.declared.decl.ProtoParams.{ProtoParams}
use Rattle.c_ast.specs.declared.stmt.Block.{Block}
use Rattle.c_ast.specs.declared.stmt.Stmt.{Stmt}
use Rattle.c_ast.specs.declared.program.Field.{Field}
use Rattle.c_ast.specs.declared.program.Item.{Item}
use Rattle.parse_law.specs.Nesting.{May}
use Rattle.parse_law.proofs.Forms.{Form}
use Rattle.parse_law.proofs.Bind.{Seq}
use Rattle.parse_law.proofs.Steps.{false_true, none_some, some_is}
use Rattle.c_parse.specs.declared.sorts.ItemStart.{ItemStart}
use Rattle.c_parse.specs.Symbol.{Symbol, Symbols, mark, name}
use Rattle.c_parse.specs.tools.Sorts.{is_base, item_start}
use Rattle.c_parse.specs.tools.Tokens.{next, kind_of, is_mark, goes}
use Rattle.c_parse.specs.Types.{BaseAt, int, struct, StarsAt, no_star, star, no_length, length as one_length, ResultAt, value, void, DeclaratorAt, declarator, NameAt, ParamAt, param, ProtoParamAt, ParamsAt, ProtoParamsAt, ParameterListAt, ProtoListAt}
use Rattle.c_parse.specs.Stmts.{DeclItemAt, plain, valued, BlockAt}
use Rattle.c_parse.specs.Programs.{DeclaratorsAt, last, more, FieldAt, field, FieldsAt, ItemAt}
use Rattle.c_parse.specs.tools.StmtParser.{is_open}
use Rattle.c_parse.specs.tools.ProgramParser as spec
use Rattle.c_parse.proofs.Parts.{Gives, gives, given, Void}
use Rattle.c_parse.proofs.TokenParts.{MarkAt, marked, WordAt, worded, IdentAt, named, AnyToken}
use Rattle.c_parse.proofs.Lists.{Others, Tail, no_tail, tail}
use Rattle.c_parse.proofs.TypeLaws.{Declared}
use Rattle.c_parse.proofs.Begins.{Begins, base_begins}
use Rattle.c_parse.proofs.DeclLaws.{ValuedAt, without, with_value, Valued, DeclRest, decl_join, decl_back, Declarators}
use Rattle.c_parse.proofs.StmtForms.{Blocks, first_token}

-- ---- a field of a struct

abbrev pub Fields : Form Symbol Field
Fields M ts f r = FieldAt ts f r

abbrev pub FieldSeq : Form Symbol Field
FieldSeq = Seq (λ M ts b r. BaseAt ts b r) (λ b. Seq Declarators (λ d. Seq (Others Declarators d) (λ items. Seq (MarkAt Mark.Semicolon) (λ q. Gives (record { base = b; items = items })))))

declarators_join : {M : May Symbol} {d : Declarator} {others : List Declarator} {ts m r : Symbols} → DeclaratorAt ts d m
    → Tail Declarators M m others r → DeclaratorsAt ts (d ∷ others) r
declarators_join d no_tail = last d
declarators_join d (tail e f) = more d (declarators_join e f)

declarators_split : (M : May Symbol) {ts : Symbols} {all : List Declarator} {r : Symbols} → DeclaratorsAt ts all r
    → Seq Declarators (Others Declarators) M ts all r
declarators_split M (last d) = (_, _, d, ([], no_tail, refl))
declarators_split M (more {d = a} d ds) = let (b, m, e, (others, f, g)) = declarators_split M ds in (a, _, d, (b ∷ others, tail e f, ap (λ z. a ∷ z) g))

pub field_to : (M : May Symbol) (ts : Symbols) (f : Field) (r : Symbols) → FieldSeq M ts f r → FieldAt ts f r
field_to M ts f r (b, m, e, (d, n, g, (items, o, (others, h, i), (q, u, marked, j)))) =
    given j (FieldAt ts) (field e (subst (λ z. DeclaratorsAt m z (mark Mark.Semicolon q ∷ u)) (sym i) (declarators_join h' h)))
  where
    h' : DeclaratorAt m d n
    h' = g

pub field_back : (M : May Symbol) (ts : Symbols) (f : Field) (r : Symbols) → FieldAt ts f r → FieldSeq M ts f r
field_back M ts f r (field {items = items} e ds) = let (d, n, g, h) = declarators_split M ds in (_, _, e, (d, n, g, (items, _, h, (_, r, marked, gives))))

field_begins : {ts : Symbols} {f : Field} {r : Symbols} → FieldAt ts f r → Begins is_base ts
field_begins (field e ds) = base_begins e

base_open : (k : Kind) → is_base (Some k) ≡ true → is_open (Some k) ≡ true
base_open (Kind.Word w) e = refl
base_open (Kind.Id n) e = refl
base_open (Kind.Num n) e = refl
base_open (Kind.Mark m) e = false_true e

pub fields_start : (M : May Symbol) (ts m : Symbols) (f : Field) → FieldAt ts f m
    → (t : Symbol) × (us : Symbols) × (ts ≡ t ∷ us) × (goes is_open t ≡ true) × ((b : Field) → AnyToken t)
fields_start M ts m f d = let (t, us, e, h) = first_token is_base refl ts (field_begins d) in (t, us, e, base_open t.kind h, λ b. tt)

-- the fields behind the first
pub data FieldTail (M : May Symbol) : Symbols → List Field → Symbols → Type 0 where
  no_field : {ts : Symbols} → FieldTail M ts [] ts
  next_field : {f : Field} {others : List Field} {ts m r : Symbols} → FieldAt ts f m → FieldTail M m others r → FieldTail M ts (f ∷ others) r

abbrev pub FieldTails : Form Symbol (List Field)
FieldTails M ts all r = FieldTail M ts all r

pub tails_split : (M : May Symbol) (ts r : Symbols) (all : List Field) → FieldTail M ts all r
    → ((all ≡ []) × (ts ≡ r)) ⊎ ((f : Field) × (others : List Field) × (m : Symbols) × (all ≡ f ∷ others) × FieldAt ts f m × FieldTail M m others r)
tails_split M ts r all no_field = inl (refl, refl)
tails_split M ts r all (next_field d ds) = inr (_, _, _, refl, d, ds)

abbrev pub MoreFields : Field → Form Symbol (List Field)
MoreFields f M ts all r = (others : List Field) × FieldTail M ts others r × (all ≡ f ∷ others)

fields_join : {M : May Symbol} {f : Field} {others : List Field} {ts m r : Symbols} → FieldAt ts f m → FieldTail M m others r → FieldsAt ts (f ∷ others) r
fields_join d no_field = FieldsAt.last d
fields_join d (next_field e ds) = FieldsAt.more d (fields_join e ds)

fields_split : (M : May Symbol) {ts : Symbols} {all : List Field} {r : Symbols} → FieldsAt ts all r → Seq Fields MoreFields M ts all r
fields_split M (FieldsAt.last d) = (_, _, d, ([], no_field, refl))
fields_split M (FieldsAt.more {f = a} d ds) = let (b, m, e, (others, g, h)) = fields_split M ds in (a, _, d, (b ∷ others, next_field e g, ap (λ z. a ∷ z) h))

-- behind the tag
pub data StructRest (M : May Symbol) (l : Line) (i : Ident) : Symbols → Item → Symbols → Type 0 where
  struct_end : {p q s : Line} {fields : List Field} {ts r : Symbols} → FieldsAt ts fields (mark Mark.CloseBrace q ∷ mark Mark.Semicolon s ∷ r)
      → StructRest M l i (mark Mark.OpenBrace p ∷ ts) (Item.Struct (record { line = l; tag = i; fields = fields })) r

abbrev pub StructRests : Line → Ident → Form Symbol Item
StructRests l i M ts x r = StructRest M l i ts x r

abbrev pub StructSeq : Line → Ident → Form Symbol Item
StructSeq l i = Seq (MarkAt Mark.OpenBrace) (λ p. Seq Fields (λ f. Seq (MoreFields f) (λ fields. Seq (MarkAt Mark.CloseBrace) (λ q. Seq (MarkAt Mark.Semicolon) (λ s. Gives (Item.Struct (record { line = l; tag = i; fields = fields })))))))

pub struct_to : (l : Line) (i : Ident) (M : May Symbol) (ts : Symbols) (x : Item) (r : Symbols) → StructSeq l i M ts x r → StructRest M l i ts x r
struct_to l i M ts x r (p, m, marked, (f, n, d, (fields, o, (others, e, g), (q, u, marked, (s, v, marked, h))))) =
    given h (StructRest M l i (mark Mark.OpenBrace p ∷ m)) (struct_end (subst (λ z. FieldsAt m z (mark Mark.CloseBrace q ∷ mark Mark.Semicolon s ∷ v)) (sym g) (fields_join d e)))

pub struct_back : (l : Line) (i : Ident) (M : May Symbol) (ts : Symbols) (x : Item) (r : Symbols) → StructRest M l i ts x r → StructSeq l i M ts x r
struct_back l i M ts x r (struct_end {fields = fields} d) = let (f, n, e, g) = fields_split M d in (_, _, marked, (f, n, e, (fields, _, g, (_, _, marked, (_, r, marked, gives)))))

-- ---- functions and prototypes

some_both : (o : Option Param) (others : Option (List Param)) (qs : List Param) → spec.both o others ≡ Some qs
    → (q : Param) × (rest : List Param) × (o ≡ Some q) × (others ≡ Some rest) × (qs ≡ q ∷ rest)
some_both None others qs e = none_some e
some_both (Some q) None qs e = none_some e
some_both (Some q) (Some rest) qs e = (q, rest, refl, refl, sym (some_is e))

param_named : {ts r : Symbols} {p : ProtoParam} {q : Param} → ProtoParamAt ts p r → spec.named p ≡ Some q → ParamAt ts q r
param_named {ts = ts} {r = r} (ProtoParamAt.param d e NameAt.named g) h = subst (λ z. ParamAt ts z r) (some_is h) (param d e g)
param_named (ProtoParamAt.param d e NameAt.unnamed g) h = none_some h

params_named : {ts r : Symbols} {ps : List ProtoParam} {qs : List Param} → ProtoParamsAt ts ps r → spec.all_named ps ≡ Some qs → ParamsAt ts qs r
params_named {ts = ts} {r = r} {qs = qs} (ProtoParamsAt.last {p = p} d) h =
    let (q, rest, e, f, g) = some_both (spec.named p) (Some []) qs h in
    subst (λ z. ParamsAt ts z r) (sym (g ∙ ap (λ z. q ∷ z) (sym (some_is f)))) (ParamsAt.last (param_named d e))
params_named {ts = ts} {r = r} {qs = qs} (ProtoParamsAt.more {p = p} {ps = ps} d ds) h =
    let (q, rest, e, f, g) = some_both (spec.named p) (spec.all_named ps) qs h in
    subst (λ z. ParamsAt ts z r) (sym g) (ParamsAt.more (param_named d e) (params_named ds f))

some_map : {A B : Type 0} (f : A → B) (o : Option A) (b : B) → option_map f o ≡ Some b → (a : A) × (o ≡ Some a) × (f a ≡ b)
some_map f None b e = none_some e
some_map f (Some a) b e = (a, refl, some_is e)

list_named : {ts r : Symbols} {ps : ProtoParams} {qs : Params} → ProtoListAt ts ps r → spec.named_params ps ≡ Some qs → ParameterListAt ts qs r
list_named {ts = ts} {r = r} ProtoListAt.empty h = subst (λ z. ParameterListAt ts z r) (some_is h) ParameterListAt.empty
list_named {ts = ts} {r = r} ProtoListAt.void h = subst (λ z. ParameterListAt ts z r) (some_is h) ParameterListAt.void
list_named {ts = ts} {r = r} {qs = qs} (ProtoListAt.list {ps = ps} d) h =
    let (rest, e, f) = some_map Params.List (spec.all_named ps) qs h in subst (λ z. ParameterListAt ts z r) f (ParameterListAt.list (params_named d e))

named_param : {ts r : Symbols} {q : Param} → ParamAt ts q r → (p : ProtoParam) × ProtoParamAt ts p r × (spec.named p ≡ Some q)
named_param (param d e g) = (_, ProtoParamAt.param d e NameAt.named g, refl)

pub named_params : {ts r : Symbols} {qs : List Param} → ParamsAt ts qs r → (ps : List ProtoParam) × ProtoParamsAt ts ps r × (spec.all_named ps ≡ Some qs)
named_params (ParamsAt.last d) = let (p, e, f) = named_param d in (p ∷ [], ProtoParamsAt.last e, ap (λ z. spec.both z (Some [])) f)
named_params (ParamsAt.more {p = q} d ds) =
    let (p, e, f) = named_param d in
    let (ps, g, h) = named_params ds in
    (p ∷ ps, ProtoParamsAt.more e g, ap (λ z. spec.both z (spec.all_named ps)) f ∙ ap (spec.both (Some q)) h)

named_list : {ts r : Symbols} {qs : Params} → ParameterListAt ts qs r → (ps : ProtoParams) × ProtoListAt ts ps r × (spec.named_params ps ≡ Some qs)
named_list ParameterListAt.empty = (ProtoParams.Empty, ProtoListAt.empty, refl)
named_list ParameterListAt.void = (_, ProtoListAt.void, refl)
named_list (ParameterListAt.list d) = let (ps, e, f) = named_params d in (ProtoParams.List ps, ProtoListAt.list e, ap (option_map Params.List) f)

-- behind the closing parenthesis
pub data SignatureEnd (M : May Symbol) (t : ResultType) (i : Ident) (ps : ProtoParams) : Symbols → Item → Symbols → Type 0 where
  with_body : {qs : Params} {b : Block Stmt} {ts r : Symbols} → spec.named_params ps ≡ Some qs → BlockAt M 0 ts b r
      → SignatureEnd M t i ps ts (Item.Function (record { result = t; name = i; params = qs; body = b })) r
  bodiless : {q : Line} {r : Symbols} → SignatureEnd M t i ps (mark Mark.Semicolon q ∷ r) (Item.Proto (record { result = t; name = i; params = ps })) r

abbrev pub SignatureEnds : ResultType → Ident → ProtoParams → Form Symbol Item
SignatureEnds t i ps M ts x r = SignatureEnd M t i ps ts x r

abbrev pub FunctionBy : ResultType → Ident → Option Params → Form Symbol Item
FunctionBy t i None = Void
FunctionBy t i (Some qs) = Seq (Blocks 0) (λ b. Gives (Item.Function (record { result = t; name = i; params = qs; body = b })))

abbrev pub SignatureBy : ResultType → Ident → ProtoParams → Bool → Form Symbol Item
SignatureBy t i ps true = FunctionBy t i (spec.named_params ps)
SignatureBy t i ps false = Seq (MarkAt Mark.Semicolon) (λ q. Gives (Item.Proto (record { result = t; name = i; params = ps })))

function_to : (t : ResultType) (i : Ident) (ps : ProtoParams) (o : Option Params) (M : May Symbol) (ts : Symbols) (x : Item) (r : Symbols)
    → spec.named_params ps ≡ o → FunctionBy t i o M ts x r → SignatureEnd M t i ps ts x r
function_to t i ps None M ts x r e d = absurd d
function_to t i ps (Some qs) M ts x r e (b, m, d, g) = given g (SignatureEnd M t i ps ts) (with_body e d)

pub signature_end_to : (t : ResultType) (i : Ident) (ps : ProtoParams) (b : Bool) (M : May Symbol) (ts : Symbols) (x : Item) (r : Symbols)
    → SignatureBy t i ps b M ts x r → SignatureEnd M t i ps ts x r
signature_end_to t i ps true M ts x r d = function_to t i ps (spec.named_params ps) M ts x r refl d
signature_end_to t i ps false M ts x r (q, m, marked, gives) = bodiless

pub block_first : {M : May Symbol} {c : ℕ} {ts : Symbols} {b : Block Stmt} {r : Symbols} → BlockAt M c ts b r → Begins (is_mark Mark.OpenBrace) ts
block_first (BlockAt.block may d) = refl

pub signature_end_back : (t : ResultType) (i : Ident) (ps : ProtoParams) (M : May Symbol) (ts : Symbols) (x : Item) (r : Symbols)
    → SignatureEnd M t i ps ts x r → SignatureBy t i ps (is_mark Mark.OpenBrace (kind_of (next ts))) M ts x r
signature_end_back t i ps M ts x r (with_body {qs = qs} {b = b} e d) =
    let f : Item = Item.Function (record { result = t; name = i; params = qs; body = b }) in
    subst (λ z. SignatureBy t i ps z M ts f r) (sym (block_first d)) (subst (λ z. FunctionBy t i z M ts f r) (sym e) (b, r, d, gives))
signature_end_back t i ps M ts x r bodiless = (_, r, marked, gives)

-- behind the name
pub data SignatureAt (M : May Symbol) (t : ResultType) (i : Ident) : Symbols → Item → Symbols → Type 0 where
  function_end : {p q : Line} {ps : Params} {b : Block Stmt} {ts m r : Symbols} → ParameterListAt ts ps (mark Mark.CloseParen q ∷ m) → BlockAt M 0 m b r
      → SignatureAt M t i (mark Mark.OpenParen p ∷ ts) (Item.Function (record { result = t; name = i; params = ps; body = b })) r
  proto_end : {p q s : Line} {ps : ProtoParams} {ts r : Symbols} → ProtoListAt ts ps (mark Mark.CloseParen q ∷ mark Mark.Semicolon s ∷ r)
      → SignatureAt M t i (mark Mark.OpenParen p ∷ ts) (Item.Proto (record { result = t; name = i; params = ps })) r

abbrev pub Signatures : ResultType → Ident → Form Symbol Item
Signatures t i M ts x r = SignatureAt M t i ts x r

abbrev pub ProtoLists : Form Symbol ProtoParams
ProtoLists M ts ps r = ProtoListAt ts ps r

abbrev pub SignatureSeq : ResultType → Ident → Form Symbol Item
SignatureSeq t i = Seq (MarkAt Mark.OpenParen) (λ p. Seq ProtoLists (λ ps. Seq (MarkAt Mark.CloseParen) (λ q. SignatureEnds t i ps)))

signature_join : {M : May Symbol} {t : ResultType} {i : Ident} {ps : ProtoParams} {p q : Line} {ts m : Symbols} {x : Item} {r : Symbols}
    → ProtoListAt ts ps (mark Mark.CloseParen q ∷ m) → SignatureEnd M t i ps m x r
    → SignatureAt M t i (mark Mark.OpenParen p ∷ ts) x r
signature_join d (with_body e f) = function_end (list_named d e) f
signature_join d bodiless = proto_end d

pub signature_to : (t : ResultType) (i : Ident) (M : May Symbol) (ts : Symbols) (x : Item) (r : Symbols) → SignatureSeq t i M ts x r → SignatureAt M t i ts x r
signature_to t i M ts x r (p, m, marked, (ps, n, d, (q, o, marked, e))) = signature_join d e

pub signature_back : (t : ResultType) (i : Ident) (M : May Symbol) (ts : Symbols) (x : Item) (r : Symbols) → SignatureAt M t i ts x r
    → SignatureSeq t i M ts x r
signature_back t i M ts x r (function_end d f) = let (ps, e, g) = named_list d in (_, _, marked, (ps, _, e, (_, _, marked, with_body g f)))
signature_back t i M ts x r (proto_end d) = (_, _, marked, (_, _, d, (_, _, marked, bodiless)))

-- ---- a declaration or a function, behind the first name

pub data GlobalEnd (M : May Symbol) (l : Line) (b : Base) (n : ℕ) (i : Ident) : Symbols → Item → Symbols → Type 0 where
  of_signature : {ts r : Symbols} {x : Item} → SignatureAt M (ResultType.Type b n) i ts x r → GlobalEnd M l b n i ts x r
  of_declared : {ts m o r : Symbols} {d : Declarator} {j : DeclItem} {x : Decl} → Declared l n i M ts d m → ValuedAt M 0 d m j o
      → DeclRest 0 b j M o x r → GlobalEnd M l b n i ts (Item.Decl x) r

abbrev pub GlobalEnds : Line → Base → ℕ → Ident → Form Symbol Item
GlobalEnds l b n i M ts x r = GlobalEnd M l b n i ts x r

abbrev pub GlobalBy : Line → Base → ℕ → Ident → Bool → Form Symbol Item
GlobalBy l b n i true = Signatures (ResultType.Type b n) i
GlobalBy l b n i false = Seq (Declared l n i) (λ d. Seq (Valued 0 d) (λ j. Seq (DeclRest 0 b j) (λ x. Gives (Item.Decl x))))

pub global_end_to : (l : Line) (b : Base) (n : ℕ) (i : Ident) (k : Bool) (M : May Symbol) (ts : Symbols) (x : Item) (r : Symbols)
    → GlobalBy l b n i k M ts x r → GlobalEnd M l b n i ts x r
global_end_to l b n i true M ts x r d = of_signature d
global_end_to l b n i false M ts x r (d, m, e, (j, o, f, (y, u, g, h))) = given h (GlobalEnd M l b n i ts) (of_declared e f g)

pub signature_first : {M : May Symbol} {t : ResultType} {i : Ident} {ts : Symbols} {x : Item} {r : Symbols} → SignatureAt M t i ts x r
    → is_mark Mark.OpenParen (kind_of (next ts)) ≡ true
signature_first (function_end d f) = refl
signature_first (proto_end d) = refl

rest_first : {M : May Symbol} {b : Base} {j : DeclItem} {ts : Symbols} {x : Decl} {r : Symbols} → DeclRest 0 b j M ts x r
    → is_mark Mark.OpenParen (kind_of (next ts)) ≡ false
rest_first (items, o, (others, no_tail, g), (q, u, marked, h)) = refl
rest_first (items, o, (others, tail e f, g), (q, u, m, h)) = refl

declared_first : {M : May Symbol} {l : Line} {b : Base} {n : ℕ} {i : Ident} {ts m o : Symbols} {d : Declarator} {j : DeclItem} {x : Decl} {r : Symbols}
    → Declared l n i M ts d m → ValuedAt M 0 d m j o → DeclRest 0 b j M o x r → is_mark Mark.OpenParen (kind_of (next ts)) ≡ false
declared_first (ks, u, one_length ds, g) f h = refl
declared_first (ks, u, no_length, gives) (with_value e) h = refl
declared_first {M = M} {b = b} (ks, u, no_length, gives) without h = rest_first {M = M} {b = b} h

pub global_end_back : (l : Line) (b : Base) (n : ℕ) (i : Ident) (M : May Symbol) (ts : Symbols) (x : Item) (r : Symbols) → GlobalEnd M l b n i ts x r
    → GlobalBy l b n i (is_mark Mark.OpenParen (kind_of (next ts))) M ts x r
global_end_back l b n i M ts x r (of_signature d) = subst (λ z. GlobalBy l b n i z M ts x r) (sym (signature_first d)) d
global_end_back l b n i M ts x r (of_declared {m = m} {o = o} {d = d} {j = j} {x = y} e f g) =
    subst (λ z. GlobalBy l b n i z M ts (Item.Decl y) r) (sym (declared_first {M = M} {l = l} {b = b} {n = n} {i = i} e f g)) (d, m, e, (j, o, f, (y, r, g, gives)))

-- behind the base, with the line of the first token
abbrev pub GlobalFrom : Base → Line → Form Symbol Item
GlobalFrom b l = Seq (λ M ts n r. StarsAt ts n r) (λ n. Seq IdentAt (λ i. GlobalEnds l b n i))

abbrev pub Globals : Base → Form Symbol Item
Globals b M ts x r = (t : Symbol) × (us : Symbols) × (ts ≡ t ∷ us) × GlobalFrom b t.line M ts x r

-- ---- an item

abbrev pub ItemForms : Form Symbol Item
ItemForms M ts x r = ItemAt M ts x r

item_declared : {M : May Symbol} {b : Base} {ts m us o r : Symbols} {t : Symbol} {n k : ℕ} {p : Line} {d : Declarator} {j : DeclItem} {x : Decl}
    → BaseAt ts b (t ∷ us) → StarsAt (t ∷ us) n (name k p ∷ m) → Declared t.line n (record { line = p; name = k }) M m d o → {q : Symbols}
    → ValuedAt M 0 d o j q → DeclRest 0 b j M q x r → ItemAt M ts (Item.Decl x) r
item_declared e s (ks, u, f, gives) without h = ItemAt.decl (decl_join e (plain (declarator s f)) h)
item_declared e s (ks, u, f, gives) (with_value g) h = ItemAt.decl (decl_join e (valued (declarator s f) g) h)

item_signed : {M : May Symbol} {t : ResultType} {ts m r : Symbols} {k : ℕ} {p : Line} {x : Item} → ResultAt ts t (name k p ∷ m)
    → SignatureAt M t (record { line = p; name = k }) m x r → ItemAt M ts x r
item_signed e (function_end d f) = ItemAt.function e d f
item_signed e (proto_end d) = ItemAt.proto e d

item_global_by : {M : May Symbol} {b : Base} {ts us r : Symbols} (t : Symbol) {x : Item} → BaseAt ts b (t ∷ us) → GlobalFrom b t.line M (t ∷ us) x r
    → ItemAt M ts x r
item_global_by t e (n, m, s, (i, o, named, of_signature d)) = item_signed (value e s) d
item_global_by t e (n, m, s, (i, o, named, of_declared d f g)) = item_declared e s d f g

item_global : {M : May Symbol} {b : Base} {ts us : Symbols} {x : Item} {r : Symbols} → BaseAt ts b us → Globals b M us x r → ItemAt M ts x r
item_global {M = M} {b = b} {ts = ts} {x = x} {r = r} e (t, vs, f, d) =
    item_global_by t (subst (λ z. BaseAt ts b z) f e) (subst (λ z. GlobalFrom b t.line M z x r) f d)

abbrev pub TaggedBy : Line → Ident → Bool → Form Symbol Item
TaggedBy l i true = StructRests l i
TaggedBy l i false = Globals (Base.Struct l i)

pub data TaggedAt (M : May Symbol) (l : Line) (i : Ident) : Symbols → Item → Symbols → Type 0 where
  tagged_struct : {ts r : Symbols} {x : Item} → StructRest M l i ts x r → TaggedAt M l i ts x r
  tagged_global : {ts r : Symbols} {x : Item} → Globals (Base.Struct l i) M ts x r → TaggedAt M l i ts x r

abbrev pub Taggeds : Line → Ident → Form Symbol Item
Taggeds l i M ts x r = TaggedAt M l i ts x r

pub tagged_to : (l : Line) (i : Ident) (b : Bool) (M : May Symbol) (ts : Symbols) (x : Item) (r : Symbols) → TaggedBy l i b M ts x r → TaggedAt M l i ts x r
tagged_to l i true M ts x r d = tagged_struct d
tagged_to l i false M ts x r d = tagged_global d

pub struct_first : {M : May Symbol} {l : Line} {i : Ident} {ts : Symbols} {x : Item} {r : Symbols} → StructRest M l i ts x r
    → is_mark Mark.OpenBrace (kind_of (next ts)) ≡ true
struct_first (struct_end d) = refl

global_first_by : {M : May Symbol} {b : Base} {l : Line} {ts : Symbols} {x : Item} {r : Symbols} → GlobalFrom b l M ts x r
    → is_mark Mark.OpenBrace (kind_of (next ts)) ≡ false
global_first_by (n, m, star s, d) = refl
global_first_by (n, m, no_star, (i, o, named, d)) = refl

pub tagged_back : (l : Line) (i : Ident) (M : May Symbol) (ts : Symbols) (x : Item) (r : Symbols) → TaggedAt M l i ts x r
    → TaggedBy l i (is_mark Mark.OpenBrace (kind_of (next ts))) M ts x r
tagged_back l i M ts x r (tagged_struct d) = subst (λ z. TaggedBy l i z M ts x r) (sym (struct_first d)) d
tagged_back l i M ts x r (tagged_global (t, us, e, d)) = subst (λ z. TaggedBy l i z M ts x r) (sym (global_first_by {M = M} {b = Base.Struct l i} {l = t.line} d)) (t, us, e, d)

abbrev pub ItemBy : ItemStart → Form Symbol Item
ItemBy ItemStart.Int = Seq (WordAt Word.Int) (λ l. Globals (Base.Int l))
ItemBy ItemStart.Struct = Seq (WordAt Word.Struct) (λ l. Seq IdentAt (λ i. Taggeds l i))
ItemBy ItemStart.Void = Seq (WordAt Word.Void) (λ l. Seq IdentAt (λ i. Signatures (ResultType.Void l) i))
ItemBy ItemStart.Other = Void

pub item_to : (k : ItemStart) (M : May Symbol) (ts : Symbols) (x : Item) (r : Symbols) → ItemBy k M ts x r → ItemAt M ts x r
item_to ItemStart.Int M ts x r (l, m, worded, d) = item_global int d
item_to ItemStart.Struct M ts x r (l, m, worded, (i, n, named, tagged_struct (struct_end d))) = ItemAt.struct d
item_to ItemStart.Struct M ts x r (l, m, worded, (i, n, named, tagged_global d)) = item_global struct d
item_to ItemStart.Void M ts x r (l, m, worded, (i, n, named, d)) = item_signed void d
item_to ItemStart.Other M ts x r d = absurd d

-- a global behind its base
based : {M : May Symbol} {b : Base} {ts us : Symbols} {x : Item} {r : Symbols} → BaseAt ts b us → Globals b M us x r
    → ItemBy (item_start (kind_of (next ts))) M ts x r
based int d = (_, _, worded, d)
based struct d = (_, _, worded, (_, _, named, tagged_global d))

declared_global : {M : May Symbol} {b : Base} {us : Symbols} {i : DeclItem} {n : Symbols} → DeclItemAt M 0 us i n → {x : Decl} {r : Symbols}
    → DeclRest 0 b i M n x r → Globals b M us (Item.Decl x) r
declared_global (plain (declarator s f)) h = (_, _, refl, (_, _, s, (_, _, named, of_declared (_, _, f, gives) without h)))
declared_global (valued (declarator s f) g) h = (_, _, refl, (_, _, s, (_, _, named, of_declared (_, _, f, gives) (with_value g) h)))

-- stars and a name have a first token
first_of_stars : {n k : ℕ} {p : Line} {ts m : Symbols} → StarsAt ts n (name k p ∷ m) → (t : Symbol) × (us : Symbols) × (ts ≡ t ∷ us)
first_of_stars no_star = (_, _, refl)
first_of_stars (star s) = (_, _, refl)

pub signed_global : {M : May Symbol} {b : Base} {n k : ℕ} {p : Line} {us m r : Symbols} {x : Item} → StarsAt us n (name k p ∷ m)
    → SignatureAt M (ResultType.Type b n) (record { line = p; name = k }) m x r → Globals b M us x r
signed_global s d = let (t, vs, e) = first_of_stars s in (t, vs, e, (_, _, s, (_, _, named, of_signature d)))

signed_back : {M : May Symbol} {t : ResultType} {ts m r : Symbols} {k : ℕ} {p : Line} {x : Item} → ResultAt ts t (name k p ∷ m)
    → SignatureAt M t (record { line = p; name = k }) m x r → ItemBy (item_start (kind_of (next ts))) M ts x r
signed_back (value e s) d = based e (signed_global s d)
signed_back void d = (_, _, worded, (_, _, named, d))

pub item_back : (M : May Symbol) (ts : Symbols) (x : Item) (r : Symbols) → ItemAt M ts x r → ItemBy (item_start (kind_of (next ts))) M ts x r
item_back M ts x r (ItemAt.struct d) = (_, _, worded, (_, _, named, tagged_struct (struct_end d)))
item_back M ts x r (ItemAt.decl {d = y} d) = let (b, m, e, (i, n, f, g)) = decl_back 0 M ts y r d in based e (declared_global f g)
item_back M ts x r (ItemAt.function e d f) = signed_back e (function_end d f)
item_back M ts x r (ItemAt.proto e d) = signed_back e (proto_end d)
