-- A tree of the tokens of a source keeps what every tree keeps.
use Rattle.std.proofs.Common.{◌≡◌, ℕ, ℤ, pos, negsuc, ◌≤◌, ◌≤ℤ◌, List, [], ◌∷◌, length, refl, subst, length-append, arith}
use Rattle.std.specs.List.{All, AllByRecursion}
use Rattle.std.proofs.lemmas.List.Elements.{All-nil, All-cons, All-append}
use Rattle.c_lex.specs.declared.token.Kind.{Kind}
use Rattle.c_lex.specs.declared.token.Token.{Token}
use Rattle.c_lex.specs.IsLexed.{Lexed, IsLexed, IsNumbered, IsNotNegative}
use Rattle.c_lex.proofs.Rules.{one_number}
use Rattle.c_ast.specs.declared.decl.Declarator.{Declarator}
use Rattle.c_ast.specs.declared.program.Field.{Field}
use Rattle.c_ast.specs.declared.program.Item.{Item}
use Rattle.c_ast.specs.Leaves.{leaves_of}
use Rattle.c_ast.specs.Ast.{IsWritten, HasFields, IsBuilt}
use Rattle.parse_law.specs.Nesting.{May, Anywhere}
use Rattle.c_parse.specs.Symbol.{Symbol, Symbols, symbols_of}
use Rattle.c_parse.specs.Programs.{DeclaratorsAt, FieldAt, FieldsAt, ItemAt, ProgramAt}
use Rattle.c_parse.specs.Parsed.{IsProgram}
use Rattle.c_parse.proofs.Leaves.{leaf_of, leaves, program_leaves}
use Rattle.dfi_base.specs.Limits.{token_limit}

natural : (k : ℤ) → pos 0 ≤ℤ k → (n : ℕ) × (k ≡ pos n)
natural (pos n) h = (n, refl)
natural (negsuc n) h = absurd (omega arith)

leaf_written : (names : ℕ) (k : Kind) → IsNumbered names k → IsNotNegative k → All (IsWritten names) (leaf_of k)
leaf_written names (Kind.Word w) h g = All-nil (IsWritten names)
leaf_written names (Kind.Id n) h g = All-cons (IsWritten names) _ [] h (All-nil (IsWritten names))
leaf_written names (Kind.Num n) h g = All-cons (IsWritten names) _ [] (natural n g) (All-nil (IsWritten names))
leaf_written names (Kind.Mark m) h g = All-nil (IsWritten names)

written : (names : ℕ) (ts : List Token) → AllByRecursion (λ t. IsNumbered names t.kind) ts → AllByRecursion (λ t. IsNotNegative t.kind) ts
    → All (IsWritten names) (leaves (symbols_of ts))
written names [] h g = All-nil (IsWritten names)
written names (t ∷ ts) h g = All-append (IsWritten names) (leaf_of t.kind) (leaves (symbols_of ts)) (leaf_written names t.kind h.0 g.0) (written names ts h.1 g.1)

one_leaf : (k : Kind) → length (leaf_of k) ≤ 1
one_leaf (Kind.Word w) = omega arith
one_leaf (Kind.Id n) = omega arith
one_leaf (Kind.Num n) = omega arith
one_leaf (Kind.Mark m) = omega arith

few : (ts : List Token) → length (leaves (symbols_of ts)) ≤ length ts
few [] = omega arith
few (t ∷ ts) =
    let e = length-append (leaf_of t.kind) (leaves (symbols_of ts)) in
    let h = one_leaf t.kind in
    let g = few ts in
    omega arith

-- fields stand in every struct

some_declarator : {ts rest : Symbols} {ds : List Declarator} → DeclaratorsAt ts ds rest → 1 ≤ length ds
some_declarator (DeclaratorsAt.last d) = omega arith
some_declarator (DeclaratorsAt.more d ds) = omega arith

some_item : {ts rest : Symbols} {f : Field} → FieldAt ts f rest → 1 ≤ length f.items
some_item (FieldAt.field b ds) = some_declarator ds

some_field : {ts rest : Symbols} {fs : List Field} → FieldsAt ts fs rest → (1 ≤ length fs) × All (λ (f : Field). 1 ≤ length f.items) fs
some_field (FieldsAt.last {f} d) =
    (omega arith, All-cons (λ (f : Field). 1 ≤ length f.items) f [] (some_item d) (All-nil (λ (f : Field). 1 ≤ length f.items)))
some_field (FieldsAt.more {f} {others} d ds) =
    (omega arith, All-cons (λ (f : Field). 1 ≤ length f.items) f others (some_item d) (some_field ds).1)

has_fields : (may : May Symbol) {ts rest : Symbols} {i : Item} → ItemAt may ts i rest → HasFields i
has_fields may (ItemAt.struct d) = some_field d
has_fields may (ItemAt.decl d) = tt
has_fields may (ItemAt.function d e f) = tt
has_fields may (ItemAt.proto d e) = tt

fields : (may : May Symbol) {ts : Symbols} {items : List Item} → ProgramAt may ts items → All HasFields items
fields may ProgramAt.none = All-nil HasFields
fields may (ProgramAt.more {i} {others} d ds) = All-cons HasFields i others (has_fields may d) (fields may ds)

pub built : (l : Lexed) (items : List Item) → IsLexed l → IsProgram (symbols_of l.tokens) items → IsBuilt items l.names
built l items h d =
    let e : leaves (symbols_of l.tokens) ≡ leaves_of items = program_leaves Anywhere d.derived in
    record {
      names_differ = λ i j n f g. one_number l.names n i j h.differ f g;
      written = subst (All (IsWritten (length l.names))) e (written (length l.names) l.tokens h.numbered h.numbers);
      few = subst (λ w. length w ≤ token_limit) e (let g = few l.tokens in let k = h.few in omega arith);
      fields = fields Anywhere d.derived;
    }
