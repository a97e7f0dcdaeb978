-- What the text of a tree reads back to. Each law is of every tree that some source has; what `parse` gives is one.
use Rattle.std.specs.Prelude.{◌≡◌, ℕ, List, map, Result, Ok, Err}
use Rattle.dfi_base.specs.Limits.{nesting_limit}
use Rattle.c_lex.specs.declared.fault.LexFault.{LexFault}
use Rattle.c_lex.specs.declared.token.Token.{Token}
use Rattle.c_lex.specs.FirstFault.{GivesMeaning}
use Rattle.c_lex.specs.IsLexed.{Lexed, LexesTo}
use Rattle.c_ast.specs.declared.program.Item.{Item}
use Rattle.c_ast.specs.Ast.{Ast}
use Rattle.parse_law.specs.Nesting.{Within}
use Rattle.c_parse.specs.declared.fault.ParseFault.{ParseFault}
use Rattle.c_parse.specs.Symbol.{Symbols, symbols_of}
use Rattle.c_parse.specs.Programs.{ProgramAt}
use Rattle.c_parse.specs.Parsed.{Says}
use Rattle.c_print.specs.IsTreeOf.{IsTreeOf}
use Rattle.c_print.specs.TreeTokens.{tokens_of}
use Rattle.c_print.specs.SameTree.{SameTree, on_first_line, on_one_line}
use Rattle.c_print.specs.Text.{text_of}

-- What `parse` gives of the tokens of a source is the tree of that source.
abbrev pub ParseGivesTrees : Type 0
ParseGivesTrees = (bytes : List ℕ) (l : Lexed) (a : Ast) → LexesTo bytes l → Says l (Ok a) → IsTreeOf bytes a

-- The text is a source of the same tree, all of it on line 1.
abbrev pub ReadsBack : Type 0
ReadsBack = (bytes : List ℕ) (a : Ast) → IsTreeOf bytes a → IsTreeOf (text_of a) (on_first_line a) × SameTree a (on_first_line a)

-- ---- what `lex` answers on the text

-- The tokens of the tree with its names: no token is joined with its neighbour by the longest match, and there is no fault.
abbrev pub LexesBack : Ast → Result Lexed LexFault → Type 0
LexesBack a (Ok l) = (map (λ (t : Token). t.kind) l.tokens ≡ tokens_of a.items) × (l.names ≡ a.names)
LexesBack a (Err fault) = fault ≡ LexFault.Memory

abbrev pub KeepsTokens : Type 0
KeepsTokens = (bytes : List ℕ) (a : Ast) → IsTreeOf bytes a → (answer : Result Lexed LexFault) → GivesMeaning (text_of a) answer → LexesBack a answer

-- ---- what `parse` answers on the tokens of the text

-- None of these tokens is nested too deep for these items: the counter of their derivation rises from below the limit alone.
abbrev pub IsShallow : Symbols → List Item → Type 0
IsShallow ts items = ProgramAt (Within nesting_limit 0) ts items

-- The same tree where no token is nested too deep, else that one is. No token is unexpected. Want of memory is free.
abbrev pub ParsesBack : Ast → Symbols → Result Ast ParseFault → Type 0
ParsesBack a ts (Ok b) = SameTree a b × IsShallow ts (on_one_line a.items)
ParsesBack a ts (Err (ParseFault.Unexpected token line)) = ⊥
ParsesBack a ts (Err (ParseFault.Deep line)) = IsShallow ts (on_one_line a.items) → ⊥
ParsesBack a ts (Err ParseFault.Memory) = Unit {0}

abbrev pub KeepsTree : Type 0
KeepsTree =
    (bytes : List ℕ) (a : Ast) → IsTreeOf bytes a → (l : Lexed) → LexesTo (text_of a) l → (answer : Result Ast ParseFault) → Says l answer
    → ParsesBack a (symbols_of l.tokens) answer
