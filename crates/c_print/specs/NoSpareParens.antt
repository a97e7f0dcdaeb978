-- Parentheses stand only where the grammar needs them.
use Rattle.std.specs.Prelude.{ℕ, List, [], ◌∷◌, map}
use Rattle.c_lex.specs.declared.token.Kind.{Kind}
use Rattle.c_lex.specs.declared.token.Mark.{Mark}
use Rattle.c_lex.specs.declared.token.Token.{Token}
use Rattle.c_lex.specs.IsLexed.{Lexed, LexesTo}
use Rattle.c_ast.specs.Ast.{Ast}
use Rattle.c_print.specs.IsTreeOf.{IsTreeOf}
use Rattle.c_print.specs.SameTree.{SameTree}
use Rattle.c_print.specs.TreeTokens.{Kinds, mark, tokens_of}

-- the second are the first without some parentheses
pub data WithoutSome : Kinds → Kinds → Type 0 where
  none : WithoutSome [] []
  kept : {k : Kind} {ks ls : Kinds} → WithoutSome ks ls → WithoutSome (k ∷ ks) (k ∷ ls)
  opening : {ks ls : Kinds} → WithoutSome ks ls → WithoutSome (mark Mark.OpenParen ∷ ks) ls
  closing : {ks ls : Kinds} → WithoutSome ks ls → WithoutSome (mark Mark.CloseParen ∷ ks) ls

-- Whatever source the tree has, its text has the tokens of that source without some parentheses. So no source of the tree has fewer.
abbrev pub NoSpareParens : Type 0
NoSpareParens =
    (bytes : List ℕ) (l : Lexed) (a b : Ast) → LexesTo bytes l → IsTreeOf bytes b → SameTree a b
    → WithoutSome (map (λ (t : Token). t.kind) l.tokens) (tokens_of a.items)
