-- Each source of a tree has the tokens of its text.
use Rattle.std.proofs.Common.{◌≡◌, ℕ, List, [], ◌∷◌, map, refl, sym, ap, subst, ◌∙◌}
use Rattle.c_lex.specs.declared.token.Token.{Token}
use Rattle.c_lex.specs.IsLexed.{Lexed, LexesTo}
use Rattle.c_lex.proofs.OneMeaning.{one_lexed}
use Rattle.c_ast.specs.Ast.{Ast}
use Rattle.c_parse.specs.Symbol.{Symbol, Symbols, symbols_of}
use Rattle.c_print.specs.IsTreeOf.{IsTreeOf}
use Rattle.c_print.specs.NoSpareParens.{WithoutSome, none, kept, opening, closing}
use Rattle.c_print.specs.SameTree.{SameTree}
use Rattle.c_print.specs.TreeTokens.{Kinds, tokens_of}
use Rattle.c_print.proofs.OneText.{tokens_same}
use Rattle.c_print.proofs.FewerParens.{Thin, same, keep, lost, opens, closes}
use Rattle.c_print.proofs.FewerParensStmt.{program_thin}

without : {ts : Symbols} {ks : Kinds} → Thin ts ks [] → WithoutSome (map (λ (s : Symbol). s.kind) ts) ks
without same = none
without (keep d) = kept (without d)
without (lost opens d) = opening (without d)
without (lost closes d) = closing (without d)

kinds_of : (ts : List Token) → map (λ (s : Symbol). s.kind) (symbols_of ts) ≡ map (λ (t : Token). t.kind) ts
kinds_of [] = refl
kinds_of (t ∷ ts) = ap (λ (ks : Kinds). t.kind ∷ ks) (kinds_of ts)

pub no_spare : (bytes : List ℕ) (l : Lexed) (a b : Ast) → LexesTo bytes l → IsTreeOf bytes b → SameTree a b
    → WithoutSome (map (λ (t : Token). t.kind) l.tokens) (tokens_of a.items)
no_spare bytes l a b x t s =
    let tokens = ap (λ (m : Lexed). map (λ (k : Token). k.kind) m.tokens) (one_lexed bytes t.lexed l t.lexes x) in
    subst (WithoutSome (map (λ (k : Token). k.kind) l.tokens)) (sym (tokens_same a b s))
    (subst (λ (ks : Kinds). WithoutSome ks (tokens_of b.items)) (kinds_of t.lexed.tokens ∙ tokens) (without (program_thin t.derived)))
