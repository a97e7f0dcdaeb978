-- One text for a tree, and one tree for a text.
use Rattle.std.proofs.Common.{◌≡◌, ℕ, List, map, sym, ap, subst, ◌∙◌}
use Rattle.c_lex.specs.declared.token.Token.{Token}
use Rattle.c_lex.specs.IsLexed.{Lexed, LexesTo}
use Rattle.c_lex.proofs.OneMeaning.{one_lexed}
use Rattle.c_ast.specs.declared.program.Item.{Item}
use Rattle.c_ast.specs.Ast.{Ast}
use Rattle.parse_law.specs.Nesting.{Anywhere}
use Rattle.c_parse.specs.Programs.{ProgramAt}
use Rattle.c_parse.proofs.OneTree.{programs_one_tree}
use Rattle.c_print.specs.IsTreeOf.{IsTreeOf}
use Rattle.c_print.specs.SameTree.{SameTree, first, on_one_line}
use Rattle.c_print.specs.Text.{spaced, text_of}
use Rattle.c_print.specs.TreeTokens.{Kinds, tokens_of}
use Rattle.c_print.proofs.Joining.{on_line}
use Rattle.c_print.proofs.SpacedTokens.{kinds as laid_kinds}
use Rattle.c_print.proofs.ProgramReads.{read_program}
use Rattle.c_print.proofs.SameStmts.{same_tokens}
use Rattle.c_print.proofs.WholeText.{lexed_of, text_lexes}

pub tokens_same : (a b : Ast) → SameTree a b → tokens_of a.items ≡ tokens_of b.items
tokens_same a b s = sym (same_tokens a.items) ∙ ap (λ (c : Ast). tokens_of c.items) s ∙ same_tokens b.items

pub prints_the_same : (a b : Ast) → SameTree a b → text_of a ≡ text_of b
prints_the_same a b s =
    ap (spaced a.names) (tokens_same a b s) ∙ ap (λ (c : Ast). spaced c.names (tokens_of b.items)) s

pub tells_apart : (bytes others : List ℕ) (a b : Ast) → IsTreeOf bytes a → IsTreeOf others b → text_of a ≡ text_of b → SameTree a b
tells_apart bytes others a b t u e =
    let same : lexed_of a ≡ lexed_of b =
    one_lexed (text_of a) (lexed_of a) (lexed_of b) (text_lexes bytes a t) (subst (λ (xs : List ℕ). LexesTo xs (lexed_of b)) (sym e) (text_lexes others b u)) in
    let tokens : tokens_of a.items ≡ tokens_of b.items =
    sym (laid_kinds a.names (tokens_of a.items)) ∙ ap (λ (l : Lexed). map (λ (k : Token). k.kind) l.tokens) same ∙ laid_kinds b.names (tokens_of b.items) in
    let items : on_one_line a.items ≡ on_one_line b.items =
    programs_one_tree (on_line (tokens_of b.items)) (on_one_line a.items) (on_one_line b.items)
    (subst (λ (ks : Kinds). ProgramAt Anywhere (on_line ks) (on_one_line a.items)) tokens (read_program t.derived)) (read_program u.derived) in
    ap (λ (is : List Item). tree a.names is) items ∙ ap (λ (l : Lexed). tree l.names (on_one_line b.items)) same
  where
    tree : List (List ℕ) → List Item → Ast
    tree names is = record { items = is; names = names; last = first }
