-- A printed text reads back.
use Rattle.std.proofs.Common.{◌≡◌, ℕ, suc, ◌<◌, ◌≤◌, ◌⊎◌, inl, inr, List, length, map, drop, refl, sym, ap, subst, ◌∙◌, arith}
use Rattle.std.specs.Prelude.{Result, Ok, Err}
use Rattle.std.proofs.lemmas.Bool.{cases_lt}
use Rattle.std.proofs.lemmas.List.{take-append-drop}
use Rattle.c_lex.specs.declared.fault.LexFault.{LexFault}
use Rattle.c_lex.specs.declared.token.Token.{Token}
use Rattle.c_lex.specs.FirstFault.{GivesMeaning}
use Rattle.c_lex.specs.IsLexed.{Lexed, LexesTo}
use Rattle.c_lex.proofs.OneMeaning.{one_lexed}
use Rattle.c_ast.specs.declared.program.Item.{Item}
use Rattle.c_ast.specs.Ast.{Ast}
use Rattle.parse_law.specs.Nesting.{Anywhere, Within}
use Rattle.c_parse.specs.declared.fault.ParseFault.{ParseFault}
use Rattle.c_parse.specs.Symbol.{Symbols, symbols_of}
use Rattle.c_parse.specs.Programs.{ProgramAt}
use Rattle.c_parse.specs.Parsed.{IsDeep, IsUnexpected, Says}
use Rattle.c_parse.proofs.OneTree.{programs_one_tree}
use Rattle.c_print.specs.IsTreeOf.{IsTreeOf}
use Rattle.c_print.specs.ReadsBack.{IsShallow, LexesBack, ParsesBack}
use Rattle.c_print.specs.SameTree.{SameTree, first, on_first_line, on_one_line}
use Rattle.c_print.specs.Text.{text_of}
use Rattle.c_print.specs.TreeTokens.{Kinds, tokens_of}
use Rattle.c_print.proofs.Joining.{on_line}
use Rattle.c_print.proofs.SpacedTokens.{symbols as laid_symbols, kinds as laid_kinds}
use Rattle.c_print.proofs.ProgramReads.{read_program}
use Rattle.c_print.proofs.SameStmts.{same_tokens}
use Rattle.c_print.proofs.WholeText.{lexed_of, text_lexes}
use Rattle.dfi_base.specs.Limits.{nesting_limit}

-- with the last line set to one
abbrev tree : List (List ℕ) → List Item → Ast
tree names items = record { items = items; names = names; last = first }

pub parse_gives : (bytes : List ℕ) (l : Lexed) (a : Ast) → LexesTo bytes l → Says l (Ok a) → IsTreeOf bytes a
parse_gives bytes l a x (p, names, last) = record { lexed = l; lexes = x; derived = p.derived; names = names; last = last }

-- ---- tokens with a tree are not unexpected, nor too deep where the tree is shallow

going_on : (ts : Symbols) (k : ℕ) (items : List Item) → ProgramAt Anywhere ts items → IsUnexpected ts k → ⊥
going_on ts k items d u = by (cases_lt k (length ts))
  where
    by : (k < length ts) ⊎ (length ts ≤ k) → ⊥
    by (inl h) = u.token h (drop (suc k) ts, items, subst (λ (us : Symbols). ProgramAt Anywhere us items) (sym (take-append-drop (suc k) ts)) d)
    by (inr h) = u.end h items d

not_deep : (ts : Symbols) (k : ℕ) (items : List Item) → ProgramAt Anywhere ts items → IsShallow ts items → IsDeep ts k → ⊥
not_deep ts k items d s deep =
    let whole = take-append-drop (suc k) ts in
    deep.each (
      drop (suc k) ts,
      items,
      0,
      omega arith,
      subst (λ (us : Symbols). ProgramAt Anywhere us items) (sym whole) d,
      subst (λ (us : Symbols). ProgramAt (Within nesting_limit 0) us items) (sym whole) s,
    )

module _ (bytes : List ℕ) (a : Ast) (t : IsTreeOf bytes a) where
  derived_again : ProgramAt Anywhere (on_line (tokens_of a.items)) (on_one_line a.items)
  derived_again = read_program t.derived

  one_line : on_one_line a.items ≡ on_one_line (on_one_line a.items)
  one_line =
      programs_one_tree (on_line (tokens_of a.items)) (on_one_line a.items) (on_one_line (on_one_line a.items)) derived_again
      (subst (λ (ks : Kinds). ProgramAt Anywhere (on_line ks) (on_one_line (on_one_line a.items))) (same_tokens a.items) (read_program derived_again))

  pub text_derives : ProgramAt Anywhere (symbols_of (lexed_of a).tokens) (on_one_line a.items)
  text_derives = subst (λ (ts : Symbols). ProgramAt Anywhere ts (on_one_line a.items)) (sym (laid_symbols a.names (tokens_of a.items))) derived_again

  pub read_back : IsTreeOf (text_of a) (on_first_line a) × SameTree a (on_first_line a)
  read_back = (
    record { lexed = lexed_of a; lexes = text_lexes bytes a t; derived = text_derives; names = refl; last = refl },
    ap (tree a.names) one_line,
  )

  -- ---- the answers of the lexer and of the parser

  abbrev kinds_of : Lexed → Kinds
  kinds_of l = map (λ (k : Token). k.kind) l.tokens

  pub lexes_back : (answer : Result Lexed LexFault) → GivesMeaning (text_of a) answer → LexesBack a answer
  lexes_back (Ok l) g =
      let told : Ok (lexed_of a) ≡ Ok l = g (Ok (lexed_of a)) (text_lexes bytes a t) in
      let same : l ≡ lexed_of a = cc in
      (ap kinds_of same ∙ laid_kinds a.names (tokens_of a.items), ap (λ (m : Lexed). m.names) same)
  lexes_back (Err (LexFault.BadByte at)) g = absurd (let e = g (Ok (lexed_of a)) (text_lexes bytes a t) in cc)
  lexes_back (Err (LexFault.BadNumber at)) g = absurd (let e = g (Ok (lexed_of a)) (text_lexes bytes a t) in cc)
  lexes_back (Err (LexFault.BigNumber at)) g = absurd (let e = g (Ok (lexed_of a)) (text_lexes bytes a t) in cc)
  lexes_back (Err (LexFault.OpenComment at)) g = absurd (let e = g (Ok (lexed_of a)) (text_lexes bytes a t) in cc)
  lexes_back (Err (LexFault.TooMany at)) g = absurd (let e = g (Ok (lexed_of a)) (text_lexes bytes a t) in cc)
  lexes_back (Err LexFault.Memory) g = refl

  module _ (l : Lexed) (x : LexesTo (text_of a) l) where
    same_lexed : l ≡ lexed_of a
    same_lexed = one_lexed (text_of a) l (lexed_of a) x (text_lexes bytes a t)

    derived_of : ProgramAt Anywhere (symbols_of l.tokens) (on_one_line a.items)
    derived_of = subst (λ (m : Lexed). ProgramAt Anywhere (symbols_of m.tokens) (on_one_line a.items)) (sym same_lexed) text_derives

    pub parses_back : (answer : Result Ast ParseFault) → Says l answer → ParsesBack a (symbols_of l.tokens) answer
    parses_back (Ok b) (p, names, last) =
        let items : b.items ≡ on_one_line a.items = p.only (on_one_line a.items) derived_of in
        let named : b.names ≡ a.names = names ∙ ap (λ (m : Lexed). m.names) same_lexed in (
          ap (tree a.names) (one_line ∙ ap on_one_line (sym items)) ∙ ap (λ (ns : List (List ℕ)). tree ns (on_one_line b.items)) (sym named),
          subst (λ (is : List Item). IsShallow (symbols_of l.tokens) is) items p.within,
        )
    parses_back (Err (ParseFault.Unexpected k line)) (u, e) = going_on (symbols_of l.tokens) k (on_one_line a.items) derived_of u
    parses_back (Err (ParseFault.Deep line)) (k, deep, e) = λ s. not_deep (symbols_of l.tokens) k (on_one_line a.items) derived_of s deep
    parses_back (Err ParseFault.Memory) u = tt
