-- What a printed text is lexed to.
use Rattle.std.proofs.Common.{◌≡◌, ℕ, suc, ◌+◌, ◌-◌, ◌≤◌, Bool, true, false, cond, leb, List, [], ◌∷◌, ◌++◌, length, Option, Some, None, refl, sym, ap, subst, ◌∙◌, arith}
use Rattle.std.specs.Prelude.{codes, ℤ, pos, slice_get, filter_map}
use Rattle.std.specs.Char.{is_ascii_digit}
use Rattle.std.specs.List.{AllByRecursion, cons_option, slice_range}
use Rattle.std.specs.Option.{option_map}
use Rattle.std.proofs.lemmas.List.{append-nil}
use Rattle.std.proofs.lemmas.Bool.{leb-true}
use Rattle.c_lex.specs.declared.piece.Piece.{Piece}
use Rattle.c_lex.specs.declared.piece.Piece.TheVariants as pieces
use Rattle.c_lex.specs.declared.token.Kind.{Kind}
use Rattle.c_lex.specs.declared.token.Token.{Token}
use Rattle.c_lex.specs.declared.token.Word.{Word}
use Rattle.c_lex.specs.Bytes.{is_white, is_word_byte}
use Rattle.c_lex.specs.Constant.{constant_of}
use Rattle.c_lex.specs.IsLexed.{Lexed, LexesTo}
use Rattle.c_lex.specs.Marks.{mark_of}
use Rattle.c_lex.specs.Names.{each_once, if_name, name_texts}
use Rattle.c_lex.specs.PieceOf.{begins, number_piece, piece_of, run_piece, when, word_piece}
use Rattle.c_lex.specs.Tokens.{IsKind, Tokens}
use Rattle.c_lex.specs.Words.{word_of}
use Rattle.c_lex.proofs.LongestPiece.{piece_white, piece_run, piece_line, piece_block, piece_mark, piece_nil, two_at}
use Rattle.c_ast.specs.Ast.{Ast}
use Rattle.c_parse.specs.Symbol.{Symbol, Symbols, symbols_of}
use Rattle.c_print.specs.SameTree.{first}
use Rattle.c_print.specs.Text.{text_of}
use Rattle.c_print.specs.TreeTokens.{Kinds, tokens_of}
use Rattle.c_print.specs.IsTreeOf.{IsTreeOf}
use Rattle.c_print.proofs.Joining.{on_line}
use Rattle.c_print.proofs.SpacedTokens.{AllReal, all_tokens, first_line, laid_all, long, spaced_line, symbols as laid_symbols}
use Rattle.c_print.proofs.Spelled.{IsReal}
use Rattle.c_print.proofs.FewerParens.{Thin, same, keep, lost}
use Rattle.c_print.proofs.FewerParensStmt.{program_thin}

-- ---- a number of a source is within the limit

record Within (n : ℤ) : Type 0 where
  value : ℕ
  is : n ≡ pos value
  most : value ≤ 2147483647

when_is : (b : Bool) (p q : Piece) → when b p ≡ Some q → p ≡ q
when_is true p q e = cc
when_is false p q e = absurd cc

limited : (m : ℕ) (n : ℤ) (b : Bool) → leb m 2147483647 ≡ b → cond b (pieces.Number (pos m)) pieces.BigNumber ≡ pieces.Number n → Within n
limited m n true l e = let h : pos m ≡ n = cc in record { value = m; is = sym h; most = leb-true _ _ l }
limited m n false l e = absurd cc

constant_within : (o : Option ℕ) (n : ℤ) → number_piece o ≡ pieces.Number n → Within n
constant_within None n e = absurd cc
constant_within (Some m) n e = limited m n (leb m 2147483647) refl e

no_word : (o : Option Word) (n : ℤ) → word_piece o ≡ pieces.Number n → ⊥
no_word None n e = cc
no_word (Some w) n e = cc

run_within : (b : ℕ) (bs : List ℕ) (n : ℤ) (d : Bool) → is_ascii_digit b ≡ d → run_piece (b ∷ bs) ≡ pieces.Number n → Within n
run_within b bs n true d e = constant_within (constant_of (b ∷ bs)) n (rw d at e)
run_within b bs n false d e = absurd (no_word (word_of (b ∷ bs)) n (rw d at e))

not_gap : (n : ℤ) → pieces.Gap ≡ pieces.Number n → ⊥
not_gap n e = cc

no_comment : (b : Bool) (n : ℤ) → cond b pieces.Gap pieces.OpenComment ≡ pieces.Number n → ⊥
no_comment true n e = cc
no_comment false n e = cc

no_mark : {M : Type 0} (of : M → Piece) (n : ℤ) (never : (m : M) → of m ≡ pieces.Number n → ⊥) (r : Option M) → option_map of r ≡ Some (pieces.Number n) → ⊥
no_mark of n never None e = cc
no_mark of n never (Some m) e = let h : of m ≡ pieces.Number n = cc in never m h

within_by : (b : ℕ) (bs : List ℕ) (n : ℤ) → piece_of (b ∷ bs) ≡ Some (pieces.Number n) → (w r l s : Bool) → is_white b ≡ w → is_word_byte b ≡ r
    → begins (b ∷ bs) (codes "//") ≡ l → begins (b ∷ bs) (codes "/*") ≡ s → Within n
within_by b bs n e true r l s white word line block = absurd (not_gap n (when_is _ _ _ (sym (piece_white b bs white) ∙ e)))
within_by b bs n e false true l s white word line block = run_within b bs n (is_ascii_digit b) refl (when_is _ _ _ (sym (piece_run b bs white word) ∙ e))
within_by b bs n e false false true s white word line block =
    absurd (let two = two_at b bs 47 47 line in not_gap n (when_is _ _ _ (sym (piece_line two.0) ∙ sym (ap piece_of two.1) ∙ e)))
within_by b bs n e false false false true white word line block =
    absurd (let two = two_at b bs 47 42 block in no_comment _ n (when_is _ _ _ (sym (piece_block two.0) ∙ sym (ap piece_of two.1) ∙ e)))
within_by b bs n e false false false false white word line block =
    absurd (no_mark pieces.Mark n (λ m h. cc) (mark_of (b ∷ bs)) (sym (piece_mark b bs white word line block) ∙ e))

number_within : (text : List ℕ) (n : ℤ) → piece_of text ≡ Some (pieces.Number n) → Within n
number_within [] n e = absurd (let g = piece_nil in cc)
number_within (b ∷ bs) n e = within_by b bs n e (is_white b) (is_word_byte b) (begins (b ∷ bs) (codes "//")) (begins (b ∷ bs) (codes "/*")) refl refl refl refl

-- ---- what the tokens of a source are

module _ (names : List (List ℕ)) where
  abbrev name_in : Kind → Option (List ℕ)
  name_in (Kind.Word w) = None
  name_in (Kind.Id n) = slice_get names n
  name_in (Kind.Num k) = None
  name_in (Kind.Mark m) = None

  real_of : (text : List ℕ) (p : Piece) (k : Kind) → piece_of text ≡ Some p → IsKind names text p k → IsReal names k
  real_of text pieces.Gap k e h = absurd h
  real_of text (pieces.Word w) k e h = subst (IsReal names) (sym h) tt
  real_of text pieces.Name k e h = subst (IsReal names) (sym h.1) (text, h.2, e)
  real_of text (pieces.Number n) k e h = let w = number_within text n e in subst (IsReal names) (sym h) (w.value, w.is, w.most)
  real_of text (pieces.Mark m) k e h = subst (IsReal names) (sym h) tt
  real_of text pieces.BadNumber k e h = absurd h
  real_of text pieces.BigNumber k e h = absurd h
  real_of text pieces.OpenComment k e h = absurd h

  named_of : (text : List ℕ) (p : Piece) (k : Kind) → IsKind names text p k → if_name k text ≡ name_in k
  named_of text pieces.Gap k h = absurd h
  named_of text (pieces.Word w) k h = subst (λ (x : Kind). if_name x text ≡ name_in x) (sym h) refl
  named_of text pieces.Name k h = subst (λ (x : Kind). if_name x text ≡ name_in x) (sym h.1) (sym h.2)
  named_of text (pieces.Number n) k h = subst (λ (x : Kind). if_name x text ≡ name_in x) (sym h) refl
  named_of text (pieces.Mark m) k h = subst (λ (x : Kind). if_name x text ≡ name_in x) (sym h) refl
  named_of text pieces.BadNumber k h = absurd h
  named_of text pieces.BigNumber k h = absurd h
  named_of text pieces.OpenComment k h = absurd h

  abbrev RealSymbols : Symbols → Type 0
  RealSymbols ts = AllByRecursion (λ (s : Symbol). IsReal names s.kind) ts

  abbrev names_from : Symbols → List (List ℕ)
  names_from ts = filter_map (λ (s : Symbol). name_in s.kind) ts

  module _ (bytes : List ℕ) where
    all_real : (at : ℕ) (ts : List Token) (end : ℕ) → Tokens bytes names at ts end → RealSymbols (symbols_of ts)
    all_real at [] end h = tt
    all_real at (t ∷ ts) end h =
        let token = h.1 in
        let stands = token.stands in
        (real_of (slice_range bytes t.start t.end) token.piece t.kind stands.is token.kind, all_real t.end ts end h.2)

    all_named : (at : ℕ) (ts : List Token) (end : ℕ) → Tokens bytes names at ts end → name_texts bytes ts ≡ names_from (symbols_of ts)
    all_named at [] end h = refl
    all_named at (t ∷ ts) end h =
        let token = h.1 in
        ap (λ (o : Option (List ℕ)). cons_option o (name_texts bytes ts)) (named_of (slice_range bytes t.start t.end) token.piece t.kind token.kind)
        ∙ ap (cons_option (name_in t.kind)) (all_named t.end ts end h.2)

  -- ---- what the tree keeps of them

  kept_real : {ts us : Symbols} {ks : Kinds} → Thin ts ks us → RealSymbols ts → AllReal names ks
  kept_real same r = tt
  kept_real (keep d) (r, rs) = (r, kept_real d rs)
  kept_real (lost p d) (r, rs) = kept_real d rs

  kept_names : {ts us : Symbols} {ks : Kinds} → Thin ts ks us → names_from ts ≡ filter_map name_in ks ++ names_from us
  kept_names same = refl
  kept_names (keep {k = k} {us = us} {ks = ks} d) = ap (cons_option (name_in k)) (kept_names d) ∙ front (name_in k) (filter_map name_in ks) (names_from us)
    where
      front : (o : Option (List ℕ)) (xs ys : List (List ℕ)) → cons_option o (xs ++ ys) ≡ cons_option o xs ++ ys
      front None xs ys = refl
      front (Some x) xs ys = refl
  kept_names (lost p d) = kept_names d

  kept_few : {ts us : Symbols} {ks : Kinds} → Thin ts ks us → length ks + length us ≤ length ts
  kept_few same = omega arith
  kept_few (keep d) = let h = kept_few d in omega (arith, h)
  kept_few (lost p d) = let h = kept_few d in omega (arith, h)

  line_names : (ks : List Kind) → names_from (on_line ks) ≡ filter_map name_in ks
  line_names [] = refl
  line_names (k ∷ ks) = ap (cons_option (name_in k)) (line_names ks)

long_symbols : (ts : List Token) → length (symbols_of ts) ≡ length ts
long_symbols [] = refl
long_symbols (t ∷ ts) = ap suc (long_symbols ts)

-- what the text of a tree is lexed to
abbrev pub lexed_of : Ast → Lexed
lexed_of a = record { tokens = laid_all a.names (tokens_of a.items); names = a.names; last = first }

pub text_lexes : (bytes : List ℕ) (a : Ast) → IsTreeOf bytes a → LexesTo (text_of a) (lexed_of a)
text_lexes bytes a t =
    let l = t.lexed in
    let x = t.lexes in
    let ks = tokens_of a.items in
    let thin = program_thin t.derived in
    let tokens : Tokens bytes a.names 0 l.tokens (length bytes) = subst (λ (ns : List (List ℕ)). Tokens bytes ns 0 l.tokens (length bytes)) (sym t.names) x.tokens in
    let real = kept_real a.names thin (all_real a.names bytes 0 l.tokens (length bytes) tokens) in
    let line = spaced_line a.names ks real in
    let laid = all_tokens a.names (text_of a) line ks real refl in
    let named : name_texts (text_of a) (laid_all a.names ks) ≡ name_texts bytes l.tokens =
    all_named a.names (text_of a) 0 (laid_all a.names ks) (length (text_of a)) laid ∙ ap (names_from a.names) (laid_symbols a.names ks) ∙ line_names a.names ks
    ∙ sym (append-nil _) ∙ sym (kept_names a.names thin) ∙ sym (all_named a.names bytes 0 l.tokens (length bytes) tokens) in
    let few = kept_few a.names thin in
    let count = long_symbols l.tokens in
    let fits = x.few in
    record {
      tokens = laid;
      names = t.names ∙ x.names ∙ ap each_once (sym named);
      last = first_line a.names (text_of a) (length (text_of a) - 1) line;
      few = omega (arith, long a.names ks, few, count, fits);
    }
