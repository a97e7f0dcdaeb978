-- A text of tokens with a space between each two is these tokens.
use Rattle.std.proofs.Common.{◌≡◌, ℕ, suc, map, ◌+◌, ◌-◌, ◌≤◌, cond, List, [], ◌∷◌, ◌++◌, length, drop, refl, sym, ap, subst, ◌∙◌, append_assoc, length-append, arith}
use Rattle.std.specs.List.{AllByRecursion, flat_map, slice_range}
use Rattle.std.proofs.lemmas.List.{append-nil}
use Rattle.std.proofs.lemmas.List.Sums.{sum_by-append, sum_by-take-drop}
use Rattle.std.proofs.Math.Seq.{drop-append_seam, drop-append-add, take-append_seam}
use Rattle.c_lex.specs.declared.piece.Piece.TheVariants as pieces
use Rattle.c_lex.specs.declared.token.Kind.{Kind}
use Rattle.c_lex.specs.declared.token.Token.{Token}
use Rattle.c_lex.specs.Bytes.{is_newline, line_at, newlines}
use Rattle.c_lex.specs.Tokens.{IsGap, none, more, IsKind, IsToken, Tokens}
use Rattle.c_lex.proofs.LongestPiece.{IsFront, white_right}
use Rattle.c_lex.proofs.Steps.{piece_placed}
use Rattle.c_parse.specs.Symbol.{symbols_of}
use Rattle.c_print.proofs.Joining.{on_line}
use Rattle.c_print.specs.SameTree.{first}
use Rattle.c_print.specs.Spelling.{spelled}
use Rattle.c_print.specs.Text.{spaced}
use Rattle.c_print.proofs.Runs.{at_end, before_space}
use Rattle.c_print.proofs.Spelled.{IsReal, Spells, spells}

module _ (names : List (List ℕ)) where
  abbrev token : ℕ → Kind → Token
  token start k = record { kind = k; start = start; end = start + length (spelled names k); line = first }

  -- tokens behind a place, a space before each
  abbrev laid : ℕ → List Kind → List Token
  laid at [] = []
  laid at (k ∷ ks) = token (at + 1) k ∷ laid (at + 1 + length (spelled names k)) ks

  abbrev pub laid_all : List Kind → List Token
  laid_all [] = []
  laid_all (k ∷ ks) = token 0 k ∷ laid (0 + length (spelled names k)) ks

  abbrev after : List Kind → List ℕ
  after ks = flat_map (λ k. 32 ∷ spelled names k) ks

  abbrev pub AllReal : List Kind → Type 0
  AllReal ks = AllByRecursion (IsReal names) ks

  front_of : (k : Kind) (s : Spells names k) (ks : List Kind) → IsFront (spelled names k ++ after ks) (length (spelled names k)) s.piece
  front_of k s [] = at_end (spelled names k) s.piece s.stands.is
  front_of k s (l ∷ ks) = before_space (spelled names k) s.piece s.stands.is s.stands.ends (spelled names l ++ after ks)

  -- ---- one line

  one_line : (ks : List Kind) → AllReal ks → newlines (after ks) ≡ 0
  one_line [] r = refl
  one_line (k ∷ ks) (r, rs) =
      let s = spells names k r in
      let t = s.stands in
      let a = sum_by-append (λ b. cond (is_newline b) 1 0) (spelled names k) (after ks) in
      let h = sum_by-append (λ b. cond (is_newline b) 1 0) (32 ∷ []) (spelled names k ++ after ks) in
      let i = one_line ks rs in
      let l = t.line in
      h ∙ omega (arith, a, l, i)

  pub spaced_line : (ks : List Kind) → AllReal ks → newlines (spaced names ks) ≡ 0
  spaced_line [] r = refl
  spaced_line (k ∷ ks) (r, rs) =
      let s = spells names k r in
      let t = s.stands in
      let a = sum_by-append (λ b. cond (is_newline b) 1 0) (spelled names k) (after ks) in
      let i = one_line ks rs in
      let l = t.line in
      a ∙ omega (arith, l, i)

  pub first_line : (bytes : List ℕ) (at : ℕ) → newlines bytes ≡ 0 → 1 ≡ line_at bytes at
  first_line bytes at e = let s = sum_by-take-drop (λ b. cond (is_newline b) 1 0) bytes at in omega (arith, s, e)

  -- ---- one token at its place

  module _ (bytes : List ℕ) (line : newlines bytes ≡ 0) where
    text_at : (at : ℕ) (text rest : List ℕ) → drop at bytes ≡ text ++ rest → slice_range bytes at (at + length text) ≡ text
    text_at at text rest e =
        let same : at + length text - at ≡ length text = omega arith in
        rw (same, e) (take-append_seam text rest)

    token_at : (at : ℕ) (k : Kind) (ks : List Kind) → IsReal names k → at ≤ length bytes → drop at bytes ≡ spelled names k ++ after ks → IsToken bytes names (token at k)
    token_at at k ks r within e =
        let s = spells names k r in
        record {
          piece = s.piece;
          stands = piece_placed bytes at (length (spelled names k)) s.piece within (subst (λ (xs : List ℕ). IsFront xs (length (spelled names k)) s.piece) (sym e) (front_of k s ks));
          kind = subst (λ (xs : List ℕ). IsKind names xs s.piece k) (sym (text_at at (spelled names k) (after ks) e)) s.kind;
          line = first_line bytes at line;
        }

    space_at : (at : ℕ) (rest : List ℕ) → at ≤ length bytes → drop at bytes ≡ 32 ∷ rest → IsGap bytes at (at + 1)
    space_at at rest within e =
        more at (at + 1) (at + 1) (piece_placed bytes at 1 pieces.Gap within (subst (λ (xs : List ℕ). IsFront xs 1 pieces.Gap) (sym e) (white_right 32 rest refl))) (none (at + 1))

    tail_tokens : (ks : List Kind) (front : List ℕ) → AllReal ks → bytes ≡ front ++ after ks → Tokens bytes names (length front) (laid (length front) ks) (length bytes)
    tail_tokens [] front r e =
        let same : length front ≡ length bytes = sym (ap length (e ∙ append-nil front)) in
        subst (λ n. IsGap bytes (length front) n) same (none (length front))
    tail_tokens (k ∷ ks) front (r, rs) e =
        let text = spelled names k in
        let at = length front in
        let here : drop at bytes ≡ 32 ∷ (text ++ after ks) = ap (drop at) e ∙ drop-append_seam front (32 ∷ (text ++ after ks)) in
        let next : drop (at + 1) bytes ≡ text ++ after ks = ap (drop (at + 1)) e ∙ drop-append-add front (32 ∷ (text ++ after ks)) 1 in
        let long : length bytes ≡ at + length (32 ∷ (text ++ after ks)) = ap length e ∙ length-append front (32 ∷ (text ++ after ks)) in
        let whole : bytes ≡ (front ++ 32 ∷ text) ++ after ks = e ∙ sym (append_assoc front (32 ∷ text) (after ks)) in
        let there : length (front ++ 32 ∷ text) ≡ at + 1 + length text = omega (arith, length-append front (32 ∷ text)) in (
          space_at at (text ++ after ks) (omega (arith, long)) here,
          token_at (at + 1) k ks r (omega (arith, long)) next,
          subst (λ n. Tokens bytes names n (laid n ks) (length bytes)) there (tail_tokens ks (front ++ 32 ∷ text) rs whole),
        )

    pub all_tokens : (ks : List Kind) → AllReal ks → bytes ≡ spaced names ks → Tokens bytes names 0 (laid_all ks) (length bytes)
    all_tokens [] r e = subst (λ n. IsGap bytes 0 n) (sym (ap length e)) (none 0)
    all_tokens (k ∷ ks) (r, rs) e =
        let same : length (spelled names k) ≡ 0 + length (spelled names k) = omega arith in
        (none 0, token_at 0 k ks r (omega arith) e, subst (λ n. Tokens bytes names n (laid n ks) (length bytes)) same (tail_tokens ks (spelled names k) rs e))

  long_laid : (at : ℕ) (ks : List Kind) → length (laid at ks) ≡ length ks
  long_laid at [] = refl
  long_laid at (k ∷ ks) = ap suc (long_laid (at + 1 + length (spelled names k)) ks)

  pub long : (ks : List Kind) → length (laid_all ks) ≡ length ks
  long [] = refl
  long (k ∷ ks) = ap suc (long_laid (0 + length (spelled names k)) ks)

  laid_symbols : (at : ℕ) (ks : List Kind) → symbols_of (laid at ks) ≡ on_line ks
  laid_symbols at [] = refl
  laid_symbols at (k ∷ ks) = ap (λ ts. record { kind = k; line = first } ∷ ts) (laid_symbols (at + 1 + length (spelled names k)) ks)

  -- as the grammar sees them
  pub symbols : (ks : List Kind) → symbols_of (laid_all ks) ≡ on_line ks
  symbols [] = refl
  symbols (k ∷ ks) = ap (λ ts. record { kind = k; line = first } ∷ ts) (laid_symbols (0 + length (spelled names k)) ks)

  kinds_behind : (at : ℕ) (ks : List Kind) → map (λ (t : Token). t.kind) (laid at ks) ≡ ks
  kinds_behind at [] = refl
  kinds_behind at (k ∷ ks) = ap (λ ls. k ∷ ls) (kinds_behind (at + 1 + length (spelled names k)) ks)

  pub kinds : (ks : List Kind) → map (λ (t : Token). t.kind) (laid_all ks) ≡ ks
  kinds [] = refl
  kinds (k ∷ ks) = ap (λ ls. k ∷ ls) (kinds_behind (0 + length (spelled names k)) ks)
