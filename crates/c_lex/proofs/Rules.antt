-- What follows for tokens and names from their source.
use Rattle.std.proofs.Common.{◌≡◌, ℕ, zero, suc, ◌-◌, ◌<◌, ◌≤◌, ◌^◌, Bool, true, false, cond, leb, List, [], ◌∷◌, ◌++◌, length, drop, fold, Option, Some, None, refl, sym, ap, subst, ◌∙◌, arith}
use Rattle.std.specs.Prelude.{bytes_eq, codes, slice_get, slice_index, slice_range, pos, ◌≤ℤ◌, ◌≢◌, IfSome}
use Rattle.std.specs.List.{AllByRecursion, list_any}
use Rattle.std.specs.Option.{option_map}
use Rattle.std.specs.Char.{is_ascii_digit}
use Rattle.std.proofs.lemmas.Bool.{false≢true, or_parts}
use Rattle.std.proofs.Math.Dec.{le→leb}
use Rattle.std.proofs.lemmas.Option.{same_Some}
use Rattle.std.proofs.lemmas.Slice.Eq.{bytes_eq-Decides}
use Rattle.c_lex.specs.declared.piece.Piece.{Piece}
use Rattle.c_lex.specs.declared.piece.Piece.TheVariants.{Gap, Word, Name, Number, Mark, BadNumber, BigNumber, OpenComment}
use Rattle.c_lex.specs.declared.token.Kind.{Kind}
use Rattle.c_lex.specs.declared.token.Mark as marks
use Rattle.c_lex.specs.declared.token.Word as words
use Rattle.c_lex.specs.declared.token.Token.{Token}
use Rattle.c_lex.specs.Bytes.{is_white, is_word_byte, line_at}
use Rattle.c_lex.specs.IsLexed.{IsLexed, IsNotNegative, IsNumbered, Lexed, LexesTo, LinesRise, NamesDiffer, SpansRise}
use Rattle.c_lex.specs.Names.{each_once, name_texts, with_name}
use Rattle.c_lex.specs.PieceOf.{begins, block_piece, has_close, number_piece, piece_of, run_piece, when, word_piece}
use Rattle.c_lex.specs.Constant.{constant_of}
use Rattle.c_lex.specs.Marks.{mark_of}
use Rattle.c_lex.specs.Words.{word_of}
use Rattle.c_lex.specs.Tokens.{IsGap, IsKind, Tokens}
use Rattle.c_lex.specs.Tokens.IsGap.{none, more}
use Rattle.c_lex.proofs.Steps.{line_more, piece_long}

-- ---- names differ

differ_push : (names : List (List ℕ)) (text : List ℕ) → NamesDiffer names → list_any (bytes_eq text) names ≡ false → NamesDiffer (names ++ text ∷ [])
differ_push [] text h e = (tt, tt)
differ_push (name ∷ names) text h e =
    let parts = or_parts (bytes_eq text name) (list_any (bytes_eq text) names) e in
    (apart name names text h.0 (λ same. false≢true (sym parts.0 ∙ (bytes_eq-Decides text name).1 (sym same))), differ_push names text h.1 parts.1)
  where
    apart : (name : List ℕ) (names : List (List ℕ)) (text : List ℕ) → AllByRecursion (λ other. name ≢ other) names → (name ≡ text → ⊥) → AllByRecursion (λ other. name ≢ other) (names ++ text ∷ [])
    apart name [] text h e = (e, tt)
    apart name (other ∷ names) text h e = (h.0, apart name names text h.1 e)

differ_with : (names : List (List ℕ)) (text : List ℕ) (b : Bool) → list_any (bytes_eq text) names ≡ b → NamesDiffer names → NamesDiffer (cond b names (names ++ text ∷ []))
differ_with names text true e h = h
differ_with names text false e h = differ_push names text h e

differ_fold : (texts names : List (List ℕ)) → NamesDiffer names → NamesDiffer (fold with_name names texts)
differ_fold [] names h = h
differ_fold (text ∷ texts) names h = differ_fold texts (with_name names text) (differ_with names text (list_any (bytes_eq text) names) refl h)

pub once_differ : (texts : List (List ℕ)) → NamesDiffer (each_once texts)
once_differ texts = differ_fold texts [] tt

apart_from : (name text : List ℕ) (names : List (List ℕ)) (n : ℕ) → AllByRecursion (λ other. name ≢ other) names → slice_get names n ≡ Some text → name ≡ text → ⊥
apart_from name text [] n h e same = cc
apart_from name text (other ∷ names) zero h e same = h.0 (same ∙ sym (same_Some _ _ e))
apart_from name text (other ∷ names) (suc n) h e same = apart_from name text names n h.1 e same

-- a name has one number
pub one_number : (names : List (List ℕ)) (text : List ℕ) (m n : ℕ) → NamesDiffer names → slice_get names m ≡ Some text → slice_get names n ≡ Some text → m ≡ n
one_number [] text m n h e f = absurd cc
one_number (name ∷ names) text zero zero h e f = refl
one_number (name ∷ names) text zero (suc n) h e f = absurd (apart_from name text names n h.0 f (same_Some _ _ e))
one_number (name ∷ names) text (suc m) zero h e f = absurd (apart_from name text names m h.0 e (same_Some _ _ f))
one_number (name ∷ names) text (suc m) (suc n) h e f = ap suc (one_number names text m n h.1 e f)

get_within : (names : List (List ℕ)) (n : ℕ) (text : List ℕ) → slice_get names n ≡ Some text → n < length names
get_within [] n text e = absurd cc
get_within (name ∷ names) zero text e = omega arith
get_within (name ∷ names) (suc n) text e = omega (arith, get_within names n text e)

numbered_one : (names : List (List ℕ)) (text : List ℕ) (piece : Piece) (kind : Kind) → IsKind names text piece kind → IsNumbered (length names) kind
numbered_one names text Gap kind h = absurd h
numbered_one names text (Word w) kind h = subst (IsNumbered (length names)) (sym h) tt
numbered_one names text Name kind h = subst (IsNumbered (length names)) (sym h.1) (get_within names h.0 text h.2)
numbered_one names text (Number n) kind h = subst (IsNumbered (length names)) (sym h) tt
numbered_one names text (Mark m) kind h = subst (IsNumbered (length names)) (sym h) tt
numbered_one names text BadNumber kind h = absurd h
numbered_one names text BigNumber kind h = absurd h
numbered_one names text OpenComment kind h = absurd h

pub all_numbered : (bytes : List ℕ) (names : List (List ℕ)) (a : ℕ) (ts : List Token) (b : ℕ) → Tokens bytes names a ts b → AllByRecursion (λ t. IsNumbered (length names) t.kind) ts
all_numbered bytes names a [] b h = tt
all_numbered bytes names a (t ∷ ts) b h = (numbered_one names (slice_range bytes t.start t.end) h.1.piece t.kind h.1.kind, all_numbered bytes names t.end ts b h.2)

-- ---- numbers are not negative

-- a number is not negative
abbrev IsFine : Piece → Type 0
IsFine Gap = Unit {0}
IsFine (Word w) = Unit {0}
IsFine Name = Unit {0}
IsFine (Number n) = pos 0 ≤ℤ n
IsFine (Mark m) = Unit {0}
IsFine BadNumber = Unit {0}
IsFine BigNumber = Unit {0}
IsFine OpenComment = Unit {0}

fine_when : (t : Bool) (piece : Piece) → IsFine piece → IfSome (when t piece) IsFine
fine_when true piece h = h
fine_when false piece h = tt

fine_cond : (t : Bool) (p q : Piece) → IsFine p → IsFine q → IsFine (cond t p q)
fine_cond true p q h g = h
fine_cond false p q h g = g

fine_choice : (t : Bool) (p q : Option Piece) → IfSome p IsFine → IfSome q IsFine → IfSome (cond t p q) IsFine
fine_choice true p q h g = h
fine_choice false p q h g = g

fine_number : (r : Option ℕ) → IsFine (number_piece r)
fine_number None = tt
fine_number (Some n) = fine_cond (leb n 2147483647) (Number (pos n)) BigNumber (record { le = le→leb 0 n (omega arith) }) tt

fine_word : (r : Option words.Word) → IsFine (word_piece r)
fine_word None = tt
fine_word (Some w) = tt

fine_mark : (r : Option marks.Mark) → IfSome (option_map Mark r) IsFine
fine_mark None = tt
fine_mark (Some m) = tt

fine : (text : List ℕ) → IfSome (piece_of text) IsFine
unfolding piece_of
fine [] = tt
fine (b ∷ bs) =
    fine_choice (is_white b) _ _ (fine_when _ Gap tt)
    (fine_choice (is_word_byte b) _ _ (fine_when _ (run_piece (b ∷ bs)) (fine_cond (is_ascii_digit b) _ _ (fine_number (constant_of (b ∷ bs))) (fine_word (word_of (b ∷ bs)))))
    (fine_choice (begins (b ∷ bs) (codes "//")) _ _ (fine_when _ Gap tt)
    (fine_choice (begins (b ∷ bs) (codes "/*")) _ _ (fine_when _ (block_piece (drop 1 bs)) (fine_cond (has_close (drop 1 bs)) Gap OpenComment tt tt)) (fine_mark (mark_of (b ∷ bs))))))

positive_one : (names : List (List ℕ)) (text : List ℕ) (piece : Piece) (kind : Kind) → piece_of text ≡ Some piece → IsKind names text piece kind → IsNotNegative kind
positive_one names text Gap kind e h = absurd h
positive_one names text (Word w) kind e h = subst IsNotNegative (sym h) tt
positive_one names text Name kind e h = subst IsNotNegative (sym h.1) tt
positive_one names text (Number n) kind e h = subst IsNotNegative (sym h) (subst (λ (o : Option Piece). IfSome o IsFine) e (fine text))
positive_one names text (Mark m) kind e h = subst IsNotNegative (sym h) tt
positive_one names text BadNumber kind e h = absurd h
positive_one names text BigNumber kind e h = absurd h
positive_one names text OpenComment kind e h = absurd h

all_positive : (bytes : List ℕ) (names : List (List ℕ)) (a : ℕ) (ts : List Token) (b : ℕ) → Tokens bytes names a ts b → AllByRecursion (λ t. IsNotNegative t.kind) ts
all_positive bytes names a [] b h = tt
all_positive bytes names a (t ∷ ts) b h = (positive_one names (slice_range bytes t.start t.end) h.1.piece t.kind h.1.stands.is h.1.kind, all_positive bytes names t.end ts b h.2)

-- ---- lines rise

pub gap_forward : {bytes : List ℕ} {a b : ℕ} → IsGap bytes a b → a ≤ b
gap_forward (none at) = omega arith
gap_forward {bytes} (more start end to p g) = omega (arith, piece_long bytes start end Gap p, gap_forward g)

line_rises : (bytes : List ℕ) (a b : ℕ) → a ≤ b → line_at bytes a ≤ line_at bytes b
line_rises bytes a b le = omega (arith, line_more bytes a b le)

rises : (bytes : List ℕ) (names : List (List ℕ)) (line a : ℕ) (ts : List Token) (b : ℕ) → line ≤ line_at bytes a → line ≤ line_at bytes (length bytes - 1) → Tokens bytes names a ts b → LinesRise line ts (line_at bytes (length bytes - 1))
rises bytes names line a [] b here last h = last
rises bytes names line a (t ∷ ts) b here last h =
    let long = piece_long bytes t.start t.end h.1.piece h.1.stands in
    let within = h.1.stands.within in
    let next : t.line.0 ≤ line_at bytes t.end = omega (arith, h.1.line, line_rises bytes t.start t.end (omega arith)) in
    let end : t.line.0 ≤ line_at bytes (length bytes - 1) = omega (arith, h.1.line, line_rises bytes t.start (length bytes - 1) (omega arith)) in
    (omega (arith, h.1.line, line_rises bytes a t.start (gap_forward h.0)), rises bytes names t.line.0 t.end ts b next end h.2)

spans_rise : (bytes : List ℕ) (names : List (List ℕ)) (a : ℕ) (ts : List Token) (b : ℕ) → Tokens bytes names a ts b → SpansRise a ts b
spans_rise bytes names a [] b h = gap_forward h
spans_rise bytes names a (t ∷ ts) b h = (gap_forward h.0, piece_long bytes t.start t.end h.1.piece h.1.stands, spans_rise bytes names t.end ts b h.2)

-- ---- all that every value keeps

pub is_lexed : (bytes : List ℕ) (l : Lexed) → ((i : ℕ) → slice_index bytes i < 2 ^ 8) → LexesTo bytes l → IsLexed l
is_lexed bytes l range h =
    record {
      bytes = bytes;
      range = range;
      source = h;
      few = h.few;
      numbered = all_numbered bytes l.names 0 l.tokens (length bytes) h.tokens;
      numbers = all_positive bytes l.names 0 l.tokens (length bytes) h.tokens;
      differ = subst NamesDiffer (sym h.names) (once_differ (name_texts bytes l.tokens));
      lines = subst (LinesRise 1 l.tokens) (sym h.last) (rises bytes l.names 1 0 l.tokens (length bytes) (omega arith) (omega arith) h.tokens);
      spans = spans_rise bytes l.names 0 l.tokens (length bytes) h.tokens;
    }
