-- One piece more of a source.
use Rattle.std.proofs.Common.{◌≡◌, ℕ, zero, suc, ◌+◌, ◌-◌, ◌<◌, ◌≤◌, Bool, true, false, cond, List, [], ◌∷◌, ◌++◌, length, take, drop, fold, Option, Some, None, refl, sym, ap, subst, ◌∙◌, length-append, length-drop, arith}
use Rattle.std.specs.Prelude.{bytes_eq, slice_get, slice_range, IsTrue}
use Rattle.std.specs.List.{cons_option, list_any}
use Rattle.std.proofs.lemmas.Grind.{fold-append}
use Rattle.std.proofs.lemmas.List.{append-nil, drop-take, length-take-le, take_all, take-append-drop}
use Rattle.std.proofs.Math.Seq.{take-take}
use Rattle.std.proofs.lemmas.List.Sums.{sum_by-append}
use Rattle.std.proofs.lemmas.Option.{same_Some}
use Rattle.c_lex.specs.declared.piece.Piece.{Piece}
use Rattle.c_lex.specs.declared.piece.Piece.TheVariants.{Gap, Word, Name, Number, Mark, BadNumber, BigNumber, OpenComment}
use Rattle.c_lex.specs.declared.token.Kind.{Kind}
use Rattle.c_lex.specs.declared.token.Token.{Token}
use Rattle.c_lex.specs.declared.fault.LexFault.{LexFault}
use Rattle.c_lex.specs.declared.fault.LexFault.TheVariants as faults
use Rattle.c_lex.specs.Bytes.{is_newline, line_at, newlines}
use Rattle.c_lex.specs.FirstFault.{is_token, IsSound, Tells}
use Rattle.c_lex.specs.IsLexed.{LexesTo}
use Rattle.c_lex.specs.IsPiece.{NoPiece, IsPiece}
use Rattle.c_lex.specs.Names.{each_once, if_name, name_texts, with_name}
use Rattle.c_lex.specs.PieceOf.{piece_of}
use Rattle.c_lex.specs.tools.Reading.{fault_of, is_gap, names_with, IsAdded, IsRead, Overflows}
use Rattle.c_lex.specs.tools.Scanning.{piece_at}
use Rattle.c_lex.specs.Tokens.{IsGap, IsKind, IsToken, Tokens}
use Rattle.c_lex.specs.Tokens.IsGap.{none, more}
use Rattle.c_lex.proofs.LongestPiece.{IsFront, IsRight, piece_nil, piece_right}
use Rattle.dfi_base.specs.Limits.{token_limit}

-- ---- a piece at its place

pub piece_placed : (bytes : List ℕ) (at n : ℕ) (piece : Piece) → at ≤ length bytes → IsFront (drop at bytes) n piece → IsPiece bytes at (at + n) piece
piece_placed bytes at n piece inside f =
    let rest : length (drop at bytes) ≡ length bytes - at = length-drop at bytes in
    record {
      within = omega (arith, f.within);
      is = let same : at + n - at ≡ n = omega arith in rw same f.is;
      longest = λ further past within. f.longest (further - at) (omega arith) (omega arith);
    }

pub none_placed : (bytes : List ℕ) (at : ℕ) → at < length bytes → IsRight (drop at bytes) None → NoPiece bytes at
none_placed bytes at left f =
    let rest : length (drop at bytes) ≡ length bytes - at = length-drop at bytes in
    record { left = left; none = λ end within. f (end - at) (omega arith) }

pub piece_long : (bytes : List ℕ) (start end : ℕ) (piece : Piece) → IsPiece bytes start end piece → start < end
piece_long bytes start end piece p = by (end - start) refl
  where
    by : (n : ℕ) → end - start ≡ n → start < end
    by zero e = absurd (let h : piece_of (take zero (drop start bytes)) ≡ Some piece = subst (λ k. piece_of (take k (drop start bytes)) ≡ Some piece) e p.is in let g = sym piece_nil ∙ h in cc)
    by (suc n) e = omega arith

-- ---- tokens, with one piece more

pub gap_more : {bytes : List ℕ} {a b : ℕ} (c : ℕ) → IsGap bytes a b → IsPiece bytes b c Gap → IsGap bytes a c
gap_more c (none at) p = more at c c p (none c)
gap_more c (more start end to q g) p = more start end c q (gap_more c g p)

pub tokens_gap : (bytes : List ℕ) (names : List (List ℕ)) (a : ℕ) (ts : List Token) (b c : ℕ) → Tokens bytes names a ts b → IsPiece bytes b c Gap → Tokens bytes names a ts c
tokens_gap bytes names a [] b c h p = gap_more c h p
tokens_gap bytes names a (t ∷ ts) b c h p = (h.0, h.1, tokens_gap bytes names t.end ts b c h.2 p)

pub tokens_token : (bytes : List ℕ) (names : List (List ℕ)) (a : ℕ) (ts : List Token) (t : Token) → Tokens bytes names a ts t.start → IsToken bytes names t → Tokens bytes names a (ts ++ t ∷ []) t.end
tokens_token bytes names a [] t h p = (h, p, none t.end)
tokens_token bytes names a (s ∷ ts) t h p = (h.0, h.1, tokens_token bytes names s.end ts t h.2 p)

-- ---- names, with more behind them

get_front : (names later : List (List ℕ)) (n : ℕ) (text : List ℕ) → slice_get names n ≡ Some text → slice_get (names ++ later) n ≡ Some text
get_front [] later n text e = absurd cc
get_front (name ∷ names) later zero text e = e
get_front (name ∷ names) later (suc n) text e = get_front names later n text e

kind_kept : (names later : List (List ℕ)) (text : List ℕ) (piece : Piece) (kind : Kind) → IsKind names text piece kind → IsKind (names ++ later) text piece kind
kind_kept names later text Gap kind h = h
kind_kept names later text (Word w) kind h = h
kind_kept names later text Name kind h = (h.0, h.1, get_front names later h.0 text h.2)
kind_kept names later text (Number n) kind h = h
kind_kept names later text (Mark m) kind h = h
kind_kept names later text BadNumber kind h = h
kind_kept names later text BigNumber kind h = h
kind_kept names later text OpenComment kind h = h

pub tokens_kept : (bytes : List ℕ) (names later : List (List ℕ)) (a : ℕ) (ts : List Token) (b : ℕ) → Tokens bytes names a ts b → Tokens bytes (names ++ later) a ts b
tokens_kept bytes names later a [] b h = h
tokens_kept bytes names later a (t ∷ ts) b h =
    (h.0, record { piece = h.1.piece; stands = h.1.stands; kind = kind_kept names later _ h.1.piece t.kind h.1.kind; line = h.1.line }, tokens_kept bytes names later t.end ts b h.2)

with_kept : (bytes : List ℕ) (names : List (List ℕ)) (text : List ℕ) (a : ℕ) (ts : List Token) (b : ℕ) (t : Bool) → Tokens bytes names a ts b → Tokens bytes (cond t names (names ++ text ∷ [])) a ts b
with_kept bytes names text a ts b true h = h
with_kept bytes names text a ts b false h = tokens_kept bytes names (text ∷ []) a ts b h

names_kept : (bytes : List ℕ) (names : List (List ℕ)) (text : List ℕ) (piece : Piece) (a : ℕ) (ts : List Token) (b : ℕ) → Tokens bytes names a ts b → Tokens bytes (names_with names text piece) a ts b
names_kept bytes names text Gap a ts b h = h
names_kept bytes names text (Word w) a ts b h = h
names_kept bytes names text Name a ts b h = with_kept bytes names text a ts b (list_any (bytes_eq text) names) h
names_kept bytes names text (Number n) a ts b h = h
names_kept bytes names text (Mark m) a ts b h = h
names_kept bytes names text BadNumber a ts b h = h
names_kept bytes names text BigNumber a ts b h = h
names_kept bytes names text OpenComment a ts b h = h

-- the texts of names, with one token more
front_option : {A : Type 0} (o : Option A) (xs ys : List A) → cons_option o (xs ++ ys) ≡ cons_option o xs ++ ys
front_option None xs ys = refl
front_option (Some x) xs ys = refl

pub texts_append : (bytes : List ℕ) (ts us : List Token) → name_texts bytes (ts ++ us) ≡ name_texts bytes ts ++ name_texts bytes us
texts_append bytes [] us = refl
texts_append bytes (s ∷ ts) us =
    let o = if_name s.kind (slice_range bytes s.start s.end) in
    ap (cons_option o) (texts_append bytes ts us) ∙ front_option o (name_texts bytes ts) (name_texts bytes us)

texts_quiet : (bytes : List ℕ) (ts : List Token) (t : Token) → if_name t.kind (slice_range bytes t.start t.end) ≡ None → name_texts bytes (ts ++ t ∷ []) ≡ name_texts bytes ts
texts_quiet bytes ts t e = texts_append bytes ts (t ∷ []) ∙ ap (λ (o : Option (List ℕ)). name_texts bytes ts ++ cons_option o []) e ∙ append-nil (name_texts bytes ts)

texts_name : (bytes : List ℕ) (ts : List Token) (t : Token) (text : List ℕ) → if_name t.kind (slice_range bytes t.start t.end) ≡ Some text → each_once (name_texts bytes (ts ++ t ∷ [])) ≡ with_name (each_once (name_texts bytes ts)) text
texts_name bytes ts t text e =
    ap each_once (texts_append bytes ts (t ∷ []) ∙ ap (λ (o : Option (List ℕ)). name_texts bytes ts ++ cons_option o []) e) ∙ fold-append with_name [] (name_texts bytes ts) (text ∷ [])

module _ (bytes : List ℕ) (ts : List Token) (t : Token) (names : List (List ℕ)) (named : names ≡ each_once (name_texts bytes ts)) where
  quiet : {kind : Kind} → t.kind ≡ kind → if_name kind (slice_range bytes t.start t.end) ≡ None → names ≡ each_once (name_texts bytes (ts ++ t ∷ []))
  quiet e empty = named ∙ ap each_once (sym (texts_quiet bytes ts t (ap (λ k. if_name k (slice_range bytes t.start t.end)) e ∙ empty)))

  once_push : (piece : Piece) → IsKind (names_with names (slice_range bytes t.start t.end) piece) (slice_range bytes t.start t.end) piece t.kind
      → names_with names (slice_range bytes t.start t.end) piece ≡ each_once (name_texts bytes (ts ++ t ∷ []))
  once_push Gap kind = absurd kind
  once_push (Word w) kind = quiet kind refl
  once_push Name kind =
      let text = slice_range bytes t.start t.end in
      ap (λ ns. with_name ns text) named ∙ sym (texts_name bytes ts t text (ap (λ k. if_name k text) kind.1))
  once_push (Number n) kind = quiet kind refl
  once_push (Mark m) kind = quiet kind refl
  once_push BadNumber kind = absurd kind
  once_push BigNumber kind = absurd kind
  once_push OpenComment kind = absurd kind

-- ---- lines

take_parts : (bytes : List ℕ) (at end : ℕ) → at ≤ end → take at bytes ++ slice_range bytes at end ≡ take end bytes
take_parts bytes at end le =
    let sum : at + (end - at) ≡ end = omega arith in
    let back : drop at (take end bytes) ≡ slice_range bytes at end = subst (λ k. drop at (take k bytes) ≡ slice_range bytes at end) sum (drop-take at (end - at) bytes) in
    ap (λ (xs : List ℕ). xs ++ slice_range bytes at end) (sym (take-take at end bytes le)) ∙ ap (λ (xs : List ℕ). take at (take end bytes) ++ xs) (sym back) ∙ take-append-drop at (take end bytes)

pub line_more : (bytes : List ℕ) (at end : ℕ) → at ≤ end → line_at bytes at + newlines (slice_range bytes at end) ≡ line_at bytes end
line_more bytes at end le =
    let both : newlines (take end bytes) ≡ newlines (take at bytes) + newlines (slice_range bytes at end)
    = ap newlines (sym (take_parts bytes at end le)) ∙ sum_by-append (λ b. cond (is_newline b) 1 0) (take at bytes) (slice_range bytes at end) in
    omega (arith, both)

-- ---- what is read, with one piece more

pub read_none : (bytes : List ℕ) → IsRead bytes [] [] 1 0
read_none bytes = record { within = omega arith; stand = none 0; few = omega arith; named = refl; here = refl }

pub read_gap : (bytes : List ℕ) (ts : List Token) (names : List (List ℕ)) (line at end : ℕ) → IsRead bytes ts names line at → IsPiece bytes at end Gap → IsRead bytes ts names (line + newlines (slice_range bytes at end)) end
read_gap bytes ts names line at end r p =
    let long = piece_long bytes at end Gap p in
    record {
      within = p.within;
      stand = tokens_gap bytes names 0 ts at end r.stand p;
      few = r.few;
      named = r.named;
      here = ap (λ n. n + newlines (slice_range bytes at end)) r.here ∙ line_more bytes at end (omega arith);
    }

abbrev pub token_at : Kind → ℕ → ℕ → ℕ → Token
token_at kind start end line = record { kind = kind; start = start; end = end; line = record { 0 = line } }

pub read_token : (bytes : List ℕ) (ts : List Token) (names : List (List ℕ)) (line at end : ℕ) (piece : Piece) (kind : Kind) → IsRead bytes ts names line at → IsPiece bytes at end piece → length ts < token_limit
    → IsKind (names_with names (slice_range bytes at end) piece) (slice_range bytes at end) piece kind
    → IsRead bytes (ts ++ token_at kind at end line ∷ []) (names_with names (slice_range bytes at end) piece) (line + newlines (slice_range bytes at end)) end
read_token bytes ts names line at end piece kind r p room is =
    let long = piece_long bytes at end piece p in
    let t = token_at kind at end line in
    let text = slice_range bytes at end in
    record {
      within = p.within;
      stand = tokens_token bytes (names_with names text piece) 0 ts t (names_kept bytes names text piece 0 ts at r.stand) (record { piece = piece; stands = p; kind = is; line = r.here });
      few = omega (arith, length-append ts (t ∷ []));
      named = once_push bytes ts t names r.named piece is;
      here = ap (λ n. n + newlines text) r.here ∙ line_more bytes at end (omega arith);
    }

-- ---- faults

sound : (bytes : List ℕ) (ts : List Token) (names : List (List ℕ)) (line at : ℕ) → IsRead bytes ts names line at → IsSound bytes at
sound bytes ts names line at r = (length ts, r.few, record { names = names; tokens = ts; stand = r.stand; count_is = refl })

pub tells_byte : (bytes : List ℕ) (ts : List Token) (names : List (List ℕ)) (line at : ℕ) → IsRead bytes ts names line at → NoPiece bytes at → Tells bytes (faults.BadByte at)
tells_byte bytes ts names line at r n = (sound bytes ts names line at r, n)

pub tells_piece : (bytes : List ℕ) (ts : List Token) (names : List (List ℕ)) (line at end : ℕ) (piece : Piece) (fault : LexFault) → IsRead bytes ts names line at → IsPiece bytes at end piece → fault_of piece at ≡ Some fault → Tells bytes fault
tells_piece bytes ts names line at end Gap fault r p e = absurd cc
tells_piece bytes ts names line at end (Word w) fault r p e = absurd cc
tells_piece bytes ts names line at end Name fault r p e = absurd cc
tells_piece bytes ts names line at end (Number n) fault r p e = absurd cc
tells_piece bytes ts names line at end (Mark m) fault r p e = absurd cc
tells_piece bytes ts names line at end BadNumber fault r p e = subst (Tells bytes) (same_Some _ _ e) (sound bytes ts names line at r, (end, p))
tells_piece bytes ts names line at end BigNumber fault r p e = subst (Tells bytes) (same_Some _ _ e) (sound bytes ts names line at r, (end, p))
tells_piece bytes ts names line at end OpenComment fault r p e = subst (Tells bytes) (same_Some _ _ e) (sound bytes ts names line at r, (end, p))

pub tells_many : (bytes : List ℕ) (ts : List Token) (names : List (List ℕ)) (line at end : ℕ) (piece : Piece) → IsRead bytes ts names line at → IsPiece bytes at end piece → IsTrue (is_token piece) → length ts ≡ token_limit → Tells bytes (faults.TooMany at)
tells_many bytes ts names line at end piece r p token full = (record { names = names; tokens = ts; stand = r.stand; count_is = full }, (piece, token, (end, p)))

-- ---- how many names there are

shorter : (names : List (List ℕ)) (text : List ℕ) (b : Bool) → length (cond b names (names ++ text ∷ [])) ≤ suc (length names)
shorter names text true = omega arith
shorter names text false = omega (arith, length-append names (text ∷ []))

length_once : (texts names : List (List ℕ)) → length (fold with_name names texts) ≤ length names + length texts
length_once [] names = omega arith
length_once (text ∷ texts) names = omega (arith, length_once texts (with_name names text), shorter names text (list_any (bytes_eq text) names))

length_option : {A : Type 0} (o : Option A) (xs : List A) → length (cons_option o xs) ≤ suc (length xs)
length_option None xs = omega arith
length_option (Some x) xs = omega arith

length_texts : (bytes : List ℕ) (ts : List Token) → length (name_texts bytes ts) ≤ length ts
length_texts bytes [] = omega arith
length_texts bytes (t ∷ ts) = omega (arith, length_texts bytes ts, length_option (if_name t.kind (slice_range bytes t.start t.end)) (name_texts bytes ts))

pub names_few : (bytes : List ℕ) (ts : List Token) (names : List (List ℕ)) (line at : ℕ) → IsRead bytes ts names line at → length names ≤ token_limit
names_few bytes ts names line at r = omega (arith, ap length r.named, length_once (name_texts bytes ts) [], length_texts bytes ts, r.few)

-- ---- what the code calls them by

-- the bytes from this place on, as a slice
from_here : (bytes : List ℕ) (at : ℕ) → take (length bytes - at) (drop at bytes) ≡ drop at bytes
from_here bytes at = let rest : length (drop at bytes) ≡ length bytes - at = length-drop at bytes in take_all (length bytes - at) (drop at bytes) (omega arith)

right_here : (bytes : List ℕ) (at : ℕ) (r : Option (ℕ × Piece)) → r ≡ piece_at (take (length bytes - at) (drop at bytes)) → IsRight (drop at bytes) r
right_here bytes at r e = subst (IsRight (drop at bytes)) (sym (e ∙ ap piece_at (from_here bytes at))) (piece_right (drop at bytes))

pub piece_found : (bytes : List ℕ) (at n : ℕ) (piece : Piece) → at < length bytes → Some (n, piece) ≡ piece_at (take (length bytes - at) (drop at bytes)) → IsPiece bytes at (at + n) piece
piece_found bytes at n piece left e = piece_placed bytes at n piece (omega arith) (right_here bytes at (Some (n, piece)) e)

pub none_found : (bytes : List ℕ) (at : ℕ) → at < length bytes → None ≡ piece_at (take (length bytes - at) (drop at bytes)) → NoPiece bytes at
none_found bytes at left e = none_placed bytes at left (right_here bytes at None e)

pub gap_taken : (bytes : List ℕ) (ts : List Token) (names : List (List ℕ)) (line at end : ℕ) (piece : Piece) → is_gap piece ≡ true → IsRead bytes ts names line at → IsPiece bytes at end piece
    → IsRead bytes ts names (line + newlines (slice_range bytes at end)) end
gap_taken bytes ts names line at end Gap e r p = read_gap bytes ts names line at end r p
gap_taken bytes ts names line at end (Word w) e r p = absurd cc
gap_taken bytes ts names line at end Name e r p = absurd cc
gap_taken bytes ts names line at end (Number n) e r p = absurd cc
gap_taken bytes ts names line at end (Mark m) e r p = absurd cc
gap_taken bytes ts names line at end BadNumber e r p = absurd cc
gap_taken bytes ts names line at end BigNumber e r p = absurd cc
gap_taken bytes ts names line at end OpenComment e r p = absurd cc

slice_long : (bytes : List ℕ) (at end : ℕ) → at ≤ end → end ≤ length bytes → at + length (slice_range bytes at end) ≡ end
slice_long bytes at end le within =
    let rest : length (drop at bytes) ≡ length bytes - at = length-drop at bytes in
    omega (arith, length-take-le (end - at) (drop at bytes) (omega arith))

pub token_taken : (bytes : List ℕ) (ts new : List Token) (names later : List (List ℕ)) (line at end : ℕ) (piece : Piece) → IsRead bytes ts names line at → IsPiece bytes at end piece
    → IsAdded ts (slice_range bytes at end) piece at line new later → later ≡ names_with names (slice_range bytes at end) piece → IsRead bytes new later (line + newlines (slice_range bytes at end)) end
token_taken bytes ts new names later line at end piece r p a e =
    let text = slice_range bytes at end in
    let long = piece_long bytes at end piece p in
    let whole : new ≡ ts ++ token_at a.kind at end line ∷ [] = a.added ∙ ap (λ k. ts ++ token_at a.kind at k line ∷ []) (slice_long bytes at end (omega arith) p.within) in
    let kind : IsKind (names_with names text piece) text piece a.kind = subst (λ (ns : List (List ℕ)). IsKind ns text piece a.kind) e a.is in
    rw (whole, e) (read_token bytes ts names line at end piece a.kind r p a.room kind)

pub tells_over : (bytes : List ℕ) (ts : List Token) (names : List (List ℕ)) (line at end : ℕ) (piece : Piece) (fault : LexFault) → IsRead bytes ts names line at → IsPiece bytes at end piece → IsTrue (is_token piece)
    → Overflows (length ts) at fault → Tells bytes fault
tells_over bytes ts names line at end piece (faults.BadByte a) r p token o = absurd o
tells_over bytes ts names line at end piece (faults.BadNumber a) r p token o = absurd o
tells_over bytes ts names line at end piece (faults.BigNumber a) r p token o = absurd o
tells_over bytes ts names line at end piece (faults.OpenComment a) r p token o = absurd o
tells_over bytes ts names line at end piece (faults.TooMany a) r p token o = subst (λ k. Tells bytes (faults.TooMany k)) (sym o.0) (tells_many bytes ts names line at end piece r p token o.1)
tells_over bytes ts names line at end piece faults.Memory r p token o = tt

-- ---- all of a source

pub lexes_all : (bytes : List ℕ) (ts : List Token) (names texts : List (List ℕ)) (line at last : ℕ) → IsRead bytes ts names line at → length bytes ≤ at → texts ≡ names → last ≡ line_at bytes (length bytes - 1)
    → LexesTo bytes (record { tokens = ts; names = texts; last = record { 0 = last } })
lexes_all bytes ts names texts line at last r past same end =
    let within = r.within in
    let whole : at ≡ length bytes = omega arith in
    rw same (record { tokens = subst (Tokens bytes names 0 ts) whole r.stand; names = r.named; last = end; few = r.few })
