-- Bytes have tokens or a first fault.
use Rattle.std.proofs.Common.{◌≡◌, ℕ, zero, suc, ◌+◌, ◌-◌, ◌<◌, inl, inr, Bool, true, false, cond, ◌||◌, List, [], ◌∷◌, ◌++◌, length, drop, Option, Some, None, refl, sym, ap, arith}
use Rattle.std.specs.Prelude.{bytes_eq, slice_get, slice_range, IsTrue, Ok, Err}
use Rattle.std.specs.List.{list_any}
use Rattle.std.proofs.lemmas.Bool.{cases_lt, false≢true}
use Rattle.std.proofs.lemmas.Slice.Eq.{bytes_eq-Decides}
use Rattle.c_lex.specs.declared.fault.LexFault.TheVariants as faults
use Rattle.c_lex.specs.declared.piece.Piece.{Piece}
use Rattle.c_lex.specs.declared.piece.Piece.TheVariants.{Gap, Word, Name, Number, Mark, BadNumber, BigNumber, OpenComment}
use Rattle.c_lex.specs.declared.token.Kind.{Kind}
use Rattle.c_lex.specs.declared.token.Token.{Token}
use Rattle.c_lex.specs.Bytes.{line_at, newlines}
use Rattle.c_lex.specs.FirstFault.{is_token}
use Rattle.c_lex.specs.IsPiece.{IsPiece}
use Rattle.c_lex.specs.OneMeaning.{SomeMeaning}
use Rattle.c_lex.specs.tools.Reading.{names_with, IsRead}
use Rattle.c_lex.specs.tools.Scanning.{piece_at}
use Rattle.c_lex.specs.Tokens.{IsKind}
use Rattle.c_lex.proofs.LongestPiece.{IsRight, piece_right}
use Rattle.c_lex.proofs.Steps.{lexes_all, none_placed, piece_long, piece_placed, read_gap, read_none, read_token, tells_byte, tells_many, tells_piece, token_at}
use Rattle.dfi_base.specs.Limits.{token_limit}

-- ---- a name has a number

get_last : (names : List (List ℕ)) (text : List ℕ) → slice_get (names ++ text ∷ []) (length names) ≡ Some text
get_last [] text = refl
get_last (name ∷ names) text = get_last names text

abbrev HasNumber : List (List ℕ) → List ℕ → Type 0
HasNumber names text = (n : ℕ) × (slice_get names n ≡ Some text)

numbered : (names : List (List ℕ)) (text : List ℕ) → list_any (bytes_eq text) names ≡ true → HasNumber names text
numbered [] text e = absurd (false≢true e)
numbered (name ∷ names) text e = by (bytes_eq text name) refl e (numbered names text)
  where
    by : (b : Bool) → bytes_eq text name ≡ b → b || list_any (bytes_eq text) names ≡ true → (list_any (bytes_eq text) names ≡ true → HasNumber names text) → HasNumber (name ∷ names) text
    by true t e later = (0, ap (λ (x : List ℕ). Some x) (sym ((bytes_eq-Decides text name).0 t)))
    by false t e later = let h = later e in (suc h.0, h.1)

with_number : (names : List (List ℕ)) (text : List ℕ) (b : Bool) → list_any (bytes_eq text) names ≡ b → HasNumber (cond b names (names ++ text ∷ [])) text
with_number names text true e = numbered names text e
with_number names text false e = (length names, get_last names text)

-- a token has a kind
kind_for : (names : List (List ℕ)) (text : List ℕ) (piece : Piece) → IsTrue (is_token piece) → (kind : Kind) × IsKind (names_with names text piece) text piece kind
kind_for names text Gap t = absurd cc
kind_for names text (Word w) t = (Kind.Word w, refl)
kind_for names text Name t = let n = with_number names text (list_any (bytes_eq text) names) refl in (Kind.Id n.0, (n.0, refl, n.1))
kind_for names text (Number n) t = (Kind.Num n, refl)
kind_for names text (Mark m) t = (Kind.Mark m, refl)
kind_for names text BadNumber t = absurd cc
kind_for names text BigNumber t = absurd cc
kind_for names text OpenComment t = absurd cc

-- ---- on from a place

module _ (bytes : List ℕ) where
  abbrev Reached : ℕ → Type 0
  Reached at = (tokens : List Token) × (names : List (List ℕ)) × (line : ℕ) × IsRead bytes tokens names line at

  -- one token more, or one too many
  token_on : (at end : ℕ) (piece : Piece) → Reached at → IsPiece bytes at end piece → IsTrue (is_token piece) → (Reached end → SomeMeaning bytes) → SomeMeaning bytes
  token_on at end piece r p token later = elim (cases_lt (length r.0) token_limit) [
    | inl room ↦
        let k = kind_for r.1 (slice_range bytes at end) piece token in
        later (
          r.0 ++ token_at k.0 at end r.2 ∷ [],
          names_with r.1 (slice_range bytes at end) piece,
          r.2 + newlines (slice_range bytes at end),
          read_token bytes r.0 r.1 r.2 at end piece k.0 r.3 p room k.1,
        )
    | inr full ↦
        let few = r.3.few in
        (Err (faults.TooMany at), tells_many bytes r.0 r.1 r.2 at end piece r.3 p token (omega arith))
  ]

  piece_on : (at end : ℕ) (piece : Piece) → Reached at → IsPiece bytes at end piece → (Reached end → SomeMeaning bytes) → SomeMeaning bytes
  piece_on at end Gap r p later = later (r.0, r.1, r.2 + newlines (slice_range bytes at end), read_gap bytes r.0 r.1 r.2 at end r.3 p)
  piece_on at end (Word w) r p later = token_on at end (Word w) r p refl later
  piece_on at end Name r p later = token_on at end Name r p refl later
  piece_on at end (Number n) r p later = token_on at end (Number n) r p refl later
  piece_on at end (Mark m) r p later = token_on at end (Mark m) r p refl later
  piece_on at end BadNumber r p later = (Err (faults.BadNumber at), tells_piece bytes r.0 r.1 r.2 at end BadNumber (faults.BadNumber at) r.3 p refl)
  piece_on at end BigNumber r p later = (Err (faults.BigNumber at), tells_piece bytes r.0 r.1 r.2 at end BigNumber (faults.BigNumber at) r.3 p refl)
  piece_on at end OpenComment r p later = (Err (faults.OpenComment at), tells_piece bytes r.0 r.1 r.2 at end OpenComment (faults.OpenComment at) r.3 p refl)

  front_on : (at : ℕ) → at < length bytes → Reached at → (x : Option (ℕ × Piece)) → IsRight (drop at bytes) x → ((end : ℕ) → at < end → Reached end → SomeMeaning bytes) → SomeMeaning bytes
  front_on at left r None f later = (Err (faults.BadByte at), tells_byte bytes r.0 r.1 r.2 at r.3 (none_placed bytes at left f))
  front_on at left r (Some x) f later =
      let p = piece_placed bytes at x.0 x.1 (omega arith) f in
      piece_on at (at + x.0) x.1 r p (later (at + x.0) (piece_long bytes at (at + x.0) x.1 p))

  -- fewer than so many bytes are left
  on_from : (fuel at : ℕ) → length bytes - at < fuel → Reached at → SomeMeaning bytes
  on_from zero at few r = absurd (omega arith)
  on_from (suc fuel) at few r =
      let on : (end : ℕ) → at < end → at < length bytes → Reached end → SomeMeaning bytes = λ end past left. on_from fuel end (omega arith) in
      elim (cases_lt at (length bytes)) [
        | inl left ↦ front_on at left r (piece_at (drop at bytes)) (piece_right (drop at bytes)) (λ end past. on end past left)
        | inr done ↦ (Ok (record { tokens = r.0; names = r.1; last = record { 0 = line_at bytes (length bytes - 1) } }), lexes_all bytes r.0 r.1 r.1 r.2 at _ r.3 done refl refl)
      ]

pub some_meaning : (bytes : List ℕ) → SomeMeaning bytes
some_meaning bytes = on_from bytes (length bytes - 0 + 1) 0 (omega arith) ([], [], 1, read_none bytes)
