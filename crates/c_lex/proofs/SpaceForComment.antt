-- A space in place of a comment.
use Rattle.std.proofs.Common.{◌≡◌, ℕ, zero, suc, ◌+◌, ◌-◌, ◌<◌, ◌≤◌, ◌⊎◌, inl, inr, List, [], ◌∷◌, ◌++◌, length, map, take, drop, get_or, Some, None, refl, sym, ap, subst, ◌∙◌, length-append, length-drop, arith}
use Rattle.std.specs.Prelude.{slice_get, slice_range, Ok, Err}
use Rattle.std.specs.List.{cons_option}
use Rattle.std.proofs.Math.Seq.{drop-append-add, drop-cons, drop-drop, take-append-add, take-take}
use Rattle.std.proofs.lemmas.Bool.{cases_lt}
use Rattle.std.proofs.lemmas.List.{drop-append-le, length-take-le, take_all, take-append-drop, take-append-le, drop_at, take_more}
use Rattle.std.proofs.lemmas.Option.{same_Some}
use Rattle.c_lex.specs.declared.fault.LexFault.{LexFault}
use Rattle.c_lex.specs.declared.fault.LexFault.TheVariants as faults
use Rattle.c_lex.specs.declared.piece.Piece.{Piece}
use Rattle.c_lex.specs.declared.piece.Piece.TheVariants.{Gap, BadNumber, BigNumber, OpenComment}
use Rattle.c_lex.specs.declared.token.Kind.{Kind}
use Rattle.c_lex.specs.declared.token.Token.{Token}
use Rattle.c_lex.specs.Bytes.{line_at, newlines}
use Rattle.c_lex.specs.CommentIsSpace.{CommentIsSpace, placed, SameTokens, with_space}
use Rattle.c_lex.specs.IsLexed.{Lexed, LexesTo}
use Rattle.c_lex.specs.FirstFault.{IsFirstFault, IsSound, TokensBefore}
use Rattle.c_lex.specs.IsPiece.{IsPiece, NoPiece, StandsAt}
use Rattle.c_lex.specs.Names.{each_once, if_name, name_texts}
use Rattle.c_lex.specs.PieceOf.{piece_of}
use Rattle.c_lex.specs.Tokens.{IsGap, IsKind, IsToken, Tokens}
use Rattle.c_lex.specs.Tokens.IsGap.{none, more}
use Rattle.c_lex.proofs.Closed.{closed, no_empty, spaced}
use Rattle.c_lex.proofs.LongestPiece.{IsFront, white_right}
use Rattle.c_lex.proofs.Rules.{gap_forward}
use Rattle.c_lex.proofs.Steps.{piece_long, piece_placed, texts_append, tokens_gap}
use Rattle.c_lex.proofs.Unique.{alike_long, ends_there, faulty, many_at, meet, one_end, one_piece, Reading, reading_whole, seen, sight, Stop, stop_none, stop_of, stop_piece}
use Rattle.c_lex.proofs.Unique.Stop.{fault, on, whole as whole_stop}
use Rattle.dfi_base.specs.Limits.{token_limit}

-- ---- no longer front is a piece

closed_from : (bytes : List ℕ) (n j : ℕ) → 0 < n → n + j ≤ length bytes → piece_of (take n bytes) ≡ None → piece_of (take (n + j) bytes) ≡ None
closed_from bytes n zero some within e = let same : n + 0 ≡ n = omega arith in rw same e
closed_from bytes n (suc j) some within e =
    let next : n + suc j ≡ n + j + 1 = omega arith in
    let long : length (take (n + j) bytes) ≡ n + j = length-take-le (n + j) bytes (omega arith) in
    ap (λ k. piece_of (take k bytes)) next ∙ ap piece_of (take_more bytes (n + j) 0 (omega arith)) ∙ closed (take (n + j) bytes) (get_or bytes (n + j) 0) (omega arith) (closed_from bytes n j some (omega arith) e)

closed_past : (bytes : List ℕ) (n m : ℕ) → 0 < n → n ≤ m → m ≤ length bytes → piece_of (take n bytes) ≡ None → piece_of (take m bytes) ≡ None
closed_past bytes n m some le within e = let sum : n + (m - n) ≡ m = omega arith in subst (λ k. piece_of (take k bytes) ≡ None) sum (closed_from bytes n (m - n) some (omega arith) e)

front_long : (bytes : List ℕ) (n : ℕ) (p : Piece) → IsFront bytes n p → 0 < n
front_long bytes zero p f = absurd (no_empty p f.is)
front_long bytes (suc n) p f = omega arith

-- ---- a piece that ends before the comment

front_kept : (xs ys zs : List ℕ) (n : ℕ) (p : Piece) → IsFront (xs ++ 47 ∷ ys) n p → n ≤ length xs → (p ≡ OpenComment → ⊥) → IsFront (xs ++ 32 ∷ zs) n p
front_kept xs ys zs n p f le ends =
    let long = front_long (xs ++ 47 ∷ ys) n p f in
    let whole : length (xs ++ 32 ∷ zs) ≡ length xs + suc (length zs) = length-append xs (32 ∷ zs) in
    let before : length (xs ++ 47 ∷ ys) ≡ length xs + suc (length ys) = length-append xs (47 ∷ ys) in
    let front : piece_of (take n xs) ≡ Some p = ap piece_of (sym (take-append-le n xs (47 ∷ ys) le)) ∙ f.is in
    let next : piece_of (take (n + 1) (xs ++ 32 ∷ zs)) ≡ None = elim (cases_lt n (length xs)) [
      | inl lt ↦ ap piece_of (take-append-le (n + 1) xs (32 ∷ zs) (omega arith) ∙ sym (take-append-le (n + 1) xs (47 ∷ ys) (omega arith))) ∙ f.longest (n + 1) (omega arith) (omega arith)
      | inr ge ↦
          let same : n ≡ length xs = omega arith in
          let is : piece_of xs ≡ Some p = ap piece_of (sym (take_all n xs (omega arith))) ∙ front in
          let slash : piece_of (xs ++ 47 ∷ []) ≡ None
          = ap piece_of (sym (take-append-add xs (47 ∷ ys) 1)) ∙ f.longest (length xs + 1) (omega arith) (omega arith) in
          ap (λ k. piece_of (take (k + 1) (xs ++ 32 ∷ zs))) same ∙ ap piece_of (take-append-add xs (32 ∷ zs) 1) ∙ spaced xs p is ends slash
    ] in
    record {
      within = omega arith;
      is = ap piece_of (take-append-le n xs (32 ∷ zs) le) ∙ front;
      longest = λ m past within. closed_past (xs ++ 32 ∷ zs) (n + 1) m (omega arith) (omega arith) within next;
    }

front_of : (bytes : List ℕ) (s e : ℕ) (p : Piece) → IsPiece bytes s e p → IsFront (drop s bytes) (e - s) p
front_of bytes s e p h =
    let long = piece_long bytes s e p h in
    let within = h.within in
    let rest : length (drop s bytes) ≡ length bytes - s = length-drop s bytes in
    record {
      within = omega arith;
      is = h.is;
      longest = λ m past fits.
          let back : s + m - s ≡ m = omega arith in
          subst (λ k. piece_of (take k (drop s bytes)) ≡ None) back (h.longest (s + m) (omega arith) (omega arith));
    }

get_of : (xs : List ℕ) (n x : ℕ) → slice_get xs n ≡ Some x → get_or xs n 0 ≡ x
get_of [] n x e = absurd cc
get_of (y ∷ xs) zero x e = same_Some y x e
get_of (y ∷ xs) (suc n) x e = get_of xs n x e

tokens_forward : (bytes : List ℕ) (names : List (List ℕ)) (a : ℕ) (ts : List Token) (b : ℕ) → Tokens bytes names a ts b → a ≤ b
tokens_forward bytes names a [] b h = gap_forward h
tokens_forward bytes names a (t ∷ ts) b h =
    omega (arith, gap_forward h.0, piece_long bytes t.start t.end h.1.piece h.1.stands, tokens_forward bytes names t.end ts b h.2)

gap_join : {bytes : List ℕ} {a b c : ℕ} → IsGap bytes a b → IsGap bytes b c → IsGap bytes a c
gap_join (none at) g = g
gap_join (more start end to p h) g = more start end _ p (gap_join h g)

gap_tokens : (bytes : List ℕ) (names : List (List ℕ)) (a b : ℕ) (us : List Token) (c : ℕ) → IsGap bytes a b → Tokens bytes names b us c → Tokens bytes names a us c
gap_tokens bytes names a b [] c g h = gap_join g h
gap_tokens bytes names a b (u ∷ us) c g h = (gap_join g h.0, h.1, h.2)

tokens_join : (bytes : List ℕ) (names : List (List ℕ)) (a : ℕ) (ts : List Token) (b : ℕ) (us : List Token) (c : ℕ) → Tokens bytes names a ts b → Tokens bytes names b us c → Tokens bytes names a (ts ++ us) c
tokens_join bytes names a [] b us c h g = gap_tokens bytes names a b us c h g
tokens_join bytes names a (t ∷ ts) b us c h g = (h.0, h.1, tokens_join bytes names t.end ts b us c h.2 g)

-- no token is an open comment
not_open : (names : List (List ℕ)) (text : List ℕ) (p : Piece) (kind : Kind) → IsKind names text p kind → p ≡ OpenComment → ⊥
not_open names text p kind h e = subst (λ (q : Piece). IsKind names text q kind) e h

-- ---- behind the comment

gap_after : {bytes : List ℕ} {s b : ℕ} (end : ℕ) → IsGap bytes s b → IsPiece bytes s end Gap → (s ≡ b) ⊎ IsGap bytes end b
gap_after end (none at) p = inl refl
gap_after {bytes} end (more start e to q g) p = inr (subst (λ k. IsGap bytes k to) (one_end bytes start e end Gap Gap q p) g)

-- tokens from the comment on are tokens from its end on, unless nothing is behind it
tokens_after : (bytes : List ℕ) (names : List (List ℕ)) (start end : ℕ) (rest : List Token) (to : ℕ) → Tokens bytes names start rest to → IsPiece bytes start end Gap → (start ≡ to → ⊥) → Tokens bytes names end rest to
tokens_after bytes names start end [] to h p past = elim (gap_after end h p) [ inl same ↦ absurd (past same) | inr g ↦ g ]
tokens_after bytes names start end (r ∷ rest) to h p past = elim (gap_after end h.0 p) [
  | inl same ↦ absurd (
      let moved : IsPiece bytes r.start end Gap = subst (λ k. IsPiece bytes k end Gap) same p in
      let piece = one_piece bytes r.start r.end end h.1.piece Gap h.1.stands moved in
      subst (λ (q : Piece). IsKind names (slice_range bytes r.start r.end) q r.kind) piece h.1.kind)
  | inr g ↦ (g, h.1, h.2)
]

-- ---- both sides of the comment

module _ (bytes : List ℕ) (start end : ℕ) (slash : slice_get bytes start ≡ Some 47) (whole : IsPiece bytes start end Gap) where
  abbrev new : List ℕ
  new = with_space bytes start end

  -- where a place behind the comment goes
  abbrev moved : ℕ → ℕ
  moved k = start + suc (k - end)

  abbrev moved_token : Token → Token
  moved_token t = record { kind = t.kind; start = moved t.start; end = moved t.end; line = record { 0 = line_at new (moved t.start) } }

  left : (start < end) × (end ≤ length bytes)
  left = (piece_long bytes start end Gap whole, whole.within)

  front_length : length (take start bytes) ≡ start
  front_length = length-take-le start bytes (omega (arith, left.0, left.1))

  new_length : length new ≡ start + suc (length bytes - end)
  new_length = omega (arith, length-append (take start bytes) (32 ∷ drop end bytes), front_length, length-drop end bytes)

  -- what stands from a place before the comment on
  old_from : (s : ℕ) → s ≤ start → drop s bytes ≡ drop s (take start bytes) ++ 47 ∷ drop (suc start) bytes
  old_from s le =
      let here : drop start bytes ≡ 47 ∷ drop (suc start) bytes = drop-cons bytes start 0 (omega (arith, left.0, left.1)) ∙ ap (λ k. k ∷ drop (suc start) bytes) (get_of bytes start 47 slash) in
      ap (drop s) (sym (take-append-drop start bytes)) ∙ drop-append-le s (take start bytes) (drop start bytes) (omega (arith, front_length)) ∙ ap (λ (ys : List ℕ). drop s (take start bytes) ++ ys) here

  new_from : (s : ℕ) → s ≤ start → drop s new ≡ drop s (take start bytes) ++ 32 ∷ drop end bytes
  new_from s le = drop-append-le s (take start bytes) (32 ∷ drop end bytes) (omega (arith, front_length))

  front_rest : (s : ℕ) → s ≤ start → length (drop s (take start bytes)) ≡ start - s
  front_rest s le = omega (arith, length-drop s (take start bytes), front_length)

  piece_before : (s e : ℕ) (p : Piece) → IsPiece bytes s e p → e ≤ start → (p ≡ OpenComment → ⊥) → IsPiece new s e p
  piece_before s e p h le ends =
      let long = piece_long bytes s e p h in
      let f = front_of bytes s e p h in
      let kept = front_kept (drop s (take start bytes)) (drop (suc start) bytes) (drop end bytes) (e - s) p (subst (λ (xs : List ℕ). IsFront xs (e - s) p) (old_from s (omega arith)) f) (omega (arith, front_rest s (omega arith))) ends in
      let back : s + (e - s) ≡ e = omega arith in
      subst (λ k. IsPiece new s k p) back (piece_placed new s (e - s) p (omega (arith, new_length)) (subst (λ (xs : List ℕ). IsFront xs (e - s) p) (sym (new_from s (omega arith))) kept))

  slice_before : (s e : ℕ) → s ≤ e → e ≤ start → slice_range new s e ≡ slice_range bytes s e
  slice_before s e long le =
      let short : e - s ≤ length (drop s (take start bytes)) = omega (arith, front_rest s (omega arith)) in
      ap (take (e - s)) (new_from s (omega arith)) ∙ take-append-le (e - s) (drop s (take start bytes)) (32 ∷ drop end bytes) short
      ∙ sym (ap (take (e - s)) (old_from s (omega arith)) ∙ take-append-le (e - s) (drop s (take start bytes)) (47 ∷ drop (suc start) bytes) short)

  line_before : (s : ℕ) → s ≤ start → line_at new s ≡ line_at bytes s
  line_before s le = ap (λ (xs : List ℕ). 1 + newlines xs) (take-append-le s (take start bytes) (32 ∷ drop end bytes) (omega (arith, front_length)) ∙ take-take s start bytes le)

  gap_before : {a b : ℕ} → IsGap bytes a b → b ≤ start → IsGap new a b
  gap_before (none at) le = none at
  gap_before (more s e to p g) le = more s e to (piece_before s e Gap p (omega (arith, gap_forward g)) (λ x. cc)) (gap_before g le)

  token_before : (names : List (List ℕ)) (t : Token) → IsToken bytes names t → t.end ≤ start → IsToken new names t
  token_before names t h le =
      let long = piece_long bytes t.start t.end h.piece h.stands in
      record {
        piece = h.piece;
        stands = piece_before t.start t.end h.piece h.stands le (not_open names (slice_range bytes t.start t.end) h.piece t.kind h.kind);
        kind = subst (λ (x : List ℕ). IsKind names x h.piece t.kind) (sym (slice_before t.start t.end (omega arith) le)) h.kind;
        line = h.line ∙ sym (line_before t.start (omega arith));
      }

  tokens_before : (names : List (List ℕ)) (a : ℕ) (ts : List Token) (b : ℕ) → Tokens bytes names a ts b → b ≤ start → Tokens new names a ts b
  tokens_before names a [] b h le = gap_before h le
  tokens_before names a (t ∷ ts) b h le =
      let ends = tokens_forward bytes names t.end ts b h.2 in
      let long = piece_long bytes t.start t.end h.1.piece h.1.stands in
      (gap_before h.0 (omega arith), token_before names t h.1 (omega arith), tokens_before names t.end ts b h.2 le)

  space : IsPiece new start (start + 1) Gap
  space = piece_placed new start 1 Gap (omega (arith, new_length)) (subst (λ (xs : List ℕ). IsFront xs 1 Gap) (sym (drop_at (take start bytes) (32 ∷ drop end bytes) start front_length)) (white_right 32 (drop end bytes) refl))

  moved_from : (s : ℕ) → end ≤ s → drop (moved s) new ≡ drop s bytes
  moved_from s le =
      let sum : end + (s - end) ≡ s = omega arith in
      ap (λ k. drop (k + suc (s - end)) new) (sym front_length) ∙ drop-append-add (take start bytes) (32 ∷ drop end bytes) (suc (s - end)) ∙ drop-drop (s - end) end bytes ∙ ap (λ k. drop k bytes) sum

  piece_after : (s e : ℕ) (p : Piece) → IsPiece bytes s e p → end ≤ s → IsPiece new (moved s) (moved e) p
  piece_after s e p h le =
      let long = piece_long bytes s e p h in
      let within = h.within in
      let f = subst (λ (xs : List ℕ). IsFront xs (e - s) p) (sym (moved_from s le)) (front_of bytes s e p h) in
      let back : moved s + (e - s) ≡ moved e = omega arith in
      subst (λ k. IsPiece new (moved s) k p) back (piece_placed new (moved s) (e - s) p (omega (arith, new_length)) f)

  slice_after : (s e : ℕ) → end ≤ s → s ≤ e → slice_range new (moved s) (moved e) ≡ slice_range bytes s e
  slice_after s e le long = let same : moved e - moved s ≡ e - s = omega arith in ap (λ k. take k (drop (moved s) new)) same ∙ ap (take (e - s)) (moved_from s le)

  gap_behind : {a b : ℕ} → IsGap bytes a b → end ≤ a → IsGap new (moved a) (moved b)
  gap_behind (none at) le = none (moved at)
  gap_behind (more s e to p g) le = more (moved s) (moved e) (moved to) (piece_after s e Gap p le) (gap_behind g (omega (arith, piece_long bytes s e Gap p)))

  tokens_behind : (names : List (List ℕ)) (a : ℕ) (ts : List Token) (b : ℕ) → Tokens bytes names a ts b → end ≤ a → Tokens new names (moved a) (map moved_token ts) (moved b)
  tokens_behind names a [] b h le = gap_behind h le
  tokens_behind names a (t ∷ ts) b h le =
      let here = gap_forward h.0 in
      let long = piece_long bytes t.start t.end h.1.piece h.1.stands in (
        gap_behind h.0 le,
        record {
          piece = h.1.piece;
          stands = piece_after t.start t.end h.1.piece h.1.stands (omega arith);
          kind = subst (λ (x : List ℕ). IsKind names x h.1.piece t.kind) (sym (slice_after t.start t.end (omega arith) (omega arith))) h.1.kind;
          line = refl;
        },
        tokens_behind names t.end ts b h.2 (omega arith),
      )

  texts_before : (names : List (List ℕ)) (a : ℕ) (ts : List Token) (b : ℕ) → Tokens bytes names a ts b → b ≤ start → name_texts new ts ≡ name_texts bytes ts
  texts_before names a [] b h le = refl
  texts_before names a (t ∷ ts) b h le =
      let ends = tokens_forward bytes names t.end ts b h.2 in
      let long = piece_long bytes t.start t.end h.1.piece h.1.stands in
      let one = slice_before t.start t.end (omega arith) (omega arith) in
      let rest = texts_before names t.end ts b h.2 le in
      λ i. cons_option (if_name t.kind (one i)) (rest i)

  texts_behind : (names : List (List ℕ)) (a : ℕ) (ts : List Token) (b : ℕ) → Tokens bytes names a ts b → end ≤ a → name_texts new (map moved_token ts) ≡ name_texts bytes ts
  texts_behind names a [] b h le = refl
  texts_behind names a (t ∷ ts) b h le =
      let here = gap_forward h.0 in
      let long = piece_long bytes t.start t.end h.1.piece h.1.stands in
      let one = slice_after t.start t.end (omega arith) (omega arith) in
      let rest = texts_behind names t.end ts b h.2 (omega arith) in
      λ i. cons_option (if_name t.kind (one i)) (rest i)

  kinds_kept : (front rest : List Token) → map (λ t. t.kind) (front ++ rest) ≡ map (λ t. t.kind) (front ++ map moved_token rest)
  kinds_kept [] [] = refl
  kinds_kept [] (r ∷ rest) = ap (λ (ks : List Kind). r.kind ∷ ks) (kinds_kept [] rest)
  kinds_kept (t ∷ front) rest = ap (λ (ks : List Kind). t.kind ∷ ks) (kinds_kept front rest)

  length_kept : (front rest : List Token) → length (front ++ map moved_token rest) ≡ length (front ++ rest)
  length_kept [] [] = refl
  length_kept [] (r ∷ rest) = ap suc (length_kept [] rest)
  length_kept (t ∷ front) rest = ap suc (length_kept front rest)

  -- what the new bytes are lexed to
  abbrev spaced_out : Lexed → List Token → List Token → Lexed
  spaced_out l front rest = record { tokens = front ++ map moved_token rest; names = l.names; last = record { 0 = line_at new (length new - 1) } }

  tokens_anew : (names : List (List ℕ)) (front rest : List Token) (to : ℕ) → Tokens bytes names 0 front start → Tokens bytes names end rest to → Tokens new names 0 (front ++ map moved_token rest) (moved to)
  tokens_anew names front rest to before behind =
      let one : start + 1 ≡ moved end = omega arith in
      let first = tokens_gap new names 0 front start (start + 1) (tokens_before names 0 front start before (omega arith)) space in
      let later = tokens_behind names end rest to behind (omega arith) in
      tokens_join new names 0 front (start + 1) (map moved_token rest) (moved to) first (subst (λ k. Tokens new names k (map moved_token rest) (moved to)) (sym one) later)

  lexed_anew : (l : Lexed) (front rest : List Token) → LexesTo bytes l → l.tokens ≡ front ++ rest → Tokens bytes l.names 0 front start → Tokens bytes l.names end rest (length bytes) → LexesTo new (spaced_out l front rest)
  lexed_anew l front rest h parts before behind =
      let all : moved (length bytes) ≡ length new = sym new_length in
      record {
        tokens = subst (Tokens new l.names 0 (front ++ map moved_token rest)) all (tokens_anew l.names front rest (length bytes) before behind);
        names = h.names ∙ ap each_once (
            ap (name_texts bytes) parts ∙ texts_append bytes front rest
            ∙ sym (texts_append new front (map moved_token rest) ∙ (λ i. texts_before l.names 0 front start before (omega arith) i ++ texts_behind l.names end rest (length bytes) behind (omega arith) i))
            );
        last = refl;
        few = omega (arith, h.few, length_kept front rest, ap length parts);
      }

  -- a reading parted by the comment
  record Parted (names : List (List ℕ)) (ts : List Token) (to : ℕ) : Type 0 where
    front : List Token
    rest : List Token
    parts : ts ≡ front ++ rest
    before : Tokens bytes names 0 front start
    behind : Tokens bytes names end rest to

  -- a reading that stops is parted by the comment
  parted : IsSound bytes start → (stop : Stop) (r : Reading bytes stop) → (stop ≡ on → ⊥) → Parted r.names r.tokens r.at
  parted sound stop r ends =
      let count = sound.2 in
      let past : start ≡ r.at → ⊥ = λ same. ends (sym r.stops ∙ subst (λ k. stop_of bytes (length r.tokens) k (sight bytes k) ≡ on) same (ap (stop_of bytes (length r.tokens) start) (seen bytes start Gap (end, whole)))) in
      elim (meet bytes count.names r.names 0 count.tokens r.tokens start r.at count.stand r.stand) [
        | inl a ↦ record { front = a.front; rest = a.rest; parts = a.parts; before = a.before; behind = tokens_after bytes r.names start end a.rest r.at a.later whole past }
        | inr a ↦ absurd (
            let long = alike_long bytes r.names count.names r.tokens a.front a.alike in
            let all : length count.tokens ≡ length a.front + length a.rest = ap length a.parts ∙ length-append a.front a.rest in
            past (sym (ends_there bytes count.names (length r.tokens) r.at a.rest start a.later (omega (arith, sound.1, count.count_is)) (λ e. ends (sym r.stops ∙ e))).0))
      ]

  anew : IsSound bytes start → (l : Lexed) → LexesTo bytes l → (m : Lexed) × LexesTo new m × SameTokens l m
  anew sound l h =
      let p = parted sound whole_stop (reading_whole bytes l h) (λ e. cc) in (
        spaced_out l p.front p.rest,
        lexed_anew l p.front p.rest h p.parts p.before p.behind,
        record { kinds = ap (map (λ t. t.kind)) p.parts ∙ kinds_kept p.front p.rest; names = refl },
      )

  -- a fault behind the comment stands behind the space
  before_anew : IsSound bytes start → (count at : ℕ) (f : LexFault) → count ≤ token_limit → TokensBefore bytes count at → stop_of bytes count at (sight bytes at) ≡ fault f → (end ≤ at) × TokensBefore new count (moved at)
  before_anew sound count at f few b stops =
      let p = parted sound (fault f) (faulty bytes count at f few b stops) (λ e. cc) in (
        tokens_forward bytes b.names end p.rest at p.behind,
        record { names = b.names; tokens = p.front ++ map moved_token p.rest; stand = tokens_anew b.names p.front p.rest at p.before p.behind; count_is = length_kept p.front p.rest ∙ sym (ap length p.parts) ∙ b.count_is },
      )

  none_behind : (at : ℕ) → NoPiece bytes at → end ≤ at → NoPiece new (moved at)
  none_behind at n le =
      let left = n.left in
      record {
        left = omega (arith, new_length);
        none = λ e within.
            let same : take (e - moved at) (drop (moved at) new) ≡ take (e - moved at) (drop at bytes) = ap (take (e - moved at)) (moved_from at le) in
            let back : at + (e - moved at) - at ≡ e - moved at = omega arith in
            ap piece_of same ∙ subst (λ k. piece_of (take k (drop at bytes)) ≡ None) back (n.none (at + (e - moved at)) (omega (arith, new_length)));
      }

  piece_behind : (at : ℕ) (p : Piece) → StandsAt bytes at p → end ≤ at → StandsAt new (moved at) p
  piece_behind at p h le = (moved h.0, piece_after at h.0 p h.1 le)

  fault_anew : IsSound bytes start → (f : LexFault) → IsFirstFault bytes f → (place : ℕ) × IsFirstFault new (placed f place)
  fault_anew sound (faults.BadByte at) h =
      let b = before_anew sound h.0.0 at _ h.0.1 h.0.2 (stop_none bytes h.0.0 at h.1) in
      (moved at, ((h.0.0, h.0.1, b.1), none_behind at h.1 b.0))
  fault_anew sound (faults.BadNumber at) h =
      let b = before_anew sound h.0.0 at _ h.0.1 h.0.2 (stop_piece bytes h.0.0 at BadNumber _ h.1 refl) in
      (moved at, ((h.0.0, h.0.1, b.1), piece_behind at BadNumber h.1 b.0))
  fault_anew sound (faults.BigNumber at) h =
      let b = before_anew sound h.0.0 at _ h.0.1 h.0.2 (stop_piece bytes h.0.0 at BigNumber _ h.1 refl) in
      (moved at, ((h.0.0, h.0.1, b.1), piece_behind at BigNumber h.1 b.0))
  fault_anew sound (faults.OpenComment at) h =
      let b = before_anew sound h.0.0 at _ h.0.1 h.0.2 (stop_piece bytes h.0.0 at OpenComment _ h.1 refl) in
      (moved at, ((h.0.0, h.0.1, b.1), piece_behind at OpenComment h.1 b.0))
  fault_anew sound (faults.TooMany at) h =
      let b = before_anew sound token_limit at _ (omega arith) h.0 (stop_piece bytes token_limit at h.1.0 _ h.1.2 (many_at at h.1.0 h.1.1)) in
      (moved at, (b.1, (h.1.0, h.1.1, piece_behind at h.1.0 h.1.2 b.0)))
  fault_anew sound faults.Memory h = absurd h

pub comment_is_space : CommentIsSpace
comment_is_space bytes start end (Ok l) c h = let m = anew bytes start end c.slash c.whole c.before l h in (Ok m.0, m.1, m.2)
comment_is_space bytes start end (Err f) c h = let g = fault_anew bytes start end c.slash c.whole c.before f h in (Err (placed f g.0), g.1, (g.0, refl))
