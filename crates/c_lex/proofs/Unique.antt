-- Bytes have one meaning.
use Rattle.std.proofs.Common.{◌≡◌, ℕ, suc, ◌+◌, ◌-◌, ◌<◌, ◌≤◌, ◌⊎◌, inl, inr, true, false, cond, eqb, ltb, List, [], ◌∷◌, ◌++◌, length, drop, Option, Some, None, refl, sym, ap, subst, ◌∙◌, length-append, length-drop, arith}
use Rattle.std.specs.Prelude.{slice_range, IsTrue}
use Rattle.std.specs.Option.{option_map}
use Rattle.std.proofs.lemmas.Bool.{cases_lt, le-ltb, lt-ltb, ne_eqb}
use Rattle.std.proofs.lemmas.List.{append-nil}
use Rattle.std.proofs.lemmas.Option.{same_Some}
use Rattle.c_lex.specs.declared.fault.LexFault.{LexFault}
use Rattle.c_lex.specs.declared.fault.LexFault.TheVariants as faults
use Rattle.c_lex.specs.declared.piece.Piece.{Piece}
use Rattle.c_lex.specs.declared.piece.Piece.TheVariants.{Gap, Word, Name, Number, Mark, BadNumber, BigNumber, OpenComment}
use Rattle.c_lex.specs.declared.token.Kind.{Kind}
use Rattle.c_lex.specs.declared.token.Token.{Token}
use Rattle.c_lex.specs.Bytes.{line_at}
use Rattle.c_lex.specs.FirstFault.{is_token, IsFirstFault, TokensBefore}
use Rattle.c_lex.specs.IsLexed.{Lexed, LexesTo}
use Rattle.c_lex.specs.IsPiece.{StandsAt, NoPiece, IsPiece}
use Rattle.c_lex.specs.PieceOf.{piece_of}
use Rattle.c_lex.specs.tools.Scanning.{piece_at}
use Rattle.c_lex.specs.Tokens.{IsGap, IsKind, IsToken, Tokens}
use Rattle.c_lex.specs.Tokens.IsGap.{none, more}
use Rattle.c_lex.proofs.LongestPiece.{IsRight, no_piece, piece_right}
use Rattle.c_lex.proofs.Steps.{none_placed, piece_long, piece_placed}
use Rattle.dfi_base.specs.Limits.{token_limit}

-- ---- one piece at a place

not_longer : (bytes : List ℕ) (s e f : ℕ) (p q : Piece) → IsPiece bytes s e p → IsPiece bytes s f q → e < f → ⊥
not_longer bytes s e f p q h g lt = let none = h.longest f lt g.within in let some = g.is in cc

pub one_end : (bytes : List ℕ) (s e f : ℕ) (p q : Piece) → IsPiece bytes s e p → IsPiece bytes s f q → e ≡ f
one_end bytes s e f p q h g = elim (cases_lt e f) [
  | inl lt ↦ absurd (not_longer bytes s e f p q h g lt)
  | inr le ↦ elim (cases_lt f e) [ inl lt ↦ absurd (not_longer bytes s f e q p g h lt) | inr ge ↦ omega arith ]
]

pub one_piece : (bytes : List ℕ) (s e f : ℕ) (p q : Piece) → IsPiece bytes s e p → IsPiece bytes s f q → p ≡ q
one_piece bytes s e f p q h g =
    let same = one_end bytes s e f p q h g in
    same_Some p q (sym h.is ∙ ap (λ k. piece_of (slice_range bytes s k)) same ∙ g.is)

-- ---- what stands at a place, by the piece that is read there

abbrev pub sight : List ℕ → ℕ → Option Piece
sight bytes at = option_map (λ x. x.1) (piece_at (drop at bytes))

seen_by : (bytes : List ℕ) (at end : ℕ) (piece : Piece) → at < length bytes → IsPiece bytes at end piece → (r : Option (ℕ × Piece)) → IsRight (drop at bytes) r → option_map (λ x. x.1) r ≡ Some piece
seen_by bytes at end piece left p None f = absurd (let e = (none_placed bytes at left f).none end p.within in let some = p.is in cc)
seen_by bytes at end piece left p (Some x) f = ap (λ q. Some q) (one_piece bytes at (at + x.0) end x.1 piece (piece_placed bytes at x.0 x.1 (omega arith) f) p)

pub seen : (bytes : List ℕ) (at : ℕ) (piece : Piece) → StandsAt bytes at piece → sight bytes at ≡ Some piece
seen bytes at piece b =
    let long = piece_long bytes at b.0 piece b.1 in
    let within = b.1.within in
    seen_by bytes at b.0 piece (omega arith) b.1 (piece_at (drop at bytes)) (piece_right (drop at bytes))

unseen_by : (bytes : List ℕ) (at : ℕ) → NoPiece bytes at → (r : Option (ℕ × Piece)) → IsRight (drop at bytes) r → option_map (λ x. x.1) r ≡ None
unseen_by bytes at n None f = refl
unseen_by bytes at n (Some x) f =
    let left = n.left in
    let p = piece_placed bytes at x.0 x.1 (omega arith) f in
    absurd (let e = n.none (at + x.0) p.within in let some = p.is in cc)

unseen : (bytes : List ℕ) (at : ℕ) → NoPiece bytes at → sight bytes at ≡ None
unseen bytes at n = unseen_by bytes at n (piece_at (drop at bytes)) (piece_right (drop at bytes))

ended_by : (bytes rest : List ℕ) → length rest ≡ 0 → IsRight rest (piece_at rest) → option_map (λ x. x.1) (piece_at rest) ≡ None
ended_by bytes [] e f = no_piece
ended_by bytes (b ∷ bs) e f = absurd (omega arith)

-- at the end nothing is seen
pub ended : (bytes : List ℕ) → sight bytes (length bytes) ≡ None
ended bytes = ended_by bytes (drop (length bytes) bytes) (let rest : length (drop (length bytes) bytes) ≡ length bytes - length bytes = length-drop (length bytes) bytes in omega arith) (piece_right (drop (length bytes) bytes))

-- ---- how a reading stops

-- the fault of a piece at a place behind so many tokens, none where the reading goes on
abbrev pub fault_at : ℕ → ℕ → Piece → Option LexFault
fault_at count at Gap = None
fault_at count at (Word w) = cond (eqb count token_limit) (Some (faults.TooMany at)) None
fault_at count at Name = cond (eqb count token_limit) (Some (faults.TooMany at)) None
fault_at count at (Number n) = cond (eqb count token_limit) (Some (faults.TooMany at)) None
fault_at count at (Mark m) = cond (eqb count token_limit) (Some (faults.TooMany at)) None
fault_at count at BadNumber = Some (faults.BadNumber at)
fault_at count at BigNumber = Some (faults.BigNumber at)
fault_at count at OpenComment = Some (faults.OpenComment at)

-- the end of the bytes, a fault, or neither
pub data Stop : Type 0 where
  whole : Stop
  fault : LexFault → Stop
  on : Stop

abbrev pub stop_by : Option LexFault → Stop
stop_by None = on
stop_by (Some f) = fault f

abbrev pub stop_of : List ℕ → ℕ → ℕ → Option Piece → Stop
stop_of bytes count at None = cond (ltb at (length bytes)) (fault (faults.BadByte at)) whole
stop_of bytes count at (Some piece) = stop_by (fault_at count at piece)

-- so many tokens, and then a stop
pub record Reading (bytes : List ℕ) (stop : Stop) : Type 0 where
  pub names : List (List ℕ)
  pub tokens : List Token
  pub at : ℕ
  pub stand : Tokens bytes names 0 tokens at
  pub few : length tokens ≤ token_limit
  pub stops : stop_of bytes (length tokens) at (sight bytes at) ≡ stop

pub many_at : (at : ℕ) (piece : Piece) → IsTrue (is_token piece) → fault_at token_limit at piece ≡ Some (faults.TooMany at)
many_at at Gap t = absurd cc
many_at at (Word w) t = refl
many_at at Name t = refl
many_at at (Number n) t = refl
many_at at (Mark m) t = refl
many_at at BadNumber t = absurd cc
many_at at BigNumber t = absurd cc
many_at at OpenComment t = absurd cc

token_on : (count at : ℕ) (piece : Piece) → IsTrue (is_token piece) → count < token_limit → stop_by (fault_at count at piece) ≡ on
token_on count at Gap t few = refl
token_on count at (Word w) t few = let apart : eqb count token_limit ≡ false = ne_eqb _ _ (λ e. omega arith) in rw apart refl
token_on count at Name t few = let apart : eqb count token_limit ≡ false = ne_eqb _ _ (λ e. omega arith) in rw apart refl
token_on count at (Number n) t few = let apart : eqb count token_limit ≡ false = ne_eqb _ _ (λ e. omega arith) in rw apart refl
token_on count at (Mark m) t few = let apart : eqb count token_limit ≡ false = ne_eqb _ _ (λ e. omega arith) in rw apart refl
token_on count at BadNumber t few = absurd cc
token_on count at BigNumber t few = absurd cc
token_on count at OpenComment t few = absurd cc

pub stop_piece : (bytes : List ℕ) (count at : ℕ) (piece : Piece) (f : LexFault) → StandsAt bytes at piece → fault_at count at piece ≡ Some f → stop_of bytes count at (sight bytes at) ≡ fault f
stop_piece bytes count at piece f b e = ap (stop_of bytes count at) (seen bytes at piece b) ∙ ap stop_by e

abbrev pub faulty : (bytes : List ℕ) (count at : ℕ) (f : LexFault) → count ≤ token_limit → (r : TokensBefore bytes count at) → stop_of bytes count at (sight bytes at) ≡ fault f → Reading bytes (fault f)
faulty bytes count at f few r e =
    record { names = r.names; tokens = r.tokens; at = at; stand = r.stand; few = omega (arith, r.count_is); stops = ap (λ n. stop_of bytes n at (sight bytes at)) r.count_is ∙ e }

pub stop_none : (bytes : List ℕ) (count at : ℕ) → NoPiece bytes at → stop_of bytes count at (sight bytes at) ≡ fault (faults.BadByte at)
stop_none bytes count at n =
    let left : ltb at (length bytes) ≡ true = lt-ltb _ _ n.left in
    ap (stop_of bytes count at) (unseen bytes at n) ∙ rw left refl

pub reading_fault : (bytes : List ℕ) (f : LexFault) → IsFirstFault bytes f → Reading bytes (fault f)
reading_fault bytes (faults.BadByte at) h =
    faulty bytes h.0.0 at _ h.0.1 h.0.2 (stop_none bytes h.0.0 at h.1)
reading_fault bytes (faults.BadNumber at) h = faulty bytes h.0.0 at _ h.0.1 h.0.2 (stop_piece bytes h.0.0 at BadNumber _ h.1 refl)
reading_fault bytes (faults.BigNumber at) h = faulty bytes h.0.0 at _ h.0.1 h.0.2 (stop_piece bytes h.0.0 at BigNumber _ h.1 refl)
reading_fault bytes (faults.OpenComment at) h = faulty bytes h.0.0 at _ h.0.1 h.0.2 (stop_piece bytes h.0.0 at OpenComment _ h.1 refl)
reading_fault bytes (faults.TooMany at) h = faulty bytes token_limit at _ (omega arith) h.0 (stop_piece bytes token_limit at h.1.0 _ h.1.2 (many_at at h.1.0 h.1.1))
reading_fault bytes faults.Memory h = absurd h

abbrev pub reading_whole : (bytes : List ℕ) (l : Lexed) → LexesTo bytes l → Reading bytes whole
reading_whole bytes l h =
    let past : ltb (length bytes) (length bytes) ≡ false = le-ltb _ _ (omega arith) in
    record {
      names = l.names;
      tokens = l.tokens;
      at = length bytes;
      stand = h.tokens;
      few = h.few;
      stops = ap (stop_of bytes (length l.tokens) (length bytes)) (ended bytes) ∙ rw past refl;
    }

-- ---- two readings from one place

gaps_meet : {bytes : List ℕ} {a b c : ℕ} → IsGap bytes a b → IsGap bytes a c → IsGap bytes b c ⊎ IsGap bytes c b
gaps_meet (none at) g = inl g
gaps_meet (more start end to p h) (none at) = inr (more start end to p h)
gaps_meet {bytes} (more start end to p h) (more start' end' to' q g) =
    gaps_meet h (subst (λ k. IsGap bytes k to') (one_end bytes start end' end Gap Gap q p) g)

gap_token : {bytes : List ℕ} {s b : ℕ} (e : ℕ) (piece : Piece) → IsGap bytes s b → IsPiece bytes s e piece → IsTrue (is_token piece) → s ≡ b
gap_token e piece (none at) p t = refl
gap_token {bytes} e piece (more start end to q g) p t = absurd (let same = one_piece bytes start e end piece Gap p q in let no : IsTrue (is_token Gap) = subst (λ x. IsTrue (is_token x)) same t in cc)

pub kind_token : (names : List (List ℕ)) (text : List ℕ) (piece : Piece) (kind : Kind) → IsKind names text piece kind → IsTrue (is_token piece)
kind_token names text Gap kind h = absurd h
kind_token names text (Word w) kind h = refl
kind_token names text Name kind h = refl
kind_token names text (Number n) kind h = refl
kind_token names text (Mark m) kind h = refl
kind_token names text BadNumber kind h = absurd h
kind_token names text BigNumber kind h = absurd h
kind_token names text OpenComment kind h = absurd h

is_one : (bytes : List ℕ) (names : List (List ℕ)) (t : Token) → IsToken bytes names t → (piece : Piece) × IsTrue (is_token piece) × IsPiece bytes t.start t.end piece
is_one bytes names t h = (h.piece, kind_token names (slice_range bytes t.start t.end) h.piece t.kind h.kind, h.stands)

-- two tokens that are the same piece at the same place
pub record AlikeToken (bytes : List ℕ) (ns ms : List (List ℕ)) (t u : Token) : Type 0 where
  pub start : t.start ≡ u.start
  pub end : t.end ≡ u.end
  pub line : t.line.0 ≡ u.line.0
  pub piece : Piece
  pub left : IsKind ns (slice_range bytes t.start t.end) piece t.kind
  pub right : IsKind ms (slice_range bytes u.start u.end) piece u.kind

abbrev pub Alike : List ℕ → List (List ℕ) → List (List ℕ) → List Token → List Token → Type 0
Alike bytes ns ms [] [] = Unit {0}
Alike bytes ns ms [] (u ∷ us) = ⊥
Alike bytes ns ms (t ∷ ts) [] = ⊥
Alike bytes ns ms (t ∷ ts) (u ∷ us) = AlikeToken bytes ns ms t u × Alike bytes ns ms ts us

alike_back : (bytes : List ℕ) (ns ms : List (List ℕ)) (ts us : List Token) → Alike bytes ns ms ts us → Alike bytes ms ns us ts
alike_back bytes ns ms [] [] h = tt
alike_back bytes ns ms [] (u ∷ us) h = absurd h
alike_back bytes ns ms (t ∷ ts) [] h = absurd h
alike_back bytes ns ms (t ∷ ts) (u ∷ us) h =
    (record { start = sym h.0.start; end = sym h.0.end; line = sym h.0.line; piece = h.0.piece; left = h.0.right; right = h.0.left }, alike_back bytes ns ms ts us h.1)

pub alike_long : (bytes : List ℕ) (ns ms : List (List ℕ)) (ts us : List Token) → Alike bytes ns ms ts us → length ts ≡ length us
alike_long bytes ns ms [] [] h = refl
alike_long bytes ns ms [] (u ∷ us) h = absurd h
alike_long bytes ns ms (t ∷ ts) [] h = absurd h
alike_long bytes ns ms (t ∷ ts) (u ∷ us) h = ap suc (alike_long bytes ns ms ts us h.1)

-- the second reading is the first, and goes on
pub record Ahead (bytes : List ℕ) (ns ms : List (List ℕ)) (a : ℕ) (ts us : List Token) (b c : ℕ) : Type 0 where
  pub front : List Token
  pub rest : List Token
  pub parts : us ≡ front ++ rest
  pub alike : Alike bytes ns ms ts front
  pub before : Tokens bytes ms a front b
  pub later : Tokens bytes ms b rest c

at_once : (bytes : List ℕ) (ns ms : List (List ℕ)) (a : ℕ) (us : List Token) (b c : ℕ) → IsGap bytes a b → Tokens bytes ms b us c → Ahead bytes ns ms a [] us b c
at_once bytes ns ms a us b c g h = record { front = []; rest = us; parts = refl; alike = tt; before = g; later = h }

ahead_more : (bytes : List ℕ) (ns ms : List (List ℕ)) (a : ℕ) (t u : Token) (ts us : List Token) (b c : ℕ) → AlikeToken bytes ns ms t u → IsGap bytes a u.start → IsToken bytes ms u → Ahead bytes ns ms u.end ts us b c → Ahead bytes ns ms a (t ∷ ts) (u ∷ us) b c
ahead_more bytes ns ms a t u ts us b c one g is h =
    record { front = u ∷ h.front; rest = h.rest; parts = ap (λ (xs : List Token). u ∷ xs) h.parts; alike = (one, h.alike); before = (g, is, h.before); later = h.later }

-- a gap up to where the other reading has a token
token_later : (bytes : List ℕ) (ms : List (List ℕ)) (u : Token) (us : List Token) (b c : ℕ) → IsGap bytes b u.start ⊎ IsGap bytes u.start b → IsToken bytes ms u → Tokens bytes ms u.end us c → Tokens bytes ms b (u ∷ us) c
token_later bytes ms u us b c (inl g) h later = (g, h, later)
token_later bytes ms u us b c (inr g) h later =
    let one = is_one bytes ms u h in
    let same = gap_token u.end one.0 g one.2 one.1 in
    (subst (λ k. IsGap bytes k u.start) same (none u.start), h, later)

same_start : (bytes : List ℕ) (ns ms : List (List ℕ)) (t u : Token) → IsGap bytes t.start u.start ⊎ IsGap bytes u.start t.start → IsToken bytes ns t → IsToken bytes ms u → t.start ≡ u.start
same_start bytes ns ms t u (inl g) h k = let one = is_one bytes ns t h in gap_token t.end one.0 g one.2 one.1
same_start bytes ns ms t u (inr g) h k = let one = is_one bytes ms u k in sym (gap_token u.end one.0 g one.2 one.1)

alike_one : (bytes : List ℕ) (ns ms : List (List ℕ)) (t u : Token) → t.start ≡ u.start → IsToken bytes ns t → IsToken bytes ms u → AlikeToken bytes ns ms t u
alike_one bytes ns ms t u same h k =
    let moved : IsPiece bytes t.start u.end k.piece = subst (λ s. IsPiece bytes s u.end k.piece) (sym same) k.stands in
    let ends = one_end bytes t.start t.end u.end h.piece k.piece h.stands moved in
    let pieces = one_piece bytes t.start t.end u.end h.piece k.piece h.stands moved in
    record {
      start = same;
      end = ends;
      line = h.line ∙ ap (line_at bytes) same ∙ sym k.line;
      piece = k.piece;
      left = subst (λ (p : Piece). IsKind ns (slice_range bytes t.start t.end) p t.kind) pieces h.kind;
      right = k.kind;
    }

both : {A B C D : Type 0} → (A → C) → (B → D) → A ⊎ B → C ⊎ D
both f g (inl a) = inl (f a)
both f g (inr b) = inr (g b)

pub meet : (bytes : List ℕ) (ns ms : List (List ℕ)) (a : ℕ) (ts us : List Token) (b c : ℕ) → Tokens bytes ns a ts b → Tokens bytes ms a us c → Ahead bytes ns ms a ts us b c ⊎ Ahead bytes ms ns a us ts c b
meet bytes ns ms a [] [] b c h g = both (at_once bytes ns ms a [] b c h) (at_once bytes ms ns a [] c b g) (gaps_meet h g)
meet bytes ns ms a [] (u ∷ us) b c h g = inl (at_once bytes ns ms a (u ∷ us) b c h (token_later bytes ms u us b c (gaps_meet h g.0) g.1 g.2))
meet bytes ns ms a (t ∷ ts) [] b c h g = inr (at_once bytes ms ns a (t ∷ ts) c b g (token_later bytes ns t ts c b (gaps_meet g h.0) h.1 h.2))
meet bytes ns ms a (t ∷ ts) (u ∷ us) b c h g =
    let same = same_start bytes ns ms t u (gaps_meet h.0 g.0) h.1 g.1 in
    let one = alike_one bytes ns ms t u same h.1 g.1 in
    let back : AlikeToken bytes ms ns u t = record { start = sym one.start; end = sym one.end; line = sym one.line; piece = one.piece; left = one.right; right = one.left } in
    both (λ (x : Ahead bytes ns ms t.end ts us b c). ahead_more bytes ns ms a t u ts us b c one g.0 g.1 (subst (λ k. Ahead bytes ns ms k ts us b c) one.end x)) (ahead_more bytes ms ns a u t us ts c b back h.0 h.1)
    (meet bytes ns ms t.end ts us b c h.2 (subst (λ k. Tokens bytes ms k us c) (sym one.end) g.2))

-- ---- where one reading stops, another goes no further

gap_on : {bytes : List ℕ} {b c : ℕ} (count : ℕ) → IsGap bytes b c → (stop_of bytes count b (sight bytes b) ≡ on → ⊥) → b ≡ c
gap_on count (none at) stops = refl
gap_on {bytes} count (more start end to p g) stops = absurd (stops (ap (stop_of bytes count start) (seen bytes start Gap (end, p))))

token_stays : (bytes : List ℕ) (ms : List (List ℕ)) (count b : ℕ) (u : Token) → IsGap bytes b u.start → IsToken bytes ms u → count < token_limit → (stop_of bytes count b (sight bytes b) ≡ on → ⊥) → ⊥
token_stays bytes ms count b u g h few stops =
    let one = is_one bytes ms u h in
    let same = gap_on count g stops in
    let begins : StandsAt bytes b one.0 = subst (λ k. StandsAt bytes k one.0) (sym same) (u.end, one.2) in
    stops (ap (stop_of bytes count b) (seen bytes b one.0 begins) ∙ token_on count b one.0 one.1 few)

-- nothing is ahead of a stop
pub ends_there : (bytes : List ℕ) (ms : List (List ℕ)) (count b : ℕ) (rest : List Token) (c : ℕ) → Tokens bytes ms b rest c → count + length rest ≤ token_limit → (stop_of bytes count b (sight bytes b) ≡ on → ⊥) → (b ≡ c) × (rest ≡ [])
ends_there bytes ms count b [] c h few stops = (gap_on count h stops, refl)
ends_there bytes ms count b (u ∷ us) c h few stops = absurd (token_stays bytes ms count b u h.0 h.1 (omega arith) stops)

-- two readings that stop have the same tokens, and stop at the same place
pub record Agree (bytes : List ℕ) (s t : Stop) (r : Reading bytes s) (q : Reading bytes t) : Type 0 where
  pub place : r.at ≡ q.at
  pub alike : Alike bytes r.names q.names r.tokens q.tokens

agree_ahead : (bytes : List ℕ) (s t : Stop) (r : Reading bytes s) (q : Reading bytes t) → (s ≡ on → ⊥) → Ahead bytes r.names q.names 0 r.tokens q.tokens r.at q.at → Agree bytes s t r q
agree_ahead bytes s t r q stops a =
    let long = alike_long bytes r.names q.names r.tokens a.front a.alike in
    let whole : length q.tokens ≡ length a.front + length a.rest = ap length a.parts ∙ length-append a.front a.rest in
    let few = q.few in
    let there = ends_there bytes q.names (length r.tokens) r.at a.rest q.at a.later (omega arith) (λ e. stops (sym r.stops ∙ e)) in
    let same : q.tokens ≡ a.front = a.parts ∙ ap (λ (xs : List Token). a.front ++ xs) there.1 ∙ append-nil a.front in
    record { place = there.0; alike = subst (Alike bytes r.names q.names r.tokens) (sym same) a.alike }

agree_back : (bytes : List ℕ) (s t : Stop) (r : Reading bytes s) (q : Reading bytes t) → Agree bytes t s q r → Agree bytes s t r q
agree_back bytes s t r q a = record { place = sym a.place; alike = alike_back bytes q.names r.names q.tokens r.tokens a.alike }

pub agree : (bytes : List ℕ) (s t : Stop) (r : Reading bytes s) (q : Reading bytes t) → (s ≡ on → ⊥) → (t ≡ on → ⊥) → Agree bytes s t r q
agree bytes s t r q ends ends' =
    elim (meet bytes r.names q.names 0 r.tokens q.tokens r.at q.at r.stand q.stand) [
      | inl a ↦ agree_ahead bytes s t r q ends a
      | inr a ↦ agree_back bytes s t r q (agree_ahead bytes t s q r ends' a)
    ]

pub one_stop : (bytes : List ℕ) (s t : Stop) → Reading bytes s → Reading bytes t → (s ≡ on → ⊥) → (t ≡ on → ⊥) → s ≡ t
one_stop bytes s t r q ends ends' =
    let a = agree bytes s t r q ends ends' in
    let long = alike_long bytes r.names q.names r.tokens q.tokens a.alike in
    sym r.stops ∙ (λ i. stop_of bytes (long i) (a.place i) (sight bytes (a.place i))) ∙ q.stops
