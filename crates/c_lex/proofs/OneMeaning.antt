-- Bytes have one meaning.
use Rattle.std.proofs.Common.{◌≡◌, ℕ, List, [], ◌∷◌, Option, Some, None, refl, sym, ap, subst, ◌∙◌}
use Rattle.std.specs.Prelude.{slice_range, IfSome, Ok, Err, Result}
use Rattle.std.specs.List.{cons_option}
use Rattle.c_lex.specs.declared.fault.LexFault.{LexFault}
use Rattle.c_lex.specs.declared.piece.Piece.{Piece}
use Rattle.c_lex.specs.declared.piece.Piece.TheVariants.{Gap, Word, Name, Number, Mark, BadNumber, BigNumber, OpenComment}
use Rattle.c_lex.specs.declared.token.Kind.{Kind}
use Rattle.c_lex.specs.declared.token.Token.{Token}
use Rattle.c_lex.specs.FirstFault.{IsFirstFault, Means, Tells, told}
use Rattle.c_lex.specs.IsLexed.{Lexed, LexesTo, NamesDiffer}
use Rattle.c_lex.specs.Names.{each_once, if_name, name_texts}
use Rattle.c_lex.specs.Tokens.{IsKind}
use Rattle.c_lex.proofs.Rules.{one_number, once_differ}
use Rattle.c_lex.proofs.Unique.{Alike, AlikeToken, agree, one_stop, reading_fault, reading_whole}
use Rattle.c_lex.proofs.Unique.Stop.{whole, fault, on}

-- ---- names

same_name : (ns ms : List (List ℕ)) (x y : List ℕ) (piece : Piece) (k j : Kind) → x ≡ y → IsKind ns x piece k → IsKind ms y piece j → if_name k x ≡ if_name j y
same_name ns ms x y Gap k j e h g = absurd h
same_name ns ms x y (Word w) k j e h g = ap (λ k. if_name k x) h ∙ sym (ap (λ k. if_name k y) g)
same_name ns ms x y Name k j e h g = ap (λ k. if_name k x) h.1 ∙ ap (λ (t : List ℕ). Some t) e ∙ sym (ap (λ k. if_name k y) g.1)
same_name ns ms x y (Number n) k j e h g = ap (λ k. if_name k x) h ∙ sym (ap (λ k. if_name k y) g)
same_name ns ms x y (Mark m) k j e h g = ap (λ k. if_name k x) h ∙ sym (ap (λ k. if_name k y) g)
same_name ns ms x y BadNumber k j e h g = absurd h
same_name ns ms x y BigNumber k j e h g = absurd h
same_name ns ms x y OpenComment k j e h g = absurd h

same_slice : (bytes : List ℕ) (ns ms : List (List ℕ)) (t u : Token) → AlikeToken bytes ns ms t u → slice_range bytes t.start t.end ≡ slice_range bytes u.start u.end
same_slice bytes ns ms t u a = λ i. slice_range bytes (a.start i) (a.end i)

same_texts : (bytes : List ℕ) (ns ms : List (List ℕ)) (ts us : List Token) → Alike bytes ns ms ts us → name_texts bytes ts ≡ name_texts bytes us
same_texts bytes ns ms [] [] h = refl
same_texts bytes ns ms [] (u ∷ us) h = absurd h
same_texts bytes ns ms (t ∷ ts) [] h = absurd h
same_texts bytes ns ms (t ∷ ts) (u ∷ us) h =
    let one = same_name ns ms _ _ h.0.piece t.kind u.kind (same_slice bytes ns ms t u h.0) h.0.left h.0.right in
    let later = same_texts bytes ns ms ts us h.1 in
    λ i. cons_option (one i) (later i)

-- ---- kinds

same_kind : (names : List (List ℕ)) (text : List ℕ) (piece : Piece) (k j : Kind) → NamesDiffer names → IsKind names text piece k → IsKind names text piece j → k ≡ j
same_kind names text Gap k j d h g = absurd h
same_kind names text (Word w) k j d h g = h ∙ sym g
same_kind names text Name k j d h g = h.1 ∙ ap (λ n. Kind.Id n) (one_number names text h.0 g.0 d h.2 g.2) ∙ sym g.1
same_kind names text (Number n) k j d h g = h ∙ sym g
same_kind names text (Mark m) k j d h g = h ∙ sym g
same_kind names text BadNumber k j d h g = absurd h
same_kind names text BigNumber k j d h g = absurd h
same_kind names text OpenComment k j d h g = absurd h

same_token : (bytes : List ℕ) (names : List (List ℕ)) (t u : Token) → NamesDiffer names → AlikeToken bytes names names t u → t ≡ u
same_token bytes names t u d a =
    let moved : IsKind names (slice_range bytes u.start u.end) a.piece t.kind = subst (λ (x : List ℕ). IsKind names x a.piece t.kind) (same_slice bytes names names t u a) a.left in
    let kinds = same_kind names (slice_range bytes u.start u.end) a.piece t.kind u.kind d moved a.right in
    λ i. record { kind = kinds i; start = a.start i; end = a.end i; line = record { 0 = a.line i } }

same_tokens : (bytes : List ℕ) (names : List (List ℕ)) (ts us : List Token) → NamesDiffer names → Alike bytes names names ts us → ts ≡ us
same_tokens bytes names [] [] d h = refl
same_tokens bytes names [] (u ∷ us) d h = absurd h
same_tokens bytes names (t ∷ ts) [] d h = absurd h
same_tokens bytes names (t ∷ ts) (u ∷ us) d h =
    let one = same_token bytes names t u d h.0 in
    let later = same_tokens bytes names ts us d h.1 in
    λ i. one i ∷ later i

-- ---- what bytes are lexed to

whole_ends : whole ≡ on → ⊥
whole_ends e = cc

fault_ends : (f : LexFault) → fault f ≡ on → ⊥
fault_ends f e = cc

pub one_lexed : (bytes : List ℕ) (l m : Lexed) → LexesTo bytes l → LexesTo bytes m → l ≡ m
one_lexed bytes l m h g =
    let a = agree bytes whole whole (reading_whole bytes l h) (reading_whole bytes m g) whole_ends whole_ends in
    let names : l.names ≡ m.names = h.names ∙ ap each_once (same_texts bytes l.names m.names l.tokens m.tokens a.alike) ∙ sym g.names in
    let differ : NamesDiffer m.names = subst NamesDiffer (sym g.names) (once_differ (name_texts bytes m.tokens)) in
    let alike : Alike bytes m.names m.names l.tokens m.tokens = subst (λ (ns : List (List ℕ)). Alike bytes ns m.names l.tokens m.tokens) names a.alike in
    let tokens = same_tokens bytes m.names l.tokens m.tokens differ alike in
    let last : l.last.0 ≡ m.last.0 = h.last ∙ sym g.last in
    λ i. record { tokens = tokens i; names = names i; last = record { 0 = last i } }

same_fault : (f g : LexFault) → fault f ≡ fault g → f ≡ g
same_fault f g e = cc

pub one_meaning : (bytes : List ℕ) (a b : Result Lexed LexFault) → Means bytes a → Means bytes b → a ≡ b
one_meaning bytes (Ok l) (Ok m) h g = ap (λ (x : Lexed). Ok x) (one_lexed bytes l m h g)
one_meaning bytes (Ok l) (Err f) h g = absurd (let e = one_stop bytes whole (fault f) (reading_whole bytes l h) (reading_fault bytes f g) whole_ends (fault_ends f) in cc)
one_meaning bytes (Err f) (Ok m) h g = absurd (let e = one_stop bytes (fault f) whole (reading_fault bytes f h) (reading_whole bytes m g) (fault_ends f) whole_ends in cc)
one_meaning bytes (Err f) (Err g) h k = ap (λ (x : LexFault). Err x) (same_fault f g (one_stop bytes (fault f) (fault g) (reading_fault bytes f h) (reading_fault bytes g k) (fault_ends f) (fault_ends g)))

-- ---- what a call answers

-- a fault that is the first of the bytes is what they mean
pub gives_fault : (bytes : List ℕ) (f : LexFault) → Tells bytes f → (meaning : Result Lexed LexFault) → Means bytes meaning → IfSome (told f) (λ g. meaning ≡ Err g)
gives_fault bytes f h meaning means = by (told f) h
  where
    by : (o : Option LexFault) → IfSome o (λ g. IsFirstFault bytes g) → IfSome o (λ g. meaning ≡ Err g)
    by None h = tt
    by (Some g) h = one_meaning bytes meaning (Err g) means h

-- tokens of the bytes are what they mean
pub gives_tokens : (bytes : List ℕ) (l : Lexed) → LexesTo bytes l → (meaning : Result Lexed LexFault) → Means bytes meaning → meaning ≡ Ok l
gives_tokens bytes l h meaning means = one_meaning bytes meaning (Ok l) means h
