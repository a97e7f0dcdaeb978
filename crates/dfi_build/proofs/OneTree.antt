-- Tokens have one tree or one first fault, and typed programs follow.
use Rattle.std.proofs.Common.{◌≡◌, ◌≤◌, ◌<◌, ◌-◌, ℕ, Bool, true, false, true≢false, List, [], length, Ok, Err, refl, sym, ap, subst, ◌∙◌, arith}
use Rattle.std.specs.Prelude.{Result}
use Rattle.dfi_base.specs.declared.numbers.Line.{Line}
use Rattle.c_lex.specs.IsLexed.{Lexed, LexesTo}
use Rattle.c_lex.specs.FirstFault.{IsFirstFault}
use Rattle.c_lex.specs.declared.fault.LexFault.{LexFault}
use Rattle.c_lex.proofs.OneMeaning.{one_meaning, one_lexed}
use Rattle.c_ast.specs.Ast.{Ast}
use Rattle.c_ast.specs.declared.program.Item.{Item}
use Rattle.parse_law.specs.Tells.{Tells}
use Rattle.parse_law.specs.tools.Parsing.{Answer, done, fault, unexpected, deep}
use Rattle.c_parse.specs.declared.fault.ParseFault.{ParseFault}
use Rattle.c_parse.specs.Symbol.{Symbol, Symbols, symbols_of}
use Rattle.c_parse.specs.Programs.{ProgramAt}
use Rattle.dfi_base.specs.Limits.{nesting_limit}
use Rattle.c_parse.specs.Parsed.{IsProgram, IsUnexpected, IsDeep, Says, line_at}
use Rattle.c_parse.proofs.OneTree.{programs_one_answer}
use Rattle.c_typed.specs.Typed.{Typed}
use Rattle.c_typed.specs.Programs.{typed_of}
use Rattle.dfi_build.specs.Builds.{IsParseFault}
use Rattle.dfi_build.specs.Source.{IsParsed, IsTyped}

-- tokens, or the first fault in the text
abbrev is_fault : Result Lexed LexFault → Bool
is_fault (Err f) = true
is_fault (Ok l) = false

pub no_text_fault : (bytes : List ℕ) (f : LexFault) (l : Lexed) → IsFirstFault bytes f → LexesTo bytes l → ⊥
no_text_fault bytes f l first is = true≢false (ap is_fault (one_meaning bytes (Err f) (Ok l) first is))

pub one_text_fault : (bytes : List ℕ) (f g : LexFault) → IsFirstFault bytes f → IsFirstFault bytes g → f ≡ g
one_text_fault bytes f g x y = ap (λ (r : Result Lexed LexFault). elim r [ Err h ↦ h | Ok m ↦ f ]) (one_meaning bytes (Err f) (Err g) x y)

-- what is told of a list of tokens
abbrev is_told : Symbols → Answer Symbol (List Item) → Type 0
is_told ts answer = Tells ProgramAt nesting_limit ts answer

one_answer : (ts : Symbols) (a b : Answer Symbol (List Item)) → is_told ts a → is_told ts b → a ≡ b
one_answer ts a b x y = let one = programs_one_answer ts in sym (one.2 a x) ∙ one.2 b y

unexpected_told : (ts : Symbols) (k : ℕ) → IsUnexpected ts k → is_told ts (fault unexpected (length ts - k))
unexpected_told ts k is =
    let place = is.place in
    let back : k ≡ length ts - (length ts - k) = omega (arith, place) in
    (omega arith, subst (λ n. IsUnexpected ts n) back is)

deep_told : (ts : Symbols) (k : ℕ) → IsDeep ts k → is_told ts (fault deep (length ts - k))
deep_told ts k is =
    let place = is.place in
    let back : k ≡ length ts - (length ts - k) = omega (arith, place) in
    (omega arith, subst (λ n. IsDeep ts n) back is)

-- the kinds of answers, and the tokens from the faulty one on
abbrev kind_of : Answer Symbol (List Item) → ℕ
kind_of (done items rest) = 0
kind_of (fault unexpected n) = 1
kind_of (fault deep n) = 2

abbrev left_of : Answer Symbol (List Item) → ℕ
left_of (done items rest) = 0
left_of (fault kind n) = n

same_place : (long k n : ℕ) → k ≤ long → n ≤ long → long - k ≡ long - n → k ≡ n
same_place long k n x y e = omega (arith, x, y, e)

told_at : (l : Lexed) (k n : ℕ) (a b : Line) → k ≡ n → a ≡ line_at (symbols_of l.tokens) l.last k → b ≡ line_at (symbols_of l.tokens) l.last n → a ≡ b
told_at l k n a b e x y = x ∙ ap (line_at (symbols_of l.tokens) l.last) e ∙ sym y

both_unexpected : (ts : Symbols) (k n : ℕ) → IsUnexpected ts k → IsUnexpected ts n → k ≡ n
both_unexpected ts k n x y =
    let same : length ts - k ≡ length ts - n =
    ap left_of (one_answer ts (fault unexpected (length ts - k)) (fault unexpected (length ts - n)) (unexpected_told ts k x) (unexpected_told ts n y)) in
    same_place (length ts) k n x.place y.place same

both_deep : (ts : Symbols) (k n : ℕ) → IsDeep ts k → IsDeep ts n → k ≡ n
both_deep ts k n x y =
    let same : length ts - k ≡ length ts - n = ap left_of (one_answer ts (fault deep (length ts - k)) (fault deep (length ts - n)) (deep_told ts k x) (deep_told ts n y)) in
    let low = x.place in
    let high = y.place in
    omega (arith, same, low, high)

not_both : (ts : Symbols) (k n : ℕ) → IsUnexpected ts k → IsDeep ts n → ⊥
not_both ts k n x y =
    let kinds : 1 ≡ 2 = ap kind_of (one_answer ts (fault unexpected (length ts - k)) (fault deep (length ts - n)) (unexpected_told ts k x) (deep_told ts n y)) in
    omega (arith, kinds)

pub one_parse_fault : (l : Lexed) (f g : ParseFault) → IsParseFault l f → IsParseFault l g → f ≡ g
one_parse_fault l (ParseFault.Unexpected k a) (ParseFault.Unexpected n b) x y =
    let e = both_unexpected (symbols_of l.tokens) k n x.0 y.0 in
    let line = told_at l k n a b e x.1 y.1 in
    λ i. ParseFault.Unexpected (e i) (line i)
one_parse_fault l (ParseFault.Unexpected k a) (ParseFault.Deep b) x y = absurd (not_both (symbols_of l.tokens) k y.0 x.0 y.1)
one_parse_fault l (ParseFault.Unexpected k a) ParseFault.Memory x y = absurd y
one_parse_fault l (ParseFault.Deep a) (ParseFault.Unexpected n b) x y = absurd (not_both (symbols_of l.tokens) n x.0 y.0 x.1)
one_parse_fault l (ParseFault.Deep a) (ParseFault.Deep b) x y =
    ap ParseFault.Deep (told_at l x.0 y.0 a b (both_deep (symbols_of l.tokens) x.0 y.0 x.1 y.1) x.2 y.2)
one_parse_fault l (ParseFault.Deep a) ParseFault.Memory x y = absurd y
one_parse_fault l ParseFault.Memory g x y = absurd x

-- no tree where a token is at fault
not_parsed : (ts : Symbols) (answer : Answer Symbol (List Item)) (items : List Item) → is_told ts answer → IsProgram ts items → kind_of answer ≡ 0
not_parsed ts answer items x tree = ap kind_of (one_answer ts answer (done items []) x (tree, refl))

no_program : (l : Lexed) (f : ParseFault) (items : List Item) → IsParseFault l f → IsProgram (symbols_of l.tokens) items → ⊥
no_program l (ParseFault.Unexpected k a) items x tree =
    let ts = symbols_of l.tokens in
    let kinds : 1 ≡ 0 = not_parsed ts (fault unexpected (length ts - k)) items (unexpected_told ts k x.0) tree in
    omega (arith, kinds)
no_program l (ParseFault.Deep a) items x tree =
    let ts = symbols_of l.tokens in
    let kinds : 2 ≡ 0 = not_parsed ts (fault deep (length ts - x.0)) items (deep_told ts x.0 x.1) tree in
    omega (arith, kinds)
no_program l ParseFault.Memory items x tree = x

pub no_parse_fault : (bytes : List ℕ) (f : ParseFault) (l : Lexed) (a : Ast) → LexesTo bytes l → IsParseFault l f → IsParsed bytes a → ⊥
no_parse_fault bytes f l a lexes told is = no_program is.lexed f a.items (subst (λ m. IsParseFault m f) (one_lexed bytes l is.lexed lexes is.tokens) told) is.tree.0

-- a source has one tree
pub one_parsed : (bytes : List ℕ) (a b : Ast) → IsParsed bytes a → IsParsed bytes b → a ≡ b
one_parsed bytes a b x y =
    let lexed = one_lexed bytes x.lexed y.lexed x.tokens y.tokens in
    let tree : Says x.lexed (Ok b) = subst (λ l. Says l (Ok b)) (sym lexed) y.tree in
    let items : a.items ≡ b.items = x.tree.0.only b.items tree.0.derived in
    λ i. record { items = items i; names = (x.tree.1 ∙ sym tree.1) i; last = (x.tree.2 ∙ sym tree.2) i }

-- and one typed program
pub one_typed : (bytes : List ℕ) (t u : Typed) → IsTyped bytes t → IsTyped bytes u → t ≡ u
one_typed bytes t u x y = x.typed ∙ ap typed_of (one_parsed bytes x.tree y.tree x.parsed y.parsed) ∙ sym y.typed
