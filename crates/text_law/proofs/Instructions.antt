-- An instruction beside its line.
use Rattle.std.proofs.Common.{◌≡◌, ℕ, ◌<◌, Bool, true, false, List, [], ◌∷◌, ◌++◌, length, map, Option, Some, None, refl, sym, ap, subst, ◌∙◌, arith}
use Rattle.std.specs.Prelude.{codes}
use Rattle.std.specs.Fmt.{decimal}
use Rattle.tac_ir.specs.declared.code.UnOp.{UnOp}
use Rattle.tac_ir.specs.declared.code.BinOp.{BinOp}
use Rattle.tac_ir.specs.declared.code.Instr.{Instr}
use Rattle.line_format.specs.Lines.{line, numbers_text}
use Rattle.line_format.specs.tools.Format.{Format, give, chain, Has}
use Rattle.line_format.specs.tools.Words.{one_of}
use Rattle.line_format.specs.tools.Members.{AreMarks}
use Rattle.line_format.proofs.Formats.{Good}
use Rattle.line_format.proofs.Tables.{In, one_is, one_good}
use Rattle.line_format.proofs.OneWord.{Filled, has_of}
use Rattle.line_format.proofs.Spells.{Spells, signed_spells, behind}
use Rattle.line_format.proofs.Behind.{listed, with_option, IsOne, one_text, led, line_of_list}
use Rattle.text_law.specs.ModuleText as text
use Rattle.text_law.specs.IsModule.{Is32Bits, Are32Bits, IsPlace, IsSome, IsInstr, IsLined}
use Rattle.text_law.specs.declared.opcode.Opcode.{Opcode}
use Rattle.text_law.specs.tools.Opcodes.{opcodes, un_words, bin_words, div_words, equalities}
use Rattle.text_law.specs.tools.Instrs as form
use Rattle.text_law.proofs.Basics.{plain, temp, pair, place, table, in_nth, Rows, row_in}

pub spaced : AreMarks 32 10
spaced = record { apart = refl; between_no_digit = refl; end_no_digit = refl }

dotted : (c : ℕ) → AreMarks 46 c → AreMarks 46 c
dotted c m = m

pub dotted_space : AreMarks 46 32
dotted_space = record { apart = refl; between_no_digit = refl; end_no_digit = refl }

pub dotted_line : AreMarks 46 10
dotted_line = record { apart = refl; between_no_digit = refl; end_no_digit = refl }

-- ---- operators

un_spells : Spells (one_of un_words) (λ op. Unit {0}) (λ op r. text.un_word op ++ 32 ∷ r)
un_spells = table un_words (λ op. Unit {0}) text.un_word 32 tt refl ((tt, refl), ((tt, refl), ((tt, refl), tt))) (λ op i. each op)
  where
    each : (op : UnOp) → In (text.un_word op ++ 32 ∷ []) op un_words
    each UnOp.Neg = in_nth 0 refl
    each UnOp.Not = in_nth 1 refl
    each UnOp.Com = in_nth 2 refl

abbrev IsBin : BinOp → Type 0
IsBin op = text.is_div op ≡ false

abbrev IsDiv : BinOp → Type 0
IsDiv op = text.is_div op ≡ true

true_false : {B : Type 0} → true ≡ false → B
true_false e = absurd (subst (λ b. elim b as (λ p. Type 0) [ true ↦ Unit {0} | false ↦ ⊥ ]) e tt)

bin_spells : Spells (one_of bin_words) IsBin (λ op r. text.bin_word op ++ 32 ∷ r)
bin_spells =
    table bin_words IsBin text.bin_word 32 tt refl
    ((refl, refl), ((refl, refl), ((refl, refl), ((refl, refl), ((refl, refl), ((refl, refl), ((refl, refl), ((refl, refl), ((refl, refl), ((refl, refl), ((refl, refl), ((refl, refl), ((refl, refl), ((refl, refl), tt))))))))))))))
    each
  where
    each : (op : BinOp) → IsBin op → In (text.bin_word op ++ 32 ∷ []) op bin_words
    each BinOp.Add i = in_nth 0 refl
    each BinOp.Sub i = in_nth 1 refl
    each BinOp.Mul i = in_nth 2 refl
    each BinOp.And i = in_nth 3 refl
    each BinOp.Or i = in_nth 4 refl
    each BinOp.Xor i = in_nth 5 refl
    each BinOp.Shl i = in_nth 6 refl
    each BinOp.Shr i = in_nth 7 refl
    each BinOp.Lt i = in_nth 8 refl
    each BinOp.Gt i = in_nth 9 refl
    each BinOp.Le i = in_nth 10 refl
    each BinOp.Ge i = in_nth 11 refl
    each BinOp.Eq i = in_nth 12 refl
    each BinOp.Ne i = in_nth 13 refl
    each BinOp.Quo i = true_false i
    each BinOp.Rem i = true_false i

div_spells : Spells (one_of div_words) IsDiv (λ op r. text.bin_word op ++ 32 ∷ r)
div_spells = table div_words IsDiv text.bin_word 32 tt refl ((refl, refl), ((refl, refl), tt)) each
  where
    each : (op : BinOp) → IsDiv op → In (text.bin_word op ++ 32 ∷ []) op div_words
    each BinOp.Quo i = in_nth 0 refl
    each BinOp.Rem i = in_nth 1 refl
    each BinOp.Add i = true_false (sym i)
    each BinOp.Sub i = true_false (sym i)
    each BinOp.Mul i = true_false (sym i)
    each BinOp.And i = true_false (sym i)
    each BinOp.Or i = true_false (sym i)
    each BinOp.Xor i = true_false (sym i)
    each BinOp.Shl i = true_false (sym i)
    each BinOp.Shr i = true_false (sym i)
    each BinOp.Lt i = true_false (sym i)
    each BinOp.Gt i = true_false (sym i)
    each BinOp.Le i = true_false (sym i)
    each BinOp.Ge i = true_false (sym i)
    each BinOp.Eq i = true_false (sym i)
    each BinOp.Ne i = true_false (sym i)

equal_spells : Spells (one_of equalities) (λ b. Unit {0}) (λ b r. text.equality b ++ 32 ∷ r)
equal_spells = table equalities (λ b. Unit {0}) text.equality 32 tt refl ((tt, refl), ((tt, refl), tt)) (λ b i. each b)
  where
    each : (b : Bool) → In (text.equality b ++ 32 ∷ []) b equalities
    each false = in_nth 0 refl
    each true = in_nth 1 refl

-- ---- the parts of instructions

t32 : Spells (form.temp 32) Is32Bits (λ n r. text.temp n ++ 32 ∷ r)
t32 = temp 32 refl

t10 : Spells (form.temp 10) Is32Bits (λ n r. text.temp n ++ 10 ∷ r)
t10 = temp 10 refl

n32 : Spells (form.number 32) Is32Bits (λ n r. decimal n ++ 32 ∷ r)
n32 = plain 32 refl

n10 : Spells (form.number 10) Is32Bits (λ n r. decimal n ++ 10 ∷ r)
n10 = plain 10 refl

p32 : Spells (form.place 32) IsPlace (λ p r. text.place p ++ 32 ∷ r)
p32 = place 32 (record { apart = refl; between_no_digit = refl; end_no_digit = refl })

p10 : Spells (form.place 10) IsPlace (λ p r. text.place p ++ 10 ∷ r)
p10 = place 10 (record { apart = refl; between_no_digit = refl; end_no_digit = refl })

-- an instruction made of parts
made : {A : Type 0} {f : Format A} {P : A → Type 0} {put : A → List ℕ → List ℕ} → Spells f P put → (to : A → Instr) → (word : List ℕ)
    → ((a : A) → P a → IsInstr (to a)) → ((a : A) → P a → (r : List ℕ) → word ++ put a r ≡ line (text.instr_words (to a)) r)
    → (ts : List ℕ) (i : Instr) (r : List ℕ) (m : List ℕ) → ts ≡ word ++ m → Has (chain f (λ a. give (to a))) m i r → IsInstr i × (ts ≡ line (text.instr_words i) r)
made s to word fits same ts i r m w (a, n, h, (e, x)) =
    let (p, t) = s.is m a n h in
    subst (λ z. IsInstr z × (ts ≡ line (text.instr_words z) r)) e
    (fits a p, w ∙ ap (λ z. word ++ z) t ∙ same a p n ∙ ap (λ z. line (text.instr_words (to a)) z) x)

-- the list of temporaries, told as words
temps_led : (args : List ℕ) → led (codes "t") args ≡ map text.temp args
temps_led [] = refl
temps_led (a ∷ args) = ap (λ z. text.temp a ∷ z) (temps_led args)

plain_led : (xs : List ℕ) → led [] xs ≡ map decimal xs
plain_led [] = refl
plain_led (x ∷ xs) = ap (λ z. decimal x ∷ z) (plain_led xs)

pub numbers_line : (w xs r : List ℕ) → w ++ numbers_text [] 32 10 xs r ≡ line (w ∷ map decimal xs) r
numbers_line w xs r = sym (line_of_list [] w xs r) ∙ ap (λ z. line (w ∷ z) r) (plain_led xs)

temps_line : (w xs r : List ℕ) → w ++ numbers_text (codes "t") 32 10 xs r ≡ line (w ∷ map text.temp xs) r
temps_line w xs r = sym (line_of_list (codes "t") w xs r) ∙ ap (λ z. line (w ∷ z) r) (temps_led xs)

fork_spells : Spells (form.fork) (λ p. Is32Bits p.0 × Are32Bits p.1) (λ p r. decimal p.0 ++ numbers_text [] 32 10 p.1 r)
fork_spells = listed 32 10 spaced [] false

args_spells : Spells (form.args) (λ p. Is32Bits p.0 × Are32Bits p.1) (λ p r. decimal p.0 ++ numbers_text (codes "t") 32 10 p.1 r)
args_spells = listed 32 10 spaced (codes "t") false

ret_spells : Spells (chain (form.letter) (λ u. form.option)) (λ p. Is32Bits p.0 × IsOne 32 10 spaced p.1) (λ p r. codes "t" ++ (decimal p.0 ++ one_text 32 10 spaced p.1 r))
ret_spells = behind (with_option 32 10 spaced) (codes "t")

some_of : (o : Option ℕ) → IsOne 32 10 spaced o → IsSome o
some_of None i = tt
some_of (Some n) i = i

one_of_some : (o : Option ℕ) → IsSome o → IsOne 32 10 spaced o
one_of_some None i = tt
one_of_some (Some n) i = i

ret_line : (w : List ℕ) (o : Option ℕ) (r : List ℕ) → w ++ one_text 32 10 spaced o r ≡ line (w ∷ text.read_words o) r
ret_line w None r = refl
ret_line w (Some n) r = refl

-- ---- an instruction

abbrev word_of : Opcode → List ℕ
word_of Opcode.Const = codes "const "
word_of Opcode.Null = codes "null "
word_of Opcode.Un = codes "un "
word_of Opcode.Bin = codes "bin "
word_of Opcode.Div = codes "div "
word_of Opcode.Addr = codes "addr "
word_of Opcode.Field = codes "field "
word_of Opcode.Decay = codes "decay "
word_of Opcode.Index = codes "index "
word_of Opcode.Get = codes "get "
word_of Opcode.Load = codes "load "
word_of Opcode.Set = codes "set "
word_of Opcode.Store = codes "store "
word_of Opcode.Same = codes "same "
word_of Opcode.New = codes "new "
word_of Opcode.Free = codes "free "
word_of Opcode.In = codes "in "
word_of Opcode.Left = codes "left "
word_of Opcode.Out = codes "out "
word_of Opcode.Call = codes "call "
word_of Opcode.Ret = codes "ret "
word_of Opcode.Jump = codes "jump "
word_of Opcode.Test = codes "test "
word_of Opcode.Turn = codes "turn\n"
word_of Opcode.Fork = codes "fork "
word_of Opcode.End = codes "end\n"

abbrev IsWord : List ℕ → Opcode → Type 0
IsWord w o = (w ≡ word_of o) × (0 < length w)

spelled : Rows IsWord opcodes
spelled = ((refl, omega arith), ((refl, omega arith), ((refl, omega arith), ((refl, omega arith), ((refl, omega arith), ((refl, omega arith), ((refl, omega arith), ((refl, omega arith), ((refl, omega arith), ((refl, omega arith), ((refl, omega arith), ((refl, omega arith), ((refl, omega arith), ((refl, omega arith), ((refl, omega arith), ((refl, omega arith), ((refl, omega arith), ((refl, omega arith), ((refl, omega arith), ((refl, omega arith), ((refl, omega arith), ((refl, omega arith), ((refl, omega arith), ((refl, omega arith), ((refl, omega arith), ((refl, omega arith), tt))))))))))))))))))))))))))

opcodes_filled : Filled opcodes
opcodes_filled w o i = (row_in IsWord spelled i).1

begins : (w : List ℕ) (o : Opcode) → In w o opcodes → (i : Instr) (x r : List ℕ) → Has (form.body o) x i r → Has form.instr (w ++ x) i r
begins w o j i x r h = (o, x, has_of w o opcodes refl opcodes_filled j x, h)

bin_has : (to : ℕ) (op : BinOp) (a b : ℕ) (d : Bool) → text.is_div op ≡ d → Is32Bits to × (Is32Bits a × Is32Bits b) → (r : List ℕ)
    → Has form.instr (line (elim d as (λ p. List ℕ) [ true ↦ codes "div" | false ↦ codes "bin" ] ∷ text.temp to ∷ text.bin_word op ∷ text.temp a ∷ text.temp b ∷ []) r) (Instr.Bin to op a b) r
bin_has to op a b true e (i, j) r =
    begins (codes "div ") Opcode.Div (in_nth 4 refl) (Instr.Bin to op a b) _ r ((to, (op, (a, b))), r, (pair t32 (pair div_spells (pair t32 t10))).has (to, (op, (a, b))) (i, (e, j)) r, (refl, refl))
bin_has to op a b false e (i, j) r =
    begins (codes "bin ") Opcode.Bin (in_nth 3 refl) (Instr.Bin to op a b) _ r ((to, (op, (a, b))), r, (pair t32 (pair bin_spells (pair t32 t10))).has (to, (op, (a, b))) (i, (e, j)) r, (refl, refl))

instr_has : (i : Instr) → IsInstr i → (r : List ℕ) → Has form.instr (line (text.instr_words i) r) i r
instr_has (Instr.Const to k) i r = begins (codes "const ") Opcode.Const (in_nth 0 refl) (Instr.Const to k) _ r ((to, k), r, (pair t32 (signed_spells 10 refl)).has (to, k) i r, (refl, refl))
instr_has (Instr.Null to) i r = begins (codes "null ") Opcode.Null (in_nth 1 refl) (Instr.Null to) _ r (to, r, (t10).has to i r, (refl, refl))
instr_has (Instr.Un to op a) i r = begins (codes "un ") Opcode.Un (in_nth 2 refl) (Instr.Un to op a) _ r ((to, (op, a)), r, (pair t32 (pair un_spells t10)).has (to, (op, a)) (i.0, (tt, i.1)) r, (refl, refl))
instr_has (Instr.Bin to op a b) i r = bin_has to op a b (text.is_div op) refl i r
instr_has (Instr.Addr to p) i r = begins (codes "addr ") Opcode.Addr (in_nth 5 refl) (Instr.Addr to p) _ r ((to, p), r, (pair t32 p10).has (to, p) i r, (refl, refl))
instr_has (Instr.Field to a shape k) i r = begins (codes "field ") Opcode.Field (in_nth 6 refl) (Instr.Field to a shape k) _ r ((to, (a, (shape, k))), r, (pair t32 (pair t32 (pair n32 n10))).has (to, (a, (shape, k))) i r, (refl, refl))
instr_has (Instr.Decay to a shape) i r = begins (codes "decay ") Opcode.Decay (in_nth 7 refl) (Instr.Decay to a shape) _ r ((to, (a, shape)), r, (pair t32 (pair t32 n10)).has (to, (a, shape)) i r, (refl, refl))
instr_has (Instr.Index to a b w) i r = begins (codes "index ") Opcode.Index (in_nth 8 refl) (Instr.Index to a b w) _ r ((to, (a, (b, w))), r, (pair t32 (pair t32 (pair t32 n10))).has (to, (a, (b, w))) i r, (refl, refl))
instr_has (Instr.Get to p n) i r = begins (codes "get ") Opcode.Get (in_nth 9 refl) (Instr.Get to p n) _ r ((to, (p, n)), r, (pair t32 (pair p32 n10)).has (to, (p, n)) i r, (refl, refl))
instr_has (Instr.Load to a n) i r = begins (codes "load ") Opcode.Load (in_nth 10 refl) (Instr.Load to a n) _ r ((to, (a, n)), r, (pair t32 (pair t32 n10)).has (to, (a, n)) i r, (refl, refl))
instr_has (Instr.Set p a n) i r = begins (codes "set ") Opcode.Set (in_nth 11 refl) (Instr.Set p a n) _ r ((p, (a, n)), r, (pair p32 (pair t32 n10)).has (p, (a, n)) i r, (refl, refl))
instr_has (Instr.Store a b n) i r = begins (codes "store ") Opcode.Store (in_nth 12 refl) (Instr.Store a b n) _ r ((a, (b, n)), r, (pair t32 (pair t32 n10)).has (a, (b, n)) i r, (refl, refl))
instr_has (Instr.Same to ne a b) i r = begins (codes "same ") Opcode.Same (in_nth 13 refl) (Instr.Same to ne a b) _ r ((to, (ne, (a, b))), r, (pair t32 (pair equal_spells (pair t32 t10))).has (to, (ne, (a, b))) (i.0, (tt, i.1)) r, (refl, refl))
instr_has (Instr.New to a n) i r = begins (codes "new ") Opcode.New (in_nth 14 refl) (Instr.New to a n) _ r ((to, (a, n)), r, (pair t32 (pair t32 n10)).has (to, (a, n)) i r, (refl, refl))
instr_has (Instr.Free a) i r = begins (codes "free ") Opcode.Free (in_nth 15 refl) (Instr.Free a) _ r (a, r, (t10).has a i r, (refl, refl))
instr_has (Instr.In a) i r = begins (codes "in ") Opcode.In (in_nth 16 refl) (Instr.In a) _ r (a, r, (t10).has a i r, (refl, refl))
instr_has (Instr.Left a) i r = begins (codes "left ") Opcode.Left (in_nth 17 refl) (Instr.Left a) _ r (a, r, (t10).has a i r, (refl, refl))
instr_has (Instr.Out a) i r = begins (codes "out ") Opcode.Out (in_nth 18 refl) (Instr.Out a) _ r (a, r, (t10).has a i r, (refl, refl))
instr_has (Instr.Call to fun def args) i r =
    subst (λ z. Has form.instr (codes "call " ++ (text.temp to ++ 32 ∷ (decimal fun ++ 32 ∷ z))) (Instr.Call to fun def args) r) (temps_line (decimal def) args r)
    (begins (codes "call ") Opcode.Call (in_nth 19 refl) (Instr.Call to fun def args) _ r ((to, (fun, (def, args))), r, (pair t32 (pair n32 args_spells)).has (to, (fun, (def, args))) i r, (refl, refl)))
instr_has (Instr.Ret a o) i r =
    subst (λ z. Has form.instr (codes "ret " ++ z) (Instr.Ret a o) r) (ret_line (text.temp a) o r)
    (begins (codes "ret ") Opcode.Ret (in_nth 20 refl) (Instr.Ret a o) _ r ((a, o), r, (ret_spells).has (a, o) (i.0, one_of_some o i.1) r, (refl, refl)))
instr_has (Instr.Jump a) i r = begins (codes "jump ") Opcode.Jump (in_nth 21 refl) (Instr.Jump a) _ r (a, r, (n10).has a i r, (refl, refl))
instr_has (Instr.Test a m n) i r = begins (codes "test ") Opcode.Test (in_nth 22 refl) (Instr.Test a m n) _ r ((a, (m, n)), r, (pair t32 (pair n32 n10)).has (a, (m, n)) i r, (refl, refl))
instr_has Instr.Turn i r = begins (codes "turn\n") Opcode.Turn (in_nth 23 refl) (Instr.Turn) r r (refl, refl)
instr_has (Instr.Fork join entries) i r =
    subst (λ z. Has form.instr (codes "fork " ++ z) (Instr.Fork join entries) r) (numbers_line (decimal join) entries r)
    (begins (codes "fork ") Opcode.Fork (in_nth 24 refl) (Instr.Fork join entries) _ r ((join, entries), r, (fork_spells).has (join, entries) i r, (refl, refl)))
instr_has Instr.End i r = begins (codes "end\n") Opcode.End (in_nth 25 refl) (Instr.End) r r (refl, refl)

bin_line : (to : ℕ) (op : BinOp) (a b : ℕ) (d : Bool) (r : List ℕ) → text.is_div op ≡ d
    → line (elim d as (λ p. List ℕ) [ true ↦ codes "div" | false ↦ codes "bin" ] ∷ text.temp to ∷ text.bin_word op ∷ text.temp a ∷ text.temp b ∷ []) r ≡ line (text.instr_words (Instr.Bin to op a b)) r
bin_line to op a b d r e = ap (λ z. line (elim z as (λ p. List ℕ) [ true ↦ codes "div" | false ↦ codes "bin" ] ∷ text.temp to ∷ text.bin_word op ∷ text.temp a ∷ text.temp b ∷ []) r) (sym e)

silent_is : (i j : Instr) (w : List ℕ) (ts m r : List ℕ) → IsInstr i → ((r : List ℕ) → w ++ r ≡ line (text.instr_words i) r) → ts ≡ w ++ m → i ≡ j → m ≡ r → IsInstr j × (ts ≡ line (text.instr_words j) r)
silent_is i j w ts m r fits same t e x = subst (λ z. IsInstr z × (ts ≡ line (text.instr_words z) r)) e (fits, t ∙ same m ∙ ap (λ z. line (text.instr_words i) z) x)

body_is : (o : Opcode) (ts : List ℕ) (i : Instr) (r m : List ℕ) → ts ≡ word_of o ++ m → Has (form.body o) m i r → IsInstr i × (ts ≡ line (text.instr_words i) r)
body_is Opcode.Const ts i r m t h = made (pair t32 (signed_spells 10 refl)) (λ p. Instr.Const p.0 p.1) (codes "const ") (λ p i. i) (λ p i r. refl) ts i r m t h
body_is Opcode.Null ts i r m t h = made (t10) (λ p. Instr.Null p) (codes "null ") (λ p i. i) (λ p i r. refl) ts i r m t h
body_is Opcode.Un ts i r m t h = made (pair t32 (pair un_spells t10)) (λ p. Instr.Un p.0 p.1.0 p.1.1) (codes "un ") (λ p i. (i.0, i.1.1)) (λ p i r. refl) ts i r m t h
body_is Opcode.Bin ts i r m t h = made (pair t32 (pair bin_spells (pair t32 t10))) (λ p. Instr.Bin p.0 p.1.0 p.1.1.0 p.1.1.1) (codes "bin ") (λ p i. (i.0, i.1.1)) (λ p i r. bin_line p.0 p.1.0 p.1.1.0 p.1.1.1 false r i.1.0) ts i r m t h
body_is Opcode.Div ts i r m t h = made (pair t32 (pair div_spells (pair t32 t10))) (λ p. Instr.Bin p.0 p.1.0 p.1.1.0 p.1.1.1) (codes "div ") (λ p i. (i.0, i.1.1)) (λ p i r. bin_line p.0 p.1.0 p.1.1.0 p.1.1.1 true r i.1.0) ts i r m t h
body_is Opcode.Addr ts i r m t h = made (pair t32 p10) (λ p. Instr.Addr p.0 p.1) (codes "addr ") (λ p i. i) (λ p i r. refl) ts i r m t h
body_is Opcode.Field ts i r m t h = made (pair t32 (pair t32 (pair n32 n10))) (λ p. Instr.Field p.0 p.1.0 p.1.1.0 p.1.1.1) (codes "field ") (λ p i. i) (λ p i r. refl) ts i r m t h
body_is Opcode.Decay ts i r m t h = made (pair t32 (pair t32 n10)) (λ p. Instr.Decay p.0 p.1.0 p.1.1) (codes "decay ") (λ p i. i) (λ p i r. refl) ts i r m t h
body_is Opcode.Index ts i r m t h = made (pair t32 (pair t32 (pair t32 n10))) (λ p. Instr.Index p.0 p.1.0 p.1.1.0 p.1.1.1) (codes "index ") (λ p i. i) (λ p i r. refl) ts i r m t h
body_is Opcode.Get ts i r m t h = made (pair t32 (pair p32 n10)) (λ p. Instr.Get p.0 p.1.0 p.1.1) (codes "get ") (λ p i. i) (λ p i r. refl) ts i r m t h
body_is Opcode.Load ts i r m t h = made (pair t32 (pair t32 n10)) (λ p. Instr.Load p.0 p.1.0 p.1.1) (codes "load ") (λ p i. i) (λ p i r. refl) ts i r m t h
body_is Opcode.Set ts i r m t h = made (pair p32 (pair t32 n10)) (λ p. Instr.Set p.0 p.1.0 p.1.1) (codes "set ") (λ p i. i) (λ p i r. refl) ts i r m t h
body_is Opcode.Store ts i r m t h = made (pair t32 (pair t32 n10)) (λ p. Instr.Store p.0 p.1.0 p.1.1) (codes "store ") (λ p i. i) (λ p i r. refl) ts i r m t h
body_is Opcode.Same ts i r m t h = made (pair t32 (pair equal_spells (pair t32 t10))) (λ p. Instr.Same p.0 p.1.0 p.1.1.0 p.1.1.1) (codes "same ") (λ p i. (i.0, i.1.1)) (λ p i r. refl) ts i r m t h
body_is Opcode.New ts i r m t h = made (pair t32 (pair t32 n10)) (λ p. Instr.New p.0 p.1.0 p.1.1) (codes "new ") (λ p i. i) (λ p i r. refl) ts i r m t h
body_is Opcode.Free ts i r m t h = made (t10) (λ p. Instr.Free p) (codes "free ") (λ p i. i) (λ p i r. refl) ts i r m t h
body_is Opcode.In ts i r m t h = made (t10) (λ p. Instr.In p) (codes "in ") (λ p i. i) (λ p i r. refl) ts i r m t h
body_is Opcode.Left ts i r m t h = made (t10) (λ p. Instr.Left p) (codes "left ") (λ p i. i) (λ p i r. refl) ts i r m t h
body_is Opcode.Out ts i r m t h = made (t10) (λ p. Instr.Out p) (codes "out ") (λ p i. i) (λ p i r. refl) ts i r m t h
body_is Opcode.Call ts i r m t h = made (pair t32 (pair n32 args_spells)) (λ p. Instr.Call p.0 p.1.0 p.1.1.0 p.1.1.1) (codes "call ") (λ p i. i) (λ p i r. ap (λ z. codes "call " ++ (text.temp p.0 ++ 32 ∷ (decimal p.1.0 ++ 32 ∷ z))) (temps_line (decimal p.1.1.0) p.1.1.1 r)) ts i r m t h
body_is Opcode.Ret ts i r m t h = made (ret_spells) (λ p. Instr.Ret p.0 p.1) (codes "ret ") (λ p i. (i.0, some_of p.1 i.1)) (λ p i r. ap (λ z. codes "ret " ++ z) (ret_line (text.temp p.0) p.1 r)) ts i r m t h
body_is Opcode.Jump ts i r m t h = made (n10) (λ p. Instr.Jump p) (codes "jump ") (λ p i. i) (λ p i r. refl) ts i r m t h
body_is Opcode.Test ts i r m t h = made (pair t32 (pair n32 n10)) (λ p. Instr.Test p.0 p.1.0 p.1.1) (codes "test ") (λ p i. i) (λ p i r. refl) ts i r m t h
body_is Opcode.Turn ts i r m t (e, x) = silent_is Instr.Turn i (codes "turn\n") ts m r tt (λ r. refl) t e x
body_is Opcode.Fork ts i r m t h = made (fork_spells) (λ p. Instr.Fork p.0 p.1) (codes "fork ") (λ p i. i) (λ p i r. ap (λ z. codes "fork " ++ z) (numbers_line (decimal p.0) p.1 r)) ts i r m t h
body_is Opcode.End ts i r m t (e, x) = silent_is Instr.End i (codes "end\n") ts m r tt (λ r. refl) t e x

body_good : (o : Opcode) → Good (form.body o)
body_good Opcode.Const = ((pair t32 (signed_spells 10 refl)).good, λ p g. tt)
body_good Opcode.Null = ((t10).good, λ p g. tt)
body_good Opcode.Un = ((pair t32 (pair un_spells t10)).good, λ p g. tt)
body_good Opcode.Bin = ((pair t32 (pair bin_spells (pair t32 t10))).good, λ p g. tt)
body_good Opcode.Div = ((pair t32 (pair div_spells (pair t32 t10))).good, λ p g. tt)
body_good Opcode.Addr = ((pair t32 p10).good, λ p g. tt)
body_good Opcode.Field = ((pair t32 (pair t32 (pair n32 n10))).good, λ p g. tt)
body_good Opcode.Decay = ((pair t32 (pair t32 n10)).good, λ p g. tt)
body_good Opcode.Index = ((pair t32 (pair t32 (pair t32 n10))).good, λ p g. tt)
body_good Opcode.Get = ((pair t32 (pair p32 n10)).good, λ p g. tt)
body_good Opcode.Load = ((pair t32 (pair t32 n10)).good, λ p g. tt)
body_good Opcode.Set = ((pair p32 (pair t32 n10)).good, λ p g. tt)
body_good Opcode.Store = ((pair t32 (pair t32 n10)).good, λ p g. tt)
body_good Opcode.Same = ((pair t32 (pair equal_spells (pair t32 t10))).good, λ p g. tt)
body_good Opcode.New = ((pair t32 (pair t32 n10)).good, λ p g. tt)
body_good Opcode.Free = ((t10).good, λ p g. tt)
body_good Opcode.In = ((t10).good, λ p g. tt)
body_good Opcode.Left = ((t10).good, λ p g. tt)
body_good Opcode.Out = ((t10).good, λ p g. tt)
body_good Opcode.Call = ((pair t32 (pair n32 args_spells)).good, λ p g. tt)
body_good Opcode.Ret = ((ret_spells).good, λ p g. tt)
body_good Opcode.Jump = ((n10).good, λ p g. tt)
body_good Opcode.Test = ((pair t32 (pair n32 n10)).good, λ p g. tt)
body_good Opcode.Turn = tt
body_good Opcode.Fork = ((fork_spells).good, λ p g. tt)
body_good Opcode.End = tt

pub instr : Spells form.instr IsInstr (λ i r. line (text.instr_words i) r)
instr = record {
  good = (one_good opcodes tt, λ o g. body_good o);
  has = instr_has;
  is = λ ts i r (o, m, h, g).
      let (w, j, t) = one_is h in
      body_is o ts i r m (t ∙ ap (λ z. z ++ m) (row_in IsWord spelled j).0) g;
}

-- an instruction behind the number of its line
pub lined : Spells form.lined IsLined (λ i r. line (text.lined_words i) r)
lined = record {
  good = ((pair n32 instr).good, λ p g. tt);
  has = λ i fits r. ((i.line, i.instr), r, subst (λ z. Has (form.pair (form.number 32) form.instr) z (i.line, i.instr) r) (sym (lined_text i.line i.instr r)) ((pair n32 instr).has (i.line, i.instr) fits r), (refl, refl));
  is = λ ts i r (p, m, h, (e, x)).
      let (fits, t) = (pair n32 instr).is ts p m h in
      subst (λ z. IsLined z × (ts ≡ line (text.lined_words z) r)) e (fits, t ∙ sym (lined_text p.0 p.1 m) ∙ ap (λ z. line (text.lined_words (record { line = p.0; instr = p.1 })) z) x);
}
  where
    -- each instruction has a first word
    lined_text : (n : ℕ) (i : Instr) (r : List ℕ) → line (decimal n ∷ text.instr_words i) r ≡ decimal n ++ 32 ∷ line (text.instr_words i) r
    lined_text l (Instr.Const to k) r = refl
    lined_text l (Instr.Null to) r = refl
    lined_text l (Instr.Un to op a) r = refl
    lined_text l (Instr.Bin to op a b) r = refl
    lined_text l (Instr.Addr to p) r = refl
    lined_text l (Instr.Field to a shape k) r = refl
    lined_text l (Instr.Decay to a shape) r = refl
    lined_text l (Instr.Index to a b w) r = refl
    lined_text l (Instr.Get to p n) r = refl
    lined_text l (Instr.Load to a n) r = refl
    lined_text l (Instr.Set p a n) r = refl
    lined_text l (Instr.Store a b n) r = refl
    lined_text l (Instr.Same to ne a b) r = refl
    lined_text l (Instr.New to a n) r = refl
    lined_text l (Instr.Free a) r = refl
    lined_text l (Instr.In a) r = refl
    lined_text l (Instr.Left a) r = refl
    lined_text l (Instr.Out a) r = refl
    lined_text l (Instr.Call to fun def args) r = refl
    lined_text l (Instr.Ret a o) r = refl
    lined_text l (Instr.Jump a) r = refl
    lined_text l (Instr.Test a m n) r = refl
    lined_text l (Instr.Turn) r = refl
    lined_text l (Instr.Fork join entries) r = refl
    lined_text l (Instr.End) r = refl
