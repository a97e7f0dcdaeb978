-- The parts of a module beside their lines.
use Rattle.std.proofs.Common.{◌≡◌, ℕ, ◌<◌, ◌≤◌, false, List, [], ◌∷◌, ◌++◌, length, refl, sym, ap, subst, ◌∙◌, length-append, append_assoc, arith}
use Rattle.std.specs.Prelude.{codes}
use Rattle.std.specs.Fmt.{decimal}
use Rattle.tac_ir.specs.declared.code.Shape.{Shape}
use Rattle.tac_ir.specs.declared.code.Fun.{Fun}
use Rattle.tac_ir.specs.declared.code.Lined.{Lined}
use Rattle.line_format.specs.Lines.{line, lines, numbers_text}
use Rattle.line_format.specs.tools.Format.{Format, Has}
use Rattle.line_format.specs.tools.Members.{any_members}
use Rattle.line_format.specs.tools.Times.{times}
use Rattle.line_format.proofs.Formats.{Good}
use Rattle.line_format.proofs.Tables.{In, one_is, one_good}
use Rattle.line_format.proofs.OneWord.{has_of}
use Rattle.line_format.proofs.Spells.{Spells, signed_spells, any_spells, behind, mapped, many, All, puts}
use Rattle.text_law.specs.ModuleText as text
use Rattle.text_law.specs.IsModule.{Is32Bits, Are32Bits, IsShape, IsGlobal, IsSite, IsFun, IsCode, IsLined, Each, Counted}
use Rattle.text_law.specs.declared.opcode.ShapeWord.{ShapeWord}
use Rattle.text_law.specs.tools.Instrs as instr_form
use Rattle.text_law.specs.tools.Parts as form
use Rattle.text_law.proofs.Basics.{plain, pair, in_nth, Rows, row_in}
use Rattle.text_law.proofs.Instructions.{spaced, numbers_line, lined}

n32 : Spells (instr_form.number 32) Is32Bits (λ n r. decimal n ++ 32 ∷ r)
n32 = plain 32 refl

n10 : Spells (instr_form.number 10) Is32Bits (λ n r. decimal n ++ 10 ∷ r)
n10 = plain 10 refl

-- ---- shapes

abbrev shape_word : ShapeWord → List ℕ
shape_word ShapeWord.Int = codes "int\n"
shape_word ShapeWord.Ptr = codes "ptr\n"
shape_word ShapeWord.Array = codes "array "
shape_word ShapeWord.Struct = codes "struct"

abbrev IsWord : List ℕ → ShapeWord → Type 0
IsWord w o = (w ≡ shape_word o) × (0 < length w)

words : Rows IsWord form.shape_words
words = ((refl, omega arith), ((refl, omega arith), ((refl, omega arith), ((refl, omega arith), tt))))

begins : (w : List ℕ) (o : ShapeWord) → In w o form.shape_words → (s : Shape) (x r : List ℕ) → Has (form.shape_body o) x s r → Has form.shape (w ++ x) s r
begins w o j s x r h = (o, x, has_of w o form.shape_words refl (λ v b k. (row_in IsWord words k).1) j x, h)

parts : Spells (any_members [] 32 10 false) Are32Bits (λ xs r. numbers_text [] 32 10 xs r)
parts = any_spells [] 32 10 false spaced

shape_has : (s : Shape) → IsShape s → (r : List ℕ) → Has form.shape (line (text.shape_words s) r) s r
shape_has Shape.Int i r = begins (codes "int\n") ShapeWord.Int (in_nth 0 refl) Shape.Int r r (refl, refl)
shape_has Shape.Ptr i r = begins (codes "ptr\n") ShapeWord.Ptr (in_nth 1 refl) Shape.Ptr r r (refl, refl)
shape_has (Shape.Array len item) i r = begins (codes "array ") ShapeWord.Array (in_nth 2 refl) (Shape.Array len item) _ r ((len, item), r, (pair n32 n10).has (len, item) i r, (refl, refl))
shape_has (Shape.Struct xs) i r =
    subst (λ z. Has form.shape z (Shape.Struct xs) r) (numbers_line (codes "struct") xs r)
    (begins (codes "struct") ShapeWord.Struct (in_nth 3 refl) (Shape.Struct xs) _ r (xs, r, parts.has xs i r, (refl, refl)))

shape_is : (o : ShapeWord) (ts : List ℕ) (s : Shape) (r m : List ℕ) → ts ≡ shape_word o ++ m → Has (form.shape_body o) m s r → IsShape s × (ts ≡ line (text.shape_words s) r)
shape_is ShapeWord.Int ts s r m t (e, x) = subst (λ z. IsShape z × (ts ≡ line (text.shape_words z) r)) e (tt, t ∙ ap (λ z. codes "int\n" ++ z) x)
shape_is ShapeWord.Ptr ts s r m t (e, x) = subst (λ z. IsShape z × (ts ≡ line (text.shape_words z) r)) e (tt, t ∙ ap (λ z. codes "ptr\n" ++ z) x)
shape_is ShapeWord.Array ts s r m t (p, n, h, (e, x)) =
    let (i, u) = (pair n32 n10).is m p n h in
    subst (λ z. IsShape z × (ts ≡ line (text.shape_words z) r)) e (i, t ∙ ap (λ z. codes "array " ++ z) (u ∙ ap (λ z. decimal p.0 ++ 32 ∷ (decimal p.1 ++ 10 ∷ z)) x))
shape_is ShapeWord.Struct ts s r m t (xs, n, h, (e, x)) =
    let (i, u) = parts.is m xs n h in
    subst (λ z. IsShape z × (ts ≡ line (text.shape_words z) r)) e (i, t ∙ ap (λ z. codes "struct" ++ z) (u ∙ ap (λ z. numbers_text [] 32 10 xs z) x) ∙ numbers_line (codes "struct") xs r)

shape_body_good : (o : ShapeWord) → Good (form.shape_body o)
shape_body_good ShapeWord.Int = tt
shape_body_good ShapeWord.Ptr = tt
shape_body_good ShapeWord.Array = ((pair n32 n10).good, λ p g. tt)
shape_body_good ShapeWord.Struct = (parts.good, λ p g. tt)

shape : Spells form.shape IsShape (λ s r. line (text.shape_words s) r)
shape = record {
  good = (one_good form.shape_words tt, λ o g. shape_body_good o);
  has = shape_has;
  is = λ ts s r (o, m, h, g).
      let (w, j, t) = one_is h in
      shape_is o ts s r m (t ∙ ap (λ z. z ++ m) (row_in IsWord words j).0) g;
}

global : Spells form.global IsGlobal (λ g r. line (text.global_words g) r)
global = mapped (pair n32 (pair (signed_spells 32 refl) n10)) IsGlobal (λ p. record { shape = p.0; start = p.1.0; line = p.1.1 }) (λ g. (g.shape, (g.start, g.line))) (λ g i. (i, refl)) (λ p i. (i, refl))

site : Spells form.site IsSite (λ s r. line (text.site_words s) r)
site = mapped (pair n32 n10) IsSite (λ p. record { shape = p.0; line = p.1 }) (λ s. (s.shape, s.line)) (λ s i. (i, refl)) (λ p i. (i, refl))

-- ---- so many lines

-- a line takes a byte
line_takes : (ws : List (List ℕ)) (r : List ℕ) → length r < length (line ws r)
line_takes [] r = omega arith
line_takes (w ∷ []) r = omega (arith, length-append w (10 ∷ r))
line_takes (w ∷ v ∷ ws) r = omega (arith, length-append w (32 ∷ line (v ∷ ws) r), line_takes (v ∷ ws) r)

module _ {A : Type 0} {f : Format A} {Is : A → Type 0} (words_of : A → List (List ℕ)) (s : Spells f Is (λ a r. line (words_of a) r)) where
  all_each : (xs : List A) → All s xs → Each Is xs
  all_each [] is = tt
  all_each (x ∷ xs) (i, is) = (i, all_each xs is)

  each_all : (xs : List A) → Each Is xs → All s xs
  each_all [] is = tt
  each_all (x ∷ xs) (i, is) = (i, each_all xs is)

  puts_lines : (xs : List A) (r : List ℕ) → puts s xs r ≡ lines words_of xs r
  puts_lines [] r = refl
  puts_lines (x ∷ xs) r = ap (λ z. line (words_of x) z) (puts_lines xs r)

  -- so many lines
  pub repeated : (n : ℕ) → Spells (times f n) (λ xs. (length xs ≡ n) × Each Is xs) (λ xs r. lines words_of xs r)
  repeated n =
      let m = many s (λ a r i. line_takes (words_of a) r) n in
      record {
        good = m.good;
        has = λ xs i r. subst (λ z. Has (times f n) z xs r) (puts_lines xs r) (m.has xs (i.0, each_all xs i.1) r);
        is = λ ts xs r h. let (i, t) = m.is ts xs r h in ((i.0, all_each xs i.1), t ∙ puts_lines xs r);
      }

  -- a count, and so many lines
  pub section : (w : List ℕ) → Spells (form.section (w ++ 32 ∷ []) f) (Counted Is) (λ xs r. line (w ∷ decimal (length xs) ∷ []) (lines words_of xs r))
  section w = record {
    good = ((counted w).good, λ n (ts, r, h). (repeated n).good);
    has = λ xs (small, is) r.
        let x : List ℕ = lines words_of xs r in
        (length xs, x, subst (λ z. Has (form.behind (w ++ 32 ∷ []) (instr_form.number 10)) z (length xs) x) (append_assoc w (32 ∷ []) (decimal (length xs) ++ 10 ∷ x)) ((counted w).has (length xs) small x), (repeated (length xs)).has xs (refl, is) r);
    is = λ ts xs r (n, m, h, g).
        let (small, t) = (counted w).is ts n m h in
        let ((count, is), u) = (repeated n).is m xs r g in
        ((subst (λ z. Is32Bits z) (sym count) small, is), t ∙ append_assoc w (32 ∷ []) (decimal n ++ 10 ∷ m) ∙ (λ i. w ++ 32 ∷ (decimal (sym count i) ++ 10 ∷ u i)));
  }
    where
      counted : (w : List ℕ) → Spells (form.behind (w ++ 32 ∷ []) (instr_form.number 10)) Is32Bits (λ n r. (w ++ 32 ∷ []) ++ (decimal n ++ 10 ∷ r))
      counted w = behind n10 (w ++ 32 ∷ [])

-- ---- functions

var : Spells form.var Is32Bits (λ n r. line (text.var_words n) r)
var = behind n10 (codes "var ")

head : Spells form.head (λ h. Is32Bits h.0 × (Is32Bits h.1.0 × (Is32Bits h.1.1.0 × Is32Bits h.1.1.1)))
    (λ h r. codes "function " ++ (decimal h.0 ++ 32 ∷ (decimal h.1.0 ++ 32 ∷ (decimal h.1.1.0 ++ 32 ∷ (decimal h.1.1.1 ++ 10 ∷ r)))))
head = behind (pair n32 (pair n32 (pair n32 n10))) (codes "function ")

bodies : (v n : ℕ) → Spells {A = List ℕ × List Lined} (instr_form.pair (times form.var v) (times instr_form.lined n))
    (λ p. ((length p.0 ≡ v) × Each Is32Bits p.0) × ((length p.1 ≡ n) × Each IsLined p.1)) (λ p r. lines text.var_words p.0 (lines text.lined_words p.1 r))
bodies v n = pair (repeated text.var_words var v) (repeated text.lined_words lined n)

fun : Spells form.fun IsFun (λ f r. text.fun_text f r)
fun = record {
  good = (head.good, λ h g. ((bodies h.1.0 h.1.1.0).good, λ p k. tt));
  has = λ f i r.
      let h : ℕ × (ℕ × (ℕ × ℕ)) = (f.params, (length f.vars, (length f.code, f.line))) in
      let x : List ℕ = lines text.var_words f.vars (lines text.lined_words f.code r) in
      (h, x, head.has h (i.params, (i.vars.0, (i.code.0, i.line))) x, ((f.vars, f.code), r, (bodies (length f.vars) (length f.code)).has (f.vars, f.code) ((refl, i.vars.1), (refl, i.code.1)) r, (refl, refl)));
  is = λ ts f r (h, m, g, (p, n, k, (e, x))).
      let (fits, t) = head.is ts h m g in
      let (((a, b), (c, d)), u) = (bodies h.1.0 h.1.1.0).is m p n k in
      let is : IsFun (form.fun_of h p) = record { params = fits.0; line = fits.1.1.1; vars = (subst (λ z. Is32Bits z) (sym a) fits.1.0, b); code = (subst (λ z. Is32Bits z) (sym c) fits.1.1.0, d) } in
      let same : ts ≡ text.fun_text (form.fun_of h p) n =
      t ∙ (λ i. codes "function " ++ (decimal h.0 ++ 32 ∷ (decimal (sym a i) ++ 32 ∷ (decimal (sym c i) ++ 32 ∷ (decimal h.1.1.1 ++ 10 ∷ u i))))) in
      subst (λ z. IsFun z × (ts ≡ text.fun_text z r)) e (is, same ∙ ap (λ z. text.fun_text (form.fun_of h p) z) x);
}

fun_takes : (f : Fun) (r : List ℕ) → length r < length (text.fun_text f r)
fun_takes f r =
    let x : List ℕ = lines text.var_words f.vars (lines text.lined_words f.code r) in
    omega (arith, line_takes (codes "function" ∷ decimal f.params ∷ decimal (length f.vars) ∷ decimal (length f.code) ∷ decimal f.line ∷ []) x, lines_le text.var_words f.vars (lines text.lined_words f.code r), lines_le text.lined_words f.code r)
  where
    lines_le : {A : Type 0} (words_of : A → List (List ℕ)) (xs : List A) (r : List ℕ) → length r ≤ length (lines words_of xs r)
    lines_le words_of [] r = omega arith
    lines_le words_of (x ∷ xs) r = omega (arith, line_takes (words_of x) (lines words_of xs r), lines_le words_of xs r)

funs_all : (xs : List Fun) → All fun xs → Each IsFun xs
funs_all [] is = tt
funs_all (x ∷ xs) (i, is) = (i, funs_all xs is)

all_funs : (xs : List Fun) → Each IsFun xs → All fun xs
all_funs [] is = tt
all_funs (x ∷ xs) (i, is) = (i, all_funs xs is)

puts_funs : (xs : List Fun) (r : List ℕ) → puts fun xs r ≡ text.funs_text xs r
puts_funs [] r = refl
puts_funs (x ∷ xs) r = ap (λ z. text.fun_text x z) (puts_funs xs r)

main : Spells (form.behind (codes "main ") (instr_form.number 10)) Is32Bits (λ n r. codes "main " ++ (decimal n ++ 10 ∷ r))
main = behind n10 (codes "main ")

count : Spells (form.behind (codes "functions ") (instr_form.number 10)) Is32Bits (λ n r. codes "functions " ++ (decimal n ++ 10 ∷ r))
count = behind n10 (codes "functions ")

main_and : (n : ℕ) → Spells {A = ℕ × List Fun} (instr_form.pair (form.behind (codes "main ") (instr_form.number 10)) (times form.fun n))
    (λ p. Is32Bits p.0 × ((length p.1 ≡ n) × All fun p.1)) (λ p r. codes "main " ++ (decimal p.0 ++ 10 ∷ puts fun p.1 r))
main_and n = pair main (many fun (λ f r i. fun_takes f r) n)

funs : Spells form.funs (λ p. Is32Bits p.0 × Counted IsFun p.1) (λ p r. text.count (codes "functions") p.1 (line (codes "main" ∷ decimal p.0 ∷ []) (text.funs_text p.1 r)))
funs = record {
  good = (count.good, λ n g. (main_and n).good);
  has = λ p (small, (few, is)) r.
      let x : List ℕ = codes "main " ++ (decimal p.0 ++ 10 ∷ text.funs_text p.1 r) in (
        length p.1,
        x,
        count.has (length p.1) few x,
        subst (λ z. Has (instr_form.pair (form.behind (codes "main ") (instr_form.number 10)) (times form.fun (length p.1))) (codes "main " ++ (decimal p.0 ++ 10 ∷ z)) p r) (puts_funs p.1 r)
            ((main_and (length p.1)).has p (small, (refl, all_funs p.1 is)) r),
      );
  is = λ ts p r (n, m, h, g).
      let (few, t) = count.is ts n m h in
      let ((small, (c, is)), u) = (main_and n).is m p r g in
      ((small, (subst (λ z. Is32Bits z) (sym c) few, funs_all p.1 is)), t ∙ (λ i. codes "functions " ++ (decimal (sym c i) ++ 10 ∷ (u ∙ ap (λ z. codes "main " ++ (decimal p.0 ++ 10 ∷ z)) (puts_funs p.1 r)) i)));
}

-- ---- the code

shapes : Spells (form.section (codes "shapes ") form.shape) (Counted IsShape) (λ xs r. text.section (codes "shapes") text.shape_words xs r)
shapes = section text.shape_words shape (codes "shapes")

globals : Spells (form.section (codes "globals ") form.global) (Counted IsGlobal) (λ xs r. text.section (codes "globals") text.global_words xs r)
globals = section text.global_words global (codes "globals")

sites : Spells (form.section (codes "sites ") form.site) (Counted IsSite) (λ xs r. text.section (codes "sites") text.site_words xs r)
sites = section text.site_words site (codes "sites")

pub code : Spells form.code IsCode (λ c r. text.code_text c r)
code =
    mapped (pair shapes (pair globals (pair sites funs))) IsCode (λ p. record { shapes = p.0; globals = p.1.0; sites = p.1.1.0; main = p.1.1.1.0; funs = p.1.1.1.1 })
    (λ c. (c.shapes, (c.globals, (c.sites, (c.main, c.funs))))) (λ c i. ((i.shapes, (i.globals, (i.sites, (i.main, i.funs)))), refl))
    (λ p (a, (b, (c, (d, e)))). (record { shapes = a; globals = b; sites = c; main = d; funs = e }, refl))

-- ---- classes and sets

class : Spells form.class Is32Bits (λ n r. line (text.class_words n) r)
class = behind n10 (codes "class ")

pub classes : Spells (form.section (codes "definitions ") form.class) (Counted Is32Bits) (λ xs r. text.section (codes "definitions") text.class_words xs r)
classes = section text.class_words class (codes "definitions")
