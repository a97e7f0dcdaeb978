-- The formats of the parts of a module. A tool of proof.
use Rattle.std.specs.Prelude.{ℕ, Bool, true, false, List, [], ◌∷◌, codes}
use Rattle.tac_ir.specs.declared.code.Code.{Code}
use Rattle.tac_ir.specs.declared.code.Shape.{Shape}
use Rattle.tac_ir.specs.declared.code.Global.{Global}
use Rattle.tac_ir.specs.declared.code.Site.{Site}
use Rattle.tac_ir.specs.declared.code.Fun.{Fun}
use Rattle.tac_ir.specs.declared.code.Lined.{Lined}
use Rattle.line_format.specs.tools.Format.{Format, give, chain}
use Rattle.line_format.specs.tools.Signed.{signed_and}
use Rattle.line_format.specs.tools.Words.{Table, word, one_of}
use Rattle.line_format.specs.tools.Members.{any_members}
use Rattle.line_format.specs.tools.Times.{times}
use Rattle.text_law.specs.declared.opcode.ShapeWord.{ShapeWord}
use Rattle.text_law.specs.tools.Instrs.{number, pair, lined}

-- ---- shapes, globals, sites

abbrev pub shape_words : Table ShapeWord
shape_words = (codes "int\n", ShapeWord.Int) ∷ (codes "ptr\n", ShapeWord.Ptr) ∷ (codes "array ", ShapeWord.Array) ∷ (codes "struct", ShapeWord.Struct) ∷ []

abbrev pub shape_body : ShapeWord → Format Shape
shape_body ShapeWord.Int = give Shape.Int
shape_body ShapeWord.Ptr = give Shape.Ptr
shape_body ShapeWord.Array = chain (pair (number 32) (number 10)) (λ p. give (Shape.Array p.0 p.1))
shape_body ShapeWord.Struct = chain (any_members [] 32 10 false) (λ parts. give (Shape.Struct parts))

abbrev pub shape : Format Shape
shape = chain (one_of shape_words) shape_body

abbrev pub global : Format Global
global = chain (pair (number 32) (pair (signed_and 32) (number 10))) (λ p. give (record { shape = p.0; start = p.1.0; line = p.1.1 }))

abbrev pub site : Format Site
site = chain (pair (number 32) (number 10)) (λ p. give (record { shape = p.0; line = p.1 }))

-- ---- what is promised, and then as many

-- behind a word
abbrev pub behind : {A : Type 0} → List ℕ → Format A → Format A
behind w f = chain (word w) (λ u. f)

-- a count behind a word that ends in a space, and so many
abbrev pub section : {A : Type 0} → List ℕ → Format A → Format (List A)
section w f = chain (behind w (number 10)) (λ n. times f n)

abbrev pub var : Format ℕ
var = behind (codes "var ") (number 10)

-- the numbers in the line of a function
abbrev pub head : Format (ℕ × (ℕ × (ℕ × ℕ)))
head = behind (codes "function ") (pair (number 32) (pair (number 32) (pair (number 32) (number 10))))

abbrev pub fun_of : ℕ × (ℕ × (ℕ × ℕ)) → List ℕ × List Lined → Fun
fun_of h p = record { params = h.0; vars = p.0; code = p.1; line = h.1.1.1 }

abbrev pub fun : Format Fun
fun = chain head (λ h. chain (pair (times var h.1.0) (times lined h.1.1.0)) (λ p. give (fun_of h p)))

-- how many functions there are, which is main, and they
abbrev pub funs : Format (ℕ × List Fun)
funs = chain (behind (codes "functions ") (number 10)) (λ n. pair (behind (codes "main ") (number 10)) (times fun n))

abbrev pub code : Format Code
code =
    chain (pair (section (codes "shapes ") shape) (pair (section (codes "globals ") global) (pair (section (codes "sites ") site) funs)))
    (λ p. give (record { shapes = p.0; globals = p.1.0; sites = p.1.1.0; main = p.1.1.1.0; funs = p.1.1.1.1 }))

-- ---- classes and sets

abbrev pub class : Format ℕ
class = behind (codes "class ") (number 10)

abbrev pub check_words : Table Bool
check_words = (codes "checked", false) ∷ (codes "removed", true) ∷ []

abbrev pub set : Format (Bool × List ℕ)
set = pair (one_of check_words) (any_members [] 32 10 true)
