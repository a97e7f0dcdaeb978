-- Reserved words (C99 6.4.1, and two of this profile), and the words that spell them.
use Rattle.std.specs.Prelude.{ℕ, Bool, List, [], ◌∷◌, Option, Some, None, bytes_eq, codes, if◌then◌else◌}
use denote.Enum.Bare.{sameb}
use Rattle.c_lex.specs.declared.token.Word.{Word}
use Rattle.c_lex.specs.contracts.token.Word as word_type
use Rattle.c_lex.specs.declared.token.Word.TheVariants.{Int, Void, Struct, If, Else, While, For, Return, Break, Continue, Par, Sizeof, Null, Unused}

-- what f gives of the first row of a table that passes the test
abbrev pub look_up : {A B : Type 0} → (A → Bool) → (A → B) → List A → Option B
look_up test f [] = None
look_up test f (row ∷ rows) = if test row then Some (f row) else look_up test f rows

-- a text that was found, and no byte where there is none
abbrev pub found_text : Option (List ℕ) → List ℕ
found_text None = []
found_text (Some text) = text

abbrev pub same_word : Word → Word → Bool
same_word = sameb word_type.the_type

-- the words that the grammar uses, and every other keyword
unfoldable pub words : List (List ℕ × Word)
words =
    (codes "int", Int) ∷ (codes "void", Void) ∷ (codes "struct", Struct) ∷ (codes "if", If) ∷ (codes "else", Else)
    ∷ (codes "while", While) ∷ (codes "for", For) ∷ (codes "return", Return) ∷ (codes "break", Break)
    ∷ (codes "continue", Continue) ∷ (codes "par", Par) ∷ (codes "sizeof", Sizeof) ∷ (codes "NULL", Null)
    ∷ (codes "auto", Unused) ∷ (codes "case", Unused) ∷ (codes "char", Unused) ∷ (codes "const", Unused)
    ∷ (codes "default", Unused) ∷ (codes "do", Unused) ∷ (codes "double", Unused) ∷ (codes "enum", Unused)
    ∷ (codes "extern", Unused) ∷ (codes "float", Unused) ∷ (codes "goto", Unused) ∷ (codes "inline", Unused)
    ∷ (codes "long", Unused) ∷ (codes "register", Unused) ∷ (codes "restrict", Unused) ∷ (codes "short", Unused)
    ∷ (codes "signed", Unused) ∷ (codes "static", Unused) ∷ (codes "switch", Unused) ∷ (codes "typedef", Unused)
    ∷ (codes "union", Unused) ∷ (codes "unsigned", Unused) ∷ (codes "volatile", Unused) ∷ (codes "_Bool", Unused)
    ∷ (codes "_Complex", Unused) ∷ (codes "_Imaginary", Unused) ∷ []

-- the reserved word that the text spells, if any
unfoldable pub word_of : List ℕ → Option Word
word_of text = look_up (λ row. bytes_eq text row.0) (λ row. row.1) words

-- How the word is written: the first text beside it. A word with no use has many, and no tree has it.
unfoldable pub word_text : Word → List ℕ
word_text word = found_text (look_up (λ row. same_word row.1 word) (λ row. row.0) words)
