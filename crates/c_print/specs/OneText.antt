-- One text for a tree, and one tree for a text.
use Rattle.std.specs.Prelude.{◌≡◌, ℕ, List}
use Rattle.c_ast.specs.Ast.{Ast}
use Rattle.c_print.specs.IsTreeOf.{IsTreeOf}
use Rattle.c_print.specs.SameTree.{SameTree}
use Rattle.c_print.specs.Text.{text_of}

-- Lines change nothing in the text. So what was read back is printed as it was read.
abbrev pub PrintsTheSame : Type 0
PrintsTheSame = (a b : Ast) → SameTree a b → text_of a ≡ text_of b

-- Trees that sources have, and that have one text, are the same but for lines.
abbrev pub TellsApart : Type 0
TellsApart = (bytes others : List ℕ) (a b : Ast) → IsTreeOf bytes a → IsTreeOf others b → text_of a ≡ text_of b → SameTree a b
