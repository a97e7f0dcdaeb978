-- Branches of a fork, as the code finds them.
use Rattle.std.specs.Prelude.{◌≡◌, ℕ, List, [], ◌∷◌, map, Option, Some, None}
use Rattle.c_typed.specs.declared.stmt.Branch.{Branch}
use Rattle.c_typed.specs.declared.stmt.Stmt.{Stmt}
use Rattle.src_law.specs.Acts.{an_end, Act, Acts}
use Rattle.src_law.specs.declared.heard.End.{End}
use Rattle.src_law.specs.Exprs.{Around}
use Rattle.src_law.specs.Program.{body}
use Rattle.src_law.specs.Stmts.{in_turn, stmt}
use Rattle.src_law.specs.declared.heard.Heard.{Heard}
use Rattle.src_law.specs.declared.heard.Heard.TheVariants.{Answer as answer, Branch as branch}
use Rattle.src_law.specs.tools.Heard.{Res, bind}
use Rattle.src_law.specs.tools.Reader.{reads, calls_at, turns_at, branch_by, to_end}
use Rattle.src_meaning.specs.declared.level.Level.{Level}
use Rattle.src_meaning.specs.tools.Levels.{program_of}

abbrev pub branches_of : Around → List (Branch Stmt) → Acts
branches_of c [] = Acts.no_more
branches_of c (b ∷ bs) = Acts.beside (in_turn (map (stmt c) b.body)) (branches_of c bs)

-- branch i, from 1
abbrev pub branch_in : Level → Acts → ℕ → List Heard → Res End
branch_in l branches i heard = branch_by (calls_at (body (program_of l.program)) l.fuel) (turns_at (body (program_of l.program)) l.fuel) branches i heard

abbrev pub to_its_end : Level → Act an_end → List Heard → Res End
to_its_end l a heard = bind (reads (body (program_of l.program)) l.fuel an_end a heard) to_end

-- whether a branch comes next in what is heard
abbrev pub Branches : List Heard → Option ℕ → List Heard → Type 0
Branches [] r left = (r ≡ None) × (left ≡ [])
Branches (answer a ∷ l) r left = (r ≡ None) × (left ≡ answer a ∷ l)
Branches (branch i ∷ l) r left = (r ≡ Some i) × (left ≡ l)
