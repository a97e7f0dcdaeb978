-- The definitions that each read allows, before there is an analysis of whole programs.
use Rattle.std.specs.Prelude.{ℕ, suc, true, false, nat_eq, Option, Some, None, List, [], ◌∷◌, ◌++◌, length, replicate, if◌then◌else◌}
use Rattle.std.specs.List.{range_with_len}
use Rattle.tac_ir.specs.declared.code.Code.{Code}
use Rattle.tac_ir.specs.declared.code.Fun.{Fun}
use Rattle.tac_ir.specs.declared.code.Instr.{Instr}
use Rattle.tac_ir.specs.declared.code.Lined.{Lined}
use Rattle.tac_ir.specs.Numbers.{defs_in_code, reads_made}
use Rattle.first_module.specs.StraightLine.{global_at, global_behind, is_straight}

-- what an instruction defines: the global, and the number of the definition
abbrev pub target_of : List Lined → Instr → Option (Option ℕ × ℕ)
target_of earlier (Instr.Set place a d) = Some (global_at place, d)
target_of earlier (Instr.Store a b d) = Some (global_behind earlier a, d)
target_of earlier i = None

abbrev pub is_global : ℕ → Option ℕ → List ℕ → List ℕ → List ℕ
is_global g None here there = there
is_global g (Some k) here there = elim (nat_eq k g) [ true ↦ here | false ↦ there ]

-- the definitions of a global behind these instructions, ascending: its starting definition, and those that write it
abbrev pub definitions_of : ℕ → List Lined → List ℕ
definitions_of g [] = suc g ∷ []
definitions_of g (l ∷ earlier) =
    elim (target_of earlier l.instr) [ None ↦ definitions_of g earlier | Some t ↦ is_global g t.0 (definitions_of g earlier ++ t.1 ∷ []) (definitions_of g earlier) ]

-- the last of them alone
abbrev pub last_definition_of : ℕ → List Lined → List ℕ
last_definition_of g [] = suc g ∷ []
last_definition_of g (l ∷ earlier) =
    elim (target_of earlier l.instr) [ None ↦ last_definition_of g earlier | Some t ↦ is_global g t.0 (t.1 ∷ []) (last_definition_of g earlier) ]

abbrev pub or_none : (ℕ → List ℕ) → Option ℕ → List ℕ
or_none set None = []
or_none set (Some g) = set g

-- What a read in a straight line may find: of a variable what was written last, through a pointer whatever was written into its global.
abbrev pub set_by : List Lined → Instr → List (List ℕ)
set_by earlier (Instr.Get to place r) = or_none (λ g. last_definition_of g earlier) (global_at place) ∷ []
set_by earlier (Instr.Load to a r) = or_none (λ g. definitions_of g earlier) (global_behind earlier a) ∷ []
set_by earlier i = []

abbrev pub sets_behind : List Lined → List Lined → List (List ℕ)
sets_behind earlier [] = []
sets_behind earlier (l ∷ rest) = set_by earlier l.instr ++ sets_behind (l ∷ earlier) rest

-- the sets of the reads of a straight line
abbrev pub straight_sets : List Fun → List (List ℕ)
straight_sets [] = []
straight_sets (f ∷ funs) = sets_behind [] f.code

-- each read allows each definition
abbrev pub all_sets : Code → List (List ℕ)
all_sets c = replicate (length (reads_made c)) (range_with_len 1 (defs_in_code c))

abbrev pub sets_of : Code → List (List ℕ)
sets_of c = if is_straight c.funs then straight_sets c.funs else all_sets c
