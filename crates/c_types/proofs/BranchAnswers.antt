-- What the walk finds of `if` and of `par` is what the definition judges of them.
use Rattle.std.proofs.Common.{◌≡◌, ℕ, ◌+◌, Bool, true, false, ◌&&◌, List, [], ◌∷◌, ◌++◌, map, length, Option, Some, None, Ok, Err, nat_le, refl, sym, subst, arith}
use Rattle.std.proofs.lemmas.List.{length-map}
use Rattle.dfi_base.specs.declared.numbers.Line.{Line}
use Rattle.c_ast.specs.declared.expr.Expr.{Expr as SourceExpr}
use Rattle.c_ast.specs.declared.stmt.Block.{Block}
use Rattle.c_ast.specs.declared.stmt.Stmt.{Stmt as SourceStmt}
use Rattle.c_ast.specs.declared.stmt.Stmt.TheOpen.{Stmt-F as Source}
use Rattle.c_typed.specs.declared.stmt.Branch.{Branch}
use Rattle.c_typed.specs.declared.stmt.Condition.{Condition}
use Rattle.c_typed.specs.declared.stmt.Stmt.{Stmt, roll-Stmt as roll}
use Rattle.c_typed.specs.declared.stmt.Stmt.TheOpen.{Stmt-F}
use Rattle.c_types.specs.declared.outline.Outline.{Outline}
use Rattle.c_types.specs.declared.known.Known.{Known}
use Rattle.c_types.specs.declared.known.Around.{Around}
use Rattle.c_typed.specs.Marks.{opens, closes, branch}
use Rattle.c_typed.specs.Whole.{Whole}
use Rattle.c_typed.specs.Faults.{branches, unless}
use Rattle.c_typed.specs.Parts.{Place, Part, tokens, mark, behind, with_faults, in_turn, ◌⊗◌, ◌<⊗◌, ◌⊗>◌, ◌<$>◌}
use Rattle.c_typed.specs.Stmts.{condition, body, branch_of, second, stmt_step, stmt}
use Rattle.c_types.specs.tools.Steps.{Found, ◌>>=◌, unless_kept}
use Rattle.c_types.specs.tools.StmtWalk.{same, condition_walk, stmt_walk, source_second_walk, source_branch_walk, source_branches_walk, source_par_walk}
use Rattle.c_types.proofs.Bounds.{IsInside, inside, inside_tokens, inside_given, inside_map, from_less, from_append}
use Rattle.c_types.proofs.BoundsDecls.{AllInside, inside_in_turn, inside_mark, beside, before, after}
use Rattle.c_types.proofs.BoundsStmts.{inside_stmt, inside_condition}
use Rattle.c_types.proofs.BoundsPrograms.{inside_function_body}
use Rattle.c_types.proofs.AnswerLaws.{AllFrom}
use Rattle.c_typed.proofs.Levels.{with_parts}
use Rattle.c_typed.proofs.Quiet.{quiet}
use Rattle.c_typed.proofs.Balanced.{Balanced}
use Rattle.c_typed.proofs.BalancedStmts.{join, balanced_quiet, balanced_stmt}
use Rattle.c_types.proofs.StmtLevels.{part_there}
use Rattle.c_types.proofs.WalkStmtLevels.{if_else}
use Rattle.c_types.proofs.Tells.{tells_with_none, tells_with_some}
use Rattle.c_types.proofs.Outlined.{IsOutline}
use Rattle.c_types.proofs.Walking.{then, result_of, err_ok, goes_given, goes_joined, goes_map, goes_after, goes_before}
use Rattle.c_types.proofs.WalkAnswers.{Within, Walks}
use Rattle.c_types.proofs.LeaveAnswers.{IsAround}
use Rattle.c_types.proofs.BlockAnswers.{StmtMeets, AllMeet, around_same, branch_walks, condition_walks}

-- The value of an `if`, from what is found of its parts.
abbrev as_if : Line → (Condition × Stmt) × Option Stmt → Stmt
as_if line s = roll (Stmt-F.If line s.0.0 s.0.1 s.1)

abbrev with_first : Known → Found Condition → (Known → Found (Stmt × Known)) → Found ((Condition × Stmt) × Known)
with_first k f g = then (λ a b. (a, b)) (same k f) (λ s. g s.1)

abbrev with_other : Condition → Stmt → Option Stmt × Known → Found (((Condition × Stmt) × Option Stmt) × Known)
with_other c s t = Ok (((c, s), t.0), t.1)

abbrev if_of : Line → ((Condition × Stmt) × Option Stmt) × Known → Found (Stmt × Known)
if_of line s = Ok (as_if line s.0, s.1)

abbrev if_value : Line → Found ((Condition × Stmt) × Known) → (Known → Found (Option Stmt × Known)) → Found (Stmt × Known)
if_value line r h = then (λ a b. (a, b)) r (λ s. h s.1) >>= if_of line

if_other : (line : Line) (c : Condition) (s : Stmt) (r : Found (Option Stmt × Known))
    → ((r >>= with_other c s) >>= if_of line) ≡ (r >>= (λ t. Ok (roll (Stmt-F.If line c s t.0), t.1)))
if_other line c s (Ok t) = refl
if_other line c s (Err e) = refl

if_first : (line : Line) (c : Condition) (r : Found (Stmt × Known)) (h : Known → Found (Option Stmt × Known))
    → if_value line (r >>= (λ t. Ok ((c, t.0), t.1))) h ≡ (r >>= (λ s. h s.1 >>= (λ t. Ok (roll (Stmt-F.If line c s.0 t.0), t.1))))
if_first line c (Ok s) h = if_other line c s.0 (h s.1)
if_first line c (Err e) h = refl

if_found : (line : Line) (k : Known) (f : Found Condition) (g : Known → Found (Stmt × Known)) (h : Known → Found (Option Stmt × Known))
    → if_value line (with_first k f g) h ≡ (f >>= (λ c. g k >>= (λ s. h s.1 >>= (λ t. Ok (roll (Stmt-F.If line c s.0 t.0), t.1)))))
if_found line k (Ok c) g h = if_first line c (g k) h
if_found line k (Err e) g h = refl

module _ (w : Whole) (o : Outline) (is_outline : IsOutline w o) where
  abbrev pub MeetsThere : Option SourceStmt → Type 0
  MeetsThere None = Unit {0}
  MeetsThere (Some s) = StmtMeets w o is_outline s

  -- `else`, if it is there
  second_inside : (other : Option SourceStmt) → IsInside (second (part_there w other))
  second_inside None = inside_given None
  second_inside (Some s) = inside_map (λ a. Some a) (tokens 1 ⊗> stmt w s) (after (inside_tokens 1) (inside_stmt w s))

  second_walks : (other : Option SourceStmt) → MeetsThere other → (here : Place) (k : Known) (a : Around) → Within w here.before k → IsAround here.before a
      → Walks w (second (part_there w other)) here (source_second_walk o a other k)
  second_walks None meets here k a is round = goes_given (Within w) None here k is
  second_walks (Some s) meets here k a is round =
      goes_map (Within w) (λ s. Some s) (tokens 1 ⊗> stmt w s) here _ (goes_after (Within w) 1 (stmt w s) here _ (meets (behind (tokens 1) here) k a is round))

  abbrev if_head : SourceExpr → Part Condition
  if_head c = tokens 2 ⊗> condition w c <⊗ tokens 1

  head_inside : (c : SourceExpr) → IsInside (if_head c)
  head_inside c = before (after (inside_tokens 2) (inside (condition w c) (inside_condition w c))) (inside_tokens 1)

  head_balanced : (c : SourceExpr) → Balanced (if_head c).marks
  head_balanced c = join (balanced_quiet (quiet w c)) Balanced.none

  pub if_walks : (line : Line) (c : SourceExpr) (first : SourceStmt) (other : Option SourceStmt) → StmtMeets w o is_outline first → MeetsThere other
      → (here : Place) (k : Known) (a : Around) → Within w here.before k → IsAround here.before a
      → Walks w (stmt_step w (Source.If line c (stmt w first) (part_there w other))) here (if_else o line c first other a k)
  if_walks line c first other meets meets_other here k a is round =
      let head = condition_walks w o is_outline c here k is in
      let p = if_head c ⊗ stmt w first in
      let g = λ (l : Known). stmt_walk o first a l in
      let h = λ (l : Known). source_second_walk o a other l in
      let both = goes_joined (Within w) (λ a b. (a, b)) (if_head c) (stmt w first) here (same k (condition_walk o k c)) (λ s. g s.1) (head_inside c) (inside_stmt w first) head
      (λ s e. meets (behind (if_head c) here) s.1 a (head.stands s e) (around_same (head_balanced c) round)) in
      let all = goes_joined (Within w) (λ a b. (a, b)) p (second (part_there w other)) here (with_first k (condition_walk o k c) g) (λ s. h s.1)
      (beside (head_inside c) (inside_stmt w first)) (second_inside other) both
      (λ s e. second_walks other meets_other (behind p here) s.1 a (both.stands s e) (around_same (join (head_balanced c) (balanced_stmt w first)) round)) in
      subst (Walks w (stmt_step w (Source.If line c (stmt w first) (part_there w other))) here) (if_found line k (condition_walk o k c) g h)
      (goes_map (Within w) (as_if line) (p ⊗ second (part_there w other)) here _ all)

  -- The branches of a `par`, each in turn.
  pub data AllBlocks : List (Block SourceStmt) → Type 0 where
    none : AllBlocks []
    each_block : {b : Block SourceStmt} {bs : List (Block SourceStmt)} → AllMeet w o is_outline b.items → AllBlocks bs → AllBlocks (b ∷ bs)

  abbrev branch_parts : List (Block SourceStmt) → List (Part (Branch Stmt))
  branch_parts bs = map (branch_of w) (map (with_parts w) bs)

  branch_inside : (b : Block SourceStmt) → IsInside (branch_of w (with_parts w b))
  branch_inside b =
      inside_map _ (mark (opens branch) ⊗> body w (with_parts w b) <⊗ mark closes)
      (before (after (inside_mark (opens branch)) (inside_function_body w b)) (inside_mark closes))

  branches_inside : (bs : List (Block SourceStmt)) → AllInside (branch_parts bs)
  branches_inside [] = AllInside.none
  branches_inside (b ∷ bs) = AllInside.each (branch_inside b) (branches_inside bs)

  branches_walks : (bs : List (Block SourceStmt)) → AllBlocks bs → (here : Place) (k : Known) → Within w here.before k → Walks w (in_turn (branch_parts bs)) here (source_branches_walk o bs k)
  branches_walks [] AllBlocks.none here k is = goes_given (Within w) [] here k is
  branches_walks (b ∷ bs) (AllBlocks.each_block first rest) here k is =
      let begun = branch_walks w o is_outline b first here k is in
      goes_joined (Within w) (λ a rest. a ∷ rest) (branch_of w (with_parts w b)) (in_turn (branch_parts bs)) here (source_branch_walk o b k) (λ s. source_branches_walk o bs s.1)
      (branch_inside b) (inside_in_turn (branches_inside bs)) begun
      (λ s e. branches_walks bs rest (behind (branch_of w (with_parts w b)) here) s.1 (begun.stands s e))

  -- a rule at the first token of a part whose faults stand behind it
  pub walks_unless : {A : Type 0} (test : Bool) (line : Line) (p : Part A) (here : Place) (r : Found (A × Known)) → AllFrom (here.at + 1) (p.judge here).faults → Walks w p here r
      → Walks w (with_faults (λ here. unless test here.at branches line) p) here (unless_kept test branches line r)
  walks_unless true line p here r from is = record {
    tells = tells_with_none (λ here. unless true here.at branches line) p here (result_of r) refl is.tells;
    stands = is.stands;
  }
  walks_unless false line p here r from is = record {
    tells = tells_with_some (here.at + 1) (λ here. unless false here.at branches line) p here (record { at = here.at; rule = branches; line = line }) refl (omega arith, tt) from;
    stands = λ s e. absurd (err_ok e);
  }

  abbrev par_part : Line → List (Block SourceStmt) → Part Stmt
  par_part line bs = (λ b. roll (Stmt-F.Par line b)) <$> (tokens 2 ⊗> in_turn (branch_parts bs) <⊗ tokens 1)

  par_from : (line : Line) (bs : List (Block SourceStmt)) (here : Place) → AllFrom (here.at + 1) ((par_part line bs).judge here).faults
  par_from line bs here =
      let rest = ((inside_in_turn (branches_inside bs)).within (behind (tokens 2) here)).start in
      from_append (here.at + 1) ([] ++ ((in_turn (branch_parts bs)).judge (behind (tokens 2) here)).faults) []
      (from_less (here.at + 1) (here.at + 2) _ (omega arith) rest) tt

  abbrev is_count : ℕ → Bool
  is_count n = nat_le 2 n && nat_le n 15

  pub par_walks : (line : Line) (bs : List (Block SourceStmt)) → AllBlocks bs → (here : Place) (k : Known) → Within w here.before k
      → Walks w (stmt_step w (Source.Par line (map (with_parts w) bs))) here (source_par_walk o line bs k)
  par_walks line bs all here k is =
      subst (λ n. Walks w (with_faults (λ here. unless (is_count n) here.at branches line) (par_part line bs)) here (source_par_walk o line bs k)) (sym (length-map bs (with_parts w)))
      (walks_unless (is_count (length bs)) line (par_part line bs) here _ (par_from line bs here)
      (goes_map (Within w) (λ b. roll (Stmt-F.Par line b)) (tokens 2 ⊗> in_turn (branch_parts bs) <⊗ tokens 1) here _
      (goes_before (Within w) 1 (tokens 2 ⊗> in_turn (branch_parts bs)) here _
      (goes_after (Within w) 2 (in_turn (branch_parts bs)) here _ (branches_walks bs all (behind (tokens 2) here) k is)))))
