-- Every statement is well-formed.
use Rattle.std.proofs.Common.{◌≡◌, ℕ, suc, ◌≤◌, Bool, true, false, ◌&&◌, List, [], ◌∷◌, ◌++◌, map, length, Option, Some, None, refl, ap, sym, ◌∙◌, subst, arith}
use Rattle.std.specs.Prelude.{nat_le}
use Rattle.std.proofs.lemmas.Bool.Decides.{nat_tests}
use Rattle.dfi_base.specs.declared.numbers.Line.{Line}
use Rattle.c_ast.specs.declared.decl.Base.{Base}
use Rattle.c_ast.specs.declared.decl.Decl.{Decl}
use Rattle.c_ast.specs.declared.decl.DeclItem.{DeclItem}
use Rattle.c_ast.specs.declared.stmt.Block.{Block}
use Rattle.c_typed.specs.declared.types.ObjectType.{ObjectType}
use Rattle.c_typed.specs.declared.expr.Expr.{Expr}
use Rattle.c_typed.specs.declared.stmt.Branch.{Branch}
use Rattle.c_typed.specs.declared.stmt.Stmt.{Stmt, roll-Stmt}
use Rattle.c_typed.specs.declared.stmt.Stmt.TheOpen.{Stmt-F}
use Rattle.c_typed.specs.Types.{declared_type, fits}
use Rattle.c_typed.specs.Marks.{Mark, History, opens, closes, block, branch}
use Rattle.c_typed.specs.Whole.{Whole}
use Rattle.c_typed.specs.Faults.{unless, branches}
use Rattle.c_typed.specs.Parts.{Part, marked, tokens, given, mark, with_faults, separated, in_turn, ◌<⊗◌, ◌⊗>◌, ◌<$>◌}
use Rattle.c_typed.specs.Tags.{base}
use Rattle.c_typed.specs.Decls as decls
use Rattle.c_typed.specs.Decls.{local_item, local_decl, joined_lists}
use Rattle.c_typed.specs.Stmts.{returns, block_item, body, branch_of}
use Rattle.c_typed.specs.IsWell.{Context, Round, in_branch_of, IsReturned, Placed, placed, in_branches, IsStmt, AreStmts}
use Rattle.c_typed.proofs.Balanced.{Balanced}
use Rattle.c_typed.proofs.WellParts.{none_some, some_is, pure_given}
use Rattle.c_typed.proofs.WellTypes.{IsUsed, IsLinked}
use Rattle.c_typed.proofs.WellExprs.{sound_base}
use Rattle.c_typed.proofs.WellStmts.{Sound, round, round_behind, unless_none, sound_of, sound_tokens, sound_mark, sound_joined, sound_map, sound_with, stmt_made, are_append, Anywhere, AreHere, AreAnywhere, fitting_value, sound_valued}

both_true_first : (a b : Bool) → a && b ≡ true → a ≡ true
both_true_first true b e = refl
both_true_first false b e = e

both_true_second : (a b : Bool) → a && b ≡ true → b ≡ true
both_true_second true b e = e
both_true_second false true e = refl
both_true_second false false e = e

module _ (w : Whole) (c : Context) (linked : IsLinked w c) where
  abbrev pub IsHere : History → Stmt → Type 0
  IsHere h s = IsStmt c (round h) s

  -- behind balanced marks the same stands round
  pub here_before : {ms : List Mark} (h : History) (s : Stmt) → Balanced ms → IsHere (marked ms h) s → IsHere h s
  here_before h s is known = subst (λ r. IsStmt c r s) (round_behind h is) known

  are_before : {ms : List Mark} (h : History) (ss : List Stmt) → Balanced ms → AreHere w c linked (marked ms h) ss → AreHere w c linked h ss
  are_before h ss is known = subst (λ r. AreStmts c (placed r ss)) (round_behind h is) known

  -- what is well-formed anywhere is so here
  pub sound_here : (p : Part Stmt) → Sound w c p (λ h s. Anywhere w c linked s) → Sound w c p IsHere
  sound_here p is = record { holds = λ here st kept no_fault s e. is.holds here st kept no_fault s e (round here.before) }

  -- Declarations, wherever they stand.
  data AllAre : List (Part (List Stmt)) → Type 0 where
    none : AllAre []
    each : {p : Part (List Stmt)} {ps : List (Part (List Stmt))} → Sound w c p (λ h ss. AreAnywhere w c linked ss) → AllAre ps → AllAre (p ∷ ps)

  all_are : (b : Base) (is : List DeclItem) → AllAre (map (local_item w b) is)
  all_are b [] = none
  all_are b (i ∷ is) = each (sound_valued w c linked i.declarator (declared_type w.tags b i.declarator) i.value) (all_are b is)

  abbrev AreJoined : History → List (List Stmt) → Type 0
  AreJoined h sss = AreAnywhere w c linked (joined_lists sss)

  no_lists : Sound w c (given {A = List (List Stmt)} []) AreJoined
  no_lists = sound_of w c (given []) {Q = AreJoined} (pure_given w c {Q = λ sss. AreAnywhere w c linked (joined_lists sss)} [] (λ r. AreStmts.none)) (λ h sss is. is)

  are_separated : {ps : List (Part (List Stmt))} → AllAre ps → Sound w c (separated ps) AreJoined
  are_separated none = no_lists
  are_separated (each {p} is none) =
      sound_joined w c (λ a rest. a ∷ rest) p (given []) {R = AreJoined} is no_lists (λ h ss sss x y r. are_append w c r ss (joined_lists sss) (x r) (y r))
  are_separated (each {p} is (each {p = q} {ps = ps} that rest)) =
      sound_joined w c (λ a rest. a ∷ rest) (p <⊗ tokens 1) (separated (q ∷ ps)) {R = AreJoined}
      (sound_joined w c (λ a b. a) p (tokens 1) {R = λ h ss. AreAnywhere w c linked ss} is (sound_tokens w c 1) (λ h a b x y. x)) (are_separated (each that rest))
      (λ h ss sss x y r. are_append w c r ss (joined_lists sss) (x r) (y r))

  block_made : (r : Round) (ss : List Stmt) → AreStmts c (placed r ss) → IsStmt c r (roll-Stmt (Stmt-F.Block ss))
  block_made r ss is = stmt_made w c r (Stmt-F.Block ss) tt is

  pub sound_local_decl : (d : Decl) → Sound w c (local_decl w d) (λ h s. Anywhere w c linked s)
  sound_local_decl d =
      let by_value = decls.by_value (map (λ i. i.declarator) d.items) in
      let items = separated (map (local_item w d.base) d.items) in
      sound_map w c (λ ss. roll-Stmt (Stmt-F.Block (joined_lists ss))) (base w by_value d.base ⊗> items <⊗ tokens 1) {P = AreJoined}
      (sound_joined w c (λ a b. a) (base w by_value d.base ⊗> items) (tokens 1) {R = AreJoined}
      (sound_joined w c (λ a b. b) (base w by_value d.base) items {P = λ h u. Unit {0}} {R = AreJoined}
      (sound_of w c (base w by_value d.base) (sound_base w c linked by_value d.base) (λ h u is. tt)) (are_separated (all_are d.base d.items))
      (λ h u sss x y. y))
      (sound_tokens w c 1) (λ h a b x y. x))
      (λ h sss is r. block_made r (joined_lists sss) (is r))

  -- Statements in turn.
  pub data AllWell : List (Part Stmt) → Type 0 where
    none : AllWell []
    each : {p : Part Stmt} {ps : List (Part Stmt)} → Balanced p.marks → Sound w c p IsHere → AllWell ps → AllWell (p ∷ ps)

  pub none_here : Sound w c (given {A = List Stmt} []) (AreHere w c linked)
  none_here = sound_of w c (given []) {Q = AreHere w c linked} (pure_given w c {Q = λ ss. (h : History) → AreHere w c linked h ss} [] (λ h. AreStmts.none)) (λ h ss is. is h)

  pub well_in_turn : {ps : List (Part Stmt)} → AllWell ps → Sound w c (in_turn ps) (AreHere w c linked)
  well_in_turn none = none_here
  well_in_turn (each {p} {ps} is known rest) =
      sound_joined w c (λ a rest. a ∷ rest) p (in_turn ps) {R = AreHere w c linked} known (well_in_turn rest)
      (λ h s ss x y. AreStmts.each (round h, s) (placed (round h) ss) x (are_before h ss is y))

  pub sound_body : (b : Block (Part Stmt)) → AllWell (map (block_item w) b.items) → Sound w c (body w b) (AreHere w c linked)
  sound_body b all =
      sound_joined w c (λ a b. a) (tokens 1 ⊗> in_turn (map (block_item w) b.items)) (tokens 1) {R = AreHere w c linked}
      (sound_joined w c (λ a b. b) (tokens 1) (in_turn (map (block_item w) b.items)) {R = AreHere w c linked} (sound_tokens w c 1) (well_in_turn all) (λ h u ss x y. y))
      (sound_tokens w c 1) (λ h a b x y. x)

  pub sound_block : (b : Block (Part Stmt)) → AllWell (map (block_item w) b.items)
      → Sound w c ((λ ss. roll-Stmt (Stmt-F.Block ss)) <$> (mark (opens block) ⊗> body w b <⊗ mark closes)) IsHere
  sound_block b all =
      sound_map w c (λ ss. roll-Stmt (Stmt-F.Block ss)) (mark (opens block) ⊗> body w b <⊗ mark closes) {P = AreHere w c linked}
      (sound_joined w c (λ a b. a) (mark (opens block) ⊗> body w b) (mark closes) {R = AreHere w c linked}
      (sound_joined w c (λ a b. b) (mark (opens block)) (body w b) {R = AreHere w c linked} (sound_mark w c (opens block)) (sound_body b all) (λ h u ss x y. y))
      (sound_mark w c closes) (λ h a b x y. x))
      (λ h ss is. block_made (round h) ss is)

  -- Branches.
  abbrev IsBranch : Branch Stmt → Type 0
  IsBranch b = AreStmts c (placed in_branch_of b.body)

  pub sound_branch : (b : Block (Part Stmt)) → AllWell (map (block_item w) b.items) → Sound w c (branch_of w b) (λ h b. IsBranch b)
  sound_branch b all =
      sound_map w c (λ ss. record { body = ss; close = b.close }) (mark (opens branch) ⊗> body w b <⊗ mark closes) {P = λ h ss. AreStmts c (placed in_branch_of ss)}
      (sound_joined w c (λ a b. a) (mark (opens branch) ⊗> body w b) (mark closes) {R = λ h ss. AreStmts c (placed in_branch_of ss)}
      (sound_joined w c (λ a b. b) (mark (opens branch)) (body w b) {R = λ h ss. AreStmts c (placed in_branch_of ss)} (sound_mark w c (opens branch)) (sound_body b all) (λ h u ss x y. y))
      (sound_mark w c closes) (λ h a b x y. x))
      (λ h ss is. is)

  pub data AllBranches : List (Part (Branch Stmt)) → Type 0 where
    none : AllBranches []
    each : {p : Part (Branch Stmt)} {ps : List (Part (Branch Stmt))} → Sound w c p (λ h b. IsBranch b) → AllBranches ps → AllBranches (p ∷ ps)

  are_joined : (ps qs : List Placed) → AreStmts c ps → AreStmts c qs → AreStmts c (ps ++ qs)
  are_joined [] qs is that = that
  are_joined (p ∷ ps) qs (AreStmts.each q rs first rest) that = AreStmts.each p (ps ++ qs) first (are_joined ps qs rest that)

  record AreBranches (n : ℕ) (bs : List (Branch Stmt)) : Type 0 where
    known : AreStmts c (in_branches bs)
    count : length bs ≡ n

  branches_in_turn : {ps : List (Part (Branch Stmt))} → AllBranches ps → Sound w c (in_turn ps) (λ h bs. AreBranches (length ps) bs)
  branches_in_turn none = sound_of w c (given []) {Q = λ h bs. AreBranches 0 bs} (pure_given w c {Q = AreBranches 0} [] (record { known = AreStmts.none; count = refl })) (λ h bs is. is)
  branches_in_turn (each {p} {ps} is rest) =
      sound_joined w c (λ a rest. a ∷ rest) p (in_turn ps) {R = λ h bs. AreBranches (suc (length ps)) bs} is (branches_in_turn rest)
      (λ h b bs x y. record { known = are_joined (placed in_branch_of b.body) (in_branches bs) x y.known; count = ap suc y.count })

  pub sound_par : (line : Line) (n : ℕ) (ps : List (Part (Branch Stmt))) → length ps ≡ n → AllBranches ps
      → Sound w c (with_faults (λ here. unless (nat_le 2 n && nat_le n 15) here.at branches line) ((λ b. roll-Stmt (Stmt-F.Par line b)) <$> (tokens 2 ⊗> in_turn ps <⊗ tokens 1))) IsHere
  sound_par line n ps count all =
      sound_with w c (λ here. unless (nat_le 2 n && nat_le n 15) here.at branches line) ((λ b. roll-Stmt (Stmt-F.Par line b)) <$> (tokens 2 ⊗> in_turn ps <⊗ tokens 1))
      {P = λ h s. nat_le 2 n && nat_le n 15 ≡ true → IsHere h s} {Q = IsHere}
      (sound_map w c (λ b. roll-Stmt (Stmt-F.Par line b)) (tokens 2 ⊗> in_turn ps <⊗ tokens 1) {P = λ h bs. AreBranches (length ps) bs} {Q = λ h s. nat_le 2 n && nat_le n 15 ≡ true → IsHere h s}
      (sound_joined w c (λ a b. a) (tokens 2 ⊗> in_turn ps) (tokens 1) {R = λ h bs. AreBranches (length ps) bs}
      (sound_joined w c (λ a b. b) (tokens 2) (in_turn ps) {R = λ h bs. AreBranches (length ps) bs} (sound_tokens w c 2) (branches_in_turn all) (λ h u bs x y. y))
      (sound_tokens w c 1) (λ h a b x y. x))
      (λ h bs is few.
      let same = is.count ∙ count in
      stmt_made w c (round h) (Stmt-F.Par line bs)
      (subst (λ k. 2 ≤ k) (sym same) (two_least n few), subst (λ k. k ≤ 15) (sym same) (most n few)) is.known))
      (λ h at s is no_fault. is (unless_none (nat_le 2 n && nat_le n 15) at branches line no_fault)) where
        two_least : (n : ℕ) → nat_le 2 n && nat_le n 15 ≡ true → 2 ≤ n
        two_least n few = let first = both_true_first (nat_le 2 n) (nat_le n 15) few in grind (arith, nat_tests, first)

        most : (n : ℕ) → nat_le 2 n && nat_le n 15 ≡ true → n ≤ 15
        most n few = let last = both_true_second (nat_le 2 n) (nat_le n 15) few in grind (arith, nat_tests, last)

  -- `return`
  abbrev pub IfExpr : Option Expr → Type 0
  IfExpr None = Unit {0}
  IfExpr (Some e) = IsUsed c e

  pub returned_known : (line : Line) (r : Round) (o : Option ObjectType) (v : Option Expr) (s : Stmt) → r.branched ≡ false → o ≡ c.result → IfExpr v → returns line o v ≡ Some s → IsStmt c r s
  returned_known line r None None s alone same is has =
      subst (IsStmt c r) (some_is has) (stmt_made w c r (Stmt-F.Return line None) (alone, subst (λ o. IsReturned c o None) same tt) AreStmts.none)
  returned_known line r (Some t) (Some e) s alone same is has = by (fits e.typing t) refl has where
    by : (b : Bool) → fits e.typing t ≡ b → elim b as (λ b. Option Stmt) [ true ↦ Some (roll-Stmt (Stmt-F.Return line (Some e))) | false ↦ None ] ≡ Some s → IsStmt c r s
    by true fit has =
        subst (IsStmt c r) (some_is has) (stmt_made w c r (Stmt-F.Return line (Some e)) (alone, subst (λ o. IsReturned c o (Some e)) same (fitting_value w c linked e e.typing t is fit, fit)) AreStmts.none)
    by false fit has = absurd (none_some has)
  returned_known line r None (Some e) s alone same is has = absurd (none_some has)
  returned_known line r (Some t) None s alone same is has = absurd (none_some has)
