-- How large a statement is: larger than each statement in it.
use Rattle.std.proofs.Common.{◌≡◌, ℕ, zero, suc, ◌+◌, ◌<◌, ◌≤◌, List, [], ◌∷◌, map, Option, Some, None, get_or, length, refl, ap, sym, ◌∙◌, arith}
use Rattle.dfi_base.specs.declared.numbers.Line.{Line}
use Rattle.c_typed.specs.declared.stmt.Branch.{Branch}
use Rattle.c_typed.specs.declared.stmt.Condition.{Condition}
use Rattle.c_typed.specs.declared.stmt.Stmt.{Stmt, roll-Stmt, map-Stmt, fold-Stmt, fold-roll-Stmt}
use Rattle.c_typed.specs.declared.stmt.Stmt.TheOpen.{Stmt-F}
use Rattle.c_typed.specs.declared.stmt.Stmt.TheVariants as form
use Rattle.tac_lower.proofs.pieces.Levels.{branches_of}
use Rattle.tac_lower.proofs.emitted.Weights.{count_in, all_in}

abbrev bodies_in : List (Branch ℕ) → ℕ
bodies_in [] = 0
bodies_in (b ∷ bs) = all_in b.body + bodies_in bs

abbrev parts_in : Stmt-F ℕ → ℕ
parts_in (Stmt-F.Block ss) = all_in ss
parts_in (Stmt-F.If line d first second) = first + count_in second
parts_in (Stmt-F.While line d body) = body
parts_in (Stmt-F.For line start d step body) = start + (step + body)
parts_in (Stmt-F.Par line bs) = bodies_in bs
parts_in _ = 0

abbrev weigh : Stmt-F ℕ → ℕ
weigh x = suc (parts_in x)

unfoldable pub weight : Stmt → ℕ
weight = fold-Stmt ℕ weigh

abbrev pub total : List Stmt → ℕ
total [] = 0
total (s ∷ ss) = weight s + total ss

abbrev pub bodies : List (Branch Stmt) → ℕ
bodies [] = 0
bodies (b ∷ bs) = total b.body + bodies bs

of_form : (s : Stmt) (x : Stmt-F Stmt) (f : Stmt) → s ≡ f → f ≡ roll-Stmt x → weight s ≡ weigh (map-Stmt Stmt ℕ weight x)
unfolding weight
of_form s x f is rolled = ap (fold-Stmt ℕ weigh) (is ∙ rolled) ∙ fold-roll-Stmt ℕ weigh x

all_same : (ss : List Stmt) → all_in (map weight ss) ≡ total ss
all_same [] = refl
all_same (s ∷ ss) = ap (λ n. weight s + n) (all_same ss)

bodies_same : (line : Line) (bs : List (Branch Stmt)) → bodies_in (branches_of (map-Stmt Stmt ℕ weight (Stmt-F.Par line bs))) ≡ bodies bs
bodies_same line [] = refl
bodies_same line (b ∷ bs) = ap (λ n. n + bodies_in (branches_of (map-Stmt Stmt ℕ weight (Stmt-F.Par line bs)))) (all_same b.body) ∙ ap (λ n. total b.body + n) (bodies_same line bs)

pub total_at : (ss : List Stmt) (i : ℕ) (s : Stmt) → i < length ss → s ≡ get_or ss i s → weight s ≤ total ss
total_at [] i s less is = absurd (omega (arith, less))
total_at (x ∷ ss) zero s less is = (let same = ap weight is in omega (arith, same))
total_at (x ∷ ss) (suc i) s less is = (let rest = total_at ss i s (omega (arith, less)) is in omega (arith, rest))

pub bodies_at : (bs : List (Branch Stmt)) (i : ℕ) (b : Branch Stmt) → i < length bs → b ≡ get_or bs i b → total b.body ≤ bodies bs
bodies_at [] i b less is = absurd (omega (arith, less))
bodies_at (x ∷ bs) zero b less is = (let same = ap (λ (b : Branch Stmt). total b.body) is in omega (arith, same))
bodies_at (x ∷ bs) (suc i) b less is = (let rest = bodies_at bs i b (omega (arith, less)) is in omega (arith, rest))

module _ (s : Stmt) where
  pub block_weight : (ss : List Stmt) → s ≡ form.Block ss → weight s ≡ suc (total ss)
  block_weight ss is = of_form s (Stmt-F.Block ss) _ is (sym (form.rolls-Block ss)) ∙ ap suc (all_same ss)

  pub if_weight : (line : Line) (d : Condition) (first : Stmt) (second : Option Stmt) → s ≡ form.If line d first second → suc (weight first) ≤ weight s
  if_weight line d first None is = (let same = of_form s (Stmt-F.If line d first None) _ is (sym (form.rolls-If line d first None)) in omega (arith, same))
  if_weight line d first (Some other) is = (let same = of_form s (Stmt-F.If line d first (Some other)) _ is (sym (form.rolls-If line d first (Some other))) in omega (arith, same))

  pub else_weight : (line : Line) (d : Condition) (first : Stmt) (second : Option Stmt) (other : Stmt) → s ≡ form.If line d first second → second ≡ Some other → suc (weight other) ≤ weight s
  else_weight line d first None other is some = cc
  else_weight line d first (Some x) other is some =
      let same = of_form s (Stmt-F.If line d first (Some x)) _ is (sym (form.rolls-If line d first (Some x))) in
      let this : x ≡ other = cc in
      let equal = ap weight this in
      omega (arith, same, equal)

  pub while_weight : (line : Line) (d : Condition) (body : Stmt) → s ≡ form.While line d body → weight s ≡ suc (weight body)
  while_weight line d body is = of_form s (Stmt-F.While line d body) _ is (sym (form.rolls-While line d body))

  pub for_weight : (line : Line) (start : Stmt) (d : Option Condition) (step body : Stmt) → s ≡ form.For line start d step body → weight s ≡ suc (weight start + (weight step + weight body))
  for_weight line start d step body is = of_form s (Stmt-F.For line start d step body) _ is (sym (form.rolls-For line start d step body))

  pub par_weight : (line : Line) (bs : List (Branch Stmt)) → s ≡ form.Par line bs → weight s ≡ suc (bodies bs)
  par_weight line bs is = of_form s (Stmt-F.Par line bs) _ is (sym (form.rolls-Par line bs)) ∙ ap suc (bodies_same line bs)
