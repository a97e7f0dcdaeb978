-- The branches of a `par`.
use Rattle.std.proofs.Common.{◌≡◌, ℕ, List, [], ◌∷◌, map, Ok, refl, ap, sym, ◌∙◌, subst}
use Rattle.dfi_base.specs.declared.numbers.Line.{Line}
use Rattle.c_typed.specs.declared.stmt.Branch.{Branch}
use Rattle.c_typed.specs.declared.stmt.Stmt.{fold-roll-Stmt, Stmt, roll-Stmt, map-Stmt}
use Rattle.c_typed.specs.declared.stmt.Stmt.TheOpen.{Stmt-F}
use Rattle.c_typed.specs.declared.stmt.Stmt.TheVariants as form
use Rattle.c_typed.specs.Sites.{Sited, ◌<$>◌, in_turn, branch, number_layer, stmt}
use Rattle.c_sites.specs.tools.Numbers.{Numbers, sited_branch}

branches_of : Stmt-F (Sited Stmt) → List (Branch (Sited Stmt))
branches_of (Stmt-F.Par line bs) = bs
branches_of _ = []

mapped : (line : Line) (bs : List (Branch Stmt)) → map branch (branches_of (map-Stmt Stmt (Sited Stmt) stmt (Stmt-F.Par line bs))) ≡ map sited_branch bs
unfolding branches_of
mapped line [] = refl
mapped line (b ∷ bs) = ap (λ ps. sited_branch b ∷ ps) (mapped line bs)

abbrev pub as_par : Line → List (Branch Stmt) → Sited Stmt
as_par line bs = (λ bs. roll-Stmt (Stmt-F.Par line bs)) <$> in_turn (map sited_branch bs)

par_roll : (line : Line) (bs : List (Branch Stmt)) → stmt (roll-Stmt (Stmt-F.Par line bs)) ≡ as_par line bs
unfolding stmt branches_of
par_roll line bs = fold-roll-Stmt (Sited Stmt) number_layer (Stmt-F.Par line bs) ∙ ap (λ ps. (λ bs. roll-Stmt (Stmt-F.Par line bs)) <$> in_turn ps) (mapped line bs)

pub par_numbered : (s : Stmt) (line : Line) (bs done : List (Branch Stmt)) (first next : ℕ) → s ≡ form.Par line bs → Numbers (Ok done) first next (in_turn (map sited_branch bs))
    → Numbers (Ok (form.Par line done)) first next (stmt s)
par_numbered s line bs done first next is numbered =
    let same : stmt s ≡ as_par line bs = ap stmt (is ∙ sym (form.rolls-Par line bs)) ∙ par_roll line bs in
    subst (λ p. Numbers (Ok (form.Par line done)) first next p) (sym same) (sym (form.rolls-Par line done) ∙ ap (λ bs. roll-Stmt (Stmt-F.Par line bs)) numbered.0, numbered.1)
