-- The solution has what may point to what.
use Rattle.std.proofs.Common.{ℕ, length, All, refl, sym, ◌∙◌, subst, true≢false}
use Rattle.tac_ir.specs.declared.code.Code.{Code}
use Rattle.tac_ir.specs.declared.module.Key.{Key}
use Rattle.tac_ir.specs.GoodModule.{IsKey}
use Rattle.least_rows.proofs.Inducing.{Keeps, all_kept}
use Rattle.least_rows.proofs.Least.{alike_long}
use Rattle.flow_rules.specs.PointsTo.{PointsTo}
use Rattle.points_to.specs.Rows.{row_of_key, row_number, row_count, IsRow}
use Rattle.points_to.specs.Laws.{SolutionsArePoints}
use Rattle.points_to.proofs.Named.{here, at_line}
use Rattle.points_to.proofs.Gathered.{all_rules}
use Rattle.points_to.proofs.Sound.{Says, Told, instr_kept}
use Rattle.points_to.proofs.Complete.{all_had}

key_row : (c : Code) (key : Key) → IsKey c key → IsRow c (row_of_key key)
key_row c (Key.Temp f t) is = is
key_row c (Key.Node n) is = is

key_says : (c : Code) (key : Key) (n : ℕ) → Says c (row_of_key key) n → PointsTo c key n
key_says c (Key.Temp f t) n says = says
key_says c (Key.Node m) n says = says

pub solved : SolutionsArePoints
solved c s start t good is empty solution key n exists = (
  λ had.
      key_says c key n
      (all_kept s start (Told c) (λ r k given. absurd (true≢false (sym given ∙ empty.none r k))) kept (row_number c (row_of_key key)) n
      (solution.derived (row_number c (row_of_key key)) n had) (row_of_key key) (key_row c key exists) refl),
  all_had c s t good is (alike_long t start solution.alike ∙ empty.long) solution.closed key n,
)
  where
    kept : All (Keeps s (length start) (Told c)) s.rules
    kept =
        subst (λ rows. All (Keeps s rows (Told c)) s.rules) (sym empty.long)
        (subst (All (Keeps s (row_count c) (Told c))) (sym is.rules)
        (all_rules c (Keeps s (row_count c) (Told c)) (λ f fun at l found line.
        instr_kept c s good is (record { fun = f; at = at }) l.instr (at_line c f fun at l found line) (here c good f fun at l found line))))
