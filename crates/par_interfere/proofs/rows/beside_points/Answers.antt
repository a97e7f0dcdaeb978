use Rattle.std.proofs.Common.{◌≡◌, ℕ, ◌+◌, ◌<◌, ◌↔◌, true, [], ◌∷◌, ◌++◌, length, get_or, sym, ap, subst, ◌∙◌, arith}
use Rattle.std.specs.Prelude.{slice_index_or}
use Rattle.par_interfere.proofs.Joins.{EachRow, IsAt, IsBesidePoint, beside_point, each_push, row_long, rows_push, no_rows}
use Rattle.flow_rules.specs.PointNumber.{point_at}
use Rattle.std.proofs.lemmas.Option.{slice_get_within, get_or_from_slice_get}
use Rattle.par_interfere.specs.tools.Calls.{AreRows}
use Rattle.par_interfere.specs.tools.Rows.{HasSome}
use Rattle.dfi_base.specs.Bits.{has}
use Rattle.par_interfere.specs.declared.branches.Branch.{Branch}
use Rattle.par_interfere.proofs.Listed.{item}
use Rattle.par_interfere.proofs.rows.beside_points.Goals as goal

low : (c : goal.In_ok-push) → (get_or c.args.points.now c.loop-p.p-index (point_at 0 0)).fun < length c.args.funs.now
low c = c.requires.points c.loop-p.p-index (point_at 0 0) c.loop-p-test.true

first : (c : goal.In_ok-push) → c.in_ok-row.row ≡ slice_index_or c.args.funs.now (get_or c.args.points.now c.loop-p.p-index (point_at 0 0)).fun []
first c = c.in_ok-row.ensures ∙ c.index-funs-p.is ∙ item c.args.funs.now (get_or c.args.points.now c.loop-p.p-index (point_at 0 0)).fun c.index-funs-p.result [] (low c)

pub loop-p-init : goal.loop-p-init
loop-p-init c = record { shape = subst (AreRows 0 (length c.args.points.now)) (sym c.new-rows.ensures.items) (no_rows (length c.args.points.now)); each = λ i low. absurd (omega (arith, low)) }

pub loop-p-preserved : goal.loop-p-preserved
loop-p-preserved c =
    let items : c.push.new.self.items ≡ c.loop-p.rows.items ++ c.add_around.new.row ∷ [] = c.in_ok-push.ensures.items in
    record {
      shape = subst (AreRows (c.loop-p.p-index + 1) (length c.args.points.now)) (sym items) (rows_push c.loop-p.p-index (length c.args.points.now) c.loop-p.rows.items c.add_around.new.row c.loop-p.invariant.shape
          (c.add_around.ensures.long ∙ ap length (first c)
          ∙ row_long (length c.args.funs.now) (length c.args.points.now) c.args.funs.now (get_or c.args.points.now c.loop-p.p-index (point_at 0 0)).fun c.requires.funs.shape (low c)));
      each = subst (EachRow (IsAt (λ p. IsBesidePoint c.args.branches.now c.args.others.now p) c.args.points.now) (c.loop-p.p-index + 1)) (sym items)
          (each_push (IsAt (λ p. IsBesidePoint c.args.branches.now c.args.others.now p) c.args.points.now) c.loop-p.p-index c.loop-p.rows.items c.add_around.new.row c.loop-p.invariant.shape.height c.loop-p.invariant.each (λ x is.
          subst (λ p. IsBesidePoint c.args.branches.now c.args.others.now p c.add_around.new.row) (get_or_from_slice_get c.args.points.now c.loop-p.p-index x (point_at 0 0) is)
          (beside_point c.args.branches.now c.args.others.now (get_or c.args.points.now c.loop-p.p-index (point_at 0 0)) c.in_ok-row.row c.add_around.new.row
          (subst (λ r. (k : ℕ) → (has r k ≡ true) ↔ HasSome (λ (b : Branch). has b.called (get_or c.args.points.now c.loop-p.p-index (point_at 0 0)).fun) c.args.branches.now c.args.others.now (length c.args.branches.now) k)
          (sym (first c)) (c.requires.funs.each (get_or c.args.points.now c.loop-p.p-index (point_at 0 0)).fun (low c)))
          c.add_around.ensures)));
    }

pub returns : goal.returns
returns c =
    let all : c.loop-p.p-index ≡ length c.args.points.now = (let low = c.loop-p.auto.p-index-end in omega (arith, low, c.loop-p-test.false)) in
    record {
      shape = subst (λ n. AreRows n (length c.args.points.now) c.loop-p.rows.items) all c.loop-p.invariant.shape;
      each = λ i p is. c.loop-p.invariant.each i (let low = slice_get_within c.args.points.now i p is in omega (arith, low, all)) p is;
    }
