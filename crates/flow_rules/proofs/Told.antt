-- Tables are closed where no point is open.
use Rattle.std.proofs.Common.{◌≡◌, ℕ, Bool, true, false, List, [], length, refl, sym, ap, ◌∙◌, subst, arith}
use Rattle.std.specs.Prelude.{nat_lt, Contains}
use Rattle.std.proofs.lemmas.Bool.{ltb-true, ltb-false}
use Rattle.dfi_base.specs.declared.numbers.Point.{Point}
use Rattle.tac_ir.specs.declared.code.Code.{Code}
use Rattle.tac_ir.specs.declared.code.Instr.{Instr}
use Rattle.tac_ir.specs.declared.module.PointsRow.{PointsRow}
use Rattle.tac_ir.specs.Edges.{edges_of}
use Rattle.tac_ir.specs.GoodForm.{GoodForm}
use Rattle.tac_ir.specs.GoodModule.{IsPoint}
use Rattle.tac_ir.specs.Layout.{lines_of, instr_at}
use Rattle.tac_ir.specs.Numbers.{new_def}
use Rattle.flow_rules.specs.PointsClosed.{ValueRule, AccessRule, PointsClosed, PointsClosedAt}
use Rattle.flow_rules.specs.ReachClosed.{ReachClosed, ReachClosedAt}
use Rattle.flow_rules.specs.Tables.{ReachTable, points_by}
use Rattle.flow_rules.specs.Touches.{touches}
use Rattle.flow_rules.specs.tools.Scan.{HoldsBefore}
use Rattle.flow_rules.proofs.InCode.{no_line, fun_exists}
use Rattle.flow_rules.proofs.Parallels.{enters}

all_points : (c : Code) (Holds : Point → Type 0) → HoldsBefore c Holds (length c.funs) → ((p : Point) → instr_at c p ≡ Instr.End → (IsPoint c p → ⊥) → Holds p) → (p : Point) → Holds p
all_points c Holds held past p = by (nat_lt p.at (length (lines_of c p.fun))) refl
  where
    by : (b : Bool) → nat_lt p.at (length (lines_of c p.fun)) ≡ b → Holds p
    by true is = (let point = ltb-true p.at (length (lines_of c p.fun)) is in held.each p point (fun_exists c p point))
    by false is = (let high = ltb-false p.at (length (lines_of c p.fun)) is in past p (no_line c p high) (λ point. omega (arith, high, point)))

pub points_closed : (c : Code) (rows : List PointsRow) → HoldsBefore c (PointsClosedAt c (touches c rows) (points_by rows)) (length c.funs) → PointsClosed c (touches c rows) (points_by rows)
points_closed c rows held = record { values = record { each = λ p. (all p).values }; accesses = record { each = λ p. (all p).accesses } }
  where
    all : (p : Point) → PointsClosedAt c (touches c rows) (points_by rows) p
    all = all_points c (PointsClosedAt c (touches c rows) (points_by rows)) held (λ p is none. record {
      values = subst (ValueRule c (points_by rows) p.fun) (sym is) tt;
      accesses = subst (AccessRule (touches c rows p) (points_by rows) p.fun) (sym is) tt;
    })

pub reach_closed : (c : Code) → GoodForm c → (rows : List PointsRow) (table : ReachTable) → HoldsBefore c (λ q. (a : ℕ) → ReachClosedAt c (touches c rows) table a q) (length c.funs) → (a : ℕ) → ReachClosed c (touches c rows) table a
reach_closed c good rows table held a = record { each = λ p. all_points c (λ q. (b : ℕ) → ReachClosedAt c (touches c rows) table b q) held past p a }
  where
    past : (p : Point) → instr_at c p ≡ Instr.End → (IsPoint c p → ⊥) → (b : ℕ) → ReachClosedAt c (touches c rows) table b p
    past p is none b = record {
      starts = λ main v low touched. absurd (none (subst (IsPoint c) (sym main) (enters c good c.main good.funs.main (record { params = 0; vars = []; code = []; line = 0 }))));
      makes = λ d q def touched edge. (let clash = sym (ap new_def is) ∙ def in cc);
      keeps = λ d q reach alive edge. absurd (nowhere (subst (λ i. Contains (edges_of c p i) q) is edge));
      joins_one = λ join d entries region q fork listed body def reach. (let clash = sym is ∙ fork in cc);
      joins_all = λ join d entries fork each. (let clash = sym is ∙ fork in cc);
    }
      where
        nowhere : {q : Point} → Contains (edges_of c p Instr.End) q → ⊥
        nowhere h = (let low = h.1 in omega (arith, low))
