-- The programs have what their counts say, and rows that fit are those of their code.
use Rattle.std.proofs.Common.{◌≡◌, ◌<◌, Bool, true, subst, sym, Ok, Err, IfOk, List}
use Rattle.std.specs.Prelude.{Result, ◌&&◌, nat_lt, nat_eq, length}
use Rattle.std.specs.declared.alloc.AllocError.{AllocError}
use Rattle.tac_ir.specs.declared.code.Code.{Code}
use Rattle.tac_ir.specs.Module.{Module}
use Rattle.tac_ir.specs.Numbers.{defs_in_code, reads_made}
use Rattle.tac_ir.specs.Counts.{points_in_code, nodes_in_code, temps_of}
use Rattle.tac_ir.proofs.FormTest.{form_test, form_good, left_of, right_of, eq-is, lt-is, all_is}
use Rattle.test_flow.specs.declared.program.Counts.{Counts}
use Rattle.tac_ir.specs.declared.module.Key.{Key}
use Rattle.tac_ir.specs.declared.module.PointsRow.{PointsRow}
use Rattle.tac_ir.specs.GoodModule.{IsKey, IsGoodPointsRow}
use Rattle.flow_rules.specs.ReachRows.{ArePointsOf}
use Rattle.test_flow.specs.Worked.{IsWorked, is_key, is_fitting, are_fitting}

abbrev pub worked_test : Code → Counts → Bool
worked_test c n = form_test c && (nat_eq (points_in_code c) n.points && (nat_eq (defs_in_code c) n.defs && (nat_eq (length (reads_made c)) n.reads
    && (nat_eq (temps_of c 0) n.temps && nat_eq (nodes_in_code c) n.nodes))))

is_worked : (c : Code) (n : Counts) → worked_test c n ≡ true → IsWorked c n
is_worked c n h =
    let a = right_of _ _ h in
    let b = right_of _ _ a in
    let d = right_of _ _ b in
    let e = right_of _ _ d in
    record {
      form = form_good c (left_of _ _ h);
      points = eq-is _ _ (left_of _ _ a);
      defs = eq-is _ _ (left_of _ _ b);
      reads = eq-is _ _ (left_of _ _ d);
      temps = eq-is _ _ (left_of _ _ e);
      nodes = eq-is _ _ (right_of _ _ e);
    }

-- what is equal to a module with such code
pub worked : (known : Module) (n : Counts) → worked_test known.code n ≡ true → (r : Result Module AllocError) → IfOk r (λ m. m ≡ known) → IfOk r (λ m. IsWorked m.code n)
worked known n passes (Ok m) is = subst (λ m. IsWorked m.code n) (sym is) (is_worked known.code n passes)
worked known n passes (Err e) is = tt

key-is : (c : Code) (n : Counts) → IsWorked c n → (key : Key) → is_key n key ≡ true → IsKey c key
key-is c n w (Key.Temp f t) h = subst (λ g. t < temps_of c g) (sym (eq-is f 0 (left_of _ _ h))) (subst (λ m. t < m) (sym w.temps) (lt-is t n.temps (right_of _ _ h)))
key-is c n w (Key.Node k) h = subst (λ m. k < m) (sym w.nodes) (lt-is k n.nodes h)

row-fits : (c : Code) (n : Counts) → IsWorked c n → (row : PointsRow) → is_fitting n row ≡ true → IsGoodPointsRow c row
row-fits c n w row h = record {
  key = key-is c n w row.key (left_of _ _ h);
  nodes = all_is _ (λ k. nat_lt k n.nodes) (λ k less. subst (λ m. k < m) (sym w.nodes) (lt-is k n.nodes less)) row.nodes (right_of _ _ h);
}

pub fits : (c : Code) (n : Counts) (rows : List PointsRow) → IsWorked c n → are_fitting n rows ≡ true → ArePointsOf c rows
fits c n rows w h =
    let rest = right_of _ _ h in
    record {
      good = all_is (IsGoodPointsRow c) (is_fitting n) (row-fits c n w) rows (left_of _ _ h);
      members = left_of _ _ rest;
      order = right_of _ _ rest;
    }
