use Rattle.std.proofs.Common.{◌≡◌, ◌+◌, false, [], ◌∷◌, ◌++◌, length, replicate, sym, subst, ◌∙◌, arith}
use Rattle.std.specs.Prelude.{slice_index_or}
use Rattle.par_interfere.proofs.Joins.{EachRow, each_push, rows_push, no_rows, join_none}
use Rattle.par_interfere.specs.tools.Calls.{AreRows}
use Rattle.par_interfere.specs.tools.Rows.{IsJoinOf}
use Rattle.dfi_base.specs.Bits.{has}
use Rattle.par_interfere.specs.declared.branches.Branch.{Branch}
use Rattle.std.proofs.lemmas.List.{length-replicate}
use Rattle.par_interfere.proofs.rows.beside_funs.Goals as goal

pub loop-fun-init : goal.loop-fun-init
loop-fun-init c = record { shape = subst (AreRows 0 c.args.width) (sym c.new-beside.ensures.items) (no_rows c.args.width); each = λ i low. absurd (omega (arith, low)) }

pub loop-fun-preserved : goal.loop-fun-preserved
loop-fun-preserved c =
    let items : c.push.new.self.items ≡ c.loop-fun.beside.items ++ c.in_ok-beside_fun.field-0 ∷ [] = c.in_ok-push.ensures.items in
    record {
      shape = subst (AreRows (c.loop-fun.fun + 1) c.args.width) (sym items) (rows_push c.loop-fun.fun c.args.width c.loop-fun.beside.items c.in_ok-beside_fun.field-0 c.loop-fun.invariant.shape (c.in_ok-beside_fun.ensures.long ∙ length-replicate c.args.width false));
      each = subst (EachRow (λ g. IsJoinOf (λ (b : Branch). has b.called g) c.args.branches.now c.args.others.now (length c.args.branches.now) (replicate c.args.width false)) (c.loop-fun.fun + 1)) (sym items)
          (each_push (λ g. IsJoinOf (λ (b : Branch). has b.called g) c.args.branches.now c.args.others.now (length c.args.branches.now) (replicate c.args.width false)) c.loop-fun.fun c.loop-fun.beside.items c.in_ok-beside_fun.field-0 c.loop-fun.invariant.shape.height c.loop-fun.invariant.each c.in_ok-beside_fun.ensures);
    }

pub returns : goal.returns
returns c =
    let all : c.loop-fun.fun ≡ c.args.count = (let low = c.loop-fun.auto.fun-end in omega (arith, low, c.loop-fun-test.false)) in
    record {
      shape = subst (λ n. AreRows n c.args.width c.loop-fun.beside.items) all c.loop-fun.invariant.shape;
      each = λ g low k.
          join_none (λ (b : Branch). has b.called g) c.args.branches.now c.args.others.now (length c.args.branches.now) c.args.width (slice_index_or c.loop-fun.beside.items g [])
          (c.loop-fun.invariant.each g (omega (arith, low, all))) k;
    }
