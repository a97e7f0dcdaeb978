use Rattle.std.proofs.Common.{ap, subst}
use Rattle.tac_thread.specs.Threads.{life_in, IsBegun, IsTree}
use Rattle.tac_thread.specs.Flat.{flat_meaning}
use Rattle.path_law.specs.Begins.{root_stack}
use Rattle.path_law.proofs.Grown.{tree_begins}
use Rattle.flat_core.proofs.machine.Machine.new.Goals as goal

pub returns : goal.returns
returns c =
    let t = c.in_ok-tree.tree in
    let stack = c.root_stack-stack.ensures in
    let here = subst (λ s. IsBegun flat_meaning c.m.inside.code s (life_in t) t.done) stack (c.in_ok-tree.ensures).begun in
    record {
      threads = record {
        place = tree_begins c.args.m.now (life_in t) t.done (subst (λ k. IsBegun flat_meaning k (root_stack c.args.m.now) (life_in t) t.done) (ap (λ m. m.code) c.m.view_is) here);
        tree = subst (λ k. IsTree flat_meaning k (life_in t)) (ap (λ m. m.code) c.m.view_is) (c.in_ok-tree.ensures).tree;
      };
      store = c.in_ok-store.ensures;
    }
