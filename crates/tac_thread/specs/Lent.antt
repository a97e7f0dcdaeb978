-- What a tree ends as, once a `&mut` to one of its threads has ended.
use Rattle.std.specs.Prelude.{ℕ, Option}
use Rattle.std.specs.Ordering.{nat_cmp}
use Rattle.std.specs.BTreeMap.{is_at}
use Rattle.std.specs.Map.{set_value}
use Rattle.std.specs.Borrow.{Fml, RattleType, MutBor, LendsIf}
use Rattle.tac_thread.specs.declared.domain.Domain.{Ghosts}
use Rattle.tac_thread.specs.contracts.tree.Tree as tree
use Rattle.tac_thread.specs.contracts.guest.Guest as guest
use Rattle.tac_thread.specs.Life.{Life}
use Rattle.tac_thread.specs.Threads.{Threads}

-- thread n, where it lives, has this life
abbrev pub with_life : {V S : Type 0} → Threads V S → ℕ → Life V S → Threads V S
with_life t n l = record { lives = set_value (is_at (nat_cmp n)) t.lives l; done = t.done }

-- thread n has the last life behind r, and at `None` the threads stay as they are
abbrev pub LendsLife : (D V S : RattleType) (g : Ghosts D.Denot V.Denot S.Denot) → MutBor (Threads V.Denot S.Denot) → ℕ → Option (MutBor (Life V.Denot S.Denot)) → Fml
LendsLife D V S g t n r = LendsIf (tree.the_row D V S g) (guest.the_row D V S g) t r (with_life t.now n) t.now
