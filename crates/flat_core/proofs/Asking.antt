-- What a thread of a machine asks for.
use Rattle.std.proofs.Common.{◌≡◌, ℕ, List, refl, Option, Some, None, sym, ◌∙◌, ap, subst}
use Rattle.dfi_base.specs.Lives.{IsNext}
use Rattle.tac_ir.specs.declared.code.Code.{Code}
use Rattle.tac_ir.specs.declared.run.Op.{Op}
use Rattle.tac_ir.specs.declared.run.Entry.{Entry}
use Rattle.tac_ir.specs.Module.{Module}
use Rattle.tac_ir.specs.Path.{Start}
use Rattle.tac_ir.specs.Threads.{threads_of}
use Rattle.tac_thread.specs.declared.want.Want.{Want}
use Rattle.tac_thread.specs.Doing.{want_of}
use Rattle.tac_thread.specs.Threads.{running}
use Rattle.tac_thread.specs.Flat.{flat_meaning}
use Rattle.path_law.specs.Asked.{op_of}
use Rattle.path_law.specs.Standing.{FlatLife, point_of}
use Rattle.path_law.specs.Wants.{next_of}
use Rattle.path_law.specs.InPlace.{FlatLives}
use Rattle.path_law.specs.Alive.{AreAlive}
use Rattle.path_law.proofs.TreeLaws.{next_event}
use Rattle.flat_core.specs.declared.ask.Asked.{Asked}
use Rattle.flat_core.specs.tools.Asked.{op_in, asks, asked_of}

-- a life that asks for this
pub record IsAskedBy (c : Code) (o : Option FlatLife) (a : Asked) : Type 0 where
  pub life : FlatLife
  pub runs : o ≡ Some life
  pub want : Want ℕ
  pub wants : want_of flat_meaning c life ≡ Some want
  pub event : op_of want ≡ Some a.op
  pub point : a.point ≡ point_of life.top
  pub stack : a.stack ≡ life.top.stack

-- what a life asks for
pub record IsAskedOf (c : Code) (l : FlatLife) (a : Asked) : Type 0 where
  pub want : Want ℕ
  pub wants : want_of flat_meaning c l ≡ Some want
  pub event : op_of want ≡ Some a.op
  pub point : a.point ≡ point_of l.top
  pub stack : a.stack ≡ l.top.stack

pub asked_of_life : (c : Code) (l : FlatLife) (a : Asked) → asks l (op_in (want_of flat_meaning c l)) ≡ Some a → IsAskedOf c l a
asked_of_life c l a is = by (want_of flat_meaning c l) refl is
  where
    with_op : (want : Want ℕ) → want_of flat_meaning c l ≡ Some want → (op : Option Op) → op_of want ≡ op → asks l op ≡ Some a → IsAskedOf c l a
    with_op want wants None event is = cc
    with_op want wants (Some op) event is =
        let op_is : op ≡ a.op = cc in
        let point_is : point_of l.top ≡ a.point = cc in
        let stack_is : l.top.stack ≡ a.stack = cc in
        record { want = want; wants = wants; event = event ∙ ap Some op_is; point = sym point_is; stack = sym stack_is }

    by : (want : Option (Want ℕ)) → want_of flat_meaning c l ≡ want → asks l (op_in want) ≡ Some a → IsAskedOf c l a
    by None wants is = cc
    by (Some want) wants is = with_op want wants (op_of want) refl is

pub asked_by : (c : Code) (o : Option FlatLife) (a : Asked) → asked_of c o ≡ Some a → IsAskedBy c o a
asked_by c None a is = cc
asked_by c (Some l) a is =
    let by = asked_of_life c l a is in
    record { life = l; runs = refl; want = by.want; wants = by.wants; event = by.event; point = by.point; stack = by.stack }

-- who runs asks for something
pub asks_something : (m : Module) (h : List Entry) (f : FlatLives) (d : Option ℕ) (n : ℕ) (l : FlatLife) → AreAlive m h f d → running (f n) ≡ Some l → (op : Op) × (asked_of m.code (running (f n)) ≡ Some (record { point = point_of l.top; op = op; stack = l.top.stack }))
asks_something m h f d n l alive now =
    let r = next_event m h f d n l alive now in
    (r.op, ap (asked_of m.code) now ∙ ap (λ w. asks l (op_in w)) r.wants ∙ ap (asks l) r.event)

-- and it is next
pub asked_is_next : (m : Module) (h : List Entry) (f : FlatLives) (d : Option ℕ) (n : ℕ) (a : Asked) → AreAlive m h f d → (by : IsAskedBy m.code (running (f n)) a) → (s : Start) × IsNext (threads_of m) h n s (next_of by.life a.op)
asked_is_next m h f d n a alive by =
    let r = next_event m h f d n by.life alive by.runs in
    let wants : Some r.want ≡ Some by.want = sym r.wants ∙ by.wants in
    let want : r.want ≡ by.want = cc in
    let ops : Some r.op ≡ Some a.op = sym r.event ∙ ap op_of want ∙ by.event in
    let op : r.op ≡ a.op = cc in
    (r.start, subst (λ o. IsNext (threads_of m) h n r.start (next_of by.life o)) op r.next)
