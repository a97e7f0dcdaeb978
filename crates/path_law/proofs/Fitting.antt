-- A call and a fork are answered by whether there is a stack for them.
use Rattle.std.proofs.Common.{◌≡◌, ℕ, ◌/◌, Bool, true, false, refl, Some, None, ◌∙◌, ap}
use Rattle.std.specs.Prelude.{nat_le, nat_lt, nat_eq, if◌then◌else◌}
use Rattle.tac_ir.specs.declared.run.Answer.{Answer}
use Rattle.tac_ir.specs.declared.run.Stop.{Stop}
use Rattle.tac_ir.specs.Module.{Module}
use Rattle.tac_ir.specs.Layout.{frame_words}
use Rattle.tac_ir.specs.Answers.{call_answer, depth_of, fork_answer}
use Rattle.tac_thread.specs.declared.flat.FlatStack.{FlatStack}
use Rattle.tac_thread.specs.Flat.{with_frame, with_share}
use Rattle.path_law.specs.Wants.{room_in}
use Rattle.path_law.specs.Fits.{answer_by}

by_test : (b : Bool) (stop : Stop) (s : FlatStack) → (if b then Answer.Stop stop else Answer.Unit) ≡ answer_by stop (if b then None else Some s)
by_test true stop s = refl
by_test false stop s = refl

pub calls_fit : (m : Module) (f : ℕ) (s : FlatStack) → call_answer m (room_in s) f ≡ answer_by Stop.Stack (with_frame (frame_words m.code f) s)
calls_fit m f s = by_test (nat_lt (room_in s) (frame_words m.code f)) Stop.Stack _

pub forks_fit : (n branches i : ℕ) (s : FlatStack) → nat_le 14 (depth_of n) ≡ false → fork_answer n (room_in s) branches ≡ answer_by Stop.Share (with_share (room_in s / branches) s i)
forks_fit n branches i s shallow =
    ap (λ b. if b then Answer.Stop Stop.Depth else (if nat_eq (room_in s / branches) 0 then Answer.Stop Stop.Share else Answer.Unit)) shallow
    ∙ by_test (nat_eq (room_in s / branches) 0) Stop.Share _
