-- Main's value, at the end of thread 1.
use Rattle.std.proofs.Common.{ℕ, refl, Option, Some, None}
use Rattle.dfi_base.specs.Lives.{own}
use Rattle.dfi_base.proofs.Entries.{first_begins}
use Rattle.tac_ir.specs.Threads.{threads_of, root_start, EndsWith}
use Rattle.tac_thread.specs.declared.want.Want.{Want}
use Rattle.path_law.proofs.Laws.{threads_want}
use Rattle.path_law.proofs.Homes.{entry_home}
use Rattle.path_law.proofs.MainPath.{ends_with_value}
use Rattle.path_law.proofs.TreeLaws.{returned_value}
use Rattle.merge_law.specs.Logs.{FitsWant}
use Rattle.merge_law.specs.GuestLaws.{IsReturned, Returning}
use Rattle.merge_law.proofs.guests.Steps.{ends}

pub returning : Returning
returning m h l v good work want =
    by v (threads_want m.code (root_start m) (own (threads_of m) 1 h) l (Want.Ended v) work.stands want)
  where
    by : (o : Option ℕ) → EndsWith m.code (root_start m) (own (threads_of m) 1 h) o → IsReturned m h o
    by None at_end = absurd (ends_with_value m.code good (root_start m) (entry_home m.code good m.code.main good.funs.main) (own (threads_of m) 1 h) at_end)
    by (Some x) at_end = record {
      word = x;
      is = refl;
      returns = returned_value m h x (ends m 1 (root_start m) h l v work want) (first_begins (threads_of m) 1 (root_start m) (λ past. FitsWant m) h work.log.grown) at_end;
    }
