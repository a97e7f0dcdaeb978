-- In the row with two branches, main is next once both have ended.
use Rattle.std.proofs.Common.{ℕ, zero, suc, ◌+◌, ◌*◌, ◌<◌, ◌≤◌, List, reverse, take, refl, arith, None}
use Rattle.dfi_base.specs.Lives.{own, BeginsIn, Ended, IsNext}
use Rattle.dfi_base.specs.Lives.EndedIn.{ended}
use Rattle.tac_ir.specs.declared.run.Entry.{Entry}
use Rattle.tac_ir.specs.Layout.{words_in}
use Rattle.tac_ir.specs.Path.{Step, IsPath, calls_in, call_of, frame_end, base_of, here_at, temp_of, next_spot, event_at}
use Rattle.tac_ir.specs.Threads.{root_start, threads_of}
use Rattle.tac_ir.proofs.Trace.{trace}
use Rattle.tac_ir.proofs.Rows.{branching, branched, read, start_of, steps_after}

-- the history in which both branches have made their entries
abbrev both : List Entry
both = reverse (take 5 branched)

-- the steps of thread n
abbrev steps_of : ℕ → List Step
steps_of n = steps_after branching.code (start_of branching both n) (own (threads_of branching) n both)

-- the entries of main before the branches
abbrev before : List Entry
before = reverse (take 1 branched)

-- the first branch has ended
first_ended : Ended (threads_of branching) both 17
unfolding start_of steps_after trace own BeginsIn IsPath next_spot event_at here_at temp_of calls_in call_of frame_end base_of words_in
first_ended =
    let main = root_start branching in
    ended 17 (start_of branching both 17) (main, (refl, refl), (steps_after branching.code main before, assumption (refl, tt), refl))
    (None, record { steps = steps_of 17; path = assumption (refl, tt); last = refl; value = refl }) (λ i low high. absurd (omega arith))

-- so has the second
second_ended : Ended (threads_of branching) both 18
unfolding start_of steps_after trace own BeginsIn IsPath next_spot event_at here_at temp_of calls_in call_of frame_end base_of words_in
second_ended =
    let main = root_start branching in
    ended 18 (start_of branching both 18) (main, (refl, refl), (steps_after branching.code main before, assumption (refl, tt), refl))
    (None, record { steps = steps_of 18; path = assumption (refl, tt); last = refl; value = refl }) (λ i low high. absurd (omega arith))

-- so have all
branches_ended : (i : ℕ) → 0 < i → i ≤ 2 → Ended (threads_of branching) both (16 * 1 + i)
branches_ended zero low high = absurd (omega (arith, low))
branches_ended (suc zero) low high = first_ended
branches_ended (suc (suc zero)) low high = second_ended
branches_ended (suc (suc (suc i))) low high = absurd (omega (arith, high))

-- main is next, and reads behind the join
joined_next : IsNext (threads_of branching) both 1 (root_start branching) (record { point = record { fun = 0; at = 9 }; op = read 2 17; room = 32767 })
unfolding start_of steps_after trace own BeginsIn IsPath next_spot event_at here_at temp_of calls_in call_of frame_end base_of words_in
joined_next = record {
  begins = (refl, refl);
  wants = record { steps = steps_of 1; path = assumption (refl, tt); point = refl; event = refl; room = refl };
  joined = branches_ended;
}
