use Rattle.merge_law.proofs.guests.Steps.{begins, on, halts, forks, branches, ends, left}
use Rattle.merge_law.proofs.guests.Starts.{branch_starts}
use Rattle.merge_law.proofs.guests.Joining.{joins_one, joined_all, stays_left, left_lives, stops_stay}
use Rattle.merge_law.proofs.guests.Tickets.{joins_by_tickets}
use Rattle.merge_law.proofs.guests.Ends.{returning}
use Rattle.merge_law.proofs.law.guests_keep_their_logs.Goals as goal

pub returns-clause-begins : goal.returns-clause-begins
returns-clause-begins c = begins

pub returns-clause-goes_on : goal.returns-clause-goes_on
returns-clause-goes_on c = on

pub returns-clause-stops : goal.returns-clause-stops
returns-clause-stops c = halts

pub returns-clause-forks : goal.returns-clause-forks
returns-clause-forks c = forks

pub returns-clause-branches : goal.returns-clause-branches
returns-clause-branches c = branches

pub returns-clause-starts : goal.returns-clause-starts
returns-clause-starts c = branch_starts

pub returns-clause-tickets : goal.returns-clause-tickets
returns-clause-tickets c = joins_by_tickets

pub returns-clause-joins : goal.returns-clause-joins
returns-clause-joins c = joins_one

pub returns-clause-joined : goal.returns-clause-joined
returns-clause-joined c = joined_all

pub returns-clause-ends : goal.returns-clause-ends
returns-clause-ends c = ends

pub returns-clause-returns : goal.returns-clause-returns
returns-clause-returns c = returning

pub returns-clause-left : goal.returns-clause-left
returns-clause-left c = left

pub returns-clause-left_in_branch : goal.returns-clause-left_in_branch
returns-clause-left_in_branch c = stays_left

pub returns-clause-left_lives : goal.returns-clause-left_lives
returns-clause-left_lives c = left_lives

pub returns-clause-stops_stay : goal.returns-clause-stops_stay
returns-clause-stops_stay c = stops_stay
