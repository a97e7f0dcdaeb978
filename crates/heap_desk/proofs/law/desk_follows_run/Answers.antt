use Rattle.heap_desk.proofs.Beside.{starts_run, take_answers_new, no_room_stops_new, give_answers_free, next_answers_in, left_answers_left, others_leave_desk}
use Rattle.heap_desk.proofs.law.desk_follows_run.Goals as goal

pub returns-clause-start : goal.returns-clause-start
returns-clause-start c = starts_run

pub returns-clause-take : goal.returns-clause-take
returns-clause-take c = take_answers_new

pub returns-clause-no_room : goal.returns-clause-no_room
returns-clause-no_room c = no_room_stops_new

pub returns-clause-give : goal.returns-clause-give
returns-clause-give c = give_answers_free

pub returns-clause-next : goal.returns-clause-next
returns-clause-next c = next_answers_in

pub returns-clause-left : goal.returns-clause-left
returns-clause-left c = left_answers_left

pub returns-clause-others : goal.returns-clause-others
returns-clause-others c = others_leave_desk
