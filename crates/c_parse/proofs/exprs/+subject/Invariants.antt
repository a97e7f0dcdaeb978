use Rattle.c_parse.proofs.exprs.+subject.Given as goal

abbrev pub decreases-subject : goal.decreases-subject
decreases-subject l = l.fuel
