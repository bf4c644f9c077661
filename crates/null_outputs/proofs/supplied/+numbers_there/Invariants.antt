use Rattle.null_outputs.proofs.supplied.+numbers_there.Given as goal

abbrev pub decreases-numbers_there : goal.decreases-numbers_there
decreases-numbers_there l = l.m
