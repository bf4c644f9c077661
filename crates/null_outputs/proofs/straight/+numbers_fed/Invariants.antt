use Rattle.null_outputs.proofs.straight.+numbers_fed.Given as goal

abbrev pub decreases-numbers_fed : goal.decreases-numbers_fed
decreases-numbers_fed l = l.m
