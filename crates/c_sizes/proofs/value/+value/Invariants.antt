use Rattle.c_sizes.proofs.value.+value.Given as goal

abbrev pub decreases-value : goal.decreases-value
decreases-value l = l.levels
