use Rattle.flow_guards.proofs.guards.+implies_within.Given as goal

abbrev pub decreases-implies_within : goal.decreases-implies_within
decreases-implies_within l = l.d
