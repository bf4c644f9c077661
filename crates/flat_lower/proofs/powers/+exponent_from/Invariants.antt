use Rattle.flat_lower.proofs.powers.+exponent_from.Given as goal

abbrev pub decreases-exponent_from : goal.decreases-exponent_from
decreases-exponent_from l = l.left
