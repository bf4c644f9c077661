use Rattle.flow_fold.specs.inside.Replaces.{Replaces}
use Rattle.flow_fold.proofs.striding.stride.Given as goal

abbrev pub invariant-loop-j : goal.invariant-loop-j
invariant-loop-j l = Replaces l.fn.block l.now
