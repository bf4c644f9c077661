use Rattle.std.proofs.Common.{◌≡◌, drop}
use Rattle.flow_fold.specs.inside.Sweeps as sweeps
use Rattle.flow_fold.proofs.sweeping.takes_all.Given as goal

abbrev pub invariant-loop-r : goal.invariant-loop-r
invariant-loop-r l = sweeps.takes_all l.block (drop l.r-index l.reads) ≡ sweeps.takes_all l.block l.reads
