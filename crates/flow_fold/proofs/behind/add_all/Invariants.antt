use Rattle.std.proofs.Common.{◌≡◌, ◌++◌, drop}
use Rattle.flow_fold.proofs.behind.add_all.Given as goal

abbrev pub invariant-loop-s : goal.invariant-loop-s
invariant-loop-s l = l.out ++ drop l.s-index l.sources ≡ l.fn.out ++ l.sources
