use Rattle.std.proofs.Common.{◌≡◌, drop}
use Rattle.reg_assign.specs.inside.Pass as pass
use Rattle.reg_assign.proofs.sets.with_read.Given as goal

abbrev pub invariant-loop-x : goal.invariant-loop-x
invariant-loop-x l = pass.with_read l.all (drop l.x-index l.args) ≡ pass.with_read l.set l.args
