use Rattle.std.proofs.Common.{◌≡◌, drop}
use Rattle.flow_guards.specs.inside.Unguards.{writes_right, marked}
use Rattle.flow_guards.proofs.judging.writes_right.Given as goal

abbrev pub invariant-loop-w : goal.invariant-loop-w
invariant-loop-w l = writes_right (marked l.marks) (drop l.w-index l.writes) ≡ writes_right (marked l.marks) l.writes
