use Rattle.std.proofs.Common.{◌≡◌, drop}
use Rattle.flow_guards.specs.inside.Unguards.{all_kept, marked}
use Rattle.flow_guards.proofs.judging.all_kept.Given as goal

abbrev pub invariant-loop-x : goal.invariant-loop-x
invariant-loop-x l = all_kept (marked l.marks) (drop l.x-index l.sources) ≡ all_kept (marked l.marks) l.sources
