use Rattle.std.proofs.Common.{◌≡◌, ◌≤◌, ◌+◌, length}
use Rattle.c_locals.specs.Objects.{no_objects_from}
use Rattle.c_locals.proofs.objects.has_no_objects.Given as goal

abbrev pub invariant-loop-rest : goal.invariant-loop-rest
invariant-loop-rest l = record {
  value : no_objects_from 0 l.fn.tokens ≡ no_objects_from l.blocks l.rest;
  few : l.blocks + length l.rest ≤ l.count;
}

abbrev pub decreases-loop-rest : goal.decreases-loop-rest
decreases-loop-rest l = length l.rest
