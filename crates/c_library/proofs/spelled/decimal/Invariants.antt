use Rattle.std.proofs.Common.{◌≡◌, ◌<◌, length}
use Rattle.c_library.specs.Spelled.{decimal}
use Rattle.c_library.proofs.spelled.decimal.Given as goal

abbrev pub invariant-loop-rest : goal.invariant-loop-rest
invariant-loop-rest l = record {
  value : decimal 0 l.fn.digits ≡ decimal l.value l.rest;
  small : l.value < 2147483648;
}

abbrev pub decreases-loop-rest : goal.decreases-loop-rest
decreases-loop-rest l = length l.rest
