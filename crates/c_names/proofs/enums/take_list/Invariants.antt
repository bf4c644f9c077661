use Rattle.std.proofs.Common.{◌≡◌, [], length}
use Rattle.c_names.specs.Enums.{listed}
use Rattle.c_names.specs.Values.{first}
use Rattle.c_names.proofs.enums.take_list.Given as goal

abbrev pub invariant-loop-rest : goal.invariant-loop-rest
invariant-loop-rest l =
    listed l.fn.scope first [] l.fn.tokens ≡ listed l.scope l.next l.forms l.rest

abbrev pub decreases-loop-rest : goal.decreases-loop-rest
decreases-loop-rest l = length l.rest
