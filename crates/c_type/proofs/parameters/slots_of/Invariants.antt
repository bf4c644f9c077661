use Rattle.std.proofs.Common.{◌≡◌, map, take}
use Rattle.c_type.specs.States.{slot_of}
use Rattle.c_type.proofs.parameters.slots_of.Given as goal

abbrev pub invariant-loop-param : goal.invariant-loop-param
invariant-loop-param l = map slot_of (take l.param-index l.params) ≡ l.found
