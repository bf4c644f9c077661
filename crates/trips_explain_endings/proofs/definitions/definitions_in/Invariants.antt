use Rattle.std.proofs.Common.{◌≡◌, take}
use Rattle.trips_explain_endings.specs.Definitions.{definitions_of}
use Rattle.trips_explain_endings.proofs.definitions.definitions_in.Given as goal

-- the offsets of the items so far are written
abbrev pub invariant-loop-item : goal.invariant-loop-item
invariant-loop-item l = l.out.items ≡ definitions_of (take l.item-index l.items)
