use Rattle.std.proofs.Common.{◌≡◌, ◌++◌, take}
use Rattle.std.specs.List.{flat_map}
use Rattle.trips_messages.specs.Messages.{under}
use Rattle.trips_messages.proofs.marked.put_under.Given as goal

-- what stands under those so far is written
abbrev pub invariant-loop-b : goal.invariant-loop-b
invariant-loop-b l = l.out.items ≡ l.initial.out.items ++ flat_map under (take l.b-index l.front)
