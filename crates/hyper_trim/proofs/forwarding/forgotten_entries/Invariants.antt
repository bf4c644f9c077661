use Rattle.std.proofs.Common.{◌≡◌, map, take}
use Rattle.hyper_trim.specs.inside.Entries.{forgotten}
use Rattle.hyper_trim.proofs.forwarding.forgotten_entries.Given as goal

abbrev pub invariant-loop-e : goal.invariant-loop-e
invariant-loop-e l = l.all ≡ map (forgotten l.to) (take l.e-index l.entries)
