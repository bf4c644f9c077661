use Rattle.std.proofs.Common.{◌≡◌, drop}
use Rattle.hyper_trim.specs.inside.Entries.{from, copies_of}
use Rattle.hyper_trim.proofs.forwarding.source_of.Given as goal

abbrev pub invariant-loop-e : goal.invariant-loop-e
invariant-loop-e l = from l.source (drop l.e-index l.entries) l.r ≡ copies_of l.entries l.r
