use Rattle.std.proofs.Common.{◌≡◌, drop}
use Rattle.predication.specs.inside.Emits.{env_of}
use Rattle.predication.proofs.naming.entry_of.Given as goal

abbrev pub invariant-loop-named : goal.invariant-loop-named
invariant-loop-named l = env_of (drop l.named-index l.entries) l.register ≡ env_of l.entries l.register
