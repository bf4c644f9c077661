use Rattle.std.proofs.Common.{◌≡◌, ◌++◌, drop, map}
use Rattle.flat_lower.specs.inside.Objects as objects
use Rattle.flat_lower.specs.inside.Emitted.{starts_from}
use Rattle.flat_lower.proofs.globals.addresses_of.Given as goal

abbrev pub invariant-loop-global : goal.invariant-loop-global
invariant-loop-global l = l.found ++ starts_from l.at
    (map objects.global_bytes (drop l.global-index l.globals))
    ≡ starts_from 0 (map objects.global_bytes l.globals)
