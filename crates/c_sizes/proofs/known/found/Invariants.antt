use Rattle.std.proofs.Common.{◌≡◌, length, reverse}
use Rattle.std.specs.Option.{option_copied}
use Rattle.c_sizes.specs.Scopes.{found}
use Rattle.c_sizes.specs.inside.Latest.{latest}
use Rattle.c_sizes.proofs.known.found.Given as goal

abbrev pub invariant-loop-rest : goal.invariant-loop-rest
invariant-loop-rest l = found l.fn.name (reverse l.fn.entries) ≡ latest l.name l.rest (option_copied l.latest)

abbrev pub decreases-loop-rest : goal.decreases-loop-rest
decreases-loop-rest l = length l.rest
