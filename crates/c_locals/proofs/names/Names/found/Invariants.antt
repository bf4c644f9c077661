use Rattle.std.proofs.Common.{◌≡◌, length}
use Rattle.std.specs.Prelude.{option_map}
use Rattle.c_locals.specs.Names.{found}
use Rattle.c_locals.proofs.NameFacts.{latest}
use Rattle.c_locals.proofs.names.Names.found.Given as goal

abbrev pub invariant-loop-rest : goal.invariant-loop-rest
invariant-loop-rest l = found l.fn.name l.fn.self ≡ latest l.name l.rest (option_map (λ w. w.now) l.latest)

abbrev pub decreases-loop-rest : goal.decreases-loop-rest
decreases-loop-rest l = length l.rest
