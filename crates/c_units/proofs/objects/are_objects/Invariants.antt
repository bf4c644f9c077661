use Rattle.std.proofs.Common.{◌≡◌}
use Rattle.std.specs.Prelude.{option_map}
use Rattle.c_locals.specs.Brackets.{pieces, further_pieces}
use Rattle.c_locals.proofs.SplitFacts.{left}
use Rattle.c_units.specs.Objects.{are_objects}
use Rattle.c_units.proofs.objects.are_objects.Given as goal

abbrev pub invariant-loop-rest : goal.invariant-loop-rest
invariant-loop-rest l =
    are_objects (pieces l.fn.tokens) ≡ are_objects (further_pieces (option_map (λ more. more.now) l.rest))

abbrev pub decreases-loop-rest : goal.decreases-loop-rest
decreases-loop-rest l = left (option_map (λ more. more.now) l.rest)
