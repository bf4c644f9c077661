use Rattle.std.proofs.Common.{◌≡◌}
use Rattle.c_locals.specs.Brackets.{pieces, further_pieces}
use Rattle.c_locals.specs.Values.{are_named}
use Rattle.c_locals.proofs.SplitFacts.{left}
use Rattle.std.specs.Prelude.{option_map}
use Rattle.c_locals.proofs.values.are_named.Given as goal

abbrev pub invariant-loop-rest : goal.invariant-loop-rest
invariant-loop-rest l =
    are_named (pieces l.fn.tokens) ≡ are_named (further_pieces (option_map (λ more. more.now) l.rest))

abbrev pub decreases-loop-rest : goal.decreases-loop-rest
decreases-loop-rest l = left (option_map (λ more. more.now) l.rest)
