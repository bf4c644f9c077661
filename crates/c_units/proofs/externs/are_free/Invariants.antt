use Rattle.std.proofs.Common.{◌≡◌}
use Rattle.std.specs.Prelude.{option_map}
use Rattle.c_locals.specs.Brackets.{pieces, further_pieces}
use Rattle.c_locals.proofs.SplitFacts.{left}
use Rattle.c_units.specs.Externs.{are_free}
use Rattle.c_units.proofs.externs.are_free.Given as goal

abbrev pub invariant-loop-rest : goal.invariant-loop-rest
invariant-loop-rest l =
    are_free l.fn.before (pieces l.fn.tokens)
    ≡ are_free l.fn.before (further_pieces (option_map (λ more. more.now) l.rest))

abbrev pub decreases-loop-rest : goal.decreases-loop-rest
decreases-loop-rest l = left (option_map (λ more. more.now) l.rest)
