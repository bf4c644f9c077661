use Rattle.std.proofs.Common.{◌≡◌, []}
use Rattle.std.specs.Prelude.{option_map}
use Rattle.c_locals.specs.Brackets.{pieces, further_pieces}
use Rattle.c_locals.proofs.SplitFacts.{left}
use Rattle.c_units.specs.Entries.{entries_from}
use Rattle.c_units.proofs.entries.entries.Given as goal

abbrev pub invariant-loop-rest : goal.invariant-loop-rest
invariant-loop-rest l =
    entries_from 0 [] (pieces l.fn.values)
    ≡ entries_from l.index l.out (further_pieces (option_map (λ more. more.now) l.rest))

abbrev pub decreases-loop-rest : goal.decreases-loop-rest
decreases-loop-rest l = left (option_map (λ more. more.now) l.rest)
