use Rattle.std.proofs.Common.{◌≡◌, []}
use Rattle.std.specs.Prelude.{option_map}
use Rattle.c_locals.specs.Brackets.{pieces, further_pieces}
use Rattle.c_locals.proofs.SplitFacts.{left}
use Rattle.c_units.specs.Objects.{each_from}
use Rattle.c_units.proofs.objects.each.Given as goal

abbrev pub invariant-loop-rest : goal.invariant-loop-rest
invariant-loop-rest l =
    each_from l.fn.external l.fn.words [] (pieces l.fn.body)
    ≡ each_from l.fn.external l.fn.words l.out (further_pieces (option_map (λ more. more.now) l.rest))

abbrev pub decreases-loop-rest : goal.decreases-loop-rest
decreases-loop-rest l = left (option_map (λ more. more.now) l.rest)
