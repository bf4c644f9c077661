use Rattle.std.proofs.Common.{◌≡◌, drop}
use Rattle.null_outputs.specs.inside.Asked as asked
use Rattle.null_outputs.specs.inside.Surely as surely
use Rattle.null_outputs.proofs.surely.any_meets.Given as goal

abbrev pub invariant-loop-s : goal.invariant-loop-s
invariant-loop-s l =
    asked.any_meets l.nodes (surely.firm_of l.firm) l.g (drop l.s-index l.sources)
    ≡ asked.any_meets l.nodes (surely.firm_of l.firm) l.g l.sources
