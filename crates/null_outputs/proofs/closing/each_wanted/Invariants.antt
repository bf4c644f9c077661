use Rattle.std.proofs.Common.{◌≡◌, drop}
use Rattle.null_outputs.specs.inside.Surely as surely
use Rattle.null_outputs.specs.inside.Wants as wanted
use Rattle.null_outputs.proofs.closing.each_wanted.Given as goal

abbrev pub invariant-loop-s : goal.invariant-loop-s
invariant-loop-s l =
    wanted.each_wanted (surely.firm_of l.wants) (drop l.s-index l.sources)
    ≡ wanted.each_wanted (surely.firm_of l.wants) l.sources
