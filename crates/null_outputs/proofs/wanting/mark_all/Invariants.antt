use Rattle.std.proofs.Common.{◌≡◌, drop}
use Rattle.null_outputs.specs.inside.Wants as wanted
use Rattle.null_outputs.proofs.wanting.mark_all.Given as goal

abbrev pub invariant-loop-s : goal.invariant-loop-s
invariant-loop-s l =
    wanted.mark_all l.wants (drop l.s-index l.sources)
    ≡ wanted.mark_all l.initial.wants l.sources
