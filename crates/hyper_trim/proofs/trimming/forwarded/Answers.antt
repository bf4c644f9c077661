use Rattle.std.proofs.Common.{sym, subst}
use Rattle.ir_forms.specs.inside.HyperViews.{blocks_of}
use Rattle.hyper_trim.specs.inside.Laws.{Trims}
use Rattle.hyper_trim.proofs.Counts.{forwarding_trims}
use Rattle.hyper_trim.proofs.trimming.forwarded.Goals as goal

pub returns : goal.returns
returns c =
    subst (Trims (blocks_of c.args.program)) (sym c.in_ok-blocks.ensures)
    (forwarding_trims (blocks_of c.args.program))
