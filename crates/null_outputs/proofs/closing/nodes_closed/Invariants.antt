use Rattle.std.proofs.Common.{◌≡◌, drop}
use Rattle.null_outputs.specs.inside.Surely as surely
use Rattle.null_outputs.specs.inside.Wants as wanted
use Rattle.null_outputs.proofs.closing.nodes_closed.Given as goal

abbrev pub invariant-loop-n : goal.invariant-loop-n
invariant-loop-n l =
    (l.j ≡ l.n-index)
    × (wanted.nodes_closed (surely.sure_of l.block.nodes (surely.firm_of l.firm))
    (surely.firm_of l.wants) l.block l.j (drop l.n-index l.block.nodes)
    ≡ wanted.nodes_closed (surely.sure_of l.block.nodes (surely.firm_of l.firm))
    (surely.firm_of l.wants) l.block 0 l.block.nodes)
