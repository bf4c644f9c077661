use Rattle.std.proofs.Common.{◌≡◌, ◌++◌, drop}
use Rattle.null_outputs.specs.inside.Surely as surely
use Rattle.null_outputs.specs.inside.Wants as wanted
use Rattle.null_outputs.proofs.numbers.open_stores.Given as goal

abbrev pub invariant-loop-n : goal.invariant-loop-n
invariant-loop-n l =
    l.found
    ++ wanted.open_stores (surely.sure_of l.block.nodes (surely.firm_of l.firm)) l.block
    (drop l.n-index l.block.nodes)
    ≡ wanted.open_stores (surely.sure_of l.block.nodes (surely.firm_of l.firm)) l.block l.block.nodes
