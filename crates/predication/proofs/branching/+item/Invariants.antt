use Rattle.std.proofs.Common.{◌≡◌, drop}
use Rattle.ir_forms.specs.inside.HyperViews.{items_of}
use Rattle.predication.specs.inside.Ends.{ends}
use Rattle.predication.proofs.branching.+item.Given as goal

abbrev pub invariant-items-loop-i : goal.invariant-items-loop-i
invariant-items-loop-i l =
    ends l.guard l.work l.names (items_of (drop l.i-index l.items))
    ≡ ends l.guard l.fn.work l.fn.names (items_of l.items)
