use Rattle.std.proofs.Common.{◌≡◌, drop}
use Rattle.ir_forms.specs.inside.HyperViews.{items_of}
use Rattle.loop_unroll.specs.inside.Unrolled as spec
use Rattle.loop_unroll.proofs.turning.+sets.Given as goal

-- those before set nothing of it
abbrev pub invariant-sets-loop-item : goal.invariant-sets-loop-item
invariant-sets-loop-item l =
    spec.sets l.register (items_of (drop l.item-index l.items)) ≡ spec.sets l.register (items_of l.items)
