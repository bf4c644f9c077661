use Rattle.std.proofs.Common.{◌≡◌}
use Rattle.ir_forms.specs.inside.HyperCode.{Items}
use Rattle.ir_forms.specs.inside.HyperViews.{items_of}
use Rattle.loop_unroll.specs.inside.Unrolled.{before, holding, held}
use Rattle.loop_unroll.proofs.holding.held.Given as goal

abbrev pub decreases-loop-register : goal.decreases-loop-register
decreases-loop-register l = l.register

-- with the registers below, all are held
abbrev pub invariant-loop-register : goal.invariant-loop-register
invariant-loop-register l =
    (k : Items) → before (items_of l.all) (holding (items_of l.items) l.register k) ≡ held (items_of l.items) k
