use Rattle.std.proofs.Common.{◌≡◌}
use Rattle.ir_forms.specs.inside.HyperViews.{items_of}
use Rattle.loop_unroll.specs.inside.Unrolled.{turns}
use Rattle.loop_unroll.proofs.turning.turns.Given as goal

-- so many turns so far
abbrev pub invariant-loop-copy : goal.invariant-loop-copy
invariant-loop-copy l = items_of l.all ≡ turns l.around.way l.around.test (items_of l.items) l._copy
