use Rattle.std.proofs.Common.{◌≡◌, drop}
use Rattle.lsq_order.specs.inside.Reached.{reached}
use Rattle.grid_cycle_spec.specs.DataTiles.{wrong_behind}
use Rattle.grid_machine.proofs.violations.wrong_on.Given as goal

abbrev pub invariant-loop-age : goal.invariant-loop-age
invariant-loop-age l = wrong_behind (reached l.reach) (drop l.age l.window.window.frames)
    ≡ wrong_behind (reached l.initial.reach) (drop l.from l.window.window.frames)
