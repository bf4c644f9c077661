use Rattle.std.proofs.Common.{◌≡◌, drop}
use Rattle.grid_cycle_spec.specs.DataTiles.{all_resolved}
use Rattle.grid_machine.proofs.older.settled.Given as goal

abbrev pub invariant-loop-age : goal.invariant-loop-age
invariant-loop-age l = all_resolved l.frame l.number (drop l.age l.window.window.frames)
    ≡ all_resolved l.frame l.number l.window.window.frames
