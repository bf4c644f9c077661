use Rattle.std.proofs.Common.{◌≡◌, ◌+◌, ◌-◌, ◌≤◌, drop, length}
use Rattle.commit_flush_spec.specs.Dropping.{untouched}
use Rattle.lsq_order.specs.inside.Reached.{reached}
use Rattle.commit_flush.proofs.window.Window.left_from.Given as goal

abbrev pub invariant-loop-a : goal.invariant-loop-a
invariant-loop-a l = record {
  within : l.a ≤ length l.self.window.frames;
  left : l.from + untouched (reached l.initial.reach) (drop l.from l.self.window.frames)
      ≡ l.a + untouched (reached l.reach) (drop l.a l.self.window.frames);
}

abbrev pub decreases-loop-a : goal.decreases-loop-a
decreases-loop-a l = length l.self.window.frames - l.a
