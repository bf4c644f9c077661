use Rattle.std.proofs.Common.{◌≡◌, ◌≤◌, take}
use Rattle.commit_flush_spec.specs.Older.{after_all, committed}
use Rattle.lsq_order.specs.inside.Taking.{IsSought, taken}
use Rattle.commit_flush.proofs.window.Window.seek_older.Given as goal

abbrev pub invariant-loop-end : goal.invariant-loop-end
invariant-loop-end l = record {
  sound : IsSought l.sought;
  within : l.end ≤ l.age;
  taken : taken l.sought (after_all (take l.end l.self.window.frames) (committed l.self.window.state)).memory
      ≡ taken l.fn.sought (after_all (take l.age l.self.window.frames) (committed l.self.window.state)).memory;
}

abbrev pub decreases-loop-end : goal.decreases-loop-end
decreases-loop-end l = l.end
