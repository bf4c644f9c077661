use Rattle.std.proofs.Common.{◌≡◌, drop}
use Rattle.commit_flush_spec.specs.Window.{Window}
use Rattle.grid_parts.specs.Seen.{seen}
use Rattle.grid_parts.specs.inside.Changes.{forget_each}
use Rattle.grid_parts.proofs.state.State.forget_all.Given as goal

abbrev pub invariant-loop-n : goal.invariant-loop-n
invariant-loop-n g l = record {
  change : (w : Window) → forget_each (drop l.n l.gone) (seen w l.self) ≡ forget_each l.gone (seen w l.initial.self);
  counts : l.self.counts ≡ l.initial.self.counts;
}
