use Rattle.std.proofs.Common.{◌≡◌, ◌<◌, ◌≤◌, ◌-◌, ℕ, false}
use Rattle.commit_flush_spec.specs.Frames.{at}
use Rattle.frame_state.specs.inside.Held.{all_taken}
use Rattle.lsq_order.specs.inside.Reached.{reached, narrowed}
use Rattle.lsq_order.specs.inside.Wrong.{is_wrong}
use Rattle.lsq_order.proofs.reach.Reach.first_wrong.Given as goal

abbrev pub invariant-loop-n : goal.invariant-loop-n
invariant-loop-n l = record {
  onward : l.from ≤ l.n;
  within : l.n ≤ 32;
  reach : (a : ℕ) → reached l.self a ≡ narrowed (at l.stores) l.from l.n (reached l.fn.self) a;
  none : (m : ℕ) → l.from ≤ m → m < l.n
      → is_wrong (at l.stores) (all_taken l.loads) (reached l.fn.self) l.from m ≡ false;
}

abbrev pub decreases-loop-n : goal.decreases-loop-n
decreases-loop-n l = 32 - l.n
