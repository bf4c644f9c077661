use Rattle.std.proofs.Common.{◌≡◌, ◌+◌, ◌-◌, length, false, cond}
use Rattle.block_check.specs.inside.PartOrder.{PartOrder, AllStuck, Counting}
use Rattle.block_check.proofs.order.place_all.Given as goal

abbrev pub invariant-loop-changed : goal.invariant-loop-changed
invariant-loop-changed l = record {
  placing : PartOrder l.nodes l.ranks l.order l.placed;
  counting : Counting l.nodes l.ranks l.counts;
  stuck : l.changed ≡ false → AllStuck l.nodes l.ranks (length l.nodes);
}

abbrev pub decreases-loop-changed : goal.decreases-loop-changed
decreases-loop-changed l = (length l.nodes - l.placed) + cond l.changed 1 0
