use Rattle.std.proofs.Common.{◌≤◌, ◌-◌, length}
use Rattle.block_check.specs.inside.PartOrder.{PartOrder, Counting}
use Rattle.block_check.proofs.order.follow.Given as goal

abbrev pub invariant-loop-head : goal.invariant-loop-head
invariant-loop-head l = record {
  placing : PartOrder l.nodes l.ranks l.order l.placed;
  counting : Counting l.nodes l.ranks l.counts;
  more : l.before ≤ l.placed;
  within : l.head ≤ l.placed;
}

abbrev pub decreases-loop-head : goal.decreases-loop-head
decreases-loop-head l = length l.nodes - l.head
