use Rattle.std.proofs.Common.{◌≡◌, ◌≤◌}
use Rattle.block_check.specs.inside.PartOrder.{PartOrder, AllStuck, Counting}
use Rattle.block_check.proofs.order.pass.Given as goal

abbrev pub invariant-loop-x : goal.invariant-loop-x
invariant-loop-x l = record {
  placing : PartOrder l.nodes l.ranks l.order l.placed;
  counting : Counting l.nodes l.ranks l.counts;
  more : l.before ≤ l.placed;
  stuck : l.placed ≡ l.before → AllStuck l.nodes l.ranks l.x;
}
