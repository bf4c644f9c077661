use Rattle.std.proofs.Common.{◌≡◌, take, map, ◌++◌, length, ◌+◌}
use Rattle.block_cases.specs.Blocks.{read_node, inst_nodes}
use Rattle.block_check.proofs.nodes.make_nodes.Given as goal

abbrev pub invariant-loop-i : goal.invariant-loop-i
invariant-loop-i l = record {
  items : l.nodes.items ≡ map read_node (take l.i l.reads);
  size :
      length l.nodes.items ≡ l.i;
}

abbrev pub invariant-loop-j : goal.invariant-loop-j
invariant-loop-j l = record {
  items : l.nodes.items ≡ map read_node l.block.reads.items ++
      inst_nodes 0 (take l.j l.block.insts.items);
  size : length l.nodes.items ≡ length l.block.reads.items + l.j;
}
