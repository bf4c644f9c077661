use Rattle.std.proofs.Common.{◌≡◌, ◌+◌, drop}
use Rattle.fan_out.specs.inside.Unplaced as slotless
use Rattle.fan_out.proofs.counts.count_nodes.Given as goal

abbrev pub invariant-loop-j : goal.invariant-loop-j
invariant-loop-j l = l.count + slotless.nodes_counted l.wires l.j (drop l.j l.nodes)
    ≡ slotless.nodes_counted l.wires 0 l.nodes
