use Rattle.std.proofs.Common.{◌≡◌, ◌+◌, ◌*◌, ◌++◌, length, map, take}
use Rattle.smt_mode.proofs.network.add_frames.Given as goal

abbrev pub invariant-loop-i : goal.invariant-loop-i
invariant-loop-i l = record {
  value : l.order.items ≡ l.initial.order.items ++ map (λ n. 2 * l.program + n) (take l.i l.frames);
  size : length l.order.items ≡ length l.initial.order.items + l.i;
}
