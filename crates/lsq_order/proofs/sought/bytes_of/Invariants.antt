use Rattle.std.proofs.Common.{◌≡◌, ◌<◌, ◌^◌, None, slice_index}
use Rattle.trips_isa.specs.Stores.{bytes_seen}
use Rattle.lsq_order.proofs.sought.bytes_of.Given as goal

abbrev pub invariant-loop-k : goal.invariant-loop-k
invariant-loop-k l = record {
  small : l.bytes < 256 ^ l.k;
  seen : l.bytes ≡ bytes_seen (λ n. None) (λ a. slice_index l.memory a) 0 l.address l.k;
}
