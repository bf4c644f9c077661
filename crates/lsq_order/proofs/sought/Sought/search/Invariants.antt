use Rattle.std.proofs.Common.{◌≡◌, ◌<◌, ◌≤◌, ℕ, get_or}
use Rattle.std.specs.Prelude.{None}
use Rattle.trips_isa.specs.Stores.{byte_seen}
use Rattle.lsq_order.specs.inside.Taking.{IsSought, bit_taken}
use Rattle.lsq_order.proofs.sought.Sought.search.Given as goal

abbrev pub invariant-loop-end : goal.invariant-loop-end
invariant-loop-end l = record {
  sound : IsSought l.sought;
  below : l.end ≤ 32;
  taken : (mem : ℕ → ℕ) (i : ℕ) → i < 64
      → bit_taken l.sought (byte_seen (λ n. get_or l.stores n None) mem l.end) i
      ≡ bit_taken l.fn.self (byte_seen (λ n. get_or l.stores n None) mem l.below) i;
}

abbrev pub decreases-loop-end : goal.decreases-loop-end
decreases-loop-end l = l.end
