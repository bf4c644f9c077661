-- What was written, by other words for the answers that hold.
use Rattle.std.proofs.Common.{ℕ, List, Option}
use Rattle.trips_requests.specs.declared.status.Status.{Status}
use Rattle.trips_requests.specs.declared.status.Status.TheVariants as status
use Rattle.trips_requests.specs.Table.{IsWritten}

-- where each answer that holds by one relation holds by another, the table over the one is that over the other
pub written_so : (these those : Status → List ℕ → Type 0) (old new : Option (List ℕ)) (cut : Type 0)
    (s : Status) → ((t : Status) (report : List ℕ) → these t report → those t report)
    → IsWritten these old new cut s → IsWritten those old new cut s
written_so these those old new cut status.Memory so w = w
written_so these those old new cut status.WriteFault so w =
    (w.0, (w.1.0, w.1.1, so w.1.0 w.1.1 w.1.2, w.1.3))
written_so these those old new cut status.Ended so w = (w.0, so status.Ended w.0 w.1, w.2)
written_so these those old new cut status.Usage so w = (w.0, so status.Usage w.0 w.1, w.2)
written_so these those old new cut status.ReadFault so w = (w.0, so status.ReadFault w.0 w.1, w.2)
written_so these those old new cut status.Refused so w = (w.0, so status.Refused w.0 w.1, w.2)
written_so these those old new cut status.Budget so w = (w.0, so status.Budget w.0 w.1, w.2)
written_so these those old new cut status.StackFull so w = (w.0, so status.StackFull w.0 w.1, w.2)
written_so these those old new cut status.Trap so w = (w.0, so status.Trap w.0 w.1, w.2)
written_so these those old new cut status.Undefined so w = (w.0, so status.Undefined w.0 w.1, w.2)
written_so these those old new cut status.Aborted so w = (w.0, so status.Aborted w.0 w.1, w.2)
