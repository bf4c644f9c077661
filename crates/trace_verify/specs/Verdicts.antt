-- What the bytes that a verifier has read come to, and what further bytes make of them.
use Rattle.std.specs.Prelude.{◌≡◌, ℕ, List}
use Rattle.trips_isa.specs.declared.block.Block.{Block}
use Rattle.trace_verify.specs.declared.fault.VerifyFault.{VerifyFault}
use Rattle.trace_verify.specs.declared.fault.VerifyFault.TheVariants.{Truncated}
use Rattle.trace_verify.specs.Reading.{Place, Whole, Stopped, Progress, Reading, feeds}

-- what bytes come to: the trace of so many blocks, or a fault
pub data Verdict : Type 0 where
  Verified : (blocks : ℕ) → Verdict
  Refused : (fault : VerifyFault) → Verdict

-- what all bytes come to where no more follow
abbrev pub verdict_at : Progress → Place → Verdict
verdict_at c Whole = Verified c.count
verdict_at c (Stopped f) = Refused f
verdict_at c p = Refused (Truncated c.at)

abbrev pub verdict : Reading → Verdict
verdict r = verdict_at r.progress r.place

-- these further bytes complete it to a trace of b blocks
abbrev pub Completes : List Block → ℕ → Reading → List ℕ → ℕ → Type 0
Completes blocks budget r bytes b = verdict (feeds blocks budget r bytes) ≡ Verified b

-- with these further bytes this is the first fault
abbrev pub FaultsWith : List Block → ℕ → Reading → List ℕ → VerifyFault → Type 0
FaultsWith blocks budget r bytes f = verdict (feeds blocks budget r bytes) ≡ Refused f
