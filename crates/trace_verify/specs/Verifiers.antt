-- A verifier as contracts see it: what further bytes make of it, and what it has answered.
use Rattle.std.specs.Prelude.{◌≡◌, ℕ, List}
use Rattle.trips_isa.specs.declared.block.Block.{Block}
use Rattle.trace_verify.specs.declared.fault.VerifyFault.{VerifyFault}
use Rattle.trace_verify.specs.declared.fault.VerifyFault.TheVariants.{Truncated}
use Rattle.trace_verify.specs.Reading.{Stopped, Reading}
use Rattle.trace_verify.specs.Verdicts.{Completes, FaultsWith}

-- the blocks of an image, how many of them may be run, and how far a trace of its run has come
pub record Verifying : Type 0 where
  pub blocks : List Block
  pub budget : ℕ
  pub reading : Reading

-- these further bytes complete it to a trace of b blocks
abbrev pub CompletesTo : Verifying → List ℕ → ℕ → Type 0
CompletesTo v bytes b = Completes v.blocks v.budget v.reading bytes b

-- with these further bytes this is the first fault
abbrev pub FaultsTo : Verifying → List ℕ → VerifyFault → Type 0
FaultsTo v bytes f = FaultsWith v.blocks v.budget v.reading bytes f

-- it has answered this fault, and answers it for good
abbrev pub HasAnswered : Verifying → VerifyFault → Type 0
HasAnswered v f = v.reading.place ≡ Stopped f

-- a fault of bytes that end too early
abbrev pub IsTruncated : VerifyFault → Type 0
IsTruncated (Truncated at) = Unit {0}
IsTruncated f = ⊥
