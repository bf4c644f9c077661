use Rattle.std.proofs.Common.{◌≡◌, ◌≤◌, ◌-◌, ◌++◌, List, ℕ, option_map}
use Rattle.trace_verify.specs.declared.fault.VerifyFault.{VerifyFault}
use Rattle.trace_verify.specs.Verifiers.{HasAnswered}
use Rattle.trips_trace_answers.proofs.Pieces.{Behind}
use Rattle.trips_trace_answers.proofs.judging.judged_rest.Given as goal

abbrev pub invariant-loop-pieces : goal.invariant-loop-pieces
invariant-loop-pieces g l = record {
  so_far : (read : List ℕ)
      × (g.F.Files.ahead l.fn.files ≡ option_map (λ left. read ++ left) (g.F.Files.ahead l.files))
      × Behind l.fn.verifier l.verifier read;
  fresh : (f : VerifyFault) → HasAnswered l.verifier f → ⊥;
  kept : g.F.Files.held l.files ≡ g.F.Files.held l.fn.files;
  later : g.F.Files.faults l.fn.files ≤ g.F.Files.faults l.files;
}

abbrev pub decreases-loop-pieces : goal.decreases-loop-pieces
decreases-loop-pieces g l = 18446744073709551615 - l.pieces
