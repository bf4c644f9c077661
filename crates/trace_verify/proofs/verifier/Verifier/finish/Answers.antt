use Rattle.std.proofs.Common.{ap}
use Rattle.trace_verify.specs.declared.parts.Parts.{Parts}
use Rattle.trace_verify.specs.inside.Verifying.{reading_of, place_of}
use Rattle.trace_verify.proofs.Relations.{stopped_faults}
use Rattle.trace_verify.proofs.verifier.Verifier.finish.Goals as goal

pub returns-in-Err-clause-stays : goal.returns-in-Err-clause-stays
returns-in-Err-clause-stays c = λ bytes. stopped_faults c.go.new.parts.image.blocks c.go.new.parts.budget
    (reading_of c.go.new.parts) c.in-Err.fault (ap (λ (p : Parts). place_of p p.stage) c.go.ensures.parts) bytes
