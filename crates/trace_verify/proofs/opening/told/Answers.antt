use Rattle.std.proofs.Common.{ap, ◌∙◌}
use Rattle.trace_verify.specs.declared.parts.Stage.{Stage}
use Rattle.trace_verify.specs.Verdicts.{verdict_at}
use Rattle.trace_verify.specs.inside.Verifying.{progress_of, place_of, rest_from}
use Rattle.trace_verify.proofs.Holding.{cut_at}
use Rattle.trace_verify.proofs.opening.told.Goals as goal

pub returns-in-Slot : goal.returns-in-Slot
returns-in-Slot c = record {
  value = ap (λ (t : Stage). verdict_at (progress_of c.args.parts.now) (place_of c.args.parts.now t)) c.in-Slot.is
      ∙ cut_at (progress_of c.args.parts.now) c.args.parts.now.exit (rest_from c.args.parts.now c.in-Slot.field-0);
}
