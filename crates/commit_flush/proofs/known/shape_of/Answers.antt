use Rattle.std.proofs.Common.{◌∙◌, ap, subst, slice_get}
use Rattle.commit_flush.specs.inside.Known.{IsKnown}
use Rattle.commit_flush.proofs.known.shape_of.Goals as goal

pub returns-then-known-number : goal.returns-then-known-number
returns-then-known-number c = λ blocks b k e.
    subst (IsKnown blocks) c.in-Some.is k b (ap (slice_get blocks) c.if-known-number.true ∙ e)
