use Rattle.std.proofs.Common.{drop}
use Rattle.flat_lower.proofs.EmitLabels.{LabelsSoFar}
use Rattle.flat_lower.proofs.labels.put_labels.Given as goal

abbrev pub invariant-loop-label : goal.invariant-loop-label
invariant-loop-label l = LabelsSoFar l.held l.n l.labels (drop l.label-index l.labels) l.fn.code l.code
