use Rattle.predication.proofs.Resolved.{resolves_labels}
use Rattle.predication.proofs.laws.resolved_labels_are_addresses.Goals as goal

pub returns : goal.returns
returns c = resolves_labels
