use Rattle.std.proofs.Common.{ℕ, ◌||◌, List, ap, ◌∙◌}
use Rattle.predication.specs.inside.Environments.{member}
use Rattle.predication.proofs.ReadLemmas.{noted_last}
use Rattle.predication.proofs.outputs.note.Goals as goal

pub returns : goal.returns
returns c = λ r b.
    ap (λ (x : List ℕ). member r x || b) c.in_ok-push.ensures.ok ∙ noted_last c.args.register c.args.found.now r b
