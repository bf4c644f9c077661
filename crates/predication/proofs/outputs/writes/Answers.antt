use Rattle.predication.specs.inside.Made.{writes_of}
use Rattle.predication.proofs.outputs.writes.Goals as goal

pub returns : goal.returns
unfolding writes_of
returns c = c.writes_below.ensures
