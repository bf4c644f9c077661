use Rattle.std.proofs.Common.{sym, ◌∙◌}
use Rattle.commit_flush.proofs.PhaseFacts.{none_flies}
use Rattle.commit_flush.proofs.window.Window.youngest.Goals as goal

pub returns-then-count-eq0-clause-found : goal.returns-then-count-eq0-clause-found
returns-then-count-eq0-clause-found c = none_flies _ (sym c.in_flight-count.ensures.value ∙ c.if-count-eq0.true)
