use Rattle.grid_parts.proofs.AnswerFacts.{goes_now, goes_later}
use Rattle.grid_parts.proofs.requests_waiting.load_may.Goals as goal

pub returns-then-not-must_wait : goal.returns-then-not-must_wait
returns-then-not-must_wait g c = goes_now c.must_wait.result _ _
    (c.must_wait.ensures (g.V.Windows.held c.args.window.now)) c.if-not-must_wait.true

pub returns-else-not-must_wait : goal.returns-else-not-must_wait
returns-else-not-must_wait g c = goes_later c.must_wait.result _ _ c.settled.result
    (c.must_wait.ensures (g.V.Windows.held c.args.window.now)) c.if-not-must_wait.false c.settled.ensures
