use Rattle.std.proofs.Common.{sym}
use Rattle.commit_flush_spec.specs.Causes.{NoFrame, NotNow, Done}
use Rattle.commit_flush_spec.specs.Older.{committed}
use Rattle.commit_flush.proofs.FrameFacts.{none_asked, no_age}
use Rattle.commit_flush.proofs.AskFacts.{aged}
use Rattle.commit_flush.proofs.window.Window.can_flush.Goals as goal

pub returns-in-None : goal.returns-in-None
returns-in-None c =
    let w = c.args.self.now.window in
    sym (none_asked (NotNow NoFrame) (λ o f. Done) c.args.frame w.frames (committed w.state)
    (no_age c.args.frame w.frames (sym c.in-None.ensures.value)))

pub returns-in-Some : goal.returns-in-Some
returns-in-Some c =
    let w = c.args.self.now.window in
    aged (NotNow NoFrame) Done c.args.frame w.frames (committed w.state) _ (sym c.in-Some.ensures.value)
