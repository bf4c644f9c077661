use Rattle.std.proofs.Common.{sym}
use Rattle.commit_flush_spec.specs.Causes.{NoFrame, NotNow}
use Rattle.commit_flush_spec.specs.Older.{committed}
use Rattle.commit_flush_spec.specs.Dataflow.{can_fire}
use Rattle.commit_flush.proofs.FrameFacts.{none_asked}
use Rattle.commit_flush.proofs.AskFacts.{told, same_blocks}
use Rattle.commit_flush.proofs.window.Window.can_fire.Goals as goal

pub can_fire-requires : goal.can_fire-requires
can_fire-requires c = record { block = same_blocks _ _ _ c.image.ensures.value c.in-Some.ensures.block }

pub returns-in-None : goal.returns-in-None
returns-in-None c =
    let w = c.args.self.now.window in
    sym (none_asked (NotNow NoFrame) (can_fire c.args.slot) c.args.frame w.frames
    (committed w.state) c.in-None.ensures.found)

pub returns-in-Some : goal.returns-in-Some
returns-in-Some c =
    let w = c.args.self.now.window in
    told (NotNow NoFrame) (can_fire c.args.slot) c.args.frame w.frames
    (committed w.state) _ _ _ _ c.image.ensures.value
    c.in-Some.ensures.found c.can_fire.ensures.value
