use Rattle.std.proofs.Common.{sym}
use Rattle.commit_flush_spec.specs.Causes.{NoFrame, NotNow}
use Rattle.commit_flush_spec.specs.Older.{committed}
use Rattle.commit_flush_spec.specs.Memory.{can_load}
use Rattle.commit_flush.proofs.FrameFacts.{none_asked}
use Rattle.commit_flush.proofs.AskFacts.{told, same_blocks}
use Rattle.commit_flush.proofs.window.Window.can_load.Goals as goal

pub can_load-requires : goal.can_load-requires
can_load-requires c = record { block = same_blocks _ _ _ c.image.ensures.value c.in-Some.ensures.block }

pub returns-in-None : goal.returns-in-None
returns-in-None c =
    let w = c.args.self.now.window in
    sym (none_asked (NotNow NoFrame) (can_load c.args.number) c.args.frame w.frames
    (committed w.state) c.in-None.ensures.found)

pub returns-in-Some : goal.returns-in-Some
returns-in-Some c =
    let w = c.args.self.now.window in
    told (NotNow NoFrame) (can_load c.args.number) c.args.frame w.frames
    (committed w.state) _ _ _ _ c.image.ensures.value
    c.in-Some.ensures.found c.can_load.ensures.value
