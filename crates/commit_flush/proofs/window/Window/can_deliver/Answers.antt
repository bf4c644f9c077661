use Rattle.std.proofs.Common.{sym}
use Rattle.commit_flush_spec.specs.Causes.{NoToken, NotNow}
use Rattle.commit_flush_spec.specs.Older.{committed}
use Rattle.commit_flush_spec.specs.Dataflow.{can_deliver}
use Rattle.commit_flush.proofs.FrameFacts.{none_asked}
use Rattle.commit_flush.proofs.AskFacts.{told, same_blocks}
use Rattle.commit_flush.proofs.window.Window.can_deliver.Goals as goal

pub can_deliver-requires : goal.can_deliver-requires
can_deliver-requires c = record { block = same_blocks _ _ _ c.image.ensures.value c.in-Some.ensures.block }

pub returns-in-None : goal.returns-in-None
returns-in-None c =
    let w = c.args.self.now.window in
    sym (none_asked (NotNow NoToken) (can_deliver c.args.place) c.args.frame w.frames
    (committed w.state) c.in-None.ensures.found)

pub returns-in-Some : goal.returns-in-Some
returns-in-Some c =
    let w = c.args.self.now.window in
    told (NotNow NoToken) (can_deliver c.args.place) c.args.frame w.frames
    (committed w.state) _ _ _ _ c.image.ensures.value
    c.in-Some.ensures.found c.can_deliver.ensures.value
