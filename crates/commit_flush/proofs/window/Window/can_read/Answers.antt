use Rattle.std.proofs.Common.{ap, sym, ◌∙◌, subst}
use Rattle.trips_isa.specs.declared.block.Image.{Image}
use Rattle.commit_flush_spec.specs.Causes.{NoFrame, NotNow}
use Rattle.commit_flush_spec.specs.Older.{committed}
use Rattle.commit_flush_spec.specs.inside.Numbered.{seen_at}
use Rattle.commit_flush_spec.specs.Dataflow.{can_read}
use Rattle.frame_state.specs.inside.Changes.{IsSeen}
use Rattle.frame_state.specs.inside.Phases.{answered, frame_in}
use Rattle.commit_flush.proofs.FrameFacts.{none_asked}
use Rattle.commit_flush.proofs.AskFacts.{asked, same_blocks}
use Rattle.commit_flush.proofs.LookFacts.{seen_word}
use Rattle.commit_flush.proofs.window.Window.can_read.Goals as goal

pub can_read-requires : goal.can_read-requires
can_read-requires c = record { block = same_blocks _ _ _ c.image.ensures.value c.in-Some.ensures.block }

pub returns-in-None : goal.returns-in-None
returns-in-None c =
    let w = c.args.self.now.window in
    sym (none_asked (NotNow NoFrame) (can_read c.args.read) c.args.frame w.frames (committed w.state)
    c.in-None.ensures.found)

pub returns-in-Some : goal.returns-in-Some
returns-in-Some c =
    let w = c.args.self.now.window in
    let p = c.in-Some.phase.now in
    let o = seen_at (committed w.state) w.frames c.args.frame in
    asked (NotNow NoFrame) (can_read c.args.read) c.args.frame w.frames
    (committed w.state) _ _ c.in-Some.ensures.found
    (c.can_read.ensures.value o
    (subst (λ (i : Image). IsSeen o c.args.read c.word_of.result (frame_in i.blocks p)) (sym c.image.ensures.value)
    (seen_word o c.args.read c.word_of.result c.args.frame w.frames _ c.in-Some.ensures.found c.word_of.ensures))
    ∙ ap (λ (i : Image). answered (NotNow NoFrame) (can_read c.args.read) o (frame_in i.blocks p))
    c.image.ensures.value)
