use Rattle.std.proofs.Common.{ap, ◌∙◌}
use Rattle.commit_flush_spec.specs.Causes.{NoFrame, NotNow}
use Rattle.commit_flush_spec.specs.Dataflow.{can_fire}
use Rattle.commit_flush_spec.specs.InFlight.{on_frame}
use Rattle.commit_flush_spec.specs.Older.{committed}
use Rattle.commit_flush_spec.specs.Window.{unless_over}
use Rattle.grid_cycle_spec.specs.Acting.{is_done}
use Rattle.grid_machine.proofs.WordFacts.{no_bit}
use Rattle.grid_machine.proofs.ready.ready.Goals as goal

pub returns-in-Went : goal.returns-in-Went
returns-in-Went c = λ s l.
    let w = c.args.window.now.window in
    c.ready_going.ensures s l
    ∙ ap (λ o. is_done (unless_over o
    (on_frame (NotNow NoFrame) (can_fire s) (committed w.state) w.frames c.args.frame)))
    c.in-Went.ensures.value

pub returns-in-Ended : goal.returns-in-Ended
returns-in-Ended c = λ s l.
    let w = c.args.window.now.window in
    no_bit s
    ∙ ap (λ o. is_done (unless_over o
    (on_frame (NotNow NoFrame) (can_fire s) (committed w.state) w.frames c.args.frame)))
    c.in-Ended.ensures.value

pub returns-in-StackFull : goal.returns-in-StackFull
returns-in-StackFull c = λ s l.
    let w = c.args.window.now.window in
    no_bit s
    ∙ ap (λ o. is_done (unless_over o
    (on_frame (NotNow NoFrame) (can_fire s) (committed w.state) w.frames c.args.frame)))
    c.in-StackFull.ensures.value

pub returns-in-Trap : goal.returns-in-Trap
returns-in-Trap c = λ s l.
    let w = c.args.window.now.window in
    no_bit s
    ∙ ap (λ o. is_done (unless_over o
    (on_frame (NotNow NoFrame) (can_fire s) (committed w.state) w.frames c.args.frame)))
    c.in-Trap.ensures.value
