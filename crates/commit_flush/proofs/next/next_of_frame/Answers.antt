use Rattle.std.proofs.Common.{slice_get, ap, ◌∙◌}
use Rattle.frame_state.specs.inside.Held.{running}
use Rattle.commit_flush.proofs.PickFacts.{idle_next, found_next}
use Rattle.commit_flush.proofs.OldestFacts.{code_at, number_oldest}
use Rattle.commit_flush.proofs.next.next_of_frame.Goals as goal

pub next_of_running-requires-clause-number : goal.next_of_running-requires-clause-number
next_of_running-requires-clause-number c =
    let w = c.args.window.now in
    number_oldest w.image.blocks w.budget w.window c.args.frame (running c.in-Some.block.now c.in-Some.held.now)
    c.keeps_invariant.ensures.window c.requires.oldest c.in-Some.ensures.value

pub next_of_running-requires-clause-shape : goal.next_of_running-requires-clause-shape
next_of_running-requires-clause-shape c =
    let w = c.args.window.now in
    c.shape_of-shape.ensures w.image.blocks c.in-Some.block.now c.requires.known
    (ap (slice_get w.image.blocks) c.block.ensures.value
    ∙ code_at w.image.blocks w.budget w.window c.args.frame (running c.in-Some.block.now c.in-Some.held.now)
    c.keeps_invariant.ensures.window c.in-Some.ensures.value)

pub returns-in-None : goal.returns-in-None
returns-in-None c =
    let w = c.args.window.now.window in
    idle_next w.frames w.state c.args.frame c.requires.oldest c.in-None.ensures.value

pub returns-in-Some : goal.returns-in-Some
returns-in-Some c =
    let w = c.args.window.now.window in
    c.next_of_running.ensures w.state
    ∙ found_next w.frames w.state c.args.frame (running c.in-Some.block.now c.in-Some.held.now) c.requires.oldest
    c.in-Some.ensures.value
