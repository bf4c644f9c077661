use Rattle.frame_state.specs.Events.{as_event}
use Rattle.commit_flush.proofs.DriveFacts.{turn, falls, ends, comes_to, stays_known}
use Rattle.commit_flush.proofs.driving.drive.Goals as goal

pub loop-e-smaller : goal.loop-e-smaller
loop-e-smaller c =
    falls c.args.window.now c.loop-e.window c.event.new.self (as_event c.in-Some.e) c.loop-e.invariant.on
    c.keeps_invariant-in-Some.ensures.blocks c.keeps_invariant-in-Some.ensures.window c.in-Some.ensures.value
    c.event.ensures.window

pub loop-e-preserved : goal.loop-e-preserved
loop-e-preserved c = record {
  on = turn c.args.window.now c.loop-e.window c.event.new.self (as_event c.in-Some.e) c.loop-e.invariant.on
      c.keeps_invariant-in-Some.ensures.blocks c.keeps_invariant-in-Some.ensures.window c.in-Some.ensures.value
      c.event.ensures.window;
  known = stays_known c.loop-e.window c.event.new.self _ c.remember.new.known c.event.ensures.window
      c.remember.ensures;
}

pub returns-clause-driven : goal.returns-clause-driven
returns-clause-driven c =
    ends c.args.window.now c.loop-e.window c.loop-e.invariant.on c.in_default.ensures.value

pub returns-clause-runs : goal.returns-clause-runs
returns-clause-runs c =
    comes_to c.args.window.now c.loop-e.window c.over.result
    (ends c.args.window.now c.loop-e.window c.loop-e.invariant.on c.in_default.ensures.value) c.over.ensures.value
    c.keeps_invariant.ensures.blocks c.keeps_invariant.ensures.window c.requires.generations
