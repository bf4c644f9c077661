use Rattle.commit_flush_spec.specs.Causes.{NoFrame, NotNow}
use Rattle.commit_flush_spec.specs.Memory.{can_load}
use Rattle.frame_state.specs.inside.Held.{running}
use Rattle.frame_state.specs.inside.Phases.{frame_in}
use Rattle.frame_state.proofs.PhaseFacts.{asked}
use Rattle.frame_state.proofs.answers.can_load.Goals as goal

pub returns-in-Some : goal.returns-in-Some
returns-in-Some c = record {
  value = λ o. asked (NotNow NoFrame) (can_load c.args.number) o (frame_in c.args.image.now.blocks c.args.phase.now)
      (running c.in-Some.block.now c.in-Some.held.now) _ c.in-Some.ensures.value (c.load_answer.ensures o);
}
