use Rattle.grid_cycle.specs.Engines.{blocks_of}
use Rattle.grid_cycle.proofs.StepFacts.{steps}
use Rattle.grid_cycle.proofs.moving.keeps_steps.Goals as goal

pub returns : goal.returns
returns g c = record {
  steps = let x = c.args.parts.now in
      steps (blocks_of x) c.keeps_invariant.ensures.blocks x.window.budget x.window.window
      c.keeps_invariant.ensures.window c.requires.engine.kept.rests;
}
