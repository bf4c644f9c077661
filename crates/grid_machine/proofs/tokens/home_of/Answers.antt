use Rattle.std.proofs.Common.{ap, ◌∙◌}
use Rattle.grid_cycle_spec.specs.Stations.{home}
use Rattle.grid_machine.proofs.ToldFacts.{home_told, no_frame}
use Rattle.grid_machine.proofs.tokens.home_of.Goals as goal

pub returns-in-None-clause-value : goal.returns-in-None-clause-value
returns-in-None-clause-value c = λ f e.
    absurd (no_frame c.args.frame c.args.window.now.window.frames f c.in-None.ensures.value e)

pub returns-in-Some-clause-value : goal.returns-in-Some-clause-value
returns-in-Some-clause-value c = λ f e.
    home_told c.args.frame c.args.window.now.window.frames c.in-Some.held.now c.in-Some.block.now
    c.in-Some.ensures.value f e c.args.place _
    (c.home.ensures.value ∙ ap (home c.in-Some.block.now) c.target_of.ensures.value)
