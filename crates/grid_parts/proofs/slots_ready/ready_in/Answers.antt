use Rattle.std.proofs.Common.{◌==◌, ◌&&◌, ap, ◌∙◌, arith}
use Rattle.grid_cycle_spec.specs.Stations.{tile_of}
use Rattle.grid_cycle_spec.specs.Choosing.{slots}
use Rattle.grid_parts.specs.inside.EldestChoices.{is_on}
use Rattle.grid_parts.specs.inside.Choices.{may_fire}
use Rattle.grid_parts.proofs.LeastFacts.{slots_are, least_agrees}
use Rattle.grid_parts.proofs.slots_ready.ready_in.Goals as goal

pub returns-clause-value : goal.returns-clause-value
returns-clause-value g c =
    let w = g.V.Windows.held c.args.window.now in
    c.lowest_on.ensures.value
    ∙ least_agrees (is_on c.ready.result c.args.tile)
    (may_fire (g.V.Windows.blocks c.args.window.now)
    (g.V.Windows.budget c.args.window.now) w c.args.tile c.args.frame)
    slots 0
    (λ s from below. let few = slots_are in
    ap (λ b. (tile_of s == c.args.tile) && b) (c.ready.ensures s (omega (arith, few))))
