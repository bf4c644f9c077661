use Rattle.std.proofs.Common.{ap, ◌∙◌}
use Rattle.commit_flush.specs.Seen.{Seen}
use Rattle.grid_parts.specs.Seen.{seen}
use Rattle.grid_machine.proofs.made.make_on.Goals as goal

pub returns-clause-begun : goal.returns-clause-begun
returns-clause-begun g c =
    ap (λ (v : Seen). seen v.window c.in_ok-state.state) c.in_ok-window.ensures.same
    ∙ ap (λ w. seen w c.in_ok-state.state) c.requires.opened
    ∙ c.in_ok-state.ensures c.args.window.window.state
