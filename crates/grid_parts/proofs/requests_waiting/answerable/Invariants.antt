use Rattle.std.proofs.Common.{◌≡◌, drop}
use Rattle.grid_parts.specs.Seen.{seen}
use Rattle.grid_parts.specs.inside.EldestChoices.{first_found}
use Rattle.grid_parts.specs.inside.Choices.{lowest_request}
use Rattle.grid_parts.proofs.requests_waiting.answerable.Given as goal

abbrev pub invariant-loop-i : goal.invariant-loop-i
invariant-loop-i g l =
    first_found (lowest_request (seen (g.V.Windows.held l.window) l.state) l.tile) (drop l.i l.order)
    ≡ first_found (lowest_request (seen (g.V.Windows.held l.window) l.state) l.tile) l.order
