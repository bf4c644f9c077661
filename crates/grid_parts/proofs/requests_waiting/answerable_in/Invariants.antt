use Rattle.std.proofs.Common.{◌-◌}
use Rattle.commit_flush_spec.specs.Frames.{numbers}
use Rattle.grid_cycle_spec.specs.DataTiles.{answers_request}
use Rattle.grid_parts.specs.Seen.{seen}
use Rattle.grid_parts.specs.inside.Asked.{frame_of, holds_of}
use Rattle.grid_parts.proofs.LeastFacts.{NoneWithin}
use Rattle.grid_parts.proofs.requests_waiting.answerable_in.Given as goal

abbrev pub invariant-loop-number : goal.invariant-loop-number
invariant-loop-number g l = NoneWithin
    (λ k. holds_of (λ f. answers_request (seen (g.V.Windows.held l.window) l.state) l.tile f k)
    (frame_of l.frame (g.V.Windows.held l.window).frames)) numbers l.number

abbrev pub decreases-loop-number : goal.decreases-loop-number
decreases-loop-number g l = 32 - l.number
