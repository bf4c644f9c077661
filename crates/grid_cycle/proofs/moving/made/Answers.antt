use Rattle.std.proofs.Common.{sym, subst, arith}
use Rattle.trips_isa.specs.Machine.{start}
use Rattle.grid_machine.specs.inside.WholeRuns.{IsKept}
use Rattle.grid_cycle.specs.Engines.{blocks_of, grid_of}
use Rattle.grid_cycle.proofs.EngineFacts.{begins}
use Rattle.grid_cycle.proofs.moving.made.Goals as goal

pub returns-clause-engine : goal.returns-clause-engine
returns-clause-engine g c =
    let parts = c.in_ok-parts in
    let same = parts.ensures.budget in
    begins g.W.Weather.next g.W.Weather.follows (blocks_of parts.parts) parts.parts.window.budget
    (start c.args.image.bytes c.args.input.items) c.args.predictor c.args.weather (grid_of parts.parts)
    c.keeps_invariant.ensures.blocks (omega (arith, same)) c.keeps_invariant.ensures.window parts.ensures.begun
    (subst (λ b. IsKept b (grid_of parts.parts)) (sym same) parts.ensures.kept)
