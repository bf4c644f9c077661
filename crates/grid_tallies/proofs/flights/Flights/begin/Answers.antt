use Rattle.std.proofs.Common.{arith}
use Rattle.grid_tallies.proofs.Adding.{grown}
use Rattle.grid_tallies.proofs.flights.Flights.begin.Goals as goal

pub returns-clause-more : goal.returns-clause-more
returns-clause-more c = λ n.
    grown c.args.self.now.cycles c.args.frames c.more.result 1 (omega arith) c.more.ensures n
