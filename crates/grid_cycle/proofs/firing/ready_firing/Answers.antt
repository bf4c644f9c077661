use Rattle.std.proofs.Common.{ap}
use Rattle.grid_cycle.specs.Nexts.{fire_of}
use Rattle.grid_cycle.proofs.firing.ready_firing.Goals as goal

pub returns-in-Some : goal.returns-in-Some
returns-in-Some g c = ap fire_of c.in-Some.ensures.value

pub returns-in-None : goal.returns-in-None
returns-in-None g c = ap fire_of c.in-None.ensures.value
