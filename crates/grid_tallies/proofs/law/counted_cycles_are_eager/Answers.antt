use Rattle.grid_tallies.proofs.Adding.{grown}
use Rattle.grid_tallies.proofs.StandardFacts.{mov}
use Rattle.grid_tallies.proofs.Answering.{answer_heard}
use Rattle.grid_tallies.proofs.Turning.{turn_heard}
use Rattle.grid_tallies.proofs.Flushing.{ends_heard}
use Rattle.grid_tallies.proofs.Guessing.{guessed_both}
use Rattle.grid_tallies.proofs.CycleFacts.{counted_eager}
use Rattle.grid_tallies.proofs.RunFacts.{closing_heard}
use Rattle.grid_tallies.proofs.law.counted_cycles_are_eager.Goals as goal

pub returns : goal.returns
returns g c = λ blocks budget x y a b counted.
    counted_eager g.W.Weather.next g.W.Weather.follows blocks budget x y a b counted
