use Rattle.trips_isa.specs.declared.block.Spot.TheVariants as spot
use Rattle.trips_isa.specs.Blocks.{stored_by}
use Rattle.trips_isa.proofs.ProducerLemmas.{first_producer}
use Rattle.trips_isa.proofs.law.first_producers_give.Goals as goal

pub returns-clause-token : goal.returns-clause-token
returns-clause-token c = λ b g s p. first_producer b s g p

pub returns-clause-store : goal.returns-clause-store
returns-clause-store c = λ b g n. first_producer b (spot.Store n) (stored_by b g) tt
